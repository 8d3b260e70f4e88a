-- Lines, words, numbers and names in a text of bytes.
use Rattle.std.specs.{Prelude.{ℕ, ◌+◌, ◌-◌, ◌*◌, Bool, false, not, ◌&&◌, ◌||◌, ◌==◌, List, [], ◌∷◌, length, filter, Some, None, if◌then◌else◌, nat_le}, declared.option.Option.Option, List.{list_all, slice_split}, Str.bytes_eq}

-- a byte that may stand in the input: 9, 10, 13, and 32 to 126
abbrev pub is_allowed : ℕ → Bool
is_allowed b = b == 9 || (b == 10 || (b == 13 || (nat_le 32 b && nat_le b 126)))

-- a line ends with byte 10
abbrev pub is_line_end : ℕ → Bool
is_line_end b = b == 10

-- the bytes 9, 13 and 32 separate words
abbrev pub is_blank : ℕ → Bool
is_blank b = b == 9 || (b == 13 || b == 32)

-- 0 to 9
abbrev pub is_digit : ℕ → Bool
is_digit b = nat_le 48 b && nat_le b 57

-- A to Z, a to z
abbrev pub is_letter : ℕ → Bool
is_letter b = (nat_le 65 b && nat_le b 90) || (nat_le 97 b && nat_le b 122)

abbrev pub is_not_empty : List ℕ → Bool
is_not_empty xs = not (length xs == 0)

-- The lines of a text: the pieces between bytes 10. An empty last piece is none, but it has no words either, so it is
-- skipped like any other line without words.
abbrev pub lines : List ℕ → List (List ℕ)
lines text = slice_split is_line_end text

-- the words of a line: the pieces between blanks that are not empty
abbrev pub words : List ℕ → List (List ℕ)
words line = filter is_not_empty (slice_split is_blank line)

-- the word has these letters
abbrev pub is_word : List ℕ → List ℕ → Bool
is_word letters word = bytes_eq word letters

-- the number that digits write behind those of n
abbrev pub number_after : ℕ → List ℕ → Option ℕ
number_after n [] = Some n
number_after n (b ∷ bs) = if is_digit b then number_after (n * 10 + (b - 48)) bs else None

-- a number is a word of one to six digits
unfoldable pub number : List ℕ → Option ℕ
number word = if is_not_empty word && nat_le (length word) 6 then number_after 0 word else None

abbrev pub begins_with_letter : List ℕ → Bool
begins_with_letter [] = false
begins_with_letter (b ∷ bs) = is_letter b

-- letters, digits, `_` and `-`
abbrev pub is_name_byte : ℕ → Bool
is_name_byte b = is_letter b || (is_digit b || (b == 95 || b == 45))

-- a name is a word of 1 to 32 letters, digits, `_` and `-` that begins with a letter
abbrev pub is_name : List ℕ → Bool
is_name word = nat_le (length word) 32 && (begins_with_letter word && list_all is_name_byte word)

-- What a line says, by its words. Where it may stand does not matter here.
use Rattle.std.specs.{Prelude.{ℕ, Bool, false, true, ◌&&◌, ◌==◌, List, [], ◌∷◌, Some, None, if◌then◌else◌, codes}, declared.option.Option.Option}
use Rattle.complex_file.specs.{declared.block.Sent.Sent, Text.{is_name, is_word, number}}

-- A word that should be a number and is none leaves None.
pub data Line : Type 0 where
  heading : Line
  prime_line : Option ℕ → Line
  complex_line : List ℕ → Line
  facet_line : Option (List ℕ) → Line
  map_line : List ℕ → List ℕ → List ℕ → Line
  send_line : Option Sent → Line
  end_line : Line
  no_line : Line

abbrev pub with_number : Option ℕ → Option (List ℕ) → Option (List ℕ)
with_number (Some n) (Some ns) = Some (n ∷ ns)
with_number _ _ = None

-- the numbers that all the words are, or None where one is no number
abbrev pub numbers : List (List ℕ) → Option (List ℕ)
numbers [] = Some []
numbers (w ∷ ws) = with_number (number w) (numbers ws)

-- `facet V ..`: at least one vertex
abbrev pub line_of_facet : List (List ℕ) → Line
line_of_facet [] = no_line
line_of_facet (v ∷ vs) = facet_line (numbers (v ∷ vs))

-- `complex NAME`
abbrev pub line_of_complex : List ℕ → Line
line_of_complex name = if is_name name then complex_line name else no_line

-- two words: `comch 1`, `prime P`, `complex NAME`
abbrev pub line_of_two : List ℕ → List ℕ → Line
line_of_two w v = if is_word (codes "comch") w && is_word (codes "1") v then heading
    else (if is_word (codes "prime") w then prime_line (number v)
    else (if is_word (codes "complex") w then line_of_complex v else no_line))

abbrev pub send_of : Option ℕ → Option ℕ → Option Sent
send_of (Some v) (Some w) = Some (record { from = v; to = w })
send_of _ _ = None

-- three words: `send V W`
abbrev pub line_of_three : List ℕ → List ℕ → List ℕ → Line
line_of_three w from to = if is_word (codes "send") w then send_line (send_of (number from) (number to)) else no_line

-- four words: `map NAME FROM TO`
abbrev pub line_of_four : List ℕ → List ℕ → List ℕ → List ℕ → Line
line_of_four w name from to =
    if is_word (codes "map") w && (is_name name && (is_name from && is_name to)) then map_line name from to else no_line

-- any line but `facet`, by the count of its words
abbrev pub line_of_few : List ℕ → List (List ℕ) → Line
line_of_few w [] = if is_word (codes "end") w then end_line else no_line
line_of_few w (v ∷ []) = line_of_two w v
line_of_few w (v ∷ u ∷ []) = line_of_three w v u
line_of_few w (v ∷ u ∷ t ∷ []) = line_of_four w v u t
line_of_few w _ = no_line

abbrev pub line_of : List (List ℕ) → Line
line_of [] = no_line
line_of (w ∷ vs) = if is_word (codes "facet") w then line_of_facet vs else line_of_few w vs

-- the word begins with `#`
abbrev pub begins_with_hash : List ℕ → Bool
begins_with_hash [] = false
begins_with_hash (b ∷ bs) = b == 35

-- a line without words, or whose first word begins with `#`, is skipped
abbrev pub is_skipped : List (List ℕ) → Bool
is_skipped [] = true
is_skipped (w ∷ ws) = begins_with_hash w

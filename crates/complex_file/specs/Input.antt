-- The input: what may stand on each line, what each line adds to the job, and which fault comes first.
use Rattle.std.specs.{Prelude.{ℕ, ◌+◌, List, [], ◌∷◌, ◌++◌, length, Some, None, Ok, Err, Result, if◌then◌else◌, nat_le, nat_lt, count_by}, declared.option.Option.Option, List.list_all}
use Rattle.fp_field.specs.Served.{served}
use Rattle.complex_file.specs.{declared.block.ComplexBlock.ComplexBlock, declared.block.MapBlock.MapBlock, declared.block.Sent.Sent, declared.kind.InputKind.InputKind, declared.kind.InputKind.TheVariants.{TooLong, NotText, BadLine, BadNumber, RepeatedName, UnknownName, Unfinished, TooManyBlocks, OtherPrime}, Text.{is_allowed, is_line_end, lines, words}, Lines.{Line, heading, prime_line, complex_line, facet_line, map_line, send_line, end_line, is_skipped, line_of}, Complexes.{facet_of, unless, with_facet}, Maps.{end_fault, with_send}, Jobs.{block_names, facets_at, has_name, place_of_name}}

-- what the lines spell: a prime, and the complexes and maps in the order of the file
pub record Spelled : Type 0 where
  pub prime : ℕ
  pub complexes : List ComplexBlock
  pub maps : List MapBlock

-- What may stand next: `comch 1`; `prime P`; a block; a facet or the end of a complex; a send or the end of a map.
pub data Place : Type 0 where
  at_start : Place
  at_prime : Place
  between : Spelled → Place
  in_complex : Spelled → ComplexBlock → Place
  in_map : Spelled → MapBlock → Place

-- what a line makes of a place, or the kind of its first fault
abbrev pub Step : Type 0
Step = Result Place InputKind

-- what the second makes of what the first gives
infixl 10 ◌>>=◌
abbrev pub ◌>>=◌ : {A B E : Type 0} → Result A E → (A → Result B E) → Result B E
(Ok x) >>= f = f x
(Err e) >>= f = Err e

-- `prime P` begins a job without blocks
abbrev pub after_prime : Option ℕ → Step
after_prime None = Err BadNumber
after_prime (Some p) = if served p then Ok (between (record { prime = p; complexes = []; maps = [] })) else Err OtherPrime

-- `complex NAME` opens a complex without facets
abbrev pub after_complex : Spelled → List ℕ → Step
after_complex s name = if nat_le 8 (length s.complexes) then Err TooManyBlocks
    else (if has_name (block_names s.complexes s.maps) name then Err RepeatedName
    else Ok (in_complex s (record { name = name; facets = [] })))

-- the complex with these facets
abbrev pub with_facets : Spelled → ComplexBlock → Result (List (List ℕ)) InputKind → Step
with_facets s c (Ok facets) = Ok (in_complex s (record { name = c.name; facets = facets }))
with_facets s c (Err kind) = Err kind

-- the facets with the one that the numbers of a line give
abbrev pub with_vertices : List (List ℕ) → Option (List ℕ) → Result (List (List ℕ)) InputKind
with_vertices before vertices = facet_of vertices >>= with_facet before

-- `facet V ..` adds a facet, in ascending order
abbrev pub after_facet : Spelled → ComplexBlock → Option (List ℕ) → Step
after_facet s c vertices = with_facets s c (with_vertices c.facets vertices)

-- `end` of a complex adds it to the job
abbrev pub with_complex : Spelled → ComplexBlock → Spelled
with_complex s c = record { prime = s.prime; complexes = s.complexes ++ c ∷ []; maps = s.maps }

-- the map with FROM and TO at these places, without sends
abbrev pub begun_map : Spelled → List ℕ → Option ℕ → Option ℕ → Step
begun_map s name (Some from) (Some to) = Ok (in_map s (record { name = name; from = from; to = to; sends = [] }))
begun_map s name _ _ = Err UnknownName

-- `map NAME FROM TO` opens a map between complexes that stand before it
abbrev pub after_map : Spelled → List ℕ → List ℕ → List ℕ → Step
after_map s name from to = if nat_le 8 (length s.maps) then Err TooManyBlocks
    else (if has_name (block_names s.complexes s.maps) name then Err RepeatedName
    else begun_map s name (place_of_name s.complexes from) (place_of_name s.complexes to))

-- the map with these sends
abbrev pub with_sends : Spelled → MapBlock → Result (List Sent) InputKind → Step
with_sends s m (Ok sends) = Ok (in_map s (record { name = m.name; from = m.from; to = m.to; sends = sends }))
with_sends s m (Err kind) = Err kind

-- `send V W` adds a send
abbrev pub after_send : Spelled → MapBlock → Option Sent → Step
after_send s m None = Err BadNumber
after_send s m (Some sent) = with_sends s m (with_send (facets_at s.complexes m.from) (facets_at s.complexes m.to) m.sends sent)

-- `end` of a map adds it to the job
abbrev pub with_map : Spelled → MapBlock → Spelled
with_map s m = record { prime = s.prime; complexes = s.complexes; maps = s.maps ++ m ∷ [] }

abbrev pub after_map_end : Spelled → MapBlock → Step
after_map_end s m = unless (end_fault (facets_at s.complexes m.from) (facets_at s.complexes m.to) m.sends) (between (with_map s m))

-- What each line makes of each place. A line that may not stand there is a bad line.
abbrev pub after : Place → Line → Step
after at_start heading = Ok at_prime
after at_prime (prime_line p) = after_prime p
after (between s) (complex_line name) = after_complex s name
after (between s) (map_line name from to) = after_map s name from to
after (in_complex s c) (facet_line vs) = after_facet s c vs
after (in_complex s c) end_line = Ok (between (with_complex s c))
after (in_map s m) (send_line sent) = after_send s m sent
after (in_map s m) end_line = after_map_end s m
after _ _ = Err BadLine

-- a line that is skipped changes nothing
abbrev pub after_words : Place → List (List ℕ) → Step
after_words place ws = if is_skipped ws then Ok place else after place (line_of ws)

-- a byte that is not allowed is a fault in a skipped line too
unfoldable pub after_line : Place → List ℕ → Step
after_line place line = if list_all is_allowed line then after_words place (words line) else Err NotText

-- a fault, and its line
pub record Fault : Type 0 where
  pub kind : InputKind
  pub line : ℕ

abbrev pub at_line : {A : Type 0} → ℕ → Result A InputKind → Result A Fault
at_line n (Ok x) = Ok x
at_line n (Err kind) = Err (record { kind = kind; line = n })

-- the place behind lines that are numbered from n on; the first line at fault decides
abbrev pub place_after : ℕ → Place → List (List ℕ) → Result Place Fault
place_after n place [] = Ok place
place_after n place (l ∷ ls) = at_line n (after_line place l) >>= λ next. place_after (n + 1) next ls

-- the input may end between blocks alone
abbrev pub at_end : Place → Result Spelled InputKind
at_end (between s) = Ok s
at_end _ = Err Unfinished

-- what the lines of a text spell, or their first fault; a text that ends too early has it behind its last byte 10
abbrev pub lines_spell : List ℕ → Result Spelled Fault
lines_spell text = place_after 1 at_start (lines text) >>= λ place. at_line (count_by is_line_end text + 1) (at_end place)

-- What the bytes spell, or their first fault. More than 1,048,576 bytes are too many, whatever they are.
unfoldable pub input_of : List ℕ → Result Spelled Fault
input_of text = if nat_lt 1048576 (length text) then Err (record { kind = TooLong; line = 0 }) else lines_spell text

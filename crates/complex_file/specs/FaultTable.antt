-- The table of faults: which kinds may come on a line, in which order they are tried, and when each of them comes.
use Rattle.std.specs.{Prelude.{◌≡◌, ℕ, ◌+◌, ◌<◌, Bool, true, false, not, ◌&&◌, List, [], ◌∷◌, ◌++◌, length, Some, None, Ok, Err, if◌then◌else◌, is_some, is_none, nat_le, nat_lt, count_by, option_map}, declared.option.Option.Option, List.{find, list_all}, Option.option_map_or}
use Rattle.fp_field.specs.Served.{served}
use Rattle.simplicial_law.specs.ListedSimplices.{simplices}
use Rattle.complex_file.specs.{declared.kind.InputKind.InputKind, declared.kind.InputKind.TheVariants.{TooLong, NotText, BadLine, BadNumber, RepeatedVertex, FacetTooWide, TooManySimplices, RepeatedName, UnknownName, VertexNotSent, VertexSentTwice, VertexUnknown, NotOrderPreserving, ImageNotASimplex, Unfinished, TooManyBlocks, OtherPrime}, Text.{is_allowed, is_line_end, lines, words}, Lines.{Line, heading, prime_line, complex_line, facet_line, map_line, send_line, end_line, is_skipped, line_of}, Complexes.{ascending, has_repeat}, Maps.{is_sent, is_vertex, keeps_order, keeps_simplices, sends_each}, Jobs.{block_names, facets_at, has_name, place_of_name}, Input.{Fault, Place, at_start, at_prime, between, in_complex, in_map, after_line, at_end}}

-- The kinds that are tried on a line at a place, in their order, and whether each comes. A line that may not stand there is
-- a bad line. What the line lacks a number for has no other fault.
abbrev pub tried : Place → Line → List (InputKind × Bool)
tried at_start heading = []
tried at_prime (prime_line prime) = (BadNumber, is_none prime)
    ∷ (OtherPrime, option_map_or (λ p. not (served p)) prime false) ∷ []
tried (between s) (complex_line name) = (TooManyBlocks, nat_le 8 (length s.complexes))
    ∷ (RepeatedName, has_name (block_names s.complexes s.maps) name) ∷ []
tried (between s) (map_line name from to) = (TooManyBlocks, nat_le 8 (length s.maps))
    ∷ (RepeatedName, has_name (block_names s.complexes s.maps) name)
    ∷ (UnknownName, not (is_some (place_of_name s.complexes from) && is_some (place_of_name s.complexes to))) ∷ []
tried (in_complex s c) (facet_line vertices) = (BadNumber, is_none vertices)
    ∷ (RepeatedVertex, option_map_or has_repeat vertices false)
    ∷ (FacetTooWide, option_map_or (λ vs. nat_lt 16 (length vs)) vertices false)
    ∷ (TooManySimplices, option_map_or (λ vs. nat_lt 100000 (length (simplices (c.facets ++ ascending vs ∷ [])))) vertices false) ∷ []
tried (in_complex s c) end_line = []
tried (in_map s m) (send_line sent) =
    let from = facets_at s.complexes m.from in
    let to = facets_at s.complexes m.to in
    (BadNumber, is_none sent)
    ∷ (VertexUnknown, option_map_or (λ d. not (is_vertex from d.from && is_vertex to d.to)) sent false)
    ∷ (VertexSentTwice, option_map_or (λ d. is_sent m.sends d.from) sent false) ∷ []
tried (in_map s m) end_line =
    let from = facets_at s.complexes m.from in
    let to = facets_at s.complexes m.to in
    (VertexNotSent, not (sends_each from m.sends))
    ∷ (NotOrderPreserving, not (keeps_order from m.sends))
    ∷ (ImageNotASimplex, not (keeps_simplices from to m.sends)) ∷ []
tried _ _ = (BadLine, true) ∷ []

-- the first kind that comes
abbrev pub first_kind : List (InputKind × Bool) → Option InputKind
first_kind kinds = option_map (λ (k : InputKind × Bool). k.0) (find (λ (k : InputKind × Bool). k.1) kinds)

-- The fault of a line at a place. A byte that is not allowed comes before all else, on a line that is skipped too.
unfoldable pub fault_at : Place → List ℕ → Option InputKind
fault_at place line = if list_all is_allowed line
    then (if is_skipped (words line) then None else first_kind (tried place (line_of (words line))))
    else Some NotText

-- lines without a fault, one behind the other, and what they make of a place
abbrev pub ReadsTo : Place → List (List ℕ) → Place → Type 0
ReadsTo p [] q = p ≡ q
ReadsTo p (l ∷ ls) q = (r : Place) × (fault_at p l ≡ None) × (after_line p l ≡ Ok r) × ReadsTo r ls q

-- A fault on one of the lines that stand at a place and are numbered from n on: those before it have no fault.
pub record IsOnLine (n : ℕ) (start : Place) (ls : List (List ℕ)) (f : Fault) : Type 0 where
  pub before : List (List ℕ)
  pub line : List ℕ
  pub rest : List (List ℕ)
  pub place : Place
  pub parts : ls ≡ before ++ line ∷ rest
  pub number : f.line ≡ n + length before
  pub read : ReadsTo start before place
  pub kind : fault_at place line ≡ Some f.kind

-- a fault behind the last byte 10: no line has a fault, and the last place is not one where an input may end
pub record IsUnfinished (text : List ℕ) (f : Fault) : Type 0 where
  pub place : Place
  pub read : ReadsTo at_start (lines text) place
  pub open_end : at_end place ≡ Err Unfinished
  pub number : f.line ≡ count_by is_line_end text + 1
  pub kind : f.kind ≡ Unfinished

-- a text of more bytes than an input may have
pub record IsLong (text : List ℕ) (f : Fault) : Type 0 where
  pub long : 1048576 < length text
  pub number : f.line ≡ 0
  pub kind : f.kind ≡ TooLong

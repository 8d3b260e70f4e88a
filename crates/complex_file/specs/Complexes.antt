-- The facets of a complex, and their faults.
use Rattle.std.specs.{Prelude.{ℕ, ◌+◌, Bool, false, true, ◌&&◌, ◌||◌, ◌==◌, List, [], ◌∷◌, ◌++◌, length, fold, Some, None, Ok, Err, Result, if◌then◌else◌, is_none, nat_le, nat_lt}, declared.option.Option.Option, List.{list_all, list_any}, Ordering.nat_cmp, BTreeSet.insert_key}
use Rattle.simplicial_law.specs.ListedSimplices.{simplices}
use Rattle.complex_file.specs.{declared.fault.BlockFault.BlockFault, declared.kind.InputKind.InputKind, declared.kind.InputKind.TheVariants.{BadNumber, FacetTooWide, RepeatedVertex, TooManySimplices}, Text.is_not_empty}

-- the value, where there is no fault
abbrev pub unless : {X : Type 0} → Option InputKind → X → Result X InputKind
unless None x = Ok x
unless (Some kind) x = Err kind

-- the vertices in ascending order, each once
abbrev pub ascending : List ℕ → List ℕ
ascending vs = fold (insert_key nat_cmp) [] vs

-- v is among the vertices
abbrev pub has_vertex : List ℕ → ℕ → Bool
has_vertex f v = list_any (λ w. v == w) f

-- some vertex stands twice
abbrev pub has_repeat : List ℕ → Bool
has_repeat [] = false
has_repeat (v ∷ vs) = has_vertex vs v || has_repeat vs

-- the facet that the numbers of a line give: its vertices in ascending order
abbrev pub facet_of : Option (List ℕ) → Result (List ℕ) InputKind
facet_of None = Err BadNumber
facet_of (Some vs) = if has_repeat vs then Err RepeatedVertex else Ok (ascending vs)

-- the fault of a facet behind those before it: it has more than 16 vertices, or with it the complex has more than
-- 100,000 simplices
abbrev pub facet_fault : List (List ℕ) → List ℕ → Option InputKind
facet_fault before f = if nat_lt 16 (length f) then Some FacetTooWide
    else (if nat_lt 100000 (length (simplices (before ++ f ∷ []))) then Some TooManySimplices else None)

-- the facets with one more, or its fault
abbrev pub with_facet : List (List ℕ) → List ℕ → Result (List (List ℕ)) InputKind
with_facet before f = unless (facet_fault before f) (before ++ f ∷ [])

-- the fault of the line at a place, or else that of a later one
abbrev pub or_later : Option InputKind → ℕ → Option BlockFault → Option BlockFault
or_later (Some kind) at later = Some (record { kind = kind; at = at })
or_later None at later = later

-- the first fault of facets that stand behind others, at places from `at` on
abbrev pub first_facet_fault : List (List ℕ) → ℕ → List (List ℕ) → Option BlockFault
first_facet_fault before at [] = None
first_facet_fault before at (f ∷ fs) = or_later (facet_fault before f) at (first_facet_fault (before ++ f ∷ []) (at + 1) fs)

-- the first facet at fault
abbrev pub complex_fault : List (List ℕ) → Option BlockFault
complex_fault facets = first_facet_fault [] 0 facets

-- each vertex is below the next
abbrev pub is_ascending : List ℕ → Bool
is_ascending [] = true
is_ascending (v ∷ []) = true
is_ascending (v ∷ w ∷ ws) = nat_lt v w && is_ascending (w ∷ ws)

-- a list of vertices that a facet may have: not empty, ascending, with numbers of at most six digits
abbrev pub is_facet : List ℕ → Bool
is_facet f = is_not_empty f && (is_ascending f && list_all (λ v. nat_le v 999999) f)

-- the facets of a complex that may stand in a job
abbrev pub is_complex : List (List ℕ) → Bool
is_complex facets = list_all is_facet facets && is_none (complex_fault facets)

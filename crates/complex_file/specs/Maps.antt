-- The sends of a map between two complexes, and their faults.
use Rattle.std.specs.{Prelude.{ℕ, ◌+◌, Bool, true, not, ◌&&◌, ◌==◌, List, [], ◌∷◌, ◌++◌, map, Some, None, Result, if◌then◌else◌, nat_le}, declared.option.Option.Option, List.{list_all, list_any}, Str.bytes_eq}
use Rattle.simplicial_law.specs.{ListedSimplices.simplices, Names.subsets}
use Rattle.complex_file.specs.{declared.block.Sent.Sent, declared.fault.BlockFault.BlockFault, declared.kind.InputKind.InputKind, declared.kind.InputKind.TheVariants.{VertexNotSent, VertexSentTwice, VertexUnknown, NotOrderPreserving, ImageNotASimplex}, Complexes.{ascending, has_vertex, or_later, unless}}

-- v is a vertex of some facet
abbrev pub is_vertex : List (List ℕ) → ℕ → Bool
is_vertex facets v = list_any (λ f. has_vertex f v) facets

-- v is sent
abbrev pub is_sent : List Sent → ℕ → Bool
is_sent sends v = list_any (λ s. v == s.from) sends

-- the vertex to which v is sent; 0 where it is not sent
abbrev pub image : List Sent → ℕ → ℕ
image [] v = 0
image (s ∷ ss) v = if v == s.from then s.to else image ss v

-- the fault of a send behind those before it: V is no vertex of FROM, or W is none of TO; V was sent before
abbrev pub send_fault : List (List ℕ) → List (List ℕ) → List Sent → Sent → Option InputKind
send_fault from to before s = if not (is_vertex from s.from && is_vertex to s.to) then Some VertexUnknown
    else (if is_sent before s.from then Some VertexSentTwice else None)

-- the sends with one more, or its fault
abbrev pub with_send : List (List ℕ) → List (List ℕ) → List Sent → Sent → Result (List Sent) InputKind
with_send from to before s = unless (send_fault from to before s) (before ++ s ∷ [])

-- each vertex of FROM is sent
abbrev pub sends_each : List (List ℕ) → List Sent → Bool
sends_each from sends = list_all (list_all (is_sent sends)) from

-- the lower end of the edge is sent at most as high as its upper end
abbrev pub keeps_edge : List Sent → List ℕ → Bool
keeps_edge sends (v ∷ w ∷ []) = nat_le (image sends v) (image sends w)
keeps_edge sends _ = true

-- each edge of FROM is kept: the edges are the subsets of two vertices of its facets
abbrev pub keeps_order : List (List ℕ) → List Sent → Bool
keeps_order from sends = list_all (λ f. list_all (keeps_edge sends) (subsets 2 f)) from

-- the vertices to which those of a facet are sent, in ascending order
abbrev pub image_of_facet : List Sent → List ℕ → List ℕ
image_of_facet sends f = ascending (map (image sends) f)

-- the image of each facet of FROM is a simplex of TO
abbrev pub keeps_simplices : List (List ℕ) → List (List ℕ) → List Sent → Bool
keeps_simplices from to sends = list_all (λ f. list_any (bytes_eq (image_of_facet sends f)) (simplices to)) from

-- the fault of a map's end
abbrev pub end_fault : List (List ℕ) → List (List ℕ) → List Sent → Option InputKind
end_fault from to sends = if not (sends_each from sends) then Some VertexNotSent
    else (if not (keeps_order from sends) then Some NotOrderPreserving
    else (if not (keeps_simplices from to sends) then Some ImageNotASimplex else None))

-- the first fault of sends that stand behind others, at places from `at` on, or else that of the end
abbrev pub first_send_fault : List (List ℕ) → List (List ℕ) → List Sent → ℕ → List Sent → Option BlockFault
first_send_fault from to before at [] = or_later (end_fault from to before) at None
first_send_fault from to before at (s ∷ ss) =
    or_later (send_fault from to before s) at (first_send_fault from to (before ++ s ∷ []) (at + 1) ss)

-- the first send at fault, or else the fault of the end, whose place is the number of sends
abbrev pub map_fault : List (List ℕ) → List (List ℕ) → List Sent → Option BlockFault
map_fault from to sends = first_send_fault from to [] 0 sends

-- A job written as lines of the input: all its complexes, then all its maps.
use Rattle.std.specs.{Prelude.{ℕ, List, [], ◌∷◌, ◌++◌, codes, flat_map, map, slice_index_or}, Fmt.decimal}
use Rattle.complex_file.specs.{declared.block.ComplexBlock.ComplexBlock, declared.block.MapBlock.MapBlock, declared.block.Sent.Sent, Input.Spelled}

-- `facet V ..`
abbrev pub facet_words : List ℕ → List (List ℕ)
facet_words f = codes "facet" ∷ map decimal f

-- `send V W`
abbrev pub send_words : Sent → List (List ℕ)
send_words s = codes "send" ∷ decimal s.from ∷ decimal s.to ∷ []

-- the name of the complex at a place
abbrev pub name_at : List ComplexBlock → ℕ → List ℕ
name_at complexes k = (slice_index_or complexes k (record { name = []; facets = [] })).name

-- the lines of a complex, each as its words
abbrev pub complex_lines : ComplexBlock → List (List (List ℕ))
complex_lines c = (codes "complex" ∷ c.name ∷ []) ∷ (map facet_words c.facets ++ (codes "end" ∷ []) ∷ [])

-- the lines of a map between complexes among these
abbrev pub map_lines : List ComplexBlock → MapBlock → List (List (List ℕ))
map_lines complexes m =
    (codes "map" ∷ m.name ∷ name_at complexes m.from ∷ name_at complexes m.to ∷ []) ∷ (map send_words m.sends ++ (codes "end" ∷ []) ∷ [])

-- the lines of a job
abbrev pub job_lines : Spelled → List (List (List ℕ))
job_lines s = (codes "comch" ∷ codes "1" ∷ []) ∷ (codes "prime" ∷ decimal s.prime ∷ [])
    ∷ (flat_map complex_lines s.complexes ++ flat_map (map_lines s.complexes) s.maps)

-- words with one space between them
abbrev pub spaced : List (List ℕ) → List ℕ
spaced [] = []
spaced (w ∷ ws) = w ++ flat_map (λ v. 32 ∷ v) ws

-- each line ends with byte 10
abbrev pub written : Spelled → List ℕ
written s = flat_map (λ ws. spaced ws ++ 10 ∷ []) (job_lines s)

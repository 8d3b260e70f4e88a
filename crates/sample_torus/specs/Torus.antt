-- The sample family: tori whose vertices stand on a circle.
use Rattle.std.specs.Prelude.{ℕ, ◌+◌, ◌%◌, List, [], ◌∷◌, codes, flat_map}
use Rattle.signed_sum.specs.Names.{numbers_from}
use Rattle.complex_file.specs.Names.{ascending, Spelled}

-- the triangles i, i + 1, i + 3 and i, i + 2, i + 3 modulo m
abbrev pub triangles_at : ℕ → ℕ → List (List ℕ)
triangles_at m i = ascending (i ∷ (i + 1) % m ∷ (i + 3) % m ∷ []) ∷ ascending (i ∷ (i + 2) % m ∷ (i + 3) % m ∷ []) ∷ []

-- the torus with the vertices 0 to m - 1, for m from 7 on
abbrev pub torus_facets : ℕ → List (List ℕ)
torus_facets m = flat_map (triangles_at m) (numbers_from 0 m)

-- the job of this torus alone
abbrev pub torus_job : ℕ → ℕ → Spelled
torus_job p m = record { prime = p; complexes = record { name = codes "torus"; facets = torus_facets m } ∷ []; maps = [] }

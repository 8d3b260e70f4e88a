-- Two cochains by a mask, and the product of their values on the faces of a cut.
use Rattle.std.specs.Prelude.{ℕ, cond, List, map, ℤ}
use Rattle.signed_sum.specs.Names.{letters, numbers_from, signed}
use Rattle.interval_cut_law.specs.Names.{cut_faces, sign_exponent, vertex_at, value_product}

-- one for each face from 1 to r: c where the letter of the mask is `true`, and a where it is `false`
abbrev pub by_mask : {X : Type 0} → ℕ → ℕ → X → X → List X
by_mask r mask a c = map (λ l. cond l c a) (letters r mask)

-- the product of the values on the m faces from face k on, at the vertices of the simplex s: the first
-- takes c where the lowest bit of the mask is set, and a where it is not
abbrev pub product_from : ℕ → ℕ → ℕ → (List ℕ → ℤ) → (List ℕ → ℤ) → List ℕ → List ℕ → List ℕ → ℤ
product_from k m mask a c u p s =
    value_product (by_mask m mask a c) (map (λ f. map (λ i. vertex_at s i) f) (cut_faces (numbers_from k m) u p))

-- the sign of the cut p times the product of the values on its faces 1 to r
abbrev pub signed_product : ℕ → ℕ → (List ℕ → ℤ) → (List ℕ → ℤ) → List ℕ → List ℕ → List ℕ → ℤ
signed_product r mask a c u s p = signed (sign_exponent u 0 p) (product_from 1 r mask a c u p s)

-- Pairs of an element of one basis and one of another. In sums a pair stands for the tensor product of its two.
use Rattle.std.specs.Prelude.{ℕ, ◌+◌, ◌++◌, List, map, ℤ, ◌*ℤ◌}
use Rattle.signed_sum.specs.Signs.{signed}

-- the sum of the degrees of the two
abbrev pub pair_degree : {X Y : Type 0} → (X → ℕ) → (Y → ℕ) → X × Y → ℕ
pair_degree degree other p = degree p.0 + other p.1

-- the terms, each paired with y behind it
abbrev pub paired_before : {X Y : Type 0} → Y → List (X × ℤ) → List ((X × Y) × ℤ)
paired_before y ts = map (λ t. ((t.0, y), t.1)) ts

-- the terms, each paired with x of degree n before it, with the sign of an operator that passes x
abbrev pub paired_behind : {X Y : Type 0} → ℕ → X → List (Y × ℤ) → List ((X × Y) × ℤ)
paired_behind n x ts = map (λ t. ((x, t.0), signed n t.1)) ts

-- The boundary of a pair: the boundary of the first before the second, and, with the sign of the degree of the first,
-- the first before the boundary of the second.
abbrev pub pair_boundary : {X Y : Type 0} → (X → ℕ) → (X → List (X × ℤ)) → (Y → List (Y × ℤ)) → X × Y → List ((X × Y) × ℤ)
pair_boundary degree boundary other p = paired_before p.1 (boundary p.0) ++ paired_behind (degree p.0) p.0 (other p.1)

-- The turn of a pair turns both.
abbrev pub pair_turn : {X Y : Type 0} → (X → X × ℤ) → (Y → Y × ℤ) → X × Y → (X × Y) × ℤ
pair_turn turn other p = (((turn p.0).0, (other p.1).0), (turn p.0).1 *ℤ (other p.1).1)

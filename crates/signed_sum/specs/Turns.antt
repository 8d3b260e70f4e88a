-- A turn of elements with signs, the difference of the turn and the identity, and the sum of the powers of the turn.
use Rattle.std.specs.Prelude.{◌≡◌, ℕ, zero, suc, List, [], ◌∷◌, ℤ, pos, negsuc, ◌*ℤ◌, ◌⊎◌}

-- the element after n turns, with the product of their signs
abbrev pub after_turns : {X : Type 0} → (X → X × ℤ) → ℕ → X → X × ℤ
after_turns turn zero x = (x, pos 1)
after_turns turn (suc n) x = let p = after_turns turn n x in let q = turn p.0 in (q.0, p.1 *ℤ q.1)

-- the turn minus the identity
abbrev pub difference : {X : Type 0} → (X → X × ℤ) → X → List (X × ℤ)
difference turn x = turn x ∷ (x, negsuc 0) ∷ []

-- the sum of the first n powers of the turn, from power 0 on
abbrev pub power_sum : {X : Type 0} → (X → X × ℤ) → ℕ → X → List (X × ℤ)
power_sum turn zero x = []
power_sum turn (suc n) x = after_turns turn n x ∷ power_sum turn n x

-- 1 or -1
abbrev pub IsSign : ℤ → Type 0
IsSign s = (s ≡ pos 1) ⊎ (s ≡ negsuc 0)

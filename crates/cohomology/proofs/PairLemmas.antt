-- Tables that grow by one place.
use Rattle.std.proofs.Common.{Bool, IsTrue, ◌≡◌, ℕ, zero, suc, ◌+◌, ◌-◌, ◌<◌, inl, inr, List, [], ◌∷◌, length, get_or, refl, arith, subst, Option, None, Some, MatchOption, ◌↔◌}
use Rattle.cohomology.{proofs.Below.{is_some, not_both, Among, level, IsMarkedIn}}

pub among_at : {X : Type 0} (x : X) (xs : List X) (k : ℕ) (d : X) → k < length xs → get_or xs k d ≡ x → Among x xs
among_at x [] k d b e = absurd (omega arith)
among_at x (y ∷ ys) zero d b e = inl e
among_at x (y ∷ ys) (suc k) d b e = inr (among_at x ys k d (omega arith) e)

-- ---- one mark

pub has_simplex : (sub : List (List (List ℕ))) (n : ℕ) (s : List ℕ) (o : Option ℕ) → length s ≡ n + 1
    → MatchOption o ((m : ℕ) → Among s (level sub m) → ⊥) (λ k. (k < length (level sub (length s - 1))) × (get_or (level sub (length s - 1)) k [] ≡ s)) → IsTrue (is_some o) ↔ Among s (level sub n)
has_simplex sub n s None l h = ((λ e. absurd (not_both e)), (λ m. absurd (h n m)))
has_simplex sub n s (Some k) l h = ((λ e. subst (λ (i : ℕ). Among s (level sub i)) (let q : length s - 1 ≡ n = omega arith in q) (among_at s (level sub (length s - 1)) k [] h.0 h.1)), (λ m. refl))

-- ---- tables

-- the first k marks stand exactly where P holds
pub record MarksTo (P : ℕ → Type 0) (k : ℕ) (xs : List Bool) : Type 0 where
  pub whole : length xs ≡ k
  pub marked : (x : ℕ) → x < k → IsMarkedIn xs x ↔ P x

-- ---- rows

abbrev pub Row : Type 0
Row = List (ℕ × ℕ)

-- Cochains with whole values on the simplices that a test K tells, and classes of them: forms for proofs.
use Rattle.std.proofs.Common.{Bool, ◌≡◌, ℕ, suc, ◌+◌, ◌%◌, ◌<◌, ◌≤◌, ◌⊎◌, List, [], ◌∷◌, length, ℤ, pos, ◌*ℤ◌}
use Rattle.interval_cut_law.specs.Names.{operation_value}
use Rattle.signed_sum.specs.Names.{IsNormalized, difference, power_sum, total, value_at}
use Rattle.simplicial_law.specs.Names.{CongruentInt, HasDegree, integral_coboundary}
use Rattle.steenrod_law.specs.Names.{sum_value, copies}
use Rattle.surjection_law.specs.Names.{caesura_count, surjection_boundary, IsOnto}
use Rattle.table_reduction_law.specs.Names.{turned_values}

abbrev pub SurjectionTerm : Type 0
SurjectionTerm = List ℕ × ℤ

-- the value of a formal sum, as a function of h
abbrev pub value_over : {X : Type 0} → List (X × ℤ) → (X → ℤ) → ℤ
value_over x h = value_at h x

-- the sum of h over a list of words
abbrev pub word_sum : List (List Bool) → (List Bool → ℤ) → ℤ
word_sum ms h = total h ms

-- what the proofs use of a prime
pub record IsPrime (p : ℕ) : Type 0 where
  pub two : 2 ≤ p
  pub parity : (p ≡ 2) ⊎ (p % 2 ≡ 1)
  pub cancel : (a : ℕ) (z : ℤ) → 1 ≤ a → a < p → CongruentInt p (pos a *ℤ z) (pos 0) → CongruentInt p z (pos 0)

-- each term takes exactly the values 1 to p and has d caesuras
abbrev pub AreTerms : ℕ → ℕ → List SurjectionTerm → Type 0
AreTerms p d [] = Unit {0}
AreTerms p d (t ∷ x) = IsOnto p t.0 × (caesura_count t.0 ≡ d) × AreTerms p d x

-- the value of h at the boundary of the sum x
abbrev pub boundary_over : List SurjectionTerm → (List ℕ → ℤ) → ℤ
boundary_over x h = value_at (λ u. value_at h (surjection_boundary u)) x

-- sums of each degree with the relations of the May elements
pub record IsMayFamily (p : ℕ) (x : ℕ → List SurjectionTerm) : Type 0 where
  pub terms : (d : ℕ) → AreTerms p d (x d)
  pub first : (h : List ℕ → ℤ) → boundary_over (x 0) h ≡ pos 0
  pub even : (d : ℕ) → d % 2 ≡ 0 → (h : List ℕ → ℤ) → boundary_over (x (suc d)) h ≡ value_over (x d) (λ u. value_at h (difference (turned_values p) u))
  pub odd : (d : ℕ) → d % 2 ≡ 1 → (h : List ℕ → ℤ) → boundary_over (x (suc d)) h ≡ value_over (x d) (λ u. value_at h (power_sum (turned_values p) p u))

-- a cochain of degree q is 0 on lists of another length and on degenerate lists
pub record IsCochain (q : ℕ) (a : List ℕ → ℤ) : Type 0 where
  pub degree : HasDegree q a
  pub plain : IsNormalized a

-- f takes vertices of s in order, each as often as it likes
pub data IsWeakFace : List ℕ → List ℕ → Type 0 where
  none : {s : List ℕ} → IsWeakFace [] s
  take : {x : ℕ} {f s : List ℕ} → IsWeakFace f (x ∷ s) → IsWeakFace (x ∷ f) (x ∷ s)
  drop : {x : ℕ} {f s : List ℕ} → IsWeakFace f s → IsWeakFace f (x ∷ s)

abbrev pub IsFaceClosed : (List ℕ → Type 0) → Type 0
IsFaceClosed K = (f s : List ℕ) → IsWeakFace f s → K s → K f

-- a cocycle on K, modulo p
pub record IsIntegralCocycle (K : List ℕ → Type 0) (p q : ℕ) (a : List ℕ → ℤ) : Type 0 where
  pub cochain : IsCochain q a
  pub closed : (f : List ℕ) → K f → CongruentInt p (integral_coboundary a f) (pos 0)

-- the value of the sum x on p times the cochain a
abbrev pub operation_of : ℕ → List SurjectionTerm → (List ℕ → ℤ) → List ℕ → ℤ
operation_of p x a s = sum_value p x (copies p a) s

-- a has the degree m - k: it is 0 on simplices of another degree and on degenerate ones. Where k is
-- m + 1 it is 0 on all simplices
pub record HasDegreeBelow (k m : ℕ) (a : List ℕ → ℤ) : Type 0 where
  pub other : (s : List ℕ) → 1 ≤ length s → (length s + k ≡ suc m → ⊥) → a s ≡ pos 0
  pub plain : IsNormalized a

-- the cup product
abbrev pub cup : (List ℕ → ℤ) → (List ℕ → ℤ) → List ℕ → ℤ
cup a b s = operation_value 2 (1 ∷ 2 ∷ []) (a ∷ b ∷ []) s

-- Compositions as they are made: forms for proofs. An entry carries a mark in the place of a number.
use Rattle.std.specs.Prelude.{◌≡◌, ℕ, ◌+◌, ◌-◌, ◌≤◌, ◌==◌, Bool, false, not, cond, List, [], ◌∷◌, ◌++◌, length, map, ℤ, pos, negsuc}
use Rattle.signed_sum.specs.Names.{is_degenerate, occurs}
use Rattle.surjection_law.specs.Names.{IsSurjection, multiplicity}
use Rattle.composition_law.specs.Surjections.{IsRising, spliced, values_of}
use Rattle.surjection.specs.declared.composition.{Mark.Mark, Mark.TheVariants.{Plain, Outer, Inner}}

-- the entries of a list, its caesuras with the mark c
abbrev pub marked : Mark → List ℕ → List (ℕ × Mark)
marked c [] = []
marked c (x ∷ xs) = (x, cond (occurs x xs == 1) c Plain) ∷ marked c xs

-- whether an odd number of inner caesuras were met, after one more entry
abbrev pub inner_after_mark : Mark → Bool → Bool
inner_after_mark Plain inner = inner
inner_after_mark Outer inner = inner
inner_after_mark Inner inner = not inner

-- whether an odd number of pairs of an inner caesura and a later outer one were met, after one more entry
abbrev pub odd_after_mark : Mark → Bool → Bool → Bool
odd_after_mark Plain inner odd = odd
odd_after_mark Outer inner odd = cond inner (not odd) odd
odd_after_mark Inner inner odd = odd

-- whether an odd number of such pairs are met by the end
abbrev pub is_odd_order_from : Bool → Bool → List (ℕ × Mark) → Bool
is_odd_order_from inner odd [] = odd
is_odd_order_from inner odd (e ∷ es) = is_odd_order_from (inner_after_mark e.1 inner) (odd_after_mark e.1 inner odd) es

abbrev pub is_odd_order : List (ℕ × Mark) → Bool
is_odd_order es = is_odd_order_from false false es

-- the term of a cut
abbrev pub marked_term : ℕ → List (ℕ × Mark) → List (ℕ × Mark) → List ℕ → List ℕ × ℤ
marked_term k outer inner cut =
    (values_of (spliced k 0 inner outer cut), cond (is_odd_order (spliced k 0 inner outer cut)) (negsuc 0) (pos 1))

-- the terms of the cuts that begin with `cut` and go on with one of the lists
abbrev pub terms_behind : ℕ → List (ℕ × Mark) → List (ℕ × Mark) → List ℕ → List (List ℕ) → List (List ℕ × ℤ)
terms_behind k outer inner cut ps = map (λ p. marked_term k outer inner (cut ++ p)) ps

-- the cut has a place for each occurrence of k but the last
pub record IsCutAt (k : ℕ) (outer inner : List (ℕ × Mark)) (cut : List ℕ) : Type 0 where
  pub rising : IsRising 0 cut (length inner - 1)
  pub long : length cut + 1 ≡ multiplicity k (values_of outer)

-- each term without equal neighbours is a surjection
pub record IsReady (k : ℕ) (outer inner : List (ℕ × Mark)) : Type 0 where
  pub some : 1 ≤ length inner
  pub short : length inner ≤ 255
  pub valid : (cut : List ℕ) → IsCutAt k outer inner cut → is_degenerate (values_of (spliced k 0 inner outer cut)) ≡ false → IsSurjection (values_of (spliced k 0 inner outer cut))

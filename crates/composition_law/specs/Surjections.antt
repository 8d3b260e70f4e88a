-- Compositions of surjections, after Berger and Fresse: the sum over all cuts of the second.
use Rattle.std.specs.Prelude.{ℕ, zero, suc, ◌+◌, ◌-◌, ◌≤◌, nat_lt, cond, eqb, List, [], ◌∷◌, ◌++◌, drop, length, map, ℤ}
use Rattle.signed_sum.specs.Names.{rearrangement_sign, is_degenerate, numbers_from, occurs, kept_terms}
use Rattle.surjection_law.specs.Names.{caesura_count, arity, multiplicity}
use Rattle.interval_cut_law.specs.Names.{rising_lists}

-- Let k occur m times in u, and let s be the arity of v. A cut of v into m pieces is the list of the
-- m - 1 places, from 0, where a piece ends and the next one begins: no place is below the one before
-- it. The first piece begins with v, and the last one ends with v.
-- In the term of a cut the pieces stand for the occurrences of k, one after the other.

-- all cuts
abbrev pub cuts_at : ℕ → List ℕ → List ℕ → List (List ℕ)
cuts_at k u v = rising_lists 0 (length v - 1) (multiplicity k u - 1)

-- no number of the list is below a or below the one before it, and none is above n
abbrev pub IsRising : ℕ → List ℕ → ℕ → Type 0
IsRising a [] n = a ≤ n
IsRising a (b ∷ p) n = (a ≤ b) × IsRising b p n

-- a value of v, in the term
abbrev pub lifted : ℕ → ℕ → ℕ
lifted k y = y + (k - 1)

-- a value of u, in the term: those above k grow by s - 1
abbrev pub grown : ℕ → ℕ → ℕ → ℕ
grown k s x = cond (nat_lt k x) (x + (s - 1)) x

-- An entry is a value with what stands there: in the definition, the number of its caesura, or nothing.

-- the entries of a list, its caesuras numbered from n on
abbrev pub numbered : ℕ → List ℕ → List (ℕ × List ℕ)
numbered n [] = []
numbered n (x ∷ xs) = (x, numbers_from n (occurs x xs)) ∷ numbered (n + occurs x xs) xs

-- the entries with other values
abbrev pub with_values : {S : Type 0} → (ℕ → ℕ) → List (ℕ × S) → List (ℕ × S)
with_values {S = S} f es = map (λ (e : ℕ × S). (f e.0, e.1)) es

-- a piece: the first g entries, and the value of the next one, at which s stands
abbrev pub piece : {S : Type 0} → ℕ → List (ℕ × S) → S → List (ℕ × S)
piece g [] s = []
piece zero (e ∷ es) s = (e.0, s) ∷ []
piece (suc g) (e ∷ es) s = e ∷ piece g es s

-- The entries of u, with pieces of v for those of the value k. `rest` is v from the place a on, where
-- the next piece begins. An entry of v where one piece ends and the next one begins comes twice: what
-- stands at the occurrence of k stands at the first copy, and what stands in v at the last.
abbrev pub spliced : {S : Type 0} → ℕ → ℕ → List (ℕ × S) → List (ℕ × S) → List ℕ → List (ℕ × S)
spliced k a rest [] cut = []
spliced k a rest (e ∷ u) [] = cond (eqb k e.0) (rest ++ spliced k a rest u []) (e ∷ spliced k a rest u [])
spliced k a rest (e ∷ u) (b ∷ cut) =
    cond (eqb k e.0) (piece (b - a) rest e.1 ++ spliced k b (drop (b - a) rest) u cut) (e ∷ spliced k a rest u (b ∷ cut))

abbrev pub values_of : {S : Type 0} → List (ℕ × S) → List ℕ
values_of {S = S} es = map (λ (e : ℕ × S). e.0) es

-- the numbers of the caesuras, in the order of the entries
abbrev pub symbols_of : List (ℕ × List ℕ) → List ℕ
symbols_of [] = []
symbols_of (e ∷ es) = e.1 ++ symbols_of es

-- the entries of the term of a cut: the caesuras of u are numbered from 0 on, and after them those of v
abbrev pub cut_entries : ℕ → List ℕ → List ℕ → List ℕ → List (ℕ × List ℕ)
cut_entries k u v cut =
    spliced k 0 (with_values (lifted k) (numbered (caesura_count u) v)) (with_values (grown k (arity v)) (numbered 0 u)) cut

-- The term of a cut. Its sign is that of the rearrangement of the caesuras of u in order, followed by
-- those of v in order, into the order of the caesuras of the term.
abbrev pub cut_term : ℕ → List ℕ → List ℕ → List ℕ → List ℕ × ℤ
cut_term k u v cut =
    (values_of (cut_entries k u v cut), rearrangement_sign (numbers_from 0 (caesura_count u + caesura_count v)) (symbols_of (cut_entries k u v cut)))

-- u composed with v at k: the sum of the terms of all cuts, without those with two equal neighbours
abbrev pub composition : ℕ → List ℕ → List ℕ → List (List ℕ × ℤ)
composition k u v = kept_terms is_degenerate (map (cut_term k u v) (cuts_at k u v))

-- the number of cuts
abbrev pub cut_count : ℕ → List ℕ → List ℕ → ℕ
cut_count k u v = length (cuts_at k u v)

-- the terms have an arity of at most 32 and a length of at most 255
pub record IsWithinLimits (u v : List ℕ) : Type 0 where
  pub narrow : arity u + arity v ≤ 33
  pub short : length u + length v ≤ 256

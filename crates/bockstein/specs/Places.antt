-- The Bockstein of a cochain that is kept by the places of its simplices.
use Rattle.std.specs.{Prelude.{◌≡◌, ◌≢◌, ℕ, ◌+◌, ◌-◌, ◌*◌, ◌<◌, ◌%◌, List, [], ◌∷◌, drop, length, get_or, map, ℤ, pos, ◌+ℤ◌, ◌≤ℤ◌, neg_ℤ}, Int.int_div_euclid}
use Rattle.simplicial_law.specs.Names.{CongruentInt, integral_coboundary}
use Rattle.steenrod_law.specs.Names.{residue}
use Rattle.sparse_rows.specs.Rows.{IsBelow, value_in}
use Rattle.bockstein_law.specs.Bockstein.{bockstein, lift}
use Rattle.complex_index.specs.{Names.level, declared.indexed.Cochain.Cochain}
use Rattle.cohomology.specs.Names.{cochain_in, IsClosedIn, IsOpenAt}
use Rattle.bockstein.specs.declared.cocycles.{BocksteinRefused.BocksteinRefused, BocksteinRefused.TheVariants.{NotClosed, OutOfMemory}}

-- z is a cocycle of each complex with these levels, and b is its Bockstein: one degree up, at each simplex with its value
pub record IsBocksteinAt {p : ℕ} (levels : List (List (List ℕ))) (z b : Cochain p) : Type 0 where
  pub closed : IsClosedIn p levels z
  pub degree : b.degree ≡ z.degree + 1
  pub inside : IsBelow (length (level levels (z.degree + 1))) b.row
  pub values : (k : ℕ) → k < length (level levels (z.degree + 1)) → value_in b.row k ≡ bockstein p (cochain_in levels z.degree z.row) (get_or (level levels (z.degree + 1)) k [])

-- what a refusal tells of the cochain
abbrev pub RefusesBockstein : {p : ℕ} → List (List (List ℕ)) → Cochain p → BocksteinRefused → Type 0
RefusesBockstein levels z OutOfMemory = Unit {0}
RefusesBockstein {p} levels z (NotClosed place value) = IsOpenAt p levels z.degree z.row place value × (IsClosedIn p levels z → ⊥)

-- ---- what the code makes

-- the lift of the value at a place
abbrev pub lift_at : ℕ → List (ℕ × ℕ) → ℕ → ℤ
lift_at p row x = pos (value_in row x % p)

-- x - y + z ..
abbrev pub alternating : List ℤ → ℤ
alternating [] = pos 0
alternating (x ∷ xs) = x +ℤ neg_ℤ (alternating xs)

-- the alternating sum of the lift at the last k places, within four times their number
pub record IsSumFrom (p : ℕ) (row : List (ℕ × ℕ)) (places : List ℕ) (k : ℕ) (sum : ℤ) : Type 0 where
  pub sum_is : sum ≡ alternating (map (lift_at p row) (drop (length places - k) places))
  pub low : neg_ℤ (pos (4 * k)) ≤ℤ sum
  pub high : sum ≤ℤ pos (4 * k)

-- the sum is a multiple of p, and v is its quotient as a residue
pub record IsQuotient (p : ℕ) (sum : ℤ) (v : ℕ) : Type 0 where
  pub multiple : CongruentInt p sum (pos 0)
  pub quotient : v ≡ residue p (int_div_euclid sum (pos p))

-- r is the residue of the sum, and not 0
pub record IsRemainder (p : ℕ) (sum : ℤ) (r : ℕ) : Type 0 where
  pub nonzero : r ≢ 0
  pub rest : CongruentInt p (pos r) sum

-- the signed sum of the lift of the row of degree n over the boundary of the simplex one degree up at a place
abbrev pub sum_at : ℕ → List (List (List ℕ)) → ℕ → List (ℕ × ℕ) → ℕ → ℤ
sum_at p levels n row k = integral_coboundary (lift p (cochain_in levels n row)) (get_or (level levels (n + 1)) k [])

-- the sums at the first `count` places are multiples of p, and `found` has their quotients
pub record AreDivided (p : ℕ) (levels : List (List (List ℕ))) (n : ℕ) (row : List (ℕ × ℕ)) (count : ℕ) (found : List (ℕ × ℕ)) : Type 0 where
  pub inside : IsBelow count found
  pub each : (k : ℕ) → k < count → IsQuotient p (sum_at p levels n row k) (value_in found k)

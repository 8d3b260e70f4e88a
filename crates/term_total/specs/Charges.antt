-- Numbers that are charged one after the other.
use Rattle.std.specs.{Prelude.{◌≡◌, ℕ, zero, suc, ◌≤◌, ◌^◌, List, [], ◌++◌, Ok, Err, Some, None}, declared.result.Result.Result}
use Rattle.linear_law.specs.Names.{sum_over}
use Rattle.may_elements.specs.{Counted.{Count, charged}, declared.elements.MayRefused.MayRefused, declared.elements.MayRefused.TheVariants.{TooManyTerms, OutOfMemory}}
use Rattle.report_law.specs.Names.{first_past}

-- the used terms are within the limit, and the limit is at most 10^12
pub record IsCount (t : Count) : Type 0 where
  pub within : t.used ≤ t.limit
  pub low : t.limit ≤ 10 ^ 12

abbrev pub sum_of : List ℕ → ℕ
sum_of ns = sum_over (λ n. n) ns

-- The outcome of charging the numbers in order: either no sum passes the limit and all are used, or the first sum that
-- passes it is answered. Want of memory says nothing.
abbrev pub Charges : Count → List ℕ → Result Unit MayRefused → Count → Type 0
Charges old ns (Ok done) new = (first_past old.limit old.used ns ≡ None) × (new ≡ charged old (sum_of ns))
Charges old ns (Err (TooManyTerms over)) new = (first_past old.limit old.used ns ≡ Some over.count) × (over.limit ≡ old.limit)
Charges old ns (Err OutOfMemory) new = Unit {0}

-- the list k times over
abbrev pub repeated : {X : Type 0} → ℕ → List X → List X
repeated zero xs = []
repeated (suc k) xs = xs ++ repeated k xs

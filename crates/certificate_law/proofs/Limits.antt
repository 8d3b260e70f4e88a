-- Counted terms that are within a limit are within a greater one.
use Rattle.std.proofs.Common.{◌≡◌, ℕ, ◌+◌, ◌≤◌, Bool, true, false, refl, ◌∙◌, ap, arith, List, [], ◌∷◌, Some, None, nat_lt, if◌then◌else◌, le-ltb, ltb-false}
use Rattle.report_law.specs.Names.{first_past, printed_count}

pub more_allowed : (limit most sum : ℕ) (ns : List ℕ) → limit ≤ most → first_past limit sum ns ≡ None → first_past most sum ns ≡ None
more_allowed limit most sum [] l h = refl
more_allowed limit most sum (n ∷ ns) l h =
    let within = within_next (nat_lt limit (sum + n)) h in
    let k = ltb-false limit (sum + n) within.0 in
    ap (λ (b : Bool). if b then Some (printed_count (sum + n)) else first_past most (sum + n) ns) (le-ltb most (sum + n) (omega (arith, l, k))) ∙ more_allowed limit most (sum + n) ns l within.1
  where
    within_next : (past : Bool) → (if past then Some (printed_count (sum + n)) else first_past limit (sum + n) ns) ≡ None → (past ≡ false) × (first_past limit (sum + n) ns ≡ None)
    within_next true e = absurd cc
    within_next false e = (refl, e)

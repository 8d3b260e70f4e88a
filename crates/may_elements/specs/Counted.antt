-- Counts of terms.
use Rattle.std.specs.Prelude.{ℕ, ◌+◌, ◌^◌, min}
use Rattle.may_elements.specs.declared.terms.Over.{Over}

-- a count, cut off at 10^15
abbrev pub cut_off : ℕ → ℕ
cut_off n = min n (10 ^ 15)

-- how many terms may be used, and how many are
pub record Count : Type 0 where
  pub limit : ℕ
  pub used : ℕ

abbrev pub counted : ℕ → ℕ → Count
counted limit used = record { limit = limit; used = used }

-- with n more
abbrev pub charged : Count → ℕ → Count
charged t n = counted t.limit (t.used + n)

-- the report that the used ones and n more pass the limit
abbrev pub over : Count → ℕ → Over
over t n = record { count = cut_off (t.used + n); limit = t.limit }

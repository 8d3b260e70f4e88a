-- What each served prime is. No file of another crate names the primes.
use Rattle.std.proofs.Common.{ℕ, ◌<◌, ◌^◌, IsTrue, sym, subst, inl, inr, arith, lit<}
use Rattle.std.proofs.lemmas.Bool.{cases_eq}
use Rattle.linear_law.specs.Names.{IsField}
use Rattle.linear_law.proofs.Names.{two_field, three_field, five_field}
use Rattle.fp_field.specs.Served.{served}

-- what holds of each of them holds of a served prime
pub for_served : (P : ℕ → Type 0) (p : ℕ) → P 2 → P 3 → P 5 → IsTrue (served p) → P p
for_served P p two three five h =
    elim (cases_eq p 2) [
      | inl e ↦ subst P (sym e) two
      | inr a ↦ elim (cases_eq p 3) [
        | inl e ↦ subst P (sym e) three
        | inr b ↦ elim (cases_eq p 5) [
          | inl e ↦ subst P (sym e) five
          | inr c ↦ absurd (grind (arith, a, b, c, h))
        ]
      ]
    ]

pub served_field : (p : ℕ) → IsTrue (served p) → IsField p
served_field p h = for_served IsField p two_field three_field five_field h

pub served_large : (p : ℕ) → IsTrue (served p) → 1 < p
served_large p h = for_served (λ n. 1 < n) p (lit< tt) (lit< tt) (lit< tt) h

pub served_small : (p : ℕ) → IsTrue (served p) → p < 2 ^ 8
served_small p h = for_served (λ n. n < 2 ^ 8) p (lit< tt) (lit< tt) (lit< tt) h

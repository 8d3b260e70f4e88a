-- A term of a composition, entry by entry. The composed value is 0 here, and u and v share no value.
use Rattle.std.proofs.{Common.{◌+◌, ◌*◌, List, [], ap, arith, refl, suc, zero, ℕ, ◌++◌, ◌∙◌, ◌∷◌, ◌≡◌, neg_ℤ, pos, ℤ, ◌+ℤ◌}, lemmas.Int.ints}
use Rattle.signed_sum.specs.Names.{occurs, unless_zero, signed}
use Rattle.surjection_law.specs.Names.{caesura_count, place_exponent, place_term}

-- one entry of a term. `out`: an entry of u of another value. `edge`: an entry of v after which the piece goes on. `next`: an entry of v with which a piece ends
pub data Cell : Type 0 where
  out : ℕ → Cell
  edge : ℕ → Cell
  next : ℕ → Cell

-- the sum of f over all ways to put pieces of v at the zeros of u. A piece begins where the one before it ends
abbrev pub walks : List ℕ → List ℕ → (List Cell → ℤ) → ℤ
walks [] [] f = pos 0
walks [] (y ∷ []) f = f []
walks [] (y ∷ z ∷ v) f = pos 0
walks (x ∷ u) [] f = pos 0
walks (zero ∷ u) (y ∷ v) f = walks u (y ∷ v) (λ c. f (next y ∷ c)) +ℤ walks (zero ∷ u) v (λ c. f (edge y ∷ c))
walks (suc x ∷ u) (y ∷ v) f = walks u (y ∷ v) (λ c. f (out (suc x) ∷ c))

abbrev pub entry : Cell → ℕ
entry (out x) = x
entry (edge y) = y
entry (next y) = y

-- the entries of the term
abbrev pub values : List Cell → List ℕ
values [] = []
values (d ∷ c) = entry d ∷ values c

-- the entries of u
abbrev pub ends : List Cell → List ℕ
ends [] = []
ends (out x ∷ c) = x ∷ ends c
ends (edge y ∷ c) = ends c
ends (next y ∷ c) = 0 ∷ ends c

-- the entries of v that were passed
abbrev pub passed : List Cell → List ℕ
passed [] = []
passed (out x ∷ c) = passed c
passed (edge y ∷ c) = y ∷ passed c
passed (next y ∷ c) = passed c

-- the exponent of the sign: for each caesura of v the caesuras of u that come later. W are the entries and U the entries of u that follow
abbrev pub expo_in : List Cell → List ℕ → List ℕ → ℕ
expo_in [] W U = 0
expo_in (out x ∷ p) W U = expo_in p W U
expo_in (edge y ∷ p) W U = occurs y (values p ++ W) * caesura_count (ends p ++ U) + expo_in p W U
expo_in (next y ∷ p) W U = expo_in p W U

abbrev pub expo : List Cell → ℕ
expo c = expo_in c [] []

-- h of the composition at 0
abbrev pub composed : List ℕ → List ℕ → (List ℕ → ℤ) → ℤ
composed u v h = walks u v (λ c. signed (expo c) (h (values c)))

pub walks-sum : (u v : List ℕ) (f g : List Cell → ℤ) → walks u v (λ c. f c +ℤ g c) ≡ walks u v f +ℤ walks u v g
walks-sum [] [] f g = refl
walks-sum [] (y ∷ []) f g = refl
walks-sum [] (y ∷ z ∷ v) f g = refl
walks-sum (x ∷ u) [] f g = refl
walks-sum (zero ∷ u) (y ∷ v) f g =
    let a = walks-sum u (y ∷ v) (λ c. f (next y ∷ c)) (λ c. g (next y ∷ c)) in
    let b = walks-sum (zero ∷ u) v (λ c. f (edge y ∷ c)) (λ c. g (edge y ∷ c)) in
    omega (arith, ints)
walks-sum (suc x ∷ u) (y ∷ v) f g = walks-sum u (y ∷ v) (λ c. f (out (suc x) ∷ c)) (λ c. g (out (suc x) ∷ c))

pub walks-zero : (u v : List ℕ) → walks u v (λ c. pos 0) ≡ pos 0
walks-zero u v = let s : walks u v (λ c. pos 0) ≡ walks u v (λ c. pos 0) +ℤ walks u v (λ c. pos 0) = walks-sum u v (λ c. pos 0) (λ c. pos 0) in omega (arith, ints)

pub walks-neg : (u v : List ℕ) (f : List Cell → ℤ) → walks u v (λ c. neg_ℤ (f c)) ≡ neg_ℤ (walks u v f)
walks-neg u v f =
    let z : walks u v (λ c. f c +ℤ neg_ℤ (f c)) ≡ pos 0 = (λ i. walks u v (λ c. (let e : f c +ℤ neg_ℤ (f c) ≡ pos 0 = omega (arith, ints) in e) i)) ∙ walks-zero u v in
    omega (arith, ints, z, walks-sum u v f (λ c. neg_ℤ (f c)))

pub walks-signed : (n : ℕ) (u v : List ℕ) (f : List Cell → ℤ) → walks u v (λ c. signed n (f c)) ≡ signed n (walks u v f)
walks-signed zero u v f = refl
walks-signed (suc n) u v f = walks-neg u v (λ c. signed n (f c)) ∙ ap neg_ℤ (walks-signed n u v f)

pub walks-when : (n : ℕ) (u v : List ℕ) (f : List Cell → ℤ) → walks u v (λ c. unless_zero n (f c)) ≡ unless_zero n (walks u v f)
walks-when zero u v f = walks-zero u v
walks-when (suc n) u v f = refl

pub walks-place_term : (p : List ℕ) (a : ℕ) (r u v : List ℕ) (f : List Cell → ℤ) → walks u v (λ c. place_term p a r (f c)) ≡ place_term p a r (walks u v f)
walks-place_term p a r u v f = walks-when (occurs a (p ++ r)) u v (λ c. signed (place_exponent p a r) (f c)) ∙ ap (λ z. unless_zero (occurs a (p ++ r)) z) (walks-signed (place_exponent p a r) u v f)

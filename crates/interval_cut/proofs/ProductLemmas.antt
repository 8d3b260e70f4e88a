-- The product of the values on the faces, one face after the other.
use Rattle.std.proofs.{Common.{◌⊎◌, inl, inr, of_z, to_z, w8, ◌≡◌, ℕ, suc, ◌+◌, ◌-◌, ◌*◌, ◌%◌, ◌/◌, ◌≤◌, ◌<◌, Bool, true, false, cond, ◌==◌, List, map, refl, sym, ◌∙◌, ap, ap₂, arith, ℤ, pos, negsuc, ◌*ℤ◌}, Math.IntN.zero-*ℤ, Math.Nat.mod-mod, lemmas.Bool.cases_eq}
use Rattle.signed_sum.{specs.Names.signed, proofs.Names.{signed-parity, signed-zero, mul_assoc, one-mul, mul_comm}}
use Rattle.linear_law.specs.Names.{negated}
use Rattle.simplicial_law.{specs.Names.CongruentInt, proofs.Names.{negated_whole, whole, CongruentInt-signed, CongruentInt-times, CongruentInt_of, CongruentInt_refl, CongruentInt_sym, CongruentInt_trans}}
use Rattle.interval_cut_law.specs.Names.{cut_face, vertex_at}
use Rattle.interval_cut.specs.Names.{product_from}

-- a number and its remainder
pub remainder : (p n x : ℕ) → x ≡ n % p → CongruentInt p (pos x) (pos n)
remainder p n x e = whole p x n (record { same = ap (λ k. k % p) e ∙ mod-mod n p })

abbrev whole_values : (List ℕ → ℕ) → List ℕ → ℤ
whole_values a f = pos (a f)

chosen : (b : Bool) (a c : List ℕ → ℕ) (f : List ℕ) → (cond {A = List ℕ → ℤ} b (whole_values c) (whole_values a)) f ≡ pos (cond b (c f) (a f))
chosen true a c f = refl
chosen false a c f = refl

-- one more face
pub product_step : (p r k left x y z : ℕ) (a c : List ℕ → ℕ) (u q s f vs : List ℕ) (w : ℤ) → k < r → f ≡ cut_face (k + 1) u 0 q → vs ≡ map (λ m. vertex_at s m) f
    → y ≡ cond (left % 2 == 1) (c vs) (a vs) → z ≡ (x * y) % p
    → CongruentInt p (pos x *ℤ product_from (k + 1) (r - k) left (λ g. pos (a g)) (λ g. pos (c g)) u q s) w
    → CongruentInt p (pos z *ℤ product_from (k + 1 + 1) (r - (k + 1)) (left / 2) (λ g. pos (a g)) (λ g. pos (c g)) u q s) w
product_step p r k left x y z a c u q s f vs w h ef ev ey ez i =
    let more : r - k ≡ suc (r - (k + 1)) = omega arith in
    let next : suc (k + 1) ≡ k + 1 + 1 = omega arith in
    let rest : ℤ = product_from (k + 1 + 1) (r - (k + 1)) (left / 2) (λ g. pos (a g)) (λ g. pos (c g)) u q s in
    let face : List ℕ = map (λ m. vertex_at s m) (cut_face (k + 1) u 0 q) in
    let same : vs ≡ face = ev ∙ ap (λ g. map (λ m. vertex_at s m) g) ef in
    let value : (cond {A = List ℕ → ℤ} (left % 2 == 1) (λ g. pos (c g)) (λ g. pos (a g))) face ≡ pos y =
    chosen (left % 2 == 1) a c face ∙ ap (λ g. pos (cond (left % 2 == 1) (c g) (a g))) (sym same) ∙ ap (λ n. pos n) (sym ey) in
    let first : product_from (k + 1) (r - k) left (λ g. pos (a g)) (λ g. pos (c g)) u q s ≡ pos y *ℤ rest =
    ap (λ m. product_from (k + 1) m left (λ g. pos (a g)) (λ g. pos (c g)) u q s) more
    ∙ ap₂ (λ (v : ℤ) (n : ℕ). v *ℤ product_from n (r - (k + 1)) (left / 2) (λ g. pos (a g)) (λ g. pos (c g)) u q s) value next in
    CongruentInt_trans (CongruentInt-times (remainder p (x * y) z ez) (CongruentInt_refl rest))
    (CongruentInt_trans (CongruentInt_of (mul_assoc (pos x) (pos y) rest ∙ ap (λ v. pos x *ℤ v) (sym first))) i)

pub product_start : (p r mask x : ℕ) (a c : List ℕ → ℕ) (u q s : List ℕ) → x ≡ 1 % p
    → CongruentInt p (pos x *ℤ product_from (0 + 1) (r - 0) mask (λ g. pos (a g)) (λ g. pos (c g)) u q s) (product_from 1 r mask (λ g. pos (a g)) (λ g. pos (c g)) u q s)
product_start p r mask x a c u q s e =
    let w : ℕ → ℤ = λ m. product_from 1 m mask (λ g. pos (a g)) (λ g. pos (c g)) u q s in
    let all : r - 0 ≡ r = omega arith in
    CongruentInt_trans (CongruentInt-times (remainder p 1 x e) (CongruentInt_refl (w (r - 0)))) (CongruentInt_of (one-mul (w (r - 0)) ∙ ap w all))

-- a product that is 0 stays so
pub product_zero : (p x : ℕ) (m w : ℤ) → x ≡ 0 → CongruentInt p (pos x *ℤ m) w → CongruentInt p (pos x) w
product_zero p x m w e h = CongruentInt_trans (CongruentInt_of (ap pos e ∙ sym (zero-*ℤ m) ∙ ap (λ n. pos n *ℤ m) (sym e))) h

pub product_end : (p r k left x : ℕ) (a c : List ℕ → ℕ) (u q s : List ℕ) (w : ℤ) → r ≤ k → CongruentInt p (pos x *ℤ product_from (k + 1) (r - k) left (λ g. pos (a g)) (λ g. pos (c g)) u q s) w → CongruentInt p (pos x) w
product_end p r k left x a c u q s w h i =
    let none : r - k ≡ 0 = omega arith in
    CongruentInt_trans
    (CongruentInt_of (sym (ap (λ m. pos x *ℤ product_from (k + 1) m left (λ g. pos (a g)) (λ g. pos (c g)) u q s) none ∙ mul_comm (pos x) (pos 1) ∙ one-mul (pos x)))) i

-- ---- signs

odd_or_even : (e : ℕ) → (e % 2 ≡ 0) ⊎ (e % 2 ≡ 1)
odd_or_even e = elim (cases_eq (e % 2) 0) [ inl h ↦ inl h | inr h ↦ inr (omega arith) ]

pub positive_sign : (p e n : ℕ) (sign : ℤ) → sign ≡ signed e (pos 1) → of_z w8 sign ≡ 1 → CongruentInt p (pos n) (signed e (pos n))
positive_sign p e n sign h t = elim (odd_or_even e) [
  | inl q ↦ CongruentInt_of (sym (signed-parity e 0 (pos n) q))
  | inr q ↦ absurd (let f : of_z w8 (negsuc 0) ≡ 1 = ap (λ z. of_z w8 z) (sym (signed-parity e 1 (pos 1) q) ∙ sym h) ∙ t in omega arith)
]

pub negative_sign : (p e n m : ℕ) (sign : ℤ) → 1 < p → sign ≡ signed e (pos 1) → (of_z w8 sign ≡ 1 → ⊥) → m ≡ negated p n % p → CongruentInt p (pos m) (signed e (pos n))
negative_sign p e n m sign large h t k = elim (odd_or_even e) [
  | inl q ↦ absurd (t (ap (λ z. of_z w8 z) (h ∙ signed-parity e 0 (pos 1) q)))
  | inr q ↦
      CongruentInt_trans (remainder p (negated p n) m k)
      (CongruentInt_trans (CongruentInt_sym (negated_whole p n large)) (CongruentInt_of (sym (signed-parity e 1 (pos n) q))))
]

-- a sign is in the range of its type
pub small_sign : (e : ℕ) (sign : ℤ) → sign ≡ signed e (pos 1) → to_z w8 (of_z w8 sign) ≡ signed e (pos 1)
small_sign e sign h = elim (odd_or_even e) [
  | inl q ↦ let f : sign ≡ pos 1 = h ∙ signed-parity e 0 (pos 1) q in ap (λ z. to_z w8 (of_z w8 z)) f ∙ sym f ∙ h
  | inr q ↦ let f : sign ≡ negsuc 0 = h ∙ signed-parity e 1 (pos 1) q in ap (λ z. to_z w8 (of_z w8 z)) f ∙ sym f ∙ h
]

-- a product that is 0 stays so with a sign
pub zero_term : (p e x : ℕ) → x ≡ 0 → (w : ℤ) → CongruentInt p (pos x) w → CongruentInt p (pos x) (signed e w)
zero_term p e x z w h =
    CongruentInt_trans (CongruentInt_of (ap pos z ∙ sym (signed-zero e) ∙ ap (λ n. signed e (pos n)) (sym z))) (CongruentInt-signed e h)

pub signed_term : (p e x y : ℕ) → CongruentInt p (pos y) (signed e (pos x)) → (w : ℤ) → CongruentInt p (pos x) w → CongruentInt p (pos y) (signed e w)
signed_term p e x y h w k = CongruentInt_trans h (CongruentInt-signed e k)

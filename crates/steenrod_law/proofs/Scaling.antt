-- D of c a is c times D of a.
use Rattle.std.proofs.{Common.{◌≡◌, ℕ, zero, suc, ◌≤◌, List, [], ◌∷◌, refl, sym, ◌∙◌, ap, arith, ℤ, pos, ◌+ℤ◌, ◌*ℤ◌}, Math.IntN.{zero-*ℤ, *ℤ-zero, *ℤ_comm}, lemmas.Int.ints}
use Rattle.interval_cut_law.{proofs.CochainLaws.cut_sum-sum, specs.Names.{cut_sum, operation_value, value_product}}
use Rattle.signed_sum.proofs.Names.{add-mul, mul_assoc, one-mul}
use Rattle.simplicial_law.{proofs.Names.{CongruentInt-sum, CongruentInt-times, CongruentInt_from, CongruentInt_of, CongruentInt_refl, CongruentInt_sym, CongruentInt_trans}, specs.Names.CongruentInt}
use Rattle.steenrod_law.{proofs.AdditiveMaps.adds-scale, proofs.Binomials.{difference, difference-sum, difference-whole}, proofs.Forms.{IsPrime, SurjectionTerm, operation_of, value_over}, proofs.WordCochains.over-sum, specs.Names.copies}

pub pow : ℤ → ℕ → ℤ
pow c zero = pos 1
pow c (suc k) = c *ℤ pow c k

difference-pow : (c : ℤ) (n : ℕ) → difference n (pow (c +ℤ pos 1)) ≡ pow c n
unfolding pow
difference-pow c zero = refl
difference-pow c (suc n) =
    let x : ℤ = difference n (pow (c +ℤ pos 1)) in
    let s = adds-scale (difference n) (difference-sum n) (c +ℤ pos 1) (pow (c +ℤ pos 1)) in
    let m = add-mul c (pos 1) x in
    let o = one-mul x in
    let h : c *ℤ x ≡ c *ℤ pow c n = ap (λ z. c *ℤ z) (difference-pow c n) in
    omega (arith, ints)

pow-zero : (n : ℕ) → 1 ≤ n → pow (pos 0) n ≡ pos 0
unfolding pow
pow-zero zero h = absurd (omega (arith, h))
pow-zero (suc n) h = zero-*ℤ (pow (pos 0) n)

pub fermat : (p c : ℕ) → IsPrime p → CongruentInt p (pow (pos c) p) (pos c)
unfolding pow
fermat p zero prime = CongruentInt_of (pow-zero p (let t = prime.two in omega arith))
fermat p (suc n) prime =
    let up = difference-whole p (pow (pos (suc n))) prime in
    let e : pos (suc n) ≡ pos n +ℤ pos 1 = omega (arith, ints) in
    let same = ap (λ z. difference p (pow z)) e ∙ difference-pow (pos n) p in
    CongruentInt_from (CongruentInt-sum (fermat p n prime) (CongruentInt_sym up)) (omega (arith, ints))

product-scale : (c : ℤ) (a : List ℕ → ℤ) (k : ℕ) (fs : List (List ℕ)) → value_product (copies k (λ f. c *ℤ a f)) fs ≡ pow c k *ℤ value_product (copies k a) fs
unfolding pow
product-scale c a zero [] = refl
product-scale c a zero (f ∷ fs) = refl
product-scale c a (suc k) [] = sym (*ℤ-zero (c *ℤ pow c k))
product-scale c a (suc k) (f ∷ fs) =
    let x : ℤ = value_product (copies k a) fs in
    ap (λ z. (c *ℤ a f) *ℤ z) (product-scale c a k fs) ∙ mul_assoc c (a f) (pow c k *ℤ x)
    ∙ ap (λ z. c *ℤ z) (sym (mul_assoc (a f) (pow c k) x) ∙ ap (λ z. z *ℤ x) (*ℤ_comm (a f) (pow c k)) ∙ mul_assoc (pow c k) (a f) x)
    ∙ sym (mul_assoc c (pow c k) (a f *ℤ x))

pub scales : (p : ℕ) (x : List SurjectionTerm) (c : ℕ) (a : List ℕ → ℤ) (s : List ℕ) → IsPrime p →
    CongruentInt p (operation_of p x (λ f. pos c *ℤ a f) s) (pos c *ℤ operation_of p x a s)
scales p x c a s prime =
    let v : ℤ = operation_of p x a s in
    CongruentInt_trans
    (CongruentInt_of
    (ap (value_over x) (λ i u. one u i) ∙ adds-scale (value_over x) (over-sum x) (pow (pos c) p) (λ u. operation_value p u (copies p a) s)))
    (CongruentInt-times (fermat p c prime) (CongruentInt_refl v))
  where
    one : (u : List ℕ) → operation_value p u (copies p (λ f. pos c *ℤ a f)) s ≡ pow (pos c) p *ℤ operation_value p u (copies p a) s
    one u = ap (λ phi. cut_sum phi p u s) (λ i fs. product-scale (pos c) a p fs i) ∙ adds-scale (λ phi. cut_sum phi p u s) (cut_sum-sum p u s) (pow (pos c) p) (value_product (copies p a))

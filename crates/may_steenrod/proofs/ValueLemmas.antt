-- Values of the products and sums at a simplex.
use Rattle.std.proofs.{Common.{◌≡◌, ℕ, zero, suc, ◌+◌, ◌*◌, ◌%◌, ◌<◌, ◌≤◌, List, [], ◌∷◌, ◌++◌, map, length, take, take_all, drop, get_or, get_or-take, arith, refl, sym, ap, ap₂, subst, ◌∙◌, Vec, Global, pos, ◌+ℤ◌, ◌*ℤ◌, length-take-le, take-append-drop}, lemmas.List.{get_or_default, map-append, take_more}}
use native.Mathlib.Nat.{zero-mod}
use Rattle.simplicial_law.{specs.Names.CongruentInt, proofs.Names.{CongruentInt_of, CongruentInt_trans}}
use Rattle.interval_cut.proofs.ProductLemmas.{remainder}
use Rattle.linear_law.{specs.Names.{Congruent, sum_over, Each}, proofs.Names.{each_get_or, Congruent_add, Congruent_mod, Congruent_mul, Congruent_of, Congruent_refl, Congruent_trans}}
use Rattle.sparse_rows.proofs.RowLemmas.{sum_take}
use Rattle.interval_cut_law.specs.Names.{vertex_at}
use Rattle.complex_index.specs.Names.{list_at}
use Rattle.may_steenrod.specs.{declared.face_sum.Term.Term, FaceSums.{AreNumbered, face_product, face_sum, product_at, term_product, terms_in, value_on_face}}

product-append : (vs xs ys : List ℕ) → product_at vs (xs ++ ys) ≡ product_at vs xs * product_at vs ys
product-append vs [] ys = omega arith
product-append vs (x ∷ xs) ys = ap (λ n. get_or vs x 0 * n) (product-append vs xs ys) ∙ omega arith

-- the value of the faces at the simplex, by number
value-at : (a : List ℕ → ℕ) (s : List ℕ) (fs : List (Vec ℕ Global)) (k : ℕ) → k < length fs → get_or (map (value_on_face a s) fs) k 0 ≡ a (map (λ i. vertex_at s i) (list_at fs k))
value-at a s [] k h = absurd (omega arith)
value-at a s (f ∷ fs) zero h = refl
value-at a s (f ∷ fs) (suc k) h = value-at a s fs k (omega arith)

product-faces : (a : List ℕ → ℕ) (s : List ℕ) (fs : List (Vec ℕ Global)) (ks : List ℕ) → Each (λ k. k < length fs) ks
    → pos (product_at (map (value_on_face a s) fs) ks) ≡ face_product (λ f. pos (a f)) s (map (list_at fs) ks)
product-faces a s fs [] h = refl
product-faces a s fs (k ∷ ks) h = ap₂ (λ x y. pos x *ℤ y) (value-at a s fs k h.0) (product-faces a s fs ks h.1)

-- the sum with the values of the faces is the sum of the products
pub sum-faces : {p : ℕ} (a : List ℕ → ℕ) (s : List ℕ) (fs : List (Vec ℕ Global)) (ts : List (Term p)) → AreNumbered fs ts
    → pos (sum_over (term_product (map (value_on_face a s) fs)) ts) ≡ face_sum (λ f. pos (a f)) s (terms_in fs ts)
sum-faces a s fs [] h = refl
sum-faces {p} a s fs (t ∷ ts) h =
    ap₂ (λ x y. pos t.coefficient *ℤ x +ℤ y) (product-faces a s fs (take p t.faces) h.0) (sum-faces a s fs ts h.1)

-- ---- the product, one number after the other

-- a remainder of a product
times-rest : (p a b x : ℕ) → x ≡ a % p → (x * b) % p ≡ (a * b) % p
times-rest p a b x e = ap (λ n. (n * b) % p) e ∙ (Congruent_mul (Congruent_mod p a) (Congruent_refl b)).same

pub product-step : (p k x y z : ℕ) (vs ks : List ℕ) → k < length ks → y ≡ get_or vs (get_or ks k 0) 0 → z ≡ (x * y) % p
    → x ≡ product_at vs (take k ks) % p → z ≡ product_at vs (take (k + 1) ks) % p
product-step p k x y z vs ks l e f h =
    f ∙ times-rest p (product_at vs (take k ks)) y x h
    ∙ ap (λ n. n % p) (sym (ap (product_at vs) (take_more ks k 0 l) ∙ product-append vs (take k ks) (get_or ks k 0 ∷ [])
    ∙ ap (λ n. product_at vs (take k ks) * n) (one (get_or vs (get_or ks k 0) 0) ∙ sym e)))
  where
    one : (n : ℕ) → n * 1 ≡ n
    one n = omega arith

pub product-zero : (p k z : ℕ) (vs ks : List ℕ) → z ≡ 0 → z ≡ product_at vs (take k ks) % p → z ≡ product_at vs ks % p
product-zero p k z vs ks e h =
    let rest : ℕ = product_at vs (drop k ks) in
    e ∙ nothing rest ∙ times-rest p (product_at vs (take k ks)) rest 0 (sym e ∙ h)
    ∙ ap (λ n. n % p) (sym (product-append vs (take k ks) (drop k ks)) ∙ ap (product_at vs) (take-append-drop k ks))
  where
    nothing : (n : ℕ) → 0 ≡ (0 * n) % p
    nothing n = zero-mod-of p (0 * n) (omega arith)
      where
        zero-mod-of : (p m : ℕ) → m ≡ 0 → 0 ≡ m % p
        zero-mod-of p m e = sym (ap (λ n. n % p) e ∙ zero-mod p)

pub product-end : (p k z : ℕ) (vs ks : List ℕ) → length ks ≤ k → z ≡ product_at vs (take k ks) % p → z ≡ product_at vs ks % p
product-end p k z vs ks l h = h ∙ ap (λ xs. product_at vs xs % p) (take_all k ks l)

-- ---- the sum, one term after the other

pub sum-step : {p : ℕ} (i sum r m next : ℕ) (vs : List ℕ) (ts : List (Term p)) (t : Term p) → i < length ts → t ≡ get_or ts i t
    → r ≡ product_at vs (take p t.faces) % p → m ≡ (t.coefficient * r) % p → next ≡ (sum + m) % p
    → sum ≡ sum_over (term_product vs) (take i ts) % p → next ≡ sum_over (term_product vs) (take (i + 1) ts) % p
sum-step {p} i sum r m next vs ts t l e f g h k =
    let x : ℕ = product_at vs (take p t.faces) in
    let one : Congruent p m (t.coefficient * x) =
    Congruent_trans (Congruent_of g) (Congruent_trans (Congruent_mod p (t.coefficient * r)) (Congruent_mul (Congruent_refl t.coefficient) (Congruent_trans (Congruent_of f) (Congruent_mod p x)))) in
    let all : Congruent p (sum + m) (sum_over (term_product vs) (take i ts) + t.coefficient * x) =
    Congruent_add (Congruent_trans (Congruent_of k) (Congruent_mod p (sum_over (term_product vs) (take i ts)))) one in
    h ∙ all.same
    ∙ ap (λ n. n % p) (ap (λ (y : Term p). sum_over (term_product vs) (take i ts) + term_product vs y) e ∙ sym (sum_take (term_product vs) ts i t l))

-- ---- lists, one item after the other

pub map-more : {X Y : Type 0} (f : X → Y) (xs : List X) (i : ℕ) (d : X) (ys news : List Y) (y : Y) → i < length xs → d ≡ get_or xs i d → news ≡ ys ++ y ∷ [] → y ≡ f d
    → ys ≡ map f (take i xs) → news ≡ map f (take (i + 1) xs)
map-more f xs i d ys news y l e n g h =
    n ∙ ap₂ (λ zs z. zs ++ z ∷ []) h (g ∙ ap f e) ∙ sym (map-append f (take i xs) (get_or xs i d ∷ [])) ∙ ap (map f) (sym (take_more xs i d l))

-- the value of the sum at a simplex
pub value-of-sum : {p : ℕ} (a : List ℕ → ℕ) (s : List ℕ) (fs : List (Vec ℕ Global)) (ts : List (Term p)) (vs : List ℕ) (x : ℕ) → AreNumbered fs ts
    → vs ≡ map (value_on_face a s) fs → x ≡ sum_over (term_product vs) ts % p → CongruentInt p (pos x) (face_sum (λ f. pos (a f)) s (terms_in fs ts))
value-of-sum {p} a s fs ts vs x n e h =
    CongruentInt_trans (remainder p (sum_over (term_product vs) ts) x h)
    (CongruentInt_of (ap (λ (ws : List ℕ). pos (sum_over (term_product ws) ts)) e ∙ sum-faces a s fs ts n))

-- one more number of the product
pub product-next : (p k n x y z : ℕ) (vs ns : List ℕ) → n ≤ length ns → k < n → Each (λ j. j < length vs) (take n ns) → y ≡ get_or vs (get_or ns k 0) y → z ≡ (x * y) % p
    → x ≡ product_at vs (take k (take n ns)) % p → z ≡ product_at vs (take (k + 1) (take n ns)) % p
product-next p k n x y z vs ns room l inside e f h =
    let long : length (take n ns) ≡ n = length-take-le n ns room in
    let here : k < length (take n ns) = omega arith in
    let same : get_or (take n ns) k 0 ≡ get_or ns k 0 = rw get_or-take in
    let there : get_or ns k 0 < length vs = subst (λ j. j < length vs) same (each_get_or (λ j. j < length vs) (take n ns) k 0 here inside) in
    product-step p k x y z vs (take n ns) here (e ∙ get_or_default vs (get_or ns k 0) y 0 there ∙ ap (λ j. get_or vs j 0) (sym same)) f h

-- Pairs: their degree, boundary and turn.
use Rattle.std.proofs.{Common.{◌≡◌, ℕ, zero, suc, ◌+◌, ◌≤◌, ◌++◌, List, [], ◌∷◌, refl, sym, ◌∙◌, ap, inl, inr, arith, ℤ, pos, ◌+ℤ◌, neg_ℤ, ◌*ℤ◌, All, Bool, true, false, IsTrue, ◌&&◌}, lemmas.Int.ints, lemmas.List.Elements.{All-append, All-map, All-weaker}}
use Rattle.signed_sum.{specs.Names.{signed, total, value_at, weight_of, IsSign, after_turns, pair_boundary, pair_degree, pair_turn, paired_before, paired_behind}, proofs.Ring.{mul-add, mul_assoc, mul_comm}, proofs.SignLemmas.signed-mul, proofs.SumLemmas.{total-append, total-map, value_at-nothing, value_at-same, value_at-scaled, value_at-signed, value_at-sum, weight_of-append}, proofs.MaskLemmas.{abs-signed, weight-map}}

-- ---- values
pub value_at-before : {X Y : Type 0} (phi : X × Y → ℤ) (y : Y) (ts : List (X × ℤ)) → value_at phi (paired_before y ts) ≡ value_at (λ x. phi (x, y)) ts
value_at-before phi y ts = total-map (λ (t : (_ × _) × ℤ). t.1 *ℤ phi t.0) (λ t. ((t.0, y), t.1)) ts

pub value_at-behind : {X Y : Type 0} (phi : X × Y → ℤ) (n : ℕ) (x : X) (ts : List (Y × ℤ)) → value_at phi (paired_behind n x ts) ≡ signed n (value_at (λ y. phi (x, y)) ts)
value_at-behind phi n x ts =
    total-map (λ (t : (_ × _) × ℤ). t.1 *ℤ phi t.0) (λ t. ((x, t.0), signed n t.1)) ts
    ∙ (λ i. total (λ t. passes n t.1 (phi (x, t.0)) i) ts)
    ∙ value_at-signed n (λ y. phi (x, y)) ts
  where
    passes : (n : ℕ) (a b : ℤ) → signed n a *ℤ b ≡ a *ℤ signed n b
    passes n a b = mul_comm (signed n a) b ∙ sym (signed-mul n b a) ∙ ap (signed n) (mul_comm b a) ∙ signed-mul n a b

-- a function of pairs at the boundary of a pair
pub value_at-pair : {X Y : Type 0} (degree : X → ℕ) (boundary : X → List (X × ℤ)) (other : Y → List (Y × ℤ)) (phi : X × Y → ℤ) (x : X) (y : Y) →
    value_at phi (pair_boundary degree boundary other (x, y)) ≡ value_at (λ z. phi (z, y)) (boundary x) +ℤ signed (degree x) (value_at (λ z. phi (x, z)) (other y))
value_at-pair degree boundary other phi x y =
    total-append (λ t. t.1 *ℤ phi t.0) (paired_before y (boundary x)) (paired_behind (degree x) x (other y))
    ∙ (λ i. value_at-before phi y (boundary x) i +ℤ value_at-behind phi (degree x) x (other y) i)

-- two sums in either order
exchanged : {X Y : Type 0} (f : X → Y → ℤ) (ts : List (X × ℤ)) (us : List (Y × ℤ)) → value_at (λ x. value_at (f x) us) ts ≡ value_at (λ y. value_at (λ x. f x y) ts) us
exchanged f [] us = sym (value_at-nothing us)
exchanged f (t ∷ ts) us =
    (λ i. sym (value_at-scaled t.1 (f t.0) us) i +ℤ exchanged f ts us i)
    ∙ sym (value_at-sum (λ y. t.1 *ℤ f t.0 y) (λ y. value_at (λ x. f x y) ts) us)

-- ---- the boundary
pub pair_boundary-twice : {X Y : Type 0} (degree : X → ℕ) (boundary : X → List (X × ℤ)) (other : Y → List (Y × ℤ)) (phi : X × Y → ℤ) (x : X) (y : Y) →
    All (λ t. degree t.0 + 1 ≡ degree x) (boundary x) →
    ((psi : X → ℤ) → value_at (λ z. value_at psi (boundary z)) (boundary x) ≡ pos 0) →
    ((psi : Y → ℤ) → value_at (λ z. value_at psi (other z)) (other y) ≡ pos 0) →
    value_at (λ q. value_at phi (pair_boundary degree boundary other q)) (pair_boundary degree boundary other (x, y)) ≡ pos 0
pair_boundary-twice {X = X} {Y = Y} degree boundary other phi x y lower first second =
    let n = degree x in
    let lefts : X → Y → ℤ = λ u v. value_at (λ z. phi (z, v)) (boundary u) in
    let rights : X → Y → ℤ = λ u v. value_at (λ z. phi (u, z)) (other v) in
    let both : ℤ = value_at (λ u. rights u y) (boundary x) in
    let at_first : value_at (λ u. value_at phi (pair_boundary degree boundary other (u, y))) (boundary x) ≡ neg_ℤ (signed n both) =
    (λ i. value_at (λ u. value_at-pair degree boundary other phi u y i) (boundary x))
    ∙ value_at-sum (λ u. lefts u y) (λ u. signed (degree u) (rights u y)) (boundary x)
    ∙ (λ i. first (λ z. phi (z, y)) i
    +ℤ value_at-same (λ u. degree u + 1 ≡ n) (λ u. signed (degree u) (rights u y)) (λ u. signed (suc n) (rights u y)) (boundary x) (λ u e. one_less (degree u) n (rights u y) e) lower i)
    ∙ ap (λ z. pos 0 +ℤ z) (value_at-signed (suc n) (λ u. rights u y) (boundary x))
    ∙ plain (signed (suc n) both) in
    let at_second : value_at (λ v. value_at phi (pair_boundary degree boundary other (x, v))) (other y) ≡ both =
    (λ i. value_at (λ v. value_at-pair degree boundary other phi x v i) (other y))
    ∙ value_at-sum (λ v. lefts x v) (λ v. signed n (rights x v)) (other y)
    ∙ ap (λ z. value_at (λ v. lefts x v) (other y) +ℤ z) (value_at-signed n (λ v. rights x v) (other y) ∙ ap (signed n) (second (λ z. phi (x, z))) ∙ none n)
    ∙ behind (value_at (λ v. lefts x v) (other y))
    ∙ sym (exchanged (λ u v. phi (u, v)) (boundary x) (other y)) in
    value_at-pair degree boundary other (λ q. value_at phi (pair_boundary degree boundary other q)) x y
    ∙ (λ i. at_first i +ℤ signed n (at_second i))
    ∙ cancels (signed n both)
  where
    plain : (z : ℤ) → pos 0 +ℤ z ≡ z
    plain z = omega (arith, ints)

    behind : (z : ℤ) → z +ℤ pos 0 ≡ z
    behind z = omega (arith, ints)

    cancels : (z : ℤ) → neg_ℤ z +ℤ z ≡ pos 0
    cancels z = omega (arith, ints)

    none : (n : ℕ) → signed n (pos 0) ≡ pos 0
    none zero = refl
    none (suc n) = ap neg_ℤ (none n)

    twice_less : (m : ℕ) (z : ℤ) → signed m z ≡ signed (suc (suc m)) z
    twice_less m z = omega (arith, ints)

    one_less : (m n : ℕ) (z : ℤ) → m + 1 ≡ n → signed m z ≡ signed (suc n) z
    one_less m n z e = let k : suc (suc m) ≡ suc n = omega arith in twice_less m z ∙ ap (λ j. signed j z) k

pub pair_boundary-all : {X Y : Type 0} (degree : X → ℕ) (boundary : X → List (X × ℤ)) (other : Y → List (Y × ℤ)) (P : X → Type 0) (Q : Y → Type 0) (R : X × Y → Type 0) (x : X) (y : Y) →
    ((z : X) → P z → R (z, y)) → ((z : Y) → Q z → R (x, z)) → All (λ t. P t.0) (boundary x) → All (λ t. Q t.0) (other y) → All (λ t. R t.0) (pair_boundary degree boundary other (x, y))
pair_boundary-all degree boundary other P Q R x y f g a b =
    All-append (λ t. R t.0) (paired_before y (boundary x)) (paired_behind (degree x) x (other y))
    (All-map (λ t. R t.0) (λ t. ((t.0, y), t.1)) (boundary x) (All-weaker (λ t. P t.0) (λ t. R (t.0, y)) (λ t. f t.0) (boundary x) a))
    (All-map (λ t. R t.0) (λ t. ((x, t.0), signed (degree x) t.1)) (other y) (All-weaker (λ t. Q t.0) (λ t. R (x, t.0)) (λ t. g t.0) (other y) b))

pub pair_boundary-degree : {X Y : Type 0} (degree : X → ℕ) (height : Y → ℕ) (boundary : X → List (X × ℤ)) (other : Y → List (Y × ℤ)) (x : X) (y : Y) →
    All (λ t. degree t.0 + 1 ≡ degree x) (boundary x) → All (λ t. height t.0 + 1 ≡ height y) (other y) →
    All (λ t. pair_degree degree height t.0 + 1 ≡ pair_degree degree height (x, y)) (pair_boundary degree boundary other (x, y))
pair_boundary-degree degree height boundary other x y =
    pair_boundary-all degree boundary other (λ z. degree z + 1 ≡ degree x) (λ z. height z + 1 ≡ height y) (λ q. pair_degree degree height q + 1 ≡ pair_degree degree height (x, y)) x y
    (λ z e. omega arith) (λ z e. omega arith)

pub pair_boundary-none : {X Y : Type 0} (degree : X → ℕ) (height : Y → ℕ) (boundary : X → List (X × ℤ)) (other : Y → List (Y × ℤ)) (x : X) (y : Y) →
    (degree x ≡ 0 → boundary x ≡ []) → (height y ≡ 0 → other y ≡ []) → pair_degree degree height (x, y) ≡ 0 → pair_boundary degree boundary other (x, y) ≡ []
pair_boundary-none degree height boundary other x y f g e =
    let a : degree x ≡ 0 = omega arith in
    let b : height y ≡ 0 = omega arith in
    λ i. paired_before y (f a i) ++ paired_behind (degree x) x (g b i)

pub paired_before-weight : {X Y : Type 0} (y : Y) (ts : List (X × ℤ)) → weight_of (paired_before y ts) ≡ weight_of ts
paired_before-weight y ts = weight-map (λ t. ((t.0, y), t.1)) ts (λ t. refl)

pub paired_behind-weight : {X Y : Type 0} (n : ℕ) (x : X) (ts : List (Y × ℤ)) → weight_of (paired_behind n x ts) ≡ weight_of ts
paired_behind-weight n x ts = weight-map (λ t. ((x, t.0), signed n t.1)) ts (λ t. abs-signed n t.1)

pub pair_boundary-weight : {X Y : Type 0} (degree : X → ℕ) (boundary : X → List (X × ℤ)) (other : Y → List (Y × ℤ)) (x : X) (y : Y) →
    weight_of (boundary x) ≤ 255 → weight_of (other y) ≤ 255 → weight_of (pair_boundary degree boundary other (x, y)) ≤ 510
pair_boundary-weight degree boundary other x y h k =
    let a = weight_of-append (paired_before y (boundary x)) (paired_behind (degree x) x (other y)) in
    let b = paired_before-weight y (boundary x) in
    let c = paired_behind-weight (degree x) x (other y) in
    omega arith

-- ---- the turn
-- the factors of two products, sorted
sorted : (a b c d : ℤ) → (a *ℤ b) *ℤ (c *ℤ d) ≡ (a *ℤ c) *ℤ (b *ℤ d)
sorted a b c d =
    mul_assoc a b (c *ℤ d)
    ∙ ap (λ z. a *ℤ z) (sym (mul_assoc b c d) ∙ ap (λ z. z *ℤ d) (mul_comm b c) ∙ mul_assoc c b d)
    ∙ sym (mul_assoc a c (b *ℤ d))

pub pair_turn-sign : (s t : ℤ) → IsSign s → IsSign t → IsSign (s *ℤ t)
pair_turn-sign s t (inl e) (inl f) = inl (λ i. e i *ℤ f i)
pair_turn-sign s t (inl e) (inr f) = inr (λ i. e i *ℤ f i)
pair_turn-sign s t (inr e) (inl f) = inr (λ i. e i *ℤ f i)
pair_turn-sign s t (inr e) (inr f) = inl (λ i. e i *ℤ f i)

turns-of-pairs : {X Y : Type 0} (turn : X → X × ℤ) (other : Y → Y × ℤ) (n : ℕ) (x : X) (y : Y) →
    after_turns (pair_turn turn other) n (x, y) ≡ (((after_turns turn n x).0, (after_turns other n y).0), (after_turns turn n x).1 *ℤ (after_turns other n y).1)
turns-of-pairs turn other zero x y = refl
turns-of-pairs turn other (suc n) x y =
    let p = after_turns turn n x in
    let q = after_turns other n y in
    (λ i. let r = turns-of-pairs turn other n x y i in let t = pair_turn turn other r.0 in (t.0, r.1 *ℤ t.1))
    ∙ (λ i. (((turn p.0).0, (other q.0).0), sorted p.1 q.1 (turn p.0).1 (other q.0).1 i))

pub pair_turned-round : {X Y : Type 0} (turn : X → X × ℤ) (other : Y → Y × ℤ) (n : ℕ) (x : X) (y : Y) → after_turns turn n x ≡ (x, pos 1) → after_turns other n y ≡ (y, pos 1) →
    after_turns (pair_turn turn other) n (x, y) ≡ ((x, y), pos 1)
pair_turned-round turn other n x y e f = turns-of-pairs turn other n x y ∙ (λ i. (((e i).0, (f i).0), (e i).1 *ℤ (f i).1))

-- the boundary commutes with the turn of pairs, where it commutes with both turns
pub pair_boundary-turn : {X Y : Type 0} (degree : X → ℕ) (boundary : X → List (X × ℤ)) (other : Y → List (Y × ℤ)) (turn : X → X × ℤ) (roll : Y → Y × ℤ) (phi : X × Y → ℤ) (x : X) (y : Y) →
    degree (turn x).0 ≡ degree x →
    ((psi : X → ℤ) → (turn x).1 *ℤ value_at psi (boundary (turn x).0) ≡ value_at (λ z. (turn z).1 *ℤ psi (turn z).0) (boundary x)) →
    ((psi : Y → ℤ) → (roll y).1 *ℤ value_at psi (other (roll y).0) ≡ value_at (λ z. (roll z).1 *ℤ psi (roll z).0) (other y)) →
    (pair_turn turn roll (x, y)).1 *ℤ value_at phi (pair_boundary degree boundary other (pair_turn turn roll (x, y)).0)
    ≡ value_at (λ q. (pair_turn turn roll q).1 *ℤ phi (pair_turn turn roll q).0) (pair_boundary degree boundary other (x, y))
pair_boundary-turn {X = X} {Y = Y} degree boundary other turn roll phi x y same first second =
    let s = (turn x).1 in
    let t = (roll y).1 in
    let u = (turn x).0 in
    let v = (roll y).0 in
    let a : ℤ = value_at (λ z. phi (z, v)) (boundary u) in
    let b : ℤ = value_at (λ z. phi (u, z)) (other v) in
    let f : X → ℤ = λ z. (turn z).1 *ℤ phi ((turn z).0, v) in
    let g : Y → ℤ = λ z. (roll z).1 *ℤ phi (u, (roll z).0) in
    let here : value_at phi (pair_boundary degree boundary other (u, v)) ≡ a +ℤ signed (degree x) b = value_at-pair degree boundary other phi u v ∙ ap (λ n. a +ℤ signed n b) same in
    let lefts : (s *ℤ t) *ℤ a ≡ value_at (λ z. ((turn z).1 *ℤ t) *ℤ phi ((turn z).0, v)) (boundary x) =
    ap (λ k. k *ℤ a) (mul_comm s t) ∙ mul_assoc t s a ∙ ap (λ k. t *ℤ k) (first (λ z. phi (z, v)))
    ∙ sym (value_at-scaled t f (boundary x))
    ∙ (λ i. value_at (λ z. sorted_first t (turn z).1 (phi ((turn z).0, v)) i) (boundary x)) in
    let rights : (s *ℤ t) *ℤ signed (degree x) b ≡ signed (degree x) (value_at (λ z. (s *ℤ (roll z).1) *ℤ phi (u, (roll z).0)) (other y)) =
    sym (signed-mul (degree x) (s *ℤ t) b)
    ∙ ap (signed (degree x))
    (mul_assoc s t b ∙ ap (λ k. s *ℤ k) (second (λ z. phi (u, z))) ∙ sym (value_at-scaled s g (other y))
    ∙ (λ i. value_at (λ z. sym (mul_assoc s (roll z).1 (phi (u, (roll z).0))) i) (other y))) in
    ap (λ k. (s *ℤ t) *ℤ k) here
    ∙ mul-add (s *ℤ t) a (signed (degree x) b)
    ∙ (λ i. lefts i +ℤ rights i)
    ∙ sym (value_at-pair degree boundary other (λ q. (pair_turn turn roll q).1 *ℤ phi (pair_turn turn roll q).0) x y)
  where
    sorted_first : (t k z : ℤ) → t *ℤ (k *ℤ z) ≡ (k *ℤ t) *ℤ z
    sorted_first t k z = sym (mul_assoc t k z) ∙ ap (λ j. j *ℤ z) (mul_comm t k)

-- ---- both parts
pub both-true : (a b : Bool) → IsTrue (a && b) → IsTrue a × IsTrue b
both-true true b h = (refl, h)
both-true false b h = (h, absurd (cc h))

pub true-both : (a b : Bool) → IsTrue a → IsTrue b → IsTrue (a && b)
true-both true b h k = k
true-both false b h k = h

pub sums-same : {a b c d : ℕ} → a ≡ c → b ≡ d → a + b ≡ c + d
sums-same e f = λ i. e i + f i

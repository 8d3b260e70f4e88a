-- The terms of a surjection, from its live cuts.
use Rattle.std.proofs.{Common.{◌≡◌, ℕ, zero, suc, ◌-◌, ◌*◌, ◌%◌, ◌<◌, ◌≤◌, List, [], ◌∷◌, map, length, arith, refl, sym, ap, subst, ◌∙◌, lit≤, ℤ, pos, ◌+ℤ◌, ◌*ℤ◌, IsSome, IsTrue, pred}, lemmas.Int.ints}
use Rattle.fp_field.{specs.Served.served, proofs.ServedLemmas.for_served}
use Rattle.signed_sum.{specs.Names.{numbers_from, signed, total}, proofs.Names.{mul-add, mul_comm, signed-mul, fun_ext}}
use Rattle.simplicial_law.{specs.Names.CongruentInt, proofs.Names.{CongruentInt-scale, CongruentInt-sum, CongruentInt-times, CongruentInt_of, CongruentInt_refl, CongruentInt_trans}}
use Rattle.surjection_law.specs.Names.{arity}
use Rattle.interval_cut_law.specs.Names.{cut_faces, cuts, sign_exponent, vertex_at, operation_value, value_product}
use Rattle.interval_cut.{specs.Names.{LiveWalk, live_start, live_top, by_mask, signed_product, cut_of, next_walk, IsOfDegree}, proofs.EvaluationLemmas.{ended, took}, proofs.LiveValueLemmas.live_part-start}
use Rattle.steenrod_law.specs.Names.{copies}
use Rattle.may_steenrod.specs.{FaceSums.{face_product, face_sum}, Elements.AddsTo}

-- ---- products

abbrev faces_at : List ℕ → List (List ℕ) → List (List ℕ)
faces_at s fs = map (λ f. map (λ i. vertex_at s i) f) fs

pub product-copies : (a : List ℕ → ℤ) (s : List ℕ) (fs : List (List ℕ)) → value_product (copies (length fs) a) (faces_at s fs) ≡ face_product a s fs
product-copies a s [] = refl
product-copies a s (f ∷ fs) = ap (λ z. a (map (λ i. vertex_at s i) f) *ℤ z) (product-copies a s fs)

mask-copies : {X : Type 0} (k : ℕ) (a : X) → by_mask k 0 a a ≡ copies k a
mask-copies zero a = refl
mask-copies (suc k) a = ap (λ xs. a ∷ xs) (mask-copies k a)

length-faces : (m k : ℕ) (u p : List ℕ) → length (cut_faces (numbers_from m k) u p) ≡ k
length-faces m zero u p = refl
length-faces m (suc k) u p = ap suc (length-faces (suc m) k u p)

-- the sign of the cut times the product of the values on its faces
abbrev pub face_term : ℕ → (List ℕ → ℤ) → List ℕ → List ℕ → List ℕ → ℤ
face_term r a u s p = signed (sign_exponent u 0 p) (face_product a s (cut_faces (numbers_from 1 r) u p))

product-faces : (r : ℕ) (a : List ℕ → ℤ) (u s p : List ℕ)
    → value_product (copies r a) (faces_at s (cut_faces (numbers_from 1 r) u p)) ≡ face_product a s (cut_faces (numbers_from 1 r) u p)
product-faces r a u s p =
    ap (λ k. value_product (copies k a) (faces_at s (cut_faces (numbers_from 1 r) u p))) (sym (length-faces 1 r u p))
    ∙ product-copies a s (cut_faces (numbers_from 1 r) u p)

mask-term : (a : List ℕ → ℤ) (u s p : List ℕ) → signed_product (arity u) 0 a a u s p ≡ face_term (arity u) a u s p
mask-term a u s p =
    ap (signed (sign_exponent u 0 p))
    (ap (λ (cs : List (List ℕ → ℤ)). value_product cs (faces_at s (cut_faces (numbers_from 1 (arity u)) u p))) (mask-copies (arity u) a) ∙ product-faces (arity u) a u s p)

pub operation-faces : (r : ℕ) (a : List ℕ → ℤ) (u s : List ℕ) → operation_value r u (copies r a) s ≡ total (face_term r a u s) (cuts u (pred (length s)))
operation-faces r a u s =
    ap (λ (h : List ℕ → ℤ). total h (cuts u (pred (length s)))) (fun_ext (λ p. ap (signed (sign_exponent u 0 p)) (product-faces r a u s p)))

-- ---- the sum

-- What was added to the sum `old`, and the terms of the cuts that are to come times c, are the terms of all
-- cuts of u times c, on cochains of degree q
pub record IsPartAdded (p q : ℕ) (old now : List (ℕ × List (List ℕ))) (c : ℕ) (u : List ℕ) (w : LiveWalk) : Type 0 where
  pub degree : w.degree ≡ q
  pub values : w.walk.values ≡ u
  pub sum : (a : List ℕ → ℕ) (s : List ℕ) → IsOfDegree q a →
      CongruentInt p (face_sum (λ f. pos (a f)) s now +ℤ pos c *ℤ total (face_term (arity u) (λ f. pos (a f)) u s) w.walk.left)
      (face_sum (λ f. pos (a f)) s old +ℤ pos c *ℤ total (face_term (arity u) (λ f. pos (a f)) u s) (cuts u (live_top q u)))

pub part_added-start : (p q c : ℕ) (u : List ℕ) (old : List (ℕ × List (List ℕ))) (w : LiveWalk) → 1 < p → w ≡ live_start q u → IsPartAdded p q old old c u w
part_added-start p q c u old w large e = record {
  degree = ap (λ (v : LiveWalk). v.degree) e;
  values = ap (λ (v : LiveWalk). v.walk.values) e;
  sum = λ a s h. (
      let A : List ℕ → ℤ = λ f. pos (a f) in
      let zero_is : 0 ≡ 0 % p = omega arith in
      let part = live_part-start p 0 q 0 a a u s w e zero_is h h in
      let same : (ps : List (List ℕ)) → total (signed_product (arity u) 0 A A u s) ps ≡ total (face_term (arity u) A u s) ps =
      λ ps. ap (λ (g : List ℕ → ℤ). total g ps) (fun_ext (λ r. mask-term A u s r)) in
      CongruentInt-sum (CongruentInt_refl (face_sum A s old))
      (CongruentInt-scale (pos c)
      (CongruentInt_trans (CongruentInt_of (sym (same w.walk.left) ∙ plus (total (signed_product (arity u) 0 A A u s) w.walk.left)))
      (CongruentInt_trans part.rest (CongruentInt_of (same (cuts u (live_top q u))))))));
}
  where
    plus : (z : ℤ) → z ≡ pos 0 +ℤ z
    plus z = omega (arith, ints)

-- one more cut, whose term has the coefficient v
pub part_added-step : (p q c v : ℕ) (u : List ℕ) (old now next : List (ℕ × List (List ℕ))) (w x : LiveWalk) → IsPartAdded p q old now c u w
    → x.walk ≡ next_walk w.walk → x.degree ≡ w.degree → IsSome x.walk.here
    → CongruentInt p (pos v) (signed (sign_exponent x.walk.values 0 (cut_of x.walk)) (pos c))
    → ((a : List ℕ → ℤ) (s : List ℕ) → CongruentInt p (face_sum a s next) (face_sum a s now +ℤ pos v *ℤ face_product a s (cut_faces (numbers_from 1 (arity u)) x.walk.values (cut_of x.walk))))
    → IsPartAdded p q old next c u x
part_added-step p q c v u old now next w x h e d s k f =
    let m = took w.walk x.walk e s in
    let same : x.walk.values ≡ u = m.1 ∙ h.values in
    let cut : List ℕ = cut_of x.walk in
    let exponent : ℕ = sign_exponent u 0 cut in
    record {
      degree = d ∙ h.degree;
      values = same;
      sum = λ a t i. (
          let A : List ℕ → ℤ = λ g. pos (a g) in
          let product : ℤ = face_product A t (cut_faces (numbers_from 1 (arity u)) u cut) in
          let rest : ℤ = total (face_term (arity u) A u t) x.walk.left in
          let one : CongruentInt p (pos v) (signed exponent (pos c)) = subst (λ (y : List ℕ). CongruentInt p (pos v) (signed (sign_exponent y 0 cut) (pos c))) same k in
          let added : CongruentInt p (face_sum A t next) (face_sum A t now +ℤ pos v *ℤ product) =
          subst (λ (y : List ℕ). CongruentInt p (face_sum A t next) (face_sum A t now +ℤ pos v *ℤ face_product A t (cut_faces (numbers_from 1 (arity u)) y cut))) same (f A t) in
          let term : CongruentInt p (pos v *ℤ product) (pos c *ℤ signed exponent product) =
          CongruentInt_trans (CongruentInt-times one (CongruentInt_refl product)) (CongruentInt_of (swap exponent (pos c) product)) in
          CongruentInt_trans (CongruentInt-sum (CongruentInt_trans added (CongruentInt-sum (CongruentInt_refl (face_sum A t now)) term)) (CongruentInt_refl (pos c *ℤ rest)))
          (CongruentInt_trans (CongruentInt_of (regroup (face_sum A t now) (pos c *ℤ signed exponent product) (pos c *ℤ rest) ∙ ap (λ z. face_sum A t now +ℤ z) (sym (mul-add (pos c) (signed exponent product) rest))
          ∙ ap (λ (ps : List (List ℕ)). face_sum A t now +ℤ pos c *ℤ total (face_term (arity u) A u t) ps) (sym m.0)))
          (h.sum a t i)));
    }
  where
    regroup : (x y z : ℤ) → (x +ℤ y) +ℤ z ≡ x +ℤ (y +ℤ z)
    regroup x y z = omega (arith, ints)

    swap : (n : ℕ) (x y : ℤ) → signed n x *ℤ y ≡ x *ℤ signed n y
    swap n x y = mul_comm (signed n x) y ∙ sym (signed-mul n y x) ∙ ap (signed n) (mul_comm y x) ∙ signed-mul n x y

-- at the end the operation of u times c is added
pub part_added-end : (p q c n r : ℕ) (u : List ℕ) (old now : List (ℕ × List (List ℕ))) (w x : LiveWalk) → IsPartAdded p q old now c u w
    → x.walk ≡ next_walk w.walk → (IsSome x.walk.here → ⊥) → arity u ≡ r → live_top q u ≡ n
    → AddsTo p q n old now (λ a s. pos c *ℤ operation_value r u (copies r a) s)
part_added-end p q c n r u old now w x h e s ar top = record {
  at = λ a t i size. (
      let A : List ℕ → ℤ = λ g. pos (a g) in
      let none = (ended w.walk x.walk e s).0 in
      let here : live_top q u ≡ pred (length t) = top ∙ sym (ap pred size) in
      CongruentInt_trans
      (CongruentInt_of (plus (face_sum A t now) (pos c) ∙ ap (λ (ps : List (List ℕ)). face_sum A t now +ℤ pos c *ℤ total (face_term (arity u) A u t) ps) (sym none)))
      (CongruentInt_trans (h.sum a t i)
      (CongruentInt_of (ap (λ z. face_sum A t old +ℤ pos c *ℤ z)
      (ap (λ k. total (face_term (arity u) A u t) (cuts u k)) here ∙ sym (operation-faces (arity u) A u t) ∙ ap (λ k. operation_value k u (copies k A) t) ar)))));
}
  where
    plus : (x y : ℤ) → x ≡ x +ℤ y *ℤ pos 0
    plus x y = let z = mul_comm y (pos 0) in omega (arith, ints)

-- ---- what a served prime is

pub small-top : (p q k : ℕ) → IsTrue (served p) → q ≤ 15 → p * q - k ≤ 255
small-top p q k h l = let m : p * q ≤ 255 = for_served (λ n. n * q ≤ 255) p (omega arith) (omega arith) (omega arith) h in omega arith

pub at-most-five : (p : ℕ) → IsTrue (served p) → p ≤ 5
at-most-five p h = for_served (λ n. n ≤ 5) p (lit≤ tt) (lit≤ tt) (lit≤ tt) h

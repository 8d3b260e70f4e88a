-- The terms of a sum of surjections, one surjection after the other.
use Rattle.std.{proofs.Common.{◌≡◌, ℕ, suc, ◌+◌, ◌-◌, ◌*◌, ◌/◌, ◌%◌, ◌<◌, ◌≤◌, ◌==◌, Bool, true, false, cond, List, [], ◌∷◌, ◌++◌, length, take, get_or, take_all, arith, refl, sym, ap, ap₂, subst, ◌∙◌, ℤ, pos, negsuc, ◌+ℤ◌, ◌*ℤ◌, ◌&&◌, Result, Ok, Err, eqb-true, eq-eqb, le-ltb, min, pred, if◌then◌else◌, ◌||◌, ◌^◌, IsTrue}, specs.List.filter, specs.Result.OnOk, specs.Int.int_rem_euclid, proofs.lemmas.Bool.false≢true, proofs.lemmas.Int.ints, proofs.lemmas.List.take_more}
use Rattle.fp_field.{specs.Served.served, proofs.ServedLemmas.served_large}
use Rattle.signed_sum.{specs.Names.{kept_terms, total, value_at}, proofs.Names.value_at-append}
use Rattle.simplicial_law.{specs.Names.CongruentInt, proofs.Names.{CongruentInt-scale, CongruentInt-sum, CongruentInt-times, CongruentInt_of, CongruentInt_refl, CongruentInt_sym, CongruentInt_trans}}
use Rattle.surjection_law.{specs.Names.{caesura_count, IsOnto, IsSurjection, arity, surjection_degree}, proofs.Caesuras.caesura_law}
use Rattle.surjection.specs.Names.{arity-is}
use Rattle.interval_cut_law.specs.Names.{cuts, live_cut_count, operation_value}
use Rattle.operad_law.specs.FormalSums.{IsSameSum}
use Rattle.table_reduction_law.specs.Names.{may_element}
use Rattle.steenrod_law.{specs.Names.{sum_value, copies}, proofs.Forms.AreTerms, proofs.MayFamily.may_family}
use Rattle.interval_cut.{specs.Names.{IsOfDegree, counted_live, is_live_cut, live_start, live_top}, proofs.{LiveWalkLemmas.among-length, ProductLemmas.remainder}}
use Rattle.may_elements.specs.Live.{lacks_live_cut, live_part}
use Rattle.may_steenrod.{specs.{FaceSums.face_sum, Elements.{AddsTo, tested_value}}, proofs.CutLemmas.{face_term, operation-faces, part_added-start, small-top}}

-- ---- the test of arity and degree

tested-none : (p d : ℕ) (a : List ℕ → ℤ) (s u : List ℕ) → ((arity u == p) && (surjection_degree u == d)) ≡ false → tested_value p d a s u ≡ pos 0
tested-none p d a s u e = ap (λ b. cond b (operation_value p u (copies p a) s) (pos 0)) e

pub tested-some : (p d : ℕ) (a : List ℕ → ℤ) (s u : List ℕ) → arity u ≡ p → surjection_degree u ≡ d → tested_value p d a s u ≡ operation_value p u (copies p a) s
tested-some p d a s u e f =
    ap (λ b. cond (b && (surjection_degree u == d)) (operation_value p u (copies p a) s) (pos 0)) (eq-eqb (arity u) p e)
    ∙ ap (λ b. cond b (operation_value p u (copies p a) s) (pos 0)) (eq-eqb (surjection_degree u) d f)

-- each surjection of a May element passes
pub tested-element : (p d : ℕ) (a : List ℕ → ℤ) (s : List ℕ) → 1 ≤ p → value_at (tested_value p d a s) (may_element p d) ≡ sum_value p (may_element p d) (copies p a) s
tested-element p d a s le = go (may_element p d) ((may_family p le).terms d)
  where
    passes : (u : List ℕ) → IsOnto p u → caesura_count u ≡ d → tested_value p d a s u ≡ operation_value p u (copies p a) s
    passes u o c =
        let ar : arity u ≡ p = arity-is p u o le in
        tested-some p d a s u ar (let l = caesura_law.places p u o in omega arith)

    go : (x : List (List ℕ × ℤ)) → AreTerms p d x → value_at (tested_value p d a s) x ≡ sum_value p x (copies p a) s
    go [] k = refl
    go (t ∷ x) k = ap₂ (λ y z. t.1 *ℤ y +ℤ z) (passes t.0 k.0 k.1) (go x k.2)

-- ---- whole coefficients modulo p

pub coefficient : (p c : ℕ) (z : ℤ) → 1 < p → pos c ≡ int_rem_euclid z (pos p) → CongruentInt p (pos c) z
coefficient p c (pos a) h e = let f : c ≡ a % p = (let g = e in omega (arith, ints)) in remainder p a c f
coefficient p c (negsuc a) h e =
    let whole : a ≡ a / p * p + a % p = omega arith in
    let rest : a % p < p = omega arith in
    let more : (a / p + 1) * p ≡ a / p * p + p = omega arith in
    record { multiple = pos (a / p + 1); same = e ∙ back (a / p * p) (a % p) p a ((a / p + 1) * p) whole rest more }
  where
    back : (m r n b k : ℕ) → b ≡ m + r → r < n → k ≡ m + n → pos (n - 1 - r) ≡ negsuc b +ℤ pos k
    back m r n b k e l f = omega (arith, ints)

-- ---- the sum

-- the sum `now` has, on cochains of degree q and simplices of degree n, the value of the first i terms of x
pub record IsPartOfElement (p q n d : ℕ) (x : List (List ℕ × ℤ)) (i : ℕ) (now : List (ℕ × List (List ℕ))) : Type 0 where
  pub at : (a : List ℕ → ℕ) (s : List ℕ) → IsOfDegree q a → length s ≡ suc n →
      CongruentInt p (face_sum (λ f. pos (a f)) s now) (value_at (tested_value p d (λ f. pos (a f)) s) (take i x))

pub element-start : (p q n d : ℕ) (x : List (List ℕ × ℤ)) (now : List (ℕ × List (List ℕ))) → now ≡ [] → IsPartOfElement p q n d x 0 now
element-start p q n d x now e = record { at = λ a s h k. CongruentInt_of (ap (face_sum (λ f. pos (a f)) s) e) }

pub element-step : (p q n d i c : ℕ) (x : List (List ℕ × ℤ)) (t : List ℕ × ℤ) (now next : List (ℕ × List (List ℕ))) → i < length x → t ≡ get_or x i t → CongruentInt p (pos c) t.1
    → IsPartOfElement p q n d x i now → AddsTo p q n now next (λ a s. pos c *ℤ tested_value p d a s t.0) → IsPartOfElement p q n d x (i + 1) next
element-step p q n d i c x t now next l e k h f = record {
  at = λ a s o size. (
      let phi : List ℕ → ℤ = tested_value p d (λ g. pos (a g)) s in
      let more : take (i + 1) x ≡ take i x ++ t ∷ [] = take_more x i t l ∙ ap (λ (y : List ℕ × ℤ). take i x ++ y ∷ []) (sym e) in
      CongruentInt_trans (f.at a s o size)
      (CongruentInt_trans (CongruentInt-sum (h.at a s o size) (CongruentInt-times k (CongruentInt_refl (phi t.0))))
      (CongruentInt_of (sym (ap (value_at phi) more ∙ value_at-append phi (take i x) (t ∷ []) ∙ ap (λ z. value_at phi (take i x) +ℤ z) (last (t.1 *ℤ phi t.0)))))));
}
  where
    last : (z : ℤ) → z +ℤ pos 0 ≡ z
    last z = omega (arith, ints)

-- a surjection of other arity or degree adds nothing
pub adds-none : (p q n d c : ℕ) (u : List ℕ) (now : List (ℕ × List (List ℕ))) → ((arity u == p) && (surjection_degree u == d)) ≡ false → AddsTo p q n now now (λ a s. pos c *ℤ tested_value p d a s u)
adds-none p q n d c u now e = record {
  at = λ a s o size. CongruentInt_of (none (face_sum (λ f. pos (a f)) s now) (pos c) (tested_value p d (λ f. pos (a f)) s u) (tested-none p d (λ f. pos (a f)) s u e));
}
  where
    plus : (x y : ℤ) → y ≡ pos 0 → x ≡ x +ℤ y
    plus x y h = omega (arith, ints)

    none : (x y z : ℤ) → z ≡ pos 0 → x ≡ x +ℤ y *ℤ z
    none x y z h = plus x (y *ℤ z) (ap (λ w. y *ℤ w) h ∙ zero-right y)
      where
        zero-right : (y : ℤ) → y *ℤ pos 0 ≡ pos 0
        zero-right y = omega (arith, ints)

pub adds-some : (p q n d c : ℕ) (u : List ℕ) (now next : List (ℕ × List (List ℕ))) → arity u ≡ p → surjection_degree u ≡ d
    → AddsTo p q n now next (λ a s. pos c *ℤ operation_value p u (copies p a) s) → AddsTo p q n now next (λ a s. pos c *ℤ tested_value p d a s u)
adds-some p q n d c u now next e f h = record {
  at = λ a s o size. CongruentInt_trans (h.at a s o size)
      (CongruentInt_of (ap (λ z. face_sum (λ f. pos (a f)) s now +ℤ pos c *ℤ z) (sym (tested-some p d (λ f. pos (a f)) s u e f))));
}

-- ---- terms without live cuts

-- where no cut of u is live for q, the operation of u has the value 0 modulo p on cochains of degree q
no-live : (p q d : ℕ) (u : List ℕ) (a : List ℕ → ℕ) (s : List ℕ) → IsTrue (served p) → q ≤ 15 → d ≤ p * q → arity u ≡ p → caesura_count u ≡ d → lacks_live_cut q u ≡ true → IsOfDegree q a → length s ≡ suc (p * q - d)
    → CongruentInt p (operation_value p u (copies p (λ f. pos (a f))) s) (pos 0)
no-live p q d u a s prime small fits ar c lacks o size =
    let A : List ℕ → ℤ = λ f. pos (a f) in
    let term : List ℕ → ℤ = face_term (arity u) A u s in
    let top : live_top q u ≡ pred (length s) = ap (λ r. r * q - caesura_count u) ar ∙ ap (λ e. p * q - e) c ∙ sym (ap pred size) in
    let none : filter (is_live_cut q u) (cuts u (live_top q u)) ≡ [] = no-items _ (sym (among-length q u (cuts u (live_top q u))) ∙ count-none) in
    let started = part_added-start p q 1 u [] (live_start q u) (served_large p prime) refl in
    let all : CongruentInt p (pos 0 +ℤ pos 1 *ℤ total term []) (pos 0 +ℤ pos 1 *ℤ total term (cuts u (live_top q u))) =
    subst (λ ps. CongruentInt p (pos 0 +ℤ pos 1 *ℤ total term ps) (pos 0 +ℤ pos 1 *ℤ total term (cuts u (live_top q u)))) none (started.sum a s o) in
    let value : operation_value p u (copies p A) s ≡ total term (cuts u (live_top q u)) =
    ap (λ r. operation_value r u (copies r A) s) (sym ar) ∙ operation-faces (arity u) A u s ∙ ap (λ n. total term (cuts u n)) (sym top) in
    CongruentInt_trans (CongruentInt_of (value ∙ one (total term (cuts u (live_top q u))))) (CongruentInt_sym all)
  where
    one : (z : ℤ) → z ≡ pos 0 +ℤ pos 1 *ℤ z
    one z = omega (arith, ints)

    no-items : (xs : List (List ℕ)) → length xs ≡ 0 → xs ≡ []
    no-items [] e = refl
    no-items (x ∷ xs) e = absurd (omega arith)

    count-none : live_cut_count q (arity u) u ≡ 0
    count-none =
        let inside : caesura_count u ≤ arity u * q = subst (λ m. caesura_count u ≤ m * q) (sym ar) (omega (arith, c, fits)) in
        let low : live_top q u ≤ 255 = subst (λ m. m * q - caesura_count u ≤ 255) (sym ar) (small-top p q (caesura_count u) prime small) in
        let counted : counted_live q u ≡ min (live_cut_count q (arity u) u) (10 ^ 15) =
        ap₂ (λ x y. if x || y then 0 else min (live_cut_count q (arity u) u) (10 ^ 15)) (le-ltb (arity u * q) (caesura_count u) inside) (le-ltb 255 (live_top q u) low) in
        let zero : counted_live q u ≡ 0 = eqb-true (counted_live q u) 0 lacks in
        omega (arith, counted, zero)

-- at the end it is the value of the May element
pub element-end : (p q d i : ℕ) (x : List (List ℕ × ℤ)) (now : List (ℕ × List (List ℕ))) → IsTrue (served p) → q ≤ 15 → d ≤ p * q → length x ≤ i → IsPartOfElement p q (p * q - d) d x i now → IsSameSum x (live_part p d q)
    → (a : List ℕ → ℕ) (s : List ℕ) → IsOfDegree q a → length s ≡ suc (p * q - d)
    → CongruentInt p (face_sum (λ f. pos (a f)) s now) (sum_value p (may_element p d) (copies p (λ f. pos (a f))) s)
element-end p q d i x now prime small fits l h same a s o size =
    CongruentInt_trans (h.at a s o size)
    (CongruentInt_trans (CongruentInt_of (ap (value_at phi) (take_all i x l) ∙ same.at phi))
    (CongruentInt_trans (kept (may_element p d) ((may_family p some).terms d)) (CongruentInt_of (tested-element p d (λ f. pos (a f)) s some))))
  where
    large : 1 < p
    large = served_large p prime

    some : 1 ≤ p
    some = omega (arith, large)

    phi : List ℕ → ℤ
    phi = tested_value p d (λ f. pos (a f)) s

    gone : (u : List ℕ) → IsOnto p u → caesura_count u ≡ d → lacks_live_cut q u ≡ true → CongruentInt p (phi u) (pos 0)
    gone u onto c lacks =
        let ar : arity u ≡ p = arity-is p u onto some in
        CongruentInt_trans (CongruentInt_of (tested-some p d (λ f. pos (a f)) s u ar (let e = caesura_law.places p u onto in omega arith))) (no-live p q d u a s prime small fits ar c lacks o size)

    kept : (ts : List (List ℕ × ℤ)) → AreTerms p d ts → CongruentInt p (value_at phi (kept_terms (lacks_live_cut q) ts)) (value_at phi ts)
    kept [] k = CongruentInt_refl (pos 0)
    kept (t ∷ ts) k = go (lacks_live_cut q t.0) refl (kept ts k.2)
      where
        nothing : (y z : ℤ) → z ≡ y *ℤ pos 0 +ℤ z
        nothing y z = omega (arith, ints)

        go : (b : Bool) → lacks_live_cut q t.0 ≡ b → CongruentInt p (value_at phi (kept_terms (lacks_live_cut q) ts)) (value_at phi ts)
            → CongruentInt p (value_at phi (cond b (kept_terms (lacks_live_cut q) ts) (t ∷ kept_terms (lacks_live_cut q) ts))) (t.1 *ℤ phi t.0 +ℤ value_at phi ts)
        go true e r = CongruentInt_trans r (CongruentInt_trans (CongruentInt_of (nothing t.1 (value_at phi ts))) (CongruentInt-sum (CongruentInt-scale t.1 (CongruentInt_sym (gone t.0 k.0 k.1 e))) (CongruentInt_refl (value_at phi ts))))
        go false e r = CongruentInt-sum (CongruentInt_refl (t.1 *ℤ phi t.0)) r

both-hold : (x y : Bool) → (x && y) ≡ true → (x ≡ true) × (y ≡ true)
both-hold true y h = (refl, h)
both-hold false y h = absurd (false≢true h)

pub form-is : (p d : ℕ) (u : List ℕ) → ((arity u == p) && (surjection_degree u == d)) ≡ true → (arity u ≡ p) × (surjection_degree u ≡ d)
form-is p d u h =
    let k = both-hold (arity u == p) (surjection_degree u == d) h in
    (eqb-true (arity u) p k.0, eqb-true (surjection_degree u) d k.1)

-- a surjection of arity p and degree d
pub adds-form : (p q d c : ℕ) (u : List ℕ) (now next : List (ℕ × List (List ℕ))) → IsSurjection u → ((arity u == p) && (surjection_degree u == d)) ≡ true
    → AddsTo p q (p * q - caesura_count u) now next (λ a s. pos c *ℤ operation_value p u (copies p a) s) → AddsTo p q (p * q - d) now next (λ a s. pos c *ℤ tested_value p d a s u)
adds-form p q d c u now next s e h =
    let k = form-is p d u e in
    let same : caesura_count u ≡ d = sym (caesura_law.degree u s) ∙ k.1 in
    adds-some p q (p * q - d) d c u now next k.0 k.1 (subst (λ m. AddsTo p q (p * q - m) now next (λ a s. pos c *ℤ operation_value p u (copies p a) s)) same h)

pub on_ok-map : {A E : Type 0} (r : Result A E) (P Q : Type 0) → (P → Q) → OnOk r P → OnOk r Q
on_ok-map (Ok v) P Q f h = f h
on_ok-map (Err e) P Q f h = tt

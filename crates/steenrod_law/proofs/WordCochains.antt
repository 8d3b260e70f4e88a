-- Words of cochains.
use Rattle.std.proofs.{Common.{◌≡◌, ℕ, zero, suc, ◌+◌, ◌*◌, ◌≤◌, true, false, Bool, cond, List, [], ◌∷◌, ◌++◌, map, length, refl, sym, ◌∙◌, ap, arith, subst, ℤ, pos, ◌+ℤ◌, ◌*ℤ◌, pred}, Math.IntN.{zero-*ℤ, *ℤ-zero}, lemmas.Int.ints, lemmas.Bool.or_left, lemmas.List.map-append}
use Rattle.interval_cut_law.{proofs.BoundaryLaws.{degeneracy_law, product_normalized}, specs.Names.{one_coboundary, operation_value, value_product}}
use Rattle.signed_sum.{proofs.Names.{without_one-without_one, mul-add, mul_comm, one-mul, signed-zero, bound-false, bound-true}, specs.Names.{is_degenerate, power_sum, unless_empty, signed, value_at, without_one}}
use Rattle.simplicial_law.{proofs.Names.{CongruentInt-signed, CongruentInt-sum, CongruentInt-times, CongruentInt_from, CongruentInt_of, CongruentInt_refl, CongruentInt_trans}, specs.Names.{CongruentInt, HasDegree, HaveDegrees, integral_coboundary, tensor_boundary}}
use Rattle.steenrod_law.{proofs.CycleFaces.{sum_of, value-cycle}, proofs.Forms.{AreTerms, IsCochain, SurjectionTerm, value_over}, proofs.Staircase.{Alike, back-alike}, specs.Names.{word_cochains, letter_degree, norm, turn_back, turn_back_power, boundary_value, word_degree}}
use Rattle.surjection_law.specs.Names.{caesura_count, IsOnto}
use Rattle.table_reduction_law.{proofs.Permutations.{onto-turned, turned-at}, specs.Names.{cycle, turned, turned_values}}

-- the coboundary twice

pub coboundary-twice : (y : List ℕ → ℤ) (f : List ℕ) → integral_coboundary (integral_coboundary y) f ≡ pos 0
coboundary-twice y f = ap (without_one f) (λ i g. part g i) ∙ without_one-without_one f (λ k. unless_empty k (y k))
  where
    part : (g : List ℕ) → unless_empty g (integral_coboundary y g) ≡ without_one g (λ k. unless_empty k (y k))
    part [] = refl
    part (x ∷ g) = refl

-- the coboundary of a cochain

without_one-none : (f : List ℕ) (h : List ℕ → ℤ) → ((g : List ℕ) → suc (length g) ≡ length f → h g ≡ pos 0) → without_one f h ≡ pos 0
without_one-none [] h e = refl
without_one-none (x ∷ f) h e =
    let a = e f refl in
    let b = without_one-none f (λ r. h (x ∷ r)) (λ g q. e (x ∷ g) (ap suc q)) in
    omega (arith, ints)

filled-none : (g : List ℕ) (z : ℤ) → z ≡ pos 0 → unless_empty g z ≡ pos 0
filled-none [] z e = refl
filled-none (x ∷ g) z e = e

pub coboundary-cochain : (n : ℕ) (y : List ℕ → ℤ) → IsCochain n y → IsCochain (suc n) (integral_coboundary y)
coboundary-cochain n y c = record {
  degree = record { other = λ f ne. without_one-none f (λ g. unless_empty g (y g)) (λ g e. filled-none g (y g) (c.degree.other g (λ q. ne (omega arith)))) };
  plain = λ f d. sym (alone f) ∙ degeneracy_law.boundaries (λ fs. value_product (y ∷ []) fs) (product_normalized (y ∷ []) (c.plain, tt)) (f ∷ []) (or_left (is_degenerate f) false d);
}
  where
    alone : (f : List ℕ) → tensor_boundary (λ fs. value_product (y ∷ []) fs) (f ∷ []) ≡ integral_coboundary y f
    alone f =
        let e : without_one f (λ g. unless_empty g (y g *ℤ pos 1)) ≡ integral_coboundary y f = ap (without_one f) (λ i g. unless_empty g ((mul_comm (y g) (pos 1) ∙ one-mul (y g)) i)) in
        let q = signed-zero (pred (length f)) in
        omega (arith, ints)

-- a cochain that is nothing

pub product-none : (pre post : List (List ℕ → ℤ)) (fs : List (List ℕ)) → value_product (pre ++ ((λ f. pos 0) ∷ post)) fs ≡ pos 0
product-none [] post [] = refl
product-none [] post (f ∷ fs) = zero-*ℤ (value_product post fs)
product-none (a ∷ pre) post [] = refl
product-none (a ∷ pre) post (f ∷ fs) = ap (λ z. a f *ℤ z) (product-none pre post fs) ∙ *ℤ-zero (a f)

-- the cochains of a word

pub degrees-letters : (deg : Bool → ℕ) (a b : List ℕ → ℤ) → HasDegree (deg false) a → HasDegree (deg true) b → (w : List Bool) → HaveDegrees (map deg w) (word_cochains a b w)
degrees-letters deg a b da db [] = tt
degrees-letters deg a b da db (false ∷ w) = (da, degrees-letters deg a b da db w)
degrees-letters deg a b da db (true ∷ w) = (db, degrees-letters deg a b da db w)

pub degree-sum : (deg : Bool → ℕ) (w : List Bool) → sum_of (map deg w) ≡ word_degree deg w
degree-sum deg [] = refl
degree-sum deg (l ∷ w) = ap (λ k. deg l + k) (degree-sum deg w)

letter-degree : (deg : Bool → ℕ) (a b : List ℕ → ℤ) → HasDegree (deg false) a → HasDegree (deg true) b → (l : Bool) → HasDegree (deg l) (cond l b a)
letter-degree deg a b da db false = da
letter-degree deg a b da db true = db

module _ (p : ℕ) (deg : Bool → ℕ) (a b : List ℕ → ℤ) (da : HasDegree (deg false) a) (db : HasDegree (deg true) b) (s : List ℕ) (pos_p : 1 ≤ p) where
  -- the turn of the surjection is the inverse turn of the word
  pub word-cycle : (u : List ℕ) (w : List Bool) → IsOnto p u → length w ≡ p → operation_value p (map (cycle p) u) (word_cochains a b w) s ≡ turn_back deg (λ v. operation_value p u (word_cochains a b v) s) w
  word-cycle u [] onto e = absurd (omega (arith, e, pos_p))
  word-cycle u (l ∷ w) onto e =
      subst (λ (r : ℕ). IsOnto r u → operation_value r (map (cycle r) u) (cond l b a ∷ word_cochains a b w) s ≡ signed (deg l * sum_of (map deg w)) (operation_value r u (word_cochains a b w ++ (cond l b a ∷ [])) s)) e
      (λ o. value-cycle (length w) (deg l) u s (map deg w) (cond l b a) (word_cochains a b w) o (letter-degree deg a b da db l) (degrees-letters deg a b da db w)) onto
      ∙ (let q = sym (map-append (λ m. cond m b a) w (l ∷ [])) in λ i. signed (deg l * degree-sum deg w i) (operation_value p u (q i) s))

  pub word-turns : (k : ℕ) (u : List ℕ) → IsOnto p u → Alike p p (λ w. operation_value p (turned p k u) (word_cochains a b w) s) (turn_back_power deg k (λ w. operation_value p u (word_cochains a b w) s))
  word-turns zero u o w e = CongruentInt_refl (operation_value p u (word_cochains a b w) s)
  word-turns (suc k) u o w e =
      CongruentInt_trans
      (CongruentInt_of (word-cycle (turned p k u) w (onto-turned p k u o) e))
      (back-alike p deg p (λ v. operation_value p (turned p k u) (word_cochains a b v) s) (turn_back_power deg k (λ v. operation_value p u (word_cochains a b v) s)) (word-turns k u o) w e)

  pub word-turn_sum : (k : ℕ) (u : List ℕ) → IsOnto p u → (w : List Bool) → length w ≡ p → CongruentInt p (value_at (λ v. operation_value p v (word_cochains a b w) s) (power_sum (turned_values p) k u)) (norm deg k (λ v. operation_value p u (word_cochains a b v) s) w)
  word-turn_sum zero u o w e = CongruentInt_refl (pos 0)
  word-turn_sum (suc k) u o w e =
      CongruentInt_from
      (CongruentInt-sum (word-turn_sum k u o w e) (CongruentInt_trans (CongruentInt_of (turned-at p k (λ v. operation_value p v (word_cochains a b w) s) u)) (word-turns k u o w e)))
      (omega (arith, ints))

-- sums of surjections

pub over-sum : (x : List SurjectionTerm) (h g : List ℕ → ℤ) → value_over x (λ u. h u +ℤ g u) ≡ value_over x h +ℤ value_over x g
over-sum [] h g = refl
over-sum (t ∷ x) h g =
    let a = over-sum x h g in
    let b = mul-add t.1 (h t.0) (g t.0) in
    omega (arith, ints)

pub over-same : (p m : ℕ) (x : List SurjectionTerm) (h g : List ℕ → ℤ) → AreTerms p m x → ((u : List ℕ) → IsOnto p u → caesura_count u ≡ m → CongruentInt p (h u) (g u)) → CongruentInt p (value_over x h) (value_over x g)
over-same p m [] h g k e = CongruentInt_refl (pos 0)
over-same p m (t ∷ x) h g k e =
    CongruentInt-sum
    (CongruentInt-times (CongruentInt_refl t.1) (e t.0 k.0 k.1)) (over-same p m x h g k.2 e)

pub over-equal : (p m : ℕ) (x : List SurjectionTerm) (h g : List ℕ → ℤ) → AreTerms p m x → ((u : List ℕ) → IsOnto p u → caesura_count u ≡ m → h u ≡ g u) → value_over x h ≡ value_over x g
over-equal p m [] h g k e = refl
over-equal p m (t ∷ x) h g k e = (λ i. (t.1 *ℤ e t.0 k.0 k.1 i) +ℤ over-equal p m x h g k.2 e i)

-- the boundary of a word

pub word-bound : (p n : ℕ) (y : List ℕ → ℤ) (w : List Bool) (h : List (List ℕ → ℤ) → ℤ) → ((pre post : List (List ℕ → ℤ)) → CongruentInt p (h (pre ++ (integral_coboundary (integral_coboundary y) ∷ post))) (pos 0)) →
    CongruentInt p (one_coboundary (map (letter_degree n) w) (word_cochains y (integral_coboundary y) w) h) (boundary_value n (λ v. h (word_cochains y (integral_coboundary y) v)) w)
word-bound p n y [] h k = CongruentInt_refl (pos 0)
word-bound p n y (false ∷ w) h k =
    CongruentInt_trans
    (CongruentInt-sum
    (CongruentInt_refl (h (integral_coboundary y ∷ word_cochains y (integral_coboundary y) w)))
    (CongruentInt-signed n
    (word-bound p n y w (λ bs. h (y ∷ bs)) (λ pre post. k (y ∷ pre) post))))
    (CongruentInt_of (sym (bound-false n (λ v. h (word_cochains y (integral_coboundary y) v)) w)))
word-bound p n y (true ∷ w) h k =
    let b : List ℕ → ℤ = integral_coboundary y in
    let x : ℤ = signed (suc n) (one_coboundary (map (letter_degree n) w) (word_cochains y b w) (λ bs. h (b ∷ bs))) in
    let z : ℤ = signed (suc n) (boundary_value n (λ v. h (b ∷ word_cochains y b v)) w) in
    let ih = CongruentInt-signed (suc n) (word-bound p n y w (λ bs. h (b ∷ bs)) (λ pre post. k (b ∷ pre) post)) in
    CongruentInt_trans
    (CongruentInt-sum (k [] (word_cochains y b w)) ih)
    (CongruentInt_of (let e = bound-true n (λ v. h (word_cochains y b v)) w in omega (arith, ints)))

-- closed letters
pub word-closed : (p : ℕ) (deg : Bool → ℕ) (a c : List ℕ → ℤ) (w : List Bool) (h : List (List ℕ → ℤ) → ℤ) →
    ((l : Bool) (pre post : List (List ℕ → ℤ)) → CongruentInt p (h (pre ++ (integral_coboundary (cond l c a) ∷ post))) (pos 0)) →
    CongruentInt p (one_coboundary (map deg w) (word_cochains a c w) h) (pos 0)
word-closed p deg a c [] h k = CongruentInt_refl (pos 0)
word-closed p deg a c (l ∷ w) h k =
    let ih = CongruentInt-signed (deg l) (word-closed p deg a c w (λ bs. h (cond l c a ∷ bs)) (λ m pre post. k m (cond l c a ∷ pre) post)) in
    CongruentInt_trans
    (CongruentInt-sum (k l [] (word_cochains a c w)) ih)
    (CongruentInt_of (let z = signed-zero (deg l) in omega (arith, ints)))

-- The sum over the cuts of a walk, one cut after the other.
use Rattle.std.proofs.{Common.{◌≡◌, ℕ, ◌+◌, ◌%◌, List, [], ◌∷◌, ◌++◌, refl, sym, ◌∙◌, ap, ap₂, arith, subst, ℤ, pos, ◌+ℤ◌, IsSome, is_some, Option, Some, pred}, lemmas.Bool.false≢true, lemmas.Int.ints}
use Rattle.signed_sum.specs.Names.{signed, total}
use Rattle.simplicial_law.{specs.Names.CongruentInt, proofs.Names.{CongruentInt-sum, CongruentInt_of, CongruentInt_refl, CongruentInt_trans}}
use Rattle.interval_cut_law.specs.Names.{cuts, sign_exponent}
use Rattle.surjection_law.specs.Names.{arity}
use Rattle.interval_cut.{specs.Names.{IsFaceTable, signed_product, product_from, OnAt, shown, Stage, At, CutWalk, cut_of, finish_of, next_walk, start_of, IsPartOfSum}, proofs.ProductLemmas.remainder, proofs.WalkLemmas.{on_at, on_walk}}

abbrev step_of : CutWalk → List (List ℕ) → CutWalk
step_of w [] = finish_of w.values w.top
step_of w (p ∷ ps) = record { values = w.values; top = w.top; here = Some p; left = ps }

next_is : (w : CutWalk) → next_walk w ≡ step_of w w.left
next_is w = go w.values w.top w.here w.left
  where
    go : (u : List ℕ) (n : ℕ) (h : Option (List ℕ)) (ps : List (List ℕ)) → next_walk (record { values = u; top = n; here = h; left = ps }) ≡ step_of (record { values = u; top = n; here = h; left = ps }) ps
    go u n h [] = refl
    go u n h (p ∷ ps) = refl

-- the step from a walk, by what is to come
pub took : (w v : CutWalk) → v ≡ next_walk w → IsSome v.here → (w.left ≡ cut_of v ∷ v.left) × (v.values ≡ w.values) × (v.top ≡ w.top)
took w v e s = go w.left (next_is w) e
  where
    go : (ps : List (List ℕ)) → next_walk w ≡ step_of w ps → v ≡ next_walk w → (ps ≡ cut_of v ∷ v.left) × (v.values ≡ w.values) × (v.top ≡ w.top)
    go [] q f = absurd (false≢true (sym (ap (λ x. is_some x.here) (f ∙ q)) ∙ s))
    go (p ∷ ps) q f = (sym (ap (λ x. cut_of x ∷ x.left) (f ∙ q)), ap (λ x. x.values) (f ∙ q), ap (λ x. x.top) (f ∙ q))

pub ended : (w v : CutWalk) → v ≡ next_walk w → (IsSome v.here → ⊥) → (w.left ≡ []) × (v ≡ finish_of w.values w.top)
ended w v e s = go w.left (next_is w) e
  where
    go : (ps : List (List ℕ)) → next_walk w ≡ step_of w ps → v ≡ next_walk w → (ps ≡ []) × (v ≡ finish_of w.values w.top)
    go [] q f = (refl, f ∙ q)
    go (p ∷ ps) q f = absurd (s (ap (λ x. is_some x.here) (f ∙ q)))

pub part_start : (p x : ℕ) (term : List ℕ → ℤ) (u : List ℕ) (n : ℕ) (w : CutWalk) → w ≡ start_of u n → x ≡ 0 % p → IsPartOfSum p term u n x w
part_start p x term u n w e f = record {
  values = ap (λ v. v.values) e;
  top = ap (λ v. v.top) e;
  rest =
      CongruentInt_trans (CongruentInt-sum (remainder p 0 x f) (CongruentInt_refl (total term w.left)))
      (CongruentInt_of (plus (total term w.left) ∙ ap (λ v. total term v.left) e));
}
  where
    plus : (z : ℤ) → pos 0 +ℤ z ≡ z
    plus z = omega (arith, ints)

pub part_step : (p x t y : ℕ) (term : List ℕ → List ℕ → ℤ) (u : List ℕ) (n : ℕ) (w v : CutWalk) → IsPartOfSum p (term u) u n x w → v ≡ next_walk w → IsSome v.here
    → CongruentInt p (pos t) (term v.values (cut_of v)) → y ≡ (x + t) % p → IsPartOfSum p (term u) u n y v
part_step p x t y term u n w v h e s k f =
    let m = took w v e s in
    let same : v.values ≡ u = m.1 ∙ h.values in
    let one : CongruentInt p (pos t) (term u (cut_of v)) = subst (λ c. CongruentInt p (pos t) (term c (cut_of v))) same k in
    record {
      values = same;
      top = m.2 ∙ h.top;
      rest =
          CongruentInt_trans (CongruentInt-sum (CongruentInt_trans (remainder p (x + t) y f) (CongruentInt-sum (CongruentInt_refl (pos x)) one)) (CongruentInt_refl (total (term u) v.left)))
          (CongruentInt_trans (CongruentInt_of (regroup (pos x) (term u (cut_of v)) (total (term u) v.left) ∙ ap (λ ps. pos x +ℤ total (term u) ps) (sym m.0))) h.rest);
    }
  where
    regroup : (a b c : ℤ) → (a +ℤ b) +ℤ c ≡ a +ℤ (b +ℤ c)
    regroup a b c = omega (arith, ints)

pub part_end : (p x : ℕ) (term : List ℕ → ℤ) (u : List ℕ) (n : ℕ) (w v : CutWalk) → IsPartOfSum p term u n x w → v ≡ next_walk w → (IsSome v.here → ⊥)
    → CongruentInt p (pos x) (total term (cuts u n)) × (v ≡ finish_of u n)
part_end p x term u n w v h e s =
    let m = ended w v e s in (
      CongruentInt_trans (CongruentInt_of (plus (pos x) ∙ ap (λ ps. pos x +ℤ total term ps) (sym m.0))) h.rest,
      m.1 ∙ ap₂ (λ a b. finish_of a b) h.values h.top,
    )
  where
    plus : (z : ℤ) → z ≡ z +ℤ pos 0
    plus z = omega (arith, ints)

pub whole_sum : (p x : ℕ) (term : List ℕ → ℤ) (u : List ℕ) (n m : ℕ) → m ≡ n + 1 → CongruentInt p (pos x) (total term (cuts u n)) → CongruentInt p (pos x) (total term (cuts u (pred m)))
whole_sum p x term u n m e h = let f : n ≡ pred m = omega (arith, e) in subst (λ k. CongruentInt p (pos x) (total term (cuts u k))) f h

-- the term of the cut that a walk shows, from the product on its faces
pub shown_term : (p x y mask r top : ℕ) (a c : List ℕ → ℕ) (values inner simplex places starts : List ℕ) (s : Stage) (w : CutWalk)
    → shown values top s inner ≡ w → s ≡ At → r ≡ arity values → OnAt s (IsFaceTable values (inner ++ (top ∷ [])) r places starts)
    → ((u q : List ℕ) → IsFaceTable u q r places starts → CongruentInt p (pos x) (product_from 1 r mask (λ f. pos (a f)) (λ f. pos (c f)) u q simplex))
    → ((z : ℤ) → CongruentInt p (pos x) z → CongruentInt p (pos y) (signed (sign_exponent values 0 (inner ++ (top ∷ []))) z))
    → CongruentInt p (pos y) (signed_product (arity w.values) mask (λ f. pos (a f)) (λ f. pos (c f)) w.values simplex (cut_of w))
shown_term p x y mask r top a c values inner simplex places starts s w e at most table h k =
    let q : List ℕ = inner ++ (top ∷ []) in
    on_walk values top s inner w (λ (u q : List ℕ). CongruentInt p (pos y) (signed_product (arity u) mask (λ f. pos (a f)) (λ f. pos (c f)) u simplex q)) e at
    (k (product_from 1 (arity values) mask (λ f. pos (a f)) (λ f. pos (c f)) values q simplex)
    (subst (λ (n : ℕ). CongruentInt p (pos x) (product_from 1 n mask (λ f. pos (a f)) (λ f. pos (c f)) values q simplex)) most (h values q (on_at s _ at table))))

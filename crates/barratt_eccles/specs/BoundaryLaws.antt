-- The laws of the boundary of tuples, which the impls cite.
use Rattle.std.{proofs.Common.{◌≡◌, ℕ, suc, ◌+◌, ◌≤◌, Bool, false, List, [], ◌∷◌, length, map, refl, sym, ap, ◌∙◌, inl, inr, arith, subst}, specs.Prelude.{ℤ, pos, neg_ℤ, nat_abs, All}, proofs.lemmas.Int.ints, proofs.lemmas.Bool.cases_Bool, proofs.lemmas.List.length-map, proofs.lemmas.List.Elements.{All-nil, All-cons, All-head, All-tail, All-map, All-weaker}}
use Rattle.signed_sum.{specs.Names.{alternating_terms_from, kept_terms, weight_of, without_each}, proofs.Names.All-kept_terms}
use Rattle.table_reduction_law.{proofs.ReductionBoundary.permutation-length, specs.Names.{IsTuple, is_zero_tuple, tuple_boundary, tuple_arity, tuple_degree}}
use Rattle.barratt_eccles.specs.Generators.{IsGenerator}

-- v is a tuple of permutations of 1 to r with one entry less than w
pub record IsFace (r : ℕ) (w v : List (List ℕ)) : Type 0 where
  pub entries : IsTuple r v
  pub shorter : suc (length v) ≡ length w

faces_from : (r : ℕ) (x : List ℕ) (w : List (List ℕ)) → IsTuple r (x ∷ w) → (v : List (List ℕ)) → IsFace r w v → IsFace r (x ∷ w) (x ∷ v)
faces_from r x w t v f = record { entries = (t.0, f.entries); shorter = ap suc f.shorter }

pub faces : (r : ℕ) (w : List (List ℕ)) → IsTuple r w → All (IsFace r w) (without_each w)
faces r [] t = All-nil (IsFace r [])
faces r (x ∷ w) t =
    All-cons (IsFace r (x ∷ w)) w (map (λ v. x ∷ v) (without_each w)) (record { entries = t.1; shorter = refl })
    (All-map (IsFace r (x ∷ w)) (λ v. x ∷ v) (without_each w) (All-weaker (IsFace r w) (λ v. IsFace r (x ∷ w) (x ∷ v)) (faces_from r x w t) (without_each w) (faces r w t.1)))

-- a face that counts as no zero is a generator of the same arity
pub face_valid : (w v : List (List ℕ)) → IsGenerator w → IsFace (tuple_arity w) w v → is_zero_tuple v ≡ false → IsGenerator v × (tuple_arity v ≡ tuple_arity w)
face_valid w [] g f z = cc
face_valid w (x ∷ v) g f z =
    let e : length x ≡ tuple_arity w = permutation-length (tuple_arity w) x f.entries.0 in (
      record {
        some = omega arith;
        short = omega (arith, g.short, f.shorter);
        wide = omega (arith, e, g.wide);
        narrow = omega (arith, e, g.narrow);
        entries = subst (λ (r : ℕ). IsTuple r (x ∷ v)) (sym e) f.entries;
        plain = z;
      },
      e,
    )

alternating-all : {X : Type 0} (P : X → Type 0) (c : ℤ) (xs : List X) → All P xs → All (λ t. P t.0) (alternating_terms_from c xs)
alternating-all P c [] a = All-nil (λ t. P t.0)
alternating-all P c (x ∷ xs) a = All-cons (λ t. P t.0) (x, c) (alternating_terms_from (neg_ℤ c) xs) (All-head P x xs a) (alternating-all P (neg_ℤ c) xs (All-tail P x xs a))

terms : (Q : List (List ℕ) → Type 0) (w : List (List ℕ)) → IsGenerator w →
    ((v : List (List ℕ)) → IsFace (tuple_arity w) w v → is_zero_tuple v ≡ false → Q v) → All (λ t. Q t.0) (tuple_boundary w)
terms Q w g h =
    let P : List (List ℕ) → Type 0 = λ v. is_zero_tuple v ≡ false → Q v in
    All-kept_terms is_zero_tuple Q (alternating_terms_from (pos 1) (without_each w))
    (alternating-all P (pos 1) (without_each w) (All-weaker (IsFace (tuple_arity w) w) P h (without_each w) (faces (tuple_arity w) w g.entries)))

pub boundary_valid : (w : List (List ℕ)) → IsGenerator w → All (λ t. IsGenerator t.0) (tuple_boundary w)
boundary_valid w g = terms IsGenerator w g (λ v f z. (face_valid w v g f z).0)

pub boundary_arity : (w : List (List ℕ)) → IsGenerator w → All (λ t. tuple_arity t.0 ≡ tuple_arity w) (tuple_boundary w)
boundary_arity w g = terms (λ v. tuple_arity v ≡ tuple_arity w) w g (λ v f z. (face_valid w v g f z).1)

pub boundary_degree : (w : List (List ℕ)) → IsGenerator w → All (λ t. tuple_degree t.0 + 1 ≡ tuple_degree w) (tuple_boundary w)
boundary_degree w g = terms (λ v. tuple_degree v + 1 ≡ tuple_degree w) w g falls
  where
    falls : (v : List (List ℕ)) → IsFace (tuple_arity w) w v → is_zero_tuple v ≡ false → tuple_degree v + 1 ≡ tuple_degree w
    falls [] f z = cc
    falls (x ∷ v) f z = omega (arith, f.shorter)

pub no_boundary : (w : List (List ℕ)) → IsGenerator w → tuple_degree w ≡ 0 → tuple_boundary w ≡ []
no_boundary [] g e = refl
no_boundary (x ∷ []) g e = refl
no_boundary (x ∷ y ∷ w) g e = absurd (omega arith)

kept-weight : {X : Type 0} (gone : X → Bool) (c : ℤ) (xs : List X) → nat_abs c ≤ 1 → weight_of (kept_terms gone (alternating_terms_from c xs)) ≤ length xs
kept-weight gone c [] h = omega arith
kept-weight gone c (x ∷ xs) h =
    let ih = kept-weight gone (neg_ℤ c) xs (omega (arith, ints)) in
    elim (cases_Bool (gone x)) [
      | inl z ↦ rw z (omega arith)
      | inr z ↦ rw z (omega arith)
    ]

length-without_each : (w : List (List ℕ)) → length (without_each w) ≡ length w
length-without_each [] = refl
length-without_each (x ∷ w) = ap suc (length-map (without_each w) (λ v. x ∷ v) ∙ length-without_each w)

pub narrow_boundary : (w : List (List ℕ)) → IsGenerator w → weight_of (tuple_boundary w) ≤ 255
narrow_boundary w g = omega (arith, g.short, length-without_each w, kept-weight is_zero_tuple (pos 1) (without_each w) (omega arith))

pub boundary_weight : (w : List (List ℕ)) → IsGenerator w → weight_of (tuple_boundary w) ≤ 510
boundary_weight w g = omega (arith, narrow_boundary w g)

pub narrow_degree : (w : List (List ℕ)) → IsGenerator w → tuple_degree w ≤ 255
narrow_degree w g = omega (arith, g.short)

-- The walk over the entries of a tuple that sums up its boundary.
use Rattle.std.{proofs.Common.{◌≡◌, ℕ, zero, suc, ◌+◌, ◌≤◌, ◌<◌, false, List, [], ◌∷◌, length, drop, get_or, map, refl, sym, ap, ◌∙◌, arith, subst, ℤ, pos, neg_ℤ, ◌+ℤ◌, ◌*ℤ◌, nat_abs, remove}, specs.Cmp.Lexicographic.slice_cmp, specs.Ordering.nat_cmp, proofs.lemmas.Int.ints, proofs.lemmas.List.length-map, proofs.lemmas.List.Elements.All-get_or}
use Rattle.signed_sum.{specs.Names.{signed, alternating_terms, alternating_terms_from, restricted, value_at, weight_of, without_each}, proofs.Names.{signed-neg, restricted-there, value_at-kept_terms}}
use Rattle.operad_law.{specs.FormalSums.{IsSameSum, plus_term}, proofs.ListOrder.{equal_lists, equal_numbers}, proofs.PlusTerm.{value_at-plus_term, weight_of-plus_term}}
use Rattle.table_reduction_law.specs.Names.{is_zero_tuple, tuple_boundary, tuple_arity}
use Rattle.barratt_eccles.specs.{Generators.IsGenerator, BoundaryLaws.{IsFace, face_valid, faces}, Faces.AddsFace}

length-without_each : {X : Type 0} (w : List X) → length (without_each w) ≡ length w
length-without_each [] = refl
length-without_each (x ∷ w) = ap suc (length-map (without_each w) (λ v. x ∷ v) ∙ length-without_each w)

get_or-map : {X Y : Type 0} (f : X → Y) (xs : List X) (i : ℕ) (d : X) (e : Y) → i < length xs → get_or (map f xs) i e ≡ f (get_or xs i d)
get_or-map f [] i d e h = absurd (omega arith)
get_or-map f (x ∷ xs) zero d e h = refl
get_or-map f (x ∷ xs) (suc i) d e h = get_or-map f xs i d e (omega arith)

-- the list at place i is the one without entry i
pub without_each-at : {X : Type 0} (w : List X) (i : ℕ) (d : List X) → i < length w → get_or (without_each w) i d ≡ remove w i
without_each-at [] i d h = absurd (omega arith)
without_each-at (x ∷ w) zero d h = refl
without_each-at (x ∷ w) (suc i) d h =
    get_or-map (λ v. x ∷ v) (without_each w) i d d (omega (arith, length-without_each w)) ∙ ap (λ v. x ∷ v) (without_each-at w i d (omega arith))

pub alternating-drop : {X : Type 0} (c : ℤ) (xs : List X) (i : ℕ) (d : X) → i < length xs → drop i (alternating_terms_from c xs) ≡ (get_or xs i d, signed i c) ∷ drop (suc i) (alternating_terms_from c xs)
alternating-drop c [] i d h = absurd (omega arith)
alternating-drop c (x ∷ xs) zero d h = refl
alternating-drop c (x ∷ xs) (suc i) d h =
    alternating-drop (neg_ℤ c) xs i d (omega arith) ∙ ap (λ s. (get_or xs i d, s) ∷ drop (suc i) (alternating_terms_from (neg_ℤ c) xs)) (signed-neg i c)

alternating-past : {X : Type 0} (c : ℤ) (xs : List X) (i : ℕ) → length xs ≤ i → drop i (alternating_terms_from c xs) ≡ []
alternating-past c [] zero h = refl
alternating-past c [] (suc i) h = refl
alternating-past c (x ∷ xs) zero h = absurd (omega arith)
alternating-past c (x ∷ xs) (suc i) h = alternating-past (neg_ℤ c) xs i (omega arith)

signed-small : (i : ℕ) → nat_abs (signed i (pos 1)) ≤ 1
signed-small zero = omega arith
signed-small (suc i) = omega (arith, ints, signed-small i)

-- the faces from place i on, with their signs
abbrev pub faces_from : List (List ℕ) → ℕ → List (List (List ℕ) × ℤ)
faces_from w i = drop i (alternating_terms (without_each w))

-- a walk over the entries of w, before place i
pub record IsWalk (w : List (List ℕ)) (i : ℕ) (sum : List (List (List ℕ) × ℤ)) (s : ℤ) : Type 0 where
  pub sums : (phi : List (List ℕ) → ℤ) → value_at phi sum +ℤ value_at (restricted is_zero_tuple phi) (faces_from w i) ≡ value_at phi (tuple_boundary w)
  pub sign : s ≡ signed i (pos 1)
  pub light : weight_of sum ≤ i

pub IsWalk-start : (w : List (List ℕ)) → IsWalk w 0 [] (pos 1)
IsWalk-start w = record {
  sums = λ phi. let e = value_at-kept_terms is_zero_tuple phi (alternating_terms (without_each w)) in omega (arith, ints, e);
  sign = refl;
  light = omega arith;
}

faces_from-next : (w : List (List ℕ)) (i : ℕ) → i < length w → faces_from w i ≡ (remove w i, signed i (pos 1)) ∷ faces_from w (suc i)
faces_from-next w i h =
    alternating-drop (pos 1) (without_each w) i [] (omega (arith, length-without_each w))
    ∙ ap (λ v. (v, signed i (pos 1)) ∷ faces_from w (suc i)) (without_each-at w i [] h)

pub IsWalk-next : (w : List (List ℕ)) (i : ℕ) (old new : List (List (List ℕ) × ℤ)) (s t : ℤ) → i < length w → t ≡ neg_ℤ s → IsWalk w i old s → AddsFace w i s old new → IsWalk w (i + 1) new t
IsWalk-next w i old new s t h m k a =
    let j : i + 1 ≡ suc i = omega arith in
    rw j (record {
      sums = λ phi.
          let q : value_at phi old +ℤ (signed i (pos 1) *ℤ restricted is_zero_tuple phi (remove w i) +ℤ value_at (restricted is_zero_tuple phi) (faces_from w (suc i))) ≡ value_at phi (tuple_boundary w) =
          ap (λ ts. value_at phi old +ℤ value_at (restricted is_zero_tuple phi) ts) (sym (faces_from-next w i h)) ∙ k.sums phi in
          let r : s *ℤ restricted is_zero_tuple phi (remove w i) ≡ signed i (pos 1) *ℤ restricted is_zero_tuple phi (remove w i) = ap (λ z. z *ℤ restricted is_zero_tuple phi (remove w i)) k.sign in
          omega (arith, ints, q, r, a.sums phi);
      sign = m ∙ ap neg_ℤ k.sign;
      light = omega (arith, a.grows, k.light);
    })

pub IsWalk-end : (w : List (List ℕ)) (i : ℕ) (sum : List (List (List ℕ) × ℤ)) (s : ℤ) → length w ≤ i → IsWalk w i sum s → IsSameSum sum (tuple_boundary w)
IsWalk-end w i sum s h k =
    let d : faces_from w i ≡ [] = alternating-past (pos 1) (without_each w) i (omega (arith, length-without_each w)) in
    record { at = λ phi. let q = rw d at k.sums phi in omega (arith, ints, q) }

pub IsWalk-small : (w : List (List ℕ)) (i : ℕ) (sum : List (List (List ℕ) × ℤ)) (s : ℤ) → IsWalk w i sum s → nat_abs s ≤ 1
IsWalk-small w i sum s k = rw k.sign (signed-small i)

pub face-generator : (w : List (List ℕ)) (i : ℕ) → IsGenerator w → i < length w → is_zero_tuple (remove w i) ≡ false → IsGenerator (remove w i)
face-generator w i g h z =
    let f : IsFace (tuple_arity w) w (remove w i) = subst (IsFace (tuple_arity w) w) (without_each-at w i [] h) (All-get_or (IsFace (tuple_arity w) w) (without_each w) i [] (omega (arith, length-without_each w)) (faces (tuple_arity w) w g.entries)) in
    (face_valid w (remove w i) g f z).0

-- ---- what is added
pub AddsFace-term : (w : List (List ℕ)) (i : ℕ) (s : ℤ) (old : List (List (List ℕ) × ℤ)) (v : List (List ℕ)) → v ≡ remove w i → is_zero_tuple v ≡ false → nat_abs s ≤ 1 → AddsFace w i s old (plus_term (slice_cmp (slice_cmp nat_cmp)) old v s)
AddsFace-term w i s old v e z m = record {
  sums = λ phi.
      let a : s *ℤ phi v ≡ s *ℤ restricted is_zero_tuple phi (remove w i) = ap (λ y. s *ℤ y) (sym (restricted-there is_zero_tuple phi v z) ∙ ap (restricted is_zero_tuple phi) e) in
      omega (arith, ints, a, value_at-plus_term (slice_cmp (slice_cmp nat_cmp)) (equal_lists (slice_cmp nat_cmp) equal_numbers) phi old v s);
  grows = omega (arith, weight_of-plus_term (slice_cmp (slice_cmp nat_cmp)) old v s);
}

-- Lengths and equal neighbours, step by step; and that a list without a fault is a generator.
use Rattle.std.{proofs.Common.{◌≡◌, ℕ, zero, suc, ◌+◌, ◌<◌, ◌≤◌, ◌==◌, ◌&&◌, true, false, List, [], ◌∷◌, length, take, drop, get_or, None, Some, is_some, refl, sym, ap, ◌∙◌, inl, inr, arith, subst, All, eq-eqb, eqb-true}, specs.Ordering.{eq_by_cmp, nat_cmp}, specs.Cmp.Lexicographic.slice_cmp, specs.Str.bytes_eq, proofs.Math.Seq.drop-cons, proofs.lemmas.Bool.{cases_Bool, cases_eq, eqb-false}, proofs.lemmas.List.Elements.{All-head, All-more, All-tail}, proofs.lemmas.Map.Text.is_eq-slice_cmp}
use Rattle.signed_sum.specs.Names.{is_same_list}
use Rattle.operad_law.{specs.Permutations.IsPerm, proofs.PermLemmas.permutation_of}
use Rattle.table_reduction_law.specs.Names.{IsTuple, begins_with_entry, is_degenerate_tuple, is_zero_tuple, tuple_arity}
use Rattle.barratt_eccles.specs.{Generators.IsGenerator, Refusals.{equal_neighbours_from, other_length_from}}

pub rest : {X : Type 0} (w : List X) (i : ℕ) (x : X) → x ≡ get_or w i x → i < length w → drop i w ≡ x ∷ drop (suc i) w
rest w i x e h = drop-cons w i x h ∙ ap (λ v. v ∷ drop (suc i) w) (sym e)

-- ---- lengths

pub length-next : (r : ℕ) (w : List (List ℕ)) (i : ℕ) (x : List ℕ) → x ≡ get_or w i x → i < length w → length x ≡ r → other_length_from r (i + 1) (drop (i + 1) w) ≡ other_length_from r i (drop i w)
length-next r w i x e h q =
    let s : i + 1 ≡ suc i = omega arith in
    rw (rest w i x e h, eq-eqb (length x) r q, s) refl

pub all-next : (P : List ℕ → Type 0) (w : List (List ℕ)) (i : ℕ) (x : List ℕ) → x ≡ get_or w i x → i < length w → P x → All P (take i w) → All P (take (i + 1) w)
all-next P w i x e h p a = All-more P w i x h a (subst P e p)

-- ---- equal neighbours
same-bytes : (x y : List ℕ) → bytes_eq x y ≡ is_same_list x y
same-bytes [] [] = refl
same-bytes [] (y ∷ ys) = refl
same-bytes (x ∷ xs) [] = refl
same-bytes (x ∷ xs) (y ∷ ys) = ap (λ b. (x == y) && b) (same-bytes xs ys)

pub same-test : (x y : List ℕ) → eq_by_cmp (slice_cmp nat_cmp) x y ≡ is_same_list x y
same-test x y = is_eq-slice_cmp x y ∙ same-bytes x y

first-two : (w : List (List ℕ)) (i : ℕ) (x y : List ℕ) → x ≡ get_or w i x → y ≡ get_or w (i + 1) y → i + 1 < length w → drop i w ≡ x ∷ y ∷ drop (suc (i + 1)) w
first-two w i x y e f h =
    let s : suc i ≡ i + 1 = omega arith in
    rest w i x e (omega arith) ∙ ap (λ v. x ∷ v) (ap (λ k. drop k w) s ∙ rest w (i + 1) y f h)

pub neighbours-found : (w : List (List ℕ)) (i : ℕ) (x y : List ℕ) → x ≡ get_or w i x → y ≡ get_or w (i + 1) y → i + 1 < length w → is_same_list x y ≡ true → equal_neighbours_from i (drop i w) ≡ Some (i + 1)
neighbours-found w i x y e f h q = let s : suc i ≡ i + 1 = omega arith in rw (first-two w i x y e f h, q) (ap Some s)

pub neighbours-next : (w : List (List ℕ)) (i : ℕ) (x y : List ℕ) → x ≡ get_or w i x → y ≡ get_or w (i + 1) y → i + 1 < length w → is_same_list x y ≡ false → equal_neighbours_from (i + 1) (drop (i + 1) w) ≡ equal_neighbours_from i (drop i w)
neighbours-next w i x y e f h q =
    let s : i + 1 ≡ suc i = omega arith in
    rw (first-two w i x y e f h, q, rest w (i + 1) y f h, s) refl

pub neighbours-end : (w : List (List ℕ)) (i from : ℕ) → length w ≤ i + 1 → equal_neighbours_from from (drop i w) ≡ None
neighbours-end [] zero from h = refl
neighbours-end [] (suc i) from h = refl
neighbours-end (x ∷ []) zero from h = refl
neighbours-end (x ∷ y ∷ w) zero from h = absurd (omega arith)
neighbours-end (x ∷ w) (suc i) from h = neighbours-end w i from (omega arith)

pub degenerate-is : (from : ℕ) (w : List (List ℕ)) → is_degenerate_tuple w ≡ is_some (equal_neighbours_from from w)
degenerate-is from [] = refl
degenerate-is from (x ∷ w) = elim (cases_Bool (begins_with_entry x w)) [
  | inl e ↦ rw e refl
  | inr e ↦ rw e (degenerate-is (suc from) w)
]

pub zero-is : (w : List (List ℕ)) → 1 ≤ length w → is_zero_tuple w ≡ is_some (equal_neighbours_from 0 w)
zero-is [] h = absurd (omega arith)
zero-is (x ∷ w) h = degenerate-is 0 (x ∷ w)

pub not_empty : (w : List (List ℕ)) → (length w == 0) ≡ false → 1 ≤ length w
not_empty w e = elim (cases_eq (length w) 0) [ inl z ↦ absurd (eqb-false (length w) 0 e z) | inr n ↦ omega arith ]

-- ---- no fault
length-first : (r from : ℕ) (x : List ℕ) (w : List (List ℕ)) → other_length_from r from (x ∷ w) ≡ None → (length x ≡ r) × (other_length_from r (suc from) w ≡ None)
length-first r from x w e = elim (cases_Bool (length x == r)) [
  | inl q ↦ (eqb-true (length x) r q, rw q at e)
  | inr q ↦ absurd (let s : other_length_from r from (x ∷ w) ≡ Some from = rw q refl in cc)
]

entries-tuple : (r from : ℕ) (w : List (List ℕ)) → other_length_from r from w ≡ None → All IsPerm w → IsTuple r w
entries-tuple r from [] e p = tt
entries-tuple r from (x ∷ w) e p =
    let f = length-first r from x w e in
    (permutation_of r x (All-head IsPerm x w p) f.0, entries-tuple r (suc from) w f.1 (All-tail IsPerm x w p))

pub no_fault : (w : List (List ℕ)) → 1 ≤ length w → length w ≤ 201 → other_length_from (tuple_arity w) 0 w ≡ None → All IsPerm w → equal_neighbours_from 0 w ≡ None → IsGenerator w
no_fault [] a b c p e = absurd (omega arith)
no_fault (x ∷ w) a b c p e =
    let first = All-head IsPerm x w p in
    record {
      some = a;
      short = b;
      wide = omega (arith, first.some);
      narrow = omega (arith, first.short);
      entries = entries-tuple (length x) 0 (x ∷ w) c p;
      plain = degenerate-is 0 (x ∷ w) ∙ ap is_some e;
    }

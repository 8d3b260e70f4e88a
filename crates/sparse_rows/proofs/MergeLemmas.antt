-- Two rows are added in one pass.
use Rattle.std.proofs.Common.{◌≡◌, ℕ, ◌+◌, ◌*◌, ◌%◌, ◌<◌, ◌≤◌, ◌≢◌, List, [], ◌∷◌, ◌++◌, take, length, map, get_or, arith, refl, sym, ◌∙◌, ap, ap₂, subst, inl, inr, take_all}
use Rattle.sparse_rows.{proofs.Below.{cases_eq, mod-eq_of_lt, get_or_default, take_more, Congruent, Each, IsAscending, unit_vector, Congruent_add, Congruent_from, Congruent_mod, Congruent_mul, Congruent_of, Congruent_refl, Congruent_trans, each_map, each_push, sum_append}, specs.Rows.{IsBelow, IsRow, value_in}, specs.Merging.{IsNext, StartsFrom, StepsOver, position_of}, proofs.RowLemmas.{ascending_from, sum_take, value_in-small}}

-- what is merged so far: the sum of what was passed, below all that is left
pub record IsMerged (p by : ℕ) (left right out : List (ℕ × ℕ)) (i j : ℕ) : Type 0 where
  pub inside_left : i ≤ length left
  pub inside_right : j ≤ length right
  pub row : IsRow p out
  pub sum : (y : ℕ) → Congruent p (value_in out y) (value_in (take i left) y + by * value_in (take j right) y)
  pub below_left : (k : ℕ) → i ≤ k → k < length left → IsBelow (position_of left k) out
  pub below_right : (k : ℕ) → j ≤ k → k < length right → IsBelow (position_of right k) out

ascends_push : (xs : List (ℕ × ℕ)) (x : ℕ × ℕ) → IsAscending (map (λ (e : ℕ × ℕ). e.0) xs) → Each (λ e. e.0 < x.0) xs → IsAscending (map (λ (e : ℕ × ℕ). e.0) (xs ++ (x ∷ [])))
ascends_push [] x h b = (tt, tt)
ascends_push (y ∷ xs) x h b = (first xs h.0, ascends_push xs x h.1 b.1)
  where
    first : (zs : List (ℕ × ℕ)) → Each (λ w. y.0 < w) (map (λ (e : ℕ × ℕ). e.0) zs) → Each (λ w. y.0 < w) (map (λ (e : ℕ × ℕ). e.0) (zs ++ (x ∷ [])))
    first [] k = (b.0, tt)
    first (z ∷ zs) k = (k.0, first zs k.1)

pub put_row : (p : ℕ) (out : List (ℕ × ℕ)) (position value : ℕ) → IsRow p out → IsBelow position out → value ≢ 0 → value < p → IsRow p (out ++ ((position, value) ∷ []))
put_row p out position value h u z s = record {
  ascends = ascends_push out (position, value) h.ascends u;
  values = each_push (λ e. (e.1 ≢ 0) × (e.1 < p)) out (position, value) h.values (z, s);
}

below_more : (n m : ℕ) (out : List (ℕ × ℕ)) → n ≤ m → IsBelow n out → IsBelow m out
below_more n m out b h = each_map (λ e c. omega arith) out h

pub put_below : (out : List (ℕ × ℕ)) (position value : ℕ) → IsBelow position out → IsBelow (position + 1) (out ++ ((position, value) ∷ []))
put_below out position value u =
    each_push (λ e. e.0 < position + 1) out (position, value) (below_more position (position + 1) out (omega arith) u) (omega arith)

pub stay_below : (out : List (ℕ × ℕ)) (position : ℕ) → IsBelow position out → IsBelow (position + 1) out
stay_below out position u = below_more position (position + 1) out (omega arith) u

pub put_sum : (out : List (ℕ × ℕ)) (position value y : ℕ) → value_in (out ++ ((position, value) ∷ [])) y ≡ value_in out y + value * unit_vector position y
put_sum out position value y = sum_append (λ (e : ℕ × ℕ). e.1 * unit_vector e.0 y) out ((position, value) ∷ []) ∙ omega arith

step_at : (p : ℕ) (row : List (ℕ × ℕ)) (i m : ℕ) → IsRow p row → i < length row → position_of row i ≡ m → StepsOver row i m (i + 1) (get_or row i (0, 0)).1
step_at p row i m h b e = record {
  inside = omega arith;
  later = omega arith;
  sum = λ y. sum_take (λ (e : ℕ × ℕ). e.1 * unit_vector e.0 y) row i (0, 0) b ∙ ap (λ n. value_in (take i row) y + (get_or row i (0, 0)).1 * unit_vector n y) e;
  beyond = record { each = λ k c d. let a = ascending_from row i k h.ascends (omega arith) d in omega arith };
  moves = λ _ _. omega arith;
}

pub step_over : (p : ℕ) (row : List (ℕ × ℕ)) (i m : ℕ) (d d' : ℕ × ℕ) → IsRow p row → i < length row → (get_or row i d).0 ≡ m → StepsOver row i m (i + 1) (get_or row i d').1
step_over p row i m d d' h b e =
    subst (λ (x : ℕ × ℕ). StepsOver row i m (i + 1) x.1) (get_or_default row i (0, 0) d' b) (step_at p row i m h b (ap (λ (x : ℕ × ℕ). x.0) (get_or_default row i (0, 0) d b) ∙ e))

pub from_head : (p : ℕ) (row : List (ℕ × ℕ)) (i m : ℕ) → IsRow p row → (i < length row → m ≤ position_of row i) → StartsFrom row i m
from_head p row i m h b = record {
  each = λ k c d. elim (cases_eq k i) [
    | inl e ↦ let P : ℕ → Type 0 = λ j. m ≤ position_of row j in subst P (sym e) (b (omega arith))
    | inr o ↦ let q = ascending_from row i k h.ascends (omega arith) d in let a = b (omega arith) in omega arith
  ];
}

pub step_none : (p : ℕ) (row : List (ℕ × ℕ)) (i m : ℕ) → i ≤ length row → IsRow p row → StartsFrom row i m → (i < length row → position_of row i ≢ m) → StepsOver row i m i 0
step_none p row i m b h s n = record {
  inside = b;
  later = omega arith;
  sum = λ y. omega arith;
  beyond = from_head p row i (m + 1) h (λ c. let a = s.each i (omega arith) c in let o = n c in omega arith);
  moves = λ c e. absurd (n c e);
}

pub merge_step : (p by : ℕ) (left right out new : List (ℕ × ℕ)) (i j m next own after other value : ℕ) → IsMerged p by left right out i j
    → StepsOver left i m next own → StepsOver right j m after other → IsRow p new → IsBelow (m + 1) new → value ≡ (own + (by * other) % p) % p
    → ((y : ℕ) → value_in new y ≡ value_in out y + value * unit_vector m y) → IsMerged p by left right new next after
merge_step p by left right out new i j m next own after other value h a b row below is sum = record {
  inside_left = a.inside;
  inside_right = b.inside;
  row = row;
  sum = λ y.
      let v : Congruent p value (own + by * other) = Congruent_trans (Congruent_of is) (Congruent_trans (Congruent_mod p _) (Congruent_add (Congruent_refl own) (Congruent_mod p (by * other)))) in
      Congruent_from
      (Congruent_add (Congruent_of {p = p} (sum y)) (Congruent_add (h.sum y) (Congruent_add (Congruent_mul v (Congruent_refl (unit_vector m y)))
      (Congruent_of {p = p} (sym (ap₂ (λ s t. s + by * t) (a.sum y) (b.sum y)))))))
      (omega arith);
  below_left = λ k c d. below_more (m + 1) (position_of left k) new (let e = a.beyond.each k c d in omega arith) below;
  below_right = λ k c d. below_more (m + 1) (position_of right k) new (let e = b.beyond.each k c d in omega arith) below;
}

pub merge_end : (p by : ℕ) (left right out : List (ℕ × ℕ)) (i j : ℕ) → 0 < p → IsMerged p by left right out i j → length left ≤ i → length right ≤ j
    → (y : ℕ) → value_in out y ≡ (value_in left y + by * value_in right y) % p
merge_end p by left right out i j large h a b y =
    sym (mod-eq_of_lt (value_in-small p out y large h.row)) ∙ (h.sum y).same
    ∙ ap₂ (λ (s t : List (ℕ × ℕ)). (value_in s y + by * value_in t y) % p) (take_all i left a) (take_all j right b)

-- the default does not matter
pub same : (row : List (ℕ × ℕ)) (k : ℕ) (d e : ℕ × ℕ) → k < length row → (get_or row k d).0 ≡ (get_or row k e).0
same row k d e b = ap (λ (x : ℕ × ℕ). x.0) (get_or_default row k d e b)

module _ (p : ℕ) (left right : List (ℕ × ℕ)) (i j : ℕ) (d e : ℕ × ℕ) (hl : IsRow p left) (hr : IsRow p right) where
  here : (row : List (ℕ × ℕ)) (k : ℕ) (d : ℕ × ℕ) → k < length row → position_of row k ≡ (get_or row k d).0
  here row k d b = same row k (0, 0) d b

  pub next_left : i < length left → (j < length right → (get_or left i d).0 ≤ (get_or right j e).0) → IsNext left right i j (get_or left i d).0
  next_left b c = record {
    left_from = from_head p left i (get_or left i d).0 hl (λ a. omega (arith, here left i d a));
    right_from = from_head p right j (get_or left i d).0 hr (λ a. omega (arith, c a, here right j e a));
    one = inl (b, here left i d b);
  }

  pub next_right : j < length right → (i < length left → (get_or right j e).0 ≤ (get_or left i d).0) → IsNext left right i j (get_or right j e).0
  next_right b c = record {
    left_from = from_head p left i (get_or right j e).0 hl (λ a. omega (arith, c a, here left i d a));
    right_from = from_head p right j (get_or right j e).0 hr (λ a. omega (arith, here right j e a));
    one = inr (b, here right j e b);
  }

-- one more pair behind a row
pub row_more : (p : ℕ) (pairs : List (ℕ × ℕ)) (i least : ℕ) (pair : ℕ × ℕ) → pair ≡ get_or pairs i pair → i < length pairs → IsRow p (take i pairs) → IsBelow least (take i pairs)
    → least ≤ pair.0 → pair.1 ≢ 0 → pair.1 < p → IsRow p (take (i + 1) pairs) × IsBelow (pair.0 + 1) (take (i + 1) pairs)
row_more p pairs i least pair is b h low c nonzero small =
    let e : take (i + 1) pairs ≡ take i pairs ++ (pair ∷ []) = take_more pairs i pair b ∙ ap (λ x. take i pairs ++ (x ∷ [])) (sym is) in
    let below : IsBelow pair.0 (take i pairs) = below_more least pair.0 (take i pairs) c low in
    subst (λ (r : List (ℕ × ℕ)). IsRow p r × IsBelow (pair.0 + 1) r) (sym e)
    (put_row p (take i pairs) pair.0 pair.1 h below nonzero small, put_below (take i pairs) pair.0 pair.1 below)

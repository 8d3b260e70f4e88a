-- Adding rows to a sum.
use Rattle.std.proofs.Common.{◌≡◌, ℕ, zero, suc, ◌+◌, ◌*◌, ◌%◌, ◌<◌, ◌≢◌, List, [], ◌∷◌, take, length, get_or, set, arith, sym, ◌∙◌, ap, subst, inl, inr, get_or-set_other, get_or-set_same, ◌++◌, Option, None, Some}
use Rattle.row_reduce.{proofs.Below.{cases_eq, cases_lt, get_or_default, take_more, AllZip, zip_push, each_get_or, each_push, unit_one, unit_other, Congruent_refl, Congruent_of, Congruent_trans, Congruent_add, Congruent_mul, Congruent_scale, Congruent_from, Congruent_mod, sum_append, Congruent, Each, unit_vector, StartsAt, IsBelow, value_in, sum_take}, specs.Names.{Stored, Owns, StoredFits, added_row}}

-- what one entry gives
abbrev pub entry_at : ℕ × ℕ → ℕ → ℕ
entry_at e y = e.1 * unit_vector e.0 y

-- while the sum is walked: what is before `at` is gone
pub record Reducing (p : ℕ) (images : List (Stored p)) (old sum : List ℕ) (history : List (ℕ × ℕ)) (at : ℕ) : Type 0 where
  pub before : StartsAt p at (λ y. get_or sum y 0)
  pub history_fits : IsBelow (length images) history
  pub row : (d : Stored p) (y : ℕ) → Congruent p (get_or sum y 0) (get_or old y 0 + added_row images d history y)

-- a row that was read is the one at its number
pub row_read : (rows : List (List (ℕ × ℕ))) (i : ℕ) (r : List (ℕ × ℕ)) → r ≡ get_or rows i r → i < length rows → r ≡ get_or rows i []
row_read rows i r is b = is ∙ get_or_default rows i r [] b

-- what was read at i
pub read_at : (xs : List ℕ) (i r : ℕ) → r ≡ get_or xs i r → i < length xs → r ≡ get_or xs i 0
read_at xs i r is b = is ∙ get_or_default xs i r 0 b

-- one more element is matched
pub zip_more : {X Z : Type 0} (R : X → Z → Type 0) (xs : List X) (zs ws : List Z) (i : ℕ) (x : X) (z : Z) → x ≡ get_or xs i x → i < length xs → ws ≡ zs ++ (z ∷ []) → AllZip R (take i xs) zs → R x z → AllZip R (take (i + 1) xs) ws
zip_more {X} {Z} R xs zs ws i x z is b e h r =
    let more : take (i + 1) xs ≡ take i xs ++ (x ∷ []) = take_more xs i x b ∙ ap (λ (y : X). take i xs ++ (y ∷ [])) (sym is) in
    subst (λ (ys : List X). AllZip R ys ws) (sym more) (subst (AllZip R (take i xs ++ (x ∷ []))) (sym e) (zip_push R (take i xs) zs x z h r))

pub entry_here : (e : ℕ × ℕ) (y : ℕ) → y ≡ e.0 → entry_at e y ≡ e.1
entry_here e y q =
    let P : ℕ → Type 0 = λ x. e.1 * unit_vector e.0 x ≡ e.1 in
    subst P (sym q) (let u = unit_one 0 e.0 in rw u (omega arith))

pub entry_away : (e : ℕ × ℕ) (y : ℕ) → y ≢ e.0 → entry_at e y ≡ 0
entry_away e y n = let u = unit_other e.0 y n in rw u (omega arith)

-- one number is greater by c
set_adds : (p at v c : ℕ) (now : List ℕ) (k : ℕ) → at < length now → Congruent p v (get_or now at 0 + c) → Congruent p (get_or (set now at v) k 0) (get_or now k 0 + c * unit_vector at k)
set_adds p at v c now k inside h = elim (cases_eq k at) [
  | inl q ↦ subst (λ j. Congruent p (get_or (set now at v) j 0) (get_or now j 0 + c * unit_vector at j)) (sym q)
      (let u = unit_one 0 at in rw get_or-set_same (rw u (Congruent_trans h (Congruent_of (omega arith)))))
  | inr n ↦ let u = unit_other at k n in rw get_or-set_other (rw u (Congruent_of (omega arith)))
]

-- one more entry is added
pub add_entry : (p by : ℕ) (old now : List ℕ) (row : List (ℕ × ℕ)) (i v : ℕ) (e : ℕ × ℕ) → e ≡ get_or row i e → i < length row → e.0 < length now → v ≡ (get_or now e.0 0 + by * e.1) % p
    → ((k : ℕ) → Congruent p (get_or now k 0) (get_or old k 0 + by * value_in (take i row) k))
    → (k : ℕ) → Congruent p (get_or (set now e.0 v) k 0) (get_or old k 0 + by * value_in (take (i + 1) row) k)
add_entry p by old now row i v e is b inside v_is h k =
    let more : value_in (take (i + 1) row) k ≡ value_in (take i row) k + entry_at e k =
    sum_take (λ (f : ℕ × ℕ). entry_at f k) row i e b ∙ ap (λ (f : ℕ × ℕ). value_in (take i row) k + entry_at f k) (sym is) in
    Congruent_from (Congruent_add (set_adds p e.0 v (by * e.1) now k inside (Congruent_trans (Congruent_of v_is) (Congruent_mod p (get_or now e.0 0 + by * e.1)))) (h k)) (rw more (omega arith))

-- what the factor of a row does at its lead and before
pub cancel_before : (p width by : ℕ) (old new : List ℕ) (image : Stored p) → StoredFits p width image → by ≡ (get_or old image.place 0 * image.factor) % p
    → StartsAt p image.place (λ y. get_or old y 0) → ((y : ℕ) → Congruent p (get_or new y 0) (get_or old y 0 + by * value_in image.row y)) → StartsAt p (image.place + 1) (λ y. get_or new y 0)
cancel_before p width by old new image fits by_is before step = record {
  before = λ y b. elim (cases_lt y image.place) [
    | inl c ↦ Congruent_from (Congruent_add (step y) (Congruent_add (before.before y c) (Congruent_scale by (fits.leads.before y c)))) (omega arith)
    | inr c ↦
        let q : image.place ≡ y = omega arith in
        let v = get_or old image.place 0 in
        let w = value_in image.row image.place in
        let m : Congruent p (by * w) ((v * image.factor) * w) = Congruent_mul (Congruent_trans (Congruent_of by_is) (Congruent_mod p (v * image.factor))) (Congruent_refl w) in
        subst (λ z. Congruent p (get_or new z 0) 0) q (Congruent_from (Congruent_add (step image.place) (Congruent_add m (Congruent_scale v fits.factor))) (omega arith))
  ];
}

-- the row that the pivots name at a place
pub named : {p : ℕ} (width : ℕ) (images : List (Stored p)) (pivots : List (Option ℕ)) (y k : ℕ) (i : Stored p) → Owns width images pivots → get_or pivots y None ≡ Some k → i ≡ get_or images k i
    → (k < length images) × (i.place ≡ y)
named {p} width images pivots y k i h e is = let o = h.some y k e in (o.0, ap (λ (j : Stored p). j.place) is ∙ o.1 i)

-- one more row is added
pub push_added : (p : ℕ) (images : List (Stored p)) (d i : Stored p) (history : List (ℕ × ℕ)) (k by old now new y : ℕ) → i ≡ get_or images k i → k < length images
    → Congruent p now (old + added_row images d history y) → Congruent p new (now + by * value_in i.row y)
    → Congruent p new (old + added_row images d (history ++ ((k, by) ∷ [])) y)
push_added p images d i history k by old now new y is b h s =
    let e = sum_append (λ (h : ℕ × ℕ). h.1 * value_in (get_or images h.0 d).row y) history ((k, by) ∷ []) in
    let q : by * value_in (get_or images k d).row y ≡ by * value_in i.row y =
    ap (λ (j : Stored p). by * value_in j.row y) (get_or_default images k d i b ∙ sym is) in
    Congruent_from (Congruent_add s h) (omega (arith, e, q))

pub reducing_step : (p : ℕ) (images : List (Stored p)) (old sum new : List ℕ) (history : List (ℕ × ℕ)) (at k by : ℕ) (i : Stored p) → i ≡ get_or images k i → k < length images → i.place ≡ at
    → Reducing p images old sum history at → StartsAt p (i.place + 1) (λ y. get_or new y 0) → ((y : ℕ) → Congruent p (get_or new y 0) (get_or sum y 0 + by * value_in i.row y))
    → Reducing p images old new (history ++ ((k, by) ∷ [])) (at + 1)
reducing_step p images old sum new history at k by i is b q h before step = record {
  before = record { before = λ y c. before.before y (omega arith) };
  history_fits = each_push (λ (e : ℕ × ℕ). e.0 < length images) history (k, by) h.history_fits b;
  row = λ d y. push_added p images d i history k by (get_or old y 0) (get_or sum y 0) (get_or new y 0) y is b (h.row d y) (step y);
}

pub reducing_past : (p : ℕ) (images : List (Stored p)) (old sum : List ℕ) (history : List (ℕ × ℕ)) (at : ℕ) → get_or sum at 0 ≡ 0
    → Reducing p images old sum history at → Reducing p images old sum history (at + 1)
reducing_past p images old sum history at e h = record {
  before = record { before = λ y c. elim (cases_eq y at) [ inl q ↦ Congruent_of (ap (λ z. get_or sum z 0) q ∙ e) | inr n ↦ h.before.before y (omega arith) ] };
  history_fits = h.history_fits;
  row = h.row;
}

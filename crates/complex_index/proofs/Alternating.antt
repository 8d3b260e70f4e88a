-- The values of a coboundary and of a boundary are the alternating sums over the faces.
use Rattle.std.{proofs.Common.{◌≡◌, ℕ, zero, suc, ◌+◌, ◌*◌, ◌<◌, ◌≤◌, inl, inr, arith, refl, sym, ◌∙◌, ap, ap₂, subst, List, [], ◌∷◌, ◌++◌, map, length, get_or, drop, append_assoc, Bool, true, false, cond, not, eqb, eq-eqb}, proofs.lemmas.Bool.Decides.eqb_tells, proofs.lemmas.List.map-append, specs.List.Sorted.IsStrictlySortedBy}
use Rattle.complex_index.{specs.Names.{Coface, ArePlaces, ArePlacesOf, simplex_at, marks, above_at, boundary_coefficient, pair_of, shrunk, signed_places, signed_value, spread}, proofs.FacePlaces.left_at, proofs.LevelLemmas.places_length}
use Rattle.linear_law.{specs.Names.{Congruent, negated, sum_over, Each, unit_vector}, proofs.Names.{Congruent_refl, Congruent_of, Congruent_sym, Congruent_trans, Congruent_add, Congruent_mul, Congruent_scale, Congruent_cancel, add-negated, Congruent_mod, sum_append, sum_map, each_append, each_of_map}}
use Rattle.simplicial_law.{specs.Names.{faces, Cochain, alternating_chain, boundary, coboundary, pairing, unit_cochain, simplex_cmp, cochain_of, terms_of}, proofs.Names.{once_in_order, unit_away, unit_here}}
use Rattle.sparse_rows.specs.Rows.{IsBelow, value_in}

-- ---- values

-- the value at a place, by tests
abbrev sum_at : ℕ → List (ℕ × ℕ) → ℕ
sum_at k ts = sum_over (λ (t : ℕ × ℕ). cond (eqb t.0 k) t.1 0) ts

differ : (y k : ℕ) → (y ≡ k → ⊥) → eqb y k ≡ false
differ y k n = elim (eqb_tells y k) [ inl h ↦ absurd (n h.1) | inr h ↦ h.0 ]

eqb_flip : (a b : ℕ) → eqb a b ≡ eqb b a
eqb_flip a b = elim (eqb_tells a b) [
  | inl h ↦ h.0 ∙ sym (eq-eqb b a (sym h.1))
  | inr h ↦ h.0 ∙ sym (differ b a (λ e. h.1 (sym e)))
]

pub pair_value : (x a k : ℕ) → cond (eqb x k) a 0 ≡ a * unit_vector x k
pair_value x a k = one (eqb x k) ∙ ap (λ (b : Bool). a * cond b 1 0) (eqb_flip x k)
  where
    one : (b : Bool) → cond b a 0 ≡ a * cond b 1 0
    one true = omega arith
    one false = omega arith

sum_at_value : (k : ℕ) (ts : List (ℕ × ℕ)) → sum_at k ts ≡ value_in ts k
sum_at_value k [] = refl
sum_at_value k (t ∷ ts) = ap₂ (λ m n. m + n) (pair_value t.0 t.1 k) (sum_at_value k ts)

-- ---- places

-- 1 at the place, 0 elsewhere
pub unit_at_place : (ks : List (List ℕ)) (x q c : ℕ) → IsStrictlySortedBy simplex_cmp ks → x < length ks → q < length ks → cond (eqb q x) c 0 ≡ c * unit_cochain (simplex_at ks x) (simplex_at ks q)
unit_at_place ks x q c h l m = elim (eqb_tells q x) [
  | inl k ↦ rw (k.0) (omega (arith, ap (λ n. c * n) (sym (ap (λ (t : List ℕ). unit_cochain (simplex_at ks x) t) (ap (simplex_at ks) k.1) ∙ unit_here (simplex_at ks x)))))
  | inr k ↦ rw (k.0) (omega (arith, ap (λ n. c * n) (sym (unit_away (simplex_at ks x) (simplex_at ks q) (λ e. k.1 (once_in_order ks q x h m l (sym e)))))))
]

-- ---- signs

-- a value with its sign, and the next with the other sign
both_signs : (p a : ℕ) (o : Bool) → 1 < p → Congruent p (signed_value p a (not o) + signed_value p a o) 0
both_signs p a true h = Congruent_trans (Congruent_add (Congruent_refl a) (Congruent_mod p (negated p a))) (add-negated p a h)
both_signs p a false h = Congruent_trans (Congruent_add (Congruent_mod p (negated p a)) (Congruent_refl a)) (Congruent_trans (Congruent_of (omega arith)) (add-negated p a h))

both_products : (p a s : ℕ) → 1 < p → Congruent p (a * negated p s + a * s) 0
both_products p a s h = Congruent_trans (Congruent_of (omega arith)) (Congruent_trans (Congruent_scale a (add-negated p s h)) (Congruent_of (omega arith)))

flip_sign : (p a s : ℕ) (o : Bool) → 1 < p → Congruent p (signed_value p a o) (a * s) → Congruent p (signed_value p a (not o)) (a * negated p s)
flip_sign p a s o h e =
    Congruent_cancel p (signed_value p a (not o)) (a * negated p s) (signed_value p a o)
    (Congruent_trans (both_signs p a o h) (Congruent_trans (Congruent_sym (both_products p a s h)) (Congruent_add (Congruent_refl (a * negated p s)) (Congruent_sym e))))

-- the part of a boundary with these places at x
abbrev edge : ℕ → ℕ → ℕ → Bool → List ℕ → ℕ
edge p a x o [] = 0
edge p a x o (q ∷ qs) = cond (eqb q x) (signed_value p a o) 0 + edge p a x (not o) qs

edge_law : (p a x : ℕ) (ks : List (List ℕ)) (qs : List ℕ) (o : Bool) (s : ℕ) → 1 < p → IsStrictlySortedBy simplex_cmp ks → x < length ks → Each (λ q. q < length ks) qs
    → Congruent p (signed_value p a o) (a * s) → Congruent p (edge p a x o qs) (a * pairing (unit_cochain (simplex_at ks x)) (alternating_chain p s (map (simplex_at ks) qs)))
edge_law p a x ks [] o s h w m b e = Congruent_of (omega arith)
edge_law p a x ks (q ∷ qs) o s h w m b e =
    Congruent_trans (Congruent_add (Congruent_trans (Congruent_of (unit_at_place ks x q (signed_value p a o) w m b.0)) (Congruent_mul e (Congruent_refl (unit_cochain (simplex_at ks x) (simplex_at ks q)))))
    (edge_law p a x ks qs (not o) (negated p s) h w m b.1 (flip_sign p a s o h e)))
    (Congruent_of (omega arith))

pub edge_of : (p a x : ℕ) (ks : List (List ℕ)) (s ps : List ℕ) → 1 < p → IsStrictlySortedBy simplex_cmp ks → x < length ks → ArePlaces ks s ps
    → Congruent p (edge p a x false ps) (a * pairing (unit_cochain (simplex_at ks x)) (boundary p s))
edge_of p a x ks s ps h w m r =
    subst (λ (ts : List (List ℕ)). Congruent p (edge p a x false ps) (a * pairing (unit_cochain (simplex_at ks x)) (alternating_chain p 1 ts))) r.places
    (edge_law p a x ks ps false 1 h w m r.below (Congruent_of (omega arith)))

-- ---- the terms of a coboundary

marks_here : (p a x y : ℕ) (o : Bool) (qs : List ℕ) → sum_at y (map (pair_of p a) (marks x y o qs)) ≡ edge p a x o qs
marks_here p a x y o [] = refl
marks_here p a x y o (q ∷ qs) = one (eqb q x) (marks x y (not o) qs) (marks_here p a x y (not o) qs)
  where
    one : (b : Bool) (cs : List Coface) → sum_at y (map (pair_of p a) cs) ≡ edge p a x (not o) qs → sum_at y (map (pair_of p a) (cond b (record { place = y; odd = o } ∷ []) [] ++ cs)) ≡ cond b (signed_value p a o) 0 + edge p a x (not o) qs
    one true cs e = let f : eqb y y ≡ true = eq-eqb y y refl in rw f (ap (λ n. signed_value p a o + n) e)
    one false cs e = omega (arith, e)

marks_away : (p a x y k : ℕ) (o : Bool) (qs : List ℕ) → eqb y k ≡ false → sum_at k (map (pair_of p a) (marks x y o qs)) ≡ 0
marks_away p a x y k o [] n = refl
marks_away p a x y k o (q ∷ qs) n = one (eqb q x) (marks x y (not o) qs) (marks_away p a x y k (not o) qs n)
  where
    one : (b : Bool) (cs : List Coface) → sum_at k (map (pair_of p a) cs) ≡ 0 → sum_at k (map (pair_of p a) (cond b (record { place = y; odd = o } ∷ []) [] ++ cs)) ≡ 0
    one true cs e = rw n (omega (arith, e))
    one false cs e = e

sum_at_app : (k : ℕ) (xs ys : List (ℕ × ℕ)) → sum_at k (xs ++ ys) ≡ sum_at k xs + sum_at k ys
sum_at_app k xs ys = sum_append (λ (t : ℕ × ℕ). cond (eqb t.0 k) t.1 0) xs ys

abbrev part : ℕ → ℕ → ℕ → List Coface → ℕ
part p a k cs = sum_at k (map (pair_of p a) cs)

part_app : (p a k : ℕ) (xs ys : List Coface) → part p a k (xs ++ ys) ≡ part p a k xs + part p a k ys
part_app p a k xs ys = ap (sum_at k) (map-append (pair_of p a) xs ys) ∙ sum_at_app k (map (pair_of p a) xs) (map (pair_of p a) ys)

later_none : (p a x y k : ℕ) (pss : List (List ℕ)) → k < y → part p a k (above_at x y pss) ≡ 0
later_none p a x y k [] h = refl
later_none p a x y k (ps ∷ pss) h =
    part_app p a k (marks x y false ps) (above_at x (suc y) pss)
    ∙ ap₂ (λ m n. m + n) (marks_away p a x y k false ps (differ y k (λ e. omega arith))) (later_none p a x (suc y) k pss (omega arith))

pub above_row : (p a x y k : ℕ) (pss : List (List ℕ)) → k < length pss → part p a (y + k) (above_at x y pss) ≡ edge p a x false (get_or pss k [])
above_row p a x y k [] h = absurd (omega arith)
above_row p a x y zero (ps ∷ pss) h =
    let e : y + 0 ≡ y = omega arith in
    rw e (part_app p a y (marks x y false ps) (above_at x (suc y) pss)
    ∙ ap₂ (λ m n. m + n) (marks_here p a x y false ps) (later_none p a x (suc y) y pss (omega arith)) ∙ omega arith)
above_row p a x y (suc k) (ps ∷ pss) h =
    let e : y + suc k ≡ suc y + k = omega arith in
    rw e (part_app p a (suc y + k) (marks x y false ps) (above_at x (suc y) pss)
    ∙ ap₂ (λ m n. m + n) (marks_away p a x y (suc y + k) false ps (differ y (suc y + k) (λ q. omega arith))) (above_row p a x (suc y) k pss (omega arith)) ∙ omega arith)

from_first : (p a x k : ℕ) (pss : List (List ℕ)) → k < length pss → part p a k (above_at x 0 pss) ≡ edge p a x false (get_or pss k [])
from_first p a x k pss h =
    let z : 0 + k ≡ k = omega arith in
    subst (λ (n : ℕ). part p a n (above_at x 0 pss) ≡ edge p a x false (get_or pss k [])) z (above_row p a x 0 k pss h)

-- ---- the rows by place

pub places_at : (lower upper pss : List (List ℕ)) (k : ℕ) → ArePlacesOf lower upper pss → k < length upper → ArePlaces lower (simplex_at upper k) (get_or pss k [])
places_at lower [] pss k h l = absurd (omega arith)
places_at lower (s ∷ ss) [] k h l = absurd h
places_at lower (s ∷ ss) (p ∷ ps) zero h l = h.0
places_at lower (s ∷ ss) (p ∷ ps) (suc k) h l = places_at lower ss ps k h.1 (omega arith)

pairing_add : (a : ℕ) (f g : Cochain) (c : List (ℕ × List ℕ)) → pairing (λ s. a * f s + g s) c ≡ a * pairing f c + pairing g c
pairing_add a f g [] = omega arith
pairing_add a f g (t ∷ c) = omega (arith, pairing_add a f g c)

pairing_none : (c : List (ℕ × List ℕ)) → pairing (λ s. 0) c ≡ 0
pairing_none [] = refl
pairing_none (t ∷ c) = omega (arith, pairing_none c)

-- ---- coboundaries

spread_value : (p : ℕ) (lower upper pss : List (List ℕ)) (above : List (List Coface)) (row : List (ℕ × ℕ)) (k : ℕ)
    → 1 < p → IsStrictlySortedBy simplex_cmp lower → ArePlacesOf lower upper pss → ((x : ℕ) → get_or above x [] ≡ above_at x 0 pss) → IsBelow (length lower) row → k < length upper
    → Congruent p (sum_at k (spread p above row)) (coboundary p (λ s. sum_over (λ e. e.1 * unit_cochain (simplex_at lower e.0) s) row) (simplex_at upper k))
spread_value p lower upper pss above [] k h w r e f l = Congruent_of (sym (pairing_none (boundary p (simplex_at upper k))))
spread_value p lower upper pss above (t ∷ ts) k h w r e f l =
    let row : part p t.1 k (get_or above t.0 []) ≡ edge p t.1 t.0 false (get_or pss k []) =
    ap (part p t.1 k) (e t.0) ∙ from_first p t.1 t.0 k pss (omega (arith, places_length lower upper pss r)) in
    Congruent_trans (Congruent_of (sum_at_app k (map (pair_of p t.1) (get_or above t.0 [])) (spread p above ts)))
    (Congruent_trans (Congruent_add (Congruent_trans (Congruent_of row) (edge_of p t.1 t.0 lower (simplex_at upper k) (get_or pss k []) h w f.0 (places_at lower upper pss k r l)))
    (spread_value p lower upper pss above ts k h w r e f.1 l))
    (Congruent_of (sym (pairing_add t.1 (unit_cochain (simplex_at lower t.0)) (λ s. sum_over (λ e. e.1 * unit_cochain (simplex_at lower e.0) s) ts) (boundary p (simplex_at upper k))))))

-- The value of the coboundary at each simplex is the alternating sum over its faces.
pub coboundary_is : (p : ℕ) (lower upper pss : List (List ℕ)) (above : List (List Coface)) (row : List (ℕ × ℕ)) (k : ℕ)
    → 1 < p → IsStrictlySortedBy simplex_cmp lower → ArePlacesOf lower upper pss → ((x : ℕ) → get_or above x [] ≡ above_at x 0 pss) → IsBelow (length lower) row → k < length upper
    → Congruent p (value_in (spread p above row) k) (coboundary p (cochain_of (terms_of lower row)) (simplex_at upper k))
coboundary_is p lower upper pss above row k h w r e f l =
    Congruent_trans (Congruent_of (sym (sum_at_value k (spread p above row))))
    (Congruent_trans (spread_value p lower upper pss above row k h w r e f l)
    (Congruent_of (ap (λ (g : Cochain). coboundary p g (simplex_at upper k)) (λ i s. sym (sum_map (λ (t : ℕ × List ℕ). t.0 * unit_cochain t.1 s) (λ (e : ℕ × ℕ). (e.1, simplex_at lower e.0)) row) i))))

-- ---- boundaries

signs_sum : (p a x : ℕ) (o : Bool) (qs : List ℕ) → sum_at x (signed_places p a o qs) ≡ edge p a x o qs
signs_sum p a x o [] = refl
signs_sum p a x o (q ∷ qs) = ap (λ n. cond (eqb q x) (signed_value p a o) 0 + n) (signs_sum p a x (not o) qs)

shrunk_value : (p : ℕ) (lower upper pss : List (List ℕ)) (row : List (ℕ × ℕ)) (x : ℕ)
    → 1 < p → IsStrictlySortedBy simplex_cmp lower → ArePlacesOf lower upper pss → IsBelow (length upper) row → x < length lower
    → Congruent p (sum_at x (shrunk p pss row)) (boundary_coefficient p (terms_of upper row) (simplex_at lower x))
shrunk_value p lower upper pss [] x h w r f l = Congruent_refl 0
shrunk_value p lower upper pss (t ∷ ts) x h w r f l =
    Congruent_trans (Congruent_of (sum_at_app x (signed_places p t.1 false (get_or pss t.0 [])) (shrunk p pss ts)))
    (Congruent_add (Congruent_trans (Congruent_of (signs_sum p t.1 x false (get_or pss t.0 []))) (edge_of p t.1 x lower (simplex_at upper t.0) (get_or pss t.0 []) h w l (places_at lower upper pss t.0 r f.0)))
    (shrunk_value p lower upper pss ts x h w r f.1 l))

-- The coefficient of each simplex in the boundary of a chain.
pub boundary_is : (p : ℕ) (lower upper pss : List (List ℕ)) (row : List (ℕ × ℕ)) (x : ℕ)
    → 1 < p → IsStrictlySortedBy simplex_cmp lower → ArePlacesOf lower upper pss → IsBelow (length upper) row → x < length lower
    → Congruent p (value_in (shrunk p pss row) x) (boundary_coefficient p (terms_of upper row) (simplex_at lower x))
boundary_is p lower upper pss row x h w r f l = Congruent_trans (Congruent_of (sym (sum_at_value x (shrunk p pss row)))) (shrunk_value p lower upper pss row x h w r f l)

-- ---- places in range

marks_place : (x y n : ℕ) (o : Bool) (qs : List ℕ) → y < n → Each (λ (c : Coface). c.place < n) (marks x y o qs)
marks_place x y n o [] h = tt
marks_place x y n o (q ∷ qs) h = one (eqb q x) (marks x y (not o) qs) (marks_place x y n (not o) qs h)
  where
    one : (b : Bool) (cs : List Coface) → Each (λ (c : Coface). c.place < n) cs → Each (λ (c : Coface). c.place < n) (cond b (record { place = y; odd = o } ∷ []) [] ++ cs)
    one true cs k = (h, k)
    one false cs k = k

above_place : (x y n : ℕ) (pss : List (List ℕ)) → y + length pss ≤ n → Each (λ (c : Coface). c.place < n) (above_at x y pss)
above_place x y n [] h = tt
above_place x y n (ps ∷ pss) h = each_append (λ (c : Coface). c.place < n) (marks x y false ps) (above_at x (suc y) pss) (marks_place x y n false ps (omega arith)) (above_place x (suc y) n pss (omega arith))

pub spread_below : (p n : ℕ) (pss : List (List ℕ)) (above : List (List Coface)) (row : List (ℕ × ℕ)) → ((x : ℕ) → get_or above x [] ≡ above_at x 0 pss) → length pss ≤ n → IsBelow n (spread p above row)
spread_below p n pss above [] e h = tt
spread_below p n pss above (t ∷ ts) e h =
    each_append (λ (u : ℕ × ℕ). u.0 < n) (map (pair_of p t.1) (get_or above t.0 [])) (spread p above ts)
    (each_of_map (λ (u : ℕ × ℕ). u.0 < n) (pair_of p t.1) (get_or above t.0 [])
    (subst (Each (λ (c : Coface). c.place < n)) (sym (e t.0)) (above_place t.0 0 n pss (omega arith))))
    (spread_below p n pss above ts e h)

signed_below : (p a n : ℕ) (o : Bool) (qs : List ℕ) → Each (λ q. q < n) qs → IsBelow n (signed_places p a o qs)
signed_below p a n o [] h = tt
signed_below p a n o (q ∷ qs) h = (h.0, signed_below p a n (not o) qs h.1)

below_at : (lower upper pss : List (List ℕ)) (x : ℕ) → ArePlacesOf lower upper pss → Each (λ q. q < length lower) (get_or pss x [])
below_at lower upper [] x h = tt
below_at lower [] (ps ∷ pss) x h = absurd h
below_at lower (s ∷ ss) (ps ∷ pss) zero h = h.0.below
below_at lower (s ∷ ss) (ps ∷ pss) (suc x) h = below_at lower ss pss x h.1

pub shrunk_below : (p : ℕ) (lower upper pss : List (List ℕ)) (row : List (ℕ × ℕ)) → ArePlacesOf lower upper pss → IsBelow (length lower) (shrunk p pss row)
shrunk_below p lower upper pss [] h = tt
shrunk_below p lower upper pss (t ∷ ts) h =
    each_append (λ (u : ℕ × ℕ). u.0 < length lower) (signed_places p t.1 false (get_or pss t.0 [])) (shrunk p pss ts)
    (signed_below p t.1 (length lower) false (get_or pss t.0 []) (below_at lower upper pss t.0 h)) (shrunk_below p lower upper pss ts h)

-- ---- the steps of the loops

pub spread_step : (p : ℕ) (above : List (List Coface)) (row : List (ℕ × ℕ)) (i : ℕ) (t : ℕ × ℕ) (found new : List (ℕ × ℕ)) (cs : List Coface)
    → i < length row → t ≡ get_or row i t → cs ≡ get_or above t.0 [] → new ≡ found ++ map (pair_of p t.1) cs
    → found ++ spread p above (drop i row) ≡ spread p above row → new ++ spread p above (drop (i + 1) row) ≡ spread p above row
spread_step p above row i t found new cs l e r n h =
    ap (λ xs. xs ++ spread p above (drop (i + 1) row)) (n ∙ ap (λ (ds : List Coface). found ++ map (pair_of p t.1) ds) r)
    ∙ append_assoc found (map (pair_of p t.1) (get_or above t.0 [])) (spread p above (drop (i + 1) row))
    ∙ ap (λ (ts : List (ℕ × ℕ)). found ++ spread p above ts) (sym (left_at row i t l e))
    ∙ h

pub shrunk_step : (p : ℕ) (faces : List (List ℕ)) (row : List (ℕ × ℕ)) (i : ℕ) (t : ℕ × ℕ) (found new : List (ℕ × ℕ)) (qs : List ℕ)
    → i < length row → t ≡ get_or row i t → qs ≡ get_or faces t.0 [] → new ≡ found ++ signed_places p t.1 false qs
    → found ++ shrunk p faces (drop i row) ≡ shrunk p faces row → new ++ shrunk p faces (drop (i + 1) row) ≡ shrunk p faces row
shrunk_step p faces row i t found new qs l e r n h =
    ap (λ xs. xs ++ shrunk p faces (drop (i + 1) row)) (n ∙ ap (λ (ds : List ℕ). found ++ signed_places p t.1 false ds) r)
    ∙ append_assoc found (signed_places p t.1 false (get_or faces t.0 [])) (shrunk p faces (drop (i + 1) row))
    ∙ ap (λ (ts : List (ℕ × ℕ)). found ++ shrunk p faces ts) (sym (left_at row i t l e))
    ∙ h

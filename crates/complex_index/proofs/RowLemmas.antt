-- Rows of coboundaries and of boundaries, at a degree of an index.
use Rattle.std.{proofs.Common.{◌≡◌, ℕ, zero, suc, ◌+◌, ◌-◌, ◌*◌, ◌%◌, ◌<◌, ◌≤◌, arith, refl, sym, ◌∙◌, ap, subst, List, [], ◌∷◌, ◌++◌, map, take, take_all, length, get_or, true, false, Result, Ok, Err, mod-eq_of_lt, sub-one}, specs.Result.IfOk, specs.declared.alloc.AllocError.AllocError, specs.List.AllZip, proofs.lemmas.List.{map-append, take_more}}
use Rattle.complex_index.{specs.Names.{Level, IsBoundaryOf, IsCoboundaryOf, boundary_coefficient, shrunk, spread, Fits, IsIndex, lists, level, cofaces_at, faces_at}, proofs.Alternating.{boundary_is, coboundary_is, shrunk_below, spread_below}, proofs.LevelLemmas.places_length}
use Rattle.linear_law.{specs.Names.{Congruent, Each}, proofs.Names.{Congruent_mod, Congruent_of, Congruent_trans, each_push, zip_push}}
use Rattle.simplicial_law.specs.Names.{Cochain, coboundary, unit_cochain, cochain_of, IsCoboundaryRow, terms_of}
use Rattle.sparse_rows.{specs.Rows.{IsBelow, IsRow, value_in}, proofs.RowLemmas.below_of_sum}

values_of : (p k w : ℕ) (row pairs : List (ℕ × ℕ)) → ((k : ℕ) → value_in row k ≡ value_in pairs k % p) → Congruent p (value_in pairs k) w → Congruent p (value_in row k) w
values_of p k w row pairs s h = Congruent_trans (Congruent_of (s k)) (Congruent_trans (Congruent_mod p (value_in pairs k)) h)

-- ---- at a degree

pub coboundary_at : (p : ℕ) (ls : List Level) (n : ℕ) (low pairs row : List (ℕ × ℕ)) → 1 < p → IsIndex ls → n + 1 < length ls → IsBelow (length (level (lists ls) n)) low
    → pairs ≡ spread p (cofaces_at ls (n + 1)) low → ((k : ℕ) → value_in row k ≡ value_in pairs k % p) → IsRow p row → IsCoboundaryOf p (lists ls) n low row
coboundary_at p ls n low pairs row h i l f e s r =
    let w = i.indexed.fits n l in
    record {
      inside = below_of_sum p pairs row r s (length (level (lists ls) (n + 1)))
          (subst (IsBelow (length (level (lists ls) (n + 1)))) (sym e)
          (spread_below p (length (level (lists ls) (n + 1))) (faces_at ls (n + 1)) (cofaces_at ls (n + 1)) low w.cofaces (omega (arith, places_length (level (lists ls) n) (level (lists ls) (n + 1)) (faces_at ls (n + 1)) w.places))));
      values = λ k b. values_of p k (coboundary p (cochain_of (terms_of (level (lists ls) n) low)) (get_or (level (lists ls) (n + 1)) k [])) row pairs s
          (subst (λ (ts : List (ℕ × ℕ)). Congruent p (value_in ts k) (coboundary p (cochain_of (terms_of (level (lists ls) n) low)) (get_or (level (lists ls) (n + 1)) k []))) (sym e)
          (coboundary_is p (level (lists ls) n) (level (lists ls) (n + 1)) (faces_at ls (n + 1)) (cofaces_at ls (n + 1)) low k h (i.levels.ordered n) w.places w.cofaces f b));
    }

pub boundary_at : (p : ℕ) (ls : List Level) (m : ℕ) (high pairs row : List (ℕ × ℕ)) → 1 < p → IsIndex ls → 0 < m → m < length ls → IsBelow (length (level (lists ls) m)) high
    → pairs ≡ shrunk p (faces_at ls m) high → ((k : ℕ) → value_in row k ≡ value_in pairs k % p) → IsRow p row → IsBoundaryOf p (lists ls) m high row
boundary_at p ls zero high pairs row h i o l f e s r = absurd (omega arith)
boundary_at p ls (suc n) high pairs row h i o l f e s r =
    let q : n + 1 ≡ suc n = omega arith in
    let w = subst (λ (m : ℕ). Fits (level (lists ls) n) (level (lists ls) m) (faces_at ls m) (cofaces_at ls m)) q (i.indexed.fits n (omega arith)) in
    let At : ℕ → Type 0 = λ d. IsBelow (length (level (lists ls) d)) row
    × ((k : ℕ) → k < length (level (lists ls) d) → Congruent p (value_in row k) (boundary_coefficient p (terms_of (level (lists ls) (suc n)) high) (get_or (level (lists ls) d) k []))) in
    let made : At (suc n - 1) = subst At (sym (sub-one (suc n))) (
      below_of_sum p pairs row r s (length (level (lists ls) n))
          (subst (IsBelow (length (level (lists ls) n))) (sym e) (shrunk_below p (level (lists ls) n) (level (lists ls) (suc n)) (faces_at ls (suc n)) high w.places)),
      λ k b. values_of p k (boundary_coefficient p (terms_of (level (lists ls) (suc n)) high) (get_or (level (lists ls) n) k [])) row pairs s
          (subst (λ (ts : List (ℕ × ℕ)). Congruent p (value_in ts k) (boundary_coefficient p (terms_of (level (lists ls) (suc n)) high) (get_or (level (lists ls) n) k []))) (sym e)
          (boundary_is p (level (lists ls) n) (level (lists ls) (suc n)) (faces_at ls (suc n)) high k h (i.levels.ordered n) w.places f b)),
    ) in
    record { inside = made.0; values = made.1 }

-- past the dimension there are no terms
pub boundary_of_none : (p : ℕ) (ls : List (List (List ℕ))) (n : ℕ) (high row : List (ℕ × ℕ)) → length (level ls n) ≡ 0 → IsBelow (length (level ls n)) high → row ≡ [] → IsBoundaryOf p ls n high row
boundary_of_none p ls n [] row e f g =
    subst (IsBoundaryOf p ls n []) (sym g) (record { inside = tt; values = λ k b. Congruent_of refl })
boundary_of_none p ls n (t ∷ ts) row e f g = absurd (omega (arith, f.0, e))

-- from what is made of pairs
pub if_made : (p : ℕ) (pairs : List (ℕ × ℕ)) (Q : List (ℕ × ℕ) → Type 0) (r : Result (List (ℕ × ℕ)) AllocError) → ((v : List (ℕ × ℕ)) → ((k : ℕ) → value_in v k ≡ value_in pairs k % p) → IsRow p v → Q v)
    → IfOk r (λ v. (k : ℕ) → value_in v k ≡ value_in pairs k % p) → IfOk r (IsRow p) → IfOk r Q
if_made p pairs Q (Ok v) f h k = f v h k
if_made p pairs Q (Err e) f h k = tt

-- ---- the rows of a degree

single : (c : ℕ) (s : List ℕ) → c ≡ 1 → (t : List ℕ) → cochain_of ((c, s) ∷ []) t ≡ unit_cochain s t
single c s e t = omega (arith, ap (λ m. m * unit_cochain s t) e)

pub unit_row : (p : ℕ) (ls : List (List (List ℕ))) (n x c : ℕ) (row : List (ℕ × ℕ)) → 1 < p → c ≡ 1 % p → IsCoboundaryOf p ls n ((x, c) ∷ []) row
    → IsCoboundaryRow p (level ls (n + 1)) (value_in row) (get_or (level ls n) x [])
unit_row p ls n x c row h e r j b =
    subst (λ (f : Cochain). Congruent p (value_in row j) (coboundary p f (get_or (level ls (n + 1)) j [])))
    (λ i t. single c (get_or (level ls n) x []) (e ∙ mod-eq_of_lt h) t i) (r.values j b)

pub rows_push : (p : ℕ) (ls : List (List (List ℕ))) (n x c : ℕ) (rows news : List (List (ℕ × ℕ))) (row : List (ℕ × ℕ)) → 1 < p → x < length (level ls n) → c ≡ 1 % p → news ≡ rows ++ row ∷ [] → IsCoboundaryOf p ls n ((x, c) ∷ []) row
    → AllZip (IsCoboundaryRow p (level ls (n + 1))) (map value_in rows) (take x (level ls n)) → AllZip (IsCoboundaryRow p (level ls (n + 1))) (map value_in news) (take (x + 1) (level ls n))
rows_push p ls n x c rows news row h l e q r z =
    subst (λ (vs : List (ℕ → ℕ)). AllZip (IsCoboundaryRow p (level ls (n + 1))) vs (take (x + 1) (level ls n))) (sym (ap (map value_in) q ∙ map-append value_in rows (row ∷ [])))
    (subst (λ (ss : List (List ℕ)). AllZip (IsCoboundaryRow p (level ls (n + 1))) (map value_in rows ++ value_in row ∷ []) ss) (sym (take_more (level ls n) x [] l))
    (zip_push (IsCoboundaryRow p (level ls (n + 1))) (map value_in rows) (take x (level ls n)) (value_in row) (get_or (level ls n) x []) z (unit_row p ls n x c row h e r)))

pub rows_inside : (bound : ℕ) (rows news : List (List (ℕ × ℕ))) (row : List (ℕ × ℕ)) → news ≡ rows ++ row ∷ [] → IsBelow bound row → Each (IsBelow bound) rows → Each (IsBelow bound) news
rows_inside bound rows news row q b h = subst (Each (IsBelow bound)) (sym q) (each_push (IsBelow bound) rows row h b)

pub rows_all : (p : ℕ) (ls : List (List (List ℕ))) (n x : ℕ) (rows : List (List (ℕ × ℕ))) → length (level ls n) ≤ x
    → AllZip (IsCoboundaryRow p (level ls (n + 1))) (map value_in rows) (take x (level ls n)) → AllZip (IsCoboundaryRow p (level ls (n + 1))) (map value_in rows) (level ls n)
rows_all p ls n x rows l z = subst (AllZip (IsCoboundaryRow p (level ls (n + 1))) (map value_in rows)) (take_all x (level ls n) l) z

-- The composition of tuples as a sum along the walks through both.
use Rattle.std.proofs.{Common.{◌≡◌, ℕ, zero, suc, ◌+◌, ◌≤◌, List, [], ◌∷◌, ◌++◌, length, map, drop, get_or, refl, sym, ap, ◌∙◌, arith, ℤ, pos, ◌+ℤ◌, ◌*ℤ◌, All, pred}, lemmas.Int.ints, lemmas.List.{drop-drop, get_or-drop}, lemmas.List.Elements.{All-append, All-cons, All-head, All-map, All-nil, All-tail, All-weaker}}
use Rattle.signed_sum.{specs.Names.{inversion_count, stands_before, numbers_from, signed, restricted, total, value_at}, proofs.Names.{apart-above, apart-append, apart-below, before-first, pairs-among, pairs-later, length-numbers_from, numbers_from-append, signed-signed, signed-zero, fun_ext, total-append, total-map, total-signed, value_at-kept_terms, times-signed}}
use Rattle.table_reduction_law.specs.Names.{is_degenerate_tuple, tuple_degree}
use Rattle.composition_law.specs.Tuples.{Step, inserted, lattice_paths, path_sign, path_sum, points_from, step_symbols, step_x, step_y, tuple_along, tuple_composition}

-- what is kept from one step to the next holds of all lattice paths
pub each-path : (P : ℕ → ℕ → List Step → Type 0) → P 0 0 [] → ((d e : ℕ) (s : List Step) → P d e s → P (suc d) e (step_x ∷ s)) → ((d e : ℕ) (s : List Step) → P d e s → P d (suc e) (step_y ∷ s)) →
    (d e : ℕ) → All (P d e) (lattice_paths d e)
each-path P n x y zero zero = All-cons (P 0 0) [] [] n (All-nil (P 0 0))
each-path P n x y zero (suc e) = All-map (P 0 (suc e)) (λ s. step_y ∷ s) (lattice_paths 0 e) (All-weaker (P 0 e) (λ s. P 0 (suc e) (step_y ∷ s)) (y 0 e) (lattice_paths 0 e) (each-path P n x y zero e))
each-path P n x y (suc d) zero = All-map (P (suc d) 0) (λ s. step_x ∷ s) (lattice_paths d 0) (All-weaker (P d 0) (λ s. P (suc d) 0 (step_x ∷ s)) (x d 0) (lattice_paths d 0) (each-path P n x y d zero))
each-path P n x y (suc d) (suc e) =
    All-append (P (suc d) (suc e)) (map (λ s. step_x ∷ s) (lattice_paths d (suc e))) (map (λ s. step_y ∷ s) (lattice_paths (suc d) e))
    (All-map (P (suc d) (suc e)) (λ s. step_x ∷ s) (lattice_paths d (suc e)) (All-weaker (P d (suc e)) (λ s. P (suc d) (suc e) (step_x ∷ s)) (x d (suc e)) (lattice_paths d (suc e)) (each-path P n x y d (suc e))))
    (All-map (P (suc d) (suc e)) (λ s. step_y ∷ s) (lattice_paths (suc d) e) (All-weaker (P (suc d) e) (λ s. P (suc d) (suc e) (step_y ∷ s)) (y (suc d) e) (lattice_paths (suc d) e) (each-path P n x y (suc d) e)))

-- how many pairs of a step y and a later step x a path has, where x is the number of its steps x
abbrev pub late : List Step → ℕ → ℕ
late [] x = 0
late (step_x ∷ s) x = late s (pred x)
late (step_y ∷ s) x = x + late s x

record IsLate (d e : ℕ) (s : List Step) : Type 0 where
  count : (i j : ℕ) → i + d ≤ j → inversion_count (stands_before (step_symbols i j s)) (numbers_from i d ++ numbers_from j e) ≡ late s d

late-x : (d e : ℕ) (s : List Step) → IsLate d e s → IsLate (suc d) e (step_x ∷ s)
late-x d e s k = record {
  count = λ i j h.
      let w = step_symbols (suc i) j s in
      let f = numbers_from (suc i) d ++ numbers_from j e in
      let far = apart-append i (numbers_from (suc i) d) (numbers_from j e) (apart-below i (suc i) d (omega arith)) (apart-below i j e (omega arith)) in
      omega (arith, before-first i w f, pairs-later i w f far, k.count (suc i) j (omega arith));
}

late-y : (d e : ℕ) (s : List Step) → IsLate d e s → IsLate d (suc e) (step_y ∷ s)
late-y d e s k = record {
  count = λ i j h.
      let w = step_symbols i (suc j) s in
      let among = pairs-among j w (numbers_from i d) (numbers_from (suc j) e) (apart-above j i d h) (apart-below j (suc j) e (omega arith)) in
      omega (arith, among, length-numbers_from i d, k.count i (suc j) (omega arith));
}

-- the sign of each path
record IsSigned (d e : ℕ) (s : List Step) : Type 0 where
  sign : path_sign d e s ≡ signed (late s d) (pos 1)

signs-late : (d e : ℕ) (s : List Step) → IsLate d e s → IsSigned d e s
signs-late d e s k = record {
  sign = ap (λ n. signed n (pos 1)) (ap (inversion_count (stands_before (step_symbols 1 (d + 1) s))) (numbers_from-append 1 d e ∙ (let q : 1 + d ≡ d + 1 = omega arith in ap (λ j. numbers_from 1 d ++ numbers_from j e) q)) ∙ k.count 1 (d + 1) (omega arith));
}

all-signed : (d e : ℕ) → All (IsSigned d e) (lattice_paths d e)
all-signed d e =
    All-weaker (IsLate d e) (IsSigned d e) (signs-late d e) (lattice_paths d e)
    (each-path IsLate (record { count = λ i j h. refl }) late-x late-y d e)

-- ---- the entries along a path, from the front of two lists
abbrev entries_along : ℕ → List (List ℕ) → List (List ℕ) → List Step → List (List ℕ)
entries_along k w v [] = inserted k (get_or w 0 []) (get_or v 0 []) ∷ []
entries_along k w v (step_x ∷ s) = inserted k (get_or w 0 []) (get_or v 0 []) ∷ entries_along k (drop 1 w) v s
entries_along k w v (step_y ∷ s) = inserted k (get_or w 0 []) (get_or v 0 []) ∷ entries_along k w (drop 1 v) s

first-of : {X : Type 0} (w : List X) (i : ℕ) (d : X) → get_or w i d ≡ get_or (drop i w) 0 d
first-of w i d = sym (get_or-drop i w 0 d ∙ (let e : i + 0 ≡ i = omega arith in ap (λ j. get_or w j d) e))

rest-of : {X : Type 0} (w : List X) (i : ℕ) → drop (suc i) w ≡ drop 1 (drop i w)
rest-of w i = (let e : suc i ≡ i + 1 = omega arith in ap (λ j. drop j w) e) ∙ sym (drop-drop 1 i w)

along-points : (k : ℕ) (w v : List (List ℕ)) (i j : ℕ) (s : List Step) → map (λ q. inserted k (get_or w q.0 []) (get_or v q.1 [])) (points_from i j s) ≡ entries_along k (drop i w) (drop j v) s
along-points k w v i j [] = λ n. inserted k (first-of w i [] n) (first-of v j [] n) ∷ []
along-points k w v i j (step_x ∷ s) =
    λ n. inserted k (first-of w i [] n) (first-of v j [] n) ∷ (along-points k w v (suc i) j s ∙ ap (λ u. entries_along k u (drop j v) s) (rest-of w i)) n
along-points k w v i j (step_y ∷ s) =
    λ n. inserted k (first-of w i [] n) (first-of v j [] n) ∷ (along-points k w v i (suc j) s ∙ ap (λ u. entries_along k (drop i w) u s) (rest-of v j)) n

-- ---- the sum over all paths is the sum along the walk
late-sum : (x : ℕ) (g : List Step → ℤ) (ss : List (List Step)) → total (λ s. signed (late (step_y ∷ s) x) (g s)) ss ≡ signed x (total (λ s. signed (late s x) (g s)) ss)
late-sum x g ss = ap (λ f. total f ss) (fun_ext (λ s. sym (signed-signed x (late s x) (g s)))) ∙ total-signed x (λ s. signed (late s x) (g s)) ss

paths-sum : (k : ℕ) (w : List ℕ) (ws : List (List ℕ)) (v : List ℕ) (vs : List (List ℕ)) (h : List (List ℕ) → ℤ) →
    total (λ s. signed (late s (length ws)) (h (entries_along k (w ∷ ws) (v ∷ vs) s))) (lattice_paths (length ws) (length vs)) ≡ path_sum k (w ∷ ws) (v ∷ vs) h
paths-sum k w [] v [] h = omega (arith, ints)
paths-sum k w [] v (y ∷ vs) h =
    let f : List Step → ℤ = λ s. signed (late s 0) (h (entries_along k (w ∷ []) (v ∷ y ∷ vs) s)) in
    let a = total-map f (λ s. step_y ∷ s) (lattice_paths 0 (length vs)) in
    let b = late-sum 0 (λ s. h (inserted k w v ∷ entries_along k (w ∷ []) (y ∷ vs) s)) (lattice_paths 0 (length vs)) in
    let c = paths-sum k w [] y vs (λ r. h (inserted k w v ∷ r)) in
    omega (arith, ints, a, b, c)
paths-sum k w (x ∷ ws) v [] h =
    let f : List Step → ℤ = λ s. signed (late s (suc (length ws))) (h (entries_along k (w ∷ x ∷ ws) (v ∷ []) s)) in
    let a = total-map f (λ s. step_x ∷ s) (lattice_paths (length ws) 0) in
    let c = paths-sum k x ws v [] (λ r. h (inserted k w v ∷ r)) in
    let z = signed-zero (suc (length ws)) in
    omega (arith, ints, a, c, z)
paths-sum k w (x ∷ ws) v (y ∷ vs) h =
    let f : List Step → ℤ = λ s. signed (late s (suc (length ws))) (h (entries_along k (w ∷ x ∷ ws) (v ∷ y ∷ vs) s)) in
    let xs = lattice_paths (length ws) (suc (length vs)) in
    let ys = lattice_paths (suc (length ws)) (length vs) in
    let a = total-append f (map (λ s. step_x ∷ s) xs) (map (λ s. step_y ∷ s) ys) in
    let b = total-map f (λ s. step_x ∷ s) xs in
    let c = total-map f (λ s. step_y ∷ s) ys in
    let d = late-sum (suc (length ws)) (λ s. h (inserted k w v ∷ entries_along k (w ∷ x ∷ ws) (y ∷ vs) s)) ys in
    let p = paths-sum k x ws v (y ∷ vs) (λ r. h (inserted k w v ∷ r)) in
    let q = ap (signed (suc (length ws))) (paths-sum k w (x ∷ ws) y vs (λ r. h (inserted k w v ∷ r))) in
    omega (arith, ints, a, b, c, d, p, q)

pub total-all : {X : Type 0} (P : X → Type 0) (f g : X → ℤ) → ((x : X) → P x → f x ≡ g x) → (xs : List X) → All P xs → total f xs ≡ total g xs
total-all P f g h [] a = refl
total-all P f g h (x ∷ xs) a = λ i. h x (All-head P x xs a) i +ℤ total-all P f g h xs (All-tail P x xs a) i

pub composition-sum : (k : ℕ) (phi : List (List ℕ) → ℤ) (w v : List (List ℕ)) → 1 ≤ length w → 1 ≤ length v → value_at phi (tuple_composition k w v) ≡ path_sum k w v (restricted is_degenerate_tuple phi)
composition-sum k phi [] v a b = absurd (omega arith)
composition-sum k phi (w ∷ ws) [] a b = absurd (omega arith)
composition-sum k phi (w ∷ ws) (v ∷ vs) a b =
    let h : List (List ℕ) → ℤ = restricted is_degenerate_tuple phi in
    let d : ℕ = tuple_degree (w ∷ ws) in
    let e : ℕ = tuple_degree (v ∷ vs) in
    let p : d ≡ length ws = omega arith in
    let q : e ≡ length vs = omega arith in
    let ss : List (List Step) = lattice_paths d e in
    let f : List Step → List (List ℕ) × ℤ = λ s. (tuple_along k (w ∷ ws) (v ∷ vs) s, path_sign d e s) in
    value_at-kept_terms is_degenerate_tuple phi (map f ss)
    ∙ total-map (λ t. t.1 *ℤ h t.0) f ss
    ∙ total-all (IsSigned d e) (λ s. path_sign d e s *ℤ h (tuple_along k (w ∷ ws) (v ∷ vs) s)) (λ s. signed (late s d) (h (entries_along k (w ∷ ws) (v ∷ vs) s)))
    (λ s g.
    (λ i. g.sign i *ℤ h (along-points k (w ∷ ws) (v ∷ vs) 0 0 s i))
    ∙ times-signed (late s d) (h (entries_along k (w ∷ ws) (v ∷ vs) s)))
    ss (all-signed d e)
    ∙ (λ i. total (λ s. signed (late s (p i)) (h (entries_along k (w ∷ ws) (v ∷ vs) s))) (lattice_paths (p i) (q i)))
    ∙ paths-sum k w ws v vs h

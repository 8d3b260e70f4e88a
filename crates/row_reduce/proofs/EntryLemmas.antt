-- Values at places, as lists of pairs.
use Rattle.std.proofs.Common.{◌≡◌, ℕ, zero, suc, ◌+◌, ◌*◌, ◌-◌, ◌%◌, ◌<◌, ◌≤◌, List, [], ◌∷◌, ◌++◌, take, drop, length, get_or, set, arith, refl, sym, ◌∙◌, ap, subst, inl, inr, get_or-set_other, get_or-set_same, length-append, length-drop, append-nil, get_or-drop, take_all}
use Rattle.row_reduce.{proofs.Below.{get_or_append_left, drop_of_length-le, cases_eq, cases_lt, take_more, Congruent, Each, unit_vector, StartsAt, Congruent_add, Congruent_from, Congruent_mod, Congruent_of, Congruent_sym, Congruent_trans, each_get_or, unit_one, unit_other, sum_append, IsBelow, value_in}, specs.Names.{entries_of, run_from, zipped, IsClear, IsRest}, proofs.SumLemmas.read_at}

-- ---- values at places of their own

pub zipped_push : (xs vs : List ℕ) (x v : ℕ) → length xs ≡ length vs → zipped (xs ++ (x ∷ [])) (vs ++ (v ∷ [])) ≡ zipped xs vs ++ ((x, v) ∷ [])
zipped_push [] [] x v e = refl
zipped_push [] (w ∷ vs) x v e = absurd (omega arith)
zipped_push (y ∷ xs) [] x v e = absurd (omega arith)
zipped_push (y ∷ xs) (w ∷ vs) x v e = ap (λ (es : List (ℕ × ℕ)). (y, w) ∷ es) (zipped_push xs vs x v (omega arith))

pub zipped_take : (xs vs : List ℕ) → length xs ≤ length vs → zipped xs (take (length xs) vs) ≡ zipped xs vs
zipped_take [] vs b = refl
zipped_take (x ∷ xs) [] b = absurd (omega arith)
zipped_take (x ∷ xs) (v ∷ vs) b = ap (λ (es : List (ℕ × ℕ)). (x, v) ∷ es) (zipped_take xs vs (omega arith))

pub zipped_length : (xs vs : List ℕ) → length xs ≤ length vs → length (zipped xs vs) ≡ length xs
zipped_length [] vs b = refl
zipped_length (x ∷ xs) [] b = absurd (omega arith)
zipped_length (x ∷ xs) (v ∷ vs) b = let e = zipped_length xs vs (omega arith) in omega arith

pub zipped_at : (xs vs : List ℕ) (i : ℕ) (d : ℕ × ℕ) → length xs ≤ length vs → i < length xs → get_or (zipped xs vs) i d ≡ (get_or xs i 0, get_or vs i 0)
zipped_at [] vs i d b c = absurd (omega arith)
zipped_at (x ∷ xs) [] i d b c = absurd (omega arith)
zipped_at (x ∷ xs) (v ∷ vs) zero d b c = refl
zipped_at (x ∷ xs) (v ∷ vs) (suc i) d b c = zipped_at xs vs i d (omega arith) (omega arith)

-- what was read of both lists
pub zipped_read : (xs vs : List ℕ) (i v : ℕ) → v ≡ get_or vs i v → length xs ≤ length vs → i < length xs → (get_or xs i 0, v) ≡ get_or (zipped xs vs) i (get_or xs i 0, v)
zipped_read xs vs i v v_is b c =
    let pv : v ≡ get_or vs i 0 = read_at vs i v v_is (omega arith) in
    ap (λ n. (get_or xs i 0, n)) pv ∙ sym (zipped_at xs vs i (get_or xs i 0, v) b c)

pub zipped_fits : (width : ℕ) (xs vs : List ℕ) (i : ℕ) → length xs ≤ length vs → i < length xs → IsBelow width (zipped xs vs) → get_or xs i 0 < width
zipped_fits width xs vs i b c h =
    subst (λ (e : ℕ × ℕ). e.0 < width) (zipped_at xs vs i (0, 0) b c) (each_get_or (λ (e : ℕ × ℕ). e.0 < width) (zipped xs vs) i (0, 0) (let e = zipped_length xs vs b in omega arith) h)

pub pairs_more : (pairs : List (ℕ × ℕ)) (i : ℕ) (pair : ℕ × ℕ) (xs vs next_xs next_vs : List ℕ) → pair ≡ get_or pairs i pair → i < length pairs → length xs ≡ length vs → zipped xs vs ≡ take i pairs
    → next_xs ≡ xs ++ (pair.0 ∷ []) → next_vs ≡ vs ++ (pair.1 ∷ []) → zipped next_xs next_vs ≡ take (i + 1) pairs
pairs_more pairs i pair xs vs next_xs next_vs is b same h ex ev =
    (λ j. zipped (ex j) (ev j)) ∙ zipped_push xs vs pair.0 pair.1 same ∙ ap (λ (es : List (ℕ × ℕ)). es ++ (pair ∷ [])) h
    ∙ sym (take_more pairs i pair b ∙ ap (λ (e : ℕ × ℕ). take i pairs ++ (e ∷ [])) (sym is))

-- ---- values at places that follow on one another

pub run_length : (first : ℕ) (vs : List ℕ) → length (run_from first vs) ≡ length vs
run_length first [] = refl
run_length first (v ∷ vs) = let e = run_length (suc first) vs in omega arith

pub run_at : (first : ℕ) (vs : List ℕ) (i : ℕ) (d : ℕ × ℕ) → i < length vs → get_or (run_from first vs) i d ≡ (first + i, get_or vs i 0)
run_at first [] i d c = absurd (omega arith)
run_at first (v ∷ vs) zero d c = let e : first ≡ first + 0 = omega arith in ap (λ n. (n, v)) e
run_at first (v ∷ vs) (suc i) d c = let e : suc first + i ≡ first + suc i = omega arith in run_at (suc first) vs i d (omega arith) ∙ ap (λ n. (n, get_or vs i 0)) e

pub run_read : (first : ℕ) (vs : List ℕ) (i v : ℕ) → v ≡ get_or vs i v → i < length vs → (first + i, v) ≡ get_or (run_from first vs) i (first + i, v)
run_read first vs i v is b = ap (λ n. (first + i, n)) (read_at vs i v is b) ∙ sym (run_at first vs i (first + i, v) b)

run_before : (first : ℕ) (vs : List ℕ) (y : ℕ) → y < first → value_in (run_from first vs) y ≡ 0
run_before first [] y b = refl
run_before first (v ∷ vs) y b =
    let u : unit_vector first y ≡ 0 = unit_other first y (λ e. absurd (omega arith)) in
    let rest = run_before (suc first) vs y (omega arith) in
    rw u (omega (arith, rest))

run_value : (first : ℕ) (vs : List ℕ) (i : ℕ) → value_in (run_from first vs) (first + i) ≡ get_or vs i 0
run_value first [] zero = refl
run_value first [] (suc i) = refl
run_value first (v ∷ vs) zero =
    let q : first ≡ first + 0 = omega arith in
    subst (λ y. v * unit_vector first y + value_in (run_from (suc first) vs) y ≡ v) q
    (let u : unit_vector first first ≡ 1 = unit_one 0 first in let rest = run_before (suc first) vs first (omega arith) in rw u (omega (arith, rest)))
run_value first (v ∷ vs) (suc i) =
    let q : suc first + i ≡ first + suc i = omega arith in
    subst (λ y. v * unit_vector first y + value_in (run_from (suc first) vs) y ≡ get_or vs i 0) q
    (let u : unit_vector first (suc first + i) ≡ 0 = unit_other first (suc first + i) (λ e. absurd (omega arith)) in let rest = run_value (suc first) vs i in rw u (omega (arith, rest)))

each_run : (width first : ℕ) (vs : List ℕ) → first + length vs ≤ width → IsBelow width (run_from first vs)
each_run width first [] b = tt
each_run width first (v ∷ vs) b = (omega arith, each_run width (suc first) vs (omega arith))

pub run_inside : (width first : ℕ) (vs : List ℕ) → IsBelow width (run_from first vs) → (i : ℕ) → i < length vs → first + i < width
run_inside width first [] h i b = absurd (omega arith)
run_inside width first (v ∷ vs) h zero b = let c = h.0 in omega arith
run_inside width first (v ∷ vs) h (suc i) b = let c = run_inside width (suc first) vs h.1 i (omega arith) in omega arith

-- ---- both

pub each_left : {X : Type 0} (P : X → Type 0) (xs ys : List X) → Each P (xs ++ ys) → Each P xs
each_left P [] ys h = tt
each_left P (x ∷ xs) ys h = (h.0, each_left P xs ys h.1)

pub each_rest : {X : Type 0} (P : X → Type 0) (xs ys : List X) → Each P (xs ++ ys) → Each P ys
each_rest P [] ys h = h
each_rest P (x ∷ xs) ys h = each_rest P xs ys h.1

pub entries_left : (xs : List ℕ) (first : ℕ) (vs : List ℕ) (i : ℕ) (d : ℕ × ℕ) → length xs ≤ length vs → i < length xs → get_or (entries_of xs first vs) i d ≡ (get_or xs i 0, get_or vs i 0)
entries_left xs first vs i d b c =
    get_or_append_left (zipped xs vs) (run_from first (drop (length xs) vs)) d i (let e = zipped_length xs vs b in omega arith) ∙ zipped_at xs vs i d b c

pub entries_right : (xs : List ℕ) (first : ℕ) (vs : List ℕ) (i : ℕ) (d : ℕ × ℕ) → length xs ≤ i → i < length vs → get_or (entries_of xs first vs) i d ≡ (first + (i - length xs), get_or vs i 0)
entries_right [] first vs i d b c = run_at first vs i d c ∙ (let e : first + i ≡ first + (i - 0) = omega arith in ap (λ n. (n, get_or vs i 0)) e)
entries_right (x ∷ xs) first [] i d b c = absurd (omega arith)
entries_right (x ∷ xs) first (v ∷ vs) zero d b c = absurd (omega arith)
entries_right (x ∷ xs) first (v ∷ vs) (suc i) d b c =
    entries_right xs first vs i d (omega arith) (omega arith)
    ∙ (let e : first + (i - length xs) ≡ first + (suc i - suc (length xs)) = omega arith in ap (λ n. (n, get_or vs i 0)) e)

pub entries_length : (xs : List ℕ) (first : ℕ) (vs : List ℕ) → length xs ≤ length vs → length (entries_of xs first vs) ≡ length vs
entries_length xs first vs b =
    let z = zipped_length xs vs b in
    let r = run_length first (drop (length xs) vs) in
    length-append (zipped xs vs) (run_from first (drop (length xs) vs)) ∙ omega (arith, z, r, length-drop (length xs) vs)

-- one more pair, of the place and the value at i
pub entries_more : (xs : List ℕ) (first : ℕ) (vs : List ℕ) (view pairs next : List (ℕ × ℕ)) (i x v : ℕ) → entries_of xs first vs ≡ view → length xs ≤ length vs → i < length vs
    → (i < length xs → x ≡ get_or xs i 0) → (length xs ≤ i → x ≡ first + (i - length xs)) → v ≡ get_or vs i v → pairs ≡ take i view → next ≡ pairs ++ ((x, v) ∷ []) → next ≡ take (i + 1) view
entries_more xs first vs view pairs next i x v is b c alone run v_is h more =
    let long : i < length view = let e = entries_length xs first vs b in subst (λ (es : List (ℕ × ℕ)). i < length es) is (omega arith) in
    let value = read_at vs i v v_is c in
    let pair : (x, v) ≡ get_or view i (x, v) = subst (λ (es : List (ℕ × ℕ)). (x, v) ≡ get_or es i (x, v)) is (elim (cases_lt i (length xs)) [
      | inl l ↦ let place = alone l in (λ j. (place j, value j)) ∙ sym (entries_left xs first vs i (x, v) b l)
      | inr m ↦ let place = run m in (λ j. (place j, value j)) ∙ sym (entries_right xs first vs i (x, v) m c)
    ]) in
    more ∙ ap (λ (es : List (ℕ × ℕ)). es ++ ((x, v) ∷ [])) h ∙ ap (λ (e : ℕ × ℕ). take i view ++ (e ∷ [])) pair ∙ sym (take_more view i (x, v) long)

-- values at places of their own alone
pub entries_alone : (xs : List ℕ) (vs : List ℕ) (pairs : List (ℕ × ℕ)) (i : ℕ) → length xs ≡ length vs → zipped xs vs ≡ take i pairs → length pairs ≤ i → entries_of xs 0 vs ≡ pairs
entries_alone xs vs pairs i same h b =
    ap (λ (rs : List ℕ). zipped xs vs ++ run_from 0 rs) (drop_of_length-le vs (omega arith)) ∙ append-nil (zipped xs vs) ∙ h ∙ take_all i pairs b

-- the two parts of the values, as they are read
pub alone_part : (xs vs read_xs read_vs alone : List ℕ) (n : ℕ) → read_xs ≡ xs → read_vs ≡ vs → n ≡ length read_xs → alone ≡ take n read_vs → length xs ≤ length vs → zipped read_xs alone ≡ zipped xs vs
alone_part xs vs read_xs read_vs alone n ex ev en ea b =
    let m : n ≡ length xs = en ∙ ap length ex in
    let part : alone ≡ take (length xs) vs = ea ∙ (λ j. take (m j) (ev j)) in
    (λ j. zipped (ex j) (part j)) ∙ zipped_take xs vs b

pub run_part : (xs vs read_xs read_vs run : List ℕ) (n : ℕ) → read_xs ≡ xs → read_vs ≡ vs → n ≡ length read_xs → run ≡ drop n read_vs → run ≡ drop (length xs) vs
run_part xs vs read_xs read_vs run n ex ev en er = let m : n ≡ length xs = en ∙ ap length ex in er ∙ (λ j. drop (m j) (ev j))

-- what both parts give
pub both_parts : (p by : ℕ) (old middle new : ℕ) (left right : List (ℕ × ℕ)) (k : ℕ) → Congruent p middle (old + by * value_in left k) → Congruent p new (middle + by * value_in right k)
    → Congruent p new (old + by * value_in (left ++ right) k)
both_parts p by old middle new left right k h g =
    let e : value_in (left ++ right) k ≡ value_in left k + value_in right k = sum_append (λ (f : ℕ × ℕ). f.1 * unit_vector f.0 k) left right in
    Congruent_from (Congruent_add h g) (rw e (omega arith))

-- one more time
pub once_more : (p j : ℕ) (old now new v : ℕ) → Congruent p now (old + j * v) → Congruent p new (now + v) → Congruent p new (old + (j + 1) * v)
once_more p j old now new v h g = Congruent_from (Congruent_add h g) (omega arith)

-- ---- what is taken from a sum

pub run_rest : (p start : ℕ) (old new : List ℕ) → IsClear p new → start < length old → StartsAt p start (λ y. get_or old y 0) → IsRest p old new (run_from start (drop start old))
run_rest p start old new clear inside before = record {
  clear = clear;
  fits = let e = length-drop start old in each_run (length old) start (drop start old) (omega arith);
  row = λ y. elim (cases_lt y start) [
    | inl b ↦ Congruent_trans (Congruent_of (run_before start (drop start old) y b)) (Congruent_sym (before.before y b))
    | inr b ↦
        let i = y - start in
        let q : start + i ≡ y = omega arith in
        Congruent_of (subst (λ z. value_in (run_from start (drop start old)) z ≡ get_or old z 0) q (run_value start (drop start old) i ∙ get_or-drop start old i 0))
  ];
}

-- one more place is clear
pub clear_more : (p : ℕ) (sum : List ℕ) (at v : ℕ) → v ≡ 0 % p → at < length sum → StartsAt p at (λ y. get_or sum y 0) → StartsAt p (at + 1) (λ y. get_or (set sum at v) y 0)
clear_more p sum at v z inside h = record {
  before = λ y b. elim (cases_eq y at) [
    | inl e ↦ Congruent_trans (Congruent_of (ap (λ j. get_or (set sum at v) j 0) e ∙ get_or-set_same sum at v 0 inside ∙ z)) (Congruent_mod p 0)
    | inr n ↦ rw get_or-set_other (h.before y (omega arith))
  ];
}

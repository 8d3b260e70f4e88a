-- The live Cartan lines, group by group, and lists of the numbers that pass a test.
use Rattle.std.{proofs.Common.{◌≡◌, ℕ, zero, suc, ◌+◌, ◌^◌, ◌<◌, ◌≤◌, refl, sym, ◌∙◌, ap, ap₂, subst, arith, Bool, true, false, cond, List, [], ◌∷◌, ◌++◌, append_assoc, lit<, length, map, flat_map, get_or, take, append-nil, take_all}, specs.List.filter, proofs.lemmas.Grind.flat_map-append, proofs.lemmas.List.{map-append, take_more}, proofs.lemmas.List.Elements.{filter-append, filter_more}, proofs.lemmas.Option.get_or_from_slice_get}
use Rattle.signed_sum.specs.Names.{numbers_from}
use Rattle.report.specs.declared.plan.Line.{Line}
use Rattle.report_law.specs.Names.{class_numbers, degrees, lines, lines_of_pair}
use Rattle.count_check.{specs.declared.lines.LineGroup.LineGroup, specs.Columns.AreSmall, specs.LineGroups.{IsSmallGroup, group_lines, is_live_number, line_with, lines_from, pair_lines}, proofs.PlaceLemmas.{number_at, numbers_length}}

-- ---- the numbers from 0 on that pass a test

number_there : (m n : ℕ) → n < m → get_or (numbers_from 0 m) n n ≡ n
number_there m n b = let z : 0 + n ≡ n = omega arith in get_or_from_slice_get (numbers_from 0 m) n (0 + n) n (number_at 0 m n b) ∙ z

more : (p : ℕ → Bool) (m n : ℕ) → n < m → filter p (take (n + 1) (numbers_from 0 m)) ≡ filter p (take n (numbers_from 0 m)) ++ cond (p n) (n ∷ []) []
more p m n b =
    let l = numbers_length 0 m in
    filter_more p (numbers_from 0 m) n n (omega (arith, l, b)) ∙ ap (λ k. filter p (take n (numbers_from 0 m)) ++ cond (p k) (k ∷ []) []) (number_there m n b)

pub kept : (p : ℕ → Bool) (m n : ℕ) (found new : List ℕ) → n < m → p n ≡ true → found ≡ filter p (take n (numbers_from 0 m)) → new ≡ found ++ n ∷ [] → new ≡ filter p (take (n + 1) (numbers_from 0 m))
kept p m n found new b t e f = f ∙ ap₂ (λ xs c. xs ++ cond c (n ∷ []) []) e (sym t) ∙ sym (more p m n b)

pub left : (p : ℕ → Bool) (m n : ℕ) (found : List ℕ) → n < m → p n ≡ false → found ≡ filter p (take n (numbers_from 0 m)) → found ≡ filter p (take (n + 1) (numbers_from 0 m))
left p m n found b t e = e ∙ sym (append-nil (filter p (take n (numbers_from 0 m)))) ∙ ap (λ c. filter p (take n (numbers_from 0 m)) ++ cond c (n ∷ []) []) (sym t) ∙ sym (more p m n b)

pub all_taken : (m n : ℕ) → m ≤ n → take n (numbers_from 0 m) ≡ numbers_from 0 m
all_taken m n b = let l = numbers_length 0 m in take_all n (numbers_from 0 m) (omega (arith, l, b))

pub flat_taken : {X : Type 0} (f : ℕ → List X) (m n : ℕ) → n < m → flat_map f (take (n + 1) (numbers_from 0 m)) ≡ flat_map f (take n (numbers_from 0 m)) ++ f n
flat_taken f m n b =
    let l = numbers_length 0 m in
    ap (flat_map f) (take_more (numbers_from 0 m) n n (omega (arith, l, b)) ∙ ap (λ k. take n (numbers_from 0 m) ++ k ∷ []) (number_there m n b))
    ∙ flat_map-append f (take n (numbers_from 0 m)) (n ∷ []) ∙ ap (λ xs. flat_map f (take n (numbers_from 0 m)) ++ xs) (append-nil (f n))

pub map_taken : {X : Type 0} (f : ℕ → X) (m n : ℕ) → n < m → map f (take (n + 1) (numbers_from 0 m)) ≡ map f (take n (numbers_from 0 m)) ++ f n ∷ []
map_taken f m n b =
    let l = numbers_length 0 m in
    ap (map f) (take_more (numbers_from 0 m) n n (omega (arith, l, b)) ∙ ap (λ k. take n (numbers_from 0 m) ++ k ∷ []) (number_there m n b)) ∙ map-append f (take n (numbers_from 0 m)) (n ∷ [])

-- ---- groups

pub filter_least : {X : Type 0} (p : X → Bool) (xs : List X) → length (filter p xs) ≤ length xs
filter_least p [] = omega arith
filter_least p (x ∷ xs) = go (p x) (filter_least p xs)
  where
    go : (t : Bool) → length (filter p xs) ≤ length xs → length (cond t (x ∷ filter p xs) (filter p xs)) ≤ length (x ∷ xs)
    go true r = omega (arith, r)
    go false r = omega (arith, r)

pub rank_small : (ranks : List ℕ) (n : ℕ) → AreSmall ranks → get_or ranks n 0 < 2 ^ 28
rank_small [] n h = lit< tt
rank_small (r ∷ rs) zero h = h.0
rank_small (r ∷ rs) (suc n) h = rank_small rs n h.1

-- one more group
pub record Grows (p : ℕ) (ranks : List ℕ) (a b : ℕ) (g : LineGroup) : Type 0 where
  pub a_is : g.a ≡ a
  pub b_is : g.b ≡ b
  pub first_is : g.first ≡ get_or ranks a 0
  pub second_is : g.second ≡ get_or ranks b 0
  pub numbers_are : g.numbers.items ≡ filter (is_live_number p ranks a b) (numbers_from 0 (a + b + 1))

pub grown_small : (p : ℕ) (ranks : List ℕ) (a b : ℕ) (g : LineGroup) → AreSmall ranks → a ≤ 15 → b ≤ 15 → Grows p ranks a b g → IsSmallGroup g
grown_small p ranks a b g small la lb h = record {
  first = subst (λ (n : ℕ). n < 2 ^ 28) (sym h.first_is) (rank_small ranks a small);
  second = subst (λ (n : ℕ). n < 2 ^ 28) (sym h.second_is) (rank_small ranks b small);
  numbers = let e = ap length h.numbers_are in let l = filter_least (is_live_number p ranks a b) (numbers_from 0 (a + b + 1)) in let n = numbers_length 0 (a + b + 1) in omega (arith, e, l, n, la, lb);
}

pub grown_lines : (p : ℕ) (ranks : List ℕ) (a b : ℕ) (g : LineGroup) → Grows p ranks a b g → group_lines g ≡ pair_lines p ranks a b
grown_lines p ranks a b g h =
    (λ i. flat_map (λ x. flat_map (λ y. map (line_with (h.a_is i) (h.b_is i) x y) (h.numbers_are i)) (numbers_from 1 (h.second_is i))) (numbers_from 1 (h.first_is i)))

pub grown : (p : ℕ) (ranks : List ℕ) (a b : ℕ) (g : LineGroup) (old groups new : List LineGroup) → b < length ranks → Grows p ranks a b g →
    flat_map group_lines groups ≡ flat_map group_lines old ++ flat_map (pair_lines p ranks a) (take b (degrees ranks)) → new ≡ groups ++ g ∷ [] →
    flat_map group_lines new ≡ flat_map group_lines old ++ flat_map (pair_lines p ranks a) (take (b + 1) (degrees ranks))
grown p ranks a b g old groups new inside h e f =
    ap (flat_map group_lines) f ∙ flat_map-append group_lines groups (g ∷ []) ∙ ap₂ (λ xs ys. xs ++ ys) e (append-nil (group_lines g) ∙ grown_lines p ranks a b g h)
    ∙ append_assoc (flat_map group_lines old) (flat_map (pair_lines p ranks a) (take b (degrees ranks))) (pair_lines p ranks a b)
    ∙ ap (λ xs. flat_map group_lines old ++ xs) (sym (flat_taken (pair_lines p ranks a) (length ranks) b inside))

-- ---- all lines

filter_flat : {X Y : Type 0} (test : Y → Bool) (g h : X → List Y) (xs : List X) → ((x : X) → filter test (g x) ≡ h x) → filter test (flat_map g xs) ≡ flat_map h xs
filter_flat test g h [] e = refl
filter_flat test g h (x ∷ xs) e = filter-append test (g x) (flat_map g xs) ∙ ap₂ (λ ys zs. ys ++ zs) (e x) (filter_flat test g h xs e)

filter_map_with : {X Y : Type 0} (test : Y → Bool) (f : X → Y) (xs : List X) → filter test (map f xs) ≡ map f (filter (λ x. test (f x)) xs)
filter_map_with test f [] = refl
filter_map_with test f (x ∷ xs) = go (test (f x)) (filter_map_with test f xs)
  where
    go : (t : Bool) → filter test (map f xs) ≡ map f (filter (λ x. test (f x)) xs) → cond t (f x ∷ filter test (map f xs)) (filter test (map f xs)) ≡ map f (cond t (x ∷ filter (λ x. test (f x)) xs) (filter (λ x. test (f x)) xs))
    go true r = ap (λ ys. f x ∷ ys) r
    go false r = r

pub all_live : (p : ℕ) (ranks : List ℕ) → flat_map (lines_from p ranks) (degrees ranks) ≡ lines p ranks
all_live p ranks =
    let test : Line → Bool = λ l. is_live_number p ranks l.a l.b l.n in
    sym (filter_flat test (λ a. flat_map (λ b. flat_map (λ i. flat_map (lines_of_pair a b i) (class_numbers ranks b)) (class_numbers ranks a)) (degrees ranks)) (lines_from p ranks) (degrees ranks)
    (λ a. filter_flat test (λ b. flat_map (λ i. flat_map (lines_of_pair a b i) (class_numbers ranks b)) (class_numbers ranks a)) (pair_lines p ranks a) (degrees ranks)
    (λ b. filter_flat test (λ i. flat_map (lines_of_pair a b i) (class_numbers ranks b)) (λ i. flat_map (λ j. map (line_with a b i j) (filter (is_live_number p ranks a b) (numbers_from 0 (a + b + 1)))) (class_numbers ranks b)) (class_numbers ranks a)
    (λ i. filter_flat test (lines_of_pair a b i) (λ j. map (line_with a b i j) (filter (is_live_number p ranks a b) (numbers_from 0 (a + b + 1)))) (class_numbers ranks b)
    (λ j. filter_map_with test (line_with a b i j) (numbers_from 0 (a + b + 1)))))))

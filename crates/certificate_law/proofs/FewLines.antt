-- How long lists are: of live blocks and lines, of columns, of simplices.
use Rattle.certificate_law.{specs.Types.{Op, Square, Column, Block, Line as CartanLine, Product, Power, BocksteinPower}, proofs.Places.{EachAt, at_each}, proofs.PivotCounts.ascending_apart}
use Rattle.std.proofs.{Common.{filter, ◌≡◌, ℕ, ◌+◌, ◌*◌, ◌<◌, ◌≤◌, ◌&&◌, true, inl, inr, refl, sym, ◌∙◌, ap, arith, List, [], ◌∷◌, length, map, get_or, Bool, length-append, flat_map}, lemmas.Bool.cases_eq, lemmas.List.length-map, lemmas.List.Sums.{count_by-le-length, length-filter}}
use Rattle.signed_sum.{specs.Names.numbers_from, proofs.Names.length-numbers_from}
use Rattle.linear_law.{specs.Names.{Among, Each, IsAscending}, proofs.Names.{apart_short, each_map}}
use Rattle.complex_file.specs.Names.{is_facet}
use Rattle.report_law.{specs.Names.{all_lines, blocks, class_numbers, degrees, has_class, is_defined, lines, lines_of_pair, products, block_on, cartan_op, target_degree, operations, number_pairs}, proofs.Names.{in-numbers, of-numbers}}
use Rattle.report_text_law.specs.Names.{columns_from}

pub flat_most : {X Y : Type 0} (f : X → List Y) (k : ℕ) (xs : List X) → ((x : X) → Among x xs → length (f x) ≤ k) → length (flat_map f xs) ≤ k * length xs
flat_most f k [] h = omega arith
flat_most f k (x ∷ xs) h =
    let e = length-append (f x) (flat_map f xs) in
    let here = h x (inl refl) in
    let more = flat_most f k xs (λ y m. h y (inr m)) in
    omega (arith, e, here, more)

pub filter_short : {X : Type 0} (t : X → Bool) (xs : List X) → length (filter t xs) ≤ length xs
filter_short t xs = let e = length-filter t xs in let c = count_by-le-length t xs in omega (arith, e, c)

pub columns_long : (j : ℕ) (ys : List Column) → length (columns_from j ys) ≡ 2 * length ys
columns_long j [] = refl
columns_long j (y ∷ ys) = let h = columns_long (j + 1) ys in omega (arith, h)

-- ---- live blocks and lines

-- at most 16 degrees, each with at most 100,000 classes
pub record AreFew (ranks : List ℕ) : Type 0 where
  pub degrees : length ranks ≤ 16
  pub classes : (n : ℕ) → get_or ranks n 0 ≤ 100000

pub few_pairs : (h k : ℕ) → h ≤ 100000 → k ≤ 100000 → length (number_pairs h k) ≤ 10000000000
few_pairs h k a b =
    let row : ℕ → List (ℕ × ℕ) = λ i. map (λ j. (i, j)) (numbers_from 1 k) in
    let rows = flat_most row 100000 (numbers_from 1 h) (λ i m. let pair : ℕ → ℕ × ℕ = λ j. (i, j) in let l = length-map (numbers_from 1 k) pair in let n = length-numbers_from 1 k in omega (arith, l, n, b)) in
    let n = length-numbers_from 1 h in
    omega (arith, rows, n, a)

module _ (ranks : List ℕ) (few : AreFew ranks) where
  count : length (degrees ranks) ≤ 16
  count = let d = few.degrees in let n = length-numbers_from 0 (length ranks) in omega (arith, n, d)

  pub few_products : length (products ranks) ≤ 256
  few_products =
      let row : ℕ → List Product = λ a. map (λ b. record { a = a; b = b }) (degrees ranks) in
      let all = filter_short (λ (x : Product). has_class ranks x.a && (has_class ranks x.b && has_class ranks (x.a + x.b))) (flat_map row (degrees ranks)) in
      let c = count in
      let rows = flat_most row 16 (degrees ranks) (λ a m. let of : ℕ → Product = λ b. record { a = a; b = b } in let l = length-map (degrees ranks) of in omega (arith, l, c)) in
      omega (arith, all, rows, c)

  pub few_blocks : (p : ℕ) → length (blocks p ranks) ≤ 768
  few_blocks p =
      let row : ℕ → List Block = λ q. map (block_on p q) (operations p q) in
      let all = filter_short (λ (x : Block). has_class ranks x.from && has_class ranks x.to) (flat_map row (degrees ranks)) in
      let c = count in
      let d = few.degrees in
      let rows = flat_most row 48 (degrees ranks) (λ q m.
      let l = length-map (operations p q) (block_on p q) in
      let k = of-numbers q 0 (length ranks) m in
      let three : ℕ → List Op = λ k. Square k ∷ Power k ∷ BocksteinPower k ∷ [] in
      let f = filter_short (is_defined p q) (flat_map three (numbers_from 0 (q + 1))) in
      let e = flat_most three 3 (numbers_from 0 (q + 1)) (λ j m. omega arith) in
      let n = length-numbers_from 0 (q + 1) in
      omega (arith, l, k, f, e, n, d)) in
      omega (arith, all, rows, c)

  pub few_lines_of : (p : ℕ) → length (lines p ranks) ≤ 80000000000000
  few_lines_of p =
      let c = count in
      let d = few.degrees in
      let all = filter_short (λ (l : CartanLine). is_defined p (l.a + l.b) (cartan_op p l.n) && has_class ranks (target_degree p (l.a + l.b) (cartan_op p l.n))) (all_lines ranks) in
      let at_b : ℕ → ℕ → List CartanLine = λ a b. flat_map (λ i. flat_map (lines_of_pair a b i) (class_numbers ranks b)) (class_numbers ranks a) in
      let of_pair : (a b i j : ℕ) → a < length ranks → b < length ranks → length (lines_of_pair a b i j) ≤ 31 = λ a b i j l m.
      let of : ℕ → CartanLine = λ n. record { a = a; i = i; b = b; j = j; n = n } in let e = length-map (numbers_from 0 (a + b + 1)) of in let n = length-numbers_from 0 (a + b + 1) in omega (arith, e, n, l, m, d) in
      let of_degrees : (a b : ℕ) → a < length ranks → b < length ranks → length (at_b a b) ≤ 310000000000 = λ a b l m.
      let x = few.classes a in
      let y = few.classes b in
      let rows = flat_most (λ i. flat_map (lines_of_pair a b i) (class_numbers ranks b)) 3100000 (class_numbers ranks a) (λ i k.
      let r = flat_most (lines_of_pair a b i) 31 (class_numbers ranks b) (λ j g. of_pair a b i j l m) in
      let n = length-numbers_from 1 (get_or ranks b 0) in
      omega (arith, r, n, y)) in
      let n = length-numbers_from 1 (get_or ranks a 0) in
      omega (arith, rows, n, x) in
      let rows = flat_most (λ a. flat_map (at_b a) (degrees ranks)) 4960000000000 (degrees ranks) (λ a m.
      let k = of-numbers a 0 (length ranks) m in
      let r = flat_most (at_b a) 310000000000 (degrees ranks) (λ b g. let j = of-numbers b 0 (length ranks) g in of_degrees a b (let l = k.1 in omega (arith, l)) (let l = j.1 in omega (arith, l))) in
      omega (arith, r, c)) in
      omega (arith, all, rows, c)

-- ---- lists

pub each_of_at : {X : Type 0} (P : X → Type 0) (k : ℕ) (xs : List X) → EachAt (λ j x. P x) k xs → Each P xs
each_of_at P k xs h = at_each (λ j x. P x) P (λ j x p. p) k xs h

pub same_length : {X Y : Type 0} (f : X → Y) (xs : List X) (ys : List Y) → map f xs ≡ ys → length xs ≡ length ys
same_length f xs ys e = sym (length-map xs f) ∙ ap length e

pub some_vertex : (f : List ℕ) → is_facet f ≡ true → 0 < length f
some_vertex [] h = absurd cc
some_vertex (v ∷ vs) h = omega arith

pub ascending_short : (most : ℕ) (vs : List ℕ) → IsAscending vs → Each (λ v. v < most) vs → length vs ≤ most
ascending_short most vs up h =
    let l = apart_short cases_eq vs (numbers_from 0 most) (ascending_apart vs up) (each_map (λ v k. in-numbers v 0 most (omega arith) (omega (arith, k))) vs h) in
    let n = length-numbers_from 0 most in
    omega (arith, l, n)

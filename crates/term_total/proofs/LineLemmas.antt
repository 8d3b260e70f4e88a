-- The lines of a complex, as rows that are equal for all classes of two degrees.
use Rattle.std.{proofs.Common.{◌≡◌, ℕ, ◌+◌, ◌*◌, arith, refl, sym, ◌∙◌, ap, ap₂, inl, inr, List, [], ◌∷◌, ◌++◌, Bool, true, false, cond, map, get_or, flat_map, lt-ltb}, specs.List.filter, proofs.lemmas.Bool.{and_cases, cases_lt, false≢true}, proofs.lemmas.List.Folds.flat_map-map}
use Rattle.signed_sum.specs.Names.{numbers_from}
use Rattle.report.specs.declared.plan.{Line.Line, Product.Product}
use Rattle.report_law.specs.Names.{all_lines, class_numbers, degrees, has_class, lines, lines_of_pair}
use Rattle.term_total.{specs.Names.{repeated, class_pairs, pair_lines, is_class_pair, is_live_line, line_of, product_of}, proofs.RowLemmas.{filter-flat, flat-flat, flat-kept, flat-same, rows-repeated}}

no-class : (ranks : List ℕ) (n : ℕ) → has_class ranks n ≡ false → get_or ranks n 0 ≡ 0
no-class ranks n e = elim (cases_lt 0 (get_or ranks n 0)) [
  | inl l ↦ absurd (false≢true (sym e ∙ lt-ltb 0 (get_or ranks n 0) l))
  | inr g ↦ omega arith
]

module _ {X : Type 0} (p : ℕ) (ranks : List ℕ) (f : Line → List X) (alike : (a b i j n : ℕ) → f (line_of a b i j n) ≡ f (line_of a b 1 1 n)) where
  abbrev kept : List Line → List X
  kept ls = flat_map f (filter (is_live_line p ranks) ls)

  kept-flat : {Y : Type 0} (g : Y → List Line) (h : Y → List X) (ys : List Y) → ((y : Y) → kept (g y) ≡ h y) → kept (flat_map g ys) ≡ flat_map h ys
  kept-flat g h ys e = ap (flat_map f) (filter-flat (is_live_line p ranks) g ys) ∙ flat-flat f (λ y. filter (is_live_line p ranks) (g y)) ys ∙ flat-same (λ y. kept (g y)) h ys e

  same-row : (a b i j : ℕ) (ns : List ℕ) → kept (map (line_of a b i j) ns) ≡ kept (map (line_of a b 1 1) ns)
  same-row a b i j [] = refl
  same-row a b i j (n ∷ ns) = go (is_live_line p ranks (line_of a b 1 1 n)) (same-row a b i j ns)
    where
      go : (t : Bool) → kept (map (line_of a b i j) ns) ≡ kept (map (line_of a b 1 1) ns)
          → flat_map f (cond t (line_of a b i j n ∷ filter (is_live_line p ranks) (map (line_of a b i j) ns)) (filter (is_live_line p ranks) (map (line_of a b i j) ns)))
          ≡ flat_map f (cond t (line_of a b 1 1 n ∷ filter (is_live_line p ranks) (map (line_of a b 1 1) ns)) (filter (is_live_line p ranks) (map (line_of a b 1 1) ns)))
      go true e = ap₂ (λ xs ys. xs ++ ys) (alike a b i j n) e
      go false e = e

  -- what comes of the lines of two degrees, for all classes
  abbrev pair_part : Product → List X
  pair_part x = repeated (get_or ranks x.a 0 * get_or ranks x.b 0) (flat_map f (pair_lines p ranks x))

  no-part : (x : Product) → is_class_pair ranks x ≡ false → pair_part x ≡ []
  no-part x e = ap (λ k. repeated k (flat_map f (pair_lines p ranks x))) none
    where
      none : get_or ranks x.a 0 * get_or ranks x.b 0 ≡ 0
      none = elim (and_cases (has_class ranks x.a) (has_class ranks x.b) e) [
        | inl l ↦ ap (λ n. n * get_or ranks x.b 0) (no-class ranks x.a l) ∙ (let z : 0 * get_or ranks x.b 0 ≡ 0 = omega arith in z)
        | inr r ↦ ap (λ n. get_or ranks x.a 0 * n) (no-class ranks x.b r) ∙ (let z : get_or ranks x.a 0 * 0 ≡ 0 = omega arith in z)
      ]

  abbrev by_degrees : List X
  by_degrees = flat_map (λ a. flat_map (λ b. pair_part (product_of a b)) (degrees ranks)) (degrees ranks)

  all-parts : kept (all_lines ranks) ≡ by_degrees
  all-parts =
      kept-flat (λ a. flat_map (λ b. flat_map (λ i. flat_map (lines_of_pair a b i) (class_numbers ranks b)) (class_numbers ranks a)) (degrees ranks))
      (λ a. flat_map (λ b. pair_part (product_of a b)) (degrees ranks)) (degrees ranks)
      (λ a. kept-flat (λ b. flat_map (λ i. flat_map (lines_of_pair a b i) (class_numbers ranks b)) (class_numbers ranks a)) (λ b. pair_part (product_of a b)) (degrees ranks)
      (λ b. kept-flat (λ i. flat_map (lines_of_pair a b i) (class_numbers ranks b)) (λ i. flat_map (λ j. kept (lines_of_pair a b i j)) (class_numbers ranks b)) (class_numbers ranks a)
      (λ i. kept-flat (lines_of_pair a b i) (λ j. kept (lines_of_pair a b i j)) (class_numbers ranks b) (λ j. refl))
      ∙ rows-repeated (λ i j. kept (lines_of_pair a b i j)) (flat_map f (pair_lines p ranks (product_of a b))) (get_or ranks a 0) (get_or ranks b 0) (λ i j. same-row a b i j (numbers_from 0 (a + b + 1)))))

  -- the lines, by the pairs of degrees that have classes
  pub lines-by-pairs : flat_map f (lines p ranks) ≡ flat_map pair_part (class_pairs ranks)
  lines-by-pairs =
      all-parts
      ∙ sym (flat-kept (is_class_pair ranks) pair_part (flat_map (λ a. map (product_of a) (degrees ranks)) (degrees ranks)) no-part
      ∙ flat-flat pair_part (λ a. map (product_of a) (degrees ranks)) (degrees ranks)
      ∙ flat-same (λ a. flat_map pair_part (map (product_of a) (degrees ranks))) (λ a. flat_map (λ b. pair_part (product_of a b)) (degrees ranks)) (degrees ranks)
      (λ a. flat_map-map pair_part (product_of a) (degrees ranks)))

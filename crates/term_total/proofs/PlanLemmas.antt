-- The rows of blocks and lines count what these count.
use Rattle.std.proofs.{Common.{◌≡◌, ℕ, ◌+◌, ◌*◌, arith, refl, sym, ◌∙◌, ap, ap₂, List, [], ◌∷◌, ◌++◌, map, get_or, flat_map, append-nil}, lemmas.List.Folds.flat_map-map}
use Rattle.linear_law.specs.Names.{sum_over}
use Rattle.report.specs.declared.plan.{Block.Block, Line.Line, Op.Op, Product.Product, Sizes.Sizes}
use Rattle.report_law.specs.Names.{blocks, cartan_op, cartan_pairs, element_degree, lines, block_terms, complex_terms, line_terms, operation_terms}
use Rattle.term_total.{specs.Names.{repeated, addend_number, block_addend, block_row, class_pairs, line_addend, operation_number, pair_lines, pair_operations, pair_row, part_rows, plan, row_numbers, Addend, Applied, Row}, proofs.ChargeLemmas.singles, proofs.LineLemmas.lines-by-pairs, proofs.RowLemmas.{flat-flat, flat-same}}

-- ---- what they count

module _ (p : ℕ) (z : Sizes) where
  block-number : (xs : List Block) → map (addend_number p) (map (block_addend p z) xs) ≡ map (block_terms p z) xs
  block-number [] = refl
  block-number (x ∷ xs) = ap₂ (λ n ns. n ∷ ns) (let e : operation_terms p z x.op x.from + 0 ≡ operation_terms p z x.op x.from = omega arith in ap (λ n. get_or z.ranks x.from 0 * n) e) (block-number xs)

  line-number : (l : Line) → addend_number p (line_addend p z.simplices l) ≡ line_terms p z l
  line-number l = let r = go (cartan_pairs p l.a l.b l.n) in omega (arith, r)
    where
      go : (es : List (ℕ × ℕ)) → sum_over (operation_number p) (flat_map (pair_operations p z.simplices l) es) ≡ sum_over (λ e. operation_terms p z (cartan_op p e.0) l.a + operation_terms p z (cartan_op p e.1) l.b) es
      go [] = refl
      go (e ∷ es) = let r = go es in omega (arith, r)

  line-numbers : (ls : List Line) → map (addend_number p) (map (line_addend p z.simplices) ls) ≡ flat_map (λ l. line_terms p z l ∷ []) ls
  line-numbers [] = refl
  line-numbers (l ∷ ls) = ap₂ (λ n ns. n ∷ ns) (line-number l) (line-numbers ls)

  pair-numbers : (xs : List Product) → flat_map (row_numbers p) (map (pair_row p z) xs)
      ≡ flat_map (λ x. repeated (get_or z.ranks x.a 0 * get_or z.ranks x.b 0) (flat_map (λ l. line_terms p z l ∷ []) (pair_lines p z.ranks x))) xs
  pair-numbers [] = refl
  pair-numbers (x ∷ xs) = ap₂ (λ ns ms. repeated (get_or z.ranks x.a 0 * get_or z.ranks x.b 0) ns ++ ms) (line-numbers (pair_lines p z.ranks x)) (pair-numbers xs)

  part-numbers : flat_map (row_numbers p) (part_rows p z) ≡ complex_terms p z
  part-numbers =
      ap₂ (λ ns ms. ns ++ ms) (append-nil (map (addend_number p) (map (block_addend p z) (blocks p z.ranks))) ∙ block-number (blocks p z.ranks))
      (pair-numbers (class_pairs z.ranks) ∙ sym (lines-by-pairs p z.ranks (λ l. line_terms p z l ∷ []) (λ a b i j n. refl)) ∙ singles (line_terms p z) (lines p z.ranks))

pub plan-numbers : (p : ℕ) (zs : List Sizes) → flat_map (row_numbers p) (plan p zs) ≡ flat_map (complex_terms p) zs
plan-numbers p zs = flat-flat (row_numbers p) (part_rows p) zs ∙ flat-same (λ z. flat_map (row_numbers p) (part_rows p z)) (complex_terms p) zs (part-numbers p)

-- ---- the degrees of their May elements and of their cochains

module _ {X : Type 0} (f : ℕ → ℕ → X) (p : ℕ) where
  -- the values of f on them: of an addend, of rows, of an operation, of a line, of a complex
  abbrev addend_values : Addend → List X
  addend_values y = map (λ (x : Applied). f x.element x.degree) y.operations

  abbrev pub row_values : Row → List X
  row_values r = flat_map addend_values r.addends

  abbrev pub values_in : List Row → List X
  values_in rows = flat_map row_values rows

  abbrev op_value : Op → ℕ → X
  op_value op q = f (element_degree p q op) q

  abbrev pub line_values : Line → List X
  line_values l = op_value (cartan_op p l.n) (l.a + l.b) ∷ flat_map (λ e. op_value (cartan_op p e.0) l.a ∷ op_value (cartan_op p e.1) l.b ∷ []) (cartan_pairs p l.a l.b l.n)

  abbrev pub block_values : List Block → List X
  block_values xs = map (λ x. op_value x.op x.from) xs

  abbrev pub complex_values : Sizes → List X
  complex_values z = block_values (blocks p z.ranks) ++ flat_map line_values (lines p z.ranks)

  abbrev pub short_values : List ℕ → Product → List X
  short_values ranks x = flat_map line_values (pair_lines p ranks x)

  module _ (z : Sizes) where
    line-values : (l : Line) → addend_values (line_addend p z.simplices l) ≡ line_values l
    line-values l = ap (λ ds. op_value (cartan_op p l.n) (l.a + l.b) ∷ ds) (go (cartan_pairs p l.a l.b l.n))
      where
        go : (es : List (ℕ × ℕ)) → map (λ (x : Applied). f x.element x.degree) (flat_map (pair_operations p z.simplices l) es)
            ≡ flat_map (λ e. op_value (cartan_op p e.0) l.a ∷ op_value (cartan_op p e.1) l.b ∷ []) es
        go [] = refl
        go (e ∷ es) = ap (λ ds. op_value (cartan_op p e.0) l.a ∷ op_value (cartan_op p e.1) l.b ∷ ds) (go es)

    pair-values : (x : Product) → row_values (pair_row p z x) ≡ short_values z.ranks x
    pair-values x =
        flat_map-map addend_values (line_addend p z.simplices) (pair_lines p z.ranks x)
        ∙ flat-same (λ l. addend_values (line_addend p z.simplices l)) line_values (pair_lines p z.ranks x) line-values

    blocks-values : row_values (block_row p z) ≡ block_values (blocks p z.ranks)
    blocks-values = flat_map-map addend_values (block_addend p z) (blocks p z.ranks) ∙ singles (λ (x : Block). op_value x.op x.from) (blocks p z.ranks)

    pub part-values : values_in (part_rows p z) ≡ block_values (blocks p z.ranks) ++ flat_map (short_values z.ranks) (class_pairs z.ranks)
    part-values =
        ap₂ (λ xs ys. xs ++ ys) blocks-values
        (flat_map-map row_values (pair_row p z) (class_pairs z.ranks) ∙ flat-same (λ x. row_values (pair_row p z x)) (short_values z.ranks) (class_pairs z.ranks) pair-values)

  pub plan-values : (zs : List Sizes) → values_in (plan p zs) ≡ flat_map (λ z. values_in (part_rows p z)) zs
  plan-values zs = flat-flat row_values (part_rows p) zs

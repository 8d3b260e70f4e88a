-- The live Cartan lines of two degrees.
use Rattle.std.specs.{Prelude.{ℕ, ◌+◌, ◌^◌, ◌<◌, ◌≤◌, ◌≡◌, Bool, ◌&&◌, List, flat_map, get_or, length, map}, List.filter}
use Rattle.signed_sum.specs.Names.{numbers_from}
use Rattle.linear_law.specs.Names.{Each}
use Rattle.report.specs.declared.{complex.ComplexPart.ComplexPart, plan.Line.Line}
use Rattle.report_law.specs.Names.{blocks, cartan_op, class_numbers, degrees, has_class, is_defined, lines, products, target_degree, number_pairs}
use Rattle.count_check.specs.{declared.complexes.Live.Live, declared.lines.LineGroup.LineGroup, Columns.AreSmall}

-- whether the lines of degrees a and b for this n are live
abbrev pub is_live_number : ℕ → List ℕ → ℕ → ℕ → ℕ → Bool
is_live_number p ranks a b n = is_defined p (a + b) (cartan_op p n) && has_class ranks (target_degree p (a + b) (cartan_op p n))

abbrev pub line_with : ℕ → ℕ → ℕ → ℕ → ℕ → Line
line_with a b i j n = record { a = a; i = i; b = b; j = j; n = n }

-- the lines of a group: by i, j and n
abbrev pub group_lines : LineGroup → List Line
group_lines g = flat_map (λ i. flat_map (λ j. map (line_with g.a g.b i j) g.numbers.items) (numbers_from 1 g.second)) (numbers_from 1 g.first)

-- a group whose lines can be counted
pub record IsSmallGroup (g : LineGroup) : Type 0 where
  pub first : g.first < 2 ^ 28
  pub second : g.second < 2 ^ 28
  pub numbers : length g.numbers.items ≤ 31

-- the live lines of the classes of degrees a and b
abbrev pub pair_lines : ℕ → List ℕ → ℕ → ℕ → List Line
pair_lines p ranks a b = flat_map (λ i. flat_map (λ j. map (line_with a b i j) (filter (is_live_number p ranks a b) (numbers_from 0 (a + b + 1)))) (class_numbers ranks b)) (class_numbers ranks a)

-- the live lines of the classes of degree a with those of each degree
abbrev pub lines_from : ℕ → List ℕ → ℕ → List Line
lines_from p ranks a = flat_map (pair_lines p ranks a) (degrees ranks)

-- This is what is live for these ranks.
pub record IsLive (p : ℕ) (ranks : List ℕ) (l : Live) : Type 0 where
  pub ranks_are : l.ranks.items ≡ ranks
  pub small : AreSmall ranks
  pub products_are : l.products.items ≡ products ranks
  pub blocks_are : l.blocks.items ≡ blocks p ranks
  pub counted : Each IsSmallGroup l.lines.items
  pub lines_are : flat_map group_lines l.lines.items ≡ lines p ranks

-- No block, no line and no column of what is live is missing.
pub record HasAll (l : Live) (c : ComplexPart) : Type 0 where
  pub products : length l.products.items ≤ length c.products
  pub operations : length l.blocks.items ≤ length c.operations
  pub cartans : length (flat_map group_lines l.lines.items) ≤ length c.cartans
  pub product_columns : Each (λ x. length (number_pairs (get_or l.ranks.items x.a 0) (get_or l.ranks.items x.b 0)) ≤ length x.columns) c.products
  pub operation_columns : Each (λ x. get_or l.ranks.items x.from 0 ≤ length x.columns) c.operations

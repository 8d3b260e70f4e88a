-- Live blocks and lines, in the parts in which they are listed.
use Rattle.std.specs.{Prelude.{ℕ, ◌+◌, Bool, ◌&&◌, List, [], ◌∷◌, flat_map, map}, List.filter}
use Rattle.report.specs.declared.plan.{Block.Block, Line.Line, Op.Op, Op.TheVariants.{Square, Power, BocksteinPower}, Product.Product}
use Rattle.report_law.specs.Names.{block_on, cartan_op, class_numbers, degrees, has_class, is_defined, lines_of_pair, target_degree}

abbrev pub is_live_product : List ℕ → Product → Bool
is_live_product ranks x = has_class ranks x.a && (has_class ranks x.b && has_class ranks (x.a + x.b))

-- both degrees have classes
abbrev pub is_class_pair : List ℕ → Product → Bool
is_class_pair ranks x = has_class ranks x.a && has_class ranks x.b

abbrev pub product_of : ℕ → ℕ → Product
product_of a b = record { a = a; b = b }

abbrev pub is_live_block : List ℕ → Block → Bool
is_live_block ranks x = has_class ranks x.from && has_class ranks x.to

-- the live blocks of those of the operations that are defined on degree q
abbrev pub live_blocks : ℕ → List ℕ → ℕ → List Op → List Block
live_blocks p ranks q ops = filter (is_live_block ranks) (map (block_on p q) (filter (is_defined p q) ops))

-- the operations with one index
abbrev pub operations_with : ℕ → List Op
operations_with k = Square k ∷ Power k ∷ BocksteinPower k ∷ []

abbrev pub is_live_line : ℕ → List ℕ → Line → Bool
is_live_line p ranks l = is_defined p (l.a + l.b) (cartan_op p l.n) && has_class ranks (target_degree p (l.a + l.b) (cartan_op p l.n))

abbrev pub line_of : ℕ → ℕ → ℕ → ℕ → ℕ → Line
line_of a b i j n = record { a = a; i = i; b = b; j = j; n = n }

-- the lines of two degrees and a class, of two degrees, and of one degree
abbrev pub lines_of_class : List ℕ → ℕ → ℕ → ℕ → List Line
lines_of_class ranks a b i = flat_map (lines_of_pair a b i) (class_numbers ranks b)

abbrev pub lines_of_degrees : List ℕ → ℕ → ℕ → List Line
lines_of_degrees ranks a b = flat_map (lines_of_class ranks a b) (class_numbers ranks a)

abbrev pub lines_of_degree : List ℕ → ℕ → List Line
lines_of_degree ranks a = flat_map (lines_of_degrees ranks a) (degrees ranks)

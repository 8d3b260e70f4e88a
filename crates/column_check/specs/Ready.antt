-- What earlier conditions give of the blocks, columns and lines whose sums are tested.
use Rattle.std.specs.{Prelude.{◌≡◌, ℕ, ◌+◌, ◌^◌, ◌<◌, ◌≤◌, true, List, length, ℤ}, List.list_all}
use Rattle.linear_law.specs.Names.{Each}
use Rattle.certificate_law.specs.{Types.{CartanAnswer, Yes, No, CartanPart, Column, OperationPart, PairColumn, ProductPart, ComplexPart, InducedPart, MapPart}, Names.{Asks, rank_in, complex_stated, map_between}}
use Rattle.report_law.specs.Names.{cartan_op, is_defined, target_degree, line_of, op_of}
use Rattle.report_text_law.specs.Names.{complex_lines, map_lines, is_chain, is_line}
use Rattle.line_difference.specs.Elements.{HasElement, HasElements}
use Rattle.may_elements.specs.Stored.{Parts}

-- The lines of the complex are well formed, and meet the conditions 2, 3 and 5.
pub record HasPassed (p : ℕ) (c : ComplexPart) : Type 0 where
  pub formed : list_all (is_line p) (complex_lines c) ≡ true
  pub degrees : (earlier : List ComplexPart) → Each (Asks p 2) (complex_stated earlier c)
  pub classes : (earlier : List ComplexPart) → Each (Asks p 3) (complex_stated earlier c)
  pub counts : (earlier : List ComplexPart) → Each (Asks p 5) (complex_stated earlier c)

-- The lines of the map are well formed, and meet condition 5.
pub record HasPassedMap (p : ℕ) (from to : ComplexPart) (m : MapPart) : Type 0 where
  pub formed : list_all (is_line p) (map_lines m) ≡ true
  pub counts : (cs : List ComplexPart) (earlier : List MapPart) → Each (Asks p 5) (map_between from to cs earlier m)

-- ---- columns and blocks

pub record IsPairReady (p : ℕ) (c : ComplexPart) (x : ProductPart) (y : PairColumn) : Type 0 where
  pub first : (1 ≤ y.i) × (y.i ≤ rank_in c x.a)
  pub second : (1 ≤ y.j) × (y.j ≤ rank_in c x.b)
  pub size : length y.values ≡ rank_in c (x.a + x.b)
  pub formed : is_chain p y.primitive ≡ true

pub record IsProductReady (p : ℕ) (c : ComplexPart) (x : ProductPart) : Type 0 where
  pub low : x.a + x.b ≤ 15
  pub live : 0 < rank_in c (x.a + x.b)
  pub columns : Each (IsPairReady p c x) x.columns

-- a column with this many values
pub record IsColumnReady (p rows : ℕ) (y : Column) : Type 0 where
  pub size : length y.values ≡ rows
  pub formed : is_chain p y.primitive ≡ true

pub record IsOperationReady (p : ℕ) (table : Parts) (c : ComplexPart) (x : OperationPart) : Type 0 where
  pub low : x.from ≤ 15
  pub live : 0 < rank_in c x.to
  pub defined : is_defined p x.from (op_of x) ≡ true
  pub target : x.to ≡ target_degree p x.from (op_of x)
  pub stored : HasElement p table x.from (op_of x)
  pub count : length x.columns ≤ rank_in c x.from
  pub few : length x.columns < 2 ^ 32
  pub columns : Each (IsColumnReady p (rank_in c x.to)) x.columns

pub record IsInducedReady (p : ℕ) (from to : ComplexPart) (x : InducedPart) : Type 0 where
  pub live : 0 < rank_in from x.q
  pub count : length x.columns ≤ rank_in to x.q
  pub few : length x.columns < 2 ^ 32
  pub columns : Each (IsColumnReady p (rank_in from x.q)) x.columns

-- ---- Cartan lines

abbrev pub IsFormedAnswer : ℕ → CartanAnswer → Type 0
IsFormedAnswer p (Yes primitive) = is_chain p primitive ≡ true
IsFormedAnswer p (No value cycle) = is_chain p cycle ≡ true

pub record IsCartanReady (p : ℕ) (table : Parts) (c : ComplexPart) (x : CartanPart) : Type 0 where
  pub low : x.a + x.b ≤ 15
  pub defined : is_defined p (x.a + x.b) (cartan_op p x.n) ≡ true
  pub stored : HasElements p table (line_of x)
  pub first : (1 ≤ x.i) × (x.i ≤ rank_in c x.a)
  pub second : (1 ≤ x.j) × (x.j ≤ rank_in c x.b)
  pub formed : IsFormedAnswer p x.answer

-- The May elements that operations are made with.
use Rattle.std.specs.Prelude.{◌≡◌, ◌⊎◌, ℕ, ◌+◌, List, [], IsSome}
use Rattle.linear_law.specs.Names.{Each}
use Rattle.may_elements.specs.Stored.{Parts, stored_at}
use Rattle.report.specs.declared.plan.{Line.Line, Op.Op}
use Rattle.report_law.specs.Names.{cartan_op, cartan_pairs, element_degree}
use Rattle.term_total.specs.Names.{complex_uses}

-- what an operation on degree q sees of its May element is stored; at 2 it is not needed
abbrev pub HasElement : ℕ → Parts → ℕ → Op → Type 0
HasElement p table q op = (p ≡ 2) ⊎ IsSome (stored_at (element_degree p q op) q table)

-- what the operations of a line see of their May elements is stored: of that on the product, and of those on the two classes
pub record HasElements (p : ℕ) (table : Parts) (line : Line) : Type 0 where
  pub whole : HasElement p table (line.a + line.b) (cartan_op p line.n)
  pub parts : Each (λ e. HasElement p table line.a (cartan_op p e.0) × HasElement p table line.b (cartan_op p e.1)) (cartan_pairs p line.a line.b line.n)

-- what the live blocks and lines of a complex with these ranks use is stored
abbrev pub AreStored : ℕ → Parts → List ℕ → Type 0
AreStored p table ranks = Each (λ u. IsSome (stored_at u.0 u.1 table)) (complex_uses p (record { simplices = []; ranks = ranks }))

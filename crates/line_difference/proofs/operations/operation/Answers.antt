use Rattle.std.proofs.Common.{ℕ, List, subst, sym, IfOk, Result}
use Rattle.complex_index.specs.{declared.indexed.Cochain.Cochain, Names.IsIndexOf}
use Rattle.may_steenrod.specs.Cochains.{IsClosed, cochain_in}
use Rattle.report.specs.declared.plan.Op.{Op}
use Rattle.report_law.specs.Names.{IsOperation, target_degree}
use Rattle.line_difference.proofs.operations.operation.Goals as goal

-- the two clauses, by the operation that was matched
module _ {E : Type 0} (p : ℕ) (levels : List (List (List ℕ))) (z : Cochain p) (result : Result (Cochain p) E) (op : Op) where
  abbrev IsMade : Type 0
  IsMade = IfOk result (λ (r : Cochain p). (facets : List (List ℕ)) → IsIndexOf facets levels → IsOperation facets p op z.degree (cochain_in levels z.degree z.row) (cochain_in levels (target_degree p z.degree op) r.row))

  abbrev KeepsClosed : Type 0
  KeepsClosed = IfOk result (λ (r : Cochain p). IsClosed p levels z.degree z.row → IsClosed p levels (target_degree p z.degree op) r.row)

pub returns-in-Square-clause-operation : goal.returns-in-Square-clause-operation
returns-in-Square-clause-operation g c = subst (IsMade g.row.P c.args.index.now c.args.cochain.now c.sq.result) (sym c.in-Square.is) c.sq.ensures.square

pub returns-in-Square-clause-closed : goal.returns-in-Square-clause-closed
returns-in-Square-clause-closed g c = subst (KeepsClosed g.row.P c.args.index.now c.args.cochain.now c.sq.result) (sym c.in-Square.is) c.sq.ensures.closed

pub returns-in-Power-clause-operation : goal.returns-in-Power-clause-operation
returns-in-Power-clause-operation g c = subst (IsMade g.row.P c.args.index.now c.args.cochain.now c.p_op.result) (sym c.in-Power.is) c.p_op.ensures.power

pub returns-in-Power-clause-closed : goal.returns-in-Power-clause-closed
returns-in-Power-clause-closed g c = subst (KeepsClosed g.row.P c.args.index.now c.args.cochain.now c.p_op.result) (sym c.in-Power.is) c.p_op.ensures.closed

pub returns-in-BocksteinPower-clause-operation : goal.returns-in-BocksteinPower-clause-operation
returns-in-BocksteinPower-clause-operation g c = subst (IsMade g.row.P c.args.index.now c.args.cochain.now c.bp_op.result) (sym c.in-BocksteinPower.is) c.bp_op.ensures.power

pub returns-in-BocksteinPower-clause-closed : goal.returns-in-BocksteinPower-clause-closed
returns-in-BocksteinPower-clause-closed g c = subst (KeepsClosed g.row.P c.args.index.now c.args.cochain.now c.bp_op.result) (sym c.in-BocksteinPower.is) c.bp_op.ensures.closed

use Rattle.std.proofs.Common.{arith, ◌≤◌, ◌+◌, ◌^◌, w64, nat_abs}
use Rattle.std.proofs.lemmas.Int.{ints, to_z-of_z}
use Rattle.signed_sum.specs.Names.{weight_of}
use Rattle.operad_law.proofs.PlusTerm.{IsFormalSum-plus_term, weight_of-plus_term}
use Rattle.operad_law.proofs.formal_sum.FormalSum.add_term.Goals as goal

pub invariant_of-self : goal.invariant_of-self
invariant_of-self g c =
    let room : nat_abs c.args.by + weight_of c.self.inside.terms.items ≤ 10 ^ 18 = omega (arith, ints, c.self.invariant.weighed, c.if-unsigned_abs-self.false) in
    let e = rw (to_z-of_z w64 c.args.by c.ranges.by) at c.in-Ok.ensures.ok in
    record {
      sum = rw e (IsFormalSum-plus_term g.B.Ord.cmp g.met.B.Ord.total c.self.inside.terms.items c.args.item c.args.by c.self.invariant.sum room);
      weighed = c.in-Ok.ensures.weighed;
    }

pub returns-in-Ok-clause-grows : goal.returns-in-Ok-clause-grows
returns-in-Ok-clause-grows g c =
    let e = rw (to_z-of_z w64 c.args.by c.ranges.by) at c.in-Ok.ensures.ok in
    let m = weight_of-plus_term g.B.Ord.cmp c.self.inside.terms.items c.args.item c.args.by in
    rw (e, ← c.self.view_is) (omega (arith, m))

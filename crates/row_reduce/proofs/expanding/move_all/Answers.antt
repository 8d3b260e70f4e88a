use Rattle.std.proofs.Common.{◌≡◌, ◌+◌, ◌-◌, length, arith, subst}
use Rattle.row_reduce.{specs.Names.Expanding, proofs.ExpansionLemmas.expand_end}
use Rattle.row_reduce.proofs.expanding.move_all.Goals as goal

pub loop-done-preserved : goal.loop-done-preserved
loop-done-preserved g c =
    let n = length c.args.images.now in
    let d = c.loop-done.done in
    record {
      below = λ count numbered h. c.in_ok-move_weight.ensures.below count numbered (c.loop-done.invariant.below count numbered h);
      expanding = λ place history h.
          let a : n - d ≡ n - 1 - d + 1 = omega arith in
          let b : n - 1 - d ≡ n - (d + 1) = omega arith in
          subst (λ k. Expanding g.row.P c.args.images.now place history c.move_weight.new.weights c.move_weight.new.out.items k) b
          (c.in_ok-move_weight.ensures.moved place history
          (subst (λ k. Expanding g.row.P c.args.images.now place history c.loop-done.weights c.loop-done.out.items k) a (c.loop-done.invariant.expanding place history h)));
    }

pub returns-clause-expanded : goal.returns-clause-expanded
returns-clause-expanded g c =
    λ place history h.
    let z : length c.args.images.now - c.loop-done.done ≡ 0 = omega arith in
    expand_end g.row.P c.args.images.now place history c.loop-done.weights c.loop-done.out.items
    (subst (λ k. Expanding g.row.P c.args.images.now place history c.loop-done.weights c.loop-done.out.items k) z (c.loop-done.invariant.expanding place history h))

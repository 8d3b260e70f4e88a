use Rattle.std.proofs.Common.{◌≡◌, ◌+◌, ◌-◌, ◌*◌, ◌^◌, arith, ◌∙◌, ap, min}
use Rattle.fp_field.proofs.ServedLemmas.{served_large}
use Rattle.table_reduction_law.specs.Names.{binomial, pair_count}
use Rattle.may_elements.{specs.Counted.cut_off, proofs.ElementLemmas.{cut-more, pair_count-half}}
use Rattle.may_elements.proofs.elements.MayTable.candidates.Goals as goal

pub loop-pair-preserved : goal.loop-pair-preserved
loop-pair-preserved g c =
    c.min-count.ensures
    ∙ ap (λ v. min (10 ^ 15) (c.loop-pair.count * v)) c.from.ensures
    ∙ cut-more g.row.P c.loop-pair._pair (binomial (g.row.P + c.args.d - 1) c.args.d) c.loop-pair.count (omega (arith, served_large g.row.P c.requires.prime)) c.loop-pair.invariant

pub returns : goal.returns
returns g c =
    let e : c.loop-pair._pair ≡ pair_count c.args.d = omega (arith, pair_count-half c.args.d) in
    c.loop-pair.invariant ∙ ap (λ k. cut_off (g.row.P ^ k * binomial (g.row.P + c.args.d - 1) c.args.d)) e

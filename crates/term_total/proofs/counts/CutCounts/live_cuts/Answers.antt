use Rattle.std.{proofs.Common.{◌≡◌, ◌∙◌}, specs.Result.is_ok}
use Rattle.may_elements.specs.Counted.{cut_off}
use Rattle.term_total.{specs.Names.live_total, proofs.CountLemmas.count-is, proofs.ReadyLemmas.counted-pushed}
use Rattle.term_total.proofs.counts.CutCounts.live_cuts.Goals as goal

pub invariant_of-self : goal.invariant_of-self
invariant_of-self g c =
    let p = g.row.P in
    let d = c.args.d in
    let q = c.args.q in
    let n = c.in_ok-count-in-Some-part.count in
    let e : n ≡ cut_off (live_total p d q) =
    c.in_ok-count-in-Some-part.ensures ∙ count-is p d q c.in-Some-part.part.now c.requires.prime c.requires.low c.requires.most c.weight-weight.ensures.sum c.in-Some-part.ensures.part in
    record { counted = counted-pushed p c.args.self.now.counts.items c.push.new.self.items (record { element = d; degree = q; count = n }) (is_ok c.push.result) c.args.self.now.counted e c.push.ensures.items }

pub returns : goal.returns
returns g c =
    c.in_ok-count-in-Some-part.ensures
    ∙ count-is g.row.P c.args.d c.args.q c.in-Some-part.part.now c.requires.prime c.requires.low c.requires.most c.weight-weight.ensures.sum c.in-Some-part.ensures.part

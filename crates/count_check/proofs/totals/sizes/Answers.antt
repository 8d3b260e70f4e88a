use Rattle.std.proofs.Common.{◌∙◌, ap, ap₂, length, map}
use Rattle.report.specs.declared.complex.DegreePart.{DegreePart}
use Rattle.report_law.specs.Names.{simplex_counts}
use Rattle.count_check.proofs.TotalLemmas.{ranks_are}
use Rattle.count_check.proofs.totals.sizes.Goals as goal

pub returns : goal.returns
returns c =
    let x = c.args.part.now in
    let indexed = c.requires.indexed in
    ap₂ (λ s r. record { simplices = s; ranks = r }) (c.from.ensures ∙ c.in_ok-simplices.ensures x.facets indexed.index indexed.ascending ∙ ap (simplex_counts x.facets) c.len.ensures)
    (c.from-2.ensures ∙ c.in_ok-ranks.ensures ∙ ap (map (λ (d : DegreePart). length d.classes)) c.as_slice.ensures ∙ ranks_are x.degrees)

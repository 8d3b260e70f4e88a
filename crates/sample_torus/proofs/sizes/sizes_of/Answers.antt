use Rattle.std.proofs.Common.{◌∙◌, List, ap, ap₂, length, map, subst, sym}
use Rattle.report.specs.declared.complex.DegreePart.{DegreePart}
use Rattle.report_law.specs.Names.{simplex_counts}
use Rattle.term_total.specs.Names.{IsPart}
use Rattle.sample_torus.proofs.SampleLemmas.{is_part, ranks_same}
use Rattle.sample_torus.proofs.sizes.sizes_of.Goals as goal

pub returns-clause-sizes : goal.returns-clause-sizes
returns-clause-sizes c =
    let x = c.args.part.now in
    let facets = c.args.complex.now in
    ap₂ (λ s r. record { simplices = s; ranks = r }) (c.from.ensures ∙ c.in_ok-simplex_numbers.ensures facets c.in_ok-index.ensures c.requires.ascending ∙ ap (λ (ds : List DegreePart). simplex_counts facets (length ds)) c.as_slice-degrees.ensures)
    (c.from-2.ensures ∙ c.in_ok-ranks.ensures ∙ ap (map (λ (d : DegreePart). length d.classes)) c.as_slice-degrees.ensures ∙ ranks_same x.degrees)

pub returns-clause-part : goal.returns-clause-part
returns-clause-part c = subst IsPart (sym (returns-clause-sizes c)) (is_part c.args.complex.now c.args.part.now c.requires.low)

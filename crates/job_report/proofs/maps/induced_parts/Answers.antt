use Rattle.std.proofs.Common.{◌∙◌, ℕ, List, ap, ap₂, arith, get_or, length}
use Rattle.report_law.specs.Names.{induced_degrees}
use Rattle.job_report.{specs.Parts.IsListedInduced, proofs.Zips.{all-items, zip-next}}
use Rattle.class_matrices.proofs.ListLemmas.{numbers-count}
use Rattle.job_report.proofs.maps.induced_parts.Goals as goal

pub live_degrees-requires : goal.live_degrees-requires
live_degrees-requires g c =
    let from = c.args.from.now in
    let e = ap (λ (rs : List ℕ). length rs) (c.deref.ensures.value ∙ c.in_ok-sources.ensures.ranks) ∙ numbers-count (λ n. length (g.B.Basis.classes from.basis n)) (length from.index) in
    let f = c.in_ok-sources.ensures.few in omega (arith, e, f)

pub loop-q-preserved : goal.loop-q-preserved
loop-q-preserved g c =
    let from = c.args.from.now in
    let to = c.args.to.now in
    zip-next (IsListedInduced {p = g.row.P} g.B.Basis.keeps (λ v. get_or c.args.map.now v 0) from.index to.index (g.B.Basis.classes from.basis) (g.B.Basis.classes to.basis)) c.as_slice-q-items.result.now c.loop-q.parts.items _
    c.loop-q.q-index _ _ c.loop-q-test.true c.loop-q.invariant c.in_ok-induced_part.ensures c.in_ok-push.ensures.items

pub returns : goal.returns
returns g c =
    let from = c.args.from.now in
    let to = c.args.to.now in
    all-items (IsListedInduced {p = g.row.P} g.B.Basis.keeps (λ v. get_or c.args.map.now v 0) from.index to.index (g.B.Basis.classes from.basis) (g.B.Basis.classes to.basis)) c.as_slice-q-items.result.now _ c.loop-q.parts.items _
    c.loop-q.q-index c.loop-q-test.false
    (c.as_slice-q-items.ensures.value ∙ c.in_ok-degrees.ensures ∙ ap₂ induced_degrees (c.deref.ensures.value ∙ c.in_ok-sources.ensures.ranks) (c.deref-2.ensures.value ∙ c.in_ok-targets.ensures.ranks))
    c.loop-q.invariant c.from.ensures

use Rattle.std.{proofs.Common.{◌≡◌, ℕ, List, [], arith, length, lit<, lit≤, rules, subst, sym}, specs.List.AllZip}
use Rattle.signed_sum.specs.Names.{numbers_from}
use Rattle.cohomology.specs.Names.{AreCanonicalIn}
use Rattle.report.specs.declared.complex.DegreePart.{DegreePart}
use Rattle.job_report.{specs.Parts.IsClassPart, proofs.Zips.counted-more}
use Rattle.job_report.proofs.bases.class_parts.Goals as goal

pub loop-n-init : goal.loop-n-init
loop-n-init g c = (search rules, c.in_ok-pivots.ensures.table g.row.P [])

pub classes_at-requires : goal.classes_at-requires
classes_at-requires g c = (lit< tt, (c.requires, (c.degrees-n-end.ensures.complex, (search rules, c.loop-n.invariant.1))))

pub class_part-requires : goal.class_part-requires
class_part-requires g c = (lit≤ tt, subst (λ (zs : List _). AreCanonicalIn g.row.P c.args.index.now c.loop-n.n zs) (sym c.deref.ensures.value) c.in_ok-classes.ensures.classes)

pub loop-n-preserved : goal.loop-n-preserved
loop-n-preserved g c = (
  counted-more (IsClassPart g.row.P c.args.index.now) c.loop-n.n c.loop-n.parts.items _ _ c.loop-n.invariant.0 c.in_ok-class_part.ensures c.in_ok-push.ensures.items,
  c.in_ok-classes.ensures.next,
)

pub returns : goal.returns
returns g c =
    let R = IsClassPart g.row.P c.args.index.now in
    let e : c.loop-n.n ≡ length c.args.index.now = omega arith in
    subst (λ (ds : List DegreePart). AllZip R (numbers_from 0 (length c.args.index.now)) ds) (sym c.from.ensures)
    (subst (λ (k : ℕ). AllZip R (numbers_from 0 k) c.loop-n.parts.items) e c.loop-n.invariant.0)

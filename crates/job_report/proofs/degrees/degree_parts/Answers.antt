use Rattle.std.{proofs.Common.{◌≡◌, ℕ, List, arith, length, subst, sym}, specs.List.AllZip}
use Rattle.signed_sum.specs.Names.{numbers_from}
use Rattle.report.specs.declared.complex.DegreePart.{DegreePart}
use Rattle.job_report.{specs.Parts.IsListedDegree, proofs.Zips.counted-more}
use Rattle.job_report.proofs.degrees.degree_parts.Goals as goal

pub loop-n-preserved : goal.loop-n-preserved
loop-n-preserved g c =
    counted-more (IsListedDegree {p = g.row.P} g.B.Basis.keeps c.args.index.now (g.B.Basis.classes c.args.basis.now)) c.loop-n.n c.loop-n.parts.items _ _ c.loop-n.invariant c.in_ok-degree_part.ensures c.in_ok-push.ensures.items

pub returns : goal.returns
returns g c =
    let R = IsListedDegree {p = g.row.P} g.B.Basis.keeps c.args.index.now (g.B.Basis.classes c.args.basis.now) in
    let e : c.loop-n.n ≡ length c.args.index.now = omega arith in
    subst (λ (ds : List DegreePart). AllZip R (numbers_from 0 (length c.args.index.now)) ds) (sym c.from.ensures)
    (subst (λ (k : ℕ). AllZip R (numbers_from 0 k) c.loop-n.parts.items) e c.loop-n.invariant)

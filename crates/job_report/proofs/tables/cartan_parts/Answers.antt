use Rattle.std.proofs.Common.{◌∙◌, ◌≤◌, ℕ, List, get_or, lit<, subst}
use Rattle.report_law.{specs.Names.lines, proofs.Names.of-lines}
use Rattle.job_report.{specs.Parts.IsListedLine, proofs.Zips.{all-items, zip-next}}
use Rattle.line_difference.proofs.PlanLemmas.{line-classes, line-low, line-stored}
use Rattle.class_matrices.proofs.{ClassLemmas.rank-at, ListLemmas.item-among}
use Rattle.job_report.proofs.tables.cartan_parts.Goals as goal

pub cartan_part-requires : goal.cartan_part-requires
cartan_part-requires g c =
    let p : ℕ = g.row.P in
    let ranks = c.args.ranks.now in
    let m = item-among c.as_slice-line-items.result.now (lines p ranks) c.loop-line.line-index _ c.loop-line-test.true (c.as_slice-line-items.ensures.value ∙ c.in_ok-live.ensures) in
    let live = of-lines p ranks _ m in
    let k = line-classes p ranks _ m in
    let rank = λ (i n : ℕ) (a : 1 ≤ i) (l : i ≤ get_or ranks n 0). rank-at p c.args.index.now (g.B.Basis.classes c.args.basis.now) (g.met.B.Basis.canonical c.args.index.now c.args.basis.now c.requires.of) i n a (subst (λ (rs : List ℕ). i ≤ get_or rs n 0) c.requires.ranks l) in (
      lit< tt,
      (
        lit< tt,
        (
          c.requires.prime,
          (
            c.requires.complex,
            (
              c.requires.of,
              (
                c.requires.matrices,
                (
                  line-low ranks c.requires.few p _ m,
                  (
                    live.0,
                    (
                      line-stored p c.args.table.now ranks c.requires.stored _ m,
                      ((k.first.0, rank _ _ k.first.0 k.first.1), (k.second.0, rank _ _ k.second.0 k.second.1)),
                    ),
                  ),
                ),
              ),
            ),
          ),
        ),
      ),
    )

pub loop-line-preserved : goal.loop-line-preserved
loop-line-preserved g c =
    zip-next (IsListedLine {p = g.row.P} g.B.Basis.keeps c.args.index.now (g.B.Basis.classes c.args.basis.now)) c.as_slice-line-items.result.now c.loop-line.parts.items _ c.loop-line.line-index _ _ c.loop-line-test.true
    c.loop-line.invariant c.in_ok-cartan_part.ensures c.in_ok-push.ensures.items

pub returns : goal.returns
returns g c =
    let p : ℕ = g.row.P in
    all-items (IsListedLine {p = p} g.B.Basis.keeps c.args.index.now (g.B.Basis.classes c.args.basis.now)) c.as_slice-line-items.result.now _ c.loop-line.parts.items _ c.loop-line.line-index c.loop-line-test.false
    (c.as_slice-line-items.ensures.value ∙ c.in_ok-live.ensures) c.loop-line.invariant c.from.ensures

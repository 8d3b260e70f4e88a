use Rattle.std.proofs.Common.{◌≡◌, ◌∙◌, ◌+◌, ℕ, ap, lit<, subst, sym}
use Rattle.report_law.specs.Names.{line_degree, cartan_op, target}
use Rattle.cartan_check.specs.Verdicts.{listed_answer}
use Rattle.job_report.{specs.Parts.{IsInsideVerdict, IsSameAnswer}, proofs.TableLemmas.{listed-line, verdict-fits}}
use Rattle.class_matrices.proofs.CoordinateLemmas.{target-is}
use Rattle.report.specs.declared.plan.Op.{Op}
use Rattle.job_report.proofs.tables.cartan_part.Goals as goal

pub answer_of-requires : goal.answer_of-requires
answer_of-requires g c =
    let p : ℕ = g.row.P in
    let levels = c.args.index.now in
    let classes = g.B.Basis.classes c.args.basis.now in
    let canonical = g.met.B.Basis.canonical levels c.args.basis.now c.requires.of in
    let is = c.requires.complex in
    let l = c.args.line in
    let e : c.in-Some.degree ≡ line_degree p l = target-is p (l.a + l.b) c.in-Some.degree (cartan_op p l.n) c.requires.defined (ap (λ (op : Op). target p op (l.a + l.b)) (sym c.cartan_op.ensures) ∙ sym c.target.ensures ∙ c.in-Some.is) in
    (lit< tt, λ t. subst (λ (m : ℕ). IsInsideVerdict {p = p} levels m c.in_ok-verdict.verdict) (sym e) (verdict-fits p g.B.Basis.keeps levels classes canonical l c.in_ok-verdict.verdict c.in_ok-verdict.ensures is.facets is.index t))

pub returns : goal.returns
returns g c =
    let p : ℕ = g.row.P in
    let levels = c.args.index.now in
    let l = c.args.line in
    let e : c.in-Some.degree ≡ line_degree p l = target-is p (l.a + l.b) c.in-Some.degree (cartan_op p l.n) c.requires.defined (ap (λ (op : Op). target p op (l.a + l.b)) (sym c.cartan_op.ensures) ∙ sym c.target.ensures ∙ c.in-Some.is) in
    listed-line p g.B.Basis.keeps levels (g.B.Basis.classes c.args.basis.now) (g.met.B.Basis.canonical levels c.args.basis.now c.requires.of) l c.in_ok-verdict.verdict c.in_ok-verdict.ensures c.in_ok-answer.answer
    (subst (λ (m : ℕ). IsSameAnswer g.B.Basis.keeps (listed_answer {p = p} levels m c.in_ok-verdict.verdict) c.in_ok-answer.answer) e c.in_ok-answer.ensures)

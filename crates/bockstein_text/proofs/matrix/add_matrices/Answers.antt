use Rattle.std.{proofs.Common.{◌≡◌, ℕ, arith, length, subst}, specs.List.filter}
use Rattle.signed_sum.specs.Names.{numbers_from}
use Rattle.bockstein_text.{specs.Names.{Adds, IsListed, is_live, matrix_text}, proofs.Added.{none_added, number_added}}
use Rattle.bockstein_text.proofs.matrix.add_matrices.Goals as goal

pub loop-q-init : goal.loop-q-init
loop-q-init g c = none_added matrix_text (IsListed {p = g.row.P} g.B.Basis.keeps c.args.index.now (g.B.Basis.classes c.args.basis.now)) c.args.text.now

pub loop-q-preserved : goal.loop-q-preserved
loop-q-preserved g c =
    number_added matrix_text (IsListed {p = g.row.P} g.B.Basis.keeps c.args.index.now (g.B.Basis.classes c.args.basis.now)) (is_live {p = g.row.P} (g.B.Basis.classes c.args.basis.now)) c.loop-q.q c.args.text.now c.loop-q.text
    c.add_matrix.new.text c.loop-q.invariant c.in_ok-add_matrix.ensures

pub returns : goal.returns
returns g c =
    let e : c.loop-q.q ≡ length c.args.index.now = omega arith in
    subst (λ (k : ℕ). Adds matrix_text (IsListed {p = g.row.P} g.B.Basis.keeps c.args.index.now (g.B.Basis.classes c.args.basis.now)) (filter (is_live {p = g.row.P} (g.B.Basis.classes c.args.basis.now)) (numbers_from 0 k)) c.args.text.now c.loop-q.text) e
    c.loop-q.invariant

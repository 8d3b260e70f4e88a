use Rattle.std.proofs.Common.{◌∙◌, ◌++◌, ap, length, lit<, sym}
use Rattle.linear_law.proofs.Names.{length_alike}
use Rattle.bockstein.specs.Matrices.{IsBocksteinColumn, values_of}
use Rattle.bockstein_text.{specs.Names.{IsListed, columns_text, is_live, matrix_text}, proofs.Added.{on_ok, test_fails}, proofs.Listed.matrix_added}
use Rattle.bockstein_text.proofs.matrix.add_matrix.Goals as goal

pub returns-then-not-is_live : goal.returns-then-not-is_live
returns-then-not-is_live g c =
    test_fails matrix_text (IsListed {p = g.row.P} g.B.Basis.keeps c.args.index.now (g.B.Basis.classes c.args.basis.now)) (is_live {p = g.row.P} (g.B.Basis.classes c.args.basis.now)) c.args.q c.args.text.now (sym c.is_live.ensures ∙ c.if-not-is_live.true)

pub add_columns-requires : goal.add_columns-requires
add_columns-requires g c = (
  lit< tt,
  ap length c.deref.ensures.value ∙ length_alike (IsBocksteinColumn {p = g.row.P} g.B.Basis.keeps c.args.index.now (g.B.Basis.classes c.args.basis.now) c.args.q) (g.B.Basis.classes c.args.basis.now c.args.q) c.in_ok-columns.columns.items c.in_ok-columns.ensures.each
      ∙ sym c.rank.ensures,
)

pub returns : goal.returns
returns g c =
    on_ok c.add_columns.result (λ e. matrix_added {p = g.row.P} g.B.Basis.keeps c.args.index.now (g.B.Basis.classes c.args.basis.now) c.args.q c.in_ok-columns.columns.items c.args.text.now c.add_heading.new.text _ (sym c.is_live.ensures ∙ c.if-not-is_live.false) c.in_ok-columns.ensures
    c.in_ok-add_heading.ensures (e ∙ ap (λ cs. c.add_heading.new.text ++ columns_text 1 (values_of {p = g.row.P} cs)) c.deref.ensures.value)) c.add_columns.ensures

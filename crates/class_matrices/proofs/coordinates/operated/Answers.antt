use Rattle.std.proofs.Common.{◌∙◌, ℕ, ap, sym}
use Rattle.linear_law.specs.Names.{copies}
use Rattle.class_matrices.proofs.CoordinateLemmas.{result-is}
use Rattle.class_matrices.proofs.coordinates.operated.Goals as goal

pub returns-clause-result : goal.returns-clause-result
returns-clause-result g c = λ facets levels z b on hz is.
    let p : ℕ = g.row.P in
    let of = c.args.of.now in
    result-is p c.requires.prime g.B.Basis.keeps facets levels (g.B.Basis.classes c.args.basis.now) c.args.matrices.now on of (record { degree = c.in-Some.to; values = c.in_ok-with_columns.field-0 }) c.args.op z b
    c.operation-columns.result.now c.in_ok-zeros.zeros.items c.deref.result.now c.new.result c.requires.defined (sym c.target.ensures ∙ c.in-Some.is) c.operation-columns.ensures
    (c.in_ok-zeros.ensures ∙ ap (λ (k : ℕ). copies k 0) c.rank.ensures) c.new.ensures c.deref.ensures.value c.in_ok-with_columns.ensures hz is

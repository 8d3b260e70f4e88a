use Rattle.std.proofs.Common.{refl, subst, sym}
use Rattle.report.specs.declared.plan.Op.{Op}
use Rattle.report_law.specs.Names.{IsOperation}
use Rattle.simplicial_law.specs.Names.{HasCoordinates}
use Rattle.cohomology.specs.Names.{cochains_at}
use Rattle.class_matrices.specs.Names.{IsSetting}
use Rattle.cartan_check.proofs.{ByMatrixLemmas.verdict-is, IdentityLemmas.identity-verdict}
use Rattle.cartan_check.proofs.by_matrices.cartan_by_matrices.Goals as goal

pub returns-then-is_identity : goal.returns-then-is_identity
returns-then-is_identity g c = λ levels of matrices.
    let both = c.is_identity.ensures.0 c.if-is_identity.true in
    record { listed = λ facets all is as_listed. identity-verdict g.row.P facets all c.args.line both.0 both.1; kept = refl }

pub returns : goal.returns
returns g c = λ levels of matrices.
    let p = g.row.P in
    let classes = g.B.Basis.classes c.args.basis.now in
    let product = c.in_ok-product.product in
    let rest = c.in_ok-rest.rest in
    record {
      listed = λ facets all is as_listed.
          let on : IsSetting {p = p} g.B.Basis.keeps facets levels classes c.args.matrices.now = record { index = is; canonical = g.met.B.Basis.canonical levels c.args.basis.now of; matrices = matrices } in
          verdict-is p c.requires.prime g.B.Basis.keeps facets levels classes c.args.matrices.now on all as_listed c.args.line c.requires.defined c.requires.first c.requires.second
          c.in_ok-x.x c.in_ok-y.y product c.in_ok-whole.whole rest c.verdict_of_values.result c.in_ok-x.ensures.degree c.in_ok-x.ensures.values c.in_ok-y.ensures.degree c.in_ok-y.ensures.values
          c.in_ok-product.ensures.degree (λ z w hz hw. c.in_ok-product.ensures.product facets levels z w on hz hw)
          (λ z b hz h. c.in_ok-whole.ensures.result facets levels z b on hz (subst (λ (op : Op). IsOperation facets p op product.degree z b) (sym c.cartan_op.ensures) h))
          c.in_ok-rest.ensures.degree (λ z w u hz hw hu. c.in_ok-rest.ensures.less facets levels z w u on hz hw hu)
          (λ d h. c.verdict_of_values.ensures.answer facets levels rest.degree (classes rest.degree) d c.rank.ensures
          (subst (λ (vs : _). HasCoordinates facets rest.degree p (cochains_at {p = p} levels rest.degree (classes rest.degree)) d vs) (sym c.deref.ensures.value) h));
      kept = c.verdict_of_values.ensures.kept;
    }

use Rattle.std.{proofs.Common.{◌-◌, ℕ, List, get_or, lit<, subst, sym, IsTrue}, specs.List.AllZip}
use Rattle.linear_law.specs.Names.{Each}
use Rattle.cohomology.specs.declared.basis.Column.{Column}
use Rattle.job_report.{specs.Listed.{IsInside, IsListedColumn}, proofs.TableLemmas.{induced-inside, listed-induced}}
use Rattle.job_report.proofs.maps.induced_part.Goals as goal

pub listed_columns-requires : goal.listed_columns-requires
listed_columns-requires g c =
    let p : ℕ = g.row.P in
    let from = c.args.from.now in
    let to = c.args.to.now in (
      lit< tt,
      subst (Each (λ (d : Column p). IsTrue g.B.Basis.keeps → IsInside {p = p} from.index (c.args.q - 1) d.primitive)) (sym c.deref.ensures.value)
          (induced-inside p g.B.Basis.keeps (λ v. get_or c.args.map.now v 0) from.index to.index (g.B.Basis.classes from.basis) (g.B.Basis.classes to.basis)
          (g.met.B.Basis.canonical from.index from.basis c.requires.source_of) (g.met.B.Basis.canonical to.index to.basis c.requires.target_of) c.requires.map.target c.requires.map.is_target
          c.args.q c.in_ok-columns.columns.items c.in_ok-columns.ensures c.requires.complex.facets c.requires.complex.index),
    )

pub returns : goal.returns
returns g c =
    let p : ℕ = g.row.P in
    let from = c.args.from.now in
    let to = c.args.to.now in
    listed-induced p g.B.Basis.keeps (λ v. get_or c.args.map.now v 0) from.index to.index (g.B.Basis.classes from.basis) (g.B.Basis.classes to.basis)
    (g.met.B.Basis.canonical from.index from.basis c.requires.source_of) (g.met.B.Basis.canonical to.index to.basis c.requires.target_of) c.requires.map.target c.requires.map.is_target
    c.args.q c.in_ok-columns.columns.items c.in_ok-columns.ensures c.in_ok-columns-2.columns
    (subst (λ (cs : List (Column p)). AllZip (IsListedColumn {p = p} g.B.Basis.keeps from.index c.args.q) cs c.in_ok-columns-2.columns) c.deref.ensures.value c.in_ok-columns-2.ensures)

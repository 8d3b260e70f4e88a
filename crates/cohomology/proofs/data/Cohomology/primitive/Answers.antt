use Rattle.std.proofs.Common.{List, ℕ, ◌==◌, ◌∙◌, sym, ap, subst}
use Rattle.cohomology.{proofs.Below.{list_all, false≢true, served_field}, specs.Names.{RefusesCoordinates, CoordinatesRefused}, proofs.CoordinateLemmas.{all_zero, coordinate_shows, open_shows, primitive_whole, zero_all}}
use Rattle.cohomology.proofs.data.Cohomology.primitive.Goals as goal

pub returns-in-Err-NotClosed : goal.returns-in-Err-NotClosed
returns-in-Err-NotClosed g c =
    open_shows g.row.P (served_field g.row.P c.requires.prime) c.args.index.now c.args.cochain.now.degree c.args.cochain.now.row c.in-Err-NotClosed.field-0-0 c.in-Err-NotClosed.field-0-1
    (subst (λ (r : CoordinatesRefused). RefusesCoordinates {p = g.row.P} c.args.index.now c.args.cochain.now r) c.in-Err-NotClosed.field-0-is c.in-Err-NotClosed.ensures)

pub returns-then-are_zero : goal.returns-then-are_zero
returns-then-are_zero g c =
    primitive_whole g.row.P c.args.index.now _ c.args.cochain.now c.in-Ok.found.values.items c.in-Ok.found.primitive
    (all_zero c.in-Ok.found.values.items (ap (λ (vs : List ℕ). list_all (λ v. v == 0) vs) (sym c.deref.ensures.value) ∙ sym c.are_zero.ensures ∙ c.if-are_zero.true)) c.in-Ok.ensures

pub returns-else-are_zero : goal.returns-else-are_zero
returns-else-are_zero g c =
    coordinate_shows g.row.P (served_field g.row.P c.requires.prime) c.args.index.now c.args.self.now c.args.cochain.now c.in-Ok.found.values.items c.in-Ok.found.primitive c.requires.data
    (λ zero. false≢true (sym c.if-are_zero.false ∙ c.are_zero.ensures ∙ ap (λ (vs : List ℕ). list_all (λ v. v == 0) vs) c.deref.ensures.value ∙ zero_all c.in-Ok.found.values.items zero)) c.in-Ok.ensures

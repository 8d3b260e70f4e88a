use Rattle.std.proofs.Common.{◌*◌, ◌-◌, ◌∙◌, ℕ, List, sym, pos, ◌*ℤ◌}
use Rattle.surjection_law.specs.Names.{caesura_count}
use Rattle.interval_cut_law.specs.Names.{operation_value}
use Rattle.steenrod_law.specs.Names.{copies}
use Rattle.may_steenrod.{specs.Elements.{AddsTo, tested_value}, specs.FaceSums.terms_in, proofs.ElementLemmas.{adds-form, adds-none, on_ok-map}}
use Rattle.may_steenrod.proofs.face_sum.FaceSum.add_term.Goals as goal

pub returns-then-has_form-clause-sum : goal.returns-then-has_form-clause-sum
returns-then-has_form-clause-sum g c =
    let p = g.row.P in
    let u = c.args.surjection.now in
    let old : List (ℕ × List (List ℕ)) = terms_in {p = p} c.args.self.now.faces.items c.args.self.now.terms.items in
    let new : List (ℕ × List (List ℕ)) = terms_in {p = p} c.add_surjection.new.self.faces.items c.add_surjection.new.self.terms.items in
    on_ok-map c.add_surjection.result (AddsTo p c.args.q (p * c.args.q - caesura_count u) old new (λ a s. pos c.args.coefficient *ℤ operation_value p u (copies p a) s))
    (AddsTo p c.args.q (p * c.args.q - c.args.d) old new (λ a s. pos c.args.coefficient *ℤ tested_value p c.args.d a s u))
    (adds-form p c.args.q c.args.d c.args.coefficient u old new c.as_slice-values.ensures.surjection (sym c.has_form.ensures.test ∙ c.if-has_form.true)) c.add_surjection.ensures.sum

pub returns-clause-sum : goal.returns-clause-sum
returns-clause-sum g c =
    adds-none g.row.P c.args.q (g.row.P * c.args.q - c.args.d) c.args.d c.args.coefficient c.args.surjection.now (terms_in {p = g.row.P} c.args.self.now.faces.items c.args.self.now.terms.items)
    (sym c.has_form.ensures.test ∙ c.if-has_form.false)

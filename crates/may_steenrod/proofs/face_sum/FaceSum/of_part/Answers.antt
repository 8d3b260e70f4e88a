use Rattle.std.proofs.{Common.{◌*◌, ◌-◌, ◌<◌, ◌≤◌, ℕ, List, arith, length, rules, subst, sym, ap, FitsSigned, w64, ℤ}, lemmas.Int.to_z-of_z}
use Rattle.fp_field.proofs.ServedLemmas.{served_large}
use Rattle.may_steenrod.{specs.declared.face_sum.Term.Term, specs.FaceSums.{AreNumbered, terms_in}, proofs.ElementLemmas.{coefficient, element-end, element-start, element-step}}
use Rattle.may_steenrod.proofs.face_sum.FaceSum.of_part.Goals as goal

pub loop-k-init : goal.loop-k-init
loop-k-init g c =
    let s = c.in_ok-sum.sum in (
      element-start g.row.P c.args.q (g.row.P * c.args.q - c.args.d) c.args.d c.args.part.now (terms_in {p = g.row.P} s.faces.items s.terms.items)
          (ap (λ (ts : List (Term g.row.P)). terms_in {p = g.row.P} s.faces.items ts) c.in_ok-sum.ensures.terms),
      subst (λ (ts : List (Term g.row.P)). AreNumbered {p = g.row.P} s.faces.items ts) (sym c.in_ok-sum.ensures.terms) tt,
      c.in_ok-sum.ensures.slots,
    )

pub loop-k-preserved : goal.loop-k-preserved
loop-k-preserved g c =
    let by : ℤ = c.term-by.result.1 in
    let fits : FitsSigned w64 by = search rules in
    let t : List ℕ × ℤ = (c.term-by.result.0.now, by) in
    let e = rw (to_z-of_z w64 by fits) at c.from_i64.ensures in
    let here : c.loop-k.k < length c.args.part.now = omega arith in (
      element-step g.row.P c.args.q (g.row.P * c.args.q - c.args.d) c.args.d c.loop-k.k c.from_i64.result c.args.part.now t (terms_in {p = g.row.P} c.loop-k.sum.faces.items c.loop-k.sum.terms.items)
          (terms_in {p = g.row.P} c.add_term.new.self.faces.items c.add_term.new.self.terms.items) here c.term-by.ensures (coefficient g.row.P c.from_i64.result by (served_large g.row.P c.requires.prime) e)
          c.loop-k.invariant.0 c.in_ok-add_term.ensures.sum,
      c.in_ok-add_term.ensures.numbered,
      c.in_ok-add_term.ensures.slots,
    )

pub returns-clause-sum : goal.returns-clause-sum
returns-clause-sum g c =
    let all : length c.args.part.now ≤ c.loop-k.k = omega arith in
    element-end g.row.P c.args.q c.args.d c.loop-k.k c.args.part.now (terms_in {p = g.row.P} c.loop-k.sum.faces.items c.loop-k.sum.terms.items) c.requires.prime c.requires.small c.requires.some all
    c.loop-k.invariant.0 c.requires.part

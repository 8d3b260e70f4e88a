use Rattle.std.{proofs.Common.{◌≡◌, ◌+◌, ◌-◌, ◌∙◌, ap, arith, false, true, get_or, subst, sym, ℕ, List, MatchOption}, proofs.lemmas.Grind.get_or_default_zero, specs.declared.option.Option.Option}
use Rattle.complex_index.specs.declared.indexed.Cochain.{Cochain}
use Rattle.cohomology.specs.Names.{IsPrimitiveOf, rest_in, IsCanonicalCycle}
use Rattle.report_law.specs.Names.{IsFirstValue}
use Rattle.cartan_check.proofs.{VerdictLemmas.{no-verdict, yes-verdict}, verdict_of_column.Goals.{in-Some-primitive+in_ok-cycle-in-Some-primitive, in-None}}
use Rattle.cartan_check.proofs.verdict_of_column.Goals as goal

pub returns-in_default : goal.returns-in_default
returns-in_default g c = λ levels of.
    let n : ℕ = c.args.n in
    yes-verdict g.row.P c.requires g.B.Basis.keeps levels n (g.B.Basis.classes c.args.basis.now n) (g.met.B.Basis.canonical levels c.args.basis.now of n) c.args.column
    (λ i l. ap (λ (xs : List ℕ). get_or xs i 0) (sym c.deref.ensures.value) ∙ c.in_default.ensures i (let r = c.rank.ensures in omega (arith, l, r)))

pub returns : goal.returns
returns g c = λ levels of.
    let p : ℕ = g.row.P in
    let n : ℕ = c.args.n in
    let classes : List (Cochain p) = g.B.Basis.classes c.args.basis.now n in
    let items : List ℕ = c.args.column.values.items in
    let first = subst (λ (xs : List ℕ). IsFirstValue xs c.in-Some.place (get_or xs c.in-Some.place 0)) c.deref.ensures.value c.in-Some.ensures.1 in
    let value : get_or items c.in-Some.place 0 ≡ c.index-value.result.now = sym (c.index-value.ensures ∙ get_or_default_zero items c.in-Some.place c.index-value.result.now first.inside) in
    no-verdict p c.requires g.B.Basis.keeps levels n classes (g.met.B.Basis.canonical levels c.args.basis.now of n) c.args.column c.in-Some.place c.index-value.result.now c.match-column.cycle
    (subst (λ (v : ℕ). IsFirstValue items c.in-Some.place v) value first) (let b = c.in-Some.ensures.0 in let r = c.rank.ensures in omega (arith, b, r))
    (λ z column.
    let P : Option (Cochain p) → Type 0 = λ o. MatchOption o (g.B.Basis.keeps ≡ false) (λ y. (g.B.Basis.keeps ≡ true) × IsCanonicalCycle p levels n classes c.in-Some.place y) in
    let Q : Option (Cochain p) → Type 0 = λ o. MatchOption o (g.B.Basis.keeps ≡ false) (λ y. (g.B.Basis.keeps ≡ true) × IsPrimitiveOf p levels z.degree (rest_in {p = p} levels classes items z) y) in
    elim c.match-column.branch [
      | in-Some-primitive+in_ok-cycle-in-Some-primitive w ↦
          let back : c.in-Some.place + 1 - 1 ≡ c.in-Some.place = omega arith in
          let cycle = subst (λ (k : ℕ). IsCanonicalCycle p levels n classes k w.in_ok-cycle-in-Some-primitive.field-0) back (w.in_ok-cycle-in-Some-primitive.ensures levels of) in
          let kept = subst Q w.in-Some-primitive.is column.primitive_of in
          subst P (sym w.cycle-is) (kept.0, cycle)
      | in-None w ↦ subst P (sym w.cycle-is) (subst Q w.in-None.is column.primitive_of)
    ])

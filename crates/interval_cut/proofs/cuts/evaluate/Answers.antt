use Rattle.std.proofs.{Common.{◌∙◌, List, ℕ, length, subst, sym, ℤ, pos}, lemmas.Bool.false≢true}
use Rattle.interval_cut.{specs.Names.{IsPartOfSum, CutWalk, signed_product}, proofs.EvaluationLemmas.{part_end, part_start, part_step, whole_sum}}
use Rattle.surjection_law.specs.Names.{arity}
use Rattle.interval_cut.proofs.cuts.evaluate.Goals as goal

pub loop-cuts-init : goal.loop-cuts-init
loop-cuts-init g c = part_start g.row.P c.new-sum.result _ c.args.cuts.now.values c.args.cuts.now.top c.restart.new.self c.restart.ensures c.new-sum.ensures

pub loop-cuts-preserved : goal.loop-cuts-preserved
loop-cuts-preserved g c =
    let term : List ℕ → List ℕ → ℤ = λ (u q : List ℕ). signed_product (arity u) c.args.mask (λ f. pos (g.V.Values.value_of c.args.alpha.now f)) (λ f. pos (g.V.Values.value_of c.args.gamma.now f)) u c.args.simplex.now q in
    let u : List ℕ = c.args.cuts.now.values in
    subst (λ (w : CutWalk). IsPartOfSum g.row.P (term u) u c.args.cuts.now.top c.add-sum.result w) (sym c.term.ensures.same)
    (part_step g.row.P c.loop-cuts.sum c.term.result c.add-sum.result term u c.args.cuts.now.top c.loop-cuts.cuts c.advance.new.self c.loop-cuts.invariant c.advance.ensures.walk
    (c.advance.ensures.moved.0 c.loop-cuts-test.true) c.term.ensures.value c.add-sum.ensures)

pub returns-clause-value : goal.returns-clause-value
returns-clause-value g c =
    let term : List ℕ → ℤ = signed_product (arity c.args.cuts.now.values) c.args.mask (λ f. pos (g.V.Values.value_of c.args.alpha.now f)) (λ f. pos (g.V.Values.value_of c.args.gamma.now f)) c.args.cuts.now.values c.args.simplex.now in
    whole_sum g.row.P c.loop-cuts.sum term c.args.cuts.now.values c.args.cuts.now.top (length c.args.simplex.now) c.requires.simplex
    (part_end g.row.P c.loop-cuts.sum term c.args.cuts.now.values c.args.cuts.now.top c.loop-cuts.cuts c.advance.new.self c.loop-cuts.invariant c.advance.ensures.walk
    (λ h. false≢true (sym c.loop-cuts-test.false ∙ c.advance.ensures.moved.1 h))).0

pub returns-clause-walk : goal.returns-clause-walk
returns-clause-walk g c =
    let term : List ℕ → ℤ = signed_product (arity c.args.cuts.now.values) c.args.mask (λ f. pos (g.V.Values.value_of c.args.alpha.now f)) (λ f. pos (g.V.Values.value_of c.args.gamma.now f)) c.args.cuts.now.values c.args.simplex.now in
    (part_end g.row.P c.loop-cuts.sum term c.args.cuts.now.values c.args.cuts.now.top c.loop-cuts.cuts c.advance.new.self c.loop-cuts.invariant c.advance.ensures.walk
    (λ h. false≢true (sym c.loop-cuts-test.false ∙ c.advance.ensures.moved.1 h))).1

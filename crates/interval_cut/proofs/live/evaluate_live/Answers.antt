use Rattle.std.proofs.{Common.{◌∙◌, List, ℕ, ap, length, subst, suc, sym, ℤ, pos}, lemmas.Bool.false≢true}
use Rattle.surjection_law.specs.Names.{arity}
use Rattle.interval_cut.{specs.Names.{IsPartOfSum, LiveWalk, live_top, signed_product, CutWalk, finish_of}, proofs.EvaluationLemmas.{part_end, part_step, whole_sum}, proofs.LiveValueLemmas.live_part-start}
use Rattle.interval_cut.proofs.live.evaluate_live.Goals as goal

pub loop-cuts-init : goal.loop-cuts-init
loop-cuts-init g c = (
  live_part-start g.row.P c.new-sum.result c.args.cuts.now.degree c.args.mask (g.V.Values.value_of c.args.alpha.now) (g.V.Values.value_of c.args.gamma.now) c.args.cuts.now.walk.values
      c.args.simplex.now c.restart.new.self c.restart.ensures c.new-sum.ensures
      (record { ascending = λ f n. g.met.V.Values.ascending c.args.alpha.now f n; long = λ f n. g.met.V.Values.long c.args.alpha.now f (λ e. n (e ∙ ap suc c.requires.alpha)) })
      (record { ascending = λ f n. g.met.V.Values.ascending c.args.gamma.now f n; long = λ f n. g.met.V.Values.long c.args.gamma.now f (λ e. n (e ∙ ap suc c.requires.gamma)) }),
  ap (λ (w : LiveWalk). w.degree) c.restart.ensures,
)

pub loop-cuts-preserved : goal.loop-cuts-preserved
loop-cuts-preserved g c =
    let term : List ℕ → List ℕ → ℤ = λ (u q : List ℕ). signed_product (arity u) c.args.mask (λ f. pos (g.V.Values.value_of c.args.alpha.now f)) (λ f. pos (g.V.Values.value_of c.args.gamma.now f)) u c.args.simplex.now q in
    let u : List ℕ = c.args.cuts.now.walk.values in
    let n : ℕ = live_top c.args.cuts.now.degree u in (
      subst (λ (w : LiveWalk). IsPartOfSum g.row.P (term u) u n c.add-sum.result w.walk) (sym c.term.ensures.same)
          (part_step g.row.P c.loop-cuts.sum c.term.result c.add-sum.result term u n c.loop-cuts.cuts.walk c.advance.new.self.walk c.loop-cuts.invariant.0
          (ap (λ (w : LiveWalk). w.walk) c.advance.ensures.walk) (c.advance.ensures.moved.0 c.loop-cuts-test.true) c.term.ensures.value c.add-sum.ensures),
      ap (λ (w : LiveWalk). w.degree) (c.term.ensures.same ∙ c.advance.ensures.walk) ∙ c.loop-cuts.invariant.1,
    )

pub returns-clause-value : goal.returns-clause-value
returns-clause-value g c =
    let u : List ℕ = c.args.cuts.now.walk.values in
    let n : ℕ = live_top c.args.cuts.now.degree u in
    let term : List ℕ → ℤ = signed_product (arity u) c.args.mask (λ f. pos (g.V.Values.value_of c.args.alpha.now f)) (λ f. pos (g.V.Values.value_of c.args.gamma.now f)) u c.args.simplex.now in
    whole_sum g.row.P c.loop-cuts.sum term u n (length c.args.simplex.now) c.requires.simplex
    (part_end g.row.P c.loop-cuts.sum term u n c.loop-cuts.cuts.walk c.advance.new.self.walk c.loop-cuts.invariant.0 (ap (λ (w : LiveWalk). w.walk) c.advance.ensures.walk)
    (λ h. false≢true (sym c.loop-cuts-test.false ∙ c.advance.ensures.moved.1 h))).0

pub returns-clause-walk : goal.returns-clause-walk
returns-clause-walk g c =
    let u : List ℕ = c.args.cuts.now.walk.values in
    let n : ℕ = live_top c.args.cuts.now.degree u in
    let term : List ℕ → ℤ = signed_product (arity u) c.args.mask (λ f. pos (g.V.Values.value_of c.args.alpha.now f)) (λ f. pos (g.V.Values.value_of c.args.gamma.now f)) u c.args.simplex.now in
    let walk : CutWalk → ℕ → LiveWalk = λ w q. record { degree = q; walk = w } in
    ap (λ (w : CutWalk). walk w c.advance.new.self.degree)
    (part_end g.row.P c.loop-cuts.sum term u n c.loop-cuts.cuts.walk c.advance.new.self.walk c.loop-cuts.invariant.0 (ap (λ (w : LiveWalk). w.walk) c.advance.ensures.walk)
    (λ h. false≢true (sym c.loop-cuts-test.false ∙ c.advance.ensures.moved.1 h))).1
    ∙ ap (walk (finish_of u n)) (ap (λ (w : LiveWalk). w.degree) c.advance.ensures.walk ∙ c.loop-cuts.invariant.1)

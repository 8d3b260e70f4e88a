use Rattle.std.proofs.Common.{◌≡◌, ◌+◌, ◌-◌, ◌∙◌, ℕ, arith, ap, sym, Vec, Global, [], ◌&&◌}
use Rattle.report_law.specs.Names.{cartan_op, is_defined}
use Rattle.term_total.proofs.{LiveLemmas.{fails, items-more, passes}, pairs.cartan_pairs.Goals.{then-are_defined+in_ok-push, else-are_defined}}
use Rattle.term_total.proofs.pairs.cartan_pairs.Goals as goal

pub loop-i-preserved : goal.loop-i-preserved
loop-i-preserved c =
    let i = c.loop-i.i in
    let g : ℕ → ℕ × ℕ = λ j. (j, c.args.n - j) in
    let T = λ (x : ℕ × ℕ). is_defined c.args.p c.args.a (cartan_op c.args.p x.0) && is_defined c.args.p c.args.b (cartan_op c.args.p x.1) in
    let e : i ≡ 0 + i = omega arith in
    let found = c.loop-i.found.items in
    elim c.if-are_defined.branch [
      | then-are_defined+in_ok-push w ↦
          items-more T g 0 i i [] found c.if-are_defined.found.items c.loop-i.invariant e
          (ap (λ (v : Vec (ℕ × ℕ) Global). v.items) w.found-is ∙ passes T (g i) found w.push.new.self.items (sym c.are_defined.ensures ∙ w.if-are_defined.true) w.in_ok-push.ensures.items)
      | else-are_defined w ↦
          items-more T g 0 i i [] found c.if-are_defined.found.items c.loop-i.invariant e
          (ap (λ (v : Vec (ℕ × ℕ) Global). v.items) w.found-is ∙ fails T (g i) found (sym c.are_defined.ensures ∙ w.if-are_defined.false))
    ]

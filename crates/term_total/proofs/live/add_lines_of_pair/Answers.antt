use Rattle.std.proofs.Common.{◌+◌, ◌≡◌, ◌∙◌, arith, ap, sym, Vec, Global}
use Rattle.term_total.{specs.Names.{is_live_line, line_of}, proofs.LiveLemmas.{fails, items-more, passes}, proofs.live.add_lines_of_pair.Goals.{then-is_live+in_ok-push, else-is_live}}
use Rattle.term_total.proofs.live.add_lines_of_pair.Goals as goal
use Rattle.report.specs.declared.plan.Line.{Line}

pub loop-n-preserved : goal.loop-n-preserved
loop-n-preserved c =
    let n = c.loop-n.n in
    let g = line_of c.args.a c.args.b c.args.i c.args.j in
    let T = is_live_line c.args.p c.args.ranks.now in
    let e : n ≡ 0 + n = omega arith in
    let found = c.loop-n.found.items in
    elim c.if-is_live.branch [
      | then-is_live+in_ok-push w ↦
          items-more T g 0 n n c.args.found.now.items found c.if-is_live.found.items c.loop-n.invariant e
          (ap (λ (v : Vec Line Global). v.items) w.found-is ∙ passes T (g n) found w.push.new.self.items (sym c.is_live.ensures ∙ w.if-is_live.true) w.in_ok-push.ensures.items)
      | else-is_live w ↦
          items-more T g 0 n n c.args.found.now.items found c.if-is_live.found.items c.loop-n.invariant e
          (ap (λ (v : Vec Line Global). v.items) w.found-is ∙ fails T (g n) found (sym c.is_live.ensures ∙ w.if-is_live.false))
    ]

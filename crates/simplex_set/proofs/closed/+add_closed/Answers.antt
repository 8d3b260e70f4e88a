use Rattle.std.proofs.Common.{◌≡◌, ◌∙◌, ◌<◌, ◌≤◌, length, arith, rules, sym, ap}
use Rattle.simplex_set.{specs.InOrder.in_order, proofs.AddingFaces.{adding_empty, adding_found, adding_face, adding_all, length_face, partly_start}, proofs.Ordered.{found_in_order, one_inserted}, proofs.closed.+add_closed.Goals.{then-is_empty-via-then-is_empty, then-is_empty-via-else-is_empty+then-contains}}
use Rattle.simplex_set.proofs.closed.+add_closed.Goals as goal

pub returns-then-is_empty : goal.returns-then-is_empty
returns-then-is_empty t c = elim c.then-is_empty.branch [
  | then-is_empty-via-then-is_empty w ↦
      let e : length c.vertices.result.now ≡ 0 = search rules in
      adding_empty (in_order c.args.set.now.keys) c.args.simplex c.requires (ap length (sym c.vertices.ensures) ∙ e)
  | then-is_empty-via-else-is_empty+then-contains w ↦ adding_found (in_order c.args.set.now.keys) c.args.simplex c.requires (found_in_order c.args.set.now.keys c.args.simplex (sym w.contains.ensures ∙ w.if-contains.true))
]

pub loop-at-init : goal.loop-at-init
loop-at-init t c = partly_start (in_order c.args.set.now.keys) c.args.simplex c.requires

pub add_closed-requires : goal.add_closed-requires
add_closed-requires t c =
    let h : c.loop-at.at < length c.args.simplex = omega (arith, ap length c.vertices.ensures, ap length c.vertices-at-end.ensures) in
    (omega (arith, length_face c.loop-at.at c.args.simplex h, ap length c.in_ok-face.ensures), c.loop-at.invariant.closed)

pub loop-at-preserved : goal.loop-at-preserved
loop-at-preserved t c =
    let h : c.loop-at.at < length c.args.simplex = omega (arith, ap length c.vertices.ensures, ap length c.vertices-at-end.ensures) in
    adding_face (in_order c.args.set.now.keys) c.args.simplex c.loop-at.at c.in_ok-face.face (in_order c.loop-at.set.keys) (in_order c.add_closed.new.set.keys) h c.in_ok-face.ensures c.loop-at.invariant c.in_ok-add_closed.ensures

pub returns : goal.returns
returns t c =
    let some : 0 < length c.vertices.result.now = search rules in
    let there : 0 < length c.args.simplex = omega (arith, ap length c.vertices.ensures) in
    let end : length c.args.simplex ≤ c.loop-at.at = omega (arith, ap length c.vertices-at-end.ensures) in
    adding_all (in_order c.args.set.now.keys) c.args.simplex c.loop-at.at (in_order c.loop-at.set.keys) (in_order c.insert.new.self.keys) c.requires there end c.loop-at.invariant
    (one_inserted c.loop-at.set.keys c.insert.new.self.keys c.args.simplex c.in_ok-insert.ensures.keys)

use Rattle.std.proofs.Common.{◌<◌, ◌≢◌, inl, inr, length, arith}
use Rattle.sparse_rows.proofs.MergeLemmas.{next_left, next_right, same}
use Rattle.sparse_rows.proofs.merging.next_position.Goals as goal

pub returns-then-j-right : goal.returns-then-j-right
returns-then-j-right g c =
    let b : c.args.i < length c.args.left.now = elim c.requires.some [ inl a ↦ a | inr a ↦ absurd (let e = c.if-j-right.true in omega arith) ] in
    next_left g.row.P c.args.left.now c.args.right.now c.args.i c.args.j c.index-left-i.result (0, 0) c.requires.left_row c.requires.right_row b (λ d. absurd (let e = c.if-j-right.true in omega arith))

pub returns-then-i-left : goal.returns-then-i-left
returns-then-i-left g c =
    let n : c.args.j ≢ length c.args.right.now = c.if-j-right.false in
    next_right g.row.P c.args.left.now c.args.right.now c.args.i c.args.j (0, 0) c.index-right-j.result c.requires.left_row c.requires.right_row (omega arith) (λ d. absurd (let e = c.if-i-left.true in omega arith))

pub returns-then-left-i : goal.returns-then-left-i
returns-then-left-i g c =
    let n : c.args.i ≢ length c.args.left.now = c.if-i-left.false in
    let b : c.args.i < length c.args.left.now = omega arith in
    next_left g.row.P c.args.left.now c.args.right.now c.args.i c.args.j c.index-left-i-then-left-i.result c.index-right-j-2.result c.requires.left_row c.requires.right_row b
    (λ d. let e = same c.args.left.now c.args.i c.index-left-i-2.result c.index-left-i-then-left-i.result b in omega arith)

pub returns-else-left-i : goal.returns-else-left-i
returns-else-left-i g c =
    let n : c.args.j ≢ length c.args.right.now = c.if-j-right.false in
    let b : c.args.j < length c.args.right.now = omega arith in
    next_right g.row.P c.args.left.now c.args.right.now c.args.i c.args.j c.index-left-i-2.result c.index-right-j-else-left-i.result c.requires.left_row c.requires.right_row b
    (λ d. let e = same c.args.right.now c.args.j c.index-right-j-2.result c.index-right-j-else-left-i.result b in omega arith)

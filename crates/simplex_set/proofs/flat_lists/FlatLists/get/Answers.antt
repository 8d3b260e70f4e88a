use Rattle.std.proofs.Common.{◌≤◌, ◌+◌, ◌*◌, arith, ap, length, rules}
use Rattle.simplex_set.proofs.InPieces.{piece_is, within_view}
use Rattle.simplex_set.proofs.flat_lists.FlatLists.get.Goals as goal

pub overflow_mul-start : goal.overflow_mul-start
overflow_mul-start c =
    omega (arith, within_view c.self.inside.size c.self.inside.count c.args.place c.self.inside.numbers.items c.args.self.now c.self.view_is c.self.invariant c.requires, c.self.inside.numbers.small)

pub overflow_add-result : goal.overflow_add-result
overflow_add-result c =
    omega (arith, within_view c.self.inside.size c.self.inside.count c.args.place c.self.inside.numbers.items c.args.self.now c.self.view_is c.self.invariant c.requires, c.deref.type_inv, ap length c.deref.ensures.value)

pub offset_bounds-deref-start : goal.offset_bounds-deref-start
offset_bounds-deref-start c =
    omega (arith, within_view c.self.inside.size c.self.inside.count c.args.place c.self.inside.numbers.items c.args.self.now c.self.view_is c.self.invariant c.requires, c.deref.type_inv, ap length c.deref.ensures.value)

pub slice_bounds-result-end : goal.slice_bounds-result-end
slice_bounds-result-end c =
    let w : c.args.place * c.self.inside.size + c.self.inside.size ≤ length c.deref.result.now =
    omega (arith, within_view c.self.inside.size c.self.inside.count c.args.place c.self.inside.numbers.items c.args.self.now c.self.view_is c.self.invariant c.requires, ap length c.deref.ensures.value) in
    search rules

pub returns : goal.returns
returns c = piece_is c.self.inside.size c.self.inside.count c.args.place c.self.inside.numbers.items c.deref.result.now c.args.self.now c.self.view_is c.deref.ensures.value c.requires

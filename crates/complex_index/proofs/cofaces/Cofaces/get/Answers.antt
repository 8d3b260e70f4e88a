use Rattle.std.proofs.Common.{◌≤◌, ◌<◌, ◌+◌, arith, ap, length, rules}
use Rattle.complex_index.proofs.Bounds.{bound_inside, bounds_here, part_here}
use Rattle.complex_index.proofs.cofaces.Cofaces.get.Goals as goal

pub index-requires : goal.index-requires
index-requires c = omega (arith, bound_inside c.self.inside.bounds.items c.self.inside.items.items c.args.self.now c.args.place c.self.view_is c.requires)

pub overflow_add-place : goal.overflow_add-place
overflow_add-place c = omega (arith, bound_inside c.self.inside.bounds.items c.self.inside.items.items c.args.self.now c.args.place c.self.view_is c.requires, c.self.inside.bounds.small)

pub index-requires-2 : goal.index-requires-2
index-requires-2 c = omega (arith, bound_inside c.self.inside.bounds.items c.self.inside.items.items c.args.self.now c.args.place c.self.view_is c.requires)

pub offset_bounds-deref-index : goal.offset_bounds-deref-index
offset_bounds-deref-index c =
    let h = bounds_here c.self.inside.bounds.items c.self.inside.items.items c.args.self.now c.args.place c.index.result.now c.index-2.result.now c.self.invariant c.self.view_is c.requires c.index.ensures c.index-2.ensures in
    omega (arith, h.0, h.1, c.deref.type_inv, ap length c.deref.ensures.value)

pub slice_bounds-result-count : goal.slice_bounds-result-count
slice_bounds-result-count c =
    (bounds_here c.self.inside.bounds.items c.self.inside.items.items c.args.self.now c.args.place c.index.result.now c.index-2.result.now c.self.invariant c.self.view_is c.requires c.index.ensures c.index-2.ensures).0

pub slice_bounds-result-start : goal.slice_bounds-result-start
slice_bounds-result-start c =
    let h : c.index.result.now ≤ c.index-2.result.now =
    (bounds_here c.self.inside.bounds.items c.self.inside.items.items c.args.self.now c.args.place c.index.result.now c.index-2.result.now c.self.invariant c.self.view_is c.requires c.index.ensures c.index-2.ensures).0 in
    search rules

pub slice_bounds-result-end : goal.slice_bounds-result-end
slice_bounds-result-end c =
    let h = bounds_here c.self.inside.bounds.items c.self.inside.items.items c.args.self.now c.args.place c.index.result.now c.index-2.result.now c.self.invariant c.self.view_is c.requires c.index.ensures c.index-2.ensures in
    let w : c.index-2.result.now ≤ length c.deref.result.now = omega (arith, h.1, ap length c.deref.ensures.value) in
    search rules

pub returns : goal.returns
returns c = part_here c.self.inside.bounds.items c.self.inside.items.items c.deref.result.now c.args.self.now c.args.place c.index.result.now c.index-2.result.now c.self.view_is c.deref.ensures.value c.requires c.index.ensures c.index-2.ensures

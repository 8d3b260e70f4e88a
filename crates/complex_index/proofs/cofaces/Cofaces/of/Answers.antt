use Rattle.std.proofs.Common.{◌∙◌, ap, arith, subst, List, length, take}
use Rattle.complex_index.{specs.Names.{Coface, lists_of}, proofs.Bounds.{AreParts, parts_more}, proofs.FacePlaces.lists_more}
use Rattle.complex_index.proofs.cofaces.Cofaces.of.Goals as goal

pub loop-list-preserved : goal.loop-list-preserved
loop-list-preserved c =
    subst (λ (ls : List (List Coface)). AreParts c.push-in-loop-list.new.self.items c.extend_from_slice.new.self.items ls)
    (lists_more c.args.lists.now c.loop-list.list-index c.list-item.result c.deref.result.now (omega arith) c.list-item.is c.deref.ensures.value)
    (parts_more c.loop-list.bounds.items c.push-in-loop-list.new.self.items c.len.result c.loop-list.items.items c.deref.result.now c.extend_from_slice.new.self.items (lists_of (take c.loop-list.list-index c.args.lists.now))
    c.loop-list.invariant c.in_ok-extend_from_slice.ensures.items (omega (arith, c.len.ensures)) c.in_ok-push-2.ensures.items)

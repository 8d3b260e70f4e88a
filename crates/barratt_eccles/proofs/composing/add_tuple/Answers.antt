use Rattle.std.proofs.{Common.{sym, ap, ◌∙◌, ◌≡◌, false, true, is_some, w64}, lemmas.Int.to_z-of_z}
use Rattle.table_reduction_law.specs.Names.{is_degenerate_tuple}
use Rattle.barratt_eccles.proofs.{PathLemmas.{AddsTuple-none, AddsTuple-term}, RefusalLemmas.degenerate-is}
use Rattle.barratt_eccles.proofs.composing.add_tuple.Goals as goal

pub returns-then-is_some : goal.returns-then-is_some
returns-then-is_some c =
    let gone : is_degenerate_tuple c.args.entries.items ≡ true =
    ap is_degenerate_tuple (sym c.as_slice.ensures.value) ∙ degenerate-is 0 c.as_slice.result.now ∙ ap is_some (sym c.equal_neighbours.ensures) ∙ sym c.is_some.ensures ∙ c.if-is_some.true in
    AddsTuple-none c.args.entries.items c.args.sign c.args.sum.now gone

pub from_entries-requires : goal.from_entries-requires
from_entries-requires c =
    c.requires.generator (ap is_degenerate_tuple (sym c.as_slice.ensures.value) ∙ degenerate-is 0 c.as_slice.result.now ∙ ap is_some (sym c.equal_neighbours.ensures) ∙ sym c.is_some.ensures ∙ c.if-is_some.false)

pub returns-in-Ok : goal.returns-in-Ok
returns-in-Ok c =
    let plain : is_degenerate_tuple c.args.entries.items ≡ false =
    ap is_degenerate_tuple (sym c.as_slice.ensures.value) ∙ degenerate-is 0 c.as_slice.result.now ∙ ap is_some (sym c.equal_neighbours.ensures) ∙ sym c.is_some.ensures ∙ c.if-is_some.false in
    rw (c.in-Ok.ensures.ok, to_z-of_z w64 c.args.sign c.ranges.sign, c.from_entries.ensures) (AddsTuple-term c.args.entries.items c.args.sign c.args.sum.now plain c.requires.small)

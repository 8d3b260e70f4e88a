use Rattle.std.proofs.Common.{sym, ap, ◌∙◌, ◌++◌, ◌∷◌, [], map}
use Rattle.signed_sum.specs.Names.{entry_at}
use Rattle.barratt_eccles.proofs.EntryLemmas.{entry-length, map-next}
use Rattle.barratt_eccles.proofs.symmetric.permuted_entries.Goals as goal

pub compose-requires : goal.compose-requires
compose-requires c = sym (entry-length _ c.args.entries.now c.loop-entry.entry-index c.entry-item.result c.requires c.entry-item.is c.loop-entry-test.true)

pub loop-entry-preserved : goal.loop-entry-preserved
loop-entry-preserved c =
    c.in_ok-push.ensures.items
    ∙ ap (λ x. c.loop-entry.moved.items ++ x ∷ []) c.in_ok-compose.ensures
    ∙ map-next (map (entry_at c.args.tau.now)) c.args.entries.now c.loop-entry.entry-index c.entry-item.result c.loop-entry.moved.items c.entry-item.is c.loop-entry-test.true c.loop-entry.invariant

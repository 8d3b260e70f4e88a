use Rattle.std.proofs.Common.{ℕ, ◌+◌, sym, ◌∙◌, ap₂, [], ◌∷◌, Ok, Err}
use Rattle.report_law.specs.Names.{induced_degrees}
use Rattle.certificate_law.specs.Names.{Asks, induced_stated, map_between, map_ends}
use Rattle.certificate_walk.proofs.Names.{walk_both, walk_passed, walk_stops, walk_tested}
use Rattle.count_check.proofs.ComplexWalks.{induced_in, map_opened, map_whole, ranks_in, room_map, walk_slice}
use Rattle.count_check.proofs.maps.map_count_fault.Goals as goal

pub returns-in_err-at : goal.returns-in_err-at
returns-in_err-at c = λ cs earlier p.
    walk_passed (Asks p 5) c.args.before (map_between c.args.from.now c.args.to.now cs earlier c.args.map.now) c.in_err-at.field-0.0 c.from_residual-in_err-at.result c.from_residual-in_err-at.ensures.1
    (map_opened p c.args.from.now c.args.to.now cs earlier c.args.map.now c.args.before c.len.result (Err c.in_err-at.field-0.0) c.len.ensures
    (walk_stops (Asks p 5) (c.args.before + 1 + c.len.result) (induced_in c.args.from.now c.args.to.now c.args.map.now) (map_ends c.args.from.now c.args.to.now c.args.map.now ∷ []) c.in_err-at.field-0.0
    (walk_slice (Asks p 5) (c.args.before + 1 + c.len.result) (induced_stated c.args.from.now c.args.to.now c.args.map.now) (Err c.in_err-at.field-0.0) c.as_slice-3.ensures (c.in_err-at.ensures c.args.from.now c.args.to.now c.args.map.now p ((ranks_in c.args.from.now c.in_ok-from.from.items c.as_slice.result.now c.as_slice.ensures c.in_ok-from.ensures) ∙ sym c.deref-3.ensures.value) ((ranks_in c.args.to.now c.in_ok-to.to.items c.as_slice-2.result.now c.as_slice-2.ensures c.in_ok-to.ensures) ∙ sym c.deref-4.ensures.value) ((ap₂ induced_degrees ((ranks_in c.args.from.now c.in_ok-from.from.items c.as_slice.result.now c.as_slice.ensures c.in_ok-from.ensures) ∙ sym c.deref.ensures.value) ((ranks_in c.args.to.now c.in_ok-to.to.items c.as_slice-2.result.now c.as_slice-2.ensures c.in_ok-to.ensures) ∙ sym c.deref-2.ensures.value) ∙ sym c.in_ok-live.ensures) ∙ sym c.deref-5.ensures.value)))))

pub ask-requires : goal.ask-requires
ask-requires c =
    let p : ℕ = 0 in
    room_map c.args.from.now c.args.to.now c.args.map.now c.args.before c.len.result c.in_ok-at.at c.len.ensures ((walk_slice (Asks p 5) (c.args.before + 1 + c.len.result) (induced_stated c.args.from.now c.args.to.now c.args.map.now) (Ok c.in_ok-at.at) c.as_slice-3.ensures (c.in_ok-at.ensures c.args.from.now c.args.to.now c.args.map.now p ((ranks_in c.args.from.now c.in_ok-from.from.items c.as_slice.result.now c.as_slice.ensures c.in_ok-from.ensures) ∙ sym c.deref-3.ensures.value) ((ranks_in c.args.to.now c.in_ok-to.to.items c.as_slice-2.result.now c.as_slice-2.ensures c.in_ok-to.ensures) ∙ sym c.deref-4.ensures.value) ((ap₂ induced_degrees ((ranks_in c.args.from.now c.in_ok-from.from.items c.as_slice.result.now c.as_slice.ensures c.in_ok-from.ensures) ∙ sym c.deref.ensures.value) ((ranks_in c.args.to.now c.in_ok-to.to.items c.as_slice-2.result.now c.as_slice-2.ensures c.in_ok-to.ensures) ∙ sym c.deref-2.ensures.value) ∙ sym c.in_ok-live.ensures) ∙ sym c.deref-5.ensures.value))).0) c.requires.room

pub returns : goal.returns
returns c = λ cs earlier p.
    map_opened p c.args.from.now c.args.to.now cs earlier c.args.map.now c.args.before c.len.result c.ask.result c.len.ensures
    (walk_both (Asks p 5) (c.args.before + 1 + c.len.result) (induced_in c.args.from.now c.args.to.now c.args.map.now) (map_ends c.args.from.now c.args.to.now c.args.map.now ∷ []) c.in_ok-at.at c.ask.result (walk_slice (Asks p 5) (c.args.before + 1 + c.len.result) (induced_stated c.args.from.now c.args.to.now c.args.map.now) (Ok c.in_ok-at.at) c.as_slice-3.ensures (c.in_ok-at.ensures c.args.from.now c.args.to.now c.args.map.now p ((ranks_in c.args.from.now c.in_ok-from.from.items c.as_slice.result.now c.as_slice.ensures c.in_ok-from.ensures) ∙ sym c.deref-3.ensures.value) ((ranks_in c.args.to.now c.in_ok-to.to.items c.as_slice-2.result.now c.as_slice-2.ensures c.in_ok-to.ensures) ∙ sym c.deref-4.ensures.value) ((ap₂ induced_degrees ((ranks_in c.args.from.now c.in_ok-from.from.items c.as_slice.result.now c.as_slice.ensures c.in_ok-from.ensures) ∙ sym c.deref.ensures.value) ((ranks_in c.args.to.now c.in_ok-to.to.items c.as_slice-2.result.now c.as_slice-2.ensures c.in_ok-to.ensures) ∙ sym c.deref-2.ensures.value) ∙ sym c.in_ok-live.ensures) ∙ sym c.deref-5.ensures.value)))
    (walk_tested (Asks p 5) c.in_ok-at.at (map_ends c.args.from.now c.args.to.now c.args.map.now) c.has_all.result c.ask.result
    (map_whole c.args.from.now c.args.to.now c.args.map.now c.deref-6.result.now c.deref-7.result.now c.as_slice-4.result.now c.has_all.result ((ap₂ induced_degrees ((ranks_in c.args.from.now c.in_ok-from.from.items c.as_slice.result.now c.as_slice.ensures c.in_ok-from.ensures) ∙ sym c.deref.ensures.value) ((ranks_in c.args.to.now c.in_ok-to.to.items c.as_slice-2.result.now c.as_slice-2.ensures c.in_ok-to.ensures) ∙ sym c.deref-2.ensures.value) ∙ sym c.in_ok-live.ensures) ∙ sym c.deref-6.ensures.value) ((ranks_in c.args.to.now c.in_ok-to.to.items c.as_slice-2.result.now c.as_slice-2.ensures c.in_ok-to.ensures) ∙ sym c.deref-7.ensures.value) c.as_slice-4.ensures c.has_all.ensures)
    c.ask.ensures))

use Rattle.std.proofs.Common.{◌+◌, ◌^◌, ◌<◌, sym, ◌∙◌, ap, subst, arith, List, [], ◌∷◌, ◌++◌, flat_map, length, sum_by, Ok, Err}
use Rattle.report.specs.declared.columns.{CartanPart.CartanPart, OperationPart.OperationPart, ProductPart.ProductPart}
use Rattle.certificate_law.specs.Names.{Asks, cartan_stated, complex_ends, complex_stated, degree_stated, operation_stated, product_stated}
use Rattle.certificate_walk.{specs.Names.{operation_lines, product_lines}, proofs.Names.{walk_both, walk_passed, walk_stops, walk_tested}}
use Rattle.count_check.{specs.Columns.AreFew, specs.LineGroups.group_lines, proofs.ComplexWalks.{behind_products, cartans_in, degrees_in, few_classes, few_small, live_of, on_ok, opened, operations_in, products_in, room_cartans, room_end, room_operations, room_products, walk_slice, whole_of}}
use Rattle.count_check.proofs.complexes.count_fault.Goals as goal

pub returns-in_err-at-clause-walk : goal.returns-in_err-at-clause-walk
returns-in_err-at-clause-walk c = λ earlier.
    walk_passed (Asks c.args.p 5) c.args.before (complex_stated earlier c.args.part.now) c.in_err-at.field-0.0 c.from_residual.result c.from_residual.ensures.1
    (opened c.args.p earlier c.args.part.now c.args.before c.len.result (Err c.in_err-at.field-0.0) c.len.ensures
    (walk_stops (Asks c.args.p 5) (c.args.before + 1 + c.len.result) (degrees_in c.args.part.now) (products_in c.args.part.now ++ behind_products c.args.part.now) c.in_err-at.field-0.0 (walk_slice (Asks c.args.p 5) (c.args.before + 1 + c.len.result) (degree_stated c.args.part.now) (Err c.in_err-at.field-0.0) c.as_slice.ensures (c.in_err-at.ensures c.args.part.now c.args.p c.requires.indexed (sym c.as_slice.ensures)))))

pub ranks-requires : goal.ranks-requires
ranks-requires c = subst AreFew (sym c.as_slice-2.ensures) (few_classes c.args.p c.args.part.now 0 c.args.part.now.degrees c.requires.few ((walk_slice (Asks c.args.p 5) (c.args.before + 1 + c.len.result) (degree_stated c.args.part.now) (Ok c.in_ok-at.at) c.as_slice.ensures (c.in_ok-at.ensures c.args.part.now c.args.p c.requires.indexed (sym c.as_slice.ensures))).1))

pub of-requires-clause-small : goal.of-requires-clause-small
of-requires-clause-small c = few_small c.as_slice-2.result.now c.in_ok-ranks.field-0.items c.in_ok-ranks.ensures (subst AreFew (sym c.as_slice-2.ensures) (few_classes c.args.p c.args.part.now 0 c.args.part.now.degrees c.requires.few ((walk_slice (Asks c.args.p 5) (c.args.before + 1 + c.len.result) (degree_stated c.args.part.now) (Ok c.in_ok-at.at) c.as_slice.ensures (c.in_ok-at.ensures c.args.part.now c.args.p c.requires.indexed (sym c.as_slice.ensures))).1)))

pub products-requires-clause-room : goal.products-requires-clause-room
products-requires-clause-room c = subst (λ (xs : List ProductPart). c.in_ok-at.at + sum_by product_lines xs < 2 ^ 64) (sym c.as_slice-3.ensures) (room_products c.args.part.now c.args.before c.len.result c.in_ok-at.at c.len.ensures ((walk_slice (Asks c.args.p 5) (c.args.before + 1 + c.len.result) (degree_stated c.args.part.now) (Ok c.in_ok-at.at) c.as_slice.ensures (c.in_ok-at.ensures c.args.part.now c.args.p c.requires.indexed (sym c.as_slice.ensures))).0) c.requires.room)

pub returns-in_err-at-2-clause-walk : goal.returns-in_err-at-2-clause-walk
returns-in_err-at-2-clause-walk c = λ earlier.
    let live = (live_of c.args.p c.args.part.now c.in_ok-ranks.field-0.items c.as_slice-2.result.now c.in_ok-live.live c.as_slice-2.ensures c.in_ok-ranks.ensures c.in_ok-live.ensures) in
    walk_passed (Asks c.args.p 5) c.args.before (complex_stated earlier c.args.part.now) c.in_err-at-2.field-0.0 c.from_residual-in_err-at-2.result c.from_residual-in_err-at-2.ensures.1
    (opened c.args.p earlier c.args.part.now c.args.before c.len.result (Err c.in_err-at-2.field-0.0) c.len.ensures
    (walk_both (Asks c.args.p 5) (c.args.before + 1 + c.len.result) (degrees_in c.args.part.now) (products_in c.args.part.now ++ behind_products c.args.part.now) c.in_ok-at.at (Err c.in_err-at-2.field-0.0)
    (walk_slice (Asks c.args.p 5) (c.args.before + 1 + c.len.result) (degree_stated c.args.part.now) (Ok c.in_ok-at.at) c.as_slice.ensures (c.in_ok-at.ensures c.args.part.now c.args.p c.requires.indexed (sym c.as_slice.ensures)))
    (walk_stops (Asks c.args.p 5) c.in_ok-at.at (products_in c.args.part.now) (behind_products c.args.part.now) c.in_err-at-2.field-0.0 (walk_slice (Asks c.args.p 5) c.in_ok-at.at (product_stated c.args.part.now) (Err c.in_err-at-2.field-0.0) c.as_slice-3.ensures (c.in_err-at-2.ensures c.args.part.now c.args.p (sym live.ranks_are ∙ sym c.deref.ensures.value) (sym live.products_are ∙ sym c.deref-2.ensures.value))))))

pub operations-requires : goal.operations-requires
operations-requires c = let live = (live_of c.args.p c.args.part.now c.in_ok-ranks.field-0.items c.as_slice-2.result.now c.in_ok-live.live c.as_slice-2.ensures c.in_ok-ranks.ensures c.in_ok-live.ensures) in
    record { room = subst (λ (xs : List OperationPart). c.in_ok-at-2.at + sum_by operation_lines xs < 2 ^ 64) (sym c.as_slice-4.ensures) (room_operations c.args.part.now c.args.before c.len.result c.in_ok-at.at c.in_ok-at-2.at c.len.ensures ((walk_slice (Asks c.args.p 5) (c.args.before + 1 + c.len.result) (degree_stated c.args.part.now) (Ok c.in_ok-at.at) c.as_slice.ensures (c.in_ok-at.ensures c.args.part.now c.args.p c.requires.indexed (sym c.as_slice.ensures))).0) ((walk_slice (Asks c.args.p 5) c.in_ok-at.at (product_stated c.args.part.now) (Ok c.in_ok-at-2.at) c.as_slice-3.ensures (c.in_ok-at-2.ensures c.args.part.now c.args.p (sym live.ranks_are ∙ sym c.deref.ensures.value) (sym live.products_are ∙ sym c.deref-2.ensures.value))).0) c.requires.room) }

pub returns-in_err-at-3-clause-walk : goal.returns-in_err-at-3-clause-walk
returns-in_err-at-3-clause-walk c = λ earlier.
    let live = (live_of c.args.p c.args.part.now c.in_ok-ranks.field-0.items c.as_slice-2.result.now c.in_ok-live.live c.as_slice-2.ensures c.in_ok-ranks.ensures c.in_ok-live.ensures) in
    walk_passed (Asks c.args.p 5) c.args.before (complex_stated earlier c.args.part.now) c.in_err-at-3.field-0.0 c.from_residual-in_err-at-3.result c.from_residual-in_err-at-3.ensures.1
    (opened c.args.p earlier c.args.part.now c.args.before c.len.result (Err c.in_err-at-3.field-0.0) c.len.ensures
    (walk_both (Asks c.args.p 5) (c.args.before + 1 + c.len.result) (degrees_in c.args.part.now) (products_in c.args.part.now ++ behind_products c.args.part.now) c.in_ok-at.at (Err c.in_err-at-3.field-0.0)
    (walk_slice (Asks c.args.p 5) (c.args.before + 1 + c.len.result) (degree_stated c.args.part.now) (Ok c.in_ok-at.at) c.as_slice.ensures (c.in_ok-at.ensures c.args.part.now c.args.p c.requires.indexed (sym c.as_slice.ensures)))
    (walk_both (Asks c.args.p 5) c.in_ok-at.at (products_in c.args.part.now) (behind_products c.args.part.now) c.in_ok-at-2.at (Err c.in_err-at-3.field-0.0)
    (walk_slice (Asks c.args.p 5) c.in_ok-at.at (product_stated c.args.part.now) (Ok c.in_ok-at-2.at) c.as_slice-3.ensures (c.in_ok-at-2.ensures c.args.part.now c.args.p (sym live.ranks_are ∙ sym c.deref.ensures.value) (sym live.products_are ∙ sym c.deref-2.ensures.value)))
    (walk_stops (Asks c.args.p 5) c.in_ok-at-2.at (operations_in c.args.part.now) (cartans_in c.args.part.now ++ complex_ends c.args.part.now ∷ []) c.in_err-at-3.field-0.0 (walk_slice (Asks c.args.p 5) c.in_ok-at-2.at (operation_stated c.args.part.now) (Err c.in_err-at-3.field-0.0) c.as_slice-4.ensures (c.in_err-at-3.ensures c.args.part.now c.args.p (sym live.ranks_are ∙ sym c.deref-3.ensures.value) (sym live.blocks_are ∙ sym c.deref-4.ensures.value)))))))

pub cartans-requires-clause-room : goal.cartans-requires-clause-room
cartans-requires-clause-room c = let live = (live_of c.args.p c.args.part.now c.in_ok-ranks.field-0.items c.as_slice-2.result.now c.in_ok-live.live c.as_slice-2.ensures c.in_ok-ranks.ensures c.in_ok-live.ensures) in
    let room = (room_cartans c.args.part.now c.args.before c.len.result c.in_ok-at.at c.in_ok-at-2.at c.in_ok-at-3.at c.len.ensures ((walk_slice (Asks c.args.p 5) (c.args.before + 1 + c.len.result) (degree_stated c.args.part.now) (Ok c.in_ok-at.at) c.as_slice.ensures (c.in_ok-at.ensures c.args.part.now c.args.p c.requires.indexed (sym c.as_slice.ensures))).0) ((walk_slice (Asks c.args.p 5) c.in_ok-at.at (product_stated c.args.part.now) (Ok c.in_ok-at-2.at) c.as_slice-3.ensures (c.in_ok-at-2.ensures c.args.part.now c.args.p (sym live.ranks_are ∙ sym c.deref.ensures.value) (sym live.products_are ∙ sym c.deref-2.ensures.value))).0) ((walk_slice (Asks c.args.p 5) c.in_ok-at-2.at (operation_stated c.args.part.now) (Ok c.in_ok-at-3.at) c.as_slice-4.ensures (c.in_ok-at-3.ensures c.args.part.now c.args.p (sym live.ranks_are ∙ sym c.deref-3.ensures.value) (sym live.blocks_are ∙ sym c.deref-4.ensures.value))).0) c.requires.room) in
    let e = ap (λ (xs : List CartanPart). length xs) c.as_slice-5.ensures in
    omega (arith, room, e)

pub returns-in_err-at-4-clause-walk : goal.returns-in_err-at-4-clause-walk
returns-in_err-at-4-clause-walk c = λ earlier.
    let live = (live_of c.args.p c.args.part.now c.in_ok-ranks.field-0.items c.as_slice-2.result.now c.in_ok-live.live c.as_slice-2.ensures c.in_ok-ranks.ensures c.in_ok-live.ensures) in
    walk_passed (Asks c.args.p 5) c.args.before (complex_stated earlier c.args.part.now) c.in_err-at-4.field-0.0 c.from_residual-in_err-at-4.result c.from_residual-in_err-at-4.ensures.1
    (opened c.args.p earlier c.args.part.now c.args.before c.len.result (Err c.in_err-at-4.field-0.0) c.len.ensures
    (walk_both (Asks c.args.p 5) (c.args.before + 1 + c.len.result) (degrees_in c.args.part.now) (products_in c.args.part.now ++ behind_products c.args.part.now) c.in_ok-at.at (Err c.in_err-at-4.field-0.0)
    (walk_slice (Asks c.args.p 5) (c.args.before + 1 + c.len.result) (degree_stated c.args.part.now) (Ok c.in_ok-at.at) c.as_slice.ensures (c.in_ok-at.ensures c.args.part.now c.args.p c.requires.indexed (sym c.as_slice.ensures)))
    (walk_both (Asks c.args.p 5) c.in_ok-at.at (products_in c.args.part.now) (behind_products c.args.part.now) c.in_ok-at-2.at (Err c.in_err-at-4.field-0.0)
    (walk_slice (Asks c.args.p 5) c.in_ok-at.at (product_stated c.args.part.now) (Ok c.in_ok-at-2.at) c.as_slice-3.ensures (c.in_ok-at-2.ensures c.args.part.now c.args.p (sym live.ranks_are ∙ sym c.deref.ensures.value) (sym live.products_are ∙ sym c.deref-2.ensures.value)))
    (walk_both (Asks c.args.p 5) c.in_ok-at-2.at (operations_in c.args.part.now) (cartans_in c.args.part.now ++ complex_ends c.args.part.now ∷ []) c.in_ok-at-3.at (Err c.in_err-at-4.field-0.0)
    (walk_slice (Asks c.args.p 5) c.in_ok-at-2.at (operation_stated c.args.part.now) (Ok c.in_ok-at-3.at) c.as_slice-4.ensures (c.in_ok-at-3.ensures c.args.part.now c.args.p (sym live.ranks_are ∙ sym c.deref-3.ensures.value) (sym live.blocks_are ∙ sym c.deref-4.ensures.value)))
    (walk_stops (Asks c.args.p 5) c.in_ok-at-3.at (cartans_in c.args.part.now) (complex_ends c.args.part.now ∷ []) c.in_err-at-4.field-0.0 (walk_slice (Asks c.args.p 5) c.in_ok-at-3.at (cartan_stated c.args.part.now) (Err c.in_err-at-4.field-0.0) c.as_slice-5.ensures (c.in_err-at-4.ensures c.args.part.now c.args.p (sym live.lines_are ∙ ap (flat_map group_lines) (sym c.deref-5.ensures.value)))))))))

pub ask-requires : goal.ask-requires
ask-requires c = let live = (live_of c.args.p c.args.part.now c.in_ok-ranks.field-0.items c.as_slice-2.result.now c.in_ok-live.live c.as_slice-2.ensures c.in_ok-ranks.ensures c.in_ok-live.ensures) in
    room_end c.args.part.now c.in_ok-at-3.at c.in_ok-at-4.at (room_cartans c.args.part.now c.args.before c.len.result c.in_ok-at.at c.in_ok-at-2.at c.in_ok-at-3.at c.len.ensures ((walk_slice (Asks c.args.p 5) (c.args.before + 1 + c.len.result) (degree_stated c.args.part.now) (Ok c.in_ok-at.at) c.as_slice.ensures (c.in_ok-at.ensures c.args.part.now c.args.p c.requires.indexed (sym c.as_slice.ensures))).0) ((walk_slice (Asks c.args.p 5) c.in_ok-at.at (product_stated c.args.part.now) (Ok c.in_ok-at-2.at) c.as_slice-3.ensures (c.in_ok-at-2.ensures c.args.part.now c.args.p (sym live.ranks_are ∙ sym c.deref.ensures.value) (sym live.products_are ∙ sym c.deref-2.ensures.value))).0) ((walk_slice (Asks c.args.p 5) c.in_ok-at-2.at (operation_stated c.args.part.now) (Ok c.in_ok-at-3.at) c.as_slice-4.ensures (c.in_ok-at-3.ensures c.args.part.now c.args.p (sym live.ranks_are ∙ sym c.deref-3.ensures.value) (sym live.blocks_are ∙ sym c.deref-4.ensures.value))).0) c.requires.room) ((walk_slice (Asks c.args.p 5) c.in_ok-at-3.at (cartan_stated c.args.part.now) (Ok c.in_ok-at-4.at) c.as_slice-5.ensures (c.in_ok-at-4.ensures c.args.part.now c.args.p (sym live.lines_are ∙ ap (flat_map group_lines) (sym c.deref-5.ensures.value)))).0)

pub returns-clause-few : goal.returns-clause-few
returns-clause-few c = on_ok c.ask.result (AreFew c.args.part.now.degrees) (few_classes c.args.p c.args.part.now 0 c.args.part.now.degrees c.requires.few ((walk_slice (Asks c.args.p 5) (c.args.before + 1 + c.len.result) (degree_stated c.args.part.now) (Ok c.in_ok-at.at) c.as_slice.ensures (c.in_ok-at.ensures c.args.part.now c.args.p c.requires.indexed (sym c.as_slice.ensures))).1))

pub returns-clause-walk : goal.returns-clause-walk
returns-clause-walk c = λ earlier.
    let live = (live_of c.args.p c.args.part.now c.in_ok-ranks.field-0.items c.as_slice-2.result.now c.in_ok-live.live c.as_slice-2.ensures c.in_ok-ranks.ensures c.in_ok-live.ensures) in
    opened c.args.p earlier c.args.part.now c.args.before c.len.result c.ask.result c.len.ensures
    (walk_both (Asks c.args.p 5) (c.args.before + 1 + c.len.result) (degrees_in c.args.part.now) (products_in c.args.part.now ++ behind_products c.args.part.now) c.in_ok-at.at (c.ask.result)
    (walk_slice (Asks c.args.p 5) (c.args.before + 1 + c.len.result) (degree_stated c.args.part.now) (Ok c.in_ok-at.at) c.as_slice.ensures (c.in_ok-at.ensures c.args.part.now c.args.p c.requires.indexed (sym c.as_slice.ensures)))
    (walk_both (Asks c.args.p 5) c.in_ok-at.at (products_in c.args.part.now) (behind_products c.args.part.now) c.in_ok-at-2.at (c.ask.result)
    (walk_slice (Asks c.args.p 5) c.in_ok-at.at (product_stated c.args.part.now) (Ok c.in_ok-at-2.at) c.as_slice-3.ensures (c.in_ok-at-2.ensures c.args.part.now c.args.p (sym live.ranks_are ∙ sym c.deref.ensures.value) (sym live.products_are ∙ sym c.deref-2.ensures.value)))
    (walk_both (Asks c.args.p 5) c.in_ok-at-2.at (operations_in c.args.part.now) (cartans_in c.args.part.now ++ complex_ends c.args.part.now ∷ []) c.in_ok-at-3.at (c.ask.result)
    (walk_slice (Asks c.args.p 5) c.in_ok-at-2.at (operation_stated c.args.part.now) (Ok c.in_ok-at-3.at) c.as_slice-4.ensures (c.in_ok-at-3.ensures c.args.part.now c.args.p (sym live.ranks_are ∙ sym c.deref-3.ensures.value) (sym live.blocks_are ∙ sym c.deref-4.ensures.value)))
    (walk_both (Asks c.args.p 5) c.in_ok-at-3.at (cartans_in c.args.part.now) (complex_ends c.args.part.now ∷ []) c.in_ok-at-4.at (c.ask.result)
    (walk_slice (Asks c.args.p 5) c.in_ok-at-3.at (cartan_stated c.args.part.now) (Ok c.in_ok-at-4.at) c.as_slice-5.ensures (c.in_ok-at-4.ensures c.args.part.now c.args.p (sym live.lines_are ∙ ap (flat_map group_lines) (sym c.deref-5.ensures.value))))
    (walk_tested (Asks c.args.p 5) c.in_ok-at-4.at (complex_ends c.args.part.now) c.has_all.result c.ask.result (whole_of c.args.p c.args.part.now c.in_ok-live.live c.has_all.result live c.has_all.ensures) c.ask.ensures)))))

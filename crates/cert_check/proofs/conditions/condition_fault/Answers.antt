use Rattle.std.{proofs.Common.{◌≡◌, ℕ, ◌+◌, ◌++◌, lit<, sym, ap, subst, refl, arith, List, [], ◌∷◌, Ok, Err, sum_by}, specs.List.AllZip}
use Rattle.linear_law.specs.Names.{Each}
use Rattle.report.specs.declared.{complex.ComplexPart.ComplexPart, map.MapPart.MapPart}
use Rattle.report_law.specs.Names.{ranks_of}
use Rattle.certificate_law.specs.Names.{Asks, behind, complex_stated, finish, map_stated, stated}
use Rattle.certificate_walk.{specs.Names.{complex_lines, map_lines, IsWalk}, proofs.Names.{walk_both, walk_passed, walk_stops}}
use Rattle.line_difference.specs.Elements.{AreStored}
use Rattle.block_check.proofs.BlockLemmas.{complexes_length, maps_length, stated_length}
use Rattle.count_check.specs.Totals.{IsCountable}
use Rattle.cert_check.{specs.Ready.{AreAllStored, IsMapReady, IsReady}, proofs.FreeLemmas.outer_free, proofs.ReadyLemmas.{all_stored, countable_all, maps_ready, maps_walk, on_ok_map, ready_all, ready_more, stated_walk}}
use Rattle.cert_check.proofs.conditions.condition_fault.Goals as goal

pub complexes_fault-requires : goal.complexes_fault-requires
complexes_fault-requires g c = (
  lit< tt,
  (
    c.requires.prime,
    (
      c.requires.low,
      (
        c.requires.high,
        (
          subst (AllZip (IsReady g.row.P c.args.condition) c.args.indexes.now) (sym c.as_slice-parts.ensures) (ready_all g.row.P c.args.condition c.args.report.now c.args.indexes.now c.requires.prime_is c.requires.kept c.requires.passed),
          (
            subst (AreAllStored g.row.P c.args.condition c.args.table.now) (sym c.as_slice-parts.ensures) c.requires.stored,
            (let l = stated_length c.args.report.now in let few = c.requires.few in let e = ap (λ (xs : List ComplexPart). sum_by complex_lines xs) c.as_slice-parts.ensures in omega (arith, l, few, e)),
          ),
        ),
      ),
    ),
  ),
)

pub returns-in_err-at-clause-walk : goal.returns-in_err-at-clause-walk
returns-in_err-at-clause-walk g c =
    let e = c.in_err-at.field-0.0 in
    walk_passed (Asks g.row.P c.args.condition) 0 (stated c.args.report.now) e c.from_residual.result c.from_residual.ensures.1 (stated_walk g.row.P c.args.condition c.args.report.now (Err e) c.requires.low (walk_stops (Asks g.row.P c.args.condition) 2 (behind complex_stated [] c.args.report.now.complexes) (behind (map_stated c.args.report.now.complexes) [] c.args.report.now.maps ++ finish c.args.report.now.complexes ∷ []) e (subst (λ (xs : List ComplexPart). IsWalk (Asks g.row.P c.args.condition) 2 (behind complex_stated [] xs) (Err e)) c.as_slice-parts.ensures c.in_err-at.ensures)))

pub maps_fault-requires-clause-ready : goal.maps_fault-requires-clause-ready
maps_fault-requires-clause-ready g c = subst (AllZip (IsReady g.row.P (c.args.condition + 1)) c.args.indexes.now) (sym c.as_slice-parts.ensures) (ready_more g.row.P c.args.condition c.args.indexes.now c.args.report.now.complexes c.requires.low (ready_all g.row.P c.args.condition c.args.report.now c.args.indexes.now c.requires.prime_is c.requires.kept c.requires.passed) ((subst (λ (xs : List ComplexPart). IsWalk (Asks g.row.P c.args.condition) 2 (behind complex_stated [] xs) (Ok c.in_ok-at.at)) c.as_slice-parts.ensures c.in_ok-at.ensures).1))

pub maps_fault-requires-clause-maps : goal.maps_fault-requires-clause-maps
maps_fault-requires-clause-maps g c =
    subst (λ (xs : List ComplexPart). Each (IsMapReady g.row.P c.args.condition xs) c.as_slice.result.now) (sym c.as_slice-parts.ensures)
    (subst (Each (IsMapReady g.row.P c.args.condition c.args.report.now.complexes)) (sym c.as_slice.ensures) (maps_ready g.row.P c.args.condition c.args.report.now c.requires.prime_is c.requires.well_formed c.requires.low c.requires.passed))

pub maps_fault-requires-clause-room : goal.maps_fault-requires-clause-room
maps_fault-requires-clause-room g c = let l = stated_length c.args.report.now in let few = c.requires.few in let a = (subst (λ (xs : List ComplexPart). IsWalk (Asks g.row.P c.args.condition) 2 (behind complex_stated [] xs) (Ok c.in_ok-at.at)) c.as_slice-parts.ensures c.in_ok-at.ensures).0 in let n = complexes_length c.args.report.now.complexes in let f = ap (λ (ms : List MapPart). sum_by map_lines ms) c.as_slice.ensures in omega (arith, l, few, a, n, f)

pub returns-in_err-at-2-clause-walk : goal.returns-in_err-at-2-clause-walk
returns-in_err-at-2-clause-walk g c =
    let e = c.in_err-at-2.field-0.0 in
    walk_passed (Asks g.row.P c.args.condition) 0 (stated c.args.report.now) e c.from_residual-in_err-at-2.result c.from_residual-in_err-at-2.ensures.1
    (stated_walk g.row.P c.args.condition c.args.report.now (Err e) c.requires.low (walk_both (Asks g.row.P c.args.condition) 2 (behind complex_stated [] c.args.report.now.complexes) (behind (map_stated c.args.report.now.complexes) [] c.args.report.now.maps ++ finish c.args.report.now.complexes ∷ []) c.in_ok-at.at (Err e) (subst (λ (xs : List ComplexPart). IsWalk (Asks g.row.P c.args.condition) 2 (behind complex_stated [] xs) (Ok c.in_ok-at.at)) c.as_slice-parts.ensures c.in_ok-at.ensures)
    (walk_stops (Asks g.row.P c.args.condition) c.in_ok-at.at (behind (map_stated c.args.report.now.complexes) [] c.args.report.now.maps) (finish c.args.report.now.complexes ∷ []) e (maps_walk g.row.P c.args.condition c.args.report.now c.in_ok-at.at (Err e) c.as_slice-parts.ensures c.as_slice.ensures c.in_err-at-2.ensures))))

pub total_fault-requires : goal.total_fault-requires
total_fault-requires g c =
    let five = c.if-condition-eq5.true in (
      lit< tt,
      (
        c.requires.prime,
        (
          subst (AllZip IsCountable c.args.indexes.now) (sym c.as_slice-parts.ensures) (countable_all g.row.P c.args.indexes.now c.args.report.now.complexes (subst (λ (n : ℕ). AllZip (IsReady g.row.P n) c.args.indexes.now c.args.report.now.complexes) (let q : c.args.condition + 1 ≡ 6 = omega (arith, five) in q) (ready_more g.row.P c.args.condition c.args.indexes.now c.args.report.now.complexes c.requires.low (ready_all g.row.P c.args.condition c.args.report.now c.args.indexes.now c.requires.prime_is c.requires.kept c.requires.passed) ((subst (λ (xs : List ComplexPart). IsWalk (Asks g.row.P c.args.condition) 2 (behind complex_stated [] xs) (Ok c.in_ok-at.at)) c.as_slice-parts.ensures c.in_ok-at.ensures).1)))),
          (let l = stated_length c.args.report.now in let few = c.requires.few in let a = (subst (λ (xs : List ComplexPart). IsWalk (Asks g.row.P c.args.condition) 2 (behind complex_stated [] xs) (Ok c.in_ok-at.at)) c.as_slice-parts.ensures c.in_ok-at.ensures).0 in let n = complexes_length c.args.report.now.complexes in let b = (maps_walk g.row.P c.args.condition c.args.report.now c.in_ok-at.at (Ok c.in_ok-at-2.at) c.as_slice-parts.ensures c.as_slice.ensures c.in_ok-at-2.ensures).0 in let m = maps_length c.args.report.now.complexes c.args.report.now.maps in omega (arith, l, few, a, n, b, m)),
        ),
      ),
    )

pub returns-then-condition-eq5-clause-walk : goal.returns-then-condition-eq5-clause-walk
returns-then-condition-eq5-clause-walk g c =
    let five = c.if-condition-eq5.true in
    (stated_walk g.row.P c.args.condition c.args.report.now (c.total_fault.result) c.requires.low (walk_both (Asks g.row.P c.args.condition) 2 (behind complex_stated [] c.args.report.now.complexes) (behind (map_stated c.args.report.now.complexes) [] c.args.report.now.maps ++ finish c.args.report.now.complexes ∷ []) c.in_ok-at.at (c.total_fault.result) (subst (λ (xs : List ComplexPart). IsWalk (Asks g.row.P c.args.condition) 2 (behind complex_stated [] xs) (Ok c.in_ok-at.at)) c.as_slice-parts.ensures c.in_ok-at.ensures)
    (walk_both (Asks g.row.P c.args.condition) c.in_ok-at.at (behind (map_stated c.args.report.now.complexes) [] c.args.report.now.maps) (finish c.args.report.now.complexes ∷ []) c.in_ok-at-2.at c.total_fault.result (maps_walk g.row.P c.args.condition c.args.report.now c.in_ok-at.at (Ok c.in_ok-at-2.at) c.as_slice-parts.ensures c.as_slice.ensures c.in_ok-at-2.ensures)
    (subst (λ (n : ℕ). IsWalk (Asks g.row.P n) c.in_ok-at-2.at (finish c.args.report.now.complexes ∷ []) c.total_fault.result) (sym five) (subst (λ (xs : List ComplexPart). IsWalk (Asks g.row.P 5) c.in_ok-at-2.at (finish xs ∷ []) c.total_fault.result) c.as_slice-parts.ensures c.total_fault.ensures.walk)))))

pub returns-then-condition-eq5-clause-stored : goal.returns-then-condition-eq5-clause-stored
returns-then-condition-eq5-clause-stored g c =
    on_ok_map c.total_fault.result _ (AreAllStored g.row.P (c.args.condition + 1) c.total_fault.new.table c.args.report.now.complexes)
    (λ h above. subst (λ (xs : List ComplexPart). Each (λ x. AreStored g.row.P c.total_fault.new.table (ranks_of x)) xs) c.as_slice-parts.ensures (all_stored g.row.P c.total_fault.new.table c.as_slice-parts.result.now h)) c.total_fault.ensures.stored

pub returns-clause-walk : goal.returns-clause-walk
returns-clause-walk g c =
    let last = c.in_ok-at-2.at + 1 in
    (stated_walk g.row.P c.args.condition c.args.report.now (Ok last) c.requires.low (walk_both (Asks g.row.P c.args.condition) 2 (behind complex_stated [] c.args.report.now.complexes) (behind (map_stated c.args.report.now.complexes) [] c.args.report.now.maps ++ finish c.args.report.now.complexes ∷ []) c.in_ok-at.at (Ok last) (subst (λ (xs : List ComplexPart). IsWalk (Asks g.row.P c.args.condition) 2 (behind complex_stated [] xs) (Ok c.in_ok-at.at)) c.as_slice-parts.ensures c.in_ok-at.ensures)
    (walk_both (Asks g.row.P c.args.condition) c.in_ok-at.at (behind (map_stated c.args.report.now.complexes) [] c.args.report.now.maps) (finish c.args.report.now.complexes ∷ []) c.in_ok-at-2.at (Ok last) (maps_walk g.row.P c.args.condition c.args.report.now c.in_ok-at.at (Ok c.in_ok-at-2.at) c.as_slice-parts.ensures c.as_slice.ensures c.in_ok-at-2.ensures) (refl, ((outer_free g.row.P c.args.condition c.requires.low).last c.if-condition-eq5.false c.args.report.now.complexes, tt)))))

pub returns-clause-stored : goal.returns-clause-stored
returns-clause-stored g c = λ above. c.requires.stored (let n = c.if-condition-eq5.false in omega (arith, n, above))

use Rattle.std.proofs.Common.{ℕ, ◌+◌, ◌++◌, sym, ap, arith, refl, subst, List, [], ◌∷◌, length, sum_by, Ok, Err}
use Rattle.certificate_law.specs.{Types.{ComplexPart, MapPart}, Names.{Asks, behind, complex_stated, finish, map_stated, stated}}
use Rattle.certificate_walk.{specs.Names.{complex_lines, map_lines, IsWalk}, proofs.Names.{walk_both, walk_stops}}
use Rattle.block_check.proofs.{BlockLemmas.{maps_walk, stated_length, stated_walk}, FacetLemmas.walked_passed}
use Rattle.block_check.proofs.blocks.block_fault.Goals as goal

pub complexes-requires : goal.complexes-requires
complexes-requires c = let l = stated_length c.args.report.now in let room = c.requires in let e = ap (λ (cs : List ComplexPart). sum_by complex_lines cs) c.as_slice-parts.ensures in omega (arith, l, room, e)

pub returns-in_err-blocks-clause-walk : goal.returns-in_err-blocks-clause-walk
returns-in_err-blocks-clause-walk c = λ p.
    let e = c.in_err-blocks.field-0.0 in
    walked_passed (Asks p 1) 0 (length (stated c.args.report.now)) (stated c.args.report.now) e c.from_residual.result c.from_residual.ensures.1
    (stated_walk p c.args.report.now (Err e) (walk_stops (Asks p 1) 2 (behind complex_stated [] c.args.report.now.complexes) (behind (map_stated c.args.report.now.complexes) [] c.args.report.now.maps ++ finish c.args.report.now.complexes ∷ []) e
    (subst (λ (cs : List ComplexPart). IsWalk (Asks p 1) 2 (behind complex_stated [] cs) (Err e)) c.as_slice-parts.ensures (c.in_err-blocks.ensures.walk p))))

pub complexes_lines-at-requires : goal.complexes_lines-at-requires
complexes_lines-at-requires c = let l = stated_length c.args.report.now in let room = c.requires in let e = ap (λ (cs : List ComplexPart). sum_by complex_lines cs) c.as_slice-parts.ensures in omega (arith, l, room, e)

pub overflow_add-at : goal.overflow_add-at
overflow_add-at c = let l = stated_length c.args.report.now in let room = c.requires in let e = ap (λ (cs : List ComplexPart). sum_by complex_lines cs) c.as_slice-parts.ensures in let n = c.complexes_lines-at.ensures in omega (arith, l, room, e, n)

pub maps-requires-clause-room : goal.maps-requires-clause-room
maps-requires-clause-room c = let l = stated_length c.args.report.now in let room = c.requires in let e = ap (λ (cs : List ComplexPart). sum_by complex_lines cs) c.as_slice-parts.ensures in let n = c.complexes_lines-at.ensures in let f = ap (λ (ms : List MapPart). sum_by map_lines ms) c.as_slice.ensures in omega (arith, l, room, e, n, f)

pub returns-in_err-maps-clause-walk : goal.returns-in_err-maps-clause-walk
returns-in_err-maps-clause-walk c = λ p.
    let e = c.in_err-maps.field-0.0 in
    walked_passed (Asks p 1) 0 (length (stated c.args.report.now)) (stated c.args.report.now) e c.from_residual-in_err-maps.result c.from_residual-in_err-maps.ensures.1
    (stated_walk p c.args.report.now (Err e) (walk_both (Asks p 1) 2 (behind complex_stated [] c.args.report.now.complexes) (behind (map_stated c.args.report.now.complexes) [] c.args.report.now.maps ++ finish c.args.report.now.complexes ∷ []) (2 + c.complexes_lines-at.result) (Err e) (subst (λ (cs : List ComplexPart). IsWalk (Asks p 1) 2 (behind complex_stated [] cs) (Ok (2 + c.complexes_lines-at.result))) c.as_slice-parts.ensures (subst (λ (n : ℕ). IsWalk (Asks p 1) 2 (behind complex_stated [] c.as_slice-parts.result.now) (Ok (2 + n))) (sym c.complexes_lines-at.ensures) (c.in_ok-blocks.ensures.walk p)))
    (walk_stops (Asks p 1) (2 + c.complexes_lines-at.result) (behind (map_stated c.args.report.now.complexes) [] c.args.report.now.maps) (finish c.args.report.now.complexes ∷ []) e (maps_walk p c.args.report.now (2 + c.complexes_lines-at.result) (Err e) c.as_slice-parts.ensures c.as_slice.ensures (c.in_err-maps.ensures p)))))

pub returns-clause-walk : goal.returns-clause-walk
returns-clause-walk c = λ p.
    let w = stated_walk p c.args.report.now (Ok (c.in_ok-maps.field-0 + 1)) (walk_both (Asks p 1) 2 (behind complex_stated [] c.args.report.now.complexes) (behind (map_stated c.args.report.now.complexes) [] c.args.report.now.maps ++ finish c.args.report.now.complexes ∷ []) (2 + c.complexes_lines-at.result) (Ok (c.in_ok-maps.field-0 + 1)) (subst (λ (cs : List ComplexPart). IsWalk (Asks p 1) 2 (behind complex_stated [] cs) (Ok (2 + c.complexes_lines-at.result))) c.as_slice-parts.ensures (subst (λ (n : ℕ). IsWalk (Asks p 1) 2 (behind complex_stated [] c.as_slice-parts.result.now) (Ok (2 + n))) (sym c.complexes_lines-at.ensures) (c.in_ok-blocks.ensures.walk p)))
    (walk_both (Asks p 1) (2 + c.complexes_lines-at.result) (behind (map_stated c.args.report.now.complexes) [] c.args.report.now.maps) (finish c.args.report.now.complexes ∷ []) c.in_ok-maps.field-0 (Ok (c.in_ok-maps.field-0 + 1)) (maps_walk p c.args.report.now (2 + c.complexes_lines-at.result) (Ok c.in_ok-maps.field-0) c.as_slice-parts.ensures c.as_slice.ensures (c.in_ok-maps.ensures p)) (refl, (tt, tt)))) in
    (omega arith, w.1)

use Rattle.std.proofs.Common.{◌≡◌, ◌+◌, ◌<◌, ◌^◌, ℕ, [], ap, arith, length, lit<, subst, sym, Ok, Err}
use Rattle.linear_law.specs.Names.{Each}
use Rattle.report.specs.declared.complex.ComplexPart.{ComplexPart}
use Rattle.certificate_law.specs.Names.{Asks, induced_stated, map_between, numbered}
use Rattle.certificate_walk.{specs.Names.IsWalk, proofs.Names.walk_passed}
use Rattle.column_check.{specs.Ready.IsInducedReady, proofs.ReadyLemmas.blocks-ready, proofs.SectionLemmas.{map-end, map-room, map-stops}}
use Rattle.column_check.proofs.walks.induced_fault.Goals as goal

-- what holds of two complexes holds of two that are the same
both : (P : ComplexPart → ComplexPart → Type 0) (a b x y : ComplexPart) → a ≡ x → b ≡ y → P a b → P x y
both P a b x y e f h = subst (P x) f (subst (λ (d : ComplexPart). P d b) e h)

pub blocks_fault-requires : goal.blocks_fault-requires
blocks_fault-requires g c =
    let p = g.row.P in
    let from = c.args.from.now in
    let to = c.args.to.now in
    let m = c.args.map.now in
    let source = c.in_ok-source.source.part.now in
    let target = c.in_ok-target.target.part.now in
    let e = sym c.in_ok-source.ensures.part in
    let f = sym c.in_ok-target.ensures.part in
    let at : ℕ = c.args.before + c.len.result + 1 in
    let r = map-room p from to [] [] m c.args.before at (2 ^ 64) c.requires.room (ap (λ (n : ℕ). c.args.before + n + 1) c.len.ensures) in
    let s : at + length (numbered (induced_stated from to m) 0 m.induced) < 2 ^ 64 = omega (arith, r) in
    let ready = both (λ a b. Each (IsInducedReady p a b) m.induced) from to source target e f (blocks-ready p from to m c.requires.passed) in
    let room = both (λ a b. at + length (numbered (induced_stated a b m) 0 m.induced) < 2 ^ 64) from to source target e f s in
    (lit< tt, (lit< tt, (c.requires.prime, (c.in_ok-source.ensures.listing, (c.in_ok-target.ensures.listing, (ready, room))))))

pub returns-in_err-at : goal.returns-in_err-at
returns-in_err-at g c = λ cs earlier.
    let p = g.row.P in
    let from = c.args.from.now in
    let to = c.args.to.now in
    let m = c.args.map.now in
    let at : ℕ = c.args.before + c.len.result + 1 in
    let s = c.in_err-at.field-0.0 in
    walk_passed (Asks p 7) c.args.before (map_between from to cs earlier m) s c.from_residual-in_err-at.result c.from_residual-in_err-at.ensures.1
    (map-stops p from to cs earlier m c.args.before at s (ap (λ (n : ℕ). c.args.before + n + 1) c.len.ensures)
    (both (λ a b. IsWalk (Asks p 7) at (numbered (induced_stated a b m) 0 m.induced) (Err s)) c.in_ok-source.source.part.now c.in_ok-target.target.part.now from to c.in_ok-source.ensures.part c.in_ok-target.ensures.part c.in_err-at.ensures))

pub overflow_add-result : goal.overflow_add-result
overflow_add-result g c =
    let p = g.row.P in
    let from = c.args.from.now in
    let to = c.args.to.now in
    let m = c.args.map.now in
    let at : ℕ = c.args.before + c.len.result + 1 in
    let r = map-room p from to [] [] m c.args.before at (2 ^ 64) c.requires.room (ap (λ (n : ℕ). c.args.before + n + 1) c.len.ensures) in
    let w = (both (λ a b. IsWalk (Asks p 7) at (numbered (induced_stated a b m) 0 m.induced) (Ok c.in_ok-at.at)) c.in_ok-source.source.part.now c.in_ok-target.target.part.now from to c.in_ok-source.ensures.part c.in_ok-target.ensures.part c.in_ok-at.ensures).0 in
    omega (arith, r, w)

pub returns : goal.returns
returns g c = λ cs earlier.
    let p = g.row.P in
    let from = c.args.from.now in
    let to = c.args.to.now in
    let m = c.args.map.now in
    let at : ℕ = c.args.before + c.len.result + 1 in
    map-end p from to cs earlier m c.args.before at c.in_ok-at.at (ap (λ (n : ℕ). c.args.before + n + 1) c.len.ensures)
    (both (λ a b. IsWalk (Asks p 7) at (numbered (induced_stated a b m) 0 m.induced) (Ok c.in_ok-at.at)) c.in_ok-source.source.part.now c.in_ok-target.target.part.now from to c.in_ok-source.ensures.part c.in_ok-target.ensures.part c.in_ok-at.ensures)

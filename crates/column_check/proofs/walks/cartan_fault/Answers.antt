use Rattle.std.proofs.Common.{◌≡◌, ◌+◌, ◌<◌, ◌≤◌, ◌^◌, ℕ, ap, arith, length, lit<, subst, sum_by, sym, Ok, Err}
use Rattle.linear_law.specs.Names.{Each}
use Rattle.report.specs.declared.complex.ComplexPart.{ComplexPart}
use Rattle.certificate_law.specs.Names.{Asks, cartan_stated, complex_stated, numbered}
use Rattle.certificate_walk.{specs.Names.{degree_lines, operation_lines, product_lines, IsWalk}, proofs.Names.walk_passed}
use Rattle.column_check.{specs.Ready.IsCartanReady, proofs.ReadyLemmas.cartans-ready, proofs.SectionLemmas.{cartan-end, cartan-stops, cartans-room}}
use Rattle.column_check.proofs.walks.cartan_fault.Goals as goal

pub cartans_fault-requires : goal.cartans_fault-requires
cartans_fault-requires g c =
    let p = g.row.P in
    let part = c.args.part.now in
    let e = c.in_ok-listing.ensures.part in
    let few : length part.degrees ≤ 16 = subst (λ (d : ComplexPart). length d.degrees ≤ 16) e c.in_ok-listing.ensures.listing.few in
    let at : ℕ = c.args.before + c.listed_lines.result in
    let from : ℕ = at + c.block_lines.result in
    let is : at ≡ c.args.before + (length part.facets + sum_by degree_lines part.degrees + 1) = ap (λ (n : ℕ). c.args.before + n) c.listed_lines.ensures in
    let f : from ≡ at + (sum_by product_lines part.products + sum_by operation_lines part.operations) = ap (λ (n : ℕ). at + n) c.block_lines.ensures in
    let r = cartans-room part c.args.before at (2 ^ 64) c.requires.room is from f in
    let s : from + length (numbered (cartan_stated part) 0 part.cartans) < 2 ^ 64 = omega (arith, r) in
    let ready = subst (λ (d : ComplexPart). Each (IsCartanReady p c.args.table.now d) d.cartans) (sym e) (cartans-ready p c.args.table.now part few c.requires.passed c.requires.stored) in
    let room = subst (λ (d : ComplexPart). from + length (numbered (cartan_stated d) 0 d.cartans) < 2 ^ 64) (sym e) s in
    (lit< tt, (lit< tt, (c.requires.prime, (c.in_ok-listing.ensures.listing, (ready, room)))))

pub returns-in_err-at : goal.returns-in_err-at
returns-in_err-at g c = λ earlier.
    let p = g.row.P in
    let part = c.args.part.now in
    let e = c.in_ok-listing.ensures.part in
    let at : ℕ = c.args.before + c.listed_lines.result in
    let from : ℕ = at + c.block_lines.result in
    let s = c.in_err-at.field-0.0 in
    walk_passed (Asks p 8) c.args.before (complex_stated earlier part) s c.from_residual-in_err-at.result c.from_residual-in_err-at.ensures.1
    (cartan-stops p part earlier c.args.before at from s (ap (λ (n : ℕ). c.args.before + n) c.listed_lines.ensures) (ap (λ (n : ℕ). at + n) c.block_lines.ensures)
    (subst (λ (d : ComplexPart). IsWalk (Asks p 8) from (numbered (cartan_stated d) 0 d.cartans) (Err s)) e c.in_err-at.ensures))

pub overflow_add-result : goal.overflow_add-result
overflow_add-result g c =
    let p = g.row.P in
    let part = c.args.part.now in
    let e = c.in_ok-listing.ensures.part in
    let at : ℕ = c.args.before + c.listed_lines.result in
    let from : ℕ = at + c.block_lines.result in
    let r = cartans-room part c.args.before at (2 ^ 64) c.requires.room (ap (λ (n : ℕ). c.args.before + n) c.listed_lines.ensures) from (ap (λ (n : ℕ). at + n) c.block_lines.ensures) in
    let w = (subst (λ (d : ComplexPart). IsWalk (Asks p 8) from (numbered (cartan_stated d) 0 d.cartans) (Ok c.in_ok-at.at)) e c.in_ok-at.ensures).0 in
    omega (arith, r, w)

pub returns : goal.returns
returns g c = λ earlier.
    let p = g.row.P in
    let part = c.args.part.now in
    let e = c.in_ok-listing.ensures.part in
    let at : ℕ = c.args.before + c.listed_lines.result in
    let from : ℕ = at + c.block_lines.result in
    cartan-end p part earlier c.args.before at from c.in_ok-at.at (ap (λ (n : ℕ). c.args.before + n) c.listed_lines.ensures) (ap (λ (n : ℕ). at + n) c.block_lines.ensures)
    (subst (λ (d : ComplexPart). IsWalk (Asks p 8) from (numbered (cartan_stated d) 0 d.cartans) (Ok c.in_ok-at.at)) e c.in_ok-at.ensures)

use Rattle.std.proofs.Common.{◌≡◌, ◌+◌, ◌*◌, ◌<◌, ◌≤◌, ◌^◌, ℕ, ap, arith, length, lit<, subst, sum_by, sym, Ok, Err}
use Rattle.linear_law.specs.Names.{Each}
use Rattle.report.specs.declared.complex.ComplexPart.{ComplexPart}
use Rattle.certificate_law.specs.Names.{Asks, complex_stated, numbered, operation_stated, product_stated}
use Rattle.certificate_walk.{specs.Names.{degree_lines, IsWalk}, proofs.Names.walk_passed}
use Rattle.column_check.{specs.Ready.{IsOperationReady, IsProductReady}, proofs.ReadyLemmas.{operations-ready, products-ready}, proofs.SectionLemmas.{column-end, column-operations, column-products, end-room, operations-room, products-room}}
use Rattle.column_check.proofs.walks.column_fault.Goals as goal
use Rattle.column_check.proofs.walks.column_fault.Given as given

-- the number of lines before the blocks
placed : (before at facets degrees : ℕ) → at ≡ facets + degrees + 1 → before + at ≡ before + (facets + degrees + 1)
placed before at facets degrees e = ap (λ (n : ℕ). before + n) e

pub products_fault-requires : goal.products_fault-requires
products_fault-requires g c =
    let p = g.row.P in
    let part = c.args.part.now in
    let e = c.in_ok-listing.ensures.part in
    let few : length part.degrees ≤ 16 = subst (λ (d : ComplexPart). length d.degrees ≤ 16) e c.in_ok-listing.ensures.listing.few in
    let at : ℕ = c.args.before + c.listed_lines.result in
    let is = placed c.args.before c.listed_lines.result (length part.facets) (sum_by degree_lines part.degrees) c.listed_lines.ensures in
    let ready = subst (λ (d : ComplexPart). Each (IsProductReady p d) d.products) (sym e) (products-ready p c.args.table.now part few c.requires.passed) in
    let room = subst (λ (d : ComplexPart). at + length (numbered (product_stated d) 0 d.products) < 2 ^ 64) (sym e) (products-room part c.args.before at (2 ^ 64) c.requires.room is) in
    (lit< tt, (c.requires.prime, (c.in_ok-listing.ensures.listing, (ready, room))))

pub returns-in_err-at : goal.returns-in_err-at
returns-in_err-at g c = λ earlier.
    let p = g.row.P in
    let part = c.args.part.now in
    let e = c.in_ok-listing.ensures.part in
    let at : ℕ = c.args.before + c.listed_lines.result in
    let is = placed c.args.before c.listed_lines.result (length part.facets) (sum_by degree_lines part.degrees) c.listed_lines.ensures in
    let s = c.in_err-at.field-0.0 in
    walk_passed (Asks p 6) c.args.before (complex_stated earlier part) s c.from_residual-in_err-at.result c.from_residual-in_err-at.ensures.1
    (column-products p part earlier c.args.before at s is (subst (λ (d : ComplexPart). IsWalk (Asks p 6) at (numbered (product_stated d) 0 d.products) (Err s)) e c.in_err-at.ensures))

pub operations_fault-requires : goal.operations_fault-requires
operations_fault-requires g c =
    let p = g.row.P in
    let part = c.args.part.now in
    let e = c.in_ok-listing.ensures.part in
    let few : length part.degrees ≤ 16 = subst (λ (d : ComplexPart). length d.degrees ≤ 16) e c.in_ok-listing.ensures.listing.few in
    let at : ℕ = c.args.before + c.listed_lines.result in
    let is = placed c.args.before c.listed_lines.result (length part.facets) (sum_by degree_lines part.degrees) c.listed_lines.ensures in
    let next : ℕ = c.in_ok-at.at in
    let w = subst (λ (d : ComplexPart). IsWalk (Asks p 6) at (numbered (product_stated d) 0 d.products) (Ok next)) e c.in_ok-at.ensures in
    let ready = subst (λ (d : ComplexPart). Each (IsOperationReady p c.args.table.now d) d.operations) (sym e) (operations-ready p c.args.table.now part few c.requires.passed c.requires.stored) in
    let room = subst (λ (d : ComplexPart). next + length (numbered (operation_stated d) 0 d.operations) < 2 ^ 64) (sym e) (operations-room part c.args.before at (2 ^ 64) c.requires.room is next w.0) in
    (lit< tt, (lit< tt, (c.requires.prime, (c.in_ok-listing.ensures.listing, (ready, room)))))

pub returns-in_err-at-2 : goal.returns-in_err-at-2
returns-in_err-at-2 g c = λ earlier.
    let p = g.row.P in
    let part = c.args.part.now in
    let e = c.in_ok-listing.ensures.part in
    let at : ℕ = c.args.before + c.listed_lines.result in
    let is = placed c.args.before c.listed_lines.result (length part.facets) (sum_by degree_lines part.degrees) c.listed_lines.ensures in
    let next : ℕ = c.in_ok-at.at in
    let s = c.in_err-at-2.field-0.0 in
    walk_passed (Asks p 6) c.args.before (complex_stated earlier part) s c.from_residual-in_err-at-2.result c.from_residual-in_err-at-2.ensures.1
    (column-operations p part earlier c.args.before at next s is (subst (λ (d : ComplexPart). IsWalk (Asks p 6) at (numbered (product_stated d) 0 d.products) (Ok next)) e c.in_ok-at.ensures)
    (subst (λ (d : ComplexPart). IsWalk (Asks p 6) next (numbered (operation_stated d) 0 d.operations) (Err s)) e c.in_err-at-2.ensures))

-- room for what is left
left : (g : given.Over) (c : goal.After-len g) → c.in_ok-at-2.at + (2 * length c.args.part.now.cartans + 1) < 2 ^ 64
left g c =
    let p = g.row.P in
    let part = c.args.part.now in
    let e = c.in_ok-listing.ensures.part in
    let at : ℕ = c.args.before + c.listed_lines.result in
    let is = placed c.args.before c.listed_lines.result (length part.facets) (sum_by degree_lines part.degrees) c.listed_lines.ensures in
    let next : ℕ = c.in_ok-at.at in
    let last : ℕ = c.in_ok-at-2.at in
    let w = subst (λ (d : ComplexPart). IsWalk (Asks p 6) at (numbered (product_stated d) 0 d.products) (Ok next)) e c.in_ok-at.ensures in
    let v = subst (λ (d : ComplexPart). IsWalk (Asks p 6) next (numbered (operation_stated d) 0 d.operations) (Ok last)) e c.in_ok-at-2.ensures in
    end-room part c.args.before at (2 ^ 64) c.requires.room is next w.0 last v.0

pub overflow_add-result : goal.overflow_add-result
overflow_add-result g c = let r = left g c in omega (arith, r, c.len.ensures)

pub overflow_add-result-2 : goal.overflow_add-result-2
overflow_add-result-2 g c = let r = left g c in omega (arith, r, c.len.ensures)

pub returns : goal.returns
returns g c = λ earlier.
    let p = g.row.P in
    let part = c.args.part.now in
    let e = c.in_ok-listing.ensures.part in
    let at : ℕ = c.args.before + c.listed_lines.result in
    let is = placed c.args.before c.listed_lines.result (length part.facets) (sum_by degree_lines part.degrees) c.listed_lines.ensures in
    let next : ℕ = c.in_ok-at.at in
    let last : ℕ = c.in_ok-at-2.at in
    column-end p part earlier c.args.before at next last (last + 2 * c.len.result + 1) is (subst (λ (d : ComplexPart). IsWalk (Asks p 6) at (numbered (product_stated d) 0 d.products) (Ok next)) e c.in_ok-at.ensures)
    (subst (λ (d : ComplexPart). IsWalk (Asks p 6) next (numbered (operation_stated d) 0 d.operations) (Ok last)) e c.in_ok-at-2.ensures) (ap (λ (k : ℕ). last + 2 * k + 1) c.len.ensures)

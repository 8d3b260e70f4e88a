use Rattle.std.proofs.Common.{◌≡◌, ◌<◌, ◌-◌, ℕ, List, [], ap, arith, get_or, length, subst}
use Rattle.complex_index.specs.{declared.indexed.Cochain.Cochain, Names.list_at}
use Rattle.report_law.specs.Names.{classes_in, classes_of}
use Rattle.column_check.{specs.Listings.IsRowOfClass, proofs.ListLemmas.zip-at, proofs.ListingLemmas.count}
use Rattle.column_check.proofs.listing.Listing.class.Goals as goal

pub bounds-classes-i : goal.bounds-classes-i
bounds-classes-i g c =
    let p : ℕ = g.row.P in
    let size = ap (λ (zs : List (Cochain p)). length zs) c.classes.ensures in
    let all = count p c.args.self.now c.requires.of c.args.n in
    omega (arith, size, all, c.requires.from_one, c.requires.inside)

pub returns : goal.returns
returns g c =
    let p : ℕ = g.row.P in
    let l = c.args.self.now in
    let n : ℕ = c.args.n in
    let i : ℕ = c.args.i - 1 in
    let z : Cochain p = c.index-classes-i.result in
    let all = count p l c.requires.of n in
    let inside : i < length (list_at l.classes.items n) = (let a = c.requires.from_one in let b = c.requires.inside in omega (arith, all, a, b)) in
    zip-at (IsRowOfClass p l.index.now n) (classes_in (classes_of l.part.now) n) (list_at l.classes.items n) i [] z (c.requires.of.classes n) inside
    (subst (λ (zs : List (Cochain p)). z ≡ get_or zs i z) c.classes.ensures c.index-classes-i.is)

use Rattle.std.proofs.Common.{◌≡◌, ℕ, List, [], get_or, length, lit<, map, subst, sym}
use Rattle.linear_law.specs.Names.{Each}
use Rattle.report.specs.declared.complex.DegreePart.{DegreePart}
use Rattle.column_check.{specs.Listings.IsListedOn, proofs.ReadyLemmas.{all-degrees, listed-classes}}
use Rattle.column_check.proofs.listing.Listing.of.Goals as goal

pub class_rows-requires : goal.class_rows-requires
class_rows-requires g c =
    let p : ℕ = g.row.P in
    let part = c.args.part.now in
    let levels = c.args.index.now in
    let R : List DegreePart → Type 0 = λ ds. (length ds ≡ length levels) × ((n : ℕ) → Each (IsListedOn p levels n) (get_or (map (λ (d : DegreePart). d.classes) ds) n [])) in
    let ready : R c.as_slice.result.now = subst R (sym c.as_slice.ensures) (all-degrees p part levels c.requires.index c.requires.passed, listed-classes p part levels c.requires.index c.requires.passed) in
    (lit< tt, (c.requires.prime, (ready.0, ready.1)))

use Rattle.std.proofs.{Common.{◌∙◌, ◌<◌, ◌≤◌, ℕ, List, arith, length, lit<, map, subst, sym}, lemmas.List.length-map}
use Rattle.linear_law.specs.Names.{Each}
use Rattle.simplicial_law.specs.Names.{Chain}
use Rattle.report.specs.declared.complex.DegreePart.{DegreePart}
use Rattle.column_check.{specs.Listings.IsListedOn, proofs.ListingLemmas.{class-at, rows-all, rows-more}}
use Rattle.column_check.proofs.listing.class_rows.Goals as goal

pub degree_rows-requires : goal.degree_rows-requires
degree_rows-requires g c =
    let p : ℕ = g.row.P in
    let n : ℕ = c.loop-n.n in
    let l : n < length c.args.degrees.now = (let a = c.requires.all in let b = c.degrees-n-end.ensures.same in let t = c.loop-n-test.true in omega (arith, a, b, t)) in
    let same = c.as_slice-classes.ensures ∙ class-at c.args.degrees.now n c.index-degrees-n.result l in
    (lit< tt, (c.requires.prime, subst (λ (cs : List Chain). Each (IsListedOn p c.args.index.now n) cs) (sym same) (c.requires.on n)))

pub loop-n-preserved : goal.loop-n-preserved
loop-n-preserved g c =
    let n : ℕ = c.loop-n.n in
    let l : n < length c.args.degrees.now = (let a = c.requires.all in let b = c.degrees-n-end.ensures.same in let t = c.loop-n-test.true in omega (arith, a, b, t)) in
    let same = c.as_slice-classes.ensures ∙ class-at c.args.degrees.now n c.index-degrees-n.result l in
    rows-more g.row.P c.args.index.now (map (λ (d : DegreePart). d.classes) c.args.degrees.now) n c.loop-n.rows.items c.push.new.self.items c.in_ok-degree_rows.field-0 c.as_slice-classes.result.now c.in_ok-push.ensures.items same
    c.in_ok-degree_rows.ensures c.loop-n.invariant

pub returns-clause-rows : goal.returns-clause-rows
returns-clause-rows g c =
    let count = length-map c.args.degrees.now (λ (d : DegreePart). d.classes) in
    let all : length (map (λ (d : DegreePart). d.classes) c.args.degrees.now) ≤ c.loop-n.n = (let a = c.requires.all in let b = c.degrees-n-end.ensures.same in let t = c.loop-n-test.false in omega (arith, count, a, b, t)) in
    rows-all g.row.P c.args.index.now (map (λ (d : DegreePart). d.classes) c.args.degrees.now) c.loop-n.n c.loop-n.rows.items all c.loop-n.invariant

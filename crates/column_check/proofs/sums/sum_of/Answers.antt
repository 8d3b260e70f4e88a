use Rattle.std.proofs.Common.{◌∙◌, ℕ, List, ap, length, lit<, map, subst, sym, ◌+◌, refl}
use Rattle.linear_law.specs.Names.{Congruent, Each, combination}
use Rattle.sparse_rows.specs.Rows.{IsBelow, value_in}
use Rattle.complex_index.specs.{declared.indexed.Cochain.Cochain, Names.list_at}
use Rattle.listed_rows.specs.ListedChains.{IsCoboundaryRowIn}
use Rattle.column_check.proofs.{ColumnLemmas.sum-row, ListingLemmas.count}
use Rattle.column_check.proofs.sums.sum_of.Goals as goal

pub add_classes-requires : goal.add_classes-requires
add_classes-requires g c =
    let p : ℕ = g.row.P in
    (lit< tt, (lit< tt, (c.requires.prime, c.requires.size ∙ sym (ap (λ (zs : List (Cochain p)). length zs) c.classes.ensures ∙ count p c.args.listing.now c.requires.of c.args.n))))

pub returns : goal.returns
returns g c =
    let p : ℕ = g.row.P in
    let l = c.args.listing.now in
    let n : ℕ = c.args.n in
    let levels = l.index.now in
    let values : List ℕ = c.args.values.now in
    let bound : List (ℕ × ℕ) = c.in-Some.sum in
    let sum : List (ℕ × ℕ) = c.add_classes.new.sum in
    let zs : List (Cochain p) = list_at l.classes.items n in
    sum-row p l.part.now.facets levels n c.requires.of.index l.part.now refl values c.args.primitive.now zs bound sum (c.requires.of.classes n)
    (subst (IsCoboundaryRowIn p levels n c.args.primitive.now) c.in-Some.is c.in_ok-sum.ensures)
    (subst (λ (ys : List (Cochain p)). (m : ℕ) → IsBelow m bound → Each (λ (z : Cochain p). IsBelow m z.row) ys → IsBelow m sum) c.classes.ensures c.in_ok-add_classes.ensures.inside)
    (subst (λ (ys : List (Cochain p)). (k : ℕ) → Congruent p (value_in sum k) (combination values (map (λ (z : Cochain p). value_in z.row) ys) k + value_in bound k)) c.classes.ensures c.in_ok-add_classes.ensures.sum)

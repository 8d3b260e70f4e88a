-- How many simplices a degree has, by the index of a complex.
use Rattle.std.proofs.Common.{◌≡◌, ℕ, ◌≤◌, arith, subst, List, [], length}
use Rattle.linear_law.{specs.Names.{Among, Each, IsAscending, ListsAll}, proofs.Names.{apart_short, each_map}}
use Rattle.simplicial_law.{specs.Names.{IsInOrder, IsSimplex, of_degree}, specs.ListedSimplices.simplices, proofs.Names.listed_simplices_law}
use Rattle.simplex_set.proofs.Sizes.{among_place}
use Rattle.complex_index.specs.Names.{IsIndexOf, level}
use Rattle.certificate_law.{specs.Names.simplex_count, proofs.CanonicalData.in_order_apart, proofs.PivotCounts.simplex_same_or_not}

no_more : (On : List ℕ → Type 0) (xs ys : List (List ℕ)) → IsInOrder xs → Each On xs → ListsAll On ys → length xs ≤ length ys
no_more On xs ys o h all =
    apart_short simplex_same_or_not xs ys (in_order_apart xs o)
    (each_map (λ (s : List ℕ) on. let q = all.whole s on in subst (λ (t : List ℕ). Among t ys) (q.2 []) (among_place ys q.0 [] q.1)) xs h)

-- the index has the simplices of each degree, each once
pub simplices_counted : (facets : List (List ℕ)) (levels : List (List (List ℕ))) → IsIndexOf facets levels → Each IsAscending facets → (n : ℕ) → simplex_count facets n ≡ length (level levels n)
simplices_counted facets levels index ascending n =
    let here = of_degree n (simplices facets) in
    let all = listed_simplices_law.of_one_degree facets n ascending in
    let most = no_more (IsSimplex facets n) here (level levels n) (listed_simplices_law.degree_in_order facets n) all.sound (index.lists n) in
    let least = no_more (IsSimplex facets n) (level levels n) here (index.in_order n) (index.lists n).sound all in
    omega (arith, most, least)

use Rattle.std.proofs.Common.{ℕ, ◌<◌, List, length, arith}
use Rattle.linear_law.specs.Names.{Each, IsAscending}
use Rattle.complex_index.specs.Names.{IsIndexOf}
use Rattle.report_law.specs.Names.{AreMaximalFacets}
use Rattle.facet_list.proofs.{FreeFacets.are_maximal, MarkLemmas.{more_free, with_listed}}
use Rattle.facet_list.proofs.maximal.maximal_facets.Goals as goal

pub loop-n-preserved : goal.loop-n-preserved
loop-n-preserved c = more_free c.args.index.now c.loop-n.n c.loop-n.found.keys c.add_free.new.found.keys c.in_ok-add_free.ensures c.loop-n.invariant

pub returns : goal.returns
returns c =
    let levels = c.args.index.now in
    let h = c.loop-n.invariant in
    with_listed c.listed.result c.loop-n.found.keys
    (λ l. (facets : List (List ℕ)) → IsIndexOf facets levels → Each IsAscending facets → Each (λ (f : List ℕ). 0 < length f) facets → AreMaximalFacets facets l) c.listed.ensures
    (λ facets index ascending some. are_maximal facets levels index ascending some c.loop-n.found.keys h.sorted h.at
    (λ k s l f. h.put k s (let t = c.loop-n-test.false in let e = c.degrees-n-end.ensures.same in omega (arith, l, t, e)) f))

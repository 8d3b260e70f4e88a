use Rattle.std.proofs.{Common.{◌≡◌, ℕ, ◌+◌, sym, ◌∙◌, ap, subst, arith, List, [], ◌∷◌, ◌++◌, length, take, Ok, Err}, lemmas.List.take_more}
use Rattle.certificate_law.specs.Names.{Asks, behind}
use Rattle.certificate_walk.proofs.Names.{behind_end, behind_more, behind_stop}
use Rattle.block_check.{specs.Blocks.IsFacetWalk, proofs.FacetLemmas.{facet_line, facet_more, facet_stops, walked_passed}}
use Rattle.block_check.proofs.facets.facets.Goals as goal

pub returns-in_err-complex-clause-walk : goal.returns-in_err-complex-clause-walk
returns-in_err-complex-clause-walk c = λ p.
    let fs = c.args.facets.now in
    let i = c.loop-place.place in
    let f = c.index-facets-place.result in
    let e = c.in_err-complex.field-0.0 in
    walked_passed (Asks p 1) c.args.before (c.args.before + length fs) (behind facet_line [] fs) e c.from_residual.result c.from_residual.ensures.1
    (behind_stop (Asks p 1) facet_line fs c.args.before (c.args.before + i) i f e c.loop-place-test.true c.index-facets-place.is
    (facet_stops p (c.args.before + i) (take i fs) f e (subst (λ (b : List (List ℕ)). IsFacetWalk (c.args.before + i) b f (Err e)) c.loop-place.invariant.kept c.in_err-complex.ensures))
    (c.loop-place.invariant.walked p))

pub loop-place-preserved : goal.loop-place-preserved
loop-place-preserved c =
    let fs = c.args.facets.now in
    let i = c.loop-place.place in
    let f = c.index-facets-place.result in
    let h = subst (λ (b : List (List ℕ)). IsFacetWalk (c.args.before + i) b f (Ok c.in_ok-complex.complex)) c.loop-place.invariant.kept c.in_ok-complex.ensures in
    record {
      kept = h.0 ∙ ap (λ x. take i fs ++ x ∷ []) c.index-facets-place.is ∙ sym (take_more fs i f c.loop-place-test.true);
      walked = λ p. behind_more (Asks p 1) facet_line fs c.args.before (c.args.before + i) (c.args.before + (i + 1)) i f c.loop-place-test.true c.index-facets-place.is
          (facet_more p (c.args.before + i) (c.args.before + (i + 1)) (take i fs) f c.in_ok-complex.complex (let q : c.args.before + (i + 1) ≡ c.args.before + i + 1 = omega arith in q) h)
          (c.loop-place.invariant.walked p);
    }

pub returns-clause-walk : goal.returns-clause-walk
returns-clause-walk c = λ p.
    let w = behind_end (Asks p 1) facet_line c.args.facets.now c.args.before (c.args.before + c.loop-place.place) c.loop-place.place c.loop-place-test.false (c.loop-place.invariant.walked p) in
    let l = w.0 in
    let b = c.loop-place-test.false in
    let e = c.loop-place.auto.place-end in
    (omega (arith, l, b, e), w.1)

use Rattle.std.proofs.Common.{arith, rules, ◌≡◌, ◌+◌, length, lit<, sym, subst}
use Rattle.row_reduce.specs.Names.{AreTriangular}
use Rattle.cohomology.proofs.{CoboundaryLemmas.{AreBound, bounds_all, bounds_all_few, bounds_few, no_coboundaries}, LoopLemmas.{IsFound, classes_all, classes_few, made_more, made_start}}
use Rattle.cohomology.proofs.data.Cohomology.of_pair.Goals as goal

pub loop-degree-init : goal.loop-degree-init
loop-degree-init g c =
    let full = c.args.full.now in
    let sub = c.args.sub.now in (
      made_start (IsFound g.row.P full sub) _ c.new-degrees.ensures.items,
      made_more (AreBound g.row.P full sub) 0 c.new-bounds.result.items c.push.new.self.items c.new.result c.in_ok-push.ensures.items (made_start (AreBound g.row.P full sub) _ c.new-bounds.ensures.items)
          (bounds_few g.row.P full sub 0 c.new.result (no_coboundaries g.row.P full sub c.new.result.items c.new.ensures.items) (c.in_ok-reached.ensures sub).table.few),
      c.in_ok-reached.ensures sub,
    )

pub degree_at-requires : goal.degree_at-requires
degree_at-requires g c = (lit< tt, (lit< tt, (c.requires.prime, (c.requires.pair c.degrees-degree-end.ensures.complex, (search rules, c.loop-degree.invariant.2)))))

pub coboundaries_above-requires : goal.coboundaries_above-requires
coboundaries_above-requires g c =
    let next = c.in_ok-found.ensures.next in
    (lit< tt, (lit< tt, (c.requires.prime, (search rules, subst (λ w. AreTriangular g.row.P w c.in_ok-found.next.stored.items c.in_ok-found.next.pivots) (sym next.table.whole) next.bounds.triangular))))

pub loop-degree-preserved : goal.loop-degree-preserved
loop-degree-preserved g c =
    let full = c.args.full.now in
    let sub = c.args.sub.now in
    let n = c.loop-degree.degree in (
      made_more (IsFound g.row.P full sub) n c.loop-degree.degrees.items c.push-in-loop-degree.new.self.items c.in_ok-found.found c.in_ok-push-2.ensures.items c.loop-degree.invariant.0 c.in_ok-found.ensures.classes,
      made_more (AreBound g.row.P full sub) (n + 1) c.loop-degree.bounds.items c.push-in-loop-degree-2.new.self.items c.in_ok-coboundaries_above.field-0 c.in_ok-push-3.ensures.items c.loop-degree.invariant.1
          (bounds_few g.row.P full sub (n + 1) c.in_ok-coboundaries_above.field-0 (c.in_ok-coboundaries_above.ensures full sub c.in_ok-found.ensures.coboundaries) c.in_ok-found.ensures.next.table.few),
      c.in_ok-found.ensures.next,
    )

pub invariant_of-classes : goal.invariant_of-classes
invariant_of-classes g c = classes_few g.row.P c.args.full.now c.args.sub.now c.loop-degree.degree c.loop-degree.degrees.items c.loop-degree.invariant.0

pub invariant_of-result : goal.invariant_of-result
invariant_of-result g c = bounds_all_few g.row.P c.args.full.now c.args.sub.now (c.loop-degree.degree + 1) c.loop-degree.bounds.items c.loop-degree.invariant.1

pub returns : goal.returns
returns g c =
    let e : c.loop-degree.degree ≡ length c.args.full.now = search rules in
    record {
      classes = classes_all g.row.P c.args.full.now c.args.sub.now c.loop-degree.degree c.loop-degree.degrees.items e c.loop-degree.invariant.0;
      coboundaries = bounds_all g.row.P c.args.full.now c.args.sub.now (c.loop-degree.degree + 1) c.loop-degree.bounds.items (omega (arith, e)) c.loop-degree.invariant.1;
    }

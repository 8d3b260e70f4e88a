use Rattle.std.proofs.Common.{rules, ◌≡◌, length, lit<}
use Rattle.cohomology.proofs.LoopLemmas.{IsFound, classes_all, classes_few, made_more, made_start}
use Rattle.cohomology.proofs.classes.Classes.of_pair.Goals as goal

pub loop-degree-init : goal.loop-degree-init
loop-degree-init g c = (made_start (IsFound g.row.P c.args.full.now c.args.sub.now) _ c.new-degrees.ensures.items, c.in_ok-reached.ensures c.args.sub.now)

pub degree_at-requires : goal.degree_at-requires
degree_at-requires g c = (lit< tt, (lit< tt, (c.requires.prime, (c.requires.pair c.degrees-degree-end.ensures.complex, (search rules, c.loop-degree.invariant.1)))))

pub loop-degree-preserved : goal.loop-degree-preserved
loop-degree-preserved g c = (
  made_more (IsFound g.row.P c.args.full.now c.args.sub.now) c.loop-degree.degree c.loop-degree.degrees.items c.push.new.self.items c.in_ok-found.found c.in_ok-push.ensures.items c.loop-degree.invariant.0 c.in_ok-found.ensures.classes,
  c.in_ok-found.ensures.next,
)

pub invariant_of-result : goal.invariant_of-result
invariant_of-result g c = classes_few g.row.P c.args.full.now c.args.sub.now c.loop-degree.degree c.loop-degree.degrees.items c.loop-degree.invariant.0

pub returns : goal.returns
returns g c =
    let e : c.loop-degree.degree ≡ length c.args.full.now = search rules in
    classes_all g.row.P c.args.full.now c.args.sub.now c.loop-degree.degree c.loop-degree.degrees.items e c.loop-degree.invariant.0

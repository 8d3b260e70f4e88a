use Rattle.std.proofs.Common.{◌∙◌, ap, arith, take_all}
use Rattle.linear_law.proofs.Names.{length_alike}
use Rattle.count_check.{specs.Totals.{IsCountable, job_sizes}, proofs.TotalLemmas.{sizes_more, zip_get}}
use Rattle.count_check.proofs.totals.all_sizes.Goals as goal

pub bounds-indexes-place : goal.bounds-indexes-place
bounds-indexes-place c = let l = length_alike IsCountable c.args.indexes.now c.args.parts.now c.requires in let t = c.loop-place-test.true in omega (arith, l, t)

pub sizes-requires : goal.sizes-requires
sizes-requires c = zip_get IsCountable c.args.indexes.now c.args.parts.now c.loop-place.place c.index-indexes-place.result c.index-parts-place.result c.requires c.loop-place-test.true c.index-indexes-place.is c.index-parts-place.is

pub loop-place-preserved : goal.loop-place-preserved
loop-place-preserved c = c.in_ok-push.ensures.items ∙ sizes_more c.args.parts.now c.loop-place.place c.index-parts-place.result c.loop-place.all.items c.in_ok-sizes.field-0 c.loop-place-test.true c.index-parts-place.is c.loop-place.invariant c.in_ok-sizes.ensures

pub returns : goal.returns
returns c = c.loop-place.invariant ∙ ap job_sizes (take_all c.loop-place.place c.args.parts.now c.loop-place-test.false)

use Rattle.std.proofs.Common.{◌≡◌, ◌-◌, arith, ap, length}
use Rattle.signed_sum.specs.Names.{weight_of}
use Rattle.interval_cut_law.specs.Names.{rising_lists}
use Rattle.surjection_law.specs.Names.{multiplicity}
use Rattle.composition_law.specs.Surjections.{lifted, values_of}
use Rattle.surjection.{specs.Names.{AreComposed, occurs-k, Inner}, proofs.CutLemmas.{length-marked, often, ready, summed}}
use Rattle.surjection.proofs.composition.sum_of_cuts.Goals as goal

composed : (c : goal.After-times) → AreComposed c.args.k c.args.outer.now c.args.inner.now
composed c = record { outer = c.requires.outer; inner = c.requires.inner; some = c.requires.some; within = c.requires.within; limits = c.requires.limits }

pub overflow_sub-times : goal.overflow_sub-times
overflow_sub-times c = omega (arith, c.times.ensures, occurs-k c.args.k c.args.outer.now c.args.inner.now (composed c))

pub add_cuts-requires-clause-ready : goal.add_cuts-requires-clause-ready
add_cuts-requires-clause-ready c = rw (c.in_ok-outer_entries.ensures, c.in_ok-inner_entries.ensures) (ready c.args.k c.args.outer.now c.args.inner.now (composed c))

pub add_cuts-requires-clause-within : goal.add_cuts-requires-clause-within
add_cuts-requires-clause-within c =
    let s = c.requires.inner.some in omega (arith, s, ap length c.in_ok-inner_entries.ensures, length-marked (lifted c.args.k) Inner c.args.inner.now)

pub add_cuts-requires-clause-long : goal.add_cuts-requires-clause-long
add_cuts-requires-clause-long c =
    let m = occurs-k c.args.k c.args.outer.now c.args.inner.now (composed c) in
    let o = often c.args.k c.args.outer.now c.args.inner.now (composed c) in
    omega (arith, m, o, c.times.ensures, ap length c.new-cut.ensures.items, ap (λ es. multiplicity c.args.k (values_of es)) c.in_ok-outer_entries.ensures)

pub add_cuts-requires-clause-light : goal.add_cuts-requires-clause-light
add_cuts-requires-clause-light c =
    let few = c.requires.few in
    let e : length c.in_ok-inner_entries.field-0.items - 1 - 0 ≡ length c.args.inner.now - 1 = omega (arith, ap length c.in_ok-inner_entries.ensures, length-marked (lifted c.args.k) Inner c.args.inner.now) in
    omega (arith, few, ap weight_of c.new-sum.ensures, ap (λ n. length (rising_lists 0 n (c.times.result - 1))) e, ap (λ n. length (rising_lists 0 (length c.args.inner.now - 1) (n - 1))) c.times.ensures)

pub returns : goal.returns
returns c =
    let a : AreComposed c.args.k c.args.outer.now c.args.inner.now = record { outer = c.requires.outer; inner = c.requires.inner; some = c.requires.some; within = c.requires.within; limits = c.requires.limits } in
    summed c.args.k c.args.outer.now c.args.inner.now a _ _ _ _ _ _ c.in_ok-outer_entries.ensures c.in_ok-inner_entries.ensures c.new-cut.ensures.items c.times.ensures c.new-sum.ensures c.in_ok-add_cuts.ensures.sums

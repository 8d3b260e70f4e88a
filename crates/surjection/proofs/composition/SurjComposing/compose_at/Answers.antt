use Rattle.std.proofs.Common.{arith}
use Rattle.surjection.{specs.Names.{AreComposed, occurs-k}, proofs.CutLemmas.multiplicity-short}
use Rattle.surjection.proofs.composition.SurjComposing.compose_at.Goals as goal

composed : (c : goal.After-times-free) → AreComposed c.args.k c.as_slice-outer.result.now c.as_slice-inner.result.now
composed c = record {
  outer = rw c.as_slice-outer.ensures.same c.as_slice-outer.ensures.surjection;
  inner = rw c.as_slice-inner.ensures.same c.as_slice-inner.ensures.surjection;
  some = c.requires.some;
  within = rw c.as_slice-outer.ensures.same c.requires.within;
  limits = rw (c.as_slice-outer.ensures.same, c.as_slice-inner.ensures.same) c.requires.limits;
}

pub overflow_sub-free : goal.overflow_sub-free
overflow_sub-free c = omega (arith, c.times-free.ensures, occurs-k c.args.k c.as_slice-outer.result.now c.as_slice-inner.result.now (composed c))

pub passes_limit-requires-clause-free : goal.passes_limit-requires-clause-free
passes_limit-requires-clause-free c =
    let s = (composed c).outer.short in omega (arith, s, c.times-free.ensures, multiplicity-short c.args.k c.as_slice-outer.result.now)

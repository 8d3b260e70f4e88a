-- The facets before a place have no fault, so the first fault is that of the rest behind them.
use Rattle.std.proofs.Common.{◌≡◌, drop}
use Rattle.complex_file.specs.Names.{first_facet_fault}
use Rattle.complex_file.proofs.complexes.first_fault.Given as goal

abbrev pub invariant-loop-at : goal.invariant-loop-at
invariant-loop-at l = first_facet_fault l.fn.complex 0 l.facets ≡ first_facet_fault l.complex l.at (drop l.at l.facets)

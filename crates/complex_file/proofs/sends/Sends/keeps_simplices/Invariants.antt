-- The facets so far have simplices as their images.
use Rattle.std.proofs.Common.{◌≡◌, drop}
use Rattle.complex_file.specs.Names.{keeps_simplices}
use Rattle.complex_file.proofs.sends.Sends.keeps_simplices.Given as goal

abbrev pub invariant-loop-facet : goal.invariant-loop-facet
invariant-loop-facet l = keeps_simplices l.from l.to l.self ≡ keeps_simplices (drop l.facet-index l.from) l.to l.self

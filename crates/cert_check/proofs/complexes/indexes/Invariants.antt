use Rattle.std.{proofs.Common.take, specs.List.AllZip}
use Rattle.complex_index.specs.Names.{IsIndexOf}
use Rattle.cert_check.proofs.complexes.indexes.Given as goal

abbrev pub invariant-loop-block : goal.invariant-loop-block
invariant-loop-block l = AllZip (λ x b. IsIndexOf b.facets x) l.indexes.items (take l.block-index l.blocks)

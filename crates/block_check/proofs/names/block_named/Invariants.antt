use Rattle.std.proofs.Common.{◌≡◌, List, map}
use Rattle.report.specs.declared.complex.ComplexPart.{ComplexPart}
use Rattle.certificate_law.specs.Names.{itself}
use Rattle.block_check.proofs.NameLemmas.{IsBehind}
use Rattle.block_check.proofs.names.block_named.Given as goal

abbrev pub invariant-loop-block : goal.invariant-loop-block
invariant-loop-block l = (cs : List ComplexPart) → map itself cs ≡ l.blocks → IsBehind cs l.name l.block-index

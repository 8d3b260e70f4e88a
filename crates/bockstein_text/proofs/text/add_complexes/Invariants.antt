use Rattle.std.proofs.Common.{take}
use Rattle.bockstein_text.specs.Names.{Adds, AreBocksteins, bocksteins_text}
use Rattle.bockstein_text.proofs.text.add_complexes.Given as goal

abbrev pub invariant-loop-block : goal.invariant-loop-block
invariant-loop-block g l = Adds bocksteins_text (AreBocksteins g.row.P) (take l.block-index l.blocks) l.initial.text l.text

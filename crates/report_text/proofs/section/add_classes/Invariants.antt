use Rattle.std.proofs.Common.{◌≡◌, ◌++◌, take, map}
use Rattle.report_text_law.specs.{Names.printed, declared.line.Line.TheVariants.{Class as class_line}}
use Rattle.report_text.proofs.section.add_classes.Given as goal

abbrev pub invariant-loop-chain : goal.invariant-loop-chain
invariant-loop-chain l = l.text ≡ l.initial.text ++ printed l.form (map class_line (take l.chain-index l.chains))

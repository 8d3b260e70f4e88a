use Rattle.std.proofs.Common.{◌≡◌, ◌++◌, take, map}
use Rattle.report_text_law.specs.{Names.printed, declared.line.Line.TheVariants.{Below as below_line}}
use Rattle.report_text.proofs.section.add_belows.Given as goal

abbrev pub invariant-loop-chain : goal.invariant-loop-chain
invariant-loop-chain l = l.text ≡ l.initial.text ++ printed l.form (map below_line (take l.chain-index l.chains))

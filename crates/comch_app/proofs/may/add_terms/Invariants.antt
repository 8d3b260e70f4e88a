use Rattle.std.proofs.Common.{◌≡◌, ◌++◌, take, flat_map}
use Rattle.comch_app.specs.Names.{term_line}
use Rattle.comch_app.proofs.may.add_terms.Given as goal

abbrev pub invariant-loop-k : goal.invariant-loop-k
invariant-loop-k l = l.text ≡ l.initial.text ++ flat_map term_line (take l.k l.sum)

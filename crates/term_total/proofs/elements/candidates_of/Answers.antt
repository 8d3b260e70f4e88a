use Rattle.std.proofs.Common.{◌≤◌}
use Rattle.linear_law.proofs.Names.{each_get_or}
use Rattle.term_total.proofs.elements.candidates_of.Goals as goal

pub candidates-requires : goal.candidates-requires
candidates-requires g c = record { prime = c.requires.prime; low = each_get_or (λ d. d ≤ 60) c.args.degrees.now c.loop-d.d-index 0 c.loop-d-test.true c.requires.low }

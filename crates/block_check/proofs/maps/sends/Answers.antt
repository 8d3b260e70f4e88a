use Rattle.std.proofs.Common.{◌+◌, ◌∙◌, sym, subst, arith}
use Rattle.certificate_law.specs.Names.{Asks}
use Rattle.certificate_walk.specs.Names.{FailsBehind}
use Rattle.block_check.{specs.Blocks.under_map, proofs.SendLemmas.{same_fault, under_fails, under_free}}
use Rattle.block_check.proofs.maps.sends.Goals as goal

pub returns-in-None-clause-walk : goal.returns-in-None-clause-walk
returns-in-None-clause-walk c = λ p x d e f.
    under_free p x d c.args.map.now (c.args.before + 1) (c.args.before + c.map_lines.result) (let l = c.map_lines.ensures in omega (arith, l)) (same_fault x d c.args.map.now c.args.from.now.facets c.args.to.now.facets c.in_ok-block.block.sends e f c.in_ok-block.ensures ∙ sym c.in_ok-map_fault.ensures ∙ c.in-None.is)

pub returns-clause-walk : goal.returns-clause-walk
returns-clause-walk c = λ p x d e f.
    subst (λ n. FailsBehind (Asks p 1) (c.args.before + 1) (under_map x d c.args.map.now) n) (sym c.line_of.ensures)
    (under_fails p x d c.args.map.now c.args.before c.in-Some.fault (same_fault x d c.args.map.now c.args.from.now.facets c.args.to.now.facets c.in_ok-block.block.sends e f c.in_ok-block.ensures ∙ sym c.in_ok-map_fault.ensures ∙ c.in-Some.is))

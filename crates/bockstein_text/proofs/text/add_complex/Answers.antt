use Rattle.std.proofs.Common.{◌∙◌, false}
use Rattle.bockstein_text.proofs.{Added.on_ok, Listed.complex_added}
use Rattle.bockstein_text.proofs.text.add_complex.Goals as goal

pub of-requires : goal.of-requires
of-requires g c = record { ascending = c.requires.complex.ascending; short = c.requires.complex.short; few = c.requires.complex.few }

pub returns : goal.returns
returns g c =
    on_ok c.spell-2.result (λ e. complex_added g.row.P false c.in_ok-index.index _ c.in_ok-basis.ensures.canonical c.requires.prime c.args.block.now c.in_ok-index.ensures c.in_ok-name.name c.args.text.now c.spell.new.text c.add_matrices.new.text
    _ (c.in_ok-name.ensures ∙ c.bytes.ensures) c.in_ok-spell.ensures c.in_ok-add_matrices.ensures e) c.spell-2.ensures

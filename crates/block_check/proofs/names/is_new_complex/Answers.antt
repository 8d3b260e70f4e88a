use Rattle.block_check.proofs.NameLemmas.{new_complex}
use Rattle.block_check.proofs.names.is_new_complex.Goals as goal

pub returns-then-earlier-lt8 : goal.returns-then-earlier-lt8
returns-then-earlier-lt8 c = new_complex c.args.earlier.now c.args.part.now c.bytes.result.now c.is_complex_name.result c.if-earlier-lt8.true c.is_complex_name.ensures c.bytes.ensures

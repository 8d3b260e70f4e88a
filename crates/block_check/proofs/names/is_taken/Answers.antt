use Rattle.block_check.proofs.NameLemmas.{taken_first, taken_second}
use Rattle.block_check.proofs.names.is_taken.Goals as goal

pub returns-then-is_complex_name : goal.returns-then-is_complex_name
returns-then-is_complex_name c = taken_first c.args.complexes.now c.args.maps.now c.args.name.now c.is_complex_name.result c.is_complex_name.ensures c.if-is_complex_name.true

pub returns-else-is_complex_name : goal.returns-else-is_complex_name
returns-else-is_complex_name c = taken_second c.args.complexes.now c.args.maps.now c.args.name.now c.is_complex_name.result c.is_map_name.result c.is_complex_name.ensures c.if-is_complex_name.false c.is_map_name.ensures

use Rattle.std.proofs.Common.{◌+◌, refl, [], ◌∷◌}
use Rattle.certificate_law.specs.Names.{Asks, complex_named, map_opens}
use Rattle.certificate_walk.proofs.Names.{walk_both}
use Rattle.block_check.{specs.Blocks.under_map, proofs.BlockLemmas.{new_of, same_facets}}
use Rattle.block_check.proofs.maps.map.Goals as goal

pub returns-clause-walk : goal.returns-clause-walk
returns-clause-walk c = λ p.
    let cs = c.args.complexes.now in
    let m = c.args.part.now in
    let f = c.in-Some.ensures cs c.requires.blocks in
    let t = c.in-Some-block_named.ensures cs c.requires.blocks in
    walk_both (Asks p 1) c.args.before (map_opens cs c.args.earlier.now m ∷ []) (under_map (complex_named cs m.from) (complex_named cs m.to) m) (c.args.before + 1) c.sends.result
    (refl, (new_of cs c.args.earlier.now m c.bytes.result.now c.bytes-2.result.now c.bytes.ensures c.bytes-2.ensures f.0 t.0 (c.is_new_map.ensures.0 c.if-not-is_new_map.false), tt))
    (c.sends.ensures.walk p (complex_named cs m.from) (complex_named cs m.to) (same_facets cs c.in-Some.from.now c.bytes.result.now m.from c.bytes.ensures f.1) (same_facets cs c.in-Some-block_named.to.now c.bytes-2.result.now m.to c.bytes-2.ensures t.1))

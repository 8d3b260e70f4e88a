use Rattle.std.{proofs.Common.{◌∙◌, ap}, specs.List.list_any, specs.Str.bytes_eq}
use Rattle.complex_file.{specs.Names.{Spelled, MapBlock}, proofs.NameLemmas.{named_first, named_second}}
use Rattle.complex_file.proofs.blocks.Blocks.has_name.Goals as goal

pub returns-then-is_some : goal.returns-then-is_some
returns-then-is_some c =
    named_first c.args.self.now.complexes c.args.self.now.maps c.args.name.now c.place_of_name.result c.is_some.result
    c.place_of_name.ensures.place c.is_some.ensures c.if-is_some.true

pub returns-else-is_some : goal.returns-else-is_some
returns-else-is_some c =
    named_second c.args.self.now.complexes c.args.self.now.maps c.args.name.now c.place_of_name.result c.is_some.result c.is_map_name.result
    c.place_of_name.ensures.place c.is_some.ensures c.if-is_some.false
    (c.is_map_name.ensures ∙ ap (list_any (λ (b : MapBlock). bytes_eq c.args.name.now b.name)) (c.as_slice.ensures ∙ ap (λ (s : Spelled). s.maps) c.self.view_is))

use Rattle.std.proofs.Common.{◌∙◌}
use Rattle.complex_file.proofs.VertexLemmas.{vertex_listed}
use Rattle.complex_file.proofs.sends.has_vertex.Goals as goal

pub returns : goal.returns
returns c = c.contains.ensures ∙ vertex_listed c.args.complex.now c.args.v

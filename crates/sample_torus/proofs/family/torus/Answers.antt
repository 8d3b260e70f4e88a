use Rattle.std.proofs.Common.{◌∙◌, ◌++◌, ◌∷◌, [], List, ap}
use Rattle.complex_file.specs.declared.block.ComplexBlock.{ComplexBlock}
use Rattle.sample_torus.proofs.TorusLemmas.{torus_kept}
use Rattle.sample_torus.proofs.family.torus.Goals as goal

pub invariant_of-result : goal.invariant_of-result
invariant_of-result c = record {
  kept = torus_kept c.args.prime c.args.m c.from.result c.new-2.result c.in_ok-name.name c.in_ok-facets.facets (c.from.ensures ∙ c.in_ok-push.ensures.items ∙ ap (λ (cs : List ComplexBlock). cs ++ record { name = c.in_ok-name.name; facets = c.in_ok-facets.facets } ∷ []) c.new-complexes.ensures.items) c.in_ok-name.ensures (c.in_ok-facets.ensures ∙ c.in_ok-triangles.ensures) c.new-2.ensures c.requires.prime c.requires.large c.requires.few;
}

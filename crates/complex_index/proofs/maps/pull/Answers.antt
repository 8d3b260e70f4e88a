use Rattle.std.proofs.Common.{◌≡◌, ◌∙◌, [], ap, get_or, List, ℕ}
use Rattle.simplicial_law.specs.Names.{cochain_of, terms_of}
use Rattle.steenrod_law.specs.Names.{pull_back}
use Rattle.complex_index.{specs.Names.level, proofs.Pulling.{all_pulled, nothing_pulled, one_more_value}}
use Rattle.complex_index.proofs.maps.pull.Goals as goal

pub returns-in_default-clause-values : goal.returns-in_default-clause-values
returns-in_default-clause-values g c =
    nothing_pulled g.row.P (λ (w : ℕ). get_or c.args.map.now w 0) c.args.from.now c.args.to.now c.args.cochain.now.degree c.args.cochain.now.row c.new-row.result c.in_default.ensures.same c.requires.inside c.new-row.ensures

pub loop-place-preserved : goal.loop-place-preserved
loop-place-preserved g c = record {
  inside = c.in_ok-put_value.ensures.below;
  values = one_more_value (λ k. pull_back (λ (w : ℕ). get_or c.args.map.now w 0) (cochain_of (terms_of c.in-Some.targets.now c.args.cochain.now.row)) (get_or (level c.args.from.now c.args.cochain.now.degree) k []))
      c.loop-place.place c.in_ok-value.value c.loop-place.row c.put_value.new.row c.loop-place.invariant.inside
      (c.in_ok-value.ensures ∙ ap (pull_back (λ (w : ℕ). get_or c.args.map.now w 0) (cochain_of (terms_of c.in-Some.targets.now c.args.cochain.now.row))) c.simplex-simplex.ensures)
      c.in_ok-put_value.ensures.sum c.loop-place.invariant.values;
}

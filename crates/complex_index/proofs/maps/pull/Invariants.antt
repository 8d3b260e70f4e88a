use Rattle.std.proofs.Common.{◌≡◌, ◌<◌, ℕ, [], get_or}
use Rattle.simplicial_law.specs.Names.{cochain_of, terms_of}
use Rattle.steenrod_law.specs.Names.{pull_back}
use Rattle.sparse_rows.specs.Rows.{IsBelow, value_in}
use Rattle.complex_index.specs.Names.{level}
use Rattle.complex_index.proofs.maps.pull.Given as goal

abbrev pub invariant-loop-place : goal.invariant-loop-place
invariant-loop-place g l = record {
  inside : IsBelow l.place l.row;
  values : (k : ℕ) → k < l.place → value_in l.row k ≡ pull_back (λ (w : ℕ). get_or l.map w 0) (cochain_of (terms_of l.targets l.cochain.row)) (get_or (level l.from l.degree) k []);
}

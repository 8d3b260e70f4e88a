use Rattle.std.proofs.Common.{◌+◌, length}
use Rattle.barratt_eccles.proofs.composing.+add_paths.Given as goal

abbrev pub decreases-add_paths : goal.decreases-add_paths
decreases-add_paths l = length l.outer.now + length l.inner.now

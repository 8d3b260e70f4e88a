use Rattle.std.proofs.Common.{◌≡◌, length, take}
use Rattle.row_reduce.specs.Names.{zipped}
use Rattle.row_reduce.proofs.entries.Entries.of_pairs.Given as goal

abbrev pub invariant-loop-pair : goal.invariant-loop-pair
invariant-loop-pair g l = record {
  pairs : zipped l.places.items l.values.items ≡ take l.pair-index l.pairs;
  same : length l.places.items ≡ length l.values.items;
}

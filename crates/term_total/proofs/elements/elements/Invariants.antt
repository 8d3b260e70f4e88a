use Rattle.std.{proofs.Common.{◌≡◌, [], drop, fold}, specs.BTreeSet.insert_key, specs.Ordering.nat_cmp}
use Rattle.term_total.specs.Names.{elements_in}
use Rattle.term_total.proofs.elements.elements.Given as goal

abbrev pub invariant-loop-row : goal.invariant-loop-row
invariant-loop-row l = fold (insert_key nat_cmp) l.degrees.keys (elements_in (drop l.row-index l.rows)) ≡ fold (insert_key nat_cmp) [] (elements_in l.rows)

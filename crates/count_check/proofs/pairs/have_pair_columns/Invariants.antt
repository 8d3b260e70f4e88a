use Rattle.std.proofs.Common.{◌≤◌, get_or, length, take}
use Rattle.linear_law.specs.Names.{Each}
use Rattle.report.specs.declared.columns.ProductPart.{ProductPart}
use Rattle.report_law.specs.Names.{number_pairs}
use Rattle.count_check.proofs.pairs.have_pair_columns.Given as goal

abbrev pub invariant-loop-product : goal.invariant-loop-product
invariant-loop-product l = Each (λ (x : ProductPart). length (number_pairs (get_or l.ranks x.a 0) (get_or l.ranks x.b 0)) ≤ length x.columns) (take l.product-index l.listed)

use Rattle.std.proofs.Common.{◌≡◌, sum_by, take}
use Rattle.certificate_walk.specs.Names.{product_lines}
use Rattle.certificate_walk.proofs.count.products_lines.Given as goal

abbrev pub invariant-loop-product : goal.invariant-loop-product
invariant-loop-product l = l.lines ≡ sum_by product_lines (take l.product-index l.products)

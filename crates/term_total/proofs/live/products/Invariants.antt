use Rattle.std.{proofs.Common.{◌≡◌, map, flat_map}, specs.List.filter}
use Rattle.signed_sum.specs.Names.{numbers_from}
use Rattle.report_law.specs.Names.{degrees}
use Rattle.term_total.specs.Names.{is_live_product, product_of}
use Rattle.term_total.proofs.live.products.Given as goal

abbrev pub invariant-loop-a : goal.invariant-loop-a
invariant-loop-a l = l.found.items ≡ filter (is_live_product l.ranks) (flat_map (λ a. map (product_of a) (degrees l.ranks)) (numbers_from 0 l.a))

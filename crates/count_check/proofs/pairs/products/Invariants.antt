use Rattle.std.proofs.Common.{◌≡◌, ℕ, ◌+◌, drop, sum_by}
use Rattle.report.specs.declared.complex.ComplexPart.{ComplexPart}
use Rattle.report_law.specs.Names.{products, ranks_of}
use Rattle.certificate_law.specs.Names.{numbered, product_stated, Asks}
use Rattle.certificate_walk.{proofs.Names.Leads, specs.Names.product_lines}
use Rattle.count_check.proofs.pairs.products.Given as goal

abbrev pub invariant-loop-place : goal.invariant-loop-place
invariant-loop-place l = record {
  counted : l.at + sum_by product_lines (drop l.place l.listed) ≡ l.before + sum_by product_lines l.listed;
  walked : (c : ComplexPart) (p : ℕ) → ranks_of c ≡ l.ranks → products (ranks_of c) ≡ l.live
      → Leads (Asks p 5) l.before (numbered (product_stated c) 0 l.listed) l.at (numbered (product_stated c) l.place (drop l.place l.listed));
}

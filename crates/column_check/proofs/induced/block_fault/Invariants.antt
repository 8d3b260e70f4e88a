use Rattle.std.proofs.Common.{◌≡◌, ◌+◌, ◌*◌, drop}
use Rattle.report.specs.declared.map.MapPart.{MapPart}
use Rattle.certificate_law.specs.Names.{Asks, induced_column, numbered, with_stands}
use Rattle.certificate_walk.proofs.Names.{Leads}
use Rattle.column_check.{specs.Listings.HasImagesOf, proofs.WalkLemmas.columned}
use Rattle.column_check.proofs.induced.block_fault.Given as goal

abbrev pub invariant-loop-k : goal.invariant-loop-k
invariant-loop-k g l = record {
  counted : l.at ≡ l.before + 1 + 2 * l.k;
  walked : (m : MapPart) → HasImagesOf l.map m
      → Leads (Asks g.row.P 7) (l.before + 1) (numbered (columned (induced_column l.from.part.now l.to.part.now m l.part) (λ y. with_stands y.primitive)) 0 l.part.columns) l.at
      (numbered (columned (induced_column l.from.part.now l.to.part.now m l.part) (λ y. with_stands y.primitive)) l.k (drop l.k l.part.columns));
}

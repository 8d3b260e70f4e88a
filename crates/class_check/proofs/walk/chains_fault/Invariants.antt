use Rattle.std.proofs.Common.{◌≡◌, ◌+◌, [], length}
use Rattle.complex_index.specs.Names.{IsIndexOf, level}
use Rattle.report.specs.declared.complex.ComplexPart.{ComplexPart}
use Rattle.class_check.{specs.Questions.{AreLeads, AreReady, chain_lines, others_of}, proofs.WalkLemmas.IsWalkedTo}
use Rattle.class_check.proofs.walk.chains_fault.Given as goal

abbrev pub invariant-loop-chain : goal.invariant-loop-chain
invariant-loop-chain g l = record {
  items : l.chain-items ≡ l.chains;
  len : length l.leads.items ≡ length (level l.index l.n);
  count : l.at ≡ l.before + l.chain-index;
  walked : (c : ComplexPart) → IsIndexOf c.facets l.index → AreReady g.row.P l.question (chain_lines l.question c l.n [] l.chains) → AreLeads c.facets l.n g.row.P (level l.index l.n) (others_of g.row.P l.question c l.n []) l.fn.leads.items
      → IsWalkedTo g.row.P l.question c l.n (level l.index l.n) l.before l.chains l.chain-index l.leads.items l.at;
}

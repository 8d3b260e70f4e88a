use Rattle.std.proofs.Common.{◌∙◌, ◌≤◌, List, ap, arith, length, lit<, take_all}
use Rattle.complex_index.specs.{declared.indexed.Cochain.Cochain, Names.level}
use Rattle.cohomology.specs.Names.{chains_at}
use Rattle.job_report.proofs.ClassLemmas.{chains-more, class-inside}
use Rattle.job_report.proofs.chains.class_chains.Goals as goal

pub chain_of-requires : goal.chain_of-requires
chain_of-requires g c =
    (lit< tt, class-inside g.row.P c.args.index.now (g.B.Basis.classes c.args.basis.now) (g.met.B.Basis.canonical c.args.index.now c.args.basis.now c.requires) c.args.n c.loop-i.i c.class.result.now c.class.ensures)

pub loop-i-preserved : goal.loop-i-preserved
loop-i-preserved g c =
    chains-more {p = g.row.P} (level c.args.index.now c.args.n) (g.B.Basis.classes c.args.basis.now c.args.n) c.loop-i.i c.class.result.now _ _ _ (omega arith) c.class.ensures c.loop-i.invariant c.in_ok-chain_of.ensures c.in_ok-push.ensures.items

pub returns : goal.returns
returns g c =
    let zs : List (Cochain g.row.P) = g.B.Basis.classes c.args.basis.now c.args.n in
    let all : length zs ≤ c.loop-i.i = omega arith in
    c.from.ensures ∙ c.loop-i.invariant ∙ ap (chains_at {p = g.row.P} (level c.args.index.now c.args.n)) (take_all c.loop-i.i zs all)

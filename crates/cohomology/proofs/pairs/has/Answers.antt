use Rattle.std.proofs.Common.{subst, sym, ◌↔◌, Bool, IsTrue}
use Rattle.cohomology.proofs.{Below.{Among, level}, PairLemmas.has_simplex}
use Rattle.cohomology.proofs.pairs.has.Goals as goal

pub returns : goal.returns
returns c =
    subst (λ (b : Bool). IsTrue b ↔ Among c.args.vertices.now (level c.args.sub.now c.args.n)) (sym c.is_some.ensures)
    (has_simplex c.args.sub.now c.args.n c.args.vertices.now c.place_of.result c.requires c.place_of.ensures)

use Rattle.std.proofs.{Common.{List, ℕ, lit<, sym, subst}, lemmas.Result.IfOk-weaker}
use Rattle.cohomology.{specs.Names.{IsSubIndex, IsCohomologyOfPair}, proofs.CoboundaryLemmas.absolute_data, proofs.WalkLemmas.complex_pair}
use Rattle.cohomology.proofs.data.Cohomology.of.Goals as goal

pub of_pair-requires : goal.of_pair-requires
of_pair-requires g c = (lit< tt, (c.requires, subst (λ (s : List (List (List ℕ))). IsSubIndex c.args.index.now s) (sym c.in_ok-nothing.ensures) (complex_pair c.args.index.now)))

pub returns : goal.returns
returns g c =
    IfOk-weaker c.of_pair.result _ _ (λ d h. absolute_data g.row.P c.args.index.now d (subst (λ (s : List (List (List ℕ))). IsCohomologyOfPair g.row.P c.args.index.now s d) c.in_ok-nothing.ensures h)) c.of_pair.ensures

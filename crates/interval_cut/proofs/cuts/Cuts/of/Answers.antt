use Rattle.std.proofs.{Common.{◌≡◌, ◌-◌, ℕ, List, [], ◌∷◌, ◌++◌, length, replicate, arith, sym, ap, ◌∙◌, subst}, lemmas.List.length-replicate}
use Rattle.surjection_law.specs.Names.{IsSurjection, arity}
use Rattle.interval_cut_law.specs.Names.{IsCutFrom}
use Rattle.interval_cut.proofs.WalkLemmas.{cut-start}
use Rattle.interval_cut.proofs.cuts.Cuts.of.Goals as goal

pub invariant_of-result : goal.invariant_of-result
invariant_of-result c =
    let same : c.in_ok-to_vec.field-0.items ≡ c.args.values.now = c.in_ok-to_vec.ensures.items_if_clones_equal (λ x y e. e) in
    let zeros : c.in_ok-vec.field-0.items ≡ replicate (length c.args.values.now - 1) 0 = c.in_ok-vec.ensures.items_if_clones_equal (λ y e. e) in
    let some = c.requires.surjection.some in
    record {
      surjection = subst IsSurjection (sym same) c.requires.surjection;
      low = c.requires.low;
      most = c.greatest-most.ensures ∙ ap arity (sym same);
      long = omega (arith, ap length zeros, length-replicate {A = ℕ} (length c.args.values.now - 1) 0, ap length same, some);
      cut =
          subst (λ (u : List ℕ). IsCutFrom u 0 (c.in_ok-vec.field-0.items ++ (c.args.top ∷ []))) (sym same)
          (subst (λ (p : List ℕ). IsCutFrom c.args.values.now 0 (p ++ (c.args.top ∷ []))) (sym zeros) (cut-start c.args.values.now (length c.args.values.now - 1) c.args.top (omega (arith, some))));
      places = omega (arith, ap length same, c.in_ok-vec-2.ensures.len);
      vertices = omega (arith, c.in_ok-vec-2.ensures.len, c.in_ok-vec-4.ensures.len);
      starts = omega (arith, c.in_ok-vec-3.ensures.len);
      table = tt;
    }

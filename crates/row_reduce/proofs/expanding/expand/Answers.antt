use Rattle.std.proofs.Common.{◌≡◌, ◌%◌, ℕ, List, ◌∷◌, [], ◌++◌, sym, ap, subst, ◌∙◌, mod-eq_of_lt}
use Rattle.row_reduce.proofs.Below.{served_large, Congruent_mod, Congruent_of, Congruent_sym, Congruent_trans, IsBelow, value_in}
use Rattle.row_reduce.proofs.expanding.expand.Goals as goal

pub returns : goal.returns
returns g c =
    let p = g.row.P in
    let out = c.expand_into.new.out.items in
    let row = c.in_ok-row.row in
    let start : c.push.new.self.items ≡ (c.args.place, 1) ∷ [] =
    c.in_ok-push.ensures.items ∙ ap (λ (xs : List (ℕ × ℕ)). xs ++ ((c.args.place, c.new.result) ∷ [])) c.new-out.ensures.items
    ∙ ap (λ n. (c.args.place, n) ∷ []) (c.new.ensures ∙ mod-eq_of_lt (served_large p c.requires.prime)) in
    record {
      expanded = record {
        is = λ sources v from mine x.
            let sum : value_in row x ≡ value_in out x % p = c.in_ok-row.ensures.sum x ∙ ap (λ (r : List (ℕ × ℕ)). value_in r x % p) c.as_slice.ensures.value in
            Congruent_trans ((c.in_ok-expand_into.ensures.expanded c.args.place start).is sources v from mine x)
            (Congruent_sym (Congruent_trans (Congruent_of sum) (Congruent_mod p (value_in out x))));
      };
      is_row = c.in_ok-row.ensures.row;
      below = λ count numbered inside.
          c.in_ok-row.ensures.below count
          (subst (IsBelow count) (sym c.as_slice.ensures.value) (c.in_ok-expand_into.ensures.below count numbered (subst (IsBelow count) (sym start) (inside, tt))));
    }

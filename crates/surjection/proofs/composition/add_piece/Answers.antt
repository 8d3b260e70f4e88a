use Rattle.std.proofs.Common.{ℕ, ◌-◌, List, [], ◌∷◌, ◌++◌, append_assoc, ap, drop, get_or, sym, take, ◌∙◌}
use Rattle.surjection.{specs.Names.{Mark, Plain}, proofs.SpliceLemmas.piece-parts}
use Rattle.surjection.proofs.composition.add_piece.Goals as goal

pub returns : goal.returns
returns c =
    c.in_ok-push.ensures.ok ∙ ap (λ (l : List (ℕ × Mark)). l ++ ((get_or c.args.inner.now c.args.end (0, Plain)).0, c.args.mark) ∷ []) c.in_ok-extend_from_slice.ensures.ok
    ∙ append_assoc c.args.entries.now.items (take (c.args.end - c.args.start) (drop c.args.start c.args.inner.now)) (((get_or c.args.inner.now c.args.end (0, Plain)).0, c.args.mark) ∷ [])
    ∙ ap (λ (l : List (ℕ × Mark)). c.args.entries.now.items ++ l) (sym (piece-parts (0, Plain) c.args.start c.args.end c.args.inner.now c.args.mark c.requires.order c.requires.within))

use Rattle.std.proofs.{Common.{◌≡◌, ◌∙◌, ◌++◌, ◌*◌, Bor, ap, arith, length, map, sym, take_all, List, ℕ}, lemmas.List.{get_or-map, length-map}}
use Rattle.simplex_set.{specs.Pieces.pieces, proofs.Sizes.one_more_piece}
use Rattle.simplex_set.proofs.flat_lists.FlatLists.of.Goals as goal

abbrev seen : List (Bor (List ℕ)) → List (List ℕ)
seen = map (λ (s : Bor (List ℕ)). s.now)

pub loop-simplex-preserved : goal.loop-simplex-preserved
loop-simplex-preserved c =
    one_more_piece c.args.size c.loop-simplex.simplex-index (seen c.args.all.now) c.simplex-item.result.now c.loop-simplex.numbers.items c.extend_from_slice.new.self.items
    (omega (arith, length-map c.args.all.now (λ (s : Bor (List ℕ)). s.now))) (ap (λ (s : Bor (List ℕ)). s.now) c.simplex-item.is ∙ sym (get_or-map (λ (s : Bor (List ℕ)). s.now) c.args.all.now c.loop-simplex.simplex-index c.simplex-item.result c.simplex-item.result.now (omega arith)))
    c.requires (c.in_ok-extend_from_slice.ensures.items ∙ ap (λ (s : List ℕ). c.loop-simplex.numbers.items ++ s) c.vertices.ensures) c.loop-simplex.invariant

pub from_flat-requires : goal.from_flat-requires
from_flat-requires c = let e : c.loop-simplex.simplex-index ≡ length c.args.all.now = omega arith in c.loop-simplex.invariant.0 ∙ ap (λ (n : ℕ). n * c.args.size) e

pub returns : goal.returns
returns c =
    let e : length c.args.all.now ≡ c.loop-simplex.simplex-index = omega arith in
    c.from_flat.ensures ∙ ap (λ (n : ℕ). pieces c.args.size n c.loop-simplex.numbers.items) e ∙ c.loop-simplex.invariant.1 ∙ take_all c.loop-simplex.simplex-index (seen c.args.all.now) (omega (arith, length-map c.args.all.now (λ (s : Bor (List ℕ)). s.now)))

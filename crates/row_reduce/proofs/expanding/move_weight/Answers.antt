use Rattle.std.proofs.Common.{◌≡◌, ℕ, ◌+◌, ◌*◌, ◌<◌, get_or, List, sym, ap, ◌∙◌, subst}
use Rattle.row_reduce.{proofs.Below.{get_or_default, Congruent, each_get_or, each_push, IsBelow, value_in}, specs.Names.{Stored, Expanding}, proofs.SumLemmas.read_at, proofs.ExpansionLemmas.{expand_past, expand_step}}
use Rattle.row_reduce.proofs.expanding.move_weight.Goals as goal

pub returns-in_ok-push-clause-below : goal.returns-in_ok-push-clause-below
returns-in_ok-push-clause-below g c = λ count numbered h.
    let i : Stored g.row.P = get_or c.args.images.now c.args.k c.index-images-k.result in
    let inside : i.source < count = each_get_or (λ (s : Stored g.row.P). s.source < count) c.args.images.now c.args.k c.index-images-k.result c.requires.inside numbered in
    subst (IsBelow count) (sym c.in_ok-push.ensures.items) (each_push (λ (e : ℕ × ℕ). e.0 < count) c.args.out.now.items (i.source, c.index-weights-k.result) h inside)

pub returns-in_ok-push-clause-moved : goal.returns-in_ok-push-clause-moved
returns-in_ok-push-clause-moved g c =
    λ place history h.
    let p = g.row.P in
    let images = c.args.images.now in
    let weights = c.args.weights.now in
    let k = c.args.k in
    let i : Stored p = get_or images k c.index-images-k.result in
    let is : (s : Stored p) → i ≡ get_or images k s = λ s. get_or_default images k c.index-images-k.result s c.requires.inside in
    let w = c.index-weights-k.result in
    let w_is : w ≡ get_or weights k 0 = read_at weights k w c.index-weights-k.is (subst (λ n. k < n) (sym c.requires.full) c.requires.inside) in
    let hist : (get_or images k c.index-images-k-then-value-ne0.result).history ≡ i.history = ap (λ (s : Stored p). s.history) (sym (is c.index-images-k-then-value-ne0.result)) in
    let added : (j : ℕ) → Congruent p (get_or c.add_to.new.sum j 0) (get_or weights j 0 + w * value_in i.history j) = λ j.
    subst (λ (r : List (ℕ × ℕ)). Congruent p (get_or c.add_to.new.sum j 0) (get_or weights j 0 + w * value_in r j)) hist (c.add_to.ensures j) in
    let s = expand_step p images place history weights c.add_to.new.sum c.args.out.now.items k w i c.requires.inside w_is is added h in
    subst (λ (o : List (ℕ × ℕ)). Expanding p images place history c.add_to.new.sum o k) (sym c.in_ok-push.ensures.items) s

pub returns-else-value-ne0-clause-moved : goal.returns-else-value-ne0-clause-moved
returns-else-value-ne0-clause-moved g c =
    λ place history h.
    let weights = c.args.weights.now in
    let read = read_at weights c.args.k c.index-weights-k.result c.index-weights-k.is (subst (λ n. c.args.k < n) (sym c.requires.full) c.requires.inside) in
    expand_past g.row.P c.args.images.now place history weights c.args.out.now.items c.args.k (sym (c.value.ensures.same ∙ read) ∙ c.if-value-ne0.false) h

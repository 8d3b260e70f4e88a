use Rattle.std.proofs.{Common.{◌≡◌, ◌+◌, ◌≤◌, take, ◌∙◌, w64, to_z, of_z}, lemmas.Int.to_z-of_z, lemmas.Map.Lookups.exact_pairs}
use Rattle.signed_sum.{proofs.Names.paired_before-weight, specs.Names.weight_of}
use Rattle.operad_law.{specs.FormalSums.plus_term, proofs.PairSums.{fits_count, pair_order, plus-next, room-next}}
use Rattle.operad_law.proofs.pair.add_before.Goals as goal

pub add_small-requires : goal.add_small-requires
add_small-requires g c =
    let t = c.loop-left-item.result in
    let y = c.args.right.now in
    let terms = c.args.terms.now in
    let room = room-next (λ u. ((u.0, y), u.1)) terms c.loop-left.left-index t c.args.sum.now c.loop-left.sum 1000000000000000000 c.loop-left-test.true c.loop-left-item.is (paired_before-weight y (take c.loop-left.left-index terms)) c.requires c.loop-left.invariant in
    rw (to_z-of_z w64 t.1 (fits_count t.1 (weight_of c.loop-left.sum) room)) room

pub loop-left-preserved : goal.loop-left-preserved
loop-left-preserved g c =
    let t = c.loop-left-item.result in
    let y = c.args.right.now in
    let terms = c.args.terms.now in
    let mid = c.loop-left.sum in
    let room = room-next (λ u. ((u.0, y), u.1)) terms c.loop-left.left-index t c.args.sum.now mid 1000000000000000000 c.loop-left-test.true c.loop-left-item.is (paired_before-weight y (take c.loop-left.left-index terms)) c.requires c.loop-left.invariant in
    let count = to_z-of_z w64 t.1 (fits_count t.1 (weight_of mid) room) in
    plus-next (pair_order g.A.Ord.cmp g.B.Ord.cmp) (exact_pairs g.A.Ord.cmp g.B.Ord.cmp g.met.A.SignedBasis.equal_is_same g.met.B.SignedBasis.equal_is_same) (λ u. ((u.0, y), u.1)) terms c.loop-left.left-index t c.args.sum.now mid c.add_small.new.sum c.loop-left-test.true c.loop-left-item.is c.loop-left.invariant
    (c.in_ok-add_small.ensures ∙ (λ i. plus_term (pair_order g.A.Ord.cmp g.B.Ord.cmp) mid ((c.new-pair.ensures ∙ (λ j. (c.in_ok-copy.ensures j, c.in_ok-copy-2.ensures j))) i) (count i)))

use Rattle.std.proofs.{Common.{◌≡◌, ◌+◌, ◌≤◌, take, nat_abs, ◌∙◌, w64, to_z, of_z, ap, arith}, lemmas.Int.to_z-of_z, lemmas.Map.Lookups.exact_pairs}
use Rattle.signed_sum.{proofs.Names.{abs-signed, paired_behind-weight}, specs.Names.{signed, parity, weight_of}}
use Rattle.operad_law.{specs.FormalSums.plus_term, proofs.TermPlaces.weight_at, proofs.PairSums.{fits_count, pair_order, plus-next, room-next}}
use Rattle.operad_law.proofs.pair.add_behind.Goals as goal

pub exchanged-requires : goal.exchanged-requires
exchanged-requires g c =
    let t = c.loop-right-item.result in
    let within = weight_at c.args.terms.now c.loop-right.right-index t c.loop-right-test.true c.loop-right-item.is in
    let most = c.requires in
    let room : weight_of c.args.sum.now + nat_abs t.1 ≤ 1000000000000000000 = omega arith in
    let small : nat_abs t.1 ≤ 1000000000000000000 = omega arith in
    rw (to_z-of_z w64 t.1 (fits_count t.1 (weight_of c.args.sum.now) room)) small

pub add_small-requires : goal.add_small-requires
add_small-requires g c =
    let t = c.loop-right-item.result in
    let x = c.args.left.now in
    let n = parity c.args.odd in
    let terms = c.args.terms.now in
    let ex = c.exchanged.result in
    let mid = c.loop-right.sum in
    let room = room-next (λ u. ((x, u.0), signed n u.1)) terms c.loop-right.right-index t c.args.sum.now mid 1000000000000000000 c.loop-right-test.true c.loop-right-item.is (paired_behind-weight n x (take c.loop-right.right-index terms)) c.requires c.loop-right.invariant in
    let same : ex ≡ signed n t.1 = c.exchanged.ensures ∙ ap (signed n) (to_z-of_z w64 t.1 (fits_count t.1 (weight_of mid) room)) in
    let size : nat_abs ex ≡ nat_abs t.1 = ap nat_abs same ∙ abs-signed n t.1 in
    let turned : weight_of mid + nat_abs ex ≤ 1000000000000000000 = omega arith in
    rw (to_z-of_z w64 ex (fits_count ex (weight_of mid) turned)) turned

pub loop-right-preserved : goal.loop-right-preserved
loop-right-preserved g c =
    let t = c.loop-right-item.result in
    let x = c.args.left.now in
    let n = parity c.args.odd in
    let terms = c.args.terms.now in
    let ex = c.exchanged.result in
    let mid = c.loop-right.sum in
    let room = room-next (λ u. ((x, u.0), signed n u.1)) terms c.loop-right.right-index t c.args.sum.now mid 1000000000000000000 c.loop-right-test.true c.loop-right-item.is (paired_behind-weight n x (take c.loop-right.right-index terms)) c.requires c.loop-right.invariant in
    let same : ex ≡ signed n t.1 = c.exchanged.ensures ∙ ap (signed n) (to_z-of_z w64 t.1 (fits_count t.1 (weight_of mid) room)) in
    let size : nat_abs ex ≡ nat_abs t.1 = ap nat_abs same ∙ abs-signed n t.1 in
    let turned : weight_of mid + nat_abs ex ≤ 1000000000000000000 = omega arith in
    plus-next (pair_order g.A.Ord.cmp g.B.Ord.cmp) (exact_pairs g.A.Ord.cmp g.B.Ord.cmp g.met.A.SignedBasis.equal_is_same g.met.B.SignedBasis.equal_is_same) (λ u. ((x, u.0), signed n u.1)) terms c.loop-right.right-index t c.args.sum.now mid c.add_small.new.sum c.loop-right-test.true c.loop-right-item.is c.loop-right.invariant
    (c.in_ok-add_small.ensures
    ∙ (λ i. plus_term (pair_order g.A.Ord.cmp g.B.Ord.cmp) mid ((c.new-pair.ensures ∙ (λ j. (c.in_ok-copy.ensures j, c.in_ok-copy-2.ensures j))) i) ((to_z-of_z w64 ex (fits_count ex (weight_of mid) turned) ∙ same) i)))

use Rattle.std.proofs.Common.{arith, rules, sym, ap, ◌∙◌, ◌<◌, ◌≤◌, ◌+◌, ◌≢◌, length, get_or, Equal, w64, FitsSigned, ℤ, ◌+ℤ◌, nat_abs}
use Rattle.signed_sum.specs.Names.{weight_of}
use Rattle.std.proofs.lemmas.Int.{ints, to_z-of_z}
use Rattle.operad_law.proofs.TermPlaces.{plus_term-at, plus_term-gap, absent_here, equal_here, nothing_added, one_added, zero_bits, nonzero_bits, weight_at, weight_inserted, weight_changed}
use Rattle.operad_law.proofs.formal_sum.add_to.Goals as goal
use Rattle.operad_law.proofs.formal_sum.add_to.Goals.{else-place-len-via-then-place-len+else-is_eq, else-place-len-via-else-place-len, in-Ok, in-Err}

pub returns-then-is_eq-clause-ok : goal.returns-then-is_eq-clause-ok
returns-then-is_eq-clause-ok g c =
    let h : c.place_of-place.result < length c.args.terms.now.items = omega arith in
    let t = c.index.result.now in
    (rw (to_z-of_z w64 c.args.by c.ranges.by) at (c.change_at.ensures t))
    ∙ sym (plus_term-at g.B.Ord.cmp c.args.item c.args.by c.args.terms.now.items c.place_of-place.result t h
    (rw c.deref.ensures.value at c.place_of-place.ensures.above)
    (equal_here g.B.Ord.cmp c.args.item c.args.terms.now.items c.place_of-place.result t _ _ c.index.ensures c.cmp.ensures c.is_eq.ensures c.if-is_eq.true))

pub returns-then-by-eq0-clause-ok : goal.returns-then-by-eq0-clause-ok
returns-then-by-eq0-clause-ok g c =
    let absent : (d : g.row.B.Denot × ℤ) → c.place_of-place.result < length c.args.terms.now.items → g.B.Ord.cmp (get_or c.args.terms.now.items c.place_of-place.result d).0 c.args.item ≢ Equal =
    elim c.else-place-len.branch [
      | else-place-len-via-then-place-len+else-is_eq w ↦ absent_here g.B.Ord.cmp c.args.item c.args.terms.now.items c.place_of-place.result w.index.result.now _ _ w.index.ensures w.cmp.ensures w.is_eq.ensures w.if-is_eq.false
      | else-place-len-via-else-place-len w ↦ λ d h. absurd (omega arith)
    ] in
    let stops = rw c.deref.ensures.value at c.place_of-place.ensures.stops in
    sym (plus_term-gap g.B.Ord.cmp c.args.item c.args.by c.args.terms.now.items c.place_of-place.result (rw c.deref.ensures.value at c.place_of-place.ensures.above) (λ d h. (stops d h, absent d h))
    ∙ nothing_added c.args.terms.now.items c.place_of-place.result c.args.item c.args.by (zero_bits c.args.by c.ranges.by c.if-by-eq0.true))

pub returns-clause-ok : goal.returns-clause-ok
returns-clause-ok g c =
    let absent : (d : g.row.B.Denot × ℤ) → c.place_of-place.result < length c.args.terms.now.items → g.B.Ord.cmp (get_or c.args.terms.now.items c.place_of-place.result d).0 c.args.item ≢ Equal =
    elim c.else-place-len.branch [
      | else-place-len-via-then-place-len+else-is_eq w ↦ absent_here g.B.Ord.cmp c.args.item c.args.terms.now.items c.place_of-place.result w.index.result.now _ _ w.index.ensures w.cmp.ensures w.is_eq.ensures w.if-is_eq.false
      | else-place-len-via-else-place-len w ↦ λ d h. absurd (omega arith)
    ] in
    let stops = rw c.deref.ensures.value at c.place_of-place.ensures.stops in
    let e = plus_term-gap g.B.Ord.cmp c.args.item c.args.by c.args.terms.now.items c.place_of-place.result (rw c.deref.ensures.value at c.place_of-place.ensures.above) (λ d h. (stops d h, absent d h))
    ∙ one_added c.args.terms.now.items c.place_of-place.result c.args.item c.args.by (nonzero_bits c.args.by c.if-by-eq0.false) in
    elim c.match-insert.branch [
      | in-Ok w ↦ rw w.result-is ((rw (to_z-of_z w64 c.args.by c.ranges.by) at w.in-Ok.ensures.items) ∙ sym e)
      | in-Err w ↦ rw w.result-is tt
    ]

pub weight_after-requires-clause-within : goal.weight_after-requires-clause-within
weight_after-requires-clause-within g c =
    let t = c.index-then-is_eq.result.now in
    let f : FitsSigned w64 t.1 = search rules in
    let h : c.place_of-place.result < length c.args.terms.now.items = omega arith in
    let m : nat_abs t.1 ≤ weight_of c.args.terms.now.items = weight_at c.args.terms.now.items c.place_of-place.result t h c.index-then-is_eq.ensures in
    rw (to_z-of_z w64 t.1 f) (omega (arith, m, c.requires.weighed))

pub returns-then-is_eq-clause-weighed : goal.returns-then-is_eq-clause-weighed
returns-then-is_eq-clause-weighed g c =
    let t = c.index-then-is_eq.result.now in
    let f : FitsSigned w64 t.1 = search rules in
    let h : c.place_of-place.result < length c.args.terms.now.items = omega arith in
    weight_changed c.args.terms.now.items c.change_at.new.terms.items c.place_of-place.result t c.args.by c.weight_after.result h c.index-then-is_eq.ensures
    (rw (to_z-of_z w64 c.args.by c.ranges.by) at (c.change_at.ensures t))
    ((rw (to_z-of_z w64 t.1 f, to_z-of_z w64 c.args.by c.ranges.by) at c.weight_after.ensures) ∙ ap (λ v. v + nat_abs (t.1 +ℤ c.args.by)) c.requires.weighed)

pub returns-clause-weighed : goal.returns-clause-weighed
returns-clause-weighed g c = elim c.match-insert.branch [
  | in-Ok w ↦ rw w.result-is (omega (arith, ints, c.requires.weighed, ap weight_of (rw (to_z-of_z w64 c.args.by c.ranges.by) at w.in-Ok.ensures.items), weight_inserted c.args.terms.now.items c.place_of-place.result c.args.item c.args.by))
  | in-Err w ↦ rw w.result-is tt
]

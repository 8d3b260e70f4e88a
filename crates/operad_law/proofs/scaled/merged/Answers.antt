use Rattle.std.proofs.{Common.{arith, rules, ap, ◌∙◌, ◌≤◌, ◌<◌, ◌+◌, ◌*◌, ◌^◌, ◌⊎◌, ◌++◌, [], inl, inr, length, Less, Greater, w64, to_z, of_z, FitsSigned, ℤ, ◌*ℤ◌, nat_abs}, lemmas.Int.to_z-of_z}
use Rattle.signed_sum.specs.Names.{weight_of}
use Rattle.operad_law.{specs.FormalSums.with_term, proofs.Merging.{first_within, other_within, both_within, more_first, more_other, more_both, times_bound, times_fits, times_is, sum_fits, sum_is, merged-scaled}, proofs.TermPlaces.weight_at, proofs.scaled.merged.Goals.{then-i-first, else-i-first+then-j-other}}
use Rattle.operad_law.proofs.scaled.merged.Goals as goal

pub loop-i-preserved-in-Less : goal.loop-i-preserved-in-Less
loop-i-preserved-in-Less g c =
    let t = c.index-first-i.result in
    let f : FitsSigned w64 t.1 = search rules in
    let h : c.loop-i.i < length c.args.first.now = first_within g.B.Ord.cmp c.args.first.now c.args.other.now c.loop-i.i c.loop-i.j Less c.in-Less.ensures (λ e. cc e) in
    record {
      within = omega arith;
      within_other = c.loop-i.invariant.within_other;
      merging = more_first g.B.Ord.cmp g.met.B.Ord.total c.args.first.now c.args.other.now (to_z w64 (of_z w64 c.args.by)) c.loop-i.total.items c.push_term.new.terms.items c.loop-i.i c.loop-i.j t h c.index-first-i.is c.in-Less.ensures c.loop-i.invariant.merging
          (rw (to_z-of_z w64 t.1 f) at c.in_ok-push_term-in-Less.ensures);
    }

pub bounds-other-j : goal.bounds-other-j
bounds-other-j g c =
    let some : c.loop-i.i < length c.args.first.now ⊎ c.loop-i.j < length c.args.other.now = elim c.if-i-first.branch [ then-i-first w ↦ inl w.if-i-first.true | else-i-first+then-j-other w ↦ inr w.if-j-other.true ] in
    other_within g.B.Ord.cmp c.args.first.now c.args.other.now c.loop-i.i c.loop-i.j Greater c.in-Greater.ensures (λ e. cc e) c.loop-i.invariant.within c.loop-i.invariant.within_other some

pub overflow_mul-u : goal.overflow_mul-u
overflow_mul-u g c =
    let u = c.index-other-j.result in
    let by : ℤ = to_z w64 (of_z w64 c.args.by) in
    let f : FitsSigned w64 u.1 = search rules in
    let some : c.loop-i.i < length c.args.first.now ⊎ c.loop-i.j < length c.args.other.now = elim c.if-i-first.branch [ then-i-first w ↦ inl w.if-i-first.true | else-i-first+then-j-other w ↦ inr w.if-j-other.true ] in
    let h : c.loop-i.j < length c.args.other.now = other_within g.B.Ord.cmp c.args.first.now c.args.other.now c.loop-i.i c.loop-i.j Greater c.in-Greater.ensures (λ e. cc e) c.loop-i.invariant.within c.loop-i.invariant.within_other some in
    let fits : weight_of c.args.first.now + nat_abs by * weight_of c.args.other.now ≤ 10 ^ 18 = rw (to_z-of_z w64 c.args.by c.ranges.by) c.requires.fits in
    let m : nat_abs (u.1 *ℤ by) ≤ nat_abs by * weight_of c.args.other.now = times_bound c.args.other.now c.loop-i.j u by h c.index-other-j.is in
    times_fits u.1 by f (omega arith)

pub loop-i-smaller-in-Greater : goal.loop-i-smaller-in-Greater
loop-i-smaller-in-Greater g c =
    let some : c.loop-i.i < length c.args.first.now ⊎ c.loop-i.j < length c.args.other.now = elim c.if-i-first.branch [ then-i-first w ↦ inl w.if-i-first.true | else-i-first+then-j-other w ↦ inr w.if-j-other.true ] in
    let h : c.loop-i.j < length c.args.other.now = other_within g.B.Ord.cmp c.args.first.now c.args.other.now c.loop-i.i c.loop-i.j Greater c.in-Greater.ensures (λ e. cc e) c.loop-i.invariant.within c.loop-i.invariant.within_other some in
    omega (arith, h)

pub loop-i-preserved-in-Greater : goal.loop-i-preserved-in-Greater
loop-i-preserved-in-Greater g c =
    let u = c.index-other-j.result in
    let by : ℤ = to_z w64 (of_z w64 c.args.by) in
    let f : FitsSigned w64 u.1 = search rules in
    let some : c.loop-i.i < length c.args.first.now ⊎ c.loop-i.j < length c.args.other.now = elim c.if-i-first.branch [ then-i-first w ↦ inl w.if-i-first.true | else-i-first+then-j-other w ↦ inr w.if-j-other.true ] in
    let h : c.loop-i.j < length c.args.other.now = other_within g.B.Ord.cmp c.args.first.now c.args.other.now c.loop-i.i c.loop-i.j Greater c.in-Greater.ensures (λ e. cc e) c.loop-i.invariant.within c.loop-i.invariant.within_other some in
    let fits : weight_of c.args.first.now + nat_abs by * weight_of c.args.other.now ≤ 10 ^ 18 = rw (to_z-of_z w64 c.args.by c.ranges.by) c.requires.fits in
    let m : nat_abs (u.1 *ℤ by) ≤ nat_abs by * weight_of c.args.other.now = times_bound c.args.other.now c.loop-i.j u by h c.index-other-j.is in
    record {
      within = c.loop-i.invariant.within;
      within_other = omega arith;
      merging = more_other g.B.Ord.cmp g.met.B.Ord.total c.args.first.now c.args.other.now by c.loop-i.total.items c.push_term-in-Greater.new.terms.items c.loop-i.i c.loop-i.j u h c.index-other-j.is c.in-Greater.ensures c.loop-i.invariant.merging
          (c.in_ok-push_term-in-Greater.ensures ∙ ap (λ v. c.loop-i.total.items ++ with_term u.0 v []) (times_is u.1 by f (omega arith)));
    }

pub overflow_mul-u-in-Equal : goal.overflow_mul-u-in-Equal
overflow_mul-u-in-Equal g c =
    let u = c.index-other-j-in-Equal.result in
    let by : ℤ = to_z w64 (of_z w64 c.args.by) in
    let f : FitsSigned w64 u.1 = search rules in
    let h : c.loop-i.j < length c.args.other.now = (both_within g.B.Ord.cmp c.args.first.now c.args.other.now c.loop-i.i c.loop-i.j c.in-Equal.ensures).1 in
    let fits : weight_of c.args.first.now + nat_abs by * weight_of c.args.other.now ≤ 10 ^ 18 = rw (to_z-of_z w64 c.args.by c.ranges.by) c.requires.fits in
    let m : nat_abs (u.1 *ℤ by) ≤ nat_abs by * weight_of c.args.other.now = times_bound c.args.other.now c.loop-i.j u by h c.index-other-j-in-Equal.is in
    times_fits u.1 by f (omega arith)

pub overflow_add-t : goal.overflow_add-t
overflow_add-t g c =
    let t = c.index-first-i-in-Equal.result in
    let u = c.index-other-j-in-Equal.result in
    let by : ℤ = to_z w64 (of_z w64 c.args.by) in
    let e : FitsSigned w64 t.1 = search rules in
    let f : FitsSigned w64 u.1 = search rules in
    let h : c.loop-i.i < length c.args.first.now = (both_within g.B.Ord.cmp c.args.first.now c.args.other.now c.loop-i.i c.loop-i.j c.in-Equal.ensures).0 in
    let k : c.loop-i.j < length c.args.other.now = (both_within g.B.Ord.cmp c.args.first.now c.args.other.now c.loop-i.i c.loop-i.j c.in-Equal.ensures).1 in
    let fits : weight_of c.args.first.now + nat_abs by * weight_of c.args.other.now ≤ 10 ^ 18 = rw (to_z-of_z w64 c.args.by c.ranges.by) c.requires.fits in
    let m : nat_abs (u.1 *ℤ by) ≤ nat_abs by * weight_of c.args.other.now = times_bound c.args.other.now c.loop-i.j u by k c.index-other-j-in-Equal.is in
    let n : nat_abs t.1 ≤ weight_of c.args.first.now = weight_at c.args.first.now c.loop-i.i t h c.index-first-i-in-Equal.is in
    sum_fits t.1 (u.1 *ℤ by) _ e (times_is u.1 by f (omega arith)) (omega arith)

pub loop-i-preserved : goal.loop-i-preserved
loop-i-preserved g c =
    let t = c.index-first-i-in-Equal.result in
    let u = c.index-other-j-in-Equal.result in
    let by : ℤ = to_z w64 (of_z w64 c.args.by) in
    let e : FitsSigned w64 t.1 = search rules in
    let f : FitsSigned w64 u.1 = search rules in
    let h : c.loop-i.i < length c.args.first.now = (both_within g.B.Ord.cmp c.args.first.now c.args.other.now c.loop-i.i c.loop-i.j c.in-Equal.ensures).0 in
    let k : c.loop-i.j < length c.args.other.now = (both_within g.B.Ord.cmp c.args.first.now c.args.other.now c.loop-i.i c.loop-i.j c.in-Equal.ensures).1 in
    let fits : weight_of c.args.first.now + nat_abs by * weight_of c.args.other.now ≤ 10 ^ 18 = rw (to_z-of_z w64 c.args.by c.ranges.by) c.requires.fits in
    let m : nat_abs (u.1 *ℤ by) ≤ nat_abs by * weight_of c.args.other.now = times_bound c.args.other.now c.loop-i.j u by k c.index-other-j-in-Equal.is in
    let n : nat_abs t.1 ≤ weight_of c.args.first.now = weight_at c.args.first.now c.loop-i.i t h c.index-first-i-in-Equal.is in
    record {
      within = omega arith;
      within_other = omega arith;
      merging = more_both g.B.Ord.cmp g.met.B.SignedBasis.equal_is_same c.args.first.now c.args.other.now by c.loop-i.total.items c.push_term-in-Equal.new.terms.items c.loop-i.i c.loop-i.j t u h c.index-first-i-in-Equal.is k c.index-other-j-in-Equal.is c.in-Equal.ensures c.loop-i.invariant.merging
          (c.in_ok-push_term-in-Equal.ensures ∙ ap (λ v. c.loop-i.total.items ++ with_term t.0 v []) (sum_is t.1 (u.1 *ℤ by) _ e (times_is u.1 by f (omega arith)) (omega arith)));
    }

pub returns-clause-scaled : goal.returns-clause-scaled
returns-clause-scaled g c =
    rw (to_z-of_z w64 c.args.by c.ranges.by) at
    (merged-scaled g.B.Ord.cmp c.args.first.now c.args.other.now (to_z w64 (of_z w64 c.args.by)) c.loop-i.total.items c.loop-i.i c.loop-i.j c.if-i-first.false c.if-j-other.false c.loop-i.invariant.merging)

use Rattle.std.proofs.Common.{◌≡◌, ℕ, ◌+◌, ◌*◌, ◌<◌, List, length, get_or, drop, arith, lit<, sym, ◌∙◌, subst}
use Rattle.row_reduce.{proofs.Below.{Congruent, IsBelow, value_in}, specs.Names.{run_from, zipped}, proofs.EntryLemmas.{alone_part, both_parts, each_left, each_rest, run_inside, run_part}}
use Rattle.row_reduce.proofs.entries.Entries.add_to.Goals as goal

pub add_alone-requires : goal.add_alone-requires
add_alone-requires g c =
    let places = c.self.inside.places.items in
    let values = c.self.inside.values.items in
    let same : length c.as_slice-2.result.now ≡ length c.split_at.result.0.now = omega (arith, c.split_at.ensures.front_len, c.len.ensures, c.as_slice-2.ensures.len) in
    let fits = each_left (λ (e : ℕ × ℕ). e.0 < length c.args.sum.now) (zipped places values) (run_from c.self.inside.first (drop (length places) values)) (subst (IsBelow (length c.args.sum.now)) (sym c.self.view_is) c.requires.fits) in
    (lit< tt, (c.requires.prime, (same, subst (IsBelow (length c.args.sum.now)) (sym (alone_part places values c.as_slice-2.result.now c.as_slice.result.now c.split_at.result.0.now c.len.result c.as_slice-2.ensures.value c.as_slice.ensures.value (c.len.ensures ∙ sym c.as_slice-2.ensures.len) c.split_at.ensures.front c.self.invariant.0)) fits)))

pub add_run-requires : goal.add_run-requires
add_run-requires g c =
    let places = c.self.inside.places.items in
    let values = c.self.inside.values.items in
    let first = c.self.inside.first in
    let fits = each_rest (λ (e : ℕ × ℕ). e.0 < length c.args.sum.now) (zipped places values) (run_from first (drop (length places) values)) (subst (IsBelow (length c.args.sum.now)) (sym c.self.view_is) c.requires.fits) in (
      lit< tt,
      (
        c.requires.prime,
        (λ i b.
            let inside : first + i < length c.args.sum.now = run_inside (length c.args.sum.now) first (drop (length places) values) fits i (subst (λ (rs : List ℕ). i < length rs) (run_part places values c.as_slice-2.result.now c.as_slice.result.now c.split_at.result.1.now c.len.result c.as_slice-2.ensures.value c.as_slice.ensures.value (c.len.ensures ∙ sym c.as_slice-2.ensures.len) c.split_at.ensures.back) b) in
            omega (arith, inside, c.add_alone.auto.sum)),
      ),
    )

pub returns : goal.returns
returns g c = λ k.
    let p = g.row.P in
    let by = c.args.by in
    let old = get_or c.args.sum.now k 0 in
    let middle = get_or c.add_alone.new.sum k 0 in
    let new = get_or c.add_run.new.sum k 0 in
    let places = c.self.inside.places.items in
    let values = c.self.inside.values.items in
    let first = c.self.inside.first in
    subst (λ (es : List (ℕ × ℕ)). Congruent p new (old + by * value_in es k)) c.self.view_is
    (both_parts p by old middle new (zipped places values) (run_from first (drop (length places) values)) k
    (subst (λ (es : List (ℕ × ℕ)). Congruent p middle (old + by * value_in es k)) (alone_part places values c.as_slice-2.result.now c.as_slice.result.now c.split_at.result.0.now c.len.result c.as_slice-2.ensures.value c.as_slice.ensures.value (c.len.ensures ∙ sym c.as_slice-2.ensures.len) c.split_at.ensures.front c.self.invariant.0) (c.add_alone.ensures k))
    (subst (λ (rs : List ℕ). Congruent p new (middle + by * value_in (run_from first rs) k)) (run_part places values c.as_slice-2.result.now c.as_slice.result.now c.split_at.result.1.now c.len.result c.as_slice-2.ensures.value c.as_slice.ensures.value (c.len.ensures ∙ sym c.as_slice-2.ensures.len) c.split_at.ensures.back) (c.add_run.ensures k)))

use Rattle.std.proofs.Common.{◌+◌, ◌-◌, ◌<◌, arith, subst, sym, ap, ◌∙◌, length, slice_index}
use Rattle.linear_law.specs.Names.{Each}
use Rattle.interval_cut.proofs.FaceLemmas.{face_at, part_short, places_below}
use Rattle.interval_cut.proofs.faces.Faces.face.Goals as goal

pub bounds-starts-k : goal.bounds-starts-k
bounds-starts-k c = let h = c.requires.table.1.room in omega (arith, h, c.as_slice-starts.ensures.len, c.requires.inside)

pub bounds-starts-k-2 : goal.bounds-starts-k-2
bounds-starts-k-2 c = let h = c.requires.table.1.room in omega (arith, h, c.as_slice-starts.ensures.len, c.requires.inside)

pub part-requires-clause-order : goal.part-requires-clause-order
part-requires-clause-order c =
    (face_at _ _ _ c.args.k (c.args.k + 1) _ _ _ _ (λ _. c.args.k + 1) c.as_slice.ensures.value c.as_slice-starts.ensures.value c.requires.table.1.table (omega (arith, c.requires.inside))).0

pub part-requires-clause-inside : goal.part-requires-clause-inside
part-requires-clause-inside c =
    (face_at _ _ _ c.args.k (c.args.k + 1) _ _ _ _ (λ _. c.args.k + 1) c.as_slice.ensures.value c.as_slice-starts.ensures.value c.requires.table.1.table (omega (arith, c.requires.inside))).1

pub returns-clause-value : goal.returns-clause-value
returns-clause-value c u p t =
    c.part.ensures ∙ (face_at u p _ c.args.k (c.args.k + 1) _ _ _ _ (λ _. c.args.k + 1) c.as_slice.ensures.value c.as_slice-starts.ensures.value t (omega (arith, c.requires.inside))).2

pub returns-clause-below : goal.returns-clause-below
returns-clause-below c n h =
    subst (λ xs. Each (λ m. m < n) xs)
    (sym (c.part.ensures ∙ (face_at _ _ _ c.args.k (c.args.k + 1) _ _ _ _ (λ _. c.args.k + 1) c.as_slice.ensures.value c.as_slice-starts.ensures.value h.table (omega (arith, c.requires.inside))).2))
    (places_below (c.args.k + 1) h.values 0 h.points n h.cut h.below)

pub returns-clause-short : goal.returns-clause-short
returns-clause-short c = let h = part_short (slice_index c.as_slice-starts.result.now (c.args.k + 1) - slice_index c.as_slice-starts.result.now c.args.k) (slice_index c.as_slice-starts.result.now c.args.k) c.as_slice.result.now in omega (arith, ap length c.part.ensures, h, c.as_slice.ensures.len)

use Rattle.std.proofs.Common.{ℕ, get_or, ◌≡◌, ◌<◌, length, List, ◌∷◌, [], ◌++◌, arith, sym, ◌∙◌, subst, add-one, lit<}
use Rattle.row_reduce.{proofs.Below.{served_field, Congruent, IsBelow, value_in}, specs.Names.{Stored, Class, IsMarkedIn, Owns, Reached}, proofs.SumLemmas.row_read, proofs.StepLemmas.{mark_read, not_both, reached_skip, reduced_here, row_within, step_class, step_stored, still_row}}
use Rattle.row_reduce.proofs.walking.Walk.step.Goals as goal

pub returns-then-index-clause-reached : goal.returns-then-index-clause-reached
returns-then-index-clause-reached g c =
    let p = g.row.P in
    let w = c.args.self.now in
    let rows = c.args.rows.now in
    let low = c.args.low in
    let h = c.requires.reached in
    let marked : IsMarkedIn w.skip.items low = sym (mark_read w.skip.items low c.index.result.now c.index.ensures (let e = h.skips.full in omega (arith, e, c.requires.inside))) ∙ c.if-index.true in
    record {
      skips = h.skips;
      reached = reached_skip p (length c.args.sum.now) (served_field p c.requires.prime) rows w.skip.items low w.classes.items w.stored.items w.pivots
          (subst (λ n. Reached p (length c.args.sum.now) rows (IsMarkedIn w.skip.items) n w.classes.items w.stored.items w.pivots) (add-one low) h.reached) c.requires.inside marked (h.skips.each low marked);
    }

pub load-start-requires : goal.load-start-requires
load-start-requires g c =
    (lit< tt, (c.requires.prime, (c.requires.clear, row_within (length c.args.sum.now) c.args.rows.now c.args.low c.as_slice-row.result.now c.index-rows-low.result c.as_slice-row.ensures.same c.index-rows-low.is c.requires.inside c.requires.rows.within)))

pub store-requires : goal.store-requires
store-requires g c =
    let p = g.row.P in
    let rows = c.args.rows.now in
    let width = length c.args.sum.now in
    let stored = c.args.self.now.stored.items in
    let pivots = c.args.self.now.pivots in
    let left = c.reduce.new.sum in
    let given = c.as_slice-row.result.now in
    let full : length left ≡ width = c.reduce.auto.sum ∙ c.load-start.auto.sum in
    let done = reduced_here p width stored c.as_slice.result.now pivots c.load-start.new.sum left c.in_ok-left.left.0 c.in_ok-left.left.1.items c.load-start.auto.sum c.as_slice.ensures.value c.in_ok-left.ensures in
    let s : Stored p = record { place = 0; factor = 0; row = []; source = 0; history = [] } in
    let b : c.in_ok-left.left.0 < width = let d = done.inside in let f = c.if-left-sum.false in omega arith in
    let fits : IsBelow width given = row_within width rows c.args.low given c.index-rows-low.result c.as_slice-row.ensures.same c.index-rows-low.is c.requires.inside c.requires.rows.within in
    let same : (e : c.in_ok-left.left.1.items ≡ []) (y : ℕ) → Congruent p (get_or left y 0) (value_in given y) = λ e y.
    still_row p width stored pivots c.load-start.new.sum left c.in_ok-left.left.0 c.load-start.result given c.in_ok-left.left.1.items s e c.load-start.ensures done y in
    (lit< tt, (lit< tt, (c.requires.prime, (omega (arith, full, c.requires.rows.narrow), (done.before, (omega (arith, full, b), ((done.stop b).0, (subst (λ n. IsBelow n given) (sym full) fits, same))))))))

pub returns-in_ok-push-clause-reached : goal.returns-in_ok-push-clause-reached
returns-in_ok-push-clause-reached g c =
    let p = g.row.P in
    let width = length c.args.sum.now in
    let rows = c.args.rows.now in
    let low = c.args.low in
    let w = c.args.self.now in
    let h = c.requires.reached in
    let skipped = IsMarkedIn w.skip.items in
    let classes = w.classes.items in
    let stored = w.stored.items in
    let done = reduced_here p width stored c.as_slice.result.now w.pivots c.load-start.new.sum c.reduce.new.sum c.in_ok-left.left.0 c.in_ok-left.left.1.items c.load-start.auto.sum c.as_slice.ensures.value c.in_ok-left.ensures in
    let s : Stored p = record { place = 0; factor = 0; row = []; source = 0; history = [] } in
    record {
      skips = h.skips;
      reached = subst (λ (cs : List (Class p)). Reached p width rows skipped low cs stored w.pivots) (sym c.in_ok-push.ensures.items)
          (step_class p width (served_field p c.requires.prime) rows skipped low classes stored w.pivots
          (subst (λ n. Reached p width rows skipped n classes stored w.pivots) (add-one low) h.reached) c.requires.inside
          (λ m. not_both (sym c.if-index.false ∙ mark_read w.skip.items low c.index.result.now c.index.ensures (let e = h.skips.full in omega (arith, e, c.requires.inside)) ∙ m)) c.as_slice-row.result.now
          (c.as_slice-row.ensures.same ∙ row_read rows low c.index-rows-low.result c.index-rows-low.is c.requires.inside)
          c.load-start.new.sum c.reduce.new.sum c.load-start.result c.load-start.ensures c.in_ok-left.left.0 c.in_ok-left.left.1.items done s c.in_ok-class.class c.in_ok-class.ensures.0 c.in_ok-class.ensures.1 (omega arith));
    }

pub returns-in_ok-append-clause-reached : goal.returns-in_ok-append-clause-reached
returns-in_ok-append-clause-reached g c =
    let p = g.row.P in
    let width = length c.args.sum.now in
    let rows = c.args.rows.now in
    let low = c.args.low in
    let w = c.args.self.now in
    let h = c.requires.reached in
    let skipped = IsMarkedIn w.skip.items in
    let classes = w.classes.items in
    let stored = w.stored.items in
    let i = c.in_ok-stored.stored in
    let done = reduced_here p width stored c.as_slice.result.now w.pivots c.load-start.new.sum c.reduce.new.sum c.in_ok-left.left.0 c.in_ok-left.left.1.items c.load-start.auto.sum c.as_slice.ensures.value c.in_ok-left.ensures in
    let full : length c.reduce.new.sum ≡ width = c.reduce.auto.sum ∙ c.load-start.auto.sum in
    let b : c.in_ok-left.left.0 < width = let d = done.inside in let f = c.if-left-sum.false in omega arith in
    let owns : Owns width (stored ++ (i ∷ [])) c.append.new.pivots =
    subst (λ n. Owns n (stored ++ (i ∷ [])) c.append.new.pivots) h.reached.owns.full
    (subst (λ (is : List (Stored p)). Owns (length w.pivots) is c.append.new.pivots) c.in_ok-append.ensures.items c.in_ok-append.ensures.owns) in
    record {
      skips = h.skips;
      reached = subst (λ (is : List (Stored p)). Reached p width rows skipped low classes is c.append.new.pivots) (sym c.in_ok-append.ensures.items)
          (step_stored p width (served_field p c.requires.prime) rows skipped low classes stored w.pivots
          (subst (λ n. Reached p width rows skipped n classes stored w.pivots) (add-one low) h.reached) c.requires.inside
          (λ m. not_both (sym c.if-index.false ∙ mark_read w.skip.items low c.index.result.now c.index.ensures (let e = h.skips.full in omega (arith, e, c.requires.inside)) ∙ m)) c.as_slice-row.result.now
          (c.as_slice-row.ensures.same ∙ row_read rows low c.index-rows-low.result c.index-rows-low.is c.requires.inside)
          c.load-start.new.sum c.reduce.new.sum c.load-start.result c.load-start.ensures c.in_ok-left.left.0 c.in_ok-left.left.1.items done i c.store.new.sum c.append.new.pivots full c.in_ok-stored.ensures b owns);
    }

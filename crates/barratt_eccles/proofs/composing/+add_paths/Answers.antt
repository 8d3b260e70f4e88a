use Rattle.std.proofs.{Common.{sym, ap, ◌∙◌, ◌≡◌, ◌≤◌, ◌-◌, ◌^◌, ◌++◌, ◌∷◌, [], length, drop, arith, eqb-true, refl, subst, w64, to_z, of_z, ℤ, nat_abs, length-drop}, lemmas.Result.on_ok_weaker}
use Rattle.signed_sum.specs.Names.{signed}
use Rattle.barratt_eccles.{specs.CompositionWalk.AddsPaths, proofs.EntryLemmas.rest-slice, proofs.PathLemmas.{AddsPaths-empty, AddsPaths-end, AddsPaths-next, AddsPaths-none, AddsPaths-same, IsHere, bits-same, many, point-end, point-x, point-y, room-end, room-x, room-y, signed-small, within-entry}, proofs.RefusalLemmas.not_empty, proofs.composing.+add_paths.Goals.{then-is_empty-via-then-is_empty, then-is_empty-via-else-is_empty+then-is_empty-2}}
use Rattle.barratt_eccles.proofs.composing.+add_paths.Goals as goal

pub returns-then-is_empty : goal.returns-then-is_empty
returns-then-is_empty t c = elim c.then-is_empty.branch [
  | then-is_empty-via-then-is_empty w ↦
      AddsPaths-none c.args.k c.args.outer.now c.args.inner.now c.args.before.now c.args.sign c.args.sum.now (eqb-true (length c.args.outer.now) 0 (sym c.is_empty.ensures ∙ w.if-is_empty.true))
  | then-is_empty-via-else-is_empty+then-is_empty-2 w ↦
      AddsPaths-empty c.args.k c.args.outer.now c.args.inner.now c.args.before.now c.args.sign c.args.sum.now (eqb-true (length c.args.inner.now) 0 (sym w.is_empty-else-is_empty.ensures ∙ w.if-is_empty-2.true))
]

pub composed_entry-requires-clause-within : goal.composed_entry-requires-clause-within
composed_entry-requires-clause-within t c =
    within-entry c.args.k c.args.outer.now c.args.inner.now c.args.before.now c.index-outer-0.result c.requires.point c.index-outer-0.is (not_empty c.args.outer.now (sym c.is_empty.ensures ∙ c.if-is_empty.false))

pub add_tuple-requires : goal.add_tuple-requires
add_tuple-requires t c =
    let here : IsHere c.args.k c.args.outer.now c.args.inner.now c.args.before.now c.in_ok-along.along.items c.index-outer-0.result c.index-inner-0.result = record {
      first = c.index-outer-0.is;
      second = c.index-inner-0.is;
      some = not_empty c.args.outer.now (sym c.is_empty.ensures ∙ c.if-is_empty.false);
      more = not_empty c.args.inner.now (sym c.is_empty-else-is_empty.ensures ∙ c.if-is_empty-2.false);
      grown = c.in_ok-along.ensures ∙ ap (λ e. c.args.before.now ++ e ∷ []) c.in_ok-entry.ensures;
    } in
    record {
      generator = point-end c.requires.point here;
      small = rw (bits-same c.args.sign c.requires.small) c.requires.small;
      light = room-end c.args.outer.now c.args.inner.now c.args.sum.now (10 ^ 18) c.if-outer-eq1.true c.if-inner-eq1.true c.requires.light;
    }

pub returns-then-inner-eq1 : goal.returns-then-inner-eq1
returns-then-inner-eq1 t c =
    let here : IsHere c.args.k c.args.outer.now c.args.inner.now c.args.before.now c.in_ok-along.along.items c.index-outer-0.result c.index-inner-0.result = record {
      first = c.index-outer-0.is;
      second = c.index-inner-0.is;
      some = not_empty c.args.outer.now (sym c.is_empty.ensures ∙ c.if-is_empty.false);
      more = not_empty c.args.inner.now (sym c.is_empty-else-is_empty.ensures ∙ c.if-is_empty-2.false);
      grown = c.in_ok-along.ensures ∙ ap (λ e. c.args.before.now ++ e ∷ []) c.in_ok-entry.ensures;
    } in
    on_ok_weaker c.add_tuple.result (AddsPaths-end _ _ _ _ _ _ _ c.args.sign c.args.sum.now c.add_tuple.new.sum here c.if-outer-eq1.true c.if-inner-eq1.true)
    (rw (bits-same c.args.sign c.requires.small) at c.add_tuple.ensures)

pub add_paths-requires : goal.add_paths-requires
add_paths-requires t c =
    let here : IsHere c.args.k c.args.outer.now c.args.inner.now c.args.before.now c.as_slice.result.now c.index-outer-0.result c.index-inner-0.result = record {
      first = c.index-outer-0.is;
      second = c.index-inner-0.is;
      some = not_empty c.args.outer.now (sym c.is_empty.ensures ∙ c.if-is_empty.false);
      more = not_empty c.args.inner.now (sym c.is_empty-else-is_empty.ensures ∙ c.if-is_empty-2.false);
      grown = c.as_slice.ensures.value ∙ c.in_ok-along.ensures ∙ ap (λ e. c.args.before.now ++ e ∷ []) c.in_ok-entry.ensures;
    } in
    let rest = rest-slice c.args.outer.now 1 in (
      omega (arith, ap length rest, length-drop 1 c.args.outer.now, here.some),
      (rw rest (point-x c.requires.point here), (rw (bits-same c.args.sign c.requires.small) c.requires.small, room-x here _ c.args.sum.now (10 ^ 18) (many here c.else-outer-eq1.either) rest c.requires.light)),
    )

pub add_paths-requires-2 : goal.add_paths-requires-2
add_paths-requires-2 t c =
    let here : IsHere c.args.k c.args.outer.now c.args.inner.now c.args.before.now c.as_slice-2.result.now c.index-outer-0.result c.index-inner-0.result = record {
      first = c.index-outer-0.is;
      second = c.index-inner-0.is;
      some = not_empty c.args.outer.now (sym c.is_empty.ensures ∙ c.if-is_empty.false);
      more = not_empty c.args.inner.now (sym c.is_empty-else-is_empty.ensures ∙ c.if-is_empty-2.false);
      grown = c.as_slice-2.ensures.value ∙ c.in_ok-along.ensures ∙ ap (λ e. c.args.before.now ++ e ∷ []) c.in_ok-entry.ensures;
    } in
    let rest = rest-slice c.args.inner.now 1 in
    let sign : c.with_sign-turned.result ≡ signed (length c.args.outer.now - 1) c.args.sign = c.with_sign-turned.ensures ∙ ap (signed (length c.args.outer.now - 1)) (bits-same c.args.sign c.requires.small) in
    let small : nat_abs c.with_sign-turned.result ≤ 1 = subst (λ (z : ℤ). nat_abs z ≤ 1) (sym sign) (signed-small (length c.args.outer.now - 1) c.args.sign c.requires.small) in (
      omega (arith, ap length rest, length-drop 1 c.args.inner.now, here.more),
      (rw rest (point-y c.requires.point here), (rw (bits-same c.with_sign-turned.result small) small, room-y here _ _ c.args.sum.now c.add_paths.new.sum (10 ^ 18) (many here c.else-outer-eq1.either) (rest-slice c.args.outer.now 1) rest c.in_ok-add_paths.ensures.grows c.requires.light)),
    )

pub returns : goal.returns
returns t c =
    let here : IsHere c.args.k c.args.outer.now c.args.inner.now c.args.before.now c.in_ok-along.along.items c.index-outer-0.result c.index-inner-0.result = record {
      first = c.index-outer-0.is;
      second = c.index-inner-0.is;
      some = not_empty c.args.outer.now (sym c.is_empty.ensures ∙ c.if-is_empty.false);
      more = not_empty c.args.inner.now (sym c.is_empty-else-is_empty.ensures ∙ c.if-is_empty-2.false);
      grown = c.in_ok-along.ensures ∙ ap (λ e. c.args.before.now ++ e ∷ []) c.in_ok-entry.ensures;
    } in
    let bits : to_z w64 (of_z w64 c.args.sign) ≡ c.args.sign = bits-same c.args.sign c.requires.small in
    let sign : c.with_sign-turned.result ≡ signed (length c.args.outer.now - 1) c.args.sign = c.with_sign-turned.ensures ∙ ap (signed (length c.args.outer.now - 1)) bits in
    let small : nat_abs c.with_sign-turned.result ≤ 1 = subst (λ (z : ℤ). nat_abs z ≤ 1) (sym sign) (signed-small (length c.args.outer.now - 1) c.args.sign c.requires.small) in
    let first : AddsPaths c.args.k (drop 1 c.args.outer.now) c.args.inner.now c.in_ok-along.along.items c.args.sign c.args.sum.now c.add_paths.new.sum =
    AddsPaths-same c.args.k _ (drop 1 c.args.outer.now) _ c.args.inner.now _ c.in_ok-along.along.items _ c.args.sign c.args.sum.now c.add_paths.new.sum
    (rest-slice c.args.outer.now 1) refl c.as_slice.ensures.value bits c.in_ok-add_paths.ensures in
    on_ok_weaker c.add_paths-2.result
    (λ q. AddsPaths-next _ _ _ _ _ _ _ c.args.sign c.with_sign-turned.result c.args.sum.now c.add_paths.new.sum c.add_paths-2.new.sum here (many here c.else-outer-eq1.either) sign first
    (AddsPaths-same c.args.k _ c.args.outer.now _ (drop 1 c.args.inner.now) _ c.in_ok-along.along.items _ c.with_sign-turned.result c.add_paths.new.sum c.add_paths-2.new.sum
    refl (rest-slice c.args.inner.now 1) c.as_slice-2.ensures.value (bits-same c.with_sign-turned.result small) q))
    c.add_paths-2.ensures

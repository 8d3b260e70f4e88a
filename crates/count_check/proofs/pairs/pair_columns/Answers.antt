use Rattle.std.proofs.Common.{◌≡◌, ◌+◌, ◌<◌, ◌≤◌, ◌∙◌, ap, subst, arith, List, [], ◌∷◌, length, get_or}
use Rattle.report.specs.declared.columns.PairColumn.{PairColumn}
use Rattle.certificate_law.specs.Names.{Asks, numbered, product_column, with_stands}
use Rattle.certificate_walk.{specs.Names.IsWalk, proofs.Names.{numbered_end, numbered_more, numbered_stop, walk_first, walk_passed}}
use Rattle.count_check.{specs.Columns.with_numbers, proofs.SectionLemmas.{asked, product_asks, rank_is}}
use Rattle.count_check.proofs.pairs.pair_columns.Goals as goal

pub returns-in_err-at-clause-walk : goal.returns-in_err-at-clause-walk
returns-in_err-at-clause-walk c = λ d p e.
    let x = c.args.product.now in
    let y = c.column-item.result in
    let k = c.loop-place.place in
    let ranks = c.args.ranks.now in
    let s = c.as_slice-column-items.ensures in
    let tested = product_asks d x k y c.rank_at-first.result c.rank_at-second.result c.rank_at-rows.result c.is_pair_column.result
    (c.rank_at-first.ensures ∙ ap (λ n. get_or ranks n 0) c.from.ensures ∙ rank_is d x.a e)
    (c.rank_at-second.ensures ∙ ap (λ n. get_or ranks n 0) c.from-2.ensures ∙ rank_is d x.b e)
    (c.rank_at-rows.ensures ∙ ap (λ n. get_or ranks n 0) (let m = c.from-3.ensures in let n = c.from-4.ensures in let t : c.from-3.result + c.from-4.result ≡ x.a + x.b = omega (arith, m, n) in t) ∙ rank_is d (x.a + x.b) e)
    c.is_pair_column.ensures in
    let walked = walk_first (Asks p 5) c.loop-place.at (product_column d x k y) (with_stands y.primitive ∷ []) c.is_pair_column.result c.ask_first.result tested (tt, tt) c.ask_first.ensures in
    walk_passed (Asks p 5) c.args.before (numbered (with_numbers d x) 0 x.columns) c.in_err-at.field-0.0 c.from_residual.result c.from_residual.ensures.1
    (numbered_stop (Asks p 5) (with_numbers d x) x.columns c.args.before c.loop-place.at k y c.in_err-at.field-0.0 (subst (λ (zs : List PairColumn). k < length zs) s c.loop-place-test.true) (subst (λ (zs : List PairColumn). y ≡ get_or zs k y) s c.column-item.is)
    (subst (IsWalk (Asks p 5) c.loop-place.at (with_numbers d x k y)) c.in_err-at.was walked) (c.loop-place.invariant.walked d p e))

pub loop-place-preserved : goal.loop-place-preserved
loop-place-preserved c = record {
  counted = let n = asked c.is_pair_column.result _ _ _ _ c.ask_first.ensures c.in_ok-at.was in let i = c.loop-place.invariant.counted in omega (arith, n, i);
  walked = λ d p e.
      let x = c.args.product.now in
      let y = c.column-item.result in
      let k = c.loop-place.place in
      let ranks = c.args.ranks.now in
      let s = c.as_slice-column-items.ensures in
      let tested = product_asks d x k y c.rank_at-first.result c.rank_at-second.result c.rank_at-rows.result c.is_pair_column.result
      (c.rank_at-first.ensures ∙ ap (λ n. get_or ranks n 0) c.from.ensures ∙ rank_is d x.a e)
      (c.rank_at-second.ensures ∙ ap (λ n. get_or ranks n 0) c.from-2.ensures ∙ rank_is d x.b e)
      (c.rank_at-rows.ensures ∙ ap (λ n. get_or ranks n 0) (let m = c.from-3.ensures in let n = c.from-4.ensures in let t : c.from-3.result + c.from-4.result ≡ x.a + x.b = omega (arith, m, n) in t) ∙ rank_is d (x.a + x.b) e)
      c.is_pair_column.ensures in
      let walked = walk_first (Asks p 5) c.loop-place.at (product_column d x k y) (with_stands y.primitive ∷ []) c.is_pair_column.result c.ask_first.result tested (tt, tt) c.ask_first.ensures in
      numbered_more (Asks p 5) (with_numbers d x) x.columns c.args.before c.loop-place.at c.in_ok-at.at k y (subst (λ (zs : List PairColumn). k < length zs) s c.loop-place-test.true) (subst (λ (zs : List PairColumn). y ≡ get_or zs k y) s c.column-item.is)
      (subst (IsWalk (Asks p 5) c.loop-place.at (with_numbers d x k y)) c.in_ok-at.was walked) (c.loop-place.invariant.walked d p e);
}

pub returns-clause-walk : goal.returns-clause-walk
returns-clause-walk c = λ d p e.
    let x = c.args.product.now in
    numbered_end (Asks p 5) (with_numbers d x) x.columns c.args.before c.loop-place.at c.loop-place.place (subst (λ (zs : List PairColumn). length zs ≤ c.loop-place.place) c.as_slice-column-items.ensures c.loop-place-test.false) (c.loop-place.invariant.walked d p e)

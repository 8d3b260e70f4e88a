use Rattle.std.{proofs.Common.{◌≡◌, ℕ, length, rules}, proofs.lemmas.Slice.Zip.zip_turn, specs.Iterator.Adapters.{zip_first, zip_second}, specs.Slice.Iter.iter_rest}
use Rattle.linear_law.proofs.Names.{length_push}
use Rattle.report_law.specs.Names.{numbers_of, unnumbered}
use Rattle.job_report.{specs.Listed.IsListedColumn, proofs.Zips.{mapped-turn, zip-turn}}
use Rattle.job_report.proofs.columns.pair_columns.Goals as goal

pub loop-pair-preserved : goal.loop-pair-preserved
loop-pair-preserved g c =
    let first : iter_rest (zip_first c.into_iter-pair-iterator.result) ≡ c.args.pairs.now = search rules in
    let second : iter_rest (zip_second c.into_iter-pair-iterator.result) ≡ c.args.columns.now = search rules in
    let t = zip_turn c.args.pairs.now c.args.columns.now c.loop-pair.yielded c.into_iter-pair-iterator.result c.loop-pair.pair-iterator c.next.new.self c.next.result first second c.loop-pair.yielded_by (c.in-Some.pair, c.in-Some.column) c.in-Some.is c.next.ensures.steps in
    let k : ℕ = length c.loop-pair.yielded in
    let more = length_push c.loop-pair.yielded (c.in-Some.pair, c.in-Some.column) in
    record {
      numbers = mapped-turn numbers_of c.args.pairs.now k _ c.loop-pair.listed.items c.push.new.self.items c.in-Some.pair.now _ t.0 more (t.2 _) c.loop-pair.invariant.numbers c.in_ok-pair_column.ensures.numbers c.in_ok-push.ensures.items;
      columns = zip-turn (IsListedColumn {p = g.row.P} g.B.Basis.keeps c.args.index.now c.args.n) unnumbered c.args.columns.now k _ c.loop-pair.listed.items c.push.new.self.items c.in-Some.column.now _ t.1 more (t.3 _)
          c.loop-pair.invariant.columns c.in_ok-pair_column.ensures.column c.in_ok-push.ensures.items;
    }

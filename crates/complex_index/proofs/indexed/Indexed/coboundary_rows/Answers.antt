use Rattle.std.proofs.Common.{◌+◌, ◌<◌, arith, length}
use Rattle.fp_field.proofs.ServedLemmas.{served_large}
use Rattle.complex_index.{specs.Names.level, proofs.RowLemmas.{rows_inside, rows_push}}
use Rattle.complex_index.proofs.indexed.Indexed.coboundary_rows.Goals as goal

pub loop-place-preserved : goal.loop-place-preserved
loop-place-preserved g c =
    let inside : c.loop-place.place < length (level c.args.self.now c.args.n) = omega (arith, c.count-place-end.ensures) in
    record {
      rows = rows_push g.row.P c.args.self.now c.args.n c.loop-place.place c.new.result c.loop-place.rows.items c.push.new.self.items c.in_ok-coboundary_row.field-0 (served_large g.row.P c.requires) inside c.new.ensures c.in_ok-push.ensures.items c.in_ok-coboundary_row.ensures c.loop-place.invariant.rows;
      inside = rows_inside (length (level c.args.self.now (c.args.n + 1))) c.loop-place.rows.items c.push.new.self.items c.in_ok-coboundary_row.field-0 c.in_ok-push.ensures.items c.in_ok-coboundary_row.ensures.inside c.loop-place.invariant.inside;
    }

use Rattle.std.proofs.Common.{ap, arith, length}
use Rattle.composition_law.proofs.Cuts.{rising-bound}
use Rattle.surjection.{specs.Names.Plain, proofs.SpliceLemmas.{next-rising, written-last, written-other, written-piece}, proofs.composition.Splice.entries_at.Goals.{then-entry-self+in_ok-push, else-entry-self+then-places-cut+in_ok-add_piece, else-entry-self+else-places-cut+in_ok-extend_from_slice}}
use Rattle.surjection.proofs.composition.Splice.entries_at.Goals as goal

pub add_piece-requires-clause-within : goal.add_piece-requires-clause-within
add_piece-requires-clause-within c =
    let some = c.requires.some in
    let next = next-rising c.args.cut.now c.loop-entry.places c.loop-entry.start _ c.if-places-cut.true c.loop-entry.invariant.rising in
    omega (arith, some, ap length c.as_slice-inner.ensures, rising-bound _ _ _ next.1)

pub loop-entry-preserved : goal.loop-entry-preserved
loop-entry-preserved c =
    let inv = c.loop-entry.invariant in
    let at = c.args.self.now.at in
    let inner = c.as_slice-inner.result.now in
    let outer = c.as_slice-entry-items.result.now in
    let i = c.loop-entry.entry-index in
    let j = c.loop-entry.places in
    elim c.if-entry-self.branch [
      | then-entry-self+in_ok-push w ↦
          rw (w.entries-is, w.start-is, w.places-is) (record {
            written = written-other (0, Plain) at inner outer c.args.cut.now c.loop-entry.start i j c.loop-entry.entries.items _ _ c.loop-entry-test.true inv.written w.if-entry-self.true w.in_ok-push.ensures.ok;
            rising = inv.rising;
          })
      | else-entry-self+then-places-cut+in_ok-add_piece w ↦
          let next = next-rising c.args.cut.now j c.loop-entry.start _ w.if-places-cut.true inv.rising in
          rw (w.entries-is, w.start-is, w.places-is) (record {
            written = written-piece (0, Plain) at inner outer c.args.cut.now c.loop-entry.start i j c.loop-entry.entries.items _ _ c.loop-entry-test.true inv.written w.if-entry-self.false w.if-places-cut.true next.0 w.in_ok-add_piece.ensures;
            rising = next.1;
          })
      | else-entry-self+else-places-cut+in_ok-extend_from_slice w ↦
          rw (w.entries-is, w.start-is, w.places-is) (record {
            written = written-last (0, Plain) at inner outer c.args.cut.now c.loop-entry.start i j c.loop-entry.entries.items _ _ c.loop-entry-test.true inv.written w.if-entry-self.false w.if-places-cut.false w.in_ok-extend_from_slice.ensures.ok;
            rising = inv.rising;
          })
    ]

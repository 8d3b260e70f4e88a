use Rattle.std.proofs.Common.{arith, sym, ◌≡◌, ◌+◌, ◌-◌, ◌/◌, suc}
use Rattle.operad_law.proofs.TermPlaces.{IsAbove-up_to}
use Rattle.operad_law.proofs.formal_sum.place_of.Goals as goal

pub loop-low-preserved-in-Less : goal.loop-low-preserved-in-Less
loop-low-preserved-in-Less g c =
    let middle = c.loop-low.low + (c.loop-low.high - c.loop-low.low) / 2 in
    let e : middle + 1 ≡ suc middle = omega arith in
    record {
      ordered = omega arith;
      within = c.loop-low.invariant.within;
      above = rw e (IsAbove-up_to g.B.Ord.cmp g.met.B.Ord.total c.args.item.now c.args.terms.now middle c.index-terms-middle.result c.requires (omega arith) (sym c.in-Less.ensures));
      stops = c.loop-low.invariant.stops;
    }

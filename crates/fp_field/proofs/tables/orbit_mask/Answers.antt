use Rattle.std.proofs.Common.{◌≡◌, arith, sym, ap, length, slice_index}
use Rattle.fp_field.specs.Orbits.{orbit_masks}
use Rattle.fp_field.proofs.OrbitLemmas.{orbits_at_five}
use Rattle.fp_field.proofs.tables.orbit_mask.Goals as goal

pub offset_bounds-at-in-5 : goal.offset_bounds-at-in-5
offset_bounds-at-in-5 c = let e : length (orbit_masks c.args.p) ≡ 6 = ap length (orbits_at_five c.args.p c.in-5.is) in omega (arith, c.requires.listed)

pub bounds-at-at-in-5 : goal.bounds-at-at-in-5
bounds-at-at-in-5 c = let e : length (orbit_masks c.args.p) ≡ 6 = ap length (orbits_at_five c.args.p c.in-5.is) in omega (arith, c.requires.listed)

pub returns-in-5 : goal.returns-in-5
returns-in-5 c = ap (λ r. slice_index r c.args.at) (sym (orbits_at_five c.args.p c.in-5.is))

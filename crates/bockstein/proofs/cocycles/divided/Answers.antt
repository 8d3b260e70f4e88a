use Rattle.std.{proofs.Common.{◌≡◌, ◌∙◌, pos, w64, rules, ap}, specs.Int.int_rem_euclid, proofs.lemmas.Int.to_z-of_z}
use Rattle.fp_field.proofs.ServedLemmas.{served_large}
use Rattle.bockstein.proofs.PlaceLemmas.{remainder-same}
use Rattle.bockstein.proofs.cocycles.divided.Goals as goal

pub returns-then-not-is_zero : goal.returns-then-not-is_zero
returns-then-not-is_zero g c =
    let e : pos c.from_i64-rest.result ≡ int_rem_euclid c.args.sum (pos g.row.P) = c.from_i64-rest.ensures ∙ ap (λ z. int_rem_euclid z (pos g.row.P)) (to_z-of_z w64 c.args.sum c.ranges.sum) in
    record { nonzero = search rules; rest = remainder-same g.row.P c.from_i64-rest.result c.args.sum (served_large g.row.P c.requires) e }

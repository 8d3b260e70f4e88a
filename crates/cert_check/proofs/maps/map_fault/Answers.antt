use Rattle.std.proofs.Common.{ℕ, ◌+◌, ◌∙◌, lit≤, sym, ap, subst, arith, []}
use Rattle.certificate_law.specs.Names.{Asks, map_between}
use Rattle.certificate_walk.{specs.Names.IsWalk, proofs.Names.map_length}
use Rattle.cert_check.proofs.{FreeLemmas.{map_free, maps_free}, PartLemmas.{few_of, low_degrees}}
use Rattle.cert_check.proofs.maps.map_fault.Goals as goal

pub map_count_fault-requires-clause-from : goal.map_count_fault-requires-clause-from
map_count_fault-requires-clause-from g c = few_of g.row.P [] c.args.from.now c.requires.from_ready.kept.facets.few (c.requires.from_ready.passed 5 (lit≤ tt) (let e = c.in-5.is in omega (arith, e)) [])

pub map_count_fault-requires-clause-to : goal.map_count_fault-requires-clause-to
map_count_fault-requires-clause-to g c = few_of g.row.P [] c.args.to.now c.requires.to_ready.kept.facets.few (c.requires.to_ready.passed 5 (lit≤ tt) (let e = c.in-5.is in omega (arith, e)) [])

pub map_count_fault-requires-clause-low : goal.map_count_fault-requires-clause-low
map_count_fault-requires-clause-low g c = low_degrees g.row.P [] c.args.from.now c.requires.from_ready.kept.facets (c.requires.from_ready.passed 2 (lit≤ tt) (let e = c.in-5.is in omega (arith, e)) [])

pub induced_fault-requires-clause-from_passed : goal.induced_fault-requires-clause-from_passed
induced_fault-requires-clause-from_passed g c = (record { formed = c.requires.from_ready.kept.formed; degrees = λ e. c.requires.from_ready.passed 2 (lit≤ tt) (let k = c.in-7.is in omega (arith, k)) e; classes = λ e. c.requires.from_ready.passed 3 (lit≤ tt) (let k = c.in-7.is in omega (arith, k)) e; counts = λ e. c.requires.from_ready.passed 5 (lit≤ tt) (let k = c.in-7.is in omega (arith, k)) e })

pub induced_fault-requires-clause-to_passed : goal.induced_fault-requires-clause-to_passed
induced_fault-requires-clause-to_passed g c = (record { formed = c.requires.to_ready.kept.formed; degrees = λ e. c.requires.to_ready.passed 2 (lit≤ tt) (let k = c.in-7.is in omega (arith, k)) e; classes = λ e. c.requires.to_ready.passed 3 (lit≤ tt) (let k = c.in-7.is in omega (arith, k)) e; counts = λ e. c.requires.to_ready.passed 5 (lit≤ tt) (let k = c.in-7.is in omega (arith, k)) e })

pub induced_fault-requires-clause-passed : goal.induced_fault-requires-clause-passed
induced_fault-requires-clause-passed g c = record { formed = c.requires.formed; counts = c.requires.counts (let k = c.in-7.is in omega (arith, k)) }

pub returns-in-5 : goal.returns-in-5
returns-in-5 g c = λ cs earlier. subst (λ (k : ℕ). IsWalk (Asks g.row.P k) c.args.before (map_between c.args.from.now c.args.to.now cs earlier c.args.map.now) c.map_count_fault.result) (sym c.in-5.is) (c.map_count_fault.ensures cs earlier g.row.P)

pub returns-in-7 : goal.returns-in-7
returns-in-7 g c = λ cs earlier. subst (λ (k : ℕ). IsWalk (Asks g.row.P k) c.args.before (map_between c.args.from.now c.args.to.now cs earlier c.args.map.now) c.induced_fault.result) (sym c.in-7.is) (c.induced_fault.ensures cs earlier)

pub returns-in_default : goal.returns-in_default
returns-in_default g c = λ cs earlier. (
  ap (λ n. c.args.before + n) (c.map_lines.ensures ∙ sym (map_length c.args.from.now c.args.to.now cs earlier c.args.map.now)),
  map_free (Asks g.row.P c.args.condition) (maps_free g.row.P c.args.condition c.requires.low (λ e. omega arith) (λ e. omega arith)) c.args.from.now c.args.to.now cs earlier c.args.map.now,
)

use Rattle.std.proofs.Common.{◌≡◌, ℕ, ◌+◌, lit≤, sym, ◌∙◌, ap, subst, arith, [], length, Ok}
use Rattle.certificate_law.specs.Names.{Asks, complex_stated}
use Rattle.certificate_walk.{specs.Names.IsWalk, proofs.Names.complex_length}
use Rattle.cert_check.proofs.{FreeLemmas.complex_free, PartLemmas.low_degrees}
use Rattle.cert_check.proofs.complexes.complex_fault.Goals as goal

pub count_fault-requires-clause-indexed : goal.count_fault-requires-clause-indexed
count_fault-requires-clause-indexed g c =
    let ready = c.requires.ready in record {
      index = ready.kept.index;
      ascending = ready.kept.facets.ascending;
      low = low_degrees g.row.P [] c.args.part.now ready.kept.facets (ready.passed 2 (lit≤ tt) (let e = c.in-5.is in omega (arith, e)) []);
    }

pub returns-in-2 : goal.returns-in-2
returns-in-2 g c = λ earlier. subst (λ (k : ℕ). IsWalk (Asks g.row.P k) c.args.before (complex_stated earlier c.args.part.now) c.coboundary_fault.result) (sym c.in-2.is) (c.coboundary_fault.ensures earlier)

pub returns-in-3 : goal.returns-in-3
returns-in-3 g c = λ earlier. subst (λ (k : ℕ). IsWalk (Asks g.row.P k) c.args.before (complex_stated earlier c.args.part.now) c.cocycle_fault.result) (sym c.in-3.is) (c.cocycle_fault.ensures earlier)

pub returns-in-4 : goal.returns-in-4
returns-in-4 g c = λ earlier. subst (λ (k : ℕ). IsWalk (Asks g.row.P k) c.args.before (complex_stated earlier c.args.part.now) c.class_fault.result) (sym c.in-4.is) (c.class_fault.ensures earlier)

pub returns-in-5 : goal.returns-in-5
returns-in-5 g c = λ earlier. subst (λ (k : ℕ). IsWalk (Asks g.row.P k) c.args.before (complex_stated earlier c.args.part.now) c.count_fault.result) (sym c.in-5.is) (c.count_fault.ensures.walk earlier)

pub returns-in-6 : goal.returns-in-6
returns-in-6 g c = λ earlier. subst (λ (k : ℕ). IsWalk (Asks g.row.P k) c.args.before (complex_stated earlier c.args.part.now) c.column_fault.result) (sym c.in-6.is) (c.column_fault.ensures earlier)

pub returns-in-8 : goal.returns-in-8
returns-in-8 g c = λ earlier. subst (λ (k : ℕ). IsWalk (Asks g.row.P k) c.args.before (complex_stated earlier c.args.part.now) c.cartan_fault.result) (sym c.in-8.is) (c.cartan_fault.ensures earlier)

pub returns-in_default : goal.returns-in_default
returns-in_default g c = λ earlier.
    let seven : c.args.condition ≡ 7 = omega arith in
    let last : c.args.before + c.complex_lines.result ≡ c.args.before + length (complex_stated earlier c.args.part.now) = ap (λ n. c.args.before + n) (c.complex_lines.ensures ∙ sym (complex_length earlier c.args.part.now)) in
    subst (λ (k : ℕ). IsWalk (Asks g.row.P k) c.args.before (complex_stated earlier c.args.part.now) (Ok (c.args.before + c.complex_lines.result))) (sym seven) (last, complex_free g.row.P earlier c.args.part.now)

use Rattle.std.proofs.Common.{[], refl}
use Rattle.report.specs.declared.complex.ComplexPart.{ComplexPart}
use Rattle.report_text_law.specs.{Names.{move, with_complex}, declared.state.State.TheVariants.Between}
use Rattle.report_reader.{specs.Names.{facets, within_degrees}, proofs.Steps.{items_ok, items_refused, preceded}}
use Rattle.report_reader.proofs.complex.complex_named.Goals as goal

pub returns-in_err-facets-clause-reads : goal.returns-in_err-facets-clause-reads
returns-in_err-facets-clause-reads c = λ f fits.
    items_refused ((facets c.args.prime).within (f, c.args.name) []) (λ (c : ComplexPart). move (Between (with_complex f c))) c.args.reader.now c.facets.new.reader c.in_err-facets.field-0.0 c.from_residual.result
    c.facets.ensures (f, c.args.name) fits refl c.in_err-facets.was c.from_residual.ensures

pub returns-clause-reads : goal.returns-clause-reads
returns-clause-reads c = λ f fits.
    preceded ((facets c.args.prime).within (f, c.args.name) []) (within_degrees f (record { name = c.args.name; facets = c.in_ok-facets.facets }) []) (λ (c : ComplexPart). move (Between (with_complex f c))) c.args.reader.now c.facets.new.reader c.complex_behind.new.reader c.complex_behind.result
    (items_ok c.facets.ensures (f, c.args.name) fits c.in_ok-facets.facets c.in_ok-facets.was) (c.complex_behind.ensures.reads f fits)

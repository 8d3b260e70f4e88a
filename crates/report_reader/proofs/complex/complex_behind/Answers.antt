use Rattle.std.proofs.Common.{◌∙◌, [], refl}
use Rattle.report.specs.declared.complex.ComplexPart.{ComplexPart}
use Rattle.report_text_law.specs.{Names.{complex_of, move, with_complex}, declared.state.State.TheVariants.Between}
use Rattle.report_reader.{specs.Names.{end_only, within_degrees}, proofs.Steps.{items_ok, items_refused, part_refused, progress}}
use Rattle.report_reader.proofs.complex.complex_behind.Goals as goal

pub returns-in_err-degrees-clause-reads : goal.returns-in_err-degrees-clause-reads
returns-in_err-degrees-clause-reads c = λ f fits.
    items_refused (within_degrees f (record { name = c.args.name; facets = c.args.facets }) []) (λ (c : ComplexPart). move (Between (with_complex f c))) c.args.reader.now c.degrees.new.reader c.in_err-degrees.field-0.0 c.from_residual.result
    c.degrees.ensures (f, record { name = c.args.name; facets = c.args.facets }) fits (refl) c.in_err-degrees.was c.from_residual.ensures

pub returns-in_err-products-clause-reads : goal.returns-in_err-products-clause-reads
returns-in_err-products-clause-reads c = λ f fits.
    let to_degrees = items_ok c.degrees.ensures (f, record { name = c.args.name; facets = c.args.facets }) fits c.in_ok-degrees.degrees c.in_ok-degrees.was in
    items_refused (within_degrees f (record { name = c.args.name; facets = c.args.facets }) []) (λ (c : ComplexPart). move (Between (with_complex f c))) c.args.reader.now c.products.new.reader c.in_err-products.field-0.0 c.from_residual-in_err-products.result
    c.products.ensures (f, record { block = record { name = c.args.name; facets = c.args.facets }; degrees = c.in_ok-degrees.degrees }) fits (to_degrees) c.in_err-products.was c.from_residual-in_err-products.ensures

pub returns-in_err-operations-clause-reads : goal.returns-in_err-operations-clause-reads
returns-in_err-operations-clause-reads c = λ f fits.
    let to_degrees = items_ok c.degrees.ensures (f, record { name = c.args.name; facets = c.args.facets }) fits c.in_ok-degrees.degrees c.in_ok-degrees.was in
    let to_products = items_ok c.products.ensures (f, record { block = record { name = c.args.name; facets = c.args.facets }; degrees = c.in_ok-degrees.degrees }) fits c.in_ok-products.products c.in_ok-products.was in
    items_refused (within_degrees f (record { name = c.args.name; facets = c.args.facets }) []) (λ (c : ComplexPart). move (Between (with_complex f c))) c.args.reader.now c.operations.new.reader c.in_err-operations.field-0.0 c.from_residual-in_err-operations.result
    c.operations.ensures (f, record { graded = record { block = record { name = c.args.name; facets = c.args.facets }; degrees = c.in_ok-degrees.degrees }; products = c.in_ok-products.products }) fits (to_degrees ∙ to_products) c.in_err-operations.was c.from_residual-in_err-operations.ensures

pub returns-in_err-cartans-clause-reads : goal.returns-in_err-cartans-clause-reads
returns-in_err-cartans-clause-reads c = λ f fits.
    let to_degrees = items_ok c.degrees.ensures (f, record { name = c.args.name; facets = c.args.facets }) fits c.in_ok-degrees.degrees c.in_ok-degrees.was in
    let to_products = items_ok c.products.ensures (f, record { block = record { name = c.args.name; facets = c.args.facets }; degrees = c.in_ok-degrees.degrees }) fits c.in_ok-products.products c.in_ok-products.was in
    let to_operations = items_ok c.operations.ensures (f, record { graded = record { block = record { name = c.args.name; facets = c.args.facets }; degrees = c.in_ok-degrees.degrees }; products = c.in_ok-products.products }) fits c.in_ok-operations.operations c.in_ok-operations.was in
    items_refused (within_degrees f (record { name = c.args.name; facets = c.args.facets }) []) (λ (c : ComplexPart). move (Between (with_complex f c))) c.args.reader.now c.cartans.new.reader c.in_err-cartans.field-0.0 c.from_residual-in_err-cartans.result
    c.cartans.ensures (f, record { multiplied = record { graded = record { block = record { name = c.args.name; facets = c.args.facets }; degrees = c.in_ok-degrees.degrees }; products = c.in_ok-products.products }; operations = c.in_ok-operations.operations }) fits (to_degrees ∙ to_products ∙ to_operations) c.in_err-cartans.was c.from_residual-in_err-cartans.ensures

pub returns-in_err-end-clause-reads : goal.returns-in_err-end-clause-reads
returns-in_err-end-clause-reads c = λ f fits.
    let to_degrees = items_ok c.degrees.ensures (f, record { name = c.args.name; facets = c.args.facets }) fits c.in_ok-degrees.degrees c.in_ok-degrees.was in
    let to_products = items_ok c.products.ensures (f, record { block = record { name = c.args.name; facets = c.args.facets }; degrees = c.in_ok-degrees.degrees }) fits c.in_ok-products.products c.in_ok-products.was in
    let to_operations = items_ok c.operations.ensures (f, record { graded = record { block = record { name = c.args.name; facets = c.args.facets }; degrees = c.in_ok-degrees.degrees }; products = c.in_ok-products.products }) fits c.in_ok-operations.operations c.in_ok-operations.was in
    let to_cartans = items_ok c.cartans.ensures (f, record { multiplied = record { graded = record { block = record { name = c.args.name; facets = c.args.facets }; degrees = c.in_ok-degrees.degrees }; products = c.in_ok-products.products }; operations = c.in_ok-operations.operations }) fits c.in_ok-cartans.cartans c.in_ok-cartans.was in
    let s = Between (with_complex f (complex_of (record { operated = record { multiplied = record { graded = record { block = record { name = c.args.name; facets = c.args.facets }; degrees = c.in_ok-degrees.degrees }; products = c.in_ok-products.products }; operations = c.in_ok-operations.operations }; cartans = c.in_ok-cartans.cartans }))) in
    part_refused (within_degrees f (record { name = c.args.name; facets = c.args.facets }) []) (end_only s) (λ (u : Unit {0}). move s) (λ (c : ComplexPart). move (Between (with_complex f c))) c.args.reader.now c.cartans.new.reader c.end.new.reader c.end.new.reader c.end.result c.in_err-end.field-0.0 c.from_residual-in_err-end.result
    (to_degrees ∙ to_products ∙ to_operations ∙ to_cartans) (c.end.ensures.reads s (record { at_prime = fits; unfinished = refl })) c.in_err-end.was c.from_residual-in_err-end.ensures

pub returns-clause-reads : goal.returns-clause-reads
returns-clause-reads c = λ f fits.
    let to_degrees = items_ok c.degrees.ensures (f, record { name = c.args.name; facets = c.args.facets }) fits c.in_ok-degrees.degrees c.in_ok-degrees.was in
    let to_products = items_ok c.products.ensures (f, record { block = record { name = c.args.name; facets = c.args.facets }; degrees = c.in_ok-degrees.degrees }) fits c.in_ok-products.products c.in_ok-products.was in
    let to_operations = items_ok c.operations.ensures (f, record { graded = record { block = record { name = c.args.name; facets = c.args.facets }; degrees = c.in_ok-degrees.degrees }; products = c.in_ok-products.products }) fits c.in_ok-operations.operations c.in_ok-operations.was in
    let to_cartans = items_ok c.cartans.ensures (f, record { multiplied = record { graded = record { block = record { name = c.args.name; facets = c.args.facets }; degrees = c.in_ok-degrees.degrees }; products = c.in_ok-products.products }; operations = c.in_ok-operations.operations }) fits c.in_ok-cartans.cartans c.in_ok-cartans.was in
    let s = Between (with_complex f (complex_of (record { operated = record { multiplied = record { graded = record { block = record { name = c.args.name; facets = c.args.facets }; degrees = c.in_ok-degrees.degrees }; products = c.in_ok-products.products }; operations = c.in_ok-operations.operations }; cartans = c.in_ok-cartans.cartans }))) in
    to_degrees ∙ to_products ∙ to_operations ∙ to_cartans ∙ progress (end_only s) (λ (u : Unit {0}). move s) c.cartans.new.reader c.end.new.reader c.end.result c.in_ok-end.field-0 (c.end.ensures.reads s (record { at_prime = fits; unfinished = refl })) c.in_ok-end.was

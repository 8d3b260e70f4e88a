use Rattle.std.proofs.Common.{◌∙◌, [], refl}
use Rattle.report_text_law.specs.declared.state.{Finding.Finding, State.TheVariants.Finished}
use Rattle.report_reader.{specs.Names.{complexes, done_only, maps}, proofs.Steps.{failed, items_ok, refusal}, proofs.Whole.{report_behind, report_refused}}
use Rattle.report_reader.proofs.read.report.Goals as goal

pub returns-in_err-complexes : goal.returns-in_err-complexes
returns-in_err-complexes c =
    let s = complexes c.args.prime in
    report_refused (s.within tt []) c.args.reader.now c.in_err-complexes.field-0.0 c.from_residual.result
    (refusal (s.within tt []) (s.behind tt) c.args.reader.now c.complexes.new.reader c.complexes.result c.in_err-complexes.field-0.0 (c.complexes.ensures.reads tt tt) c.in_err-complexes.was) c.from_residual.ensures

pub returns-in_err-maps : goal.returns-in_err-maps
returns-in_err-maps c =
    let s = complexes c.args.prime in
    let m = maps c.args.prime in
    let f : Finding = record { prime = c.args.prime; complexes = c.in_ok-complexes.complexes } in
    report_refused (s.within tt []) c.args.reader.now c.in_err-maps.field-0.0 c.from_residual-in_err-maps.result
    (failed (s.within tt []) (m.within f []) c.args.reader.now c.complexes.new.reader c.in_err-maps.field-0.0 (items_ok c.complexes.ensures tt tt c.in_ok-complexes.complexes c.in_ok-complexes.was)
    (refusal (m.within f []) (m.behind f) c.complexes.new.reader c.maps.new.reader c.maps.result c.in_err-maps.field-0.0 (c.maps.ensures.reads f refl) c.in_err-maps.was)) c.from_residual-in_err-maps.ensures

pub returns : goal.returns
returns c =
    let f : Finding = record { prime = c.args.prime; complexes = c.in_ok-complexes.complexes } in
    report_behind ((complexes c.args.prime).within tt []) (done_only (Finished f c.in_ok-maps.maps)) c.args.reader.now c.maps.new.reader c.closed.result
    (items_ok c.complexes.ensures tt tt c.in_ok-complexes.complexes c.in_ok-complexes.was ∙ items_ok c.maps.ensures f refl c.in_ok-maps.maps c.in_ok-maps.was) c.closed.ensures

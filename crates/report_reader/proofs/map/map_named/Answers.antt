use Rattle.std.proofs.Common.{◌∙◌, ◌++◌, ◌∷◌, [], refl}
use Rattle.report.specs.declared.map.MapPart.{MapPart}
use Rattle.report_text_law.specs.{Names.{map_of, move}, declared.state.State.TheVariants.BetweenMaps}
use Rattle.report_reader.{specs.Names.{end_only, sends}, proofs.Steps.{items_ok, items_refused, part_refused, progress}}
use Rattle.report_reader.proofs.map.map_named.Goals as goal

pub returns-in_err-sends-clause-reads : goal.returns-in_err-sends-clause-reads
returns-in_err-sends-clause-reads c = λ f ms fits.
    items_refused ((sends c.args.prime).within (f, ms, c.args.name, c.args.from, c.args.to) []) (λ (m : MapPart). move (BetweenMaps f (ms ++ m ∷ []))) c.args.reader.now c.sends.new.reader c.in_err-sends.field-0.0 c.from_residual.result
    c.sends.ensures (f, ms, c.args.name, c.args.from, c.args.to) fits (refl) c.in_err-sends.was c.from_residual.ensures

pub returns-in_err-induced-clause-reads : goal.returns-in_err-induced-clause-reads
returns-in_err-induced-clause-reads c = λ f ms fits.
    let to_sends = items_ok c.sends.ensures (f, ms, c.args.name, c.args.from, c.args.to) fits c.in_ok-sends.sends c.in_ok-sends.was in
    items_refused ((sends c.args.prime).within (f, ms, c.args.name, c.args.from, c.args.to) []) (λ (m : MapPart). move (BetweenMaps f (ms ++ m ∷ []))) c.args.reader.now c.induced_blocks.new.reader c.in_err-induced.field-0.0 c.from_residual-in_err-induced.result
    c.induced_blocks.ensures (f, ms, record { name = c.args.name; from = c.args.from; to = c.args.to; sends = c.in_ok-sends.sends }) fits (to_sends) c.in_err-induced.was c.from_residual-in_err-induced.ensures

pub returns-in_err-end-clause-reads : goal.returns-in_err-end-clause-reads
returns-in_err-end-clause-reads c = λ f ms fits.
    let to_sends = items_ok c.sends.ensures (f, ms, c.args.name, c.args.from, c.args.to) fits c.in_ok-sends.sends c.in_ok-sends.was in
    let to_induced = items_ok c.induced_blocks.ensures (f, ms, record { name = c.args.name; from = c.args.from; to = c.args.to; sends = c.in_ok-sends.sends }) fits c.in_ok-induced.induced c.in_ok-induced.was in
    let s = BetweenMaps f (ms ++ map_of (record { head = record { name = c.args.name; from = c.args.from; to = c.args.to; sends = c.in_ok-sends.sends }; induced = c.in_ok-induced.induced }) ∷ []) in
    part_refused ((sends c.args.prime).within (f, ms, c.args.name, c.args.from, c.args.to) []) (end_only s) (λ (u : Unit {0}). move s) (λ (m : MapPart). move (BetweenMaps f (ms ++ m ∷ []))) c.args.reader.now c.induced_blocks.new.reader c.end.new.reader c.end.new.reader c.end.result c.in_err-end.field-0.0 c.from_residual-in_err-end.result
    (to_sends ∙ to_induced) (c.end.ensures.reads s (record { at_prime = fits; unfinished = refl })) c.in_err-end.was c.from_residual-in_err-end.ensures

pub returns-clause-reads : goal.returns-clause-reads
returns-clause-reads c = λ f ms fits.
    let to_sends = items_ok c.sends.ensures (f, ms, c.args.name, c.args.from, c.args.to) fits c.in_ok-sends.sends c.in_ok-sends.was in
    let to_induced = items_ok c.induced_blocks.ensures (f, ms, record { name = c.args.name; from = c.args.from; to = c.args.to; sends = c.in_ok-sends.sends }) fits c.in_ok-induced.induced c.in_ok-induced.was in
    let s = BetweenMaps f (ms ++ map_of (record { head = record { name = c.args.name; from = c.args.from; to = c.args.to; sends = c.in_ok-sends.sends }; induced = c.in_ok-induced.induced }) ∷ []) in
    to_sends ∙ to_induced ∙ progress (end_only s) (λ (u : Unit {0}). move s) c.induced_blocks.new.reader c.end.new.reader c.end.result c.in_ok-end.field-0 (c.end.ensures.reads s (record { at_prime = fits; unfinished = refl })) c.in_ok-end.was

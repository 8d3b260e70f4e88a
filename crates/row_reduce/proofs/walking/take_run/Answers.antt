use Rattle.std.proofs.{Common.{sym, ◌∙◌, ap, subst}, lemmas.List.take_rest}
use Rattle.row_reduce.{specs.Names.{run_from, IsRest}, proofs.EntryLemmas.run_rest}
use Rattle.row_reduce.proofs.walking.take_run.Goals as goal

pub returns : goal.returns
returns g c =
    let old = c.args.sum.now in
    let start = c.args.start in
    subst (IsRest g.row.P old c.clear_from.new.sum) (sym (c.in_ok-rest.ensures ∙ ap (run_from start) (take_rest old start)))
    (run_rest g.row.P start old c.clear_from.new.sum c.clear_from.ensures c.requires.inside c.requires.before)

use Rattle.std.proofs.Common.{◌≡◌, ◌*◌, ◌%◌, length, get_or, ap, ◌∙◌}
use Rattle.row_reduce.proofs.SumLemmas.{cancel_before, read_at}
use Rattle.row_reduce.proofs.reducing.cancel.Goals as goal

pub returns-clause-before : goal.returns-clause-before
returns-clause-before g c =
    let sum = c.args.sum.now in
    let stored = c.args.stored.now in
    let by_is : c.mul-by.result ≡ (get_or sum stored.place 0 * stored.factor) % g.row.P =
    c.mul-by.ensures ∙ ap (λ n. (n * stored.factor) % g.row.P) (read_at sum stored.place c.index-sum-stored.result c.index-sum-stored.is c.requires.fits.inside) in
    cancel_before g.row.P (length sum) c.mul-by.result sum c.add_to.new.sum stored c.requires.fits by_is c.requires.before c.add_to.ensures

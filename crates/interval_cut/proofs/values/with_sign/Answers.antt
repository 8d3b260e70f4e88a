use Rattle.fp_field.proofs.ServedLemmas.{served_large}
use Rattle.interval_cut.proofs.ProductLemmas.{negative_sign, positive_sign}
use Rattle.interval_cut.proofs.values.with_sign.Goals as goal

pub returns-then-sign-eq1 : goal.returns-then-sign-eq1
returns-then-sign-eq1 g c e h = positive_sign g.row.P e c.args.value c.args.sign h c.if-sign-eq1.true

pub returns-else-sign-eq1 : goal.returns-else-sign-eq1
returns-else-sign-eq1 g c e h = negative_sign g.row.P e c.args.value c.neg.result c.args.sign (served_large g.row.P c.requires) h c.if-sign-eq1.false c.neg.ensures

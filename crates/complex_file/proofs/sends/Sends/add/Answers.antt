use Rattle.std.proofs.Common.{◌∙◌, nat_eq}
use Rattle.indexmap.proofs.CallerLemmas.{insert_entry-new}
use Rattle.complex_file.proofs.MapLemmas.{not_yet, send_added}
use Rattle.complex_file.proofs.sends.Sends.add.Goals as goal

pub returns : goal.returns
returns c =
    send_added c.args.from.now c.args.to.now c.self.inside.images.entries c.insert.new.self.entries c.args.self.now c.args.sent c.send_fault.result
    c.self.view_is c.send_fault.ensures c.in_default.is
    (c.in_ok-insert.ensures.entries ∙ insert_entry-new nat_eq c.self.inside.images c.args.sent.from c.args.sent.to
    (not_yet c.args.from.now c.args.to.now c.self.inside.images.entries c.args.self.now c.args.sent c.send_fault.result c.self.view_is c.send_fault.ensures c.in_default.is))

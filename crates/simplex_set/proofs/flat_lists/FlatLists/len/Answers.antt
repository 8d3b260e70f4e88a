use Rattle.std.proofs.Common.{◌∙◌, ap, length, sym}
use Rattle.simplex_set.proofs.InPieces.{length_pieces}
use Rattle.simplex_set.proofs.flat_lists.FlatLists.len.Goals as goal

pub returns : goal.returns
returns c = sym (length_pieces c.self.inside.size c.self.inside.count c.self.inside.numbers.items) ∙ ap length c.self.view_is

use Rattle.std.proofs.Common.{◌∙◌}
use Rattle.column_check.proofs.{ListLemmas.list_at-here, ListingLemmas.inside}
use Rattle.column_check.proofs.listing.Listing.classes.Goals as goal

pub returns : goal.returns
returns g c = c.as_slice.ensures.value ∙ list_at-here c.args.self.now.classes.items c.args.n c.index.result.now (inside g.row.P c.args.self.now c.requires.of c.args.n c.requires.live) c.index.ensures

use Rattle.complex_index.proofs.FacePlaces.{row_set}
use Rattle.complex_index.proofs.cofaces.add_mark.Goals as goal

pub returns : goal.returns
returns c = λ x. row_set c.args.above.now c.args.at x c.index-above-at.result c.push.new.self c.args.coface c.requires c.in_ok-push.ensures.items

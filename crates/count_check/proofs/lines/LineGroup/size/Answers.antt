use Rattle.count_check.proofs.PlaceLemmas.{count_is, lines_length, size_is}
use Rattle.count_check.proofs.lines.LineGroup.size.Goals as goal

pub returns : goal.returns
returns c =
    let g = c.args.self.now in
    let l = lines_length g.a g.b g.numbers.items g.first g.second in
    let x = c.from.ensures in
    let y = c.from-2.ensures in
    let z = count_is g c.len.result c.len.ensures in
    size_is _ _ _ _ _ _ _ x y z l

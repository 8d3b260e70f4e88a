use Rattle.std.proofs.Common.{rules}
use Rattle.report_reader.specs.Names.{IsItem, any, sends}
use Rattle.report_reader.proofs.map.sends.Goals as goal

pub returns : goal.returns
returns c =
    let s = sends c.args.prime in
    record {
      reads = λ i fits. c.listed.ensures.reads (s.within i) (s.behind i) (λ x xs n r y is p. (let h : IsItem s any x.now y.now r = search rules in h.reads i xs fits tt));
      less = c.listed.ensures.less;
    }

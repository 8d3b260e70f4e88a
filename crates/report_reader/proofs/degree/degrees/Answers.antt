use Rattle.std.proofs.Common.{rules}
use Rattle.report_reader.specs.Names.{IsItem, counted, degrees}
use Rattle.report_reader.proofs.degree.degrees.Goals as goal

pub returns : goal.returns
returns c =
    let s = degrees c.args.prime in
    record {
      reads = λ i fits. c.listed.ensures.reads (s.within i) (s.behind i) (λ x xs n r y is p. (let h : IsItem s (counted n) x.now y.now r = search rules in h.reads i xs fits is));
      less = c.listed.ensures.less;
    }

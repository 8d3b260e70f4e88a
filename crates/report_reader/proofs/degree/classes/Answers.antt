use Rattle.std.proofs.Common.{rules}
use Rattle.report_reader.specs.Names.{IsItem, counted, classes}
use Rattle.report_reader.proofs.degree.classes.Goals as goal

pub returns : goal.returns
returns c =
    let s = classes c.args.prime c.args.rank in
    record {
      reads = λ i fits. c.listed.ensures.reads (s.within i) (s.behind i) (λ x xs n r y is p. (let h : IsItem s (counted n) x.now y.now r = search rules in h.reads i xs fits is));
      less = c.listed.ensures.less;
    }

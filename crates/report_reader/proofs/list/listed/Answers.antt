use Rattle.std.proofs.Common.{List, ap, sym, rules}
use Rattle.report_reader.{specs.Names.reading, proofs.Steps.{end_of_items, fewer, more_items, refused_items}}
use Rattle.report_reader.proofs.list.listed.Goals as goal

pub loop-found-init : goal.loop-found-init
loop-found-init g c = record {
  reads = λ w b h. ap (λ (xs : List _). reading (w xs) c.args.reader.now) (sym c.new-found.ensures);
  less = search rules;
}

pub returns-in_err-next-clause-reads : goal.returns-in_err-next-clause-reads
returns-in_err-next-clause-reads g c = λ w b h.
    refused_items w b c.loop-found.found c.args.reader.now c.loop-found.reader c.item.new.arg2 (c.loop-found.invariant.reads w b h) c.item.result (h _ c.loop-found.found c.len.result c.item.result _ c.len.ensures c.item.ensures)
    c.in_err-next.field-0.0 c.item.new.arg2 c.from_residual.result c.in_err-next.was c.from_residual.ensures

pub loop-found-preserved : goal.loop-found-preserved
loop-found-preserved g c = record {
  reads = λ w b h.
      more_items w b c.loop-found.found c.args.reader.now c.loop-found.reader c.item.new.arg2 (c.loop-found.invariant.reads w b h) c.item.result (h _ c.loop-found.found c.len.result c.item.result _ c.len.ensures c.item.ensures)
      c.in_ok-next.field-0 c.in-Some.next c.add.new.list c.in_ok-next.was c.in-Some.is c.in_ok-add.ensures;
  less = fewer c.args.reader.now c.loop-found.reader c.item.new.arg2 c.item.result c.in_ok-next.field-0 c.loop-found.invariant.less (c.requires.shrinks _ _ _ _ c.item.ensures) c.in_ok-next.was;
}

pub returns-clause-reads : goal.returns-clause-reads
returns-clause-reads g c = λ w b h.
    end_of_items w b c.loop-found.found c.args.reader.now c.loop-found.reader c.item.new.arg2 (c.loop-found.invariant.reads w b h) c.item.result (h _ c.loop-found.found c.len.result c.item.result _ c.len.ensures c.item.ensures)
    c.in_ok-next.field-0 c.in_ok-next.was c.in_default.is

pub returns-clause-less : goal.returns-clause-less
returns-clause-less g c = fewer c.args.reader.now c.loop-found.reader c.item.new.arg2 c.item.result c.in_ok-next.field-0 c.loop-found.invariant.less (c.requires.shrinks _ _ _ _ c.item.ensures) c.in_ok-next.was

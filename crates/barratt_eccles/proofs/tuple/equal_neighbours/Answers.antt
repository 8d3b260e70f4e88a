use Rattle.std.proofs.Common.{arith, sym, ◌∙◌, ◌≡◌, true, false}
use Rattle.signed_sum.specs.Names.{is_same_list}
use Rattle.barratt_eccles.proofs.RefusalLemmas.{neighbours-end, neighbours-found, neighbours-next, same-test}
use Rattle.barratt_eccles.proofs.tuple.equal_neighbours.Goals as goal

pub returns-then-eq : goal.returns-then-eq
returns-then-eq c =
    let x = c.index-entries-i.result in
    let y = c.index-entries-i-in-loop-i.result in
    let same : is_same_list x y ≡ true = sym (same-test x y) ∙ sym c.eq.ensures ∙ c.if-eq.true in
    sym (neighbours-found c.args.entries.now c.loop-i.i x y c.index-entries-i.is c.index-entries-i-in-loop-i.is c.loop-i-test.true same) ∙ c.loop-i.invariant.0

pub loop-i-preserved : goal.loop-i-preserved
loop-i-preserved c =
    let x = c.index-entries-i.result in
    let y = c.index-entries-i-in-loop-i.result in
    let apart : is_same_list x y ≡ false = sym (same-test x y) ∙ sym c.eq.ensures ∙ c.if-eq.false in
    (neighbours-next c.args.entries.now c.loop-i.i x y c.index-entries-i.is c.index-entries-i-in-loop-i.is c.loop-i-test.true apart ∙ c.loop-i.invariant.0, omega arith)

pub returns : goal.returns
returns c = sym (neighbours-end c.args.entries.now c.loop-i.i c.loop-i.i (omega arith)) ∙ c.loop-i.invariant.0

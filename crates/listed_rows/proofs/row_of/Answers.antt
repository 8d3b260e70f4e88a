use Rattle.std.proofs.Common.{◌≡◌, ◌∙◌, ◌%◌, [], ap, sym, arith, get_or}
use Rattle.complex_index.specs.Names.{level}
use Rattle.listed_rows.proofs.ChainLemmas.{next_place, next_value}
use Rattle.listed_rows.proofs.row_of.Goals as goal

pub push_last-requires : goal.push_last-requires
push_last-requires g c =
    let t = c.term-item.result in
    let k = c.in-Some.place in
    let n = c.args.n in
    let here = level c.args.index.now n in
    let chain = c.args.chain.now in
    let there : get_or here k [] ≡ t.1 = c.in-Some.ensures.1 ∙ c.vertices.ensures in
    let value : c.new.result ≡ t.0 % g.row.P = c.new.ensures ∙ ap (λ v. v % g.row.P) c.coefficient.ensures in (
      omega arith,
      (
        omega arith,
        (
          next_place g.row.P here chain c.requires.listed c.loop-term.term-index t c.term-item.is c.loop-term-test.true c.loop-term.row c.loop-term.invariant k c.in-Some.ensures.0 there (c.requires.complex.index.in_order n),
          λ e. next_value g.row.P here chain c.requires.listed c.loop-term.term-index t c.term-item.is c.loop-term-test.true (sym value ∙ e),
        ),
      ),
    )

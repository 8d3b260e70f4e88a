use Rattle.std.proofs.Common.{arith}
use Rattle.interval_cut.proofs.ExponentLemmas.{passing, passing_interval, passing_step, term-room}
use Rattle.interval_cut.proofs.signs.exponent_of.Goals as goal

pub pass-requires-clause-inside : goal.pass-requires-clause-inside
pass-requires-clause-inside c =
    let h = passing _ _ _ _ _ _ c.requires.cut c.requires.short c.requires.narrow c.requires.low c.loop-i.invariant c.loop-i-test.true in
    omega (arith, h.narrow, c.loop-i.invariant.wide)

pub pass-requires-clause-small : goal.pass-requires-clause-small
pass-requires-clause-small c =
    let h = passing _ _ _ _ _ _ c.requires.cut c.requires.short c.requires.narrow c.requires.low c.loop-i.invariant c.loop-i-test.true in
    omega (arith, h.total, c.length_of-size.ensures.small)

pub overflow_mul-exponent : goal.overflow_mul-exponent
overflow_mul-exponent c =
    let h = passing _ _ _ _ _ _ c.requires.cut c.requires.short c.requires.narrow c.requires.low c.loop-i.invariant c.loop-i-test.true in
    let t = term-room c.length_of-size.result c.pass.result 0 0 (omega (arith, c.length_of-size.ensures.small)) (omega (arith, h.lower, c.pass.ensures.below)) (omega arith) (omega arith) in
    omega arith

pub overflow_add-exponent : goal.overflow_add-exponent
overflow_add-exponent c =
    let h = passing _ _ _ _ _ _ c.requires.cut c.requires.short c.requires.narrow c.requires.low c.loop-i.invariant c.loop-i-test.true in
    let t = term-room c.length_of-size.result c.pass.result 0 0 (omega (arith, c.length_of-size.ensures.small)) (omega (arith, h.lower, c.pass.ensures.below)) (omega arith) (omega arith) in
    omega (arith, h.done_small)

pub end_of-requires : goal.end_of-requires
end_of-requires c =
    (passing_interval _ _ _ _ _ _ c.requires.cut c.requires.short c.requires.narrow c.requires.low c.loop-i.invariant c.loop-i-test.true).inside

pub overflow_mul-exponent-in-loop-i : goal.overflow_mul-exponent-in-loop-i
overflow_mul-exponent-in-loop-i c =
    let h = passing _ _ _ _ _ _ c.requires.cut c.requires.short c.requires.narrow c.requires.low c.loop-i.invariant c.loop-i-test.true in
    let g = passing_interval _ _ _ _ _ _ c.requires.cut c.requires.short c.requires.narrow c.requires.low c.loop-i.invariant c.loop-i-test.true in
    let t = term-room c.length_of-size.result c.pass.result c.end_of.result c.comes_again.result (omega (arith, c.length_of-size.ensures.small)) (omega (arith, h.lower, c.pass.ensures.below)) (omega (arith, g.end, c.end_of.ensures, c.requires.low)) (omega (arith, g.once, c.comes_again.ensures)) in
    omega arith

pub overflow_add-exponent-in-loop-i : goal.overflow_add-exponent-in-loop-i
overflow_add-exponent-in-loop-i c =
    let h = passing _ _ _ _ _ _ c.requires.cut c.requires.short c.requires.narrow c.requires.low c.loop-i.invariant c.loop-i-test.true in
    let g = passing_interval _ _ _ _ _ _ c.requires.cut c.requires.short c.requires.narrow c.requires.low c.loop-i.invariant c.loop-i-test.true in
    let t = term-room c.length_of-size.result c.pass.result c.end_of.result c.comes_again.result (omega (arith, c.length_of-size.ensures.small)) (omega (arith, h.lower, c.pass.ensures.below)) (omega (arith, g.end, c.end_of.ensures, c.requires.low)) (omega (arith, g.once, c.comes_again.ensures)) in
    omega (arith, h.done_small)

pub loop-i-preserved : goal.loop-i-preserved
loop-i-preserved c =
    passing_step _ _ _ _ _ _ c.requires.cut c.requires.short c.requires.narrow c.requires.low c.loop-i.invariant c.loop-i-test.true
    c.length_of-size.result c.pass.result c.comes_again.result c.end_of.result c.pass.new.lengths
    c.length_of-size.ensures.value c.pass.ensures.below c.comes_again.ensures c.end_of.ensures c.pass.ensures.raised

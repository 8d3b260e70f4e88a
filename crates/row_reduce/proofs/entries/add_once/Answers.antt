use Rattle.std.proofs.Common.{◌≡◌, ℕ, ◌+◌, ◌*◌, ◌%◌, ◌<◌, length, get_or, arith, ap, ◌∙◌, take_all}
use Rattle.linear_law.proofs.Names.{Congruent_from}
use Rattle.row_reduce.{specs.Names.run_from, proofs.SumLemmas.{add_entry, read_at}, proofs.EntryLemmas.{run_length, run_read}}
use Rattle.row_reduce.proofs.entries.add_once.Goals as goal

pub loop-i-preserved : goal.loop-i-preserved
loop-i-preserved g c =
    let p = g.row.P in
    let i = c.loop-i.i in
    let run = c.args.run.now in
    let at = c.args.first + i in
    let v = c.index-run-i.result in
    let e : ℕ × ℕ = (at, v) in
    let in_run : i < length run = omega arith in
    let inside : at < length c.loop-i.sum = let b = c.requires.inside i in_run in omega (arith, b, c.loop-i.auto.sum) in
    let v_is : c.add.result ≡ (get_or c.loop-i.sum at 0 + 1 * v) % p =
    c.add.ensures ∙ ap (λ n. n % p) (let r = read_at c.loop-i.sum at c.index-sum-at.result c.index-sum-at.is inside in let s : c.index-sum-at.result + v ≡ get_or c.loop-i.sum at 0 + 1 * v = omega (arith, r) in s) in
    add_entry p 1 c.args.sum.now c.loop-i.sum (run_from c.args.first run) i c.add.result e
    (run_read c.args.first run i v c.index-run-i.is in_run) (let l = run_length c.args.first run in omega arith) inside v_is c.loop-i.invariant

pub returns : goal.returns
returns g c = λ k.
    let l = run_length c.args.first c.args.run.now in
    let all = take_all c.loop-i.i (run_from c.args.first c.args.run.now) (omega (arith, l)) in
    Congruent_from (c.loop-i.invariant k) (rw all (omega arith))

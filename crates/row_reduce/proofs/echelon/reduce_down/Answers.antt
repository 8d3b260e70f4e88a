use Rattle.std.proofs.Common.{◌≡◌, ◌+◌, ◌-◌, [], reverse, length, List, arith, sym, subst}
use Rattle.fp_field.proofs.ServedLemmas.{served_field}
use Rattle.row_reduce.{specs.Names.{EchelonRow, AreEchelon}, proofs.EchelonLemmas.echelon_start}
use Rattle.row_reduce.proofs.echelon.reduce_down.Goals as goal

pub loop-count-init : goal.loop-count-init
loop-count-init g c = λ width rows skip solutions given.
    let p = g.row.P in
    let pivots = c.args.pivots.now in
    let K = given.solved.kernel in
    let e : width ≡ length pivots - 0 = let f = given.triangular.owns.full in omega arith in
    subst (λ (ds : List (EchelonRow p)). AreEchelon p width rows skip K pivots (length pivots - 0) (reverse ds)) (sym c.requires.empty)
    (subst (λ n. AreEchelon p width rows skip K pivots n []) e (echelon_start p width (served_field p c.requires.prime) rows skip solutions pivots c.args.images.now given))

pub loop-count-preserved : goal.loop-count-preserved
loop-count-preserved g c = λ width rows skip solutions given.
    let p = g.row.P in
    let pivots = c.args.pivots.now in
    let n = length pivots in
    let d = c.loop-count.count in
    let K = given.solved.kernel in
    let a : n - d ≡ c.width.result - 1 - d + 1 = omega (arith, c.width.ensures) in
    let b : c.width.result - 1 - d ≡ n - (d + 1) = omega (arith, c.width.ensures) in
    subst (λ k. AreEchelon p width rows skip K pivots k (reverse c.reduce_at.new.done.items)) b
    (c.in_ok-reduce_at.ensures width rows skip solutions given
    (subst (λ k. AreEchelon p width rows skip K pivots k (reverse c.loop-count.done.items)) a (c.loop-count.invariant width rows skip solutions given)))

pub returns : goal.returns
returns g c = λ width rows skip solutions given.
    let p = g.row.P in
    let pivots = c.args.pivots.now in
    let z : length pivots - c.loop-count.count ≡ 0 = omega arith in
    subst (λ k. AreEchelon p width rows skip given.solved.kernel pivots k (reverse c.loop-count.done.items)) z (c.loop-count.invariant width rows skip solutions given)

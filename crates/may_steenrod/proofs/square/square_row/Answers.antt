use Rattle.std.proofs.{lemmas.Result.IfOk-weaker, Common.{◌≡◌, ◌∙◌, ◌+◌, ◌-◌, ◌≤◌, ℕ, List, [], ◌∷◌, ap, arith, get_or, length, lit<, rules, subst, sym, pos}}
use Rattle.simplicial_law.specs.Names.{CongruentInt}
use Rattle.interval_cut_law.specs.Names.{operation_value}
use Rattle.table_reduction_law.specs.Names.{in_turn}
use Rattle.complex_index.specs.Names.{level}
use Rattle.may_steenrod.{specs.Cochains.cochain_in, proofs.OperationLemmas.{on-same, values-same}, proofs.SquareLemmas.{square-copy, square-cup, square-values}}
use Rattle.may_steenrod.proofs.square.square_row.Goals as goal

pub returns-then-k-eq0 : goal.returns-then-k-eq0
returns-then-k-eq0 g c =
    let alpha = c.args.alpha.now in
    let none : c.args.k ≡ 0 = search rules in
    IfOk-weaker c.copy.result _ _ (λ r same. square-copy g.row.P c.args.index.now alpha.degree alpha.row c.requires.two c.requires.inside c.args.k r none same) c.copy.ensures.same

pub returns-then-k-alpha : goal.returns-then-k-alpha
returns-then-k-alpha g c =
    let alpha = c.args.alpha.now in
    let top : c.args.k ≡ alpha.degree = search rules in
    square-cup g.row.P c.args.index.now alpha.degree c.args.k (cochain_in c.args.index.now alpha.degree alpha.row) c.in_ok-cup.field-0.row c.requires.two top c.in_ok-cup.ensures.values

pub row_of-requires : goal.row_of-requires
row_of-requires g c =
    let few : length c.deref.result.now ≤ 4294967296 = let e = ap (λ (xs : List ℕ). length xs) c.deref.ensures.value in let b = c.in_ok-values.ensures.few in omega arith in
    (lit< tt, (lit< tt, few))

pub returns : goal.returns
returns g c =
    let p = g.row.P in
    let index = c.args.index.now in
    let alpha = c.args.alpha.now in
    let q = alpha.degree in
    let n = q + c.args.k in
    let on = c.new-on in
    let a = cochain_in on.result.index.now on.result.cochain.now.degree on.result.cochain.now.row in
    let same = c.deref.ensures.value in
    IfOk-weaker c.row_of.result _ _
    (λ r first. square-values p index q n (q - c.args.k) alpha.row c.requires.two (on-same p on.result.index.now index on.result.cochain.now alpha on.ensures.index on.ensures.cochain on.result.sound) a
    c.deref.result.now r (values-same p on.result.index.now index on.result.cochain.now alpha on.ensures.index on.ensures.cochain)
    (ap (λ (xs : List ℕ). length xs) same ∙ c.in_ok-values.ensures.long)
    (λ x h. subst (λ (xs : List ℕ). CongruentInt p (pos (get_or xs x 0)) (operation_value 2 (in_turn 1 2 (q - c.args.k + 2)) ((λ f. pos (a f)) ∷ (λ f. pos (a f)) ∷ []) (get_or (level index n) x []))) (sym same) (c.in_ok-values.ensures.values x h))
    first) c.row_of.ensures

use Rattle.std.proofs.{Common.{◌≡◌, ◌<◌, ◌≤◌, ◌%◌, ◌∙◌, ℕ, List, ap, arith, get_or, length, lit<, refl, subst, sym, take, take_all}, lemmas.List.take_more}
use Rattle.linear_law.{specs.Names.negated, proofs.Names.each_get_or}
use Rattle.report_law.specs.Names.{cartan_pairs}
use Rattle.line_difference.{specs.Differences.{IsLess, IsLinePair, IsPart}, proofs.DifferenceLemmas.{line-pairs, one-less}}
use Rattle.line_difference.proofs.differences.difference.Goals as goal

pub part-requires : goal.part-requires
part-requires g c =
    let p : ℕ = g.row.P in
    let line = c.args.line in
    let items = c.as_slice-pair-items.result.now in
    let same : items ≡ cartan_pairs p line.a line.b line.n = c.as_slice-pair-items.ensures.value ∙ c.in_ok-pairs.ensures in
    let here : c.loop-pair.pair-index < length items = omega arith in
    let each = line-pairs p c.args.table.now line c.requires.stored in
    let pair = subst (λ (xs : List (ℕ × ℕ)). IsLinePair p c.args.table.now line (get_or xs c.loop-pair.pair-index (0, 0))) (sym same)
    (each_get_or (IsLinePair p c.args.table.now line) (cartan_pairs p line.a line.b line.n) c.loop-pair.pair-index (0, 0) (subst (λ (xs : List (ℕ × ℕ)). c.loop-pair.pair-index < length xs) same here) each) in
    (lit< tt, (lit< tt, (c.requires.prime, (c.requires.low, (pair, (c.requires.first, c.requires.second))))))

pub loop-pair-preserved : goal.loop-pair-preserved
loop-pair-preserved g c =
    let p : ℕ = g.row.P in
    let line = c.args.line in
    let items = c.as_slice-pair-items.result.now in
    let i : ℕ = c.loop-pair.pair-index in
    let pairs : List (ℕ × ℕ) = cartan_pairs p line.a line.b line.n in
    let same : items ≡ pairs = c.as_slice-pair-items.ensures.value ∙ c.in_ok-pairs.ensures in
    let here : i < length items = omega arith in
    let part = subst (λ (xs : List (ℕ × ℕ)). IsPart {p = p} c.args.index.now line c.args.x.now c.args.y.now (get_or xs i (0, 0)) c.in_ok-part.part) same c.in_ok-part.ensures in
    subst (λ (xs : List (ℕ × ℕ)). IsLess {p = p} c.args.index.now line c.args.x.now c.args.y.now xs (record { degree = c.loop-pair.difference.degree; row = c.add_scaled.new.self }))
    (sym (take_more pairs i (0, 0) (subst (λ (xs : List (ℕ × ℕ)). i < length xs) same here)))
    (one-less p c.requires.prime c.args.index.now line c.args.x.now c.args.y.now c.requires.first c.requires.second (take i pairs) (get_or pairs i (0, 0)) c.loop-pair.difference c.in_ok-part.part _ c.neg.result
    (c.neg.ensures ∙ ap (λ (v : ℕ). negated p v % p) c.new.ensures) c.loop-pair.invariant part refl c.in_ok-add_scaled.ensures.row c.in_ok-add_scaled.ensures.sum)

pub returns : goal.returns
returns g c =
    let p : ℕ = g.row.P in
    let line = c.args.line in
    let pairs : List (ℕ × ℕ) = cartan_pairs p line.a line.b line.n in
    let count = ap (λ (xs : List (ℕ × ℕ)). length xs) (c.as_slice-pair-items.ensures.value ∙ c.in_ok-pairs.ensures) in
    let all : length pairs ≤ c.loop-pair.pair-index = omega (arith, count) in
    subst (λ (xs : List (ℕ × ℕ)). IsLess {p = p} c.args.index.now line c.args.x.now c.args.y.now xs c.loop-pair.difference) (take_all c.loop-pair.pair-index pairs all) c.loop-pair.invariant

use Rattle.std.proofs.{Common.{◌≡◌, ◌∙◌, ◌<◌, ◌≤◌, ◌+◌, ℕ, List, true, ap, ap₂, arith, get_or, length, lit<, subst, sym, take, take_all}, lemmas.List.take_more}
use Rattle.report_law.specs.Names.{cartan_op, cartan_pairs, is_defined}
use Rattle.cartan_check.{specs.ByMatrices.{HasPart, IsLessParts}, proofs.ByMatrixLemmas.{no-parts, one-more, pair-at, part-degree}}
use Rattle.cartan_check.proofs.by_matrices.less_parts.Goals as goal

pub loop-pair-init : goal.loop-pair-init
loop-pair-init g c = (c.requires.degree, λ facets levels z w u on hz hw hu. no-parts g.row.P c.requires.prime facets levels (g.B.Basis.classes c.args.basis.now) c.args.line z w u c.args.rest hu)

pub part-requires : goal.part-requires
part-requires g c =
    let p : ℕ = g.row.P in
    let line = c.args.line in
    let pair = pair-at p line c.as_slice-pair-items.result.now c.loop-pair.pair-index (c.as_slice-pair-items.ensures.value ∙ c.in_ok-pairs.ensures) c.loop-pair-test.true in
    let i = get_or c.as_slice-pair-items.result.now c.loop-pair.pair-index (0, 0) in
    let low : c.args.x.now.degree + c.args.y.now.degree ≤ 15 = subst (λ (k : ℕ). k ≤ 15) (sym (ap₂ (λ (a b : ℕ). a + b) c.requires.first c.requires.second)) c.requires.low in (
      lit< tt,
      (
        lit< tt,
        (
          c.requires.prime,
          (
            low,
            (
              subst (λ (q : ℕ). is_defined p q (cartan_op p i.0) ≡ true) (sym c.requires.first) pair.first,
              subst (λ (q : ℕ). is_defined p q (cartan_op p i.1) ≡ true) (sym c.requires.second) pair.second,
            ),
          ),
        ),
      ),
    )

pub difference-requires : goal.difference-requires
difference-requires g c =
    let p : ℕ = g.row.P in
    let line = c.args.line in
    let pair = pair-at p line c.as_slice-pair-items.result.now c.loop-pair.pair-index (c.as_slice-pair-items.ensures.value ∙ c.in_ok-pairs.ensures) c.loop-pair-test.true in
    let i = get_or c.as_slice-pair-items.result.now c.loop-pair.pair-index (0, 0) in
    let degree = part-degree p c.requires.prime line i c.args.x.now.degree c.args.y.now.degree c.in_ok-part.part.degree c.requires.first c.requires.second pair.sum c.in_ok-part.ensures.degree in
    (lit< tt, (c.requires.prime, degree ∙ sym c.loop-pair.invariant.0))

pub loop-pair-preserved : goal.loop-pair-preserved
loop-pair-preserved g c =
    let p : ℕ = g.row.P in
    let line = c.args.line in
    let x = c.args.x.now in
    let y = c.args.y.now in
    let classes = g.B.Basis.classes c.args.basis.now in
    let items = c.as_slice-pair-items.result.now in
    let k : ℕ = c.loop-pair.pair-index in
    let pairs : List (ℕ × ℕ) = cartan_pairs p line.a line.b line.n in
    let same : items ≡ pairs = c.as_slice-pair-items.ensures.value ∙ c.in_ok-pairs.ensures in
    let part = c.in_ok-part.part in (
      c.in_ok-rest.ensures.degree ∙ c.loop-pair.invariant.0,
      λ facets levels z w u on hz hw hu.
          let made = c.in_ok-part.ensures.part facets levels z w on hz hw in
          let at_line = subst (λ (b : ℕ). HasPart {p = p} facets levels classes line.a b z w (get_or items k (0, 0)) part) c.requires.second
          (subst (λ (a : ℕ). HasPart {p = p} facets levels classes a y.degree z w (get_or items k (0, 0)) part) c.requires.first made) in
          let here : HasPart {p = p} facets levels classes line.a line.b z w (get_or pairs k (0, 0)) part = subst (λ (xs : List (ℕ × ℕ)). HasPart {p = p} facets levels classes line.a line.b z w (get_or xs k (0, 0)) part) same at_line in
          subst (λ (xs : List (ℕ × ℕ)). IsLessParts {p = p} facets levels classes line z w u xs c.in_ok-rest.rest)
          (sym (take_more pairs k (0, 0) (subst (λ (xs : List (ℕ × ℕ)). k < length xs) same c.loop-pair-test.true)))
          (one-more p c.requires.prime facets levels classes line z w u (take k pairs) (get_or pairs k (0, 0)) c.loop-pair.rest part c.in_ok-rest.rest (c.loop-pair.invariant.1 facets levels z w u on hz hw hu) here
          (λ f h hf hh. c.in_ok-rest.ensures.difference facets levels classes f h hf hh)),
    )

pub returns-clause-less : goal.returns-clause-less
returns-clause-less g c = λ facets levels z w u on hz hw hu.
    let p : ℕ = g.row.P in
    let line = c.args.line in
    let pairs : List (ℕ × ℕ) = cartan_pairs p line.a line.b line.n in
    let count = ap (λ (xs : List (ℕ × ℕ)). length xs) (c.as_slice-pair-items.ensures.value ∙ c.in_ok-pairs.ensures) in
    let done = c.loop-pair-test.false in
    let all : length pairs ≤ c.loop-pair.pair-index = omega (arith, count, done) in
    subst (λ (xs : List (ℕ × ℕ)). IsLessParts {p = p} facets levels (g.B.Basis.classes c.args.basis.now) line z w u xs c.loop-pair.rest) (take_all c.loop-pair.pair-index pairs all) (c.loop-pair.invariant.1 facets levels z w u on hz hw hu)

-- The gaps of the first values in a cut, and the degrees of cochains on their faces.
use Rattle.std.proofs.{Common.{◌≡◌, ℕ, suc, ◌+◌, ◌*◌, ◌<◌, ◌≤◌, List, [], ◌∷◌, length, sym, ◌∙◌, ap, arith, ℤ, pos, ◌*ℤ◌, sum}, Math.IntN.zero-*ℤ, lemmas.List.Sums.sum_by-cons}
use native.Mathlib.Decide.{ℕ_discrete}
use Rattle.interval_cut_law.{proofs.FaceBoundary.{exact, gaps_below-up, length-exact}, proofs.Walks.{Cell, ends, gaps_below, walk_face, walk_faces}, specs.Names.value_product}
use Rattle.signed_sum.{proofs.Names.{mul_assoc, mul_comm, signed-zero}, specs.Names.{numbers_from, occurs, signed}}
use Rattle.simplicial_law.specs.Names.{HaveDegrees}

-- where the values from j on have intervals, the gaps below the one after the last count as the degrees
pub degrees-sign : (cs : List (List ℕ → ℤ)) (qs : List ℕ) (j d n : ℕ) (c : List Cell) (X : ℤ) → HaveDegrees qs cs → ((i : ℕ) → j ≤ i → i < j + length cs → occurs i (ends c) ≡ 1) →
    signed (d * (n + gaps_below (j + length cs) c)) (value_product cs (walk_faces (numbers_from j (length cs)) c) *ℤ X)
    ≡ signed (d * (n + gaps_below j c + sum qs)) (value_product cs (walk_faces (numbers_from j (length cs)) c) *ℤ X)
degrees-sign [] [] j d n c X h o =
    let z : j + 0 ≡ j = omega arith in
    let e : n + gaps_below j c ≡ n + gaps_below j c + 0 = omega arith in
    (λ i. signed (d * (n + gaps_below (z i) c)) (value_product [] (walk_faces (numbers_from j 0) c) *ℤ X))
    ∙ ap (λ m. signed (d * m) (value_product [] (walk_faces (numbers_from j 0) c) *ℤ X)) e
degrees-sign [] (q ∷ qs) j d n c X h o = absurd h
degrees-sign (a ∷ cs) [] j d n c X h o = absurd h
degrees-sign (a ∷ cs) (q ∷ qs) j d n c X h o = elim (ℕ_discrete (length (walk_face j c)) (suc q)) [
  | yes e ↦
      let g : exact j c ≡ q = (let l = length-exact j c in let p = o j (omega arith) (omega arith) in omega (arith, l, p, e)) in
      let up = gaps_below-up j c in
      let z : j + suc (length cs) ≡ suc j + length cs = omega arith in
      let t : n + gaps_below (suc j) c + sum qs ≡ n + gaps_below j c + (q + sum qs) = omega (arith, up, g) in
      let V : ℤ = value_product cs (walk_faces (numbers_from (suc j) (length cs)) c) in
      let swap = swapped (a (walk_face j c)) V X in
      ap (λ m. signed (d * (n + gaps_below m c)) ((a (walk_face j c) *ℤ V) *ℤ X)) z
      ∙ ap (signed (d * (n + gaps_below (suc j + length cs) c))) swap
      ∙ degrees-sign cs qs (suc j) d n c (a (walk_face j c) *ℤ X) h.1 (λ i l m. o i (omega (arith, l)) (omega (arith, m)))
      ∙ ap (signed (d * (n + gaps_below (suc j) c + sum qs))) (sym swap)
      ∙ ap (λ m. signed (d * m) ((a (walk_face j c) *ℤ V) *ℤ X)) (t ∙ ap (λ m. n + gaps_below j c + m) (sym (sum_by-cons (λ x. x) q qs)))
  | no e ↦
      let V : ℤ = value_product cs (walk_faces (numbers_from (suc j) (length cs)) c) in
      let z : (a (walk_face j c) *ℤ V) *ℤ X ≡ pos 0 = ap (λ y. (y *ℤ V) *ℤ X) (h.0.other (walk_face j c) e) ∙ ap (λ y. y *ℤ X) (zero-*ℤ V) ∙ zero-*ℤ X in
      ap (signed (d * (n + gaps_below (j + suc (length cs)) c))) z ∙ signed-zero (d * (n + gaps_below (j + suc (length cs)) c))
      ∙ sym (ap (signed (d * (n + gaps_below j c + sum (q ∷ qs)))) z ∙ signed-zero (d * (n + gaps_below j c + sum (q ∷ qs))))
]
  where
    swapped : (x y z : ℤ) → (x *ℤ y) *ℤ z ≡ y *ℤ (x *ℤ z)
    swapped x y z = ap (λ w. w *ℤ z) (mul_comm x y) ∙ mul_assoc y x z

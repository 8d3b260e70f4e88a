-- The search for two equal neighbours.
use Rattle.std.proofs.Common.{◌≡◌, ◌≢◌, ℕ, ◌+◌, ◌<◌, ◌≤◌, true, false, ◌||◌, List, [], ◌∷◌, drop, length, length-drop, refl, sym, ◌∙◌, ap, arith, suc, ◌-◌, ◌&&◌, ◌==◌, not}
use Rattle.signed_sum.specs.Names.{is_degenerate, numbers_from}
use Rattle.interval_cut_law.specs.Names.{cut_face, cut_faces, is_live}

few : (xs : List ℕ) → length xs ≤ 1 → is_degenerate xs ≡ false
few [] b = refl
few (x ∷ []) b = refl
few (x ∷ y ∷ xs) b = absurd (omega arith)

pub neighbours_none : (xs : List ℕ) (i : ℕ) → length xs ≤ i + 1 → is_degenerate (drop i xs) ≡ false
neighbours_none xs i b = few (drop i xs) (omega (arith, length-drop i xs))

-- a face that is a simplex of degree q leaves the later faces to decide
pub live_step : (q r k : ℕ) (u p face : List ℕ) → k + 1 ≤ r → face ≡ cut_face (k + 1) u 0 p → (not (is_degenerate face) && (length face == suc q)) ≡ true
    → is_live q (cut_faces (numbers_from (k + 1 + 1) (r - (k + 1))) u p) ≡ is_live q (cut_faces (numbers_from (k + 1) (r - k)) u p)
live_step q r k u p face b e h =
    let more : r - k ≡ suc (r - (k + 1)) = omega arith in
    let next : k + 1 + 1 ≡ suc (k + 1) = omega arith in
    let rest : List (List ℕ) = cut_faces (numbers_from (suc (k + 1)) (r - (k + 1))) u p in
    ap (λ m. is_live q (cut_faces (numbers_from m (r - (k + 1))) u p)) next
    ∙ ap (λ t. t && is_live q rest) (sym h ∙ ap (λ (f : List ℕ). not (is_degenerate f) && (length f == suc q)) e)
    ∙ ap (λ m. is_live q (cut_faces (numbers_from (k + 1) m) u p)) (sym more)

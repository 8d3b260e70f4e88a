-- Operations go with maps of vertices.
use Rattle.std.proofs.Common.{◌≡◌, ℕ, zero, suc, ◌≤◌, List, ◌∷◌, map, length, refl, ◌∙◌, ap, arith, ℤ}
use Rattle.interval_cut_law.{proofs.CochainLaws.naturality_law, specs.Names.operation_value}
use Rattle.steenrod_law.{proofs.Forms.{IsMayFamily, IsPrime, SurjectionTerm, operation_of}, proofs.WordBoundary.some, proofs.WordCochains.over-equal, specs.Names.copies}

map-copies : (f : (List ℕ → ℤ) → List ℕ → ℤ) (k : ℕ) (a : List ℕ → ℤ) → map f (copies k a) ≡ copies k (f a)
map-copies f zero a = refl
map-copies f (suc k) a = ap (λ r. f a ∷ r) (map-copies f k a)

pub operation-map : (f : ℕ → ℕ) (p d : ℕ) (x : ℕ → List SurjectionTerm) (a : List ℕ → ℤ) (s : List ℕ) → IsPrime p → IsMayFamily p x → 1 ≤ length s → operation_of p (x d) a (map f s) ≡ operation_of p (x d) (λ g. a (map f g)) s
operation-map f p d x a s prime may hs =
    let t = prime.two in
    over-equal p d (x d) (λ u. operation_value p u (copies p a) (map f s)) (λ u. operation_value p u (copies p (λ g. a (map f g))) s) (may.terms d)
    (λ u o e. naturality_law f p u s (copies p a) hs (some p u (omega arith) o) ∙ ap (λ cs. operation_value p u cs s) (map-copies (λ b g. b (map f g)) p a))

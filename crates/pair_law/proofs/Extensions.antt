-- Extension by 0, and cochains made 0 on the empty list.
use Rattle.std.proofs.Common.{◌≡◌, ℕ, ◌+◌, ◌*◌, ◌≤◌, inl, inr, Bool, true, false, cond, List, [], ◌∷◌, length, refl, sym, ◌∙◌, ap, arith}
use Rattle.std.proofs.lemmas.Bool.{cases_Bool}
use Rattle.linear_law.proofs.Names.{Congruent_of, Congruent_trans}
use Rattle.simplicial_law.proofs.Names.{coboundary_same}
use Rattle.simplicial_law.specs.Names.{AgreesOnSimplices, Cochain, coboundary}
use Rattle.relative_law.proofs.Covered.{covered_simplex, simplex_covered}
use Rattle.relative_law.specs.Names.{is_covered}
use Rattle.pair_law.specs.Sequences.{extended_by_zero}

pub extended_inside : (sub : List (List ℕ)) (n p : ℕ) (w : Cochain) → AgreesOnSimplices sub n p (extended_by_zero sub w) w
extended_inside sub n p w = record { at = λ s on. Congruent_of (ap (λ b. cond b (w s) 0) (simplex_covered sub n s on)) }

pub extended_plus : (sub : List (List ℕ)) (k : ℕ) (v w : Cochain) (s : List ℕ) → extended_by_zero sub (λ t. v t + k * w t) s ≡ extended_by_zero sub v s + k * extended_by_zero sub w s
extended_plus sub k v w s = go (is_covered sub s)
  where
    go : (b : Bool) → cond b (v s + k * w s) 0 ≡ cond b (v s) 0 + k * cond b (w s) 0
    go true = refl
    go false = omega arith

pub extended_alike : (facets sub : List (List ℕ)) (n p : ℕ) (v w : Cochain) → AgreesOnSimplices sub n p v w → AgreesOnSimplices facets n p (extended_by_zero sub v) (extended_by_zero sub w)
extended_alike facets sub n p v w h = record {
  at = λ s on. elim (cases_Bool (is_covered sub s)) [
    | inl e ↦ Congruent_trans (Congruent_of (ap (λ b. cond b (v s) 0) e)) (Congruent_trans (h.at s (covered_simplex facets sub n s on e)) (Congruent_of (sym (ap (λ b. cond b (w s) 0) e))))
    | inr e ↦ Congruent_of (ap (λ b. cond b (v s) 0) e ∙ sym (ap (λ b. cond b (w s) 0) e))
  ];
}

-- the cochain, made 0 on the empty list
abbrev pub grounded : Cochain → Cochain
grounded f [] = 0
grounded f (v ∷ s) = f (v ∷ s)

pub grounded_same : (facets : List (List ℕ)) (n p : ℕ) (f : Cochain) → AgreesOnSimplices facets n p (grounded f) f
grounded_same facets n p f = record { at = λ s on. Congruent_of (here s (let e = on.size in omega arith)) }
  where
    here : (s : List ℕ) → 1 ≤ length s → grounded f s ≡ f s
    here [] h = absurd (omega arith)
    here (v ∷ s) h = refl

pub grounded_coboundary : (facets : List (List ℕ)) (n p : ℕ) (f : Cochain) → AgreesOnSimplices facets (n + 1) p (coboundary p (grounded f)) (coboundary p f)
grounded_coboundary facets n p f = coboundary_same facets n p (grounded f) f (grounded_same facets n p f)

-- The May elements have the relations that the laws of words need.
use Rattle.std.proofs.{Common.{◌≡◌, ℕ, suc, ◌+◌, ◌≤◌, false, List, [], ◌∷◌, ◌∙◌, ap, arith, ℤ, All, length}, lemmas.List.Elements.{All-head, All-tail}}
use Rattle.signed_sum.specs.Names.{is_degenerate}
use Rattle.steenrod_law.proofs.Forms.{AreTerms, IsMayFamily, SurjectionTerm, boundary_over}
use Rattle.table_reduction_law.{proofs.CandidateCounts.may_terms_law, proofs.FormalSums.may_relations, specs.Names.may_element}
use Rattle.surjection_law.{proofs.Caesuras.caesura_law, specs.Names.IsOnto}

terms-of : (p d : ℕ) (x : List SurjectionTerm) → All (λ (t : SurjectionTerm). IsOnto p t.0 × (length t.0 ≡ p + d) × (is_degenerate t.0 ≡ false)) x → AreTerms p d x
terms-of p d [] h = tt
terms-of p d (t ∷ x) h =
    let P : SurjectionTerm → Type 0 = λ t. IsOnto p t.0 × (length t.0 ≡ p + d) × (is_degenerate t.0 ≡ false) in
    let k = All-head P t x h in
    let c = caesura_law.places p t.0 k.0 in
    let l = k.1 in
    (k.0, omega arith, terms-of p d x (All-tail P t x h))

pub may_family : (p : ℕ) → 1 ≤ p → IsMayFamily p (may_element p)
may_family p le = record {
  terms = λ d. terms-of p d (may_element p d) (may_terms_law.terms p d le);
  first = λ h. may_relations.bottom p h le;
  even = λ d e h. plus-one p d h ∙ may_relations.even p d h le e;
  odd = λ d e h. plus-one p d h ∙ may_relations.odd p d h le e;
}
  where
    plus-one : (p d : ℕ) (h : List ℕ → ℤ) → boundary_over (may_element p (suc d)) h ≡ boundary_over (may_element p (d + 1)) h
    plus-one p d h = let e : suc d ≡ d + 1 = omega arith in ap (λ j. boundary_over (may_element p j) h) e

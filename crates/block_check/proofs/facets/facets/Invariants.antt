use Rattle.std.proofs.Common.{◌≡◌, ℕ, ◌+◌, List, [], ◌∷◌, drop, take}
use Rattle.certificate_law.specs.Names.{Asks, behind, facet_stands}
use Rattle.certificate_walk.proofs.Names.{Leads}
use Rattle.block_check.proofs.facets.facets.Given as goal

abbrev pub invariant-loop-place : goal.invariant-loop-place
invariant-loop-place l = record {
  kept : l.complex ≡ take l.place l.facets;
  walked : (p : ℕ) → Leads (Asks p 1) l.before (behind (λ (fs : List (List ℕ)) f. facet_stands fs f ∷ []) [] l.facets) (l.before + l.place) (behind (λ (fs : List (List ℕ)) f. facet_stands fs f ∷ []) (take l.place l.facets) (drop l.place l.facets));
}

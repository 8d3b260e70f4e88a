-- The walk of the facets of a complex.
use Rattle.std.proofs.Common.{◌≡◌, ℕ, ◌+◌, refl, sym, subst, List, [], ◌∷◌, Ok, Err, IsErrAnd, Result}
use Rattle.certificate_law.specs.Names.{Asks, Stated, facet_stands}
use Rattle.certificate_walk.specs.{Names.IsWalk, declared.stop.Stop.Stop, declared.stop.Stop.TheVariants.{Fails, OutOfMemory}}
use Rattle.block_check.specs.Blocks.{IsFacetWalk, walked}

pub facet_stops : (p count : ℕ) (before : List (List ℕ)) (f : List ℕ) (e : Stop) → IsFacetWalk count before f (Err e) → IsWalk (Asks p 1) count (facet_stands before f ∷ []) (Err e)
facet_stops p count before f (Fails line) h = record {
  number = 1;
  line_is = h.0;
  fails = record { before = []; at = facet_stands before f; behind = []; split = refl; number_is = refl; holds = tt; fails = h.1 };
}
facet_stops p count before f OutOfMemory h = tt

pub facet_more : (p count next : ℕ) (before : List (List ℕ)) (f : List ℕ) (facets : List (List ℕ)) → next ≡ count + 1 → IsFacetWalk count before f (Ok facets) → IsWalk (Asks p 1) count (facet_stands before f ∷ []) (Ok next)
facet_more p count next before f facets e h = (e, (h.1, tt))

abbrev pub facet_line : List (List ℕ) → List ℕ → List Stated
facet_line fs f = facet_stands fs f ∷ []

-- an answer that is passed on by a walk that keeps something
pub walked_passed : {X : Type 0} (P : Stated → Type 0) (before last : ℕ) (lines : List Stated) (s : Stop) (r : Result X Stop) → IsErrAnd r (λ e. e ≡ s) → IsWalk P before lines (Err s) → IsWalk P before lines (walked last r)
walked_passed P before last lines s (Ok x) h k = absurd h
walked_passed P before last lines s (Err e) h k = subst (λ (t : Stop). IsWalk P before lines (Err t)) (sym h) k

-- A coboundary sees the values on the faces alone.
use Rattle.std.proofs.Common.{◌≡◌, ℕ, ◌+◌, List, [], ◌∷◌, refl, ap, ℤ, ◌+ℤ◌, neg_ℤ}
use Rattle.linear_law.{proofs.Names.{each_map, each_of_map, each_unmap}, specs.Names.Each}
use Rattle.signed_sum.specs.Names.{unless_empty, without_one}
use Rattle.simplicial_law.{proofs.Names.face_simplex, specs.Names.{faces, integral_coboundary, IsSimplex}}
use Rattle.steenrod_law.proofs.Forms.{IsFaceClosed, IsWeakFace, drop, none, take}

agree : (s : List ℕ) (h g : List ℕ → ℤ) → Each (λ t. h t ≡ g t) (faces s) → without_one s h ≡ without_one s g
agree [] h g e = refl
agree (x ∷ s) h g e =
    let ih = agree s (λ t. h (x ∷ t)) (λ t. g (x ∷ t)) (each_unmap (λ t. h t ≡ g t) (λ t. x ∷ t) (faces s) e.1) in
    (λ i. e.0 i +ℤ neg_ℤ (ih i))

coboundary-agree : (a b : List ℕ → ℤ) (s : List ℕ) → Each (λ t. a t ≡ b t) (faces s) → integral_coboundary a s ≡ integral_coboundary b s
coboundary-agree a b s e =
    agree s (λ t. unless_empty t (a t)) (λ t. unless_empty t (b t)) (each_map (λ t k. ap (unless_empty t) k) (faces s) e)

pub on_simplices : (facets : List (List ℕ)) (n : ℕ) (a b : List ℕ → ℤ) (s : List ℕ) → IsSimplex facets (n + 1) s →
    ((t : List ℕ) → IsSimplex facets n t → a t ≡ b t) → integral_coboundary a s ≡ integral_coboundary b s
on_simplices facets n a b s on e = coboundary-agree a b s (each_map e (faces s) (face_simplex facets n s on))

whole-face : (s : List ℕ) → IsWeakFace s s
whole-face [] = none
whole-face (x ∷ s) = take (drop (whole-face s))

weak-faces : (s : List ℕ) → Each (λ t. IsWeakFace t s) (faces s)
weak-faces [] = tt
weak-faces (x ∷ s) =
    (drop (whole-face s), each_of_map (λ t. IsWeakFace t (x ∷ s)) (λ t. x ∷ t) (faces s) (each_map (λ t w. take (drop w)) (faces s) (weak-faces s)))

pub on_faces : (K : List ℕ → Type 0) → IsFaceClosed K → (a b : List ℕ → ℤ) (s : List ℕ) → K s → ((t : List ℕ) → K t → a t ≡ b t) →
    integral_coboundary a s ≡ integral_coboundary b s
on_faces K fc a b s ks e = coboundary-agree a b s (each_map (λ t w. e t (fc t s w ks)) (faces s) (weak-faces s))

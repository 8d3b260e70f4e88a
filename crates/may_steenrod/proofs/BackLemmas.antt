-- The back faces of a simplex, one vertex less at a time.
use Rattle.std.proofs.Common.{◌≡◌, ℕ, ◌+◌, ◌-◌, ◌<◌, ◌≤◌, List, [], ◌∷◌, length, drop, drop-drop, get_or, arith, sym, ap, subst, ◌∙◌}
use Rattle.complex_index.specs.Names.{ArePlaces, IsComplexIndex, level}
use Rattle.may_steenrod.proofs.PlaceLemmas.{simplex-size}

first-place : (lower : List (List ℕ)) (s ps : List ℕ) → 0 < length s → ArePlaces lower s ps → (0 < length ps) × (get_or ps 0 0 < length lower) × (get_or lower (get_or ps 0 0) [] ≡ drop 1 s)
first-place lower [] ps l h = absurd (omega arith)
first-place lower (x ∷ xs) [] l h = absurd (let e = ap (λ (ts : List (List ℕ)). length ts) h.places in omega (arith, e))
first-place lower (x ∷ xs) (q ∷ qs) l h = (omega arith, h.below.0, ap (λ (ts : List (List ℕ)). get_or ts 0 []) h.places)

-- without the first vertices, the simplex at the place is the one at another place
pub record IsBack (levels : List (List (List ℕ))) (n place count back : ℕ) : Type 0 where
  pub inside : back < length (level levels (n - count))
  pub same : get_or (level levels (n - count)) back [] ≡ drop count (get_or (level levels n) place [])

pub back-start : (levels : List (List (List ℕ))) (n place : ℕ) → place < length (level levels n) → IsBack levels n place 0 place
back-start levels n place l = let e : n ≡ n - 0 = omega arith in record {
  inside = subst (λ (m : ℕ). place < length (level levels m)) e l;
  same = ap (λ (m : ℕ). get_or (level levels m) place []) (sym e);
}

module _ (levels : List (List (List ℕ))) (complex : IsComplexIndex levels) (n place count back : ℕ) (h : IsBack levels n place count back) (left : count < n) (ps : List ℕ)
    (faces : ArePlaces (level levels (n - count - 1)) (get_or (level levels (n - count)) back []) ps) where
  first : (0 < length ps) × (get_or ps 0 0 < length (level levels (n - count - 1))) × (get_or (level levels (n - count - 1)) (get_or ps 0 0) [] ≡ drop 1 (get_or (level levels (n - count)) back []))
  first = first-place (level levels (n - count - 1)) (get_or (level levels (n - count)) back []) ps (let e = simplex-size levels complex.facets (n - count) back complex.index h.inside in omega (arith, e)) faces

  pub back-some : 0 < length ps
  back-some = first.0

  pub back-more : (next : ℕ) → next ≡ get_or ps 0 0 → IsBack levels n place (count + 1) next
  back-more next e = let d : n - count - 1 ≡ n - (count + 1) = omega arith in record {
    inside = subst (λ (m : ℕ). next < length (level levels m)) d (subst (λ (k : ℕ). k < length (level levels (n - count - 1))) (sym e) first.1);
    same = ap (λ (m : ℕ). get_or (level levels m) next []) (sym d) ∙ ap (λ (k : ℕ). get_or (level levels (n - count - 1)) k []) e ∙ first.2
        ∙ ap (λ (s : List ℕ). drop 1 s) h.same ∙ drop-drop 1 count (get_or (level levels n) place []);
  }

pub back-end : (levels : List (List (List ℕ))) (n place q count back : ℕ) → q ≤ n → count ≡ n - q → IsBack levels n place count back
    → (back < length (level levels q)) × (get_or (level levels q) back [] ≡ drop (n - q) (get_or (level levels n) place []))
back-end levels n place q count back l e h = let d : n - count ≡ q = omega (arith, e, l) in (
  subst (λ (m : ℕ). back < length (level levels m)) d h.inside,
  ap (λ (m : ℕ). get_or (level levels m) back []) (sym d) ∙ h.same ∙ ap (λ (k : ℕ). drop k (get_or (level levels n) place [])) e,
)

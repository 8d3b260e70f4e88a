-- A face of a simplex on some of its places, one place after the other.
use Rattle.std.proofs.{Common.{◌≡◌, ℕ, ◌+◌, ◌-◌, ◌<◌, ◌≤◌, List, [], ◌∷◌, ◌++◌, length, map, take, drop, take_all, get_or, append_assoc, append-nil, arith, sym, ap, ap₂, subst, ◌∙◌, length-append, length-take-le}, Math.Seq.{drop-append-add, take-append_seam}, lemmas.List.{at_drop_more, drop_all, get_or-map, length-map, take_more}}
use Rattle.linear_law.proofs.Names.{each_get_or}
use Rattle.simplex_set.proofs.AddingFaces.{face_made, length_faces}
use Rattle.interval_cut_law.specs.Names.{vertex_at}
use Rattle.complex_index.specs.Names.{ArePlaces, IsComplexIndex, level}
use Rattle.may_steenrod.{specs.{Chosen.IsChosen, declared.chosen.Face.Face}, proofs.PlaceLemmas.simplex-size}

-- before the last place all vertices are there
pub chosen-all : (levels : List (List (List ℕ))) (n place : ℕ) (places : List ℕ) (s : List ℕ) → IsComplexIndex levels → place < length (level levels n) → s ≡ get_or (level levels n) place []
    → IsChosen levels s places (n + 1) (record { degree = n; place = place; rest = length places })
chosen-all levels n place places s complex l e =
    let size : length s ≤ n + 1 = omega (arith, ap (λ (t : List ℕ). length t) e, simplex-size levels complex.facets n place complex.index l) in
    record {
      few = omega arith;
      inside = l;
      is = sym e ∙ sym (take_all (n + 1) s size) ∙ sym (append-nil (take (n + 1) s)) ∙ ap (λ ys. take (n + 1) s ++ map (vertex_at s) ys) (sym (drop_all (length places) places (omega arith)));
    }

module _ (levels : List (List (List ℕ))) (complex : IsComplexIndex levels) (s places : List ℕ) (k : ℕ) (inside : k < length s) (face : Face) (h : IsChosen levels s places (k + 1) face) where
  abbrev here : List ℕ
  here = get_or (level levels face.degree) face.place []

  abbrev behind : List ℕ
  behind = map (vertex_at s) (drop face.rest places)

  parts : here ≡ take k s ++ get_or s k 0 ∷ behind
  parts = h.is ∙ ap (λ ys. ys ++ behind) (take_more s k 0 inside) ∙ append_assoc (take k s) (get_or s k 0 ∷ []) behind

  before : length (take k s) ≡ k
  before = length-take-le k s (omega (arith, inside))

  -- the vertex at place k is one of the chosen ones
  pub chosen-kept : (r : ℕ) → r + 1 ≡ face.rest → get_or places r 0 ≡ k → IsChosen levels s places k (record { degree = face.degree; place = face.place; rest = r })
  chosen-kept r e p = record {
    few = let f = h.few in omega (arith, f, e);
    inside = h.inside;
    is = parts ∙ ap (λ ys. take k s ++ ys) (sym (at_drop_more (map (vertex_at s)) places r 0 (let f = h.few in omega (arith, f, e)) ∙ ap₂ (λ v ys. v ∷ ys) (ap (vertex_at s) p) (ap (λ m. map (vertex_at s) (drop m places)) e)));
  }

  -- it is not
  module _ (ps : List ℕ) (are : ArePlaces (level levels (face.degree - 1)) here ps) where
    long : k < length here
    long = omega (arith, ap (λ (t : List ℕ). length t) parts ∙ length-append (take k s) (get_or s k 0 ∷ behind), before)

    pub chosen-room : k < length ps
    chosen-room = omega (arith, long, length_faces here, ap (λ (ts : List (List ℕ)). length ts) are.places, length-map ps (λ x. get_or (level levels (face.degree - 1)) x []))

    pub chosen-less : (next : ℕ) → next ≡ get_or ps k 0 → IsChosen levels s places k (record { degree = face.degree - 1; place = next; rest = face.rest })
    chosen-less next e = record {
      few = h.few;
      inside = subst (λ (x : ℕ). x < length (level levels (face.degree - 1))) (sym e) (each_get_or (λ x. x < length (level levels (face.degree - 1))) ps k 0 chosen-room are.below);
      is = ap (λ (x : ℕ). get_or (level levels (face.degree - 1)) x []) e
          ∙ sym (get_or-map (λ x. get_or (level levels (face.degree - 1)) x []) ps k 0 [] chosen-room) ∙ ap (λ (ts : List (List ℕ)). get_or ts k []) are.places
          ∙ sym (face_made k here long) ∙ ap₂ (λ xs ys. xs ++ ys) first last;
    }
      where
        first : take k here ≡ take k s
        first = ap (take k) parts ∙ ap (λ m. take m (take k s ++ get_or s k 0 ∷ behind)) (sym before) ∙ take-append_seam (take k s) (get_or s k 0 ∷ behind)

        last : drop (k + 1) here ≡ behind
        last = ap (drop (k + 1)) parts ∙ ap (λ m. drop (m + 1) (take k s ++ get_or s k 0 ∷ behind)) (sym before) ∙ drop-append-add (take k s) (get_or s k 0 ∷ behind) 1

-- The faces of simplices, and the simplices above each, by their places in lists of simplices.
use Rattle.std.specs.{Prelude.{◌≡◌, ℕ, suc, ◌-◌, ◌<◌, ◌≤◌, ◌==◌, Bool, false, not, cond, List, [], ◌∷◌, ◌++◌, map, length, get_or, take, drop, Vec}, List.AllZip, declared.alloc.Global.Global}
use Rattle.complex_index.specs.declared.cofaces.Coface.{Coface}
use Rattle.linear_law.specs.Names.{Each}
use Rattle.simplicial_law.specs.Names.{faces}

-- the simplex at a place
abbrev pub simplex_at : List (List ℕ) → ℕ → List ℕ
simplex_at ks x = get_or ks x []

-- the places of the faces of s, in the order of its vertices
pub record ArePlaces (lower : List (List ℕ)) (s : List ℕ) (ps : List ℕ) : Type 0 where
  pub below : Each (λ x. x < length lower) ps
  pub places : map (simplex_at lower) ps ≡ faces s

-- the list grows by the places of the faces of s
pub record AddsPlaces (lower : List (List ℕ)) (s old new : List ℕ) : Type 0 where
  pub added : List ℕ
  pub is : new ≡ old ++ added
  pub places : ArePlaces lower s added

-- each list has the places of the faces of the simplex at its place
abbrev pub ArePlacesOf : List (List ℕ) → List (List ℕ) → List (List ℕ) → Type 0
ArePlacesOf lower upper pss = AllZip (ArePlaces lower) upper pss

-- the simplex y, once for each place of x among the places of its faces
abbrev pub marks : ℕ → ℕ → Bool → List ℕ → List Coface
marks x y odd [] = []
marks x y odd (q ∷ qs) = cond (q == x) (record { place = y; odd = odd } ∷ []) [] ++ marks x y (not odd) qs

-- the simplices, numbered from y on, of which x is a face
abbrev pub above_at : ℕ → ℕ → List (List ℕ) → List Coface
above_at x y [] = []
above_at x y (ps ∷ pss) = marks x y false ps ++ above_at x (suc y) pss

-- ---- lists of lists, as the code keeps them

abbrev pub lists_of : {X : Type 0} → List (Vec X Global) → List (List X)
lists_of {X} vs = map (λ (v : Vec X Global). v.items) vs

-- the list at a place, none past the last
abbrev pub list_at : {X : Type 0} → List (Vec X Global) → ℕ → List X
list_at vs x = get_or (lists_of vs) x []

-- the parts of a list from each bound to the next
abbrev pub parts : {X : Type 0} → List ℕ → List X → List (List X)
parts [] xs = []
parts (a ∷ []) xs = []
parts (a ∷ (b ∷ bs)) xs = take (b - a) (drop a xs) ∷ parts (b ∷ bs) xs

-- the bounds do not fall, and are n at most
abbrev pub AreBounds : ℕ → List ℕ → Type 0
AreBounds n [] = Unit {0}
AreBounds n (a ∷ []) = a ≤ n
AreBounds n (a ∷ (b ∷ bs)) = (a ≤ b) × AreBounds n (b ∷ bs)

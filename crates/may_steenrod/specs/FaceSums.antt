-- Sums of products of the values of one cochain on faces of a simplex.
use Rattle.std.specs.{Prelude.{◌≡◌, ◌<◌, ◌≤◌, ℕ, ◌*◌, List, [], ◌∷◌, map, take, length, get_or, ℤ, pos, ◌*ℤ◌, Vec}, declared.alloc.Global.Global}
use Rattle.linear_law.specs.Names.{Each}
use Rattle.signed_sum.specs.Names.{total}
use Rattle.interval_cut_law.specs.Names.{vertex_at}
use Rattle.complex_index.specs.Names.{list_at}
use Rattle.may_steenrod.specs.declared.face_sum.Term.{Term}

-- the product of the values of a on faces, given by places, of the simplex s
abbrev pub face_product : (List ℕ → ℤ) → List ℕ → List (List ℕ) → ℤ
face_product a s [] = pos 1
face_product a s (f ∷ fs) = a (map (λ i. vertex_at s i) f) *ℤ face_product a s fs

-- the sum of such products, each with a coefficient
abbrev pub face_sum : (List ℕ → ℤ) → List ℕ → List (ℕ × List (List ℕ)) → ℤ
face_sum a s ts = total (λ t. pos t.0 *ℤ face_product a s t.1) ts

-- ---- what the code keeps: faces, and terms with p faces each by their numbers

abbrev pub faces_of : {p : ℕ} → List (Vec ℕ Global) → Term p → List (List ℕ)
faces_of {p} faces t = map (list_at faces) (take p t.faces)

abbrev pub terms_in : {p : ℕ} → List (Vec ℕ Global) → List (Term p) → List (ℕ × List (List ℕ))
terms_in faces terms = map (λ t. (t.coefficient, faces_of faces t)) terms

-- the numbers of the faces of each term are those of faces
abbrev pub AreNumbered : {p : ℕ} → List (Vec ℕ Global) → List (Term p) → Type 0
AreNumbered {p} faces terms = Each (λ t. Each (λ k. k < length faces) (take p t.faces)) terms

-- the old faces keep their numbers
pub record Extends (old new : List (Vec ℕ Global)) : Type 0 where
  pub longer : length old ≤ length new
  pub same : (k : ℕ) → k < length old → list_at new k ≡ list_at old k

-- the value of a cochain on a face of the simplex s
abbrev pub value_on_face : (List ℕ → ℕ) → List ℕ → Vec ℕ Global → ℕ
value_on_face a s f = a (map (λ i. vertex_at s i) f.items)

-- the product of the values with these numbers
abbrev pub product_at : List ℕ → List ℕ → ℕ
product_at vs [] = 1
product_at vs (k ∷ ks) = get_or vs k 0 * product_at vs ks

-- the coefficient of a term times the product of the values of its faces
abbrev pub term_product : {p : ℕ} → List ℕ → Term p → ℕ
term_product {p} vs t = t.coefficient * product_at vs (take p t.faces)

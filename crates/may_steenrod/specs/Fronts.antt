-- Sums of products of values on front faces with values on back faces.
use Rattle.std.specs.{Prelude.{◌≡◌, ◌≤◌, ◌<◌, ◌+◌, ◌-◌, ◌*◌, ◌%◌, ℕ, List, [], length, take, drop, get_or}, declared.cmp.Ordering.TheVariants.Less}
use Rattle.linear_law.specs.Names.{sum_over}
use Rattle.simplicial_law.specs.Names.{Cochain, unit_cochain, simplex_cmp}
use Rattle.sparse_rows.specs.Rows.{IsBelow, value_in}

-- k is the place of the first of the lists that does not stand before s
pub record IsFirstFrom (ks : List (List ℕ)) (s : List ℕ) (k : ℕ) : Type 0 where
  pub within : k ≤ length ks
  pub before : (i : ℕ) → i < k → simplex_cmp (get_or ks i []) s ≡ Less
  pub from : (i : ℕ) → k ≤ i → i < length ks → simplex_cmp (get_or ks i []) s ≡ Less → ⊥

-- at s, where it begins with the face f: v times the value of b on the back face that begins with the last vertex of f
abbrev pub front_product : ℕ → Cochain → List ℕ → ℕ → List ℕ → ℕ
front_product p b f v s = unit_cochain f (take (length f) s) * ((v * b (drop (length f - 1) s)) % p)

-- the pairs `new` are those of `old` with the products with the value v on the front face f, at the simplices `above`
pub record AddsFront (p : ℕ) (above : List (List ℕ)) (b : Cochain) (f : List ℕ) (v : ℕ) (old new : List (ℕ × ℕ)) : Type 0 where
  pub sum : (k : ℕ) → k < length above → value_in new k ≡ value_in old k + front_product p b f v (get_or above k [])
  pub below : IsBelow (length above) old → IsBelow (length above) new

-- the pairs are the products with the values of a row on the front faces `here`, at the simplices `above`
pub record AddsFronts (p : ℕ) (here above : List (List ℕ)) (b : Cochain) (row pairs : List (ℕ × ℕ)) : Type 0 where
  pub sum : (k : ℕ) → k < length above → value_in pairs k ≡ sum_over (λ e. front_product p b (get_or here e.0 []) e.1 (get_or above k [])) row
  pub below : IsBelow (length above) pairs

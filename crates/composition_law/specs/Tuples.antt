-- Composition of tuples: a sum over lattice paths, after Berger and Fresse.
use Rattle.std.specs.Prelude.{ℕ, ◌+◌, ◌-◌, ◌≤◌, ◌==◌, nat_lt, cond, List, [], ◌∷◌, ◌++◌, length, map, flat_map, get_or, zero, suc, ℤ, pos, ◌+ℤ◌}
use Rattle.signed_sum.specs.Names.{rearrangement_sign, numbers_from, signed, kept_terms}
use Rattle.table_reduction_law.specs.Names.{is_degenerate_tuple, tuple_arity, tuple_degree}

-- what stands in w ∘_k v for the value x of w: the values of v with k - 1 added for k, and a value above
-- k grows by the length of v less 1
abbrev pub replaced : ℕ → List ℕ → ℕ → List ℕ
replaced k v x = cond (x == k) (map (λ y. y + (k - 1)) v) (cond (nat_lt k x) (x + (length v - 1)) x ∷ [])

-- w ∘_k v, for permutations w and v: the list v stands in the place of the value k of w
abbrev pub inserted : ℕ → List ℕ → List ℕ → List ℕ
inserted k w v = flat_map (replaced k v) w

-- a step of a lattice path: to the next entry of the outer tuple, or to that of the inner tuple
pub data Step : Type 0 where
  step_x : Step
  step_y : Step

-- the lattice paths from (0, 0) to (d, e), each as its steps
abbrev pub lattice_paths : ℕ → ℕ → List (List Step)
lattice_paths zero zero = [] ∷ []
lattice_paths zero (suc e) = map (λ s. step_y ∷ s) (lattice_paths zero e)
lattice_paths (suc d) zero = map (λ s. step_x ∷ s) (lattice_paths d zero)
lattice_paths (suc d) (suc e) = map (λ s. step_x ∷ s) (lattice_paths d (suc e)) ++ map (λ s. step_y ∷ s) (lattice_paths (suc d) e)

-- the points on a path that begins at (i, j)
abbrev pub points_from : ℕ → ℕ → List Step → List (ℕ × ℕ)
points_from i j [] = (i, j) ∷ []
points_from i j (step_x ∷ s) = (i, j) ∷ points_from (suc i) j s
points_from i j (step_y ∷ s) = (i, j) ∷ points_from i (suc j) s

-- the tuple of the w_i ∘_k v_j along a path
abbrev pub tuple_along : ℕ → List (List ℕ) → List (List ℕ) → List Step → List (List ℕ)
tuple_along k w v s = map (λ q. inserted k (get_or w q.0 []) (get_or v q.1 [])) (points_from 0 0 s)

-- the symbols of the steps: i, i + 1, .. for the steps x, and j, j + 1, .. for the steps y
abbrev pub step_symbols : ℕ → ℕ → List Step → List ℕ
step_symbols i j [] = []
step_symbols i j (step_x ∷ s) = i ∷ step_symbols (suc i) j s
step_symbols i j (step_y ∷ s) = j ∷ step_symbols i (suc j) s

-- the sign of the rearrangement of x1 .. xd y1 .. ye into the steps of a path: here x1 .. xd are the
-- numbers from 1 to d, and y1 .. ye the next e
abbrev pub path_sign : ℕ → ℕ → List Step → ℤ
path_sign d e s = rearrangement_sign (numbers_from 1 (d + e)) (step_symbols 1 (d + 1) s)

-- The composition at k: the sum over all lattice paths, without the tuples that are degenerate.
abbrev pub tuple_composition : ℕ → List (List ℕ) → List (List ℕ) → List (List (List ℕ) × ℤ)
tuple_composition k w v =
    kept_terms is_degenerate_tuple
    (map (λ s. (tuple_along k w v s, path_sign (tuple_degree w) (tuple_degree v) s)) (lattice_paths (tuple_degree w) (tuple_degree v)))

-- the number of lattice paths
abbrev pub path_count : List (List ℕ) → List (List ℕ) → ℕ
path_count w v = length (lattice_paths (tuple_degree w) (tuple_degree v))

-- z where both lists are empty, else 0
abbrev pub at_end : List (List ℕ) → List (List ℕ) → ℤ → ℤ
at_end [] [] z = z
at_end [] (v ∷ vs) z = pos 0
at_end (w ∷ ws) vs z = pos 0

-- The signed sum of h over the tuples along the paths from the first entries of two lists to the last.
-- A step in the inner list costs a sign for each step in the outer list that is left.
abbrev pub path_sum : ℕ → List (List ℕ) → List (List ℕ) → (List (List ℕ) → ℤ) → ℤ
path_sum k [] vs h = pos 0
path_sum k (w ∷ ws) [] h = pos 0
path_sum k (w ∷ ws) (v ∷ vs) h =
    at_end ws vs (h (inserted k w v ∷ []))
    +ℤ (path_sum k ws (v ∷ vs) (λ r. h (inserted k w v ∷ r)) +ℤ signed (length ws) (path_sum k (w ∷ ws) vs (λ r. h (inserted k w v ∷ r))))

-- the compositions of w and v have an arity of at most 32 and a degree of at most 200
pub record IsWithinLimits (w v : List (List ℕ)) : Type 0 where
  pub narrow : tuple_arity w + tuple_arity v ≤ 33
  pub short : tuple_degree w + tuple_degree v ≤ 200

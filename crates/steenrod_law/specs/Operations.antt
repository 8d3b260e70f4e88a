-- The operations on cochains of residues: May operations, squares, powers, Bockstein powers, products and
-- pull-backs. A cochain of degree q gives a number to each simplex of degree q.
use Rattle.std.specs.Prelude.{◌≡◌, ℕ, ◌≤◌, ◌<◌, ◌+◌, ◌-◌, ◌*◌, ◌%◌, Bool, not, cond, ◌==◌, ◌&&◌, List, [], ◌∷◌, flat_map, length, map, ℤ, pos, negsuc, suc}
use Rattle.fp_field.specs.Element.{IsScale}
use Rattle.signed_sum.specs.Names.{is_degenerate, unless_empty}
use Rattle.linear_law.specs.Names.{negated, Among, Each}
use Rattle.simplicial_law.specs.Names.{IsSimplex, AgreesOnSimplices, Cochain}
use Rattle.interval_cut_law.specs.Names.{operation_value}
use Rattle.table_reduction_law.specs.Names.{may_element}
use Rattle.steenrod_law.specs.{Words.copies, Values.{orbit_sum, staircase_sum, sum_value}}

-- a cochain of degree q as a function of all lists of vertices: it is 0 on lists of another length and
-- on lists in which a vertex repeats
abbrev pub extended : ℕ → Cochain → List ℕ → ℤ
extended q a f = cond ((length f == suc q) && not (is_degenerate f)) (pos (a f)) (pos 0)

-- the residue modulo p of a whole number
abbrev pub residue : ℕ → ℤ → ℕ
residue p (pos n) = n % p
residue p (negsuc n) = negated p (suc n) % p

-- the residues of a function with whole values, 0 on the empty list
abbrev pub residue_cochain : ℕ → (List ℕ → ℤ) → Cochain
residue_cochain p b s = residue p (unless_empty s (b s))

-- cochains of the degrees qs, as functions of all lists
abbrev pub all_extended : List ℕ → List Cochain → List (List ℕ → ℤ)
all_extended [] bs = []
all_extended (q ∷ qs) [] = []
all_extended (q ∷ qs) (a ∷ bs) = extended q a ∷ all_extended qs bs

-- the value of a sum x of surjections of arity r on cochains of the degrees qs
abbrev pub value_on : ℕ → ℕ → List (List ℕ × ℤ) → List ℕ → List Cochain → Cochain
value_on p r x qs bs = residue_cochain p (sum_value r x (all_extended qs bs))

-- D_d of a cochain of degree q: the sum over the terms of the May element of degree d of the coefficient
-- times the value of the surjection on p times the cochain. It has degree p * q - d.
abbrev pub may_operation : ℕ → ℕ → ℕ → Cochain → Cochain
may_operation p d q a = residue_cochain p (sum_value p (may_element p d) (copies p (extended q a)))

-- c times D_d
abbrev pub scaled_operation : ℕ → ℕ → ℕ → ℕ → Cochain → Cochain
scaled_operation p d c q a s = c * may_operation p d q a s

-- the May degree of the power P^s on degree q, for 2 * s from 0 to q
abbrev pub power_degree : ℕ → ℕ → ℕ → ℕ
power_degree p s q = (q - 2 * s) * (p - 1)

-- b is the square Sq^k of a cochain a of degree q, for k from 0 to q: it has degree q + k
pub record IsSquare (facets : List (List ℕ)) (k q : ℕ) (a b : Cochain) : Type 0 where
  pub defined : k ≤ q
  pub value : AgreesOnSimplices facets (q + k) 2 b (may_operation 2 (q - k) q a)

-- b is the power P^s of a cochain a of degree q, for an odd p and 2 * s from 0 to q: the constant
-- (-1)^(s + m*q(q-1)/2) * (m!)^(-q), where m = (p - 1)/2, times D of the degree above. It has degree
-- q + 2 * s * (p - 1).
pub record IsPower (facets : List (List ℕ)) (p s q : ℕ) (a b : Cochain) : Type 0 where
  pub odd : p % 2 ≡ 1
  pub defined : 2 * s ≤ q
  pub scale : ℕ
  pub is_scale : IsScale p q s scale
  pub value : AgreesOnSimplices facets (q + 2 * s * (p - 1)) p b (scaled_operation p (power_degree p s q) scale q a)

-- b is the Bockstein power bP^s of a, for an odd p and 2 * s below q: minus the constant times D of one
-- degree less. It has degree q + 2 * s * (p - 1) + 1.
pub record IsBocksteinPower (facets : List (List ℕ)) (p s q : ℕ) (a b : Cochain) : Type 0 where
  pub odd : p % 2 ≡ 1
  pub defined : 2 * s < q
  pub scale : ℕ
  pub is_scale : IsScale p q s scale
  pub value : AgreesOnSimplices facets (q + 2 * s * (p - 1) + 1) p b
      (scaled_operation p (power_degree p s q - 1) (negated p scale) q a)

-- the cup product of cochains of the degrees q and k: the value of the surjection 1 2
abbrev pub cup_product : ℕ → ℕ → ℕ → Cochain → Cochain → Cochain
cup_product p q k a b = residue_cochain p (operation_value 2 (1 ∷ 2 ∷ []) (extended q a ∷ extended k b ∷ []))

-- the pull-back of a cochain along a map of vertices: 0 where the image repeats a vertex
abbrev pub pull_back : (ℕ → ℕ) → Cochain → Cochain
pull_back f a s = cond (is_degenerate (map f s)) 0 (a (map f s))

-- no number is below the one before it
abbrev pub IsNondecreasing : List ℕ → Type 0
IsNondecreasing [] = Unit {0}
IsNondecreasing (v ∷ vs) = Each (λ w. v ≤ w) vs × IsNondecreasing vs

-- a simplex of the complex with these facets, in which vertices may repeat
pub record IsWeakSimplex (facets : List (List ℕ)) (s : List ℕ) : Type 0 where
  pub rising : IsNondecreasing s
  pub facet : List ℕ
  pub listed : Among facet facets
  pub within : Each (λ v. Among v facet) s

-- f is an order-preserving simplicial map from the complex with the facets `from` to that with the facets `to`
abbrev pub IsSimplicial : (ℕ → ℕ) → List (List ℕ) → List (List ℕ) → Type 0
IsSimplicial f from to = (n : ℕ) (s : List ℕ) → IsSimplex from n s → IsWeakSimplex to (map f s)

-- the primitive of additivity, less its sign: the sum over the orbit words of the values on the
-- cochains a and c of degree q. It has degree p * q - d - 1.
abbrev pub orbit_primitive : ℕ → ℕ → ℕ → List (List Bool) → Cochain → Cochain → Cochain
orbit_primitive p d q ms a c = residue_cochain p (orbit_sum p d (may_element p) ms (extended q a) (extended q c))

-- the primitive of D_d of the coboundary of a cochain y of degree n: the values on the staircase. It has
-- degree p * (n + 1) - d - 1.
abbrev pub staircase_primitive : ℕ → ℕ → ℕ → Cochain → Cochain
staircase_primitive p d n y = residue_cochain p (staircase_sum p n d (may_element p) (extended n y))

-- the products of the coefficients, by the first list and then the second
abbrev pub coefficient_products : List ℕ → List ℕ → List ℕ
coefficient_products cs ds = flat_map (λ c. map (λ d. c * d) ds) cs

-- the cup products of the cochains, by the first list and then the second
abbrev pub cochain_products : ℕ → ℕ → ℕ → List Cochain → List Cochain → List Cochain
cochain_products p q k zs ws = flat_map (λ z. map (λ w. cup_product p q k z w) ws) zs

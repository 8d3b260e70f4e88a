-- The number of lattice paths.
use Rattle.std.proofs.{Common.{◌≡◌, ℕ, zero, suc, ◌+◌, ◌<◌, ◌≤◌, List, [], ◌∷◌, length, map, drop, refl, sym, ap, ◌∙◌, arith, length-append}, lemmas.List.length-map}
use Rattle.table_reduction_law.specs.Names.{binomial}
use Rattle.composition_law.specs.Tuples.{lattice_paths, step_x, step_y}
use Rattle.barratt_eccles.specs.CompositionWalk.{paths_through}

binomial-one : (n : ℕ) → binomial n 0 ≡ 1
binomial-one zero = refl
binomial-one (suc n) = refl

binomial-past : (n m : ℕ) → n < m → binomial n m ≡ 0
binomial-past zero zero h = absurd (omega arith)
binomial-past zero (suc m) h = refl
binomial-past (suc n) zero h = absurd (omega arith)
binomial-past (suc n) (suc m) h = omega (arith, binomial-past n m (omega arith), binomial-past n (suc m) (omega arith))

binomial-all : (n : ℕ) → binomial n n ≡ 1
binomial-all zero = refl
binomial-all (suc n) = omega (arith, binomial-all n, binomial-past n (suc n) (omega arith))

x-paths : (d e : ℕ) → length (map (λ s. step_x ∷ s) (lattice_paths d e)) ≡ length (lattice_paths d e)
x-paths d e = length-map (lattice_paths d e) (λ s. step_x ∷ s)

y-paths : (d e : ℕ) → length (map (λ s. step_y ∷ s) (lattice_paths d e)) ≡ length (lattice_paths d e)
y-paths d e = length-map (lattice_paths d e) (λ s. step_y ∷ s)

both-paths : (d e : ℕ) → length (lattice_paths (suc d) (suc e)) ≡ length (lattice_paths d (suc e)) + length (lattice_paths (suc d) e)
both-paths d e =
    length-append (map (λ s. step_x ∷ s) (lattice_paths d (suc e))) (map (λ s. step_y ∷ s) (lattice_paths (suc d) e))
    ∙ (λ i. x-paths d (suc e) i + y-paths (suc d) e i)

-- a step is a step x for each set of d of the d + e places
pub count_of_paths : (d e : ℕ) → length (lattice_paths d e) ≡ binomial (d + e) d
count_of_paths zero zero = sym (binomial-one (0 + 0))
count_of_paths zero (suc e) = y-paths 0 e ∙ count_of_paths zero e ∙ binomial-one (0 + e) ∙ sym (binomial-one (0 + suc e))
count_of_paths (suc d) zero =
    let a : d + 0 ≡ d = omega arith in
    let b : suc d + 0 ≡ suc d = omega arith in
    x-paths d 0 ∙ count_of_paths d zero ∙ ap (λ n. binomial n d) a ∙ binomial-all d ∙ sym (ap (λ n. binomial n (suc d)) b ∙ binomial-all (suc d))
count_of_paths (suc d) (suc e) =
    let a : suc d + suc e ≡ suc (d + suc e) = omega arith in
    let b : suc d + e ≡ d + suc e = omega arith in
    both-paths d e
    ∙ (λ i. count_of_paths d (suc e) i + count_of_paths (suc d) e i)
    ∙ ap (λ n. binomial (d + suc e) d + binomial n (suc d)) b
    ∙ sym (ap (λ n. binomial n (suc d)) a)

-- the paths go on in the outer or in the inner list
pub paths_through-next : (outer inner : List (List ℕ)) → 1 ≤ length outer → 1 ≤ length inner → 3 ≤ length outer + length inner → paths_through outer inner ≡ paths_through (drop 1 outer) inner + paths_through outer (drop 1 inner)
paths_through-next [] inner a b h = absurd (omega arith)
paths_through-next (w ∷ ws) [] a b h = absurd (omega arith)
paths_through-next (w ∷ []) (v ∷ []) a b h = absurd (omega arith)
paths_through-next (w ∷ []) (v ∷ y ∷ vs) a b h = omega (arith, y-paths 0 (length vs))
paths_through-next (w ∷ x ∷ ws) (v ∷ []) a b h = omega (arith, x-paths (length ws) 0)
paths_through-next (w ∷ x ∷ ws) (v ∷ y ∷ vs) a b h = both-paths (length ws) (length vs)

pub paths_through-end : (outer inner : List (List ℕ)) → length outer ≡ 1 → length inner ≡ 1 → paths_through outer inner ≡ 1
paths_through-end [] inner a b = absurd (omega arith)
paths_through-end (w ∷ x ∷ ws) inner a b = absurd (omega arith)
paths_through-end (w ∷ []) [] a b = absurd (omega arith)
paths_through-end (w ∷ []) (v ∷ y ∷ vs) a b = absurd (omega arith)
paths_through-end (w ∷ []) (v ∷ []) a b = refl

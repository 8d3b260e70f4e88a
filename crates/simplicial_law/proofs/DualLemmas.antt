-- The coordinates of a cocycle are its pairings with dual cycles.
use Rattle.std.proofs.Common.{◌≡◌, ℕ, zero, suc, ◌+◌, ◌*◌, ◌-◌, ◌<◌, ◌≢◌, List, [], ◌∷◌, length, get_or, arith, refl, sym, ap₂, subst, ◌∙◌, inl, inr, mod-eq_of_lt}
use Rattle.std.proofs.lemmas.Bool.{cases_eq}
use Rattle.linear_law.specs.Names.{Congruent, negated, Each, unit_vector, combination}
use Rattle.linear_law.proofs.Names.{Congruent_add, Congruent_from, Congruent_of, Congruent_scale, Congruent_sym, Congruent_trans, add-negated, each_get_or, unit_one, unit_other}
use Rattle.simplicial_law.specs.Names.{Chain, Cochain, HasCoordinates, IsCoboundary, pairing, AreDualCycles, no_cochain, pairings, DualCyclesLaw}

pub pairing_plus : (k : ℕ) (f g : Cochain) (y : Chain) → pairing (λ s. f s + k * g s) y ≡ pairing f y + k * pairing g y
pairing_plus k f g [] = omega arith
pairing_plus k f g (t ∷ ts) = omega (arith, pairing_plus k f g ts)

pairing_zero : (y : Chain) → pairing no_cochain y ≡ 0
pairing_zero [] = refl
pairing_zero (t ∷ ts) = omega (arith, pairing_zero ts)

pairing_more : (c : ℕ) (f g : Cochain) (y : Chain) → pairing (λ s. c * f s + g s) y ≡ c * pairing f y + pairing g y
pairing_more c f g [] = omega arith
pairing_more c f g (t ∷ ts) = omega (arith, pairing_more c f g ts)

unit_later : (i j : ℕ) → unit_vector (suc i) (suc j) ≡ unit_vector i j
unit_later i j =
    elim (cases_eq j i) [
      | inl e ↦ subst (λ k. unit_vector (suc i) (suc k) ≡ unit_vector i k) (sym e) (unit_one 0 (suc i) ∙ sym (unit_one 0 i))
      | inr m ↦ let n : suc j ≢ suc i = λ e. m (omega arith) in unit_other (suc i) (suc j) n ∙ sym (unit_other i j m)
    ]

module _ (p : ℕ) (y : Chain) where
  -- cochains that pair to 0
  pairs_none : (cs : List ℕ) (zs : List Cochain) → ((j : ℕ) → j < length zs → Congruent p (pairing (get_or zs j no_cochain) y) 0) → Congruent p (pairing (combination cs zs) y) 0
  pairs_none [] zs h = Congruent_of (pairing_zero y)
  pairs_none (c ∷ cs) [] h = Congruent_of (pairing_zero y)
  pairs_none (c ∷ cs) (z ∷ zs) h =
      Congruent_trans (Congruent_of (pairing_more c z (combination cs zs) y))
      (Congruent_from (Congruent_add (Congruent_scale c (h 0 (omega arith))) (pairs_none cs zs (λ j b. h (suc j) (omega arith)))) (omega arith))

  -- the i-th pairs to 1, and the others to 0
  pairs_one : (i : ℕ) (cs : List ℕ) (zs : List Cochain) → length cs ≡ length zs → i < length cs → ((j : ℕ) → j < length zs → Congruent p (pairing (get_or zs j no_cochain) y) (unit_vector i j))
      → Congruent p (pairing (combination cs zs) y) (get_or cs i 0)
  pairs_one i [] zs e b h = absurd (omega arith)
  pairs_one i (c ∷ cs) [] e b h = absurd (omega arith)
  pairs_one zero (c ∷ cs) (z ∷ zs) e b h =
      Congruent_trans (Congruent_of (pairing_more c z (combination cs zs) y))
      (Congruent_from (Congruent_add (Congruent_scale c (Congruent_trans (h 0 (omega arith)) (Congruent_of (unit_one 0 0)))) (pairs_none cs zs (λ j d. Congruent_trans (h (suc j) (omega arith)) (Congruent_of (unit_other 0 (suc j) (λ e. absurd (omega arith))))))) (omega arith))
  pairs_one (suc i) (c ∷ cs) (z ∷ zs) e b h =
      Congruent_trans (Congruent_of (pairing_more c z (combination cs zs) y))
      (Congruent_from (Congruent_add (Congruent_scale c (Congruent_trans (h 0 (omega arith)) (Congruent_of (unit_other (suc i) 0 (λ e. absurd (omega arith)))))) (pairs_one i cs zs (omega arith) (omega arith) (λ j d. Congruent_trans (h (suc j) (omega arith)) (Congruent_of (unit_later i j))))) (omega arith))

-- coordinates are what is small and congruent to the pairings
pub same_values : (p : ℕ) (z : Cochain) (cs : List ℕ) (ys : List Chain) → length cs ≡ length ys → Each (λ c. c < p) cs → ((i : ℕ) → i < length ys → Congruent p (pairing z (get_or ys i [])) (get_or cs i 0)) → cs ≡ pairings p z ys
same_values p z [] [] e u h = refl
same_values p z [] (y ∷ ys) e u h = absurd (omega arith)
same_values p z (c ∷ cs) [] e u h = absurd (omega arith)
same_values p z (c ∷ cs) (y ∷ ys) e u h =
    ap₂ (λ a bs. a ∷ bs) (sym (mod-eq_of_lt u.0) ∙ sym (h 0 (omega arith)).same) (same_values p z cs ys (omega arith) u.1 (λ i b. h (suc i) (omega arith)))

-- coordinates, up to what pairs to 0, are the pairings
pub coordinates_are : (p : ℕ) (M : Cochain → Type 0) (zs : List Cochain) (ys : List Chain) (z : Cochain) (cs : List ℕ) → 1 < p → AreDualCycles p M zs ys
    → length cs ≡ length zs → Each (λ c. c < p) cs → M (λ s. z s + negated p (combination cs zs s)) → cs ≡ pairings p z ys
coordinates_are p M zs ys z cs large dual count small rest =
    same_values p z cs ys (omega (arith, count, dual.count)) small
    (λ i b.
    let y = get_or ys i [] in
    let c : Cochain = combination cs zs in
    let none : Congruent p (pairing (λ s. z s + (p - 1) * c s) y) 0 = each_get_or (λ (y : Chain). (f : Cochain) → M f → Congruent p (pairing f y) 0) ys i [] b dual.coboundaries (λ s. z s + (p - 1) * c s) rest in
    let one : Congruent p (pairing c y) (get_or cs i 0) = pairs_one p y i cs zs count (omega (arith, b, count, dual.count)) (λ j d. dual.dual i j b d) in
    Congruent_from (Congruent_add none (Congruent_add one (Congruent_add (Congruent_of (sym (pairing_plus (p - 1) z c y))) (Congruent_sym (add-negated p (pairing c y) large))))) (omega arith))

pub dual_cycles_law : DualCyclesLaw
dual_cycles_law facets n p zs ys z field basis dual closed =
    let found = basis.coordinates z closed in
    subst (λ (vs : List ℕ). HasCoordinates facets n p zs z vs)
    (coordinates_are p (IsCoboundary facets n p) zs ys z found.0 field.large dual found.1.count found.1.small found.1.rest) found.1

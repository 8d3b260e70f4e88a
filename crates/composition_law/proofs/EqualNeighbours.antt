-- A composition of a list with equal neighbours has equal neighbours.
use Rattle.std.proofs.{Common.{◌≡◌, ℕ, zero, suc, true, List, [], ◌∷◌, map, refl, ◌∙◌, ap, arith, ℤ, pos}, lemmas.Int.ints}
use Rattle.interval_cut_law.proofs.{BoundaryLaws.{degenerate, repeats}, Degeneracy.{Repeats, here, there}}
use Rattle.signed_sum.{proofs.Names.signed-zero, specs.Names.{is_degenerate, signed, IsNormalized}}
use Rattle.composition_law.proofs.Walks.{Cell, composed, edge, expo, next, out, values, walks, walks-zero}

-- f is 0 where the entries have equal neighbours
abbrev NormalWalk : (List Cell → ℤ) → Type 0
NormalWalk f = (c : List Cell) → Repeats (values c) → f c ≡ pos 0

-- the next entry is y, and each way gives 0
begins : (u v : List ℕ) (y : ℕ) (g : List Cell → ℤ) → ((c : List Cell) → g (next y ∷ c) ≡ pos 0) → ((c : List Cell) → g (edge y ∷ c) ≡ pos 0) → walks (0 ∷ u) (y ∷ v) g ≡ pos 0
begins u v y g a b =
    let p = ap (λ h. walks u (y ∷ v) h) (λ i c. a c i) ∙ walks-zero u (y ∷ v) in
    let q = ap (λ h. walks (0 ∷ u) v h) (λ i c. b c i) ∙ walks-zero (0 ∷ u) v in
    omega (arith, ints)

repeats-outer : (u v : List ℕ) (f : List Cell → ℤ) → NormalWalk f → Repeats u → walks u v f ≡ pos 0
repeats-outer (x ∷ u) [] f n r = refl
repeats-outer [] [] f n r = refl
repeats-outer [] (y ∷ []) f n r = absurd (none r)
  where
    none : Repeats [] → ⊥
    none r = elim r [ ]
repeats-outer [] (y ∷ z ∷ v) f n r = refl
repeats-outer (x ∷ []) (y ∷ v) f n r = absurd (none r)
  where
    none : {x : ℕ} → Repeats (x ∷ []) → ⊥
    none (there r) = elim r [ ]
repeats-outer (zero ∷ z ∷ u) (y ∷ v) f n r =
    let q = repeats-outer (zero ∷ z ∷ u) v (λ c. f (edge y ∷ c)) (λ c t. n (edge y ∷ c) (there t)) r in
    let p : walks (z ∷ u) (y ∷ v) (λ c. f (next y ∷ c)) ≡ pos 0 = first z u r (repeats-outer (z ∷ u) (y ∷ v) (λ c. f (next y ∷ c)) (λ c t. n (next y ∷ c) (there t))) in
    omega (arith, ints)
  where
    first : (z : ℕ) (u : List ℕ) → Repeats (zero ∷ z ∷ u) → (Repeats (z ∷ u) → walks (z ∷ u) (y ∷ v) (λ c. f (next y ∷ c)) ≡ pos 0) → walks (z ∷ u) (y ∷ v) (λ c. f (next y ∷ c)) ≡ pos 0
    first _ u here ih = begins u v y (λ c. f (next y ∷ c)) (λ c. n (next y ∷ next y ∷ c) here) (λ c. n (next y ∷ edge y ∷ c) here)
    first z u (there r) ih = ih r
repeats-outer (suc x ∷ z ∷ u) (y ∷ v) f n r = first z u r (repeats-outer (z ∷ u) (y ∷ v) (λ c. f (out (suc x) ∷ c)) (λ c t. n (out (suc x) ∷ c) (there t)))
  where
    first : (z : ℕ) (u : List ℕ) → Repeats (suc x ∷ z ∷ u) → (Repeats (z ∷ u) → walks (z ∷ u) (y ∷ v) (λ c. f (out (suc x) ∷ c)) ≡ pos 0) → walks (z ∷ u) (y ∷ v) (λ c. f (out (suc x) ∷ c)) ≡ pos 0
    first _ u here ih = ap (λ h. walks u (y ∷ v) h) (λ i c. n (out (suc x) ∷ out (suc x) ∷ c) here i) ∙ walks-zero u (y ∷ v)
    first z u (there r) ih = ih r

repeats-inner : (u v : List ℕ) (f : List Cell → ℤ) → NormalWalk f → Repeats v → walks u v f ≡ pos 0
repeats-inner [] [] f n r = refl
repeats-inner [] (y ∷ []) f n r = absurd (none r)
  where
    none : {x : ℕ} → Repeats (x ∷ []) → ⊥
    none (there r) = elim r [ ]
repeats-inner [] (y ∷ z ∷ v) f n r = refl
repeats-inner (x ∷ u) [] f n r = refl
repeats-inner (suc x ∷ u) (y ∷ v) f n r = repeats-inner u (y ∷ v) (λ c. f (out (suc x) ∷ c)) (λ c t. n (out (suc x) ∷ c) (there t)) r
repeats-inner (zero ∷ u) (y ∷ v) f n r =
    let p = repeats-inner u (y ∷ v) (λ c. f (next y ∷ c)) (λ c t. n (next y ∷ c) (there t)) r in
    let q : walks (0 ∷ u) v (λ c. f (edge y ∷ c)) ≡ pos 0 = first v r (repeats-inner (0 ∷ u) v (λ c. f (edge y ∷ c)) (λ c t. n (edge y ∷ c) (there t))) in
    omega (arith, ints)
  where
    first : (v : List ℕ) → Repeats (y ∷ v) → (Repeats v → walks (0 ∷ u) v (λ c. f (edge y ∷ c)) ≡ pos 0) → walks (0 ∷ u) v (λ c. f (edge y ∷ c)) ≡ pos 0
    first _ (here {f = w}) ih = begins u w y (λ c. f (edge y ∷ c)) (λ c. n (edge y ∷ next y ∷ c) here) (λ c. n (edge y ∷ edge y ∷ c) here)
    first v (there r) ih = ih r

repeats-map : (t : ℕ → ℕ) (u : List ℕ) → Repeats u → Repeats (map t u)
repeats-map t _ (here {x = x} {f = f}) = here
repeats-map t _ (there {x = x} {f = f} r) = there (repeats-map t f r)

-- the composition of such lists
pub composed-outer : (t g : ℕ → ℕ) (u v : List ℕ) (h : List ℕ → ℤ) → IsNormalized h → is_degenerate u ≡ true → composed (map t u) (map g v) h ≡ pos 0
composed-outer t g u v h n d =
    repeats-outer (map t u) (map g v) (λ c. signed (expo c) (h (values c))) (λ c r. ap (signed (expo c)) (n (values c) (degenerate r)) ∙ signed-zero (expo c)) (repeats-map t u (repeats u d))

pub composed-inner : (t g : ℕ → ℕ) (u v : List ℕ) (h : List ℕ → ℤ) → IsNormalized h → is_degenerate v ≡ true → composed (map t u) (map g v) h ≡ pos 0
composed-inner t g u v h n d =
    repeats-inner (map t u) (map g v) (λ c. signed (expo c) (h (values c))) (λ c r. ap (signed (expo c)) (n (values c) (degenerate r)) ∙ signed-zero (expo c)) (repeats-map g v (repeats v d))

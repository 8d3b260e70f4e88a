-- Cuts with other values: a map that keeps the order keeps the signs and the faces.
use Rattle.std.proofs.{Common.{◌≡◌, ℕ, zero, suc, ◌+◌, ◌*◌, ◌<◌, ◌≤◌, cond, ◌==◌, List, [], ◌∷◌, ◌++◌, length, map, refl, sym, ◌∙◌, ap, arith, ℤ, ◌+ℤ◌, ◌*ℤ◌}, lemmas.Bool.Decides.nat_tests}
use Rattle.interval_cut_law.{proofs.Walks.{Cell, edge, ends, gaps_below, next, walk_exponent, walk_face, walk_faces, walk_sum, walk_term}, specs.Names.value_product}
use Rattle.signed_sum.{proofs.Names.{less-self, less-two, mul_assoc, one-mul}, specs.Names.{less, numbers_from, occurs, signed}}
use Rattle.surjection_law.specs.Names.{caesura_count}

-- the cells with other values
abbrev pub cells_as : (ℕ → ℕ) → List Cell → List Cell
cells_as m [] = []
cells_as m (edge v x ∷ c) = edge (m v) x ∷ cells_as m c
cells_as m (next v x ∷ c) = next (m v) x ∷ cells_as m c

pub walk_sum-as : (m : ℕ → ℕ) (u s : List ℕ) (f : List Cell → ℤ) → walk_sum (map m u) s f ≡ walk_sum u s (λ c. f (cells_as m c))
walk_sum-as m [] [] f = refl
walk_sum-as m [] (a ∷ []) f = refl
walk_sum-as m [] (a ∷ b ∷ s) f = refl
walk_sum-as m (x ∷ u) [] f = refl
walk_sum-as m (x ∷ u) (a ∷ s) f =
    (λ i. walk_sum-as m u (a ∷ s) (λ c. f (next (m x) a ∷ c)) i +ℤ walk_sum-as m (x ∷ u) s (λ c. f (edge (m x) a ∷ c)) i)

module _ (m : ℕ → ℕ) (mono : (v w : ℕ) → less (m v) (m w) ≡ less v w) where
  injective : (v w : ℕ) → m v ≡ m w → v ≡ w
  injective v w e = grind (arith, mono v w, mono w v, less-self (m v), less-two v w)

  same-test : {A : Type 0} (v w : ℕ) (p q : A) → cond (m v == m w) p q ≡ cond (v == w) p q
  same-test v w p q = let e : (m v == m w) ≡ (v == w) = grind (arith, nat_tests, injective v w) in ap (λ b. cond b p q) e

  pub occurs-as : (v : ℕ) (u : List ℕ) → occurs (m v) (map m u) ≡ occurs v u
  occurs-as v [] = refl
  occurs-as v (w ∷ u) = same-test v w 1 (occurs (m v) (map m u)) ∙ ap (cond (v == w) 1) (occurs-as v u)

  caesuras-as : (u : List ℕ) → caesura_count (map m u) ≡ caesura_count u
  caesuras-as [] = refl
  caesuras-as (v ∷ u) = (λ i. occurs-as v u i + caesuras-as u i)

  ends-as : (c : List Cell) → ends (cells_as m c) ≡ map m (ends c)
  ends-as [] = refl
  ends-as (edge v x ∷ c) = ends-as c
  ends-as (next v x ∷ c) = ap (λ u. m v ∷ u) (ends-as c)

  gaps-as : (v : ℕ) (c : List Cell) → gaps_below (m v) (cells_as m c) ≡ gaps_below v c
  gaps-as v [] = refl
  gaps-as v (edge w x ∷ c) = (λ i. mono w v i + gaps-as v c i)
  gaps-as v (next w x ∷ c) = (λ i. mono w v i * (ap (occurs (m w)) (ends-as c) ∙ occurs-as w (ends c)) i + gaps-as v c i)

  exponent-as : (c : List Cell) → walk_exponent (cells_as m c) ≡ walk_exponent c
  exponent-as [] = refl
  exponent-as (edge v x ∷ c) = (λ i. gaps-as v c i + (ap caesura_count (ends-as c) ∙ caesuras-as (ends c)) i + exponent-as c i)
  exponent-as (next v x ∷ c) = (λ i. gaps-as v c i * (ap (occurs (m v)) (ends-as c) ∙ occurs-as v (ends c)) i + exponent-as c i)

  face-as : (k : ℕ) (c : List Cell) → walk_face (m k) (cells_as m c) ≡ walk_face k c
  face-as k [] = refl
  face-as k (edge v x ∷ c) = same-test k v (x ∷ walk_face (m k) (cells_as m c)) (walk_face (m k) (cells_as m c)) ∙ ap (λ f. cond (k == v) (x ∷ f) f) (face-as k c)
  face-as k (next v x ∷ c) = same-test k v (x ∷ walk_face (m k) (cells_as m c)) (walk_face (m k) (cells_as m c)) ∙ ap (λ f. cond (k == v) (x ∷ f) f) (face-as k c)

  faces-as : (ks : List ℕ) (c : List Cell) → walk_faces (map m ks) (cells_as m c) ≡ walk_faces ks c
  faces-as [] c = refl
  faces-as (k ∷ ks) c = (λ i. face-as k c i ∷ faces-as ks c i)

  -- the sum of the terms of all walks, with other values
  pub terms-as : (phi : List (List ℕ) → ℤ) (ks u s : List ℕ) → walk_sum u s (walk_term phi ks) ≡ walk_sum (map m u) s (walk_term phi (map m ks))
  terms-as phi ks u s =
      ap (walk_sum u s) (λ i c. signed (sym (exponent-as c) i) (phi (sym (faces-as ks c) i)))
      ∙ sym (walk_sum-as m u s (walk_term phi (map m ks)))

-- faces of several values

faces-append : (ks ls : List ℕ) (c : List Cell) → walk_faces (ks ++ ls) c ≡ walk_faces ks c ++ walk_faces ls c
faces-append [] ls c = refl
faces-append (k ∷ ks) ls c = ap (λ fs. walk_face k c ∷ fs) (faces-append ks ls c)

product-append : (cs ds : List (List ℕ → ℤ)) (ks : List ℕ) (gs : List (List ℕ)) (c : List Cell) → length cs ≡ length ks → value_product (cs ++ ds) (walk_faces ks c ++ gs) ≡ value_product cs (walk_faces ks c) *ℤ value_product ds gs
product-append [] ds [] gs c e = sym (one-mul (value_product ds gs))
product-append [] ds (k ∷ ks) gs c e = absurd (omega (arith, e))
product-append (a ∷ cs) ds [] gs c e = absurd (omega (arith, e))
product-append (a ∷ cs) ds (k ∷ ks) gs c e =
    ap (λ z. a (walk_face k c) *ℤ z) (product-append cs ds ks gs c (omega (arith, e)))
    ∙ sym (mul_assoc (a (walk_face k c)) (value_product cs (walk_faces ks c)) (value_product ds gs))

pub product-split : (cs ds : List (List ℕ → ℤ)) (ks ls : List ℕ) (c : List Cell) → length cs ≡ length ks →
    value_product (cs ++ ds) (walk_faces (ks ++ ls) c) ≡ value_product cs (walk_faces ks c) *ℤ value_product ds (walk_faces ls c)
product-split cs ds ks ls c e = ap (value_product (cs ++ ds)) (faces-append ks ls c) ∙ product-append cs ds ks (walk_faces ls c) c e

-- the faces of the numbers from j on, n of them, in two walks
pub faces-agree : (P : ℕ → Type 0) (c d : List Cell) → ((k : ℕ) → P k → walk_face k c ≡ walk_face k d) → (j n : ℕ) → ((k : ℕ) → j ≤ k → k < j + n → P k) → walk_faces (numbers_from j n) c ≡ walk_faces (numbers_from j n) d
faces-agree P c d h j zero q = refl
faces-agree P c d h j (suc n) q =
    (λ i. h j (q j (omega arith) (omega arith)) i ∷ faces-agree P c d h (suc j) n (λ k a b. q k (omega (arith, a)) (omega (arith, b))) i)

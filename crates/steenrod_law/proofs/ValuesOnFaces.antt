-- A value depends on the values of the cochains on the faces of the simplex alone.
use Rattle.std.proofs.Common.{ℕ, zero, suc, ◌≤◌, true, false, Bool, cond, ◌==◌, List, [], ◌∷◌, ◌++◌, length, sym, ◌∙◌, ap, arith, ℤ, pos}
use Rattle.interval_cut_law.{proofs.CochainLaws.cut_sum-zero, proofs.CutsAsWalks.cut_sum-walk_sum, proofs.Walks.{Cell, edge, next, walk_exponent, walk_face, walk_faces, walk_sum, walk_term}, specs.Names.{cut_sum, operation_value, value_product}}
use Rattle.signed_sum.specs.Names.{numbers_from}
use Rattle.simplicial_law.{proofs.Names.{CongruentInt-signed, CongruentInt-sum, CongruentInt-times, CongruentInt_of, CongruentInt_refl, CongruentInt_trans}, specs.Names.CongruentInt}
use Rattle.steenrod_law.{proofs.Forms.{AreTerms, IsWeakFace, SurjectionTerm, drop, none, operation_of, take}, proofs.WordBoundary.some, proofs.WordCochains.{over-same, product-none}, specs.Names.copies}

-- equal modulo p on the faces of s
abbrev pub AllAt : ℕ → List ℕ → List (List ℕ → ℤ) → List (List ℕ → ℤ) → Type 0
AllAt p s [] [] = Unit {0}
AllAt p s [] (b ∷ bs) = ⊥
AllAt p s (a ∷ cs) [] = ⊥
AllAt p s (a ∷ cs) (b ∷ bs) = ((f : List ℕ) → IsWeakFace f s → CongruentInt p (a f) (b f)) × AllAt p s cs bs

walks-at : (p : ℕ) (u s : List ℕ) (f g : List Cell → ℤ) → ((c : List Cell) → ((k : ℕ) → IsWeakFace (walk_face k c) s) → CongruentInt p (f c) (g c)) → CongruentInt p (walk_sum u s f) (walk_sum u s g)
walks-at p [] [] f g h = CongruentInt_refl (pos 0)
walks-at p [] (x ∷ []) f g h = h [] (λ k. none)
walks-at p [] (x ∷ y ∷ s) f g h = CongruentInt_refl (pos 0)
walks-at p (v ∷ u) [] f g h = CongruentInt_refl (pos 0)
walks-at p (v ∷ u) (x ∷ s) f g h =
    CongruentInt-sum
    (walks-at p u (x ∷ s) (λ c. f (next v x ∷ c)) (λ c. g (next v x ∷ c)) (λ c w. h (next v x ∷ c) (λ k. more (k == v) (walk_face k c) (w k))))
    (walks-at p (v ∷ u) s (λ c. f (edge v x ∷ c)) (λ c. g (edge v x ∷ c)) (λ c w. h (edge v x ∷ c) (λ k. more (k == v) (walk_face k c) (drop (w k)))))
  where
    more : (t : Bool) (r : List ℕ) → IsWeakFace r (x ∷ s) → IsWeakFace (cond t (x ∷ r) r) (x ∷ s)
    more true r w = take w
    more false r w = w

product-at : (p : ℕ) (s : List ℕ) (cs bs : List (List ℕ → ℤ)) (ks : List ℕ) (c : List Cell) → AllAt p s cs bs → ((k : ℕ) → IsWeakFace (walk_face k c) s) → CongruentInt p (value_product cs (walk_faces ks c)) (value_product bs (walk_faces ks c))
product-at p s [] [] ks c h w = CongruentInt_refl (value_product [] (walk_faces ks c))
product-at p s [] (b ∷ bs) ks c h w = absurd h
product-at p s (a ∷ cs) [] ks c h w = absurd h
product-at p s (a ∷ cs) (b ∷ bs) [] c h w = CongruentInt_refl (pos 0)
product-at p s (a ∷ cs) (b ∷ bs) (k ∷ ks) c h w =
    CongruentInt-times (h.0 (walk_face k c) (w k)) (product-at p s cs bs ks c h.1 w)

pub value-at : (p r : ℕ) (u s : List ℕ) (cs bs : List (List ℕ → ℤ)) → 1 ≤ length u → 1 ≤ length s → AllAt p s cs bs → CongruentInt p (operation_value r u cs s) (operation_value r u bs s)
value-at p r [] s cs bs hu hs h = absurd (omega (arith, hu))
value-at p r (v ∷ u) [] cs bs hu hs h = absurd (omega (arith, hs))
value-at p r (v ∷ u) (x ∷ s) cs bs hu hs h =
    let f : List Cell → ℤ = walk_term (value_product cs) (numbers_from 1 r) in
    let g : List Cell → ℤ = walk_term (value_product bs) (numbers_from 1 r) in
    CongruentInt_trans
    (CongruentInt_of (cut_sum-walk_sum (value_product cs) r v u x s))
    (CongruentInt_trans
    (walks-at p (v ∷ u) (x ∷ s) f g (λ c w. CongruentInt-signed (walk_exponent c) (product-at p (x ∷ s) cs bs (numbers_from 1 r) c h w)))
    (CongruentInt_of (sym (cut_sum-walk_sum (value_product bs) r v u x s))))

at-refl : (p : ℕ) (s : List ℕ) (cs : List (List ℕ → ℤ)) → AllAt p s cs cs
at-refl p s [] = tt
at-refl p s (a ∷ cs) = ((λ f w. CongruentInt_refl (a f)), at-refl p s cs)

pub at-mid : (p : ℕ) (s : List ℕ) (pre post : List (List ℕ → ℤ)) (z y : List ℕ → ℤ) → ((f : List ℕ) → IsWeakFace f s → CongruentInt p (z f) (y f)) → AllAt p s (pre ++ (z ∷ post)) (pre ++ (y ∷ post))
at-mid p s [] post z y e = (e, at-refl p s post)
at-mid p s (a ∷ pre) post z y e = ((λ f w. CongruentInt_refl (a f)), at-mid p s pre post z y e)

pub value-none-at : (p r : ℕ) (u s : List ℕ) (pre post : List (List ℕ → ℤ)) (z : List ℕ → ℤ) → 1 ≤ length u → 1 ≤ length s → ((f : List ℕ) → IsWeakFace f s → CongruentInt p (z f) (pos 0)) →
    CongruentInt p (operation_value r u (pre ++ (z ∷ post)) s) (pos 0)
value-none-at p r u s pre post z hu hs e =
    CongruentInt_trans
    (value-at p r u s (pre ++ (z ∷ post)) (pre ++ ((λ f. pos 0) ∷ post)) hu hs (at-mid p s pre post z (λ f. pos 0) e))
    (CongruentInt_of (ap (λ h. cut_sum h r u s) (λ i fs. product-none pre post fs i) ∙ cut_sum-zero r u s))

-- modulo p an operation depends on the cochain modulo p alone

all-copies : (p : ℕ) (s : List ℕ) (a b : List ℕ → ℤ) → ((f : List ℕ) → IsWeakFace f s → CongruentInt p (a f) (b f)) → (k : ℕ) → AllAt p s (copies k a) (copies k b)
all-copies p s a b e zero = tt
all-copies p s a b e (suc k) = (e, all-copies p s a b e k)

pub operation-mod : (p d : ℕ) (x : List SurjectionTerm) (a b : List ℕ → ℤ) (s : List ℕ) → AreTerms p d x → 1 ≤ p → 1 ≤ length s → ((f : List ℕ) → IsWeakFace f s → CongruentInt p (a f) (b f)) → CongruentInt p (operation_of p x a s) (operation_of p x b s)
operation-mod p d x a b s k le hs e =
    over-same p d x (λ u. operation_value p u (copies p a) s) (λ u. operation_value p u (copies p b) s) k (λ u o c. value-at p p u s (copies p a) (copies p b) (some p u le o) hs (all-copies p s a b e p))

-- Words of cocycles.
use Rattle.std.proofs.{Common.{◌≡◌, ℕ, zero, suc, ◌+◌, ◌-◌, ◌≤◌, true, false, Bool, cond, List, map, length, sym, ◌∙◌, ap, arith, ℤ, pos, ◌+ℤ◌}, lemmas.Int.ints}
use Rattle.interval_cut_law.specs.Names.{one_coboundary, operation_value}
use Rattle.signed_sum.{proofs.Names.{signed-parity, signed-signed, signed-zero}, specs.Names.signed}
use Rattle.simplicial_law.{proofs.Names.{CongruentInt-signed, CongruentInt-sum, CongruentInt_of, CongruentInt_refl, CongruentInt_sym, CongruentInt_trans}, specs.Names.{CongruentInt, integral_coboundary}}
use Rattle.linear_law.proofs.Names.{length-copies}
use Rattle.steenrod_law.{proofs.AdditiveMaps.adds-zero, proofs.Forms.{AreTerms, IsCochain, IsFaceClosed, IsIntegralCocycle, IsMayFamily, IsPrime, SurjectionTerm, boundary_over, operation_of, value_over}, proofs.Staircase.top-step, proofs.ValuesOnFaces.value-none-at, proofs.WordBoundary.{letters-copies, letters-normalized, relation, relation-first, some, sum-law}, proofs.WordCochains.{degrees-letters, over-same, over-sum, word-closed}, specs.Names.{sum_value, word_cochains, copies, step}}

pub same-unsigned : (p n : ℕ) (z : ℤ) → CongruentInt p (signed n z) (pos 0) → CongruentInt p z (pos 0)
same-unsigned p n z h =
    CongruentInt_trans
    (CongruentInt_trans (CongruentInt_of (sym (signed-signed n n z ∙ signed-parity (n + n) 0 z (omega arith)))) (CongruentInt-signed n h))
    (CongruentInt_of (signed-zero n))

-- the boundary law on a word of cocycles
pub closed-law : (K : List ℕ → Type 0) → IsFaceClosed K → (p m q : ℕ) (x : List SurjectionTerm) (a c : List ℕ → ℤ) (s : List ℕ) (w : List Bool) → AreTerms p m x → IsIntegralCocycle K p q a → IsIntegralCocycle K p q c → K s → 1 ≤ p → 1 ≤ length s →
    CongruentInt p (boundary_over x (λ u. operation_value p u (word_cochains a c w) s) +ℤ signed m (integral_coboundary (sum_value p x (word_cochains a c w)) s)) (pos 0)
closed-law K fc p m q x a c s w k ca cc ks le hs =
    let f : List ℕ → ℤ = λ u. one_coboundary (map (λ l. q) w) (word_cochains a c w) (λ bs. operation_value p u bs s) in
    let r : ℤ = boundary_over x (λ u. operation_value p u (word_cochains a c w) s) +ℤ signed m (integral_coboundary (sum_value p x (word_cochains a c w)) s) in
    CongruentInt_trans
    (CongruentInt_of (sym (sum-law p m x (map (λ l. q) w) (word_cochains a c w) s k (letters-normalized a c ca.cochain.plain cc.cochain.plain w) (degrees-letters (λ l. q) a c ca.cochain.degree cc.cochain.degree w) le hs)))
    (CongruentInt_trans
    (over-same p m x f (λ u. pos 0) k
    (λ u o e. word-closed p (λ l. q) a c w (λ bs. operation_value p u bs s) (λ l pre post. value-none-at p p u s pre post (integral_coboundary (cond l c a)) (some p u le o) hs (λ g v. closed-letter l g (fc g s v ks)))))
    (CongruentInt_of (adds-zero (value_over x) (over-sum x))))
  where
    closed-letter : (l : Bool) (g : List ℕ) → K g → CongruentInt p (integral_coboundary (cond l c a) g) (pos 0)
    closed-letter true = cc.closed
    closed-letter false = ca.closed

boundary-top : (p d q : ℕ) (x : ℕ → List SurjectionTerm) (a : List ℕ → ℤ) (s : List ℕ) → IsPrime p → IsMayFamily p x → IsCochain q a → 1 ≤ length s → CongruentInt p (boundary_over (x d) (λ u. operation_value p u (word_cochains a a (copies p true)) s)) (pos 0)
boundary-top p zero q x a s prime may ca hs =
    relation-first p (λ l. q) a a ca ca s (let t = prime.two in omega arith) hs x may (copies p true) (length-copies p true)
boundary-top p (suc m) q x a s prime may ca hs =
    let t = prime.two in
    let le : 1 ≤ p = omega arith in
    let size : suc (p - 1) ≡ p = omega arith in
    let g : List Bool → ℤ = λ v. sum_value p (x m) (word_cochains a a v) s in
    CongruentInt_trans
    (relation p (λ l. q) a a ca ca s le hs x may m (copies p true) (length-copies p true))
    (CongruentInt_trans
    (CongruentInt_of (ap (λ j. step (λ l. q) p (suc m) g (copies j true)) (sym size)))
    (top-step p (λ l. q) prime.parity (p - 1) size g (suc m)))

-- the operation of a cocycle is closed
pub closed : (K : List ℕ → Type 0) (p d q : ℕ) (x : ℕ → List SurjectionTerm) (a : List ℕ → ℤ) (s : List ℕ) → IsFaceClosed K → IsPrime p → IsMayFamily p x → IsIntegralCocycle K p q a → K s → 1 ≤ length s →
    CongruentInt p (integral_coboundary (operation_of p (x d) a) s) (pos 0)
closed K p d q x a s fc prime may ca ks hs =
    let t = prime.two in
    let le : 1 ≤ p = omega arith in
    let b : ℤ = boundary_over (x d) (λ u. operation_value p u (word_cochains a a (copies p true)) s) in
    let z : ℤ = integral_coboundary (sum_value p (x d) (word_cochains a a (copies p true))) s in
    let one = boundary-top p d q x a s prime may ca.cochain hs in
    let two = closed-law K fc p d q (x d) a a s (copies p true) (may.terms d) ca ca ks le hs in
    CongruentInt_trans
    (CongruentInt_of (ap (λ cs. integral_coboundary (sum_value p (x d) cs) s) (sym (letters-copies a a p))))
    (same-unsigned p d z
    (CongruentInt_trans (CongruentInt_of (omega (arith, ints)))
    (CongruentInt_trans (CongruentInt-sum (CongruentInt_sym one) (CongruentInt_refl (signed d z))) two)))

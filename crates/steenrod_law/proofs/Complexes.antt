-- Cochains of residues on the simplices of a complex, as cochains with whole values.
use Rattle.std.proofs.{Common.{◌≡◌, ℕ, suc, ◌+◌, ◌<◌, ◌≤◌, ◌⊎◌, inl, inr, Bool, true, false, not, cond, ◌==◌, eqb, eq-eqb, ◌%◌, ◌&&◌, ◌||◌, List, [], ◌∷◌, length, refl, sym, ◌∙◌, ap, arith, subst, ℤ, pos, negsuc, ◌+ℤ◌, neg_ℤ, ne_eqb}, Math.Nat.zero-mod, lemmas.Int.ints, lemmas.Bool.{cases_Bool, cases_eq}}
use native.Mathlib.Decide.{ℕ_discrete}
use Rattle.linear_law.{proofs.Names.{Congruent_mod, each_map}, specs.Names.{negated, Among, Each, IsAscending}}
use Rattle.signed_sum.{proofs.Names.fun_ext, specs.Names.{is_degenerate, unless_empty, without_one}}
use Rattle.simplicial_law.{proofs.Names.{integral_coboundary_law, integral_congruence_law, negated_whole, CongruentInt-neg, CongruentInt-sum, CongruentInt_of, CongruentInt_refl, CongruentInt_sym, CongruentInt_trans}, specs.Names.{AgreesOnSimplices, Cochain, IsCocycle, coboundary, CongruentInt, integral_coboundary, IsSimplex}}
use Rattle.steenrod_law.{proofs.Forms.{IsCochain, IsFaceClosed, IsIntegralCocycle, IsWeakFace, drop, none, take}, proofs.WordCochains.coboundary-cochain, specs.Names.{IsNondecreasing, IsWeakSimplex, extended, residue, residue_cochain}}

Each-weak : (P : ℕ → Type 0) (f s : List ℕ) → IsWeakFace f s → Each P s → Each P f
Each-weak P _ s none h = tt
Each-weak P _ _ (take {x = x} {f = f} {s = s} w) h = (h.0, Each-weak P f (x ∷ s) w h)
Each-weak P f _ (drop {x = x} {s = s} w) h = Each-weak P f s w h.1

rising-weak : (f s : List ℕ) → IsWeakFace f s → IsNondecreasing s → IsNondecreasing f
rising-weak _ s none h = tt
rising-weak _ _ (take {x = x} {f = f} {s = s} w) h = (Each-weak (λ v. x ≤ v) f (x ∷ s) w (omega arith, h.0), rising-weak f (x ∷ s) w h)
rising-weak f _ (drop {x = x} {s = s} w) h = rising-weak f s w h.1

pub weak-closed : (facets : List (List ℕ)) → IsFaceClosed (IsWeakSimplex facets)
weak-closed facets f s w k = record {
  rising = rising-weak f s w k.rising;
  facet = k.facet;
  listed = k.listed;
  within = Each-weak (λ v. Among v k.facet) f s w k.within;
}

rising-ascending : (s : List ℕ) → IsAscending s → IsNondecreasing s
rising-ascending [] h = tt
rising-ascending (v ∷ vs) h = (each_map (λ w k. omega arith) vs h.0, rising-ascending vs h.1)

pub weak_of_simplex : (facets : List (List ℕ)) (n : ℕ) (s : List ℕ) → IsSimplex facets n s → IsWeakSimplex facets s
weak_of_simplex facets n s k = record { rising = rising-ascending s k.ascending; facet = k.facet; listed = k.listed; within = k.within }

-- a rising list with no equal neighbours is ascending
ascending_of : (s : List ℕ) → IsNondecreasing s → is_degenerate s ≡ false → IsAscending s
ascending_of [] h d = tt
ascending_of (v ∷ []) h d = (tt, tt)
ascending_of (v ∷ w ∷ vs) h d = go (eqb v w) refl d (ascending_of (w ∷ vs) h.1)
  where
    go : (b : Bool) → eqb v w ≡ b → (b || is_degenerate (w ∷ vs)) ≡ false → (is_degenerate (w ∷ vs) ≡ false → IsAscending (w ∷ vs)) → IsAscending (v ∷ w ∷ vs)
    go true e q ih = absurd (cc)
    go false e q ih =
        let l : v < w = (let k = h.0.0 in elim (cases_eq v w) [ inl z ↦ absurd (let y : eqb v w ≡ true = (let t : eqb w w ≡ true = eq-eqb w w refl in subst (λ (j : ℕ). eqb j w ≡ true) (sym z) t) in cc) | inr n ↦ omega (arith, k, n) ]) in
        ((l, each_map (λ u k. omega arith) vs h.1.0), ih q)

pub simplex_of_weak : (facets : List (List ℕ)) (n : ℕ) (f : List ℕ) → IsWeakSimplex facets f → length f ≡ suc n → is_degenerate f ≡ false → IsSimplex facets n f
simplex_of_weak facets n f k l d = record { ascending = ascending_of f k.rising d; size = omega (arith, l); facet = k.facet; listed = k.listed; within = k.within }

pub ascending-plain : (s : List ℕ) → IsAscending s → is_degenerate s ≡ false
ascending-plain [] h = refl
ascending-plain (v ∷ []) h = refl
ascending-plain (v ∷ w ∷ s) h =
    let e : eqb v w ≡ false = ne_eqb v w (λ z. absurd (let k = h.0.0 in omega (arith, k, z))) in
    (λ i. e i || ascending-plain (w ∷ s) h.1 i)

-- extended cochains

pub extended-there : (q : ℕ) (a : Cochain) (f : List ℕ) → length f ≡ suc q → is_degenerate f ≡ false → extended q a f ≡ pos (a f)
extended-there q a f l d = (λ i. cond (eq-eqb (length f) (suc q) l i && not (d i)) (pos (a f)) (pos 0))

extended-other : (q : ℕ) (a : Cochain) (f : List ℕ) → (length f ≡ suc q → ⊥) → extended q a f ≡ pos 0
extended-other q a f n = ap (λ b. cond (b && not (is_degenerate f)) (pos (a f)) (pos 0)) (ne_eqb (length f) (suc q) n)

extended-degenerate : (q : ℕ) (a : Cochain) (f : List ℕ) → is_degenerate f ≡ true → extended q a f ≡ pos 0
extended-degenerate q a f d = go (length f == suc q)
  where
    go : (b : Bool) → cond (b && not (is_degenerate f)) (pos (a f)) (pos 0) ≡ pos 0
    go true = ap (λ c. cond (not c) (pos (a f)) (pos 0)) d
    go false = refl

pub extended-cochain : (q : ℕ) (a : Cochain) → IsCochain q (extended q a)
extended-cochain q a = record { degree = record { other = extended-other q a }; plain = extended-degenerate q a }

-- either a simplex of degree q, or the extended cochains of degree q are 0 there
pub record IsNoSimplex (q : ℕ) (f : List ℕ) : Type 0 where
  pub zero_there : (b : List ℕ → ℤ) → IsCochain q b → b f ≡ pos 0

pub simplex_or_none : (facets : List (List ℕ)) (q : ℕ) (f : List ℕ) → IsWeakSimplex facets f → IsSimplex facets q f ⊎ IsNoSimplex q f
simplex_or_none facets q f k = elim (ℕ_discrete (length f) (suc q)) [
  | no n ↦ inr (record { zero_there = λ b c. c.degree.other f n })
  | yes e ↦ elim (cases_Bool (is_degenerate f)) [
    | inl d ↦ inr (record { zero_there = λ b c. c.plain f d })
    | inr d ↦ inl (simplex_of_weak facets q f k e d)
  ]
]

pub extended-simplex : (facets : List (List ℕ)) (q : ℕ) (a : Cochain) (s : List ℕ) → IsSimplex facets q s → extended q a s ≡ pos (a s)
extended-simplex facets q a s k = extended-there q a s (let z = k.size in omega arith) (ascending-plain s k.ascending)

pub extended-same : (facets : List (List ℕ)) (q p : ℕ) (a b : Cochain) (f : List ℕ) → AgreesOnSimplices facets q p a b → IsWeakSimplex facets f → CongruentInt p (extended q a f) (extended q b f)
extended-same facets q p a b f h k = elim (simplex_or_none facets q f k) [
  | inl s ↦ CongruentInt_trans (CongruentInt_of (extended-simplex facets q a f s))
      (CongruentInt_trans (integral_congruence_law.whole p (a f) (b f) (h.at f s)) (CongruentInt_of (sym (extended-simplex facets q b f s))))
  | inr n ↦ CongruentInt_of (n.zero_there (extended q a) (extended-cochain q a) ∙ sym (n.zero_there (extended q b) (extended-cochain q b)))
]

-- functions that agree on the faces of an ascending list have the same alternating sum over them
faces-agree : (f : List ℕ) (h g : List ℕ → ℤ) → IsAscending f →
    ((t : List ℕ) → IsAscending t → ((P : ℕ → Type 0) → Each P f → Each P t) → suc (length t) ≡ length f → h t ≡ g t) → without_one f h ≡ without_one f g
faces-agree [] h g a e = refl
faces-agree (x ∷ s) h g a e =
    let p = e s a.1 (λ P k. k.1) refl in
    let q = faces-agree s (λ r. h (x ∷ r)) (λ r. g (x ∷ r)) a.1 (λ t b k l. e (x ∷ t) (k (λ w. x < w) a.0, b) (λ P m. (m.0, k P m.1)) (ap suc l)) in
    (λ i. p i +ℤ neg_ℤ (q i))

-- the coboundary of an extended cochain on a simplex
pub coboundary-extended : (facets : List (List ℕ)) (q p : ℕ) (y : Cochain) (s : List ℕ) → 1 < p → IsSimplex facets (q + 1) s →
    CongruentInt p (integral_coboundary (extended q y) s) (pos (coboundary p y s))
coboundary-extended facets q p y s large k =
    let size : length s ≡ suc (suc q) = (let z = k.size in omega arith) in
    CongruentInt_trans
    (CongruentInt_of (faces-agree s (λ g. unless_empty g (extended q y g)) (λ g. unless_empty g (pos (y g))) k.ascending
    (λ t a m l. ap (unless_empty t) (extended-there q y t (omega (arith, l, size)) (ascending-plain t a)))))
    (integral_coboundary_law.above_vertices p (λ t. pos (y t)) y s large (omega (arith, size)) (λ t. CongruentInt_refl (pos (y t))))

-- the extended coboundary is the coboundary of the extended cochain
pub extended-coboundary : (facets : List (List ℕ)) (q p : ℕ) (y : Cochain) (f : List ℕ) → 1 < p → IsWeakSimplex facets f →
    CongruentInt p (extended (suc q) (coboundary p y) f) (integral_coboundary (extended q y) f)
extended-coboundary facets q p y f large k = elim (simplex_or_none facets (suc q) f k) [
  | inl s ↦ CongruentInt_trans (CongruentInt_of (extended-simplex facets (suc q) (coboundary p y) f s))
      (CongruentInt_sym (coboundary-extended facets q p y f large (let e : suc q ≡ q + 1 = omega arith in subst (λ (n : ℕ). IsSimplex facets n f) e s)))
  | inr n ↦ CongruentInt_of (n.zero_there (extended (suc q) (coboundary p y)) (extended-cochain (suc q) (coboundary p y))
      ∙ sym (n.zero_there (integral_coboundary (extended q y)) (coboundary-cochain q (extended q y) (extended-cochain q y))))
]

-- a cocycle
pub extended-cocycle : (facets : List (List ℕ)) (q p : ℕ) (a : Cochain) → 1 < p → IsCocycle facets q p a → IsIntegralCocycle (IsWeakSimplex facets) p q (extended q a)
extended-cocycle facets q p a large z = record { cochain = extended-cochain q a; closed = closed }
  where
    closed : (f : List ℕ) → IsWeakSimplex facets f → CongruentInt p (integral_coboundary (extended q a) f) (pos 0)
    closed f k = elim (simplex_or_none facets (suc q) f k) [
      | inl s ↦
          let t : IsSimplex facets (q + 1) f = (let e : suc q ≡ q + 1 = omega arith in subst (λ (n : ℕ). IsSimplex facets n f) e s) in
          CongruentInt_trans (coboundary-extended facets q p a f large t) (integral_congruence_law.whole p (coboundary p a f) 0 (z.at f t))
      | inr n ↦ CongruentInt_of (n.zero_there (integral_coboundary (extended q a)) (coboundary-cochain q (extended q a) (extended-cochain q a)))
    ]

-- residues

pub residue-same : (p : ℕ) (z : ℤ) → 1 < p → CongruentInt p (pos (residue p z)) z
residue-same p (pos n) large = integral_congruence_law.whole p (n % p) n (Congruent_mod p n)
residue-same p (negsuc n) large =
    CongruentInt_trans (integral_congruence_law.whole p (negated p (suc n) % p) (negated p (suc n)) (Congruent_mod p (negated p (suc n))))
    (CongruentInt_sym (negated_whole p (suc n) large))

pub residue_cochain-same : (p : ℕ) (b : List ℕ → ℤ) (s : List ℕ) → 1 < p → 1 ≤ length s → CongruentInt p (pos (residue_cochain p b s)) (b s)
residue_cochain-same p b [] large h = absurd (omega arith)
residue_cochain-same p b (x ∷ s) large h = residue-same p (b (x ∷ s)) large

pub residue_cochain-empty : (p : ℕ) (b : List ℕ → ℤ) → residue_cochain p b [] ≡ 0
residue_cochain-empty p b = zero-mod p

-- the coboundary of the residues
pub coboundary-residues : (p : ℕ) (b : List ℕ → ℤ) (s : List ℕ) → 1 < p → CongruentInt p (integral_coboundary b s) (pos (coboundary p (residue_cochain p b) s))
coboundary-residues p b s large =
    CongruentInt_trans
    (CongruentInt_of (ap (without_one s) (fun_ext twice)))
    (integral_coboundary_law.everywhere p (λ t. unless_empty t (b t)) (residue_cochain p b) s large (residue_cochain-empty p b)
    (λ t. CongruentInt_sym (residue-same p (unless_empty t (b t)) large)))
  where
    twice : (g : List ℕ) → unless_empty g (b g) ≡ unless_empty g (unless_empty g (b g))
    twice [] = refl
    twice (x ∷ g) = refl

-- z + negated p y stands for z - y
pub difference-same : (p x y : ℕ) (a b : ℤ) → 1 < p → CongruentInt p (pos x) a → CongruentInt p (pos y) b → CongruentInt p (pos (x + negated p y)) (a +ℤ neg_ℤ b)
difference-same p x y a b large h k =
    let s : pos (x + negated p y) ≡ pos x +ℤ pos (negated p y) = omega (arith, ints) in
    CongruentInt_trans (CongruentInt_of s)
    (CongruentInt-sum h (CongruentInt_trans (CongruentInt_sym (negated_whole p y large)) (CongruentInt-neg k)))

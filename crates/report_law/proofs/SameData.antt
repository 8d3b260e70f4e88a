-- Classes, primitives, columns and answers are told by their definitions.
use Rattle.std.{proofs.Common.{◌≡◌, ℕ, suc, ◌*◌, ◌-◌, ◌<◌, inl, inr, Bool, true, false, List, [], ◌∷◌, map, length, get_or, arith, refl, sym, ap, ap₂, subst, ◌∙◌, IsTrue, if◌then◌else◌}, specs.List.AllZip, proofs.lemmas.Bool.cases_lt}
use native.Mathlib.Nat.{zero-mod}
use Rattle.linear_law.{specs.Names.{Congruent, IsField, negated, Among, Each, IsAscending, combination}, proofs.Names.{Congruent_add, Congruent_mul, Congruent_of, Congruent_refl, Congruent_scale, each_among, one-nonzero, same_or_not}}
use Rattle.simplicial_law.{specs.Names.{IsSimplex, Precedes, AgreesOnSimplices, Chain, Cochain, IsCoboundary, IsCocycle, IsCohomologyBasis, unit_cochain, IsCanonicalClass, IsCanonicalCoboundary, canonical_cycle, AreCanonicalClasses, AreTerms, cochain_of}, proofs.Names.{coboundaries, cocycles, lists_compare, lists_strict}}
use Rattle.report_law.{specs.Types.{CartanAnswer, Yes, No, Form}, specs.Names.{AreClasses, Classes, ArePivots, ArePrimitives, IsAnswer, IsColumn, IsCycleAt, IsFirstValue, IsObstruction, IsPrimitiveAt, rest_of}, proofs.Coordinates.{agrees-sym, agrees-trans, bound-coordinates, coordinates-alike, once}, proofs.Unique.{canonical-once, same-order, same-primitive, same-terms}}
use Rattle.report.specs.Names.{details, has_details, has_tables, outline_answer, tables}

-- the partner of a member
partner : {X Y : Type 0} (R : X → Y → Type 0) (xs : List X) (ys : List Y) (x : X) → AllZip R xs ys → Among x xs → (y : Y) × R x y
partner R [] ys x h m = elim m [ ]
partner R (z ∷ zs) [] x h m = absurd h
partner R (z ∷ zs) (y ∷ ys) x h m = elim m [ inl e ↦ (y, subst (λ (w : _). R w y) e h.0) | inr n ↦ partner R zs ys x h.1 n ]

-- partners of one list that are told by it
pub zip-same : {U X : Type 0} (R S : U → X → Type 0) → ((u : U) (x y : X) → R u x → S u y → x ≡ y) → (us : List U) (xs ys : List X) → AllZip R us xs → AllZip S us ys → xs ≡ ys
zip-same R S f [] [] [] h k = refl
zip-same R S f [] (x ∷ xs) ys h k = absurd h
zip-same R S f (u ∷ us) [] ys h k = absurd h
zip-same R S f (u ∷ us) (x ∷ xs) (y ∷ ys) h k = ap₂ ◌∷◌ (f u x y h.0 k.0) (zip-same R S f us xs ys h.1 k.1)
zip-same R S f _ _ _ h k = absurd k

-- so for outlines of partners
pub zip-outline : {U X Z : Type 0} (R S : U → X → Type 0) (o : X → Z) → ((u : U) (x y : X) → R u x → S u y → o x ≡ o y) → (us : List U) (xs ys : List X) → AllZip R us xs → AllZip S us ys → map o xs ≡ map o ys
zip-outline R S o f [] [] [] h k = refl
zip-outline R S o f [] (x ∷ xs) ys h k = absurd h
zip-outline R S o f (u ∷ us) [] ys h k = absurd h
zip-outline R S o f (u ∷ us) (x ∷ xs) (y ∷ ys) h k = ap₂ ◌∷◌ (f u x y h.0 k.0) (zip-outline R S o f us xs ys h.1 k.1)
zip-outline R S o f _ _ _ h k = absurd k

when : {X : Type 0} (b : Bool) (xs ys : List X) → (IsTrue b → xs ≡ ys) → (if b then xs else []) ≡ (if b then ys else [])
when true xs ys h = h refl
when false xs ys h = refl

pub details-same : {X : Type 0} (form : Form) (xs ys : List X) → (IsTrue (has_details form) → xs ≡ ys) → details form xs ≡ details form ys
details-same form xs ys h = when (has_details form) xs ys h

pub tables-same : {X : Type 0} (form : Form) (xs ys : List X) → (IsTrue (has_tables form) → xs ≡ ys) → tables form xs ≡ tables form ys
tables-same form xs ys h = when (has_tables form) xs ys h

zip-with : {U X : Type 0} (R : U → X → Type 0) (P : X → Type 0) (us : List U) (xs : List X) → AllZip R us xs → Each P xs → AllZip (λ u x. R u x × P x) us xs
zip-with R P [] [] h k = tt
zip-with R P (u ∷ us) (x ∷ xs) h k = ((h.0, k.0), zip-with R P us xs h.1 k.1)
zip-with R P _ _ h k = absurd h

module _ (facets : List (List ℕ)) (ascending : Each IsAscending facets) (p : ℕ) (field : IsField p) (n : ℕ) where
  -- ---- classes

  pub same-classes : (xs ys : List Chain) → AreCanonicalClasses facets n p xs → AreCanonicalClasses facets n p ys → xs ≡ ys
  same-classes xs ys h k =
      let R : List ℕ → Chain → Type 0 = λ s ts. IsCanonicalClass facets n p s (cochain_of ts) in
      let there : (x : List ℕ) → Among x h.pivots → Among x k.pivots = λ x m. (let c = partner R h.pivots xs x h.canonical m in k.all x c.1.canonical.pivot c.1.no_bound) in
      let back : (x : List ℕ) → Among x k.pivots → Among x h.pivots = λ x m. (let c = partner R k.pivots ys x k.canonical m in h.all x c.1.canonical.pivot c.1.no_bound) in
      let e = same-order h.pivots k.pivots h.in_order k.in_order there back in
      zip-same (λ s ts. R s ts × AreTerms facets n p ts) (λ s ts. R s ts × AreTerms facets n p ts)
      (λ s ts us a b. same-terms facets n p ts us a.1 b.1
      (canonical-once facets ascending p field n (IsCocycle facets n p) (cocycles facets n p field.large) s (cochain_of ts) (cochain_of us) a.0.canonical b.0.canonical))
      k.pivots xs ys
      (subst (λ (ss : List (List ℕ)). AllZip (λ s ts. R s ts × AreTerms facets n p ts) ss xs) e (zip-with R (AreTerms facets n p) h.pivots xs h.canonical h.terms))
      (zip-with R (AreTerms facets n p) k.pivots ys k.canonical k.terms)

  -- ---- primitives

  pub same-pivots : (ss ts : List (List ℕ)) → ArePivots facets n p ss → ArePivots facets n p ts → ss ≡ ts
  same-pivots ss ts h k = same-order ss ts h.in_order k.in_order (λ x m. k.all x (each_among _ x ss h.each m)) (λ x m. h.all x (each_among _ x ts k.each m))

  bounds-once : (t : List ℕ) (b c : Cochain) → IsCanonicalCoboundary facets n p t b → IsCanonicalCoboundary facets n p t c → AgreesOnSimplices facets n p b c
  bounds-once t b c h k = canonical-once facets ascending p field n (IsCoboundary facets n p) (coboundaries facets n p field.large) t b c h k

  pub same-primitives : (xs ys : List Chain) → ArePrimitives facets n p xs → ArePrimitives facets n p ys → xs ≡ ys
  same-primitives xs ys h k =
      zip-same (IsPrimitiveAt facets n p) (IsPrimitiveAt facets n p)
      (λ t ts us a b. same-primitive facets ascending p field n a.bound b.bound ts us (bounds-once t a.bound b.bound a.canonical b.canonical) a.primitive b.primitive)
      k.pivots xs ys (subst (λ (ss : List (List ℕ)). AllZip (IsPrimitiveAt facets n p) ss xs) (same-pivots h.pivots k.pivots h.are k.are) h.primitives) k.primitives

  -- ---- columns

  module _ (form : Form) (zs : List Cochain) (basis : IsCohomologyBasis facets n p zs) where
    pub same-column : (z w : Cochain) (vs us : List ℕ) (ts rs : Chain) → AgreesOnSimplices facets n p z w → IsColumn (has_details form) facets n p zs z vs ts → IsColumn (has_details form) facets n p zs w us rs → (vs ≡ us) × (details form ts ≡ details form rs)
    same-column z w vs us ts rs same h k =
        let e = once facets n p field.large zs basis z vs us h.coordinates (coordinates-alike facets n p field.large zs z w us same k.coordinates) in
        let rests : AgreesOnSimplices facets n p (rest_of p zs z vs) (rest_of p zs w us) = record {
          at = λ s on. Congruent_add (same.at s on) (Congruent_of (ap (λ (cs : List ℕ). negated p (combination cs zs s)) e));
        } in
        (e, details-same form ts rs (λ d. same-primitive facets ascending p field n (rest_of p zs z vs) (rest_of p zs w us) ts rs rests (h.rest d) (k.rest d)))

  -- ---- cycles

  same-cycle : (s : List ℕ) → IsSimplex facets n s → (ts us : Chain) → IsCycleAt facets n p s ts → IsCycleAt facets n p s us → ts ≡ us
  same-cycle s on ts us h k =
      let e = same-pivots h.pivots k.pivots h.are k.are in
      let given = subst (λ (xs : List (List ℕ)). Each (λ t. IsCanonicalCoboundary facets n p t (h.bound t)) xs) e h.canonical in
      let left : AgreesOnSimplices facets n p (cochain_of ts) (cochain_of (canonical_cycle p h.bound k.pivots s)) =
      subst (λ (xs : List (List ℕ)). AgreesOnSimplices facets n p (cochain_of ts) (cochain_of (canonical_cycle p h.bound xs s))) e h.same in
      let middle : AgreesOnSimplices facets n p (cochain_of (canonical_cycle p h.bound k.pivots s)) (cochain_of (canonical_cycle p k.bound k.pivots s)) =
      record { at = λ x a. Congruent_add (Congruent_refl (1 * unit_cochain s x)) (chains k.pivots given k.canonical x) } in
      same-terms facets n p ts us h.terms_are k.terms_are (agrees-trans left (agrees-trans middle (agrees-sym k.same)))
    where
      chains : (xs : List (List ℕ)) → Each (λ t. IsCanonicalCoboundary facets n p t (h.bound t)) xs → Each (λ t. IsCanonicalCoboundary facets n p t (k.bound t)) xs → (x : List ℕ)
          → Congruent p (cochain_of (map (λ t. (negated p (h.bound t s), t)) xs) x) (cochain_of (map (λ t. (negated p (k.bound t s), t)) xs) x)
      chains [] a b x = Congruent_refl 0
      chains (t ∷ xs) a b x =
          Congruent_add (Congruent_mul (Congruent_scale (p - 1) ((bounds-once t (h.bound t) (k.bound t) a.0 b.0).at s on)) (Congruent_refl (unit_cochain t x))) (chains xs a.1 b.1 x)

same-class : (facets : List (List ℕ)) (n p : ℕ) → IsField p → (s t : List ℕ) (z w : Cochain) → z ≡ w → IsCanonicalClass facets n p s z → IsCanonicalClass facets n p t w → s ≡ t
same-class facets n p field s t z w e h k =
    elim (same_or_not Precedes lists_compare lists_strict s t) [
      | inl q ↦ q
      | inr d ↦
          let other = k.canonical.others s h.canonical.pivot d in
          let here : Congruent p (z s) 0 = subst (λ (c : Cochain). Congruent p (c s) 0) (sym e) other in
          absurd (one-nonzero p (z s) field.large h.canonical.one (here.same ∙ zero-mod p))
    ]

same-first : (values : List ℕ) (i j v w : ℕ) → IsFirstValue values i v → IsFirstValue values j w → i ≡ j
same-first values i j v w h k = elim (cases_lt i j) [
  | inl b ↦ absurd (let a = k.before i b in let c = h.here in let d = h.nonzero in omega (arith, a, c, d))
  | inr g ↦ elim (cases_lt j i) [
    | inl b ↦ absurd (let a = h.before j b in let c = k.here in let d = k.nonzero in omega (arith, a, c, d))
    | inr f ↦ omega (arith, g, f)
  ]
]

module _ (form : Form) (facets : List (List ℕ)) (ascending : Each IsAscending facets) (p : ℕ) (field : IsField p) (n : ℕ) (classes : List Chain) (basis : IsCohomologyBasis facets n p (map cochain_of classes)) where
  -- a coboundary has no obstruction
  not-both : (d e : Cochain) (value : ℕ) (cycle : Chain) → AgreesOnSimplices facets n p d e → IsCoboundary facets n p d → IsObstruction (has_details form) facets n p classes e value cycle → ⊥
  not-both d e value cycle same h k =
      let bound = (coboundaries facets n p field.large).alike e d (agrees-sym same) h in
      let z = bound-coordinates facets n p field.large (map cochain_of classes) basis e k.values bound k.coordinates k.place in
      let a = k.first.here in
      let b = k.first.nonzero in
      omega (arith, a, b, z)

  pub same-answer : (d e : Cochain) (x y : CartanAnswer) → AgreesOnSimplices facets n p d e → IsAnswer (has_details form) facets n p classes d x → IsAnswer (has_details form) facets n p classes e y → outline_answer form x ≡ outline_answer form y
  same-answer d e (Yes ts) (Yes us) same h k = ap Yes (details-same form ts us (λ t. same-primitive facets ascending p field n d e ts us same (h.1 t) (k.1 t)))
  same-answer d e (Yes ts) (No value cycle) same h k = absurd (not-both d e value cycle same h.0 k)
  same-answer d e (No value cycle) (Yes us) same h k = absurd (not-both e d value cycle (agrees-sym same) k.0 h)
  same-answer d e (No v c) (No w b) same h k =
      let values = once facets n p field.large (map cochain_of classes) basis d h.values k.values h.coordinates (coordinates-alike facets n p field.large (map cochain_of classes) d e k.values same k.coordinates) in
      let first = subst (λ (vs : List ℕ). IsFirstValue vs h.place v) values h.first in
      let place = same-first k.values h.place k.place v w first k.first in
      let value : v ≡ w = sym first.here ∙ ap (λ (i : ℕ). get_or k.values i 0) place ∙ k.first.here in
      let cycles : IsTrue (has_details form) → c ≡ b = λ t. (
      let left = h.cycle_of t in
      let right = k.cycle_of t in
      let pivot = same-class facets n p field left.pivot right.pivot (cochain_of (get_or classes h.place [])) (cochain_of (get_or classes k.place [])) (ap (λ (i : ℕ). cochain_of (get_or classes i [])) place) left.class right.class in
      let on = right.class.canonical.pivot.lead.on in
      same-cycle facets ascending p field n right.pivot on c b (subst (λ (s : List ℕ). IsCycleAt facets n p s c) pivot left.cycle_at) right.cycle_at) in
      ap₂ No value (details-same form c b cycles)

-- ---- the classes of all degrees

same-lists : (xs ys : List (List Chain)) → length xs ≡ length ys → ((n : ℕ) → n < length xs → get_or xs n [] ≡ get_or ys n []) → xs ≡ ys
same-lists [] [] l h = refl
same-lists (x ∷ xs) (y ∷ ys) l h = ap₂ ◌∷◌ (h 0 (omega arith)) (same-lists xs ys (omega (arith, l)) (λ n b. h (suc n) (omega (arith, b))))
same-lists _ _ l h = absurd (omega (arith, l))

pub same-bases : (facets : List (List ℕ)) → Each IsAscending facets → (p : ℕ) → IsField p → (xs ys : Classes) → AreClasses facets p xs → AreClasses facets p ys → xs ≡ ys
same-bases facets ascending p field xs ys h k =
    let count : length xs ≡ length ys = elim (cases_lt (length xs) (length ys)) [
      | inl l ↦ (let s = k.inhabited (length xs) l in let b = h.whole (length xs) s.0 s.1 in absurd (omega (arith, b)))
      | inr g ↦ elim (cases_lt (length ys) (length xs)) [
        | inl l ↦ (let s = h.inhabited (length ys) l in let b = k.whole (length ys) s.0 s.1 in absurd (omega (arith, b)))
        | inr f ↦ omega (arith, g, f)
      ]
    ] in
    same-lists xs ys count
    (λ n b. same-classes facets ascending p field n (get_or xs n []) (get_or ys n []) (h.each n b) (k.each n (omega (arith, b, count))))

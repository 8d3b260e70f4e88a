-- The report of a point.
use Rattle.std.proofs.Common.{◌≡◌, ℕ, ◌+◌, ◌%◌, inl, inr, true, List, [], ◌∷◌, get_or, arith, refl, sym, ap, subst}
use Rattle.linear_law.{specs.Names.{Congruent, negated, sum_over, Among, combination}, proofs.Names.Congruent_refl}
use Rattle.simplicial_law.{specs.Names.{IsInOrder, IsSimplex, Precedes, AgreesOnSimplices, Cochain, IsCoboundary, IsCanonicalClass, AreCanonicalClasses, cochain_of}, proofs.Names.{lists_strict, no_bounds, coboundary_zero}}
use Rattle.steenrod_law.specs.Names.{IsSquare, cup_product, may_operation}
use Rattle.report_law.{specs.Names.{AreClasses, ArePrimitives, IsColumn, rest_of, IsCartanDifference, PointRow}, proofs.Coordinates.{agrees-sym, agrees-trans}}

abbrev facets : List (List ℕ)
facets = (0 ∷ []) ∷ []

abbrev point : List ℕ
point = 0 ∷ []

abbrev z : Cochain
z = cochain_of ((1, 0 ∷ []) ∷ [])

-- the point is the one simplex
zero-only : (v : ℕ) (f : List ℕ) → Among f facets → Among v f → v ≡ 0
zero-only v f m k = elim m [
  | inl e ↦ elim (subst (λ (g : List ℕ). Among v g) (sym e) k) [ inl q ↦ sym q | inr n ↦ elim n [ ] ]
  | inr n ↦ elim n [ ]
]

only : (n : ℕ) (s : List ℕ) → IsSimplex facets n s → (n ≡ 0) × (s ≡ point)
only n [] h = absurd (let l = h.size in omega (arith, l))
only n (v ∷ []) h =
    let q = zero-only v h.facet h.listed h.within.0 in
    let l = h.size in
    (omega (arith, l), ap (λ (w : ℕ). w ∷ []) q)
only n (v ∷ w ∷ s) h =
    let a = zero-only v h.facet h.listed h.within.0 in
    let b = zero-only w h.facet h.listed h.within.1.0 in
    let c = h.ascending.0.0 in
    absurd (omega (arith, a, b, c))

point-simplex : IsSimplex facets 0 point
point-simplex = record { ascending = (tt, tt); size = refl; facet = point; listed = inl refl; within = (inl refl, tt) }

-- cochains that agree at the point
agree : (n : ℕ) (f g : Cochain) → Congruent 2 (f point) (g point) → AgreesOnSimplices facets n 2 f g
agree n f g h = record { at = λ s on. subst (λ (t : List ℕ). Congruent 2 (f t) (g t)) (sym (only n s on).1) h }

above-point : (f g : Cochain) → AgreesOnSimplices facets 1 2 f g
above-point f g = record { at = λ s on. absurd (let e = (only 1 s on).0 in omega (arith, e)) }

same : {a b : ℕ} → a ≡ b → Congruent 2 a b
same {a} {b} e = record { same = ap (λ (n : ℕ). n % 2) e }

is-class : IsCanonicalClass facets 0 2 point z
is-class = record {
  canonical = record {
    pivot = record { vector = z; member = above-point _ _; lead = record { on = point-simplex; nonzero = λ e. omega (arith, e); least = λ t on b. absurd (lists_strict point (subst (λ (u : List ℕ). Precedes u point) (only 0 t on).1 b)) } };
    member = above-point _ _;
    one = same refl;
    others = λ t q n. absurd (n (only 0 t q.lead.on).1);
  };
  no_bound = no_bounds facets 2 point;
}

in-order-one : (s : List ℕ) → IsInOrder (s ∷ [])
in-order-one s j k b c = absurd (omega (arith, b, c))

classes : AreCanonicalClasses facets 0 2 (((1, point) ∷ []) ∷ [])
classes = record {
  pivots = point ∷ [];
  in_order = in-order-one point;
  all = λ s q n. inl (sym (only 0 s q.lead.on).1);
  canonical = (is-class, tt);
  terms = (record { coefficients = ((omega arith, omega arith), tt); simplices = (point-simplex, tt); in_order = in-order-one point }, tt);
}

bound : (f : Cochain) → AgreesOnSimplices facets 0 2 f (λ s. 0) → IsCoboundary facets 0 2 f
bound f none = record { below = λ s. 0; nothing = refl; same = agrees-trans none (agrees-sym (record { at = λ s on. same (coboundary_zero 2 s) })) }

-- a cochain with value 1 at the point is the class
column : (f : Cochain) → f point ≡ 1 → IsColumn true facets 0 2 (z ∷ []) f (1 ∷ []) []
column f e =
    let none : AgreesOnSimplices facets 0 2 (rest_of 2 (z ∷ []) f (1 ∷ [])) (λ s. 0) =
    agree 0 (rest_of 2 (z ∷ []) f (1 ∷ [])) (λ s. 0) (record { same = ap (λ (n : ℕ). (n + negated 2 (combination (1 ∷ []) (z ∷ []) point)) % 2) e }) in
    record {
      coordinates = record {
        count = refl;
        small = (omega arith, tt);
        rest = bound (rest_of 2 (z ∷ []) f (1 ∷ [])) none;
      };
      rest = λ t. (none, refl);
    }

squared : (a : Cochain) → IsSquare facets 0 0 a (may_operation 2 0 0 a)
squared a = record { defined = omega arith; value = agree 0 _ _ (Congruent_refl _) }

difference : Cochain
difference = λ s. may_operation 2 0 0 (cup_product 2 0 0 z z) s + negated 2 (sum_over (λ (w : Cochain). w s) (cup_product 2 0 0 (may_operation 2 0 0 z) (may_operation 2 0 0 z) ∷ []))

is-difference : IsCartanDifference facets 2 0 0 0 z z difference
unfolding difference
is-difference = record {
  whole = may_operation 2 0 0 (cup_product 2 0 0 z z);
  is_whole = squared (cup_product 2 0 0 z z);
  parts = cup_product 2 0 0 (may_operation 2 0 0 z) (may_operation 2 0 0 z) ∷ [];
  are_parts = (record { left = may_operation 2 0 0 z; right = may_operation 2 0 0 z; is_left = squared z; is_right = squared z; product = refl }, tt);
  difference = agree 0 difference _ (Congruent_refl _);
}

all-classes : AreClasses facets 2 ((((1, point) ∷ []) ∷ []) ∷ [])
all-classes = record {
  each = λ n b. subst (λ (m : ℕ). AreCanonicalClasses facets m 2 (get_or ((((1, point) ∷ []) ∷ []) ∷ []) m [])) (let q : 0 ≡ n = omega (arith, b) in q) classes;
  inhabited = λ n b. subst (λ (m : ℕ). (s : List ℕ) × IsSimplex facets m s) (let q : 0 ≡ n = omega (arith, b) in q) (point, point-simplex);
  whole = λ n s on. (let e = (only n s on).0 in omega (arith, e));
}

no-difference : AgreesOnSimplices facets 0 2 difference (λ s. 0)
unfolding difference
no-difference = agree 0 difference (λ s. 0) (record { same = refl })

pub point_row : PointRow
unfolding difference
point_row = record {
  prime = refl;
  complexes = (
    record {
      name = refl;
      classes = all-classes;
      tables = λ t. record {
        products = refl;
        product_parts = (record { numbers = refl; block = (column (cup_product 2 0 0 z z) refl, tt) }, tt);
        operations = refl;
        operation_parts = ((record { result = may_operation 2 0 0 z; is_result = squared z; is_column = column (may_operation 2 0 0 z) refl }, tt), tt);
        cartans = refl;
        cartan_parts = (record { difference = difference; is_difference = is-difference; is_answer = (bound difference no-difference, λ d. (no-difference, refl)) }, tt);
      };
      facets = λ t. record {
        in_order = in-order-one point;
        each = (record { given = inl refl; alone = λ g m w. elim m [ inl e ↦ sym e | inr n ↦ elim n [ ] ] }, tt);
        all = λ f m. elim m.given [ inl e ↦ inl e | inr n ↦ elim n [ ] ];
      };
      below = λ t n b. subst (λ (m : ℕ). ArePrimitives facets m 2 (get_or ([] ∷ []) m [])) (let q : 0 ≡ n = omega (arith, b) in q)
          (record { pivots = []; are = record { in_order = λ j k c d. absurd (omega (arith, d)); each = tt; all = λ s q. absurd (no_bounds facets 2 s q) }; primitives = tt });
    },
    tt,
  );
  maps = λ t. tt;
}

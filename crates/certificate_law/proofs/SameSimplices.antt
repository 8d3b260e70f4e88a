-- Two lists of facets with the same simplices: what holds of one complex holds of the other.
use Rattle.std.proofs.Common.{ℕ, zero, suc, ◌+◌, Bool, List, map}
use Rattle.linear_law.{specs.Names.{IsCanonical, IsPivot}, proofs.Names.{zip_change, each_map}}
use Rattle.simplicial_law.specs.Names.{IsSimplex, Precedes, AgreesOnSimplices, Chain, Cochain, HasCoordinates, IsCoboundary, IsCocycle, coboundary, IsCanonicalClass, IsCanonicalCoboundary, IsCoboundaryPivot, IsCocyclePivot, AreCanonicalClasses, AreTerms, cochain_of}
use Rattle.certificate_law.specs.Types.{CartanAnswer, Yes, No, CartanPart, OperationPart, Column, ProductPart, ComplexPart, Op, Square}
use Rattle.report_law.specs.Names.{ArePivots, ArePrimitives, IsAnswer, IsColumn, IsCycleAt, IsPrimitive, IsPrimitiveAt, IsCartanDifference, IsCartanProduct, IsOperation, cartan_op, cartan_pairs, target_degree, AreClasses, Classes, IsOperationColumn, classes_in, cochains_in, line_degree, block_of, line_of, unnumbered, AreTables, IsCartanPart, IsOperationPart, IsProductPart}

pub record SameSimplices (F G : List (List ℕ)) : Type 0 where
  pub there : (n : ℕ) (s : List ℕ) → IsSimplex F n s → IsSimplex G n s
  pub back : (n : ℕ) (s : List ℕ) → IsSimplex G n s → IsSimplex F n s

turned : {F G : List (List ℕ)} → SameSimplices F G → SameSimplices G F
turned h = record { there = h.back; back = h.there }

agrees : {F G : List (List ℕ)} → SameSimplices F G → (n p : ℕ) (a b : Cochain) → AgreesOnSimplices F n p a b → AgreesOnSimplices G n p a b
agrees h n p a b g = record { at = λ s on. g.at s (h.back n s on) }

coboundary_there : {F G : List (List ℕ)} → SameSimplices F G → (n p : ℕ) (z : Cochain) → IsCoboundary F n p z → IsCoboundary G n p z
coboundary_there h n p z b = record { below = b.below; nothing = b.nothing; same = agrees h n p z (coboundary p b.below) b.same }

cocycle_there : {F G : List (List ℕ)} → SameSimplices F G → (n p : ℕ) (z : Cochain) → IsCocycle F n p z → IsCocycle G n p z
cocycle_there h n p z c = agrees h (n + 1) p (coboundary p z) (λ s. 0) c

pivot_there : {F G : List (List ℕ)} → SameSimplices F G → (n p : ℕ) (M N : Cochain → Type 0) → ((v : Cochain) → M v → N v) → (s : List ℕ) → IsPivot p (IsSimplex F n) Precedes M s → IsPivot p (IsSimplex G n) Precedes N s
pivot_there h n p M N f s q = record {
  vector = q.vector;
  member = f q.vector q.member;
  lead = record { on = h.there n s q.lead.on; nonzero = q.lead.nonzero; least = λ y on b. q.lead.least y (h.back n y on) b };
}

cocycle_pivot : {F G : List (List ℕ)} → SameSimplices F G → (n p : ℕ) (s : List ℕ) → IsCocyclePivot F n p s → IsCocyclePivot G n p s
cocycle_pivot {F} {G} h n p s q = pivot_there h n p (IsCocycle F n p) (IsCocycle G n p) (cocycle_there h n p) s q

coboundary_pivot : {F G : List (List ℕ)} → SameSimplices F G → (n p : ℕ) (s : List ℕ) → IsCoboundaryPivot F n p s → IsCoboundaryPivot G n p s
coboundary_pivot {F} {G} h n p s q = pivot_there h n p (IsCoboundary F n p) (IsCoboundary G n p) (coboundary_there h n p) s q

canonical_there : {F G : List (List ℕ)} → SameSimplices F G → (n p : ℕ) (M N : Cochain → Type 0) → ((v : Cochain) → M v → N v) → ((v : Cochain) → N v → M v) → (s : List ℕ) (v : Cochain) →
    IsCanonical p (IsSimplex F n) Precedes M s v → IsCanonical p (IsSimplex G n) Precedes N s v
canonical_there h n p M N f g s v c = record {
  pivot = pivot_there h n p M N f s c.pivot;
  member = f v c.member;
  one = c.one;
  others = λ y q m. c.others y (pivot_there (turned h) n p N M g y q) m;
}

canonical_coboundary : {F G : List (List ℕ)} → SameSimplices F G → (n p : ℕ) (s : List ℕ) (b : Cochain) → IsCanonicalCoboundary F n p s b → IsCanonicalCoboundary G n p s b
canonical_coboundary {F} {G} h n p s b c = canonical_there h n p (IsCoboundary F n p) (IsCoboundary G n p) (coboundary_there h n p) (coboundary_there (turned h) n p) s b c

canonical_class : {F G : List (List ℕ)} → SameSimplices F G → (n p : ℕ) (s : List ℕ) (z : Cochain) → IsCanonicalClass F n p s z → IsCanonicalClass G n p s z
canonical_class {F} {G} h n p s z c = record {
  canonical = canonical_there h n p (IsCocycle F n p) (IsCocycle G n p) (cocycle_there h n p) (cocycle_there (turned h) n p) s z c.canonical;
  no_bound = λ q. c.no_bound (coboundary_pivot (turned h) n p s q);
}

are_terms : {F G : List (List ℕ)} → SameSimplices F G → (n p : ℕ) (terms : Chain) → AreTerms F n p terms → AreTerms G n p terms
are_terms h n p terms t = record { coefficients = t.coefficients; simplices = each_map (λ e on. h.there n e.1 on) terms t.simplices; in_order = t.in_order }

are_classes : {F G : List (List ℕ)} → SameSimplices F G → (n p : ℕ) (classes : List Chain) → AreCanonicalClasses F n p classes → AreCanonicalClasses G n p classes
are_classes {F} {G} h n p classes a = record {
  pivots = a.pivots;
  in_order = a.in_order;
  all = λ s q none. a.all s (cocycle_pivot (turned h) n p s q) (λ b. none (coboundary_pivot h n p s b));
  canonical = zip_change (λ s terms. IsCanonicalClass F n p s (cochain_of terms)) (λ s terms. IsCanonicalClass G n p s (cochain_of terms)) (λ s terms c. canonical_class h n p s (cochain_of terms) c) a.pivots classes a.canonical;
  terms = each_map (λ t c. are_terms h n p t c) classes a.terms;
}

primitive_there : {F G : List (List ℕ)} → SameSimplices F G → (n p : ℕ) (z : Cochain) (terms : Chain) → IsPrimitive F n p z terms → IsPrimitive G n p z terms
primitive_there h zero p z terms g = (agrees h zero p z (λ s. 0) g.0, g.1)
primitive_there h (suc n) p z terms g = (
  record { same = agrees h (n + 1) p z (coboundary p (cochain_of terms)) g.0.same; vanishes = λ s q. g.0.vanishes s (cocycle_pivot (turned h) n p s q) },
  are_terms h n p terms g.1,
)

are_pivots : {F G : List (List ℕ)} → SameSimplices F G → (n p : ℕ) (pivots : List (List ℕ)) → ArePivots F n p pivots → ArePivots G n p pivots
are_pivots h n p pivots a = record { in_order = a.in_order; each = each_map (λ s q. coboundary_pivot h n p s q) pivots a.each; all = λ s q. a.all s (coboundary_pivot (turned h) n p s q) }

pub are_primitives : {F G : List (List ℕ)} → SameSimplices F G → (n p : ℕ) (below : List Chain) → ArePrimitives F n p below → ArePrimitives G n p below
are_primitives {F} {G} h n p below a = record {
  pivots = a.pivots;
  are = are_pivots h n p a.pivots a.are;
  primitives = zip_change (IsPrimitiveAt F n p) (IsPrimitiveAt G n p)
      (λ s terms g. record { bound = g.bound; canonical = canonical_coboundary h n p s g.bound g.canonical; primitive = primitive_there h n p g.bound terms g.primitive }) a.pivots below a.primitives;
}

coordinates_there : {F G : List (List ℕ)} → SameSimplices F G → (n p : ℕ) (zs : List Cochain) (z : Cochain) (cs : List ℕ) → HasCoordinates F n p zs z cs → HasCoordinates G n p zs z cs
coordinates_there h n p zs z cs c = record { count = c.count; small = c.small; rest = coboundary_there h n p _ c.rest }

pub column_there : {F G : List (List ℕ)} → SameSimplices F G → (d : Bool) (n p : ℕ) (zs : List Cochain) (z : Cochain) (values : List ℕ) (primitive : Chain) → IsColumn d F n p zs z values primitive → IsColumn d G n p zs z values primitive
column_there h d n p zs z values primitive c = record { coordinates = coordinates_there h n p zs z values c.coordinates; rest = λ t. primitive_there h n p _ primitive (c.rest t) }

operation_there : {F G : List (List ℕ)} → SameSimplices F G → (p : ℕ) (op : Op) (q : ℕ) (a b : Cochain) → IsOperation F p op q a b → IsOperation G p op q a b
operation_there h p (Square k) q a b g = record { defined = g.defined; value = agrees h _ 2 b _ g.value }
operation_there h p _ q a b g = record { odd = g.odd; defined = g.defined; scale = g.scale; is_scale = g.is_scale; value = agrees h _ p b _ g.value }

difference_there : {F G : List (List ℕ)} → SameSimplices F G → (p a b n : ℕ) (x y d : Cochain) → IsCartanDifference F p a b n x y d → IsCartanDifference G p a b n x y d
difference_there {F} {G} h p a b n x y d g = record {
  whole = g.whole;
  is_whole = operation_there h p (cartan_op p n) (a + b) _ g.whole g.is_whole;
  parts = g.parts;
  are_parts = zip_change (λ e w. IsCartanProduct F p a b x y e.0 e.1 w) (λ e w. IsCartanProduct G p a b x y e.0 e.1 w)
      (λ e w k. record {
        left = k.left;
        right = k.right;
        is_left = operation_there h p (cartan_op p e.0) a x k.left k.is_left;
        is_right = operation_there h p (cartan_op p e.1) b y k.right k.is_right;
        product = k.product;
      }) (cartan_pairs p a b n) g.parts g.are_parts;
  difference = agrees h (target_degree p (a + b) (cartan_op p n)) p d _ g.difference;
}

cycle_there : {F G : List (List ℕ)} → SameSimplices F G → (n p : ℕ) (s : List ℕ) (terms : Chain) → IsCycleAt F n p s terms → IsCycleAt G n p s terms
cycle_there h n p s terms c = record {
  pivots = c.pivots;
  are = are_pivots h n p c.pivots c.are;
  bound = c.bound;
  canonical = each_map (λ t k. canonical_coboundary h n p t (c.bound t) k) c.pivots c.canonical;
  same = agrees h n p (cochain_of terms) _ c.same;
  terms_are = are_terms h n p terms c.terms_are;
}

answer_there : {F G : List (List ℕ)} → SameSimplices F G → (d : Bool) (n p : ℕ) (classes : List Chain) (z : Cochain) (answer : CartanAnswer) → IsAnswer d F n p classes z answer → IsAnswer d G n p classes z answer
answer_there h d n p classes z (Yes primitive) g = (coboundary_there h n p z g.0, λ t. primitive_there h n p z primitive (g.1 t))
answer_there h d n p classes z (No value cycle) g = record {
  values = g.values;
  coordinates = coordinates_there h n p (map cochain_of classes) z g.values g.coordinates;
  place = g.place;
  first = g.first;
  cycle_of = λ t. let k = g.cycle_of t in record { pivot = k.pivot; class = canonical_class h n p k.pivot _ k.class; cycle_at = cycle_there h n p k.pivot cycle k.cycle_at };
}

-- ---- the parts of a complex

pub classes_there : {F G : List (List ℕ)} → SameSimplices F G → (p : ℕ) (classes : Classes) → AreClasses F p classes → AreClasses G p classes
classes_there h p classes a = record {
  each = λ n b. are_classes h n p (classes_in classes n) (a.each n b);
  inhabited = λ n b. let s = a.inhabited n b in (s.0, h.there n s.0 s.1);
  whole = λ n s on. a.whole n s (h.back n s on);
}

module _ {F G : List (List ℕ)} (h : SameSimplices F G) (d : Bool) (p : ℕ) (classes : Classes) where
  product_there : (x : ProductPart) → IsProductPart d F p classes x → IsProductPart d G p classes x
  product_there x b = record {
    numbers = b.numbers;
    block = zip_change (λ (z : Cochain) (y : Column). IsColumn d F (x.a + x.b) p (cochains_in classes (x.a + x.b)) z y.values y.primitive) (λ z y. IsColumn d G (x.a + x.b) p (cochains_in classes (x.a + x.b)) z y.values y.primitive)
        (λ z y k. column_there h d (x.a + x.b) p (cochains_in classes (x.a + x.b)) z y.values y.primitive k) _ (map unnumbered x.columns) b.block;
  }

  operation_part_there : (x : OperationPart) → IsOperationPart d F p classes x → IsOperationPart d G p classes x
  operation_part_there x b =
      zip_change (IsOperationColumn d F p classes (block_of x)) (IsOperationColumn d G p classes (block_of x))
      (λ z y k. record { result = k.result; is_result = operation_there h p _ x.from z k.result k.is_result; is_column = column_there h d x.to p (cochains_in classes x.to) k.result y.values y.primitive k.is_column })
      (cochains_in classes x.from) x.columns b

  cartan_there : (x : CartanPart) → IsCartanPart d F p classes x → IsCartanPart d G p classes x
  cartan_there x l = record {
    difference = l.difference;
    is_difference = difference_there h p x.a x.b x.n _ _ l.difference l.is_difference;
    is_answer = answer_there h d (line_degree p (line_of x)) p (classes_in classes (line_degree p (line_of x))) l.difference x.answer l.is_answer;
  }

  pub tables_there : (c : ComplexPart) → AreTables d F p classes c → AreTables d G p classes c
  tables_there c t = record {
    products = t.products;
    product_parts = each_map product_there c.products t.product_parts;
    operations = t.operations;
    operation_parts = each_map operation_part_there c.operations t.operation_parts;
    cartans = t.cartans;
    cartan_parts = each_map cartan_there c.cartans t.cartan_parts;
  }

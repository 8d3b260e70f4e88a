-- Columns and cycles of a complex, from those of the pair with no subcomplex.
use Rattle.std.proofs.Common.{◌≡◌, ℕ, true, false, List, [], refl, sym, subst, None, Option, Some}
use Rattle.cohomology.{proofs.Below.{each_map, Cochain, IsCanonicalClass, PlacedCochain, absolute_law, IsCanonicalRelativeClass}, specs.Names.{DegreeClasses, IsColumnOf, cochain_in, AreRelativeCoordinates, IsClosedIn, IsRelativeIn, AreClassesOf, AreClassesOfPair, IsCanonicalCycle, IsRelativeCycle, classes_in, CohomologyData, IsCohomologyOf, IsCohomologyOfPair, AreRelativeValues, cochains_at}, proofs.CoordinateLemmas.{coordinates_absolute, relative_of}, proofs.WalkLemmas.pair_with_nothing}

class_up : (facets : List (List ℕ)) (n p : ℕ) (s : List ℕ) (z : Cochain) → IsCanonicalClass facets n p s z → IsCanonicalRelativeClass facets [] n p s z
class_up facets n p s z h = record {
  canonical = record {
    pivot = (absolute_law.cocycle_pivots facets n p s).1 h.canonical.pivot;
    member = (absolute_law.cocycles facets n p z).1 h.canonical.member;
    one = h.canonical.one;
    others = λ y q m. h.canonical.others y ((absolute_law.cocycle_pivots facets n p y).0 q) m;
  };
  no_bound = λ q. h.no_bound ((absolute_law.coboundary_pivots facets n p s).0 q);
}

pub cycle_absolute : (p : ℕ) (ls : List (List (List ℕ))) (n : ℕ) (classes : List (PlacedCochain p)) (i : ℕ) (y : PlacedCochain p) → IsRelativeCycle p ls [] n classes i y → IsCanonicalCycle p ls n classes i y
cycle_absolute p ls n classes i y h = record {
  placed = h.placed;
  chain = λ facets is class s pivots bound e canonical order each all bounds.
      h.chain facets [] (pair_with_nothing facets ls is) class s pivots bound e (class_up facets n p s (cochain_in ls n class.row) canonical)
      (record {
        in_order = order;
        each = each_map (λ t q. (absolute_law.coboundary_pivots facets n p t).1 q) pivots each;
        all = λ t q. all t ((absolute_law.coboundary_pivots facets n p t).0 q);
      })
      (each_map (λ t c. (absolute_law.canonical_coboundaries facets n p t (bound t)).1 c) pivots bounds);
  coboundaries = λ facets is f b. h.coboundaries facets [] (pair_with_nothing facets ls is) f ((absolute_law.coboundaries facets n p f).1 b);
  classes_at = λ facets is j class e. h.classes_at facets [] (pair_with_nothing facets ls is) j class e;
}

pub light_column : (p : ℕ) (ls : List (List (List ℕ))) (degrees : List (DegreeClasses p)) (z : PlacedCochain p) (values : List ℕ) (primitive : Option (PlacedCochain p)) → primitive ≡ None
    → ((full sub : List (List (List ℕ))) → AreClassesOfPair p full sub degrees → AreRelativeValues p full sub (classes_in degrees z.degree) z values)
    → AreClassesOf p ls degrees → IsClosedIn p ls z → IsColumnOf p false ls (classes_in degrees z.degree) z values primitive
light_column p ls degrees z values primitive e tell are closed =
    subst (λ (y : Option (PlacedCochain p)). IsColumnOf p false ls (classes_in degrees z.degree) z values y) (sym e) (record {
      coordinates = λ facets is.
          (absolute_law.coordinates facets z.degree p (cochains_at ls z.degree (classes_in degrees z.degree)) (cochain_in ls z.degree z.row) values).0
          (tell ls [] are.pair facets [] (pair_with_nothing facets ls is) (relative_of p ls z closed facets [] (pair_with_nothing facets ls is)));
      primitive_of = refl;
    })

pub full_column : (p : ℕ) (ls : List (List (List ℕ))) (d : CohomologyData p) (z : PlacedCochain p) (values : List ℕ) (y : PlacedCochain p) (primitive : Option (PlacedCochain p)) → primitive ≡ Some y
    → ((full sub : List (List (List ℕ))) → IsCohomologyOfPair p full sub d → IsRelativeIn p full sub z → AreRelativeCoordinates p full sub (classes_in d.light z.degree) z values y)
    → IsCohomologyOf p ls d → IsClosedIn p ls z → IsColumnOf p true ls (classes_in d.light z.degree) z values primitive
full_column p ls d z values y primitive e tell are closed =
    let found = coordinates_absolute p ls (classes_in d.light z.degree) z values y closed (tell ls [] are.pair (relative_of p ls z closed)) in
    subst (λ (o : Option (PlacedCochain p)). IsColumnOf p true ls (classes_in d.light z.degree) z values o) (sym e) (record { coordinates = found.coordinates; primitive_of = (refl, found.primitive_of) })

-- Where the subcomplex has no facet, relative notions are absolute ones; and degrees without a simplex.
use Rattle.std.proofs.Common.{◌≡◌, ◌↔◌, ℕ, ◌+◌, List, [], ◌∷◌, length, map, refl, arith}
use Rattle.linear_law.proofs.Names.{each_map, zip_change}
use Rattle.linear_law.specs.Names.{negated, IsCoordinates, IsCanonical, IsPivot, combination}
use Rattle.simplicial_law.specs.Names.{IsCanonicalModulo, IsCanonicalBasisModulo, cochain_of, Chain, Cochain, IsBasisModulo, IsCoboundary, IsCocycle, IsSimplex, Precedes}
use Rattle.relative_law.proofs.Spaces.{forget_bound, zero_bound}
use Rattle.relative_law.specs.Names.{AbsoluteLaw, NoSimplexLaw, IsRelativeBasis, IsRelativeCoboundary, IsRelativeCocycle}

-- ---- cocycles and coboundaries of two kinds that are the same cochains

abbrev AreSame : (Cochain → Type 0) → (Cochain → Type 0) → Type 0
AreSame M N = (v : Cochain) → M v ↔ N v

turned : {M N : Cochain → Type 0} → AreSame M N → AreSame N M
turned same v = ((same v).1, (same v).0)

module _ {p : ℕ} {On : List ℕ → Type 0} {M N : Cochain → Type 0} (same : AreSame M N) where
  pivot_to : (x : List ℕ) → IsPivot p On Precedes M x → IsPivot p On Precedes N x
  pivot_to x h = record { vector = h.vector; member = (same h.vector).0 h.member; lead = h.lead }

  pivot_from : (x : List ℕ) → IsPivot p On Precedes N x → IsPivot p On Precedes M x
  pivot_from x h = record { vector = h.vector; member = (same h.vector).1 h.member; lead = h.lead }

  canonical_to : (x : List ℕ) (v : Cochain) → IsCanonical p On Precedes M x v → IsCanonical p On Precedes N x v
  canonical_to x v h = record { pivot = pivot_to x h.pivot; member = (same v).0 h.member; one = h.one; others = λ y q m. h.others y (pivot_from y q) m }

coordinates_to : {p : ℕ} {B C : Cochain → Type 0} → AreSame B C → (zs : List Cochain) (z : Cochain) (cs : List ℕ) → IsCoordinates p B zs z cs → IsCoordinates p C zs z cs
coordinates_to {p} same zs z cs h = record { count = h.count; small = h.small; rest = (same (λ s. z s + negated p (combination cs zs s))).0 h.rest }

module _ {p : ℕ} {Z B Y C : Cochain → Type 0} (closed : AreSame Z Y) (bound : AreSame B C) where
  basis_to : (zs : List Cochain) → IsBasisModulo p Z B zs → IsBasisModulo p Y C zs
  basis_to zs h = record {
    cocycles = each_map (λ v. (closed v).0) zs h.cocycles;
    coordinates = λ z m. (let k = h.coordinates z ((closed z).1 m) in (k.0, coordinates_to bound zs z k.0 k.1));
    only = λ z cs ds m a b. h.only z cs ds ((closed z).1 m) (coordinates_to (turned bound) zs z cs a) (coordinates_to (turned bound) zs z ds b);
  }

  canonical_basis_to : (facets : List (List ℕ)) (n : ℕ) (classes : List Chain) → IsCanonicalBasisModulo facets n p Z B classes → IsCanonicalBasisModulo facets n p Y C classes
  canonical_basis_to facets n classes h = record {
    canonical = record {
      pivots = h.canonical.pivots;
      in_order = h.canonical.in_order;
      all = λ s q none. h.canonical.all s (pivot_from closed s q) (λ b. none (pivot_to bound s b));
      canonical = zip_change (λ s terms. IsCanonicalModulo facets n p Z B s (cochain_of terms)) (λ s terms. IsCanonicalModulo facets n p Y C s (cochain_of terms))
          (λ s terms k. record { canonical = canonical_to closed s (cochain_of terms) k.canonical; no_bound = λ q. k.no_bound (pivot_from bound s q) })
          h.canonical.pivots classes h.canonical.canonical;
      terms = h.canonical.terms;
    };
    basis = basis_to (map cochain_of classes) h.basis;
  }

-- ---- no subcomplex

nowhere : (n : ℕ) (s : List ℕ) → IsSimplex [] n s → ⊥
nowhere n s h = elim h.listed [ ]

module _ (facets : List (List ℕ)) (n p : ℕ) where
  cocycles_same : AreSame (IsRelativeCocycle facets [] n p) (IsCocycle facets n p)
  cocycles_same z = ((λ h. h.closed), (λ h. record { relative = record { at = λ s on. absurd (nowhere n s on) }; closed = h }))

  coboundaries_same : AreSame (IsRelativeCoboundary facets [] n p) (IsCoboundary facets n p)
  coboundaries_same z = (forget_bound facets [] n p z, λ h. record { below = h.below; nothing = h.nothing; relative = λ m e. record { at = λ s on. absurd (nowhere m s on) }; same = h.same })

pub absolute_law : AbsoluteLaw
absolute_law = record {
  cocycles = cocycles_same;
  coboundaries = coboundaries_same;
  coordinates = λ facets n p zs z cs. (coordinates_to (coboundaries_same facets n p) zs z cs, coordinates_to (turned (coboundaries_same facets n p)) zs z cs);
  bases = λ facets n p zs. (
    basis_to (cocycles_same facets n p) (coboundaries_same facets n p) zs,
    basis_to (turned (cocycles_same facets n p)) (turned (coboundaries_same facets n p)) zs,
  );
  cocycle_pivots = λ facets n p s. (pivot_to (cocycles_same facets n p) s, pivot_from (cocycles_same facets n p) s);
  coboundary_pivots = λ facets n p s. (pivot_to (coboundaries_same facets n p) s, pivot_from (coboundaries_same facets n p) s);
  canonical_coboundaries = λ facets n p t b. (canonical_to (coboundaries_same facets n p) t b, canonical_to (turned (coboundaries_same facets n p)) t b);
  canonical_primitives = λ facets n p z y. (
    λ h. record { same = h.same; vanishes = λ s q. h.vanishes s (pivot_from (cocycles_same facets n p) s q) },
    λ h. record {
      same = h.same;
      relative = record { at = λ s on. absurd (nowhere n s on) };
      vanishes = λ s q. h.vanishes s (pivot_to (cocycles_same facets n p) s q);
    },
  );
  canonical_bases = λ facets n p classes. (
    canonical_basis_to (cocycles_same facets n p) (coboundaries_same facets n p) facets n classes,
    canonical_basis_to (turned (cocycles_same facets n p)) (turned (coboundaries_same facets n p)) facets n classes,
  );
}

-- ---- no simplex

one_empty : (cs ds : List ℕ) → length cs ≡ 0 → length ds ≡ 0 → cs ≡ ds
one_empty [] [] a b = refl
one_empty [] (d ∷ ds) a b = absurd (omega arith)
one_empty (c ∷ cs) ds a b = absurd (omega arith)

no_simplex_relative : (facets sub : List (List ℕ)) (n p : ℕ) → ((s : List ℕ) → IsSimplex facets n s → ⊥) → IsRelativeBasis facets sub n p []
no_simplex_relative facets sub n p none = record {
  cocycles = tt;
  coordinates = λ z m. ([], record { count = refl; small = tt; rest = zero_bound facets sub n p (λ s. z s + negated p 0) (record { at = λ s on. absurd (none s on) }) });
  only = λ z cs ds m a b. one_empty cs ds a.count b.count;
}

pub no_simplex_law : NoSimplexLaw
no_simplex_law = record {
  relative = no_simplex_relative;
  absolute = λ facets n p none. (absolute_law.bases facets n p []).0 (no_simplex_relative facets [] n p none);
}

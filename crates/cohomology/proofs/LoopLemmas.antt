-- Lists by degree that a loop makes, and what they have of a degree.
use Rattle.std.proofs.Common.{◌≡◌, ℕ, zero, suc, ◌+◌, ◌<◌, ◌≤◌, ◌^◌, List, [], ◌∷◌, ◌++◌, length, get_or, arith, lit<, refl, sym, ap, subst, ◌∙◌, inl, inr}
use Rattle.cohomology.{proofs.Below.{cases_lt, get_or_past, length_push, IsSimplex, IsIndexOf, level, absolute_law, no_simplex_law}, specs.Names.{DegreeClasses, AreCanonicalIn, AreRelativeIn, EachFrom, chains_at, in_degree, AreClassesOf, AreClassesOfPair, AreDualClasses, AreFewClasses, classes_in}, proofs.WalkLemmas.pair_with_nothing}
use Rattle.complex_index.specs.declared.indexed.Cochain.{Cochain}

-- ---- lists by degree

-- the data of the degrees below n
pub record AreMade {D : Type 0} (P : ℕ → D → Type 0) (n : ℕ) (ds : List D) : Type 0 where
  pub count : length ds ≡ n
  pub each : EachFrom P 0 ds

module _ {D : Type 0} (P : ℕ → D → Type 0) where
  more_from : (n m : ℕ) (ds : List D) (d : D) → n + length ds ≡ m → EachFrom P n ds → P m d → EachFrom P n (ds ++ (d ∷ []))
  more_from n m [] d e h k = (subst (λ i. P i d) (let q : m ≡ n = omega arith in q) k, tt)
  more_from n m (c ∷ ds) d e h k = (h.0, more_from (suc n) m ds d (omega arith) h.1 k)

  pub made_start : (ds : List D) → ds ≡ [] → AreMade P 0 ds
  made_start ds e = subst (AreMade P 0) (sym e) (record { count = refl; each = tt })

  pub made_more : (n : ℕ) (ds more : List D) (d : D) → more ≡ ds ++ (d ∷ []) → AreMade P n ds → P n d → AreMade P (n + 1) more
  made_more n ds more d e h k = subst (AreMade P (n + 1)) (sym e) (record {
    count = length_push ds d ∙ ap (λ m. m + 1) h.count;
    each = more_from 0 n ds d (let c = h.count in omega arith) h.each k;
  })

  module _ {X Y : Type 0} (f : D → List X) (g : D → List Y) (R : ℕ → List X → List Y → Type 0) (have : (m : ℕ) (d : D) → P m d → R m (f d) (g d)) where
    in_from : (n : ℕ) (ds : List D) → EachFrom P n ds → ((m : ℕ) → n + length ds ≤ m → R m [] []) → (k m : ℕ) → n + k ≡ m → R m (in_degree f ds k) (in_degree g ds k)
    in_from n [] h past k m e = past m (omega arith)
    in_from n (d ∷ ds) h past zero m e = subst (λ i. R i (f d) (g d)) (let q : n ≡ m = omega arith in q) (have n d h.0)
    in_from n (d ∷ ds) h past (suc k) m e = in_from (suc n) ds h.1 (λ i b. past i (omega arith)) k m (omega arith)

    pub made_in : (n : ℕ) (ds : List D) → AreMade P n ds → ((m : ℕ) → n ≤ m → R m [] []) → (m : ℕ) → R m (in_degree f ds m) (in_degree g ds m)
    made_in n ds h past m = in_from 0 ds h.each (λ i b. past i (let c = h.count in omega (arith, b, c))) m m (omega arith)

-- ---- what a list has of a degree

module _ {D X : Type 0} (f : D → List X) where
  at_degree : (ds : List D) (n : ℕ) (d : D) → n < length ds → d ≡ get_or ds n d → f d ≡ in_degree f ds n
  at_degree [] n d b e = absurd (omega arith)
  at_degree (c ∷ ds) zero d b e = ap f e
  at_degree (c ∷ ds) (suc n) d b e = at_degree ds n d (omega arith) e

  past_degree : (ds : List D) (n : ℕ) → length ds ≤ n → [] ≡ in_degree f ds n
  past_degree [] n b = refl
  past_degree (c ∷ ds) zero b = absurd (omega arith)
  past_degree (c ∷ ds) (suc n) b = past_degree ds n (omega arith)

  pub found_in : (kept seen value : List D) (n : ℕ) (d : D) → seen ≡ kept → kept ≡ value → n < length seen → d ≡ get_or seen n d → f d ≡ in_degree f value n
  found_in kept seen value n d e h b l = at_degree seen n d b l ∙ ap (λ (ds : List D). in_degree f ds n) (e ∙ h)

  pub none_in : (kept seen value : List D) (n : ℕ) → seen ≡ kept → kept ≡ value → length seen ≤ n → [] ≡ in_degree f value n
  none_in kept seen value n e h b = past_degree seen n b ∙ ap (λ (ds : List D). in_degree f ds n) (e ∙ h)

-- ---- past the dimension

level_inside : (ls : List (List (List ℕ))) (n k : ℕ) → k < length (level ls n) → n < length ls
level_inside ls n k b = elim (cases_lt n (length ls)) [ inl l ↦ l | inr g ↦ absurd (omega (arith, b, ap length (get_or_past ls n [] g))) ]

pub no_simplex : (facets : List (List ℕ)) (ls : List (List (List ℕ))) (n : ℕ) → length ls ≤ n → IsIndexOf facets ls → (s : List ℕ) → IsSimplex facets n s → ⊥
no_simplex facets ls n past is s on = let q = (is.lists n).whole s on in let c = level_inside ls n q.0 q.1 in absurd (omega arith)

duals_past : (p : ℕ) (full sub : List (List (List ℕ))) (n : ℕ) → length full ≤ n → AreDualClasses p full sub n [] []
duals_past p full sub n past = record {
  relative = record {
    placed = tt;
    few = lit< tt;
    basis = λ facets parts is.
        let none = no_simplex facets full n past is.full_index in
        record {
          canonical = record { pivots = []; in_order = λ j k a b. absurd (omega arith); all = λ s q m. absurd (none s q.lead.on); canonical = tt; terms = tt };
          basis = no_simplex_law.relative facets parts n p none;
        };
  };
  whole = ap (λ (l : List (List ℕ)). length l) (sym (get_or_past full n [] past));
  few = lit< tt;
  cycles = λ facets parts is. record {
    coboundaries = λ i b f h. absurd (omega arith);
    dual = λ i j c b e. absurd (omega arith);
    decide = λ k b. absurd (let c = level_inside full n k b in omega arith);
    free = λ i k c s e h b no. absurd (let c = level_inside full n k b in omega arith);
  };
}

-- ---- the classes of a pair

abbrev pub IsFound : (p : ℕ) → List (List (List ℕ)) → List (List (List ℕ)) → ℕ → DegreeClasses p → Type 0
IsFound p full sub n d = AreDualClasses p full sub n d.classes.items d.table.items

pub classes_all : (p : ℕ) (full sub : List (List (List ℕ))) (degree : ℕ) (made : List (DegreeClasses p)) → degree ≡ length full → AreMade (IsFound p full sub) degree made → AreClassesOfPair p full sub made
classes_all p full sub degree made e h = record {
  each =
      made_in (IsFound p full sub) (λ d. d.classes.items) (λ d. d.table.items) (AreDualClasses p full sub) (λ m d k. k) degree made h
      (λ m b. duals_past p full sub m (omega (arith, b, e)));
}

pub classes_few : (p : ℕ) (full sub : List (List (List ℕ))) (degree : ℕ) (made : List (DegreeClasses p)) → AreMade (IsFound p full sub) degree made → AreFewClasses made
classes_few p full sub degree made h =
    let few =
    made_in (IsFound p full sub) (λ d. d.classes.items) (λ d. d.table.items) (λ m cs t. (length cs < 2 ^ 32) × (length t < 2 ^ 32)) (λ m d k. (k.relative.few, k.few)) degree made h (λ m b. (lit< tt, lit< tt)) in
    record { classes = λ n. (few n).0; places = λ n. (few n).1 }

-- ---- the classes of a complex

pub absolute_in : (p : ℕ) (ls : List (List (List ℕ))) (n : ℕ) (classes : List (Cochain p)) → AreRelativeIn p ls [] n classes → AreCanonicalIn p ls n classes
absolute_in p ls n classes h = record {
  placed = h.placed;
  basis = λ facets is. (absolute_law.canonical_bases facets n p (chains_at (level ls n) classes)).0 (h.basis facets [] (pair_with_nothing facets ls is));
}

pub absolute_classes : (p : ℕ) (ls : List (List (List ℕ))) (degrees : List (DegreeClasses p)) → AreClassesOfPair p ls [] degrees → AreClassesOf p ls degrees
absolute_classes p ls degrees h = record { canonical = λ n. absolute_in p ls n (classes_in degrees n) (h.each n).relative; pair = h }

-- Lists that begin with a list stand together behind it, and the search for the first of them.
use Rattle.std.{proofs.Common.{◌≡◌, ℕ, ◌+◌, ◌<◌, ◌≤◌, inl, inr, arith, refl, sym, ◌∙◌, ap, subst, List, [], ◌∷◌, length, take, drop, get_or, Ordering, Less, Equal, Greater}, proofs.lemmas.Bool.cases_eq, proofs.lemmas.Map.Lookups.exact_unsigned, specs.Cmp.nat_cmp_is, specs.Cmp.Lexicographic.nat_list_cmp_total, specs.Ordering.{nat_cmp, ordering_then}}
use Rattle.simplicial_law.specs.Names.{simplex_cmp, IsInOrder}
use Rattle.may_steenrod.specs.Fronts.{IsFirstFrom}

-- a list that begins with f does not stand before f
pub not_before : (f v : List ℕ) → take (length f) v ≡ f → simplex_cmp v f ≡ Less → ⊥
not_before [] [] e l = cc
not_before [] (y ∷ v) e l = cc
not_before (x ∷ f) [] e l = cc
not_before (x ∷ f) (y ∷ v) e l =
    not_before f v (ap (drop 1) e) (sym (ap (λ (o : Ordering). ordering_then o (simplex_cmp v f)) (subst (λ z. nat_cmp y z ≡ Equal) (ap (λ (t : List ℕ). get_or t 0 0) e) (sym (nat_cmp_is y y Equal refl)))) ∙ l)

-- a list that does not stand before f, but before one that begins with f, begins with f
pub begins : (f v u : List ℕ) → (simplex_cmp v f ≡ Less → ⊥) → take (length f) u ≡ f → simplex_cmp v u ≡ Less → take (length f) v ≡ f
begins [] v u n e l = refl
begins (x ∷ f) [] u n e l = absurd (n refl)
begins (x ∷ f) (y ∷ v) [] n e l = cc
begins (x ∷ f) (y ∷ v) (z ∷ u) n e l =
    go (nat_cmp y x) refl (begins f v u) n (subst (λ w. ordering_then (nat_cmp y w) (simplex_cmp v u) ≡ Less) (ap (λ (t : List ℕ). get_or t 0 0) e) l) (ap (drop 1) e)
  where
    go : (o : Ordering) → nat_cmp y x ≡ o → ((simplex_cmp v f ≡ Less → ⊥) → take (length f) u ≡ f → simplex_cmp v u ≡ Less → take (length f) v ≡ f)
        → (ordering_then o (simplex_cmp v f) ≡ Less → ⊥) → ordering_then o (simplex_cmp v u) ≡ Less → take (length f) u ≡ f → y ∷ take (length f) v ≡ x ∷ f
    go Less q h n l e = absurd (n refl)
    go Greater q h n l e = cc
    go Equal q h n l e = let same : y ≡ x = exact_unsigned y x q in ap (λ w. w ∷ take (length f) v) same ∙ ap (λ (t : List ℕ). x ∷ t) (h n e l)

-- none of the lists below the first place begins with f
pub none_before : (ks : List (List ℕ)) (f : List ℕ) (k : ℕ) → IsFirstFrom ks f k → (i : ℕ) → i < k → take (length f) (get_or ks i []) ≡ f → ⊥
none_before ks f k first i h e = not_before f (get_or ks i []) e (first.before i h)

-- ---- the search

module _ (ks : List (List ℕ)) (s : List ℕ) where
  -- what the search knows: the lists before `low` stand before s, and those from `high` on do not
  pub record IsSplit (low high : ℕ) : Type 0 where
    pub ordered : low ≤ high
    pub within : high ≤ length ks
    pub behind : (k : ℕ) → k < low → simplex_cmp (get_or ks k []) s ≡ Less
    pub beyond : (k : ℕ) → high ≤ k → k < length ks → simplex_cmp (get_or ks k []) s ≡ Less → ⊥

  pub split-all : (n : ℕ) → n ≡ length ks → IsSplit 0 n
  split-all n e = record { ordered = omega arith; within = omega (arith, e); behind = λ k h. absurd (omega arith); beyond = λ k h l f. omega (arith, e) }

  -- the lists up to one that stands before s do so too
  less-up-to : (k m : ℕ) → IsInOrder ks → m < length ks → simplex_cmp (get_or ks m []) s ≡ Less → k ≤ m → simplex_cmp (get_or ks k []) s ≡ Less
  less-up-to k m o b e h = elim (cases_eq k m) [
    | inl q ↦ subst (λ (i : ℕ). simplex_cmp (get_or ks i []) s ≡ Less) (sym q) e
    | inr d ↦ nat_list_cmp_total.trans (get_or ks k []) (get_or ks m []) s (o k m (omega (arith, d)) b) e
  ]

  pub split-low : (low high middle : ℕ) → IsInOrder ks → IsSplit low high → middle < high → simplex_cmp (get_or ks middle []) s ≡ Less → IsSplit (middle + 1) high
  split-low low high middle o b h e = record {
    ordered = omega arith;
    within = b.within;
    behind = λ k l. less-up-to k middle o (let w = b.within in omega (arith, w)) e (omega arith);
    beyond = b.beyond;
  }

  pub split-high : (low high middle : ℕ) → IsInOrder ks → IsSplit low high → low ≤ middle → middle < high → (simplex_cmp (get_or ks middle []) s ≡ Less → ⊥) → IsSplit low middle
  split-high low high middle o b l h e = record {
    ordered = l;
    within = (let w = b.within in omega (arith, w));
    behind = b.behind;
    beyond = λ k m n f. e (less-up-to middle k o n f m);
  }

  pub split-first : (low high : ℕ) → IsSplit low high → high ≤ low → IsFirstFrom ks s low
  split-first low high b h = record { within = (let w = b.within in let o = b.ordered in omega (arith, w, o)); before = b.behind; from = λ i k. b.beyond i (omega arith) }

-- The non-empty sublists of a list, and of the list without one element.
use Rattle.std.proofs.Common.{◌≡◌, ℕ, zero, suc, ◌<◌, ◌⊎◌, inl, inr, arith, refl, sym, ◌∙◌, ap, subst, List, [], ◌∷◌, ◌++◌, map, length}
use Rattle.linear_law.specs.Names.{Among}
use Rattle.linear_law.proofs.Names.{among_left, among_map, among_right}
use Rattle.simplicial_law.specs.Names.{sublists}

-- the list without its i-th element
abbrev pub without : ℕ → List ℕ → List ℕ
without i [] = []
without zero (v ∷ vs) = vs
without (suc i) (v ∷ vs) = v ∷ without i vs

pub of_map : {X R : Type 0} (f : R → X) (x : X) (rs : List R) → Among x (map f rs) → (r : R) × (Among r rs × (f r ≡ x))
of_map f x [] m = elim m [ ]
of_map f x (s ∷ rs) m = elim m [ inl e ↦ (s, (inl refl, e)) | inr k ↦ let h = of_map f x rs k in (h.0, (inr h.1.0, h.1.1)) ]

pub of_append : {X : Type 0} (x : X) (xs ys : List X) → Among x (xs ++ ys) → Among x xs ⊎ Among x ys
of_append x [] ys m = inr m
of_append x (z ∷ xs) ys m = elim m [ inl e ↦ inl (inl e) | inr k ↦ elim (of_append x xs ys k) [ inl a ↦ inl (inr a) | inr b ↦ inr b ] ]

-- a sublist of (v ∷ vs) is [v], or v with a sublist of vs, or a sublist of vs
pub sublists_cases : (v : ℕ) (vs t : List ℕ) (G : Type 0) → Among t (sublists (v ∷ vs)) → (v ∷ [] ≡ t → G) → ((r : List ℕ) → Among r (sublists vs) → v ∷ r ≡ t → G) → (Among t (sublists vs) → G) → G
sublists_cases v vs t G m a b c = elim m [
  | inl e ↦ a e
  | inr n ↦ elim (of_append t (map (λ r. v ∷ r) (sublists vs)) (sublists vs) n) [
    | inl p ↦ let h = of_map (λ r. v ∷ r) t (sublists vs) p in b h.0 h.1.0 h.1.1
    | inr q ↦ c q
  ]
]

pub sublist_first : (v : ℕ) (vs : List ℕ) → Among (v ∷ []) (sublists (v ∷ vs))
sublist_first v vs = inl refl

pub sublist_with : (v : ℕ) (vs r : List ℕ) → Among r (sublists vs) → Among (v ∷ r) (sublists (v ∷ vs))
sublist_with v vs r m = inr (among_left (v ∷ r) (map (λ t. v ∷ t) (sublists vs)) (sublists vs) (among_map (λ t. v ∷ t) r (v ∷ r) (sublists vs) m refl))

pub sublist_of_rest : (v : ℕ) (vs t : List ℕ) → Among t (sublists vs) → Among t (sublists (v ∷ vs))
sublist_of_rest v vs t m = inr (among_right t (map (λ r. v ∷ r) (sublists vs)) (sublists vs) m)

-- a non-empty list is one of its sublists
pub sublist_whole : (v : ℕ) (vs : List ℕ) → Among (v ∷ vs) (sublists (v ∷ vs))
sublist_whole v [] = inl refl
sublist_whole v (w ∷ vs) = sublist_with v (w ∷ vs) (w ∷ vs) (sublist_whole w vs)

-- a sublist of the list without an element is a sublist of the list
pub sublists_without : (i : ℕ) (s t : List ℕ) → Among t (sublists (without i s)) → Among t (sublists s)
sublists_without i [] t m = m
sublists_without zero (v ∷ vs) t m = sublist_of_rest v vs t m
sublists_without (suc i) (v ∷ vs) t m = sublists_cases v (without i vs) t (Among t (sublists (v ∷ vs))) m
    (λ e. subst (λ (u : List ℕ). Among u (sublists (v ∷ vs))) e (sublist_first v vs))
    (λ r n e. subst (λ (u : List ℕ). Among u (sublists (v ∷ vs))) e (sublist_with v vs r (sublists_without i vs r n)))
    (λ n. sublist_of_rest v vs t (sublists_without i vs t n))

-- a sublist is the whole list, or a sublist of it without some element
pub sublist_whole_or_less : (s t : List ℕ) → Among t (sublists s) → (s ≡ t) ⊎ ((i : ℕ) × ((i < length s) × Among t (sublists (without i s))))
sublist_whole_or_less [] t m = elim m [ ]
sublist_whole_or_less (v ∷ []) t m = sublists_cases v [] t ((v ∷ [] ≡ t) ⊎ ((i : ℕ) × ((i < 1) × Among t (sublists (without i (v ∷ [])))))) m
    (λ e. inl e) (λ r n e. absurd n) (λ n. absurd n)
sublist_whole_or_less (v ∷ (w ∷ ws)) t m = sublists_cases v (w ∷ ws) t ((v ∷ (w ∷ ws) ≡ t) ⊎ ((i : ℕ) × ((i < length (v ∷ (w ∷ ws))) × Among t (sublists (without i (v ∷ (w ∷ ws))))))) m
    (λ e. inr (1, (omega arith, subst (λ (u : List ℕ). Among u (sublists (without 1 (v ∷ (w ∷ ws))))) e (sublist_first v ws))))
    (λ r n e. elim (sublist_whole_or_less (w ∷ ws) r n) [
      | inl q ↦ inl (ap (λ u. v ∷ u) q ∙ e)
      | inr h ↦ inr (suc h.0, (omega (arith, h.1.0), subst (λ (u : List ℕ). Among u (sublists (without (suc h.0) (v ∷ (w ∷ ws))))) e (sublist_with v (without h.0 (w ∷ ws)) r h.1.1)))
    ])
    (λ n. inr (0, (omega arith, n)))

-- sublists of sublists
pub sublists_twice : (f s t : List ℕ) → Among s (sublists f) → Among t (sublists s) → Among t (sublists f)
sublists_twice [] s t m n = elim m [ ]
sublists_twice (v ∷ vs) s t m n = sublists_cases v vs s (Among t (sublists (v ∷ vs))) m
    (λ e. subst (λ (u : List ℕ). Among u (sublists (v ∷ vs))) (single v t (subst (λ (u : List ℕ). Among t (sublists u)) (sym e) n)) (sublist_first v vs))
    (λ r p e. deeper v vs r t p (sublists_twice vs r) (subst (λ (u : List ℕ). Among t (sublists u)) (sym e) n))
    (λ p. sublist_of_rest v vs t (sublists_twice vs s t p n))
  where
    single : (v : ℕ) (t : List ℕ) → Among t (sublists (v ∷ [])) → v ∷ [] ≡ t
    single v t m = elim m [ inl e ↦ e | inr n ↦ elim n [ ] ]

    deeper : (v : ℕ) (vs r t : List ℕ) → Among r (sublists vs) → ((u : List ℕ) → Among r (sublists vs) → Among u (sublists r) → Among u (sublists vs)) → Among t (sublists (v ∷ r)) → Among t (sublists (v ∷ vs))
    deeper v vs r t p later n = sublists_cases v r t (Among t (sublists (v ∷ vs))) n
        (λ e. subst (λ (u : List ℕ). Among u (sublists (v ∷ vs))) e (sublist_first v vs))
        (λ u q e. subst (λ (u : List ℕ). Among u (sublists (v ∷ vs))) e (sublist_with v vs u (later u p q)))
        (λ q. sublist_of_rest v vs t (later t p q))

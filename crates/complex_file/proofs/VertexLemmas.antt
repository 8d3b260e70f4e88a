-- The vertices of a complex are its simplices of one vertex.
use Rattle.std.{proofs.Common.{◌≡◌, ◌⊎◌, inl, inr, ◌||◌, List, [], ◌∷◌, ℕ, Bool, true, false, refl, sym, ap, subst, nat_eq, arith, eqb-true}, specs.List.list_any, specs.Str.bytes_eq, proofs.lemmas.Bool.{and_from, and_parts}, proofs.lemmas.Bool.Decides.nat_tests}
use Rattle.linear_law.specs.Names.{Among}
use Rattle.simplicial_law.{specs.ListedSimplices.simplices, specs.Names.sublists, proofs.Names.{all_put, each_of, of_all, sublists_keep, sublist_of_rest}}
use Rattle.complex_file.specs.Names.{has_vertex, is_vertex}

same_tests : (a b : Bool) → (a ≡ true → b ≡ true) → (b ≡ true → a ≡ true) → a ≡ b
same_tests true b to back = sym (to refl)
same_tests false true to back = back refl
same_tests false false to back = refl

or_cases : (a b : Bool) → (a || b) ≡ true → (a ≡ true) ⊎ (b ≡ true)
or_cases true b h = inl refl
or_cases false b h = inr h

or_left : (a b : Bool) → a ≡ true → (a || b) ≡ true
or_left a b h = rw h refl

or_right : (a b : Bool) → b ≡ true → (a || b) ≡ true
or_right true b h = refl
or_right false b h = h

found_by : {X : Type 0} (p : X → Bool) (xs : List X) → list_any p xs ≡ true → (x : X) × (Among x xs × (p x ≡ true))
found_by p [] h = absurd cc
found_by p (x ∷ xs) h = elim (or_cases (p x) (list_any p xs) h) [
  | inl e ↦ (x, (inl refl, e))
  | inr r ↦ let g = found_by p xs r in (g.0, (inr g.1.0, g.1.1))
]

finds : {X : Type 0} (p : X → Bool) (xs : List X) (x : X) → Among x xs → p x ≡ true → list_any p xs ≡ true
finds p [] x m h = elim m [ ]
finds p (y ∷ ys) x m h = elim m [
  | inl e ↦ or_left (p y) (list_any p ys) (subst (λ z. p z ≡ true) (sym e) h)
  | inr n ↦ or_right (p y) (list_any p ys) (finds p ys x n h)
]

same_vertex : (v : ℕ) → nat_eq v v ≡ true
same_vertex v = grind (arith, nat_tests)

vertex_same : (v : ℕ) (s : List ℕ) → bytes_eq (v ∷ []) s ≡ true → s ≡ v ∷ []
vertex_same v [] h = absurd cc
vertex_same v (x ∷ []) h = ap (λ (w : ℕ). w ∷ []) (sym (eqb-true v x (and_parts (nat_eq v x) true h).0))
vertex_same v (x ∷ y ∷ ys) h = let parts = and_parts (nat_eq v x) false h in absurd cc

vertex_among : (f : List ℕ) (v : ℕ) → has_vertex f v ≡ true → Among v f
vertex_among f v h =
    let g = found_by (λ (w : ℕ). nat_eq v w) f h in subst (λ (w : ℕ). Among w f) (sym (eqb-true v g.0 g.1.1)) g.1.0

single_among : (f : List ℕ) (v : ℕ) → Among v f → Among (v ∷ []) (sublists f)
single_among [] v m = elim m [ ]
single_among (w ∷ ws) v m = elim m [
  | inl e ↦ inl (ap (λ (u : ℕ). u ∷ []) e)
  | inr n ↦ sublist_of_rest w ws (v ∷ []) (single_among ws v n)
]

single_of : (f : List ℕ) (v : ℕ) → Among (v ∷ []) (sublists f) → has_vertex f v ≡ true
single_of f v m =
    (sublists_keep (λ (w : ℕ). has_vertex f w ≡ true) f (v ∷ [])
    (each_of (λ (w : ℕ). has_vertex f w ≡ true) f (λ w n. finds (λ (u : ℕ). nat_eq w u) f w n (same_vertex w))) m).0

listed_is : (facets : List (List ℕ)) (v : ℕ) → Among (v ∷ []) (simplices facets) → is_vertex facets v ≡ true
unfolding simplices
listed_is facets v m = elim (of_all facets [] (v ∷ []) m) [
  | inl n ↦ elim n [ ]
  | inr k ↦ finds (λ f. has_vertex f v) facets k.0 k.1.0 (single_of k.0 v k.1.1)
]

is_listed : (facets : List (List ℕ)) (f : List ℕ) (v : ℕ) → Among f facets → Among v f → Among (v ∷ []) (simplices facets)
unfolding simplices
is_listed facets f v m n = all_put facets [] f (v ∷ []) m (single_among f v n)

pub vertex_listed : (facets : List (List ℕ)) (v : ℕ) → list_any (bytes_eq (v ∷ [])) (simplices facets) ≡ is_vertex facets v
vertex_listed facets v = same_tests (list_any (bytes_eq (v ∷ [])) (simplices facets)) (is_vertex facets v)
    (λ h. let g = found_by (bytes_eq (v ∷ [])) (simplices facets) h in
    listed_is facets v (subst (λ (s : List ℕ). Among s (simplices facets)) (vertex_same v g.0 g.1.1) g.1.0))
    (λ h. let g = found_by (λ f. has_vertex f v) facets h in
    finds (bytes_eq (v ∷ [])) (simplices facets) (v ∷ []) (is_listed facets g.0 v g.1.0 (vertex_among g.0 v g.1.1)) (and_from (nat_eq v v) true (same_vertex v) refl))

-- Maps of vertices, and the values of pull-backs.
use Rattle.std.{proofs.Common.{◌≡◌, ℕ, zero, suc, ◌+◌, ◌*◌, ◌<◌, ◌≤◌, inl, inr, arith, refl, sym, ◌∙◌, ap, ap₂, subst, List, [], ◌∷◌, ◌++◌, map, length, take, get_or, max, Bool, true, false, cond, eqb, slice_set, eq-eqb, get_or-set_other, get_or-set_same}, proofs.lemmas.Bool.Decides.eqb_tells, proofs.lemmas.List.take_more, proofs.lemmas.List.Sums.fold_more, specs.List.Sorted.IsStrictlySortedBy}
use Rattle.signed_sum.specs.Names.{is_degenerate}
use Rattle.linear_law.{specs.Names.{Among, Each, IsAscending, unit_vector}, proofs.Names.{Congruent_of, each_get_or, each_map, each_push}}
use Rattle.simplicial_law.{specs.Names.{unit_cochain, cochain_of, simplex_cmp, terms_of}, proofs.Names.unit_away}
use Rattle.steenrod_law.{specs.Names.pull_back, proofs.Complexes.ascending-plain}
use Rattle.sparse_rows.{specs.Rows.{IsBelow, value_in}, proofs.RowLemmas.value_in-past}
use Rattle.simplex_set.proofs.Sizes.{among_place}
use Rattle.complex_index.{specs.Names.{level, IsPullBackOf, image_of}, proofs.Alternating.{pair_value, unit_at_place}}

-- ---- images

pub past_more : (sends : List (ℕ × ℕ)) (i m n : ℕ) (s : ℕ × ℕ) → i < length sends → s ≡ get_or sends i s → n ≡ max m (s.0 + 1) → Each (λ t. t.0 < m) (take i sends) → Each (λ t. t.0 < n) (take (i + 1) sends)
past_more sends i m n s l e q h =
    subst (Each (λ t. t.0 < n)) (sym (take_more sends i s l ∙ ap (λ (t : ℕ × ℕ). take i sends ++ t ∷ []) (sym e)))
    (each_push (λ t. t.0 < n) (take i sends) s (each_map (λ t b. omega (arith, b, q)) (take i sends) h) (omega (arith, q)))

pub zero_push : (xs : List ℕ) → ((k : ℕ) → get_or xs k 0 ≡ 0) → (k : ℕ) → get_or (xs ++ 0 ∷ []) k 0 ≡ 0
zero_push [] h zero = refl
zero_push [] h (suc k) = refl
zero_push (x ∷ xs) h zero = h zero
zero_push (x ∷ xs) h (suc k) = zero_push xs (λ j. h (suc j)) k

pub past_zero : (xs : List ℕ) (k : ℕ) → length xs ≤ k → get_or xs k 0 ≡ 0
past_zero [] k h = refl
past_zero (x ∷ xs) zero h = absurd (omega arith)
past_zero (x ∷ xs) (suc k) h = past_zero xs k (omega arith)

sent_now : (xs : List ℕ) (k x v : ℕ) → k < length xs → get_or (slice_set xs k x) v 0 ≡ cond (eqb k v) x (get_or xs v 0)
sent_now xs k x v h = elim (eqb_tells k v) [
  | inl e ↦ ap (λ (n : ℕ). get_or (slice_set xs k x) n 0) (sym e.1) ∙ get_or-set_same xs k x 0 h ∙ sym (ap (λ (b : Bool). cond b x (get_or xs v 0)) e.0)
  | inr n ↦ get_or-set_other xs k v x 0 (λ e. n.1 (sym e)) ∙ sym (ap (λ (b : Bool). cond b x (get_or xs v 0)) n.0)
]

pub one_more_sent : (sends : List (ℕ × ℕ)) (i : ℕ) (s : ℕ × ℕ) (xs ns : List ℕ) → i < length sends → s ≡ get_or sends i s → s.0 < length xs → ns ≡ slice_set xs s.0 s.1
    → ((v : ℕ) → get_or xs v 0 ≡ image_of (take i sends) v) → (v : ℕ) → get_or ns v 0 ≡ image_of (take (i + 1) sends) v
one_more_sent sends i s xs ns l e b q h v =
    ap (λ (ys : List ℕ). get_or ys v 0) q ∙ sent_now xs s.0 s.1 v b
    ∙ ap (λ (n : ℕ). cond (eqb s.0 v) s.1 n) (h v)
    ∙ ap (λ (t : ℕ × ℕ). cond (eqb t.0 v) t.1 (image_of (take i sends) v)) e
    ∙ sym (fold_more (λ (w : ℕ) (t : ℕ × ℕ). cond (eqb t.0 v) t.1 w) 0 sends i s l)

pub sent_inside : (sends : List (ℕ × ℕ)) (i n : ℕ) (s : ℕ × ℕ) → i < length sends → s ≡ get_or sends i s → Each (λ t. t.0 < n) sends → s.0 < n
sent_inside sends i n s l e h = subst (λ (t : ℕ × ℕ). t.0 < n) (sym e) (each_get_or (λ t. t.0 < n) sends i s l h)

-- ---- the value of a row at a simplex

placed_value : (ks : List (List ℕ)) (row : List (ℕ × ℕ)) (q : ℕ) → IsStrictlySortedBy simplex_cmp ks → IsBelow (length ks) row → q < length ks → cochain_of (terms_of ks row) (get_or ks q []) ≡ value_in row q
placed_value ks [] q o b l = refl
placed_value ks (e ∷ es) q o b l =
    ap₂ (λ m n. m + n) (sym (unit_at_place ks e.0 q e.1 o b.0 l) ∙ ap (λ (t : Bool). cond t e.1 0) (flipped q e.0) ∙ pair_value e.0 e.1 q) (placed_value ks es q o b.1 l)
  where
    flipped : (a c : ℕ) → eqb a c ≡ eqb c a
    flipped a c = elim (eqb_tells a c) [
      | inl h ↦ h.0 ∙ sym (eq-eqb c a (sym h.1))
      | inr h ↦ h.0 ∙ sym (elim (eqb_tells c a) [ inl k ↦ absurd (h.1 (sym k.1)) | inr k ↦ k.0 ])
    ]

absent_value : (ks : List (List ℕ)) (row : List (ℕ × ℕ)) (t : List ℕ) → IsBelow (length ks) row → (Among t ks → ⊥) → cochain_of (terms_of ks row) t ≡ 0
absent_value ks [] t b n = refl
absent_value ks (e ∷ es) t b n =
    let u : unit_cochain (get_or ks e.0 []) t ≡ 0 = unit_away (get_or ks e.0 []) t (λ q. n (subst (λ (s : List ℕ). Among s ks) q (among_place ks e.0 [] b.0))) in
    omega (arith, ap (λ m. e.1 * m) u, absent_value ks es t b.1 n)

nothing_behind : (xs : List ℕ) → xs ++ [] ≡ xs
nothing_behind [] = refl
nothing_behind (x ∷ xs) = ap (λ ys. x ∷ ys) (nothing_behind xs)

pub pulled_there : (f : ℕ → ℕ) (ks : List (List ℕ)) (row : List (ℕ × ℕ)) (s image : List ℕ) (k : ℕ) → IsStrictlySortedBy simplex_cmp ks → Each IsAscending ks → IsBelow (length ks) row
    → image ≡ map f s → k < length ks → get_or ks k [] ≡ image ++ [] → value_in row k ≡ pull_back f (cochain_of (terms_of ks row)) s
pulled_there f ks row s image k o a b e l q =
    let here : get_or ks k [] ≡ map f s = q ∙ nothing_behind image ∙ e in
    let plain : is_degenerate (map f s) ≡ false = subst (λ (t : List ℕ). is_degenerate t ≡ false) here (ascending-plain (get_or ks k []) (each_get_or IsAscending ks k [] l a)) in
    sym (placed_value ks row k o b l) ∙ ap (cochain_of (terms_of ks row)) here ∙ sym (ap (λ (t : Bool). cond t 0 (cochain_of (terms_of ks row) (map f s))) plain)

pub pulled_away : (f : ℕ → ℕ) (ks : List (List ℕ)) (row : List (ℕ × ℕ)) (s image : List ℕ) → IsBelow (length ks) row → image ≡ map f s → (Among (image ++ []) ks → ⊥) → pull_back f (cochain_of (terms_of ks row)) s ≡ 0
pulled_away f ks row s image b e n = go (is_degenerate (map f s)) (cochain_of (terms_of ks row) (map f s)) (absent_value ks row (map f s) b (λ m. n (subst (λ (t : List ℕ). Among t ks) (sym (nothing_behind image ∙ e)) m)))
  where
    go : (t : Bool) (v : ℕ) → v ≡ 0 → cond t 0 v ≡ 0
    go true v h = refl
    go false v h = h

-- ---- the row of a pull-back

pub one_more_value : (w : ℕ → ℕ) (i v : ℕ) (old new : List (ℕ × ℕ)) → IsBelow i old → v ≡ w i → ((k : ℕ) → value_in new k ≡ value_in old k + v * unit_vector i k)
    → ((k : ℕ) → k < i → value_in old k ≡ w k) → (k : ℕ) → k < i + 1 → value_in new k ≡ w k
one_more_value w i v old new b e s h k l = elim (eqb_tells i k) [
  | inl q ↦ (let z : cond (eqb i k) v 0 ≡ v = ap (λ (t : Bool). cond t v 0) q.0 in
      omega (arith, s k, value_in-past i k old b (omega (arith, q.1)), sym (pair_value i v k), z, e, ap w q.1))
  | inr q ↦ (let z : cond (eqb i k) v 0 ≡ 0 = ap (λ (t : Bool). cond t v 0) q.0 in
      omega (arith, s k, h k (omega (arith, l, q.1)), sym (pair_value i v k), z))
]

either_zero : (t : Bool) (u v : ℕ) → u ≡ 0 → v ≡ 0 → u ≡ cond t 0 v
either_zero true u v e f = e
either_zero false u v e f = e ∙ sym f

pub nothing_pulled : (p : ℕ) (f : ℕ → ℕ) (from to : List (List (List ℕ))) (n : ℕ) (high row : List (ℕ × ℕ)) → level to n ≡ [] → IsBelow (length (level to n)) high → row ≡ [] → IsPullBackOf p f from to n high row
nothing_pulled p f from to n [] row e b q = subst (IsPullBackOf p f from to n []) (sym q) (record {
  inside = tt;
  values = λ k l. Congruent_of (either_zero (is_degenerate (map f (get_or (level from n) k []))) (value_in [] k) (cochain_of (terms_of (level to n) []) (map f (get_or (level from n) k []))) refl refl);
})
nothing_pulled p f from to n (h ∷ hs) row e b q = absurd (omega (arith, b.0, ap length e))

pub all_pulled : (p : ℕ) (f : ℕ → ℕ) (from to : List (List (List ℕ))) (n i : ℕ) (ks : List (List ℕ)) (high row : List (ℕ × ℕ)) → ks ≡ level to n → length (level from n) ≡ i → IsBelow i row
    → ((k : ℕ) → k < i → value_in row k ≡ pull_back f (cochain_of (terms_of ks high)) (get_or (level from n) k [])) → IsPullBackOf p f from to n high row
all_pulled p f from to n i ks high row e l b h = record {
  inside = subst (λ (m : ℕ). IsBelow m row) (sym l) b;
  values = λ k m. Congruent_of (h k (omega (arith, m, l)) ∙ ap (λ (ss : List (List ℕ)). pull_back f (cochain_of (terms_of ss high)) (get_or (level from n) k [])) e);
}

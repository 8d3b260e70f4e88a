-- The boundary of a composition of tuples.
use Rattle.std.proofs.{Common.{◌≡◌, ℕ, ◌≤◌, Bool, true, false, cond, ◌||◌, List, [], ◌∷◌, length, refl, sym, ◌∙◌, ap, arith, subst, ℤ, pos, pred, ◌+ℤ◌}, lemmas.Int.ints, lemmas.Bool.or_right}
use Rattle.signed_sum.{proofs.Names.{is_same_list-self, is_same_list-true, fun_ext, restricted-gone}, specs.Names.{is_same_list, unless_empty, signed, restricted, value_at, without_one}}
use Rattle.table_reduction_law.{proofs.FormalSums.value_at-tuple_boundary, proofs.TupleActions.{Vanishes, face_sum-degenerate, vanishes}, specs.Names.{begins_with_entry, is_degenerate_tuple, tuple_boundary, tuple_degree}}
use Rattle.composition_law.{proofs.Paths.composition-sum, specs.Tuples.{tuple_composition, path_sum}, proofs.PathLaw.{Twins, here, ones, paths-law, there, twins-left, twins-right}, specs.Laws.TupleLeibniz}

-- equal neighbours
degenerate-twins : (w : List (List ℕ)) → is_degenerate_tuple w ≡ true → Twins w
degenerate-twins [] h = absurd (let z : false ≡ true = h in cc)
degenerate-twins (x ∷ []) h = absurd (let z : false ≡ true = h in cc)
degenerate-twins (x ∷ y ∷ w) h = go (is_same_list x y) refl h (degenerate-twins (y ∷ w))
  where
    go : (b : Bool) → is_same_list x y ≡ b → (b || is_degenerate_tuple (y ∷ w)) ≡ true → (is_degenerate_tuple (y ∷ w) ≡ true → Twins (y ∷ w)) → Twins (x ∷ y ∷ w)
    go true e h k = subst (λ (j : List ℕ). Twins (x ∷ j ∷ w)) (is_same_list-true x y e) here
    go false e h k = there (k h)

twins-degenerate : (w : List (List ℕ)) → Twins w → is_degenerate_tuple w ≡ true
twins-degenerate _ (here {x = x} {f = f}) = ap (λ b. b || is_degenerate_tuple (x ∷ f)) (is_same_list-self x)
twins-degenerate _ (there {x = x} {f = f} t) = or_right (begins_with_entry x f) (is_degenerate_tuple f) (twins-degenerate f t)

-- the sum over the paths, with 0 at degenerate tuples
module _ (k : ℕ) (phi : List (List ℕ) → ℤ) where
  abbrev h : List (List ℕ) → ℤ
  h = restricted is_degenerate_tuple phi

  none : (t : List (List ℕ)) → Twins t → h t ≡ pos 0
  none t q = restricted-gone is_degenerate_tuple phi t (twins-degenerate t q)

  outer-none : (w v : List (List ℕ)) → is_degenerate_tuple w ≡ true → path_sum k w v h ≡ pos 0
  outer-none w v d = twins-left k w v h none (degenerate-twins w d)

  inner-none : (w v : List (List ℕ)) → is_degenerate_tuple v ≡ true → path_sum k w v h ≡ pos 0
  inner-none w v d = twins-right k w v h none (degenerate-twins v d)

-- g is 0 at degenerate tuples already
same-restricted : (g : List (List ℕ) → ℤ) → Vanishes g → (t : List (List ℕ)) → restricted is_degenerate_tuple g t ≡ g t
same-restricted g n t = go (is_degenerate_tuple t) refl
  where
    go : (b : Bool) → is_degenerate_tuple t ≡ b → cond b (pos 0) (g t) ≡ g t
    go true e = sym (n t e)
    go false e = refl

-- no path is empty
some-path : (k : ℕ) (w v : List (List ℕ)) (h : List (List ℕ) → ℤ) → path_sum k w v h ≡ path_sum k w v (λ t. unless_empty t (h t))
some-path k [] v h = refl
some-path k (x ∷ w) [] h = refl
some-path k (x ∷ w) (y ∷ v) h = refl

outer-some : (k : ℕ) (v : List (List ℕ)) (h : List (List ℕ) → ℤ) (w : List (List ℕ)) → unless_empty w (path_sum k w v h) ≡ path_sum k w v (λ t. unless_empty t (h t))
outer-some k v h [] = refl
outer-some k v h (x ∷ w) = some-path k (x ∷ w) v h

inner-some : (k : ℕ) (w : List (List ℕ)) (h : List (List ℕ) → ℤ) (v : List (List ℕ)) → unless_empty v (path_sum k w v h) ≡ path_sum k w v (λ t. unless_empty t (h t))
inner-some k [] h [] = refl
inner-some k (x ∷ w) h [] = refl
inner-some k w h (y ∷ v) = some-path k w (y ∷ v) h

ones-none : (k : ℕ) (w v : List (List ℕ)) → ones k w v (pos 0) ≡ pos 0
ones-none k [] v = refl
ones-none k (x ∷ w) [] = refl
ones-none k (x ∷ []) (y ∷ []) = refl
ones-none k (x ∷ []) (y ∷ z ∷ v) = refl
ones-none k (x ∷ z ∷ w) (y ∷ v) = refl

module _ (k : ℕ) (phi : List (List ℕ) → ℤ) where
  abbrev g : List (List ℕ) → ℤ
  g = restricted is_degenerate_tuple phi

  -- the boundary along the paths
  path-boundary : (w v : List (List ℕ)) → path_sum k w v (λ t. without_one t (λ r. unless_empty r (g r)))
      ≡ without_one w (λ x. unless_empty x (path_sum k x v g)) +ℤ signed (pred (length w)) (without_one v (λ y. unless_empty y (path_sum k w y g)))
  path-boundary w v =
      let f : List (List ℕ) → ℤ = λ r. unless_empty r (g r) in
      let l = paths-law k w v f in
      let a : without_one w (λ x. unless_empty x (path_sum k x v g)) ≡ without_one w (λ x. path_sum k x v f) = ap (without_one w) (λ i x. outer-some k v g x i) in
      let b : signed (pred (length w)) (without_one v (λ y. unless_empty y (path_sum k w y g))) ≡ signed (pred (length w)) (without_one v (λ y. path_sum k w y f)) = ap (λ j. signed (pred (length w)) (without_one v j)) (λ i y. inner-some k w g y i) in
      let o = ones-none k w v in
      omega (arith, ints)

  outer-value : (v : List (List ℕ)) → 1 ≤ length v → (x : List (List ℕ)) → unless_empty x (restricted is_degenerate_tuple (λ x. value_at phi (tuple_composition k x v)) x) ≡ unless_empty x (path_sum k x v g)
  outer-value v l [] = refl
  outer-value v l (x ∷ w) =
      ap (λ z. cond (is_degenerate_tuple (x ∷ w)) (pos 0) z) (composition-sum k phi (x ∷ w) v (omega arith) l)
      ∙ same-restricted (λ u. path_sum k u v g) (λ u d. outer-none k phi u v d) (x ∷ w)

  inner-value : (w : List (List ℕ)) → 1 ≤ length w → (y : List (List ℕ)) → unless_empty y (restricted is_degenerate_tuple (λ y. value_at phi (tuple_composition k w y)) y) ≡ unless_empty y (path_sum k w y g)
  inner-value w l [] = refl
  inner-value w l (y ∷ v) =
      ap (λ z. cond (is_degenerate_tuple (y ∷ v)) (pos 0) z) (composition-sum k phi w (y ∷ v) l (omega arith))
      ∙ same-restricted (λ u. path_sum k w u g) (λ u d. inner-none k phi w u d) (y ∷ v)

  boundary-value : (t : List (List ℕ)) → restricted is_degenerate_tuple (λ t. value_at phi (tuple_boundary t)) t ≡ without_one t (λ r. unless_empty r (g r))
  boundary-value t =
      ap (λ z. cond (is_degenerate_tuple t) (pos 0) z) (value_at-tuple_boundary phi t)
      ∙ same-restricted (λ t. without_one t (λ r. unless_empty r (g r))) (λ t d. face_sum-degenerate t (λ r. unless_empty r (g r)) (vanishes phi) d) t

  leibniz : (w v : List (List ℕ)) → 1 ≤ length w → 1 ≤ length v →
      value_at (λ t. value_at phi (tuple_boundary t)) (tuple_composition k w v)
      ≡ value_at (λ x. value_at phi (tuple_composition k x v)) (tuple_boundary w) +ℤ signed (tuple_degree w) (value_at (λ y. value_at phi (tuple_composition k w y)) (tuple_boundary v))
  leibniz w v a b =
      composition-sum k (λ t. value_at phi (tuple_boundary t)) w v a b
      ∙ ap (path_sum k w v) (fun_ext boundary-value)
      ∙ path-boundary w v
      ∙ (λ i. without_one w (λ x. sym (outer-value v b x) i) +ℤ signed (degree w a i) (without_one v (λ y. sym (inner-value w a y) i)))
      ∙ (λ i. sym (value_at-tuple_boundary (λ x. value_at phi (tuple_composition k x v)) w) i
      +ℤ signed (tuple_degree w) (sym (value_at-tuple_boundary (λ y. value_at phi (tuple_composition k w y)) v) i))
    where
      degree : (w : List (List ℕ)) → 1 ≤ length w → pred (length w) ≡ tuple_degree w
      degree [] l = absurd (omega (arith, l))
      degree (x ∷ w) l = omega arith

pub tuple_leibniz : TupleLeibniz
tuple_leibniz = record {
  boundary = λ k w v phi a b. leibniz k phi w v a b;
  degenerate = λ k w v phi a b d. composition-sum k phi w v a b ∙ either k phi w v (is_degenerate_tuple w) refl d;
}
  where
    either : (k : ℕ) (phi : List (List ℕ) → ℤ) (w v : List (List ℕ)) (c : Bool) → is_degenerate_tuple w ≡ c → (c || is_degenerate_tuple v) ≡ true → path_sum k w v (restricted is_degenerate_tuple phi) ≡ pos 0
    either k phi w v true e d = outer-none k phi w v e
    either k phi w v false e d = inner-none k phi w v d

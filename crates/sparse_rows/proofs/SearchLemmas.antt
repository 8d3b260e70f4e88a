-- The search for a position.
use Rattle.std.proofs.Common.{◌≡◌, ◌≢◌, ◌⊎◌, ℕ, ◌<◌, ◌≤◌, List, map, length, get_or, arith, sym, ◌∙◌, ap, subst, inl, inr}
use Rattle.sparse_rows.{proofs.Below.{cases_eq, cases_lt, exact_unsigned, nat_cmp, ordering_index, nat_cmp_is, Ordering, Less, Equal, Greater, IsNonDecreasingBy, IsPartitionPoint, IsAscending}, specs.Rows.{IsRow, value_in}, specs.Merging.position_of, proofs.RowLemmas.{ascending_from, value_in-at, value_in-nowhere}, proofs.MergeLemmas.same}

cmp_tells : (a k : ℕ) → ((a < k) × (nat_cmp a k ≡ Less)) ⊎ (((a ≡ k) × (nat_cmp a k ≡ Equal)) ⊎ ((k < a) × (nat_cmp a k ≡ Greater)))
cmp_tells a k = elim (cases_lt a k) [
  | inl l ↦ inl (l, sym (nat_cmp_is a k Less l))
  | inr m ↦ elim (cases_eq a k) [
    | inl e ↦ inr (inl (e, sym (nat_cmp_is a k Equal e)))
    | inr n ↦ let g : k < a = omega arith in inr (inr (g, sym (nat_cmp_is a k Greater g)))
  ]
]

cmp_rises : (a b k : ℕ) → a ≤ b → ordering_index (nat_cmp a k) ≤ ordering_index (nat_cmp b k)
cmp_rises a b k h = elim (cmp_tells a k) [
  | inl x ↦ let e : ordering_index (nat_cmp a k) ≡ 0 = ap ordering_index x.1 in omega arith
  | inr x ↦ elim (cmp_tells b k) [
    | inl y ↦ elim x [ inl z ↦ let c = y.0 in let d = z.0 in absurd (omega arith) | inr z ↦ let c = y.0 in let d = z.0 in absurd (omega arith) ]
    | inr y ↦ elim y [
      | inl z ↦ elim x [
        | inl w ↦ let e : ordering_index (nat_cmp a k) ≡ 1 = ap ordering_index w.1 in let f : ordering_index (nat_cmp b k) ≡ 1 = ap ordering_index z.1 in omega arith
        | inr w ↦ let c = w.0 in let d = z.0 in absurd (omega arith)
      ]
      | inr z ↦ elim x [
        | inl w ↦ let e : ordering_index (nat_cmp a k) ≡ 1 = ap ordering_index w.1 in let f : ordering_index (nat_cmp b k) ≡ 2 = ap ordering_index z.1 in omega arith
        | inr w ↦ let e : ordering_index (nat_cmp a k) ≡ 2 = ap ordering_index w.1 in let f : ordering_index (nat_cmp b k) ≡ 2 = ap ordering_index z.1 in omega arith
      ]
    ]
  ]
]

searchable : (row : List (ℕ × ℕ)) (k : ℕ) → IsAscending (map (λ (e : ℕ × ℕ). e.0) row) → IsNonDecreasingBy (λ (e : ℕ × ℕ). ordering_index (nat_cmp e.0 k)) row
searchable row k h i j d a b = cmp_rises (get_or row i d).0 (get_or row j d).0 k ordered
  where
    ordered : (get_or row i d).0 ≤ (get_or row j d).0
    ordered = elim (cases_lt i j) [
      | inl l ↦ let f = ascending_from row i j h l b in let u = same row i (0, 0) d (omega arith) in let v = same row j (0, 0) d b in omega arith
      | inr m ↦ let e : i ≡ j = omega arith in let f : (get_or row i d).0 ≡ (get_or row j d).0 = ap (λ n. (get_or row n d).0) e in omega arith
    ]

-- a pair with another order than `Equal` has another position
apart : (a k : ℕ) (o : Ordering) → nat_cmp a k ≡ o → ordering_index o ≢ 1 → a ≢ k
apart a k o h n e = n (ap ordering_index (sym h) ∙ ap ordering_index (sym (nat_cmp_is a k Equal e)))

not_found : (row : List (ℕ × ℕ)) (k at : ℕ) → IsPartitionPoint (λ (e : ℕ × ℕ). nat_cmp e.0 k ≡ Less) (λ e. nat_cmp e.0 k ≡ Greater) row at → value_in row k ≡ 0
not_found row k at h = value_in-nowhere row k (λ j b. elim (cases_lt j at) [
  | inl l ↦ apart (position_of row j) k Less (h.0 j (0, 0) (omega arith) l) (λ e. absurd (omega arith))
  | inr m ↦ apart (position_of row j) k Greater (h.1 j (0, 0) m b) (λ e. absurd (omega arith))
])

module _ (p k at : ℕ) (now inside slice : List (ℕ × ℕ)) (is : slice ≡ inside) (view : inside ≡ now) (row : IsRow p inside) where
  pub at_found : (d : ℕ × ℕ) → at < length slice → ((d : ℕ × ℕ) → nat_cmp (get_or slice at d).0 k ≡ Equal) → (get_or slice at d).1 ≡ value_in now k
  at_found d b f =
      let own : IsRow p slice = subst (IsRow p) (sym is) row in
      sym (value_in-at slice at d own.ascends b) ∙ ap (value_in slice) (exact_unsigned (get_or slice at d).0 k (f d)) ∙ ap (λ r. value_in r k) (is ∙ view)

  pub at_none : (IsNonDecreasingBy (λ (e : ℕ × ℕ). ordering_index (nat_cmp e.0 k)) slice → IsPartitionPoint (λ (e : ℕ × ℕ). nat_cmp e.0 k ≡ Less) (λ e. nat_cmp e.0 k ≡ Greater) slice at)
      → value_in now k ≡ 0
  at_none f =
      let own : IsRow p slice = subst (IsRow p) (sym is) row in
      ap (λ r. value_in r k) (sym (is ∙ view)) ∙ not_found slice k at (f (searchable slice k own.ascends))

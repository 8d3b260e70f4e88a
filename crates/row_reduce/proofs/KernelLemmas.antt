-- The kernel as a space: its vectors are its echelon rows.
use Rattle.std.proofs.Common.{◌≡◌, ℕ, suc, ◌+◌, ◌*◌, ◌%◌, ◌^◌, ◌<◌, ◌≤◌, List, [], ◌∷◌, ◌++◌, map, reverse, length, get_or, arith, refl, sym, ◌∙◌, ap, subst, inl, inr, mod-eq_of_lt}
use Rattle.row_reduce.{proofs.Below.{cases_lt, AllZip, zero-mod, Congruent, IsField, Among, Each, IsAscending, row_combination_from, unit_vector, AgreesOn, IsReduced, expansion, IsLinear, KernelVector, IsLead, StartsAt, kernel_place, Congruent_add, Congruent_from, Congruent_mul, Congruent_of, Congruent_refl, Congruent_scale, Congruent_sym, Congruent_trans, each_right, each_map, each_unmap, each_zip, each_alike, length_alike, one-nonzero, unit_other, classes_span, IsBelow, IsRow, value_in, below_of_zero, value_in-small, reverse-reverse}, specs.Names.{EchelonRow, combined, combination_of, pivot_of, row_of, Everywhere, IsEliminated, IsVectorRow, end_of, AreOwnFrom, IsEchelonOf, IsKernelOf, IsOwnRow}, proofs.EliminationLemmas.{below_end, maps_alike}, proofs.GivesLemmas.{combined_linear, combined_row}, proofs.SpaceLemmas.{combined_beyond, lead_inside, make_echelon}}

-- a vector of the kernel and the echelon row that has it
record IsSameVector (p : ℕ) (k : KernelVector) (e : EchelonRow p) : Type 0 where
  place : e.pivot ≡ k.place
  vector : (x : ℕ) → Congruent p (row_of e x) (k.vector x)

reduced_across : (p : ℕ) (ks : List KernelVector) (es : List (EchelonRow p)) → AllZip (IsSameVector p) ks es → IsReduced p kernel_place (λ (k : KernelVector). k.vector) ks → IsReduced p pivot_of row_of es
reduced_across p [] [] z h = tt
reduced_across p [] (e ∷ es) z h = elim z [ ]
reduced_across p (k ∷ ks) [] z h = elim z [ ]
reduced_across p (k ∷ ks) (e ∷ es) z h = (
  Congruent_trans (z.0.vector e.pivot) (subst (λ y. Congruent p (k.vector y) 1) (sym z.0.place) h.0),
  each_alike (IsSameVector p) (λ (s : KernelVector). Congruent p (k.vector s.place) 0 × Congruent p (s.vector k.place) 0) (λ (d : EchelonRow p). Congruent p (row_of e d.pivot) 0 × Congruent p (row_of d e.pivot) 0)
      (λ s d same b. (
        Congruent_trans (z.0.vector d.pivot) (subst (λ y. Congruent p (k.vector y) 0) (sym same.place) b.0),
        Congruent_trans (same.vector e.pivot) (subst (λ y. Congruent p (s.vector y) 0) (sym z.0.place) b.1),
      ))
      ks es z.1 h.1,
  reduced_across p ks es z.1 h.2,
)

same_vectors : (p count n : ℕ) → 1 < p → (ks : List KernelVector) (rs : List (List (ℕ × ℕ))) (es : List (EchelonRow p)) → AllZip (IsVectorRow p count) ks rs → AreOwnFrom p n rs es
    → Each (λ (k : KernelVector). StartsAt p k.place k.vector) ks → IsReduced p kernel_place (λ (k : KernelVector). k.vector) ks → AllZip (IsSameVector p) ks es
same_vectors p count n large [] [] [] z own starts h = tt
same_vectors p count n large [] [] (e ∷ es) z own starts h = elim own [ ]
same_vectors p count n large [] (r ∷ rs) es z own starts h = elim z [ ]
same_vectors p count n large (k ∷ ks) [] es z own starts h = elim z [ ]
same_vectors p count n large (k ∷ ks) (r ∷ rs) [] z own starts h = elim own [ ]
same_vectors p count n large (k ∷ ks) (r ∷ rs) (e ∷ es) z own starts h = (
  record {
    place = own.0.pivot k.place (record {
      nonzero = λ q. one-nonzero p (value_in r k.place) large (Congruent_trans (z.0.same k.place) h.0) (ap (λ n. n % p) q ∙ zero-mod p);
      least = λ y b. sym (mod-eq_of_lt (value_in-small p r y (omega arith) z.0.is_row)) ∙ (Congruent_trans (z.0.same y) (starts.0.before y b)).same ∙ zero-mod p;
    });
    vector = λ x. Congruent_trans (Congruent_of (ap (λ (r : List (ℕ × ℕ)). value_in r x) own.0.same)) (z.0.same x);
  },
  same_vectors p count (suc n) large ks rs es z.1 own.1 starts.1 h.2,
)

-- what holds of each echelon row that is the given row of its number
each_own : (p n : ℕ) (all rs : List (List (ℕ × ℕ))) (es : List (EchelonRow p)) (Q : EchelonRow p → Type 0) → ((k : ℕ) (r : List (ℕ × ℕ)) (e : EchelonRow p) → k < length all → get_or all k [] ≡ r → IsOwnRow p k r e → Q e)
    → n + length rs ≡ length all → ((i : ℕ) → get_or all (n + i) [] ≡ get_or rs i []) → AreOwnFrom p n rs es → Each Q es
each_own p n all [] [] Q f full same own = tt
each_own p n all [] (e ∷ es) Q f full same own = elim own [ ]
each_own p n all (r ∷ rs) [] Q f full same own = elim own [ ]
each_own p n all (r ∷ rs) (e ∷ es) Q f full same own = (
  f n r e (omega arith) (ap (λ k. get_or all k []) (let q : n ≡ n + 0 = omega arith in q) ∙ same 0) own.0,
  each_own p (suc n) all rs es Q f (omega arith) (λ i. ap (λ k. get_or all k []) (let q : suc n + i ≡ n + suc i = omega arith in q) ∙ same (suc i)) own.1,
)

-- combinations of relations are relations
combined_relations : (p count width : ℕ) (L : (ℕ → ℕ) → ℕ → ℕ) (linear : IsLinear p count (λ y. y < width) L) (k : ℕ) (rs : List (List (ℕ × ℕ))) (v base : ℕ → ℕ) (y : ℕ) → y < width
    → Each (λ r. Congruent p (L (value_in r) y) 0) rs → Congruent p (L (λ x. base x + row_combination_from k (map value_in rs) v x) y) (L base y)
combined_relations p count width L linear k [] v base y on h = (linear.alike (λ x. base x + 0) base (record { at = λ x _. Congruent_of (omega arith) })).at y on
combined_relations p count width L linear k (r ∷ rs) v base y on h =
    let next : ℕ → ℕ = λ x. base x + v k * value_in r x in
    Congruent_trans ((linear.alike (λ x. base x + row_combination_from k (map value_in (r ∷ rs)) v x) (λ x. next x + row_combination_from (suc k) (map value_in rs) v x) (record { at = λ x _. Congruent_of (omega arith) })).at y on)
    (Congruent_trans (combined_relations p count width L linear (suc k) rs v next y on h.1)
    (Congruent_from (Congruent_add ((linear.plus (v k) base (value_in r)).at y on) (Congruent_scale (v k) h.0)) (omega arith)))

-- the expansion by kernel vectors as a combination of the rows that have them
expansion_is : (p count j : ℕ) (ks : List KernelVector) (rs : List (List (ℕ × ℕ))) (w c : ℕ → ℕ) (d : KernelVector) (x : ℕ) → AllZip (IsVectorRow p count) ks rs
    → ((i : ℕ) → i < length ks → c (j + i) ≡ w ((get_or ks i d).place)) → Congruent p (expansion kernel_place (λ (k : KernelVector). k.vector) ks w x) (row_combination_from j (map value_in rs) c x)
expansion_is p count j [] [] w c d x z h = Congruent_refl 0
expansion_is p count j [] (r ∷ rs) w c d x z h = elim z [ ]
expansion_is p count j (k ∷ ks) [] w c d x z h = elim z [ ]
expansion_is p count j (k ∷ ks) (r ∷ rs) w c d x z h =
    let q : j + 0 ≡ j = omega arith in
    let here : c j ≡ w k.place = ap c (sym q) ∙ h 0 (omega arith) in
    Congruent_add (Congruent_mul (Congruent_of (sym here)) (Congruent_sym (z.0.same x)))
    (expansion_is p count (suc j) ks rs w c d x z.1 (λ i b. ap c (let e : suc j + i ≡ j + suc i = omega arith in e) ∙ h (suc i) (omega arith)))

module _ (p : ℕ) (field : IsField p) (rows : List (List (ℕ × ℕ))) (found : List (EchelonRow p)) (given : List (List (ℕ × ℕ))) (h : IsEliminated p rows 0 found (reverse given)) (echelon : List (EchelonRow p)) (own : AreOwnFrom p 0 given echelon) where
  vectors : AllZip (IsVectorRow p (length rows)) h.kernel given
  vectors = subst (AllZip (IsVectorRow p (length rows)) h.kernel) (reverse-reverse given) h.vectors

  same : AllZip (IsSameVector p) h.kernel echelon
  same = same_vectors p (length rows) 0 field.large h.kernel given echelon vectors own h.walked.kernel_starts h.walked.kernel_reduced

  places : map kernel_place h.kernel ≡ map pivot_of echelon
  places = maps_alike (IsSameVector p) kernel_place pivot_of (λ k e v. v.place) h.kernel echelon same

  inside : Each (IsBelow (length rows)) given
  inside = each_right (IsVectorRow p (length rows)) (IsBelow (length rows)) (λ k r v. v.below) h.kernel given vectors

  relations : Each (λ r. (y : ℕ) → Congruent p (combined rows (value_in r) y) 0) given
  relations =
      let linear = combined_linear p (end_of rows) rows in
      each_alike (IsVectorRow p (length rows)) (λ (k : KernelVector). AgreesOn p (λ y. y < end_of rows) (combined rows k.vector) (λ y. 0))
      (λ r. (y : ℕ) → Congruent p (combined rows (value_in r) y) 0)
      (λ k r v z y. elim (cases_lt y (end_of rows)) [
        | inl b ↦ Congruent_trans ((linear.alike (value_in r) k.vector (record { at = λ x _. v.same x })).at y b) (z.at y b)
        | inr b ↦ Congruent_of (combined_beyond 0 (end_of rows) rows (value_in r) y (below_end rows) b)
      ])
      h.kernel given vectors h.walked.kernel_zero

  each : (Q : EchelonRow p → Type 0) → ((k : ℕ) (r : List (ℕ × ℕ)) (e : EchelonRow p) → k < length given → get_or given k [] ≡ r → IsOwnRow p k r e → Q e) → Each Q echelon
  each Q f = each_own p 0 given given echelon Q f (omega arith) (λ i. ap (λ k. get_or given k []) (let q : 0 + i ≡ i = omega arith in q)) own

  listed : (v : ℕ → ℕ) (t : ℕ) → IsLead p Everywhere (λ a b. a < b) (combined given v) t → Among t (map pivot_of echelon)
  listed v t l =
      let w = combined given v in
      let on : t < length rows = lead_inside p (length rows) given v t inside l.nonzero in
      let linear = combined_linear p (end_of rows) rows in
      let zero_w : AgreesOn p (λ y. y < end_of rows) (combined rows w) (λ y. 0) = record {
        at = λ y b.
            Congruent_trans ((linear.alike w (λ x. 0 + w x) (record { at = λ x _. Congruent_of (omega arith) })).at y b)
            (Congruent_trans
            (combined_relations p (length rows) (end_of rows) (combined rows) linear 0 given v (λ x. 0) y b (each_map {Q = λ r. Congruent p (combined rows (value_in r) y) 0} (λ r z. z y) given relations))
            (linear.nothing.at y b));
      } in
      elim (h.walked.kernel_whole w zero_w t (omega arith) (record { on = on; nonzero = l.nonzero; least = λ y _ b. l.least y tt b })) [
        | inl a ↦ subst (Among t) (places) a
        | inr s ↦ elim s [ ]
      ]

  pub kernel_echelon : IsEchelonOf p given echelon
  kernel_echelon =
      make_echelon p field given echelon
      (each (λ (e : EchelonRow p). IsRow p e.row × IsRow p e.combination) (λ k r e b q o. o.rows_are))
      (each (λ (e : EchelonRow p). IsBelow (length given) e.combination)
      (λ k r e b q o. below_of_zero p (length given) e.combination o.rows_are.1 (λ x c. Congruent_trans (o.combination x) (Congruent_of (unit_other k x (λ e. absurd (omega arith)))))))
      (subst IsAscending (places) h.walked.kernel_ascends)
      (reduced_across p h.kernel echelon same h.walked.kernel_reduced)
      (each_alike (IsSameVector p) (λ (k : KernelVector). StartsAt p k.place k.vector) (λ (e : EchelonRow p). StartsAt p e.pivot (row_of e))
      (λ k e v s. record { before = λ x b. Congruent_trans (v.vector x) (s.before x (let q = v.place in omega arith)) }) h.kernel echelon same h.walked.kernel_starts)
      (each (λ (e : EchelonRow p). (y : ℕ) → Congruent p (combined given (combination_of e) y) (row_of e y))
      (λ k r e b q o y. Congruent_trans (((combined_linear p (suc y) given).alike (combination_of e) (unit_vector k) (record { at = λ x _. o.combination x })).at y (omega arith))
      (Congruent_of (combined_row given k y b ∙ ap (λ (r : List (ℕ × ℕ)). value_in r y) (q ∙ sym o.same)))))
      listed

  pub kernel_space : IsKernelOf p rows given echelon
  kernel_space = record {
    is_echelon = kernel_echelon;
    own = own;
    inside = inside;
    relations = relations;
    whole = λ v z.
        let c : ℕ → ℕ = λ i. v ((get_or h.kernel i (record { place = 0; vector = λ x. 0 })).place) in
        record {
          source = c;
          same = record {
            at = λ x on.
                Congruent_trans
                ((classes_span p (length rows) (end_of rows) field (combined rows) (combined_linear p (end_of rows) rows) (λ x. ⊥) h.kernel h.images h.walked v (record { at = λ y b. z y })
                (record { at = λ x s. elim s [ ] })).at x on)
                (expansion_is p (length rows) 0 h.kernel given v c (record { place = 0; vector = λ x. 0 }) x vectors (λ i b. ap c (let e : 0 + i ≡ i = omega arith in e)));
          };
        };
  }

-- the given row of its number is the next echelon row
pub own_more : (p k : ℕ) (rs : List (List (ℕ × ℕ))) (es : List (EchelonRow p)) (r : List (ℕ × ℕ)) (e : EchelonRow p) → AreOwnFrom p k rs es → IsOwnRow p (k + length es) r e → AreOwnFrom p k (rs ++ (r ∷ [])) (es ++ (e ∷ []))
own_more p k [] [] r e own o = (subst (λ n. IsOwnRow p n r e) (let q : k + 0 ≡ k = omega arith in q) o, tt)
own_more p k [] (d ∷ es) r e own o = elim own [ ]
own_more p k (s ∷ rs) [] r e own o = elim own [ ]
own_more p k (s ∷ rs) (d ∷ es) r e own o = (own.0, own_more p (suc k) rs es r e own.1 (subst (λ n. IsOwnRow p n r e) (let q : k + suc (length es) ≡ suc k + length es = omega arith in q) o))

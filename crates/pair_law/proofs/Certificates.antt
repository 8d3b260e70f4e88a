-- Kernel lists and preimages are unique, and show that a sequence of matrices is exact.
use Rattle.std.proofs.Common.{◌≡◌, ℕ, ◌+◌, ◌*◌, ◌-◌, ◌<◌, inl, inr, List, [], ◌∷◌, map, length, refl, sym, ◌∙◌, ap, ap₂, arith, subst}
use Rattle.std.specs.List.{AllZip}
use Rattle.std.proofs.lemmas.Bool.{cases_eq}
use Rattle.std.proofs.lemmas.List.{length-map}
use Rattle.linear_law.specs.Names.{AgreesOn, Among, Congruent, Each, ImageVector, IsAscending, IsCanonical, IsField, IsLinear, IsSubspace, KernelVector, Walked, combination, copies, kernel_place, matrix_times, row_combination}
use Rattle.linear_law.proofs.Names.{combination_member, same_of_difference, each_among, each_of_map, each_right, kernel_canonical, kernel_pivot, length_alike, primitive_vanishes, row_combination-linear, zero_if, zip_each, zip_left, zip_same, Congruent_add, Congruent_from, Congruent_of, Congruent_refl, Congruent_scale, Congruent_sym, Congruent_trans, add-negated}
use Rattle.pair_law.proofs.MatrixEntries.{entry-copies, same_vector, times-combined, times-entry, times-vector}
use Rattle.pair_law.specs.Certificates.{CertificateLaw, IsKernelList, IsKernelPivot, IsKernelVector, IsMatrix, IsPreimage, IsSentToZero, entry}
use Rattle.pair_law.specs.Sequences.{IsVector}

zip_flip : {X Y : Type 0} (R : X → Y → Type 0) (xs : List X) (ys : List Y) → AllZip R xs ys → AllZip (λ y x. R x y) ys xs
zip_flip R [] [] h = tt
zip_flip R [] (y ∷ ys) h = elim h [ ]
zip_flip R (x ∷ xs) [] h = elim h [ ]
zip_flip R (x ∷ xs) (y ∷ ys) h = (h.0, zip_flip R xs ys h.1)

-- ascending lists of the same numbers are one
ascending_only : (xs ys : List ℕ) → IsAscending xs → IsAscending ys → ((x : ℕ) → Among x xs → Among x ys) → ((x : ℕ) → Among x ys → Among x xs) → xs ≡ ys
ascending_only [] [] a b f g = refl
ascending_only [] (y ∷ ys) a b f g = elim (g y (inl refl)) [ ]
ascending_only (x ∷ xs) [] a b f g = elim (f x (inl refl)) [ ]
ascending_only (x ∷ xs) (y ∷ ys) a b f g =
    ap₂ ◌∷◌ same (ascending_only xs ys a.1 b.1
    (λ z m. elim (f z (inr m)) [ inl e ↦ absurd (let l = above x z xs a.0 m in let s = same in omega arith) | inr k ↦ k ])
    (λ z m. elim (g z (inr m)) [ inl e ↦ absurd (let l = above y z ys b.0 m in let s = same in omega arith) | inr k ↦ k ]))
  where
    above : (x y : ℕ) (ys : List ℕ) → Each (λ w. x < w) ys → Among y ys → x < y
    above x y ys h m = each_among (λ w. x < w) y ys h m

    same : x ≡ y
    same = elim (f x (inl refl)) [
      | inl e ↦ sym e
      | inr m ↦ elim (g y (inl refl)) [ inl e ↦ e | inr k ↦ absurd (let p = above y x ys b.0 m in let q = above x y xs a.0 k in omega arith) ]
    ]

module _ (p : ℕ) (field : IsField p) (size rows : ℕ) (columns : List (List ℕ)) (matrix : IsMatrix rows size columns) where
  linear : IsLinear p size (λ y. y < rows) (row_combination (map entry columns))
  linear = subst (λ (n : ℕ). IsLinear p n (λ y. y < rows) (row_combination (map entry columns))) (length-map columns entry ∙ matrix.wide) (row_combination-linear p (λ y. y < rows) (map entry columns))

  space : IsSubspace p (λ x. x < size) (IsSentToZero p rows columns)
  space = record {
    zero_in = linear.nothing;
    plus = λ k v w hv hw. record { at = λ y on. Congruent_trans ((linear.plus k v w).at y on) (Congruent_from (Congruent_add (hv.at y on) (Congruent_scale k (hw.at y on))) (omega arith)) };
    alike = λ v w same h. record { at = λ y on. Congruent_trans ((linear.alike v w same).at y on) (h.at y on) };
  }

  -- vectors that are sent to 0 and agree at the pivots are one
  determined : (v w : ℕ → ℕ) → IsSentToZero p rows columns v → IsSentToZero p rows columns w → ((x : ℕ) → IsKernelPivot p size rows columns x → Congruent p (v x) (w x)) → AgreesOn p (λ x. x < size) v w
  determined v w hv hw h =
      let d : ℕ → ℕ = λ x. v x + (p - 1) * w x in
      same_of_difference p size v w field.large
      (zero_if p size d (λ t l. Congruent_from (Congruent_add (h t (record { vector = d; member = space.plus (p - 1) v w hv hw; lead = l })) (add-negated p (w t) field.large)) (omega arith)))

  pivots_are : (kernel : List (List ℕ)) (h : IsKernelList p size rows columns kernel) → Each (IsKernelPivot p size rows columns) h.pivots
  pivots_are kernel h =
      each_right (λ v x. IsKernelVector p size rows columns x v) (IsKernelPivot p size rows columns) (λ v x k. k.canonical.pivot) kernel h.pivots (zip_flip (IsKernelVector p size rows columns) h.pivots kernel h.vectors)

  one_vector : (x : ℕ) (v w : List ℕ) → IsKernelVector p size rows columns x v → IsKernelVector p size rows columns x w → v ≡ w
  one_vector x v w h k =
      same_vector p size v w h.vector k.vector
      (determined (entry v) (entry w) h.canonical.member k.canonical.member
      (λ y q. elim (cases_eq y x) [
        | inl e ↦ subst (λ (z : ℕ). Congruent p (entry v z) (entry w z)) (sym e) (Congruent_trans h.canonical.one (Congruent_sym k.canonical.one))
        | inr n ↦ Congruent_trans (h.canonical.others y q n) (Congruent_sym (k.canonical.others y q n))
      ]))

  one_list : (kernel kernel' : List (List ℕ)) → IsKernelList p size rows columns kernel → IsKernelList p size rows columns kernel' → kernel ≡ kernel'
  one_list kernel kernel' h k =
      let R : ℕ → List ℕ → Type 0 = IsKernelVector p size rows columns in
      let pivot : ℕ → Type 0 = IsKernelPivot p size rows columns in
      let e = ascending_only h.pivots k.pivots h.in_order k.in_order
      (λ x m. k.all x (each_among pivot x h.pivots (pivots_are kernel h) m)) (λ x m. h.all x (each_among pivot x k.pivots (pivots_are kernel' k) m)) in
      zip_same pivot (λ v x. R x v) (λ v x. R x v) (λ v w x q a b. one_vector x v w a b) kernel kernel' k.pivots (pivots_are kernel' k)
      (zip_flip R k.pivots kernel (subst (λ (xs : List ℕ). AllZip R xs kernel) e h.vectors)) (zip_flip R k.pivots kernel' k.vectors)

  -- at a pivot, the sum of coefficients times the kernel list is the coefficient there, or 0 where none stands there
  picked : (f : ℕ → ℕ) (x : ℕ) → IsKernelPivot p size rows columns x → (xs : List ℕ) (vs : List (List ℕ)) → IsAscending xs → AllZip (IsKernelVector p size rows columns) xs vs →
      (Among x xs → Congruent p (combination (map f xs) (map entry vs) x) (f x)) × ((Among x xs → ⊥) → Congruent p (combination (map f xs) (map entry vs) x) 0)
  picked f x q [] [] a h = (λ m. absurd m, λ n. Congruent_refl 0)
  picked f x q [] (v ∷ vs) a h = elim h [ ]
  picked f x q (y ∷ ys) [] a h = elim h [ ]
  picked f x q (y ∷ ys) (v ∷ vs) a h =
      let rest = picked f x q ys vs a.1 h.1 in (
        λ m. elim (cases_eq y x) [
          | inl e ↦
              let one : Congruent p (entry v x) 1 = subst (λ (z : ℕ). Congruent p (entry v z) 1) e h.0.canonical.one in
              let none = rest.1 (λ k. absurd (let l = each_among (λ w. y < w) x ys a.0 k in omega arith)) in
              Congruent_trans (Congruent_add (Congruent_scale (f y) one) none) (Congruent_of (let g = ap f e in omega arith))
          | inr n ↦ Congruent_from (Congruent_add (Congruent_scale (f y) (h.0.canonical.others x q (λ e. n (sym e)))) (rest.0 (elim m [ inl e ↦ absurd (n e) | inr k ↦ k ]))) (omega arith)
        ],
        λ n. Congruent_from (Congruent_add (Congruent_scale (f y) (h.0.canonical.others x q (λ e. n (inl (sym e))))) (rest.1 (λ k. n (inr k)))) (omega arith),
      )

  -- a vector that is sent to 0 is the sum of its values at the pivots times the kernel list
  expanded : (kernel : List (List ℕ)) (h : IsKernelList p size rows columns kernel) (w : ℕ → ℕ) → IsSentToZero p rows columns w → AgreesOn p (λ x. x < size) w (combination (map w h.pivots) (map entry kernel))
  expanded kernel h w m =
      let members = each_right (IsKernelVector p size rows columns) (λ v. IsSentToZero p rows columns (entry v)) (λ x v k. k.canonical.member) h.pivots kernel h.vectors in
      determined w (combination (map w h.pivots) (map entry kernel)) m
      (combination_member space (map w h.pivots) (map entry kernel) (each_of_map (IsSentToZero p rows columns) entry kernel members))
      (λ x q. Congruent_sym ((picked w x q h.pivots kernel h.in_order h.vectors).0 (h.all x q)))

  -- the product by the columns is the map
  given_at : (u v : List ℕ) → IsVector p size u → matrix_times p rows columns u ≡ v → (y : ℕ) → Congruent p (row_combination (map entry columns) (entry u) y) (entry v y)
  given_at u v h e y = Congruent_trans (Congruent_sym (times-entry p field.large rows size columns u y matrix h.count)) (Congruent_of (ap (λ (z : List ℕ). entry z y) e))

  one_preimage : (v u u' : List ℕ) → IsPreimage p size rows columns v u → IsPreimage p size rows columns v u' → u ≡ u'
  one_preimage v u u' h k =
      let d : ℕ → ℕ = λ x. entry u x + (p - 1) * entry u' x in
      let m : IsSentToZero p rows columns d = record {
        at = λ y on.
            Congruent_trans ((linear.plus (p - 1) (entry u) (entry u')).at y on)
            (Congruent_trans (Congruent_add (given_at u v h.vector h.given y) (Congruent_scale (p - 1) (given_at u' v k.vector k.given y))) (add-negated p (entry v y) field.large));
      } in
      same_vector p size u u' h.vector k.vector
      (same_of_difference p size (entry u) (entry u') field.large
      (determined d (λ x. 0) m space.zero_in (λ t q. Congruent_from (Congruent_add (h.reduced t q) (Congruent_scale (p - 1) (k.reduced t q))) (omega arith))))

  -- a sum of preimages goes to the sum
  sums : (cs : List ℕ) (kernel preimages : List (List ℕ)) → AllZip (IsPreimage p size rows columns) kernel preimages → (y : ℕ) → y < rows →
      Congruent p (row_combination (map entry columns) (combination cs (map entry preimages)) y) (combination cs (map entry kernel) y)
  sums [] kernel preimages h y on = linear.nothing.at y on
  sums (c ∷ cs) [] [] h y on = linear.nothing.at y on
  sums (c ∷ cs) [] (u ∷ us) h y on = elim h [ ]
  sums (c ∷ cs) (v ∷ vs) [] h y on = elim h [ ]
  sums (c ∷ cs) (v ∷ vs) (u ∷ us) h y on =
      let w : ℕ → ℕ = combination cs (map entry us) in
      Congruent_trans ((linear.alike (combination (c ∷ cs) (map entry (u ∷ us))) (λ x. w x + c * entry u x) (record { at = λ x b. Congruent_of (omega arith) })).at y on)
      (Congruent_trans ((linear.plus c w (entry u)).at y on)
      (Congruent_from (Congruent_add (sums cs vs us h.1 y on) (Congruent_scale c (given_at u v h.0.vector h.0.given y))) (omega arith)))

  module _ (kernel : List KernelVector) (images : List (ImageVector ℕ)) (state : Walked p size rows (row_combination (map entry columns)) (λ x. Among x []) 0 kernel images) where
    walked_vector : (k : KernelVector) (v : List ℕ) → IsCanonical p (λ x. x < size) (λ a b. a < b) (IsSentToZero p rows columns) k.place k.vector →
        IsVector p size v × AgreesOn p (λ x. x < size) (entry v) k.vector → IsKernelVector p size rows columns k.place v
    walked_vector k v h is = record {
      vector = is.0;
      canonical = record {
        pivot = h.pivot;
        member = space.alike (entry v) k.vector is.1 h.member;
        one = Congruent_trans (is.1.at k.place h.pivot.lead.on) h.one;
        others = λ y q n. Congruent_trans (is.1.at y q.lead.on) (h.others y q n);
      };
    }

    walked_list : (vectors : List (List ℕ)) → AllZip (λ (k : KernelVector) v. IsVector p size v × AgreesOn p (λ x. x < size) (entry v) k.vector) kernel vectors → IsKernelList p size rows columns vectors
    walked_list vectors are =
        let R : KernelVector → List ℕ → Type 0 = λ k v. IsKernelVector p size rows columns k.place v in
        record {
          pivots = map kernel_place kernel;
          in_order = state.kernel_ascends;
          all = λ x q. elim (kernel_pivot p size rows field (row_combination (map entry columns)) linear (λ x. Among x []) kernel images state x q) [ inl m ↦ m | inr n ↦ absurd n ];
          vectors = zip_left R (IsKernelVector p size rows columns) kernel_place (λ k v h. h) kernel vectors
              (zip_each (λ (k : KernelVector). IsCanonical p (λ x. x < size) (λ a b. a < b) (IsSentToZero p rows columns) k.place k.vector)
              (λ (k : KernelVector) v. IsVector p size v × AgreesOn p (λ x. x < size) (entry v) k.vector) R walked_vector kernel vectors
              (kernel_canonical p size rows field (row_combination (map entry columns)) linear (λ x. Among x []) kernel images state) are);
        }

    walked_preimage : (v u : List ℕ) → IsVector p size u → matrix_times p rows columns u ≡ v → Each (λ k. Congruent p (entry u k.place) 0) kernel → IsPreimage p size rows columns v u
    walked_preimage v u h e apart = record {
      vector = h;
      given = e;
      reduced = primitive_vanishes p size rows field (row_combination (map entry columns)) linear (λ x. Among x []) kernel images state (entry u) apart (record { at = λ x m. absurd m });
    }

shown : (p before size after : ℕ) (incoming outgoing kernel preimages : List (List ℕ)) → IsField p → IsMatrix size before incoming → IsMatrix after size outgoing →
    IsKernelList p size after outgoing kernel → AllZip (IsPreimage p before size incoming) kernel preimages →
    (v : List ℕ) → IsVector p size v → matrix_times p after outgoing v ≡ copies after 0 → (u : List ℕ) × IsVector p before u × (matrix_times p size incoming u ≡ v)
shown p before size after incoming outgoing kernel preimages field comes goes list images v hv e =
    let large = field.large in
    let cs : List ℕ = map (entry v) list.pivots in
    let long = each_right (IsPreimage p before size incoming) (λ u. length u ≡ before) (λ v u k. k.vector.count) kernel preimages images in
    let count : length cs ≡ length preimages = length-map list.pivots (entry v)
    ∙ sym (length_alike (IsPreimage p before size incoming) kernel preimages images ∙ length_alike (IsKernelVector p size after outgoing) list.pivots kernel list.vectors) in
    let u : List ℕ = matrix_times p before preimages cs in
    let hu = times-vector p large before preimages cs long in
    let sent : IsSentToZero p after outgoing (entry v) =
    record { at = λ y on. Congruent_trans (given_at p field size after outgoing goes v (copies after 0) hv e y) (Congruent_of (entry-copies after y)) } in (
      u,
      hu,
      same_vector p size (matrix_times p size incoming u) v (times-vector p large size incoming u comes.high) hv
          (record {
            at = λ y on.
                Congruent_trans (times-entry p large size before incoming u y comes hu.count)
                (Congruent_trans (((linear p field before size incoming comes).alike (entry u) (combination cs (map entry preimages)) (record { at = λ x b. times-combined p large before preimages cs x long count })).at y on)
                (Congruent_trans (sums p field before size incoming comes cs kernel preimages images y on) (Congruent_sym ((expanded p field size after outgoing goes kernel list (entry v) sent).at y on))));
          }),
    )

pub certificate_law : CertificateLaw
certificate_law = record {
  one_list = λ p size rows columns kernel kernel' field matrix. one_list p field size rows columns matrix kernel kernel';
  one_preimage = λ p size rows columns v u u' field matrix. one_preimage p field size rows columns matrix v u u';
  shows = shown;
  walked_list = λ p size rows columns kernel images vectors field matrix state. walked_list p field size rows columns matrix kernel images state vectors;
  walked_preimage = λ p size rows columns kernel images v u field matrix state. walked_preimage p field size rows columns matrix kernel images state v u;
}

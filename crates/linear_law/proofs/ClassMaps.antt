-- Maps of vectors that are linear up to members of a space, and their matrices on classes.
use Rattle.std.proofs.Common.{◌≡◌, ℕ, ◌+◌, ◌*◌, ◌-◌, ◌<◌, List, [], ◌∷◌, map, length, refl, sym, ◌∙◌, ap, ap₂, arith}
use Rattle.std.specs.List.{AllZip}
use Rattle.std.proofs.lemmas.List.{length-map}
use Rattle.linear_law.proofs.CongruenceLemmas.{Congruent_add, Congruent_from, Congruent_of, Congruent_refl, Congruent_scale, Congruent_sym, add-negated}
use Rattle.linear_law.proofs.ListLemmas.{zip_right}
use Rattle.linear_law.proofs.Matrices.{columns-combined, combination-nothing, coordinates-alike, coordinates-apart, from_columns}
use Rattle.linear_law.specs.Names.{AgreesOn, CarriesCoordinates, CarriesRelated, Each, IsCoordinates, IsSubspace, combination, copies, matrix_times, negated}

-- what two relations to one element say of each other
pub zip_through : {X Y Z : Type 0} (S : X → Y → Type 0) (R : Z → Y → Type 0) (T : X → Z → Type 0) → ((x : X) (y : Y) (z : Z) → S x y → R z y → T x z)
    → (xs : List X) (ys : List Y) (zs : List Z) → AllZip S xs ys → AllZip R zs ys → AllZip T xs zs
zip_through S R T f [] [] [] h k = tt
zip_through S R T f [] [] (z ∷ zs) h k = elim k [ ]
zip_through S R T f [] (y ∷ ys) zs h k = elim h [ ]
zip_through S R T f (x ∷ xs) [] zs h k = elim h [ ]
zip_through S R T f (x ∷ xs) (y ∷ ys) [] h k = elim k [ ]
zip_through S R T f (x ∷ xs) (y ∷ ys) (z ∷ zs) h k = (f x y z h.0 k.0, zip_through S R T f xs ys zs h.1 k.1)

-- what each element has once
pub zip_same : {A X : Type 0} (P : X → Type 0) (R S : A → X → Type 0) → ((a b : A) (x : X) → P x → R a x → S b x → a ≡ b)
    → (cs bs : List A) (xs : List X) → Each P xs → AllZip R cs xs → AllZip S bs xs → cs ≡ bs
zip_same P R S f [] [] [] m h k = refl
zip_same P R S f [] (b ∷ bs) [] m h k = elim k [ ]
zip_same P R S f (a ∷ cs) bs [] m h k = elim h [ ]
zip_same P R S f [] bs (x ∷ xs) m h k = elim h [ ]
zip_same P R S f (a ∷ cs) [] (x ∷ xs) m h k = elim k [ ]
zip_same P R S f (a ∷ cs) (b ∷ bs) (x ∷ xs) m h k = ap₂ ◌∷◌ (f a b x m.0 h.0 k.0) (zip_same P R S f cs bs xs m.1 h.1 k.1)

-- v and w differ by a member of C
abbrev pub IsSameClass : {Y : Type 0} → ℕ → ((Y → ℕ) → Type 0) → (Y → ℕ) → (Y → ℕ) → Type 0
IsSameClass p C v w = C (λ y. v y + negated p (w y))

-- F keeps the sums of multiples of members of Z up to members of C, and takes members of B to members of C
pub record IsLinearOnClasses {X Y : Type 0} (p : ℕ) (On : X → Type 0) (At : Y → Type 0) (Z B : (X → ℕ) → Type 0) (C : (Y → ℕ) → Type 0) (F : (X → ℕ) → Y → ℕ) : Type 0 where
  pub alike : (v w : X → ℕ) → AgreesOn p On v w → AgreesOn p At (F v) (F w)
  pub plus : (k : ℕ) (v w : X → ℕ) → Z v → Z w → IsSameClass p C (F (λ x. v x + k * w x)) (λ y. F v y + k * F w y)
  pub bound : (w : X → ℕ) → B w → C (F w)

-- members of Z modulo those of B
pub record IsClassSpace {X : Type 0} (p : ℕ) (On : X → Type 0) (Z B : (X → ℕ) → Type 0) : Type 0 where
  pub members : IsSubspace p On Z
  pub bounds : IsSubspace p On B
  pub inside : (w : X → ℕ) → B w → Z w

pub multiple_in : {X : Type 0} {p : ℕ} {On : X → Type 0} {M : (X → ℕ) → Type 0} → IsSubspace p On M → (k : ℕ) (v : X → ℕ) → M v → M (λ x. k * v x)
multiple_in space k v h =
    space.alike (λ x. k * v x) (λ x. 0 + k * v x) (record { at = λ x on. Congruent_of (omega arith) }) (space.plus k (λ x. 0) v space.zero_in h)

pub combination_member : {X : Type 0} {p : ℕ} {On : X → Type 0} {M : (X → ℕ) → Type 0} → IsSubspace p On M → (cs : List ℕ) (zs : List (X → ℕ)) → Each M zs → M (combination cs zs)
combination_member space [] zs h = space.zero_in
combination_member space (c ∷ cs) [] h = space.zero_in
combination_member space (c ∷ cs) (z ∷ zs) h =
    space.alike (combination (c ∷ cs) (z ∷ zs)) (λ x. combination cs zs x + c * z x) (record { at = λ x on. Congruent_of (omega arith) })
    (space.plus c (combination cs zs) z (combination_member space cs zs h.1) h.0)

module _ {Y : Type 0} (p : ℕ) (large : 1 < p) {At : Y → Type 0} {C : (Y → ℕ) → Type 0} (in_c : IsSubspace p At C) where
  pub class_of : (v w : Y → ℕ) → AgreesOn p At v w → IsSameClass p C v w
  class_of v w h =
      in_c.alike (λ y. v y + negated p (w y)) (λ y. 0)
      (record { at = λ y on. Congruent_from (Congruent_add (h.at y on) (add-negated p (w y) large)) (omega arith) }) in_c.zero_in

  class_refl : (v : Y → ℕ) → IsSameClass p C v v
  class_refl v = class_of v v (record { at = λ y on. Congruent_refl (v y) })

  pub class_trans : (u v w : Y → ℕ) → IsSameClass p C u v → IsSameClass p C v w → IsSameClass p C u w
  class_trans u v w h k =
      in_c.alike (λ y. u y + negated p (w y)) (λ y. (u y + negated p (v y)) + 1 * (v y + negated p (w y)))
      (record { at = λ y on. Congruent_sym (Congruent_from (add-negated p (v y) large) (omega arith)) })
      (in_c.plus 1 (λ y. u y + negated p (v y)) (λ y. v y + negated p (w y)) h k)

  pub class_plus : (c : ℕ) (u v w x : Y → ℕ) → IsSameClass p C u v → IsSameClass p C w x → IsSameClass p C (λ y. u y + c * w y) (λ y. v y + c * x y)
  class_plus c u v w x h k =
      in_c.alike (λ y. (u y + c * w y) + negated p (v y + c * x y)) (λ y. (u y + negated p (v y)) + c * (w y + negated p (x y)))
      (record { at = λ y on. Congruent_of (omega arith) })
      (in_c.plus c (λ y. u y + negated p (v y)) (λ y. w y + negated p (x y)) h k)

  pub class_combination : {X : Type 0} (F G : X → Y → ℕ) (cs : List ℕ) (zs : List X) → Each (λ z. IsSameClass p C (F z) (G z)) zs → IsSameClass p C (combination cs (map F zs)) (combination cs (map G zs))
  class_combination F G [] zs h = class_refl (λ y. 0)
  class_combination F G (c ∷ cs) [] h = class_refl (λ y. 0)
  class_combination F G (c ∷ cs) (z ∷ zs) h =
      in_c.alike (λ y. (c * F z y + combination cs (map F zs) y) + negated p (c * G z y + combination cs (map G zs) y))
      (λ y. (combination cs (map F zs) y + c * F z y) + negated p (combination cs (map G zs) y + c * G z y))
      (record { at = λ y on. Congruent_of (omega arith) })
      (class_plus c (combination cs (map F zs)) (combination cs (map G zs)) (F z) (G z) (class_combination F G cs zs h.1) h.0)

  -- a member has the coordinates 0, and what has them is one
  pub coordinates-zero : (zs : List (Y → ℕ)) (z : Y → ℕ) → C z → IsCoordinates p C zs z (copies (length zs) 0)
  coordinates-zero zs z h =
      coordinates-apart p large in_c zs z (λ y. 0) (copies (length zs) 0)
      (in_c.alike (λ y. z y + negated p 0) z (record { at = λ y on. Congruent_of (omega arith) }) h) (columns-combined p large in_c zs [] [] [] refl tt)

  pub zero-coordinates : (n : ℕ) (zs : List (Y → ℕ)) (z : Y → ℕ) → IsCoordinates p C zs z (copies n 0) → C z
  zero-coordinates n zs z k =
      in_c.alike z (λ y. z y + negated p (combination (copies n 0) zs y))
      (record { at = λ y on. Congruent_of (sym (ap (λ j. z y + (p - 1) * j) (combination-nothing p large n zs y) ∙ omega arith)) }) k.rest

  pub nothing : {X : Type 0} {On : X → Type 0} {Z : (X → ℕ) → Type 0} → IsSubspace p On Z → (F : (X → ℕ) → Y → ℕ) →
      ((v w : X → ℕ) → AgreesOn p On v w → AgreesOn p At (F v) (F w)) → ((k : ℕ) (v w : X → ℕ) → Z v → Z w → IsSameClass p C (F (λ x. v x + k * w x)) (λ y. F v y + k * F w y)) → C (F (λ x. 0))
  nothing {X} in_z F alike plus =
      let none : X → ℕ = λ x. 0 in
      in_c.alike (F none) (λ y. F (λ x. 0 + (p - 1) * 0) y + negated p (F none y + (p - 1) * F none y))
      (record {
        at = λ y on.
            Congruent_from
            (Congruent_add ((alike none (λ x. 0 + (p - 1) * 0) (record { at = λ x q. Congruent_of (omega arith) })).at y on)
            (Congruent_sym (Congruent_scale (p - 1) (add-negated p (F none y) large))))
            (omega arith);
      })
      (plus (p - 1) none none in_z.zero_in in_z.zero_in)

  module _ {X : Type 0} {On : X → Type 0} {Z B : (X → ℕ) → Type 0} (in_z : IsSubspace p On Z) (b_in_z : (w : X → ℕ) → B w → Z w) where
    -- what has coordinates is a combination plus a bound
    split : (zs : List (X → ℕ)) (z : X → ℕ) (cs : List ℕ) → AgreesOn p On z (λ x. combination cs zs x + 1 * (z x + negated p (combination cs zs x)))
    split zs z cs = record { at = λ x on. Congruent_sym (Congruent_from (add-negated p (combination cs zs x) large) (omega arith)) }

    pub member_of : (zs : List (X → ℕ)) (z : X → ℕ) (cs : List ℕ) → Each Z zs → IsCoordinates p B zs z cs → Z z
    member_of zs z cs h k =
        let r : X → ℕ = λ x. z x + negated p (combination cs zs x) in
        in_z.alike z (λ x. combination cs zs x + 1 * r x) (split zs z cs) (in_z.plus 1 (combination cs zs) r (combination_member in_z cs zs h) (b_in_z r k.rest))

    module _ (F : (X → ℕ) → Y → ℕ) (linear : IsLinearOnClasses p On At Z B C F) where
      none : IsSameClass p C (F (λ x. 0)) (λ y. 0)
      none = in_c.alike (λ y. F (λ x. 0) y + negated p 0) (F (λ x. 0)) (record { at = λ y on. Congruent_of (omega arith) }) (nothing in_z F linear.alike linear.plus)

      combined : (cs : List ℕ) (zs : List (X → ℕ)) → Each Z zs → IsSameClass p C (F (combination cs zs)) (combination cs (map F zs))
      combined [] zs h = none
      combined (c ∷ cs) [] h = none
      combined (c ∷ cs) (z ∷ zs) h =
          let v : X → ℕ = combination cs zs in
          let w : Y → ℕ = combination cs (map F zs) in
          class_trans (F (combination (c ∷ cs) (z ∷ zs))) (F (λ x. v x + c * z x)) (combination (c ∷ cs) (map F (z ∷ zs)))
          (class_of (F (combination (c ∷ cs) (z ∷ zs))) (F (λ x. v x + c * z x)) (linear.alike (combination (c ∷ cs) (z ∷ zs)) (λ x. v x + c * z x) (record { at = λ x on. Congruent_of (omega arith) })))
          (class_trans (F (λ x. v x + c * z x)) (λ y. F v y + c * F z y) (combination (c ∷ cs) (map F (z ∷ zs))) (linear.plus c v z (combination_member in_z cs zs h.1) h.0)
          (in_c.alike (λ y. (F v y + c * F z y) + negated p (c * F z y + w y)) (λ y. (F v y + c * F z y) + negated p (w y + c * F z y)) (record { at = λ y on. Congruent_of (omega arith) })
          (class_plus c (F v) w (F z) (F z) (combined cs zs h.1) (class_refl (F z)))))

      -- F on classes, by coordinates
      pub on_classes : (zs : List (X → ℕ)) (z : X → ℕ) (cs : List ℕ) → Each Z zs → IsCoordinates p B zs z cs → IsSameClass p C (F z) (combination cs (map F zs))
      on_classes zs z cs h k =
          let v : X → ℕ = combination cs zs in
          let w : Y → ℕ = combination cs (map F zs) in
          let r : X → ℕ = λ x. z x + negated p (v x) in
          class_trans (F z) (F (λ x. v x + 1 * r x)) w (class_of (F z) (F (λ x. v x + 1 * r x)) (linear.alike z (λ x. v x + 1 * r x) (split zs z cs)))
          (class_trans (F (λ x. v x + 1 * r x)) (λ y. F v y + 1 * F r y) w (linear.plus 1 v r (combination_member in_z cs zs h) (b_in_z r k.rest))
          (in_c.alike (λ y. (F v y + 1 * F r y) + negated p (w y)) (λ y. (F v y + negated p (w y)) + 1 * F r y) (record { at = λ y on. Congruent_of (omega arith) })
          (in_c.plus 1 (λ y. F v y + negated p (w y)) (F r) (combined cs zs h) (linear.bound r k.rest))))

      -- and by a matrix
      pub class_matrix : CarriesCoordinates p Z B C F
      class_matrix zs ws columns h g z cs k =
          from_columns p large in_c ws (map F zs) columns cs (F z) (k.count ∙ sym (length-map zs F)) (zip_right (λ column z. IsCoordinates p C ws (F z) column) (λ column v. IsCoordinates p C ws v column) F (λ column z k. k) columns zs g) (on_classes zs z cs h k)

      -- and so for what is related to members as their values are
      pub related_matrix : (R : (X → ℕ) → (Y → ℕ) → Type 0) → ((z : X → ℕ) (b : Y → ℕ) → R z b → AgreesOn p At b (F z)) → CarriesRelated p Z B C R
      related_matrix R same zs bs ws columns h related are z b cs k r =
          coordinates-alike p large in_c ws b (F z) (matrix_times p (length ws) columns cs) (same z b r)
          (class_matrix zs ws columns h
          (zip_through (λ column b. IsCoordinates p C ws b column) R (λ column z. IsCoordinates p C ws (F z) column)
          (λ column b z c r. coordinates-alike p large in_c ws (F z) b column (record { at = λ y on. Congruent_sym ((same z b r).at y on) }) c) columns bs zs are related) z cs k)

-- Pull-backs along order-preserving simplicial maps.
use Rattle.std.{proofs.Common.{Bool, ◌≡◌, ℕ, suc, ◌+◌, ◌*◌, inl, inr, cond, List, [], ◌∷◌, map, length, refl, sym, ◌∙◌, ap, arith, subst, true, false, ℤ, pos}, specs.List.AllZip, proofs.lemmas.Int.ints, proofs.lemmas.Bool.cases_Bool, proofs.lemmas.List.length-map}
use Rattle.linear_law.{proofs.Names.{IsLinearOnClasses, class_of, multiple_in, on_classes, Congruent_of, Congruent_scale, Congruent_sym, Congruent_trans, coordinates-alike, from_columns}, specs.Names.{Congruent, IsField, Each, IsSubspace, matrix_times}}
use Rattle.signed_sum.{proofs.Names.fun_ext, specs.Names.{is_degenerate, unless_empty, without_one}}
use Rattle.simplicial_law.{proofs.Names.{coboundaries, cocycles, CongruentInt_of, CongruentInt_sym, CongruentInt_trans}, specs.Names.{AgreesOnSimplices, Cochain, HasCoordinates, IsCoboundary, IsCocycle, IsCohomologyBasis, coboundary, CongruentInt, integral_coboundary, IsSimplex}}
use Rattle.steenrod_law.{proofs.ClassLaws.{bound-cases, matrix-law}, proofs.Complexes.{coboundary-extended, extended-cochain, simplex_of_weak}, proofs.OperationLaws.{above_one, may_operation-closed, pull_back-operation, pulled, pulled-value, vertices}, proofs.WordCochains.coboundary-cochain, specs.Names.{IsSimplicial, extended, may_operation, pull_back, scaled_operation, IsOrbitTable}}

-- the coboundary at an image
without_one-under : (f : ℕ → ℕ) (s : List ℕ) (h : List ℕ → ℤ) → without_one (map f s) h ≡ without_one s (λ g. h (map f g))
without_one-under f [] h = refl
without_one-under f (x ∷ s) h = let a = without_one-under f s (λ r. h (f x ∷ r)) in omega (arith, ints)

coboundary-under : (f : ℕ → ℕ) (b : List ℕ → ℤ) (s : List ℕ) → integral_coboundary b (map f s) ≡ integral_coboundary (λ g. b (map f g)) s
coboundary-under f b s = without_one-under f s (λ g. unless_empty g (b g)) ∙ ap (without_one s) (fun_ext same)
  where
    same : (g : List ℕ) → unless_empty (map f g) (b (map f g)) ≡ unless_empty g (b (map f g))
    same [] = refl
    same (x ∷ g) = refl

module _ (f : ℕ → ℕ) (from to : List (List ℕ)) (p : ℕ) (field : IsField p) (simplicial : IsSimplicial f from to) where
  pub pull_back-coboundary : (q : ℕ) (y : Cochain) → AgreesOnSimplices from (q + 1) p (coboundary p (pull_back f y)) (pull_back f (coboundary p y))
  pull_back-coboundary q y = record { at = at }
    where
      at : (s : List ℕ) → IsSimplex from (q + 1) s → Congruent p (coboundary p (pull_back f y) s) (pull_back f (coboundary p y) s)
      at s on =
          pulled-value p field f (coboundary p y) (integral_coboundary (extended q y)) (coboundary p (pull_back f y) s) s here
          ((coboundary-cochain q (extended q y) (extended-cochain q y)).plain (map f s))
          (λ d. coboundary-extended to q p y (map f s) (above_one p field) (simplex_of_weak to (q + 1) (map f s) (simplicial (q + 1) s on) (let a = on.size in let b = length-map s f in omega arith) d))
        where
          here : CongruentInt p (pos (coboundary p (pull_back f y) s)) (integral_coboundary (extended q y) (map f s))
          here = CongruentInt_trans (CongruentInt_sym (coboundary-extended from q p (pull_back f y) s (above_one p field) on))
              (CongruentInt_of (ap (λ b. integral_coboundary b s) (fun_ext (λ g. sym (pulled f q y g))) ∙ sym (coboundary-under f (extended q y) s)))

  -- a cochain that is 0 on simplices has the pull-back 0
  pull_back-agrees : (n : ℕ) (a b : Cochain) → AgreesOnSimplices to n p a b → AgreesOnSimplices from n p (pull_back f a) (pull_back f b)
  pull_back-agrees n a b h = record { at = at }
    where
      at : (s : List ℕ) → IsSimplex from n s → Congruent p (pull_back f a s) (pull_back f b s)
      at s on = elim (cases_Bool (is_degenerate (map f s))) [
        | inl d ↦ Congruent_of (ap (λ c. cond c 0 (a (map f s))) d ∙ sym (ap (λ c. cond c 0 (b (map f s))) d))
        | inr d ↦
            let l : length (map f s) ≡ suc n = (let x = on.size in let y = length-map s f in omega arith) in
            Congruent_trans (Congruent_of (ap (λ c. cond c 0 (a (map f s))) d))
            (Congruent_trans (h.at (map f s) (simplex_of_weak to n (map f s) (simplicial n s on) l d)) (Congruent_of (sym (ap (λ c. cond c 0 (b (map f s))) d))))
      ]

  -- the pull-back is linear in the value at the image
  pull_back-at : (a : Cochain) (s : List ℕ) → pull_back f a s ≡ cond (is_degenerate (map f s)) 0 1 * a (map f s)
  pull_back-at a s = go (is_degenerate (map f s))
    where
      go : (b : Bool) → cond b 0 (a (map f s)) ≡ cond b 0 1 * a (map f s)
      go true = omega arith
      go false = omega arith

  pull_back-nothing : (s : List ℕ) → pull_back f (λ t. 0) s ≡ 0
  pull_back-nothing s = let e = pull_back-at (λ t. 0) s in omega arith

  pub pull_back-cocycle : (q : ℕ) (a : Cochain) → IsCocycle to q p a → IsCocycle from q p (pull_back f a)
  pull_back-cocycle q a z = record {
    at = λ s on. Congruent_trans ((pull_back-coboundary q a).at s on)
        (Congruent_trans ((pull_back-agrees (q + 1) (coboundary p a) (λ s. 0) z).at s on) (Congruent_of (pull_back-nothing s)));
  }

  pull_back-linear : (q : ℕ) → IsLinearOnClasses p (IsSimplex to q) (IsSimplex from q) (λ a. Unit {0}) (IsCoboundary to q p) (IsCoboundary from q p) (pull_back f)
  pull_back-linear q = record {
    alike = pull_back-agrees q;
    plus = λ k a b _ _. class_of p (above_one p field) (bounds q) (pull_back f (λ t. a t + k * b t)) (λ s. pull_back f a s + k * pull_back f b s) (record { at = λ s on. Congruent_of (sum k a b s) });
    bound = bound-cases p field to bounds (λ j. pull_back f) exact q (pull_back-agrees q) ((bounds q).alike (pull_back f (λ t. 0)) (λ t. 0) (record { at = λ s on. Congruent_of (pull_back-nothing s) }) (bounds q).zero_in);
  }
    where
      bounds : (j : ℕ) → IsSubspace p (IsSimplex from j) (IsCoboundary from j p)
      bounds j = coboundaries from j p (above_one p field)

      sum : (k : ℕ) (a b : Cochain) (s : List ℕ) → pull_back f (λ t. a t + k * b t) s ≡ pull_back f a s + k * pull_back f b s
      sum k a b s =
          let whole = pull_back-at (λ t. a t + k * b t) s in
          let first = pull_back-at a s in
          let rest = ap (λ j. k * j) (pull_back-at b s) in
          omega arith

      exact : (m : ℕ) (y : Cochain) → y [] ≡ 0 → IsCoboundary from (suc m) p (pull_back f (coboundary p y))
      exact m y z = record {
        below = pull_back f y;
        nothing = z;
        same = record { at = λ s on. Congruent_sym ((pull_back-coboundary m y).at s (let e : suc m ≡ m + 1 = omega arith in subst (λ (j : ℕ). IsSimplex from j s) e on)) };
      }

  pub pull_back-matrix : (q : ℕ) (zs ws : List Cochain) (As : List (List ℕ)) → AllZip (λ column u. HasCoordinates from q p zs u column) As (map (pull_back f) ws) →
      (w : Cochain) (cs : List ℕ) → HasCoordinates to q p ws w cs → HasCoordinates from q p zs (pull_back f w) (matrix_times p (length zs) As cs)
  pull_back-matrix q zs ws As h w cs k =
      from_columns p (above_one p field) (coboundaries from q p (above_one p field)) zs (map (pull_back f) ws) As cs (pull_back f w) (k.count ∙ sym (length-map ws (pull_back f))) h
      (on_classes p (above_one p field) (coboundaries from q p (above_one p field)) {Z = λ a. Unit {0}} (record { zero_in = tt; plus = λ k v w a b. tt; alike = λ v w a b. tt }) (λ w h. tt) (pull_back f) (pull_back-linear q) ws w cs (all ws) k)
    where
      all : (vs : List Cochain) → Each (λ a. Unit {0}) vs
      all [] = tt
      all (v ∷ vs) = (tt, all vs)

  -- operations and induced matrices

  scaled-pull_back : (d c q n : ℕ) (a : Cochain) → AgreesOnSimplices from n p (pull_back f (scaled_operation p d c q a)) (scaled_operation p d c q (pull_back f a))
  scaled-pull_back d c q n a = record {
    at = λ s on.
        Congruent_trans (Congruent_of (out s)) (Congruent_scale c (Congruent_sym (pull_back-operation p field f d q a s (vertices p field from n s on))));
  }
    where
      out : (s : List ℕ) → pull_back f (scaled_operation p d c q a) s ≡ c * pull_back f (may_operation p d q a) s
      out s = let whole = pull_back-at (scaled_operation p d c q a) s in let part = ap (λ j. c * j) (pull_back-at (may_operation p d q a) s) in omega arith

  pub matrices-commute : (d c q n : ℕ) (ms : List (List Bool)) → IsOrbitTable p ms → (zs us zs' us' : List Cochain) (ops induced_q ops' induced_n : List (List ℕ)) →
      Each (IsCocycle from q p) zs → IsCohomologyBasis from n p us → Each (IsCocycle to q p) zs' →
      AllZip (λ column z. HasCoordinates from n p us (scaled_operation p d c q z) column) ops zs →
      AllZip (λ column z. HasCoordinates to n p us' (scaled_operation p d c q z) column) ops' zs' →
      AllZip (λ column u. HasCoordinates from q p zs u column) induced_q (map (pull_back f) zs') →
      AllZip (λ column u. HasCoordinates from n p us u column) induced_n (map (pull_back f) us') →
      map (λ column. matrix_times p (length us) induced_n column) ops' ≡ map (λ column. matrix_times p (length us) ops column) induced_q
  matrices-commute d c q n ms orbits zs us [] us' ops [] [] induced_n cz basis cz' h h' g g' = refl
  matrices-commute d c q n ms orbits zs us [] us' ops [] (a ∷ ops') induced_n cz basis cz' h h' g g' = absurd h'
  matrices-commute d c q n ms orbits zs us [] us' ops (i ∷ induced_q) ops' induced_n cz basis cz' h h' g g' = absurd g
  matrices-commute d c q n ms orbits zs us (z ∷ zs') us' ops induced_q [] induced_n cz basis cz' h h' g g' = absurd h'
  matrices-commute d c q n ms orbits zs us (z ∷ zs') us' ops [] (a ∷ ops') induced_n cz basis cz' h h' g g' = absurd g
  matrices-commute d c q n ms orbits zs us (z ∷ zs') us' ops (i ∷ induced_q) (a ∷ ops') induced_n cz basis cz' h h' g g' =
      let v : Cochain = pull_back f (scaled_operation p d c q z) in
      let left = pull_back-matrix n us us' induced_n g' (scaled_operation p d c q z) a h'.0 in
      let right = matrix-law p field from d c q n ms zs us ops orbits cz h (pull_back f z) i g.0 in
      let e = basis.only v (matrix_times p (length us) induced_n a) (matrix_times p (length us) ops i) (pull_back-cocycle n (scaled_operation p d c q z) (multiple_in (cocycles to n p (above_one p field)) c (may_operation p d q z) (may_operation-closed p field to d q n z cz'.0))) left
      (coordinates-alike p (above_one p field) (coboundaries from n p (above_one p field)) us v (scaled_operation p d c q (pull_back f z)) (matrix_times p (length us) ops i) (scaled-pull_back d c q n z) right) in
      (λ j. e j ∷ matrices-commute d c q n ms orbits zs us zs' us' ops induced_q ops' induced_n cz basis cz'.1 h h'.1 g.1 g' j)

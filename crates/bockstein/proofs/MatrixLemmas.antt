-- From the columns of the Bockstein to its matrix.
use Rattle.std.{proofs.Common.{◌≡◌, ℕ, ◌+◌, ◌*◌, ◌-◌, ◌<◌, Bool, List, [], ◌∷◌, ◌++◌, length, get_or, take, sym, ap, subst, ◌∙◌, arith, IsTrue, slice_get, Some}, specs.List.AllZip, proofs.lemmas.List.{length-map, take_more}, proofs.lemmas.Option.{get_or_from_slice_get, slice_get-get_or, slice_get_within}}
use Rattle.fp_field.{specs.Served.served, proofs.ServedLemmas.served_field}
use Rattle.linear_law.{specs.Names.{IsField, Each, matrix_times}, proofs.Names.{each_get_or, each_unmap, zip_push, Congruent_of, Congruent_sym, coordinates-alike}}
use Rattle.simplicial_law.{specs.Names.{cochain_of, AgreesOnSimplices, Chain, Cochain as SimplexCochain, HasCoordinates, IsCocycle, IsCohomologyBasis, terms_of}, proofs.Names.{coboundaries, cocycles, agree_by_place, value_by_place}}
use Rattle.bockstein_law.{specs.Bockstein.bockstein, proofs.Lifts.{closed, matrix}, proofs.Powers.power_law}
use Rattle.sparse_rows.specs.Rows.{IsBelow}
use Rattle.complex_index.specs.{Names.{IsIndexOf, level}, declared.indexed.Cochain.Cochain}
use Rattle.cohomology.specs.{Names.{IsColumnOf, AreCanonicalIn, IsPlaced, chains_at, cochain_in, IsClosedIn, cochains_at}, declared.basis.Column.Column}
use Rattle.bockstein.specs.{Matrices.{IsBocksteinColumn, IsBocksteinMatrix, values_of}, Places.IsBocksteinAt}

each-item : {X : Type 0} (P : X → Type 0) (xs : List X) (i : ℕ) (x : X) → slice_get xs i ≡ Some x → Each P xs → P x
each-item P xs i x e h = subst P (get_or_from_slice_get xs i x x e) (each_get_or P xs i x (slice_get_within xs i x e) h)

-- one item more
pub item-more : {X Y : Type 0} (R : X → Y → Type 0) (xs : List X) (i : ℕ) (ys new : List Y) (y : Y) → i < length xs → AllZip R (take i xs) ys → ((x : X) → slice_get xs (i + 1 - 1) ≡ Some x → R x y) → new ≡ ys ++ y ∷ [] → AllZip R (take (i + 1) xs) new
item-more R [] i ys new y l h k e = absurd (omega (arith, l))
item-more R (x ∷ xs) i ys new y l h k e =
    let here = x ∷ xs in
    let back : i + 1 - 1 ≡ i = omega arith in
    rw (e, take_more here i x l) (zip_push R (take i here) ys (get_or here i x) y h (k (get_or here i x) (ap (slice_get here) back ∙ slice_get-get_or here i x l)))

module _ (p : ℕ) (keeps : Bool) (levels : List (List (List ℕ))) (classes : ℕ → List (Cochain p)) (canonical : (n : ℕ) → AreCanonicalIn p levels n (classes n)) (is_served : IsTrue (served p)) where
  abbrev field : IsField p
  field = served_field p is_served

  abbrev classes_at : ℕ → List SimplexCochain
  classes_at n = cochains_at {p = p} levels n (classes n)

  -- ---- one column

  basis-in : (facets : List (List ℕ)) → IsIndexOf facets levels → (n : ℕ) → IsCohomologyBasis facets n p (classes_at n)
  basis-in facets is n = ((canonical n).basis facets is).basis

  pub class-placed : (n i : ℕ) (z : Cochain p) → slice_get (classes n) i ≡ Some z → IsPlaced p levels n z
  class-placed n i z e = each-item (IsPlaced p levels n) (classes n) i z e (canonical n).placed

  pub class-closed : (n i : ℕ) (z : Cochain p) → slice_get (classes n) i ≡ Some z → IsClosedIn p levels z
  class-closed n i z e facets is =
      let terms : Cochain p → Chain = λ (c : Cochain p). terms_of (level levels n) c.row in
      let each = each_unmap (λ (t : Chain). IsCocycle facets n p (cochain_of t)) terms (classes n) (each_unmap (IsCocycle facets n p) cochain_of (chains_at {p = p} (level levels n) (classes n)) (basis-in facets is n).cocycles) in
      subst (λ (m : ℕ). IsCocycle facets m p (cochain_in levels m z.row)) (sym (class-placed n i z e).degree) (each-item (λ (c : Cochain p). IsCocycle facets n p (cochain_in levels n c.row)) (classes n) i z e each)

  -- its places are those of its degree
  pub class-inside : (n i : ℕ) (z : Cochain p) → slice_get (classes n) i ≡ Some z → IsBelow (length (level levels z.degree)) z.row
  class-inside n i z e = let h = class-placed n i z e in subst (λ (m : ℕ). IsBelow (length (level levels m)) z.row) (sym h.degree) h.inside

  -- the Bockstein by place agrees with the Bockstein
  agrees : (facets : List (List ℕ)) → IsIndexOf facets levels → (z b : Cochain p) → IsBocksteinAt {p = p} levels z b →
      AgreesOnSimplices facets (z.degree + 1) p (cochain_in levels (z.degree + 1) b.row) (bockstein p (cochain_in levels z.degree z.row))
  agrees facets is z b h =
      let n : ℕ = z.degree + 1 in
      agree_by_place facets n p (level levels n) (is.lists n) (cochain_in levels n b.row) (bockstein p (cochain_in levels z.degree z.row))
      (λ k l. Congruent_of (value_by_place facets n p (level levels n) (is.lists n) b.row k l ∙ h.values k l))

  pub made-closed : (z b : Cochain p) → IsBocksteinAt {p = p} levels z b → IsClosedIn p levels b
  made-closed z b h facets is =
      subst (λ (n : ℕ). IsCocycle facets n p (cochain_in levels n b.row)) (sym h.degree)
      ((cocycles facets (z.degree + 1) p field.large).alike (cochain_in levels (z.degree + 1) b.row) (bockstein p (cochain_in levels z.degree z.row)) (agrees facets is z b h)
      (closed p field facets z.degree (cochain_in levels z.degree z.row) (h.closed facets is)))

  pub column-is : (n i : ℕ) (z w b : Cochain p) (c : Column p) → slice_get (classes n) i ≡ Some z → slice_get (classes n) i ≡ Some w → IsBocksteinAt {p = p} levels z b →
      (IsClosedIn p levels b → IsColumnOf p keeps levels (classes b.degree) b c.values.items c.primitive) → IsBocksteinColumn {p = p} keeps levels classes n w c
  column-is n i z w b c at_z at_w h column =
      let here = (class-placed n i z at_z).degree in
      subst (λ (x : Cochain p). IsBocksteinColumn {p = p} keeps levels classes n x c) (item z w (sym at_z ∙ at_w)) (record {
        degree = here;
        result = b;
        is_result = h;
        is_column = subst (λ (m : ℕ). IsColumnOf p keeps levels (classes m) b c.values.items c.primitive) (h.degree ∙ ap (λ m. m + 1) here) (column (made-closed z b h));
      })
    where
      item : (z w : Cochain p) → Some z ≡ Some w → z ≡ w
      item z w e = cc

  -- ---- the matrix

  pub count-classes : (n : ℕ) → length (classes_at n) ≡ length (classes n)
  count-classes n = length-map (chains_at {p = p} (level levels n) (classes n)) cochain_of ∙ length-map (classes n) (λ (c : Cochain p). terms_of (level levels n) c.row)

  module _ (n : ℕ) (facets : List (List ℕ)) (is : IsIndexOf facets levels) where
    value-column : (z : Cochain p) (c : Column p) → IsBocksteinColumn {p = p} keeps levels classes n z c → HasCoordinates facets (n + 1) p (classes_at (n + 1)) (bockstein p (cochain_in levels n z.row)) c.values.items
    value-column z c h =
        let P : ℕ → Type 0 = λ m. HasCoordinates facets (m + 1) p (cochains_at {p = p} levels (m + 1) (classes (n + 1))) (bockstein p (cochain_in levels m z.row)) c.values.items in
        let Q : ℕ → Type 0 = λ m. HasCoordinates facets m p (cochains_at {p = p} levels m (classes (n + 1))) (cochain_in levels m h.result.row) c.values.items in
        let a = agrees facets is z h.result h.is_result in
        subst P h.degree
        (coordinates-alike p field.large (coboundaries facets (z.degree + 1) p field.large) (cochains_at {p = p} levels (z.degree + 1) (classes (n + 1)))
        (bockstein p (cochain_in levels z.degree z.row)) (cochain_in levels (z.degree + 1) h.result.row) c.values.items
        (record { at = λ s on. Congruent_sym (a.at s on) }) (subst Q h.is_result.degree (h.is_column.coordinates facets is)))

    pub value-columns : (zs : List (Cochain p)) (cs : List (Column p)) → AllZip (IsBocksteinColumn {p = p} keeps levels classes n) zs cs →
        AllZip (λ column z. HasCoordinates facets (n + 1) p (classes_at (n + 1)) (bockstein p z) column) (values_of {p = p} cs) (cochains_at {p = p} levels n zs)
    value-columns [] [] h = tt
    value-columns [] (c ∷ cs) h = absurd h
    value-columns (z ∷ zs) [] h = absurd h
    value-columns (z ∷ zs) (c ∷ cs) h = (value-column z c h.0, value-columns zs cs h.1)

  pub bockstein-matrix : (n : ℕ) (cs : List (Column p)) → AllZip (IsBocksteinColumn {p = p} keeps levels classes n) (classes n) cs → IsBocksteinMatrix {p = p} keeps levels classes n cs
  bockstein-matrix n cs h = record {
    each = h;
    carries = λ facets z ds is hz.
        subst (λ (k : ℕ). HasCoordinates facets (n + 1) p (classes_at (n + 1)) (bockstein p z) (matrix_times p k (values_of {p = p} cs) ds)) (count-classes (n + 1))
        (matrix p field facets n (classes_at n) (classes_at (n + 1)) (values_of {p = p} cs) (basis-in facets is n).cocycles (value-columns n facets is (classes n) cs h) z ds hz);
    powers = λ facets q s z b c power both is e cz hb hc here above.
        let m : ℕ = q + 2 * s * (p - 1) in
        let columns = subst (λ (k : ℕ). AllZip (λ column z. HasCoordinates facets (k + 1) p (classes_at (k + 1)) (bockstein p z) column) (values_of {p = p} cs) (classes_at k)) e (value-columns n facets is (classes n) cs h) in
        subst (λ (k : ℕ). both ≡ matrix_times p (length (classes (k + 1))) (values_of {p = p} cs) power) (sym e)
        (power_law.product facets p s q (classes_at m) (classes_at (m + 1)) (values_of {p = p} cs) field (basis-in facets is m).cocycles (basis-in facets is (m + 1)) columns z b c power both cz hb hc
        (subst (λ (k : ℕ). HasCoordinates facets k p (classes_at k) b power) e here) (subst (λ (k : ℕ). HasCoordinates facets (k + 1) p (classes_at (k + 1)) c both) e above)
        ∙ ap (λ (k : ℕ). matrix_times p k (values_of {p = p} cs) power) (count-classes (m + 1)));
  }

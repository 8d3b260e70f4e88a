-- Pull-backs of classes, and the matrices of their columns.
use Rattle.std.{proofs.Common.{◌≡◌, ℕ, Bool, List, [], ◌∷◌, map, sym, ap, subst, IsTrue}, specs.List.AllZip}
use Rattle.fp_field.{specs.Served.served, proofs.ServedLemmas.{served_field, served_large}}
use Rattle.linear_law.{proofs.Names.{Congruent_of, Congruent_trans}, specs.Names.matrix_times}
use Rattle.simplicial_law.{specs.Names.{AgreesOnSimplices, Cochain as SimplexCochain, HasCoordinates, cochain_of}, proofs.Names.{cocycles, agree_by_place}}
use Rattle.steenrod_law.{specs.Names.pull_back, proofs.LawProofs.induced_map_law}
use Rattle.complex_index.specs.{declared.indexed.Cochain.Cochain, Names.{IsIndexOf, level, IsPullBackOf}}
use Rattle.cohomology.specs.{declared.basis.Column.Column, Names.{IsColumnOf, AreCanonicalIn, cochain_in, IsClosedIn, cochains_at}}
use Rattle.may_steenrod.{specs.Cochains.IsClosed, proofs.OnLemmas.value_by_place}
use Rattle.report_law.specs.Names.{IsColumn, cochains_in}
use Rattle.op_matrix.{specs.Columns.{listed_columns, primitive_terms, values_of}, proofs.ColumnLemmas.column-for, proofs.TableLemmas.{column-alike, count-classes}}
use Rattle.induced_map.specs.Induced.{IsInducedMatrix, IsMapIn, IsPulledColumn}

module _ (p : ℕ) (detailed : Bool) (f : ℕ → ℕ) (from to : List (List (List ℕ))) (classes : ℕ → List (Cochain p)) (canonical : (n : ℕ) → AreCanonicalIn p from n (classes n)) (is_served : IsTrue (served p)) (is_map : IsMapIn f from to) where
  -- the row of a pull-back has its values
  pulled-values : (facets : List (List ℕ)) → IsIndexOf facets from → (q : ℕ) (high row : List (ℕ × ℕ)) → IsPullBackOf p f from to q high row
      → AgreesOnSimplices facets q p (cochain_in from q row) (pull_back f (cochain_in to q high))
  pulled-values facets is q high row h =
      agree_by_place facets q p (level from q) (is.lists q) (cochain_in from q row) (pull_back f (cochain_in to q high))
      (λ k l. Congruent_trans (Congruent_of (value_by_place facets q p (level from q) (is.lists q) row k l)) (h.values k l))

  pub pulled-column : (q : ℕ) (z r : Cochain p) (c : Column p) → IsClosed p to q z.row → r.degree ≡ q → IsPullBackOf p f from to q z.row r.row
      → (IsClosedIn p from r → IsColumnOf p detailed from (classes r.degree) r c.values.items c.primitive) → IsPulledColumn {p = p} detailed f from to classes q z c
  pulled-column q z r c closed degree pulled column =
      let at_q : IsClosed p from q r.row = λ facets is. (
      let M = cocycles facets q p (served_large p is_served) in
      let high = induced_map_law.cocycles f facets is_map.target p q (cochain_in to q z.row) (served_field p is_served) (is_map.simplicial facets is_map.target is is_map.is_target) (closed is_map.target is_map.is_target) in
      M.alike (cochain_in from q r.row) (pull_back f (cochain_in to q z.row)) (pulled-values facets is q z.row r.row pulled) high) in
      let at_r : IsClosedIn p from r = subst (λ (m : ℕ). IsClosed p from m r.row) (sym degree) at_q in
      record {
        is_column = λ facets is.
            column-alike p detailed from classes canonical is_served facets q (classes q) (cochain_in from q r.row) (pull_back f (cochain_in to q z.row)) c (pulled-values facets is q z.row r.row pulled)
            (column-for facets from p is detailed classes q r c degree (column at_r));
      }

  module _ (target : ℕ → List (Cochain p)) (q : ℕ) where
    abbrev IsFor : Cochain p → Column p → Type 0
    IsFor z c = IsPulledColumn {p = p} detailed f from to classes q z c

    listed-of : (facets : List (List ℕ)) → IsIndexOf facets from → (us : List SimplexCochain) → us ≡ cochains_at {p = p} from q (classes q) → (zs : List (Cochain p)) (cs : List (Column p)) → AllZip IsFor zs cs
        → AllZip (λ z c. IsColumn detailed facets q p us (pull_back f z) c.values c.primitive) (cochains_at {p = p} to q zs) (listed_columns {p = p} from q cs)
    listed-of facets is us e [] [] h = tt
    listed-of facets is us e [] (c ∷ cs) h = absurd h
    listed-of facets is us e (z ∷ zs) [] h = absurd h
    listed-of facets is us e (z ∷ zs) (c ∷ cs) h = (
      subst (λ (vs : List SimplexCochain). IsColumn detailed facets q p vs (pull_back f (cochain_in to q z.row)) c.values.items (primitive_terms {p = p} from q c.primitive)) (sym e) (h.0.is_column facets is),
      listed-of facets is us e zs cs h.1,
    )

    values-for : (facets : List (List ℕ)) → IsIndexOf facets from → (zs : List (Cochain p)) (cs : List (Column p)) → AllZip IsFor zs cs
        → AllZip (λ column u. HasCoordinates facets q p (cochains_at {p = p} from q (classes q)) u column) (values_of {p = p} cs) (map (pull_back f) (cochains_at {p = p} to q zs))
    values-for facets is [] [] h = tt
    values-for facets is [] (c ∷ cs) h = absurd h
    values-for facets is (z ∷ zs) [] h = absurd h
    values-for facets is (z ∷ zs) (c ∷ cs) h = ((h.0.is_column facets is).coordinates, values-for facets is zs cs h.1)

    pub induced-matrix : (cs : List (Column p)) → AllZip IsFor (target q) cs → IsInducedMatrix {p = p} detailed f from to classes target q cs
    induced-matrix cs h = record {
      listed = λ facets sources targets is s t.
          let e : cochains_in sources q ≡ cochains_at {p = p} from q (classes q) = ap (map cochain_of) (s.each q) in
          subst (λ (ws : List SimplexCochain). AllZip (λ z c. IsColumn detailed facets q p (cochains_in sources q) (pull_back f z) c.values c.primitive) ws (listed_columns {p = p} from q cs))
          (sym (ap (map cochain_of) (t.each q))) (listed-of facets is (cochains_in sources q) e (target q) cs h);
      carries = λ facets others w ds is there closed coordinates.
          let simplicial = is_map.simplicial facets others is there in
          let us : List SimplexCochain = cochains_at {p = p} from q (classes q) in (
            induced_map_law.cocycles f facets others p q w (served_field p is_served) simplicial closed,
            subst (λ (k : ℕ). HasCoordinates facets q p us (pull_back f w) (matrix_times p k (values_of {p = p} cs) ds)) (count-classes p detailed from classes canonical is_served q)
                (induced_map_law.matrix f facets others p q us (cochains_at {p = p} to q (target q)) (values_of {p = p} cs) (served_field p is_served) simplicial (values-for facets is (target q) cs h) w ds coordinates),
          );
    }

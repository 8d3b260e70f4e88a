-- Induced matrices, listed or not, and how they go with the matrices of operations.
use Rattle.std.{proofs.Common.{◌≡◌, Bool, ℕ, inl, inr, List, [], ◌∷◌, map, length, sym, subst, IsTrue}, specs.List.AllZip}
use Rattle.fp_field.{specs.Served.served, proofs.ServedLemmas.served_field, specs.Orbits.orbit_words}
use Rattle.linear_law.{specs.Names.{IsField, Among, Each}, proofs.Names.each_among}
use Rattle.simplicial_law.specs.Names.{Chain, Cochain, HasCoordinates, IsCocycle, IsCohomologyBasis, cochain_of}
use Rattle.steenrod_law.{proofs.InducedMaps.{matrices-commute, pull_back-cocycle, pull_back-matrix}, proofs.OrbitTables.orbit_words_law, specs.Names.{IsSimplicial, pull_back, copies}}
use Rattle.report_law.{specs.Types.{Column, ComplexPart, MapPart}, specs.Names.{IsColumn, InducedPromise, listed, blocks, element_degree, induced_degrees, target_degree, classes_in, ranks, block_of, classes_of, induced_matrix, matrix_of, operation_matrix, IsInducedPart, IsOperationPart}, proofs.Blocks.{in-induced, induced-found, rank-or-none}, proofs.Carrying.{any_basis, matrix-columns}, proofs.Coordinates.{AreBases, no-coordinates}, proofs.ScaledForms.scaled}

module _ (p : ℕ) (is_served : IsTrue (served p)) (f : ℕ → ℕ)
    (K : List (List ℕ)) (from : ComplexPart) (are_K : AreBases K p (classes_of from))
    (L : List (List ℕ)) (to : ComplexPart) (are_L : AreBases L p (classes_of to))
    (simplicial : IsSimplicial f K L) (detailed : Bool) (m : MapPart)
    (are_induced : map (λ x. x.q) m.induced ≡ induced_degrees (ranks (classes_of from)) (ranks (classes_of to))) (each : Each (IsInducedPart detailed f K p (classes_of from) (classes_of to)) m.induced) where
  abbrev field : IsField p
  field = served_field p is_served

  basis_K : (n : ℕ) → IsCohomologyBasis K n p (listed from n)
  basis_K n = any_basis K p is_served from are_K n

  basis_L : (n : ℕ) → IsCohomologyBasis L n p (listed to n)
  basis_L n = any_basis L p is_served to are_L n

  abbrev IsPulledColumn : ℕ → List ℕ → Cochain → Type 0
  IsPulledColumn q column u = HasCoordinates K q p (listed from q) u column

  listed-columns : (q : ℕ) (ws : List Cochain) (ys : List Column) → AllZip (λ w y. IsColumn detailed K q p (listed from q) (pull_back f w) y.values y.primitive) ws ys
      → AllZip (IsPulledColumn q) (matrix_of ys) (map (pull_back f) ws)
  listed-columns q [] [] h = tt
  listed-columns q (w ∷ ws) (y ∷ ys) h = (h.0.coordinates, listed-columns q ws ys h.1)
  listed-columns q _ _ h = absurd h

  no-rows : (q : ℕ) → classes_in (classes_of from) q ≡ [] → (ts : List Chain) → Each (IsCocycle L q p) (map cochain_of ts) → AllZip (IsPulledColumn q) (copies (length ts) []) (map (pull_back f) (map cochain_of ts))
  no-rows q e [] h = tt
  no-rows q e (t ∷ ts) h =
      let u : Cochain = pull_back f (cochain_of t) in
      let empty : IsCohomologyBasis K q p [] = subst (λ (us : List Chain). IsCohomologyBasis K q p (map cochain_of us)) e (basis_K q) in (
        subst (λ (us : List Chain). HasCoordinates K q p (map cochain_of us) u []) (sym e) (no-coordinates K q p u empty (pull_back-cocycle f K L p field simplicial q (cochain_of t) h.0)),
        no-rows q e ts h.1,
      )

  pub induced-columns : (q : ℕ) → AllZip (IsPulledColumn q) (induced_matrix to m q) (map (pull_back f) (listed to q))
  induced-columns q =
      elim (induced-found (copies (length (classes_in (classes_of to) q)) []) q m.induced) [
        | inl g ↦
            let x = g.block in
            let block = each_among (IsInducedPart detailed f K p (classes_of from) (classes_of to)) x m.induced each g.listed in
            let columns = listed-columns x.q (listed to x.q) x.columns block in
            subst (λ (a : List (List ℕ)). AllZip (IsPulledColumn q) a (map (pull_back f) (listed to q))) (sym g.matrix_is)
            (subst (λ (k : ℕ). AllZip (IsPulledColumn k) (matrix_of x.columns) (map (pull_back f) (listed to k))) g.degree columns)
        | inr none ↦
            subst (λ (a : List (List ℕ)). AllZip (IsPulledColumn q) a (map (pull_back f) (listed to q))) (sym none.0)
            (elim (rank-or-none (classes_of from) q) [
              | inr e ↦ no-rows q e (classes_in (classes_of to) q) (basis_L q).cocycles
              | inl here ↦ elim (rank-or-none (classes_of to) q) [
                | inr e ↦ subst (λ (ts : List Chain). AllZip (IsPulledColumn q) (copies (length ts) []) (map (pull_back f) (map cochain_of ts))) (sym e) tt
                | inl there ↦ absurd (none.1 (subst (λ (qs : List ℕ). Among q qs) (sym are_induced) (in-induced (ranks (classes_of from)) (ranks (classes_of to)) q here there)))
              ]
            ])
      ]

  pub induced_promise : map block_of from.operations ≡ blocks p (ranks (classes_of from)) → Each (IsOperationPart detailed K p (classes_of from)) from.operations
      → map block_of to.operations ≡ blocks p (ranks (classes_of to)) → Each (IsOperationPart detailed L p (classes_of to)) to.operations → InducedPromise f K L p from to m
  induced_promise a b c d = record {
    commute = λ op q defined. (
        let constant = scaled p op q is_served defined in
        let n : ℕ = target_degree p q op in
        matrices-commute f K L p field simplicial (element_degree p q op) constant.scale q n (orbit_words p) (orbit_words_law p is_served) (listed from q) (listed from n) (listed to q) (listed to n)
        (operation_matrix from op q) (induced_matrix to m q) (operation_matrix to op q) (induced_matrix to m n)
        (basis_K q).cocycles (basis_K n) (basis_L q).cocycles
        (matrix-columns K p is_served from are_K detailed a b op q constant defined)
        (matrix-columns L p is_served to are_L detailed c d op q constant defined)
        (induced-columns q) (induced-columns n));
    carries = λ q z cs closed coordinates.
        pull_back-matrix f K L p field simplicial q (listed from q) (listed to q) (induced_matrix to m q) (induced-columns q) z cs coordinates;
  }

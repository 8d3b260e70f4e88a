use Rattle.std.proofs.Common.{◌<◌, ◌≤◌, ◌∷◌, [], ◌++◌, ℕ, suc, List, take, drop, length, get_or, arith, sym, subst, add-one}
use Rattle.row_reduce.{proofs.Below.{AllZip, Congruent, unit_vector, Congruent_from, Congruent_mod, Congruent_mul, Congruent_of, Congruent_refl, Congruent_trans, served_field, IsRow, value_in}, specs.Names.{EchelonRow, Eliminated, cleared, combination_of, row_of, IsClearedBy, IsEliminated}, proofs.SumLemmas.row_read, proofs.EliminationLemmas.{eliminated_relation, eliminated_row}, proofs.eliminating.Eliminated.step.Goals.{in-Some+in_ok-newest+in_ok-echelon+in_ok-insert, in_default+in_ok-push}}
use Rattle.row_reduce.proofs.eliminating.Eliminated.step.Goals as goal

pub returns : goal.returns
returns g c =
    let p = g.row.P in
    let rows = c.args.rows.now in
    let low = c.args.low in
    let old = c.args.self.now in
    let echelon = old.echelon.items in
    let relations = old.relations.items in
    let S : Eliminated p → Type 0 = λ e. IsEliminated p rows low e.echelon.items e.relations.items in
    let h : IsEliminated p rows (suc low) echelon relations = subst (λ n. IsEliminated p rows n echelon relations) (add-one low) c.requires.eliminated in
    let row : List (ℕ × ℕ) = c.index-rows-low.result in
    let row_is = row_read rows low row c.index-rows-low.is c.requires.inside in
    let unit : List (ℕ × ℕ) = c.in_ok-combination.combination in
    let one : Congruent p c.new.result 1 = Congruent_trans (Congruent_of c.new.ensures) (Congruent_mod p 1) in
    let unit_is : (x : ℕ) → Congruent p (value_in unit x) (unit_vector low x) = λ x.
    Congruent_trans (Congruent_of (c.in_ok-combination.ensures.sum x))
    (Congruent_trans (Congruent_mod p (value_in ((low, c.new.result) ∷ []) x)) (Congruent_from (Congruent_mul one (Congruent_refl (unit_vector low x))) (omega arith))) in
    let rest : List (ℕ × ℕ) = c.clear.new.row in
    let combination : List (ℕ × ℕ) = c.clear.new.combination in
    let rest_is : (y : ℕ) → Congruent p (value_in rest y) (cleared row_of echelon (value_in row) (value_in row) y) = λ y.
    subst (λ (es : List (EchelonRow p)). Congruent p (value_in rest y) (cleared row_of es (value_in row) (value_in row) y)) c.as_slice.ensures.value
    (subst (λ (r : List (ℕ × ℕ)). Congruent p (value_in rest y) (cleared row_of c.as_slice.result.now (value_in row) (value_in r) y)) c.in_ok-rest.ensures.same (c.in_ok-clear.ensures.row y)) in
    let combination_is : (x : ℕ) → Congruent p (value_in combination x) (cleared combination_of echelon (value_in row) (value_in unit) x) = λ x.
    subst (λ (es : List (EchelonRow p)). Congruent p (value_in combination x) (cleared combination_of es (value_in row) (value_in unit) x)) c.as_slice.ensures.value (c.in_ok-clear.ensures.combination x) in
    let rows_are : IsRow p rest × IsRow p combination = (c.in_ok-clear.ensures.is_row c.in_ok-rest.ensures.row, subst (IsRow p) c.combination.view_is c.combination.invariant) in
    let field = served_field p c.requires.prime in
    elim c.match-lead.branch [
      | in-Some+in_ok-newest+in_ok-echelon+in_ok-insert w ↦
          let x : EchelonRow p = w.in_ok-newest.newest in
          let olds = w.in_ok-echelon.echelon.items in
          let at = w.place_for-at.result in
          let same = w.as_slice-in-Some-2.ensures.value in
          let z : AllZip (IsClearedBy p x) echelon olds = subst (λ (es : List (EchelonRow p)). AllZip (IsClearedBy p x) es olds) w.as_slice-in-Some.ensures.value w.in_ok-echelon.ensures in
          let more : IsEliminated p rows low (take at olds ++ (x ∷ drop at olds)) relations =
          eliminated_row p field rows low c.requires.inside echelon relations h row unit rest combination row_is unit_is rows_are rest_is combination_is
          w.in-Some.pivot w.in-Some.ensures x w.in_ok-newest.ensures olds z at
          (λ i d b. subst (λ (es : List (EchelonRow p)). (get_or es i d).pivot < w.in-Some.pivot) same (w.place_for-at.ensures.before i d b))
          (λ d b. subst (λ (es : List (EchelonRow p)). w.in-Some.pivot ≤ (get_or es at d).pivot) same (w.place_for-at.ensures.here d (subst (λ (es : List (EchelonRow p)). at < length es) (sym same) b)))
          (subst (λ (es : List (EchelonRow p)). at ≤ length es) same w.place_for-at.ensures.inside) in
          subst S (sym w.self-is) (subst (λ (es : List (EchelonRow p)). IsEliminated p rows low es relations) (sym w.in_ok-insert.ensures.items) more)
      | in_default+in_ok-push w ↦
          subst S (sym w.self-is) (subst (IsEliminated p rows low echelon) (sym w.in_ok-push.ensures.items)
          (eliminated_relation p field rows low c.requires.inside echelon relations h row unit rest combination row_is unit_is rows_are rest_is combination_is w.in_default.ensures))
    ]

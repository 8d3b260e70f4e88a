-- Cartan differences agree, and what the answer of a line shows.
use Rattle.std.{proofs.Common.{◌≡◌, ℕ, zero, suc, ◌+◌, ◌-◌, ◌<◌, inl, inr, ◌&&◌, true, List, [], ◌∷◌, map, length, get_or, arith, refl, sym, ap, subst, ◌∙◌, IsTrue, ℤ}, specs.List.AllZip, proofs.lemmas.Bool.and_parts, proofs.lemmas.List.length-map}
use Rattle.fp_field.{specs.Served.served, proofs.ServedLemmas.served_field}
use Rattle.signed_sum.specs.Names.{numbers_from}
use Rattle.linear_law.{specs.Names.{Congruent, IsField, sum_over, Among, Each, IsAscending}, proofs.Names.{Congruent_add, Congruent_of, Congruent_refl, Congruent_scale, Congruent_sym, Congruent_trans, among_map, each_among, each_get_or}}
use Rattle.simplicial_law.{specs.Names.{IsSimplex, AgreesOnSimplices, Chain, Cochain, IsCoboundary, coboundary, AreCanonicalBases, IsCanonicalBasis, cochain_of, CongruentInt}, proofs.Names.{coboundaries, coboundary_zero, CongruentInt_of, CongruentInt_sym, CongruentInt_trans, integral_congruence_law}}
use Rattle.interval_cut_law.specs.Names.{operation_value}
use Rattle.steenrod_law.{proofs.Complexes.{extended-cochain, extended-simplex, residue_cochain-same, simplex_or_none, weak-closed, weak_of_simplex}, proofs.OperationLaws.{to_residues, vertices}, proofs.ValuesOnFaces.value-at, specs.Names.{IsWeakSimplex, cup_product, extended}}
use Rattle.report_law.{specs.Types.{CartanAnswer, Yes, No, CartanPart, ComplexPart, Form, Line, Op}, specs.Names.{IsAnswer, IsObstruction, IsPrimitive, IsCartanDifference, IsCartanProduct, IsOperation, CartanPromise, IsBoundedBy, IsDetectedBy, Says, all_lines, cartan_op, cartan_pairs, has_class, is_defined, lines, target_degree, class_at, classes_in, line_degree, ranks, classes_of, line_of, IsCartanPart}, proofs.Blocks.has-degree, proofs.Coordinates.{agrees-sym, agrees-trans, bound-coordinates}, proofs.Cycles.{is_cycle, pairs-alike-on, reads}, proofs.Lists.{each-of, of-filter}, proofs.ScaledForms.scaled}
use Rattle.report.specs.Names.{has_details}

-- both operations of each pair are defined
pub pairs-defined : (p a b n : ℕ) → Each (λ e. (is_defined p a (cartan_op p e.0) && is_defined p b (cartan_op p e.1)) ≡ true) (cartan_pairs p a b n)
pairs-defined p a b n = each-of (λ (e : ℕ × ℕ). (is_defined p a (cartan_op p e.0) && is_defined p b (cartan_op p e.1)) ≡ true) (cartan_pairs p a b n)
    (λ e m. (of-filter (λ (f : ℕ × ℕ). is_defined p a (cartan_op p f.0) && is_defined p b (cartan_op p f.1)) (map (λ i. (i, n - i)) (numbers_from 0 (n + 1))) e m).1)

module _ (facets : List (List ℕ)) (p : ℕ) (field : IsField p) where
  -- extensions of cochains that agree are congruent on weak simplices
  pub extended-alike : (q : ℕ) (a b : Cochain) → AgreesOnSimplices facets q p a b → (f : List ℕ) → IsWeakSimplex facets f → CongruentInt p (extended q a f) (extended q b f)
  extended-alike q a b h f w = elim (simplex_or_none facets q f w) [
    | inl on ↦
        CongruentInt_trans (CongruentInt_of (extended-simplex facets q a f on))
        (CongruentInt_trans (integral_congruence_law.whole p (a f) (b f) (h.at f on)) (CongruentInt_of (sym (extended-simplex facets q b f on))))
    | inr none ↦ CongruentInt_of (none.zero_there (extended q a) (extended-cochain q a) ∙ sym (none.zero_there (extended q b) (extended-cochain q b)))
  ]

  abbrev cup : (List ℕ → ℤ) → (List ℕ → ℤ) → List ℕ → ℤ
  cup c e s = operation_value 2 (1 ∷ 2 ∷ []) (c ∷ e ∷ []) s

  -- products of cochains that agree
  pub product-alike : (q k n : ℕ) (a b x y : Cochain) → AgreesOnSimplices facets q p a b → AgreesOnSimplices facets k p x y → AgreesOnSimplices facets n p (cup_product p q k a x) (cup_product p q k b y)
  product-alike q k n a b x y h g = record { at = at }
    where
      at : (s : List ℕ) → IsSimplex facets n s → Congruent p (cup_product p q k a x s) (cup_product p q k b y s)
      at s on =
          let v = vertices p field facets n s on in
          let w = weak_of_simplex facets n s on in
          to_residues p field
          (CongruentInt_trans (residue_cochain-same p (cup (extended q a) (extended k x)) s field.large v)
          (CongruentInt_trans
          (value-at p 2 (1 ∷ 2 ∷ []) s (extended q a ∷ extended k x ∷ []) (extended q b ∷ extended k y ∷ []) (omega arith) v
          ((λ f c. extended-alike q a b h f (weak-closed facets f s c w)), ((λ f c. extended-alike k x y g f (weak-closed facets f s c w)), tt)))
          (CongruentInt_sym (residue_cochain-same p (cup (extended q b) (extended k y)) s field.large v))))

module _ (facets : List (List ℕ)) (p : ℕ) (is_served : IsTrue (served p)) where
  -- two results of one operation on one cochain agree
  pub operation-once : (op : Op) (q : ℕ) (z b c : Cochain) → is_defined p q op ≡ true → IsOperation facets p op q z b → IsOperation facets p op q z c → AgreesOnSimplices facets (target_degree p q op) p b c
  operation-once op q z b c d h k = let form = scaled p op q is_served d in agrees-trans (form.there facets z b h) (agrees-sym (form.there facets z c k))

  module _ (a b n : ℕ) (x y : Cochain) where
    abbrev target : ℕ
    target = target_degree p (a + b) (cartan_op p n)

    parts-alike : (pairs : List (ℕ × ℕ)) → Each (λ e. (is_defined p a (cartan_op p e.0) && is_defined p b (cartan_op p e.1)) ≡ true) pairs → (vs ws : List Cochain)
        → AllZip (λ e w. IsCartanProduct facets p a b x y e.0 e.1 w) pairs vs → AllZip (λ e w. IsCartanProduct facets p a b x y e.0 e.1 w) pairs ws
        → (s : List ℕ) → IsSimplex facets target s → Congruent p (sum_over (λ w. w s) vs) (sum_over (λ w. w s) ws)
    parts-alike [] d [] [] h k s on = Congruent_refl 0
    parts-alike [] d (v ∷ vs) ws h k s on = absurd h
    parts-alike (e ∷ pairs) d [] ws h k s on = absurd h
    parts-alike (e ∷ pairs) d (v ∷ vs) (w ∷ ws) h k s on =
        let i : Op = cartan_op p e.0 in
        let j : Op = cartan_op p e.1 in
        let defined = and_parts (is_defined p a i) (is_defined p b j) d.0 in
        let left = operation-once i a x h.0.left k.0.left defined.0 h.0.is_left k.0.is_left in
        let right = operation-once j b y h.0.right k.0.right defined.1 h.0.is_right k.0.is_right in
        let same = (product-alike facets p (served_field p is_served) (target_degree p a i) (target_degree p b j) target h.0.left k.0.left h.0.right k.0.right left right).at s on in
        Congruent_add
        (Congruent_trans (Congruent_of (ap (λ (c : Cochain). c s) h.0.product)) (Congruent_trans same (Congruent_of (ap (λ (c : Cochain). c s) (sym k.0.product)))))
        (parts-alike pairs d.1 vs ws h.1 k.1 s on)
    parts-alike _ d _ _ h k s on = absurd k

    -- two differences of one line agree
    pub difference-once : (d e : Cochain) → is_defined p (a + b) (cartan_op p n) ≡ true → IsCartanDifference facets p a b n x y d → IsCartanDifference facets p a b n x y e → AgreesOnSimplices facets target p d e
    difference-once d e defined h k =
        let whole = operation-once (cartan_op p n) (a + b) (cup_product p a b x y) h.whole k.whole defined h.is_whole k.is_whole in
        record {
          at = λ s on.
              Congruent_trans (h.difference.at s on)
              (Congruent_trans
              (Congruent_add (whole.at s on) (Congruent_scale (p - 1) (parts-alike (cartan_pairs p a b n) (pairs-defined p a b n) h.parts k.parts h.are_parts k.are_parts s on)))
              (Congruent_sym (k.difference.at s on)));
        }

-- what an answer for one cochain says of one that agrees with it
module _ (form : Form) (facets : List (List ℕ)) (ascending : Each IsAscending facets) (p : ℕ) (field : IsField p) (classes : List Chain) where
  bounded-by : (n : ℕ) (d e : Cochain) (primitive : Chain) → IsPrimitive facets n p d primitive → AgreesOnSimplices facets n p e d → IsBoundedBy facets n p e primitive
  bounded-by zero d e primitive h same = record {
    below = h.1;
    same = record {
      at = λ s on.
          Congruent_trans (Congruent_of (ap (λ (ts : Chain). coboundary p (cochain_of ts) s) h.1 ∙ coboundary_zero p s))
          (Congruent_sym (Congruent_trans (same.at s on) (h.0.at s on)));
    };
  }
  bounded-by (suc n) d e primitive h same = record {
    below = h.1;
    same = record {
      at = λ s on.
          let q : suc n ≡ n + 1 = omega arith in
          Congruent_sym (Congruent_trans (same.at s on) (h.0.same.at s (subst (λ (m : ℕ). IsSimplex facets m s) q on)));
    };
  }

  module _ (n : ℕ) (basis : IsCanonicalBasis facets n p classes) (d e : Cochain) (same : AgreesOnSimplices facets n p e d) where
    bound-alike : IsCoboundary facets n p e → IsCoboundary facets n p d
    bound-alike h = (coboundaries facets n p field.large).alike d e (agrees-sym same) h

    detected : (value : ℕ) (cycle : Chain) (h : IsObstruction (has_details form) facets n p classes d value cycle) → IsTrue (has_details form) → IsDetectedBy facets n p e value cycle
    detected value cycle h details =
        let k = h.cycle_of details in
        let on = k.class.canonical.pivot.lead.on in
        let inside : h.place < length classes = (let i = h.first.inside in let c = h.coordinates.count in let l = length-map classes cochain_of in omega (arith, i, c, l)) in
        record {
          cycle = is_cycle facets ascending n p field k.pivot on cycle k.cycle_at;
          pairs = Congruent_trans (pairs-alike-on facets ascending n p field k.pivot on cycle k.cycle_at e d same)
              (Congruent_trans (reads facets ascending n p field k.pivot on cycle k.cycle_at classes basis.canonical h.place inside k.class d h.values h.coordinates) (Congruent_of h.first.here));
        }

    pub says : (answer : CartanAnswer) → IsAnswer (has_details form) facets n p classes d answer → Says form facets n p e answer
    says (Yes primitive) h = ((coboundaries facets n p field.large).alike e d same h.0, λ details. bounded-by n d e primitive (h.1 details) same)
    says (No value cycle) h =
        let small : get_or h.values h.place 0 < p = each_get_or (λ v. v < p) h.values h.place 0 h.first.inside h.coordinates.small in
        let here = h.first.here in (
          λ bound. let z = bound-coordinates facets n p field.large (map cochain_of classes) basis.basis d h.values (bound-alike bound) h.coordinates h.place in
              let v = h.first.nonzero in absurd (omega (arith, z, here, v)),
          h.first.nonzero,
          omega (arith, small, here),
          detected value cycle h,
        )

-- ---- the lines of a complex

pub of-lines : (p : ℕ) (ranks : List ℕ) (l : Line) → Among l (lines p ranks) → (is_defined p (l.a + l.b) (cartan_op p l.n) ≡ true) × (has_class ranks (target_degree p (l.a + l.b) (cartan_op p l.n)) ≡ true)
of-lines p ranks l m =
    and_parts (is_defined p (l.a + l.b) (cartan_op p l.n)) (has_class ranks (target_degree p (l.a + l.b) (cartan_op p l.n)))
    (of-filter (λ (k : Line). is_defined p (k.a + k.b) (cartan_op p k.n) && has_class ranks (target_degree p (k.a + k.b) (cartan_op p k.n))) (all_lines ranks) l m).1

module _ (form : Form) (facets : List (List ℕ)) (ascending : Each IsAscending facets) (p : ℕ) (is_served : IsTrue (served p)) (c : ComplexPart) (are : AreCanonicalBases facets p (classes_of c))
    (are_lines : map line_of c.cartans ≡ lines p (ranks (classes_of c))) (each : Each (IsCartanPart (has_details form) facets p (classes_of c)) c.cartans) where
  cartan_promise : (l : CartanPart) → Among l c.cartans → CartanPromise form facets p c l
  cartan_promise l m e is =
      let a : Among (line_of l) (map line_of c.cartans) = among_map line_of l (line_of l) c.cartans m refl in
      let live = of-lines p (ranks (classes_of c)) (line_of l) (subst (λ (ls : List Line). Among (line_of l) ls) are_lines a) in
      let verdict = each_among (IsCartanPart (has_details form) facets p (classes_of c)) l c.cartans each m in
      let n : ℕ = line_degree p (line_of l) in
      let low : n < length (classes_of c) = (let b = has-degree (ranks (classes_of c)) n live.1 in let k = length-map (classes_of c) (λ cs. length cs) in omega (arith, b, k)) in
      let same = difference-once facets p is_served l.a l.b l.n (class_at (classes_of c) l.a l.i) (class_at (classes_of c) l.b l.j) e verdict.difference live.0 is verdict.is_difference in
      says form facets ascending p (served_field p is_served) (classes_in (classes_of c) n) n (are.each n low) verdict.difference e same l.answer verdict.is_answer

  pub cartan_promises : Each (CartanPromise form facets p c) c.cartans
  cartan_promises = each-of (CartanPromise form facets p c) c.cartans cartan_promise

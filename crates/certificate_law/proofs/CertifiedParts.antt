-- Where a report certifies, the headline holds of what it lists.
use Rattle.std.{proofs.Common.{◌≡◌, ℕ, ◌<◌, ◌≤◌, ◌||◌, Bool, true, false, cond, IsTrue, inl, inr, refl, sym, ◌∙◌, subst, arith, mod-eq_of_lt, List, [], ◌∷◌, ◌++◌, length, map, slice_get, Some}, specs.Str.bytes_eq}
use native.Mathlib.Nat.{zero-mod}
use Rattle.fp_field.{specs.Served.served, proofs.ServedLemmas.served_field}
use Rattle.linear_law.{specs.Names.{Congruent, IsField, Among, Each, IsAscending}, proofs.Names.{Congruent_sym, Congruent_trans, among_map, each_among, each_of_index}}
use Rattle.simplicial_law.specs.Names.{AgreesOnSimplices, Cochain, coboundary, cochain_of}
use Rattle.certificate_law.{specs.Types.{Sent, CartanAnswer, Yes, No, CartanPart, OperationPart, ProductPart, ComplexPart, Certificate, Report, InducedPart, MapPart, Line}, specs.Names.{Certifies, IsRightAnswer, complex_names, CertifiedLaw, MapShown, line_said, verdict_said, complex_named, itself, rank_in, answer_stated, behind, cartan_stated, facet_stands, induced_stated, map_ends, map_stated, numbered, operation_stated, product_stated, send_stands}, proofs.Asked.{ComplexAsked, IsAsAsked, complex_asked, each_left, each_right, lines_asked, map_asked, numbered_part}, proofs.CartanVerdicts.{coboundary_pairs, pairing_alike}, proofs.CertifiedBases.printed_bases, proofs.Columns.{induced_part, operation_part, product_part}, proofs.ListedBases.nowhere, proofs.Places.{numbered_heads, placed_from_start}, proofs.WellFormed.{are_terms, are_terms_below, facet_ascends, value_bounds}}
use Rattle.complex_file.specs.Names.{has_name}
use Rattle.report_law.{specs.Names.{CartanPromise, ComplexPromise, ProductPromise, Says, blocks, induced_degrees, lines, IsLineDifference, class_at, line_degree, block_of, classes_of, line_of, number_pairs, ranks_of, IsInducedPart, IsOperationPart}, proofs.Names.{bases_promise, operation_promises, product_promise, AreBases, agrees-sym, simplicial, induced_promise, difference-once, of-lines}}
use Rattle.report_text_law.specs.{Names.is_line, WellFormed.is_well_formed}

-- ---- complexes

module _ (p : ℕ) (is_served : IsTrue (served p)) (c : ComplexPart) (a : ComplexAsked p c) where
  field : IsField p
  field = served_field p is_served

  pub ascending : Each IsAscending c.facets
  ascending = go [] c.facets a.facets
    where
      go : (before fs : List (List ℕ)) → Each (IsAsAsked p) (behind (λ fs f. facet_stands fs f ∷ []) before fs) → Each IsAscending fs
      go before [] h = tt
      go before (f ∷ fs) h = (facet_ascends f h.0.formed, go (before ++ f ∷ []) fs h.1)

  pub bases : AreBases c.facets p (classes_of c)
  bases = printed_bases p c (served_field p is_served) ascending a

  pub live_blocks : map block_of c.operations ≡ blocks p (ranks_of c)
  live_blocks =
      placed_from_start block_of (blocks p (ranks_of c)) c.operations
      (numbered_heads (IsAsAsked p) (operation_stated c) (λ k x. slice_get (blocks p (ranks_of c)) k ≡ Some (block_of x)) (λ k x h. h.0.asked 5) 0 c.operations a.operations) (a.ends.asked 5).operations

  live_lines : map line_of c.cartans ≡ lines p (ranks_of c)
  live_lines =
      placed_from_start line_of (lines p (ranks_of c)) c.cartans
      (numbered_heads (IsAsAsked p) (cartan_stated c) (λ k x. slice_get (lines p (ranks_of c)) k ≡ Some (line_of x)) (λ k x h. h.0.asked 5) 0 c.cartans a.cartans) (a.ends.asked 5).cartans

  pub operations : Each (IsOperationPart false c.facets p (classes_of c)) c.operations
  operations =
      each_of_index (IsOperationPart false c.facets p (classes_of c)) c.operations
      (λ x m.
      let f = numbered_part (IsAsAsked p) (operation_stated c) 0 c.operations x m a.operations in
      operation_part p (served_field p is_served).large c x f.0 f.1 (each_among (λ (x : OperationPart). rank_in c x.from ≤ length x.columns) x c.operations (a.ends.asked 5).operation_columns m))

  products : Each (ProductPromise c.facets p c) c.products
  products =
      each_of_index (ProductPromise c.facets p c) c.products
      (λ x m.
      let f = numbered_part (IsAsAsked p) (product_stated c) 0 c.products x m a.products in
      product_promise c.facets p is_served c bases false x
      (product_part p (served_field p is_served).large c x f.0 f.1 (each_among (λ (x : ProductPart). length (number_pairs (rank_in c x.a) (rank_in c x.b)) ≤ length x.columns) x c.products (a.ends.asked 5).product_columns m)))

  -- ---- Cartan lines

  module _ (x : CartanPart) (among : Among x c.cartans) where
    abbrev n : ℕ
    n = line_degree p (line_of x)

    abbrev IsDifference : Cochain → Type 0
    IsDifference d = IsLineDifference c.facets p (classes_of c) (line_of x) d

    once : (d e : Cochain) → IsDifference d → IsDifference e → AgreesOnSimplices c.facets n p d e
    once d e =
        let live = of-lines p (ranks_of c) (line_of x) (subst (λ (ls : List Line). Among (line_of x) ls) live_lines (among_map line_of x (line_of x) c.cartans among refl)) in
        difference-once c.facets p is_served x.a x.b x.n (class_at (classes_of c) x.a x.i) (class_at (classes_of c) x.b x.j) d e live.0

    says : (answer : CartanAnswer) → is_line p (verdict_said x answer) ≡ true → is_line p (line_said (answer_stated answer)) ≡ true → IsRightAnswer c p x answer → (d : Cochain) → IsDifference d → Says Certificate c.facets n p d answer
    says (Yes primitive) formed chain h d is =
        let same = once d (coboundary p (cochain_of primitive)) is h.difference in (
          record { below = cochain_of primitive; nothing = nowhere c.facets n primitive h.on; same = same },
          λ _. record { below = are_terms_below c.facets n p primitive chain h.on; same = agrees-sym same },
        )
    says (No value cycle) formed chain h d is =
        let bounds = value_bounds p x.a x.i x.b x.j x.n value formed in
        let same = once d h.difference is h.is_difference in (
          λ b. not_zero value bounds.0 bounds.1
              (Congruent_trans (Congruent_sym (Congruent_trans (pairing_alike c.facets n p d h.difference cycle same h.on) h.pairs)) (coboundary_pairs c.facets ascending p n d cycle h.on h.closed b)),
          bounds.0,
          bounds.1,
          λ _. record {
            cycle = record { chain = are_terms c.facets n p cycle chain h.on; closed = h.closed };
            pairs = Congruent_trans (pairing_alike c.facets n p d h.difference cycle same h.on) h.pairs;
          },
        )
      where
        not_zero : (value : ℕ) → 0 < value → value < p → Congruent p value 0 → ⊥
        not_zero value a b h = absurd (let e = sym (mod-eq_of_lt b) ∙ h.same ∙ zero-mod p in omega (arith, e, a))

  cartans : Each (CartanPromise Certificate c.facets p c) c.cartans
  cartans =
      each_of_index (CartanPromise Certificate c.facets p c) c.cartans
      (λ x m. let f = numbered_part (IsAsAsked p) (cartan_stated c) 0 c.cartans x m a.cartans in says x m x.answer f.1.0.formed f.1.1.0.formed (f.1.0.asked 8))

  pub complex_promise : ComplexPromise Certificate p (itself c) c
  complex_promise = record {
    bases = bases_promise c.facets p is_served c bases;
    tables = λ _. record { products = products; operations = operation_promises c.facets p is_served c bases false live_blocks operations; cartans = cartans };
  }

-- ---- maps

-- a name that is there is that of one of the complexes
named_among : (cs : List ComplexPart) (name : List ℕ) → has_name (complex_names cs) name ≡ true → Among (complex_named cs name) cs
named_among [] name h = absurd cc
named_among (c ∷ cs) name h = step (bytes_eq name c.name) (named_among cs name) h
  where
    step : (b : Bool) → (has_name (complex_names cs) name ≡ true → Among (complex_named cs name) cs) → (b || has_name (complex_names cs) name) ≡ true → Among (cond b c (complex_named cs name)) (c ∷ cs)
    step true f k = inl refl
    step false f k = inr (f k)

map_shown : (r : Report) (m : MapPart) (before : List MapPart) → IsTrue (served r.prime) → ((c : ComplexPart) → Among c r.complexes → ComplexAsked r.prime c) → Each (IsAsAsked r.prime) (map_stated r.complexes before m) → MapShown r m
map_shown r m before is_served complexes h =
    let p : ℕ = r.prime in
    let from = complex_named r.complexes m.from in
    let to = complex_named r.complexes m.to in
    let K = complexes from (named_among r.complexes m.from (h.0.asked 1).from) in
    let L = complexes to (named_among r.complexes m.to (h.0.asked 1).to) in
    let ss = behind (λ (ss : List Sent) s. send_stands from to ss s ∷ []) [] m.sends in
    let is = numbered (induced_stated from to m) 0 m.induced in
    let rest = each_right (IsAsAsked p) ss (is ++ map_ends from to m ∷ []) h.1 in
    let parts = each_left (IsAsAsked p) is (map_ends from to m ∷ []) rest in
    let ends = (each_right (IsAsAsked p) is (map_ends from to m ∷ []) rest).0 in
    let live = placed_from_start (λ (x : InducedPart). x.q) (induced_degrees (ranks_of from) (ranks_of to)) m.induced
    (numbered_heads (IsAsAsked p) (induced_stated from to m) (λ k x. slice_get (induced_degrees (ranks_of from) (ranks_of to)) k ≡ Some x.q) (λ k x g. g.0.asked 5) 0 m.induced parts) (ends.asked 5).induced in
    let blocks = each_of_index (IsInducedPart false _ from.facets p (classes_of from) (classes_of to)) m.induced
    (λ x mx.
    let f = numbered_part (IsAsAsked p) (induced_stated from to m) 0 m.induced x mx parts in
    induced_part p (served_field p is_served).large from to m x f.0 f.1 (each_among (λ (x : InducedPart). rank_in to x.q ≤ length x.columns) x m.induced (ends.asked 5).columns mx)) in
    induced_promise p is_served _ from.facets from (bases p is_served from K) to.facets to (bases p is_served to L)
    (simplicial from.facets to.facets (ascending p is_served from K) (ascending p is_served to L) m.sends (ends.asked 1)) false m live blocks
    (live_blocks p is_served from K) (operations p is_served from K) (live_blocks p is_served to L) (operations p is_served to L)

pub certified_law : CertifiedLaw
certified_law = record {
  complexes = λ r formed h.
      let s : IsTrue (served r.prime) = is_served r formed h in
      each_of_index (λ (c : ComplexPart). ComplexPromise Certificate r.prime (itself c) c) r.complexes (λ c m. complex_promise r.prime s c (complex_asked r c formed h m));
  maps = λ r formed h.
      each_of_index (MapShown r) r.maps (λ m among. let f = map_asked r m formed h among in map_shown r m f.0 (is_served r formed h) (λ c k. complex_asked r c formed h k) f.1);
}
  where
    is_served : (r : Report) → is_well_formed r ≡ true → Certifies r → IsTrue (served r.prime)
    is_served r formed h = (lines_asked r formed h).1.0.formed

-- The walk of a complex, section by section.
use Rattle.std.proofs.Common.{◌≡◌, ◌==◌, ℕ, ◌+◌, ◌*◌, ◌^◌, ◌<◌, ◌≤◌, sym, ◌∙◌, ap, subst, arith, Bool, ◌↔◌, IsTrue, OnOk, List, [], ◌∷◌, ◌++◌, length, map, get_or, sum_by, Ok, Err, Result}
use Rattle.linear_law.{specs.Names.Each, proofs.Names.each_map}
use Rattle.simplicial_law.specs.ListedSimplices.{simplices}
use Rattle.complex_file.specs.declared.block.Sent.{Sent}
use Rattle.report.specs.declared.{columns.OperationPart.OperationPart, columns.ProductPart.ProductPart, complex.ComplexPart.ComplexPart, complex.DegreePart.DegreePart, map.InducedPart.InducedPart, map.MapPart.MapPart}
use Rattle.report_law.specs.Names.{induced_degrees, number_pairs, ranks_of}
use Rattle.certificate_law.{specs.Names.{Asks, IsComplexWhole, IsMapWhole, rank_in, Stated, behind, cartan_stated, complex_ends, complex_opens, complex_stated, degree_stated, facet_stands, induced_stated, map_between, map_ends, map_opens, numbered, operation_stated, product_stated, send_stands}, proofs.Asked.each_right}
use Rattle.certificate_walk.{specs.declared.stop.Stop.Stop, specs.Names.{complex_lines, degree_lines, induced_lines, map_lines, operation_lines, product_lines, IsWalk}, proofs.Names.{behind_each, cartans_length, degree_length, induced_length, numbered_sum, operation_length, product_length, walk_both}}
use Rattle.count_check.{specs.declared.complexes.Live.Live, specs.Columns.{AreFew, AreSmall}, specs.LineGroups.{HasAll, IsLive}, proofs.LiveLemmas.filter_least, proofs.SectionLemmas.rank_is, proofs.TotalLemmas.ranks_are}

-- ---- the sections of a complex

abbrev pub degrees_in : ComplexPart → List Stated
degrees_in c = numbered (degree_stated c) 0 c.degrees

abbrev pub products_in : ComplexPart → List Stated
products_in c = numbered (product_stated c) 0 c.products

abbrev pub operations_in : ComplexPart → List Stated
operations_in c = numbered (operation_stated c) 0 c.operations

abbrev pub cartans_in : ComplexPart → List Stated
cartans_in c = numbered (cartan_stated c) 0 c.cartans

abbrev pub behind_products : ComplexPart → List Stated
behind_products c = operations_in c ++ (cartans_in c ++ complex_ends c ∷ [])

each_behind : {X : Type 0} (P : Stated → Type 0) (line : List X → X → Stated) (b xs : List X) → ((b : List X) (x : X) → P (line b x)) → Each P (behind (λ b x. line b x ∷ []) b xs)
each_behind P line b [] h = tt
each_behind P line b (x ∷ xs) h = (h b x, each_behind P line (b ++ x ∷ []) xs h)

-- nothing is asked of the first line and of the facets
pub opened : (p : ℕ) (earlier : List ComplexPart) (c : ComplexPart) (before count : ℕ) (r : Result ℕ Stop) → count ≡ length c.facets → IsWalk (Asks p 5) (before + 1 + count) (degrees_in c ++ (products_in c ++ behind_products c)) r →
    IsWalk (Asks p 5) before (complex_stated earlier c) r
opened p earlier c before count r e w =
    let facets = behind (λ (fs : List (List ℕ)) f. facet_stands fs f ∷ []) [] c.facets in
    walk_both (Asks p 5) before (complex_opens earlier c ∷ facets) (degrees_in c ++ (products_in c ++ behind_products c)) (before + 1 + count) r
    ((let l = behind_each facet_stands [] c.facets in omega (arith, l, e)), (tt, each_behind (Asks p 5) facet_stands [] c.facets (λ b f. tt))) w

-- the items of a slice
pub walk_slice : {X : Type 0} (P : Stated → Type 0) (before : ℕ) (line : ℕ → X → List Stated) (r : Result ℕ Stop) {ys xs : List X} → ys ≡ xs → IsWalk P before (numbered line 0 ys) r → IsWalk P before (numbered line 0 xs) r
walk_slice P before line r e h = subst (λ (zs : List _). IsWalk P before (numbered line 0 zs) r) e h

-- ---- how many lines are left

pub room_products : (c : ComplexPart) (before count at : ℕ) → count ≡ length c.facets → at ≡ before + 1 + count + length (degrees_in c) → before + complex_lines c < 2 ^ 64 → at + sum_by product_lines c.products < 2 ^ 64
room_products c before count at e f room = let d = numbered_sum (degree_stated c) degree_lines 0 c.degrees (degree_length c) in omega (arith, d, e, f, room)

pub room_operations : (c : ComplexPart) (before count at next : ℕ) → count ≡ length c.facets → at ≡ before + 1 + count + length (degrees_in c) → next ≡ at + length (products_in c) → before + complex_lines c < 2 ^ 64 →
    next + sum_by operation_lines c.operations < 2 ^ 64
room_operations c before count at next e f g room =
    let d = numbered_sum (degree_stated c) degree_lines 0 c.degrees (degree_length c) in
    let x = numbered_sum (product_stated c) product_lines 0 c.products (product_length c) in
    omega (arith, d, x, e, f, g, room)

pub room_cartans : (c : ComplexPart) (before count at next then : ℕ) → count ≡ length c.facets → at ≡ before + 1 + count + length (degrees_in c) → next ≡ at + length (products_in c) → then ≡ next + length (operations_in c) → before + complex_lines c < 2 ^ 64 →
    then + 2 * length c.cartans + 1 < 2 ^ 64
room_cartans c before count at next then e f g h room =
    let d = numbered_sum (degree_stated c) degree_lines 0 c.degrees (degree_length c) in
    let x = numbered_sum (product_stated c) product_lines 0 c.products (product_length c) in
    let o = numbered_sum (operation_stated c) operation_lines 0 c.operations (operation_length c) in
    omega (arith, d, x, o, e, f, g, h, room)

pub room_end : (c : ComplexPart) (then last : ℕ) → then + 2 * length c.cartans + 1 < 2 ^ 64 → last ≡ then + length (cartans_in c) → last + 1 < 2 ^ 64
room_end c then last room e = let l = cartans_length c 0 c.cartans in omega (arith, l, e, room)

-- ---- the ranks

-- where the degrees are counted, so few classes are listed
pub few_classes : (p : ℕ) (c : ComplexPart) (k : ℕ) (ds : List DegreePart) → length (simplices c.facets) < 2 ^ 28 → Each (Asks p 5) (numbered (degree_stated c) k ds) → AreFew ds
few_classes p c k [] few h = tt
few_classes p c k (d ∷ ds) few h = (
  (let e = h.0 in let l = filter_least (λ (s : List ℕ). length s == k + 1) (simplices c.facets) in omega (arith, e, l, few)),
  few_classes p c (k + 1) ds few (each_right (Asks p 5) (degree_stated c k d) (numbered (degree_stated c) (k + 1) ds) h),
)

pub few_small : (ds : List DegreePart) (ranks : List ℕ) → ranks ≡ map (λ (d : DegreePart). length d.classes) ds → AreFew ds → AreSmall ranks
few_small ds ranks e h = subst AreSmall (sym e) (go ds h)
  where
    go : (ds : List DegreePart) → AreFew ds → AreSmall (map (λ (d : DegreePart). length d.classes) ds)
    go [] h = tt
    go (d ∷ ds) h = (h.0, go ds h.1)

pub live_of : (p : ℕ) (c : ComplexPart) (ranks : List ℕ) (ds : List DegreePart) (live : Live) → ds ≡ c.degrees → ranks ≡ map (λ (d : DegreePart). length d.classes) ds → IsLive p ranks live → IsLive p (ranks_of c) live
live_of p c ranks ds live e f h = subst (λ (rs : List ℕ). IsLive p rs live) (f ∙ ap (map (λ (d : DegreePart). length d.classes)) e ∙ ranks_are c.degrees) h

pub on_ok : {X E : Type 0} (r : Result X E) (P : Type 0) → P → OnOk r P
on_ok (Ok x) P h = h
on_ok (Err e) P h = tt

-- ---- the end

-- what is not missing of what is live
pub whole_of : (p : ℕ) (c : ComplexPart) (l : Live) (b : Bool) → IsLive p (ranks_of c) l → (IsTrue b ↔ HasAll l c) → IsTrue b ↔ IsComplexWhole p c
whole_of p c l b live h = (λ t. whole (h.0 t), λ q. h.1 (all q))
  where
    rank : (n : ℕ) → get_or l.ranks.items n 0 ≡ rank_in c n
    rank n = rank_is c n (sym live.ranks_are)

    whole : HasAll l c → IsComplexWhole p c
    whole q = record {
      products = subst (λ (n : ℕ). n ≤ length c.products) (ap length live.products_are) q.products;
      operations = subst (λ (n : ℕ). n ≤ length c.operations) (ap length live.blocks_are) q.operations;
      cartans = subst (λ (n : ℕ). n ≤ length c.cartans) (ap length live.lines_are) q.cartans;
      product_columns = each_map (λ (x : ProductPart) e. subst (λ (n : ℕ). n ≤ length x.columns) (λ i. length (number_pairs (rank x.a i) (rank x.b i))) e) c.products q.product_columns;
      operation_columns = each_map (λ (x : OperationPart) e. subst (λ (n : ℕ). n ≤ length x.columns) (rank x.from) e) c.operations q.operation_columns;
    }

    all : IsComplexWhole p c → HasAll l c
    all q = record {
      products = subst (λ (n : ℕ). n ≤ length c.products) (sym (ap length live.products_are)) q.products;
      operations = subst (λ (n : ℕ). n ≤ length c.operations) (sym (ap length live.blocks_are)) q.operations;
      cartans = subst (λ (n : ℕ). n ≤ length c.cartans) (sym (ap length live.lines_are)) q.cartans;
      product_columns = each_map (λ (x : ProductPart) e. subst (λ (n : ℕ). n ≤ length x.columns) (sym (λ i. length (number_pairs (rank x.a i) (rank x.b i)))) e) c.products q.product_columns;
      operation_columns = each_map (λ (x : OperationPart) e. subst (λ (n : ℕ). n ≤ length x.columns) (sym (rank x.from)) e) c.operations q.operation_columns;
    }

-- ---- a map

abbrev pub induced_in : ComplexPart → ComplexPart → MapPart → List Stated
induced_in from to m = numbered (induced_stated from to m) 0 m.induced

-- nothing is asked of the first line and of the sends
pub map_opened : (p : ℕ) (from to : ComplexPart) (cs : List ComplexPart) (earlier : List MapPart) (m : MapPart) (before count : ℕ) (r : Result ℕ Stop) → count ≡ length m.sends →
    IsWalk (Asks p 5) (before + 1 + count) (induced_in from to m ++ map_ends from to m ∷ []) r → IsWalk (Asks p 5) before (map_between from to cs earlier m) r
map_opened p from to cs earlier m before count r e w =
    let sends = behind (λ (ss : List Sent) s. send_stands from to ss s ∷ []) [] m.sends in
    walk_both (Asks p 5) before (map_opens cs earlier m ∷ sends) (induced_in from to m ++ map_ends from to m ∷ []) (before + 1 + count) r
    ((let l = behind_each (send_stands from to) [] m.sends in omega (arith, l, e)), (tt, each_behind (Asks p 5) (send_stands from to) [] m.sends (λ b s. tt))) w

pub room_map : (from to : ComplexPart) (m : MapPart) (before count last : ℕ) → count ≡ length m.sends → last ≡ before + 1 + count + length (induced_in from to m) → before + map_lines m < 2 ^ 64 → last + 1 < 2 ^ 64
room_map from to m before count last e f room = let l = numbered_sum (induced_stated from to m) induced_lines 0 m.induced (induced_length from to m) in omega (arith, l, e, f, room)

pub ranks_in : (c : ComplexPart) (ranks : List ℕ) (ds : List DegreePart) → ds ≡ c.degrees → ranks ≡ map (λ (d : DegreePart). length d.classes) ds → ranks_of c ≡ ranks
ranks_in c ranks ds e f = sym (f ∙ ap (map (λ (d : DegreePart). length d.classes)) e ∙ ranks_are c.degrees)

pub map_whole : (from to : ComplexPart) (m : MapPart) (live ranks : List ℕ) (listed : List InducedPart) (b : Bool) → induced_degrees (ranks_of from) (ranks_of to) ≡ live → ranks_of to ≡ ranks → listed ≡ m.induced →
    (IsTrue b ↔ ((length live ≤ length listed) × Each (λ x. get_or ranks x.q 0 ≤ length x.columns) listed)) → IsTrue b ↔ IsMapWhole from to m
map_whole from to m live ranks listed b e f g h =
    let k : IsTrue b ↔ ((length live ≤ length m.induced) × Each (λ x. get_or ranks x.q 0 ≤ length x.columns) m.induced) = subst (λ (xs : List InducedPart). IsTrue b ↔ ((length live ≤ length xs) × Each (λ x. get_or ranks x.q 0 ≤ length x.columns) xs)) g h in (
      λ t. let q = k.0 t in record {
        induced = subst (λ (n : ℕ). n ≤ length m.induced) (sym (ap length e)) q.0;
        columns = each_map (λ (x : InducedPart) l. subst (λ (n : ℕ). n ≤ length x.columns) (rank_is to x.q f) l) m.induced q.1;
      },
      λ w. k.1 (
        subst (λ (n : ℕ). n ≤ length m.induced) (ap length e) w.induced,
        each_map (λ (x : InducedPart) l. subst (λ (n : ℕ). n ≤ length x.columns) (sym (rank_is to x.q f)) l) m.induced w.columns,
      ),
    )

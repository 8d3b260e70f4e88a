-- The walks of blocks.
use Rattle.std.proofs.{Common.{◌≡◌, ℕ, ◌+◌, refl, sym, ◌∙◌, ap, subst, arith, true, false, List, [], ◌∷◌, ◌++◌, length, sum_by, Ok, Result, length-append}, lemmas.List.Sums.sum_by-cons}
use Rattle.linear_law.{specs.Names.Each, proofs.Names.each_append}
use Rattle.complex_file.specs.Names.{has_name}
use Rattle.certificate_law.specs.{Types.{ComplexBlock, CartanAnswer, No, Yes, ComplexPart, Report, MapPart}, Names.{Asks, IsNewComplex, IsNewMap, complex_names, complex_named, itself, Stated, after, answer_stated, behind, below_stands, cartan_stated, class_stands, complex_ends, complex_stated, degree_stated, finish, heading, map_opens, map_stated, numbered, operation_column, operation_stated, prime_is, product_column, product_stated, stated, with_stands}}
use Rattle.certificate_walk.{specs.Names.{complex_lines, map_lines, FailsBehind, IsWalk}, specs.declared.stop.Stop.Stop, specs.declared.stop.Stop.TheVariants.Fails, proofs.Names.{complex_length, map_length, walk_both, walk_one, walk_stops}}
use Rattle.block_check.{specs.Blocks.{IsNewName, under_map}, proofs.FacetLemmas.facet_line, proofs.SendLemmas.each_numbered}

-- ---- a complex

-- its lines behind its facets
abbrev pub under_facets : ComplexPart → List Stated
under_facets c = numbered (degree_stated c) 0 c.degrees ++ (numbered (product_stated c) 0 c.products ++ (numbered (operation_stated c) 0 c.operations ++ (numbered (cartan_stated c) 0 c.cartans ++ complex_ends c ∷ [])))

each_after : {X : Type 0} (P : Stated → Type 0) (line : List X → X → Stated) (b xs : List X) → ((b : List X) (x : X) → P (line b x)) → Each P (after (λ b x. line b x ∷ []) b xs)
each_after P line b [] h = tt
each_after P line b (x ∷ xs) h = (h b x, each_after P line (x ∷ b) xs h)

answer_free : (p : ℕ) (answer : CartanAnswer) → Asks p 1 (answer_stated answer)
answer_free p (Yes primitive) = tt
answer_free p (No value cycle) = tt

facets_free : (p : ℕ) (c : ComplexPart) → Each (Asks p 1) (under_facets c)
facets_free p c =
    let P = Asks p 1 in
    let ds = numbered (degree_stated c) 0 c.degrees in
    let xs = numbered (product_stated c) 0 c.products in
    let os = numbered (operation_stated c) 0 c.operations in
    let cs = numbered (cartan_stated c) 0 c.cartans in
    let es : List Stated = complex_ends c ∷ [] in
    each_append P ds (xs ++ (os ++ (cs ++ es)))
    (each_numbered P (degree_stated c) 0 c.degrees (λ n d. (
      tt,
      each_append P (after (λ b y. below_stands c n b y ∷ []) [] d.below) (after (λ b z. class_stands c n b z ∷ []) [] d.classes)
          (each_after P (below_stands c n) [] d.below (λ b y. tt)) (each_after P (class_stands c n) [] d.classes (λ b z. tt)),
    )))
    (each_append P xs (os ++ (cs ++ es)) (each_numbered P (product_stated c) 0 c.products (λ k x. (tt, each_numbered P (λ j y. product_column c x j y ∷ with_stands y.primitive ∷ []) 0 x.columns (λ j y. (tt, (tt, tt))))))
    (each_append P os (cs ++ es) (each_numbered P (operation_stated c) 0 c.operations (λ k x. (tt, each_numbered P (λ j y. operation_column c x j y ∷ with_stands y.primitive ∷ []) 0 x.columns (λ j y. (tt, (tt, tt))))))
    (each_append P cs es (each_numbered P (cartan_stated c) 0 c.cartans (λ k x. (tt, (answer_free p x.answer, tt)))) (tt, tt))))

pub complex_walked : (p : ℕ) (earlier : List ComplexPart) (c : ComplexPart) (before : ℕ) → IsNewComplex earlier c → Each (Asks p 1) (behind facet_line [] c.facets) → IsWalk (Asks p 1) before (complex_stated earlier c) (Ok (before + complex_lines c))
complex_walked p earlier c before new free = (ap (λ n. before + n) (sym (complex_length earlier c)), (new, each_append (Asks p 1) (behind facet_line [] c.facets) (under_facets c) free (facets_free p c)))

-- ---- a map

pub map_stops : (p : ℕ) (cs : List ComplexPart) (earlier : List MapPart) (m : MapPart) (before : ℕ) → (IsNewMap cs earlier m → ⊥) → FailsBehind (Asks p 1) before (map_stated cs earlier m) (before + 1)
map_stops p cs earlier m before h =
    walk_stops (Asks p 1) before (map_opens cs earlier m ∷ []) (under_map (complex_named cs m.from) (complex_named cs m.to) m) (Fails (before + 1)) (walk_one (Asks p 1) before (map_opens cs earlier m) false (λ t. absurd cc) (λ t n. h n))

pub not_named : (cs : List ComplexPart) (name other : List ℕ) → name ≡ other → has_name (complex_names cs) name ≡ false → has_name (complex_names cs) other ≡ true → ⊥
not_named cs name other e f t =
    let q : true ≡ false = sym t ∙ ap (has_name (complex_names cs)) (sym e) ∙ f in
    cc

pub new_of : (cs : List ComplexPart) (earlier : List MapPart) (m : MapPart) (from to : List ℕ) → from ≡ m.from → to ≡ m.to → has_name (complex_names cs) from ≡ true → has_name (complex_names cs) to ≡ true → IsNewName cs earlier m → IsNewMap cs earlier m
new_of cs earlier m from to e f x y n = record { few = n.few; new = n.new; from = ap (has_name (complex_names cs)) (sym e) ∙ x; to = ap (has_name (complex_names cs)) (sym f) ∙ y }

pub same_facets : (cs : List ComplexPart) (b : ComplexBlock) (name other : List ℕ) → name ≡ other → b ≡ itself (complex_named cs name) → (complex_named cs other).facets ≡ b.facets
same_facets cs b name other e h = ap (λ n. (complex_named cs n).facets) (sym e) ∙ ap (λ (x : ComplexBlock). x.facets) (sym h)

-- ---- all blocks

behind_length : {X : Type 0} (line : List X → X → List Stated) (f : X → ℕ) (b xs : List X) → ((b : List X) (x : X) → length (line b x) ≡ f x) → length (behind line b xs) ≡ sum_by f xs
behind_length line f b [] h = refl
behind_length line f b (x ∷ xs) h =
    let a = length-append (line b x) (behind line (b ++ x ∷ []) xs) in
    let e = h b x in
    let r = behind_length line f (b ++ x ∷ []) xs h in
    let s = sum_by-cons f x xs in
    omega (arith, a, e, r, s)

pub complexes_length : (cs : List ComplexPart) → length (behind complex_stated [] cs) ≡ sum_by complex_lines cs
complexes_length cs = behind_length complex_stated complex_lines [] cs complex_length

pub maps_length : (cs : List ComplexPart) (ms : List MapPart) → length (behind (map_stated cs) [] ms) ≡ sum_by map_lines ms
maps_length cs ms = behind_length (map_stated cs) map_lines [] ms (λ b m. map_length (complex_named cs m.from) (complex_named cs m.to) cs b m)

pub stated_length : (r : Report) → length (stated r) ≡ 2 + sum_by complex_lines r.complexes + sum_by map_lines r.maps + 1
stated_length r =
    let cs = behind complex_stated [] r.complexes in
    let ms = behind (map_stated r.complexes) [] r.maps in
    let es : List Stated = finish r.complexes ∷ [] in
    let a = length-append cs (ms ++ es) in
    let b = length-append ms es in
    let c = complexes_length r.complexes in
    let d = maps_length r.complexes r.maps in
    omega (arith, a, b, c, d)

-- nothing is asked of the first two lines
pub stated_walk : (p : ℕ) (r : Report) (w : Result ℕ Stop) → IsWalk (Asks p 1) 2 (behind complex_stated [] r.complexes ++ (behind (map_stated r.complexes) [] r.maps ++ finish r.complexes ∷ [])) w → IsWalk (Asks p 1) 0 (stated r) w
stated_walk p r w h =
    walk_both (Asks p 1) 0 (heading ∷ prime_is r.prime ∷ []) (behind complex_stated [] r.complexes ++ (behind (map_stated r.complexes) [] r.maps ++ finish r.complexes ∷ [])) 2 w (refl, (tt, (tt, tt))) h

pub maps_walk : (p : ℕ) (r : Report) (at : ℕ) (w : Result ℕ Stop) {cs : List ComplexPart} {ms : List MapPart} → cs ≡ r.complexes → ms ≡ r.maps → IsWalk (Asks p 1) at (behind (map_stated cs) [] ms) w → IsWalk (Asks p 1) at (behind (map_stated r.complexes) [] r.maps) w
maps_walk p r at w {cs} {ms} e f h = subst (λ (xs : List ComplexPart). IsWalk (Asks p 1) at (behind (map_stated xs) [] r.maps) w) e (subst (λ (ys : List MapPart). IsWalk (Asks p 1) at (behind (map_stated cs) [] ys) w) f h)

-- The sections of a complex and of a map, of which the conditions 6, 7 and 8 ask nothing, and the room for the others.
use Rattle.std.proofs.Common.{◌≡◌, ℕ, ◌+◌, ◌*◌, ◌<◌, List, [], ◌∷◌, ◌++◌, length, arith, refl, sum_by, Result, Ok, Err, length-append}
use Rattle.linear_law.{specs.Names.Each, proofs.Names.each_append}
use Rattle.simplicial_law.specs.Names.{Chain}
use Rattle.certificate_law.specs.{Types.{Sent, CartanAnswer, Yes, No, ComplexPart, DegreePart, MapPart}, Names.{Asks, Stated, after, answer_stated, behind, below_stands, cartan_stated, class_stands, complex_ends, complex_opens, complex_stated, degree_opens, degree_stated, facet_stands, induced_stated, map_between, map_ends, map_opens, numbered, operation_column, operation_stated, product_column, product_stated, send_stands, with_stands}}
use Rattle.certificate_walk.{specs.declared.stop.Stop.Stop, specs.Names.{complex_lines, degree_lines, induced_lines, map_lines, operation_lines, product_lines, IsWalk}, proofs.Names.{behind_each, cartans_length, degree_length, induced_length, numbered_sum, operation_length, product_length, walk_both, walk_stops}}
use Rattle.column_check.proofs.WalkLemmas.{headed}

-- ---- lines of which nothing is asked

free-numbered : {X : Type 0} (P : Stated → Type 0) (line : ℕ → X → List Stated) → ((k : ℕ) (x : X) → Each P (line k x)) → (k : ℕ) (xs : List X) → Each P (numbered line k xs)
free-numbered P line f k [] = tt
free-numbered P line f k (x ∷ xs) = each_append P (line k x) (numbered line (k + 1) xs) (f k x) (free-numbered P line f (k + 1) xs)

free-behind : {X : Type 0} (P : Stated → Type 0) (line : List X → X → Stated) → ((b : List X) (x : X) → P (line b x)) → (before xs : List X) → Each P (behind (λ b x. line b x ∷ []) before xs)
free-behind P line f before [] = tt
free-behind P line f before (x ∷ xs) = (f before x, free-behind P line f (before ++ x ∷ []) xs)

free-after : (P : Stated → Type 0) (line : List Chain → Chain → Stated) → ((b : List Chain) (x : Chain) → P (line b x)) → (before xs : List Chain) → Each P (after (λ b x. line b x ∷ []) before xs)
free-after P line f before [] = tt
free-after P line f before (x ∷ xs) = (f before x, free-after P line f (x ∷ before) xs)

-- ---- the lines before the blocks of a complex

module _ (P : Stated → Type 0) (c : ComplexPart) (earlier : List ComplexPart) (opens : P (complex_opens earlier c)) (facets : (fs : List (List ℕ)) (f : List ℕ) → P (facet_stands fs f)) (degrees : (n : ℕ) (d : DegreePart) → Each P (degree_stated c n d)) where
  abbrev ds : List Stated
  ds = numbered (degree_stated c) 0 c.degrees

  pub past-degrees : (before at : ℕ) (rest : List Stated) (r : Result ℕ Stop) → at ≡ before + (length c.facets + sum_by degree_lines c.degrees + 1) → IsWalk P at rest r
      → IsWalk P before (complex_opens earlier c ∷ (behind (λ fs f. facet_stands fs f ∷ []) [] c.facets ++ (ds ++ rest))) r
  past-degrees before at rest r e w =
      let fs = behind (λ (fs : List (List ℕ)) f. facet_stands fs f ∷ []) [] c.facets in
      let a = behind_each facet_stands [] c.facets in
      let b = numbered_sum (degree_stated c) degree_lines 0 c.degrees (degree_length c) in
      headed P before (complex_opens earlier c) (fs ++ (ds ++ rest)) r opens
      (walk_both P (before + 1) fs (ds ++ rest) (before + 1 + length c.facets) r (omega (arith, a), free-behind P facet_stands facets [] c.facets)
      (walk_both P (before + 1 + length c.facets) ds rest at r (omega (arith, b, e), free-numbered P (degree_stated c) degrees 0 c.degrees) w))

free-degree : (p : ℕ) (P : ℕ → Stated → Type 0) (c : ComplexPart) (n : ℕ) (d : DegreePart) → P p (degree_opens c n d) → ((b : List Chain) (y : Chain) → P p (below_stands c n b y)) → ((b : List Chain) (z : Chain) → P p (class_stands c n b z)) → Each (P p) (degree_stated c n d)
free-degree p P c n d opens below class =
    (opens, each_append (P p) (after (λ b y. below_stands c n b y ∷ []) [] d.below) (after (λ b z. class_stands c n b z ∷ []) [] d.classes) (free-after (P p) (below_stands c n) below [] d.below) (free-after (P p) (class_stands c n) class [] d.classes))

-- ---- room

module _ (c : ComplexPart) (before at bound : ℕ) (room : before + complex_lines c < bound) (at_is : at ≡ before + (length c.facets + sum_by degree_lines c.degrees + 1)) where
  products-size : length (numbered (product_stated c) 0 c.products) ≡ sum_by product_lines c.products
  products-size = numbered_sum (product_stated c) product_lines 0 c.products (product_length c)

  operations-size : length (numbered (operation_stated c) 0 c.operations) ≡ sum_by operation_lines c.operations
  operations-size = numbered_sum (operation_stated c) operation_lines 0 c.operations (operation_length c)

  pub products-room : at + length (numbered (product_stated c) 0 c.products) < bound
  products-room = let a = products-size in omega (arith, a, room, at_is)

  module _ (next : ℕ) (next_is : next ≡ at + length (numbered (product_stated c) 0 c.products)) where
    pub operations-room : next + length (numbered (operation_stated c) 0 c.operations) < bound
    operations-room = let a = products-size in let b = operations-size in omega (arith, a, b, room, at_is, next_is)

    pub end-room : (last : ℕ) → last ≡ next + length (numbered (operation_stated c) 0 c.operations) → last + (2 * length c.cartans + 1) < bound
    end-room last e = let a = products-size in let b = operations-size in omega (arith, a, b, e, room, at_is, next_is)

  pub cartans-room : (from : ℕ) → from ≡ at + (sum_by product_lines c.products + sum_by operation_lines c.operations) → from + length (numbered (cartan_stated c) 0 c.cartans) + 1 < bound
  cartans-room from e = let a = cartans_length c 0 c.cartans in omega (arith, a, e, room, at_is)

-- ---- condition 6

module _ (p : ℕ) (c : ComplexPart) (earlier : List ComplexPart) where
  abbrev xs : List Stated
  xs = numbered (product_stated c) 0 c.products

  abbrev os : List Stated
  os = numbered (operation_stated c) 0 c.operations

  abbrev cs : List Stated
  cs = numbered (cartan_stated c) 0 c.cartans

  abbrev es : List Stated
  es = complex_ends c ∷ []

  column-lines : (before at : ℕ) (r : Result ℕ Stop) → at ≡ before + (length c.facets + sum_by degree_lines c.degrees + 1) → IsWalk (Asks p 6) at (xs ++ (os ++ (cs ++ es))) r → IsWalk (Asks p 6) before (complex_stated earlier c) r
  column-lines before at r e w = past-degrees (Asks p 6) c earlier tt (λ fs f. tt) (λ n d. free-degree 6 (Asks p) c n d tt (λ b y. tt) (λ b z. tt)) before at (xs ++ (os ++ (cs ++ es))) r e w

  pub column-products : (before at : ℕ) (s : Stop) → at ≡ before + (length c.facets + sum_by degree_lines c.degrees + 1) → IsWalk (Asks p 6) at xs (Err s) → IsWalk (Asks p 6) before (complex_stated earlier c) (Err s)
  column-products before at s e w = column-lines before at (Err s) e (walk_stops (Asks p 6) at xs (os ++ (cs ++ es)) s w)

  pub column-operations : (before at next : ℕ) (s : Stop) → at ≡ before + (length c.facets + sum_by degree_lines c.degrees + 1) → IsWalk (Asks p 6) at xs (Ok next) → IsWalk (Asks p 6) next os (Err s) → IsWalk (Asks p 6) before (complex_stated earlier c) (Err s)
  column-operations before at next s e w v = column-lines before at (Err s) e (walk_both (Asks p 6) at xs (os ++ (cs ++ es)) next (Err s) w (walk_stops (Asks p 6) next os (cs ++ es) s v))

  pub column-end : (before at next last end : ℕ) → at ≡ before + (length c.facets + sum_by degree_lines c.degrees + 1) → IsWalk (Asks p 6) at xs (Ok next) → IsWalk (Asks p 6) next os (Ok last) → end ≡ last + 2 * length c.cartans + 1
      → IsWalk (Asks p 6) before (complex_stated earlier c) (Ok end)
  column-end before at next last end e w v f =
      let size = cartans_length c 0 c.cartans in
      let all = length-append cs es in
      column-lines before at (Ok end) e (walk_both (Asks p 6) at xs (os ++ (cs ++ es)) next (Ok end) w (walk_both (Asks p 6) next os (cs ++ es) last (Ok end) v
      (omega (arith, size, all, f), each_append (Asks p 6) cs es (free-numbered (Asks p 6) (cartan_stated c) (λ k x. (tt, (six x.answer, tt))) 0 c.cartans) (tt, tt))))
    where
      six : (a : CartanAnswer) → Asks p 6 (answer_stated a)
      six (Yes primitive) = tt
      six (No value cycle) = tt

  -- ---- condition 8

  free-products : Each (Asks p 8) xs
  free-products = free-numbered (Asks p 8) (product_stated c) (λ k x. (tt, free-numbered (Asks p 8) (λ j y. product_column c x j y ∷ with_stands y.primitive ∷ []) (λ j y. (tt, (tt, tt))) 0 x.columns)) 0 c.products

  free-operations : Each (Asks p 8) os
  free-operations = free-numbered (Asks p 8) (operation_stated c) (λ k x. (tt, free-numbered (Asks p 8) (λ j y. operation_column c x j y ∷ with_stands y.primitive ∷ []) (λ j y. (tt, (tt, tt))) 0 x.columns)) 0 c.operations

  cartan-lines : (before at from : ℕ) (r : Result ℕ Stop) → at ≡ before + (length c.facets + sum_by degree_lines c.degrees + 1) → from ≡ at + (sum_by product_lines c.products + sum_by operation_lines c.operations)
      → IsWalk (Asks p 8) from (cs ++ es) r → IsWalk (Asks p 8) before (complex_stated earlier c) r
  cartan-lines before at from r e f w =
      let a = numbered_sum (product_stated c) product_lines 0 c.products (product_length c) in
      let b = numbered_sum (operation_stated c) operation_lines 0 c.operations (operation_length c) in
      past-degrees (Asks p 8) c earlier tt (λ fs f. tt) (λ n d. free-degree 8 (Asks p) c n d tt (λ b y. tt) (λ b z. tt)) before at (xs ++ (os ++ (cs ++ es))) r e
      (walk_both (Asks p 8) at xs (os ++ (cs ++ es)) (at + sum_by product_lines c.products) r (omega (arith, a), free-products)
      (walk_both (Asks p 8) (at + sum_by product_lines c.products) os (cs ++ es) from r (omega (arith, b, f), free-operations) w))

  pub cartan-stops : (before at from : ℕ) (s : Stop) → at ≡ before + (length c.facets + sum_by degree_lines c.degrees + 1) → from ≡ at + (sum_by product_lines c.products + sum_by operation_lines c.operations)
      → IsWalk (Asks p 8) from cs (Err s) → IsWalk (Asks p 8) before (complex_stated earlier c) (Err s)
  cartan-stops before at from s e f w = cartan-lines before at from (Err s) e f (walk_stops (Asks p 8) from cs es s w)

  pub cartan-end : (before at from last : ℕ) → at ≡ before + (length c.facets + sum_by degree_lines c.degrees + 1) → from ≡ at + (sum_by product_lines c.products + sum_by operation_lines c.operations)
      → IsWalk (Asks p 8) from cs (Ok last) → IsWalk (Asks p 8) before (complex_stated earlier c) (Ok (last + 1))
  cartan-end before at from last e f w = cartan-lines before at from (Ok (last + 1)) e f (walk_both (Asks p 8) from cs es last (Ok (last + 1)) w (refl, (tt, tt)))

-- ---- condition 7

module _ (p : ℕ) (from to : ComplexPart) (cs : List ComplexPart) (earlier : List MapPart) (m : MapPart) where
  abbrev blocks : List Stated
  blocks = numbered (induced_stated from to m) 0 m.induced

  abbrev ends : List Stated
  ends = map_ends from to m ∷ []

  map-lines : (before at : ℕ) (r : Result ℕ Stop) → at ≡ before + length m.sends + 1 → IsWalk (Asks p 7) at (blocks ++ ends) r → IsWalk (Asks p 7) before (map_between from to cs earlier m) r
  map-lines before at r e w =
      let ss = behind (λ (ss : List Sent) s. send_stands from to ss s ∷ []) [] m.sends in
      let a = behind_each (send_stands from to) [] m.sends in
      headed (Asks p 7) before (map_opens cs earlier m) (ss ++ (blocks ++ ends)) r tt
      (walk_both (Asks p 7) (before + 1) ss (blocks ++ ends) at r (omega (arith, a, e), free-behind (Asks p 7) (send_stands from to) (λ b s. tt) [] m.sends) w)

  pub map-stops : (before at : ℕ) (s : Stop) → at ≡ before + length m.sends + 1 → IsWalk (Asks p 7) at blocks (Err s) → IsWalk (Asks p 7) before (map_between from to cs earlier m) (Err s)
  map-stops before at s e w = map-lines before at (Err s) e (walk_stops (Asks p 7) at blocks ends s w)

  pub map-end : (before at last : ℕ) → at ≡ before + length m.sends + 1 → IsWalk (Asks p 7) at blocks (Ok last) → IsWalk (Asks p 7) before (map_between from to cs earlier m) (Ok (last + 1))
  map-end before at last e w = map-lines before at (Ok (last + 1)) e (walk_both (Asks p 7) at blocks ends last (Ok (last + 1)) w (refl, (tt, tt)))

  pub map-room : (before at bound : ℕ) → before + map_lines m < bound → at ≡ before + length m.sends + 1 → at + length blocks + 1 < bound
  map-room before at bound r e = let a = numbered_sum (induced_stated from to m) induced_lines 0 m.induced (induced_length from to m) in omega (arith, a, e, r)

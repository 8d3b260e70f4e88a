-- The sections of a certificate have as many lines as is counted.
use Rattle.std.proofs.{Common.{◌≡◌, ℕ, ◌+◌, ◌*◌, ◌<◌, refl, sym, ◌∙◌, ap, arith, List, [], ◌∷◌, ◌++◌, length, get_or, drop, sum_by, length-append}, lemmas.List.at_drop_more, lemmas.List.Sums.sum_by-cons}
use Rattle.certificate_law.specs.{Types.{CartanPart, OperationPart, ProductPart, ComplexPart, DegreePart, InducedPart, MapPart}, Names.{Stated, after, behind, below_stands, cartan_stated, class_stands, complex_stated, degree_stated, facet_stands, induced_stated, map_between, numbered, operation_column, operation_stated, product_column, product_stated, send_stands, with_stands, induced_column, complex_ends, map_ends}}
use Rattle.certificate_walk.specs.Names.{complex_lines, degree_lines, induced_lines, map_lines, operation_lines, product_lines}

-- one line an item

pub numbered_each : {X : Type 0} (line : ℕ → X → List Stated) (m k : ℕ) (xs : List X) → ((j : ℕ) (x : X) → length (line j x) ≡ m) → length (numbered line k xs) ≡ m * length xs
numbered_each line m k [] h = omega arith
numbered_each line m k (x ∷ xs) h = let a = length-append (line k x) (numbered line (k + 1) xs) in let b = h k x in let r = numbered_each line m (k + 1) xs h in omega (arith, a, b, r)

pub numbered_sum : {X : Type 0} (line : ℕ → X → List Stated) (f : X → ℕ) (k : ℕ) (xs : List X) → ((j : ℕ) (x : X) → length (line j x) ≡ f x) → length (numbered line k xs) ≡ sum_by f xs
numbered_sum line f k [] h = refl
numbered_sum line f k (x ∷ xs) h =
    let a = length-append (line k x) (numbered line (k + 1) xs) in
    let b = h k x in
    let r = numbered_sum line f (k + 1) xs h in
    let s = sum_by-cons f x xs in
    omega (arith, a, b, r, s)

pub behind_each : {X : Type 0} (line : List X → X → Stated) (before xs : List X) → length (behind (λ b x. line b x ∷ []) before xs) ≡ length xs
behind_each line before [] = refl
behind_each line before (x ∷ xs) = let r = behind_each line (before ++ x ∷ []) xs in omega (arith, r)

pub after_each : {X : Type 0} (line : List X → X → Stated) (before xs : List X) → length (after (λ b x. line b x ∷ []) before xs) ≡ length xs
after_each line before [] = refl
after_each line before (x ∷ xs) = let r = after_each line (x ∷ before) xs in omega (arith, r)

-- the sections

pub degree_length : (c : ComplexPart) (n : ℕ) (d : DegreePart) → length (degree_stated c n d) ≡ degree_lines d
degree_length c n d =
    let a = length-append (after (λ before y. below_stands c n before y ∷ []) [] d.below) (after (λ before z. class_stands c n before z ∷ []) [] d.classes) in
    let b = after_each (below_stands c n) [] d.below in
    let z = after_each (class_stands c n) [] d.classes in
    omega (arith, a, b, z)

pub product_length : (c : ComplexPart) (k : ℕ) (x : ProductPart) → length (product_stated c k x) ≡ product_lines x
product_length c k x = let a = numbered_each (λ j y. product_column c x j y ∷ with_stands y.primitive ∷ []) 2 0 x.columns (λ j y. refl) in omega (arith, a)

pub operation_length : (c : ComplexPart) (k : ℕ) (x : OperationPart) → length (operation_stated c k x) ≡ operation_lines x
operation_length c k x = let a = numbered_each (λ j y. operation_column c x j y ∷ with_stands y.primitive ∷ []) 2 0 x.columns (λ j y. refl) in omega (arith, a)

pub induced_length : (from to : ComplexPart) (m : MapPart) (k : ℕ) (x : InducedPart) → length (induced_stated from to m k x) ≡ induced_lines x
induced_length from to m k x = let a = numbered_each (λ j y. induced_column from to m x j y ∷ with_stands y.primitive ∷ []) 2 0 x.columns (λ j y. refl) in omega (arith, a)

pub cartans_length : (c : ComplexPart) (k : ℕ) (xs : List CartanPart) → length (numbered (cartan_stated c) k xs) ≡ 2 * length xs
cartans_length c k xs = numbered_each (cartan_stated c) 2 k xs (λ j x. refl)

pub complex_length : (before : List ComplexPart) (c : ComplexPart) → length (complex_stated before c) ≡ complex_lines c
complex_length before c =
    let fs = behind (λ (fs : List (List ℕ)) f. facet_stands fs f ∷ []) [] c.facets in
    let ds = numbered (degree_stated c) 0 c.degrees in
    let xs = numbered (product_stated c) 0 c.products in
    let os = numbered (operation_stated c) 0 c.operations in
    let cs = numbered (cartan_stated c) 0 c.cartans in
    let es : List Stated = complex_ends c ∷ [] in
    let a = length-append fs (ds ++ (xs ++ (os ++ (cs ++ es)))) in
    let b = length-append ds (xs ++ (os ++ (cs ++ es))) in
    let d = length-append xs (os ++ (cs ++ es)) in
    let e = length-append os (cs ++ es) in
    let f = length-append cs es in
    let g = behind_each facet_stands [] c.facets in
    let h = numbered_sum (degree_stated c) degree_lines 0 c.degrees (degree_length c) in
    let i = numbered_sum (product_stated c) product_lines 0 c.products (product_length c) in
    let j = numbered_sum (operation_stated c) operation_lines 0 c.operations (operation_length c) in
    let k = cartans_length c 0 c.cartans in
    omega (arith, a, b, d, e, f, g, h, i, j, k)

pub map_length : (from to : ComplexPart) (cs : List ComplexPart) (before : List MapPart) (m : MapPart) → length (map_between from to cs before m) ≡ map_lines m
map_length from to cs before m =
    let ss = behind (λ ss s. send_stands from to ss s ∷ []) [] m.sends in
    let is = numbered (induced_stated from to m) 0 m.induced in
    let es : List Stated = map_ends from to m ∷ [] in
    let a = length-append ss (is ++ es) in
    let b = length-append is es in
    let g = behind_each (send_stands from to) [] m.sends in
    let h = numbered_sum (induced_stated from to m) induced_lines 0 m.induced (induced_length from to m) in
    omega (arith, a, b, g, h)

-- ---- what is left of a section

-- the lines from an item on are its own and those behind it
pub rest_next : {X : Type 0} (f : X → ℕ) (xs : List X) (i : ℕ) (x : X) → i < length xs → x ≡ get_or xs i x → sum_by f (drop i xs) ≡ f x + sum_by f (drop (i + 1) xs)
rest_next f xs i x b e = at_drop_more (sum_by f) xs i x b ∙ ap (λ y. sum_by f (y ∷ drop (i + 1) xs)) (sym e) ∙ sum_by-cons f x (drop (i + 1) xs)

pub rest_less : {X : Type 0} (f : X → ℕ) (xs : List X) (i : ℕ) (x : X) (at next all : ℕ) → i < length xs → x ≡ get_or xs i x → next ≡ at + f x → at + sum_by f (drop i xs) ≡ all → next + sum_by f (drop (i + 1) xs) ≡ all
rest_less f xs i x at next all b e n h = let r = rest_next f xs i x b e in omega (arith, r, n, h)

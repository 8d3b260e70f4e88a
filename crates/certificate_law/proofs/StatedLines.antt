-- The lines of which something is asked are those of the certificate, in their order.
use Rattle.std.proofs.{Common.{◌≡◌, ℕ, ◌+◌, refl, ◌∙◌, ap, ap₂, List, [], ◌∷◌, ◌++◌, map, flat_map}, lemmas.List.map-append, lemmas.List.Concat.flat_map_single}
use Rattle.simplicial_law.specs.Names.{Chain}
use Rattle.certificate_law.specs.{Types.{Sent, CartanAnswer, Yes, No, CartanPart, Column, ComplexPart, DegreePart, MapPart, TextLine as Line, below_line, class_line, column_line, facet_line}, Names.{StatedLinesLaw, line_said, verdict_said, complex_named, Stated, complex_opens, degree_opens, heading, induced_opens, map_opens, operation_opens, prime_is, product_opens, after, answer_stated, behind, below_stands, cartan_stated, class_stands, complex_ends, complex_stated, degree_stated, facet_stands, finish, induced_column, induced_stated, map_between, map_ends, map_stated, numbered, operation_column, operation_stated, product_column, product_stated, send_stands, with_stands}}
use Rattle.report_text_law.specs.Names.{answer_lines, cartan_lines, columns_from, complex_lines, degrees_from, induced_lines, map_lines, operation_lines, pair_lines, product_lines, send_of}

abbrev said : List Stated → List Line
said xs = map line_said xs

said_numbered : {X : Type 0} (line : ℕ → X → List Stated) (g : X → List Line) → ((k : ℕ) (x : X) → said (line k x) ≡ g x) → (k : ℕ) (xs : List X) → said (numbered line k xs) ≡ flat_map g xs
said_numbered line g h k [] = refl
said_numbered line g h k (x ∷ xs) = map-append line_said (line k x) (numbered line (k + 1) xs) ∙ ap₂ (λ ys zs. ys ++ zs) (h k x) (said_numbered line g h (k + 1) xs)

said_behind : {X : Type 0} (line : List X → X → List Stated) (g : X → List Line) → ((b : List X) (x : X) → said (line b x) ≡ g x) → (before xs : List X) → said (behind line before xs) ≡ flat_map g xs
said_behind line g h before [] = refl
said_behind line g h before (x ∷ xs) = map-append line_said (line before x) (behind line (before ++ x ∷ []) xs) ∙ ap₂ (λ ys zs. ys ++ zs) (h before x) (said_behind line g h (before ++ x ∷ []) xs)

said_after : (line : List Chain → Chain → Stated) (g : Chain → Line) → ((b : List Chain) (y : Chain) → line_said (line b y) ≡ g y) → (before ys : List Chain) → said (after (λ b y. line b y ∷ []) before ys) ≡ map g ys
said_after line g h before [] = refl
said_after line g h before (y ∷ ys) = ap₂ ◌∷◌ (h before y) (said_after line g h (y ∷ before) ys)

said_columns : (line : ℕ → Column → Stated) → ((k : ℕ) (y : Column) → line_said (line k y) ≡ column_line (k + 1) y.values) → (k : ℕ) (ys : List Column) → said (numbered (λ j y. line j y ∷ with_stands y.primitive ∷ []) k ys) ≡ columns_from (k + 1) ys
said_columns line h k [] = refl
said_columns line h k (y ∷ ys) = ap₂ (λ x zs. x ∷ line_said (with_stands y.primitive) ∷ zs) (h k y) (said_columns line h (k + 1) ys)

degrees_said : (c : ComplexPart) (n : ℕ) (ds : List DegreePart) → said (numbered (degree_stated c) n ds) ≡ degrees_from n ds
degrees_said c n [] = refl
degrees_said c n (d ∷ ds) =
    map-append line_said (degree_stated c n d) (numbered (degree_stated c) (n + 1) ds)
    ∙ ap₂ (λ ys zs. ys ++ zs)
    (ap (λ zs. line_said (degree_opens c n d) ∷ zs)
    (map-append line_said (after (λ before y. below_stands c n before y ∷ []) [] d.below) (after (λ before z. class_stands c n before z ∷ []) [] d.classes)
    ∙ ap₂ (λ ys zs. ys ++ zs) (said_after (below_stands c n) below_line (λ b y. refl) [] d.below) (said_after (class_stands c n) class_line (λ b z. refl) [] d.classes)))
    (degrees_said c (n + 1) ds)

cartan_said : (c : ComplexPart) (k : ℕ) (x : CartanPart) → said (cartan_stated c k x) ≡ cartan_lines x
cartan_said c k x = go x.answer
  where
    go : (answer : CartanAnswer) → verdict_said x answer ∷ line_said (answer_stated answer) ∷ [] ≡ answer_lines x.a x.i x.b x.j x.n answer
    go (Yes primitive) = refl
    go (No value cycle) = refl

complex_said : (before : List ComplexPart) (c : ComplexPart) → said (complex_stated before c) ≡ complex_lines c
complex_said before c =
    let fs = behind (λ (fs : List (List ℕ)) f. facet_stands fs f ∷ []) [] c.facets in
    let ds = numbered (degree_stated c) 0 c.degrees in
    let xs = numbered (product_stated c) 0 c.products in
    let os = numbered (operation_stated c) 0 c.operations in
    let cs = numbered (cartan_stated c) 0 c.cartans in
    let es : List Stated = complex_ends c ∷ [] in
    ap (λ zs. line_said (complex_opens before c) ∷ zs)
    (map-append line_said fs (ds ++ (xs ++ (os ++ (cs ++ es)))) ∙ ap₂ (λ a b. a ++ b) (said_behind (λ fs f. facet_stands fs f ∷ []) (λ f. facet_line f ∷ []) (λ b f. refl) [] c.facets ∙ flat_map_single facet_line c.facets)
    (map-append line_said ds (xs ++ (os ++ (cs ++ es))) ∙ ap₂ (λ a b. a ++ b) (degrees_said c 0 c.degrees)
    (map-append line_said xs (os ++ (cs ++ es)) ∙ ap₂ (λ a b. a ++ b) (said_numbered (product_stated c) product_lines (λ k x. ap (λ zs. line_said (product_opens c k x) ∷ zs) (said_numbered (λ j y. product_column c x j y ∷ with_stands y.primitive ∷ []) pair_lines (λ j y. refl) 0 x.columns)) 0 c.products)
    (map-append line_said os (cs ++ es) ∙ ap₂ (λ a b. a ++ b) (said_numbered (operation_stated c) operation_lines (λ k x. ap (λ zs. line_said (operation_opens c k x) ∷ zs) (said_columns (operation_column c x) (λ j y. refl) 0 x.columns)) 0 c.operations)
    (map-append line_said cs es ∙ ap (λ a. a ++ said es) (said_numbered (cartan_stated c) cartan_lines (cartan_said c) 0 c.cartans))))))

map_said : (from to : ComplexPart) (cs : List ComplexPart) (before : List MapPart) (m : MapPart) → said (map_between from to cs before m) ≡ map_lines m
map_said from to cs before m =
    let ss = behind (λ (ss : List Sent) s. send_stands from to ss s ∷ []) [] m.sends in
    let is = numbered (induced_stated from to m) 0 m.induced in
    let es : List Stated = map_ends from to m ∷ [] in
    ap (λ zs. line_said (map_opens cs before m) ∷ zs)
    (map-append line_said ss (is ++ es) ∙ ap₂ (λ a b. a ++ b) (said_behind (λ ss s. send_stands from to ss s ∷ []) (λ s. send_of s ∷ []) (λ b s. refl) [] m.sends ∙ flat_map_single send_of m.sends)
    (map-append line_said is es ∙ ap (λ a. a ++ said es) (said_numbered (induced_stated from to m) induced_lines (λ k x. ap (λ zs. line_said (induced_opens from to k x) ∷ zs) (said_columns (induced_column from to m x) (λ j y. refl) 0 x.columns)) 0 m.induced)))

pub stated_lines_law : StatedLinesLaw
stated_lines_law r =
    let cs = behind complex_stated [] r.complexes in
    let ms = behind (map_stated r.complexes) [] r.maps in
    let es : List Stated = finish r.complexes ∷ [] in
    ap (λ zs. line_said heading ∷ line_said (prime_is r.prime) ∷ zs)
    (map-append line_said cs (ms ++ es) ∙ ap₂ (λ a b. a ++ b) (said_behind complex_stated complex_lines complex_said [] r.complexes)
    (map-append line_said ms es ∙ ap (λ a. a ++ said es) (said_behind (map_stated r.complexes) map_lines (λ b m. map_said (complex_named r.complexes m.from) (complex_named r.complexes m.to) r.complexes b m) [] r.maps)))

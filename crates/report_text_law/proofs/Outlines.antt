-- The text of an outline is the text of the report.
use Rattle.std.proofs.{Common.{◌≡◌, ◌∙◌, ℕ, ◌+◌, List, [], ◌∷◌, ◌++◌, length, ap, ap₂, refl, sym, map, flat_map}, lemmas.Grind.flat_map-append}
use Rattle.report_text_law.specs.{Types.{Yes, No, CartanAnswer, Column, OperationPart, PairColumn, ProductPart, ComplexPart, DegreePart, Form, Basis, Short, Certificate, InducedPart, MapPart}, Names.{OutlineLaw, Chain, facet_line, below_line, class_line, with_line, cycle_line, cartan_yes, cartan_no, column_line, pair_line, degree_line, complex_line, end_line, map_line, product_line, operation_line, induced_line, columns_from, degree_lines, degrees_from, pair_lines, product_lines, operation_lines, answer_lines, cartan_lines, table_lines, complex_lines, send_of, induced_lines, map_lines, heading_line, prime_line, done_line, shown, printed, Line}, Text.text_of}
use Rattle.report.specs.Names.{details, tables, outline_degree, outline_column, outline_pair, outline_answer, outline_product, outline_operation, outline_line, outline_complex, outline_induced, outline_map}

-- lines in two parts, of which each is printed alike
two : (f : Form) (us bs cs ds : List Line) → printed f us ≡ printed f cs → printed f bs ≡ printed f ds → printed f (us ++ bs) ≡ printed f (cs ++ ds)
two f us bs cs ds e k = flat_map-append (shown f) us bs ∙ ap₂ (λ (s t : List ℕ). s ++ t) e k ∙ sym (flat_map-append (shown f) cs ds)

one : (f : Form) (l : Line) (us bs : List Line) → printed f us ≡ printed f bs → printed f (l ∷ us) ≡ printed f (l ∷ bs)
one f l us bs e = ap (λ (t : List ℕ). shown f l ++ t) e

-- parts one by one
each : {X : Type 0} (f : Form) (g : X → List Line) (o : X → X) → ((x : X) → printed f (g (o x)) ≡ printed f (g x)) → (xs : List X) → printed f (flat_map g (map o xs)) ≡ printed f (flat_map g xs)
each f g o same [] = refl
each f g o same (x ∷ xs) = two f (g (o x)) (flat_map g (map o xs)) (g x) (flat_map g xs) (same x) (each f g o same xs)

none_of : {X : Type 0} (f : Form) (g : X → List Line) → ((x : X) → printed f (g x) ≡ []) → (xs : List X) → printed f (flat_map g xs) ≡ []
none_of f g mute [] = refl
none_of f g mute (x ∷ xs) = flat_map-append (shown f) (g x) (flat_map g xs) ∙ ap₂ (λ (s t : List ℕ). s ++ t) (mute x) (none_of f g mute xs)

-- parts that stand in forms with tables
tabled : {X : Type 0} (f : Form) (g : X → List Line) (o : X → X) → ((x : X) → printed f (g (o x)) ≡ printed f (g x)) → ((x : X) → printed Basis (g x) ≡ []) → (xs : List X)
    → printed f (flat_map g (tables f (map o xs))) ≡ printed f (flat_map g xs)
tabled Basis g o same mute xs = sym (none_of Basis g mute xs)
tabled Short g o same mute xs = each Short g o same xs
tabled Certificate g o same mute xs = each Certificate g o same xs

-- lines that stand in a certificate alone
none_shown : {X : Type 0} (f : Form) (g : X → Line) → ((x : X) → shown f (g x) ≡ []) → (xs : List X) → printed f (map g xs) ≡ []
none_shown f g mute [] = refl
none_shown f g mute (x ∷ xs) = ap₂ (λ (s t : List ℕ). s ++ t) (mute x) (none_shown f g mute xs)

detailed : {X : Type 0} (f : Form) (g : X → Line) → ((x : X) → shown Basis (g x) ≡ []) → ((x : X) → shown Short (g x) ≡ []) → (xs : List X) → printed f (map g (details f xs)) ≡ printed f (map g xs)
detailed Basis g basis short xs = sym (none_shown Basis g basis xs)
detailed Short g basis short xs = sym (none_shown Short g short xs)
detailed Certificate g basis short xs = refl

with_same : (f : Form) (ts : Chain) → shown f (with_line (details f ts)) ≡ shown f (with_line ts)
with_same Basis ts = refl
with_same _ ts = refl

cycle_same : (f : Form) (ts : Chain) → shown f (cycle_line (details f ts)) ≡ shown f (cycle_line ts)
cycle_same Basis ts = refl
cycle_same _ ts = refl

columns_same : (f : Form) (j : ℕ) (cs : List Column) → printed f (columns_from j (map (outline_column f) cs)) ≡ printed f (columns_from j cs)
columns_same f j [] = refl
columns_same f j (c ∷ cs) = ap₂ (λ (s t : List ℕ). shown f (column_line j c.values) ++ (s ++ t)) (with_same f c.primitive) (columns_same f (j + 1) cs)

pair_same : (f : Form) (c : PairColumn) → printed f (pair_lines (outline_pair f c)) ≡ printed f (pair_lines c)
pair_same f c = ap (λ (s : List ℕ). shown f (pair_line c.i c.j c.values) ++ (s ++ [])) (with_same f c.primitive)

product_same : (f : Form) (x : ProductPart) → printed f (product_lines (outline_product f x)) ≡ printed f (product_lines x)
product_same f x = one f (product_line x.a x.b) (flat_map pair_lines (map (outline_pair f) x.columns)) (flat_map pair_lines x.columns) (each f pair_lines (outline_pair f) (pair_same f) x.columns)

operation_same : (f : Form) (x : OperationPart) → printed f (operation_lines (outline_operation f x)) ≡ printed f (operation_lines x)
operation_same f x = one f (operation_line x.word x.number x.from x.to) (columns_from 1 (map (outline_column f) x.columns)) (columns_from 1 x.columns) (columns_same f 1 x.columns)

answer_same : (f : Form) (a i b j n : ℕ) (x : CartanAnswer) → printed f (answer_lines a i b j n (outline_answer f x)) ≡ printed f (answer_lines a i b j n x)
answer_same f a i b j n (Yes ts) = ap (λ (s : List ℕ). shown f (cartan_yes a i b j n) ++ (s ++ [])) (with_same f ts)
answer_same f a i b j n (No v ts) = ap (λ (s : List ℕ). shown f (cartan_no a i b j n v) ++ (s ++ [])) (cycle_same f ts)

-- the bases have no line of a table
no_columns : (j : ℕ) (cs : List Column) → printed Basis (columns_from j cs) ≡ []
no_columns j [] = refl
no_columns j (c ∷ cs) = no_columns (j + 1) cs

no_answer : (a i b j n : ℕ) (x : CartanAnswer) → printed Basis (answer_lines a i b j n x) ≡ []
no_answer a i b j n (Yes ts) = refl
no_answer a i b j n (No v ts) = refl

tables_same : (f : Form) (c : ComplexPart) → printed f (table_lines (outline_complex f c)) ≡ printed f (table_lines c)
tables_same f c =
    two f _ _ (flat_map product_lines c.products) (flat_map operation_lines c.operations ++ (flat_map cartan_lines c.cartans ++ end_line ∷ []))
    (tabled f product_lines (outline_product f) (product_same f) (λ x. none_of Basis pair_lines (λ y. refl) x.columns) c.products)
    (two f _ _ (flat_map operation_lines c.operations) (flat_map cartan_lines c.cartans ++ end_line ∷ [])
    (tabled f operation_lines (outline_operation f) (operation_same f) (λ x. no_columns 1 x.columns) c.operations)
    (two f _ _ (flat_map cartan_lines c.cartans) (end_line ∷ [])
    (tabled f cartan_lines (outline_line f) (λ x. answer_same f x.a x.i x.b x.j x.n x.answer) (λ x. no_answer x.a x.i x.b x.j x.n x.answer) c.cartans) refl))

degrees_same : (f : Form) (n : ℕ) (ds : List DegreePart) → printed f (degrees_from n (map (outline_degree f) ds)) ≡ printed f (degrees_from n ds)
degrees_same f n [] = refl
degrees_same f n (d ∷ ds) =
    two f (degree_lines n (outline_degree f d)) (degrees_from (n + 1) (map (outline_degree f) ds)) (degree_lines n d) (degrees_from (n + 1) ds)
    (one f (degree_line n (length d.classes)) _ (map below_line d.below ++ map class_line d.classes)
    (two f (map below_line (details f d.below)) (map class_line d.classes) (map below_line d.below) (map class_line d.classes) (detailed f below_line (λ x. refl) (λ x. refl) d.below) refl))
    (degrees_same f (n + 1) ds)

complex_same : (f : Form) (c : ComplexPart) → printed f (complex_lines (outline_complex f c)) ≡ printed f (complex_lines c)
complex_same f c =
    one f (complex_line c.name) _ (map facet_line c.facets ++ (degrees_from 0 c.degrees ++ table_lines c))
    (two f (map facet_line (details f c.facets)) _ (map facet_line c.facets) (degrees_from 0 c.degrees ++ table_lines c) (detailed f facet_line (λ x. refl) (λ x. refl) c.facets)
    (two f (degrees_from 0 (map (outline_degree f) c.degrees)) (table_lines (outline_complex f c)) (degrees_from 0 c.degrees) (table_lines c) (degrees_same f 0 c.degrees) (tables_same f c)))

induced_same : (f : Form) (x : InducedPart) → printed f (induced_lines (outline_induced f x)) ≡ printed f (induced_lines x)
induced_same f x = one f (induced_line x.q) (columns_from 1 (map (outline_column f) x.columns)) (columns_from 1 x.columns) (columns_same f 1 x.columns)

map_same : (f : Form) (m : MapPart) → printed f (map_lines (outline_map f m)) ≡ printed f (map_lines m)
map_same f m =
    one f (map_line m.name m.from m.to) _ (map send_of m.sends ++ (flat_map induced_lines m.induced ++ end_line ∷ []))
    (two f (map send_of (details f m.sends)) _ (map send_of m.sends) (flat_map induced_lines m.induced ++ end_line ∷ []) (detailed f send_of (λ x. refl) (λ x. refl) m.sends)
    (two f (flat_map induced_lines (map (outline_induced f) m.induced)) (end_line ∷ []) (flat_map induced_lines m.induced) (end_line ∷ []) (each f induced_lines (outline_induced f) (induced_same f) m.induced) refl))

maps_same : (f : Form) (ms : List MapPart) → printed f (flat_map map_lines (tables f (tables f (map (outline_map f) ms)))) ≡ printed f (flat_map map_lines (tables f ms))
maps_same Basis ms = refl
maps_same Short ms = each Short map_lines (outline_map Short) (map_same Short) ms
maps_same Certificate ms = each Certificate map_lines (outline_map Certificate) (map_same Certificate) ms

pub outline_law : OutlineLaw
unfolding text_of
outline_law f r =
    one f heading_line (prime_line r.prime ∷ (flat_map complex_lines (map (outline_complex f) r.complexes) ++ (flat_map map_lines (tables f (tables f (map (outline_map f) r.maps))) ++ done_line ∷ [])))
    (prime_line r.prime ∷ (flat_map complex_lines r.complexes ++ (flat_map map_lines (tables f r.maps) ++ done_line ∷ [])))
    (one f (prime_line r.prime) _ (flat_map complex_lines r.complexes ++ (flat_map map_lines (tables f r.maps) ++ done_line ∷ []))
    (two f (flat_map complex_lines (map (outline_complex f) r.complexes)) _ (flat_map complex_lines r.complexes) (flat_map map_lines (tables f r.maps) ++ done_line ∷ [])
    (each f complex_lines (outline_complex f) (complex_same f) r.complexes)
    (two f (flat_map map_lines (tables f (tables f (map (outline_map f) r.maps)))) (done_line ∷ []) (flat_map map_lines (tables f r.maps)) (done_line ∷ []) (maps_same f r.maps) refl)))

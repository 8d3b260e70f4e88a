-- What a state stands for: the lines that were read.
use Rattle.std.{proofs.Common.{◌≡◌, ◌∙◌, ℕ, zero, suc, ◌+◌, Bool, true, false, cond, List, [], ◌∷◌, ◌++◌, length, ap, refl, sym, subst, arith, append_assoc, Some, None, length-append, rules, map, flat_map, ◌==◌, append-nil}, specs.declared.option.Option.Option, proofs.lemmas.List.{flat_map_more, map-append}}
use Rattle.report_text_law.specs.{Names.{ComplexHead, Chain, heading_line, prime_line, complex_line, facet_line, degree_line, below_line, class_line, product_line, pair_line, with_line, operation_line, column_line, cartan_yes, cartan_no, cycle_line, end_line, map_line, send_line, induced_line, done_line, columns_from, degree_lines, degrees_from, pair_lines, product_lines, operation_lines, cartan_lines, complex_lines, send_of, induced_lines, map_lines, Graded, Multiplied, Operated, Judged, ComplexStage, Facets, Values, Yes, No, Cartans, MapHead, Mapped, MapStage, Sends, InducedValues, Finding, State, AtStart, AtPrime, Between, InComplex, BetweenMaps, InMap, Finished, ◌>>=◌, with_degree, with_complex, graded_of, multiplied_from, multiplied_of, operated_from, operated_of, judged_from, judged_of, mapped_of, complex_of, map_of, degree_opens, facet_stands, below_stands, class_stands, pair_stands, values_stand, with_stands, cycle_stands, next, next_of_map, in_complex, in_map, move, Line}, Types.{Yes as answers_yes, No as answers_no, Column, DegreePart, MapPart}, declared.state.ComplexStage.TheVariants.{Degree, Product, Pair, Operation}, declared.state.MapStage.TheVariants.Induced}

abbrev pub block_lines : ComplexHead → List Line
block_lines b = complex_line b.name ∷ map facet_line b.facets

abbrev pub graded_lines : Graded → List Line
graded_lines g = block_lines g.block ++ degrees_from 0 g.degrees

abbrev pub multiplied_lines : Multiplied → List Line
multiplied_lines m = graded_lines m.graded ++ flat_map product_lines m.products

abbrev pub operated_lines : Operated → List Line
operated_lines o = multiplied_lines o.multiplied ++ flat_map operation_lines o.operations

abbrev pub judged_lines : Judged → List Line
judged_lines j = operated_lines j.operated ++ flat_map cartan_lines j.cartans

abbrev pub stage_lines : ComplexStage → List Line
stage_lines (Facets b) = block_lines b
stage_lines (Degree g k bs cs) = graded_lines g ++ degree_line (length g.degrees) (k + length cs) ∷ (map below_line bs ++ map class_line cs)
stage_lines (Product m x) = multiplied_lines m ++ product_lines x
stage_lines (Pair m x i j vs) = multiplied_lines m ++ (product_lines x ++ pair_line i j vs ∷ [])
stage_lines (Operation o x) = operated_lines o ++ operation_lines x
stage_lines (Values o x vs) = operated_lines o ++ (operation_lines x ++ column_line (length x.columns + 1) vs ∷ [])
stage_lines (Yes c a i b j n) = judged_lines c ++ cartan_yes a i b j n ∷ []
stage_lines (No c a i b j n v) = judged_lines c ++ cartan_no a i b j n v ∷ []
stage_lines (Cartans j) = judged_lines j

abbrev pub head_lines : MapHead → List Line
head_lines h = map_line h.name h.from h.to ∷ map send_of h.sends

abbrev pub mapped_lines : Mapped → List Line
mapped_lines m = head_lines m.head ++ flat_map induced_lines m.induced

abbrev pub map_stage_lines : MapStage → List Line
map_stage_lines (Sends h) = head_lines h
map_stage_lines (Induced m x) = mapped_lines m ++ induced_lines x
map_stage_lines (InducedValues m x vs) = mapped_lines m ++ (induced_lines x ++ column_line (length x.columns + 1) vs ∷ [])

abbrev pub front : Finding → List Line
front f = heading_line ∷ prime_line f.prime ∷ flat_map complex_lines f.complexes

abbrev pub front_of_maps : Finding → List MapPart → List Line
front_of_maps f ms = front f ++ flat_map map_lines ms

abbrev pub written : State → List Line
written AtStart = []
written AtPrime = heading_line ∷ []
written (Between f) = front f
written (InComplex f s) = front f ++ stage_lines s
written (BetweenMaps f ms) = front_of_maps f ms
written (InMap f ms s) = front_of_maps f ms ++ map_stage_lines s
written (Finished f ms) = front_of_maps f ms ++ done_line ∷ []

-- ---- lists

pub some_same : {A : Type 0} {a b : A} → Some a ≡ Some b → a ≡ b
some_same e = cc

pub bind_some : {A B : Type 0} (r : Option A) (f : A → Option B) (y : B) → (r >>= f) ≡ Some y → (x : A) × (r ≡ Some x) × (f x ≡ Some y)
bind_some (Some x) f y h = (x, refl, h)
bind_some None f y h = cc

-- what holds of all that is made of something that is there
pub bound : {A B : Type 0} (o : Option A) (make : A → B) (P : B → Type 0) (y : B) → (o >>= λ x. Some (make x)) ≡ Some y → ((x : A) → o ≡ Some x → P (make x)) → P y
bound (Some x) make P y e f = subst P (some_same e) (f x refl)
bound None make P y e f = cc

pub guard_some : {A : Type 0} (b : Bool) (r : Option A) (y : A) → cond b r None ≡ Some y → (b ≡ true) × (r ≡ Some y)
guard_some true r y h = (refl, h)
guard_some false r y h = cc

flat_more : {X : Type 0} (a : List Line) (f : X → List Line) (xs : List X) (x : X) → a ++ flat_map f (xs ++ x ∷ []) ≡ (a ++ flat_map f xs) ++ f x
flat_more a f xs x = sym (flat_map_more f a xs x)

map_more : {X : Type 0} (a : List Line) (f : X → Line) (xs : List X) (x : X) → a ++ map f (xs ++ x ∷ []) ≡ (a ++ map f xs) ++ f x ∷ []
map_more a f xs x = ap (λ (t : List Line). a ++ t) (map-append f xs (x ∷ [])) ∙ sym (append_assoc a (map f xs) (f x ∷ []))

two_more : (a b : List Line) (u w : Line) → a ++ (b ++ u ∷ w ∷ []) ≡ (a ++ (b ++ u ∷ [])) ++ w ∷ []
two_more a b u w = simp (append_assoc)

-- ---- where sections end

abbrev part_of : List Chain → List Chain → DegreePart
part_of bs cs = record { below = bs; classes = cs }

pub degrees_apart : (n : ℕ) (xs ys : List DegreePart) → degrees_from n (xs ++ ys) ≡ degrees_from n xs ++ degrees_from (n + length xs) ys
degrees_apart n [] ys = ap (λ (k : ℕ). degrees_from k ys) (omega arith)
degrees_apart n (x ∷ xs) ys =
    let e : n + 1 + length xs ≡ n + length (x ∷ xs) = omega arith in
    ap (λ (t : List Line). degree_lines n x ++ t) (degrees_apart (n + 1) xs ys ∙ ap (λ (k : ℕ). degrees_from (n + 1) xs ++ degrees_from k ys) e)
    ∙ sym (append_assoc (degree_lines n x) (degrees_from (n + 1) xs) (degrees_from (n + length (x ∷ xs)) ys))

pub columns_apart : (j : ℕ) (xs ys : List Column) → columns_from j (xs ++ ys) ≡ columns_from j xs ++ columns_from (j + length xs) ys
columns_apart j [] ys = ap (λ (k : ℕ). columns_from k ys) (omega arith)
columns_apart j (x ∷ xs) ys =
    let e : j + 1 + length xs ≡ j + length (x ∷ xs) = omega arith in
    ap (λ (t : List Line). column_line j x.values ∷ with_line x.primitive ∷ t) (columns_apart (j + 1) xs ys ∙ ap (λ (k : ℕ). columns_from (j + 1) xs ++ columns_from k ys) e)

columns_more : (xs : List Column) (vs : List ℕ) (ts : Chain) → columns_from 1 (xs ++ record { values = vs; primitive = ts } ∷ []) ≡ columns_from 1 xs ++ column_line (length xs + 1) vs ∷ with_line ts ∷ []
columns_more xs vs ts =
    let e : 1 + length xs ≡ length xs + 1 = omega arith in
    columns_apart 1 xs (record { values = vs; primitive = ts } ∷ []) ∙ ap (λ (k : ℕ). columns_from 1 xs ++ column_line k vs ∷ with_line ts ∷ []) e

degree_more : (g : Graded) (bs cs : List Chain) → graded_lines (with_degree g (part_of bs cs)) ≡ graded_lines g ++ degree_line (length g.degrees) (0 + length cs) ∷ (map below_line bs ++ map class_line cs)
degree_more g bs cs =
    let start : 0 + length g.degrees ≡ length g.degrees = omega arith in
    let count : length cs ≡ 0 + length cs = omega arith in
    ap (λ (t : List Line). block_lines g.block ++ t)
    (degrees_apart 0 g.degrees (part_of bs cs ∷ [])
    ∙ ap (λ (n : ℕ). degrees_from 0 g.degrees ++ degrees_from n (part_of bs cs ∷ [])) start
    ∙ ap (λ (t : List Line). degrees_from 0 g.degrees ++ t) (append-nil (degree_lines (length g.degrees) (part_of bs cs)))
    ∙ ap (λ (h : ℕ). degrees_from 0 g.degrees ++ degree_line (length g.degrees) h ∷ (map below_line bs ++ map class_line cs)) count)
    ∙ sym (append_assoc (block_lines g.block) (degrees_from 0 g.degrees) (degree_line (length g.degrees) (0 + length cs) ∷ (map below_line bs ++ map class_line cs)))

graded_law : (s : ComplexStage) (g : Graded) → graded_of s ≡ Some g → graded_lines g ≡ stage_lines s
graded_law (Facets b) g e = subst (λ (x : Graded). graded_lines x ≡ block_lines b) (some_same e) (append-nil (block_lines b))
graded_law (Degree h zero bs cs) g e = subst (λ (x : Graded). graded_lines x ≡ stage_lines (Degree h zero bs cs)) (some_same e) (degree_more h bs cs)
graded_law _ g e = cc

multiplied_law : (s : ComplexStage) (m : Multiplied) → multiplied_of s ≡ Some m → multiplied_lines m ≡ stage_lines s
multiplied_law (Product m x) n e = subst (λ (y : Multiplied). multiplied_lines y ≡ stage_lines (Product m x)) (some_same e) (flat_more (graded_lines m.graded) product_lines m.products x)
multiplied_law s m e = bound (graded_of s) multiplied_from (λ y. multiplied_lines y ≡ stage_lines s) m e (λ g k. append-nil (graded_lines g) ∙ graded_law s g k)

operated_law : (s : ComplexStage) (o : Operated) → operated_of s ≡ Some o → operated_lines o ≡ stage_lines s
operated_law (Operation p x) o e = subst (λ (y : Operated). operated_lines y ≡ stage_lines (Operation p x)) (some_same e) (flat_more (multiplied_lines p.multiplied) operation_lines p.operations x)
operated_law s o e = bound (multiplied_of s) operated_from (λ y. operated_lines y ≡ stage_lines s) o e (λ m k. append-nil (multiplied_lines m) ∙ multiplied_law s m k)

judged_law : (s : ComplexStage) (j : Judged) → judged_of s ≡ Some j → judged_lines j ≡ stage_lines s
judged_law (Cartans c) j e = subst (λ (y : Judged). judged_lines y ≡ judged_lines c) (some_same e) refl
judged_law s j e = bound (operated_of s) judged_from (λ y. judged_lines y ≡ stage_lines s) j e (λ o k. append-nil (operated_lines o) ∙ operated_law s o k)

mapped_law : (s : MapStage) (m : Mapped) → mapped_of s ≡ Some m → mapped_lines m ≡ map_stage_lines s
mapped_law (Sends h) m e = subst (λ (y : Mapped). mapped_lines y ≡ head_lines h) (some_same e) (append-nil (head_lines h))
mapped_law (Induced n x) m e = subst (λ (y : Mapped). mapped_lines y ≡ map_stage_lines (Induced n x)) (some_same e) (flat_more (head_lines n.head) induced_lines n.induced x)
mapped_law (InducedValues n x vs) m e = cc

-- ---- one more line of a complex

abbrev IsMore : ComplexStage → Line → ComplexStage → Type 0
IsMore s l t = stage_lines t ≡ stage_lines s ++ l ∷ []

facet_law : (s : ComplexStage) (vs : List ℕ) (t : ComplexStage) → facet_stands s vs ≡ Some t → IsMore s (facet_line vs) t
facet_law (Facets b) vs t e = subst (IsMore (Facets b) (facet_line vs)) (some_same e) (map_more (complex_line b.name ∷ []) facet_line b.facets vs)
facet_law _ vs t e = cc

degree_law : (g : Graded) (n h : ℕ) (t : ComplexStage) → degree_opens g n h ≡ Some t → stage_lines t ≡ graded_lines g ++ degree_line n h ∷ []
degree_law g n h t e =
    let d = guard_some (n == length g.degrees) (Some (Degree g h [] [])) t e in
    let place : n ≡ length g.degrees = search (rules, d.0) in
    let count : h + 0 ≡ h = omega arith in
    subst (λ (s : ComplexStage). stage_lines s ≡ graded_lines g ++ degree_line n h ∷ []) (some_same d.1)
    (ap (λ (k : ℕ). graded_lines g ++ degree_line (length g.degrees) k ∷ []) count ∙ ap (λ (k : ℕ). graded_lines g ++ degree_line k h ∷ []) (sym place))

below_law : (s : ComplexStage) (ts : Chain) (t : ComplexStage) → below_stands s ts ≡ Some t → IsMore s (below_line ts) t
below_law (Degree g k bs []) ts t e =
    let d : Line = degree_line (length g.degrees) (k + 0) in
    subst (IsMore (Degree g k bs []) (below_line ts)) (some_same e)
    (ap (λ (u : List Line). graded_lines g ++ d ∷ u) (append-nil (map below_line (bs ++ ts ∷ [])) ∙ map-append below_line bs (ts ∷ []) ∙ ap (λ (u : List Line). u ++ below_line ts ∷ []) (sym (append-nil (map below_line bs))))
    ∙ sym (append_assoc (graded_lines g) (d ∷ (map below_line bs ++ [])) (below_line ts ∷ [])))
below_law _ ts t e = cc

class_law : (s : ComplexStage) (ts : Chain) (t : ComplexStage) → class_stands s ts ≡ Some t → IsMore s (class_line ts) t
class_law (Degree g (suc k) bs cs) ts t e =
    let count : k + length (cs ++ ts ∷ []) ≡ suc k + length cs = omega (arith, length-append cs (ts ∷ [])) in
    let d : Line = degree_line (length g.degrees) (suc k + length cs) in
    subst (IsMore (Degree g (suc k) bs cs) (class_line ts)) (some_same e)
    (ap (λ (h : ℕ). graded_lines g ++ degree_line (length g.degrees) h ∷ (map below_line bs ++ map class_line (cs ++ ts ∷ []))) count
    ∙ ap (λ (u : List Line). graded_lines g ++ d ∷ u) (map_more (map below_line bs) class_line cs ts)
    ∙ sym (append_assoc (graded_lines g) (d ∷ (map below_line bs ++ map class_line cs)) (class_line ts ∷ [])))
class_law _ ts t e = cc

pair_law : (s : ComplexStage) (i j : ℕ) (vs : List ℕ) (t : ComplexStage) → pair_stands s i j vs ≡ Some t → IsMore s (pair_line i j vs) t
pair_law (Product m x) i j vs t e = subst (IsMore (Product m x) (pair_line i j vs)) (some_same e) (sym (append_assoc (multiplied_lines m) (product_lines x) (pair_line i j vs ∷ [])))
pair_law _ i j vs t e = cc

values_law : (s : ComplexStage) (j : ℕ) (vs : List ℕ) (t : ComplexStage) → values_stand s j vs ≡ Some t → IsMore s (column_line j vs) t
values_law (Operation o x) j vs t e =
    let d = guard_some (j == length x.columns + 1) (Some (Values o x vs)) t e in
    let place : j ≡ length x.columns + 1 = search (rules, d.0) in
    subst (IsMore (Operation o x) (column_line j vs)) (some_same d.1)
    (ap (λ (k : ℕ). operated_lines o ++ (operation_lines x ++ column_line k vs ∷ [])) (sym place) ∙ sym (append_assoc (operated_lines o) (operation_lines x) (column_line j vs ∷ [])))
values_law _ j vs t e = cc

with_law : (s : ComplexStage) (ts : Chain) (t : ComplexStage) → with_stands s ts ≡ Some t → IsMore s (with_line ts) t
with_law (Pair m x i j vs) ts t e =
    subst (IsMore (Pair m x i j vs) (with_line ts)) (some_same e)
    (ap (λ (u : List Line). multiplied_lines m ++ u) (flat_more (product_line x.a x.b ∷ []) pair_lines x.columns (record { i = i; j = j; values = vs; primitive = ts }))
    ∙ two_more (multiplied_lines m) (product_lines x) (pair_line i j vs) (with_line ts))
with_law (Values o x vs) ts t e =
    subst (IsMore (Values o x vs) (with_line ts)) (some_same e)
    (ap (λ (u : List Line). operated_lines o ++ operation_line x.word x.number x.from x.to ∷ u) (columns_more x.columns vs ts)
    ∙ two_more (operated_lines o) (operation_lines x) (column_line (length x.columns + 1) vs) (with_line ts))
with_law (Yes c a i b j n) ts t e =
    subst (IsMore (Yes c a i b j n) (with_line ts)) (some_same e)
    (flat_more (operated_lines c.operated) cartan_lines c.cartans (record { a = a; i = i; b = b; j = j; n = n; answer = answers_yes ts })
    ∙ sym (append_assoc (judged_lines c) (cartan_yes a i b j n ∷ []) (with_line ts ∷ [])))
with_law _ ts t e = cc

cycle_law : (s : ComplexStage) (ts : Chain) (t : ComplexStage) → cycle_stands s ts ≡ Some t → IsMore s (cycle_line ts) t
cycle_law (No c a i b j n v) ts t e =
    subst (IsMore (No c a i b j n v) (cycle_line ts)) (some_same e)
    (flat_more (operated_lines c.operated) cartan_lines c.cartans (record { a = a; i = i; b = b; j = j; n = n; answer = answers_no v ts })
    ∙ sym (append_assoc (judged_lines c) (cartan_no a i b j n v ∷ []) (cycle_line ts ∷ [])))
cycle_law _ ts t e = cc

next_law : (s : ComplexStage) (l : Line) (t : ComplexStage) → next s l ≡ Some t → IsMore s l t
next_law s (facet_line vs) t e = facet_law s vs t e
next_law s (degree_line n h) t e =
    let b = bind_some (graded_of s) (λ g. degree_opens g n h) t e in
    degree_law b.0 n h t b.2 ∙ ap (λ (u : List Line). u ++ degree_line n h ∷ []) (graded_law s b.0 b.1)
next_law s (below_line ts) t e = below_law s ts t e
next_law s (class_line ts) t e = class_law s ts t e
next_law s (product_line x y) t e =
    bound (multiplied_of s) (λ m. Product m (record { a = x; b = y; columns = [] })) (IsMore s (product_line x y)) t e (λ m k. ap (λ (u : List Line). u ++ product_line x y ∷ []) (multiplied_law s m k))
next_law s (pair_line i j vs) t e = pair_law s i j vs t e
next_law s (with_line ts) t e = with_law s ts t e
next_law s (operation_line w k q n) t e =
    bound (operated_of s) (λ o. Operation o (record { word = w; number = k; from = q; to = n; columns = [] })) (IsMore s (operation_line w k q n)) t e
    (λ o g. ap (λ (u : List Line). u ++ operation_line w k q n ∷ []) (operated_law s o g))
next_law s (column_line j vs) t e = values_law s j vs t e
next_law s (cartan_yes a i b j n) t e =
    bound (judged_of s) (λ c. Yes c a i b j n) (IsMore s (cartan_yes a i b j n)) t e (λ c k. ap (λ (u : List Line). u ++ cartan_yes a i b j n ∷ []) (judged_law s c k))
next_law s (cartan_no a i b j n v) t e =
    bound (judged_of s) (λ c. No c a i b j n v) (IsMore s (cartan_no a i b j n v)) t e (λ c k. ap (λ (u : List Line). u ++ cartan_no a i b j n v ∷ []) (judged_law s c k))
next_law s (cycle_line ts) t e = cycle_law s ts t e
next_law s _ t e = cc

-- ---- one more line of a map

abbrev IsMoreOfMap : MapStage → Line → MapStage → Type 0
IsMoreOfMap s l t = map_stage_lines t ≡ map_stage_lines s ++ l ∷ []

map_next_law : (s : MapStage) (l : Line) (t : MapStage) → next_of_map s l ≡ Some t → IsMoreOfMap s l t
map_next_law (Sends h) (send_line v w) t e =
    subst (IsMoreOfMap (Sends h) (send_line v w)) (some_same e) (map_more (map_line h.name h.from h.to ∷ []) send_of h.sends (record { from = v; to = w }))
map_next_law s (induced_line q) t e =
    bound (mapped_of s) (λ m. Induced m (record { q = q; columns = [] })) (IsMoreOfMap s (induced_line q)) t e (λ m k. ap (λ (u : List Line). u ++ induced_line q ∷ []) (mapped_law s m k))
map_next_law (Induced m x) (column_line j vs) t e =
    let d = guard_some (j == length x.columns + 1) (Some (InducedValues m x vs)) t e in
    let place : j ≡ length x.columns + 1 = search (rules, d.0) in
    subst (IsMoreOfMap (Induced m x) (column_line j vs)) (some_same d.1)
    (ap (λ (k : ℕ). mapped_lines m ++ (induced_lines x ++ column_line k vs ∷ [])) (sym place) ∙ sym (append_assoc (mapped_lines m) (induced_lines x) (column_line j vs ∷ [])))
map_next_law (InducedValues m x vs) (with_line ts) t e =
    subst (IsMoreOfMap (InducedValues m x vs) (with_line ts)) (some_same e)
    (ap (λ (u : List Line). mapped_lines m ++ induced_line x.q ∷ u) (columns_more x.columns vs ts)
    ∙ two_more (mapped_lines m) (induced_lines x) (column_line (length x.columns + 1) vs) (with_line ts))
map_next_law _ _ t e = cc

-- ---- whole complexes and maps

regrouped : (a b c d e f : List Line) → ((((a ++ b) ++ c) ++ d) ++ e) ++ f ≡ a ++ (b ++ (c ++ (d ++ (e ++ f))))
regrouped a b c d e f = simp (append_assoc)

pub complex_whole : (j : Judged) → judged_lines j ++ end_line ∷ [] ≡ complex_lines (complex_of j)
complex_whole j = regrouped (block_lines j.operated.multiplied.graded.block) (degrees_from 0 j.operated.multiplied.graded.degrees) (flat_map product_lines j.operated.multiplied.products) (flat_map operation_lines j.operated.operations) (flat_map cartan_lines j.cartans) (end_line ∷ [])

pub map_whole : (m : Mapped) → mapped_lines m ++ end_line ∷ [] ≡ map_lines (map_of m)
map_whole m = append_assoc (head_lines m.head) (flat_map induced_lines m.induced) (end_line ∷ [])

-- each line that is taken is one more that is written
abbrev AddsTo : State → Line → State → Type 0
AddsTo s l t = written t ≡ written s ++ l ∷ []

in_complex_law : (f : Finding) (s : ComplexStage) (l : Line) (t : State) → in_complex f s l ≡ Some t → AddsTo (InComplex f s) l t
in_complex_law f s end_line t e =
    bound (judged_of s) (λ j. Between (with_complex f (complex_of j))) (AddsTo (InComplex f s) end_line) t e
    (λ j k. flat_more (heading_line ∷ prime_line f.prime ∷ []) complex_lines f.complexes (complex_of j)
    ∙ ap (λ (u : List Line). front f ++ u) (sym (complex_whole j) ∙ ap (λ (u : List Line). u ++ end_line ∷ []) (judged_law s j k))
    ∙ sym (append_assoc (front f) (stage_lines s) (end_line ∷ [])))
in_complex_law f s l t e =
    bound (next s l) (λ u. InComplex f u) (AddsTo (InComplex f s) l) t e (λ u k. ap (λ (v : List Line). front f ++ v) (next_law s l u k) ∙ sym (append_assoc (front f) (stage_lines s) (l ∷ [])))

in_map_law : (f : Finding) (ms : List MapPart) (s : MapStage) (l : Line) (t : State) → in_map f ms s l ≡ Some t → AddsTo (InMap f ms s) l t
in_map_law f ms s end_line t e =
    bound (mapped_of s) (λ m. BetweenMaps f (ms ++ map_of m ∷ [])) (AddsTo (InMap f ms s) end_line) t e
    (λ m k. flat_more (front f) map_lines ms (map_of m)
    ∙ ap (λ (u : List Line). front_of_maps f ms ++ u) (sym (map_whole m) ∙ ap (λ (u : List Line). u ++ end_line ∷ []) (mapped_law s m k))
    ∙ sym (append_assoc (front_of_maps f ms) (map_stage_lines s) (end_line ∷ [])))
in_map_law f ms s l t e =
    bound (next_of_map s l) (λ u. InMap f ms u) (AddsTo (InMap f ms s) l) t e
    (λ u k. ap (λ (v : List Line). front_of_maps f ms ++ v) (map_next_law s l u k) ∙ sym (append_assoc (front_of_maps f ms) (map_stage_lines s) (l ∷ [])))

pub move_law : (s : State) (l : Line) (t : State) → move s l ≡ Some t → AddsTo s l t
move_law AtStart heading_line t e = subst (AddsTo AtStart heading_line) (some_same e) refl
move_law AtPrime (prime_line p) t e = subst (AddsTo AtPrime (prime_line p)) (some_same e) refl
move_law (Between f) (complex_line name) t e = subst (AddsTo (Between f) (complex_line name)) (some_same e) refl
move_law (Between f) (map_line name from to) t e = subst (AddsTo (Between f) (map_line name from to)) (some_same e) (ap (λ (u : List Line). u ++ map_line name from to ∷ []) (append-nil (front f)))
move_law (Between f) done_line t e = subst (AddsTo (Between f) done_line) (some_same e) (ap (λ (u : List Line). u ++ done_line ∷ []) (append-nil (front f)))
move_law (InComplex f s) l t e = in_complex_law f s l t e
move_law (BetweenMaps f ms) (map_line name from to) t e = subst (AddsTo (BetweenMaps f ms) (map_line name from to)) (some_same e) refl
move_law (BetweenMaps f ms) done_line t e = subst (AddsTo (BetweenMaps f ms) done_line) (some_same e) refl
move_law (InMap f ms s) l t e = in_map_law f ms s l t e
move_law _ _ t e = cc

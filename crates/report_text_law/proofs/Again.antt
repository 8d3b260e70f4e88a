-- The lines of a certificate are read again.
use Rattle.std.{proofs.Common.{◌≡◌, ◌∙◌, ℕ, ◌+◌, Bool, true, cond, List, [], ◌∷◌, ◌++◌, length, length-append, ap, refl, sym, subst, arith, append_assoc, Some, None, ◌==◌, map, flat_map, eq-eqb, append-nil}, specs.declared.option.Option.Option, specs.List.list_all, proofs.lemmas.Bool.and_parts}
use Rattle.fp_field.specs.Served.{served}
use Rattle.report_text_law.{specs.Names.{answer_lines, is_line, ComplexHead, Chain, complex_line, facet_line, degree_line, below_line, class_line, product_line, with_line, operation_line, column_line, cartan_yes, cartan_no, cycle_line, end_line, map_line, induced_line, done_line, columns_from, degree_lines, degrees_from, pair_lines, product_lines, operation_lines, cartan_lines, complex_lines, send_of, induced_lines, map_lines, certificate_lines, Graded, Multiplied, Operated, Judged, ComplexStage, Facets, Values, Yes, No, Cartans, MapHead, Mapped, MapStage, Sends, InducedValues, Finding, State, AtStart, Between, InComplex, BetweenMaps, InMap, Finished, ◌>>=◌, with_degree, with_cartan, with_complex, graded_of, multiplied_from, multiplied_of, operated_from, operated_of, judged_from, judged_of, mapped_of, complex_of, map_of, degree_opens, column_stands, induced_stands, next, next_of_map, map_opens, move, prime_of, step, run, Line}, proofs.Written.{bind_some, written}, proofs.Fine.{HasPrime, stays}, specs.Types.{CartanAnswer, Yes as answers_yes, No as answers_no, CartanPart, Column, OperationPart, ProductPart, ComplexPart, DegreePart, InducedPart, MapPart}, specs.declared.state.ComplexStage.TheVariants.{Degree, Product, Operation}, specs.declared.state.MapStage.TheVariants.Induced}

-- without looking at what is well formed
abbrev pub moves : State → List Line → Option State
moves s [] = Some s
moves s (l ∷ ls) = move s l >>= λ t. moves t ls

pub run_of_moves : (s : State) (ls : List Line) (t : State) → HasPrime (written s) → list_all (is_line (prime_of s)) ls ≡ true → moves s ls ≡ Some t → run s ls ≡ Some t
run_of_moves s [] t h fine e = e
run_of_moves s (l ∷ ls) t h fine e =
    let m = bind_some (move s l) (λ u. moves u ls) t e in
    let f = and_parts (is_line (prime_of s) l) (list_all (is_line (prime_of s)) ls) fine in
    let next = stays s l m.0 h m.1 in
    let one : step s l ≡ Some m.0 = ap (λ (b : Bool). cond b (move s l) None) f.0 ∙ m.1 in
    ap (λ (r : Option State). r >>= λ u. run u ls) one ∙ run_of_moves m.0 ls t next.0 (subst (λ (q : ℕ). list_all (is_line q) ls ≡ true) (sym next.1) f.1) m.2

-- ---- items that are read one after another

module _ {X : Type 0} (read : List X → List Line → Option State) where
  -- each with one line
  listed_again : (line : X → Line) → ((before : List X) (x : X) (rest : List Line) → read before (line x ∷ rest) ≡ read (before ++ x ∷ []) rest)
      → (before xs : List X) (rest : List Line) → read before (map line xs ++ rest) ≡ read (before ++ xs) rest
  listed_again line one before [] rest = ap (λ (t : List X). read t rest) (sym (append-nil before))
  listed_again line one before (x ∷ xs) rest =
      one before x (map line xs ++ rest) ∙ listed_again line one (before ++ x ∷ []) xs rest ∙ ap (λ (t : List X). read t rest) (append_assoc before (x ∷ []) xs)

  -- each with its lines
  parts_again : (lines : X → List Line) → ((before : List X) (x : X) (rest : List Line) → read before (lines x ++ rest) ≡ read (before ++ x ∷ []) rest)
      → (before xs : List X) (rest : List Line) → read before (flat_map lines xs ++ rest) ≡ read (before ++ xs) rest
  parts_again lines one before [] rest = ap (λ (t : List X). read t rest) (sym (append-nil before))
  parts_again lines one before (x ∷ xs) rest =
      ap (read before) (append_assoc (lines x) (flat_map lines xs) rest) ∙ one before x (flat_map lines xs ++ rest) ∙ parts_again lines one (before ++ x ∷ []) xs rest
      ∙ ap (λ (t : List X). read t rest) (append_assoc before (x ∷ []) xs)

columns_again : (read : List Column → List Line → Option State)
    → ((before : List Column) (c : Column) (rest : List Line) → read before (column_line (length before + 1) c.values ∷ with_line c.primitive ∷ rest) ≡ read (before ++ c ∷ []) rest)
    → (before : List Column) (j : ℕ) (cs : List Column) (rest : List Line) → j ≡ length before + 1 → read before (columns_from j cs ++ rest) ≡ read (before ++ cs) rest
columns_again read one before j [] rest place = ap (λ (t : List Column). read t rest) (sym (append-nil before))
columns_again read one before j (c ∷ cs) rest place =
    ap (λ (k : ℕ). read before (column_line k c.values ∷ with_line c.primitive ∷ (columns_from (j + 1) cs ++ rest))) place
    ∙ one before c (columns_from (j + 1) cs ++ rest)
    ∙ columns_again read one (before ++ c ∷ []) (j + 1) cs rest (omega (arith, place, length-append before (c ∷ [])))
    ∙ ap (λ (t : List Column). read t rest) (append_assoc before (c ∷ []) cs)

-- A stage behind all parts, where the section may end with these parts, if there is one behind each part.
sections_again : {S M X : Type 0} (read : S → List Line → Option State) (of : S → Option M) (whole : List X → M) (lines : X → List Line)
    → ((s : S) (before : List X) (x : X) (rest : List Line) → of s ≡ Some (whole before) → (t : S) × (of t ≡ Some (whole (before ++ x ∷ []))) × (read s (lines x ++ rest) ≡ read t rest))
    → (s : S) (before xs : List X) (rest : List Line) → of s ≡ Some (whole before) → (t : S) × (of t ≡ Some (whole (before ++ xs))) × (read s (flat_map lines xs ++ rest) ≡ read t rest)
sections_again read of whole lines one s before [] rest e = (s, e ∙ ap (λ a. Some (whole a)) (sym (append-nil before)), refl)
sections_again read of whole lines one s before (x ∷ xs) rest e =
    let next = one s before x (flat_map lines xs ++ rest) e in
    let more = sections_again read of whole lines one next.0 (before ++ x ∷ []) xs rest next.1 in
    (more.0, more.1 ∙ ap (λ a. Some (whole a)) (append_assoc before (x ∷ []) xs), ap (read s) (append_assoc (lines x) (flat_map lines xs) rest) ∙ next.2 ∙ more.2)

-- ---- from the end of one section to that of the next

lifted_graded : (s : ComplexStage) (g : Graded) → graded_of s ≡ Some g → multiplied_of s ≡ Some (multiplied_from g)
lifted_graded (Product m x) g e = cc
lifted_graded _ g e = ap (λ (r : Option Graded). r >>= λ g. Some (multiplied_from g)) e

lifted_multiplied : (s : ComplexStage) (m : Multiplied) → multiplied_of s ≡ Some m → operated_of s ≡ Some (operated_from m)
lifted_multiplied (Operation o x) m e = cc
lifted_multiplied _ m e = ap (λ (r : Option Multiplied). r >>= λ m. Some (operated_from m)) e

lifted_operated : (s : ComplexStage) (o : Operated) → operated_of s ≡ Some o → judged_of s ≡ Some (judged_from o)
lifted_operated (Cartans j) o e = cc
lifted_operated _ o e = ap (λ (r : Option Operated). r >>= λ o. Some (judged_from o)) e

-- ---- the sections of a complex

abbrev In : Finding → ComplexStage → List Line → Option State
In f s ls = moves (InComplex f s) ls

classes_again : (f : Finding) (g : Graded) (bs cs xs : List Chain) (rest : List Line)
    → In f (Degree g (length xs) bs cs) (map class_line xs ++ rest) ≡ In f (Degree g 0 bs (cs ++ xs)) rest
classes_again f g bs cs [] rest = ap (λ (t : List Chain). In f (Degree g 0 bs t) rest) (sym (append-nil cs))
classes_again f g bs cs (x ∷ xs) rest = classes_again f g bs (cs ++ x ∷ []) xs rest ∙ ap (λ (t : List Chain). In f (Degree g 0 bs t) rest) (append_assoc cs (x ∷ []) xs)

stepped : {A : Type 0} (make : A → State) (o : Option A) (a : A) (rest : List Line) → o ≡ Some a → ((o >>= λ v. Some (make v)) >>= λ w. moves w rest) ≡ moves (make a) rest
stepped make o a rest e = ap (λ o. (o >>= λ v. Some (make v)) >>= λ w. moves w rest) e

degree_again : (f : Finding) (s : ComplexStage) (g : Graded) (n : ℕ) (x : DegreePart) (rest : List Line) → graded_of s ≡ Some g → n ≡ length g.degrees
    → In f s (degree_lines n x ++ rest) ≡ In f (Degree g 0 x.below x.classes) rest
degree_again f s g n x rest e place =
    let fits : (n == length g.degrees) ≡ true = eq-eqb n (length g.degrees) place in
    let h : ℕ = length x.classes in
    stepped (λ u. InComplex f u) (next s (degree_line n h)) (Degree g h [] []) ((map below_line x.below ++ map class_line x.classes) ++ rest)
    (ap (λ (o : Option Graded). o >>= λ g. degree_opens g n h) e ∙ ap (λ (b : Bool). cond b (Some (Degree g h [] [])) None) fits)
    ∙ ap (In f (Degree g h [] [])) (append_assoc (map below_line x.below) (map class_line x.classes) rest)
    ∙ listed_again (λ bs. In f (Degree g h bs [])) below_line (λ b c r. refl) [] x.below (map class_line x.classes ++ rest)
    ∙ classes_again f g x.below [] x.classes rest

degrees_again : (f : Finding) (s : ComplexStage) (g : Graded) (n : ℕ) (xs : List DegreePart) (rest : List Line) → graded_of s ≡ Some g → n ≡ length g.degrees
    → (t : ComplexStage) × (graded_of t ≡ Some (record { block = g.block; degrees = g.degrees ++ xs })) × (In f s (degrees_from n xs ++ rest) ≡ In f t rest)
degrees_again f s g n [] rest e place = (s, e ∙ ap (λ (ds : List DegreePart). Some (record { block = g.block; degrees = ds })) (sym (append-nil g.degrees)), refl)
degrees_again f s g n (x ∷ xs) rest e place =
    let more : n + 1 ≡ length (g.degrees ++ x ∷ []) = omega (arith, length-append g.degrees (x ∷ [])) in
    let r = degrees_again f (Degree g 0 x.below x.classes) (with_degree g x) (n + 1) xs rest refl more in (
      r.0,
      r.1 ∙ ap (λ (ds : List DegreePart). Some (record { block = g.block; degrees = ds })) (append_assoc g.degrees (x ∷ []) xs),
      ap (In f s) (append_assoc (degree_lines n x) (degrees_from (n + 1) xs) rest) ∙ degree_again f s g n x (degrees_from (n + 1) xs ++ rest) e place ∙ r.2,
    )

products_again : (f : Finding) (g : Graded) (s : ComplexStage) (xs : List ProductPart) (rest : List Line) → multiplied_of s ≡ Some (multiplied_from g)
    → (t : ComplexStage) × (multiplied_of t ≡ Some (record { graded = g; products = xs })) × (In f s (flat_map product_lines xs ++ rest) ≡ In f t rest)
products_again f g s xs rest e =
    sections_again (In f) multiplied_of (λ ps. record { graded = g; products = ps }) product_lines
    (λ s before x rest e. (
      Product (record { graded = g; products = before }) x,
      refl,
      stepped (λ u. InComplex f u) (next s (product_line x.a x.b)) (Product (record { graded = g; products = before }) (record { a = x.a; b = x.b; columns = [] })) (flat_map pair_lines x.columns ++ rest)
          (ap (λ (o : Option Multiplied). o >>= λ m. Some (Product m (record { a = x.a; b = x.b; columns = [] }))) e)
          ∙ parts_again (λ cs. In f (Product (record { graded = g; products = before }) (record { a = x.a; b = x.b; columns = cs }))) pair_lines (λ b c r. refl) [] x.columns rest,
    ))
    s [] xs rest e

operations_again : (f : Finding) (m : Multiplied) (s : ComplexStage) (xs : List OperationPart) (rest : List Line) → operated_of s ≡ Some (operated_from m)
    → (t : ComplexStage) × (operated_of t ≡ Some (record { multiplied = m; operations = xs })) × (In f s (flat_map operation_lines xs ++ rest) ≡ In f t rest)
operations_again f m s xs rest e =
    sections_again (In f) operated_of (λ ps. record { multiplied = m; operations = ps }) operation_lines
    (λ s before x rest e.
    let o : Operated = record { multiplied = m; operations = before } in
    let with_columns : List Column → OperationPart = λ cs. record { word = x.word; number = x.number; from = x.from; to = x.to; columns = cs } in (
      Operation o x,
      refl,
      stepped (λ u. InComplex f u) (next s (operation_line x.word x.number x.from x.to)) (Operation o (with_columns [])) (columns_from 1 x.columns ++ rest)
          (ap (λ (r : Option Operated). r >>= λ o. Some (Operation o (record { word = x.word; number = x.number; from = x.from; to = x.to; columns = [] }))) e)
          ∙ columns_again (λ cs. In f (Operation o (with_columns cs)))
          (λ b c r. stepped (λ u. InComplex f u) (column_stands o (with_columns b) (length b + 1) c.values) (Values o (with_columns b) c.values) (with_line c.primitive ∷ r)
          (ap (λ (t : Bool). cond t (Some (Values o (with_columns b) c.values)) None) (eq-eqb (length b + 1) (length b + 1) refl)))
          [] 1 x.columns rest refl,
    ))
    s [] xs rest e

cartan_again : (f : Finding) (s : ComplexStage) (c : Judged) (x : CartanPart) (rest : List Line) → judged_of s ≡ Some c → In f s (cartan_lines x ++ rest) ≡ In f (Cartans (with_cartan c x)) rest
cartan_again f s c x rest e = go x.answer
  where
    go : (y : CartanAnswer) → In f s (answer_lines x.a x.i x.b x.j x.n y ++ rest) ≡ In f (Cartans (with_cartan c (record { a = x.a; i = x.i; b = x.b; j = x.j; n = x.n; answer = y }))) rest
    go (answers_yes ts) = stepped (λ u. InComplex f u) (next s (cartan_yes x.a x.i x.b x.j x.n)) (Yes c x.a x.i x.b x.j x.n) (with_line ts ∷ rest) (ap (λ (r : Option Judged). r >>= λ c. Some (Yes c x.a x.i x.b x.j x.n)) e)
    go (answers_no v ts) = stepped (λ u. InComplex f u) (next s (cartan_no x.a x.i x.b x.j x.n v)) (No c x.a x.i x.b x.j x.n v) (cycle_line ts ∷ rest) (ap (λ (r : Option Judged). r >>= λ c. Some (No c x.a x.i x.b x.j x.n v)) e)

cartans_again : (f : Finding) (o : Operated) (s : ComplexStage) (xs : List CartanPart) (rest : List Line) → judged_of s ≡ Some (judged_from o)
    → (t : ComplexStage) × (judged_of t ≡ Some (record { operated = o; cartans = xs })) × (In f s (flat_map cartan_lines xs ++ rest) ≡ In f t rest)
cartans_again f o s xs rest e =
    sections_again (In f) judged_of (λ ps. record { operated = o; cartans = ps }) cartan_lines
    (λ s before x rest e. (Cartans (with_cartan (record { operated = o; cartans = before }) x), refl, cartan_again f s (record { operated = o; cartans = before }) x rest e)) s [] xs rest e

split_complex : (c : ComplexPart) (rest : List Line) → complex_lines c ++ rest ≡ complex_line c.name ∷ (map facet_line c.facets ++ (degrees_from 0 c.degrees ++ (flat_map product_lines c.products ++ (flat_map operation_lines c.operations ++ (flat_map cartan_lines c.cartans ++ end_line ∷ rest)))))
split_complex c rest = simp (append_assoc)

complex_again : (f : Finding) (c : ComplexPart) (rest : List Line) → moves (Between f) (complex_lines c ++ rest) ≡ moves (Between (with_complex f c)) rest
complex_again f c rest =
    let b : ComplexHead = record { name = c.name; facets = c.facets } in
    let g : Graded = record { block = b; degrees = c.degrees } in
    let m : Multiplied = record { graded = g; products = c.products } in
    let q : Operated = record { multiplied = m; operations = c.operations } in
    let cs = flat_map cartan_lines c.cartans ++ end_line ∷ rest in
    let os = flat_map operation_lines c.operations ++ cs in
    let ps = flat_map product_lines c.products ++ os in
    let d = degrees_again f (Facets b) (record { block = b; degrees = [] }) 0 c.degrees ps refl refl in
    let p = products_again f g d.0 c.products os (lifted_graded d.0 g d.1) in
    let o = operations_again f m p.0 c.operations cs (lifted_multiplied p.0 m p.1) in
    let j = cartans_again f q o.0 c.cartans (end_line ∷ rest) (lifted_operated o.0 q o.1) in
    ap (moves (Between f)) (split_complex c rest)
    ∙ listed_again (λ fs. In f (Facets (record { name = c.name; facets = fs }))) facet_line (λ b v r. refl) [] c.facets (degrees_from 0 c.degrees ++ ps)
    ∙ d.2 ∙ p.2 ∙ o.2 ∙ j.2
    ∙ ap (λ (r : Option Judged). (r >>= λ j. Some (Between (with_complex f (complex_of j)))) >>= λ t. moves t rest) j.1

-- ---- maps

abbrev On : Finding → List MapPart → MapStage → List Line → Option State
On f ms s ls = moves (InMap f ms s) ls

induceds_again : (f : Finding) (ms : List MapPart) (h : MapHead) (s : MapStage) (xs : List InducedPart) (rest : List Line) → mapped_of s ≡ Some (record { head = h; induced = [] })
    → (t : MapStage) × (mapped_of t ≡ Some (record { head = h; induced = xs })) × (On f ms s (flat_map induced_lines xs ++ rest) ≡ On f ms t rest)
induceds_again f ms h s xs rest e =
    sections_again (On f ms) mapped_of (λ is. record { head = h; induced = is }) induced_lines
    (λ s before x rest e.
    let m : Mapped = record { head = h; induced = before } in
    let with_columns : List Column → InducedPart = λ cs. record { q = x.q; columns = cs } in (
      Induced m x,
      refl,
      stepped (λ u. InMap f ms u) (next_of_map s (induced_line x.q)) (Induced m (with_columns [])) (columns_from 1 x.columns ++ rest) (ap (λ (r : Option Mapped). r >>= λ m. Some (Induced m (record { q = x.q; columns = [] }))) e)
          ∙ columns_again (λ cs. On f ms (Induced m (with_columns cs)))
          (λ b c r. stepped (λ u. InMap f ms u) (induced_stands m (with_columns b) (length b + 1) c.values) (InducedValues m (with_columns b) c.values) (with_line c.primitive ∷ r)
          (ap (λ (t : Bool). cond t (Some (InducedValues m (with_columns b) c.values)) None) (eq-eqb (length b + 1) (length b + 1) refl)))
          [] 1 x.columns rest refl,
    ))
    s [] xs rest e

split_map : (m : MapPart) (rest : List Line) → map_lines m ++ rest ≡ map_line m.name m.from m.to ∷ (map send_of m.sends ++ (flat_map induced_lines m.induced ++ end_line ∷ rest))
split_map m rest = simp (append_assoc)

opened_again : (f : Finding) (ms : List MapPart) (m : MapPart) (rest : List Line)
    → On f ms (map_opens m.name m.from m.to) (map send_of m.sends ++ (flat_map induced_lines m.induced ++ end_line ∷ rest)) ≡ moves (BetweenMaps f (ms ++ m ∷ [])) rest
opened_again f ms m rest =
    let h : MapHead = record { name = m.name; from = m.from; to = m.to; sends = m.sends } in
    let i = induceds_again f ms h (Sends h) m.induced (end_line ∷ rest) refl in
    listed_again (λ ss. On f ms (Sends (record { name = m.name; from = m.from; to = m.to; sends = ss }))) send_of (λ b s r. refl) [] m.sends (flat_map induced_lines m.induced ++ end_line ∷ rest)
    ∙ i.2
    ∙ ap (λ (r : Option Mapped). (r >>= λ m. Some (BetweenMaps f (ms ++ map_of m ∷ []))) >>= λ t. moves t rest) i.1

map_again : (f : Finding) (ms : List MapPart) (m : MapPart) (rest : List Line) → moves (BetweenMaps f ms) (map_lines m ++ rest) ≡ moves (BetweenMaps f (ms ++ m ∷ [])) rest
map_again f ms m rest = ap (moves (BetweenMaps f ms)) (split_map m rest) ∙ opened_again f ms m rest

all_maps_again : (f : Finding) (xs : List MapPart) → moves (Between f) (flat_map map_lines xs ++ done_line ∷ []) ≡ Some (Finished f xs)
all_maps_again f [] = refl
all_maps_again f (x ∷ xs) =
    ap (moves (Between f)) (append_assoc (map_lines x) (flat_map map_lines xs) (done_line ∷ []) ∙ split_map x (flat_map map_lines xs ++ done_line ∷ []))
    ∙ opened_again f [] x (flat_map map_lines xs ++ done_line ∷ []) ∙ parts_again (λ ms. moves (BetweenMaps f ms)) map_lines (map_again f) (x ∷ []) xs (done_line ∷ [])

abbrev pub finding : ℕ → List ComplexPart → Finding
finding p cs = record { prime = p; complexes = cs }

-- every certificate is read
pub again : (p : ℕ) (cs : List ComplexPart) (ms : List MapPart) → list_all (is_line p) (certificate_lines p cs ms) ≡ true → run AtStart (certificate_lines p cs ms) ≡ Some (Finished (finding p cs) ms)
again p cs ms fine =
    let tail = flat_map complex_lines cs ++ (flat_map map_lines ms ++ done_line ∷ []) in
    let parts = and_parts (served p) (list_all (is_line p) tail) fine in
    ap (λ (b : Bool). cond b (Some (Between (finding p []))) None >>= λ t. run t tail) parts.0
    ∙ run_of_moves (Between (finding p [])) tail (Finished (finding p cs) ms) tt parts.1
    (parts_again (λ ds. moves (Between (finding p ds))) complex_lines (λ ds. complex_again (finding p ds)) [] cs (flat_map map_lines ms ++ done_line ∷ []) ∙ all_maps_again (finding p cs) ms)

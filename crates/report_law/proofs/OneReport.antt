-- A job has one report in each form.
use Rattle.std.{proofs.Common.{◌≡◌, ℕ, suc, ◌+◌, ◌<◌, inl, inr, true, List, [], ◌∷◌, map, length, get_or, drop, arith, refl, sym, ap, ap₂, subst, ◌∙◌, IsTrue}, specs.List.AllZip, proofs.lemmas.List.length-map}
use Rattle.fp_field.{specs.Served.served, proofs.ServedLemmas.served_field}
use Rattle.linear_law.{specs.Names.{IsField, Among, Each, IsAscending}, proofs.Names.{Congruent_refl, among_map, each_among, each_get_or, each_unmap, each_zip}}
use Rattle.simplicial_law.specs.Names.{AgreesOnSimplices, Cochain, IsCohomologyBasis, AreCanonicalBases}
use Rattle.steenrod_law.specs.Names.{cochain_products, pull_back}
use Rattle.report_law.{specs.Types.{ComplexBlock, MapBlock, Sent, CartanAnswer, Yes, No, CartanPart, Column, OpWord, OperationPart, PairColumn, ProductPart, ComplexPart, DegreePart, Form, Certificate, Report, InducedPart, MapPart, Block, Line, Op, Square, Product, Power, BocksteinPower}, specs.Names.{IsColumn, OneReportLaw, cartan_op, has_class, is_defined, Classes, IsInducedBlock, IsOperationBlock, IsOperationColumn, IsProductBlock, IsVerdict, class_at, classes_in, cochains_in, line_degree, ranks, below_in, block_of, classes_of, line_of, number_pairs, numbers_of, op_named, part_at, product_of, unnumbered, AreTables, IsCartanPart, IsComplexPart, IsInducedPart, IsMapPart, IsOperationPart, IsProductPart, IsReportOf}, proofs.Blocks.{IsLiveBlock, of-blocks}, proofs.CanonicalData.bases-of, proofs.Coordinates.canonical-are, proofs.HeadlineProof.{classes-at, part-of}, proofs.Lists.each-of, proofs.Maps.{IsMapOf, job-complexes, job-maps, job-prime}, proofs.SameData.{details-same, same-answer, same-bases, same-column, same-primitives, tables-same, zip-outline}, proofs.Unique.same-order, proofs.Verdicts.{difference-once, of-lines, operation-once}}
use Rattle.complex_file.specs.{Names.{Spelled, facets_at, image}, Jobs.is_job}
use Rattle.report.specs.Names.{has_details, has_tables, outline, outline_answer, outline_column, outline_complex, outline_degree, outline_induced, outline_line, outline_map, outline_operation, outline_pair, outline_product}
use Rattle.report.specs.declared.columns.OpWord.TheVariants as word

-- ---- lists of parts with the same headings

first-same : {X : Type 0} (x y : X) (xs ys : List X) → x ∷ xs ≡ y ∷ ys → x ≡ y
first-same x y xs ys e = ap (λ (l : List _). get_or l 0 x) e

rest-same : {X : Type 0} (x y : X) (xs ys : List X) → x ∷ xs ≡ y ∷ ys → xs ≡ ys
rest-same x y xs ys e = ap (λ (l : List _). drop 1 l) e

-- parts whose outlines are told by their headings
same-parts : {X Y Z : Type 0} (f : X → Y) (o : X → Z) (P Q : X → Type 0) → ((x y : X) → f x ≡ f y → P x → Q y → o x ≡ o y) → (xs ys : List X) → map f xs ≡ map f ys → Each P xs → Each Q ys → map o xs ≡ map o ys
same-parts f o P Q g [] [] e h k = refl
same-parts f o P Q g (x ∷ xs) (y ∷ ys) e h k =
    ap₂ ◌∷◌ (g x y (first-same (f x) (f y) (map f xs) (map f ys) e) h.0 k.0)
    (same-parts f o P Q g xs ys (rest-same (f x) (f y) (map f xs) (map f ys) e) h.1 k.1)
same-parts f o P Q g _ _ e h k = absurd cc

degree-lists : (form : Form) (xs ys : List DegreePart) → map (λ d. d.classes) xs ≡ map (λ d. d.classes) ys
    → (IsTrue (has_details form) → (n : ℕ) → n < length xs → get_or (map (λ d. d.below) xs) n [] ≡ get_or (map (λ d. d.below) ys) n []) → map (outline_degree form) xs ≡ map (outline_degree form) ys
degree-lists form [] [] a b = refl
degree-lists form (x ∷ xs) (y ∷ ys) a b =
    let c = first-same x.classes y.classes (map (λ d. d.classes) xs) (map (λ d. d.classes) ys) a in
    let d = details-same form x.below y.below (λ t. b t 0 (omega arith)) in
    let first : outline_degree form x ≡ outline_degree form y = (λ t. record { below = d t; classes = c t }) in
    ap₂ ◌∷◌ first (degree-lists form xs ys (rest-same x.classes y.classes (map (λ d. d.classes) xs) (map (λ d. d.classes) ys) a) (λ t n l. b t (suc n) (omega (arith, l))))
degree-lists form _ _ a b = absurd cc

agrees-refl : (facets : List (List ℕ)) (n p : ℕ) (z : Cochain) → AgreesOnSimplices facets n p z z
agrees-refl facets n p z = record { at = λ s on. Congruent_refl (z s) }

-- ---- one complex

module _ (form : Form) (facets : List (List ℕ)) (ascending : Each IsAscending facets) (p : ℕ) (is_served : IsTrue (served p)) (classes : Classes) (are : AreCanonicalBases facets p classes) where
  abbrev field : IsField p
  field = served_field p is_served

  abbrev basis : (n : ℕ) → IsCohomologyBasis facets n p (cochains_in classes n)
  basis n = (canonical-are facets p classes are).basis n

  -- columns for two cochains that agree
  column-alike : (n : ℕ) (z w : Cochain) (x y : Column) → AgreesOnSimplices facets n p z w → IsColumn (has_details form) facets n p (cochains_in classes n) z x.values x.primitive
      → IsColumn (has_details form) facets n p (cochains_in classes n) w y.values y.primitive → outline_column form x ≡ outline_column form y
  column-alike n z w x y same h k =
      let s = same-column facets ascending p field n form (cochains_in classes n) (basis n) z w x.values y.values x.primitive y.primitive same h k in
      let v = s.0 in
      let r = s.1 in
      (λ t. record { values = v t; primitive = r t })

  pub column-once : (n : ℕ) (z : Cochain) (x y : Column) → IsColumn (has_details form) facets n p (cochains_in classes n) z x.values x.primitive
      → IsColumn (has_details form) facets n p (cochains_in classes n) z y.values y.primitive → outline_column form x ≡ outline_column form y
  column-once n z x y h k = column-alike n z z x y (agrees-refl facets n p z) h k

  -- ---- products

  pair-columns : (n : ℕ) (us : List Cochain) (xs ys : List PairColumn) → map numbers_of xs ≡ map numbers_of ys
      → AllZip (λ u c. IsColumn (has_details form) facets n p (cochains_in classes n) u c.values c.primitive) us (map unnumbered xs)
      → AllZip (λ u c. IsColumn (has_details form) facets n p (cochains_in classes n) u c.values c.primitive) us (map unnumbered ys) → map (outline_pair form) xs ≡ map (outline_pair form) ys
  pair-columns n [] [] [] e h k = refl
  pair-columns n [] (x ∷ xs) ys e h k = absurd h
  pair-columns n (u ∷ us) [] ys e h k = absurd h
  pair-columns n (u ∷ us) (x ∷ xs) (y ∷ ys) e h k =
      let q = first-same (numbers_of x) (numbers_of y) (map numbers_of xs) (map numbers_of ys) e in
      let c = column-once n u (unnumbered x) (unnumbered y) h.0 k.0 in
      let first : outline_pair form x ≡ outline_pair form y = (λ t. record { i = (q t).0; j = (q t).1; values = (c t).values; primitive = (c t).primitive }) in
      ap₂ ◌∷◌ first (pair-columns n us xs ys (rest-same (numbers_of x) (numbers_of y) (map numbers_of xs) (map numbers_of ys) e) h.1 k.1)
  pair-columns n _ _ _ e h k = absurd k

  product-once : (x y : ProductPart) → product_of x ≡ product_of y → IsProductPart (has_details form) facets p classes x → IsProductPart (has_details form) facets p classes y → outline_product form x ≡ outline_product form y
  product-once x y e h k =
      let numbers = h.numbers ∙ ap (λ (q : Product). number_pairs (length (classes_in classes q.a)) (length (classes_in classes q.b))) e ∙ sym k.numbers in
      let there : IsProductBlock (has_details form) facets p classes (product_of x) (map unnumbered y.columns) = subst (λ (q : Product). IsProductBlock (has_details form) facets p classes q (map unnumbered y.columns)) (sym e) k.block in
      let columns = pair-columns (x.a + x.b) (cochain_products p x.a x.b (cochains_in classes x.a) (cochains_in classes x.b)) x.columns y.columns numbers h.block there in
      (λ t. record { a = (e t).a; b = (e t).b; columns = columns t })

  -- ---- operations

  operation-column-once : (b : Block) → IsLiveBlock p b → (z : Cochain) (x y : Column) → IsOperationColumn (has_details form) facets p classes b z x → IsOperationColumn (has_details form) facets p classes b z y → outline_column form x ≡ outline_column form y
  operation-column-once b live z x y h k =
      let same = operation-once facets p is_served b.op b.from z h.result k.result live.defined h.is_result k.is_result in
      let here : AgreesOnSimplices facets b.to p h.result k.result = subst (λ (m : ℕ). AgreesOnSimplices facets m p h.result k.result) (sym live.target) same in
      column-alike b.to h.result k.result x y here h.is_column k.is_column

  abbrev number-of : Op → ℕ
  number-of (Square k) = k
  number-of (Power s) = s
  number-of (BocksteinPower s) = s

  same-word : (w v : OpWord) (k j : ℕ) → op_named w k ≡ op_named v j → w ≡ v
  same-word word.Sq word.Sq k j e = refl
  same-word word.Power word.Power k j e = refl
  same-word word.BocksteinPower word.BocksteinPower k j e = refl
  same-word _ _ k j e = absurd cc

  number-named : (w : OpWord) (k : ℕ) → number-of (op_named w k) ≡ k
  number-named word.Sq k = refl
  number-named _ k = refl

  operation-part-once : (x y : OperationPart) → block_of x ≡ block_of y → IsLiveBlock p (block_of x) × IsOperationPart (has_details form) facets p classes x → IsOperationPart (has_details form) facets p classes y → outline_operation form x ≡ outline_operation form y
  operation-part-once x y e h k =
      let named = ap (λ (b : Block). b.op) e in
      let w = same-word x.word y.word x.number y.number named in
      let n : x.number ≡ y.number = sym (number-named x.word x.number) ∙ ap number-of named ∙ number-named y.word y.number in
      let there : IsOperationBlock (has_details form) facets p classes (block_of x) y.columns = subst (λ (b : Block). IsOperationBlock (has_details form) facets p classes b y.columns) (sym e) k in
      let column : Cochain → Column → Type 0 = IsOperationColumn (has_details form) facets p classes (block_of x) in
      let columns = zip-outline column column (outline_column form) (operation-column-once (block_of x) h.0) (cochains_in classes x.from) x.columns y.columns h.1 there in
      (λ t. record { word = w t; number = n t; from = (e t).from; to = (e t).to; columns = columns t })

  -- ---- Cartan lines

  abbrev pub IsLive : Line → Type 0
  IsLive l = (is_defined p (l.a + l.b) (cartan_op p l.n) ≡ true) × (has_class (ranks classes) (line_degree p l) ≡ true)

  verdict-once : (l : Line) → IsLive l → (x y : CartanAnswer) → IsVerdict (has_details form) facets p classes l x → IsVerdict (has_details form) facets p classes l y → outline_answer form x ≡ outline_answer form y
  verdict-once l live x y h k =
      let n : ℕ = line_degree p l in
      let same = difference-once facets p is_served l.a l.b l.n (class_at classes l.a l.i) (class_at classes l.b l.j) h.difference k.difference live.0 h.is_difference k.is_difference in
      same-answer form facets ascending p field n (classes_in classes n) (basis n) h.difference k.difference x y same h.is_answer k.is_answer

  cartan-once : (x y : CartanPart) → line_of x ≡ line_of y → IsLive (line_of x) × IsCartanPart (has_details form) facets p classes x → IsCartanPart (has_details form) facets p classes y → outline_line form x ≡ outline_line form y
  cartan-once x y e h k =
      let answer = verdict-once (line_of x) h.0 x.answer y.answer h.1 (subst (λ (l : Line). IsVerdict (has_details form) facets p classes l y.answer) (sym e) k) in
      (λ t. record { a = (e t).a; i = (e t).i; b = (e t).b; j = (e t).j; n = (e t).n; answer = answer t })

  -- ---- tables

  module _ (c d : ComplexPart) (h : AreTables (has_details form) facets p classes c) (k : AreTables (has_details form) facets p classes d) where
    live-blocks : Each (λ o. IsLiveBlock p (block_of o)) c.operations
    live-blocks = each-of (λ o. IsLiveBlock p (block_of o)) c.operations
        (λ o m. of-blocks p (ranks classes) (block_of o) (subst (λ (bs : List Block). Among (block_of o) bs) h.operations (among_map block_of o (block_of o) c.operations m refl)))

    live-lines : Each (λ l. IsLive (line_of l)) c.cartans
    live-lines = each-of (λ l. IsLive (line_of l)) c.cartans
        (λ l m. of-lines p (ranks classes) (line_of l) (subst (λ (ls : List Line). Among (line_of l) ls) h.cartans (among_map line_of l (line_of l) c.cartans m refl)))

    pub products-once : map (outline_product form) c.products ≡ map (outline_product form) d.products
    products-once = same-parts product_of (outline_product form) (IsProductPart (has_details form) facets p classes) (IsProductPart (has_details form) facets p classes) product-once c.products d.products (h.products ∙ sym k.products) h.product_parts k.product_parts

    pub operations-once : map (outline_operation form) c.operations ≡ map (outline_operation form) d.operations
    operations-once = same-parts block_of (outline_operation form) (λ x. IsLiveBlock p (block_of x) × IsOperationPart (has_details form) facets p classes x) (IsOperationPart (has_details form) facets p classes)
        operation-part-once c.operations d.operations (h.operations ∙ sym k.operations) (each_zip (λ x u v. (u, v)) c.operations live-blocks h.operation_parts) k.operation_parts

    pub cartans-once : map (outline_line form) c.cartans ≡ map (outline_line form) d.cartans
    cartans-once = same-parts line_of (outline_line form) (λ x. IsLive (line_of x) × IsCartanPart (has_details form) facets p classes x) (IsCartanPart (has_details form) facets p classes)
        cartan-once c.cartans d.cartans (h.cartans ∙ sym k.cartans) (each_zip (λ x u v. (u, v)) c.cartans live-lines h.cartan_parts) k.cartan_parts

-- ---- two parts of one complex

module _ (form : Form) (p : ℕ) (is_served : IsTrue (served p)) (block : ComplexBlock) (ascending : Each IsAscending block.facets) (c d : ComplexPart) (h : IsComplexPart (has_tables form) (has_details form) p block c) (k : IsComplexPart (has_tables form) (has_details form) p block d) where
  pub same-listed : classes_of c ≡ classes_of d
  same-listed = same-bases block.facets ascending p (served_field p is_served) (classes_of c) (classes_of d) h.classes k.classes

  same-below : IsTrue (has_details form) → (n : ℕ) → n < length c.degrees → below_in c n ≡ below_in d n
  same-below t n l =
      let a = length-map c.degrees (λ e. e.classes) in
      let b = length-map d.degrees (λ e. e.classes) in
      let q = ap length same-listed in
      same-primitives block.facets ascending p (served_field p is_served) n (below_in c n) (below_in d n) (h.below t n l) (k.below t n (omega (arith, l, a, b, q)))

  are : AreCanonicalBases block.facets p (classes_of c)
  are = bases-of block.facets ascending p (served_field p is_served) (classes_of c) h.classes

  there : IsTrue (has_tables form) → AreTables (has_details form) block.facets p (classes_of c) d
  there t = subst (λ (cs : Classes). AreTables (has_details form) block.facets p cs d) (sym same-listed) (k.tables t)

  pub complex-once : outline_complex form c ≡ outline_complex form d
  complex-once =
      let name = h.name ∙ sym k.name in
      let facets = details-same form c.facets d.facets (λ t. same-order c.facets d.facets (h.facets t).in_order (k.facets t).in_order
      (λ x m. (k.facets t).all x (each_among _ x c.facets (h.facets t).each m)) (λ x m. (h.facets t).all x (each_among _ x d.facets (k.facets t).each m))) in
      let degrees = degree-lists form c.degrees d.degrees same-listed same-below in
      let products = tables-same form (map (outline_product form) c.products) (map (outline_product form) d.products)
      (λ t. products-once form block.facets ascending p is_served (classes_of c) are c d (h.tables t) (there t)) in
      let operations = tables-same form (map (outline_operation form) c.operations) (map (outline_operation form) d.operations)
      (λ t. operations-once form block.facets ascending p is_served (classes_of c) are c d (h.tables t) (there t)) in
      let cartans = tables-same form (map (outline_line form) c.cartans) (map (outline_line form) d.cartans)
      (λ t. cartans-once form block.facets ascending p is_served (classes_of c) are c d (h.tables t) (there t)) in
      (λ t. record { name = name t; facets = facets t; degrees = degrees t; products = products t; operations = operations t; cartans = cartans t })

module _ (form : Form) (p : ℕ) (is_served : IsTrue (served p)) where
  complexes-once : (blocks : List ComplexBlock) → Each (λ b. Each IsAscending b.facets) blocks → (cs ds : List ComplexPart) → AllZip (IsComplexPart (has_tables form) (has_details form) p) blocks cs → AllZip (IsComplexPart (has_tables form) (has_details form) p) blocks ds
      → (map (outline_complex form) cs ≡ map (outline_complex form) ds) × (map classes_of cs ≡ map classes_of ds)
  complexes-once [] a [] [] h k = (refl, refl)
  complexes-once [] a (c ∷ cs) ds h k = absurd h
  complexes-once (b ∷ bs) a [] ds h k = absurd h
  complexes-once (b ∷ bs) a (c ∷ cs) (d ∷ ds) h k =
      let more = complexes-once bs a.1 cs ds h.1 k.1 in (
        ap₂ ◌∷◌ (complex-once form p is_served b a.0 c d h.0 k.0) more.0,
        ap₂ ◌∷◌ (same-listed form p is_served b a.0 c d h.0 k.0) more.1,
      )
  complexes-once _ a _ _ h k = absurd k

-- ---- sends

-- lists of sends that ascend and have the same members are the same
same-sends : (ss ts : List Sent) → IsAscending (map (λ s. s.from) ss) → IsAscending (map (λ s. s.from) ts) → ((x : Sent) → Among x ss → Among x ts) → ((x : Sent) → Among x ts → Among x ss) → ss ≡ ts
same-sends [] [] a b f g = refl
same-sends [] (t ∷ ts) a b f g = absurd (g t (inl refl))
same-sends (s ∷ ss) [] a b f g = absurd (f s (inl refl))
same-sends (s ∷ ss) (t ∷ ts) a b f g =
    let after_s = each_unmap (λ (v : ℕ). s.from < v) (λ (x : Sent). x.from) ss a.0 in
    let after_t = each_unmap (λ (v : ℕ). t.from < v) (λ (x : Sent). x.from) ts b.0 in
    let e : s ≡ t = elim (f s (inl refl)) [
      | inl q ↦ sym q
      | inr m ↦ elim (g t (inl refl)) [
        | inl q ↦ q
        | inr n ↦ absurd (let u = each_among (λ (x : Sent). s.from < x.from) t ss after_s n in let v = each_among (λ (x : Sent). t.from < x.from) s ts after_t m in omega (arith, u, v))
      ]
    ] in
    let k : s.from ≡ t.from = ap (λ (x : Sent). x.from) e in
    ap₂ ◌∷◌ e (same-sends ss ts a.1 b.1
    (λ x m. elim (f x (inr m)) [
      | inl q ↦ absurd (let u = each_among (λ (y : Sent). s.from < y.from) x ss after_s m in let w : t.from ≡ x.from = ap (λ (y : Sent). y.from) q in omega (arith, u, w, k))
      | inr n ↦ n
    ])
    (λ x m. elim (g x (inr m)) [
      | inl q ↦ absurd (let u = each_among (λ (y : Sent). t.from < y.from) x ts after_t m in let w : s.from ≡ x.from = ap (λ (y : Sent). y.from) q in omega (arith, u, w, k))
      | inr n ↦ n
    ]))

-- ---- two parts of one map

module _ (form : Form) (job : Spelled) (is_served : IsTrue (served job.prime)) (ascending : Each (λ b. Each IsAscending b.facets) job.complexes) (parts : List ComplexPart) (are : AllZip (IsComplexPart (has_tables form) (has_details form) job.prime) job.complexes parts)
    (block : MapBlock) (is : IsMapOf job.complexes block) where
  abbrev K : List (List ℕ)
  K = facets_at job.complexes block.from

  abbrev from : Classes
  from = get_or (map classes_of parts) block.from []

  abbrev to : Classes
  to = get_or (map classes_of parts) block.to []

  ascending_K : Each IsAscending K
  ascending_K = each_get_or (λ b. Each IsAscending b.facets) job.complexes block.from (record { name = []; facets = [] }) is.from ascending

  are_K : AreCanonicalBases K job.prime from
  are_K = subst (λ (cs : Classes). AreCanonicalBases K job.prime cs) (sym (classes-at parts block.from)) (bases-of K ascending_K job.prime (served_field job.prime is_served) (classes_of (part_at parts block.from)) (part-of form job.prime is_served job.complexes parts block.from is.from are).classes)

  abbrev IsPart : InducedPart → Type 0
  IsPart = IsInducedPart (has_details form) (image block.sends) K job.prime from to

  induced-once : (x y : InducedPart) → x.q ≡ y.q → IsPart x → IsPart y → outline_induced form x ≡ outline_induced form y
  induced-once x y e h k =
      let column : Cochain → Column → Type 0 = λ w c. IsColumn (has_details form) K x.q job.prime (cochains_in from x.q) (pull_back (image block.sends) w) c.values c.primitive in
      let there : AllZip column (cochains_in to x.q) y.columns = subst (λ (q : ℕ). IsInducedBlock (has_details form) (image block.sends) K job.prime from to q y.columns) (sym e) k in
      let columns = zip-outline column column (outline_column form) (λ w a b u v. column-once form K ascending_K job.prime is_served from are_K x.q (pull_back (image block.sends) w) a b u v) (cochains_in to x.q) x.columns y.columns h there in
      (λ t. record { q = e t; columns = columns t })

  map-once : (m n : MapPart) → IsMapPart (has_details form) job (map classes_of parts) block m → IsMapPart (has_details form) job (map classes_of parts) block n → outline_map form m ≡ outline_map form n
  map-once m n h k =
      let name = h.name ∙ sym k.name in
      let from_name = h.from_name ∙ sym k.from_name in
      let to_name = h.to_name ∙ sym k.to_name in
      let sends = details-same form m.sends n.sends (λ t. same-sends m.sends n.sends (h.sends t).ascending (k.sends t).ascending
      (λ x a. each_among (λ s. Among s n.sends) x block.sends (k.sends t).all (each_among (λ s. Among s block.sends) x m.sends (h.sends t).each a))
      (λ x a. each_among (λ s. Among s m.sends) x block.sends (h.sends t).all (each_among (λ s. Among s block.sends) x n.sends (k.sends t).each a))) in
      let induced = same-parts (λ x. x.q) (outline_induced form) IsPart IsPart induced-once m.induced n.induced (h.induced ∙ sym k.induced) h.induced_parts k.induced_parts in
      (λ t. record { name = name t; from = from_name t; to = to_name t; sends = sends t; induced = induced t })

module _ (form : Form) (job : Spelled) (is_served : IsTrue (served job.prime)) (ascending : Each (λ b. Each IsAscending b.facets) job.complexes) (parts : List ComplexPart) (are : AllZip (IsComplexPart (has_tables form) (has_details form) job.prime) job.complexes parts) where
  maps-once : (blocks : List MapBlock) → Each (IsMapOf job.complexes) blocks → (ms ns : List MapPart) → AllZip (IsMapPart (has_details form) job (map classes_of parts)) blocks ms → AllZip (IsMapPart (has_details form) job (map classes_of parts)) blocks ns
      → map (outline_map form) ms ≡ map (outline_map form) ns
  maps-once [] is [] [] h k = refl
  maps-once [] is (m ∷ ms) ns h k = absurd h
  maps-once (b ∷ bs) is [] ns h k = absurd h
  maps-once (b ∷ bs) is (m ∷ ms) (n ∷ ns) h k = ap₂ ◌∷◌ (map-once form job is_served ascending parts are b is.0 m n h.0 k.0) (maps-once bs is.1 ms ns h.1 k.1)
  maps-once _ is _ _ h k = absurd k

one-outline : (form : Form) (job : Spelled) (r s : Report) → is_job job.prime job.complexes job.maps ≡ true → IsReportOf form job r → IsReportOf form job s → outline form r ≡ outline form s
one-outline form job r s kept h k =
    let is_served = job-prime job.prime job.complexes job.maps kept in
    let a = job-complexes job.prime job.complexes job.maps kept in
    let prime = h.prime ∙ sym k.prime in
    let complexes = complexes-once form job.prime is_served job.complexes a r.complexes s.complexes h.complexes k.complexes in
    let first = complexes.0 in
    let maps = tables-same form (map (outline_map form) r.maps) (map (outline_map form) s.maps)
    (λ t. maps-once form job is_served a r.complexes h.complexes job.maps (job-maps job.prime job.complexes job.maps kept) r.maps s.maps (h.maps t)
    (subst (λ (cs : List Classes). AllZip (IsMapPart (has_details form) job cs) job.maps s.maps) (sym complexes.1) (k.maps t))) in
    (λ t. record { prime = prime t; complexes = first t; maps = maps t })

-- ---- the outline of a certificate is the whole report

same-items : {X : Type 0} (o : X → X) → ((x : X) → o x ≡ x) → (xs : List X) → map o xs ≡ xs
same-items o f [] = refl
same-items o f (x ∷ xs) = ap₂ ◌∷◌ (f x) (same-items o f xs)

whole-operation : (o : OperationPart) → outline_operation Certificate o ≡ o
whole-operation o = let c = same-items (outline_column Certificate) (λ x. refl) o.columns in (λ t. record { word = o.word; number = o.number; from = o.from; to = o.to; columns = c t })

whole-product : (x : ProductPart) → outline_product Certificate x ≡ x
whole-product x = let c = same-items (outline_pair Certificate) (λ y. refl) x.columns in (λ t. record { a = x.a; b = x.b; columns = c t })

whole-answer : (a : CartanAnswer) → outline_answer Certificate a ≡ a
whole-answer (Yes primitive) = refl
whole-answer (No value cycle) = refl

whole-line : (l : CartanPart) → outline_line Certificate l ≡ l
whole-line l = let a = whole-answer l.answer in (λ t. record { a = l.a; i = l.i; b = l.b; j = l.j; n = l.n; answer = a t })

whole-complex : (c : ComplexPart) → outline_complex Certificate c ≡ c
whole-complex c =
    let ds = same-items (outline_degree Certificate) (λ d. refl) c.degrees in
    let xs = same-items (outline_product Certificate) whole-product c.products in
    let os = same-items (outline_operation Certificate) whole-operation c.operations in
    let ls = same-items (outline_line Certificate) whole-line c.cartans in
    (λ t. record { name = c.name; facets = c.facets; degrees = ds t; products = xs t; operations = os t; cartans = ls t })

whole-induced : (x : InducedPart) → outline_induced Certificate x ≡ x
whole-induced x = let c = same-items (outline_column Certificate) (λ y. refl) x.columns in (λ t. record { q = x.q; columns = c t })

whole-map : (m : MapPart) → outline_map Certificate m ≡ m
whole-map m = let xs = same-items (outline_induced Certificate) whole-induced m.induced in (λ t. record { name = m.name; from = m.from; to = m.to; sends = m.sends; induced = xs t })

pub whole : (r : Report) → outline Certificate r ≡ r
whole r =
    let cs = same-items (outline_complex Certificate) whole-complex r.complexes in
    let ms = same-items (outline_map Certificate) whole-map r.maps in
    (λ t. record { prime = r.prime; complexes = cs t; maps = ms t })

pub one_report : OneReportLaw
one_report = record {
  outline = one-outline;
  certificate = λ job r s kept h k. sym (whole r) ∙ one-outline Certificate job r s kept h k ∙ whole s;
}

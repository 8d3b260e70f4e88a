-- What a certificate asks, by its complexes and its maps.
use Rattle.std.{proofs.Common.{◌≡◌, ℕ, zero, suc, ◌+◌, ◌^◌, ◌<◌, ◌≤◌, refl, sym, ◌∙◌, ap, subst, inl, inr, arith, lit<, Bool, true, false, List, [], ◌∷◌, ◌++◌, append_assoc, flat_map, length, map, get_or, drop, cond, ◌||◌, ◌⊎◌, ◌≢◌, Some, None, nat_lt, if◌then◌else◌, ltb-false, append-nil}, specs.List.list_all, proofs.lemmas.Bool.{and_parts, cases_order}, specs.Str.bytes_eq, proofs.lemmas.List.{at_drop_more, drop_all}, proofs.lemmas.List.Folds.list_all-append}
use Rattle.linear_law.{specs.Names.{Each, IsAscending}, proofs.Names.{apart_short, each_among, each_get_or}}
use Rattle.simplicial_law.{specs.Names.{IsSimplex, of_degree}, specs.ListedSimplices.simplices, proofs.Names.listed_simplices_law}
use Rattle.complex_file.specs.{declared.kind.InputKind.InputKind, Names.has_name}
use Rattle.report.specs.declared.{complex.ComplexPart.ComplexPart, job.Report.Report, map.MapPart.MapPart}
use Rattle.report_text_law.specs.{declared.line.Line.Line, declared.line.Line.TheVariants.{Facet as facet_said}, Names.{complex_lines, map_lines, is_line, is_simplex}, WellFormed.is_well_formed}
use Rattle.fp_field.specs.Served.{served}
use Rattle.certificate_law.{specs.Names.{Asks, complex_names, complex_named, Stated, behind, cartan_stated, complex_ends, complex_stated, degree_stated, facet_stands, map_stated, numbered, operation_stated, product_stated, stated}, proofs.Asked.{each_left, each_right}, proofs.PivotCounts.ascending_apart, proofs.WellFormed.facet_ascends}
use Rattle.block_check.proofs.NameLemmas.{IsBehind}
use Rattle.count_check.{specs.Columns.AreFew, proofs.ComplexWalks.few_classes}
use Rattle.cert_check.specs.Ready.{CanIndex}

-- ---- well-formed lines

all_parts : {X : Type 0} (t : Line → Bool) (g : X → List Line) (xs : List X) (rest : List Line) → list_all t (flat_map g xs ++ rest) ≡ true → Each (λ x. list_all t (g x) ≡ true) xs × (list_all t rest ≡ true)
all_parts t g [] rest h = (tt, h)
all_parts t g (x ∷ xs) rest h =
    let e = ap (list_all t) (sym (append_assoc (g x) (flat_map g xs) rest)) ∙ h in
    let parts = and_parts (list_all t (g x)) (list_all t (flat_map g xs ++ rest)) (sym (list_all-append t (g x) (flat_map g xs ++ rest)) ∙ e) in
    let r = all_parts t g xs rest parts.1 in
    ((parts.0, r.0), r.1)

pub record IsFormed (r : Report) : Type 0 where
  pub prime : served r.prime ≡ true
  pub complexes : Each (λ c. list_all (is_line r.prime) (complex_lines c) ≡ true) r.complexes
  pub maps : Each (λ m. list_all (is_line r.prime) (map_lines m) ≡ true) r.maps

pub formed : (r : Report) → is_well_formed r ≡ true → IsFormed r
unfolding is_well_formed
formed r h =
    let t = is_line r.prime in
    let q = and_parts (served r.prime) (list_all t (flat_map complex_lines r.complexes ++ (flat_map map_lines r.maps ++ _))) h in
    let c = all_parts t complex_lines r.complexes (flat_map map_lines r.maps ++ _) q.1 in
    let m = all_parts t map_lines r.maps _ c.1 in
    record { prime = q.0; complexes = c.0; maps = m.0 }

-- ---- facets

facets_ascend : (p : ℕ) (fs : List (List ℕ)) (rest : List Line) → list_all (is_line p) (map facet_said fs ++ rest) ≡ true → Each IsAscending fs
facets_ascend p [] rest h = tt
facets_ascend p (f ∷ fs) rest h = let parts = and_parts (is_simplex f) (list_all (is_line p) (map facet_said fs ++ rest)) h in (facet_ascends f parts.0, facets_ascend p fs rest parts.1)

two_tests : (a b : Bool) (x y : InputKind) → (if a then Some x else (if b then Some y else None)) ≡ None → (a ≡ false) × (b ≡ false)
two_tests true b x y e = absurd cc
two_tests false true x y e = absurd cc
two_tests false false x y e = (refl, refl)

facets_fit : (p : ℕ) (before fs : List (List ℕ)) → Each (Asks p 1) (behind (λ fs f. facet_stands fs f ∷ []) before fs) → length (simplices before) ≤ 100000 → Each (λ f. length f ≤ 16) fs × (length (simplices (before ++ fs)) ≤ 100000)
facets_fit p before [] h few = (tt, subst (λ (xs : List (List ℕ)). length (simplices xs) ≤ 100000) (sym (append-nil before)) few)
facets_fit p before (f ∷ fs) h few =
    let tests = two_tests (nat_lt 16 (length f)) (nat_lt 100000 (length (simplices (before ++ f ∷ [])))) _ _ h.0 in
    let rest = facets_fit p (before ++ f ∷ []) fs h.1 (ltb-false _ _ tests.1) in
    ((ltb-false _ _ tests.0, rest.0), subst (λ (xs : List (List ℕ)). length (simplices xs) ≤ 100000) (append_assoc before (f ∷ []) fs) rest.1)

pub can_index : (p q : ℕ) (e : List ComplexPart) (c : ComplexPart) → list_all (is_line p) (complex_lines c) ≡ true → Each (Asks q 1) (complex_stated e c) → CanIndex c.facets
unfolding simplices
can_index p q e c h a =
    let fit = facets_fit q [] c.facets (each_left (Asks q 1) (behind (λ fs f. facet_stands fs f ∷ []) [] c.facets) _ a.1) (omega arith) in
    let least : 100000 < 2 ^ 28 = lit< tt in
    record { ascending = facets_ascend p c.facets _ (and_parts _ _ h).1; short = fit.0; few = omega (arith, fit.1, least) }

-- ---- the parts of a complex

pub degrees_asked : (P : Stated → Type 0) (e : List ComplexPart) (c : ComplexPart) → Each P (complex_stated e c) → Each P (numbered (degree_stated c) 0 c.degrees)
degrees_asked P e c h = each_left P (numbered (degree_stated c) 0 c.degrees) _ (each_right P (behind (λ fs f. facet_stands fs f ∷ []) [] c.facets) _ h.1)

pub end_asked : (P : Stated → Type 0) (e : List ComplexPart) (c : ComplexPart) → Each P (complex_stated e c) → P (complex_ends c)
end_asked P e c h =
    (each_right P (numbered (cartan_stated c) 0 c.cartans) (complex_ends c ∷ [])
    (each_right P (numbered (operation_stated c) 0 c.operations) _ (each_right P (numbered (product_stated c) 0 c.products) _
    (each_right P (numbered (degree_stated c) 0 c.degrees) _ (each_right P (behind (λ fs f. facet_stands fs f ∷ []) [] c.facets) _ h.1))))).0

pub few_of : (p : ℕ) (e : List ComplexPart) (c : ComplexPart) → length (simplices c.facets) < 2 ^ 28 → Each (Asks p 5) (complex_stated e c) → AreFew c.degrees
few_of p e c few h = few_classes p c 0 c.degrees few (degrees_asked (Asks p 5) e c h)

number_same_or_not : (m n : ℕ) → (m ≡ n) ⊎ (m ≢ n)
number_same_or_not m n = elim (cases_order m n) [
  | inl same ↦ inl same
  | inr rest ↦ inr (λ e. elim rest [ inl less ↦ absurd (omega (arith, less, e)) | inr more ↦ absurd (omega (arith, more, e)) ])
]

-- no simplex has more vertices than each facet
none_wide : (facets : List (List ℕ)) (s : List ℕ) → Each (λ f. length f ≤ 16) facets → IsSimplex facets 16 s → ⊥
none_wide facets s short h =
    let l = apart_short number_same_or_not s h.facet (ascending_apart s h.ascending) h.within in
    let b = each_among (λ (f : List ℕ). length f ≤ 16) h.facet facets short h.listed in
    let n = h.size in
    absurd (omega (arith, l, b, n))

-- no more degrees are listed than a complex has
pub low_degrees : (p : ℕ) (e : List ComplexPart) (c : ComplexPart) → CanIndex c.facets → Each (Asks p 2) (complex_stated e c) → length c.degrees ≤ 16
low_degrees p e c can h = elim (cases_order (length c.degrees) 16) [
  | inl same ↦ omega (arith, same)
  | inr rest ↦ elim rest [
    | inl less ↦ omega (arith, less)
    | inr more ↦
        let some = (end_asked (Asks p 2) e c h).inhabited 16 more in
        let here = of_degree 16 (simplices c.facets) in
        absurd (none_wide c.facets (get_or here 0 []) can.short (each_get_or (IsSimplex c.facets 16) here 0 [] some (listed_simplices_law.of_one_degree c.facets 16 can.ascending).sound))
  ]
]

-- ---- the parts of a certificate

pub each_of_behind : {X : Type 0} (P : Stated → Type 0) (line : List X → X → List Stated) (b xs : List X) → Each P (behind line b xs) → Each (λ x. (b : List X) × Each P (line b x)) xs
each_of_behind P line b [] h = tt
each_of_behind P line b (x ∷ xs) h = ((b, each_left P (line b x) (behind line (b ++ x ∷ []) xs) h), each_of_behind P line (b ++ x ∷ []) xs (each_right P (line b x) (behind line (b ++ x ∷ []) xs) h))

pub complexes_asked : (P : Stated → Type 0) (r : Report) → Each P (stated r) → Each (λ c. (b : List ComplexPart) × Each P (complex_stated b c)) r.complexes
complexes_asked P r h = each_of_behind P complex_stated [] r.complexes (each_left P (behind complex_stated [] r.complexes) _ h.1.1)

pub maps_asked : (P : Stated → Type 0) (r : Report) → Each P (stated r) → Each (λ m. (b : List MapPart) × Each P (map_stated r.complexes b m)) r.maps
maps_asked P r h = each_of_behind P (map_stated r.complexes) [] r.maps (each_left P (behind (map_stated r.complexes) [] r.maps) _ (each_right P (behind complex_stated [] r.complexes) _ h.1.1))

-- ---- the complex with a name

get_any : {X : Type 0} (xs : List X) (k : ℕ) (d e : X) → k < length xs → get_or xs k d ≡ get_or xs k e
get_any [] k d e b = absurd (omega arith)
get_any (x ∷ xs) zero d e b = refl
get_any (x ∷ xs) (suc k) d e b = get_any xs k d e (omega arith)

pub found_part : (cs : List ComplexPart) (k : ℕ) (x : ComplexPart) (name : List ℕ) → k < length cs → x ≡ get_or cs k x → bytes_eq name x.name ≡ true → IsBehind cs name k → (d : ComplexPart) → get_or cs k d ≡ complex_named cs name
found_part cs k x name b is t h d =
    get_any cs k d x b ∙ sym is
    ∙ sym (h.named ∙ at_drop_more (λ ys. complex_named ys name) cs k x b ∙ ap (λ (y : ComplexPart). complex_named (y ∷ drop (k + 1) cs) name) (sym is) ∙ ap (λ (v : Bool). cond v x (complex_named (drop (k + 1) cs) name)) t)

pub not_yet_part : (cs : List ComplexPart) (k : ℕ) (x : ComplexPart) (name : List ℕ) → k < length cs → x ≡ get_or cs k x → bytes_eq name x.name ≡ false → IsBehind cs name k → IsBehind cs name (k + 1)
not_yet_part cs k x name b is t h = record {
  names = h.names ∙ at_drop_more (λ ys. has_name (complex_names ys) name) cs k x b ∙ ap (λ (y : ComplexPart). has_name (complex_names (y ∷ drop (k + 1) cs)) name) (sym is) ∙ ap (λ (v : Bool). v || has_name (complex_names (drop (k + 1) cs)) name) t;
  named = h.named ∙ at_drop_more (λ ys. complex_named ys name) cs k x b ∙ ap (λ (y : ComplexPart). complex_named (y ∷ drop (k + 1) cs) name) (sym is) ∙ ap (λ (v : Bool). cond v x (complex_named (drop (k + 1) cs) name)) t;
}

pub surely_there : (cs : List ComplexPart) (k : ℕ) (name : List ℕ) → length cs ≤ k → has_name (complex_names cs) name ≡ true → IsBehind cs name k → ⊥
surely_there cs k name b t h =
    let q : true ≡ false = sym t ∙ h.names ∙ ap (λ ys. has_name (complex_names ys) name) (drop_all k cs b) in
    cc

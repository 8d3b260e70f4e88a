-- What is asked of each part of a report that certifies.
use Rattle.std.{proofs.Common.{◌≡◌, ℕ, zero, suc, ◌+◌, ◌<◌, inl, inr, subst, sym, arith, Bool, true, List, [], ◌∷◌, ◌++◌, length, map, get_or}, specs.List.list_all}
use Rattle.linear_law.{specs.Names.{Among, Each}, proofs.Names.{each_unmap, each_zip}}
use Rattle.report_law.proofs.Names.{each-all}
use Rattle.certificate_law.{specs.Types.{ComplexPart, Report, MapPart, TextLine as Line}, specs.Names.{Certifies, Asks, line_said, Stated, behind, cartan_stated, complex_ends, complex_stated, degree_stated, facet_stands, map_stated, numbered, operation_stated, product_stated, stated}, proofs.StatedLines.stated_lines_law}
use Rattle.report_text_law.specs.{Names.is_line, WellFormed.is_well_formed}

-- ---- lists

pub each_left : {X : Type 0} (P : X → Type 0) (xs ys : List X) → Each P (xs ++ ys) → Each P xs
each_left P [] ys h = tt
each_left P (x ∷ xs) ys h = (h.0, each_left P xs ys h.1)

pub each_right : {X : Type 0} (P : X → Type 0) (xs ys : List X) → Each P (xs ++ ys) → Each P ys
each_right P [] ys h = h
each_right P (x ∷ xs) ys h = each_right P xs ys h.1

each_of_all : {I X : Type 0} (P : I → X → Type 0) (xs : List X) → ((i : I) → Each (P i) xs) → Each (λ x. (i : I) → P i x) xs
each_of_all P [] h = tt
each_of_all P (x ∷ xs) h = (λ i. (h i).0, each_of_all P xs (λ i. (h i).1))

-- the part of one element

pub behind_part : {X : Type 0} (P : Stated → Type 0) (line : List X → X → List Stated) (before xs : List X) (x : X) → Among x xs → Each P (behind line before xs) → (b : List X) × Each P (line b x)
behind_part P line before [] x m h = elim m [ ]
behind_part P line before (y ∷ xs) x m h =
    elim m [
      | inl e ↦ (before, subst (λ (z : _). Each P (line before z)) e (each_left P (line before y) (behind line (before ++ y ∷ []) xs) h))
      | inr k ↦ behind_part P line (before ++ y ∷ []) xs x k (each_right P (line before y) (behind line (before ++ y ∷ []) xs) h)
    ]

pub numbered_part : {X : Type 0} (P : Stated → Type 0) (line : ℕ → X → List Stated) (k : ℕ) (xs : List X) (x : X) → Among x xs → Each P (numbered line k xs) → (j : ℕ) × Each P (line j x)
numbered_part P line k [] x m h = elim m [ ]
numbered_part P line k (y ∷ xs) x m h =
    elim m [
      | inl e ↦ (k, subst (λ (z : _). Each P (line k z)) e (each_left P (line k y) (numbered line (k + 1) xs) h))
      | inr a ↦ numbered_part P line (k + 1) xs x a (each_right P (line k y) (numbered line (k + 1) xs) h)
    ]

pub numbered_at : {X : Type 0} (P : Stated → Type 0) (line : ℕ → X → List Stated) (k : ℕ) (xs : List X) (i : ℕ) (d : X) → i < length xs → Each P (numbered line k xs) → Each P (line (k + i) (get_or xs i d))
numbered_at P line k [] i d b h = absurd (omega arith)
numbered_at P line k (y ∷ xs) zero d b h =
    let e : k ≡ k + zero = omega arith in
    subst (λ (j : ℕ). Each P (line j y)) e (each_left P (line k y) (numbered line (k + 1) xs) h)
numbered_at P line k (y ∷ xs) (suc i) d b h =
    let e : (k + 1) + i ≡ k + suc i = omega arith in
    subst (λ (j : ℕ). Each P (line j (get_or xs i d))) e (numbered_at P line (k + 1) xs i d (omega arith) (each_right P (line k y) (numbered line (k + 1) xs) h))

-- ---- the parts of a report

-- a line is well formed, and all that is asked of it holds
pub record IsAsAsked (p : ℕ) (s : Stated) : Type 0 where
  pub formed : is_line p (line_said s) ≡ true
  pub asked : (condition : ℕ) → Asks p condition s

-- what is asked of the lines of a complex
pub record ComplexAsked (p : ℕ) (c : ComplexPart) : Type 0 where
  pub facets : Each (IsAsAsked p) (behind (λ fs f. facet_stands fs f ∷ []) [] c.facets)
  pub degrees : Each (IsAsAsked p) (numbered (degree_stated c) 0 c.degrees)
  pub products : Each (IsAsAsked p) (numbered (product_stated c) 0 c.products)
  pub operations : Each (IsAsAsked p) (numbered (operation_stated c) 0 c.operations)
  pub cartans : Each (IsAsAsked p) (numbered (cartan_stated c) 0 c.cartans)
  pub ends : IsAsAsked p (complex_ends c)

complex_parts : (p : ℕ) (before : List ComplexPart) (c : ComplexPart) → Each (IsAsAsked p) (complex_stated before c) → ComplexAsked p c
complex_parts p before c h =
    let fs = behind (λ (fs : List (List ℕ)) f. facet_stands fs f ∷ []) [] c.facets in
    let ds = numbered (degree_stated c) 0 c.degrees in
    let xs = numbered (product_stated c) 0 c.products in
    let os = numbered (operation_stated c) 0 c.operations in
    let cs = numbered (cartan_stated c) 0 c.cartans in
    let es : List Stated = complex_ends c ∷ [] in
    let h1 = each_right (IsAsAsked p) fs (ds ++ (xs ++ (os ++ (cs ++ es)))) h.1 in
    let h2 = each_right (IsAsAsked p) ds (xs ++ (os ++ (cs ++ es))) h1 in
    let h3 = each_right (IsAsAsked p) xs (os ++ (cs ++ es)) h2 in
    let h4 = each_right (IsAsAsked p) os (cs ++ es) h3 in
    record {
      facets = each_left (IsAsAsked p) fs (ds ++ (xs ++ (os ++ (cs ++ es)))) h.1;
      degrees = each_left (IsAsAsked p) ds (xs ++ (os ++ (cs ++ es))) h1;
      products = each_left (IsAsAsked p) xs (os ++ (cs ++ es)) h2;
      operations = each_left (IsAsAsked p) os (cs ++ es) h3;
      cartans = each_left (IsAsAsked p) cs es h4;
      ends = (each_right (IsAsAsked p) cs es h4).0;
    }

lines_formed : (t : Line → Bool) (xs : List Stated) → list_all t (map line_said xs) ≡ true → Each (λ s. t (line_said s) ≡ true) xs
lines_formed t xs h = each_unmap (λ l. t l ≡ true) line_said xs (each-all t (λ l. t l ≡ true) (λ l k. k) (map line_said xs) h)

pub lines_asked : (r : Report) → is_well_formed r ≡ true → Certifies r → Each (IsAsAsked r.prime) (stated r)
unfolding is_well_formed
lines_asked r formed h =
    each_zip (λ s f a. record { formed = f; asked = a }) (stated r)
    (lines_formed (is_line r.prime) (stated r) (subst (λ (ls : List Line). list_all (is_line r.prime) ls ≡ true) (sym (stated_lines_law r)) formed))
    (each_of_all (Asks r.prime) (stated r) h.holds)

pub complex_asked : (r : Report) (c : ComplexPart) → is_well_formed r ≡ true → Certifies r → Among c r.complexes → ComplexAsked r.prime c
complex_asked r c formed h m =
    let all = lines_asked r formed h in
    let f = behind_part (IsAsAsked r.prime) complex_stated [] r.complexes c m (each_left (IsAsAsked r.prime) (behind complex_stated [] r.complexes) _ all.1.1) in
    complex_parts r.prime f.0 c f.1

pub map_asked : (r : Report) (m : MapPart) → is_well_formed r ≡ true → Certifies r → Among m r.maps → (b : List MapPart) × Each (IsAsAsked r.prime) (map_stated r.complexes b m)
map_asked r m formed h among =
    let all = lines_asked r formed h in
    behind_part (IsAsAsked r.prime) (map_stated r.complexes) [] r.maps m among
    (each_left (IsAsAsked r.prime) (behind (map_stated r.complexes) [] r.maps) _ (each_right (IsAsAsked r.prime) (behind complex_stated [] r.complexes) _ all.1.1))

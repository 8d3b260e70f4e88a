-- Rows and columns at the simplices of a complex.
use Rattle.std.{proofs.Common.{◌≡◌, ℕ, ◌+◌, ◌-◌, ◌*◌, ◌<◌, Bool, true, List, [], ◌∷◌, map, length, get_or, refl, sym, ap, ap₂, subst, ◌∙◌, IsTrue, ◌↔◌}, specs.List.AllZip}
use Rattle.fp_field.specs.Served.{served}
use Rattle.linear_law.{specs.Names.{Congruent, Each, combination}, proofs.Names.{Congruent_add, Congruent_of, Congruent_trans, each_right}}
use Rattle.simplicial_law.{specs.Names.{AgreesOnSimplices, Chain, Cochain as SimplexCochain, coboundary, cochain_of}, proofs.Names.{agree_by_place, simplex_at}}
use Rattle.steenrod_law.specs.Names.{cup_product, pull_back}
use Rattle.sparse_rows.specs.Rows.{IsBelow, value_in}
use Rattle.complex_index.specs.{declared.indexed.Cochain.Cochain, Names.{IsIndexOf, level, IsPullBackOf}}
use Rattle.may_steenrod.{specs.Cochains.{HasValues, cochain_in}, proofs.OnLemmas.value_by_place}
use Rattle.certificate_law.specs.{Types.{Column, OperationPart, PairColumn, ProductPart, ComplexPart, InducedPart, MapPart, Op}, Names.{IsRightOperation, IsRightProduct, IsRightPullBack, column_sum, IsOnBelow, sent_by}}
use Rattle.report_law.{specs.Names.{IsOperation, listed, is_defined, target_degree, class_at, classes_in, classes_of, op_of}, proofs.Names.{agrees-sym, agrees-trans, scaled, operation-once}}
use Rattle.listed_rows.specs.ListedChains.{IsCoboundaryRow}
use Rattle.column_check.{specs.Listings.{IsBoundOf, IsRowOfClass, IsColumnSum, IsSumRow}, proofs.ListLemmas.tells, proofs.SumLemmas.places}

-- ---- the rows of the classes of a degree

module _ (p : ℕ) (facets : List (List ℕ)) (levels : List (List (List ℕ))) (n : ℕ) (is : IsIndexOf facets levels) where
  abbrev here : List (List ℕ)
  here = level levels n

  at-place : (row : List (ℕ × ℕ)) (k : ℕ) → k < length here → cochain_in levels n row (get_or here k []) ≡ value_in row k
  at-place row k b = value_by_place facets n p here (is.lists n) row k b

  -- rows that agree at each place agree on simplices
  pub by-places : (row other : List (ℕ × ℕ)) → ((k : ℕ) → k < length here → Congruent p (value_in row k) (value_in other k)) → AgreesOnSimplices facets n p (cochain_in levels n row) (cochain_in levels n other)
  by-places row other h = agree_by_place facets n p here (is.lists n) (cochain_in levels n row) (cochain_in levels n other)
      (λ k b. Congruent_trans (Congruent_of (at-place row k b)) (Congruent_trans (h k b) (Congruent_of (sym (at-place other k b)))))

  pub at-places : (row other : List (ℕ × ℕ)) → AgreesOnSimplices facets n p (cochain_in levels n row) (cochain_in levels n other) → (k : ℕ) → k < length here → Congruent p (value_in row k) (value_in other k)
  at-places row other h k b = Congruent_trans (Congruent_of (sym (at-place row k b))) (Congruent_trans (h.at (get_or here k []) (simplex_at facets n p here (is.lists n) k b)) (Congruent_of (at-place other k b)))

  -- a test of equal places tells of agreement with a cochain that the other row agrees with
  pub agree-tells : (row other : List (ℕ × ℕ)) (z : SimplexCochain) (answer : Bool) → AgreesOnSimplices facets n p (cochain_in levels n other) z
      → (IsTrue answer ↔ ((k : ℕ) → k < length here → Congruent p (value_in row k) (value_in other k))) → (IsTrue answer ↔ AgreesOnSimplices facets n p (cochain_in levels n row) z)
  agree-tells row other z answer same h = tells answer (λ e. agrees-trans (by-places row other e) same) (λ e. at-places row other (agrees-trans e (agrees-sym same))) h

  -- the row of a coboundary
  pub bound-agrees : (chain : Chain) (row : List (ℕ × ℕ)) → IsCoboundaryRow p levels n chain row → AgreesOnSimplices facets n p (cochain_in levels n row) (coboundary p (cochain_of chain))
  bound-agrees chain row h = agree_by_place facets n p here (is.lists n) (cochain_in levels n row) (coboundary p (cochain_of chain))
      (λ k b. Congruent_trans (Congruent_of (at-place row k b)) (h.values.values k b))

  combination-at : (values : List ℕ) (cs : List Chain) (zs : List (Cochain p)) (k : ℕ) → k < length here → AllZip (IsRowOfClass p levels n) cs zs
      → combination values (map cochain_of cs) (get_or here k []) ≡ combination values (places p zs) k
  combination-at [] cs zs k b h = refl
  combination-at (v ∷ vs) [] [] k b h = refl
  combination-at (v ∷ vs) [] (z ∷ zs) k b h = absurd h
  combination-at (v ∷ vs) (c ∷ cs) [] k b h = absurd h
  combination-at (v ∷ vs) (c ∷ cs) (z ∷ zs) k b h =
      let first : cochain_of c (get_or here k []) ≡ value_in z.row k = ap (λ (t : Chain). cochain_of t (get_or here k [])) (sym h.0.terms) ∙ at-place z.row k b in
      ap₂ (λ (x y : ℕ). v * x + y) first (combination-at vs cs zs k b h.1)

  -- the row of a coboundary to which the values times the classes were added
  pub sum-row : (c : ComplexPart) → c.facets ≡ facets → (values : List ℕ) (primitive : Chain) (zs : List (Cochain p)) (bound sum : List (ℕ × ℕ)) → AllZip (IsRowOfClass p levels n) (classes_in (classes_of c) n) zs
      → IsCoboundaryRow p levels n primitive bound → ((m : ℕ) → IsBelow m bound → Each (λ (z : Cochain p). IsBelow m z.row) zs → IsBelow m sum)
      → ((k : ℕ) → Congruent p (value_in sum k) (combination values (places p zs) k + value_in bound k)) → IsSumRow c levels n p values primitive sum
  sum-row c e values primitive zs bound sum classes h inside added =
      let all : Each (λ (z : Cochain p). IsBelow (length here) z.row) zs = each_right (IsRowOfClass p levels n) (λ z. IsBelow (length here) z.row) (λ x z k. k.placed.inside) (classes_in (classes_of c) n) zs classes in
      let same : AgreesOnSimplices facets n p (cochain_in levels n sum) (column_sum p (listed c n) values primitive) =
      agree_by_place facets n p here (is.lists n) (cochain_in levels n sum) (column_sum p (listed c n) values primitive)
      (λ k b. Congruent_trans (Congruent_of (at-place sum k b)) (Congruent_trans (added k)
      (Congruent_add (Congruent_of (sym (combination-at values (classes_in (classes_of c) n) zs k b classes))) (h.values.values k b)))) in
      record {
        on = subst (λ (fs : List (List ℕ)). IsOnBelow fs n primitive) (sym e) (h.on facets is);
        inside = inside (length here) h.values.inside all;
        same = subst (λ (fs : List (List ℕ)). AgreesOnSimplices fs n p (cochain_in levels n sum) (column_sum p (listed c n) values primitive)) (sym e) same;
      }

-- ---- what tests tell

abbrev pub SamePlaces : ℕ → ℕ → List (ℕ × ℕ) → List (ℕ × ℕ) → Type 0
SamePlaces p bound row other = (k : ℕ) → k < bound → Congruent p (value_in row k) (value_in other k)

pub column-tells : (p : ℕ) (c : ComplexPart) (levels : List (List (List ℕ))) (n : ℕ) (row sum values : _) (primitive : Chain) (answer : Bool) → IsIndexOf c.facets levels → IsSumRow c levels n p values primitive sum
    → (IsTrue answer ↔ SamePlaces p (length (level levels n)) row sum) → (IsTrue answer ↔ IsColumnSum c n p (cochain_in levels n row) values primitive)
column-tells p c levels n row sum values primitive answer is h t =
    tells answer (λ e. record { on = h.on; same = e }) (λ e. e.same) (agree-tells p c.facets levels n is row sum (column_sum p (listed c n) values primitive) answer h.same t)

pub bounded-tells : (p : ℕ) (facets : List (List ℕ)) (levels : List (List (List ℕ))) (n : ℕ) (row bound : List (ℕ × ℕ)) (primitive : Chain) (answer : Bool) → IsIndexOf facets levels → IsCoboundaryRow p levels n primitive bound
    → (IsTrue answer ↔ SamePlaces p (length (level levels n)) row bound) → (IsTrue answer ↔ IsBoundOf facets n p (cochain_in levels n row) primitive)
bounded-tells p facets levels n row bound primitive answer is h t =
    tells answer (λ e. record { on = h.on facets is; same = e }) (λ e. e.same) (agree-tells p facets levels n is row bound (coboundary p (cochain_of primitive)) answer (bound-agrees p facets levels n is primitive bound h) t)

-- ---- products, operations and pull-backs

-- the cochain of a class
pub class-is : (p : ℕ) (c : ComplexPart) (levels : List (List (List ℕ))) (n i : ℕ) (z : Cochain p) → IsRowOfClass p levels n (get_or (classes_in (classes_of c) n) (i - 1) []) z → cochain_in levels n z.row ≡ class_at (classes_of c) n i
class-is p c levels n i z h = ap cochain_of h.terms

pub product-tells : (p : ℕ) (c : ComplexPart) (levels : List (List (List ℕ))) (x : ProductPart) (y : PairColumn) (u v r : Cochain p) (answer : Bool) → IsIndexOf c.facets levels
    → IsRowOfClass p levels x.a (get_or (classes_in (classes_of c) x.a) (y.i - 1) []) u → IsRowOfClass p levels x.b (get_or (classes_in (classes_of c) x.b) (y.j - 1) []) v
    → HasValues p levels (u.degree + v.degree) (cup_product p u.degree v.degree (cochain_in levels u.degree u.row) (cochain_in levels v.degree v.row)) r.row
    → (IsTrue answer ↔ IsColumnSum c (x.a + x.b) p (cochain_in levels (x.a + x.b) r.row) y.values y.primitive) → (IsTrue answer ↔ IsRightProduct c p x y)
product-tells p c levels x y u v r answer is first second made t =
    let P : ℕ → ℕ → Type 0 = λ a b. HasValues p levels (a + b) (cup_product p a b (cochain_in levels a u.row) (cochain_in levels b v.row)) r.row in
    let here : P x.a x.b = subst (λ (a : ℕ). P a x.b) first.placed.degree (subst (λ (b : ℕ). P u.degree b) second.placed.degree made) in
    let Q : SimplexCochain → SimplexCochain → Type 0 = λ f g. AgreesOnSimplices c.facets (x.a + x.b) p (cochain_in levels (x.a + x.b) r.row) (cup_product p x.a x.b f g) in
    let same : Q (class_at (classes_of c) x.a y.i) (class_at (classes_of c) x.b y.j) =
    subst (λ (f : SimplexCochain). Q f (class_at (classes_of c) x.b y.j)) (class-is p c levels x.a y.i u first) (subst (λ (g : SimplexCochain). Q (cochain_in levels x.a u.row) g) (class-is p c levels x.b y.j v second) (here.values c.facets is)) in
    tells answer (λ e. record { on = e.on; same = agrees-trans (agrees-sym same) e.same }) (λ e. record { on = e.on; same = agrees-trans same e.same }) t

-- what agrees with a result of an operation is one
result-alike : (facets : List (List ℕ)) (p q : ℕ) (op : Op) (z b w : SimplexCochain) → IsTrue (served p) → is_defined p q op ≡ true → IsOperation facets p op q z b → AgreesOnSimplices facets (target_degree p q op) p w b → IsOperation facets p op q z w
result-alike facets p q op z b w is_served defined h same = let form = scaled p op q is_served defined in form.back facets z w (agrees-trans same (form.there facets z b h))

pub operation-tells : (p : ℕ) (c : ComplexPart) (levels : List (List (List ℕ))) (x : OperationPart) (k : ℕ) (y : Column) (op : Op) (u r : Cochain p) (answer : Bool) → IsTrue (served p) → IsIndexOf c.facets levels
    → is_defined p x.from (op_of x) ≡ true → x.to ≡ target_degree p x.from (op_of x) → op ≡ op_of x → IsRowOfClass p levels x.from (get_or (classes_in (classes_of c) x.from) ((k + 1) - 1) []) u
    → IsOperation c.facets p op u.degree (cochain_in levels u.degree u.row) (cochain_in levels (target_degree p u.degree op) r.row)
    → (IsTrue answer ↔ IsColumnSum c x.to p (cochain_in levels x.to r.row) y.values y.primitive) → (IsTrue answer ↔ IsRightOperation c p x k y)
operation-tells p c levels x k y op u r answer is_served is defined target named class made t =
    let P : Op → ℕ → Type 0 = λ o q. IsOperation c.facets p o q (cochain_in levels q u.row) (cochain_in levels (target_degree p q o) r.row) in
    let here : P (op_of x) x.from = subst (λ (o : Op). P o x.from) named (subst (λ (q : ℕ). P op q) class.placed.degree made) in
    let z : SimplexCochain = class_at (classes_of c) x.from (k + 1) in
    let sum : SimplexCochain = column_sum p (listed c x.to) y.values y.primitive in
    let at_class : IsOperation c.facets p (op_of x) x.from z (cochain_in levels (target_degree p x.from (op_of x)) r.row) =
    subst (λ (f : SimplexCochain). IsOperation c.facets p (op_of x) x.from f (cochain_in levels (target_degree p x.from (op_of x)) r.row)) (class-is p c levels x.from (k + 1) u class) here in
    let result : IsOperation c.facets p (op_of x) x.from z (cochain_in levels x.to r.row) =
    subst (λ (m : ℕ). IsOperation c.facets p (op_of x) x.from z (cochain_in levels m r.row)) (sym target) at_class in
    let there : AgreesOnSimplices c.facets x.to p (cochain_in levels x.to r.row) sum → IsOperation c.facets p (op_of x) x.from z sum =
    λ e. result-alike c.facets p x.from (op_of x) z (cochain_in levels x.to r.row) sum is_served defined result (subst (λ (m : ℕ). AgreesOnSimplices c.facets m p sum (cochain_in levels x.to r.row)) target (agrees-sym e)) in
    let back : IsOperation c.facets p (op_of x) x.from z sum → AgreesOnSimplices c.facets x.to p (cochain_in levels x.to r.row) sum =
    λ e. subst (λ (m : ℕ). AgreesOnSimplices c.facets m p (cochain_in levels x.to r.row) sum) (sym target) (operation-once c.facets p is_served (op_of x) x.from z (cochain_in levels x.to r.row) sum defined result e) in
    tells answer (λ e. record { on = e.on; same = there e.same }) (λ e. record { on = e.on; same = back e.same }) t

pub pull_back-tells : (p : ℕ) (from to : ComplexPart) (levels others : List (List (List ℕ))) (m : MapPart) (x : InducedPart) (q k : ℕ) (y : Column) (f : ℕ → ℕ) (u r : Cochain p) (answer : Bool) → IsIndexOf from.facets levels
    → x.q ≡ q → ((v : ℕ) → f v ≡ sent_by m v) → IsRowOfClass p others q (get_or (classes_in (classes_of to) q) ((k + 1) - 1) []) u → IsPullBackOf p f levels others u.degree u.row r.row
    → (IsTrue answer ↔ IsColumnSum from q p (cochain_in levels q r.row) y.values y.primitive) → (IsTrue answer ↔ IsRightPullBack from to p m x k y)
pull_back-tells p from to levels others m x q k y f u r answer is at sent class made t =
    let here : IsPullBackOf p f levels others q u.row r.row = subst (λ (n : ℕ). IsPullBackOf p f levels others n u.row r.row) class.placed.degree made in
    let g : f ≡ sent_by m = λ i v. sent v i in
    let P : (ℕ → ℕ) → SimplexCochain → Type 0 = λ h w. AgreesOnSimplices from.facets q p (cochain_in levels q r.row) (pull_back h w) in
    let by_place : P f (cochain_in others q u.row) = agree_by_place from.facets q p (level levels q) (is.lists q) (cochain_in levels q r.row) (pull_back f (cochain_in others q u.row))
    (λ j b. Congruent_trans (Congruent_of (value_by_place from.facets q p (level levels q) (is.lists q) r.row j b)) (here.values j b)) in
    let same : P (sent_by m) (class_at (classes_of to) q (k + 1)) = subst (λ (h : ℕ → ℕ). P h (class_at (classes_of to) q (k + 1))) g (subst (P f) (class-is p to others q (k + 1) u class) by_place) in
    let S : ℕ → Type 0 = λ d. (IsTrue answer ↔ ((IsOnBelow from.facets d y.primitive) × AgreesOnSimplices from.facets d p (pull_back (sent_by m) (class_at (classes_of to) d (k + 1))) (column_sum p (listed from d) y.values y.primitive))) in
    let at_q : S q = tells answer (λ e. (e.on, agrees-trans (agrees-sym same) e.same)) (λ e. record { on = e.0; same = agrees-trans same e.1 }) t in
    tells answer (λ e. record { on = e.0; same = e.1 }) (λ e. (e.on, e.same)) (subst S (sym at) at_q)

-- What a column tells of its cochain.
use Rattle.std.{proofs.Common.{◌≡◌, ℕ, zero, suc, ◌+◌, ◌-◌, ◌<◌, inl, inr, Bool, false, true, List, [], ◌∷◌, length, get_or, arith, refl, sym, ap, subst, ◌∙◌, IsTrue, MatchOption, Some, None, is_some, slice_get}, specs.declared.option.Option.Option, proofs.lemmas.Bool.cases_lt, proofs.lemmas.List.length-map}
use Rattle.fp_field.{specs.Served.served, proofs.ServedLemmas.served_field}
use Rattle.linear_law.{specs.Names.negated, proofs.Names.Congruent_of}
use Rattle.simplicial_law.specs.Names.{Chain, Cochain as SimplexCochain, HasCoordinates, cochain_of, terms_of}
use Rattle.complex_index.specs.{declared.indexed.Cochain.Cochain, Names.{IsIndexOf, level}}
use Rattle.cohomology.specs.{declared.basis.Column.Column, Names.{IsColumnOf, AreCanonicalIn, chains_at, cochain_in, IsCanonicalCycle, IsClosedIn, cochains_at}}
use Rattle.may_steenrod.specs.Cochains.{IsClosed}
use Rattle.report.specs.declared.plan.Line.{Line}
use Rattle.report_law.{specs.Names.{IsAnswer, IsFirstValue, rest_of, IsCartanDifference, cartan_pairs, Classes, class_at, line_degree}, proofs.Names.{bound-of-zeros, no-combination, get_or-past}}
use Rattle.op_matrix.{specs.Columns.{AreListedAs, IsColumnFor, primitive_terms}, proofs.ColumnLemmas.{column-for, primitive-alike}}
use Rattle.cartan_check.{specs.declared.Verdict.Verdict, specs.declared.Verdict.TheVariants.{Yes, No}, specs.Verdicts.{IsVerdictFor, IsVerdictOf, listed_answer}, proofs.CycleLemmas.cycle-of}
use Rattle.line_difference.specs.Differences.{IsLess}

-- coordinates that are 0 for each class are 0
pub all-zero : (p : ℕ) (levels : List (List (List ℕ))) (n : ℕ) (classes : List (Cochain p)) (facets : List (List ℕ)) (z : SimplexCochain) (values : List ℕ) → HasCoordinates facets n p (cochains_at {p = p} levels n classes) z values
    → ((i : ℕ) → i < length classes → get_or values i 0 ≡ 0) → (i : ℕ) → get_or values i 0 ≡ 0
all-zero p levels n classes facets z values has h i = elim (cases_lt i (length classes)) [
  | inl l ↦ h i l
  | inr g ↦
      let a = has.count in
      let b = length-map (chains_at {p = p} (level levels n) classes) cochain_of in
      let c = length-map classes (λ (d : Cochain p). terms_of (level levels n) d.row) in
      get_or-past values i 0 (omega (arith, a, b, c, g))
]

module _ (p : ℕ) (is_served : IsTrue (served p)) (keeps : Bool) (levels : List (List (List ℕ))) (n : ℕ) (classes : List (Cochain p)) (canonical : AreCanonicalIn p levels n classes) (c : Column p) where
  abbrev zs : List SimplexCochain
  zs = cochains_at {p = p} levels n classes

  abbrev values : List ℕ
  values = c.values.items

  -- o is there exactly where chains are kept, and has P
  abbrev pub KeepsOnly : Option (Cochain p) → (Cochain p → Type 0) → Type 0
  KeepsOnly o P = MatchOption o (keeps ≡ false) (λ y. (keeps ≡ true) × P y)

  has-chain : (o : Option (Cochain p)) (P : Cochain p → Type 0) → KeepsOnly o P → is_some o ≡ keeps
  has-chain None P h = sym h
  has-chain (Some y) P h = sym h.0

  module _ (facets : List (List ℕ)) (z : Cochain p) (is : IsIndexOf facets levels) (degree : z.degree ≡ n) (column : IsColumnOf p keeps levels classes z values c.primitive) where
    abbrev d : SimplexCochain
    d = cochain_in levels n z.row

    here : IsColumnFor {p = p} keeps facets levels n classes d c
    here = column-for facets levels p is keeps (λ m. classes) n z c degree column

    yes : ((i : ℕ) → i < length classes → get_or values i 0 ≡ 0) → IsAnswer keeps facets n p (chains_at {p = p} (level levels n) classes) d (listed_answer {p = p} levels n (Yes c.primitive))
    yes h =
        let large = (served_field p is_served).large in
        let all = all-zero p levels n classes facets d values here.coordinates h in (
          bound-of-zeros facets n p large zs d values here.coordinates all,
          λ t. primitive-alike facets p n d (rest_of p zs d values) (primitive_terms {p = p} levels n c.primitive)
              (record { at = λ s on. Congruent_of (let e = no-combination facets n p large values zs s all in sym (ap (λ (k : ℕ). d s + negated p k) e ∙ omega arith)) }) (here.rest t),
        )

    no : (place value : ℕ) (cycle : Option (Cochain p)) → IsFirstValue values place value → place < length classes
        → KeepsOnly cycle (IsCanonicalCycle p levels n classes place) → IsAnswer keeps facets n p (chains_at {p = p} (level levels n) classes) d (listed_answer {p = p} levels n (No value cycle))
    no place value None first inside kept = record { values = values; coordinates = here.coordinates; place = place; first = first; cycle_of = λ t. absurd (not-both keeps kept t) }
      where
        not-both : (b : Bool) → b ≡ false → IsTrue b → ⊥
        not-both b e h = cc
    no place value (Some y) first inside kept = record {
      values = values;
      coordinates = here.coordinates;
      place = place;
      first = first;
      cycle_of = λ t. cycle-of facets levels n p (served_field p is_served) is classes place y canonical inside kept.1;
    }

  pub yes-verdict : ((i : ℕ) → i < length classes → get_or values i 0 ≡ 0) → IsVerdictFor {p = p} keeps levels n classes c (Yes c.primitive)
  yes-verdict h = record { answer = λ facets z is degree column. yes facets z is degree column h; kept = λ z column. has-chain c.primitive _ column.primitive_of }

  pub no-verdict : (place value : ℕ) (cycle : Option (Cochain p)) → IsFirstValue values place value → place < length classes
      → ((z : Cochain p) → IsColumnOf p keeps levels classes z values c.primitive → KeepsOnly cycle (IsCanonicalCycle p levels n classes place))
      → IsVerdictFor {p = p} keeps levels n classes c (No value cycle)
  no-verdict place value cycle first inside kept = record {
    answer = λ facets z is degree column. no facets z is degree column place value cycle first inside (kept z column);
    kept = λ z column. has-chain cycle (IsCanonicalCycle p levels n classes place) (kept z column);
  }

-- ---- the verdict on a line

-- the class that a report lists at a place
listed-class : (p : ℕ) (levels : List (List (List ℕ))) (classes : ℕ → List (Cochain p)) (all : Classes) → AreListedAs {p = p} levels classes all → (n i : ℕ) (z : Cochain p) → slice_get (classes n) (i - 1) ≡ Some z
    → cochain_in levels n z.row ≡ class_at all n i
listed-class p levels classes all as_listed n i z at =
    sym (ap (λ (cs : List Chain). cochain_of (get_or cs (i - 1) [])) (as_listed.each n) ∙ ap cochain_of (go (classes n) (i - 1) at))
  where
    inside : {X : Type 0} (x y : X) → Some x ≡ Some y → x ≡ y
    inside x y e = cc

    never : {X : Type 0} {x : X} → None ≡ Some x → ⊥
    never q = cc

    go : (cs : List (Cochain p)) (k : ℕ) → slice_get cs k ≡ Some z → get_or (chains_at {p = p} (level levels n) cs) k [] ≡ terms_of (level levels n) z.row
    go [] k e = absurd (never e)
    go (c ∷ cs) zero e = ap (λ (d : Cochain p). terms_of (level levels n) d.row) (inside c z e)
    go (c ∷ cs) (suc k) e = go cs k e

closed : (p : ℕ) (levels : List (List (List ℕ))) (line : Line) (x y d : Cochain p) → IsLess {p = p} levels line x y (cartan_pairs p line.a line.b line.n) d
    → IsClosed p levels line.a x.row → IsClosed p levels line.b y.row → IsClosedIn p levels d
closed p levels line x y d h u v = subst (λ (m : ℕ). IsClosed p levels m d.row) (sym h.placed.degree) (h.closed u v)

pub verdict-of : (p : ℕ) (keeps : Bool) (levels : List (List (List ℕ))) (classes : ℕ → List (Cochain p)) (line : Line) (x y d : Cochain p) (c : Column p) (verdict : Verdict p)
    → slice_get (classes line.a) (line.i - 1) ≡ Some x → slice_get (classes line.b) (line.j - 1) ≡ Some y → IsLess {p = p} levels line x y (cartan_pairs p line.a line.b line.n) d
    → IsClosed p levels line.a x.row → IsClosed p levels line.b y.row → (IsClosedIn p levels d → IsColumnOf p keeps levels (classes d.degree) d c.values.items c.primitive) → IsVerdictFor {p = p} keeps levels d.degree (classes d.degree) c verdict → IsVerdictOf {p = p} keeps levels classes line verdict
verdict-of p keeps levels classes line x y d c verdict at_x at_y h closed_x closed_y column v = record {
  listed = λ facets all is as_listed.
      let n : ℕ = line_degree p line in
      let z : SimplexCochain = cochain_in levels n d.row in
      let u = listed-class p levels classes all as_listed line.a line.i x at_x in
      let w = listed-class p levels classes all as_listed line.b line.j y at_y in
      let D : SimplexCochain → SimplexCochain → Type 0 = λ s t. IsCartanDifference facets p line.a line.b line.n s t z in
      let made : D (cochain_in levels line.a x.row) (cochain_in levels line.b y.row) =
      record { whole = h.whole; is_whole = h.is_whole facets is; parts = h.parts; are_parts = h.are_parts facets is; difference = h.difference facets is } in
      let A : ℕ → Type 0 = λ m. IsAnswer keeps facets m p (chains_at {p = p} (level levels m) (classes m)) (cochain_in levels m d.row) (listed_answer {p = p} levels m verdict) in
      let answer : A n = subst A h.placed.degree (v.answer facets d is refl (column (closed p levels line x y d h closed_x closed_y))) in
      record {
        difference = z;
        is_difference = subst (λ (t : SimplexCochain). D (class_at all line.a line.i) t) w (subst (λ (s : SimplexCochain). D s (cochain_in levels line.b y.row)) u made);
        is_answer = subst (λ (cs : List Chain). IsAnswer keeps facets n p cs z (listed_answer {p = p} levels n verdict)) (sym (as_listed.each n)) answer;
      };
  kept = v.kept d (column (closed p levels line x y d h closed_x closed_y));
}

-- Where a report certifies, the printed classes are bases of cohomology.
use Rattle.std.proofs.{Common.{◌≡◌, ℕ, ◌+◌, ◌<◌, ◌≤◌, sym, subst, arith, List, [], ◌∷◌, ◌++◌, length, map, get_or}, lemmas.List.length-map}
use Rattle.linear_law.specs.Names.{IsField, Each, IsAscending}
use Rattle.simplicial_law.{specs.Names.{Chain, IsCocycle, cochain_of}, proofs.Names.listed_simplices_law}
use Rattle.certificate_law.{specs.Types.{ComplexPart, DegreePart}, specs.Names.{HasNewLeast, IsCounted, IsOn, IsOnBelow, coboundaries_of, after, below_stands, class_stands, degree_stated}, proofs.Asked.{ComplexAsked, IsAsAsked, each_left, each_right, numbered_at}, proofs.ListedBases.{EachAfter, IsListedWell, listed_basis}}
use Rattle.report_law.{specs.Names.{classes_in, below_in, classes_of}, proofs.Names.{AreBases, bases-from, get_or-map, get_or-past}}

module _ (p : ℕ) (c : ComplexPart) (n : ℕ) where
  below_on : (before ys : List Chain) → Each (IsAsAsked p) (after (λ before y. below_stands c n before y ∷ []) before ys) → Each (IsOnBelow c.facets n) ys
  below_on before [] h = tt
  below_on before (y ∷ ys) h = ((h.0.asked 2).on, below_on (y ∷ before) ys h.1)

  below_new : (before ys : List Chain) → Each (IsAsAsked p) (after (λ before y. below_stands c n before y ∷ []) before ys) → EachAfter (HasNewLeast c.facets n p) (coboundaries_of p before) (coboundaries_of p ys)
  below_new before [] h = tt
  below_new before (y ∷ ys) h = ((h.0.asked 2).new, below_new (y ∷ before) ys h.1)

  classes_closed : (before zs : List Chain) → Each (IsAsAsked p) (after (λ before z. class_stands c n before z ∷ []) before zs) → Each (λ z. IsOn c.facets n z × IsCocycle c.facets n p (cochain_of z)) zs
  classes_closed before [] h = tt
  classes_closed before (z ∷ zs) h = (((h.0.asked 3).on, (h.0.asked 3).closed), classes_closed (z ∷ before) zs h.1)

  classes_new : (before zs : List Chain) → Each (IsAsAsked p) (after (λ before z. class_stands c n before z ∷ []) before zs)
      → EachAfter (HasNewLeast c.facets n p) (map cochain_of before ++ coboundaries_of p (below_in c n)) (map cochain_of zs)
  classes_new before [] h = tt
  classes_new before (z ∷ zs) h = (h.0.asked 4, classes_new (z ∷ before) zs h.1)

-- what is listed of a degree
pub no_degree : DegreePart
no_degree = record { below = []; classes = [] }

pub below_at : (c : ComplexPart) (n : ℕ) → (get_or c.degrees n no_degree).below ≡ below_in c n
unfolding no_degree
below_at c n = sym (get_or-map (λ (d : DegreePart). d.below) c.degrees n no_degree)

pub classes_at : (c : ComplexPart) (n : ℕ) → (get_or c.degrees n no_degree).classes ≡ classes_in (classes_of c) n
unfolding no_degree
classes_at c n = sym (get_or-map (λ (d : DegreePart). d.classes) c.degrees n no_degree)

pub below_past : (c : ComplexPart) (n : ℕ) → length c.degrees ≤ n → below_in c n ≡ []
below_past c n b = get_or-past (map (λ (d : DegreePart). d.below) c.degrees) n [] (let l = length-map c.degrees (λ (d : DegreePart). d.below) in omega (arith, l, b))

module _ (p : ℕ) (c : ComplexPart) (a : ComplexAsked p c) where
  degree_asked : (n : ℕ) → n < length c.degrees → Each (IsAsAsked p) (degree_stated c n (get_or c.degrees n no_degree))
  degree_asked n b =
      let e : 0 + n ≡ n = omega arith in
      subst (λ (i : ℕ). Each (IsAsAsked p) (degree_stated c i (get_or c.degrees n no_degree))) e (numbered_at (IsAsAsked p) (degree_stated c) 0 c.degrees n no_degree b a.degrees)

  below_asked : (n : ℕ) → n < length c.degrees → Each (IsAsAsked p) (after (λ before y. below_stands c n before y ∷ []) [] (below_in c n))
  below_asked n b =
      subst (λ (ys : List Chain). Each (IsAsAsked p) (after (λ before y. below_stands c n before y ∷ []) [] ys)) (below_at c n)
      (each_left (IsAsAsked p) (after (λ before y. below_stands c n before y ∷ []) [] (get_or c.degrees n no_degree).below) (after (λ before z. class_stands c n before z ∷ []) [] (get_or c.degrees n no_degree).classes) (degree_asked n b).1)

  classes_asked : (n : ℕ) → n < length c.degrees → Each (IsAsAsked p) (after (λ before z. class_stands c n before z ∷ []) [] (classes_in (classes_of c) n))
  classes_asked n b =
      subst (λ (zs : List Chain). Each (IsAsAsked p) (after (λ before z. class_stands c n before z ∷ []) [] zs)) (classes_at c n)
      (each_right (IsAsAsked p) (after (λ before y. below_stands c n before y ∷ []) [] (get_or c.degrees n no_degree).below) (after (λ before z. class_stands c n before z ∷ []) [] (get_or c.degrees n no_degree).classes) (degree_asked n b).1)

  pub listed_well : IsListedWell c.facets p (length c.degrees) (below_in c) (classes_in (classes_of c))
  listed_well = record {
    coboundaries = λ n b. record { degrees = below_on p c n [] (below_in c n) (below_asked n b); least = below_new p c n [] (below_in c n) (below_asked n b) };
    nothing = below_past c;
    cocycles = λ n b. classes_closed p c n [] (classes_in (classes_of c) n) (classes_asked n b);
    new = λ n b. classes_new p c n [] (classes_in (classes_of c) n) (classes_asked n b);
    counts = λ n b.
        subst (λ (ys : List Chain). IsCounted c.facets n ys (classes_in (classes_of c) n) (below_in c (n + 1))) (below_at c n)
        (subst (λ (zs : List Chain). IsCounted c.facets n (get_or c.degrees n no_degree).below zs (below_in c (n + 1))) (classes_at c n) ((degree_asked n b).0.asked 5));
  }

-- in each degree, also past the dimension
pub printed_bases : (p : ℕ) (c : ComplexPart) → IsField p → Each IsAscending c.facets → ComplexAsked p c → AreBases c.facets p (classes_of c)
printed_bases p c field ascending a =
    let count : length (classes_of c) ≡ length c.degrees = length-map c.degrees (λ (d : DegreePart). d.classes) in
    bases-from c.facets p (classes_of c)
    (λ n s on. let f = (listed_simplices_law.of_one_degree c.facets n ascending).whole s on in let w = (a.ends.asked 2).whole n (let b = f.1 in omega arith) in omega (arith, w, count))
    (λ n b. listed_basis c.facets p field ascending (length c.degrees) (below_in c) (classes_in (classes_of c)) (listed_well p c a) n (omega (arith, b, count)))

-- The classes of a listed complex by degree.
use Rattle.std.{proofs.Common.{◌≡◌, ℕ, zero, suc, ◌+◌, ◌<◌, ◌≤◌, inl, inr, List, [], ◌∷◌, ◌++◌, map, length, get_or, arith, refl, sym, ap, subst, ◌∙◌, Vec, Global}, specs.List.AllZip, proofs.lemmas.Bool.cases_lt, proofs.lemmas.List.length-map}
use Rattle.linear_law.proofs.Names.{length_alike}
use Rattle.simplicial_law.specs.Names.{Chain}
use Rattle.complex_index.specs.{declared.indexed.Cochain.Cochain, Names.list_at}
use Rattle.certificate_law.specs.{Types.{ComplexPart, DegreePart}, Names.rank_in}
use Rattle.report_law.{specs.Names.{classes_in, classes_of}, proofs.Names.get_or-past}
use Rattle.column_check.{specs.Listings.{IsRowOfClass, IsListing}, specs.declared.listing.Listing.Listing, proofs.ListLemmas.{list_at-before, list_at-past, list_at-push}}

-- a degree with a class is listed
pub live-degree : (c : ComplexPart) (n : ℕ) → 0 < rank_in c n → n < length c.degrees
live-degree c n live = elim (cases_lt n (length c.degrees)) [
  | inl b ↦ b
  | inr b ↦ (
      let e = length-map c.degrees (λ (d : DegreePart). d.classes) in
      let none = ap (λ (cs : List Chain). length cs) (get_or-past (classes_of c) n [] (omega (arith, b, e))) in
      absurd (omega (arith, live, none)))
]

module _ (p : ℕ) (l : Listing p) (of : IsListing {p = p} l) (n : ℕ) where
  pub inside : 0 < rank_in l.part.now n → n < length l.classes.items
  inside live = let a = live-degree l.part.now n live in let b = of.degrees in omega (arith, a, b)

  pub count : length (list_at l.classes.items n) ≡ rank_in l.part.now n
  count = length_alike (IsRowOfClass p l.index.now n) (classes_in (classes_of l.part.now) n) (list_at l.classes.items n) (of.classes n)

-- ---- the degrees one after the other

-- the rows of the first n degrees
pub record AreRowsUpTo (p : ℕ) (levels : List (List (List ℕ))) (classes : List (List Chain)) (n : ℕ) (rows : List (Vec (Cochain p) Global)) : Type 0 where
  pub count : length rows ≡ n
  pub each : (m : ℕ) → m < n → AllZip (IsRowOfClass p levels m) (get_or classes m []) (list_at rows m)

module _ (p : ℕ) (levels : List (List (List ℕ))) (classes : List (List Chain)) where
  pub rows-none : (rows : List (Vec (Cochain p) Global)) → rows ≡ [] → AreRowsUpTo p levels classes 0 rows
  rows-none rows e = record { count = ap (λ (vs : List (Vec (Cochain p) Global)). length vs) e; each = λ m l. absurd (omega (arith, l)) }

  pub rows-more : (n : ℕ) (rows new : List (Vec (Cochain p) Global)) (v : Vec (Cochain p) Global) (class : List Chain) → new ≡ rows ++ v ∷ [] → class ≡ get_or classes n [] → AllZip (IsRowOfClass p levels n) class v.items
      → AreRowsUpTo p levels classes n rows → AreRowsUpTo p levels classes (n + 1) new
  rows-more n rows new v class e is z h =
      let count : length new ≡ n + 1 = ap (λ (vs : List (Vec (Cochain p) Global)). length vs) e ∙ pushed rows ∙ ap (λ (k : ℕ). k + 1) h.count in
      record { count = count; each = at }
    where
      pushed : (vs : List (Vec (Cochain p) Global)) → length (vs ++ v ∷ []) ≡ length vs + 1
      pushed [] = refl
      pushed (w ∷ ws) = let r = pushed ws in omega (arith, r)

      at : (m : ℕ) → m < n + 1 → AllZip (IsRowOfClass p levels m) (get_or classes m []) (list_at new m)
      at m l = elim (cases_lt m n) [
        | inl b ↦ (let q : m < length rows = (let c = h.count in omega (arith, b, c)) in
            subst (λ (zs : List (Cochain p)). AllZip (IsRowOfClass p levels m) (get_or classes m []) zs) (sym (list_at-before rows new v m e q)) (h.each m b))
        | inr b ↦ (let same : n ≡ m = omega (arith, l, b) in
            subst (λ (k : ℕ). AllZip (IsRowOfClass p levels k) (get_or classes k []) (list_at new k)) same
            (subst (λ (zs : List (Cochain p)). AllZip (IsRowOfClass p levels n) (get_or classes n []) zs) (sym (list_at-push rows new v n e h.count))
            (subst (λ (cs : List Chain). AllZip (IsRowOfClass p levels n) cs v.items) is z)))
      ]

  pub rows-all : (n : ℕ) (rows : List (Vec (Cochain p) Global)) → length classes ≤ n → AreRowsUpTo p levels classes n rows → (m : ℕ) → AllZip (IsRowOfClass p levels m) (get_or classes m []) (list_at rows m)
  rows-all n rows all h m = elim (cases_lt m n) [
    | inl b ↦ h.each m b
    | inr b ↦
        let none : get_or classes m [] ≡ [] = get_or-past classes m [] (omega (arith, all, b)) in
        let past : list_at rows m ≡ [] = list_at-past rows m (let c = h.count in omega (arith, b, c)) in
        subst (λ (cs : List Chain). AllZip (IsRowOfClass p levels m) cs (list_at rows m)) (sym none) (subst (λ (zs : List (Cochain p)). AllZip (IsRowOfClass p levels m) [] zs) (sym past) tt)
  ]

-- the classes of one degree
pub class-at : (ds : List DegreePart) (n : ℕ) (d : DegreePart) → n < length ds → (get_or ds n d).classes ≡ get_or (map (λ d. d.classes) ds) n []
class-at [] n d b = absurd (omega (arith, b))
class-at (x ∷ ds) zero d b = refl
class-at (x ∷ ds) (suc n) d b = class-at ds n d (omega (arith, b))

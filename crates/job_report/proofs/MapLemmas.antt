-- What is listed of a map between two complexes of a job.
use Rattle.std.{proofs.Common.{◌≡◌, ◌∙◌, ℕ, zero, suc, ◌<◌, Bool, List, [], ◌∷◌, length, get_or, arith, sym, ap, ap₂, subst, slice_get, Some}, specs.List.AllZip}
use Rattle.linear_law.specs.Names.{Each}
use Rattle.report_law.specs.{Types.{ComplexBlock, MapBlock, InducedPart, MapPart}, Names.{induced_degrees, Classes, ranks, AreOrderedSends, IsInducedPart, IsMapPart}}
use Rattle.complex_file.specs.Names.{facets_at, image, name_at}
use Rattle.complex_index.specs.{declared.indexed.Cochain.Cochain, Names.IsIndexOf}
use Rattle.cohomology.specs.Names.{AreCanonicalIn}
use Rattle.job_report.{specs.declared.known.Known.Known, specs.Jobs.{AreAllListed, IsFreeMap, IsKnown}, specs.Parts.IsListedInduced, proofs.Zips.{headings, parts, zip-get}}
use Rattle.class_matrices.{specs.Names.{class_counts, listed_classes}, proofs.ClassLemmas.ranks-are}

slice-of : {X : Type 0} (xs : List X) (i : ℕ) (x : X) → i < length xs → x ≡ get_or xs i x → slice_get xs i ≡ Some x
slice-of [] i x l e = absurd (omega (arith, l))
slice-of (y ∷ ys) zero x l e = ap Some (sym e)
slice-of (y ∷ ys) (suc i) x l e = slice-of ys i x (omega (arith, l)) e

module _ {B : Type 0} (p : ℕ) (detailed : Bool) (is_of : List (List (List ℕ)) → B → Type 0) (classes : B → ℕ → List (Cochain p)) (canonical : (levels : List (List (List ℕ))) (b : B) → is_of levels b → (n : ℕ) → AreCanonicalIn p levels n (classes b n))
    (cs : List ComplexBlock) (known : List (Known B)) (are : AllZip (IsKnown is_of) cs known) where
  -- the complex at a place is known
  pub known-at : (k : ℕ) (x : Known B) → k < length cs → x ≡ get_or known k x → IsIndexOf (facets_at cs k) x.index × is_of x.index x.basis
  known-at k x l e = subst (λ (y : Known B). IsIndexOf (facets_at cs k) y.index × is_of y.index y.basis) (sym e) (zip-get (IsKnown is_of) cs known k _ x l are)

  pub map-is : (block : MapBlock) (m : MapPart) (f : ℕ → ℕ) (x y : Known B) → IsFreeMap cs block → length known ≡ length cs → x ≡ get_or known block.from x → y ≡ get_or known block.to y → ((v : ℕ) → f v ≡ image block.sends v)
      → m.name ≡ block.name → m.from ≡ name_at cs block.from → m.to ≡ name_at cs block.to → AreOrderedSends block.sends m.sends
      → AllZip (IsListedInduced {p = p} detailed f x.index y.index (classes x.basis) (classes y.basis)) (induced_degrees (class_counts {p = p} x.index (classes x.basis)) (class_counts {p = p} y.index (classes y.basis))) m.induced
      → (all : List Classes) → AreAllListed {p = p} classes known all → IsMapPart detailed (record { prime = p; complexes = cs; maps = [] }) all block m
  map-is block m f x y free count ex ey same name from to sends induced all listed =
      let here = known-at block.from x free.from ex in
      let there = known-at block.to y free.to ey in
      let a = listed block.from x (slice-of known block.from x (subst (λ (n : ℕ). block.from < n) (sym count) free.from) ex) in
      let b = listed block.to y (slice-of known block.to y (subst (λ (n : ℕ). block.to < n) (sym count) free.to) ey) in
      let sources : Classes = listed_classes {p = p} x.index (classes x.basis) in
      let targets : Classes = listed_classes {p = p} y.index (classes y.basis) in
      let Is : List (List ℕ) → InducedPart → Type 0 = λ facets z. IsInducedPart detailed f facets p sources targets z in
      let degrees : List ℕ = induced_degrees (class_counts {p = p} x.index (classes x.basis)) (class_counts {p = p} y.index (classes y.basis)) in
      let g : f ≡ image block.sends = λ i v. same v i in
      record {
        name = name;
        from_name = from;
        to_name = to;
        sends = λ t. sends;
        induced = headings (λ z. z.q) x.index Is degrees m.induced induced
            ∙ ap₂ induced_degrees (sym (ap ranks a ∙ ranks-are p x.index (classes x.basis) (canonical x.index x.basis here.1))) (sym (ap ranks b ∙ ranks-are p y.index (classes y.basis) (canonical y.index y.basis there.1)));
        induced_parts = subst (λ (h : ℕ → ℕ). Each (IsInducedPart detailed h (facets_at cs block.from) p (get_or all block.from []) (get_or all block.to [])) m.induced) g
            (subst (λ (us : Classes). Each (IsInducedPart detailed f (facets_at cs block.from) p us (get_or all block.to [])) m.induced) (sym a)
            (subst (λ (us : Classes). Each (IsInducedPart detailed f (facets_at cs block.from) p sources us) m.induced) (sym b)
            (parts (λ z. z.q) x.index Is (facets_at cs block.from) here.0 degrees m.induced induced)));
      }

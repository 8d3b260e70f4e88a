-- Lines of parts that are added to a text.
use Rattle.std.{proofs.Common.{◌≡◌, ◌∙◌, ℕ, suc, ◌+◌, ◌<◌, Bool, true, false, cond, List, [], ◌∷◌, ◌++◌, length, map, take, get_or, flat_map, append_assoc, append-nil, arith, ap, ap₂, refl, subst, sym, length-take, OnOk, Ok, Err, Result}, specs.List.{AllZip, filter}, proofs.lemmas.Grind.flat_map-append, proofs.lemmas.List.{length-map, map-append, take_all, take_more}}
use Rattle.signed_sum.specs.Names.{numbers_from}
use Rattle.job_report.proofs.Zips.{numbers-filtered}
use Rattle.cohomology.specs.declared.basis.Column.{Column}
use Rattle.report_text_law.specs.{Names.{ended, spelled}, declared.line.Line.TheVariants.{Column as column_line}}
use Rattle.bockstein.specs.Matrices.{values_of}
use Rattle.bockstein_text.specs.Names.{Adds, columns_text}

pub on_ok : {X E A B : Type 0} (r : Result X E) → (A → B) → OnOk r A → OnOk r B
on_ok (Ok x) f h = f h
on_ok (Err e) f h = tt

-- ---- parts

module _ {H X : Type 0} (lines : X → List ℕ) (Is : H → X → Type 0) where
  pub none_added : (old : List ℕ) → Adds lines Is [] old old
  none_added old = record { parts = []; each = tt; text_is = sym (append-nil old) }

  pub one_added : (h : H) (x : X) (old new : List ℕ) → Is h x → new ≡ old ++ lines x → Adds lines Is (h ∷ []) old new
  one_added h x old new is e = record { parts = x ∷ []; each = (is, tt); text_is = e ∙ ap (λ (t : List ℕ). old ++ t) (sym (append-nil (lines x))) }

  both : (hs ks : List H) (xs ys : List X) → AllZip Is hs xs → AllZip Is ks ys → AllZip Is (hs ++ ks) (xs ++ ys)
  both [] ks [] ys a b = b
  both [] ks (x ∷ xs) ys a b = absurd a
  both (h ∷ hs) ks [] ys a b = absurd a
  both (h ∷ hs) ks (x ∷ xs) ys a b = (a.0, both hs ks xs ys a.1 b)

  pub two_added : (hs ks : List H) (old mid new : List ℕ) → Adds lines Is hs old mid → Adds lines Is ks mid new → Adds lines Is (hs ++ ks) old new
  two_added hs ks old mid new a b = record {
    parts = a.parts ++ b.parts;
    each = both hs ks a.parts b.parts a.each b.each;
    text_is = b.text_is ∙ ap (λ (t : List ℕ). t ++ flat_map lines b.parts) a.text_is ∙ append_assoc old (flat_map lines a.parts) (flat_map lines b.parts)
        ∙ ap (λ (t : List ℕ). old ++ t) (sym (flat_map-append lines a.parts b.parts));
  }

  -- one heading more of a list
  pub more_added : (hs : List H) (i : ℕ) (h : H) (old mid new : List ℕ) → i < length hs → h ≡ get_or hs i h → Adds lines Is (take i hs) old mid → Adds lines Is (h ∷ []) mid new → Adds lines Is (take (i + 1) hs) old new
  more_added hs i h old mid new lt same a b =
      subst (λ (ks : List H). Adds lines Is ks old new) (ap (λ (k : H). take i hs ++ k ∷ []) same ∙ sym (take_more hs i h lt)) (two_added (take i hs) (h ∷ []) old mid new a b)

  -- what a test leaves of one heading
  pub test_fails : (t : H → Bool) (h : H) (old : List ℕ) → t h ≡ false → Adds lines Is (filter t (h ∷ [])) old old
  test_fails t h old e = subst (λ (b : Bool). Adds lines Is (cond b (h ∷ []) []) old old) (sym e) (none_added old)

  pub test_holds : (t : H → Bool) (h : H) (x : X) (old new : List ℕ) → t h ≡ true → Is h x → new ≡ old ++ lines x → Adds lines Is (filter t (h ∷ [])) old new
  test_holds t h x old new e is text = subst (λ (b : Bool). Adds lines Is (cond b (h ∷ []) []) old new) (sym e) (one_added h x old new is text)

-- one number more that is tested
pub number_added : {X : Type 0} (lines : X → List ℕ) (Is : ℕ → X → Type 0) (t : ℕ → Bool) (k : ℕ) (old mid new : List ℕ) → Adds lines Is (filter t (numbers_from 0 k)) old mid → Adds lines Is (filter t (k ∷ [])) mid new
    → Adds lines Is (filter t (numbers_from 0 (k + 1))) old new
number_added lines Is t k old mid new a b =
    subst (λ (ks : List ℕ). Adds lines Is ks old new) (numbers-filtered t k (filter t (numbers_from 0 k)) (filter t (numbers_from 0 k) ++ filter t (k ∷ [])) refl refl)
    (two_added lines Is (filter t (numbers_from 0 k)) (filter t (k ∷ [])) old mid new a b)

-- ---- columns

columns_apart : (j : ℕ) (xs ys : List (List ℕ)) → columns_text j (xs ++ ys) ≡ columns_text j xs ++ columns_text (j + length xs) ys
columns_apart j [] ys = let e : j ≡ j + 0 = omega arith in ap (λ (k : ℕ). columns_text k ys) e
columns_apart j (x ∷ xs) ys =
    let e : j + 1 + length xs ≡ j + suc (length xs) = omega arith in
    ap (λ (t : List ℕ). ended (spelled (column_line j x)) ++ t) (columns_apart (j + 1) xs ys ∙ ap (λ (k : ℕ). columns_text (j + 1) xs ++ columns_text k ys) e)
    ∙ sym (append_assoc (ended (spelled (column_line j x))) (columns_text (j + 1) xs) (columns_text (j + suc (length xs)) ys))

pub column_added : {p : ℕ} (old mid new : List ℕ) (cs : List (Column p)) (i : ℕ) (c : Column p) → i < length cs → c ≡ get_or cs i c
    → mid ≡ old ++ columns_text 1 (values_of {p = p} (take i cs)) → new ≡ mid ++ ended (spelled (column_line (i + 1) c.values.items)) → new ≡ old ++ columns_text 1 (values_of {p = p} (take (i + 1) cs))
column_added {p = p} old mid new cs i c lt same h e =
    let v : Column p → List ℕ = λ x. x.values.items in
    let line : ℕ → List ℕ → List ℕ = λ j x. ended (spelled (column_line j x)) in
    let front : List (List ℕ) = map v (take i cs) in
    let count : 1 + length front ≡ i + 1 = omega (arith, length-map (take i cs) v, length-take i cs, lt) in
    let more : map v (take (i + 1) cs) ≡ front ++ v c ∷ [] = ap (map v) (take_more cs i c lt ∙ ap (λ (x : Column p). take i cs ++ x ∷ []) (sym same)) ∙ map-append v (take i cs) (c ∷ []) in
    e ∙ ap (λ (t : List ℕ). t ++ line (i + 1) (v c)) h ∙ append_assoc old (columns_text 1 front) (line (i + 1) (v c))
    ∙ ap (λ (t : List ℕ). old ++ t) (ap (λ (t : List ℕ). columns_text 1 front ++ t) (sym (append-nil (line (i + 1) (v c))) ∙ ap (λ (j : ℕ). columns_text j (v c ∷ [])) (sym count))
    ∙ sym (columns_apart 1 front (v c ∷ [])) ∙ ap (columns_text 1) (sym more))

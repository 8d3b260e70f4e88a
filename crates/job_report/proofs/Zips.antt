-- Lists that are made item by item, and parts with their headings.
use Rattle.std.{proofs.Common.{◌≡◌, ◌∙◌, Bool, true, false, cond, ℕ, zero, suc, ◌+◌, ◌<◌, ◌≤◌, List, [], ◌∷◌, ◌++◌, length, map, take, get_or, append_assoc, arith, refl, sym, ap, ap₂, subst, take_all, flat_map, fold, append-nil}, specs.List.{AllZip, filter}, proofs.lemmas.List.{length-map, map-append, take_more}, proofs.lemmas.Grind.flat_map-append, proofs.lemmas.List.Sums.fold-append}
use Rattle.signed_sum.specs.Names.{numbers_from}
use Rattle.linear_law.{specs.Names.{Among, Each}, proofs.Names.{each_get_or, each_itself, zip_push}}
use Rattle.complex_index.specs.Names.{IsIndexOf}
use Rattle.report_law.proofs.Names.{get_or-map}
use Rattle.class_matrices.proofs.ListLemmas.{numbers-more}
use Rattle.job_report.specs.Parts.{IsPartFor}

pub counted-more : {Y : Type 0} (R : ℕ → Y → Type 0) (k : ℕ) (ys new : List Y) (y : Y) → AllZip R (numbers_from 0 k) ys → R k y → new ≡ ys ++ y ∷ [] → AllZip R (numbers_from 0 (k + 1)) new
counted-more R k ys new y h r e =
    let z : k ≡ 0 + k = omega arith in
    rw (e, numbers-more 0 k) (subst (λ (m : ℕ). AllZip R (numbers_from 0 k ++ m ∷ []) (ys ++ y ∷ [])) z (zip_push R (numbers_from 0 k) ys k y h r))

pub appended-more : {Y : Type 0} (f : ℕ → Y) (k : ℕ) (old ys new : List Y) → ys ≡ old ++ map f (numbers_from 1 k) → new ≡ ys ++ f (k + 1) ∷ [] → new ≡ old ++ map f (numbers_from 1 (k + 1))
appended-more f k old ys new h e =
    let s : k + 1 ≡ 1 + k = omega arith in
    e ∙ ap₂ (λ (xs : List _) (x : ℕ). xs ++ f x ∷ []) h s ∙ append_assoc old (map f (numbers_from 1 k)) (f (1 + k) ∷ [])
    ∙ ap (λ (xs : List _). old ++ xs) (sym (ap (map f) (numbers-more 1 k) ∙ map-append f (numbers_from 1 k) ((1 + k) ∷ [])))

pub rows-more : {Y : Type 0} (f : ℕ → List Y) (k : ℕ) (ys new : List Y) → ys ≡ flat_map f (numbers_from 1 k) → new ≡ ys ++ f (k + 1) → new ≡ flat_map f (numbers_from 1 (k + 1))
rows-more f k ys new h e =
    let s : k + 1 ≡ 1 + k = omega arith in
    e ∙ ap₂ (λ (xs : List _) (x : ℕ). xs ++ f x) h s ∙ ap (λ (xs : List _). flat_map f (numbers_from 1 k) ++ xs) (sym (append-nil (f (1 + k))))
    ∙ sym (ap (flat_map f) (numbers-more 1 k) ∙ flat_map-append f (numbers_from 1 k) ((1 + k) ∷ []))

-- one item more
pub zip-more : {A B : Type 0} (R : A → B → Type 0) (xs : List A) (ys new : List B) (i : ℕ) (x : A) (y : B) → i < length xs → x ≡ get_or xs i x
    → AllZip R (take i xs) ys → R x y → new ≡ ys ++ y ∷ [] → AllZip R (take (i + 1) xs) new
zip-more R xs ys new i x y lt same h r e = rw (e, take_more xs i x lt) (zip_push R (take i xs) ys (get_or xs i x) y h (subst (λ v. R v y) same r))

-- one item more, of which its heading is seen
pub heading-more : {A H B : Type 0} (R : H → B → Type 0) (f : A → H) (xs : List A) (ys new : List B) (i : ℕ) (x : A) (y : B) → i < length xs → x ≡ get_or xs i x
    → AllZip R (take i (map f xs)) ys → R (f x) y → new ≡ ys ++ y ∷ [] → AllZip R (take (i + 1) (map f xs)) new
heading-more R f xs ys new i x y lt same h r e = zip-more R (map f xs) ys new i (f x) y (let k = length-map xs f in omega (arith, lt, k)) (ap f same ∙ sym (get_or-map f xs i x)) h r e

-- ---- folds and filters

filter-append : {X : Type 0} (t : X → Bool) (xs ys : List X) → filter t (xs ++ ys) ≡ filter t xs ++ filter t ys
filter-append t [] ys = refl
filter-append {X = X} t (x ∷ xs) ys = go (t x) (filter-append t xs ys)
  where
    go : (b : Bool) → filter t (xs ++ ys) ≡ filter t xs ++ filter t ys → cond b (x ∷ filter t (xs ++ ys)) (filter t (xs ++ ys)) ≡ cond b (x ∷ filter t xs) (filter t xs) ++ filter t ys
    go true h = ap (λ (zs : List X). x ∷ zs) h
    go false h = h

pub filtered-more : {X Y : Type 0} (f : Y → X → Y) (a : Y) (t : X → Bool) (xs : List X) (i : ℕ) (x : X) (old new : Y) → i < length xs → x ≡ get_or xs i x
    → old ≡ fold f a (filter t (take i xs)) → new ≡ fold f old (filter t (x ∷ [])) → new ≡ fold f a (filter t (take (i + 1) xs))
filtered-more {Y = Y} f a t xs i x old new lt same h e =
    e ∙ ap₂ (λ (y : Y) (z : _). fold f y (filter t (z ∷ []))) h same ∙ sym (fold-append f a (filter t (take i xs)) (filter t (get_or xs i x ∷ [])))
    ∙ ap (fold f a) (sym (ap (filter t) (take_more xs i x lt) ∙ filter-append t (take i xs) (get_or xs i x ∷ [])))

pub numbers-filtered : (t : ℕ → Bool) (k : ℕ) (old new : List ℕ) → old ≡ filter t (numbers_from 0 k) → new ≡ old ++ filter t (k ∷ []) → new ≡ filter t (numbers_from 0 (k + 1))
numbers-filtered t k old new h e =
    let z : k ≡ 0 + k = omega arith in
    e ∙ ap₂ (λ (xs : List ℕ) (x : ℕ). xs ++ filter t (x ∷ [])) h z ∙ sym (ap (filter t) (numbers-more 0 k) ∙ filter-append t (numbers_from 0 k) ((0 + k) ∷ []))

-- what stands at a place of two lists
pub zip-get : {A B : Type 0} (R : A → B → Type 0) (xs : List A) (ys : List B) (i : ℕ) (d : A) (e : B) → i < length xs → AllZip R xs ys → R (get_or xs i d) (get_or ys i e)
zip-get R [] ys i d e l h = absurd (omega (arith, l))
zip-get R (x ∷ xs) [] i d e l h = absurd h
zip-get R (x ∷ xs) (y ∷ ys) zero d e l h = h.0
zip-get R (x ∷ xs) (y ∷ ys) (suc i) d e l h = zip-get R xs ys i d e (omega (arith, l)) h.1

-- one pair of items more, of which the second list is seen by another function
pub mapped-turn : {B C : Type 0} (g : B → C) (xs : List C) (k m : ℕ) (ys new : List B) (x : C) (y : B) → k < length xs → m ≡ k + 1 → x ≡ get_or xs k x
    → map g ys ≡ take k xs → g y ≡ x → new ≡ ys ++ y ∷ [] → map g new ≡ take m xs
mapped-turn g xs k m ys new x y lt more same h e is =
    ap (map g) is ∙ map-append g ys (y ∷ []) ∙ ap₂ (λ (us : List _) (u : _). us ++ u ∷ []) h (e ∙ same) ∙ sym (take_more xs k x lt) ∙ ap (λ (i : ℕ). take i xs) (sym more)

pub zip-turn : {A B C : Type 0} (R : A → C → Type 0) (g : B → C) (xs : List A) (k m : ℕ) (ys new : List B) (x : A) (y : B) → k < length xs → m ≡ k + 1 → x ≡ get_or xs k x
    → AllZip R (take k xs) (map g ys) → R x (g y) → new ≡ ys ++ y ∷ [] → AllZip R (take m xs) (map g new)
zip-turn R g xs k m ys new x y lt more same h r e =
    rw (e, more, map-append g ys (y ∷ [])) (zip-more R xs (map g ys) (map g ys ++ g y ∷ []) k x (g y) lt same h r refl)

pub zip-turn-plain : {A B : Type 0} (R : A → B → Type 0) (xs : List A) (k m : ℕ) (ys new : List B) (x : A) (y : B) → k < length xs → m ≡ k + 1 → x ≡ get_or xs k x
    → AllZip R (take k xs) ys → R x y → new ≡ ys ++ y ∷ [] → AllZip R (take m xs) new
zip-turn-plain R xs k m ys new x y lt more same h r e = rw more (zip-more R xs ys new k x y lt same h r e)

pub zip-pushed : {A B : Type 0} (R : A → B → Type 0) (xs : List A) (ys new : List B) (x : A) (y : B) → AllZip R xs ys → R x y → new ≡ ys ++ (y ∷ []) → AllZip R (xs ++ (x ∷ [])) new
zip-pushed R xs ys new x y h r e = rw e (zip_push R xs ys x y h r)

pub zip-next : {A B : Type 0} (R : A → B → Type 0) (xs : List A) (ys new : List B) (i : ℕ) (d : A) (y : B) → i < length xs
    → AllZip R (take i xs) ys → R (get_or xs i d) y → new ≡ ys ++ y ∷ [] → AllZip R (take (i + 1) xs) new
zip-next R xs ys new i d y lt h r e = rw (e, take_more xs i d lt) (zip_push R (take i xs) ys (get_or xs i d) y h r)

pub all-items : {A B : Type 0} (R : A → B → Type 0) (xs zs : List A) (ys new : List B) (i : ℕ) → length xs ≤ i → xs ≡ zs → AllZip R (take i xs) ys → new ≡ ys → AllZip R zs new
all-items R xs zs ys new i l e h q = rw q (subst (λ (us : List _). AllZip R us ys) (take_all i xs l ∙ e) h)

-- all items, of which their headings are seen
pub all-headings : {A H B : Type 0} (R : H → B → Type 0) (f : A → H) (xs : List A) (hs : List H) (ys new : List B) (i : ℕ) → length xs ≤ i → map f xs ≡ hs → AllZip R (take i (map f xs)) ys → new ≡ ys → AllZip R hs new
all-headings R f xs hs ys new i l e h q = all-items R (map f xs) hs ys new i (let k = length-map xs f in omega (arith, l, k)) e h q

pub each-item : {X : Type 0} (P : X → Type 0) (xs : List X) (i : ℕ) (x : X) → i < length xs → x ≡ get_or xs i x → Each P xs → P x
each-item P xs i x lt same h = subst P (sym same) (each_get_or P xs i x lt h)

-- ---- parts with their headings

module _ {H X : Type 0} (heading : X → H) (levels : List (List (List ℕ))) (Is : List (List ℕ) → X → Type 0) where
  pub headings : (hs : List H) (xs : List X) → AllZip (IsPartFor heading levels Is) hs xs → map heading xs ≡ hs
  headings [] [] h = refl
  headings [] (x ∷ xs) h = absurd h
  headings (k ∷ ks) [] h = absurd h
  headings (k ∷ ks) (x ∷ xs) h = ap₂ ◌∷◌ h.0.headed (headings ks xs h.1)

  pub parts : (facets : List (List ℕ)) → IsIndexOf facets levels → (hs : List H) (xs : List X) → AllZip (IsPartFor heading levels Is) hs xs → Each (Is facets) xs
  parts facets is [] [] h = tt
  parts facets is [] (x ∷ xs) h = absurd h
  parts facets is (k ∷ ks) [] h = absurd h
  parts facets is (k ∷ ks) (x ∷ xs) h = (h.0.part facets is, parts facets is ks xs h.1)

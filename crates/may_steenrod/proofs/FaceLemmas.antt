-- Faces and terms by number.
use Rattle.std.proofs.{Common.{◌≡◌, ℕ, zero, suc, ◌+◌, ◌<◌, List, [], ◌∷◌, ◌++◌, map, length, take, get_or, slice_set, arith, refl, sym, ap, ap₂, subst, ◌∙◌, Vec, Global, add-one, ℤ, pos, ◌+ℤ◌, ◌*ℤ◌, length-append}, lemmas.Int.ints, lemmas.List.map-append, Math.Seq.take-suc-set}
use Rattle.linear_law.{specs.Names.Each, proofs.Names.{each_map, each_push}}
use Rattle.signed_sum.{specs.Names.numbers_from, proofs.Names.total-append}
use Rattle.simplicial_law.{specs.Names.CongruentInt, proofs.Names.CongruentInt_of}
use Rattle.interval_cut_law.specs.Names.{cut_face, cut_faces}
use Rattle.complex_index.specs.Names.{list_at}
use Rattle.may_steenrod.specs.{declared.face_sum.Term.Term, FaceSums.{AreNumbered, Extends, face_product, face_sum, faces_of, terms_in}}

pub Extends_refl : (fs : List (Vec ℕ Global)) → Extends fs fs
Extends_refl fs = record { longer = omega arith; same = λ k h. refl }

pub Extends_trans : (fs gs hs : List (Vec ℕ Global)) → Extends fs gs → Extends gs hs → Extends fs hs
Extends_trans fs gs hs h k = record {
  longer = (let a = h.longer in let b = k.longer in omega arith);
  same = λ i l. k.same i (let a = h.longer in omega arith) ∙ h.same i l;
}

list_at-before : (fs : List (Vec ℕ Global)) (v : Vec ℕ Global) (k : ℕ) → k < length fs → list_at (fs ++ v ∷ []) k ≡ list_at fs k
list_at-before [] v k h = absurd (omega arith)
list_at-before (f ∷ fs) v zero h = refl
list_at-before (f ∷ fs) v (suc k) h = list_at-before fs v k (omega arith)

pub list_at-last : (fs : List (Vec ℕ Global)) (v : Vec ℕ Global) → list_at (fs ++ v ∷ []) (length fs) ≡ v.items
list_at-last [] v = refl
list_at-last (f ∷ fs) v = list_at-last fs v

-- the face that stands at a number
pub face-at : (fs : List (Vec ℕ Global)) (k : ℕ) (v : Vec ℕ Global) → k < length fs → v ≡ get_or fs k v → v.items ≡ list_at fs k
face-at [] k v h e = absurd (omega arith)
face-at (f ∷ fs) zero v h e = ap (λ (u : Vec ℕ Global). u.items) e
face-at (f ∷ fs) (suc k) v h e = face-at fs k v (omega arith) e

pub length-push : (fs : List (Vec ℕ Global)) (v : Vec ℕ Global) → length (fs ++ v ∷ []) ≡ length fs + 1
length-push fs v = length-append fs (v ∷ [])

pub Extends_push : (fs : List (Vec ℕ Global)) (v : Vec ℕ Global) → Extends fs (fs ++ v ∷ [])
Extends_push fs v = record { longer = omega (arith, length-push fs v); same = λ k h. list_at-before fs v k h }

-- ---- numbers of faces

numbers-below : (fs gs : List (Vec ℕ Global)) (ks : List ℕ) → Extends fs gs → Each (λ k. k < length fs) ks → Each (λ k. k < length gs) ks
numbers-below fs gs ks h e = each_map (λ (k : ℕ) (l : k < length fs). let a = h.longer in let q : k < length gs = omega arith in q) ks e

numbers-same : (fs gs : List (Vec ℕ Global)) (ks : List ℕ) → Extends fs gs → Each (λ k. k < length fs) ks → map (list_at gs) ks ≡ map (list_at fs) ks
numbers-same fs gs [] h e = refl
numbers-same fs gs (k ∷ ks) h e = ap₂ (λ x xs. x ∷ xs) (h.same k e.0) (numbers-same fs gs ks h e.1)

cut_faces-more : (m k : ℕ) (u p : List ℕ) → cut_faces (numbers_from m (k + 1)) u p ≡ cut_faces (numbers_from m k) u p ++ cut_face (m + k) u 0 p ∷ []
cut_faces-more m zero u p = (let e : m ≡ m + 0 = omega arith in ap (λ n. cut_face n u 0 p ∷ []) e)
cut_faces-more m (suc k) u p =
    let e : suc k + 1 ≡ suc (k + 1) = omega arith in
    let f : suc m + k ≡ m + suc k = omega arith in
    ap (λ n. cut_faces (numbers_from m n) u p) e
    ∙ ap (λ fs. cut_face m u 0 p ∷ fs) (cut_faces-more (suc m) k u p ∙ ap (λ n. cut_faces (numbers_from (suc m) k) u p ++ cut_face n u 0 p ∷ []) f)

-- the first k numbers are those of the faces 1 to k of the cut
pub record AreNumbersOf (fs : List (Vec ℕ Global)) (u p : List ℕ) (k : ℕ) (ks : List ℕ) : Type 0 where
  pub inside : Each (λ x. x < length fs) (take k ks)
  pub faces : map (list_at fs) (take k ks) ≡ cut_faces (numbers_from 1 k) u p

pub numbers_start : (fs : List (Vec ℕ Global)) (u p ks : List ℕ) → AreNumbersOf fs u p 0 ks
numbers_start fs u p ks = record { inside = tt; faces = refl }

pub numbers_step : (fs gs : List (Vec ℕ Global)) (u p ks : List ℕ) (k x : ℕ) → AreNumbersOf fs u p k ks → Extends fs gs → x < length gs → list_at gs x ≡ cut_face (k + 1) u 0 p
    → k < length ks → AreNumbersOf gs u p (k + 1) (slice_set ks k x)
numbers_step fs gs u p ks k x h e l f b =
    let t : take (k + 1) (slice_set ks k x) ≡ take k ks ++ x ∷ [] = rw add-one (take-suc-set ks k x b) in
    let c : 1 + k ≡ k + 1 = omega arith in
    record {
      inside = subst (Each (λ (y : ℕ). y < length gs)) (sym t) (each_push (λ (y : ℕ). y < length gs) (take k ks) x (numbers-below fs gs (take k ks) e h.inside) l);
      faces = ap (map (list_at gs)) t ∙ map-append (list_at gs) (take k ks) (x ∷ [])
          ∙ ap₂ (λ xs (y : List ℕ). xs ++ y ∷ []) (numbers-same fs gs (take k ks) e h.inside ∙ h.faces) (f ∙ ap (λ n. cut_face n u 0 p) (sym c))
          ∙ sym (cut_faces-more 1 k u p);
    }

-- ---- terms

pub terms-numbered : {p : ℕ} (fs gs : List (Vec ℕ Global)) (ts : List (Term p)) → Extends fs gs → AreNumbered fs ts → AreNumbered gs ts
terms-numbered {p} fs gs ts h e = each_map (λ (t : Term p) l. numbers-below fs gs (take p t.faces) h l) ts e

pub terms-same : {p : ℕ} (fs gs : List (Vec ℕ Global)) (ts : List (Term p)) → Extends fs gs → AreNumbered fs ts → terms_in gs ts ≡ terms_in fs ts
terms-same fs gs [] h e = refl
terms-same {p} fs gs (t ∷ ts) h e = ap₂ (λ (x : List (List ℕ)) xs. (t.coefficient, x) ∷ xs) (numbers-same fs gs (take p t.faces) h e.0) (terms-same fs gs ts h e.1)

pub terms-push : {p : ℕ} (fs : List (Vec ℕ Global)) (ts : List (Term p)) (t : Term p) (a : List ℕ → ℤ) (s : List ℕ)
    → face_sum a s (terms_in fs (ts ++ t ∷ [])) ≡ face_sum a s (terms_in fs ts) +ℤ pos t.coefficient *ℤ face_product a s (faces_of fs t)
terms-push {p} fs ts t a s =
    ap (face_sum a s) (map-append (λ (t : Term p). (t.coefficient, faces_of fs t)) ts (t ∷ []))
    ∙ total-append (λ (x : ℕ × List (List ℕ)). pos x.0 *ℤ face_product a s x.1) (terms_in fs ts) ((t.coefficient, faces_of fs t) ∷ [])
    ∙ ap (λ z. face_sum a s (terms_in fs ts) +ℤ z) (last (pos t.coefficient *ℤ face_product a s (faces_of fs t)))
  where
    last : (z : ℤ) → z +ℤ pos 0 ≡ z
    last z = omega (arith, ints)

-- one more term, with the faces gs
module _ {p : ℕ} (fs gs : List (Vec ℕ Global)) (ts next : List (Term p)) (t : Term p) (faces : List (List ℕ)) (extends : Extends fs gs) (numbered : AreNumbered fs ts) (next_is : next ≡ ts ++ t ∷ []) where
  pub cut-numbered : Each (λ k. k < length gs) (take p t.faces) → AreNumbered gs next
  cut-numbered h = subst (AreNumbered gs) (sym next_is) (each_push (λ (x : Term p). Each (λ k. k < length gs) (take p x.faces)) ts t (terms-numbered fs gs ts extends numbered) h)

  pub cut-added : faces_of gs t ≡ faces → (a : List ℕ → ℤ) (s : List ℕ)
      → CongruentInt p (face_sum a s (terms_in gs next)) (face_sum a s (terms_in fs ts) +ℤ pos t.coefficient *ℤ face_product a s faces)
  cut-added e a s =
      CongruentInt_of (ap (λ (xs : List (Term p)). face_sum a s (terms_in gs xs)) next_is ∙ terms-push gs ts t a s
      ∙ ap₂ (λ (x : List (ℕ × List (List ℕ))) (y : List (List ℕ)). face_sum a s x +ℤ pos t.coefficient *ℤ face_product a s y) (terms-same fs gs ts extends numbered) e)

-- The faces of the first intervals of a cut, and when no live cut begins so.
use Rattle.std.proofs.{Common.{◌≡◌, ◌≢◌, ℕ, zero, suc, ◌+◌, ◌-◌, ◌≤◌, ◌<◌, Bool, true, false, ◌||◌, cond, eqb, List, [], ◌∷◌, ◌++◌, take, drop, length, get_or, set, refl, sym, ◌∙◌, ap, arith, subst, inl, inr, ◌⊎◌, length-append, length-drop, take_all, append_assoc, get_or-set_same, get_or-set_other, ◌&&◌, ◌==◌, not, replicate, eq-eqb, ne_eqb, append-nil, take-append-drop}, lemmas.Bool.{cases_eq, or_right, or_from, or_parts, and_from, and_left, and_right}, lemmas.List.{drop_more, drop_all, take_more}, lemmas.List.Sums.{count_by-le-length, sum_by-cons}}
use Rattle.signed_sum.{specs.Names.{is_degenerate, numbers_from, occurs}, proofs.Names.{length-numbers_from, occurs-cons, occurs-later, occurs-mid}}
use Rattle.surjection_law.specs.Names.{IsSurjection, arity}
use Rattle.surjection.proofs.WalkLemmas.{value_within}
use Rattle.interval_cut_law.specs.Names.{IsCutFrom, cut_face, cut_faces, is_live}
use Rattle.interval_cut.{specs.Names.{is_live_cut, IsBegun, IsDeadEnd, IsFitting, IsTaken, IsUnfit, later_times, place_after, times}, proofs.FaceLemmas.{face_here, face_other}}

-- ---- how often a value comes

times-cons : (v w : ℕ) (u : List ℕ) → times v (w ∷ u) ≡ cond (w == v) 1 0 + times v u
times-cons v w u = sum_by-cons (λ x. cond (x == v) 1 0) w u

pub times-here : (v w : ℕ) (u : List ℕ) → w ≡ v → times v (w ∷ u) ≡ suc (times v u)
times-here v w u e = let one : cond {A = ℕ} (w == v) 1 0 ≡ 1 = ap (λ t. cond {A = ℕ} t 1 0) (eq-eqb w v e) in omega (arith, times-cons v w u, one)

pub times-other : (v w : ℕ) (u : List ℕ) → w ≢ v → times v (w ∷ u) ≡ times v u
times-other v w u n = let none : cond {A = ℕ} (w == v) 1 0 ≡ 0 = ap (λ t. cond {A = ℕ} t 1 0) (ne_eqb w v n) in omega (arith, times-cons v w u, none)

times-none : (v : ℕ) (u : List ℕ) → times v u ≡ 0 → occurs v u ≡ 0
times-none v [] h = refl
times-none v (w ∷ u) h = elim (cases_eq w v) [
  | inl e ↦ absurd (let s = times-here v w u e in omega arith)
  | inr n ↦ ap (λ t. cond t 1 (occurs v u)) (ne_eqb v w (λ e. n (sym e))) ∙ times-none v u (sym (times-other v w u n) ∙ h)
]

pub times-few : (v : ℕ) (u : List ℕ) → times v u ≤ length u
times-few v u = count_by-le-length (λ w. w == v) u

pub later-at : (u : List ℕ) (i : ℕ) → i < length u → get_or (later_times u) i 0 ≡ times (get_or u i 0) (drop (i + 1) u)
later-at [] i b = absurd (omega arith)
later-at (v ∷ u) zero b = refl
later-at (v ∷ u) (suc i) b =
    let e : suc (i + 1) ≡ suc i + 1 = omega arith in
    later-at u i (omega arith) ∙ ap (λ m. times (get_or u i 0) (drop m (v ∷ u))) e

pub length-later : (u : List ℕ) → length (later_times u) ≡ length u
length-later [] = refl
length-later (v ∷ u) = ap suc (length-later u)

-- ---- one interval more

face-first : (k v : ℕ) (u : List ℕ) (a b : ℕ) (p : List ℕ) → cut_face k (v ∷ u) a (b ∷ p) ≡ cut_face k (v ∷ []) a (b ∷ []) ++ cut_face k u b p
face-first k v u a b p = go (k == v)
  where
    go : (t : Bool) → cond t (numbers_from a (suc (b - a)) ++ cut_face k u b p) (cut_face k u b p) ≡ cond t (numbers_from a (suc (b - a)) ++ []) [] ++ cut_face k u b p
    go true = ap (λ r. r ++ cut_face k u b p) (sym (append-nil (numbers_from a (suc (b - a)))))
    go false = refl

size-here : (v : ℕ) (u : List ℕ) (a b : ℕ) (p : List ℕ) → length (cut_face v (v ∷ u) a (b ∷ p)) ≡ suc (b - a) + length (cut_face v u b p)
size-here v u a b p =
    ap length (face_here v v u a b p refl) ∙ length-append (numbers_from a (suc (b - a))) (cut_face v u b p) ∙ ap (λ n. n + length (cut_face v u b p)) (length-numbers_from a (suc (b - a)))

-- each interval has a place
pub size-least : (v : ℕ) (u : List ℕ) (a : ℕ) (p : List ℕ) → length p ≡ length u → times v u ≤ length (cut_face v u a p)
size-least v [] a p l = omega arith
size-least v (w ∷ u) a [] l = absurd (omega arith)
size-least v (w ∷ u) a (b ∷ p) l = elim (cases_eq v w) [
  | inl e ↦
      let h = size-least v u b p (omega arith) in
      let more : length (cut_face v (w ∷ u) a (b ∷ p)) ≡ suc (b - a) + length (cut_face v u b p) = ap (λ x. length (cut_face v (x ∷ u) a (b ∷ p))) (sym e) ∙ size-here v u a b p in
      omega (arith, times-here v w u (sym e), more, h)
  | inr n ↦
      let h = size-least v u b p (omega arith) in
      omega (arith, times-other v w u (λ e. n (sym e)), ap length (face_other v w u a b p n), h)
]

face-none : (v : ℕ) (u : List ℕ) (a : ℕ) (p : List ℕ) → times v u ≡ 0 → cut_face v u a p ≡ []
face-none v [] a p h = refl
face-none v (w ∷ u) a [] h = refl
face-none v (w ∷ u) a (b ∷ p) h = elim (cases_eq v w) [
  | inl e ↦ absurd (let s = times-here v w u (sym e) in omega arith)
  | inr n ↦ face_other v w u a b p n ∙ face-none v u b p (sym (times-other v w u (λ e. n (sym e))) ∙ h)
]

-- ---- the place after a face

after-append : (f : List ℕ) (x : ℕ) (g : List ℕ) → place_after (f ++ (x ∷ g)) ≡ place_after (x ∷ g)
after-append [] x g = refl
after-append (y ∷ []) x g = refl
after-append (y ∷ z ∷ f) x g = after-append (z ∷ f) x g

after-numbers : (a m : ℕ) → place_after (numbers_from a (suc m)) ≡ suc (a + m)
after-numbers a zero = let e : suc a ≡ suc (a + 0) = omega arith in e
after-numbers a (suc m) = let e : suc (suc a + m) ≡ suc (a + suc m) = omega arith in after-numbers (suc a) m ∙ e

degenerate-joined : (f : List ℕ) (x : ℕ) (g : List ℕ) → place_after f ≡ suc x → is_degenerate (f ++ (x ∷ g)) ≡ true
degenerate-joined [] x g e = absurd (omega arith)
degenerate-joined (y ∷ []) x g e = ap (λ t. t || is_degenerate (x ∷ g)) (eq-eqb y x (omega arith))
degenerate-joined (y ∷ z ∷ f) x g e = or_right (eqb y z) (is_degenerate (z ∷ (f ++ (x ∷ g)))) (degenerate-joined (z ∷ f) x g e)

plain-joined : (f : List ℕ) (x : ℕ) (g : List ℕ) → place_after f ≢ suc x → is_degenerate f ≡ false → is_degenerate (x ∷ g) ≡ false → is_degenerate (f ++ (x ∷ g)) ≡ false
plain-joined [] x g n d e = e
plain-joined (y ∷ []) x g n d e = or_from (eqb y x) (is_degenerate (x ∷ g)) (ne_eqb y x (λ q. n (ap suc q))) e
plain-joined (y ∷ z ∷ f) x g n d e =
    let p = or_parts (eqb y z) (is_degenerate (z ∷ f)) d in
    or_from (eqb y z) (is_degenerate (z ∷ (f ++ (x ∷ g)))) p.0 (plain-joined (z ∷ f) x g n p.1 e)

plain-numbers : (a m : ℕ) → is_degenerate (numbers_from a m) ≡ false
plain-numbers a zero = refl
plain-numbers a (suc zero) = refl
plain-numbers a (suc (suc m)) =
    let n : a ≢ suc a = omega arith in
    or_from (eqb a (suc a)) (is_degenerate (numbers_from (suc a) (suc m))) (ne_eqb a (suc a) n) (plain-numbers (suc a) (suc m))

-- ---- one face decides, or all do

live-all : (q : ℕ) (ks u p : List ℕ) → ((k : ℕ) → occurs k ks ≡ 1 → (not (is_degenerate (cut_face k u 0 p)) && (length (cut_face k u 0 p) == suc q)) ≡ true) → is_live q (cut_faces ks u p) ≡ true
live-all q [] u p h = refl
live-all q (k ∷ ks) u p h =
    and_from (not (is_degenerate (cut_face k u 0 p)) && (length (cut_face k u 0 p) == suc q)) (is_live q (cut_faces ks u p)) (h k (occurs-mid k [] ks))
    (live-all q ks u p (λ j o. h j (occurs-later j (k ∷ []) ks o)))

pub live-none : (q : ℕ) (ks u p : List ℕ) (v : ℕ) → occurs v ks ≡ 1 → (not (is_degenerate (cut_face v u 0 p)) && (length (cut_face v u 0 p) == suc q)) ≡ false → is_live q (cut_faces ks u p) ≡ false
live-none q [] u p v o h = absurd (omega arith)
live-none q (k ∷ ks) u p v o h = elim (occurs-cons v k ks) [
  | inl e ↦
      and_left (not (is_degenerate (cut_face k u 0 p)) && (length (cut_face k u 0 p) == suc q)) (is_live q (cut_faces ks u p))
      (ap (λ j. not (is_degenerate (cut_face j u 0 p)) && (length (cut_face j u 0 p) == suc q)) (sym e) ∙ h)
  | inr e ↦
      and_right (not (is_degenerate (cut_face k u 0 p)) && (length (cut_face k u 0 p) == suc q)) (is_live q (cut_faces ks u p)) (live-none q ks u p v (sym e ∙ o) h)
]

-- ---- the first intervals

drop-zero : (xs : List ℕ) → drop 0 xs ≡ xs
drop-zero [] = refl
drop-zero (x ∷ xs) = refl

take-zero : (xs : List ℕ) → take 0 xs ≡ []
take-zero [] = refl
take-zero (x ∷ xs) = refl

zeros : (m k : ℕ) → get_or {A = ℕ} (replicate m 0) k 0 ≡ 0
zeros zero k = refl
zeros (suc m) zero = refl
zeros (suc m) (suc k) = zeros m k

pub taken-start : (q : ℕ) (u p counts nexts : List ℕ) (m n : ℕ) → counts ≡ replicate m 0 → nexts ≡ replicate n 0 → IsCutFrom u 0 p → IsTaken q u p 0 0 counts nexts
taken-start q u p counts nexts m n e f c = record {
  rest = subst (λ (x : List ℕ). IsCutFrom x 0 (drop 0 p)) (sym (drop-zero u)) (subst (λ (x : List ℕ). IsCutFrom u 0 x) (sym (drop-zero p)) c);
  face = λ k. [];
  whole = λ k s. ap (λ r. cut_face k u 0 (r ++ s)) (take-zero p) ∙ ap (λ x. cut_face k x 0 s) (sym (drop-zero u));
  begun = λ k o. record {
    long = ap (λ (x : List ℕ). get_or x k 0) e ∙ zeros m k;
    after = ap (λ (x : List ℕ). get_or x k 0) f ∙ zeros n k;
    plain = refl;
    short = omega arith;
    full = λ z. absurd (let none : occurs k u ≡ 0 = times-none k u (ap (times k) (sym (drop-zero u)) ∙ z) in omega arith);
  };
}

below-last : (u : List ℕ) (a : ℕ) (p : List ℕ) (top : ℕ) → IsCutFrom u a (p ++ (top ∷ [])) → a ≤ top
below-last [] a [] top c = absurd c
below-last [] a (b ∷ p) top c = absurd c
below-last (v ∷ u) a [] top c = c.0
below-last (v ∷ u) a (b ∷ p) top c = let h = below-last u b p top c.1 in let o = c.0 in omega arith

pub end-below : (u : List ℕ) (a : ℕ) (p : List ℕ) (top i : ℕ) → IsCutFrom u a (p ++ (top ∷ [])) → get_or (p ++ (top ∷ [])) i 0 ≤ top
end-below [] a [] top i c = absurd c
end-below [] a (b ∷ p) top i c = absurd c
end-below (v ∷ u) a [] top zero c = omega arith
end-below (v ∷ u) a [] top (suc i) c = omega arith
end-below (v ∷ u) a (b ∷ p) top zero c = below-last u b p top c.1
end-below (v ∷ u) a (b ∷ p) top (suc i) c = end-below u b p top i c.1

module _ (q : ℕ) (u p : List ℕ) (i a : ℕ) (counts nexts : List ℕ) (t : IsTaken q u p i a counts nexts) (inside : i < length u) (same : length p ≡ length u) where
  split : drop i u ≡ get_or u i 0 ∷ drop (i + 1) u
  split = drop_more u i 0 inside

  cut : IsCutFrom (get_or u i 0 ∷ drop (i + 1) u) a (get_or p i 0 ∷ drop (i + 1) p)
  cut =
      subst (λ (x : List ℕ). IsCutFrom (get_or u i 0 ∷ drop (i + 1) u) a x) (drop_more p i 0 (omega (arith, same, inside)))
      (subst (λ (x : List ℕ). IsCutFrom x a (drop i p)) split t.rest)

  pub taken-order : a ≤ get_or p i 0
  taken-order = cut.0

  pub taken-value : occurs (get_or u i 0) u ≡ 1
  taken-value = ap (occurs (get_or u i 0)) (sym (take-append-drop i u) ∙ ap (λ r. take i u ++ r) split) ∙ occurs-mid (get_or u i 0) (take i u) (drop (i + 1) u)

  pub taken-short : get_or counts (get_or u i 0) 0 ≤ q + 1
  taken-short = let g = t.begun (get_or u i 0) taken-value in omega (arith, g.long, g.short)

  whole-at : (k c : ℕ) (s : List ℕ) → cut_face k u 0 (take i p ++ (c ∷ s)) ≡ t.face k ++ cut_face k (get_or u i 0 ∷ drop (i + 1) u) a (c ∷ s)
  whole-at k c s = t.whole k (c ∷ s) ∙ ap (λ x. t.face k ++ cut_face k x a (c ∷ s)) split

  module _ (top count next later : ℕ) (count_is : count ≡ get_or counts (get_or u i 0) 0) (next_is : next ≡ get_or nexts (get_or u i 0) 0) (later_is : later ≡ times (get_or u i 0) (drop (i + 1) u)) where
    -- no live cut begins so
    pub taken-unfit : (x : ℕ) → IsSurjection u → IsUnfit q top count next later a (get_or p i 0) x → IsDeadEnd q u top p i x
    taken-unfit x onto h = record {
      inside = inside;
      up = h.up;
      low = h.low;
      dead = λ c s lo hi l.
          let k : ℕ = get_or u i 0 in
          let f : List ℕ = t.face k in
          let g = t.begun k taken-value in
          let more : List ℕ = cut_face k (drop (i + 1) u) c s in
          let all : List ℕ = cut_face k u 0 (take i p ++ (c ∷ s)) in
          let whole : all ≡ f ++ (numbers_from a (suc (c - a)) ++ more) = whole-at k c s ∙ ap (λ r. f ++ r) (face_here k k (drop (i + 1) u) a c s refl) in
          let size : length all ≡ length f + (suc (c - a) + length more) =
          ap length whole ∙ length-append f (numbers_from a (suc (c - a)) ++ more)
          ∙ ap (λ n. length f + n) (length-append (numbers_from a (suc (c - a))) more ∙ ap (λ n. n + length more) (length-numbers_from a (suc (c - a)))) in
          let least = size-least k (drop (i + 1) u) c s (omega (arith, length-drop (i + 1) u, l)) in
          live-none q (numbers_from 1 (arity u)) u (take i p ++ (c ∷ s)) k (sym (onto.onto k) ∙ taken-value)
          (elim h.cause [
            | inl e ↦
                and_left (not (is_degenerate all)) (length all == suc q)
                (ap not (ap is_degenerate whole ∙ degenerate-joined f a (numbers_from (suc a) (c - a) ++ more) (sym g.after ∙ sym next_is ∙ next_more a e)))
            | inr o ↦ and_right (not (is_degenerate all)) (length all == suc q) (ne_eqb (length all) (suc q) (wrong c (length all) (length f) (length more) size g.long least lo hi (few c s) o))
          ]);
    }
      where
        next_more : (x : ℕ) → next ≡ x + 1 → next ≡ suc x
        next_more x e = omega arith

        few : (c : ℕ) (s : List ℕ) → times (get_or u i 0) (drop (i + 1) u) ≡ 0 → length (cut_face (get_or u i 0) (drop (i + 1) u) c s) ≡ 0
        few c s z = ap length (face-none (get_or u i 0) (drop (i + 1) u) c s z)

        wrong : (c n m more : ℕ) → n ≡ m + (suc (c - a) + more) → get_or counts (get_or u i 0) 0 ≡ m → times (get_or u i 0) (drop (i + 1) u) ≤ more → get_or p i 0 ≤ c → c ≤ x
            → (times (get_or u i 0) (drop (i + 1) u) ≡ 0 → more ≡ 0)
            → ((q + 1 < count + (get_or p i 0 - a + 1) + later) ⊎ ((later ≡ 0) × (count + (x - a + 1) ≤ q))) → n ≢ suc q
        wrong c n m more size long least lo hi none_more (inl o) = omega (arith, count_is, later_is, taken-order)
        wrong c n m more size long least lo hi none_more (inr o) =
            let none = none_more (sym later_is ∙ o.0) in
            let low = o.1 in
            omega (arith, count_is, taken-order)

    abbrev counts_then : List ℕ
    counts_then = set counts (get_or u i 0) (count + (get_or p i 0 - a + 1))

    abbrev nexts_then : List ℕ
    nexts_then = set nexts (get_or u i 0) (get_or p i 0 + 1)

    abbrev piece : ℕ → List ℕ
    piece k = cut_face k (get_or u i 0 ∷ []) a (get_or p i 0 ∷ [])

    abbrev Begun : ℕ → List ℕ → Type 0
    Begun k f = IsBegun q k (drop (i + 1) u) f (get_or counts_then k 0) (get_or nexts_then k 0)

    begun-here : IsFitting q count next later a (get_or p i 0) → get_or u i 0 < length counts → get_or u i 0 < length nexts → Begun (get_or u i 0) (t.face (get_or u i 0) ++ piece (get_or u i 0))
    begun-here h wide wide_nexts =
        let k : ℕ = get_or u i 0 in
        let e : ℕ = get_or p i 0 in
        let f : List ℕ = t.face k in
        let g = t.begun k taken-value in
        let new : List ℕ = numbers_from a (suc (e - a)) in
        let one : piece k ≡ new = face_here k k [] a e [] refl ∙ append-nil new in
        let size : length (f ++ new) ≡ length f + suc (e - a) = length-append f new ∙ ap (λ n. length f + n) (length-numbers_from a (suc (e - a))) in
        let up : suc (a + (e - a)) ≡ e + 1 = omega (arith, taken-order) in
        let sum : count + (e - a + 1) ≡ length (f ++ new) = omega (arith, size, count_is, g.long) in
        let apart : place_after f ≢ suc a = (let w = h.apart in omega (arith, g.after, next_is, w)) in
        subst (λ (r : List ℕ). Begun k (f ++ r)) (sym one) (record {
          long = get_or-set_same counts k (count + (e - a + 1)) 0 wide ∙ sum;
          after = get_or-set_same nexts k (e + 1) 0 wide_nexts ∙ sym (after-append f a (numbers_from (suc a) (e - a)) ∙ after-numbers a (e - a) ∙ up);
          plain = plain-joined f a (numbers_from (suc a) (e - a)) apart g.plain (plain-numbers a (suc (e - a)));
          short = omega (arith, sum, h.room);
          full = λ z. let w = h.full (later_is ∙ z) in sym sum ∙ w;
        })

    begun-other : (k : ℕ) → occurs k u ≡ 1 → k ≢ get_or u i 0 → Begun k (t.face k ++ piece k)
    begun-other k o n =
        let g = t.begun k o in
        let none : t.face k ++ piece k ≡ t.face k = ap (λ r. t.face k ++ r) (face_other k (get_or u i 0) [] a (get_or p i 0) [] n) ∙ append-nil (t.face k) in
        subst (λ (r : List ℕ). Begun k r) (sym none) (record {
          long = get_or-set_other counts (get_or u i 0) k (count + (get_or p i 0 - a + 1)) 0 n ∙ g.long;
          after = get_or-set_other nexts (get_or u i 0) k (get_or p i 0 + 1) 0 n ∙ g.after;
          plain = g.plain;
          short = g.short;
          full = λ z. g.full (ap (times k) split ∙ times-other k (get_or u i 0) (drop (i + 1) u) (λ e. n (sym e)) ∙ z);
        })

    -- the next interval
    pub taken-more : IsFitting q count next later a (get_or p i 0) → get_or u i 0 < length counts → get_or u i 0 < length nexts
        → IsTaken q u p (i + 1) (get_or p i 0) counts_then nexts_then
    taken-more h wide wide_nexts = record {
      rest = cut.1;
      face = λ k. t.face k ++ piece k;
      whole = λ k s.
          ap (λ r. cut_face k u 0 r) (ap (λ r. r ++ s) (take_more p i 0 (omega (arith, same, inside))) ∙ append_assoc (take i p) (get_or p i 0 ∷ []) s)
          ∙ whole-at k (get_or p i 0) s
          ∙ ap (λ r. t.face k ++ r) (face-first k (get_or u i 0) (drop (i + 1) u) a (get_or p i 0) s)
          ∙ sym (append_assoc (t.face k) (piece k) (cut_face k (drop (i + 1) u) (get_or p i 0) s));
      begun = λ k o. elim (cases_eq k (get_or u i 0)) [
        | inl e ↦ subst (λ j. Begun j (t.face j ++ piece j)) (sym e) (begun-here h wide wide_nexts)
        | inr n ↦ begun-other k o n
      ];
    }

-- all intervals are taken
pub taken-end : (q : ℕ) (u p : List ℕ) (i a : ℕ) (counts nexts : List ℕ) → IsSurjection u → IsTaken q u p i a counts nexts → length u ≤ i → length p ≡ length u → is_live_cut q u p ≡ true
taken-end q u p i a counts nexts onto t past same =
    live-all q (numbers_from 1 (arity u)) u p
    (λ k o.
    let none : drop i u ≡ [] = drop_all i u past in
    let g = t.begun k (onto.onto k ∙ o) in
    let all : cut_face k u 0 p ≡ t.face k =
    ap (cut_face k u 0) (sym (append-nil (take i p) ∙ take_all i p (omega (arith, past, same)))) ∙ t.whole k [] ∙ ap (λ x. t.face k ++ cut_face k x a []) none ∙ append-nil (t.face k) in
    let full : length (t.face k) ≡ q + 1 = g.full (ap (times k) none) in
    and_from (not (is_degenerate (cut_face k u 0 p))) (length (cut_face k u 0 p) == suc q) (ap (λ f. not (is_degenerate f)) all ∙ ap not g.plain)
    (eq-eqb (length (cut_face k u 0 p)) (suc q) (omega (arith, ap length all, full))))

-- ---- what the code reads

pub value-room : (u : List ℕ) (i n m : ℕ) → IsSurjection u → i < length u → arity u + 1 ≤ n → m ≡ n → get_or u i 0 < m
value-room u i n m onto b wide e = let v = value_within u i onto b in omega (arith, v.1, wide, e)

pub later-few : (u later : List ℕ) (i : ℕ) → IsSurjection u → later ≡ later_times u → i < length u → get_or later i 0 ≤ 255
later-few u later i onto e b =
    let same : get_or later i 0 ≡ times (get_or u i 0) (drop (i + 1) u) = ap (λ (x : List ℕ). get_or x i 0) e ∙ later-at u i b in
    omega (arith, same, times-few (get_or u i 0) (drop (i + 1) u), length-drop (i + 1) u, onto.short)

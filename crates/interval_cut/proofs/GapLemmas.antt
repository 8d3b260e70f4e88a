-- The gaps of a cut are written one after the other, and their inversions counted.
use Rattle.std.proofs.{Common.{◌≡◌, ℕ, suc, ◌+◌, ◌-◌, ◌≤◌, ◌<◌, ◌≢◌, true, false, List, [], ◌∷◌, ◌++◌, take, drop, length, get_or, refl, sym, ◌∙◌, ap, ap₂, arith, subst, inl, inr, cond, eqb, length-append, length-drop, count_by, nat_lt, pos, eq-eqb, le-ltb, lt-ltb, ne_eqb, append-nil, append_assoc}, lemmas.Bool.cases_lt, lemmas.List.drop_more, lemmas.List.Sums.sum_by-cons}
use Rattle.signed_sum.{specs.Names.{count_before, inversion_count, rearrangement_sign, less, numbers_from, occurs, signed}, proofs.Names.{length-numbers_from, less-no, occurs-01, signed-parity, less-yes, numbers_from-append}}
use Rattle.operad_law.proofs.WordLemmas.{drop_rest}
use Rattle.surjection_law.specs.Names.{caesura_count, IsOnto}
use Rattle.interval_cut_law.{specs.Names.{IsCutFrom, cut_face, gap_symbols, gap_word, sign_exponent, starting_word}, proofs.GapWords.{sign-parity, sign_forms_agree}}
use Rattle.interval_cut.{specs.Names.{flat_faces, IsPartOfGaps}, proofs.FaceLemmas.faces_room}

-- ---- room: no face has more gaps than places

gaps_here : (k d j v : ℕ) (u : List ℕ) (a b : ℕ) (p : List ℕ) → k ≡ v
    → gap_symbols k d j (v ∷ u) a (b ∷ p) ≡ numbers_from (d + suc a) (b - a) ++ (numbers_from j (occurs v u) ++ gap_symbols k d (j + occurs v u) u b p)
gaps_here k d j v u a b p e =
    ap (λ t. cond t (numbers_from (d + suc a) (b - a) ++ (numbers_from j (occurs v u) ++ gap_symbols k d (j + occurs v u) u b p)) (gap_symbols k d (j + occurs v u) u b p)) (eq-eqb k v e)

gaps_other : (k d j v : ℕ) (u : List ℕ) (a b : ℕ) (p : List ℕ) → k ≢ v → gap_symbols k d j (v ∷ u) a (b ∷ p) ≡ gap_symbols k d (j + occurs v u) u b p
gaps_other k d j v u a b p n =
    ap (λ t. cond t (numbers_from (d + suc a) (b - a) ++ (numbers_from j (occurs v u) ++ gap_symbols k d (j + occurs v u) u b p)) (gap_symbols k d (j + occurs v u) u b p)) (ne_eqb k v n)

length_here : (d j v : ℕ) (u : List ℕ) (a b : ℕ) (rest : List ℕ) → length (numbers_from (d + suc a) (b - a) ++ (numbers_from j (occurs v u) ++ rest)) ≡ b - a + occurs v u + length rest
length_here d j v u a b rest =
    omega (
      arith,
      length-append (numbers_from (d + suc a) (b - a)) (numbers_from j (occurs v u) ++ rest),
      length-append (numbers_from j (occurs v u)) rest,
      length-numbers_from (d + suc a) (b - a),
      length-numbers_from j (occurs v u),
    )

gaps_short : (k d j : ℕ) (u : List ℕ) (a : ℕ) (p : List ℕ) → length (gap_symbols k d j u a p) ≤ length (cut_face k u a p)
gaps_short k d j [] a p = omega arith
gaps_short k d j (v ∷ u) a [] = omega arith
gaps_short k d j (v ∷ u) a (b ∷ p) =
    let rest = gaps_short k d (j + occurs v u) u b p in
    let l = length_here d j v u a b (gap_symbols k d (j + occurs v u) u b p) in
    let m = length-append (numbers_from a (suc (b - a))) (cut_face k u b p) in
    let n = length-numbers_from a (suc (b - a)) in
    let o : occurs v u ≤ 1 = elim (occurs-01 v u) [ inl e ↦ omega arith | inr e ↦ omega arith ] in
    elim (eqb k v) as (λ t. length (cond t (numbers_from (d + suc a) (b - a) ++ (numbers_from j (occurs v u) ++ gap_symbols k d (j + occurs v u) u b p)) (gap_symbols k d (j + occurs v u) u b p))
    ≤ length (cond t (numbers_from a (suc (b - a)) ++ cut_face k u b p) (cut_face k u b p))) [
      | true ↦ omega (arith, rest, l, m, n, o)
      | false ↦ rest
    ]

word_short : (ks u p : List ℕ) → length (gap_word ks u p) ≤ length (flat_faces ks u p)
word_short [] u p = omega arith
word_short (k ∷ ks) u p =
    omega (
      arith,
      gaps_short k (caesura_count u) 1 u 0 p,
      word_short ks u p,
      length-append (gap_symbols k (caesura_count u) 1 u 0 p) (gap_word ks u p),
      length-append (cut_face k u 0 p) (flat_faces ks u p),
    )

gap_word-append : (ks ls u p : List ℕ) → gap_word (ks ++ ls) u p ≡ gap_word ks u p ++ gap_word ls u p
gap_word-append [] ls u p = refl
gap_word-append (k ∷ ks) ls u p =
    ap (λ r. gap_symbols k (caesura_count u) 1 u 0 p ++ r) (gap_word-append ks ls u p) ∙ sym (append_assoc (gap_symbols k (caesura_count u) 1 u 0 p) (gap_word ks u p) (gap_word ls u p))

-- one more face
pub word_next : (k : ℕ) (u p : List ℕ) → gap_word (numbers_from 1 (k + 1)) u p ≡ gap_word (numbers_from 1 k) u p ++ gap_symbols (k + 1) (caesura_count u) 1 u 0 p
word_next k u p =
    let e : 1 + k ≡ k + 1 = omega arith in
    ap (λ ks. gap_word ks u p) (numbers_from-append 1 k 1 ∙ ap (λ x. numbers_from 1 k ++ (x ∷ [])) e)
    ∙ gap_word-append (numbers_from 1 k) ((k + 1) ∷ []) u p ∙ ap (λ r. gap_word (numbers_from 1 k) u p ++ r) (append-nil (gap_symbols (k + 1) (caesura_count u) 1 u 0 p))

pub word_room : (k : ℕ) (u inner : List ℕ) (top : ℕ) → IsCutFrom u 0 (inner ++ (top ∷ [])) → length u ≤ 255 → top ≤ 255 → length (gap_word (numbers_from 1 k) u (inner ++ (top ∷ []))) ≤ 510
word_room k u inner top c short low = omega (arith, word_short (numbers_from 1 k) u (inner ++ (top ∷ [])), faces_room k u inner top c)

-- ---- one face

module _ (k : ℕ) (u p : List ℕ) (at i a j next : ℕ) (old done : List ℕ) (h : IsPartOfGaps k u p at i a j next old done) (inside : i < length u) (inside_cut : i < length p) where
  split : drop i u ≡ get_or u i 0 ∷ drop (i + 1) u
  split = drop_more u i 0 inside

  cut_here : IsCutFrom (get_or u i 0 ∷ drop (i + 1) u) a (get_or p i 0 ∷ drop (i + 1) p)
  cut_here =
      subst (λ (x : List ℕ). IsCutFrom (get_or u i 0 ∷ drop (i + 1) u) a x) (drop_more p i 0 inside_cut)
      (subst (λ (x : List ℕ). IsCutFrom x a (drop i p)) split h.rest)

  pub gaps_order : a ≤ get_or p i 0
  gaps_order = cut_here.0

  gaps_next : gap_symbols k (caesura_count u) j (drop i u) a (drop i p) ≡ gap_symbols k (caesura_count u) j (get_or u i 0 ∷ drop (i + 1) u) a (get_or p i 0 ∷ drop (i + 1) p)
  gaps_next = ap₂ (λ (x y : List ℕ). gap_symbols k (caesura_count u) j x a y) split (drop_more p i 0 inside_cut)

  pub caesura_next : (s : ℕ) → s ≡ occurs (get_or u i 0) (drop (i + 1) u) → j + s + caesura_count (drop (i + 1) u) ≡ caesura_count u + 1
  caesura_next s e = omega (arith, e, h.caesura, ap caesura_count split)

  pub gaps_skip : get_or u i 0 ≢ k → (s : ℕ) → s ≡ occurs (get_or u i 0) (drop (i + 1) u) → IsPartOfGaps k u p at (i + 1) (get_or p i 0) (j + s) next old done
  gaps_skip n s e =
      let same : gap_symbols k (caesura_count u) j (drop i u) a (drop i p) ≡ gap_symbols k (caesura_count u) (j + s) (drop (i + 1) u) (get_or p i 0) (drop (i + 1) p) =
      gaps_next ∙ gaps_other k (caesura_count u) j (get_or u i 0) (drop (i + 1) u) a (get_or p i 0) (drop (i + 1) p) (λ q. n (sym q))
      ∙ ap (λ m. gap_symbols k (caesura_count u) (j + m) (drop (i + 1) u) (get_or p i 0) (drop (i + 1) p)) (sym e) in
      record {
        rest = cut_here.1;
        caesura = caesura_next s e;
        long = ap (λ r. next + length r) (sym same) ∙ h.long;
        written = ap (λ r. done ++ r) (sym same) ∙ h.written;
      }

  gaps_taken : get_or u i 0 ≡ k → (edges s : ℕ) → edges ≡ get_or p i 0 - a → s ≡ occurs (get_or u i 0) (drop (i + 1) u)
      → gap_symbols k (caesura_count u) j (drop i u) a (drop i p)
      ≡ (numbers_from (caesura_count u + a + 1) edges ++ numbers_from j s) ++ gap_symbols k (caesura_count u) (j + s) (drop (i + 1) u) (get_or p i 0) (drop (i + 1) p)
  gaps_taken q edges s ee es =
      let first : caesura_count u + suc a ≡ caesura_count u + a + 1 = omega arith in
      gaps_next ∙ gaps_here k (caesura_count u) j (get_or u i 0) (drop (i + 1) u) a (get_or p i 0) (drop (i + 1) p) (sym q)
      ∙ ap₂ (λ (m n : ℕ). numbers_from m n ++ (numbers_from j (occurs (get_or u i 0) (drop (i + 1) u)) ++ gap_symbols k (caesura_count u) (j + occurs (get_or u i 0) (drop (i + 1) u)) (drop (i + 1) u) (get_or p i 0) (drop (i + 1) p))) first (sym ee)
      ∙ ap (λ m. numbers_from (caesura_count u + a + 1) edges ++ (numbers_from j m ++ gap_symbols k (caesura_count u) (j + m) (drop (i + 1) u) (get_or p i 0) (drop (i + 1) p))) (sym es)
      ∙ sym (append_assoc (numbers_from (caesura_count u + a + 1) edges) (numbers_from j s) (gap_symbols k (caesura_count u) (j + s) (drop (i + 1) u) (get_or p i 0) (drop (i + 1) p)))

  taken_long : get_or u i 0 ≡ k → (edges s : ℕ) → edges ≡ get_or p i 0 - a → s ≡ occurs (get_or u i 0) (drop (i + 1) u)
      → length (gap_symbols k (caesura_count u) j (drop i u) a (drop i p)) ≡ edges + s + length (gap_symbols k (caesura_count u) (j + s) (drop (i + 1) u) (get_or p i 0) (drop (i + 1) p))
  taken_long q edges s ee es =
      omega (
        arith,
        ap length (gaps_taken q edges s ee es),
        length-append (numbers_from (caesura_count u + a + 1) edges ++ numbers_from j s) (gap_symbols k (caesura_count u) (j + s) (drop (i + 1) u) (get_or p i 0) (drop (i + 1) p)),
        length-append (numbers_from (caesura_count u + a + 1) edges) (numbers_from j s),
        length-numbers_from (caesura_count u + a + 1) edges,
        length-numbers_from j s,
      )

  pub gaps_room : get_or u i 0 ≡ k → (edges s size : ℕ) → edges ≡ get_or p i 0 - a → s ≡ occurs (get_or u i 0) (drop (i + 1) u)
      → at + length (gap_symbols k (caesura_count u) 1 u 0 p) ≤ size → next + (edges + s) ≤ size
  gaps_room q edges s size ee es r = omega (arith, taken_long q edges s ee es, h.long, r)

  pub gaps_write : get_or u i 0 ≡ k → (edges s after : ℕ) (new : List ℕ) → edges ≡ get_or p i 0 - a → s ≡ occurs (get_or u i 0) (drop (i + 1) u) → after ≡ next + (edges + s)
      → new ≡ done ++ (numbers_from (caesura_count u + a + 1) edges ++ numbers_from j s) → IsPartOfGaps k u p at (i + 1) (get_or p i 0) (j + s) after old new
  gaps_write q edges s after new ee es ea w =
      let rest : List ℕ = gap_symbols k (caesura_count u) (j + s) (drop (i + 1) u) (get_or p i 0) (drop (i + 1) p) in
      let here : List ℕ = numbers_from (caesura_count u + a + 1) edges ++ numbers_from j s in
      record {
        rest = cut_here.1;
        caesura = caesura_next s es;
        long = omega (arith, taken_long q edges s ee es, h.long, ea);
        written = ap (λ r. r ++ rest) w ∙ append_assoc done here rest ∙ ap (λ r. done ++ r) (sym (gaps_taken q edges s ee es)) ∙ h.written;
      }

-- ---- inversions

less-test : (y x : ℕ) → less y x ≡ cond {A = ℕ} (nat_lt y x) 1 0
less-test y x = elim (cases_lt y x) [
  | inl l ↦ less-yes y x l ∙ sym (ap (λ t. cond {A = ℕ} t 1 0) (lt-ltb y x l))
  | inr l ↦ less-no y x l ∙ sym (ap (λ t. cond {A = ℕ} t 1 0) (le-ltb y x l))
]

pub before_count : (x : ℕ) (w : List ℕ) → count_by (λ y. nat_lt y x) w ≡ count_before less x w
before_count x [] = refl
before_count x (y ∷ w) = sum_by-cons (λ z. cond (nat_lt z x) 1 0) y w ∙ ap₂ (λ m n. m + n) (sym (less-test y x)) (before_count x w)

-- one more symbol
pub inversions_step : (w : List ℕ) (i n m : ℕ) → i < length w → m ≡ count_by (λ y. nat_lt y (get_or w i 0)) (take (length w - (i + 1)) (drop (i + 1) w)) → n + inversion_count less (drop i w) ≡ inversion_count less w
    → n + m + inversion_count less (drop (i + 1) w) ≡ inversion_count less w
inversions_step w i n m h e k =
    let split = ap (inversion_count less) (drop_more w i 0 h) in
    let count : m ≡ count_before less (get_or w i 0) (drop (i + 1) w) = e ∙ ap (count_by (λ y. nat_lt y (get_or w i 0))) (drop_rest w (i + 1)) ∙ before_count (get_or w i 0) (drop (i + 1) w) in
    omega (arith, split, count, k)

pub later_short : (w : List ℕ) (i m : ℕ) → m ≤ length (take (length w - (i + 1)) (drop (i + 1) w)) → m ≤ length w
later_short w i m h = omega (arith, h, ap length (drop_rest w (i + 1)), length-drop (i + 1) w)

-- one more caesura
pub caesuras_step : (u : List ℕ) (i n m : ℕ) → i < length u → m ≡ occurs (get_or u i 0) (drop (i + 1) u) → n + caesura_count (drop i u) ≡ caesura_count u → n + m + caesura_count (drop (i + 1) u) ≡ caesura_count u
caesuras_step u i n m h e k = omega (arith, ap caesura_count (drop_more u i 0 h), e, k)

pub part_of_gaps_moved : (k : ℕ) (u p : List ℕ) (at i : ℕ) (old : List ℕ) (a b j n m : ℕ) (xs ys : List ℕ) → b ≡ a → m ≡ n → ys ≡ xs → IsPartOfGaps k u p at i a j n old (take n xs)
    → IsPartOfGaps k u p at i b j m old (take m ys)
part_of_gaps_moved k u p at i old a b j n m xs ys e f g h =
    subst (λ x. IsPartOfGaps k u p at i x j m old (take m ys)) (sym e) (subst (λ x. IsPartOfGaps k u p at i a j x old (take x ys)) (sym f) (subst (λ x. IsPartOfGaps k u p at i a j n old (take n x)) (sym g) h))

-- one more face
pub word_step : (u p : List ℕ) (k next after : ℕ) (old new : List ℕ) → next ≡ length (gap_word (numbers_from 1 k) u p) → take next old ≡ gap_word (numbers_from 1 k) u p
    → after ≡ next + length (gap_symbols (k + 1) (caesura_count u) 1 u 0 p) → take after new ≡ take next old ++ gap_symbols (k + 1) (caesura_count u) 1 u 0 p
    → (after ≡ length (gap_word (numbers_from 1 (k + 1)) u p)) × (take after new ≡ gap_word (numbers_from 1 (k + 1)) u p)
word_step u p k next after old new e f g h =
    let more = word_next k u p in (
      omega (arith, g, e, ap length more ∙ length-append (gap_word (numbers_from 1 k) u p) (gap_symbols (k + 1) (caesura_count u) 1 u 0 p)),
      h ∙ ap (λ r. r ++ gap_symbols (k + 1) (caesura_count u) 1 u 0 p) f ∙ sym more,
    )

pub step_room : (k : ℕ) (u inner : List ℕ) (top next size : ℕ) → IsCutFrom u 0 (inner ++ (top ∷ [])) → length u ≤ 255 → top ≤ 255 → 510 ≤ size → next ≡ length (gap_word (numbers_from 1 k) u (inner ++ (top ∷ [])))
    → next + length (gap_symbols (k + 1) (caesura_count u) 1 u 0 (inner ++ (top ∷ []))) ≤ size
step_room k u inner top next size c short low room e =
    let p : List ℕ = inner ++ (top ∷ []) in
    let all = word_room (k + 1) u inner top c short low in
    let more : length (gap_word (numbers_from 1 (k + 1)) u p) ≡ length (gap_word (numbers_from 1 k) u p) + length (gap_symbols (k + 1) (caesura_count u) 1 u 0 p) =
    ap length (word_next k u p) ∙ length-append (gap_word (numbers_from 1 k) u p) (gap_symbols (k + 1) (caesura_count u) 1 u 0 p) in
    omega (arith, all, more, e, room)

-- both forms of the sign
pub signs_agree : (r : ℕ) (u p : List ℕ) → IsOnto r u → IsCutFrom u 0 p → signed (inversion_count less (gap_word (numbers_from 1 r) u p)) (pos 1) ≡ signed (sign_exponent u 0 p) (pos 1)
signs_agree r u p onto c = sym (signed-parity (sign_exponent u 0 p) (inversion_count less (gap_word (numbers_from 1 r) u p)) (pos 1) (sign-parity r u p onto c))

pub word_rearranged : (r : ℕ) (u inner : List ℕ) (top n : ℕ) → top ≡ n → IsOnto r u → IsCutFrom u 0 (inner ++ (top ∷ []))
    → signed (sign_exponent u 0 (inner ++ (top ∷ []))) (pos 1) ≡ rearrangement_sign (gap_word (numbers_from 1 r) u (inner ++ (top ∷ []))) (starting_word u n)
word_rearranged r u inner top n e onto c =
    sign_forms_agree.sign r top u (inner ++ (top ∷ [])) onto (record { rising = c; inner = inner; last = refl })
    ∙ ap (λ m. rearrangement_sign (gap_word (numbers_from 1 r) u (inner ++ (top ∷ []))) (starting_word u m)) e

-- The words of the listed masks are an orbit table: the words of p letters are, up to their order, the two
-- constant words and the turns of the words of the masks.
use Rattle.std.{proofs.Common.{◌≡◌, ℕ, zero, suc, ◌*◌, ◌/◌, ◌&&◌, Bool, true, false, cond, List, [], ◌∷◌, ◌++◌, map, length, refl, sym, ◌∙◌, ap, arith, ℤ, ◌+ℤ◌, IsTrue}, specs.List.flat_map, proofs.lemmas.Bool.{and_parts, false≢true}, proofs.lemmas.Int.ints}
use Rattle.fp_field.{proofs.ServedLemmas.for_served, specs.Orbits.{orbit_masks, orbit_words}, specs.Served.served}
use Rattle.signed_sum.{specs.Names.{letters, signed, total}, proofs.Names.{total-append, total-map}}
use Rattle.steenrod_law.specs.Names.{OrbitWordsLaw, HaveLength, all_words, copies, norm, turn_back_power, word_degree}

-- equal words, and lists of words that are equal up to their order

abbrev is_word : List Bool → List Bool → Bool
is_word [] [] = true
is_word [] (m ∷ v) = false
is_word (l ∷ w) [] = false
is_word (true ∷ w) (true ∷ v) = is_word w v
is_word (true ∷ w) (false ∷ v) = false
is_word (false ∷ w) (true ∷ v) = false
is_word (false ∷ w) (false ∷ v) = is_word w v

is_word-same : (w v : List Bool) → is_word w v ≡ true → w ≡ v
is_word-same [] [] e = refl
is_word-same [] (m ∷ v) e = absurd (false≢true e)
is_word-same (l ∷ w) [] e = absurd (false≢true e)
is_word-same (true ∷ w) (true ∷ v) e = ap (λ u. true ∷ u) (is_word-same w v e)
is_word-same (true ∷ w) (false ∷ v) e = absurd (false≢true e)
is_word-same (false ∷ w) (true ∷ v) e = absurd (false≢true e)
is_word-same (false ∷ w) (false ∷ v) e = ap (λ u. false ∷ u) (is_word-same w v e)

abbrev has_word : List Bool → List (List Bool) → Bool
has_word w [] = false
has_word w (v ∷ vs) = cond (is_word w v) true (has_word w vs)

abbrev without_word : List Bool → List (List Bool) → List (List Bool)
without_word w [] = []
without_word w (v ∷ vs) = cond (is_word w v) vs (v ∷ without_word w vs)

abbrev are_words : List (List Bool) → List (List Bool) → Bool
are_words [] [] = true
are_words [] (v ∷ vs) = false
are_words (w ∷ ws) vs = has_word w vs && are_words ws (without_word w vs)

module _ (h : List Bool → ℤ) where
  total-without : (w : List Bool) (vs : List (List Bool)) → has_word w vs ≡ true → total h vs ≡ h w +ℤ total h (without_word w vs)
  total-without w [] e = absurd (false≢true e)
  total-without w (v ∷ vs) e = go (is_word w v) (is_word-same w v) (total-without w vs) e
    where
      go : (b : Bool) → (b ≡ true → w ≡ v) → (has_word w vs ≡ true → total h vs ≡ h w +ℤ total h (without_word w vs)) → cond b true (has_word w vs) ≡ true → h v +ℤ total h vs ≡ h w +ℤ total h (cond b vs (v ∷ without_word w vs))
      go true same ih e = ap (λ u. h u +ℤ total h vs) (sym (same refl))
      go false same ih e = let r = ih e in omega (arith, ints)

  total-words : (ws vs : List (List Bool)) → are_words ws vs ≡ true → total h ws ≡ total h vs
  total-words [] [] e = refl
  total-words [] (v ∷ vs) e = absurd (false≢true e)
  total-words (w ∷ ws) vs e =
      let both = and_parts (has_word w vs) (are_words ws (without_word w vs)) e in
      ap (λ z. h w +ℤ z) (total-words ws (without_word w vs) both.1) ∙ sym (total-without w vs both.0)

-- all words, and the turns of one, as lists

abbrev words : ℕ → List (List Bool)
words zero = [] ∷ []
words (suc k) = map (λ w. false ∷ w) (words k) ++ map (λ w. true ∷ w) (words k)

all_words-listed : (k : ℕ) (h : List Bool → ℤ) → all_words k h ≡ total h (words k)
all_words-listed zero h = omega (arith, ints)
all_words-listed (suc k) h =
    (λ i. all_words-listed k (λ w. h (false ∷ w)) i +ℤ all_words-listed k (λ w. h (true ∷ w)) i)
    ∙ sym (total-append h (map (λ w. false ∷ w) (words k)) (map (λ w. true ∷ w) (words k))
    ∙ (λ i. total-map h (λ w. false ∷ w) (words k) i +ℤ total-map h (λ w. true ∷ w) (words k) i))

abbrev first_last : List Bool → List Bool
first_last [] = []
first_last (l ∷ w) = w ++ (l ∷ [])

abbrev turned_word : ℕ → List Bool → List Bool
turned_word zero w = w
turned_word (suc k) w = turned_word k (first_last w)

abbrev turns : ℕ → List Bool → List (List Bool)
turns zero w = []
turns (suc k) w = turned_word k w ∷ turns k w

power-turned : (k : ℕ) (h : List Bool → ℤ) (w : List Bool) → turn_back_power (λ l. 0) k h w ≡ h (turned_word k w)
power-turned zero h w = refl
power-turned (suc k) h [] = power-turned k h []
power-turned (suc k) h (l ∷ w) =
    let none : 0 * word_degree (λ m. 0) w ≡ 0 = omega arith in
    ap (λ e. signed e (turn_back_power (λ m. 0) k h (w ++ (l ∷ [])))) none ∙ power-turned k h (w ++ (l ∷ []))

norm-turns : (k : ℕ) (h : List Bool → ℤ) (w : List Bool) → norm (λ l. 0) k h w ≡ total h (turns k w)
norm-turns zero h w = refl
norm-turns (suc k) h w = let a = norm-turns k h w in let b = power-turned k h w in omega (arith, ints)

norms-turns : (p : ℕ) (h : List Bool → ℤ) (ms : List (List Bool)) → total (norm (λ l. 0) p h) ms ≡ total h (flat_map (turns p) ms)
norms-turns p h [] = refl
norms-turns p h (w ∷ ms) = (λ i. norm-turns p h w i +ℤ norms-turns p h ms i) ∙ sym (total-append h (turns p w) (flat_map (turns p) ms))

-- the words of the masks

long : (p : ℕ) (masks : List ℕ) → HaveLength p (map (letters p) masks)
long p [] = tt
long p (mask ∷ masks) = (as_long p mask, long p masks)
  where
    as_long : (k m : ℕ) → length (letters k m) ≡ k
    as_long zero m = refl
    as_long (suc k) m = ap suc (as_long k (m / 2))

pub orbit_words_law : OrbitWordsLaw
orbit_words_law p h = record {
  long = long p (orbit_masks p);
  once = λ f. (
      let orbits : List (List Bool) = flat_map (turns p) (orbit_words p) in
      let a = all_words-listed p f in
      let b = total-words f (words p) (copies p false ∷ copies p true ∷ orbits) (all_reached p h) in
      let c = norms-turns p f (orbit_words p) in
      omega (arith, ints));
}
  where
    all_reached : (p : ℕ) → IsTrue (served p) → are_words (words p) (copies p false ∷ copies p true ∷ flat_map (turns p) (orbit_words p)) ≡ true
    all_reached p h = for_served (λ m. are_words (words m) (copies m false ∷ copies m true ∷ flat_map (turns m) (orbit_words m)) ≡ true) p refl refl refl h

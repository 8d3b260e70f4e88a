-- The sum over the cuts that begin with a list, while it is added up.
use Rattle.std.proofs.{Common.{◌≡◌, ℕ, zero, suc, ◌+◌, ◌-◌, ◌<◌, ◌≤◌, ◌^◌, true, false, cond, List, [], ◌∷◌, ◌++◌, length, map, take, refl, sym, ap, ◌∙◌, arith, append_assoc, append-nil, length-append, ℤ, ◌+ℤ◌, nat_lt, take_at}, lemmas.Int.ints, lemmas.Bool.Decides.nat_tests, lemmas.List.length-map}
use Rattle.signed_sum.{specs.Names.{normalized, value_at, weight_of}, proofs.Names.value_at-append}
use Rattle.interval_cut_law.specs.Names.{rising_lists}
use Rattle.surjection.specs.Names.{marked_term, terms_behind, AddsTerms, Mark}
use Rattle.composition_law.specs.Surjections.{IsRising}

pub rising-weaker : (a m n : ℕ) (p : List ℕ) → IsRising a p m → m ≤ n → IsRising a p n
rising-weaker a m n [] r h = omega (arith, r)
rising-weaker a m n (b ∷ p) r h = (r.0, rising-weaker b m n p r.1 h)

pub rising-push : (a m b : ℕ) (p : List ℕ) → IsRising a p m → m ≤ b → IsRising a (p ++ b ∷ []) b
rising-push a m b [] r h = let k : b ≤ b = omega arith in (omega (arith, r), k)
rising-push a m b (c ∷ p) r h = (r.0, rising-push c m b p r.1 h)

-- the last place is taken away again
pub popped : (cut full rest : List ℕ) (b : ℕ) → full ≡ cut ++ b ∷ [] → rest ≡ take (length full - 1) full → rest ≡ cut
popped cut full rest b e t =
    let l : length (cut ++ b ∷ []) - 1 ≡ length cut = omega (arith, length-append cut (b ∷ [])) in
    t ∙ ap (λ f. take (length f - 1) f) e ∙ ap (λ n. take n (cut ++ b ∷ [])) l ∙ take_at cut (b ∷ []) (length cut) refl

-- the lists of k places from a to n, where a is not past it, and none past it
abbrev pub lists_from : ℕ → ℕ → ℕ → List (List ℕ)
lists_from a n k = cond (nat_lt n a) [] (rising_lists a (n - a) k)

lists_from-past : (a n k : ℕ) → n < a → lists_from a n k ≡ []
lists_from-past a n k h = let e : nat_lt n a ≡ true = grind (arith, nat_tests) in ap (λ b. cond b [] (rising_lists a (n - a) k)) e

pub lists_from-is : (a n k : ℕ) → a ≤ n → lists_from a n k ≡ rising_lists a (n - a) k
lists_from-is a n k h = let e : nat_lt n a ≡ false = grind (arith, nat_tests) in ap (λ b. cond b [] (rising_lists a (n - a) k)) e

first_lists : (a e n k : ℕ) → a + e ≡ n → rising_lists a e (suc k) ≡ map (λ p. a ∷ p) (rising_lists a e k) ++ lists_from (suc a) n (suc k)
first_lists a zero n k q = sym (ap (λ r. map (λ p. a ∷ p) (rising_lists a zero k) ++ r) (lists_from-past (suc a) n (suc k) (omega arith)) ∙ append-nil (map (λ p. a ∷ p) (rising_lists a zero k)))
first_lists a (suc e) n k q =
    let d : n - suc a ≡ e = omega arith in
    sym (ap (λ r. map (λ p. a ∷ p) (rising_lists a (suc e) k) ++ r) (lists_from-is (suc a) n (suc k) (omega arith) ∙ ap (λ e. rising_lists (suc a) e (suc k)) d))

pub lists_from-step : (a n k : ℕ) → a ≤ n → lists_from a n (suc k) ≡ map (λ p. a ∷ p) (rising_lists a (n - a) k) ++ lists_from (suc a) n (suc k)
lists_from-step a n k h = lists_from-is a n (suc k) h ∙ first_lists a (n - a) n k (omega arith)

module _ (k : ℕ) (outer inner : List (ℕ × Mark)) where
  terms-append : (cut : List ℕ) (ps qs : List (List ℕ)) → terms_behind k outer inner cut (ps ++ qs) ≡ terms_behind k outer inner cut ps ++ terms_behind k outer inner cut qs
  terms-append cut [] qs = refl
  terms-append cut (p ∷ ps) qs = ap (λ r. marked_term k outer inner (cut ++ p) ∷ r) (terms-append cut ps qs)

  terms-behind : (cut : List ℕ) (a : ℕ) (ps : List (List ℕ)) → terms_behind k outer inner cut (map (λ p. a ∷ p) ps) ≡ terms_behind k outer inner (cut ++ a ∷ []) ps
  terms-behind cut a [] = refl
  terms-behind cut a (p ∷ ps) = λ i. marked_term k outer inner (sym (append_assoc cut (a ∷ []) p) i) ∷ terms-behind cut a ps i

-- where the places from `from` up to `place` have been first, the terms of the others are to come
pub record IsPartOfSum (k : ℕ) (outer inner : List (ℕ × Mark)) (cut : List ℕ) (from place left : ℕ) (old sum : List (List ℕ × ℤ)) : Type 0 where
  pub sums : (phi : List ℕ → ℤ) → value_at phi sum +ℤ value_at (normalized phi) (terms_behind k outer inner cut (lists_from place (length inner - 1) left)) ≡ value_at (normalized phi) (terms_behind k outer inner cut (rising_lists from (length inner - 1 - from) left)) +ℤ value_at phi old
  pub grows : weight_of sum + length (lists_from place (length inner - 1) left) ≤ length (rising_lists from (length inner - 1 - from) left) + weight_of old

module _ (k : ℕ) (outer inner : List (ℕ × Mark)) (cut : List ℕ) (from left : ℕ) (old : List (List ℕ × ℤ)) where
  pub part-end : (place : ℕ) (sum : List (List ℕ × ℤ)) → length inner ≤ place → 1 ≤ length inner → IsPartOfSum k outer inner cut from place left old sum → AddsTerms (terms_behind k outer inner cut (rising_lists from (length inner - 1 - from) left)) old sum
  part-end place sum h s w =
      let e = lists_from-past place (length inner - 1) left (omega arith) in
      record {
        sums = λ phi. let q = ap (λ ps. value_at (normalized phi) (terms_behind k outer inner cut ps)) e in let r = w.sums phi in omega (arith, ints, q, r);
        grows =
            let q = ap length e in
            let r = w.grows in
            let l : length (terms_behind k outer inner cut (rising_lists from (length inner - 1 - from) left)) ≡ length (rising_lists from (length inner - 1 - from) left) = length-map (rising_lists from (length inner - 1 - from) left) (λ p. marked_term k outer inner (cut ++ p)) in
            omega (arith, q, r, l);
      }

  next_lists : (place m : ℕ) → place < length inner → left ≡ suc m → lists_from place (length inner - 1) left ≡ map (λ p. place ∷ p) (rising_lists place (length inner - 1 - place) m) ++ lists_from (place + 1) (length inner - 1) left
  next_lists place m h e =
      let p : suc place ≡ place + 1 = omega arith in
      ap (lists_from place (length inner - 1)) e ∙ lists_from-step place (length inner - 1) m (omega arith)
      ∙ (λ i. map (λ p. place ∷ p) (rising_lists place (length inner - 1 - place) m) ++ lists_from (p i) (length inner - 1) (sym e i))

  -- there is room for the next terms
  pub part-room : (place m : ℕ) (sum : List (List ℕ × ℤ)) → place < length inner → left ≡ suc m → weight_of old + length (rising_lists from (length inner - 1 - from) left) ≤ 10 ^ 18 → IsPartOfSum k outer inner cut from place left old sum
      → weight_of sum + length (rising_lists place (length inner - 1 - place) m) ≤ 10 ^ 18
  part-room place m sum h e f w =
      let s = ap length (next_lists place m h e) ∙ length-append (map (λ p. place ∷ p) (rising_lists place (length inner - 1 - place) m)) (lists_from (place + 1) (length inner - 1) left) in
      let g = w.grows in
      omega (arith, s, length-map (rising_lists place (length inner - 1 - place) m) (λ p. place ∷ p))

  pub part-next : (place m : ℕ) (sum new : List (List ℕ × ℤ)) → place < length inner → left ≡ suc m → IsPartOfSum k outer inner cut from place left old sum
      → AddsTerms (terms_behind k outer inner (cut ++ place ∷ []) (rising_lists place (length inner - 1 - place) m)) sum new → IsPartOfSum k outer inner cut from (place + 1) left old new
  part-next place m sum new h e w a =
      let ps = rising_lists place (length inner - 1 - place) m in
      let qs = lists_from (place + 1) (length inner - 1) left in
      record {
        sums = λ phi.
            let l : value_at (normalized phi) (terms_behind k outer inner cut (lists_from place (length inner - 1) left))
            ≡ value_at (normalized phi) (terms_behind k outer inner (cut ++ place ∷ []) ps) +ℤ value_at (normalized phi) (terms_behind k outer inner cut qs)
            = ap (λ r. value_at (normalized phi) (terms_behind k outer inner cut r)) (next_lists place m h e)
            ∙ ap (value_at (normalized phi)) (terms-append k outer inner cut (map (λ p. place ∷ p) ps) qs)
            ∙ value_at-append (normalized phi) (terms_behind k outer inner cut (map (λ p. place ∷ p) ps)) (terms_behind k outer inner cut qs)
            ∙ ap (λ r. value_at (normalized phi) r +ℤ value_at (normalized phi) (terms_behind k outer inner cut qs)) (terms-behind k outer inner cut place ps) in
            let r = w.sums phi in
            let t = a.sums phi in
            omega (arith, ints, l, r, t);
        grows =
            let s = ap length (next_lists place m h e) ∙ length-append (map (λ p. place ∷ p) ps) qs in
            let g = w.grows in
            let t = a.grows in
            omega (arith, s, g, t, length-map ps (λ p. place ∷ p), length-map ps (λ p. marked_term k outer inner ((cut ++ place ∷ []) ++ p)));
      }

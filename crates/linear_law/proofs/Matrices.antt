-- Coordinates of combinations, by a matrix.
use Rattle.std.proofs.Common.{◌≡◌, ℕ, zero, suc, ◌+◌, ◌*◌, ◌-◌, ◌<◌, List, [], ◌∷◌, length, refl, sym, ◌∙◌, ap, ap₂, arith, mod-lt}
use Rattle.std.specs.List.{AllZip}
use Rattle.linear_law.specs.Names.{Congruent, negated, Each, copies, IsCoordinates, matrix_times, plus_scaled, AgreesOn, IsSubspace, combination}
use Rattle.linear_law.proofs.CongruenceLemmas.{Congruent_add, Congruent_from, Congruent_mod, Congruent_mul, Congruent_of, Congruent_refl, Congruent_scale, Congruent_sym, Congruent_trans, add-negated}

pub length-copies : {A : Type 0} (k : ℕ) (a : A) → length (copies k a) ≡ k
length-copies zero a = refl
length-copies (suc k) a = ap suc (length-copies k a)

pub copies-small : (p h : ℕ) → 1 < p → Each (λ c. c < p) (copies h 0)
copies-small p zero large = tt
copies-small p (suc h) large = (omega arith, copies-small p h large)

pub plus_scaled-length : (p c : ℕ) (xs ys : List ℕ) → length xs ≡ length ys → length (plus_scaled p c xs ys) ≡ length ys
plus_scaled-length p c [] ys e = e
plus_scaled-length p c (x ∷ xs) [] e = absurd (omega (arith, e))
plus_scaled-length p c (x ∷ xs) (y ∷ ys) e = ap suc (plus_scaled-length p c xs ys (omega (arith, e)))

pub plus_scaled-small : (p c : ℕ) (xs ys : List ℕ) → 1 < p → Each (λ c. c < p) (plus_scaled p c xs ys)
plus_scaled-small p c [] ys large = tt
plus_scaled-small p c (x ∷ xs) [] large = tt
plus_scaled-small p c (x ∷ xs) (y ∷ ys) large = (mod-lt (c * x + y) (omega arith), plus_scaled-small p c xs ys large)

module _ {X : Type 0} (p : ℕ) (large : 1 < p) where
  pub combination-nothing : (h : ℕ) (ws : List (X → ℕ)) (x : X) → combination (copies h 0) ws x ≡ 0
  combination-nothing zero ws x = refl
  combination-nothing (suc h) [] x = refl
  combination-nothing (suc h) (w ∷ ws) x = let e = combination-nothing h ws x in omega arith

  combination-none : (cs : List ℕ) (x : X) → combination {X = X} cs [] x ≡ 0
  combination-none [] x = refl
  combination-none (c ∷ cs) x = refl

  combination-plus : (c : ℕ) (xs ys : List ℕ) (ws : List (X → ℕ)) (s : X) → length xs ≡ length ys →
      Congruent p (combination (plus_scaled p c xs ys) ws s) (c * combination xs ws s + combination ys ws s)
  combination-plus c [] [] ws s e = Congruent_of (omega arith)
  combination-plus c [] (y ∷ ys) ws s e = absurd (omega (arith, e))
  combination-plus c (x ∷ xs) [] ws s e = absurd (omega (arith, e))
  combination-plus c (x ∷ xs) (y ∷ ys) [] s e = Congruent_of (omega arith)
  combination-plus c (x ∷ xs) (y ∷ ys) (w ∷ ws) s e =
      Congruent_trans (Congruent_add (Congruent_mul (Congruent_mod p (c * x + y)) (Congruent_refl (w s))) (combination-plus c xs ys ws s (omega (arith, e))))
      (Congruent_of (omega arith))

  module _ {On : X → Type 0} {B : (X → ℕ) → Type 0} (space : IsSubspace p On B) where
    -- what differs by a bound has the same coordinates
    pub coordinates-apart : (ws : List (X → ℕ)) (v w : X → ℕ) (cs : List ℕ) → B (λ x. v x + negated p (w x)) → IsCoordinates p B ws w cs → IsCoordinates p B ws v cs
    coordinates-apart ws v w cs h k = record {
      count = k.count;
      small = k.small;
      rest = (let c = combination cs ws in
          space.alike (λ x. v x + negated p (c x)) (λ x. (v x + negated p (w x)) + 1 * (w x + negated p (c x)))
          (record { at = λ x on. Congruent_sym (Congruent_from (add-negated p (w x) large) (omega arith)) })
          (space.plus 1 (λ x. v x + negated p (w x)) (λ x. w x + negated p (c x)) h k.rest));
    }

    pub coordinates-alike : (ws : List (X → ℕ)) (v w : X → ℕ) (cs : List ℕ) → AgreesOn p On v w → IsCoordinates p B ws w cs → IsCoordinates p B ws v cs
    coordinates-alike ws v w cs e k = record {
      count = k.count;
      small = k.small;
      rest = space.alike (λ x. v x + negated p (combination cs ws x)) (λ x. w x + negated p (combination cs ws x))
          (record { at = λ x on. Congruent_add (e.at x on) (Congruent_refl (negated p (combination cs ws x))) }) k.rest;
    }

    -- the matrix of the coordinates of vectors gives the coordinates of their combinations
    pub columns-combined : (ws Fs : List (X → ℕ)) (columns : List (List ℕ)) (cs : List ℕ) → length cs ≡ length Fs
        → AllZip (λ column F. IsCoordinates p B ws F column) columns Fs → IsCoordinates p B ws (combination cs Fs) (matrix_times p (length ws) columns cs)
    columns-combined ws [] [] cs e h = record {
      count = length-copies (length ws) 0;
      small = copies-small p (length ws) large;
      rest = space.alike (λ s. combination {X = X} cs [] s + negated p (combination (copies (length ws) 0) ws s)) (λ s. 0)
          (record { at = λ s on. Congruent_of (ap₂ (λ a b. a + (p - 1) * b) (combination-none cs s) (combination-nothing (length ws) ws s) ∙ omega arith) }) space.zero_in;
    }
    columns-combined ws [] (A ∷ columns) cs e h = absurd h
    columns-combined ws (F ∷ Fs) [] cs e h = absurd h
    columns-combined ws (F ∷ Fs) (A ∷ columns) [] e h = absurd (omega (arith, e))
    columns-combined ws (F ∷ Fs) (A ∷ columns) (x ∷ cs) e h =
        let R : List ℕ = matrix_times p (length ws) columns cs in
        let k = columns-combined ws Fs columns cs (omega (arith, e)) h.1 in
        let l : length A ≡ length R = h.0.count ∙ sym k.count in
        record {
          count = plus_scaled-length p x A R l ∙ k.count;
          small = plus_scaled-small p x A R large;
          rest = space.alike (λ s. (x * F s + combination cs Fs s) + negated p (combination (plus_scaled p x A R) ws s))
              (λ s. (combination cs Fs s + negated p (combination R ws s)) + x * (F s + negated p (combination A ws s)))
              (record { at = λ s on. Congruent_trans (Congruent_add (Congruent_refl (x * F s + combination cs Fs s)) (Congruent_scale (p - 1) (combination-plus x A R ws s l))) (Congruent_of (omega arith)) })
              (space.plus x (λ s. combination cs Fs s + negated p (combination R ws s)) (λ s. F s + negated p (combination A ws s)) k.rest h.0.rest);
        }

    -- and of what differs from a combination by a bound
    pub from_columns : (ws Fs : List (X → ℕ)) (columns : List (List ℕ)) (cs : List ℕ) (F : X → ℕ) → length cs ≡ length Fs
        → AllZip (λ column F. IsCoordinates p B ws F column) columns Fs → B (λ s. F s + negated p (combination cs Fs s))
        → IsCoordinates p B ws F (matrix_times p (length ws) columns cs)
    from_columns ws Fs columns cs F e h b = coordinates-apart ws F (combination cs Fs) (matrix_times p (length ws) columns cs) b (columns-combined ws Fs columns cs e h)

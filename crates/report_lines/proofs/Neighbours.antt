-- A test of each item and the next, by a recursion from the front.
use Rattle.std.{proofs.Common.{◌≡◌, ◌∙◌, ℕ, zero, suc, ◌+◌, ◌<◌, Bool, true, false, ◌&&◌, List, [], ◌∷◌, length, get_or, refl, ap, sym, subst, arith, nat_lt}, specs.List.IsAllAdjacentAnswer, specs.Ordering.is_lt, proofs.lemmas.Bool.and_from, proofs.Math.Bool.and-false}
use Rattle.simplicial_law.specs.Names.{simplex_cmp}
use Rattle.report_text_law.specs.Names.{ascends, terms_ascend}

shifted : (k : ℕ) → suc k + 1 ≡ suc (k + 1)
shifted k = omega arith

-- g is true of a list exactly if e is true of each item and the next
module _ {X : Type 0} (e : X → X → Bool) (g : List X → Bool) (none : g [] ≡ true) (one : (x : X) → g (x ∷ []) ≡ true)
    (two : (x y : X) (ys : List X) → g (x ∷ y ∷ ys) ≡ (e x y && g (y ∷ ys))) where
  -- the answer at an item and the next is b
  abbrev Answers : List X → Bool → ℕ → Type 0
  Answers xs b k = (d : X) → b ≡ e (get_or xs k d) (get_or xs (k + 1) d)

  behind : (x : X) (xs : List X) (b : Bool) (k : ℕ) → Answers (x ∷ xs) b (suc k) → Answers xs b k
  behind x xs b k h = λ d. subst (λ (m : ℕ). b ≡ e (get_or xs k d) (get_or (x ∷ xs) m d)) (shifted k) (h d)

  each : (xs : List X) → ((k : ℕ) → k + 1 < length xs → Answers xs true k) → true ≡ g xs
  each [] h = sym none
  each (x ∷ []) h = sym (one x)
  each (x ∷ y ∷ ys) h =
      let rest : true ≡ g (y ∷ ys) = each (y ∷ ys) (λ k lt. behind x (y ∷ ys) true k (h (suc k) (omega arith))) in
      sym (two x y ys ∙ and_from (e x y) (g (y ∷ ys)) (sym (h 0 (omega arith) x)) (sym rest))

  fails : (xs : List X) (k : ℕ) → k + 1 < length xs → Answers xs false k → false ≡ g xs
  fails [] k lt h = absurd (omega arith)
  fails (x ∷ []) k lt h = absurd (omega arith)
  fails (x ∷ y ∷ ys) zero lt h = sym (two x y ys ∙ ap (λ (b : Bool). b && g (y ∷ ys)) (sym (h x)))
  fails (x ∷ y ∷ ys) (suc k) lt h =
      let rest : false ≡ g (y ∷ ys) = fails (y ∷ ys) k (omega arith) (behind x (y ∷ ys) false k h) in
      sym (two x y ys ∙ ap (λ (b : Bool). e x y && b) (sym rest) ∙ and-false (e x y))

  pub neighbours : (xs : List X) (r : Bool) → IsAllAdjacentAnswer (λ x y b. b ≡ e x y) xs r → r ≡ g xs
  neighbours xs true h = each xs (λ k lt d. h k d lt)
  neighbours xs false h = fails xs h.0 h.1 h.2

pub ascends_tested : (vs : List ℕ) (r : Bool) → IsAllAdjacentAnswer (λ v w b. b ≡ nat_lt v w) vs r → r ≡ ascends vs
ascends_tested = neighbours nat_lt ascends refl (λ v. refl) (λ v w ws. refl)

pub terms_tested : (ts : List (ℕ × List ℕ)) (r : Bool) → IsAllAdjacentAnswer (λ t u b. b ≡ is_lt (simplex_cmp t.1 u.1)) ts r → r ≡ terms_ascend ts
terms_tested = neighbours (λ t u. is_lt (simplex_cmp t.1 u.1)) terms_ascend refl (λ t. refl) (λ t u us. refl)

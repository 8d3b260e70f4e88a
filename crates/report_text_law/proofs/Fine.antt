-- Each line that was taken is well formed.
use Rattle.std.{proofs.Common.{◌≡◌, ◌∙◌, ℕ, Bool, true, List, [], ◌∷◌, ◌++◌, ap, refl, sym, subst, Some}, specs.List.list_all, proofs.lemmas.Bool.and_from, proofs.lemmas.List.Folds.list_all-append}
use Rattle.fp_field.specs.Served.{served}
use Rattle.report_text_law.{specs.Names.{is_line, heading_line, prime_line, State, AtStart, AtPrime, move, prime_of, step, Line}, proofs.Written.{written, move_law, some_same, guard_some}}

-- the prime in the second line
abbrev prime_in : List Line → ℕ
prime_in (l ∷ prime_line p ∷ ls) = p
prime_in _ = 0

prime_written : (s : State) → prime_in (written s) ≡ prime_of s
prime_written AtStart = refl
prime_written _ = refl

-- two lines stand before others
abbrev pub HasPrime : List Line → Type 0
HasPrime (l ∷ k ∷ ls) = Unit {0}
HasPrime _ = ⊥

prime_kept : (ls ms : List Line) → HasPrime ls → HasPrime (ls ++ ms) × (prime_in (ls ++ ms) ≡ prime_in ls)
prime_kept (l ∷ prime_line p ∷ ls) ms h = (tt, refl)
prime_kept (l ∷ k ∷ ls) ms h = (tt, refl)
prime_kept _ ms h = absurd h

-- a line behind the line `prime P` keeps the prime
pub stays : (s : State) (l : Line) (t : State) → HasPrime (written s) → move s l ≡ Some t → HasPrime (written t) × (prime_of t ≡ prime_of s)
stays s l t h e =
    let more = move_law s l t e in
    let kept = prime_kept (written s) (l ∷ []) h in
    (subst HasPrime (sym more) kept.0, sym (prime_written t) ∙ ap prime_in more ∙ kept.1 ∙ prime_written s)

-- ---- what was written is well formed

abbrev pub IsFine : State → Type 0
IsFine s = list_all (is_line (prime_of s)) (written s) ≡ true

later_fine : (s : State) (l : Line) (t : State) → HasPrime (written s) → step s l ≡ Some t → IsFine s → IsFine t
later_fine s l t h e fine =
    let g = guard_some (is_line (prime_of s) l) (move s l) t e in
    let test : Line → Bool = is_line (prime_of s) in
    let both : list_all test (written s ++ l ∷ []) ≡ true = list_all-append test (written s) (l ∷ []) ∙ and_from (list_all test (written s)) (list_all test (l ∷ [])) fine (and_from (test l) true g.0 refl) in
    subst (λ (q : ℕ). list_all (is_line q) (written t) ≡ true) (sym (stays s l t h g.1).1) (subst (λ (ls : List Line). list_all test ls ≡ true) (sym (move_law s l t g.1)) both)

start_fine : (l : Line) (t : State) → move AtStart l ≡ Some t → IsFine t
start_fine heading_line t e = subst IsFine (some_same e) refl
start_fine _ t e = cc

prime_fine : (l : Line) (t : State) → is_line 0 l ≡ true → move AtPrime l ≡ Some t → IsFine t
prime_fine (prime_line p) t h e = subst IsFine (some_same e) (and_from (served p) true h refl)
prime_fine _ t h e = cc

pub fine_law : (s : State) (l : Line) (t : State) → step s l ≡ Some t → IsFine s → IsFine t
fine_law AtStart l t e h = start_fine l t (guard_some (is_line 0 l) (move AtStart l) t e).1
fine_law AtPrime l t e h = let g = guard_some (is_line 0 l) (move AtPrime l) t e in prime_fine l t g.0 g.1
fine_law s l t e h = later_fine s l t tt e h

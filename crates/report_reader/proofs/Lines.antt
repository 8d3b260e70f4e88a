-- A line that is well formed at the prime, and the step of the machine.
use Rattle.std.{proofs.Common.{◌≡◌, ◌∙◌, ℕ, ◌+◌, ◌<◌, ◌≤◌, Bool, true, false, List, [], ◌∷◌, length, ap, cond, refl, sym, subst, arith, Some, None, Err, OnSome, ◌-◌, ◌^◌, ◌==◌}, specs.declared.option.Option.Option, specs.List.onto_first, proofs.lemmas.List.Splits.length-slice_split}
use Rattle.report.specs.declared.map.MapPart.{MapPart}
use Rattle.report_text_law.specs.{Names.{after, line_at, or_refused, read_from, pieces, ◌>>=◌, move, prime_of, step, is_line}, declared.state.Finding.Finding, declared.state.State.State, declared.state.State.TheVariants.Finished, declared.line.Line.Line}
use Rattle.report_reader.specs.Names.{Follows, HasRoom, Place, is_finished, is_there, line_for, if_line}

pub line_kept : (prime : ℕ) (bytes : List ℕ) (l : Line) (b : Bool) → Some l ≡ line_at bytes → is_line prime l ≡ b → cond b (Some l) None ≡ line_for prime bytes
line_kept prime bytes l b e w = sym (ap (λ t. cond t (Some l) None) w) ∙ ap (λ (o : Option Line). o >>= if_line prime) e

same_step : (prime : ℕ) (s : State) (o : Option Line) → prime_of s ≡ prime → ((o >>= if_line prime) >>= move s) ≡ (o >>= step s)
same_step prime s None e = refl
same_step prime s (Some l) e = subst (λ (p : ℕ). (if_line p l >>= move s) ≡ step s l) e (go (is_line (prime_of s) l))
  where
    go : (b : Bool) → (cond b (Some l) None >>= move s) ≡ cond b (move s l) None
    go true = refl
    go false = refl

one_more : (n : ℕ) (s : State) (b : List ℕ) (ps : List (List ℕ)) → 0 < length ps → read_from n s (b ∷ ps) ≡ or_refused n (after s b) (λ t. read_from (n + 1) t ps)
one_more n s b [] h = absurd (omega (arith, h))
one_more n s b (c ∷ ps) h = refl

last_piece : (n : ℕ) (s : State) (b : List ℕ) → is_finished s ≡ false → read_from n s (b ∷ []) ≡ Err n
last_piece n (Finished f ms) b e = cc
last_piece n _ b e = refl

at_most_one : (o : Option Line) → is_there o ≤ 1
at_most_one None = omega arith
at_most_one (Some l) = omega arith

-- the next line is there
pub follows_some : (prime n : ℕ) (text b rest : List ℕ) (l : Option Line) → (pieces text ≡ b ∷ pieces rest) × (length rest < length text) → l ≡ line_for prime b
    → Follows prime (record { number = n; line = None; text = text }) (record { number = n + 1; line = l; text = rest })
follows_some prime n text b rest l e is = record {
  same = λ s on.
      ap (read_from (n + 1) s) e.0
      ∙ one_more (n + 1) s b (pieces rest) (omega (arith, length-slice_split (λ (c : ℕ). c == 10) rest))
      ∙ ap (λ (o : Option State). or_refused (n + 1) o (λ t. read_from (n + 1 + 1) t (pieces rest))) (sym (same_step prime s (line_at b) on.at_prime) ∙ ap (λ (o : Option Line). o >>= move s) (sym is));
  less = omega (arith, e.1, at_most_one l);
}

-- or it lacks its end
pub follows_none : (prime n : ℕ) (text : List ℕ) → pieces text ≡ text ∷ [] → Follows prime (record { number = n; line = None; text = text }) (record { number = n + 1; line = None; text = text })
follows_none prime n text e = record {
  same = λ s on. ap (read_from (n + 1) s) e ∙ last_piece (n + 1) s text on.unfinished;
  less = omega arith;
}

-- the line itself is of no account
pub follows_line : (prime n : ℕ) (l : Option Line) (text : List ℕ) (old new : Place) → record { number = n; line = l; text = text } ≡ old
    → Follows prime (record { number = n; line = None; text = text }) new → Follows prime old new
follows_line prime n l text old new e f = subst (λ (p : Place). Follows prime p new) e (record { same = f.same; less = f.less })

-- there is a number for the line after the next, if there is a next
pub room_on : (prime n : ℕ) (l : Option Line) (text rest : List ℕ) (old : Place) → record { number = n; line = l; text = text } ≡ old → HasRoom old
    → (line : Option Line) → Follows prime (record { number = n; line = None; text = text }) (record { number = n + 1; line = line; text = rest }) → OnSome line (n + 1 + length rest < 2 ^ 64 - 1)
room_on prime n l text rest old e room None f = tt
room_on prime n l text rest old e room (Some m) f =
    let r : n + length text < 2 ^ 64 - 1 = subst HasRoom (sym e) room in
    omega (arith, r, f.less)

-- behind the last line stands nothing
no_step : (f : Finding) (ms : List MapPart) (o : Option Line) → (o >>= step (Finished f ms)) ≡ None
no_step f ms None = refl
no_step f ms (Some l) = go (is_line f.prime l)
  where
    go : (b : Bool) → cond b (move (Finished f ms) l) None ≡ None
    go true = refl
    go false = refl

no_piece : (n : ℕ) (f : Finding) (ms : List MapPart) (b : ℕ) (ps : List (List ℕ)) → read_from n (Finished f ms) (onto_first b ps) ≡ Err n
no_piece n f ms b [] = refl
no_piece n f ms b (p ∷ []) = refl
no_piece n f ms b (p ∷ c ∷ more) = ap (λ (o : Option State). or_refused n o (λ t. read_from (n + 1) t (c ∷ more))) (no_step f ms (line_at (b ∷ p)))

pub nothing_behind : (n : ℕ) (f : Finding) (ms : List MapPart) (text : List ℕ) → 0 < length text → read_from n (Finished f ms) (pieces text) ≡ Err n
nothing_behind n f ms [] some = absurd (omega (arith, some))
nothing_behind n f ms (b ∷ bs) some = go (b == 10)
  where
    go : (t : Bool) → read_from n (Finished f ms) (cond t ([] ∷ pieces bs) (onto_first b (pieces bs))) ≡ Err n
    go true =
        one_more n (Finished f ms) [] (pieces bs) (omega (arith, length-slice_split (λ (c : ℕ). c == 10) bs))
        ∙ ap (λ (o : Option State). or_refused n o (λ t. read_from (n + 1) t (pieces bs))) (no_step f ms (line_at []))
    go false = no_piece n f ms b (pieces bs)

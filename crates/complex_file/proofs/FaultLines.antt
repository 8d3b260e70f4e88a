-- Where the first fault of a text stands.
use Rattle.std.{proofs.Common.{◌≡◌, ◌∙◌, ◌+◌, ◌⊎◌, inl, inr, List, [], ◌∷◌, ℕ, Bool, true, false, cond, refl, sym, ap, subst, arith, length, nat_lt, Ok, Err, Result, count_by, ltb-true}, specs.Result.result_err}
use Rattle.complex_file.{specs.Names.{InputKind, TooLong, Unfinished, is_line_end, lines, Fault, Place, Spelled, at_end, at_line, at_start, between, lines_spell, place_after, ◌>>=◌, IsLong, IsOnLine, IsUnfinished, ReadsTo}, specs.Input.{after_line, input_of}, proofs.FaultTable.line_table}

-- what reading lines gives: a fault on one of them, or the place that they lead to
abbrev Reads : ℕ → Place → List (List ℕ) → Result Place Fault → Type 0
Reads n p ls (Ok q) = ReadsTo p ls q
Reads n p ls (Err f) = IsOnLine n p ls f

-- the same with one line more in front
line_first : (n : ℕ) (p q : Place) (l : List ℕ) (ls : List (List ℕ)) (r : Result Place Fault) → after_line p l ≡ Ok q → Reads (n + 1) q ls r → Reads n p (l ∷ ls) r
line_first n p q l ls (Ok end) e h = (q, sym (line_table p l) ∙ ap result_err e, e, h)
line_first n p q l ls (Err f) e h = record {
  before = l ∷ h.before;
  line = h.line;
  rest = h.rest;
  place = h.place;
  parts = ap (λ (more : List (List ℕ)). l ∷ more) h.parts;
  number = omega (arith, h.number);
  read = (q, sym (line_table p l) ∙ ap result_err e, e, h.read);
  kind = h.kind;
}

lines_read : (ls : List (List ℕ)) (n : ℕ) (p : Place) → Reads n p ls (place_after n p ls)
lines_read [] n p = refl
lines_read (l ∷ ls) n p = by_line (after_line p l) refl (λ q. lines_read ls (n + 1) q)
  where
    by_line : (r : Result Place InputKind) → after_line p l ≡ r → ((q : Place) → Reads (n + 1) q ls (place_after (n + 1) q ls)) → Reads n p (l ∷ ls) (at_line n r >>= λ next. place_after (n + 1) next ls)
    by_line (Ok q) e more = line_first n p q l ls (place_after (n + 1) q ls) e (more q)
    by_line (Err k) e more = record {
      before = [];
      line = l;
      rest = ls;
      place = p;
      parts = refl;
      number = omega arith;
      read = refl;
      kind = sym (line_table p l) ∙ ap result_err e;
    }

fault_is : {f g : Fault} → ◌≡◌ {A = Result Spelled Fault} (Err f) (Err g) → f ≡ g
fault_is h = cc

-- an input that may not end there
end_fault : (text : List ℕ) (p : Place) (f : Fault) → ReadsTo at_start (lines text) p → at_line (count_by is_line_end text + 1) (at_end p) ≡ Err f → IsUnfinished text f
end_fault text (between s) f read h = absurd cc
end_fault text p f read h = let same : record { kind = Unfinished; line = count_by is_line_end text + 1 } ≡ f = fault_is h in record {
  place = p;
  read = read;
  open_end = refl;
  number = sym (ap (λ (g : Fault). g.line) same);
  kind = sym (ap (λ (g : Fault). g.kind) same);
}

spelled_fault : (text : List ℕ) (r : Result Place Fault) (f : Fault) → Reads 1 at_start (lines text) r → (r >>= λ p. at_line (count_by is_line_end text + 1) (at_end p)) ≡ Err f
    → IsOnLine 1 at_start (lines text) f ⊎ IsUnfinished text f
spelled_fault text (Ok p) f read h = inr (end_fault text p f read h)
spelled_fault text (Err g) f read h = inl (subst (IsOnLine 1 at_start (lines text)) (fault_is h) read)

pub text_fault : (text : List ℕ) (f : Fault) → input_of text ≡ Err f → IsLong text f ⊎ (IsOnLine 1 at_start (lines text) f ⊎ IsUnfinished text f)
unfolding input_of
text_fault text f h = by_length (nat_lt 1048576 (length text)) refl h
  where
    by_length : (b : Bool) → nat_lt 1048576 (length text) ≡ b → cond b (Err (record { kind = TooLong; line = 0 })) (lines_spell text) ≡ Err f → IsLong text f ⊎ (IsOnLine 1 at_start (lines text) f ⊎ IsUnfinished text f)
    by_length true e h =
        let same : record { kind = TooLong; line = 0 } ≡ f = fault_is h in
        inl (record { long = ltb-true 1048576 (length text) e; number = sym (ap (λ (g : Fault). g.line) same); kind = sym (ap (λ (g : Fault). g.kind) same) })
    by_length false e h = inr (spelled_fault text (place_after 1 at_start (lines text)) f (lines_read (lines text) 1 at_start) h)

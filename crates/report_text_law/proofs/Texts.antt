-- The same of texts.
use Rattle.std.{proofs.Common.{◌≡◌, ◌∙◌, ℕ, ◌<◌, ◌^◌, Bool, true, cond, List, [], ◌∷◌, ◌++◌, ap, ap₂, refl, sym, subst, append_assoc, Some, None, rules, lit<, ◌==◌, map, flat_map}, specs.declared.option.Option.Option, specs.List.{slice_split, list_all}, specs.Str.bytes_eq, proofs.lemmas.Bool.and_parts, proofs.lemmas.Slice.Eq.bytes_eq-Decides, proofs.lemmas.List.map-append, proofs.lemmas.Grind.flat_map-append}
use Rattle.fp_field.specs.Served.{served}
use Rattle.report_text_law.{specs.Types.{Report, Certificate, MapPart}, specs.Names.{heading_line, certificate_lines, Finding, State, AtStart, AtPrime, Finished, joined, words, ended, shown, printed, is_line, ◌>>=◌, report_of, move, prime_of, step, run, BeginsText, Spells, spelled, guess, if_same, line_at, read, Line}, specs.Text.text_of, specs.WellFormed.is_well_formed, proofs.Written.{bind_some, guard_some, some_same}, proofs.Fine.{IsFine, fine_law}, proofs.Reading.{sound, taken_begins, begins_taken, complete, finished_with}, proofs.Free.{EachFree, free_joined, split_joined, cut}, proofs.Guessing.{guess_again, words_free, served_small, same_bytes}}

are_same : (a : List ℕ) → bytes_eq a a ≡ true
are_same a = search (rules, bytes_eq-Decides)

-- a line that is taken is spelled so
line_sound : (bytes : List ℕ) (l : Line) → line_at bytes ≡ Some l → bytes ≡ spelled l
line_sound bytes l e =
    let g = bind_some (guess (slice_split (λ b. b == 32) bytes)) (if_same bytes) l e in
    let s = guard_some (bytes_eq (spelled g.0) bytes) (Some g.0) l g.2 in
    sym (same_bytes (spelled g.0) bytes s.0) ∙ ap spelled (some_same s.1)

full_words : (l : Line) → (w : List ℕ) × (ws : List (List ℕ)) × (words Certificate l ≡ w ∷ ws)
full_words heading_line = (_, _, refl)
full_words _ = (_, _, refl)

-- a spelling is taken
line_again : (p : ℕ) (l : Line) → p < 2 ^ 32 → is_line p l ≡ true → line_at (spelled l) ≡ Some l
line_again p l bound h =
    let f = full_words l in
    let free : EachFree 32 (words Certificate l) = words_free 32 p l (lit< tt) bound h in
    let cut : slice_split (λ b. b == 32) (spelled l) ≡ words Certificate l =
    ap (λ (v : List (List ℕ)). slice_split (λ b. b == 32) (joined 32 v)) f.2
    ∙ split_joined 32 f.0 f.1 refl (subst (λ (v : List (List ℕ)). EachFree 32 v) f.2 free) ∙ sym f.2 in
    ap (λ (v : List (List ℕ)). guess v >>= if_same (spelled l)) cut
    ∙ ap (λ (o : Option Line). o >>= if_same (spelled l)) (guess_again p l bound h)
    ∙ ap (λ (b : Bool). cond b (Some l) None) (are_same (spelled l))

-- ---- the primes of states

prime_small : (s : State) → IsFine s → prime_of s < 2 ^ 32
prime_small AtStart h = lit< tt
prime_small AtPrime h = lit< tt
prime_small s h = served_small (prime_of s) (and_parts (served (prime_of s)) _ h).0

-- ---- all lines

pub read_sound : (s : State) (bs : List (List ℕ)) (t : State) → read s bs ≡ Some t → (ls : List Line) × (bs ≡ map spelled ls) × (run s ls ≡ Some t)
read_sound s [] t e = ([], refl, e)
read_sound s (b ∷ bs) t e =
    let g = bind_some (line_at b) (λ l. step s l >>= λ u. read u bs) t e in
    let m = bind_some (step s g.0) (λ u. read u bs) t g.2 in
    let rest = read_sound m.0 bs t m.2 in
    (g.0 ∷ rest.0, ap₂ ◌∷◌ (line_sound b g.0 g.1) rest.1, ap (λ (o : Option State). o >>= λ u. run u rest.0) m.1 ∙ rest.2)

pub read_again : (s : State) (ls : List Line) (t : State) → IsFine s → run s ls ≡ Some t → read s (map spelled ls) ≡ Some t
read_again s [] t fine e = e
read_again s (l ∷ ls) t fine e =
    let m = bind_some (step s l) (λ u. run u ls) t e in
    let g = guard_some (is_line (prime_of s) l) (move s l) m.0 m.1 in
    let one = line_again (prime_of s) l (prime_small s fine) g.0 in
    ap (λ (o : Option Line). o >>= λ k. (step s k >>= λ u. read u (map spelled ls))) one
    ∙ ap (λ (o : Option State). o >>= λ u. read u (map spelled ls)) m.1
    ∙ read_again m.0 ls t (fine_law s l m.0 m.1 fine) m.2

pub shown_spelled : (l : Line) → shown Certificate l ≡ ended (spelled l)
shown_spelled heading_line = refl
shown_spelled _ = refl

pub text_lines : (ls : List Line) → printed Certificate ls ≡ flat_map ended (map spelled ls)
text_lines [] = refl
text_lines (l ∷ ls) = ap₂ (λ (t u : List ℕ). t ++ u) (shown_spelled l) (text_lines ls)

pub well_formed_from : (r : Report) → list_all (is_line r.prime) (certificate_lines r.prime r.complexes r.maps) ≡ true → is_well_formed r ≡ true
unfolding is_well_formed
well_formed_from r h = h

pub well_formed_to : (r : Report) → is_well_formed r ≡ true → list_all (is_line r.prime) (certificate_lines r.prime r.complexes r.maps) ≡ true
unfolding is_well_formed
well_formed_to r h = h

pub text_is : (r : Report) → text_of Certificate r ≡ flat_map ended (map spelled (certificate_lines r.prime r.complexes r.maps))
unfolding text_of
text_is r = text_lines (certificate_lines r.prime r.complexes r.maps)

-- lines that are taken begin the text of a certificate
pub taken_begins_text : (bs : List (List ℕ)) (s : State) → read AtStart bs ≡ Some s → BeginsText bs
taken_begins_text bs s e =
    let r = read_sound AtStart bs s e in
    let b = taken_begins r.0 s r.2 in
    record {
      found = b.found;
      more = flat_map ended (map spelled b.more);
      spells = record {
        well_formed = well_formed_from b.found b.certificate.well_formed;
        same = ap (λ (v : List (List ℕ)). flat_map ended v ++ flat_map ended (map spelled b.more)) r.1
            ∙ sym (flat_map-append ended (map spelled r.0) (map spelled b.more))
            ∙ ap (flat_map ended) (sym (map-append spelled r.0 b.more) ∙ ap (map spelled) b.certificate.same)
            ∙ sym (text_is b.found);
      };
    }

-- the first lines of a text of lines are the spellings of the first of these lines
front_lines : (bs : List (List ℕ)) (more : List ℕ) (ls : List Line) → EachFree 10 bs → EachFree 10 (map spelled ls) → flat_map ended bs ++ more ≡ flat_map ended (map spelled ls)
    → (front : List Line) × (rest : List Line) × (ls ≡ front ++ rest) × (bs ≡ map spelled front)
front_lines [] more ls h k e = ([], ls, refl, refl)
front_lines (b ∷ bs) more [] h k e = absurd (full b (flat_map ended bs ++ more) (regrouped b bs more ∙ e))
  where
    regrouped : (b : List ℕ) (bs : List (List ℕ)) (more : List ℕ) → b ++ 10 ∷ (flat_map ended bs ++ more) ≡ flat_map ended (b ∷ bs) ++ more
    regrouped b bs more = sym (append_assoc b (10 ∷ []) (flat_map ended bs ++ more)) ∙ sym (append_assoc (ended b) (flat_map ended bs) more)

    full : (b t : List ℕ) → b ++ 10 ∷ t ≡ [] → ⊥
    full [] t e = cc
    full (x ∷ xs) t e = cc
front_lines (b ∷ bs) more (l ∷ ls) h k e =
    let left : flat_map ended (b ∷ bs) ++ more ≡ b ++ 10 ∷ (flat_map ended bs ++ more) = append_assoc (ended b) (flat_map ended bs) more ∙ append_assoc b (10 ∷ []) (flat_map ended bs ++ more) in
    let right : flat_map ended (map spelled (l ∷ ls)) ≡ spelled l ++ 10 ∷ flat_map ended (map spelled ls) = append_assoc (spelled l) (10 ∷ []) (flat_map ended (map spelled ls)) in
    let c = cut 10 b (flat_map ended bs ++ more) (spelled l) (flat_map ended (map spelled ls)) refl h.0 k.0 (sym left ∙ e ∙ right) in
    let r = front_lines bs more ls h.1 k.1 c.1 in
    (l ∷ r.0, r.1, ap (λ (t : List Line). l ∷ t) r.2, ap₂ ◌∷◌ c.0 r.3)

pub lines_free : (s : State) (ls : List Line) (t : State) → IsFine s → run s ls ≡ Some t → EachFree 10 (map spelled ls)
lines_free s [] t fine e = tt
lines_free s (l ∷ ls) t fine e =
    let m = bind_some (step s l) (λ u. run u ls) t e in
    let g = guard_some (is_line (prime_of s) l) (move s l) m.0 m.1 in
    (free_joined 10 32 (words Certificate l) refl (words_free 10 (prime_of s) l (lit< tt) (prime_small s fine) g.0), lines_free m.0 ls t (fine_law s l m.0 m.1 fine) m.2)

-- lines that begin the text of a certificate are taken
pub begins_text_taken : (bs : List (List ℕ)) → EachFree 10 bs → BeginsText bs → (s : State) × (read AtStart bs ≡ Some s)
begins_text_taken bs free b =
    let ls = certificate_lines b.found.prime b.found.complexes b.found.maps in
    let fine = well_formed_to b.found b.spells.well_formed in
    let whole = complete b.found ls (record { well_formed = fine; same = refl }) in
    let f = front_lines bs b.more ls free (lines_free AtStart ls (finished_with b.found) refl whole) (b.spells.same ∙ text_is b.found) in
    let r = begins_taken f.0 (record { found = b.found; more = f.1; certificate = record { well_formed = fine; same = sym f.2 } }) in
    (r.0, ap (read AtStart) f.3 ∙ read_again AtStart f.0 r.0 refl r.1)

-- lines that are read to the end are the text of what was read
pub whole_text : (bs : List (List ℕ)) (f : Finding) (ms : List MapPart) → read AtStart bs ≡ Some (Finished f ms) → Spells (flat_map ended bs) (report_of f ms)
whole_text bs f ms e =
    let r = read_sound AtStart bs (Finished f ms) e in
    let c = sound f ms r.0 r.2 in
    record {
      well_formed = well_formed_from (report_of f ms) c.well_formed;
      same = ap (flat_map ended) (r.1 ∙ ap (map spelled) c.same) ∙ sym (text_is (report_of f ms));
    }

-- the text of a certificate is read to the end
pub whole_again : (r : Report) → is_well_formed r ≡ true → read AtStart (map spelled (certificate_lines r.prime r.complexes r.maps)) ≡ Some (finished_with r)
whole_again r h =
    let ls = certificate_lines r.prime r.complexes r.maps in
    read_again AtStart ls (finished_with r) refl (complete r ls (record { well_formed = well_formed_to r h; same = refl }))

pub whole_free : (r : Report) → is_well_formed r ≡ true → EachFree 10 (map spelled (certificate_lines r.prime r.complexes r.maps))
whole_free r h =
    let ls = certificate_lines r.prime r.complexes r.maps in
    lines_free AtStart ls (finished_with r) refl (complete r ls (record { well_formed = well_formed_to r h; same = refl }))

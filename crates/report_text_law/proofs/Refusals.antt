-- What a whole text spells, and its first bad line.
use Rattle.std.{proofs.Common.{◌≡◌, ◌∙◌, ℕ, ◌+◌, ◌<◌, ◌≤◌, Bool, true, false, cond, List, [], ◌∷◌, ◌++◌, length, length-append, take, drop, ap, refl, sym, subst, arith, append_assoc, Some, None, rules, ◌==◌, map, flat_map, Ok, Err, Result, append-nil}, specs.declared.option.Option.Option, specs.List.{count_by, onto_first, join_with_byte}, proofs.lemmas.List.Splits.{join_with_byte-slice_split, length-slice_split}, proofs.Math.Seq.take-append-add, proofs.lemmas.List.{take-append-drop, take-append-le}}
use Rattle.report_text_law.{specs.Types.{Report, MapPart, Certificate}, specs.Names.{Finding, State, AtStart, Finished, certificate_lines, ended, report_of, step, ◌>>=◌, spelled, line_at, read, ended_at, after, or_refused, read_from, read_text, pieces, Spells, BeginsText, IsRefused, ReadingLaw, OneReport, OneRefusedLine}, specs.Text.text_of, proofs.Written.{bind_some, some_same}, proofs.Reading.{behind, finished_with}, proofs.Free.{EachFree, split_at}, proofs.Texts.{taken_begins_text, begins_text_taken, whole_text, whole_again, whole_free, text_is}}

read_step : (s : State) (b : List ℕ) (bs : List (List ℕ)) → read s (b ∷ bs) ≡ (after s b >>= λ t. read t bs)
read_step s b bs = behind (line_at b) (step s) (λ l. step s l >>= λ t. read t bs) (λ t. read t bs) (λ l. refl)

read_more : (s : State) (xs ys : List (List ℕ)) → read s (xs ++ ys) ≡ (read s xs >>= λ t. read t ys)
read_more s [] ys = refl
read_more s (b ∷ bs) ys =
    read_step s b (bs ++ ys)
    ∙ behind (after s b) (λ t. read t bs) (λ t. read t (bs ++ ys)) (λ t. read t ys) (λ t. read_more t bs ys)
    ∙ ap (λ (r : Option State). r >>= λ t. read t ys) (sym (read_step s b bs))

begins_front : (done : List (List ℕ)) (s : State) (k : ℕ) → read AtStart done ≡ Some s → BeginsText (take k done)
begins_front done s k e =
    let whole : (read AtStart (take k done) >>= λ t. read t (drop k done)) ≡ Some s = sym (read_more AtStart (take k done) (drop k done)) ∙ ap (read AtStart) (take-append-drop k done) ∙ e in
    let m = bind_some (read AtStart (take k done)) (λ t. read t (drop k done)) s whole in
    taken_begins_text (take k done) m.0 m.1

record Refusal (whole : List (List ℕ)) (line : ℕ) : Type 0 where
  within : line ≤ length whole
  good : (k : ℕ) → k < line → BeginsText (take k whole)
  bad : line < length whole → BeginsText (take line whole) → ⊥

ended_err : (n line : ℕ) (s : State) (b : List ℕ) → ended_at n s b ≡ Err line → n ≡ line
ended_err n line (Finished f ms) [] e = cc
ended_err n line (Finished f ms) (b ∷ bs) e = cc
ended_err n line _ b e = cc

good_to : (done rest : List (List ℕ)) (s : State) → read AtStart done ≡ Some s → (k : ℕ) → k < length done + 1 → BeginsText (take k (done ++ rest))
good_to done rest s e k lt =
    let le : k ≤ length done = omega arith in
    subst (λ (t : List (List ℕ)). BeginsText t) (sym (take-append-le k done rest le)) (begins_front done s k e)

take_one : (done : List (List ℕ)) (b : List ℕ) (rest : List (List ℕ)) → take (length done + 1) (done ++ b ∷ rest) ≡ done ++ b ∷ []
take_one done b rest = take-append-add done (b ∷ rest) 1

free_front : (n : ℕ) (xs ys : List (List ℕ)) → EachFree n (xs ++ ys) → EachFree n xs
free_front n [] ys h = tt
free_front n (x ∷ xs) ys h = (h.0, free_front n xs ys h.1)

stuck : (done : List (List ℕ)) (b : List ℕ) (rest : List (List ℕ)) (s : State) → EachFree 10 (done ++ b ∷ rest) → read AtStart done ≡ Some s → after s b ≡ None → BeginsText (take (length done + 1) (done ++ b ∷ rest)) → ⊥
stuck done b rest s free e none begins =
    let free_one : EachFree 10 (done ++ b ∷ []) = free_front 10 (done ++ b ∷ []) rest (subst (λ (t : List (List ℕ)). EachFree 10 t) (sym (append_assoc done (b ∷ []) rest)) free) in
    let t = begins_text_taken (done ++ b ∷ []) free_one (subst (λ (t : List (List ℕ)). BeginsText t) (take_one done b rest) begins) in
    let no : None ≡ Some t.0 =
    sym (read_more AtStart done (b ∷ []) ∙ ap (λ (r : Option State). r >>= λ u. read u (b ∷ [])) e ∙ read_step s b [] ∙ ap (λ (r : Option State). r >>= λ u. read u []) none) ∙ t.1 in
    cc no

refused_from : (done rest : List (List ℕ)) (b : List ℕ) (s : State) (line : ℕ) → EachFree 10 (done ++ b ∷ rest) → read AtStart done ≡ Some s
    → read_from (length done + 1) s (b ∷ rest) ≡ Err line → Refusal (done ++ b ∷ rest) line
refused_from done [] b s line free e r =
    let at : length done + 1 ≡ line = ended_err (length done + 1) line s b r in
    subst (λ (n : ℕ). Refusal (done ++ b ∷ []) n) at (record {
      within = omega (arith, length-append done (b ∷ []));
      good = good_to done (b ∷ []) s e;
      bad = λ lt _. absurd (omega (arith, length-append done (b ∷ [])));
    })
refused_from done (c ∷ more) b s line free e r =
    next (after s b) refl (λ t one. refused_from (done ++ b ∷ []) more c t line (subst (λ (t : List (List ℕ)). EachFree 10 t) (sym (append_assoc done (b ∷ []) (c ∷ more))) free)
    (read_more AtStart done (b ∷ []) ∙ ap (λ (r : Option State). r >>= λ u. read u (b ∷ [])) e ∙ read_step s b [] ∙ ap (λ (r : Option State). r >>= λ u. read u []) one)) r
  where
    next : (o : Option State) → after s b ≡ o
        → ((t : State) → after s b ≡ Some t → read_from (length (done ++ b ∷ []) + 1) t (c ∷ more) ≡ Err line → Refusal ((done ++ b ∷ []) ++ c ∷ more) line)
        → or_refused (length done + 1) o (λ t. read_from (length done + 1 + 1) t (c ∷ more)) ≡ Err line → Refusal (done ++ b ∷ c ∷ more) line
    next None none ih r =
        let at : length done + 1 ≡ line = cc in
        subst (λ (n : ℕ). Refusal (done ++ b ∷ c ∷ more) n) at (record {
          within = omega (arith, length-append done (b ∷ c ∷ more));
          good = good_to done (b ∷ c ∷ more) s e;
          bad = λ lt. stuck done b (c ∷ more) s free e none;
        })
    next (Some t) one ih r =
        let count : length done + 1 + 1 ≡ length (done ++ b ∷ []) + 1 = omega (arith, length-append done (b ∷ [])) in
        subst (λ (w : List (List ℕ)). Refusal w line) (append_assoc done (b ∷ []) (c ∷ more))
        (ih t one (ap (λ (n : ℕ). read_from n t (c ∷ more)) (sym count) ∙ r))

-- ---- whole texts

pieces_of_lines : (bs : List (List ℕ)) → EachFree 10 bs → pieces (flat_map ended bs) ≡ bs ++ [] ∷ []
pieces_of_lines [] h = refl
pieces_of_lines (b ∷ bs) h =
    ap pieces (append_assoc b (10 ∷ []) (flat_map ended bs))
    ∙ split_at 10 b (flat_map ended bs) h.0 refl
    ∙ ap (λ (t : List (List ℕ)). b ∷ t) (pieces_of_lines bs h.1)

onto_free : (x : ℕ) (ps : List (List ℕ)) → (x == 10) ≡ false → EachFree 10 ps → EachFree 10 (onto_first x ps)
onto_free x [] n h = ((n, tt), tt)
onto_free x (p ∷ ps) n h = ((n, h.0), h.1)

pieces_free : (text : List ℕ) → EachFree 10 (pieces text)
pieces_free [] = (tt, tt)
pieces_free (x ∷ xs) = go (x == 10) refl (pieces_free xs)
  where
    go : (b : Bool) → (x == 10) ≡ b → EachFree 10 (pieces xs) → EachFree 10 (cond b ([] ∷ pieces xs) (onto_first x (pieces xs)))
    go true e h = (tt, h)
    go false e h = onto_free x (pieces xs) e h

more_shape : (n : ℕ) (s : State) (b : List ℕ) (bs : List (List ℕ)) → read_from n s (b ∷ (bs ++ [] ∷ [])) ≡ or_refused n (after s b) (λ t. read_from (n + 1) t (bs ++ [] ∷ []))
more_shape n s b [] = refl
more_shape n s b (c ∷ cs) = refl

ok_from : (n : ℕ) (s : State) (bs : List (List ℕ)) (r : Report) → read s bs ≡ Some (finished_with r) → read_from n s (bs ++ [] ∷ []) ≡ Ok r
ok_from n s [] r e = subst (λ (t : State). ended_at n t [] ≡ Ok r) (sym (some_same e)) refl
ok_from n s (b ∷ bs) r e =
    let m = bind_some (after s b) (λ t. read t bs) (finished_with r) (sym (read_step s b bs) ∙ e) in
    more_shape n s b bs ∙ ap (λ (o : Option State). or_refused n o (λ t. read_from (n + 1) t (bs ++ [] ∷ []))) m.1 ∙ ok_from (n + 1) m.0 bs r m.2

-- what is spelled so is read
pub spelled_read : (text : List ℕ) (r : Report) → Spells text r → read_text text ≡ Ok r
spelled_read text r h =
    let ls = certificate_lines r.prime r.complexes r.maps in
    let cuts : pieces text ≡ map spelled ls ++ [] ∷ [] = ap pieces (h.same ∙ text_is r) ∙ pieces_of_lines (map spelled ls) (whole_free r h.well_formed) in
    ap (read_from 1 AtStart) cuts ∙ ok_from 1 AtStart (map spelled ls) r (whole_again r h.well_formed)

record Whole (s : State) (ps : List (List ℕ)) (r : Report) : Type 0 where
  lines : List (List ℕ)
  finding : Finding
  maps : List MapPart
  is_it : report_of finding maps ≡ r
  all : ps ≡ lines ++ [] ∷ []
  read_so : read s lines ≡ Some (Finished finding maps)

ended_whole : (n : ℕ) (s : State) (b : List ℕ) (r : Report) → ended_at n s b ≡ Ok r → Whole s (b ∷ []) r
ended_whole n (Finished f ms) [] r e = record { lines = []; finding = f; maps = ms; is_it = cc; all = refl; read_so = refl }
ended_whole n (Finished f ms) (b ∷ bs) r e = cc
ended_whole n _ b r e = cc

refused_ok : (n : ℕ) (o : Option State) (g : State → Result Report ℕ) (r : Report) → or_refused n o g ≡ Ok r → (t : State) × (o ≡ Some t) × (g t ≡ Ok r)
refused_ok n None g r e = cc
refused_ok n (Some t) g r e = (t, refl, e)

ok_back : (n : ℕ) (s : State) (ps : List (List ℕ)) (r : Report) → read_from n s ps ≡ Ok r → Whole s ps r
ok_back n s [] r e = cc
ok_back n s (b ∷ []) r e = ended_whole n s b r e
ok_back n s (b ∷ c ∷ more) r e =
    let m = refused_ok n (after s b) (λ t. read_from (n + 1) t (c ∷ more)) r e in
    let w = ok_back (n + 1) m.0 (c ∷ more) r m.2 in
    record {
      lines = b ∷ w.lines;
      finding = w.finding;
      maps = w.maps;
      is_it = w.is_it;
      all = ap (λ (t : List (List ℕ)). b ∷ t) w.all;
      read_so = read_step s b w.lines ∙ ap (λ (o : Option State). o >>= λ t. read t w.lines) m.1 ∙ w.read_so;
    }

joined_lines : (bs : List (List ℕ)) → join_with_byte 10 (bs ++ [] ∷ []) ≡ flat_map ended bs
joined_lines [] = refl
joined_lines (b ∷ []) = sym (append-nil (ended b))
joined_lines (b ∷ c ∷ bs) = ap (λ (t : List ℕ). b ++ 10 ∷ t) (joined_lines (c ∷ bs)) ∙ sym (append_assoc b (10 ∷ []) (flat_map ended (c ∷ bs)))

-- what is read is spelled so
pub read_spelled : (text : List ℕ) (r : Report) → read_text text ≡ Ok r → Spells text r
read_spelled text r e =
    let w = ok_back 1 AtStart (pieces text) r e in
    let whole = whole_text w.lines w.finding w.maps w.read_so in
    let same : text ≡ flat_map ended w.lines = sym (join_with_byte-slice_split 10 text) ∙ ap (join_with_byte 10) w.all ∙ joined_lines w.lines in
    subst (λ (u : List ℕ). Spells u r) (sym same) (subst (Spells (flat_map ended w.lines)) w.is_it whole)

full : (ps : List (List ℕ)) → 0 < length ps → (b : List ℕ) × (more : List (List ℕ)) × (ps ≡ b ∷ more)
full [] h = absurd (omega (arith, h))
full (b ∷ more) h = (b, more, refl)

-- a refused line is the least
pub refused_least : (text : List ℕ) (line : ℕ) → read_text text ≡ Err line → IsRefused text line
refused_least text line e =
    let count : length (pieces text) ≡ count_by (λ b. b == 10) text + 1 = length-slice_split (λ b. b == 10) text in
    let cut = full (pieces text) (omega (arith, count)) in
    let r = refused_from [] cut.1 cut.0 AtStart line (subst (λ (ps : List (List ℕ)). EachFree 10 ps) cut.2 (pieces_free text)) refl
    (let n : 0 + 1 ≡ 1 = omega arith in ap (λ (k : ℕ). read_from k AtStart (cut.0 ∷ cut.1)) n ∙ ap (read_from 1 AtStart) (sym cut.2) ∙ e) in
    let s : Refusal (pieces text) line = subst (λ (ps : List (List ℕ)). Refusal ps line) (sym cut.2) r in
    record { within = s.within; good = s.good; bad = s.bad; none = λ r h. let g = spelled_read text r h in cc (e, g) }

-- ---- laws

pub one_report : OneReport
one_report r s h k e =
    let a = spelled_read (text_of Certificate r) r (record { well_formed = h; same = refl }) in
    let b = spelled_read (text_of Certificate r) s (record { well_formed = k; same = e }) in
    let both : Ok r ≡ Ok s = sym a ∙ b in
    cc

not_later : (text : List ℕ) (k l : ℕ) → IsRefused text k → IsRefused text l → k < l → ⊥
not_later text k l h g lt =
    let le : l ≤ length (pieces text) = g.within in
    h.bad (omega arith) (g.good k lt)

pub one_refused_line : OneRefusedLine
one_refused_line text k l h g = three (not_later text k l h g) (not_later text l k g h)
  where
    three : (k < l → ⊥) → (l < k → ⊥) → k ≡ l
    three a b = search (rules, arith)

pub reading_law : ReadingLaw
reading_law = record { sound = read_spelled; whole = spelled_read; refused = refused_least }

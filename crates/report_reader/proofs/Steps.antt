-- What a text is read as before and behind a line.
use Rattle.std.{proofs.Common.{◌≡◌, ◌∙◌, ℕ, ◌+◌, ◌<◌, ◌≤◌, List, [], ◌∷◌, ◌++◌, length, ap, refl, sym, arith, Some, None, Ok, Err, true, false, subst, IsErr, IsErrAnd, Result}, specs.declared.option.Option.Option}
use Rattle.report_text_law.specs.{Names.{or_refused, read_from, pieces, ◌>>=◌, move}, declared.state.State.State, declared.line.Line.Line}
use Rattle.report_reader.specs.Names.{AreItems, Follows, IsItem, IsOpen, Place, Reads, ReadsItem, Refuses, Section, Shrinks, is_there, left, reading, ReadRefused, ReportRefused, OutOfMemory}

-- the place with its line
abbrev pub at : Place → Option Line → Place
at old line = record { number = old.number; line = line; text = old.text }

-- a line that is taken
pub passed : (taken : Line → Option State) (old : Place) (l : Line) (s : State) (prime : ℕ) (mid new : Place) → old.line ≡ Some l → taken l ≡ Some s → IsOpen prime s → mid ≡ at old None → Follows prime mid new
    → reading taken old ≡ reading (move s) new
passed taken old l s prime mid new is to open_at m f =
    ap (λ (o : Option Line). or_refused old.number (o >>= taken) (λ t. read_from (old.number + 1) t (pieces old.text))) is
    ∙ ap (λ (o : Option State). or_refused old.number o (λ t. read_from (old.number + 1) t (pieces old.text))) to
    ∙ sym (ap (λ (p : Place). read_from (p.number + 1) s (pieces p.text)) m)
    ∙ f.same s open_at

-- a line that is refused
pub stuck : (taken : Line → Option State) (old : Place) (l : Line) → old.line ≡ Some l → taken l ≡ None → reading taken old ≡ Err old.number
stuck taken old l is none =
    ap (λ (o : Option Line). or_refused old.number (o >>= taken) (λ t. read_from (old.number + 1) t (pieces old.text))) is
    ∙ ap (λ (o : Option State). or_refused old.number o (λ t. read_from (old.number + 1) t (pieces old.text))) none

pub no_line : (taken : Line → Option State) (old : Place) → old.line ≡ None → reading taken old ≡ Err old.number
no_line taken old is = ap (λ (o : Option Line). or_refused old.number (o >>= taken) (λ t. read_from (old.number + 1) t (pieces old.text))) is

-- a line that is taken so in both ways
pub alike : (a b : Line → Option State) (old new : Place) (o : Option Line) → old.line ≡ o → new ≡ at old o → ((l : Line) → o ≡ Some l → a l ≡ b l) → reading a old ≡ reading b new
alike a b old new o is same on =
    ap (λ (u : Option Line). reading a (at old u)) is
    ∙ ap (λ (t : Option State). or_refused old.number t (λ s. read_from (old.number + 1) s (pieces old.text))) (both o on)
    ∙ sym (ap (reading b) same)
  where
    both : (u : Option Line) → ((l : Line) → u ≡ Some l → a l ≡ b l) → (u >>= a) ≡ (u >>= b)
    both None on = refl
    both (Some l) on = on l refl

pub pointwise : (a b : Line → Option State) (old : Place) → ((l : Line) → a l ≡ b l) → reading a old ≡ reading b old
pointwise a b old on = alike a b old old old.line refl refl (λ l _. on l)

pub failed : (a b : Line → Option State) (old mid : Place) (e : ReadRefused) → reading a old ≡ reading b mid → Refuses b mid e → Refuses a old e
failed a b old mid (ReportRefused n) e f = e ∙ f
failed a b old mid OutOfMemory e f = tt

-- ---- items that repeat

module _ {T : Type 0} (within behind : List T → Line → Option State) (xs : List T) (start old new : Place) (so_far : reading (within []) start ≡ reading (within xs) old) (r : Result (Option T) ReadRefused) (item : ReadsItem within behind xs old new r) where
  pub more_items : (o : Option T) (x : T) (ys : List T) → r ≡ Ok o → o ≡ Some x → ys ≡ xs ++ x ∷ [] → reading (within []) start ≡ reading (within ys) new
  more_items o x ys is some add =
      so_far
      ∙ subst (λ (u : Result (Option T) ReadRefused). ReadsItem within behind xs old new u) (is ∙ ap (λ (v : Option T). Ok v) some) item
      ∙ sym (ap (λ (zs : List T). reading (within zs) new) add)

  pub end_of_items : (o : Option T) → r ≡ Ok o → o ≡ None → reading (within []) start ≡ reading (behind xs) new
  end_of_items o is none = so_far ∙ subst (λ (u : Result (Option T) ReadRefused). ReadsItem within behind xs old new u) (is ∙ ap (λ (v : Option T). Ok v) none) item

  pub refused_items : (e : ReadRefused) (end : Place) (whole : Result (List T) ReadRefused) → r ≡ Err e → IsErr whole × IsErrAnd whole (λ d. d ≡ e) → Reads (within []) behind start end whole
  refused_items e end (Ok ys) is h = let k : false ≡ true = h.0 in cc
  refused_items e end (Err d) is h = failed (within []) (within xs) start old d so_far (subst (λ (u : Result (Option T) ReadRefused). ReadsItem within behind xs old new u) (is ∙ ap (λ (v : ReadRefused). Err v) (sym h.1)) item)

pub fewer : {T : Type 0} (start old new : Place) (r : Result (Option T) ReadRefused) (o : Option T) → left old ≤ left start → Shrinks old new r → r ≡ Ok o → left new ≤ left start
fewer start old new (Ok (Some x)) o le s is = omega arith
fewer start old new (Ok None) o le s is = omega arith
fewer start old new (Err e) o le s is = cc

-- ---- a part of what is read

pub refusal : {U : Type 0} (a : Line → Option State) (to : U → Line → Option State) (old new : Place) (r : Result U ReadRefused) (e : ReadRefused) → Reads a to old new r → r ≡ Err e → Refuses a old e
refusal a to old new r e h is = subst (λ (u : Result _ ReadRefused). Reads a to old new u) is h

pub progress : {U : Type 0} (a : Line → Option State) (to : U → Line → Option State) (old new : Place) (r : Result U ReadRefused) (y : U) → Reads a to old new r → r ≡ Ok y → reading a old ≡ reading (to y) new
progress a to old new r y h is = subst (λ (u : Result _ ReadRefused). Reads a to old new u) is h

-- the refusal of a part is that of the whole
pub handed_on : {V : Type 0} (a : Line → Option State) (to : V → Line → Option State) (old new : Place) (whole : Result V ReadRefused) (e : ReadRefused) → IsErr whole × IsErrAnd whole (λ d. d ≡ e) → Refuses a old e → Reads a to old new whole
handed_on a to old new (Ok y) e h k = let n : false ≡ true = h.0 in cc
handed_on a to old new (Err d) e h k = subst (λ (u : ReadRefused). Refuses a old u) (sym h.1) k

-- one line less is left
pub one_less : (prime : ℕ) (old mid new : Place) (l : Line) → old.line ≡ Some l → mid ≡ at old None → Follows prime mid new → left new < left old
one_less prime old mid new l was is f =
    let there : is_there old.line ≡ 1 = ap is_there was in
    let same : length mid.text ≡ length old.text = ap (λ (p : Place). length p.text) is in
    omega (arith, f.less, there, same)

-- An item of a section that begins with this line, and of which the rest is read as a part.
pub record Opens {I T U : Type 0} (s : Section I T) (before : List T → Type 0) (prime : ℕ) (l : Line) (item : U → T) (start new : Place) (part : Result U ReadRefused) : Type 0 where
  pub state : I → List T → State
  pub takes : (i : I) (xs : List T) → s.fits i → before xs → s.within i xs l ≡ Some (state i xs)
  pub is_open : (i : I) (xs : List T) → s.fits i → IsOpen prime (state i xs)
  pub reads : (i : I) (xs : List T) → s.fits i → Reads (move (state i xs)) (λ u. s.within i (xs ++ item u ∷ [])) start new part

module _ {I T U : Type 0} (s : Section I T) (before : List T → Type 0) (prime : ℕ) (l : Line) (item : U → T) (old mid start new : Place) (was : old.line ≡ Some l) (is : mid ≡ at old None) (follows : Follows prime mid start) (part : Result U ReadRefused) (o : Opens s before prime l item start new part) where
  begun : (i : I) (xs : List T) → s.fits i → before xs → reading (s.within i xs) old ≡ reading (move (o.state i xs)) start
  begun i xs fits here = passed (s.within i xs) old l (o.state i xs) prime mid start was (o.takes i xs fits here) (o.is_open i xs fits) is follows

  pub item_read : (u : U) → part ≡ Ok u → left new ≤ left start → IsItem s before old new (Ok (Some (item u)))
  item_read u ok less = record {
    reads = λ i xs fits here.
        begun i xs fits here
        ∙ progress (move (o.state i xs)) (λ v. s.within i (xs ++ item v ∷ [])) start new part u (o.reads i xs fits) ok;
    less = (let k = one_less prime old mid start l was is follows in omega (arith, k, less));
  }

  pub item_refused : (e : ReadRefused) (whole : Result (Option T) ReadRefused) → part ≡ Err e → IsErr whole × IsErrAnd whole (λ d. d ≡ e) → IsItem s before old new whole
  item_refused e (Ok y) err h = let n : false ≡ true = h.0 in absurd (cc)
  item_refused e (Err d) err h = record {
    reads = λ i xs fits here. failed (s.within i xs) (move (o.state i xs)) old start d (begun i xs fits here)
        (subst (λ (u : ReadRefused). Refuses (move (o.state i xs)) start u) (sym h.1) (refusal (move (o.state i xs)) (λ v. s.within i (xs ++ item v ∷ [])) start new part e (o.reads i xs fits) err));
    less = tt;
  }

-- ---- parts one after another

pub items_ok : {I T : Type 0} {s : Section I T} {old new : Place} {r : Result (List T) ReadRefused} → AreItems s old new r → (i : I) → s.fits i → (xs : List T) → r ≡ Ok xs → reading (s.within i []) old ≡ reading (s.behind i xs) new
items_ok {s = s} {old = old} {new = new} {r = r} h i fits xs ok = progress (s.within i []) (s.behind i) old new r xs (h.reads i fits) ok

pub part_refused : {U V : Type 0} (a b : Line → Option State) (part : U → Line → Option State) (to : V → Line → Option State) (start old new end : Place) (r : Result U ReadRefused) (e : ReadRefused) (whole : Result V ReadRefused)
    → reading a start ≡ reading b old → Reads b part old new r → r ≡ Err e → IsErr whole × IsErrAnd whole (λ d. d ≡ e) → Reads a to start end whole
part_refused a b part to start old new end r e whole so_far h err k = handed_on a to start end whole e k (failed a b start old e so_far (refusal b part old new r e h err))

pub items_refused : {I T V : Type 0} {s : Section I T} {old new : Place} {r : Result (List T) ReadRefused} (a : Line → Option State) (to : V → Line → Option State) (start end : Place) (e : ReadRefused) (whole : Result V ReadRefused)
    → AreItems s old new r → (i : I) → s.fits i → reading a start ≡ reading (s.within i []) old → r ≡ Err e → IsErr whole × IsErrAnd whole (λ d. d ≡ e) → Reads a to start end whole
items_refused {s = s} {old = old} {new = new} {r = r} a to start end e whole h i fits so_far err k = part_refused a (s.within i []) (s.behind i) to start old new end r e whole so_far (h.reads i fits) err k

pub preceded : {V : Type 0} (a b : Line → Option State) (to : V → Line → Option State) (start old new : Place) (r : Result V ReadRefused) → reading a start ≡ reading b old → Reads b to old new r → Reads a to start new r
preceded a b to start old new (Ok y) so_far h = so_far ∙ h
preceded a b to start old new (Err e) so_far h = failed a b start old e so_far h

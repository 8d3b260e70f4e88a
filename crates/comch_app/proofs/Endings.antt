-- How a run ends, by the text that was to be written.
use Rattle.std.{proofs.Common.{◌≡◌, ◌+◌, ◌<◌, List, [], ◌++◌, ℕ, inl, inr, refl, sym, subst, arith, Some, None, Ok, Err, IfOk, length, length-append, append-nil, Result, unwrap_or, lt-ltb}, specs.declared.option.Option.Option, specs.Io.KnownBytes.{Appends, IsAtEnd}}
use Rattle.comch_io.specs.{Causes.Rose, Reading.{Gave, ReadGave}, declared.read_end.ReadEnd.ReadEnd}
use Rattle.comch_io.specs.declared.read_end.ReadEnd.TheVariants as end
use Rattle.complex_file.specs.{Names.Spelled, Input.input_of, declared.kind.InputKind.TheVariants.TooLong}
use Rattle.comch_app.specs.Names.{AtFault, Ends, EndsRead, MayAnswers, RefusesWords, WritesRefusal, refusal, CheckAnswers, SampleAnswers, AnswersRead, AskedAnswers, IsMade, SaysIt, StopCause, WantedOf, most_bytes, Stop, Asked, Request, May, Sample, Wanted, Status, BadWords, InputRefused, OutOfMemory, ReadFault, WriteFault}
use Rattle.comch_app.specs.declared.answer.Stop.TheVariants as stop
use Rattle.comch_app.specs.declared.answer.Asked.TheVariants as asked
use Rattle.comch_app.specs.declared.answer.Wanted.TheVariants as wanted

-- a text that was written whole
whole : (answers : Status → List ℕ → Type 0) (s : Status) (text : List ℕ) (old new : Option (List ℕ)) → (answers WriteFault text → ⊥) → answers s text → Appends old new text → Ends answers old new s
whole answers WriteFault text old new never a appends = absurd (never a)
whole answers _ text old new never a appends = (text, a, appends)

-- a text that may be answered, and was written whole or up to a failed write
said_ends : (answers : Status → List ℕ → Type 0) (s : Status) (text : List ℕ) (old new : Option (List ℕ)) (r : Status) → (answers WriteFault text → ⊥) → answers s text → SaysIt s text old new r → Ends answers old new r
said_ends answers s text old new r never a (inl h) = rw h.0 (whole answers s text old new never a h.1)
said_ends answers s text old new r never a (inr h) = rw h.0 (s, text, a, h.1)

never_wanted : (w : Wanted) (job : Spelled) (text : List ℕ) → WantedOf w job WriteFault text → ⊥
never_wanted wanted.Bases job text h = h
never_wanted (wanted.Report form limit) job text h = h
never_wanted wanted.Bocksteins job text h = h

never_asked : (a : Asked) (bytes text : List ℕ) → AskedAnswers a bytes WriteFault text → ⊥
never_asked (asked.OfJob w) bytes text (job, spelled, h) = never_wanted w job text h
never_asked asked.Verdict bytes text h = h

asked_ends : (a : Asked) (failed : Type 0) (bytes : List ℕ) (s : Status) (text : List ℕ) (old new : Option (List ℕ)) (r : Status) → AtFault failed (AskedAnswers a bytes) s text → SaysIt s text old new r → Ends (AtFault failed (AskedAnswers a bytes)) old new r
asked_ends a failed bytes s text old new r h says = said_ends (AtFault failed (AskedAnswers a bytes)) s text old new r (never_asked a bytes text) h says

memory_asked : (a : Asked) (bytes : List ℕ) → AskedAnswers a bytes OutOfMemory (refusal OutOfMemory)
memory_asked (asked.OfJob w) bytes = refl
memory_asked asked.Verdict bytes = refl

read_asked : (a : Asked) (bytes : List ℕ) → AskedAnswers a bytes ReadFault (refusal ReadFault)
read_asked (asked.OfJob w) bytes = refl
read_asked asked.Verdict bytes = refl

-- an answer that the work itself gave is no failed read
made_answer : (failed : Type 0) (answers : Status → List ℕ → Type 0) (s : Status) (text : List ℕ) → IsMade s text → answers s text → AtFault failed answers s text
made_answer failed answers ReadFault text m a = absurd m
made_answer failed answers _ text m a = a

pub made_ends : (a : Asked) (left left_now : Option (List ℕ)) (given given_now faults faults_now : ℕ) (s : Status) (text written : List ℕ) (old new : Option (List ℕ)) (r : Status)
    → AnswersRead a left left_now given given_now (Ok (s, text)) → IsMade s text → written ≡ text → SaysIt s written old new r → EndsRead (AskedAnswers a) left left_now given given_now faults faults_now old new r
made_ends a left left_now given given_now faults faults_now s text written old new r h made same says = record {
  read = h.read;
  gave = h.gave;
  ends = asked_ends a (Rose faults faults_now) (h.read ++ unwrap_or left_now []) s text old new r (made_answer (Rose faults faults_now) (AskedAnswers a (h.read ++ unwrap_or left_now [])) s text made h.answer)
      (subst (λ (t : List ℕ). SaysIt s t old new r) same says);
}

pub memory_ends : (a : Asked) (left left_now : Option (List ℕ)) (given given_now faults faults_now : ℕ) (read : List ℕ) (old new : Option (List ℕ)) (r : Status) → Gave left left_now given given_now read
    → SaysIt OutOfMemory (refusal OutOfMemory) old new r → EndsRead (AskedAnswers a) left left_now given given_now faults faults_now old new r
memory_ends a left left_now given given_now faults faults_now read old new r gave says =
    let bytes : List ℕ = read ++ unwrap_or left_now [] in
    record { read = read; gave = gave; ends = asked_ends a (Rose faults faults_now) bytes OutOfMemory (refusal OutOfMemory) old new r (memory_asked a bytes) says }

pub read_ends : (a : Asked) (left left_now : Option (List ℕ)) (given given_now faults faults_now : ℕ) (read : List ℕ) (e : Stop) (old new : Option (List ℕ)) (r : Status) → Gave left left_now given given_now read
    → e ≡ stop.Read → StopCause {X = Status × List ℕ} faults faults_now (Err e) → SaysIt ReadFault (refusal ReadFault) old new r → EndsRead (AskedAnswers a) left left_now given given_now faults faults_now old new r
read_ends a left left_now given given_now faults faults_now read e old new r gave is cause says =
    let bytes : List ℕ = read ++ unwrap_or left_now [] in
    let failed : StopCause {X = Status × List ℕ} faults faults_now (Err stop.Read) = subst (λ (x : Stop). StopCause {X = Status × List ℕ} faults faults_now (Err x)) is cause in
    record { read = read; gave = gave; ends = asked_ends a (Rose faults faults_now) bytes ReadFault (refusal ReadFault) old new r (read_asked a bytes, failed.1) says }

-- nothing was read
pub none_given : (left : Option (List ℕ)) (given : ℕ) → Gave left left given given []
none_given None given = (tt, omega arith)
none_given (Some bytes) given = (refl, omega arith)

-- a failed read has its line
pub read_refuses : (old new : Option (List ℕ)) (r : Status) → SaysIt ReadFault (refusal ReadFault) old new r → WritesRefusal old new r
read_refuses old new r (inl h) = rw h.0 h.1
read_refuses old new r (inr h) = rw h.0 tt

-- what is answered for the element that was found is what is answered for the element that is asked for
pub one_element : (P : ℕ → ℕ → Type 0) (found asked : Option Request) (r : Request) (a b p d : ℕ) → found ≡ Some r → r ≡ May a b → found ≡ asked → asked ≡ Some (May p d) → P a b → P p d
one_element P found asked r a b p d some is same wanted h =
    let e : Some (May a b) ≡ Some (May p d) = cc (some, is, same, wanted) in
    let left : a ≡ p = cc e in
    let right : b ≡ d = cc e in
    subst (λ (x : ℕ). P x d) left (subst (λ (y : ℕ). P a y) right h)

-- the same for the torus
pub one_sample : (P : ℕ → ℕ → Type 0) (found asked : Option Request) (r : Request) (a b n p : ℕ) → found ≡ Some r → r ≡ Sample a b → found ≡ asked → asked ≡ Some (Sample n p) → P a b → P n p
one_sample P found asked r a b n p some is same wanted h =
    let e : Some (Sample a b) ≡ Some (Sample n p) = cc (some, is, same, wanted) in
    let left : a ≡ n = cc e in
    let right : b ≡ p = cc e in
    subst (λ (x : ℕ). P x p) left (subst (λ (y : ℕ). P a y) right h)

pub may_ends : (p d : ℕ) (s : Status) (text : List ℕ) (old new : Option (List ℕ)) (r : Status) → MayAnswers p d s text → SaysIt s text old new r → Ends (MayAnswers p d) old new r
may_ends p d s text old new r a says = said_ends (MayAnswers p d) s text old new r (λ h. h) a says

pub memory_ends_may : (p d : ℕ) (old new : Option (List ℕ)) (r : Status) → SaysIt OutOfMemory (refusal OutOfMemory) old new r → Ends (MayAnswers p d) old new r
memory_ends_may p d old new r says = may_ends p d OutOfMemory (refusal OutOfMemory) old new r refl says

pub sample_ends : (n p : ℕ) (s : Status) (text : List ℕ) (old new : Option (List ℕ)) (r : Status) → SampleAnswers n p s text → SaysIt s text old new r → Ends (SampleAnswers n p) old new r
sample_ends n p s text old new r a says = said_ends (SampleAnswers n p) s text old new r (λ h. h) a says

pub memory_ends_sample : (n p : ℕ) (old new : Option (List ℕ)) (r : Status) → SaysIt OutOfMemory (refusal OutOfMemory) old new r → Ends (SampleAnswers n p) old new r
memory_ends_sample n p old new r says = sample_ends n p OutOfMemory (refusal OutOfMemory) old new r refl says

pub memory_ends_words : (old new : Option (List ℕ)) (r : Status) → SaysIt OutOfMemory (refusal OutOfMemory) old new r → Ends RefusesWords old new r
memory_ends_words old new r says = said_ends RefusesWords OutOfMemory (refusal OutOfMemory) old new r (λ h. h) refl says

pub words_end : (old new : Option (List ℕ)) (r : Status) → SaysIt BadWords (refusal BadWords) old new r → Ends RefusesWords old new r
words_end old new r says = said_ends RefusesWords BadWords (refusal BadWords) old new r (λ h. h) refl says

-- ---- what was read

-- nothing is left behind all that was read
pub all_read : (o : Option (List ℕ)) (bytes : List ℕ) → IsAtEnd o → bytes ++ unwrap_or o [] ≡ bytes
all_read None bytes h = append-nil bytes
all_read (Some xs) bytes h = rw h (append-nil bytes)

pub whole_answers : (a : Asked) (left left_now : Option (List ℕ)) (given given_now : ℕ) (bytes : List ℕ) (result : Result (Status × List ℕ) Stop) → Gave left left_now given given_now bytes → IsAtEnd left_now
    → IfOk result (λ p. AskedAnswers a bytes p.0 p.1) → AnswersRead a left left_now given given_now result
whole_answers a left left_now given given_now bytes result gave end h = record {
  read = bytes;
  gave = gave;
  answer = subst (λ (xs : List ℕ). IfOk result (λ p. AskedAnswers a xs p.0 p.1)) (sym (all_read left_now bytes end)) h;
}

-- so many bytes are more than may be read
refused_as_long : (bytes : List ℕ) → 1048576 < length bytes → input_of bytes ≡ Err (record { kind = TooLong; line = 0 })
unfolding input_of
refused_as_long bytes h = rw (lt-ltb 1048576 (length bytes) h) refl

long_asked : (a : Asked) (bytes text : List ℕ) → most_bytes a < length bytes → text ≡ refusal (InputRefused TooLong 0) → AskedAnswers a bytes (InputRefused TooLong 0) text
long_asked (asked.OfJob w) bytes text long text_is = (refused_as_long bytes long, text_is)
long_asked asked.Verdict bytes text long text_is = (long, refl, refl, text_is)

pub long_answers : (a : Asked) (left left_now : Option (List ℕ)) (given given_now most : ℕ) (e : ReadEnd) (s : Status) (text : List ℕ) → most ≡ most_bytes a → e ≡ end.TooLong
    → ReadGave most left left_now given given_now (Err e) → s ≡ InputRefused TooLong 0 → text ≡ refusal (InputRefused TooLong 0) → AnswersRead a left left_now given given_now (Ok (s, text))
long_answers a left left_now given given_now most e s text most_is long gave same text_is =
    let h : ReadGave most left left_now given given_now (Err end.TooLong) = subst (λ (x : ReadEnd). ReadGave most left left_now given given_now (Err x)) long gave in
    record {
      read = h.0;
      gave = h.2;
      answer = rw same (long_asked a (h.0 ++ unwrap_or left_now []) text (omega (arith, most_is, h.1, length-append h.0 (unwrap_or left_now []))) text_is);
    }

-- what the bytes were that a source gave which tells what it has left
pub told_ends : (answers : List ℕ → Status → List ℕ → Type 0) (bytes : List ℕ) (left_now : Option (List ℕ)) (given given_now faults faults_now : ℕ) (old new : Option (List ℕ)) (r : Status)
    → EndsRead answers (Some bytes) left_now given given_now faults faults_now old new r → Ends (AtFault (Rose faults faults_now) (answers bytes)) old new r
told_ends answers bytes None given given_now faults faults_now old new r h = absurd h.gave.0
told_ends answers bytes (Some rest) given given_now faults faults_now old new r h =
    subst (λ (xs : List ℕ). Ends (AtFault (Rose faults faults_now) (answers xs)) old new r) (sym h.gave.0) h.ends

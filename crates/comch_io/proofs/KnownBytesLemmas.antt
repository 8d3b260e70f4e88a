-- Known bytes over several reads and writes, one after another.
use Rattle.std.proofs.Common.{ℕ, ◌+◌, ◌-◌, ◌≤◌, List, [], ◌++◌, length, take, drop, ap, sym, ◌∙◌, append_assoc, arith, length-append, Some, None, Err}
use Rattle.std.proofs.Math.Seq.{take-add}
use Rattle.std.proofs.lemmas.List.{take_rest}
use Rattle.std.specs.declared.option.Option.{Option}
use Rattle.std.specs.Io.KnownBytes.{Consumes, Appends, Keeps}
use Rattle.comch_io.specs.declared.read_end.ReadEnd.{ReadEnd}
use Rattle.comch_io.specs.declared.read_end.ReadEnd.TheVariants.{Fault, TooLong, OutOfMemory}
use Rattle.comch_io.specs.Reading.{Gave, PieceGave, ReadGave}

pub consumes_both : (a b c : Option (List ℕ)) (x y : List ℕ) → Consumes a b x → Consumes b c y → Consumes a c (x ++ y)
consumes_both None b c x y p q = tt
consumes_both (Some a) None c x y p q = absurd p
consumes_both (Some a) (Some b) None x y p q = absurd q
consumes_both (Some a) (Some b) (Some c) x y p q = p ∙ ap (λ (v : List ℕ). x ++ v) q ∙ sym (append_assoc x y c)

pub appends_both : (a b c : Option (List ℕ)) (x y : List ℕ) → Appends a b x → Appends b c y → Appends a c (x ++ y)
appends_both None b c x y p q = tt
appends_both (Some a) None c x y p q = absurd p
appends_both (Some a) (Some b) None x y p q = absurd q
appends_both (Some a) (Some b) (Some c) x y p q = q ∙ ap (λ (v : List ℕ). v ++ y) p ∙ append_assoc a x y

pub appends_kept : (a b c : Option (List ℕ)) (x : List ℕ) → Appends a b x → Keeps b c → Appends a c x
appends_kept None b c x p q = tt
appends_kept (Some a) None c x p q = absurd p
appends_kept (Some a) (Some b) None x p q = absurd q
appends_kept (Some a) (Some b) (Some c) x p q = q ∙ p

-- a write of a front of what is left of a text
pub appends_more : (a b c : Option (List ℕ)) (text : List ℕ) (i n : ℕ) → Appends a b (take i text) → Appends b c (take n (take (length text - i) (drop i text))) → Appends a c (take (i + n) text)
appends_more a b c text i n p q = rw (take-add i n text) (appends_both a b c _ _ p (rw (take_rest text i) at q))

-- bytes that were given one after another
pub gave_both : (a b c : Option (List ℕ)) (i j k : ℕ) (x y : List ℕ) → Gave a b i j x → Gave b c j k y → Gave a c i k (x ++ y)
gave_both a b c i j k x y p q = (consumes_both a b c x y p.0 q.0, omega (arith, length-append x y, p.1, q.1))

-- a read that did not come to its end after others that took these bytes
pub piece_gave : (limit most : ℕ) (old mid new : Option (List ℕ)) (i j k : ℕ) (all more : List ℕ) (e : ReadEnd) → Gave old mid i j all → most + length all ≤ limit
    → PieceGave most mid new j k all more (Err e) → ReadGave limit old new i k (Err e)
piece_gave limit most old mid new i j k all more Fault p le q =
    (all ++ [], simp length-append (omega arith), gave_both old mid new i j k all [] p q)
piece_gave limit most old mid new i j k all more TooLong p le q = absurd q
piece_gave limit most old mid new i j k all more OutOfMemory p le q =
    (all ++ q.0, omega (arith, length-append all q.0, q.1), gave_both old mid new i j k all q.0 p q.2)

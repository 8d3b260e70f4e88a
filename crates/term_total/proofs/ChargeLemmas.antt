-- Charges: the first sum that passes a limit, and numbers that are cut off.
use Rattle.std.{proofs.Common.{◌≡◌, ℕ, zero, suc, ◌+◌, ◌-◌, ◌*◌, ◌/◌, ◌%◌, ◌^◌, ◌<◌, ◌≤◌, Bool, true, false, List, [], ◌∷◌, ◌++◌, map, arith, refl, sym, ap, ap₂, ◌∙◌, inl, inr, ltb, Some, None, if◌then◌else◌, subst, append_assoc, drop, get_or, length, Result, Ok, Err, flat_map, min, lt-ltb, le-ltb, OnOk}, specs.Result.{IsErr, IsErrAnd}, proofs.lemmas.Bool.{cases_lt, false≢true}, proofs.lemmas.List.{at_drop_all, at_drop_more}, proofs.lemmas.Option.none-some}
use Rattle.may_elements.specs.{Counted.{Count, charged, counted, cut_off, over}, declared.elements.MayRefused.MayRefused, declared.elements.MayRefused.TheVariants.{TooManyTerms, OutOfMemory}, declared.terms.Over.Over}
use Rattle.linear_law.specs.Names.{sum_over, Each}
use Rattle.report_law.specs.Names.{first_past, printed_count}
use Rattle.term_total.{specs.Names.{Charges, IsCount, repeated, sum_of}, proofs.RowLemmas.repeated-map}

step : (limit s x : ℕ) (xs : List ℕ) (t : Bool) → ltb limit (s + x) ≡ t → first_past limit s (x ∷ xs) ≡ (if t then Some (printed_count (s + x)) else first_past limit (s + x) xs)
step limit s x xs t e = ap (λ b. if b then Some (printed_count (s + x)) else first_past limit (s + x) xs) e

-- where no sum passes the limit, the next one is looked at from the sum of all
past-next : (limit s : ℕ) (xs ys : List ℕ) → first_past limit s xs ≡ None → first_past limit s (xs ++ ys) ≡ first_past limit (s + sum_of xs) ys
past-next limit s [] ys h = let e : s ≡ s + 0 = omega arith in ap (λ n. first_past limit n ys) e
past-next limit s (x ∷ xs) ys h = elim (cases_lt limit (s + x)) [
  | inl b ↦ absurd (none-some (printed_count (s + x)) (sym h ∙ step limit s x xs true (lt-ltb limit (s + x) b)))
  | inr b ↦
      let t = le-ltb limit (s + x) b in
      let e : s + x + sum_of xs ≡ s + (x + sum_of xs) = omega arith in
      step limit s x (xs ++ ys) false t ∙ past-next limit (s + x) xs ys (sym (step limit s x xs false t) ∙ h) ∙ ap (λ n. first_past limit n ys) e
]

past-none : (limit s : ℕ) (xs : List ℕ) → s + sum_of xs ≤ limit → first_past limit s xs ≡ None
past-none limit s [] h = refl
past-none limit s (x ∷ xs) h =
    let low : s + x ≤ limit = omega arith in
    step limit s x xs false (le-ltb limit (s + x) low) ∙ past-none limit (s + x) xs (omega arith)

past-within : (limit s : ℕ) (xs : List ℕ) → s ≤ limit → first_past limit s xs ≡ None → s + sum_of xs ≤ limit
past-within limit s [] l h = omega arith
past-within limit s (x ∷ xs) l h = elim (cases_lt limit (s + x)) [
  | inl b ↦ absurd (none-some (printed_count (s + x)) (sym h ∙ step limit s x xs true (lt-ltb limit (s + x) b)))
  | inr b ↦
      let r = past-within limit (s + x) xs b (sym (step limit s x xs false (le-ltb limit (s + x) b)) ∙ h) in
      omega arith
]

-- numbers that were all charged are small
pub charged-small : {X : Type 0} (f : X → ℕ) (old new : Count) (xs : List X) (r : Result Unit MayRefused) → IsCount old → Charges old (map f xs) r new → OnOk r (Each (λ x. f x ≤ 10 ^ 12) xs)
charged-small f old new xs (Err e) h c = tt
charged-small f old new xs (Ok u) h c = go xs (let w = past-within old.limit old.used (map f xs) h.within c.0 in omega (arith, w, h.low))
  where
    go : (xs : List _) → sum_of (map f xs) ≤ 10 ^ 12 → Each (λ x. f x ≤ 10 ^ 12) xs
    go [] l = tt
    go (x ∷ xs) l = (omega arith, go xs (omega arith))

past-some : (limit s n : ℕ) (xs ys : List ℕ) → first_past limit s xs ≡ Some n → first_past limit s (xs ++ ys) ≡ Some n
past-some limit s n [] ys h = absurd (none-some n h)
past-some limit s n (x ∷ xs) ys h = elim (cases_lt limit (s + x)) [
  | inl b ↦ step limit s x (xs ++ ys) true (lt-ltb limit (s + x) b) ∙ sym (step limit s x xs true (lt-ltb limit (s + x) b)) ∙ h
  | inr b ↦
      let e = le-ltb limit (s + x) b in
      step limit s x (xs ++ ys) false e ∙ past-some limit (s + x) n xs ys (sym (step limit s x xs false e) ∙ h)
]

sum-append : (xs ys : List ℕ) → sum_of (xs ++ ys) ≡ sum_of xs + sum_of ys
sum-append [] ys = omega arith
sum-append (x ∷ xs) ys = let r = sum-append xs ys in omega arith

sum-repeated : (k : ℕ) (xs : List ℕ) → sum_of (repeated k xs) ≡ k * sum_of xs
sum-repeated zero xs = omega arith
sum-repeated (suc k) xs = let r = sum-repeated k xs in let e = sum-append xs (repeated k xs) in omega (arith, r, e)

repeated-plus : (j k : ℕ) (xs : List ℕ) → repeated (j + suc k) xs ≡ repeated j xs ++ (xs ++ repeated k xs)
repeated-plus zero k xs = let e : 0 + suc k ≡ suc k = omega arith in ap (λ n. repeated n xs) e
repeated-plus (suc j) k xs =
    let e : suc j + suc k ≡ suc (j + suc k) = omega arith in
    ap (λ n. repeated n xs) e ∙ ap (λ ys. xs ++ ys) (repeated-plus j k xs) ∙ sym (append_assoc xs (repeated j xs) (xs ++ repeated k xs))

-- where whole rows fit j times and the next row does not fit, that row tells
past-rows : (limit s j k n : ℕ) (xs : List ℕ) → s + j * sum_of xs ≤ limit → j < k → first_past limit (s + j * sum_of xs) xs ≡ Some n → first_past limit s (repeated k xs) ≡ Some n
past-rows limit s j k n xs low less h =
    let e : k ≡ j + suc (k - suc j) = omega arith in
    let sums = sum-repeated j xs in
    ap (λ m. first_past limit s (repeated m xs)) e ∙ ap (first_past limit s) (repeated-plus j (k - suc j) xs)
    ∙ past-next limit s (repeated j xs) (xs ++ repeated (k - suc j) xs) (past-none limit s (repeated j xs) (omega (arith, low, sums)))
    ∙ ap (λ m. first_past limit (s + m) (xs ++ repeated (k - suc j) xs)) sums
    ∙ past-some limit (s + j * sum_of xs) n xs (repeated (k - suc j) xs) h

-- ---- numbers that are cut off

cut-small : (n : ℕ) → n ≤ 10 ^ 15 → cut_off n ≡ n
cut-small n h = omega arith

cut-large : (n : ℕ) → 10 ^ 15 ≤ n → cut_off n ≡ 10 ^ 15
cut-large n h = omega arith

pub cut-plus : (a b : ℕ) → cut_off (cut_off a + cut_off b) ≡ cut_off (a + b)
cut-plus a b = omega arith

pub cut-times : (a b : ℕ) → cut_off (a * cut_off b) ≡ cut_off (a * b)
cut-times zero b = let e : zero * cut_off b ≡ zero * b = omega arith in ap cut_off e
cut-times (suc a) b = elim (cases_lt b (10 ^ 15)) [
  | inl l ↦ ap (λ m. cut_off (suc a * m)) (cut-small b (omega arith))
  | inr g ↦
      let one : 10 ^ 15 ≤ suc a * b = omega arith in
      let c = cut-large b g in
      let two : 10 ^ 15 ≤ suc a * cut_off b = let d : suc a * cut_off b ≡ suc a * 10 ^ 15 = ap (λ m. suc a * m) c in omega arith in
      cut-large (suc a * cut_off b) two ∙ sym (cut-large (suc a * b) one)
]

past-cut : (limit s : ℕ) (xs : List ℕ) → limit ≤ 10 ^ 12 → first_past limit s (map cut_off xs) ≡ first_past limit s xs
past-cut limit s [] l = refl
past-cut limit s (x ∷ xs) l = elim (cases_lt limit (s + x)) [
  | inl b ↦
      let over : limit < s + cut_off x = omega arith in
      let same : printed_count (s + cut_off x) ≡ printed_count (s + x) = omega arith in
      step limit s (cut_off x) (map cut_off xs) true (lt-ltb limit (s + cut_off x) over) ∙ ap (λ n. Some n) same ∙ sym (step limit s x xs true (lt-ltb limit (s + x) b))
  | inr b ↦
      let small : cut_off x ≡ x = omega arith in
      ap (λ m. first_past limit s (m ∷ map cut_off xs)) small ∙ step limit s x (map cut_off xs) false (le-ltb limit (s + x) b) ∙ past-cut limit (s + x) xs l
      ∙ sym (step limit s x xs false (le-ltb limit (s + x) b))
]

sum-cut : (limit s : ℕ) (xs : List ℕ) → limit ≤ 10 ^ 12 → s + sum_of xs ≤ limit → sum_of (map cut_off xs) ≡ sum_of xs
sum-cut limit s [] l h = refl
sum-cut limit s (x ∷ xs) l h = let r = sum-cut limit (s + x) xs l (omega arith) in let c : cut_off x ≡ x = omega arith in omega arith

-- ---- charges, one after the other

pub count-after : (old new : Count) (xs : List ℕ) (u : Unit) → IsCount old → Charges old xs (Ok u) new → IsCount new
count-after old new xs u h c =
    let r = past-within old.limit old.used xs h.within c.0 in
    subst IsCount (sym c.1) (record { within = r; low = h.low })

pub charges-one : (old new : Count) (n : ℕ) (u : Unit) → old.used + n ≤ old.limit → new ≡ charged old n → Charges old (n ∷ []) (Ok u) new
charges-one old new n u l e = (past-none old.limit old.used (n ∷ []) (omega arith), e ∙ (let s : n ≡ n + 0 = omega arith in ap (charged old) s))

pub charges-over : (old new : Count) (n : ℕ) (o : Over) → old.limit < old.used + n → o ≡ over old n → Charges old (n ∷ []) (Err (TooManyTerms o)) new
charges-over old new n o l e = (step old.limit old.used n [] true (lt-ltb old.limit (old.used + n) l) ∙ ap (λ (x : Over). Some x.count) (sym e), ap (λ (x : Over). x.limit) e)

-- numbers that were cut off are charged as they are
charges-cut : (old new : Count) (xs : List ℕ) (r : Result Unit MayRefused) → IsCount old → Charges old (map cut_off xs) r new → Charges old xs r new
charges-cut old new xs (Err OutOfMemory) h c = tt
charges-cut old new xs (Err (TooManyTerms o)) h c = (sym (past-cut old.limit old.used xs h.low) ∙ c.0, c.1)
charges-cut old new xs (Ok u) h c =
    let none : first_past old.limit old.used xs ≡ None = sym (past-cut old.limit old.used xs h.low) ∙ c.0 in
    let w = past-within old.limit old.used xs h.within none in
    (none, c.1 ∙ ap (charged old) (sum-cut old.limit old.used xs h.low w))

pub rows-cut : (old new : Count) (times : ℕ) (row ns : List ℕ) (r : Result Unit MayRefused) → IsCount old → row ≡ map cut_off ns → Charges old (repeated times row) r new → Charges old (repeated times ns) r new
rows-cut old new times row ns r h e c =
    charges-cut old new (repeated times ns) r h (subst (λ xs. Charges old xs r new) (ap (repeated times) e ∙ repeated-map times cut_off ns) c)

-- what `?` hands on is the refusal
residual-is : (r : Result Unit MayRefused) (e : MayRefused) → IsErr r × IsErrAnd r (λ f. f ≡ e) → r ≡ Err e
residual-is (Ok u) e h = absurd (false≢true h.0)
residual-is (Err f) e h = ap Err h.1

-- Of all numbers that are charged from `old` on, these are left to be charged from `mid` on.
pub record IsLeft (old mid : Count) (all rest : List ℕ) : Type 0 where
  pub limit : mid.limit ≡ old.limit
  pub past : first_past old.limit old.used all ≡ first_past old.limit mid.used rest
  pub used : old.used + sum_of all ≡ mid.used + sum_of rest

pub all-left : (t : Count) (all : List ℕ) → IsLeft t t all all
all-left t all = record { limit = refl; past = refl; used = refl }

module _ (old mid new : Count) (all xs rest : List ℕ) (h : IsLeft old mid all (xs ++ rest)) where
  pub left-less : (u : Unit) → Charges mid xs (Ok u) new → IsLeft old new all rest
  left-less u c =
      let none : first_past old.limit mid.used xs ≡ None = ap (λ l. first_past l mid.used xs) (sym h.limit) ∙ c.0 in
      let more : mid.used + sum_of xs ≡ new.used = ap (λ (t : Count). t.used) (sym c.1) in
      let sum = sum-append xs rest in
      let used = h.used in
      record {
        limit = ap (λ (t : Count). t.limit) c.1 ∙ h.limit;
        past = h.past ∙ past-next old.limit mid.used xs rest none ∙ ap (λ s. first_past old.limit s rest) more;
        used = omega (arith, used, sum, more);
      }

  pub left-err : (other : Count) (f : MayRefused) → Charges mid xs (Err f) new → Charges old all (Err f) other
  left-err other OutOfMemory d = tt
  left-err other (TooManyTerms o) d = (
    h.past ∙ past-some old.limit mid.used o.count xs rest (ap (λ l. first_past l mid.used xs) (sym h.limit) ∙ d.0),
    d.1 ∙ h.limit,
  )

  pub left-refused : (other : Count) (r : Result Unit MayRefused) (e : MayRefused) → Charges mid xs (Err e) new → IsErr r × IsErrAnd r (λ f. f ≡ e) → Charges old all r other
  left-refused other r e c k = subst (λ s. Charges old all s other) (sym (residual-is r e k)) (left-err other e c)

pub none-left : (old mid : Count) (all : List ℕ) (u : Unit) → IsLeft old mid all [] → Charges old all (Ok u) mid
none-left old mid all u h =
    let used = h.used in
    let e : mid.used ≡ old.used + sum_of all = omega (arith, used) in
    (h.past, ap₂ counted h.limit e)

-- the numbers of a list of items, where those of the first i are charged
module _ {X : Type 0} (f : X → List ℕ) (xs : List X) (i : ℕ) (old mid : Count) (all : List ℕ) (h : IsLeft old mid all (flat_map f (drop i xs))) where
  module _ (new : Count) (x : X) (here : i < length xs) (is : x ≡ get_or xs i x) where
    next : IsLeft old mid all (f x ++ flat_map f (drop (i + 1) xs))
    next = subst (IsLeft old mid all) (at_drop_more (flat_map f) xs i x here ∙ ap (λ z. f z ++ flat_map f (drop (i + 1) xs)) (sym is)) h

    pub item-charged : (u : Unit) → Charges mid (f x) (Ok u) new → IsLeft old new all (flat_map f (drop (i + 1) xs))
    item-charged u c = left-less old mid new all (f x) (flat_map f (drop (i + 1) xs)) next u c

    pub item-refused : (other : Count) (r : Result Unit MayRefused) (e : MayRefused) → Charges mid (f x) (Err e) new → IsErr r × IsErrAnd r (λ g. g ≡ e) → Charges old all r other
    item-refused other r e c k = left-refused old mid new all (f x) (flat_map f (drop (i + 1) xs)) next other r e c k

  pub items-charged : (u : Unit) → length xs ≤ i → Charges old all (Ok u) mid
  items-charged u l = none-left old mid all u (subst (IsLeft old mid all) (at_drop_all (flat_map f) xs i l) h)

pub singles : {X Y : Type 0} (f : X → Y) (xs : List X) → flat_map (λ x. f x ∷ []) xs ≡ map f xs
singles f [] = refl
singles f (x ∷ xs) = ap (λ ns. f x ∷ ns) (singles f xs)

pub singles-left : {X : Type 0} (f : X → ℕ) (xs : List X) (t : Count) → IsLeft t t (map f xs) (flat_map (λ x. f x ∷ []) xs)
singles-left f xs t = subst (IsLeft t t (map f xs)) (sym (singles f xs)) (all-left t (map f xs))

-- ---- rows

times-le : (k a b : ℕ) → a ≤ b → k * a ≤ k * b
times-le zero a b h = omega arith
times-le (suc k) a b h = let r = times-le k a b h in omega (arith, r)

-- rows that fit are charged together
pub rows-fit : (old new : Count) (row : List ℕ) (whole sum : ℕ) (u : Unit) → IsCount old → sum ≡ cut_off (sum_of row) → whole * sum ≤ old.limit - old.used
    → Charges old (whole * sum ∷ []) (Ok u) new → (new ≡ charged old (sum_of (repeated whole row))) × IsCount new
rows-fit old new row whole sum u h s f c =
    let limit_low = h.low in
    let within = h.within in
    let same : whole * sum ≡ whole * sum_of row = elim (cases_lt (sum_of row) (10 ^ 15)) [
      | inl l ↦ ap (λ m. whole * m) (s ∙ cut-small (sum_of row) (omega arith))
      | inr g ↦
          let big : sum ≡ 10 ^ 15 = s ∙ cut-large (sum_of row) g in
          let bound : whole * 10 ^ 15 ≤ 10 ^ 12 = (let e : whole * sum ≡ whole * 10 ^ 15 = ap (λ m. whole * m) big in omega (arith, e)) in
          let none : whole ≡ 0 = omega arith in
          ap (λ m. m * sum) none ∙ (let z : 0 * sum ≡ 0 * sum_of row = omega arith in z) ∙ ap (λ m. m * sum_of row) (sym none)
    ] in
    let r = sum-repeated whole row in (
      c.1 ∙ (let e : whole * sum + 0 ≡ sum_of (repeated whole row) = omega (arith, same, r) in ap (charged old) e),
      count-after old new (whole * sum ∷ []) u h c,
    )

-- all rows fit
pub rows-all : (old new : Count) (row : List ℕ) (times : ℕ) (u : Unit) → new ≡ charged old (sum_of (repeated times row)) → IsCount new → Charges old (repeated times row) (Ok u) new
rows-all old new row times u e h =
    let w : old.used + sum_of (repeated times row) ≤ old.limit = (subst IsCount e h).within in
    (past-none old.limit old.used (repeated times row) w, e)

-- the next row does not fit
pub rows-pass : (old mid new : Count) (row : List ℕ) (times whole sum : ℕ) (r : Result Unit MayRefused) → sum ≡ cut_off (sum_of row) → whole < times → old.limit - old.used < whole * sum + sum
    → mid ≡ charged old (sum_of (repeated whole row)) → IsCount mid → Charges mid row r new → Charges old (repeated times row) r new
rows-pass old mid new row times whole sum (Ok u) s l f m k c =
    let w = past-within mid.limit mid.used row k.within c.0 in
    let limits : mid.limit ≡ old.limit = ap (λ (x : Count). x.limit) m in
    let used : mid.used ≡ old.used + sum_of (repeated whole row) = ap (λ (x : Count). x.used) m in
    let sums = sum-repeated whole row in
    let less : sum ≤ sum_of row = omega arith in
    let product : whole * sum ≤ whole * sum_of row = times-le whole sum (sum_of row) less in
    absurd (omega (arith, w, limits, used, sums, product, f, less))
rows-pass old mid new row times whole sum (Err OutOfMemory) s l f m k c = tt
rows-pass old mid new row times whole sum (Err (TooManyTerms o)) s l f m k c =
    let sums = sum-repeated whole row in
    let within : old.used + whole * sum_of row ≤ old.limit = let w : old.used + sum_of (repeated whole row) ≤ old.limit = (subst IsCount m k).within in omega (arith, w, sums) in
    let d : first_past old.limit (old.used + whole * sum_of row) row ≡ Some o.count =
    ap (λ n. first_past old.limit (old.used + n) row) (sym sums) ∙ ap (λ (x : Count). first_past x.limit x.used row) (sym m) ∙ c.0 in
    (past-rows old.limit old.used whole times o.count row within l d, c.1 ∙ ap (λ (x : Count). x.limit) m)

-- ---- how many rows fit

-- so many rows fit, and no more unless all do
pub record AreMost (times sum left whole : ℕ) : Type 0 where
  pub fit : whole * sum ≤ left
  pub few : whole ≤ times
  pub most : whole < times → left < whole * sum + sum

pub whole-zero : (times whole sum left : ℕ) → sum ≡ 0 → whole ≡ times → AreMost times sum left whole
whole-zero times whole sum left z w = record { fit = (let e : whole * sum ≡ whole * 0 = ap (λ m. whole * m) z in omega (arith, e)); few = omega (arith, w); most = λ l. absurd (omega (arith, l, w)) }

pub whole-least : (times whole sum left : ℕ) → 0 < sum → whole ≡ min times (left / sum) → AreMost times sum left whole
whole-least times whole sum left some w =
    let parts : left ≡ left / sum * sum + left % sum = omega arith in
    let rest : left % sum < sum = omega arith in
    let low : whole ≤ left / sum = omega (arith, w) in
    let bound : whole * sum ≤ left / sum * sum = (let t = times-le sum whole (left / sum) low in omega (arith, t)) in
    record {
      fit = omega (arith, parts, bound);
      few = omega (arith, w);
      most = λ l.
          let same : whole ≡ left / sum = omega (arith, w, l) in
          let e : whole * sum ≡ left / sum * sum = ap (λ m. m * sum) same in
          omega (arith, parts, rest, e);
    }

-- a charge that fits is refused for want of memory alone
pub fits-refused : (old new other : Count) (n : ℕ) (all : List ℕ) (r : Result Unit MayRefused) (e : MayRefused) → IsCount old → n ≤ old.limit - old.used → Charges old (n ∷ []) (Err e) new → IsErr r × IsErrAnd r (λ f. f ≡ e)
    → Charges old all r other
fits-refused old new other n all r e h l c k = subst (λ s. Charges old all s other) (sym (residual-is r e k)) (go e c)
  where
    go : (f : MayRefused) → Charges old (n ∷ []) (Err f) new → Charges old all (Err f) other
    go OutOfMemory d = tt
    go (TooManyTerms o) d =
        let within = h.within in
        let one : old.used + sum_of (n ∷ []) ≤ old.limit = omega (arith, within, l) in
        absurd (none-some o.count (sym (past-none old.limit old.used (n ∷ []) one) ∙ d.0))

-- of a sum that is cut off, `rest` is left to be added to `sum`
pub record IsSummed (all rest sum : ℕ) : Type 0 where
  pub is : cut_off (sum + rest) ≡ cut_off all
  pub low : sum ≤ 10 ^ 15

pub none-summed : (all : ℕ) → IsSummed all all 0
none-summed all = record { is = (let e : 0 + all ≡ all = omega arith in ap cut_off e); low = omega arith }

pub one-summed : {X : Type 0} (f : X → ℕ) (xs : List X) (i : ℕ) (x : X) (all sum n new : ℕ) → i < length xs → x ≡ get_or xs i x → cut_off n ≡ cut_off (f x) → new ≡ cut_off (sum + n)
    → IsSummed all (sum_over f (drop i xs)) sum → IsSummed all (sum_over f (drop (i + 1) xs)) new
one-summed f xs i x all sum n new here is c e h =
    let rest : sum_over f (drop i xs) ≡ f x + sum_over f (drop (i + 1) xs) = at_drop_more (sum_over f) xs i x here ∙ ap (λ z. f z + sum_over f (drop (i + 1) xs)) (sym is) in
    let left = h.is in
    record { is = omega (arith, left, rest, c, e); low = omega (arith, e) }

pub all-summed : {X : Type 0} (f : X → ℕ) (xs : List X) (i all sum : ℕ) → length xs ≤ i → IsSummed all (sum_over f (drop i xs)) sum → sum ≡ cut_off all
all-summed f xs i all sum l h =
    let none : sum_over f (drop i xs) ≡ 0 = at_drop_all (sum_over f) xs i l in
    let is = h.is in
    let low = h.low in
    omega (arith, is, low, none)

flat-self : (ns : List ℕ) → flat_map (λ n. n ∷ []) ns ≡ ns
flat-self [] = refl
flat-self (n ∷ ns) = ap (λ ms. n ∷ ms) (flat-self ns)

pub self-left : (ns : List ℕ) (t : Count) → IsLeft t t ns (flat_map (λ n. n ∷ []) ns)
self-left ns t = subst (IsLeft t t ns) (sym (flat-self ns)) (all-left t ns)

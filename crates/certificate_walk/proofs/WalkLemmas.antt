-- Walks that are put together: two sections, and the loops over the items of a section.
use Rattle.std.proofs.{Common.{◌≡◌, ℕ, ◌+◌, ◌<◌, ◌≤◌, refl, sym, ◌∙◌, ap, subst, arith, Bool, true, false, List, [], ◌∷◌, ◌++◌, length, get_or, drop, take, append_assoc, Ok, Err, if◌then◌else◌, ◌↔◌, IsErrAnd, IsTrue, Result, length-append}, lemmas.Bool.false≢true, lemmas.List.{at_drop_more, drop_all, take_more}}
use Rattle.linear_law.{specs.Names.Each, proofs.Names.each_append}
use Rattle.certificate_law.specs.Names.{Stated, after, behind, numbered}
use Rattle.certificate_walk.specs.Names.{Stop, Fails, OutOfMemory, IsWalk}

-- ---- one line

pub walk_one : (P : Stated → Type 0) (before : ℕ) (s : Stated) (b : Bool) → (b ≡ true → P s) → (b ≡ false → P s → ⊥) →
    IsWalk P before (s ∷ []) (if b then Ok (before + 1) else Err (Fails (before + 1)))
walk_one P before s true holds fails = (refl, (holds refl, tt))
walk_one P before s false holds fails = record {
  number = 1;
  line_is = refl;
  fails = record { before = []; at = s; behind = []; split = refl; number_is = refl; holds = tt; fails = fails refl };
}

-- the same, where a test tells
pub walk_tested : (P : Stated → Type 0) (before : ℕ) (s : Stated) (b : Bool) (r : Result ℕ Stop) → (IsTrue b ↔ P s) → r ≡ (if b then Ok (before + 1) else Err (Fails (before + 1))) → IsWalk P before (s ∷ []) r
walk_tested P before s b r h e = subst (IsWalk P before (s ∷ [])) (sym e) (walk_one P before s b h.0 (λ e p. false≢true (sym e ∙ h.1 p)))

-- lines of which nothing is asked
pub walk_past : (P : Stated → Type 0) (before : ℕ) (lines : List Stated) (last : ℕ) → last ≡ before + length lines → Each P lines → IsWalk P before lines (Ok last)
walk_past P before lines last e h = (e, h)

-- an answer that is passed on
pub walk_passed : (P : Stated → Type 0) (before : ℕ) (lines : List Stated) (s : Stop) (r : Result ℕ Stop) → IsErrAnd r (λ e. e ≡ s) → IsWalk P before lines (Err s) → IsWalk P before lines r
walk_passed P before lines s (Ok last) h w = absurd h
walk_passed P before lines s (Err e) h w = subst (λ (t : Stop). IsWalk P before lines (Err t)) (sym h) w

-- ---- two sections

-- a walk of the first of two sections that stops
pub walk_stops : (P : Stated → Type 0) (before : ℕ) (xs ys : List Stated) (e : Stop) → IsWalk P before xs (Err e) → IsWalk P before (xs ++ ys) (Err e)
walk_stops P before xs ys (Fails line) h = record {
  number = h.number;
  line_is = h.line_is;
  fails = record {
    before = h.fails.before;
    at = h.fails.at;
    behind = h.fails.behind ++ ys;
    split = ap (λ zs. zs ++ ys) h.fails.split ∙ append_assoc h.fails.before (h.fails.at ∷ h.fails.behind) ys;
    number_is = h.fails.number_is;
    holds = h.fails.holds;
    fails = h.fails.fails;
  };
}
walk_stops P before xs ys OutOfMemory h = tt

-- a walk of the first that ends, and of the second
pub walk_both : (P : Stated → Type 0) (before : ℕ) (xs ys : List Stated) (at : ℕ) (r : Result ℕ Stop) → IsWalk P before xs (Ok at) → IsWalk P at ys r → IsWalk P before (xs ++ ys) r
walk_both P before xs ys at (Ok last) h k =
    let l = length-append xs ys in
    let a = h.0 in
    let b = k.0 in
    (omega (arith, l, a, b), each_append P xs ys h.1 k.1)
walk_both P before xs ys at (Err (Fails line)) h k = record {
  number = length xs + k.number;
  line_is = let a = h.0 in let b = k.line_is in omega (arith, a, b);
  fails = record {
    before = xs ++ k.fails.before;
    at = k.fails.at;
    behind = k.fails.behind;
    split = ap (λ zs. xs ++ zs) k.fails.split ∙ sym (append_assoc xs k.fails.before (k.fails.at ∷ k.fails.behind));
    number_is = let l = length-append xs k.fails.before in let n = k.fails.number_is in omega (arith, l, n);
    holds = each_append P xs k.fails.before h.1 k.fails.holds;
    fails = k.fails.fails;
  };
}
walk_both P before xs ys at (Err OutOfMemory) h k = tt

-- a line that is tested, and lines under it of which nothing is asked
pub walk_first : (P : Stated → Type 0) (before : ℕ) (s : Stated) (lines : List Stated) (b : Bool) (r : Result ℕ Stop) → (IsTrue b ↔ P s) → Each P lines →
    r ≡ (if b then Ok (before + (length lines + 1)) else Err (Fails (before + 1))) → IsWalk P before (s ∷ lines) r
walk_first P before s lines b r h u e = subst (IsWalk P before (s ∷ lines)) (sym e) (elim b as (λ t. (IsTrue t ↔ P s) → IsWalk P before (s ∷ lines) (if t then Ok (before + (length lines + 1)) else Err (Fails (before + 1)))) [
  | true ↦ λ g. (let n : before + (length lines + 1) ≡ before + length (s ∷ lines) = omega arith in n, (g.0 refl, u))
  | false ↦ λ g. walk_stops P before (s ∷ []) lines (Fails (before + 1)) (walk_one P before s false g.0 (λ e p. false≢true (g.1 p)))
] h)

-- ---- many

-- From line `at` on the rest is to be walked: what a walk of it says, it says of the whole.
pub record Leads (P : Stated → Type 0) (before : ℕ) (whole : List Stated) (at : ℕ) (rest : List Stated) : Type 0 where
  pub count : at + length rest ≡ before + length whole
  pub on : (r : Result ℕ Stop) → IsWalk P at rest r → IsWalk P before whole r

pub leads_start : (P : Stated → Type 0) (before : ℕ) (whole : List Stated) → Leads P before whole before whole
leads_start P before whole = record { count = refl; on = λ r h. h }

pub leads_more : (P : Stated → Type 0) (before : ℕ) (whole : List Stated) (at : ℕ) (rest xs ys : List Stated) (next : ℕ) → rest ≡ xs ++ ys → IsWalk P at xs (Ok next) → Leads P before whole at rest →
    Leads P before whole next ys
leads_more P before whole at rest xs ys next e h l = record {
  count = let n = length-append xs ys in let c : at + length (xs ++ ys) ≡ before + length whole = subst (λ (zs : List Stated). at + length zs ≡ before + length whole) e l.count in let a = h.0 in omega (arith, n, c, a);
  on = λ r k. l.on r (subst (λ (zs : List Stated). IsWalk P at zs r) (sym e) (walk_both P at xs ys next r h k));
}

pub leads_stop : (P : Stated → Type 0) (before : ℕ) (whole : List Stated) (at : ℕ) (rest xs ys : List Stated) (s : Stop) → rest ≡ xs ++ ys → IsWalk P at xs (Err s) → Leads P before whole at rest →
    IsWalk P before whole (Err s)
leads_stop P before whole at rest xs ys s e h l = l.on (Err s) (subst (λ (zs : List Stated). IsWalk P at zs (Err s)) (sym e) (walk_stops P at xs ys s h))

pub leads_end : (P : Stated → Type 0) (before : ℕ) (whole : List Stated) (at : ℕ) (rest : List Stated) → rest ≡ [] → Leads P before whole at rest → IsWalk P before whole (Ok at)
leads_end P before whole at rest e l = l.on (Ok at) (subst (λ (zs : List Stated). IsWalk P at zs (Ok at)) (sym e) (let z : at ≡ at + 0 = omega arith in (z, tt)))

-- room for a section of what is left
pub leads_room : (P : Stated → Type 0) (before : ℕ) (whole : List Stated) (at : ℕ) (rest xs ys : List Stated) → rest ≡ xs ++ ys → Leads P before whole at rest → at + length xs ≤ before + length whole
leads_room P before whole at rest xs ys e l =
    let n = length-append xs ys in
    let c : at + length (xs ++ ys) ≡ before + length whole = subst (λ (zs : List Stated). at + length zs ≡ before + length whole) e l.count in
    omega (arith, n, c)

-- ---- the items of a section

pub numbered_next : {X : Type 0} (line : ℕ → X → List Stated) (xs : List X) (k i : ℕ) (x : X) → i < length xs → x ≡ get_or xs i x → numbered line k (drop i xs) ≡ line k x ++ numbered line (k + 1) (drop (i + 1) xs)
numbered_next line xs k i x b e =
    at_drop_more (numbered line k) xs i x b ∙ ap (λ y. line k y ++ numbered line (k + 1) (drop (i + 1) xs)) (sym e)

pub behind_next : {X : Type 0} (line : List X → X → List Stated) (before xs : List X) (i : ℕ) (x : X) → i < length xs → x ≡ get_or xs i x → behind line before (drop i xs) ≡ line before x ++ behind line (before ++ x ∷ []) (drop (i + 1) xs)
behind_next line before xs i x b e =
    at_drop_more (behind line before) xs i x b ∙ ap (λ y. line before y ++ behind line (before ++ y ∷ []) (drop (i + 1) xs)) (sym e)

pub after_next : {X : Type 0} (line : List X → X → List Stated) (before xs : List X) (i : ℕ) (x : X) → i < length xs → x ≡ get_or xs i x → after line before (drop i xs) ≡ line before x ++ after line (x ∷ before) (drop (i + 1) xs)
after_next line before xs i x b e =
    at_drop_more (after line before) xs i x b ∙ ap (λ y. line before y ++ after line (y ∷ before) (drop (i + 1) xs)) (sym e)

pub numbered_none : {X : Type 0} (line : ℕ → X → List Stated) (xs : List X) (k i : ℕ) → length xs ≤ i → numbered line k (drop i xs) ≡ []
numbered_none line xs k i b = ap (numbered line k) (drop_all i xs b)

pub behind_none : {X : Type 0} (line : List X → X → List Stated) (before xs : List X) (i : ℕ) → length xs ≤ i → behind line before (drop i xs) ≡ []
behind_none line before xs i b = ap (behind line before) (drop_all i xs b)

pub after_none : {X : Type 0} (line : List X → X → List Stated) (before xs : List X) (i : ℕ) → length xs ≤ i → after line before (drop i xs) ≡ []
after_none line before xs i b = ap (after line before) (drop_all i xs b)

-- the next item of a section, walked to its end, or not; and the end of the section

pub numbered_more : {X : Type 0} (P : Stated → Type 0) (line : ℕ → X → List Stated) (xs : List X) (before at next i : ℕ) (x : X) → i < length xs → x ≡ get_or xs i x → IsWalk P at (line i x) (Ok next) →
    Leads P before (numbered line 0 xs) at (numbered line i (drop i xs)) → Leads P before (numbered line 0 xs) next (numbered line (i + 1) (drop (i + 1) xs))
numbered_more P line xs before at next i x b e h l =
    leads_more P before (numbered line 0 xs) at (numbered line i (drop i xs)) (line i x) (numbered line (i + 1) (drop (i + 1) xs)) next (numbered_next line xs i i x b e) h l

pub numbered_stop : {X : Type 0} (P : Stated → Type 0) (line : ℕ → X → List Stated) (xs : List X) (before at i : ℕ) (x : X) (s : Stop) → i < length xs → x ≡ get_or xs i x → IsWalk P at (line i x) (Err s) →
    Leads P before (numbered line 0 xs) at (numbered line i (drop i xs)) → IsWalk P before (numbered line 0 xs) (Err s)
numbered_stop P line xs before at i x s b e h l =
    leads_stop P before (numbered line 0 xs) at (numbered line i (drop i xs)) (line i x) (numbered line (i + 1) (drop (i + 1) xs)) s (numbered_next line xs i i x b e) h l

pub numbered_end : {X : Type 0} (P : Stated → Type 0) (line : ℕ → X → List Stated) (xs : List X) (before at i : ℕ) → length xs ≤ i → Leads P before (numbered line 0 xs) at (numbered line i (drop i xs)) →
    IsWalk P before (numbered line 0 xs) (Ok at)
numbered_end P line xs before at i b l = leads_end P before (numbered line 0 xs) at (numbered line i (drop i xs)) (numbered_none line xs i i b) l

-- the same for a section whose lines tell those before them

pub behind_more : {X : Type 0} (P : Stated → Type 0) (line : List X → X → List Stated) (xs : List X) (before at next i : ℕ) (x : X) → i < length xs → x ≡ get_or xs i x → IsWalk P at (line (take i xs) x) (Ok next) →
    Leads P before (behind line [] xs) at (behind line (take i xs) (drop i xs)) → Leads P before (behind line [] xs) next (behind line (take (i + 1) xs) (drop (i + 1) xs))
behind_more P line xs before at next i x b e h l =
    subst (λ (ys : List _). Leads P before (behind line [] xs) next (behind line ys (drop (i + 1) xs))) (sym (take_more xs i x b ∙ ap (λ y. take i xs ++ y ∷ []) (sym e)))
    (leads_more P before (behind line [] xs) at (behind line (take i xs) (drop i xs)) (line (take i xs) x) (behind line (take i xs ++ x ∷ []) (drop (i + 1) xs)) next (behind_next line (take i xs) xs i x b e) h l)

pub behind_stop : {X : Type 0} (P : Stated → Type 0) (line : List X → X → List Stated) (xs : List X) (before at i : ℕ) (x : X) (s : Stop) → i < length xs → x ≡ get_or xs i x → IsWalk P at (line (take i xs) x) (Err s) →
    Leads P before (behind line [] xs) at (behind line (take i xs) (drop i xs)) → IsWalk P before (behind line [] xs) (Err s)
behind_stop P line xs before at i x s b e h l =
    leads_stop P before (behind line [] xs) at (behind line (take i xs) (drop i xs)) (line (take i xs) x) (behind line (take i xs ++ x ∷ []) (drop (i + 1) xs)) s (behind_next line (take i xs) xs i x b e) h l

pub behind_end : {X : Type 0} (P : Stated → Type 0) (line : List X → X → List Stated) (xs : List X) (before at i : ℕ) → length xs ≤ i → Leads P before (behind line [] xs) at (behind line (take i xs) (drop i xs)) →
    IsWalk P before (behind line [] xs) (Ok at)
behind_end P line xs before at i b l = leads_end P before (behind line [] xs) at (behind line (take i xs) (drop i xs)) (behind_none line (take i xs) xs i b) l

-- Walks of the lines of a complex: of the chains of a degree, of a degree, and of all.
use Rattle.std.{proofs.Common.{◌≡◌, ℕ, ◌+◌, ◌<◌, ◌≤◌, Bool, true, false, if◌then◌else◌, MatchBool, inl, inr, sym, ◌∙◌, ap, subst, List, [], ◌∷◌, ◌++◌, map, length, get_or, take, drop, reverse, Result, Ok, Err, ◌^◌, arith, refl, ◌↔◌, zero, suc, ◌*◌, ◌==◌, IsTrue, sum_by, ltb-true}, proofs.lemmas.Bool.{and_parts, cases_lt, cases_order}, proofs.lemmas.List.{map-append, reverse-append, reverse-reverse, take_more, get_or-map}, specs.List.list_all, proofs.lemmas.List.Folds.{list_all-append, list_all-map}, proofs.lemmas.Bool.Decides.eqb_tells}
use Rattle.linear_law.{specs.Names.{Among, Each, IsAscending}, proofs.Names.{each_map, each_append}}
use Rattle.simplicial_law.specs.Names.{Chain, Cochain, coboundary, cochain_of}
use Rattle.complex_index.specs.Names.{IsIndexOf, level}
use Rattle.certificate_law.{specs.Types.{ComplexPart, DegreePart, CartanAnswer, Yes, No, below_line, class_line, facet_line, complex_line, degree_line}, specs.Names.{Asks, HasItsDegrees, Stated, after, below_stands, class_stands, degree_opens, degree_stated, answer_stated, behind, cartan_stands, cartan_stated, complex_ends, complex_opens, complex_stated, facet_stands, numbered, operation_column, operation_opens, operation_stated, product_column, product_opens, product_stated, with_stands, cycle_stands, coboundaries_of, simplex_count}, proofs.Places.in_append, proofs.Asked.{each_left, each_right, numbered_at}, proofs.WellFormed.facet_ascends}
use Rattle.report_law.specs.Names.{below_in}
use Rattle.report_text_law.specs.Names.{degree_lines, complex_lines, degrees_from, table_lines, is_chain, is_line, is_u32}
use Rattle.certificate_walk.{specs.Names.{IsWalk, operation_lines, product_lines}, specs.declared.stop.Stop.Stop, specs.declared.stop.Stop.TheVariants.{Fails, OutOfMemory}, proofs.Names.{Leads, after_next, after_none, leads_end, leads_more, leads_start, leads_stop, walk_both, walk_past, walk_stops, walk_tested, after_each, behind_each, cartans_length, numbered_sum, operation_length, product_length}}
use Rattle.listed_rows.proofs.{CountLemmas.simplices_counted, ValueLemmas.past_levels}
use Rattle.class_check.specs.{declared.question.Question.Question, Questions.{AreLeads, AreReady, IsAnswerOf, chain_lines, condition_of, others_of, stands_in}, declared.question.Question.TheVariants.{Below, Cocycle, Class}}

-- ---- lists of lines

never : (P : Stated → Type 0) (xs : List Stated) (s : Stated) (ys : List Stated) → Each P (xs ++ s ∷ ys) → (P s → ⊥) → ⊥
never P [] s ys h none = none h.0
never P (x ∷ xs) s ys h none = never P xs s ys h.1 none

-- where each line is as asked, a walk stops for want of memory alone
no_failure : (P Q : Stated → Type 0) (b d : ℕ) (xs ys : List Stated) (e : Stop) → Each P xs → IsWalk P b xs (Err e) → IsWalk Q d ys (Err e)
no_failure P Q b d xs ys (Fails line) h w = absurd (never P w.fails.before w.fails.at w.fails.behind (subst (Each P) w.fails.split h) w.fails.fails)
no_failure P Q b d xs ys OutOfMemory h w = tt

each_after : (P : Stated → Type 0) (line : List Chain → Chain → Stated) → ((seen : List Chain) (x : Chain) → P (line seen x)) → (seen xs : List Chain) → Each P (after (λ b x. line b x ∷ []) seen xs)
each_after P line h seen [] = tt
each_after P line h seen (x ∷ xs) = (h seen x, each_after P line h (x ∷ seen) xs)

each_numbered : {X : Type 0} (P : Stated → Type 0) (line : ℕ → X → List Stated) → ((k : ℕ) (x : X) → Each P (line k x)) → (k : ℕ) (xs : List X) → Each P (numbered line k xs)
each_numbered P line h k [] = tt
each_numbered P line h k (x ∷ xs) = each_append P (line k x) (numbered line (k + 1) xs) (h k x) (each_numbered P line h (k + 1) xs)

each_behind : {X : Type 0} (P : Stated → Type 0) (line : List X → X → Stated) → ((b : List X) (x : X) → P (line b x)) → (b xs : List X) → Each P (behind (λ b x. line b x ∷ []) b xs)
each_behind P line h b [] = tt
each_behind P line h b (x ∷ xs) = (h b x, each_behind P line h (b ++ x ∷ []) xs)

-- what was found out of lines was found out of a part of them
ready_part : (p : ℕ) (question : Question) (xs ys : List Stated) → ((P : Stated → Type 0) → Each P xs → Each P ys) → AreReady p question xs → AreReady p question ys
ready_part p Below xs ys f h = tt
ready_part p Cocycle xs ys f h = tt
ready_part p Class xs ys f h = f (λ s. Asks p 2 s × Asks p 3 s) h

-- ---- chains

by_match : (b : Bool) (A B : Type 0) → MatchBool b (A × B) (A → ⊥) → (IsTrue b ↔ A) × (IsTrue b → B)
by_match true A B h = ((λ _. h.0, λ _. refl), λ _. h.1)
by_match false A B h = ((λ e. absurd cc, λ a. absurd (h a)), λ e. absurd cc)

pub passed_on : (b : Bool) (at last : ℕ) → Ok last ≡ (if b then Ok (at + 1) else Err (Fails (at + 1))) → IsTrue b × (last ≡ at + 1)
passed_on true at last e = (refl, cc)
passed_on false at last e = absurd cc

seen_more : {X : Type 0} (xs : List X) (i : ℕ) (x : X) → i < length xs → x ≡ get_or xs i x → reverse (take (i + 1) xs) ≡ x ∷ reverse (take i xs)
seen_more xs i x b e = ap reverse (take_more xs i x b ∙ ap (λ y. take i xs ++ y ∷ []) (sym e)) ∙ reverse-append (take i xs) (x ∷ [])

module _ (p : ℕ) (question : Question) (c : ComplexPart) (n : ℕ) (here : List (List ℕ)) (before : ℕ) (chains : List Chain) where
  abbrev asks : Stated → Type 0
  asks = Asks p (condition_of question)

  abbrev whole : List Stated
  whole = chain_lines question c n [] chains

  -- the first i chains are walked
  pub record IsWalkedTo (i : ℕ) (marks : List Bool) (at : ℕ) : Type 0 where
    pub on : Leads asks before whole at (chain_lines question c n (reverse (take i chains)) (drop i chains))
    pub ready : AreReady p question (chain_lines question c n (reverse (take i chains)) (drop i chains))
    pub leads : AreLeads c.facets n p here (others_of p question c n (reverse (take i chains))) marks

  pub walk_starts : (marks : List Bool) → AreReady p question whole → AreLeads c.facets n p here (others_of p question c n []) marks → IsWalkedTo 0 marks before
  walk_starts marks ready leads = record { on = leads_start asks before whole; ready = ready; leads = leads }

  module _ (i : ℕ) (chain : Chain) (inside : i < length chains) (is : chain ≡ get_or chains i chain) (old : List Bool) (at : ℕ) (h : IsWalkedTo i old at) where
    abbrev seen : List Chain
    seen = reverse (take i chains)

    abbrev here_line : List Stated
    here_line = stands_in question c n seen chain ∷ []

    next : chain_lines question c n seen (drop i chains) ≡ here_line ++ chain_lines question c n (chain ∷ seen) (drop (i + 1) chains)
    next = after_next (λ b x. stands_in question c n b x ∷ []) seen chains i chain inside is

    ready_on : AreReady p question (here_line ++ chain_lines question c n (chain ∷ seen) (drop (i + 1) chains))
    ready_on = subst (AreReady p question) next h.ready

    pub ready_here : AreReady p question here_line
    ready_here = ready_part p question (here_line ++ chain_lines question c n (chain ∷ seen) (drop (i + 1) chains)) here_line (λ P. each_left P here_line _) ready_on

    module _ (new : List Bool) (passed : Bool) (result : Result ℕ Stop) (asked : result ≡ (if passed then Ok (at + 1) else Err (Fails (at + 1)))) (answer : IsAnswerOf p question c n here seen chain new passed) where
      told : (IsTrue passed ↔ asks (stands_in question c n seen chain)) × (IsTrue passed → AreLeads c.facets n p here (others_of p question c n (chain ∷ seen)) new)
      told = by_match passed (asks (stands_in question c n seen chain)) (AreLeads c.facets n p here (others_of p question c n (chain ∷ seen)) new) answer

      one : IsWalk asks at here_line result
      one = walk_tested asks at (stands_in question c n seen chain) passed result told.0 asked

      pub walk_stops_here : (s : Stop) → result ≡ Err s → IsWalk asks before whole (Err s)
      walk_stops_here s e = leads_stop asks before whole at _ here_line _ s next (subst (IsWalk asks at here_line) e one) h.on

      pub walk_goes_on : (last : ℕ) → result ≡ Ok last → IsWalkedTo (i + 1) new last
      walk_goes_on last e =
          let more : reverse (take (i + 1) chains) ≡ chain ∷ seen = seen_more chains i chain inside is in
          let lines : List Stated = chain_lines question c n (chain ∷ seen) (drop (i + 1) chains) in
          record {
            on = subst (λ (xs : List Chain). Leads asks before whole last (chain_lines question c n xs (drop (i + 1) chains))) (sym more)
                (leads_more asks before whole at _ here_line lines last next (subst (IsWalk asks at here_line) e one) h.on);
            ready = subst (λ (xs : List Chain). AreReady p question (chain_lines question c n xs (drop (i + 1) chains))) (sym more) (ready_part p question (here_line ++ lines) lines (λ P. each_right P here_line lines) ready_on);
            leads = subst (λ (xs : List Chain). AreLeads c.facets n p here (others_of p question c n xs) new) (sym more) (told.1 (passed_on passed at last (sym e ∙ asked)).0);
          }

  pub walk_ends : (i : ℕ) (marks : List Bool) (at : ℕ) → length chains ≤ i → IsWalkedTo i marks at → IsWalk asks before whole (Ok at)
  walk_ends i marks at b h = leads_end asks before whole at _ (after_none (λ seen x. stands_in question c n seen x ∷ []) (reverse (take i chains)) chains i b) h.on

-- the order of the cochains does not matter for the marks
among_reversed : {X R : Type 0} (f : R → X) (x : X) (rs : List R) → Among x (map f (reverse rs)) → Among x (map f rs)
among_reversed f x [] m = m
among_reversed f x (r ∷ rs) m =
    let k : Among x (map f (reverse rs) ++ f r ∷ []) = subst (Among x) (ap (map f) (reverse-append (r ∷ []) rs) ∙ map-append f (reverse rs) (r ∷ [])) m in
    elim (in_append x (map f (reverse rs)) (f r ∷ []) k) [ inl a ↦ inr (among_reversed f x rs a) | inr b ↦ elim b [ inl e ↦ inl e | inr none ↦ absurd none ] ]

leads_reversed : (facets : List (List ℕ)) (n p : ℕ) (here : List (List ℕ)) (f : Chain → Cochain) (chains : List Chain) (marks : List Bool) → AreLeads facets n p here (map f (reverse chains)) marks → AreLeads facets n p here (map f chains) marks
leads_reversed facets n p here f chains marks h = record {
  len = h.len;
  told = λ k b. (λ t. let o = (h.told k b).0 t in (o.0, among_reversed f o.0 chains o.1, o.2), λ o. (h.told k b).1 (o.0, among_reversed f o.0 (reverse chains) (subst (λ (ys : List Chain). Among o.0 (map f ys)) (sym (reverse-reverse chains)) o.1), o.2));
}

-- ---- a degree

module _ (p : ℕ) (c : ComplexPart) (n : ℕ) (d : DegreePart) (before : ℕ) where
  abbrev belows : List Stated
  belows = chain_lines Below c n [] d.below

  abbrev classes : List Stated
  classes = chain_lines Class c n [] d.classes

  opened : (k : ℕ) (at : ℕ) (r : Result ℕ Stop) → Asks p k (degree_opens c n d) → IsWalk (Asks p k) (before + 1) belows (Ok at) → IsWalk (Asks p k) at classes r → IsWalk (Asks p k) before (degree_stated c n d) r
  opened k at r free w v =
      walk_both (Asks p k) before (degree_opens c n d ∷ []) (belows ++ classes) (before + 1) r (refl, (free, tt)) (walk_both (Asks p k) (before + 1) belows classes at r w v)

  past : (k : ℕ) (line : List Chain → Chain → Stated) (xs : List Chain) (at last : ℕ) → ((seen : List Chain) (x : Chain) → Asks p k (line seen x)) → last ≡ at + length xs → IsWalk (Asks p k) at (after (λ b x. line b x ∷ []) [] xs) (Ok last)
  past k line xs at last free e = walk_past (Asks p k) at (after (λ b x. line b x ∷ []) [] xs) last (let l = after_each line [] xs in omega (arith, e, l)) (each_after (Asks p k) line free [] xs)

  pub belows_end : (at last : ℕ) → last ≡ at + length d.classes → IsWalk (Asks p 2) (before + 1) belows (Ok at) → IsWalk (Asks p 2) before (degree_stated c n d) (Ok last)
  belows_end at last e w = opened 2 at (Ok last) tt w (past 2 (class_stands c n) d.classes at last (λ seen z. tt) e)

  pub belows_stop : (e : Stop) → IsWalk (Asks p 2) (before + 1) belows (Err e) → IsWalk (Asks p 2) before (degree_stated c n d) (Err e)
  belows_stop e w = walk_both (Asks p 2) before (degree_opens c n d ∷ []) (belows ++ classes) (before + 1) (Err e) (refl, (tt, tt)) (walk_stops (Asks p 2) (before + 1) belows classes e w)

  pub cocycles_end : (at : ℕ) (r : Result ℕ Stop) → at ≡ before + 1 + length d.below → IsWalk (Asks p 3) at classes r → IsWalk (Asks p 3) before (degree_stated c n d) r
  cocycles_end at r e w = opened 3 at r tt (past 3 (below_stands c n) d.below (before + 1) at (λ seen y. tt) e) w

  pub classes_stop : (e : Stop) → AreReady p Class (degree_stated c n d) → IsWalk (Asks p 2) (before + 1) belows (Err e) → IsWalk (Asks p 4) before (degree_stated c n d) (Err e)
  classes_stop e h w = no_failure (Asks p 2) (Asks p 4) (before + 1) before belows (degree_stated c n d) e (each_map (λ s a. a.0) belows (each_left (λ s. Asks p 2 s × Asks p 3 s) belows classes h.1)) w

  pub classes_ready : AreReady p Class (degree_stated c n d) → AreReady p Class classes
  classes_ready h = each_right (λ s. Asks p 2 s × Asks p 3 s) belows classes h.1

  pub classes_end : (at : ℕ) (r : Result ℕ Stop) → at ≡ before + 1 + length d.below → IsWalk (Asks p 4) at classes r → IsWalk (Asks p 4) before (degree_stated c n d) r
  classes_end at r e w = opened 4 at r tt (past 4 (below_stands c n) d.below (before + 1) at (λ seen y. tt) e) w

  -- the marks at the coboundaries are those that the classes begin with
  pub marks_first : (here : List (List ℕ)) (marks : List Bool) → below_in c n ≡ d.below → AreLeads c.facets n p here (others_of p Below c n (reverse d.below)) marks → AreLeads c.facets n p here (others_of p Class c n []) marks
  marks_first here marks e h =
      subst (λ (xs : List Chain). AreLeads c.facets n p here (coboundaries_of p xs) marks) (sym e) (leads_reversed c.facets n p here (λ y. coboundary p (cochain_of y)) d.below marks h)

-- ---- well-formed lines

pub both_all : {X : Type 0} (test : X → Bool) (xs ys : List X) → list_all test (xs ++ ys) ≡ true → (list_all test xs ≡ true) × (list_all test ys ≡ true)
both_all test xs ys h = and_parts (list_all test xs) (list_all test ys) (sym (list_all-append test xs ys) ∙ h)

pub record IsFormed (p n : ℕ) (d : DegreePart) : Type 0 where
  pub few : n + 1 < 2 ^ 32
  pub below : list_all (is_chain p) d.below ≡ true
  pub classes : list_all (is_chain p) d.classes ≡ true

pub degree_formed : (p n : ℕ) (d : DegreePart) → list_all (is_line p) (degree_lines n d) ≡ true → IsFormed p n d
degree_formed p n d h =
    let parts = and_parts (is_line p (degree_line n (length d.classes))) (list_all (is_line p) (map below_line d.below ++ map class_line d.classes)) h in
    let chains = both_all (is_line p) (map below_line d.below) (map class_line d.classes) parts.1 in
    record {
      few = ltb-true (n + 1) (2 ^ 32) (and_parts (is_u32 (n + 1)) (is_u32 (length d.classes)) parts.0).0;
      below = sym (list_all-map (is_line p) below_line d.below) ∙ chains.0;
      classes = sym (list_all-map (is_line p) class_line d.classes) ∙ chains.1;
    }

-- ---- the degrees one after the other

pub ready_at : (p : ℕ) (question : Question) (c : ComplexPart) (ds : List DegreePart) (n : ℕ) (d : DegreePart) → n < length ds → d ≡ get_or ds n d → AreReady p question (numbered (degree_stated c) 0 ds) → AreReady p question (degree_stated c n d)
ready_at p question c ds n d b is = ready_part p question (numbered (degree_stated c) 0 ds) (degree_stated c n d) (λ P h.
    let from_zero : 0 + n ≡ n = omega arith in
    subst (λ (x : DegreePart). Each P (degree_stated c n x)) (sym is) (subst (λ (m : ℕ). Each P (degree_stated c m (get_or ds n d))) from_zero (numbered_at P (degree_stated c) 0 ds n d b h)))

pub below_is : (c : ComplexPart) (ds : List DegreePart) (n : ℕ) (d : DegreePart) → c.degrees ≡ ds → n < length ds → d ≡ get_or ds n d → below_in c n ≡ d.below
below_is c ds n d e b is =
    ap (λ (xs : List DegreePart). get_or (map (λ (x : DegreePart). x.below) xs) n []) e ∙ get_or-map (λ (x : DegreePart). x.below) ds n d [] b ∙ ap (λ (x : DegreePart). x.below) (sym is)

formed_from : (p k n : ℕ) (ds : List DegreePart) (d : DegreePart) → list_all (is_line p) (degrees_from k ds) ≡ true → n < length ds → list_all (is_line p) (degree_lines (k + n) (get_or ds n d)) ≡ true
formed_from p k n [] d h b = absurd (omega (arith, b))
formed_from p k zero (x ∷ xs) d h b =
    let e : k ≡ k + zero = omega arith in
    subst (λ (m : ℕ). list_all (is_line p) (degree_lines m x) ≡ true) e (both_all (is_line p) (degree_lines k x) (degrees_from (k + 1) xs) h).0
formed_from p k (suc n) (x ∷ xs) d h b =
    let e : (k + 1) + n ≡ k + suc n = omega arith in
    subst (λ (m : ℕ). list_all (is_line p) (degree_lines m (get_or xs n d)) ≡ true) e (formed_from p (k + 1) n xs d (both_all (is_line p) (degree_lines k x) (degrees_from (k + 1) xs) h).1 (omega (arith, b)))

pub formed_at : (p n : ℕ) (ds : List DegreePart) (d : DegreePart) → list_all (is_line p) (degrees_from 0 ds) ≡ true → n < length ds → d ≡ get_or ds n d → list_all (is_line p) (degree_lines n d) ≡ true
formed_at p n ds d h b is =
    let from_zero : 0 + n ≡ n = omega arith in
    subst (λ (x : DegreePart). list_all (is_line p) (degree_lines n x) ≡ true) (sym is) (subst (λ (m : ℕ). list_all (is_line p) (degree_lines m (get_or ds n d)) ≡ true) from_zero (formed_from p 0 n ds d h b))

-- ---- the end of a complex

module _ (c : ComplexPart) (levels : List (List (List ℕ))) (index : IsIndexOf c.facets levels) (ascending : Each IsAscending c.facets) where
  none_past : (n : ℕ) → length levels ≤ n → 0 < simplex_count c.facets n → ⊥
  none_past n b h =
      let count = simplices_counted c.facets levels index ascending n in
      let past : length (level levels n) ≡ 0 = ap (λ (ss : List (List ℕ)). length ss) (past_levels levels n b) in
      omega (arith, count, past, h)

  its_degrees : length levels ≡ length c.degrees → HasItsDegrees c
  its_degrees e = record {
    inhabited = λ n b. let count = simplices_counted c.facets levels index ascending n in let some = index.inhabited n (omega (arith, b, e)) in omega (arith, count, some);
    whole = λ n h. elim (cases_lt n (length levels)) [ inl l ↦ omega (arith, l, e) | inr g ↦ absurd (none_past n g h) ];
  }

  degrees_are : HasItsDegrees c → length levels ≡ length c.degrees
  degrees_are h = elim (cases_order (length levels) (length c.degrees)) [
    | inl e ↦ e
    | inr r ↦ elim r [
      | inl few ↦ absurd (none_past (length levels) (omega arith) (h.inhabited (length levels) few))
      | inr more ↦
          let count = simplices_counted c.facets levels index ascending (length c.degrees) in
          let some = index.inhabited (length c.degrees) more in
          let less : length c.degrees < length c.degrees = h.whole (length c.degrees) (omega (arith, count, some)) in
          absurd (omega (arith, less))
    ]
  ]

  pub ends_told : (degrees listed : ℕ) → degrees ≡ length levels → listed ≡ length c.degrees → IsTrue (degrees == listed) ↔ HasItsDegrees c
  ends_told degrees listed e f = elim (eqb_tells degrees listed) [
    | inl h ↦ (λ _. its_degrees (sym e ∙ h.1 ∙ f), λ _. h.0)
    | inr h ↦ (λ t. absurd (h.1 (test t)), λ a. absurd (h.1 (e ∙ degrees_are a ∙ sym f)))
  ]
    where
      test : IsTrue (degrees == listed) → degrees ≡ listed
      test t = elim (eqb_tells degrees listed) [ inl k ↦ k.1 | inr k ↦ absurd (let q = sym t ∙ k.0 in cc) ]

-- ---- the sections of a complex

-- nothing is asked of the lines outside the degrees
record IsQuiet (P : Stated → Type 0) : Type 0 where
  opens : (earlier : List ComplexPart) (c : ComplexPart) → P (complex_opens earlier c)
  facet : (fs : List (List ℕ)) (f : List ℕ) → P (facet_stands fs f)
  product : (c : ComplexPart) (k : ℕ) (x : _) → P (product_opens c k x)
  product_at : (c : ComplexPart) (x : _) (k : ℕ) (y : _) → P (product_column c x k y)
  operation : (c : ComplexPart) (k : ℕ) (x : _) → P (operation_opens c k x)
  operation_at : (c : ComplexPart) (x : _) (k : ℕ) (y : _) → P (operation_column c x k y)
  cartan : (c : ComplexPart) (k : ℕ) (x : _) → P (cartan_stands c k x)
  primitive : (chain : _) → P (with_stands chain)
  cycle : (chain : _) → P (cycle_stands chain)

quiet : (p : ℕ) (question : Question) → IsQuiet (Asks p (condition_of question))
quiet p Below = record { opens = λ e c. tt; facet = λ fs f. tt; product = λ c k x. tt; product_at = λ c x k y. tt; operation = λ c k x. tt; operation_at = λ c x k y. tt; cartan = λ c k x. tt; primitive = λ t. tt; cycle = λ t. tt }
quiet p Cocycle = record { opens = λ e c. tt; facet = λ fs f. tt; product = λ c k x. tt; product_at = λ c x k y. tt; operation = λ c k x. tt; operation_at = λ c x k y. tt; cartan = λ c k x. tt; primitive = λ t. tt; cycle = λ t. tt }
quiet p Class = record { opens = λ e c. tt; facet = λ fs f. tt; product = λ c k x. tt; product_at = λ c x k y. tt; operation = λ c k x. tt; operation_at = λ c x k y. tt; cartan = λ c k x. tt; primitive = λ t. tt; cycle = λ t. tt }

module _ (P : Stated → Type 0) (q : IsQuiet P) (earlier : List ComplexPart) (c : ComplexPart) (before : ℕ) where
  abbrev opening : List Stated
  opening = complex_opens earlier c ∷ behind (λ fs f. facet_stands fs f ∷ []) [] c.facets

  abbrev tables : List Stated
  tables = numbered (product_stated c) 0 c.products ++ (numbered (operation_stated c) 0 c.operations ++ (numbered (cartan_stated c) 0 c.cartans ++ complex_ends c ∷ []))

  past_opening : (at : ℕ) → at ≡ before + 1 + length c.facets → IsWalk P before opening (Ok at)
  past_opening at e = walk_past P before opening at (let l = behind_each facet_stands [] c.facets in omega (arith, e, l)) (q.opens earlier c, each_behind P facet_stands q.facet [] c.facets)

  answered : (a : CartanAnswer) → P (answer_stated a)
  answered (Yes primitive) = q.primitive primitive
  answered (No value cycle) = q.cycle cycle

  to_the_end : (at last : ℕ) (r : Result ℕ Stop) → last ≡ at + (sum_by product_lines c.products + sum_by operation_lines c.operations) + 2 * length c.cartans → IsWalk P last (complex_ends c ∷ []) r → IsWalk P at tables r
  to_the_end at last r e w =
      let xs = c.products in
      let os = c.operations in
      let one : ℕ = at + sum_by product_lines xs in
      let two : ℕ = one + sum_by operation_lines os in
      walk_both P at (numbered (product_stated c) 0 xs) _ one r
      (walk_past P at (numbered (product_stated c) 0 xs) one (ap (λ n. at + n) (sym (numbered_sum (product_stated c) product_lines 0 xs (product_length c))))
      (each_numbered P (product_stated c) (λ k x. (q.product c k x, each_numbered P (λ j y. product_column c x j y ∷ with_stands y.primitive ∷ []) (λ j y. (q.product_at c x j y, (q.primitive y.primitive, tt))) 0 x.columns)) 0 xs))
      (walk_both P one (numbered (operation_stated c) 0 os) _ two r
      (walk_past P one (numbered (operation_stated c) 0 os) two (ap (λ n. one + n) (sym (numbered_sum (operation_stated c) operation_lines 0 os (operation_length c))))
      (each_numbered P (operation_stated c) (λ k x. (q.operation c k x, each_numbered P (λ j y. operation_column c x j y ∷ with_stands y.primitive ∷ []) (λ j y. (q.operation_at c x j y, (q.primitive y.primitive, tt))) 0 x.columns)) 0 os))
      (walk_both P two (numbered (cartan_stated c) 0 c.cartans) (complex_ends c ∷ []) last r
      (walk_past P two (numbered (cartan_stated c) 0 c.cartans) last (let l = cartans_length c 0 c.cartans in omega (arith, l, e))
      (each_numbered P (cartan_stated c) (λ k x. (q.cartan c k x, (answered x.answer, tt))) 0 c.cartans)) w))

  walk_whole : (first at last : ℕ) (r : Result ℕ Stop) → first ≡ before + 1 + length c.facets → IsWalk P first (numbered (degree_stated c) 0 c.degrees) (Ok at)
      → last ≡ at + (sum_by product_lines c.products + sum_by operation_lines c.operations) + 2 * length c.cartans → IsWalk P last (complex_ends c ∷ []) r → IsWalk P before (complex_stated earlier c) r
  walk_whole first at last r e d f w =
      walk_both P before opening (numbered (degree_stated c) 0 c.degrees ++ tables) first r (past_opening first e) (walk_both P first (numbered (degree_stated c) 0 c.degrees) tables at r d (to_the_end at last r f w))

  walk_cut : (first : ℕ) (s : Stop) → first ≡ before + 1 + length c.facets → IsWalk P first (numbered (degree_stated c) 0 c.degrees) (Err s) → IsWalk P before (complex_stated earlier c) (Err s)
  walk_cut first s e d =
      walk_both P before opening (numbered (degree_stated c) 0 c.degrees ++ tables) first (Err s) (past_opening first e) (walk_stops P first (numbered (degree_stated c) 0 c.degrees) tables s d)

module _ (p : ℕ) (question : Question) (earlier : List ComplexPart) (c : ComplexPart) (before : ℕ) where
  pub part_ends : (first at last : ℕ) (b : Bool) (r : Result ℕ Stop) → first ≡ before + 1 + length c.facets → IsWalk (Asks p (condition_of question)) first (numbered (degree_stated c) 0 c.degrees) (Ok at)
      → last ≡ at + (sum_by product_lines c.products + sum_by operation_lines c.operations) + 2 * length c.cartans → (IsTrue b ↔ Asks p (condition_of question) (complex_ends c))
      → r ≡ (if b then Ok (last + 1) else Err (Fails (last + 1))) → IsWalk (Asks p (condition_of question)) before (complex_stated earlier c) r
  part_ends first at last b r e d f h k =
      walk_whole (Asks p (condition_of question)) (quiet p question) earlier c before first at last r e d f (walk_tested (Asks p (condition_of question)) last (complex_ends c) b r h k)

  pub part_stops : (first : ℕ) (s : Stop) → first ≡ before + 1 + length c.facets → IsWalk (Asks p (condition_of question)) first (numbered (degree_stated c) 0 c.degrees) (Err s) → IsWalk (Asks p (condition_of question)) before (complex_stated earlier c) (Err s)
  part_stops = walk_cut (Asks p (condition_of question)) (quiet p question) earlier c before

-- ---- well-formed lines

facets_ascend : (p : ℕ) (fs : List (List ℕ)) → list_all (is_line p) (map facet_line fs) ≡ true → Each IsAscending fs
facets_ascend p [] h = tt
facets_ascend p (f ∷ fs) h =
    let parts = and_parts (is_line p (facet_line f)) (list_all (is_line p) (map facet_line fs)) h in
    (facet_ascends f parts.0, facets_ascend p fs parts.1)

pub part_formed : (p : ℕ) (c : ComplexPart) → list_all (is_line p) (complex_lines c) ≡ true → Each IsAscending c.facets × (list_all (is_line p) (degrees_from 0 c.degrees) ≡ true)
part_formed p c h =
    let parts = and_parts (is_line p (complex_line c.name)) (list_all (is_line p) (map facet_line c.facets ++ (degrees_from 0 c.degrees ++ table_lines c))) h in
    let sections = both_all (is_line p) (map facet_line c.facets) (degrees_from 0 c.degrees ++ table_lines c) parts.1 in
    (facets_ascend p c.facets sections.0, (both_all (is_line p) (degrees_from 0 c.degrees) (table_lines c) sections.1).0)

-- what is asked of the degrees of a complex
pub degrees_asked : (p k : ℕ) (c : ComplexPart) → (earlier : List ComplexPart) × Each (Asks p k) (complex_stated earlier c) → Each (Asks p k) (numbered (degree_stated c) 0 c.degrees)
degrees_asked p k c h =
    let opening : List Stated = complex_opens h.0 c ∷ behind (λ fs f. facet_stands fs f ∷ []) [] c.facets in
    let tables : List Stated = numbered (product_stated c) 0 c.products ++ (numbered (operation_stated c) 0 c.operations ++ (numbered (cartan_stated c) 0 c.cartans ++ complex_ends c ∷ [])) in
    each_left (Asks p k) (numbered (degree_stated c) 0 c.degrees) tables (each_right (Asks p k) opening (numbered (degree_stated c) 0 c.degrees ++ tables) h.1)

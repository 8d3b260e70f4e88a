-- What the lines spell is a job.
use Rattle.std.{proofs.Common.{◌≡◌, ◌∙◌, ◌+◌, ◌<◌, ◌&&◌, ◌||◌, List, [], ◌∷◌, ◌++◌, ℕ, Bool, true, false, cond, not, refl, sym, ap, subst, arith, length, map, append_assoc, append-nil, length-append, nat_lt, Ok, Err, Result, Some, None, nat_le, is_none, nat_eq, codes, leb-false, le-leb, lt-ltb, ltb-true}, specs.declared.option.Option.Option, proofs.Math.ListN.get_or-append, specs.List.{position_or_len, list_all}, specs.Str.bytes_eq, proofs.lemmas.List.map-append, proofs.lemmas.List.Folds.list_all-append, proofs.lemmas.Bool.{and_from, and_parts, cond_both}, proofs.lemmas.Bool.Decides.nat_tests}
use Rattle.fp_field.specs.Served.{served}
use Rattle.complex_file.{specs.Names.{ComplexBlock, MapBlock, Sent, InputKind, is_allowed, is_name, is_word, lines, words, Line, heading, prime_line, complex_line, facet_line, map_line, send_line, end_line, no_line, is_skipped, line_of, line_of_complex, line_of_facet, line_of_few, line_of_four, line_of_three, line_of_two, send_of, numbers, ascending, facet_of, has_repeat, is_complex, with_facet, end_fault, map_fault, send_fault, with_send, are_distinct, block_names, facets_at, has_name, is_map, place_of_name, Spelled, Place, Fault, at_start, at_prime, between, in_complex, after, after_words, after_prime, after_complex, after_facet, at_end, at_line, lines_spell, place_after, with_complex, with_facets, ◌>>=◌, in_map, after_map, after_send, begun_map, with_map, with_sends}, specs.Text.number, specs.Jobs.is_job, specs.Input.{after_line, input_of}, proofs.Steps.{Both, fault_free, met, ok_same, passed}, proofs.MapLemmas.{AreFree, free_send, map_free}, proofs.FacetLemmas.{IsVertexList, complex_more, numbers_length, numbers_small}}

-- what is kept of the blocks so far: the parts of `is_job`
pub record IsKept (s : Spelled) : Type 0 where
  pub prime : served s.prime ≡ true
  pub few : nat_le (length s.complexes) 8 ≡ true
  pub few_maps : nat_le (length s.maps) 8 ≡ true
  pub named : list_all is_name (block_names s.complexes s.maps) ≡ true
  pub distinct : are_distinct (block_names s.complexes s.maps) ≡ true
  pub whole : list_all (λ c. is_complex c.facets) s.complexes ≡ true
  pub whole_maps : list_all (is_map s.complexes) s.maps ≡ true

pub record IsBegun (s : Spelled) (c : ComplexBlock) : Type 0 where
  pub kept : IsKept s
  pub room : length s.complexes < 8
  pub named : is_name c.name ≡ true
  pub fresh : has_name (block_names s.complexes s.maps) c.name ≡ false
  pub whole : is_complex c.facets ≡ true

pub record IsMapBegun (s : Spelled) (m : MapBlock) : Type 0 where
  pub kept : IsKept s
  pub room : length s.maps < 8
  pub named : is_name m.name ≡ true
  pub fresh : has_name (block_names s.complexes s.maps) m.name ≡ false
  pub from_there : nat_lt m.from (length s.complexes) ≡ true
  pub to_there : nat_lt m.to (length s.complexes) ≡ true
  pub free : AreFree (facets_at s.complexes m.from) (facets_at s.complexes m.to) [] m.sends

abbrev pub IsPlace : Place → Type 0
IsPlace at_start = Unit {0}
IsPlace at_prime = Unit {0}
IsPlace (between s) = IsKept s
IsPlace (in_complex s c) = IsBegun s c
IsPlace (in_map s m) = IsMapBegun s m

-- what a line keeps whose words were read
abbrev pub IsLine : Line → Type 0
IsLine heading = Unit {0}
IsLine (prime_line n) = Unit {0}
IsLine (complex_line name) = is_name name ≡ true
IsLine (facet_line None) = Unit {0}
IsLine (facet_line (Some vs)) = IsVertexList vs
IsLine (map_line name from to) = is_name name ≡ true
IsLine (send_line sent) = Unit {0}
IsLine end_line = Unit {0}
IsLine no_line = Unit {0}

complex_is : (name : List ℕ) → IsLine (line_of_complex name)
complex_is name = cond_both (is_name name) (complex_line name) no_line IsLine (λ e. e) (λ e. tt)

two_is : (w v : List ℕ) → IsLine (line_of_two w v)
two_is w v =
    let complex_line_is : IsLine (cond (is_word (codes "complex") w) (line_of_complex v) no_line) =
    cond_both (is_word (codes "complex") w) (line_of_complex v) no_line IsLine (λ k. complex_is v) (λ k. tt) in
    let prime_line_is : IsLine (cond (is_word (codes "prime") w) (prime_line (number v)) (cond (is_word (codes "complex") w) (line_of_complex v) no_line)) =
    cond_both (is_word (codes "prime") w) (prime_line (number v)) (cond (is_word (codes "complex") w) (line_of_complex v) no_line) IsLine (λ k. tt) (λ k. complex_line_is) in
    cond_both (is_word (codes "comch") w && is_word (codes "1") v) heading (cond (is_word (codes "prime") w) (prime_line (number v)) (cond (is_word (codes "complex") w) (line_of_complex v) no_line)) IsLine (λ k. tt) (λ k. prime_line_is)

three_is : (w v u : List ℕ) → IsLine (line_of_three w v u)
three_is w v u = cond_both (is_word (codes "send") w) (send_line (send_of (number v) (number u))) no_line IsLine (λ k. tt) (λ k. tt)

four_is : (w name from to : List ℕ) → IsLine (line_of_four w name from to)
four_is w name from to =
    cond_both (is_word (codes "map") w && (is_name name && (is_name from && is_name to))) (map_line name from to) no_line IsLine
    (λ k. (and_parts (is_name name) (is_name from && is_name to) (and_parts (is_word (codes "map") w) (is_name name && (is_name from && is_name to)) k).1).0) (λ k. tt)

few_is : (w : List ℕ) (vs : List (List ℕ)) → IsLine (line_of_few w vs)
few_is w [] = cond_both (is_word (codes "end") w) end_line no_line IsLine (λ e. tt) (λ e. tt)
few_is w (v ∷ []) = two_is w v
few_is w (v ∷ u ∷ []) = three_is w v u
few_is w (v ∷ u ∷ t ∷ []) = four_is w v u t
few_is w (v ∷ u ∷ t ∷ r ∷ rs) = tt

numbers_are : (o : Option (List ℕ)) → ((ns : List ℕ) → o ≡ Some ns → IsVertexList ns) → IsLine (facet_line o)
numbers_are None h = tt
numbers_are (Some ns) h = h ns refl

facet_is : (vs : List (List ℕ)) → IsLine (line_of_facet vs)
facet_is [] = tt
facet_is (v ∷ vs) = numbers_are (numbers (v ∷ vs)) (λ ns e. record { some = omega (arith, numbers_length (v ∷ vs) ns e); small = numbers_small (v ∷ vs) ns e })

line_is : (ws : List (List ℕ)) → IsLine (line_of ws)
line_is [] = tt
line_is (w ∷ vs) = cond_both (is_word (codes "facet") w) (line_of_facet vs) (line_of_few w vs) IsLine (λ e. facet_is vs) (λ e. few_is w vs)

-- ---- a name more

eqb_swap : (x y : ℕ) → nat_eq x y ≡ nat_eq y x
eqb_swap x y = grind (arith, nat_tests)

pub bytes_swap : (xs ys : List ℕ) → bytes_eq xs ys ≡ bytes_eq ys xs
bytes_swap [] [] = refl
bytes_swap [] (y ∷ ys) = refl
bytes_swap (x ∷ xs) [] = refl
bytes_swap (x ∷ xs) (y ∷ ys) = λ i. eqb_swap x y i && bytes_swap xs ys i

pub or_false : (a b : Bool) → (a || b) ≡ false → Both (a ≡ false) (b ≡ false)
or_false true b h = absurd cc
or_false false b h = record { first = refl; second = h }

-- a name between names
has_name_between : (xs ys : List (List ℕ)) (n y : List ℕ) → has_name (xs ++ ys) n ≡ false → bytes_eq n y ≡ false → has_name (xs ++ y ∷ ys) n ≡ false
has_name_between [] ys n y h e = rw e h
has_name_between (x ∷ xs) ys n y h e =
    let parts = or_false (bytes_eq n x) (has_name (xs ++ ys) n) h in
    rw (parts.first) (has_name_between xs ys n y parts.second e)

distinct_more : (xs ys : List (List ℕ)) (y : List ℕ) → are_distinct (xs ++ ys) ≡ true → has_name (xs ++ ys) y ≡ false → are_distinct (xs ++ y ∷ ys) ≡ true
distinct_more [] ys y h f = and_from (not (has_name ys y)) (are_distinct ys) (rw f refl) h
distinct_more (x ∷ xs) ys y h f =
    let parts = and_parts (not (has_name (xs ++ ys) x)) (are_distinct (xs ++ ys)) h in
    let fresh = or_false (bytes_eq y x) (has_name (xs ++ ys) y) f in
    let other : bytes_eq x y ≡ false = bytes_swap x y ∙ fresh.first in
    let apart : has_name (xs ++ ys) x ≡ false = not_true (has_name (xs ++ ys) x) parts.0 in
    and_from (not (has_name (xs ++ y ∷ ys) x)) (are_distinct (xs ++ y ∷ ys)) (rw (has_name_between xs ys x y apart other) refl) (distinct_more xs ys y parts.1 fresh.second)
  where
    not_true : (b : Bool) → not b ≡ true → b ≡ false
    not_true true h = absurd cc
    not_true false h = refl

names_more : (cs : List ComplexBlock) (c : ComplexBlock) (ms : List MapBlock) → block_names (cs ++ c ∷ []) ms ≡ map (λ (b : ComplexBlock). b.name) cs ++ c.name ∷ map (λ (m : MapBlock). m.name) ms
names_more cs c ms =
    ap (λ (ns : List (List ℕ)). ns ++ map (λ (m : MapBlock). m.name) ms) (map-append (λ (b : ComplexBlock). b.name) cs (c ∷ []))
    ∙ append_assoc (map (λ (b : ComplexBlock). b.name) cs) (c.name ∷ []) (map (λ (m : MapBlock). m.name) ms)

all_between : {X : Type 0} (p : X → Bool) (xs ys : List X) (y : X) → list_all p (xs ++ ys) ≡ true → p y ≡ true → list_all p (xs ++ y ∷ ys) ≡ true
all_between p [] ys y h e = and_from (p y) (list_all p ys) e h
all_between p (x ∷ xs) ys y h e =
    let parts = and_parts (p x) (list_all p (xs ++ ys)) h in and_from (p x) (list_all p (xs ++ y ∷ ys)) parts.0 (all_between p xs ys y parts.1 e)

all_end : {X : Type 0} (p : X → Bool) (xs : List X) (y : X) → list_all p xs ≡ true → p y ≡ true → list_all p (xs ++ y ∷ []) ≡ true
all_end p xs y h e = list_all-append p xs (y ∷ []) ∙ and_from (list_all p xs) (p y && true) h (and_from (p y) true e refl)

-- ---- a complex more

same_facets : (cs : List ComplexBlock) (c : ComplexBlock) (k : ℕ) → k < length cs → facets_at (cs ++ c ∷ []) k ≡ facets_at cs k
same_facets cs c k below = ap (λ (b : ComplexBlock). b.facets) (get_or-append cs (c ∷ []) (record { name = []; facets = [] }) k below)

map_stays : (cs : List ComplexBlock) (c : ComplexBlock) (m : MapBlock) → is_map cs m ≡ true → is_map (cs ++ c ∷ []) m ≡ true
map_stays cs c m h =
    let parts = and_parts (nat_lt m.from (length cs) && nat_lt m.to (length cs)) (is_none (map_fault (facets_at cs m.from) (facets_at cs m.to) m.sends)) h in
    let below = and_parts (nat_lt m.from (length cs)) (nat_lt m.to (length cs)) parts.0 in
    let from : m.from < length cs = ltb-true m.from (length cs) below.0 in
    let to : m.to < length cs = ltb-true m.to (length cs) below.1 in
    let longer : length (cs ++ c ∷ []) ≡ length cs + 1 = length-append cs (c ∷ []) in
    and_from (nat_lt m.from (length (cs ++ c ∷ [])) && nat_lt m.to (length (cs ++ c ∷ []))) (is_none (map_fault (facets_at (cs ++ c ∷ []) m.from) (facets_at (cs ++ c ∷ []) m.to) m.sends))
    (and_from (nat_lt m.from (length (cs ++ c ∷ []))) (nat_lt m.to (length (cs ++ c ∷ []))) (lt-ltb m.from (length (cs ++ c ∷ [])) (omega arith)) (lt-ltb m.to (length (cs ++ c ∷ [])) (omega arith)))
    (rw (same_facets cs c m.from from, same_facets cs c m.to to) parts.1)

maps_stay : (cs : List ComplexBlock) (c : ComplexBlock) (ms : List MapBlock) → list_all (is_map cs) ms ≡ true → list_all (is_map (cs ++ c ∷ [])) ms ≡ true
maps_stay cs c [] h = refl
maps_stay cs c (m ∷ ms) h = let parts = and_parts (is_map cs m) (list_all (is_map cs) ms) h in and_from (is_map (cs ++ c ∷ []) m) (list_all (is_map (cs ++ c ∷ [])) ms) (map_stays cs c m parts.0) (maps_stay cs c ms parts.1)

complex_kept : (s : Spelled) (c : ComplexBlock) → IsBegun s c → IsKept (with_complex s c)
complex_kept s c h = record {
  prime = h.kept.prime;
  few = le-leb (length (s.complexes ++ c ∷ [])) 8 (omega (arith, h.room, length-append s.complexes (c ∷ [])));
  few_maps = h.kept.few_maps;
  named = subst (λ (ns : List (List ℕ)). list_all is_name ns ≡ true) (sym (names_more s.complexes c s.maps))
      (all_between is_name (map (λ (b : ComplexBlock). b.name) s.complexes) (map (λ (m : MapBlock). m.name) s.maps) c.name h.kept.named h.named);
  distinct = subst (λ (ns : List (List ℕ)). are_distinct ns ≡ true) (sym (names_more s.complexes c s.maps))
      (distinct_more (map (λ (b : ComplexBlock). b.name) s.complexes) (map (λ (m : MapBlock). m.name) s.maps) c.name h.kept.distinct h.fresh);
  whole = all_end (λ (b : ComplexBlock). is_complex b.facets) s.complexes c h.kept.whole h.whole;
  whole_maps = maps_stay s.complexes c s.maps h.kept.whole_maps;
}

-- ---- a map more

map_names_more : (cs : List ComplexBlock) (ms : List MapBlock) (m : MapBlock) → block_names cs (ms ++ m ∷ []) ≡ block_names cs ms ++ m.name ∷ []
map_names_more cs ms m =
    ap (λ (ns : List (List ℕ)). map (λ (b : ComplexBlock). b.name) cs ++ ns) (map-append (λ (b : MapBlock). b.name) ms (m ∷ []))
    ∙ sym (append_assoc (map (λ (b : ComplexBlock). b.name) cs) (map (λ (b : MapBlock). b.name) ms) (m.name ∷ []))

distinct_end : (ns : List (List ℕ)) (n : List ℕ) → are_distinct ns ≡ true → has_name ns n ≡ false → are_distinct (ns ++ n ∷ []) ≡ true
distinct_end ns n h f = distinct_more ns [] n (ap are_distinct (append-nil ns) ∙ h) (ap (λ (ms : List (List ℕ)). has_name ms n) (append-nil ns) ∙ f)

map_from : (s : Spelled) (m : MapBlock) → IsMapBegun s m → end_fault (facets_at s.complexes m.from) (facets_at s.complexes m.to) m.sends ≡ None → is_map s.complexes m ≡ true
map_from s m h e =
    let none : map_fault (facets_at s.complexes m.from) (facets_at s.complexes m.to) m.sends ≡ None = map_free (facets_at s.complexes m.from) (facets_at s.complexes m.to) [] 0 m.sends h.free e in
    and_from (nat_lt m.from (length s.complexes) && nat_lt m.to (length s.complexes)) (is_none (map_fault (facets_at s.complexes m.from) (facets_at s.complexes m.to) m.sends))
    (and_from (nat_lt m.from (length s.complexes)) (nat_lt m.to (length s.complexes)) h.from_there h.to_there) (rw none refl)

map_kept : (s : Spelled) (m : MapBlock) → IsMapBegun s m → end_fault (facets_at s.complexes m.from) (facets_at s.complexes m.to) m.sends ≡ None → IsKept (with_map s m)
map_kept s m h e = record {
  prime = h.kept.prime;
  few = h.kept.few;
  few_maps = le-leb (length (s.maps ++ m ∷ [])) 8 (omega (arith, h.room, length-append s.maps (m ∷ [])));
  named = subst (λ (ns : List (List ℕ)). list_all is_name ns ≡ true) (sym (map_names_more s.complexes s.maps m)) (all_end is_name (block_names s.complexes s.maps) m.name h.kept.named h.named);
  distinct = subst (λ (ns : List (List ℕ)). are_distinct ns ≡ true) (sym (map_names_more s.complexes s.maps m)) (distinct_end (block_names s.complexes s.maps) m.name h.kept.distinct h.fresh);
  whole = h.kept.whole;
  whole_maps = all_end (is_map s.complexes) s.maps m h.kept.whole_maps (map_from s m h e);
}

-- ---- each line

prime_kept : (o : Option ℕ) (q : Place) → after_prime o ≡ Ok q → IsPlace q
prime_kept None q h = absurd cc
prime_kept (Some p) q h =
    let good = met (served p) _ (Ok (between (record { prime = p; complexes = []; maps = [] }))) q h in
    subst IsPlace (ok_same good.second) (record { prime = good.first; few = refl; few_maps = refl; named = refl; distinct = refl; whole = refl; whole_maps = refl })

opened_kept : (s : Spelled) (name : List ℕ) (q : Place) → IsKept s → is_name name ≡ true → after_complex s name ≡ Ok q → IsPlace q
opened_kept s name q kept named h =
    let room = passed (nat_le 8 (length s.complexes)) _ _ q h in
    let fresh = passed (has_name (block_names s.complexes s.maps) name) _ _ q room.second in
    subst IsPlace (ok_same fresh.second) (record { kept = kept; room = leb-false 8 (length s.complexes) room.first; named = named; fresh = fresh.first; whole = refl })

facets_found : (s : Spelled) (c : ComplexBlock) (r : Result (List (List ℕ)) InputKind) (q : Place) → with_facets s c r ≡ Ok q
    → (facets : List (List ℕ)) × (r ≡ Ok facets) × (in_complex s (record { name = c.name; facets = facets }) ≡ q)
facets_found s c (Ok facets) q h = (facets, refl, ok_same h)
facets_found s c (Err k) q h = absurd cc

bind_ok : {A B E : Type 0} (r : Result A E) (f : A → Result B E) (y : B) → (r >>= f) ≡ Ok y → (x : A) × (r ≡ Ok x) × (f x ≡ Ok y)
bind_ok (Ok x) f y h = (x, refl, h)
bind_ok (Err e) f y h = absurd cc

facet_given : (facets more : List (List ℕ)) (o : Option (List ℕ)) → is_complex facets ≡ true → IsLine (facet_line o) → (facet_of o >>= with_facet facets) ≡ Ok more → is_complex more ≡ true
facet_given facets more None whole line h = absurd cc
facet_given facets more (Some vs) whole line h =
    let given = bind_ok (facet_of (Some vs)) (with_facet facets) more h in
    let once = passed (has_repeat vs) _ (Ok (ascending vs)) given.0 given.1 in
    let same : ascending vs ≡ given.0 = ok_same once.second in
    complex_more facets more vs whole line once.first (ap (with_facet facets) same ∙ given.2)

facet_kept : (s : Spelled) (c : ComplexBlock) (o : Option (List ℕ)) (q : Place) → IsBegun s c → IsLine (facet_line o) → after_facet s c o ≡ Ok q → IsPlace q
facet_kept s c o q begun line h =
    let found = facets_found s c (facet_of o >>= with_facet c.facets) q h in
    subst IsPlace found.2 (record { kept = begun.kept; room = begun.room; named = begun.named; fresh = begun.fresh; whole = facet_given c.facets found.0 o begun.whole line found.1 })

-- a complex with that name is there
place_there : (cs : List ComplexBlock) (name : List ℕ) (k : ℕ) → place_of_name cs name ≡ Some k → nat_lt k (length cs) ≡ true
place_there cs name k h = there (nat_lt (position_or_len (λ c. bytes_eq name c.name) cs) (length cs)) (position_or_len (λ c. bytes_eq name c.name) cs) k (length cs) refl h
  where
    there : (b : Bool) (i k n : ℕ) → nat_lt i n ≡ b → cond b (Some i) None ≡ Some k → nat_lt k n ≡ true
    there true i k n e h = let same : i ≡ k = cc in rw (← same) e
    there false i k n e h = absurd cc

begun_kept : (s : Spelled) (name : List ℕ) (from to : Option ℕ) (q : Place) → IsKept s → length s.maps < 8 → is_name name ≡ true → has_name (block_names s.complexes s.maps) name ≡ false
    → ((k : ℕ) → from ≡ Some k → nat_lt k (length s.complexes) ≡ true) → ((k : ℕ) → to ≡ Some k → nat_lt k (length s.complexes) ≡ true)
    → begun_map s name from to ≡ Ok q → IsPlace q
begun_kept s name None to q kept room named fresh f t h = absurd cc
begun_kept s name (Some i) None q kept room named fresh f t h = absurd cc
begun_kept s name (Some i) (Some j) q kept room named fresh f t h =
    subst IsPlace (ok_same h) (record { kept = kept; room = room; named = named; fresh = fresh; from_there = f i refl; to_there = t j refl; free = tt })

map_opened : (s : Spelled) (name from to : List ℕ) (q : Place) → IsKept s → is_name name ≡ true → after_map s name from to ≡ Ok q → IsPlace q
map_opened s name from to q kept named h =
    let room = passed (nat_le 8 (length s.maps)) _ _ q h in
    let fresh = passed (has_name (block_names s.complexes s.maps) name) _ _ q room.second in
    begun_kept s name (place_of_name s.complexes from) (place_of_name s.complexes to) q kept (leb-false 8 (length s.maps) room.first) named fresh.first
    (place_there s.complexes from) (place_there s.complexes to) fresh.second

sends_found : (s : Spelled) (m : MapBlock) (r : Result (List Sent) InputKind) (q : Place) → with_sends s m r ≡ Ok q
    → (sends : List Sent) × (r ≡ Ok sends) × (in_map s (record { name = m.name; from = m.from; to = m.to; sends = sends }) ≡ q)
sends_found s m (Ok sends) q h = (sends, refl, ok_same h)
sends_found s m (Err k) q h = absurd cc

send_kept : (s : Spelled) (m : MapBlock) (o : Option Sent) (q : Place) → IsMapBegun s m → after_send s m o ≡ Ok q → IsPlace q
send_kept s m None q begun h = absurd cc
send_kept s m (Some sent) q begun h =
    let from = facets_at s.complexes m.from in
    let to = facets_at s.complexes m.to in
    let found = sends_found s m (with_send from to m.sends sent) q h in
    let good = fault_free (send_fault from to m.sends sent) (m.sends ++ sent ∷ []) found.0 found.1 in
    subst IsPlace found.2 (record {
      kept = begun.kept;
      room = begun.room;
      named = begun.named;
      fresh = begun.fresh;
      from_there = begun.from_there;
      to_there = begun.to_there;
      free = subst (AreFree from to []) good.second (free_send from to [] m.sends sent begun.free good.first);
    })

kept_after : (p : Place) (l : Line) (q : Place) → IsPlace p → IsLine l → after p l ≡ Ok q → IsPlace q
kept_after at_start heading q hp hl h = let same : at_prime ≡ q = ok_same h in subst IsPlace same tt
kept_after at_prime (prime_line n) q hp hl h = prime_kept n q h
kept_after (between s) (complex_line name) q hp hl h = opened_kept s name q hp hl h
kept_after (in_complex s c) (facet_line vs) q hp hl h = facet_kept s c vs q hp hl h
kept_after (in_complex s c) end_line q hp hl h = subst IsPlace (ok_same h) (complex_kept s c hp)
kept_after (between s) (map_line name from to) q hp hl h = map_opened s name from to q hp hl h
kept_after (in_map s m) (send_line sent) q hp hl h = send_kept s m sent q hp h
kept_after (in_map s m) end_line q hp hl h =
    let good = fault_free (end_fault (facets_at s.complexes m.from) (facets_at s.complexes m.to) m.sends) (between (with_map s m)) q h in
    subst IsPlace good.second (map_kept s m hp good.first)
kept_after _ _ q hp hl h = absurd cc

-- ---- all lines

words_kept : (p : Place) (ws : List (List ℕ)) (q : Place) → IsPlace p → after_words p ws ≡ Ok q → IsPlace q
words_kept p ws q hp h = skip_step (is_skipped ws) p (after p (line_of ws)) q hp (λ e. kept_after p (line_of ws) q hp (line_is ws) e) h
  where
    skip_step : (b : Bool) (p : Place) (r : Result Place InputKind) (q : Place) → IsPlace p → (r ≡ Ok q → IsPlace q) → cond b (Ok p) r ≡ Ok q → IsPlace q
    skip_step true p r q hp more h = subst IsPlace (ok_same h) hp
    skip_step false p r q hp more h = more h

line_kept : (p : Place) (l : List ℕ) (q : Place) → IsPlace p → after_line p l ≡ Ok q → IsPlace q
unfolding after_line
line_kept p l q hp h = words_kept p (words l) q hp (met (list_all is_allowed l) _ (after_words p (words l)) q h).second

at_line_ok : {A B : Type 0} (n : ℕ) (r : Result A InputKind) (f : A → Result B Fault) (y : B) → (at_line n r >>= f) ≡ Ok y → (x : A) × (r ≡ Ok x) × (f x ≡ Ok y)
at_line_ok n (Ok x) f y h = (x, refl, h)
at_line_ok n (Err k) f y h = absurd cc

lines_kept : (ls : List (List ℕ)) (n : ℕ) (p q : Place) → IsPlace p → place_after n p ls ≡ Ok q → IsPlace q
lines_kept [] n p q hp h = subst IsPlace (ok_same h) hp
lines_kept (l ∷ ls) n p q hp h =
    let step = at_line_ok n (after_line p l) (λ next. place_after (n + 1) next ls) q h in
    lines_kept ls (n + 1) step.0 q (line_kept p l step.0 hp step.1) step.2

end_kept : (n : ℕ) (p : Place) (s : Spelled) → IsPlace p → at_line n (at_end p) ≡ Ok s → IsKept s
end_kept n (between t) s hp h = subst IsKept (ok_same h) hp
end_kept n at_start s hp h = absurd cc
end_kept n at_prime s hp h = absurd cc
end_kept n (in_complex t c) s hp h = absurd cc
end_kept n (in_map t m) s hp h = absurd cc

pub spelled_kept : (text : List ℕ) (s : Spelled) → input_of text ≡ Ok s → IsKept s
unfolding input_of
spelled_kept text s h =
    let short = passed (nat_lt 1048576 (length text)) _ (lines_spell text) s h in
    let read = bind_ok (place_after 1 at_start (lines text)) _ s short.second in
    end_kept _ read.0 s (lines_kept (lines text) 1 at_start read.0 tt read.1) read.2

pub job_from : (s : Spelled) → IsKept s → is_job s.prime s.complexes s.maps ≡ true
unfolding is_job
job_from s h =
    and_from _ _ h.prime (and_from _ _ (and_from _ _ h.few h.few_maps) (and_from _ _ (and_from _ _ h.named h.distinct) (and_from _ _ h.whole h.whole_maps)))

-- what the bytes spell is a job
pub spelled_job : (text : List ℕ) (s : Spelled) → input_of text ≡ Ok s → is_job s.prime s.complexes s.maps ≡ true
spelled_job text s h = job_from s (spelled_kept text s h)

-- The lines of a job lead, block by block, to what the job is.
use Rattle.std.{proofs.Common.{◌≡◌, ◌∙◌, ◌+◌, ◌≤◌, ◌<◌, ◌&&◌, ◌||◌, List, [], ◌∷◌, ◌++◌, ℕ, suc, zero, Bool, true, false, cond, refl, sym, ap, subst, arith, length, map, append_assoc, append-nil, length-append, not, nat_lt, nat_eq, Ok, Some, None, nat_le, is_none, fold, flat_map, codes, eq-eqb, eqb-true, leb-true, le-ltb, lt-ltb, ltb-true}, specs.declared.option.Option.Option, specs.List.{list_all, position_or_len}, specs.Str.bytes_eq, specs.Fmt.decimal, specs.Ordering.nat_cmp, specs.declared.cmp.Ordering.TheVariants.Greater, specs.BTreeSet.insert_key, proofs.lemmas.List.map-append, proofs.lemmas.List.Folds.{list_all-append, list_any-append}, proofs.lemmas.Bool.{and_from, and_parts, lt-leb, not-true, or_cases}, proofs.lemmas.Bool.Decides.nat_tests, proofs.Math.Logic.⊎_elim}
use Rattle.fp_field.specs.Served.{served}
use Rattle.complex_file.{specs.Names.{ComplexBlock, MapBlock, Sent, BlockFault, InputKind, is_name, is_not_empty, lines, facet_line, line_of, send_line, send_of, ascending, complex_fault, facet_fault, first_facet_fault, has_repeat, has_vertex, is_ascending, is_complex, is_facet, or_later, end_fault, first_send_fault, is_vertex, map_fault, send_fault, are_distinct, block_names, facets_at, has_name, is_map, place_of_name, Place, Spelled, after, after_prime, at_prime, at_start, between, in_complex, in_map, lines_spell, place_after, with_complex, with_map, complex_lines, facet_words, job_lines, map_lines, name_at, send_words, written}, specs.Jobs.is_job, specs.Input.after_line, proofs.Steps.{Both, none_from}, proofs.RepeatLemmas.repeat_by_length, proofs.JobLemmas.{bytes_swap, or_false}, proofs.WrittenLines.{IsStep, Leads, all_weaker, is_plain, leads_on, lines_lead, lines_read, name_plain, number_plain, number_read, numbers_plain, numbers_read}}

-- ---- facets

greater_test : (x v : ℕ) → nat_lt x v ≡ true → nat_cmp v x ≡ Greater
greater_test x v h = grind (arith, nat_tests)

inserted_last : (ks : List ℕ) (v : ℕ) → list_all (λ x. nat_lt x v) ks ≡ true → insert_key nat_cmp ks v ≡ ks ++ v ∷ []
inserted_last [] v h = refl
inserted_last (x ∷ xs) v h =
    let parts = and_parts (nat_lt x v) (list_all (λ y. nat_lt y v) xs) h in
    rw (greater_test x v parts.0) (ap (λ (ys : List ℕ). x ∷ ys) (inserted_last xs v parts.1))

below_next : (ks : List ℕ) (v w : ℕ) → list_all (λ x. nat_lt x v) ks ≡ true → nat_lt v w ≡ true → list_all (λ x. nat_lt x w) (ks ++ v ∷ []) ≡ true
below_next ks v w h e =
    list_all-append (λ x. nat_lt x w) ks (v ∷ [])
    ∙ and_from (list_all (λ x. nat_lt x w) ks) (nat_lt v w && true)
    (all_weaker (λ x. nat_lt x v) (λ x. nat_lt x w) (λ x g. lt-ltb x w (omega (arith, ltb-true x v g, ltb-true v w e))) ks h) (and_from (nat_lt v w) true e refl)

abbrev AreBelow : List ℕ → List ℕ → Type 0
AreBelow ks [] = Unit {0}
AreBelow ks (v ∷ vs) = list_all (λ x. nat_lt x v) ks ≡ true

sorted_stays : (vs ks : List ℕ) → is_ascending vs ≡ true → AreBelow ks vs → fold (insert_key nat_cmp) ks vs ≡ ks ++ vs
sorted_stays [] ks a h = sym (append-nil ks)
sorted_stays (v ∷ []) ks a h = inserted_last ks v h
sorted_stays (v ∷ w ∷ ws) ks a h =
    let parts = and_parts (nat_lt v w) (is_ascending (w ∷ ws)) a in
    ap (λ (ls : List ℕ). fold (insert_key nat_cmp) ls (w ∷ ws)) (inserted_last ks v h)
    ∙ sorted_stays (w ∷ ws) (ks ++ v ∷ []) parts.1 (below_next ks v w h parts.0)
    ∙ append_assoc ks (v ∷ []) (w ∷ ws)

ascending_same : (f : List ℕ) → is_ascending f ≡ true → ascending f ≡ f
ascending_same [] h = refl
ascending_same (v ∷ vs) h = sorted_stays (v ∷ vs) [] h refl

none_repeated : (f : List ℕ) → is_ascending f ≡ true → has_repeat f ≡ false
none_repeated f h = sym (repeat_by_length f) ∙ ap (λ (g : List ℕ). nat_lt (length g) (length f)) (ascending_same f h) ∙ le-ltb (length f) (length f) (omega arith)

facet_read : (f : List ℕ) → is_not_empty f ≡ true → list_all (λ v. nat_le v 999999) f ≡ true → line_of (facet_words f) ≡ facet_line (Some f)
facet_read [] some small = absurd cc
facet_read (v ∷ vs) some small = ap facet_line (numbers_read (v ∷ vs) small)

facet_step : (s : Spelled) (c : ComplexBlock) (f : List ℕ) → is_facet f ≡ true → facet_fault c.facets f ≡ None
    → IsStep (in_complex s c) (facet_words f) (in_complex s (record { name = c.name; facets = c.facets ++ f ∷ [] }))
facet_step s c f h free =
    let parts = and_parts (is_not_empty f) (is_ascending f && list_all (λ v. nat_le v 999999) f) h in
    let more = and_parts (is_ascending f) (list_all (λ v. nat_le v 999999) f) parts.1 in
    record {
      said = refl;
      plain = numbers_plain f more.1;
      made = ap (after (in_complex s c)) (facet_read f parts.0 more.1) ∙ rw (none_repeated f more.0, ascending_same f more.0, free) refl;
    }

later_free : (o : Option InputKind) (at : ℕ) (later : Option BlockFault) → or_later o at later ≡ None → Both (o ≡ None) (later ≡ None)
later_free None at later h = record { first = refl; second = h }
later_free (Some k) at later h = absurd cc

facets_lead : (s : Spelled) (name : List ℕ) (before fs : List (List ℕ)) (at : ℕ) → list_all is_facet fs ≡ true → first_facet_fault before at fs ≡ None
    → Leads (in_complex s (record { name = name; facets = before })) (map facet_words fs) (in_complex s (record { name = name; facets = before ++ fs }))
facets_lead s name before [] at h e = ap (λ (gs : List (List ℕ)). in_complex s (record { name = name; facets = gs })) (sym (append-nil before))
facets_lead s name before (f ∷ fs) at h e =
    let parts = and_parts (is_facet f) (list_all is_facet fs) h in
    let free = later_free (facet_fault before f) at (first_facet_fault (before ++ f ∷ []) (at + 1) fs) e in
    let next : Place = in_complex s (record { name = name; facets = before ++ f ∷ [] }) in (
      next,
      facet_step s (record { name = name; facets = before }) f parts.0 free.first,
      subst (λ (gs : List (List ℕ)). Leads next (map facet_words fs) (in_complex s (record { name = name; facets = gs }))) (append_assoc before (f ∷ []) fs)
          (facets_lead s name (before ++ f ∷ []) fs (at + 1) parts.1 free.second),
    )

-- ---- complexes

complex_opened : (s : Spelled) (name : List ℕ) → length s.complexes < 8 → has_name (block_names s.complexes s.maps) name ≡ false → is_name name ≡ true
    → IsStep (between s) (codes "complex" ∷ name ∷ []) (in_complex s (record { name = name; facets = [] }))
complex_opened s name room fresh named = record {
  said = refl;
  plain = and_from (is_plain name) true (name_plain name named) refl;
  made = rw (named, lt-leb 8 (length s.complexes) room, fresh) refl;
}

complex_leads : (s : Spelled) (c : ComplexBlock) → length s.complexes < 8 → has_name (block_names s.complexes s.maps) c.name ≡ false → is_name c.name ≡ true → is_complex c.facets ≡ true
    → Leads (between s) (complex_lines c) (between (with_complex s c))
complex_leads s c room fresh named whole =
    let parts = and_parts (list_all is_facet c.facets) (is_none (complex_fault c.facets)) whole in (
      in_complex s (record { name = c.name; facets = [] }),
      complex_opened s c.name room fresh named,
      leads_on (in_complex s (record { name = c.name; facets = [] })) (in_complex s c) (between (with_complex s c)) (map facet_words c.facets) ((codes "end" ∷ []) ∷ [])
          (facets_lead s c.name [] c.facets 0 parts.0 (none_from (complex_fault c.facets) parts.1))
          (between (with_complex s c), record { said = refl; plain = refl; made = refl }, refl),
    )

-- ---- names

name_apart : (xs ys : List (List ℕ)) (y n : List ℕ) → has_name (xs ++ y ∷ ys) n ≡ false → bytes_eq n y ≡ false
name_apart [] ys y n h = (or_false (bytes_eq n y) (has_name ys n) h).first
name_apart (x ∷ xs) ys y n h = name_apart xs ys y n (or_false (bytes_eq n x) (has_name (xs ++ y ∷ ys) n) h).second

-- a name is not among those before it
fresh_before : (xs ys : List (List ℕ)) (y : List ℕ) → are_distinct (xs ++ y ∷ ys) ≡ true → has_name xs y ≡ false
fresh_before [] ys y h = refl
fresh_before (x ∷ xs) ys y h =
    let parts = and_parts (not (has_name (xs ++ y ∷ ys) x)) (are_distinct (xs ++ y ∷ ys)) h in
    rw (bytes_swap y x ∙ name_apart xs ys y x (not-true (has_name (xs ++ y ∷ ys) x) parts.0)) (fresh_before xs ys y parts.1)

first_free : (a b : Bool) → (a || b) ≡ false → a ≡ false
first_free true b h = absurd cc
first_free false b h = refl

distinct_front : (xs ys : List (List ℕ)) → are_distinct (xs ++ ys) ≡ true → are_distinct xs ≡ true
distinct_front [] ys h = refl
distinct_front (x ∷ xs) ys h =
    let parts = and_parts (not (has_name (xs ++ ys) x)) (are_distinct (xs ++ ys)) h in
    let apart : has_name xs x ≡ false = first_free (has_name xs x) (has_name ys x) (sym (list_any-append (bytes_eq x) xs ys) ∙ not-true (has_name (xs ++ ys) x) parts.0) in
    and_from (not (has_name xs x)) (are_distinct xs) (rw apart refl) (distinct_front xs ys parts.1)

abbrev complex_names : List ComplexBlock → List (List ℕ)
complex_names cs = map (λ (c : ComplexBlock). c.name) cs

abbrev map_names : List MapBlock → List (List ℕ)
map_names ms = map (λ (m : MapBlock). m.name) ms

bytes_same : (bs : List ℕ) → bytes_eq bs bs ≡ true
bytes_same [] = refl
bytes_same (b ∷ bs) = and_from (nat_eq b b) (bytes_eq bs bs) (eq-eqb b b refl) (bytes_same bs)

other_name : (cs : List ComplexBlock) (k : ℕ) (n : List ℕ) → k < length cs → has_name (complex_names cs) n ≡ false → bytes_eq n (name_at cs k) ≡ false
other_name [] k n below h = absurd (omega arith)
other_name (c ∷ cs) zero n below h = (or_false (bytes_eq n c.name) (has_name (complex_names cs) n) h).first
other_name (c ∷ cs) (suc k) n below h = other_name cs k n (omega arith) (or_false (bytes_eq n c.name) (has_name (complex_names cs) n) h).second

name_place : (cs : List ComplexBlock) (k : ℕ) → k < length cs → are_distinct (complex_names cs) ≡ true → position_or_len (λ c. bytes_eq (name_at cs k) c.name) cs ≡ k
name_place [] k below h = absurd (omega arith)
name_place (c ∷ cs) zero below h = rw (bytes_same c.name) refl
name_place (c ∷ cs) (suc k) below h =
    let parts = and_parts (not (has_name (complex_names cs) c.name)) (are_distinct (complex_names cs)) h in
    let apart : bytes_eq (name_at cs k) c.name ≡ false = bytes_swap (name_at cs k) c.name ∙ other_name cs k c.name (omega arith) (not-true (has_name (complex_names cs) c.name) parts.0) in
    rw apart (omega (arith, name_place cs k (omega arith) parts.1))

place_read : (cs : List ComplexBlock) (k : ℕ) → k < length cs → are_distinct (complex_names cs) ≡ true → place_of_name cs (name_at cs k) ≡ Some k
place_read cs k below h = rw (name_place cs k below h, lt-ltb k (length cs) below) refl

name_there : (cs : List ComplexBlock) (k : ℕ) → k < length cs → list_all is_name (complex_names cs) ≡ true → is_name (name_at cs k) ≡ true
name_there [] k below h = absurd (omega arith)
name_there (c ∷ cs) zero below h = (and_parts (is_name c.name) (list_all is_name (complex_names cs)) h).0
name_there (c ∷ cs) (suc k) below h = name_there cs k (omega arith) (and_parts (is_name c.name) (list_all is_name (complex_names cs)) h).1

facets_there : (cs : List ComplexBlock) (k : ℕ) → list_all (λ c. is_complex c.facets) cs ≡ true → list_all is_facet (facets_at cs k) ≡ true
facets_there [] k h = refl
facets_there (c ∷ cs) zero h = (and_parts (list_all is_facet c.facets) (is_none (complex_fault c.facets)) (and_parts (is_complex c.facets) (list_all (λ c. is_complex c.facets) cs) h).0).0
facets_there (c ∷ cs) (suc k) h = facets_there cs k (and_parts (is_complex c.facets) (list_all (λ c. is_complex c.facets) cs) h).1

-- ---- all complexes

abbrev without_maps : ℕ → List ComplexBlock → Spelled
without_maps p cs = record { prime = p; complexes = cs; maps = [] }

complexes_lead : (p : ℕ) (before cs : List ComplexBlock) → length (before ++ cs) ≤ 8 → are_distinct (complex_names (before ++ cs)) ≡ true → list_all is_name (complex_names cs) ≡ true
    → list_all (λ c. is_complex c.facets) cs ≡ true → Leads (between (without_maps p before)) (flat_map complex_lines cs) (between (without_maps p (before ++ cs)))
complexes_lead p before [] few distinct named whole = ap (λ (cs : List ComplexBlock). between (without_maps p cs)) (sym (append-nil before))
complexes_lead p before (c ∷ cs) few distinct named whole =
    let names = and_parts (is_name c.name) (list_all is_name (complex_names cs)) named in
    let blocks = and_parts (is_complex c.facets) (list_all (λ c. is_complex c.facets) cs) whole in
    let order : (before ++ c ∷ []) ++ cs ≡ before ++ c ∷ cs = append_assoc before (c ∷ []) cs in
    let parted : are_distinct (complex_names before ++ c.name ∷ complex_names cs) ≡ true = ap are_distinct (sym (map-append (λ (b : ComplexBlock). b.name) before (c ∷ cs))) ∙ distinct in
    let fresh : has_name (block_names before []) c.name ≡ false =
    ap (λ (ns : List (List ℕ)). has_name ns c.name) (append-nil (complex_names before)) ∙ fresh_before (complex_names before) (complex_names cs) c.name parted in
    leads_on (between (without_maps p before)) (between (without_maps p (before ++ c ∷ []))) (between (without_maps p (before ++ c ∷ cs))) (complex_lines c) (flat_map complex_lines cs)
    (complex_leads (without_maps p before) c (omega (arith, few, length-append before (c ∷ cs))) fresh names.0 blocks.0)
    (subst (λ (all : List ComplexBlock). Leads (between (without_maps p (before ++ c ∷ []))) (flat_map complex_lines cs) (between (without_maps p all))) order
    (complexes_lead p (before ++ c ∷ []) cs (subst (λ (all : List ComplexBlock). length all ≤ 8) (sym order) few) (ap (λ (all : List ComplexBlock). are_distinct (complex_names all)) order ∙ distinct) names.1 blocks.1))

-- ---- sends

vertex_in : (f : List ℕ) (v : ℕ) → list_all (λ w. nat_le w 999999) f ≡ true → has_vertex f v ≡ true → v ≤ 999999
vertex_in [] v h e = absurd cc
vertex_in (w ∷ ws) v h e =
    let parts = and_parts (nat_le w 999999) (list_all (λ u. nat_le u 999999) ws) h in
    ⊎_elim (λ (first : nat_eq v w ≡ true). omega (arith, eqb-true v w first, leb-true w 999999 parts.0)) (λ (later : has_vertex ws v ≡ true). vertex_in ws v parts.1 later) (or_cases (nat_eq v w) (has_vertex ws v) e)

vertex_small : (facets : List (List ℕ)) (v : ℕ) → list_all is_facet facets ≡ true → is_vertex facets v ≡ true → v ≤ 999999
vertex_small [] v h e = absurd cc
vertex_small (f ∷ fs) v h e =
    let parts = and_parts (is_facet f) (list_all is_facet fs) h in
    let small = (and_parts (is_ascending f) (list_all (λ w. nat_le w 999999) f) (and_parts (is_not_empty f) (is_ascending f && list_all (λ w. nat_le w 999999) f) parts.0).1).1 in
    ⊎_elim (λ (first : has_vertex f v ≡ true). vertex_in f v small first) (λ (later : is_vertex fs v ≡ true). vertex_small fs v parts.1 later) (or_cases (has_vertex f v) (is_vertex fs v) e)

both_there : (a b : Bool) (k : InputKind) (o : Option InputKind) → cond (not (a && b)) (Some k) o ≡ None → Both (a ≡ true) (b ≡ true)
both_there true true k o h = record { first = refl; second = refl }
both_there true false k o h = absurd cc
both_there false b k o h = absurd cc

sent_small : (from to : List (List ℕ)) (before : List Sent) (d : Sent) → list_all is_facet from ≡ true → list_all is_facet to ≡ true → send_fault from to before d ≡ None → Both (d.from ≤ 999999) (d.to ≤ 999999)
sent_small from to before d hf ht h =
    let there = both_there (is_vertex from d.from) (is_vertex to d.to) _ _ h in
    record { first = vertex_small from d.from hf there.first; second = vertex_small to d.to ht there.second }

send_read : (d : Sent) → d.from ≤ 999999 → d.to ≤ 999999 → line_of (send_words d) ≡ send_line (Some d)
send_read d f t = λ i. send_line (send_of (number_read d.from f i) (number_read d.to t i))

send_step : (s : Spelled) (m : MapBlock) (d : Sent) → Both (d.from ≤ 999999) (d.to ≤ 999999) → send_fault (facets_at s.complexes m.from) (facets_at s.complexes m.to) m.sends d ≡ None
    → IsStep (in_map s m) (send_words d) (in_map s (record { name = m.name; from = m.from; to = m.to; sends = m.sends ++ d ∷ [] }))
send_step s m d small free = record {
  said = refl;
  plain = and_from (is_plain (decimal d.from)) (is_plain (decimal d.to) && true) (number_plain d.from small.first) (and_from (is_plain (decimal d.to)) true (number_plain d.to small.second) refl);
  made = ap (after (in_map s m)) (send_read d small.first small.second) ∙ rw free refl;
}

abbrev with_all : MapBlock → List Sent → MapBlock
with_all m sends = record { name = m.name; from = m.from; to = m.to; sends = sends }

sends_lead : (s : Spelled) (m : MapBlock) (before ss : List Sent) (at : ℕ) → list_all is_facet (facets_at s.complexes m.from) ≡ true → list_all is_facet (facets_at s.complexes m.to) ≡ true
    → first_send_fault (facets_at s.complexes m.from) (facets_at s.complexes m.to) before at ss ≡ None
    → Both (Leads (in_map s (with_all m before)) (map send_words ss) (in_map s (with_all m (before ++ ss)))) (end_fault (facets_at s.complexes m.from) (facets_at s.complexes m.to) (before ++ ss) ≡ None)
sends_lead s m before [] at hf ht h =
    let last = later_free (end_fault (facets_at s.complexes m.from) (facets_at s.complexes m.to) before) at None h in
    record {
      first = ap (λ (ss : List Sent). in_map s (with_all m ss)) (sym (append-nil before));
      second = ap (end_fault (facets_at s.complexes m.from) (facets_at s.complexes m.to)) (append-nil before) ∙ last.first;
    }
sends_lead s m before (d ∷ ds) at hf ht h =
    let from = facets_at s.complexes m.from in
    let to = facets_at s.complexes m.to in
    let free = later_free (send_fault from to before d) at (first_send_fault from to (before ++ d ∷ []) (at + 1) ds) h in
    let order : (before ++ d ∷ []) ++ ds ≡ before ++ d ∷ ds = append_assoc before (d ∷ []) ds in
    let next : Place = in_map s (with_all m (before ++ d ∷ [])) in
    let more = sends_lead s m (before ++ d ∷ []) ds (at + 1) hf ht free.second in
    record {
      first = (
        next,
        send_step s (with_all m before) d (sent_small from to before d hf ht free.first) free.first,
        subst (λ (ss : List Sent). Leads next (map send_words ds) (in_map s (with_all m ss))) order more.first,
      );
      second = ap (end_fault from to) (sym order) ∙ more.second;
    }

-- ---- maps

pub record AreWhole (cs : List ComplexBlock) : Type 0 where
  pub distinct : are_distinct (complex_names cs) ≡ true
  pub named : list_all is_name (complex_names cs) ≡ true
  pub whole : list_all (λ c. is_complex c.facets) cs ≡ true

map_opened : (s : Spelled) (m : MapBlock) → AreWhole s.complexes → length s.maps < 8 → has_name (block_names s.complexes s.maps) m.name ≡ false → is_name m.name ≡ true
    → m.from < length s.complexes → m.to < length s.complexes
    → IsStep (between s) (codes "map" ∷ m.name ∷ name_at s.complexes m.from ∷ name_at s.complexes m.to ∷ []) (in_map s (with_all m []))
map_opened s m all room fresh named from to =
    let from_named = name_there s.complexes m.from from all.named in
    let to_named = name_there s.complexes m.to to all.named in
    record {
      said = refl;
      plain = and_from (is_plain m.name) (is_plain (name_at s.complexes m.from) && (is_plain (name_at s.complexes m.to) && true)) (name_plain m.name named)
          (and_from (is_plain (name_at s.complexes m.from)) (is_plain (name_at s.complexes m.to) && true) (name_plain (name_at s.complexes m.from) from_named)
          (and_from (is_plain (name_at s.complexes m.to)) true (name_plain (name_at s.complexes m.to) to_named) refl));
      made = rw (named, from_named, to_named, lt-leb 8 (length s.maps) room, fresh, place_read s.complexes m.from from all.distinct, place_read s.complexes m.to to all.distinct) refl;
    }

map_leads : (s : Spelled) (m : MapBlock) → AreWhole s.complexes → length s.maps < 8 → has_name (block_names s.complexes s.maps) m.name ≡ false → is_name m.name ≡ true
    → is_map s.complexes m ≡ true → Leads (between s) (map_lines s.complexes m) (between (with_map s m))
map_leads s m all room fresh named h =
    let from = facets_at s.complexes m.from in
    let to = facets_at s.complexes m.to in
    let parts = and_parts (nat_lt m.from (length s.complexes) && nat_lt m.to (length s.complexes)) (is_none (map_fault from to m.sends)) h in
    let below = and_parts (nat_lt m.from (length s.complexes)) (nat_lt m.to (length s.complexes)) parts.0 in
    let sent = sends_lead s m [] m.sends 0 (facets_there s.complexes m.from all.whole) (facets_there s.complexes m.to all.whole) (none_from (map_fault from to m.sends) parts.1) in (
      in_map s (with_all m []),
      map_opened s m all room fresh named (ltb-true m.from (length s.complexes) below.0) (ltb-true m.to (length s.complexes) below.1),
      leads_on (in_map s (with_all m [])) (in_map s m) (between (with_map s m)) (map send_words m.sends) ((codes "end" ∷ []) ∷ []) sent.first
          (between (with_map s m), record { said = refl; plain = refl; made = rw (sent.second) refl }, refl),
    )

abbrev with_blocks : ℕ → List ComplexBlock → List MapBlock → Spelled
with_blocks p cs ms = record { prime = p; complexes = cs; maps = ms }

maps_lead : (p : ℕ) (cs : List ComplexBlock) (before ms : List MapBlock) → AreWhole cs → length (before ++ ms) ≤ 8 → are_distinct (block_names cs (before ++ ms)) ≡ true
    → list_all is_name (map_names ms) ≡ true → list_all (is_map cs) ms ≡ true → Leads (between (with_blocks p cs before)) (flat_map (map_lines cs) ms) (between (with_blocks p cs (before ++ ms)))
maps_lead p cs before [] all few distinct named whole = ap (λ (ms : List MapBlock). between (with_blocks p cs ms)) (sym (append-nil before))
maps_lead p cs before (m ∷ ms) all few distinct named whole =
    let names = and_parts (is_name m.name) (list_all is_name (map_names ms)) named in
    let blocks = and_parts (is_map cs m) (list_all (is_map cs) ms) whole in
    let order : (before ++ m ∷ []) ++ ms ≡ before ++ m ∷ ms = append_assoc before (m ∷ []) ms in
    let parted : block_names cs (before ++ m ∷ ms) ≡ block_names cs before ++ m.name ∷ map_names ms =
    ap (λ (ns : List (List ℕ)). complex_names cs ++ ns) (map-append (λ (b : MapBlock). b.name) before (m ∷ ms)) ∙ sym (append_assoc (complex_names cs) (map_names before) (m.name ∷ map_names ms)) in
    let fresh = fresh_before (block_names cs before) (map_names ms) m.name (ap are_distinct (sym parted) ∙ distinct) in
    leads_on (between (with_blocks p cs before)) (between (with_blocks p cs (before ++ m ∷ []))) (between (with_blocks p cs (before ++ m ∷ ms))) (map_lines cs m) (flat_map (map_lines cs) ms)
    (map_leads (with_blocks p cs before) m all (omega (arith, few, length-append before (m ∷ ms))) fresh names.0 blocks.0)
    (subst (λ (more : List MapBlock). Leads (between (with_blocks p cs (before ++ m ∷ []))) (flat_map (map_lines cs) ms) (between (with_blocks p cs more))) order
    (maps_lead p cs (before ++ m ∷ []) ms all (subst (λ (more : List MapBlock). length more ≤ 8) (sym order) few) (ap (λ (more : List MapBlock). are_distinct (block_names cs more)) order ∙ distinct) names.1 blocks.1))

-- ---- a job

served_small : (p : ℕ) → served p ≡ true → p ≤ 999999
served_small p h =
    ⊎_elim (λ (low : (nat_eq p 2 || nat_eq p 3) ≡ true). ⊎_elim (λ (e : nat_eq p 2 ≡ true). omega (arith, eqb-true p 2 e)) (λ (e : nat_eq p 3 ≡ true). omega (arith, eqb-true p 3 e)) (or_cases (nat_eq p 2) (nat_eq p 3) low))
    (λ (e : nat_eq p 5 ≡ true). omega (arith, eqb-true p 5 e)) (or_cases (nat_eq p 2 || nat_eq p 3) (nat_eq p 5) h)

prime_step : (p : ℕ) → served p ≡ true → IsStep at_prime (codes "prime" ∷ decimal p ∷ []) (between (without_maps p []))
prime_step p h = record {
  said = refl;
  plain = and_from (is_plain (decimal p)) true (number_plain p (served_small p h)) refl;
  made = ap after_prime (number_read p (served_small p h)) ∙ rw h refl;
}

job_leads : (s : Spelled) → is_job s.prime s.complexes s.maps ≡ true → Leads at_start (job_lines s) (between s)
unfolding is_job
job_leads s h =
    let names = block_names s.complexes s.maps in
    let parts = and_parts (served s.prime) _ h in
    let rest = and_parts (nat_le (length s.complexes) 8 && nat_le (length s.maps) 8) _ parts.1 in
    let few = and_parts (nat_le (length s.complexes) 8) (nat_le (length s.maps) 8) rest.0 in
    let more = and_parts (list_all is_name names && are_distinct names) _ rest.1 in
    let named = and_parts (list_all is_name names) (are_distinct names) more.0 in
    let whole = and_parts (list_all (λ c. is_complex c.facets) s.complexes) (list_all (is_map s.complexes) s.maps) more.1 in
    let each = and_parts (list_all is_name (complex_names s.complexes)) (list_all is_name (map_names s.maps)) (sym (list_all-append is_name (complex_names s.complexes) (map_names s.maps)) ∙ named.0) in
    let front : are_distinct (complex_names s.complexes) ≡ true = distinct_front (complex_names s.complexes) (map_names s.maps) named.1 in (
      at_prime,
      record { said = refl; plain = refl; made = refl },
      (
        between (without_maps s.prime []),
        prime_step s.prime parts.0,
        leads_on (between (without_maps s.prime [])) (between (without_maps s.prime s.complexes)) (between s) (flat_map complex_lines s.complexes) (flat_map (map_lines s.complexes) s.maps)
            (complexes_lead s.prime [] s.complexes (leb-true (length s.complexes) 8 few.0) front each.0 whole.0)
            (maps_lead s.prime s.complexes [] s.maps (record { distinct = front; named = each.0; whole = whole.0 }) (leb-true (length s.maps) 8 few.1) named.1 each.1 whole.1),
      ),
    )

pub written_job : (s : Spelled) → is_job s.prime s.complexes s.maps ≡ true → lines_spell (written s) ≡ Ok s
unfolding after_line
written_job s h =
    let way = job_leads s h in
    let read : place_after 1 at_start (lines (written s)) ≡ Ok (between s) =
    ap (place_after 1 at_start) (lines_read at_start (between s) (job_lines s) way) ∙ lines_lead 1 at_start (between s) (job_lines s) ([] ∷ []) way in
    rw read refl

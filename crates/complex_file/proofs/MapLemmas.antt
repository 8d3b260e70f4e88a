-- The vertices of complexes, and where a map sends them.
use Rattle.std.{proofs.Common.{◌≡◌, ◌∙◌, ◌+◌, ◌<◌, ◌≤◌, ◌&&◌, ◌||◌, not, List, [], ◌∷◌, ◌++◌, ℕ, suc, Bool, true, false, cond, refl, sym, ap, subst, arith, length, map, drop, get_or, add-one, drop-cons, append-nil, append_assoc, nat_eq, Ok, Err, Some, None, nat_le, is_some, unwrap_or, leb-true, le-leb}, specs.declared.option.Option.Option, specs.List.list_all, specs.Map.lookup, proofs.lemmas.List.{drop_all, map-append}, proofs.lemmas.List.Folds.list_all-append, proofs.lemmas.Bool.{and_from, and_parts, lt-leb}}
use Rattle.simplicial_law.specs.Names.{subsets}
use Rattle.complex_file.{specs.Names.{BlockFault, Sent, LineFault, InputKind, VertexSentTwice, VertexUnknown, Fails, sends_in, end_fault, first_send_fault, image, is_sent, is_vertex, keeps_edge, send_fault, with_send}, proofs.Steps.{fault_free, fault_found, later_fault, later_none}}
use Rattle.complex_file.specs.declared.fault.LineFault.TheVariants as fault

-- ---- sends

pub sent_by_lookup : (es : List (ℕ × ℕ)) (v : ℕ) → is_some (lookup (nat_eq v) es) ≡ is_sent (sends_in es) v
sent_by_lookup [] v = refl
sent_by_lookup (e ∷ es) v = sent_step (nat_eq v e.0) e.1 (lookup (nat_eq v) es) (is_sent (sends_in es) v) (sent_by_lookup es v)
  where
    sent_step : (b : Bool) (w : ℕ) (o : Option ℕ) (rest : Bool) → is_some o ≡ rest → is_some (cond b (Some w) o) ≡ (b || rest)
    sent_step true w o rest h = refl
    sent_step false w o rest h = h

pub image_by_lookup : (es : List (ℕ × ℕ)) (v : ℕ) → unwrap_or (lookup (nat_eq v) es) 0 ≡ image (sends_in es) v
image_by_lookup [] v = refl
image_by_lookup (e ∷ es) v = image_step (nat_eq v e.0) e.1 (lookup (nat_eq v) es) (image (sends_in es) v) (image_by_lookup es v)
  where
    image_step : (b : Bool) (w : ℕ) (o : Option ℕ) (rest : ℕ) → unwrap_or o 0 ≡ rest → unwrap_or (cond b (Some w) o) 0 ≡ cond b w rest
    image_step true w o rest h = refl
    image_step false w o rest h = h

absent_entry : (es : List (ℕ × ℕ)) (v : ℕ) → is_sent (sends_in es) v ≡ false → lookup (nat_eq v) es ≡ None
absent_entry es v h = none_is (lookup (nat_eq v) es) (sent_by_lookup es v ∙ h)
  where
    none_is : (o : Option ℕ) → is_some o ≡ false → o ≡ None
    none_is None e = refl
    none_is (Some x) e = absurd cc

-- a send without a fault is of a vertex that is not sent
free_fresh : (from to : List (List ℕ)) (before : List Sent) (s : Sent) → send_fault from to before s ≡ None → is_sent before s.from ≡ false
free_fresh from to before s h = fresh_step (not (is_vertex from s.from && is_vertex to s.to)) (is_sent before s.from) h
  where
    fresh_step : (a b : Bool) → cond a (Some VertexUnknown) (cond b (Some VertexSentTwice) None) ≡ None → b ≡ false
    fresh_step true b h = absurd cc
    fresh_step false true h = absurd cc
    fresh_step false false h = refl

pub not_yet : (from to : List (List ℕ)) (es : List (ℕ × ℕ)) (before : List Sent) (s : Sent) (o : Option InputKind) → sends_in es ≡ before
    → o ≡ send_fault from to before s → o ≡ None → lookup (nat_eq s.from) es ≡ None
not_yet from to es before s o seen is none =
    absent_entry es s.from (ap (λ (b : List Sent). is_sent b s.from) seen ∙ free_fresh from to before s (sym is ∙ none))

-- a send without a fault goes behind the others
pub send_added : (from to : List (List ℕ)) (es new : List (ℕ × ℕ)) (before : List Sent) (s : Sent) (o : Option InputKind) → sends_in es ≡ before
    → o ≡ send_fault from to before s → o ≡ None → new ≡ es ++ (s.from, s.to) ∷ [] → with_send from to before s ≡ Ok (sends_in new)
send_added from to es new before s o seen is none added =
    let longer : sends_in new ≡ before ++ s ∷ [] =
    ap sends_in added ∙ map-append (λ (e : ℕ × ℕ). record { from = e.0; to = e.1 }) es ((s.from, s.to) ∷ []) ∙ ap (λ (b : List Sent). b ++ s ∷ []) seen in
    let free : send_fault from to before s ≡ None = sym is ∙ none in
    rw (free, longer) refl

-- ---- order

-- the images ascend, from a lower bound on
abbrev pub ascends_from : List Sent → ℕ → List ℕ → Bool
ascends_from sends last [] = true
ascends_from sends last (v ∷ vs) = nat_le last (image sends v) && ascends_from sends (image sends v) vs

abbrev is_above : List Sent → ℕ → List ℕ → Bool
is_above sends last vs = list_all (λ w. nat_le last (image sends w)) vs

edges_of_first : (sends : List Sent) (v : ℕ) (vs : List ℕ) → list_all (keeps_edge sends) (map (λ t. v ∷ t) (subsets 1 vs)) ≡ is_above sends (image sends v) vs
edges_of_first sends v [] = refl
edges_of_first sends v (w ∷ vs) = ap (λ (b : Bool). nat_le (image sends v) (image sends w) && b) (edges_of_first sends v vs)

edges_more : (sends : List Sent) (v : ℕ) (vs : List ℕ) → list_all (keeps_edge sends) (subsets 2 (v ∷ vs)) ≡ (is_above sends (image sends v) vs && list_all (keeps_edge sends) (subsets 2 vs))
edges_more sends v vs =
    list_all-append (keeps_edge sends) (map (λ t. v ∷ t) (subsets 1 vs)) (subsets 2 vs)
    ∙ ap (λ (b : Bool). b && list_all (keeps_edge sends) (subsets 2 vs)) (edges_of_first sends v vs)

-- what is above a greater bound is above a lesser one
above_lower : (sends : List Sent) (low high : ℕ) (vs : List ℕ) → low ≤ high → is_above sends high vs ≡ true → is_above sends low vs ≡ true
above_lower sends low high [] le h = refl
above_lower sends low high (w ∷ vs) le h =
    let parts = and_parts (nat_le high (image sends w)) (is_above sends high vs) h in
    let first : high ≤ image sends w = leb-true high (image sends w) parts.0 in
    and_from (nat_le low (image sends w)) (is_above sends low vs) (le-leb low (image sends w) (omega arith)) (above_lower sends low high vs le parts.1)

ascending_is : (sends : List Sent) (last : ℕ) (vs : List ℕ) → ascends_from sends last vs ≡ (is_above sends last vs && list_all (keeps_edge sends) (subsets 2 vs))
ascending_is sends last [] = refl
ascending_is sends last (v ∷ vs) =
    ap (λ (b : Bool). nat_le last (image sends v) && b) (ascending_is sends (image sends v) vs)
    ∙ ascend_step (nat_le last (image sends v)) (is_above sends (image sends v) vs) (is_above sends last vs) (list_all (keeps_edge sends) (subsets 2 vs))
    (λ low all. above_lower sends last (image sends v) vs (leb-true last (image sends v) low) all)
    ∙ ap (λ (b : Bool). (nat_le last (image sends v) && is_above sends last vs) && b) (sym (edges_more sends v vs))
  where
    ascend_step : (a b c d : Bool) → (a ≡ true → b ≡ true → c ≡ true) → (a && (b && d)) ≡ ((a && c) && (b && d))
    ascend_step false b c d h = refl
    ascend_step true false true d h = refl
    ascend_step true false false d h = refl
    ascend_step true true c d h = rw (h refl refl) refl

above_zero : (sends : List Sent) (vs : List ℕ) → is_above sends 0 vs ≡ true
above_zero sends [] = refl
above_zero sends (v ∷ vs) = and_from (nat_le 0 (image sends v)) (is_above sends 0 vs) (le-leb 0 (image sends v) (omega arith)) (above_zero sends vs)

-- all edges are kept where each vertex is sent at most as high as the next
pub edges_ascend : (sends : List Sent) (vs : List ℕ) → ascends_from sends 0 vs ≡ list_all (keeps_edge sends) (subsets 2 vs)
edges_ascend sends vs = ascending_is sends 0 vs ∙ rw (above_zero sends vs) refl

-- ---- faults

-- no send has a fault behind those before it
abbrev pub AreFree : List (List ℕ) → List (List ℕ) → List Sent → List Sent → Type 0
AreFree from to before [] = Unit {0}
AreFree from to before (s ∷ ss) = (send_fault from to before s ≡ None) × AreFree from to (before ++ s ∷ []) ss

pub free_send : (from to : List (List ℕ)) (before ss : List Sent) (s : Sent) → AreFree from to before ss → send_fault from to (before ++ ss) s ≡ None → AreFree from to before (ss ++ s ∷ [])
free_send from to before [] s h e = (ap (λ (b : List Sent). send_fault from to b s) (sym (append-nil before)) ∙ e, tt)
free_send from to before (t ∷ ts) s h e = (h.0, free_send from to (before ++ t ∷ []) ts s h.1 (ap (λ (b : List Sent). send_fault from to b s) (append_assoc before (t ∷ []) ts) ∙ e))

pub map_free : (from to : List (List ℕ)) (before : List Sent) (at : ℕ) (ss : List Sent) → AreFree from to before ss → end_fault from to (before ++ ss) ≡ None → first_send_fault from to before at ss ≡ None
map_free from to before at [] h e = later_none (end_fault from to before) at None (ap (end_fault from to) (sym (append-nil before)) ∙ e)
map_free from to before at (s ∷ ss) h e =
    later_none (send_fault from to before s) at (first_send_fault from to (before ++ s ∷ []) (at + 1) ss) h.0
    ∙ map_free from to (before ++ s ∷ []) (at + 1) ss h.1 (ap (end_fault from to) (append_assoc before (s ∷ []) ss) ∙ e)

-- the send at a place is at fault
pub send_at : (from to : List (List ℕ)) (items before : List Sent) (at : ℕ) (d : Sent) (e : LineFault) (k : InputKind) (whole : Option BlockFault) → at < length items
    → Fails e (with_send from to before (get_or items at d)) → e ≡ fault.Kind k → whole ≡ first_send_fault from to before at (drop at items)
    → Some (record { kind = k; at = at }) ≡ whole
send_at from to items before at d e k whole below fails kind so_far =
    let s : Sent = get_or items at d in
    let given : with_send from to before s ≡ Err k = subst (λ (f : LineFault). Fails f (with_send from to before s)) kind fails in
    sym (so_far ∙ rw (drop-cons items at d below) (later_fault (send_fault from to before s) k at (first_send_fault from to (before ++ s ∷ []) (at + 1) (drop (suc at) items)) (fault_found (send_fault from to before s) (before ++ s ∷ []) k given)))

-- it is not
pub send_not_yet : (from to : List (List ℕ)) (items before more : List Sent) (at : ℕ) (d : Sent) (whole : Option BlockFault) → at < length items
    → with_send from to before (get_or items at d) ≡ Ok more → whole ≡ first_send_fault from to before at (drop at items)
    → whole ≡ first_send_fault from to more (at + 1) (drop (at + 1) items)
send_not_yet from to items before more at d whole below h so_far =
    let s : Sent = get_or items at d in
    let free = fault_free (send_fault from to before s) (before ++ s ∷ []) more h in
    so_far ∙ rw (drop-cons items at d below, ← free.second, add-one) (later_none (send_fault from to before s) at (first_send_fault from to (before ++ s ∷ []) (suc at) (drop (suc at) items)) free.first)

-- the image of a vertex is below that of an earlier one
pub edge_turned : (sends : List Sent) (items facet : List ℕ) (last i img : ℕ) → items ≡ facet → i < length items → img ≡ image sends (get_or items i 0) → img < last
    → ascends_from sends 0 items ≡ ascends_from sends last (drop i items) → false ≡ list_all (keeps_edge sends) (subsets 2 facet)
edge_turned sends items facet last i img same below is less so_far =
    let high : image sends (get_or items i 0) < last = subst (λ (n : ℕ). n < last) is less in
    let turned : nat_le last (image sends (get_or items i 0)) ≡ false = lt-leb last (image sends (get_or items i 0)) high in
    let none : ascends_from sends last (drop i items) ≡ false = rw (drop-cons items i 0 below, turned) refl in
    sym (so_far ∙ none) ∙ edges_ascend sends items ∙ ap (λ (f : List ℕ). list_all (keeps_edge sends) (subsets 2 f)) same

pub edges_kept : (sends : List Sent) (items facet : List ℕ) (last i : ℕ) → items ≡ facet → length items ≤ i
    → ascends_from sends 0 items ≡ ascends_from sends last (drop i items) → true ≡ list_all (keeps_edge sends) (subsets 2 facet)
edges_kept sends items facet last i same all so_far =
    sym (so_far ∙ rw (drop_all i items all) refl) ∙ edges_ascend sends items ∙ ap (λ (f : List ℕ). list_all (keeps_edge sends) (subsets 2 f)) same

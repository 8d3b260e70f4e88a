-- The sends of a map in order, and the map that they give.
use Rattle.std.{proofs.Common.{◌≡◌, ◌≢◌, ◌∙◌, ℕ, ◌+◌, ◌<◌, ◌⊎◌, ◌||◌, ◌&&◌, ◌==◌, inl, inr, Bool, true, false, not, cond, List, [], ◌∷◌, ◌++◌, map, length, take, get_or, arith, refl, sym, ap, subst, fold, Some, None, if◌then◌else◌, eq-eqb, eqb-true}, specs.declared.cmp.Ordering.Ordering, specs.declared.cmp.Ordering.TheVariants.{Less, Equal, Greater}, specs.Ordering.{match_ordering, nat_cmp}, specs.BTreeMap.insert_entry, proofs.lemmas.List.take_more, proofs.lemmas.List.Sums.fold-append, proofs.lemmas.Bool.cases_Bool, proofs.lemmas.Cmp.ranked}
use Rattle.linear_law.{specs.Names.{Among, Each, IsAscending}, proofs.Names.{among_map, each_itself, each_map, each_of_map, each_unmap}}
use Rattle.complex_file.specs.{Names.{first_send_fault, image, is_sent, is_vertex, map_fault, send_fault}, declared.block.Sent.Sent, declared.kind.InputKind.TheVariants.{VertexSentTwice, VertexUnknown}}
use Rattle.complex_index.specs.Names.{image_of}
use Rattle.report_law.{specs.Names.AreOrderedSends, proofs.Names.no-earlier}
use Rattle.ordered_sends.specs.Sends.{IsOnce, entries_of, pair_of, sent_of}

-- ---- the image of a vertex

apart : (v w : ℕ) → v ≢ w → (v == w) ≡ false
apart v w n = elim (cases_Bool (v == w)) [ inl e ↦ absurd (n (eqb-true v w e)) | inr e ↦ e ]

-- vertices that are sent later do not change the image
unchanged : (ss : List Sent) (v w : ℕ) → Each (λ t. t.from ≢ v) ss → fold (λ u s. cond (s.0 == v) s.1 u) w (map pair_of ss) ≡ w
unchanged [] v w h = refl
unchanged (s ∷ ss) v w h =
    ap (λ (b : Bool). fold (λ u s. cond (s.0 == v) s.1 u) (cond b s.to w) (map pair_of ss)) (apart s.from v h.0) ∙ unchanged ss v w h.1

same-image : (ss : List Sent) (v : ℕ) → IsOnce ss → image_of (map pair_of ss) v ≡ image ss v
same-image [] v h = refl
same-image (s ∷ ss) v h = elim (cases_Bool (s.from == v)) [
  | inl e ↦
      let q : s.from ≡ v = eqb-true s.from v e in
      let f : (v == s.from) ≡ true = ap (λ (x : ℕ). v == x) q ∙ ap (λ (x : ℕ). x == v) (sym q) ∙ e in
      ap (λ (b : Bool). fold (λ u s. cond (s.0 == v) s.1 u) (cond b s.to 0) (map pair_of ss)) e
      ∙ unchanged ss v s.to (subst (λ (x : ℕ). Each (λ t. t.from ≢ x) ss) q h.0)
      ∙ sym (ap (λ (b : Bool). if b then s.to else image ss v) f)
  | inr e ↦
      let n : v ≢ s.from = λ q. no (sym e ∙ ap (λ (x : ℕ). s.from == x) q ∙ eq-eqb s.from s.from refl) in
      ap (λ (b : Bool). fold (λ u s. cond (s.0 == v) s.1 u) (cond b s.to 0) (map pair_of ss)) e
      ∙ same-image ss v h.1 ∙ sym (ap (λ (b : Bool). if b then s.to else image ss v) (apart v s.from n))
]
  where
    no : false ≡ true → ⊥
    no e = cc

pub image-is : (ss : List Sent) (pairs : List (ℕ × ℕ)) (v w : ℕ) → IsOnce ss → pairs ≡ map pair_of ss → w ≡ image_of pairs v → w ≡ image ss v
image-is ss pairs v w h e q = q ∙ ap (λ (ps : List (ℕ × ℕ)). image_of ps v) e ∙ same-image ss v h

-- ---- entries

compare : (k x : ℕ) → ((nat_cmp k x ≡ Less) × (k < x)) ⊎ (((nat_cmp k x ≡ Equal) × (k ≡ x)) ⊎ ((nat_cmp k x ≡ Greater) × (x < k)))
compare k x = go (nat_cmp k x) refl
  where
    go : (o : Ordering) → o ≡ nat_cmp k x → ((nat_cmp k x ≡ Less) × (k < x)) ⊎ (((nat_cmp k x ≡ Equal) × (k ≡ x)) ⊎ ((nat_cmp k x ≡ Greater) × (x < k)))
    go Less e = inl (sym e, ranked k x Less e)
    go Equal e = inr (inl (sym e, ranked k x Equal e))
    go Greater e = inr (inr (sym e, ranked k x Greater e))

abbrev entry : List (ℕ × ℕ) → ℕ → ℕ → List (ℕ × ℕ)
entry es k v = insert_entry nat_cmp es k v

at-less : (e : ℕ × ℕ) (es : List (ℕ × ℕ)) (k v : ℕ) → nat_cmp k e.0 ≡ Less → entry (e ∷ es) k v ≡ (k, v) ∷ e ∷ es
at-less e es k v h = ap (λ (o : Ordering). match_ordering o ((k, v) ∷ e ∷ es) ((e.0, v) ∷ es) (e ∷ entry es k v)) h

at-equal : (e : ℕ × ℕ) (es : List (ℕ × ℕ)) (k v : ℕ) → nat_cmp k e.0 ≡ Equal → entry (e ∷ es) k v ≡ (e.0, v) ∷ es
at-equal e es k v h = ap (λ (o : Ordering). match_ordering o ((k, v) ∷ e ∷ es) ((e.0, v) ∷ es) (e ∷ entry es k v)) h

at-greater : (e : ℕ × ℕ) (es : List (ℕ × ℕ)) (k v : ℕ) → nat_cmp k e.0 ≡ Greater → entry (e ∷ es) k v ≡ e ∷ entry es k v
at-greater e es k v h = ap (λ (o : Ordering). match_ordering o ((k, v) ∷ e ∷ es) ((e.0, v) ∷ es) (e ∷ entry es k v)) h

-- P holds of each entry with one more, where it holds of the others and of the new one
each-entry : (P : ℕ × ℕ → Type 0) (es : List (ℕ × ℕ)) (k v : ℕ) → Each P es → P (k, v) → Each P (entry es k v)
each-entry P [] k v h q = (q, tt)
each-entry P (e ∷ es) k v h q = elim (compare k e.0) [
  | inl l ↦ subst (Each P) (sym (at-less e es k v l.0)) (q, (h.0, h.1))
  | inr (inl m) ↦ subst (Each P) (sym (at-equal e es k v m.0)) (subst (λ (x : ℕ). P (x, v)) m.1 q, h.1)
  | inr (inr g) ↦ subst (Each P) (sym (at-greater e es k v g.0)) (h.0, each-entry P es k v h.1 q)
]

ascending-entry : (es : List (ℕ × ℕ)) (k v : ℕ) → IsAscending (map (λ e. e.0) es) → IsAscending (map (λ e. e.0) (entry es k v))
ascending-entry [] k v h = (tt, tt)
ascending-entry (e ∷ es) k v h = elim (compare k e.0) [
  | inl l ↦ subst P (sym (at-less e es k v l.0)) ((l.1, each_map (λ w m. let q = l.1 in omega (arith, q, m)) (map (λ e. e.0) es) h.0), h)
  | inr (inl m) ↦ subst P (sym (at-equal e es k v m.0)) h
  | inr (inr g) ↦ subst P (sym (at-greater e es k v g.0))
      (each_of_map (λ w. e.0 < w) (λ x. x.0) (entry es k v) (each-entry (λ x. e.0 < x.0) es k v (each_unmap (λ w. e.0 < w) (λ x. x.0) es h.0) g.1), ascending-entry es k v h.1)
]
  where
    P : List (ℕ × ℕ) → Type 0
    P xs = IsAscending (map (λ x. x.0) xs)

puts : (es : List (ℕ × ℕ)) (k v : ℕ) → Among (k, v) (entry es k v)
puts [] k v = inl refl
puts (e ∷ es) k v = elim (compare k e.0) [
  | inl l ↦ subst (Among (k, v)) (sym (at-less e es k v l.0)) (inl refl)
  | inr (inl m) ↦ subst (Among (k, v)) (sym (at-equal e es k v m.0)) (inl (let q = m.1 in λ i. (sym q i, v)))
  | inr (inr g) ↦ subst (Among (k, v)) (sym (at-greater e es k v g.0)) (inr (puts es k v))
]

keeps : (es : List (ℕ × ℕ)) (k v : ℕ) (x : ℕ × ℕ) → x.0 ≢ k → Among x es → Among x (entry es k v)
keeps [] k v x n m = absurd m
keeps (e ∷ es) k v x n m = elim (compare k e.0) [
  | inl l ↦ subst (Among x) (sym (at-less e es k v l.0)) (inr m)
  | inr (inl q) ↦ subst (Among x) (sym (at-equal e es k v q.0)) (elim m [ inl a ↦ (let r = q.1 in absurd (n (ap (λ (y : ℕ × ℕ). y.0) (sym a) ∙ sym r))) | inr b ↦ inr b ])
  | inr (inr g) ↦ subst (Among x) (sym (at-greater e es k v g.0)) (elim m [ inl a ↦ inl a | inr b ↦ inr (keeps es k v x n b) ])
]

-- ---- the entries of sends

abbrev all-of : List (ℕ × ℕ) → List Sent → List (ℕ × ℕ)
all-of es ss = fold (λ xs s. insert_entry nat_cmp xs s.from s.to) es ss

each-of-all : (P : ℕ × ℕ → Type 0) (es : List (ℕ × ℕ)) (ss : List Sent) → Each P es → Each (λ s. P (s.from, s.to)) ss → Each P (all-of es ss)
each-of-all P es [] h k = h
each-of-all P es (s ∷ ss) h k = each-of-all P (entry es s.from s.to) ss (each-entry P es s.from s.to h k.0) k.1

ascending-all : (es : List (ℕ × ℕ)) (ss : List Sent) → IsAscending (map (λ e. e.0) es) → IsAscending (map (λ e. e.0) (all-of es ss))
ascending-all es [] h = h
ascending-all es (s ∷ ss) h = ascending-all (entry es s.from s.to) ss (ascending-entry es s.from s.to h)

stays : (es : List (ℕ × ℕ)) (ss : List Sent) (x : ℕ × ℕ) → Each (λ t. t.from ≢ x.0) ss → Among x es → Among x (all-of es ss)
stays es [] x h m = m
stays es (s ∷ ss) x h m = stays (entry es s.from s.to) ss x h.1 (keeps es s.from s.to x (λ q. h.0 (sym q)) m)

all-stand : (es : List (ℕ × ℕ)) (ss : List Sent) → IsOnce ss → Each (λ s. Among (s.from, s.to) (all-of es ss)) ss
all-stand es [] h = tt
all-stand es (s ∷ ss) h = (stays (entry es s.from s.to) ss (s.from, s.to) h.0 (puts es s.from s.to), all-stand (entry es s.from s.to) ss h.1)

same-froms : (es : List (ℕ × ℕ)) → map (λ s. s.from) (map sent_of es) ≡ map (λ e. e.0) es
same-froms [] = refl
same-froms (e ∷ es) = ap (λ (xs : List ℕ). e.0 ∷ xs) (same-froms es)

pub ordered : (sends listed : List Sent) (pairs : List (ℕ × ℕ)) → IsOnce sends → pairs ≡ entries_of sends → listed ≡ map sent_of pairs → AreOrderedSends sends listed
ordered sends listed pairs once e l = rw (l, e) (record {
  ascending = subst IsAscending (sym (same-froms (entries_of sends))) (ascending-all [] sends tt);
  each = each_of_map (λ s. Among s sends) sent_of (entries_of sends) (each-of-all (λ x. Among (sent_of x) sends) [] sends tt (each_itself sends));
  all = each_map (λ s m. among_map sent_of (s.from, s.to) s (entries_of sends) m refl) sends (all-stand [] sends once);
})

-- ---- a map without a fault sends no vertex twice

sent-before : (before : List Sent) (s t : Sent) → is_sent (before ++ s ∷ []) t.from ≡ false → (is_sent before t.from ≡ false) × (t.from ≢ s.from)
sent-before [] s t h = (refl, λ q. no (sym (ap (λ (b : Bool). b || false) (eq-eqb t.from s.from q)) ∙ h))
  where
    no : true ≡ false → ⊥
    no e = cc
sent-before (b ∷ bs) s t h = elim (cases_Bool (t.from == b.from)) [
  | inl e ↦ absurd (no (sym (ap (λ (x : Bool). x || is_sent (bs ++ s ∷ []) t.from) e) ∙ h))
  | inr e ↦
      let k = sent-before bs s t (sym (ap (λ (x : Bool). x || is_sent (bs ++ s ∷ []) t.from) e) ∙ h) in
      (ap (λ (x : Bool). x || is_sent bs t.from) e ∙ k.0, k.1)
]
  where
    no : true ≡ false → ⊥
    no e = cc

not-sent : (a b : Bool) → (if not a then Some VertexUnknown else (if b then Some VertexSentTwice else None)) ≡ None → b ≡ false
not-sent true true h = absurd cc
not-sent true false h = refl
not-sent false b h = absurd cc

none-sent : (from to : List (List ℕ)) (before : List Sent) (at : ℕ) (ss : List Sent) → first_send_fault from to before at ss ≡ None → Each (λ t. is_sent before t.from ≡ false) ss
none-sent from to before at [] h = tt
none-sent from to before at (s ∷ ss) h =
    let k = no-earlier (send_fault from to before s) at (first_send_fault from to (before ++ s ∷ []) (at + 1) ss) h in
    (not-sent (is_vertex from s.from && is_vertex to s.to) (is_sent before s.from) k.0, each_map (λ t m. (sent-before before s t m).0) ss (none-sent from to (before ++ s ∷ []) (at + 1) ss k.1))

once-from : (from to : List (List ℕ)) (before : List Sent) (at : ℕ) (ss : List Sent) → first_send_fault from to before at ss ≡ None → IsOnce ss
once-from from to before at [] h = tt
once-from from to before at (s ∷ ss) h =
    let k = no-earlier (send_fault from to before s) at (first_send_fault from to (before ++ s ∷ []) (at + 1) ss) h in
    (each_map (λ t m. (sent-before before s t m).1) ss (none-sent from to (before ++ s ∷ []) (at + 1) ss k.1), once-from from to (before ++ s ∷ []) (at + 1) ss k.1)

pub once : (from to : List (List ℕ)) (ss : List Sent) → map_fault from to ss ≡ None → IsOnce ss
once from to ss h = once-from from to [] 0 ss h

-- ---- folds

-- one item more
pub folded-more : {X Y : Type 0} (f : Y → X → Y) (a : Y) (xs : List X) (i : ℕ) (d : X) (old new : Y) → i < length xs
    → old ≡ fold f a (take i xs) → new ≡ f old (get_or xs i d) → new ≡ fold f a (take (i + 1) xs)
folded-more f a xs i d old new lt h e = e ∙ ap (λ (y : _). f y (get_or xs i d)) h ∙ sym (ap (fold f a) (take_more xs i d lt) ∙ fold-append f a (take i xs) (get_or xs i d ∷ []))

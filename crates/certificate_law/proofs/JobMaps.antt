-- The complexes of a job by their names, and the maps between them, as a certificate lists them.
use Rattle.std.{proofs.Common.{◌≡◌, ℕ, zero, suc, ◌+◌, ◌<◌, ◌⊎◌, inl, inr, ◌&&◌, ◌||◌, ◌==◌, Bool, true, false, not, cond, refl, sym, ◌∙◌, ap, ap₂, subst, arith, List, [], ◌∷◌, ◌++◌, length, map, None, Some, if◌then◌else◌, eq-eqb, eqb-true, true≢false}, specs.List.{AllZip, list_any}, specs.Str.bytes_eq, proofs.lemmas.Bool.{and_parts, cases_Bool, false_from_ne_true, not-true}}
use Rattle.linear_law.{specs.Names.{Among, IsApart}, proofs.Names.{among_left, among_right, each_among, zip_change}}
use Rattle.simplicial_law.specs.Names.{Cochain}
use Rattle.steenrod_law.specs.Names.{pull_back}
use Rattle.certificate_law.{specs.Types.{ComplexBlock, Sent, VertexSentTwice, VertexUnknown, Column, ComplexPart, InducedPart}, specs.Names.complex_named, proofs.SameSimplices.{SameSimplices, column_there}}
use Rattle.complex_file.specs.Names.{are_distinct, has_name, first_send_fault, image, is_sent, is_vertex, send_fault, name_at}
use Rattle.report_law.{specs.Names.{IsColumn, Classes, cochains_in, part_at, AreOrderedSends, IsComplexPart, IsInducedPart}, proofs.Names.{no-earlier, same-bytes}}

-- ---- names

pub eqb_same : (n : ℕ) → (n == n) ≡ true
eqb_same n = eq-eqb n n refl

bytes_same : (bs : List ℕ) → bytes_eq bs bs ≡ true
bytes_same [] = refl
bytes_same (b ∷ bs) = ap₂ (λ x y. x && y) (eqb_same b) (bytes_same bs)

or_right : (a b : Bool) → b ≡ true → (a || b) ≡ true
or_right true b h = refl
or_right false b h = h

pub any_from : {X : Type 0} (test : X → Bool) (x : X) (xs : List X) → Among x xs → test x ≡ true → list_any test xs ≡ true
any_from test x [] m e = elim m [ ]
any_from test x (y ∷ ys) m e = elim m [ inl q ↦ ap (λ b. b || list_any test ys) (ap test q ∙ e) | inr k ↦ or_right (test y) (list_any test ys) (any_from test x ys k e) ]

pub any_gives : {X : Type 0} (test : X → Bool) (xs : List X) → list_any test xs ≡ true → (x : X) × Among x xs × (test x ≡ true)
any_gives test [] h = absurd cc
any_gives test (x ∷ xs) h = elim (cases_Bool (test x)) [
  | inl e ↦ (x, inl refl, e)
  | inr e ↦ (let r = any_gives test xs (sym (ap (λ b. b || list_any test xs) e) ∙ h) in (r.0, inr r.1, r.2))
]

pub among-any : (x : List ℕ) (ys : List (List ℕ)) → Among x ys → list_any (bytes_eq x) ys ≡ true
among-any x ys m = any_from (bytes_eq x) x ys m (bytes_same x)

pub distinct_apart : (ns : List (List ℕ)) → are_distinct ns ≡ true → IsApart ns
distinct_apart [] h = tt
distinct_apart (n ∷ ns) h =
    let parts = and_parts (not (has_name ns n)) (are_distinct ns) h in
    (λ m. true≢false (sym (among-any n ns m) ∙ not-true (has_name ns n) parts.0), distinct_apart ns parts.1)

pub name_among : (bs : List ComplexBlock) (k : ℕ) → k < length bs → Among (name_at bs k) (map (λ b. b.name) bs)
name_among [] k l = absurd (omega (arith, l))
name_among (b ∷ bs) zero l = inl refl
name_among (b ∷ bs) (suc k) l = inr (name_among bs k (omega (arith, l)))

-- the complex with the name of a block is what is listed of the block
pub named_at : (p : ℕ) (bs : List ComplexBlock) (cs : List ComplexPart) (k : ℕ) → k < length bs → IsApart (map (λ b. b.name) bs) → AllZip (IsComplexPart true true p) bs cs → complex_named cs (name_at bs k) ≡ part_at cs k
named_at p [] cs k l d h = absurd (omega (arith, l))
named_at p (b ∷ bs) [] k l d h = absurd h
named_at p (b ∷ bs) (c ∷ cs) zero l d h = ap (λ t. cond t c (complex_named cs b.name)) (ap (bytes_eq b.name) h.0.name ∙ bytes_same b.name)
named_at p (b ∷ bs) (c ∷ cs) (suc k) l d h =
    let name = name_at bs k in
    let m = name_among bs k (omega (arith, l)) in
    let other : bytes_eq name c.name ≡ false = false_from_ne_true (bytes_eq name c.name) (λ e. d.0 (subst (λ (n : List ℕ). Among n (map (λ (b : ComplexBlock). b.name) bs)) (same-bytes name c.name e ∙ h.0.name) m)) in
    ap (λ t. cond t c (complex_named cs name)) other ∙ named_at p bs cs k (omega (arith, l)) d.1 h.1

-- ---- sends

pub any_sent : (before : List Sent) (v : ℕ) (x : Sent) → Among x before → v ≡ x.from → is_sent before v ≡ true
any_sent before v x m e = any_from (λ (s : Sent). v == s.from) x before m (subst (λ (w : ℕ). (v == w) ≡ true) e (eqb_same v))

pub sent_among : (ss : List Sent) (v : ℕ) → is_sent ss v ≡ true → (s : Sent) × Among s ss × (v ≡ s.from)
sent_among ss v h = let q = any_gives (λ (s : Sent). v == s.from) ss h in (q.0, q.1, eqb-true v q.0.from q.2)

-- a send that has no fault is of a vertex that was not sent before
unsent : (a b : Bool) → if not a then Some VertexUnknown else (if b then Some VertexSentTwice else None) ≡ None → b ≡ true → ⊥
unsent true true h e = cc
unsent _ _ h e = cc

-- sends of one vertex are one
pub IsFunction : List Sent → Type 0
IsFunction ss = (s t : Sent) → Among s ss → Among t ss → s.from ≡ t.from → s.to ≡ t.to

-- where no send has a fault, sends of one vertex are one
module _ (from to : List (List ℕ)) where
  fresh : (before : List Sent) (at : ℕ) (ss : List Sent) → first_send_fault from to before at ss ≡ None → (t : Sent) → Among t ss → (x : Sent) → Among x before → t.from ≡ x.from → ⊥
  fresh before at [] h t m x k e = elim m [ ]
  fresh before at (s ∷ ss) h t m x k e =
      let parts = no-earlier (send_fault from to before s) at (first_send_fault from to (before ++ s ∷ []) (at + 1) ss) h in
      elim m [
        | inl q ↦ unsent (is_vertex from s.from && is_vertex to s.to) (is_sent before s.from) parts.0 (any_sent before s.from x k (ap (λ (u : Sent). u.from) q ∙ e))
        | inr n ↦ fresh (before ++ s ∷ []) (at + 1) ss parts.1 t n x (among_left x before (s ∷ []) k) e
      ]

  pub is_function : (before : List Sent) (at : ℕ) (ss : List Sent) → first_send_fault from to before at ss ≡ None → IsFunction ss
  unfolding IsFunction
  is_function before at [] h s t m k e = elim m [ ]
  is_function before at (x ∷ ss) h s t m k e =
      let rest = (no-earlier (send_fault from to before x) at (first_send_fault from to (before ++ x ∷ []) (at + 1) ss) h).1 in
      let here = among_right x before (x ∷ []) (inl refl) in
      elim m [
        | inl a ↦ elim k [
          | inl b ↦ ap (λ (u : Sent). u.to) (sym a ∙ b)
          | inr b ↦ absurd (fresh (before ++ x ∷ []) (at + 1) ss rest t b x here (sym e ∙ ap (λ (u : Sent). u.from) (sym a)))
        ]
        | inr a ↦ elim k [
          | inl b ↦ absurd (fresh (before ++ x ∷ []) (at + 1) ss rest s a x here (e ∙ ap (λ (u : Sent). u.from) (sym b)))
          | inr b ↦ is_function (before ++ x ∷ []) (at + 1) ss rest s t a b e
        ]
      ]

image_is : (ss : List Sent) → IsFunction ss → (s : Sent) → Among s ss → image ss s.from ≡ s.to
unfolding IsFunction
image_is [] f s m = elim m [ ]
image_is (x ∷ ss) f s m = elim (cases_Bool (s.from == x.from)) [
  | inl e ↦ ap (λ t. cond t x.to (image ss s.from)) e ∙ f x s (inl refl) m (sym (eqb-true s.from x.from e))
  | inr e ↦ ap (λ t. cond t x.to (image ss s.from)) e ∙ elim m [
    | inl q ↦ absurd (true≢false (sym (subst (λ (u : Sent). (s.from == u.from) ≡ true) (sym q) (eqb_same s.from)) ∙ e))
    | inr k ↦ image_is ss (λ a b i j. f a b (inr i) (inr j)) s k
  ]
]

image_none : (ss : List Sent) (v : ℕ) → ((s : Sent) → Among s ss → v ≡ s.from → ⊥) → image ss v ≡ 0
image_none [] v h = refl
image_none (x ∷ ss) v h = ap (λ t. cond t x.to (image ss v)) (false_from_ne_true (v == x.from) (λ e. h x (inl refl) (eqb-true v x.from e))) ∙ image_none ss v (λ s m. h s (inr m))

sent_or_not : (ss : List Sent) (v : ℕ) → ((s : Sent) × Among s ss × (v ≡ s.from)) ⊎ ((s : Sent) → Among s ss → v ≡ s.from → ⊥)
sent_or_not ss v = elim (cases_Bool (is_sent ss v)) [ inl e ↦ inl (sent_among ss v e) | inr e ↦ inr (λ s m q. true≢false (sym (any_sent ss v s m q) ∙ e)) ]

-- ordered sends are the same map
pub same_image : (sends listed : List Sent) → IsFunction sends → AreOrderedSends sends listed → (v : ℕ) → image listed v ≡ image sends v
unfolding IsFunction
same_image sends listed f h v =
    let given : (s : Sent) → Among s listed → Among s sends = λ s m. each_among (λ (s : Sent). Among s sends) s listed h.each m in
    elim (sent_or_not listed v) [
      | inl q ↦
          ap (image listed) q.2 ∙ image_is listed (λ a b i j. f a b (given a i) (given b j)) q.0 q.1
          ∙ sym (ap (image sends) q.2 ∙ image_is sends f q.0 (given q.0 q.1))
      | inr none ↦ image_none listed v none ∙ sym (image_none sends v (λ s m. none s (each_among (λ (s : Sent). Among s listed) s sends h.all m)))
    ]

-- ---- induced matrices

-- of the complex that the listed facets give, and of the listed sends
pub induced_there : {F G : List (List ℕ)} → SameSimplices F G → (f g : ℕ → ℕ) → ((v : ℕ) → f v ≡ g v) → (p : ℕ) (from to : Classes) (x : InducedPart) → IsInducedPart true f F p from to x → IsInducedPart true g G p from to x
induced_there {F} {G} h f g same p from to x b =
    subst (λ (k : ℕ → ℕ). IsInducedPart true k G p from to x) (λ i v. same v i)
    (zip_change (λ (z : Cochain) (y : Column). IsColumn true F x.q p (cochains_in from x.q) (pull_back f z) y.values y.primitive) (λ z y. IsColumn true G x.q p (cochains_in from x.q) (pull_back f z) y.values y.primitive)
    (λ z y k. column_there h true x.q p (cochains_in from x.q) (pull_back f z) y.values y.primitive k) (cochains_in to x.q) x.columns b)

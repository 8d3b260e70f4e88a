-- The steps of the walk over cuts.
use Rattle.std.proofs.{Common.{◌≡◌, ℕ, ◌+◌, List, [], ◌∷◌, ◌++◌, map, length, refl, sym, ◌∙◌, ap, ap₂, arith, subst, zero-add, ◌<◌, ◌≤◌, ◌-◌, Bool, true, false, if◌then◌else◌, ltb, length-append, zero, suc, replicate, Some, None, IsSome, is_some, ltb-true}, lemmas.Bool.false≢true}
use Rattle.interval_cut_law.{specs.Names.{IsCutFrom, rising_lists}, proofs.CutOrder.{cut-earlier, rising-cuts}}
use Rattle.interval_cut.{specs.Names.{CutWalk, cut_of, lists_after, next_walk, HasFaces, IsFaceTable, OnAt, shown, Stage, Before, At, Done}, proofs.ListLemmas.lists_after-first}
use Rattle.linear_law.{specs.Names.Each, proofs.Names.{each_append, each_map, each_of_map}}

-- from before the first cut
pub walk-first : (values inner new : List ℕ) (top : ℕ) (s : Stage) (w : CutWalk) → shown values top s inner ≡ w → s ≡ Before → length inner + 1 ≡ length values → new ≡ replicate (length inner) 0
    → shown values top At new ≡ next_walk w
walk-first [] inner new top s w is st l e = absurd (omega arith)
walk-first (v ∷ u) inner new top s w is st l e =
    let k : length inner ≡ length u = omega arith in
    let first : rising_lists 0 top (length u) ≡ new ∷ lists_after top new =
    lists_after-first (length u) top 0 ∙ ap₂ (λ (n : ℕ) (p : List ℕ). p ∷ lists_after n p) (zero-add top) (ap (λ j. replicate j 0) (sym k) ∙ sym e) in
    ap (λ (r : List (List ℕ)). next_walk (record { values = v ∷ u; top = top; here = None; left = map (λ p. p ++ (top ∷ [])) r })) (sym first)
    ∙ ap (λ t. next_walk (shown (v ∷ u) top t inner)) (sym st) ∙ ap next_walk is

-- from a cut to the next one
pub walk-next : (values inner new : List ℕ) (top : ℕ) (s : Stage) (w : CutWalk) → shown values top s inner ≡ w → s ≡ At → lists_after top inner ≡ new ∷ lists_after top new
    → shown values top At new ≡ next_walk w
walk-next values inner new top s w is st e =
    ap (λ (r : List (List ℕ)). next_walk (record { values = values; top = top; here = Some (inner ++ (top ∷ [])); left = map (λ p. p ++ (top ∷ [])) r })) (sym e)
    ∙ ap (λ t. next_walk (shown values top t inner)) (sym st) ∙ ap next_walk is

-- past the last
pub walk-last : (values inner new : List ℕ) (top : ℕ) (s : Stage) (w : CutWalk) → shown values top s inner ≡ w → s ≡ At → lists_after top inner ≡ []
    → shown values top Done new ≡ next_walk w
walk-last values inner new top s w is st e =
    ap (λ (r : List (List ℕ)). next_walk (record { values = values; top = top; here = Some (inner ++ (top ∷ [])); left = map (λ p. p ++ (top ∷ [])) r })) (sym e)
    ∙ ap (λ t. next_walk (shown values top t inner)) (sym st) ∙ ap next_walk is

-- ---- the ends stay those of a cut

pub length-cut : (u : List ℕ) (a : ℕ) (p : List ℕ) → IsCutFrom u a p → length u ≡ length p
length-cut [] a [] c = refl
length-cut [] a (b ∷ p) c = absurd c
length-cut (v ∷ u) a [] c = absurd c
length-cut (v ∷ u) a (b ∷ p) c = ap suc (length-cut u b p c.1)

pub cut-replicate : (u : List ℕ) (a b m top : ℕ) → length u ≡ suc m → a ≤ b → b ≤ top → IsCutFrom u a (replicate m b ++ (top ∷ []))
cut-replicate [] a b m top l c d = absurd (omega arith)
cut-replicate (v ∷ []) a b zero top l c d = (omega arith, tt)
cut-replicate (v ∷ w ∷ u) a b zero top l c d = absurd (omega arith)
cut-replicate (v ∷ u) a b (suc m) top l c d = (c, cut-replicate u b b m top (omega arith) (omega arith) d)

-- the lists after that of a cut are those of cuts
cuts-after : (u : List ℕ) (a top : ℕ) (p : List ℕ) → IsCutFrom u a (p ++ (top ∷ [])) → Each (λ q. IsCutFrom u a (q ++ (top ∷ []))) (lists_after top p)
cuts-after [] a top [] c = absurd c
cuts-after [] a top (b ∷ p) c = absurd c
cuts-after (v ∷ u) a top [] c = tt
cuts-after (v ∷ u) a top (b ∷ p) c =
    let P : List ℕ → Type 0 = λ q. IsCutFrom (v ∷ u) a (q ++ (top ∷ [])) in
    let long : length u ≡ suc (length p) = let l = length-cut u b (p ++ (top ∷ [])) c.1 in let m = length-append p (top ∷ []) in omega arith in
    let low = c.0 in
    each_append P (map (λ q. b ∷ q) (lists_after top p)) (if ltb b top then rising_lists (suc b) (top - suc b) (suc (length p)) else [])
    (each_of_map P (λ q. b ∷ q) (lists_after top p) (each_map (λ q h. (low, h)) (lists_after top p) (cuts-after u b top p c.1)))
    (subst (λ (k : ℕ). Each P (if ltb b top then rising_lists (suc b) (top - suc b) k else [])) long (above (ltb b top) (λ e. ltb-true b top e)))
  where
    above : (t : Bool) → (t ≡ true → b < top) → Each (λ q. IsCutFrom (v ∷ u) a (q ++ (top ∷ []))) (if t then rising_lists (suc b) (top - suc b) (length u) else [])
    above false h = tt
    above true h =
        let up = h refl in
        let low = c.0 in
        each_map (λ q k. cut-earlier (v ∷ u) a (suc b) (q ++ (top ∷ [])) (omega arith) k) (rising_lists (suc b) (top - suc b) (length u)) (rising-cuts top u v (suc b) (top - suc b) (omega arith))

pub cut-next : (u : List ℕ) (a top : ℕ) (p q : List ℕ) → IsCutFrom u a (p ++ (top ∷ [])) → lists_after top p ≡ q ∷ lists_after top q → IsCutFrom u a (q ++ (top ∷ []))
cut-next u a top p q c e = (subst (Each (λ q. IsCutFrom u a (q ++ (top ∷ [])))) e (cuts-after u a top p c)).0

pub cut-first : (u : List ℕ) (a top : ℕ) (p : List ℕ) → IsCutFrom u a (p ++ (top ∷ [])) → IsCutFrom u 0 (replicate (length p) 0 ++ (top ∷ []))
cut-first u a top p c = cut-replicate u 0 0 (length p) top (length-cut u a (p ++ (top ∷ [])) c ∙ length-append p (top ∷ []) ∙ plus (length p)) (omega arith) (omega arith)
  where
    plus : (n : ℕ) → n + 1 ≡ suc n
    plus n = omega arith

pub cut-start : (u : List ℕ) (m top : ℕ) → length u ≡ m + 1 → IsCutFrom u 0 (replicate m 0 ++ (top ∷ []))
cut-start u m top l = cut-replicate u 0 0 m top (omega arith) (omega arith) (omega arith)

-- where a cut is shown, the walk is at one
pub is_at : (values : List ℕ) (top : ℕ) (s : Stage) (inner : List ℕ) (w : CutWalk) → shown values top s inner ≡ w → IsSome w.here → s ≡ At
is_at values top Before inner w e h = absurd (false≢true (ap (λ v. is_some v.here) e ∙ h))
is_at values top At inner w e h = refl
is_at values top Done inner w e h = absurd (false≢true (ap (λ v. is_some v.here) e ∙ h))

pub on_at : (s : Stage) (P : Type 0) → s ≡ At → OnAt s P → P
on_at s P e h = subst (λ t. OnAt t P) e h

-- what holds of the values and the cut that are shown holds of those of the walk
pub on_walk : (values : List ℕ) (top : ℕ) (s : Stage) (inner : List ℕ) (w : CutWalk) (Q : List ℕ → List ℕ → Type 0) → shown values top s inner ≡ w → s ≡ At → Q values (inner ++ (top ∷ [])) → Q w.values (cut_of w)
on_walk values top s inner w Q e at h =
    subst (λ (v : CutWalk). Q v.values (cut_of v)) e (subst (λ t. Q values (cut_of (shown values top t inner))) (sym at) h)

ends_below : (u : List ℕ) (a : ℕ) (p : List ℕ) (top n : ℕ) → IsCutFrom u a (p ++ (top ∷ [])) → top < n → Each (λ b. b < n) (p ++ (top ∷ [])) × (a ≤ top)
ends_below [] a [] top n c h = absurd c
ends_below [] a (b ∷ p) top n c h = absurd c
ends_below (v ∷ u) a [] top n c h = ((h, tt), c.0)
ends_below (v ∷ u) a (b ∷ p) top n c h =
    let r = ends_below u b p top n c.1 h in
    let low = r.1 in
    let order = c.0 in
    ((omega arith, r.0), omega arith)

-- the faces of the cut that is shown
pub has_faces : (u inner places starts : List ℕ) (top r n : ℕ) → IsCutFrom u 0 (inner ++ (top ∷ [])) → IsFaceTable u (inner ++ (top ∷ [])) r places starts → r + 1 ≤ length starts → top < n → HasFaces r n places starts
has_faces u inner places starts top r n c t room low = record {
  values = u;
  points = inner ++ (top ∷ []);
  cut = c;
  below = (ends_below u 0 inner top n c low).0;
  table = t;
  room = room;
}

-- The steps of the walk over live cuts, and the count of them.
use Rattle.std.{proofs.Common.{◌≡◌, ℕ, ◌+◌, ◌-◌, ◌≤◌, Bool, true, false, cond, List, [], ◌∷◌, ◌++◌, map, take, length, replicate, refl, sym, ◌∙◌, ap, ap₂, subst, arith, Option, Some}, specs.List.filter, proofs.lemmas.List.{length-map, length-replicate, take-replicate}}
use Rattle.surjection_law.specs.Names.{arity}
use Rattle.interval_cut_law.specs.Names.{cuts, rising_lists, live_count_among, live_cut_count}
use Rattle.interval_cut.{specs.Names.{CutWalk, lists_after, next_walk, here_of, left_of, shown, LiveWalk, is_live_cut, live_top, live_walk, next_live, FindsLive, IsListFor, is_live_list, lists_left, Stage, Before, At, Done}, proofs.LiveListLemmas.filter-map, proofs.WalkLemmas.cut-start}

-- the cuts that are to come are those of the lists that are to come
left-lists : (s : Stage) (u : List ℕ) (top : ℕ) (inner : List ℕ) → length inner + 1 ≡ length u → left_of s u top inner ≡ map (λ p. p ++ (top ∷ [])) (lists_left s top inner)
left-lists Before [] top inner l = absurd (omega arith)
left-lists Before (v ∷ u) top inner l = let e : length u ≡ length inner = omega arith in ap (λ k. map (λ p. p ++ (top ∷ [])) (rising_lists 0 top k)) e
left-lists At u top inner l = refl
left-lists Done u top inner l = refl

abbrev walk_with : ℕ → List ℕ → ℕ → Option (List ℕ) → List (List ℕ) → LiveWalk
walk_with q u top here left = record { degree = q; walk = record { values = u; top = top; here = here; left = left } }

live-left : (q : ℕ) (u : List ℕ) (top : ℕ) (xs : List (List ℕ)) → filter (is_live_cut q u) (map (λ p. p ++ (top ∷ [])) xs) ≡ map (λ p. p ++ (top ∷ [])) (filter (is_live_list q u top) xs)
live-left q u top xs = filter-map (is_live_cut q u) (λ p. p ++ (top ∷ [])) xs

live-shown : (q : ℕ) (u : List ℕ) (top : ℕ) (s : Stage) (inner : List ℕ) (w : CutWalk) → shown u top s inner ≡ w → length inner + 1 ≡ length u
    → live_walk q w ≡ walk_with q u top (here_of s top inner) (map (λ p. p ++ (top ∷ [])) (filter (is_live_list q u top) (lists_left s top inner)))
live-shown q u top s inner w is l =
    sym (ap (live_walk q) is) ∙ ap (walk_with q u top (here_of s top inner)) (ap (filter (is_live_cut q u)) (left-lists s u top inner l) ∙ live-left q u top (lists_left s top inner))

module _ (q : ℕ) (u v : List ℕ) (top : ℕ) (s t : Stage) (inner old items new : List ℕ) (w : CutWalk) (is : shown u top s inner ≡ w) (long : length inner + 1 ≡ length u)
    (same : v ≡ u) (old_is : old ≡ inner) where
  pub live-moved : items ≡ new → t ≡ At → FindsLive (is_live_list q v top) (lists_left s top old) true top new → live_walk q (shown u top t items) ≡ next_live (live_walk q w)
  live-moved e r f =
      let g : FindsLive (is_live_list q u top) (lists_left s top inner) true top new =
      subst (λ (x : List ℕ). FindsLive (is_live_list q x top) (lists_left s top inner) true top new) same
      (subst (λ (x : List ℕ). FindsLive (is_live_list q v top) (lists_left s top x) true top new) old_is f) in
      let ends : List (List ℕ) → List (List ℕ) = λ xs. map (λ p. p ++ (top ∷ [])) xs in
      ap₂ (λ x y. live_walk q (shown u top x y)) r e
      ∙ ap (walk_with q u top (Some (new ++ (top ∷ [])))) (live-left q u top (lists_after top new))
      ∙ sym (ap next_live (live-shown q u top s inner w is long ∙ ap (λ xs. walk_with q u top (here_of s top inner) (ends xs)) g.first))

  pub live-done : t ≡ Done → FindsLive (is_live_list q v top) (lists_left s top old) false top new → live_walk q (shown u top t items) ≡ next_live (live_walk q w)
  live-done r f =
      let g : FindsLive (is_live_list q u top) (lists_left s top inner) false top new =
      subst (λ (x : List ℕ). FindsLive (is_live_list q x top) (lists_left s top inner) false top new) same
      (subst (λ (x : List ℕ). FindsLive (is_live_list q v top) (lists_left s top x) false top new) old_is f) in
      ap (λ x. live_walk q (shown u top x items)) r
      ∙ sym (ap next_live (live-shown q u top s inner w is long ∙ ap (λ (xs : List (List ℕ)). walk_with q u top (here_of s top inner) (map (λ p. p ++ (top ∷ [])) xs)) g.first))

-- ---- the count

-- how many of the cuts are live
pub among-length : (q : ℕ) (u : List ℕ) (ps : List (List ℕ)) → live_count_among q (arity u) u ps ≡ length (filter (is_live_cut q u) ps)
among-length q u [] = refl
among-length q u (p ∷ ps) = go (is_live_cut q u p) (live_count_among q (arity u) u ps) (filter (is_live_cut q u) ps) (among-length q u ps)
  where
    go : (t : Bool) (n : ℕ) (xs : List (List ℕ)) → n ≡ length xs → cond t 1 0 + n ≡ length (cond t (p ∷ xs) xs)
    go true n xs e = omega arith
    go false n xs e = omega arith

-- the live cuts are those of the live lists
pub cuts-listed : (q : ℕ) (u : List ℕ) (top : ℕ) (inner : List ℕ) → length inner + 1 ≡ length u → top ≡ live_top q u
    → live_cut_count q (arity u) u ≡ length (filter (is_live_list q u top) (rising_lists 0 top (length inner)))
cuts-listed q u top inner l e =
    ap (λ n. live_count_among q (arity u) u (cuts u n)) (sym e)
    ∙ among-length q u (cuts u top) ∙ ap (λ ps. length (filter (is_live_cut q u) ps)) (left-lists Before u top inner l)
    ∙ ap length (live-left q u top (rising_lists 0 top (length inner))) ∙ length-map (filter (is_live_list q u top) (rising_lists 0 top (length inner))) (λ p. p ++ (top ∷ []))

-- the same, of the values and the lists that the code has
pub listed-count : (q : ℕ) (u v : List ℕ) (top n : ℕ) (inner : List ℕ) → v ≡ u → top ≡ n → length inner + 1 ≡ length v → n ≡ live_top q u
    → length (filter (is_live_list q v top) (rising_lists 0 top (length inner))) ≡ live_cut_count q (arity u) u
listed-count q u v top n inner e f l t = sym (cuts-listed q v top inner l (f ∙ t ∙ ap (live_top q) (sym e))) ∙ ap (λ (x : List ℕ). live_cut_count q (arity x) x) e

-- the list of zeros is that of the first cut
pub zeros-list : (v : List ℕ) (top : ℕ) → 1 ≤ length v → length v ≤ 256 → top ≤ 255 → IsListFor v top (take (length v - 1) (replicate 255 0))
zeros-list v top some few low =
    subst (IsListFor v top) (sym (take-replicate (length v - 1) 255 0 (omega arith)))
    (record { low = low; long = omega (arith, length-replicate {A = ℕ} (length v - 1) 0); cut = cut-start v (length v - 1) top (omega arith) })

pub length-zeros : (v : List ℕ) → 1 ≤ length v → length v ≤ 256 → length {A = ℕ} (take (length v - 1) (replicate 255 0)) + 1 ≡ length v
length-zeros v some few = omega (arith, ap (λ (xs : List ℕ). length xs) (take-replicate (length v - 1) 255 0 (omega arith)), length-replicate {A = ℕ} (length v - 1) 0)

next-same : (u : List ℕ) (top : ℕ) (here : Option (List ℕ)) (left : List (List ℕ)) → (next_walk (record { values = u; top = top; here = here; left = left })).values ≡ u
next-same u top here [] = refl
next-same u top here (p ∷ ps) = refl

next-top : (u : List ℕ) (top : ℕ) (here : Option (List ℕ)) (left : List (List ℕ)) → (next_walk (record { values = u; top = top; here = here; left = left })).top ≡ top
next-top u top here [] = refl
next-top u top here (p ∷ ps) = refl

module _ (q : ℕ) (w x : CutWalk) (step : live_walk q x ≡ next_live (live_walk q w)) where
  walk_step : (live_walk q x).walk ≡ next_walk (live_walk q w).walk
  walk_step = ap (λ (y : LiveWalk). y.walk) step

  -- the values and the places stay
  pub step-same : (x.values ≡ w.values) × (x.top ≡ w.top)
  step-same = (
    ap (λ (y : CutWalk). y.values) walk_step ∙ next-same w.values w.top w.here (live_walk q w).walk.left,
    ap (λ (y : CutWalk). y.top) walk_step ∙ next-top w.values w.top w.here (live_walk q w).walk.left,
  )

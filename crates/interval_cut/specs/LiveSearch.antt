-- The search for live cuts among the lists of their right ends.
use Rattle.std.specs.{Prelude.{MatchBool, ◌≡◌, ◌≢◌, ◌⊎◌, ℕ, ◌+◌, ◌-◌, ◌≤◌, ◌<◌, suc, Bool, true, false, ◌==◌, List, [], ◌∷◌, ◌++◌, drop, length, replicate, slice_index, take}, List.{count_by, filter}}
use Rattle.signed_sum.specs.Names.{is_degenerate, occurs}
use Rattle.surjection_law.specs.Names.{IsSurjection, arity}
use Rattle.interval_cut_law.specs.Names.{IsCutFrom, cut_face, rising_lists}
use Rattle.interval_cut.specs.{Walking.lists_after, LiveWalking.is_live_cut, declared.live_search.Search.Search, declared.stage.Stage.Stage, declared.stage.Stage.TheVariants.{Before, At, Done}}

-- how often v comes
abbrev pub times : ℕ → List ℕ → ℕ
times v u = count_by (λ w. w == v) u

-- of each place, how often its value comes later
abbrev pub later_times : List ℕ → List ℕ
later_times [] = []
later_times (v ∷ u) = times v u ∷ later_times u

-- the place after the last one of a face, or 0 where it has none
abbrev pub place_after : List ℕ → ℕ
place_after [] = 0
place_after (x ∷ []) = suc x
place_after (x ∷ y ∷ f) = place_after (y ∷ f)

-- whether a list of all right ends but the last is that of a live cut
abbrev pub is_live_list : ℕ → List ℕ → ℕ → List ℕ → Bool
is_live_list q u top inner = is_live_cut q u (inner ++ top ∷ [])

-- the lists that are to come, at a stage of the walk
abbrev pub lists_left : Stage → ℕ → List ℕ → List (List ℕ)
lists_left Before top inner = rising_lists 0 top (length inner)
lists_left At top inner = lists_after top inner
lists_left Done top inner = []

-- where a walk stands that has moved to a cut, or could not
abbrev pub stage_after : Bool → Stage
stage_after true = At
stage_after false = Done

-- the list and those after it, where there is one
abbrev pub lists_from : Bool → ℕ → List ℕ → List (List ℕ)
lists_from true top inner = inner ∷ lists_after top inner
lists_from false top inner = []

-- the last list, of numbers up to n, that has the first i numbers of p and then x
abbrev pub passed_list : ℕ → List ℕ → ℕ → ℕ → List ℕ
passed_list n p i x = take i p ++ x ∷ replicate (length p - (i + 1)) n

-- ys has the live lists of xs, in their order, and is no longer
pub record KeepsLive (live : List ℕ → Bool) (xs ys : List (List ℕ)) : Type 0 where
  pub same : filter live xs ≡ filter live ys
  pub shorter : length ys ≤ length xs

-- an interval from a to b makes its face, which has `count` places before it and `next` as the place
-- after them, no impossible one: it repeats no place, leaves room for `later` intervals, and fills
-- the face where it is the last
pub record IsFitting (q count next later a b : ℕ) : Type 0 where
  pub apart : next ≢ a + 1
  pub room : count + (b - a + 1) + later ≤ q + 1
  pub full : later ≡ 0 → count + (b - a + 1) ≡ q + 1

-- an interval from a that ends at b or later, and not after x, makes its face impossible
pub record IsUnfit (q top count next later a b x : ℕ) : Type 0 where
  pub up : b ≤ x
  pub low : x ≤ top
  pub cause : (next ≡ a + 1) ⊎ ((q + 1 < count + (b - a + 1) + later) ⊎ ((later ≡ 0) × (count + (x - a + 1) ≤ q)))

-- no cut is live whose first i right ends are those of p and whose next one is from that of p to x
pub record IsDeadEnd (q : ℕ) (u : List ℕ) (top : ℕ) (p : List ℕ) (i x : ℕ) : Type 0 where
  pub inside : i < length u
  pub up : slice_index p i ≤ x
  pub low : x ≤ top
  pub dead : (b : ℕ) (s : List ℕ) → slice_index p i ≤ b → b ≤ x → length s + (i + 1) ≡ length u → is_live_cut q u (take i p ++ b ∷ s) ≡ false

-- what the search for the cuts live for q keeps is that of the values
pub record IsSearchReady (q : ℕ) (u later counts nexts : List ℕ) : Type 0 where
  pub surjection : IsSurjection u
  pub small : q ≤ 15
  pub later_is : later ≡ later_times u
  pub counts_has : arity u + 1 ≤ length counts
  pub nexts_has : arity u + 1 ≤ length nexts

-- the same, of a search
abbrev pub IsReadyFor : List ℕ → Search → Type 0
IsReadyFor u s = IsSearchReady s.degree u (take (length u) s.later) s.counts s.nexts

-- the list has all right ends but the last of a cut of 0 to `top`
pub record IsListFor (u : List ℕ) (top : ℕ) (inner : List ℕ) : Type 0 where
  pub low : top ≤ 255
  pub long : length u ≡ length inner + 1
  pub cut : IsCutFrom u 0 (inner ++ top ∷ [])

-- the first live one of the lists is found, and those after it are to come
pub record FindsLive (live : List ℕ → Bool) (xs : List (List ℕ)) (found : Bool) (top : ℕ) (inner : List ℕ) : Type 0 where
  pub first : MatchBool found (filter live xs ≡ inner ∷ filter live (lists_after top inner)) (filter live xs ≡ [])

-- the search has still the same live lists to find
pub record IsSearching (live : List ℕ → Bool) (xs ys : List (List ℕ)) (u : List ℕ) (top : ℕ) (inner : List ℕ) : Type 0 where
  pub same : filter live ys ≡ filter live xs
  pub list : IsListFor u top inner

-- what is known of face k after the first intervals, where `rest` are the values of the others
pub record IsBegun (q k : ℕ) (rest face : List ℕ) (count next : ℕ) : Type 0 where
  pub long : count ≡ length face
  pub after : next ≡ place_after face
  pub plain : is_degenerate face ≡ false
  pub short : length face ≤ q + 1
  pub full : times k rest ≡ 0 → length face ≡ q + 1

-- The first i intervals are taken, and the next begins at a. `face` gives the begun faces, of which
-- the number of places and the place after the last are kept
pub record IsTaken (q : ℕ) (u p : List ℕ) (i a : ℕ) (counts nexts : List ℕ) : Type 0 where
  pub rest : IsCutFrom (drop i u) a (drop i p)
  pub face : ℕ → List ℕ
  pub whole : (k : ℕ) (s : List ℕ) → cut_face k u 0 (take i p ++ s) ≡ face k ++ cut_face k (drop i u) a s
  pub begun : (k : ℕ) → occurs k u ≡ 1 → IsBegun q k (drop i u) (face k) (slice_index counts k) (slice_index nexts k)

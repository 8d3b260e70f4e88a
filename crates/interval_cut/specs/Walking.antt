-- A walk over all cuts, in their order.
use Rattle.std.specs.Prelude.{◌≡◌, MatchBool, Bool, ℕ, ◌-◌, nat_lt, if◌then◌else◌, suc, List, [], ◌∷◌, ◌++◌, map, length, Option, Some, None, unwrap_or}
use Rattle.interval_cut_law.specs.Names.{cuts, rising_lists}

-- the lists after p, in order, among the lists of numbers up to n in which no number is below the one before it
abbrev pub lists_after : ℕ → List ℕ → List (List ℕ)
lists_after n [] = []
lists_after n (b ∷ p) =
    map (λ q. b ∷ q) (lists_after n p) ++ (if nat_lt b n then rising_lists (suc b) (n - suc b) (suc (length p)) else [])

-- q is the first list after p where there is one, and else p
abbrev pub IsNextList : Bool → ℕ → List ℕ → List ℕ → Type 0
IsNextList more n p q = MatchBool more (lists_after n p ≡ q ∷ lists_after n q) ((lists_after n p ≡ []) × (q ≡ p))

-- The cuts of 0 to `top` for the values: the one that the walk is at, and those that are to come
pub record CutWalk : Type 0 where
  pub values : List ℕ
  pub top : ℕ
  pub here : Option (List ℕ)
  pub left : List (List ℕ)

-- the right ends of the cut that the walk is at
abbrev pub cut_of : CutWalk → List ℕ
cut_of w = unwrap_or w.here []

-- the walk before the first cut
abbrev pub start_of : List ℕ → ℕ → CutWalk
start_of u n = record { values = u; top = n; here = None; left = cuts u n }

-- the walk past the last cut
abbrev pub finish_of : List ℕ → ℕ → CutWalk
finish_of u n = record { values = u; top = n; here = None; left = [] }

-- the step to the first cut that is to come, or past the last
abbrev pub next_walk : CutWalk → CutWalk
next_walk w = go w.left
  where
    go : List (List ℕ) → CutWalk
    go [] = finish_of w.values w.top
    go (p ∷ ps) = record { values = w.values; top = w.top; here = Some p; left = ps }

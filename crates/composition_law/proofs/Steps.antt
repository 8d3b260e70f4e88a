-- Cuts of a simplex for the terms of a composition, step by step: for the term, for u, where the composed value
-- is 0, and for v on the face of that value.
use Rattle.std.proofs.Common.{ℕ, zero, suc, List, [], ◌∷◌, ℤ, pos, ◌+ℤ◌}
use Rattle.interval_cut_law.proofs.Walks.{Cell, edge, ends, next}
use Rattle.composition_law.proofs.CutValues.{cells_as}

-- the cells of cuts by other names
abbrev pub Gap : Type 0
Gap = Cell

abbrev pub go : ℕ → ℕ → Gap
go v x = edge v x

abbrev pub stop : ℕ → ℕ → Gap
stop v x = next v x

-- one step: at the vertex a an entry x of u stops or goes on; in a piece the piece ends with the entry y of v, or the entry y ends and the piece goes on, or y goes on to the next vertex
pub data Step : Type 0 where
  out_stop : ℕ → ℕ → Step
  out_go : ℕ → ℕ → Step
  turn : ℕ → ℕ → Step
  pass : ℕ → ℕ → Step
  go_on : ℕ → ℕ → Step

abbrev pub triple : List ℕ → List ℕ → List ℕ → (List Step → ℤ) → ℤ
triple [] [] s f = pos 0
triple [] (y ∷ []) [] f = pos 0
triple [] (y ∷ []) (a ∷ []) f = f []
triple [] (y ∷ []) (a ∷ b ∷ s) f = pos 0
triple [] (y ∷ z ∷ v) s f = pos 0
triple (x ∷ u) v [] f = pos 0
triple (x ∷ u) [] (a ∷ s) f = pos 0
triple (zero ∷ u) (y ∷ v) (a ∷ s) f = triple u (y ∷ v) (a ∷ s) (λ t. f (turn y a ∷ t)) +ℤ (triple (zero ∷ u) v (a ∷ s) (λ t. f (pass y a ∷ t)) +ℤ triple (zero ∷ u) (y ∷ v) s (λ t. f (go_on y a ∷ t)))
triple (suc x ∷ u) (y ∷ v) (a ∷ s) f = triple u (y ∷ v) (a ∷ s) (λ t. f (out_stop (suc x) a ∷ t)) +ℤ triple (suc x ∷ u) (y ∷ v) s (λ t. f (out_go (suc x) a ∷ t))

-- the cut for the term
abbrev pub cut_of : List Step → List Cell
cut_of [] = []
cut_of (out_stop x a ∷ t) = next x a ∷ cut_of t
cut_of (out_go x a ∷ t) = edge x a ∷ cut_of t
cut_of (turn y a ∷ t) = next y a ∷ cut_of t
cut_of (pass y a ∷ t) = next y a ∷ cut_of t
cut_of (go_on y a ∷ t) = edge y a ∷ cut_of t

-- the cut for u, where the composed value is 0
abbrev pub outer_of : List Step → List Cell
outer_of [] = []
outer_of (out_stop x a ∷ t) = next x a ∷ outer_of t
outer_of (out_go x a ∷ t) = edge x a ∷ outer_of t
outer_of (turn y a ∷ t) = next 0 a ∷ outer_of t
outer_of (pass y a ∷ t) = outer_of t
outer_of (go_on y a ∷ t) = edge 0 a ∷ outer_of t

abbrev pub turns : List Step → ℕ
turns [] = 0
turns (out_stop x a ∷ t) = turns t
turns (out_go x a ∷ t) = turns t
turns (turn y a ∷ t) = suc (turns t)
turns (pass y a ∷ t) = turns t
turns (go_on y a ∷ t) = turns t

-- `next` where no piece follows
abbrev pub last_next : ℕ → ℕ → ℕ → Cell
last_next zero y a = next y a
last_next (suc n) y a = edge y a

-- and the cut of its face of the composed value for v
abbrev pub inner_of : List Step → List Cell
inner_of [] = []
inner_of (out_stop x a ∷ t) = inner_of t
inner_of (out_go x a ∷ t) = inner_of t
inner_of (turn y a ∷ t) = last_next (turns t) y a ∷ inner_of t
inner_of (pass y a ∷ t) = next y a ∷ inner_of t
inner_of (go_on y a ∷ t) = edge y a ∷ inner_of t

-- the vertices of the face of the value 0
abbrev pub zero_face : List Cell → List ℕ
zero_face [] = []
zero_face (edge zero a ∷ g) = a ∷ zero_face g
zero_face (edge (suc x) a ∷ g) = zero_face g
zero_face (next zero a ∷ g) = a ∷ zero_face g
zero_face (next (suc x) a ∷ g) = zero_face g

-- the values of the intervals of a cut that end
abbrev pub cut_ends : List Cell → List ℕ
cut_ends g = ends g

-- k for 0
abbrev pub named : ℕ → ℕ → ℕ
named k zero = k
named k (suc x) = suc x

-- the cut for u, with k for the composed value
abbrev pub outer_as : ℕ → List Step → List Cell
outer_as k t = cells_as (named k) (outer_of t)

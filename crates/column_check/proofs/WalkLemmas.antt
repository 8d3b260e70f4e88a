-- Walks of columns and of blocks.
use Rattle.std.proofs.Common.{◌≡◌, ℕ, ◌+◌, ◌*◌, ◌<◌, ◌≤◌, List, [], ◌∷◌, drop, length, get_or, arith, refl, sym, subst, Result, Ok, Err}
use Rattle.linear_law.{specs.Names.Each, proofs.Names.each_get_or}
use Rattle.certificate_law.specs.{Types.{CartanAnswer, Yes, No}, Names.{Asks, Stated, answer_stated, numbered}}
use Rattle.certificate_walk.{specs.declared.stop.Stop.Stop, specs.Names.IsWalk, proofs.Names.{numbered_each, Leads, leads_room, numbered_end, numbered_more, numbered_next, numbered_stop, walk_both}}

-- a line of which nothing is asked, before others
pub headed : (P : Stated → Type 0) (before : ℕ) (s : Stated) (lines : List Stated) (r : Result ℕ Stop) → P s → IsWalk P (before + 1) lines r → IsWalk P before (s ∷ lines) r
headed P before s lines r h w = walk_both P before (s ∷ []) lines (before + 1) r (refl, (h, tt)) w

abbrev pub columned : {X : Type 0} → (ℕ → X → Stated) → (X → Stated) → ℕ → X → List Stated
columned line next k x = line k x ∷ next x ∷ []

-- ---- a loop over the items of a section, given as a slice

module _ {X : Type 0} (P : Stated → Type 0) (line : ℕ → X → List Stated) (items xs : List X) (same : items ≡ xs) (before at i : ℕ) (leads : Leads P before (numbered line 0 xs) at (numbered line i (drop i xs))) where
  pub loop-end : length items ≤ i → IsWalk P before (numbered line 0 xs) (Ok at)
  loop-end b = numbered_end P line xs before at i (subst (λ (ys : List X). length ys ≤ i) same b) leads

  module _ (x : X) (b : i < length items) (is : x ≡ get_or items i x) where
    pub inside : i < length xs
    inside = subst (λ (ys : List X). i < length ys) same b

    there : x ≡ get_or xs i x
    there = subst (λ (ys : List X). x ≡ get_or ys i x) same is

    pub loop-more : (next : ℕ) → IsWalk P at (line i x) (Ok next) → Leads P before (numbered line 0 xs) next (numbered line (i + 1) (drop (i + 1) xs))
    loop-more next w = numbered_more P line xs before at next i x inside there w leads

    pub loop-stop : (s : Stop) → IsWalk P at (line i x) (Err s) → IsWalk P before (numbered line 0 xs) (Err s)
    loop-stop s w = numbered_stop P line xs before at i x s inside there w leads

    pub loop-item : (Q : X → Type 0) → Each Q xs → Q x
    loop-item Q h = subst Q (sym there) (each_get_or Q xs i x inside h)

    pub loop-room : (size bound : ℕ) → length (line i x) ≡ size → before + length (numbered line 0 xs) < bound → at + size < bound
    loop-room size bound s r =
        let a = leads_room P before (numbered line 0 xs) at (numbered line i (drop i xs)) (line i x) (numbered line (i + 1) (drop (i + 1) xs)) (numbered_next line xs i i x inside there) leads in
        omega (arith, a, r, s)

-- an item of a slice, and what holds of each
pub item : {X : Type 0} (items xs : List X) (i : ℕ) (x : X) → items ≡ xs → i < length items → x ≡ get_or items i x → (Q : X → Type 0) → Each Q xs → (i < length xs) × Q x
item items xs i x e b is Q h =
    let at = subst (λ (ys : List _). (i < length ys) × (x ≡ get_or ys i x)) e (b, is) in
    (at.0, subst Q (sym at.1) (each_get_or Q xs i x at.0 h))

-- the columns of a block with room
pub column-size : {X : Type 0} (line : ℕ → X → Stated) (next : X → Stated) (xs : List X) (before bound : ℕ) → before + (2 * length xs + 1) < bound → before + 1 + length (numbered (columned line next) 0 xs) < bound
column-size line next xs before bound r = let n = numbered_each (columned line next) 2 0 xs (λ k y. refl) in omega (arith, n, r)

-- nothing is asked of the chain under a Cartan line
pub answer-free : (p : ℕ) (answer : CartanAnswer) → Asks p 8 (answer_stated answer)
answer-free p (Yes primitive) = tt
answer-free p (No value cycle) = tt

-- Lists of one length in one list, and searches among them.
use Rattle.std.{proofs.Common.{◌≡◌, ℕ, zero, suc, ◌+◌, ◌*◌, ◌-◌, ◌<◌, ◌≤◌, inl, inr, arith, refl, sym, ◌∙◌, ap, ap₂, subst, List, [], ◌∷◌, ◌++◌, length, take, take_all, drop, get_or, Ordering, Less, Equal, Greater, drop-drop, length-drop}, proofs.lemmas.Bool.{cases_eq, cases_lt}, proofs.lemmas.List.{drop-append-le, take-append-le}, proofs.lemmas.Map.Keys.Less-from_sorted, specs.Ordering.{nat_cmp, ordering_reverse, ordering_then}, specs.Cmp.Lexicographic.nat_list_cmp_total, specs.List.Sorted.IsStrictlySortedBy}
use Rattle.linear_law.specs.Names.{Among}
use Rattle.simplicial_law.{specs.Names.simplex_cmp, proofs.Names.place_of_among}
use Rattle.simplex_set.specs.Pieces.{pieces}

pub length_pieces : (size count : ℕ) (xs : List ℕ) → length (pieces size count xs) ≡ count
length_pieces size zero xs = refl
length_pieces size (suc count) xs = ap suc (length_pieces size count (drop size xs))

pub piece_at : (size count : ℕ) (xs : List ℕ) (i : ℕ) → i < count → get_or (pieces size count xs) i [] ≡ take size (drop (i * size) xs)
piece_at size zero xs i h = absurd (omega arith)
piece_at size (suc count) xs zero h = let e : 0 ≡ 0 * size = omega arith in ap (λ (n : ℕ). take size (drop n xs)) e
piece_at size (suc count) xs (suc i) h =
    let e : size + i * size ≡ suc i * size = omega arith in
    piece_at size count (drop size xs) i (omega arith) ∙ ap (take size) (drop-drop (i * size) size xs ∙ ap (λ (n : ℕ). drop n xs) e)

-- a piece lies within the list
pub piece_within : (size count i n : ℕ) → i < count → n ≡ count * size → i * size + size ≤ n
piece_within size count i n h e =
    let d : ℕ = count - (i + 1) in
    let c : count ≡ i + 1 + d = omega arith in
    let f : count * size ≡ (i + 1 + d) * size = ap (λ (m : ℕ). m * size) c in
    omega (arith, e, f)

-- one more piece
pub pieces_push : (size count : ℕ) (xs s : List ℕ) → length xs ≡ count * size → length s ≡ size → pieces size (count + 1) (xs ++ s) ≡ pieces size count xs ++ s ∷ []
pieces_push size zero [] s h e = ap (λ (t : List ℕ). t ∷ []) (take_all size s (omega (arith, e)))
pieces_push size zero (x ∷ xs) s h e = absurd (omega (arith, h))
pieces_push size (suc count) xs s h e =
    let long : size ≤ length xs = omega (arith, h) in
    let rest : length (drop size xs) ≡ count * size = omega (arith, length-drop size xs, h) in
    let n : suc count + 1 ≡ suc (count + 1) = omega arith in
    ap (λ (m : ℕ). pieces size m (xs ++ s)) n
    ∙ ap₂ (λ (t : List ℕ) (ts : List (List ℕ)). t ∷ ts) (take-append-le size xs s long)
    (ap (pieces size (count + 1)) (drop-append-le size xs s long) ∙ pieces_push size count (drop size xs) s rest e)

pub length_push : (xs s : List ℕ) (size count : ℕ) → length xs ≡ count * size → length s ≡ size → length xs + length s ≡ (count + 1) * size
length_push xs s size count h e = omega (arith, h, e)

-- ---- comparing with a list in two parts

pub shorter : (v f r : List ℕ) → length v < length f → simplex_cmp v f ≡ simplex_cmp v (f ++ r)
shorter v [] r h = absurd (omega arith)
shorter [] (x ∷ f) r h = refl
shorter (y ∷ v) (x ∷ f) r h = ap (ordering_then (nat_cmp y x)) (shorter v f r (omega arith))

-- the first parts decide, or else the rests
parts : (v f r : List ℕ) → length f ≤ length v → ordering_then (simplex_cmp (take (length f) v) f) (simplex_cmp (drop (length f) v) r) ≡ simplex_cmp v (f ++ r)
parts v [] r h = refl
parts [] (x ∷ f) r h = absurd (omega arith)
parts (y ∷ v) (x ∷ f) r h = go (nat_cmp y x) (simplex_cmp (take (length f) v) f) (simplex_cmp (drop (length f) v) r) (simplex_cmp v (f ++ r)) (parts v f r (omega arith))
  where
    go : (o a b c : Ordering) → ordering_then a b ≡ c → ordering_then (ordering_then o a) b ≡ ordering_then o c
    go Less a b c e = refl
    go Equal a b c e = e
    go Greater a b c e = refl

by_rests : (v f r : List ℕ) → length f ≤ length v → simplex_cmp (take (length f) v) f ≡ Equal → simplex_cmp (drop (length f) v) r ≡ simplex_cmp v (f ++ r)
by_rests v f r h e = sym (ap (λ (o : Ordering). ordering_then o (simplex_cmp (drop (length f) v) r)) e) ∙ parts v f r h

pub by_rests_of : (v f r : List ℕ) (o : Ordering) → length f ≤ length v → simplex_cmp (take (length f) v) f ≡ Equal → o ≡ simplex_cmp (take (length v - length f) (drop (length f) v)) r → o ≡ simplex_cmp v (f ++ r)
by_rests_of v f r o h e q = q ∙ ap (λ (t : List ℕ). simplex_cmp t r) (take_all (length v - length f) (drop (length f) v) (omega (arith, length-drop (length f) v))) ∙ by_rests v f r h e

pub by_firsts : (v f r : List ℕ) (o : Ordering) → length f ≤ length v → o ≡ simplex_cmp (take (length f) v) f → (o ≡ Equal → ⊥) → o ≡ simplex_cmp v (f ++ r)
by_firsts v f r o h e n = go o (simplex_cmp (drop (length f) v) r) n ∙ ap (λ (a : Ordering). ordering_then a (simplex_cmp (drop (length f) v) r)) e ∙ parts v f r h
  where
    go : (o b : Ordering) → (o ≡ Equal → ⊥) → o ≡ ordering_then o b
    go Less b n = refl
    go Equal b n = absurd (n refl)
    go Greater b n = refl

-- ---- searching

-- what a search knows: s is behind the simplices before `low` and before those from `high` on
pub record IsBetween (ks : List (List ℕ)) (s : List ℕ) (low high : ℕ) : Type 0 where
  pub within : high ≤ length ks
  pub behind : (k : ℕ) → k < low → simplex_cmp (get_or ks k []) s ≡ Less
  pub before : (k : ℕ) → high ≤ k → k < length ks → simplex_cmp (get_or ks k []) s ≡ Greater

pub between_all : (ks : List (List ℕ)) (s : List ℕ) (n : ℕ) → n ≡ length ks → IsBetween ks s 0 n
between_all ks s n e = record { within = omega (arith, e); behind = λ k h. absurd (omega arith); before = λ k h l. absurd (omega (arith, e)) }

pub between_low : (ks : List (List ℕ)) (s : List ℕ) (low high middle : ℕ) → IsStrictlySortedBy simplex_cmp ks → IsBetween ks s low high → middle < high → simplex_cmp (get_or ks middle []) s ≡ Less → IsBetween ks s (middle + 1) high
between_low ks s low high middle o b h e = record {
  within = b.within;
  behind = λ k l. elim (cases_eq k middle) [
    | inl q ↦ subst (λ (m : ℕ). simplex_cmp (get_or ks m []) s ≡ Less) (sym q) e
    | inr d ↦ nat_list_cmp_total.trans (get_or ks k []) (get_or ks middle []) s (Less-from_sorted simplex_cmp ks k middle [] o (omega (arith, d)) (omega (arith, b.within))) e
  ];
  before = b.before;
}

pub between_high : (ks : List (List ℕ)) (s : List ℕ) (low high middle : ℕ) → IsStrictlySortedBy simplex_cmp ks → IsBetween ks s low high → middle < high → simplex_cmp (get_or ks middle []) s ≡ Greater → IsBetween ks s low middle
between_high ks s low high middle o b h e = record {
  within = omega (arith, b.within);
  behind = b.behind;
  before = λ k l m. elim (cases_eq k middle) [
    | inl q ↦ subst (λ (i : ℕ). simplex_cmp (get_or ks i []) s ≡ Greater) (sym q) e
    | inr d ↦
        nat_list_cmp_total.antisymm (get_or ks k []) s
        ∙ ap ordering_reverse (nat_list_cmp_total.trans s (get_or ks middle []) (get_or ks k [])
        (nat_list_cmp_total.antisymm s (get_or ks middle []) ∙ ap ordering_reverse e)
        (Less-from_sorted simplex_cmp ks middle k [] o (omega (arith, d)) m))
  ];
}

equal_itself : (s : List ℕ) → simplex_cmp s s ≡ Less → ⊥
equal_itself s e = let f : Less ≡ Greater = sym e ∙ nat_list_cmp_total.antisymm s s ∙ ap ordering_reverse e in cc

greater_itself : (s : List ℕ) → simplex_cmp s s ≡ Greater → ⊥
greater_itself s e = let f : Greater ≡ Less = sym e ∙ nat_list_cmp_total.antisymm s s ∙ ap ordering_reverse e in cc

pub nowhere : (ks : List (List ℕ)) (s : List ℕ) (low high : ℕ) → IsBetween ks s low high → high ≤ low → Among s ks → ⊥
nowhere ks s low high b h m =
    let p = place_of_among s ks m in
    elim (cases_lt p.0 low) [
      | inl l ↦ equal_itself s (subst (λ (t : List ℕ). simplex_cmp t s ≡ Less) (p.2 []) (b.behind p.0 l))
      | inr g ↦ greater_itself s (subst (λ (t : List ℕ). simplex_cmp t s ≡ Greater) (p.2 []) (b.before p.0 (omega (arith, g)) p.1))
    ]

-- ---- as the code has them

pub within_view : (size count place : ℕ) (xs : List ℕ) (now : List (List ℕ)) → pieces size count xs ≡ now → length xs ≡ count * size → place < length now → place * size + size ≤ length xs
within_view size count place xs now v e h = piece_within size count place (length xs) (omega (arith, h, ap length v, length_pieces size count xs)) e

pub piece_is : (size count place : ℕ) (xs ys : List ℕ) (now : List (List ℕ)) → pieces size count xs ≡ now → ys ≡ xs → place < length now → take (place * size + size - place * size) (drop (place * size) ys) ≡ get_or now place []
piece_is size count place xs ys now v f h =
    let n : place * size + size - place * size ≡ size = omega arith in
    ap (λ (k : ℕ). take k (drop (place * size) ys)) n
    ∙ ap (λ (zs : List ℕ). take size (drop (place * size) zs)) f
    ∙ sym (piece_at size count xs place (omega (arith, h, ap length v, length_pieces size count xs)))
    ∙ ap (λ (ls : List (List ℕ)). get_or ls place []) v

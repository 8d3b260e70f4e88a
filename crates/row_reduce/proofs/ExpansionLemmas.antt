-- From a history to the vector behind it.
use Rattle.std.proofs.Common.{◌≡◌, ℕ, suc, ◌+◌, ◌*◌, ◌<◌, List, [], ◌∷◌, ◌++◌, reverse, length, get_or, arith, sym, ◌∙◌, ap, subst, append_assoc}
use Rattle.row_reduce.{proofs.Below.{put_sum, reverse_onto, AllZip, Congruent, sum_over, KernelVector, unit_vector, paired, IsBelow, value_in, paired_row, pair_none, paired_plus, paired_same, sum_append, Congruent_refl, Congruent_of, Congruent_sym, Congruent_trans, Congruent_add, Congruent_mul, Congruent_scale, Congruent_from}, specs.Names.{Stored, IsClear, Class, IsFrom, kernel_of, Expanding, IsExpanded, weighted}}

-- ---- new weights, below k

weighted_add : (p k by : ℕ) (old new : List ℕ) (g : ℕ → ℕ) (row : List (ℕ × ℕ)) → ((j : ℕ) → Congruent p (get_or new j 0) (get_or old j 0 + by * value_in row j)) → IsBelow k row
    → Congruent p (paired k (λ j. get_or new j 0) g) (paired k (λ j. get_or old j 0) g + by * sum_over (λ e. e.1 * g e.0) row)
weighted_add p k by old new g row h below =
    Congruent_trans (paired_same p k (λ j. get_or new j 0) (λ j. get_or old j 0 + by * value_in row j) g (record { at = λ j _. h j }))
    (Congruent_trans (Congruent_of (paired_plus k by (λ j. get_or old j 0) (value_in row) g))
    (Congruent_add (Congruent_refl (paired k (λ j. get_or old j 0) g)) (Congruent_scale by (paired_row p k row g below))))

-- ---- the weight of the k-th row moves

pub expand_step : (p : ℕ) (images : List (Stored p)) (place : ℕ) (history : List (ℕ × ℕ)) (old new : List ℕ) (out : List (ℕ × ℕ)) (k w : ℕ) (i : Stored p) → k < length images → w ≡ get_or old k 0
    → ((s : Stored p) → i ≡ get_or images k s) → ((j : ℕ) → Congruent p (get_or new j 0) (get_or old j 0 + w * value_in i.history j))
    → Expanding p images place history old out (k + 1) → Expanding p images place history new (out ++ ((i.source, w) ∷ [])) k
expand_step p images place history old new out k w i inside w_is is added h = record {
  sum = λ sources v d from mine x.
      let q : k + 1 ≡ suc k = omega arith in
      let before : Congruent p (v x) (value_in out x + (weighted k old sources d x + w * get_or sources k d x)) =
      subst (λ n. Congruent p (v x) (value_in out x + (weighted k old sources d x + n * get_or sources k d x))) (sym w_is)
      (subst (λ n. Congruent p (v x) (value_in out x + weighted n old sources d x)) q (h.sum sources v d from mine x)) in
      let mine_k : IsFrom p k sources i.source i.history (get_or sources k d) =
      subst (λ (j : Stored p). IsFrom p k sources j.source j.history (get_or sources k d)) (sym (is i)) (from.from k i d inside) in
      let moved = weighted_add p k w old new (λ j. get_or sources j d x) i.history added mine_k.fits in
      let more = put_sum out i.source w x in
      Congruent_from (Congruent_add before (Congruent_add (Congruent_scale w (mine_k.sum d x)) (Congruent_sym moved))) (omega (arith, more));
}

pub expand_past : (p : ℕ) (images : List (Stored p)) (place : ℕ) (history : List (ℕ × ℕ)) (weights : List ℕ) (out : List (ℕ × ℕ)) (k : ℕ) → get_or weights k 0 ≡ 0
    → Expanding p images place history weights out (k + 1) → Expanding p images place history weights out k
expand_past p images place history weights out k none h = record {
  sum = λ sources v d from mine x.
      let q : k + 1 ≡ suc k = omega arith in
      let before : Congruent p (v x) (value_in out x + weighted (suc k) weights sources d x) =
      subst (λ n. Congruent p (v x) (value_in out x + weighted n weights sources d x)) q (h.sum sources v d from mine x) in
      Congruent_trans before (Congruent_of (rw none (omega arith)));
}

pub expand_start : (p : ℕ) (images : List (Stored p)) (place : ℕ) (history : List (ℕ × ℕ)) (old new : List ℕ) → IsClear p old → IsBelow (length images) history
    → ((j : ℕ) → Congruent p (get_or new j 0) (get_or old j 0 + 1 * value_in history j)) → Expanding p images place history new ((place, 1) ∷ []) (length images)
expand_start p images place history old new clear fits added = record {
  sum = λ sources v d from mine x.
      let moved = weighted_add p (length images) 1 old new (λ j. get_or sources j d x) history added fits in
      let none = pair_none p (length images) (λ j. get_or old j 0) (λ j. get_or sources j d x) (λ j b. Congruent_from (Congruent_mul (clear.zero j) (Congruent_refl (get_or sources j d x))) (omega arith)) in
      Congruent_from (Congruent_add (mine.sum d x) (Congruent_add (Congruent_sym moved) (Congruent_sym none))) (omega arith);
}

pub expand_end : (p : ℕ) (images : List (Stored p)) (place : ℕ) (history : List (ℕ × ℕ)) (weights : List ℕ) (out : List (ℕ × ℕ)) → Expanding p images place history weights out 0 → IsExpanded p images place history out
expand_end p images place history weights out h = record { is = λ sources v from mine x. Congruent_trans (h.sum sources v v from mine x) (Congruent_of (omega arith)) }

-- ---- the vectors of a walk

pub zip_reversed : {p : ℕ} (A : Class p → (ℕ → ℕ) → Type 0) (B : Class p → List (ℕ × ℕ) → Type 0) (R : KernelVector → List (ℕ × ℕ) → Type 0)
    → ((c : Class p) (v : ℕ → ℕ) (r : List (ℕ × ℕ)) → A c v → B c r → R (record { place = c.place; vector = v }) r)
    → (cs : List (Class p)) (vs : List (ℕ → ℕ)) (rs : List (List (ℕ × ℕ))) (done : List KernelVector) (past : List (List (ℕ × ℕ)))
    → AllZip A cs vs → AllZip B cs rs → AllZip R done past → AllZip R (kernel_of cs vs done) (reverse rs ++ past)
zip_reversed A B R f [] vs [] done past a b h = h
zip_reversed A B R f [] vs (r ∷ rs) done past a b h = elim b [ ]
zip_reversed A B R f (c ∷ cs) [] rs done past a b h = elim a [ ]
zip_reversed A B R f (c ∷ cs) (v ∷ vs) [] done past a b h = elim b [ ]
zip_reversed A B R f (c ∷ cs) (v ∷ vs) (r ∷ rs) done past a b h =
    let e : reverse (r ∷ rs) ++ past ≡ reverse rs ++ (r ∷ past) = ap (λ (ys : List (List (ℕ × ℕ))). ys ++ past) (reverse_onto rs r []) ∙ append_assoc (reverse rs) (r ∷ []) past in
    subst (AllZip R (kernel_of cs vs (record { place = c.place; vector = v } ∷ done))) (sym e)
    (zip_reversed A B R f cs vs rs (record { place = c.place; vector = v } ∷ done) (r ∷ past) a.1 b.1 (f c v r a.0 b.0, h))

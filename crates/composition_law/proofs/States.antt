-- What is known of a walk, and of what was passed before it. `kind` is 1 at the values of u, and 0 at those of v.
use Rattle.std.proofs.{Common.{List, [], ap, arith, cond, inl, inr, length, refl, suc, sym, zero, ℕ, ◌++◌, ◌==◌, ◌∙◌, ◌∷◌, ◌≡◌, ℤ}, lemmas.Int.ints, lemmas.Bool.Decides.nat_tests}
use native.Mathlib.Decide.{ℕ_discrete}
use Rattle.composition_law.proofs.{Appends.{aligned-last, aligned-more, alignedV-last, alignedV-more, good-append, goodv-append}, Cells.{Aligned, AlignedV, Good, GoodV}, Walks.{Cell, edge, ends, next, out, values, walks}}
use Rattle.signed_sum.{proofs.Names.{occurs-01, occurs-again, occurs-apart, occurs-self}, specs.Names.{if_zero, occurs}}

module _ (kind : ℕ → ℕ) where
  abbrev pub AllKind : ℕ → List ℕ → Type 0
  AllKind n [] = Unit {0}
  AllKind n (x ∷ u) = (kind x ≡ n) × AllKind n u

  pub kinds-apart : (x y : ℕ) → kind x ≡ 1 → kind y ≡ 0 → x ≡ y → ⊥
  kinds-apart x y h k e = let q : kind x ≡ kind y = ap kind e in omega (arith, h, k, q)

  -- a value of the other kind changes nothing
  pub skip-0 : (x y : ℕ) (W : List ℕ) → kind x ≡ 1 → kind y ≡ 0 → occurs x (y ∷ W) ≡ occurs x W
  skip-0 x y W h k = occurs-apart x y W (kinds-apart x y h k)

  pub skip-1 : (x y : ℕ) (W : List ℕ) → kind x ≡ 1 → kind y ≡ 0 → occurs y (x ∷ W) ≡ occurs y W
  skip-1 x y W h k = occurs-apart y x W (λ e. kinds-apart x y h k (sym e))

  -- ---- walks

  abbrev pub SameOut : List ℕ → List ℕ → Type 0
  SameOut W U = (x : ℕ) → kind (suc x) ≡ 1 → occurs (suc x) W ≡ occurs (suc x) U

  pub record IsWalk (u v : List ℕ) (c : List Cell) : Type 0 where
    pub ending : ends c ≡ u
    pub outs : SameOut (values c) u
    pub ins : (y : ℕ) → kind y ≡ 0 → occurs y (values c) ≡ if_zero (occurs 0 u) 0 (occurs y v)
    pub single : occurs 0 u ≡ 0 → length v ≡ 1

  zero-apart : (x : ℕ) (u : List ℕ) → occurs (suc x) (0 ∷ u) ≡ occurs (suc x) u
  zero-apart x u = occurs-apart (suc x) 0 u (λ e. omega (arith, e))

  pub zero-there : (x : ℕ) (u : List ℕ) → occurs 0 (suc x ∷ u) ≡ occurs 0 u
  zero-there x u = occurs-apart 0 (suc x) u (λ e. omega (arith, e))

  pub walk-next : (u v : List ℕ) (y : ℕ) (c : List Cell) → kind y ≡ 0 → IsWalk u (y ∷ v) c → IsWalk (0 ∷ u) (y ∷ v) (next y ∷ c)
  walk-next u v y c h w = record {
    ending = ap (λ r. 0 ∷ r) w.ending;
    outs = λ x k. skip-0 (suc x) y (values c) k h ∙ w.outs x k ∙ sym (zero-apart x u);
    ins = λ z k. elim (occurs-01 0 u) [
      | inl e ↦ ap (λ j. cond (z == y) 1 j) (w.ins z k ∙ ap (λ j. if_zero j 0 (occurs z (y ∷ v))) e ∙ sym (tails z v (w.single e)))
      | inr e ↦ let i : occurs z (values c) ≡ occurs z (y ∷ v) = w.ins z k ∙ ap (λ j. if_zero j 0 (occurs z (y ∷ v))) e in grind (arith, nat_tests, i)
    ];
    single = λ e. absurd (let s = occurs-self 0 u in omega (arith, e, s));
  }
    where
      tails : (z : ℕ) (v : List ℕ) → length (y ∷ v) ≡ 1 → occurs z v ≡ 0
      tails z [] e = refl
      tails z (x ∷ v) e = absurd (omega (arith, e))

  pub walk-edge : (u v : List ℕ) (y : ℕ) (c : List Cell) → kind y ≡ 0 → IsWalk (0 ∷ u) v c → IsWalk (0 ∷ u) (y ∷ v) (edge y ∷ c)
  walk-edge u v y c h w = record {
    ending = w.ending;
    outs = λ x k. skip-0 (suc x) y (values c) k h ∙ w.outs x k;
    ins = λ z k. ap (λ j. cond (z == y) 1 j) (w.ins z k);
    single = λ e. absurd (let s = occurs-self 0 u in omega (arith, e, s));
  }

  pub walk-out : (u v : List ℕ) (x : ℕ) (c : List Cell) → kind (suc x) ≡ 1 → IsWalk u v c → IsWalk (suc x ∷ u) v (out (suc x) ∷ c)
  walk-out u v x c h w = record {
    ending = ap (λ r. suc x ∷ r) w.ending;
    outs = λ z k. ap (λ j. cond (suc z == suc x) 1 j) (w.outs z k);
    ins = λ z k. skip-1 (suc x) z (values c) h k ∙ w.ins z k ∙ ap (λ j. if_zero j 0 (occurs z v)) (sym (zero-there x u));
    single = λ e. w.single (sym (zero-there x u) ∙ e);
  }

  -- y waits exactly where a 0 is left
  pub waiting : (u v : List ℕ) (y : ℕ) (c : List Cell) → kind y ≡ 0 → IsWalk u (y ∷ v) c → occurs y (values c) ≡ occurs 0 u
  waiting u v y c h w = w.ins y h ∙ ap (λ n. if_zero (occurs 0 u) 0 n) (occurs-self y v) ∙ (elim (occurs-01 0 u) [ inl e ↦ rw e refl | inr e ↦ rw e refl ])

  -- sums whose terms agree where P holds, which each entry keeps
  pub walks-by : (P : List ℕ → List ℕ → List Cell → Type 0) → ((y : ℕ) → kind y ≡ 0 → P [] (y ∷ []) []) →
      ((u v : List ℕ) (y : ℕ) (c : List Cell) → kind y ≡ 0 → P u (y ∷ v) c → P (0 ∷ u) (y ∷ v) (next y ∷ c)) →
      ((u v : List ℕ) (y : ℕ) (c : List Cell) → kind y ≡ 0 → P (0 ∷ u) v c → P (0 ∷ u) (y ∷ v) (edge y ∷ c)) →
      ((u v : List ℕ) (x : ℕ) (c : List Cell) → kind (suc x) ≡ 1 → P u v c → P (suc x ∷ u) v (out (suc x) ∷ c)) →
      (u v : List ℕ) (f g : List Cell → ℤ) → AllKind 1 u → AllKind 0 v → ((c : List Cell) → P u v c → f c ≡ g c) → walks u v f ≡ walks u v g
  walks-by P s n e o [] [] f g a b h = refl
  walks-by P s n e o [] (y ∷ []) f g a b h = h [] (s y b.0)
  walks-by P s n e o [] (y ∷ z ∷ v) f g a b h = refl
  walks-by P s n e o (x ∷ u) [] f g a b h = refl
  walks-by P s n e o (zero ∷ u) (y ∷ v) f g a b h =
      let i = walks-by P s n e o u (y ∷ v) (λ c. f (next y ∷ c)) (λ c. g (next y ∷ c)) a.1 b (λ c w. h (next y ∷ c) (n u v y c b.0 w)) in
      let j = walks-by P s n e o (zero ∷ u) v (λ c. f (edge y ∷ c)) (λ c. g (edge y ∷ c)) a b.1 (λ c w. h (edge y ∷ c) (e u v y c b.0 w)) in
      omega (arith, ints)
  walks-by P s n e o (suc x ∷ u) (y ∷ v) f g a b h =
      walks-by P s n e o u (y ∷ v) (λ c. f (out (suc x) ∷ c)) (λ c. g (out (suc x) ∷ c)) a.1 b (λ c w. h (out (suc x) ∷ c) (o u (y ∷ v) x c a.0 w))

  -- sums whose terms agree
  pub walks-cong : (u v : List ℕ) (f g : List Cell → ℤ) → AllKind 1 u → AllKind 0 v → ((c : List Cell) → IsWalk u v c → f c ≡ g c) → walks u v f ≡ walks u v g
  walks-cong = walks-by IsWalk (λ y h. record { ending = refl; outs = λ x k. refl; ins = λ z k. refl; single = λ e. refl }) walk-next walk-edge walk-out

  -- ---- prefixes

  -- either no entry of v was passed, or the last one was `next y`
  pub record Ready (y : ℕ) (p : List Cell) : Type 0 where
    pub good : (W U : List ℕ) → SameOut W U → occurs y W ≡ occurs 0 U → Good p W U
    pub goodv : (W V : List ℕ) → ((z : ℕ) → kind z ≡ 0 → occurs z W ≡ occurs z V) → occurs y W ≡ 1 → GoodV p W V
    pub outs : (x : ℕ) → kind (suc x) ≡ 1 → Aligned (suc x) (suc x) p
    pub here : Aligned y 0 p
    pub others : (z : ℕ) → kind z ≡ 0 → (z ≡ y → ⊥) → AlignedV z p

  -- either no entry of v was passed, or the last one was an edge
  pub record Fresh (p : List Cell) : Type 0 where
    pub good : (W U : List ℕ) → SameOut W U → occurs 0 U ≡ 1 → Good p W U
    pub goodv : (W V : List ℕ) → ((z : ℕ) → kind z ≡ 0 → occurs z W ≡ occurs z V) → GoodV p W V
    pub outs : (x : ℕ) → kind (suc x) ≡ 1 → Aligned (suc x) (suc x) p
    pub all : (z : ℕ) → kind z ≡ 0 → AlignedV z p

  -- ---- one entry more

  pub same-both : (x : ℕ) (W U : List ℕ) → SameOut W U → SameOut (suc x ∷ W) (suc x ∷ U)
  same-both x W U h z k = ap (λ j. cond (suc z == suc x) 1 j) (h z k)

  pub same-in : (y : ℕ) (W U : List ℕ) → kind y ≡ 0 → SameOut W U → SameOut (y ∷ W) U
  same-in y W U h s z k = skip-0 (suc z) y W k h ∙ s z k

  pub same-next : (y : ℕ) (W U : List ℕ) → kind y ≡ 0 → SameOut W U → SameOut (y ∷ W) (0 ∷ U)
  same-next y W U h s z k = skip-0 (suc z) y W k h ∙ s z k ∙ sym (zero-apart z U)

  none-apart : (v a x y : ℕ) → (v ≡ x → ⊥) → (a ≡ y → ⊥) → occurs v (x ∷ []) ≡ occurs a (y ∷ [])
  none-apart v a x y n m = occurs-apart v x [] n ∙ sym (occurs-apart a y [] m)

  outs-out : (z x : ℕ) (p : List Cell) → Aligned (suc z) (suc z) p → Aligned (suc z) (suc z) (p ++ (out (suc x) ∷ []))
  outs-out z x p h = aligned-more (suc z) (suc z) p (out (suc x) ∷ []) refl (refl, tt) h

  outs-edge : (z y : ℕ) (p : List Cell) → kind (suc z) ≡ 1 → kind y ≡ 0 → Aligned (suc z) (suc z) p → Aligned (suc z) (suc z) (p ++ (edge y ∷ []))
  outs-edge z y p k h l = let e = skip-0 (suc z) y [] k h in aligned-more (suc z) (suc z) p (edge y ∷ []) e (e, tt) l

  outs-next : (z y : ℕ) (p : List Cell) → kind (suc z) ≡ 1 → kind y ≡ 0 → Aligned (suc z) (suc z) p → Aligned (suc z) (suc z) (p ++ (next y ∷ []))
  outs-next z y p k h l = let e = skip-0 (suc z) y [] k h ∙ sym (zero-apart z []) in aligned-more (suc z) (suc z) p (next y ∷ []) e (e, tt) l

  pub ready-out : (y x : ℕ) (p : List Cell) → kind y ≡ 0 → kind (suc x) ≡ 1 → Ready y p → Ready y (p ++ (out (suc x) ∷ []))
  ready-out y x p h k r = record {
    good = λ W U s e. good-append p (out (suc x) ∷ []) W U (r.good (suc x ∷ W) (suc x ∷ U) (same-both x W U s) (skip-1 (suc x) y W k h ∙ e ∙ sym (zero-there x U))) (s x k, tt);
    goodv = λ W V s e. goodv-append p (out (suc x) ∷ []) W V (r.goodv (suc x ∷ W) V (λ z q. skip-1 (suc x) z W k q ∙ s z q) (skip-1 (suc x) y W k h ∙ e)) tt;
    outs = λ z q. outs-out z x p (r.outs z q);
    here = let e = none-apart y 0 (suc x) (suc x) (λ q. kinds-apart (suc x) y k h (sym q)) (λ q. omega (arith, q)) in aligned-more y 0 p (out (suc x) ∷ []) e (e, tt) r.here;
    others = λ z q n. let e = skip-1 (suc x) z [] k q in alignedV-more z p (out (suc x) ∷ []) e (e, tt) (r.others z q n);
  }

  pub ready-next : (y : ℕ) (p : List Cell) → kind y ≡ 0 → Ready y p → Ready y (p ++ (next y ∷ []))
  ready-next y p h r = record {
    good = λ W U s e. good-append p (next y ∷ []) W U (r.good (y ∷ W) (0 ∷ U) (same-next y W U h s) (occurs-self y W ∙ sym (occurs-self 0 U))) (e, tt);
    goodv = λ W V s e. goodv-append p (next y ∷ []) W V (r.goodv (y ∷ W) V (λ z q. occurs-again z y W e ∙ s z q) (occurs-self y W)) tt;
    outs = λ z q. outs-next z y p q h (r.outs z q);
    here = aligned-last y 0 p (next y ∷ []) (occurs-self y []) (occurs-self 0 []) (occurs-self y [] ∙ sym (occurs-self 0 []), tt);
    others = λ z q n. let e = occurs-apart z y [] n in alignedV-more z p (next y ∷ []) e (e, tt) (r.others z q n);
  }

  pub ready-edge : (y : ℕ) (p : List Cell) → kind y ≡ 0 → Ready y p → Fresh (p ++ (edge y ∷ []))
  ready-edge y p h r = record {
    good = λ W U s e. good-append p (edge y ∷ []) W U (r.good (y ∷ W) U (same-in y W U h s) (occurs-self y W ∙ sym e)) tt;
    goodv = λ W V s. goodv-append p (edge y ∷ []) W V (r.goodv (y ∷ W) (y ∷ V) (λ z q. ap (λ j. cond (z == y) 1 j) (s z q)) (occurs-self y W)) (s y h, tt);
    outs = λ z q. outs-edge z y p q h (r.outs z q);
    all = λ z q. elim (ℕ_discrete z y) [
      | yes e ↦ let f : occurs z (y ∷ []) ≡ 1 = ap (λ j. occurs j (y ∷ [])) e ∙ occurs-self y [] in alignedV-last z p (edge y ∷ []) f f (refl, tt)
      | no n ↦ alignedV-more z p (edge y ∷ []) refl (refl, tt) (r.others z q n)
    ];
  }

  pub fresh-next : (y : ℕ) (p : List Cell) → kind y ≡ 0 → Fresh p → Ready y (p ++ (next y ∷ []))
  fresh-next y p h r = record {
    good = λ W U s e. good-append p (next y ∷ []) W U (r.good (y ∷ W) (0 ∷ U) (same-next y W U h s) (occurs-self 0 U)) (e, tt);
    goodv = λ W V s e. goodv-append p (next y ∷ []) W V (r.goodv (y ∷ W) V (λ z q. occurs-again z y W e ∙ s z q)) tt;
    outs = λ z q. outs-next z y p q h (r.outs z q);
    here = aligned-last y 0 p (next y ∷ []) (occurs-self y []) (occurs-self 0 []) (occurs-self y [] ∙ sym (occurs-self 0 []), tt);
    others = λ z q n. let e = occurs-apart z y [] n in alignedV-more z p (next y ∷ []) e (e, tt) (r.all z q);
  }

  pub fresh-edge : (y : ℕ) (p : List Cell) → kind y ≡ 0 → Fresh p → Fresh (p ++ (edge y ∷ []))
  fresh-edge y p h r = record {
    good = λ W U s e. good-append p (edge y ∷ []) W U (r.good (y ∷ W) U (same-in y W U h s) e) tt;
    goodv = λ W V s. goodv-append p (edge y ∷ []) W V (r.goodv (y ∷ W) (y ∷ V) (λ z q. ap (λ j. cond (z == y) 1 j) (s z q))) (s y h, tt);
    outs = λ z q. outs-edge z y p q h (r.outs z q);
    all = λ z q. alignedV-more z p (edge y ∷ []) refl (refl, tt) (r.all z q);
  }

  pub fresh-out : (x : ℕ) (p : List Cell) → kind (suc x) ≡ 1 → Fresh p → Fresh (p ++ (out (suc x) ∷ []))
  fresh-out x p k r = record {
    good = λ W U s e. good-append p (out (suc x) ∷ []) W U (r.good (suc x ∷ W) (suc x ∷ U) (same-both x W U s) (zero-there x U ∙ e)) (s x k, tt);
    goodv = λ W V s. goodv-append p (out (suc x) ∷ []) W V (r.goodv (suc x ∷ W) V (λ z q. skip-1 (suc x) z W k q ∙ s z q)) tt;
    outs = λ z q. outs-out z x p (r.outs z q);
    all = λ z q. let e = skip-1 (suc x) z [] k q in alignedV-more z p (out (suc x) ∷ []) e (e, tt) (r.all z q);
  }

  pub ready-start : (y : ℕ) → Ready y []
  ready-start y = record { good = λ W U s e. tt; goodv = λ W V s e. tt; outs = λ z q. tt; here = tt; others = λ z q n. tt }

  pub fresh-start : Fresh []
  fresh-start = record { good = λ W U s e. tt; goodv = λ W V s. tt; outs = λ z q. tt; all = λ z q. tt }

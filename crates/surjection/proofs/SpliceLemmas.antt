-- The entries of a term, as they are written one after the other.
use Rattle.std.proofs.{Common.{◌≡◌, ℕ, zero, suc, ◌+◌, ◌-◌, ◌<◌, ◌≤◌, ◌≢◌, ◌==◌, cond, List, [], ◌∷◌, ◌++◌, length, take, drop, get_or, refl, sym, ap, ◌∙◌, arith, subst, append_assoc, eq-eqb, ne_eqb, drop-drop, get_or-drop, length-drop, take_all}, Math.Seq.drop-cons, lemmas.List.drop_all}
use Rattle.signed_sum.specs.Names.{occurs}
use Rattle.composition_law.specs.Surjections.{piece, spliced, with_values, IsRising}
use Rattle.surjection.specs.Names.{marked, Mark, Plain}

behind : {X : Type 0} (done rest : List X) (x : X) → (done ++ x ∷ []) ++ rest ≡ done ++ (x ∷ rest)
behind done rest x = append_assoc done (x ∷ []) rest

-- one more entry of a list with its marks
pub marks-step : (f : ℕ → ℕ) (c m : Mark) (xs : List ℕ) (i : ℕ) (done all : List (ℕ × Mark)) → i < length xs → m ≡ cond (occurs (get_or xs i 0) (drop (i + 1) xs) == 1) c Plain →
    done ++ with_values f (marked c (drop i xs)) ≡ all → (done ++ (f (get_or xs i 0), m) ∷ []) ++ with_values f (marked c (drop (i + 1) xs)) ≡ all
marks-step f c m xs i done all h e w =
    let s : i + 1 ≡ suc i = omega arith in
    let d : drop i xs ≡ get_or xs i 0 ∷ drop (i + 1) xs = drop-cons xs i 0 h ∙ ap (λ j. get_or xs i 0 ∷ drop j xs) (sym s) in
    behind done (with_values f (marked c (drop (i + 1) xs))) (f (get_or xs i 0), m)
    ∙ ap (λ n. done ++ ((f (get_or xs i 0), n) ∷ with_values f (marked c (drop (i + 1) xs)))) e
    ∙ ap (λ v. done ++ with_values f (marked c v)) (sym d) ∙ w

module _ {S : Type 0} (d : ℕ × S) where
  piece-is : (g : ℕ) (es : List (ℕ × S)) (s : S) → g < length es → piece g es s ≡ take g es ++ ((get_or es g d).0, s) ∷ []
  piece-is g [] s h = absurd (omega arith)
  piece-is zero (e ∷ es) s h = refl
  piece-is (suc g) (e ∷ es) s h = ap (λ w. e ∷ w) (piece-is g es s (omega arith))

  pub piece-parts : (a b : ℕ) (es : List (ℕ × S)) (s : S) → a ≤ b → b < length es → piece (b - a) (drop a es) s ≡ take (b - a) (drop a es) ++ ((get_or es b d).0, s) ∷ []
  piece-parts a b es s h l =
      let q : a + (b - a) ≡ b = omega arith in
      piece-is (b - a) (drop a es) s (omega (arith, length-drop a es))
      ∙ ap (λ (x : ℕ × S). take (b - a) (drop a es) ++ (x.0, s) ∷ []) (get_or-drop a es (b - a) d ∙ ap (λ j. get_or es j d) q)

  spliced-other : (k a : ℕ) (rest u : List (ℕ × S)) (e : ℕ × S) (p : List ℕ) → k ≢ e.0 → spliced k a rest (e ∷ u) p ≡ e ∷ spliced k a rest u p
  spliced-other k a rest u e [] n = ap (λ b. cond b (rest ++ spliced k a rest u []) (e ∷ spliced k a rest u [])) (ne_eqb k e.0 n)
  spliced-other k a rest u e (b ∷ p) n = ap (λ t. cond t (piece (b - a) rest e.1 ++ spliced k b (drop (b - a) rest) u p) (e ∷ spliced k a rest u (b ∷ p))) (ne_eqb k e.0 n)

  next-entry : (u : List (ℕ × S)) (i : ℕ) → i < length u → drop i u ≡ get_or u i d ∷ drop (i + 1) u
  next-entry u i h = let s : i + 1 ≡ suc i = omega arith in drop-cons u i d h ∙ ap (λ j. get_or u i d ∷ drop j u) (sym s)

  next-place : (p : List ℕ) (j : ℕ) → j < length p → drop j p ≡ get_or p j 0 ∷ drop (j + 1) p
  next-place p j h = let s : j + 1 ≡ suc j = omega arith in drop-cons p j 0 h ∙ ap (λ i. get_or p j 0 ∷ drop i p) (sym s)

  -- what is written, and what is to come
  module _ (k : ℕ) (inner outer : List (ℕ × S)) (cut : List ℕ) (a i j : ℕ) (done new all : List (ℕ × S)) (h : i < length outer)
      (w : done ++ spliced k a (drop a inner) (drop i outer) (drop j cut) ≡ all) where
    pub written-other : (get_or outer i d).0 ≢ k → new ≡ done ++ get_or outer i d ∷ [] → new ++ spliced k a (drop a inner) (drop (i + 1) outer) (drop j cut) ≡ all
    written-other n e =
        ap (λ r. r ++ spliced k a (drop a inner) (drop (i + 1) outer) (drop j cut)) e
        ∙ behind done (spliced k a (drop a inner) (drop (i + 1) outer) (drop j cut)) (get_or outer i d)
        ∙ ap (λ r. done ++ r) (sym (spliced-other k a (drop a inner) (drop (i + 1) outer) (get_or outer i d) (drop j cut) (λ q. n (sym q))))
        ∙ ap (λ u. done ++ spliced k a (drop a inner) u (drop j cut)) (sym (next-entry outer i h)) ∙ w

    pub written-piece : (get_or outer i d).0 ≡ k → j < length cut → a ≤ get_or cut j 0 → new ≡ done ++ piece (get_or cut j 0 - a) (drop a inner) (get_or outer i d).1
        → new ++ spliced k (get_or cut j 0) (drop (get_or cut j 0) inner) (drop (i + 1) outer) (drop (j + 1) cut) ≡ all
    written-piece s l b e =
        let c = get_or cut j 0 in
        let u = drop (i + 1) outer in
        let p = drop (j + 1) cut in
        let x = get_or outer i d in
        let q : a + (get_or cut j 0 - a) ≡ get_or cut j 0 = omega arith in
        let g : drop (get_or cut j 0 - a) (drop a inner) ≡ drop (get_or cut j 0) inner = drop-drop (get_or cut j 0 - a) a inner ∙ ap (λ m. drop m inner) q in
        let one : spliced k a (drop a inner) (x ∷ u) (c ∷ p) ≡ piece (c - a) (drop a inner) x.1 ++ spliced k c (drop (c - a) (drop a inner)) u p
        = ap (λ t. cond t (piece (c - a) (drop a inner) x.1 ++ spliced k c (drop (c - a) (drop a inner)) u p) (x ∷ spliced k a (drop a inner) u (c ∷ p))) (eq-eqb k x.0 (sym s)) in
        ap (λ r. r ++ spliced k c (drop c inner) u p) e
        ∙ append_assoc done (piece (c - a) (drop a inner) x.1) (spliced k c (drop c inner) u p)
        ∙ ap (λ r. done ++ (piece (c - a) (drop a inner) x.1 ++ spliced k c r u p)) (sym g)
        ∙ ap (λ r. done ++ r) (sym one)
        ∙ (λ t. done ++ spliced k a (drop a inner) (sym (next-entry outer i h) t) (sym (next-place cut j l) t)) ∙ w

    pub written-last : (get_or outer i d).0 ≡ k → length cut ≤ j → new ≡ done ++ take (length inner - a) (drop a inner) → new ++ spliced k a (drop a inner) (drop (i + 1) outer) (drop j cut) ≡ all
    written-last s l e =
        let u = drop (i + 1) outer in
        let x = get_or outer i d in
        let z : drop j cut ≡ [] = drop_all j cut l in
        let one : spliced k a (drop a inner) (x ∷ u) [] ≡ drop a inner ++ spliced k a (drop a inner) u []
        = ap (λ t. cond t (drop a inner ++ spliced k a (drop a inner) u []) (x ∷ spliced k a (drop a inner) u [])) (eq-eqb k x.0 (sym s)) in
        ap (λ r. r ++ spliced k a (drop a inner) u (drop j cut)) (e ∙ ap (λ r. done ++ r) (take_all (length inner - a) (drop a inner) (omega (arith, length-drop a inner))))
        ∙ append_assoc done (drop a inner) (spliced k a (drop a inner) u (drop j cut))
        ∙ ap (λ p. done ++ (drop a inner ++ spliced k a (drop a inner) u p)) z
        ∙ ap (λ r. done ++ r) (sym one)
        ∙ (λ t. done ++ spliced k a (drop a inner) (sym (next-entry outer i h) t) (sym z t)) ∙ w

-- the places of a cut that are to come
pub next-rising : (p : List ℕ) (j a n : ℕ) → j < length p → IsRising a (drop j p) n → (a ≤ get_or p j 0) × IsRising (get_or p j 0) (drop (j + 1) p) n
next-rising p j a n h r =
    let e : drop j p ≡ get_or p j 0 ∷ drop (j + 1) p = drop-cons p j 0 h ∙ (let s : j + 1 ≡ suc j = omega arith in ap (λ i. get_or p j 0 ∷ drop i p) (sym s)) in
    subst (λ (q : List ℕ). IsRising a q n) e r

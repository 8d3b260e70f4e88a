-- The sends of a map as pairs, the last first.
use Rattle.std.proofs.{Common.{◌≡◌, ℕ, ◌+◌, ◌<◌, ◌==◌, Bool, true, false, cond, inl, inr, List, [], ◌∷◌, ◌++◌, length, get_or, take, refl, sym, ap, ◌∙◌, fold, if◌then◌else◌, eq-eqb, eqb-true}, lemmas.Bool.cases_Bool, lemmas.List.take_more}
use Rattle.complex_file.specs.{declared.block.Sent.Sent, Names.image}
use Rattle.complex_index.specs.Names.{image_of}

-- the pairs of the sends, the last first
abbrev pub turned : List Sent → List (ℕ × ℕ)
turned [] = []
turned (s ∷ ss) = turned ss ++ (s.from, s.to) ∷ []

turned-push : (ss : List Sent) (s : Sent) → turned (ss ++ s ∷ []) ≡ (s.from, s.to) ∷ turned ss
turned-push [] s = refl
turned-push (t ∷ ss) s = ap (λ (es : List (ℕ × ℕ)). es ++ (t.from, t.to) ∷ []) (turned-push ss s)

pub turned-more : (ss : List Sent) (i : ℕ) (d : Sent) (old new : List (ℕ × ℕ)) → i < length ss → new ≡ ((get_or ss i d).from, (get_or ss i d).to) ∷ old → old ≡ turned (take i ss) → new ≡ turned (take (i + 1) ss)
turned-more ss i d old new b e h =
    e ∙ ap (λ (es : List (ℕ × ℕ)). ((get_or ss i d).from, (get_or ss i d).to) ∷ es) h ∙ sym (turned-push (take i ss) (get_or ss i d)) ∙ ap turned (sym (take_more ss i d b))

image-push : (es : List (ℕ × ℕ)) (e : ℕ × ℕ) (v w : ℕ) → fold (λ u s. cond (s.0 == v) s.1 u) w (es ++ e ∷ []) ≡ cond (e.0 == v) e.1 (fold (λ u s. cond (s.0 == v) s.1 u) w es)
image-push [] e v w = refl
image-push (x ∷ es) e v w = image-push es e v (cond (x.0 == v) x.1 w)

turned-test : (a b : ℕ) → (a == b) ≡ (b == a)
turned-test a b = elim (cases_Bool (a == b)) [
  | inl e ↦ e ∙ sym (eq-eqb b a (sym (eqb-true a b e)))
  | inr e ↦ elim (cases_Bool (b == a)) [ inl f ↦ absurd (no (sym e ∙ eq-eqb a b (sym (eqb-true b a f)))) | inr f ↦ e ∙ sym f ]
]
  where
    no : false ≡ true → ⊥
    no q = cc

-- the last pair that sends a vertex is that of its first send
pub image-turned : (ss : List Sent) (v : ℕ) → image_of (turned ss) v ≡ image ss v
image-turned [] v = refl
image-turned (s ∷ ss) v =
    image-push (turned ss) (s.from, s.to) v 0 ∙ (λ i. cond (turned-test s.from v i) s.to (image-turned ss v i)) ∙ same (v == s.from) s.to (image ss v)
  where
    same : (b : Bool) (x y : ℕ) → cond b x y ≡ (if b then x else y)
    same true x y = refl
    same false x y = refl

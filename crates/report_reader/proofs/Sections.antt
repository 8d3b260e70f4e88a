-- Where a section ends, and what an item of it makes.
use Rattle.std.proofs.Common.{◌≡◌, ◌∙◌, ℕ, zero, suc, ◌+◌, ◌-◌, ◌<◌, List, [], ◌∷◌, ◌++◌, length, length-append, ap, refl, sym, arith, Some, None, Ok, Err, IsErr, IsErrAnd, Result}
use Rattle.report.specs.declared.complex.DegreePart.{DegreePart}
use Rattle.report_text_law.specs.{Names.{Chain, move}, declared.line.Line.TheVariants.{Class as class_line, Degree as degree_line}, declared.state.Finding.Finding, declared.state.Graded.Graded, declared.state.State.TheVariants.InComplex, declared.line.Line.Line, declared.state.ComplexStage.TheVariants.Degree}
use Rattle.report_reader.{specs.Names.{AreItems, Follows, IsItem, Place, Reads, counted, reading, belows, classes, within_classes, within_degrees, ReadRefused}, proofs.Steps.{at, failed, handed_on, one_less, passed, pointwise, progress, refusal}}

-- behind a class no more of the cochains below is taken
behind_class : (f : Finding) (g : Graded) (k : ℕ) (bs : List Chain) (c : Chain) (cs : List Chain) (l : Line) → move (InComplex f (Degree g k bs (c ∷ cs))) l ≡ within_classes f g k bs (c ∷ cs) l
behind_class f g zero bs c cs (degree_line n h) = refl
behind_class f g zero bs c cs _ = refl
behind_class f g (suc k) bs c cs (class_line ts) = refl
behind_class f g (suc k) bs c cs _ = refl

behind_more : (f : Finding) (g : Graded) (k : ℕ) (bs : List Chain) (cs : List Chain) (ts : Chain) (l : Line) → move (InComplex f (Degree g k bs (cs ++ ts ∷ []))) l ≡ within_classes f g k bs (cs ++ ts ∷ []) l
behind_more f g k bs [] ts l = behind_class f g k bs ts [] l
behind_more f g k bs (c ∷ cs) ts l = behind_class f g k bs c (cs ++ ts ∷ []) l

pub class_read : (prime rank count : ℕ) (old mid new : Place) (ts : Chain) → count < rank → old.line ≡ Some (class_line ts) → mid ≡ at old None → Follows prime mid new → IsItem (classes prime rank) (counted count) old new (Ok (Some ts))
class_read prime rank count old mid new ts lt was is f = record {
  reads = λ i xs fits n.
      let k = rank - (length xs + 1) in
      let here : rank - length xs ≡ suc k = omega (arith, lt, n) in
      let there : rank - length (xs ++ ts ∷ []) ≡ k = omega (arith, length-append xs (ts ∷ [])) in
      ap (λ (m : ℕ). reading (within_classes i.0 i.1 m i.2 xs) old) here
      ∙ passed (within_classes i.0 i.1 (suc k) i.2 xs) old (class_line ts) (InComplex i.0 (Degree i.1 k i.2 (xs ++ ts ∷ []))) prime mid new was refl (record { at_prime = fits; unfinished = refl }) is f
      ∙ pointwise (move (InComplex i.0 (Degree i.1 k i.2 (xs ++ ts ∷ [])))) (within_classes i.0 i.1 k i.2 (xs ++ ts ∷ [])) new (behind_more i.0 i.1 k i.2 xs ts)
      ∙ ap (λ (m : ℕ). reading (within_classes i.0 i.1 m i.2 (xs ++ ts ∷ [])) new) (sym there);
  less = one_less prime old mid new (class_line ts) was is f;
}

-- ---- a degree

pub degree_refused_below : (prime rank : ℕ) (old mid new : Place) (part : Result (List Chain) ReadRefused) (e : ReadRefused) (whole : Result DegreePart ReadRefused) → AreItems (belows prime) old mid part → part ≡ Err e → IsErr whole × IsErrAnd whole (λ d. d ≡ e)
    → (f : Finding) (g : Graded) → f.prime ≡ prime → Reads (move (InComplex f (Degree g rank [] []))) (λ d. within_degrees f g.block (g.degrees ++ d ∷ [])) old new whole
degree_refused_below prime rank old mid new part e whole b err h f g fits =
    let s = belows prime in
    handed_on (s.within (f, g, rank) []) (λ (d : DegreePart). within_degrees f g.block (g.degrees ++ d ∷ [])) old new whole e h (refusal (s.within (f, g, rank) []) (s.behind (f, g, rank)) old mid part e (b.reads (f, g, rank) fits) err)

module _ (prime rank : ℕ) (old mid new : Place) (below : Result (List Chain) ReadRefused) (bs : List Chain) (b : AreItems (belows prime) old mid below) (got : below ≡ Ok bs) (part : Result (List Chain) ReadRefused) (c : AreItems (classes prime rank) mid new part) (f : Finding) (g : Graded) (fits : f.prime ≡ prime) where
  to_classes : reading (move (InComplex f (Degree g rank [] []))) old ≡ reading ((classes prime rank).within (f, g, bs) []) mid
  to_classes =
      let s = belows prime in
      let all : rank ≡ rank - 0 = omega arith in
      progress (s.within (f, g, rank) []) (s.behind (f, g, rank)) old mid below bs (b.reads (f, g, rank) fits) got ∙ ap (λ (m : ℕ). reading (within_classes f g m bs []) mid) all

  pub degree_refused_classes : (e : ReadRefused) (end : Place) (whole : Result DegreePart ReadRefused) → part ≡ Err e → IsErr whole × IsErrAnd whole (λ d. d ≡ e)
      → Reads (move (InComplex f (Degree g rank [] []))) (λ d. within_degrees f g.block (g.degrees ++ d ∷ [])) old end whole
  degree_refused_classes e end whole err h =
      let s = classes prime rank in
      handed_on (move (InComplex f (Degree g rank [] []))) (λ (d : DegreePart). within_degrees f g.block (g.degrees ++ d ∷ [])) old end whole e h
      (failed (move (InComplex f (Degree g rank [] []))) (s.within (f, g, bs) []) old mid e to_classes (refusal (s.within (f, g, bs) []) (s.behind (f, g, bs)) mid new part e (c.reads (f, g, bs) fits) err))

  pub degree_whole : (cs : List Chain) → part ≡ Ok cs → reading (move (InComplex f (Degree g rank [] []))) old ≡ reading (within_degrees f g.block (g.degrees ++ record { below = bs; classes = cs } ∷ [])) new
  degree_whole cs ok = let s = classes prime rank in to_classes ∙ progress (s.within (f, g, bs) []) (s.behind (f, g, bs)) mid new part cs (c.reads (f, g, bs) fits) ok

-- Walks one after the other.
use Rattle.std.proofs.Common.{List, [], ap, append-nil, append_assoc, arith, refl, sym, ℕ, ◌*◌, ◌++◌, ◌+◌, ◌∙◌, ◌∷◌, ◌≡◌}
use Rattle.composition_law.proofs.{Cells.{Aligned, AlignedV, Good, GoodV}, Walks.{Cell, edge, ends, entry, expo, expo_in, next, out, passed, values}}
use Rattle.signed_sum.{proofs.Names.{occurs-append, occurs-later}, specs.Names.{if_zero, occurs}}
use Rattle.surjection_law.specs.Names.{caesura_count}

pub values-append : (p c : List Cell) → values (p ++ c) ≡ values p ++ values c
values-append [] c = refl
values-append (d ∷ p) c = ap (λ r. entry d ∷ r) (values-append p c)

pub ends-append : (p c : List Cell) → ends (p ++ c) ≡ ends p ++ ends c
ends-append [] c = refl
ends-append (out x ∷ p) c = ap (λ r. x ∷ r) (ends-append p c)
ends-append (edge x ∷ p) c = ends-append p c
ends-append (next x ∷ p) c = ap (λ r. 0 ∷ r) (ends-append p c)

pub passed-append : (p c : List Cell) → passed (p ++ c) ≡ passed p ++ passed c
passed-append [] c = refl
passed-append (out x ∷ p) c = passed-append p c
passed-append (edge x ∷ p) c = ap (λ r. x ∷ r) (passed-append p c)
passed-append (next x ∷ p) c = passed-append p c

values-more : (p c : List Cell) (W : List ℕ) → values (p ++ c) ++ W ≡ values p ++ (values c ++ W)
values-more p c W = ap (λ r. r ++ W) (values-append p c) ∙ append_assoc (values p) (values c) W

ends-more : (p c : List Cell) (U : List ℕ) → ends (p ++ c) ++ U ≡ ends p ++ (ends c ++ U)
ends-more p c U = ap (λ r. r ++ U) (ends-append p c) ∙ append_assoc (ends p) (ends c) U

passed-more : (p c : List Cell) (V : List ℕ) → passed (p ++ c) ++ V ≡ passed p ++ (passed c ++ V)
passed-more p c V = ap (λ r. r ++ V) (passed-append p c) ∙ append_assoc (passed p) (passed c) V

pub expo-append : (p c : List Cell) (W U : List ℕ) → expo_in (p ++ c) W U ≡ expo_in p (values c ++ W) (ends c ++ U) + expo_in c W U
expo-append [] c W U = omega arith
expo-append (out x ∷ p) c W U = expo-append p c W U
expo-append (next x ∷ p) c W U = expo-append p c W U
expo-append (edge x ∷ p) c W U =
    let ih = expo-append p c W U in
    let e : occurs x (values (p ++ c) ++ W) * caesura_count (ends (p ++ c) ++ U) ≡ occurs x (values p ++ (values c ++ W)) * caesura_count (ends p ++ (ends c ++ U)) =
    (λ i. occurs x (values-more p c W i) * caesura_count (ends-more p c U i)) in
    omega arith

pub expo-split : (p c : List Cell) → expo (p ++ c) ≡ expo_in p (values c) (ends c) + expo c
expo-split p c = expo-append p c [] [] ∙ (λ i. expo_in p (append-nil (values c) i) (append-nil (ends c) i) + expo c)

pub good-append : (p c : List Cell) (W U : List ℕ) → Good p (values c ++ W) (ends c ++ U) → Good c W U → Good (p ++ c) W U
good-append [] c W U g h = h
good-append (out x ∷ p) c W U g h = (ap (occurs x) (values-more p c W) ∙ g.0 ∙ sym (ap (occurs x) (ends-more p c U)), good-append p c W U g.1 h)
good-append (edge x ∷ p) c W U g h = good-append p c W U g h
good-append (next x ∷ p) c W U g h = (ap (occurs x) (values-more p c W) ∙ g.0 ∙ sym (ap (occurs 0) (ends-more p c U)), good-append p c W U g.1 h)

pub goodv-append : (p c : List Cell) (W V : List ℕ) → GoodV p (values c ++ W) (passed c ++ V) → GoodV c W V → GoodV (p ++ c) W V
goodv-append [] c W V g h = h
goodv-append (out x ∷ p) c W V g h = goodv-append p c W V g h
goodv-append (edge x ∷ p) c W V g h = (ap (occurs x) (values-more p c W) ∙ g.0 ∙ sym (ap (occurs x) (passed-more p c V)), goodv-append p c W V g.1 h)
goodv-append (next x ∷ p) c W V g h = goodv-append p c W V g h

has-pair : (v a : ℕ) (A B C D : List ℕ) → occurs v A ≡ occurs a C → occurs v B ≡ occurs a D → occurs v (A ++ B) ≡ occurs a (C ++ D)
has-pair v a A B C D h k = occurs-append v A B ∙ (λ i. if_zero (h i) (k i) 1) ∙ sym (occurs-append a C D)

pub aligned-more : (v a : ℕ) (p c : List Cell) → occurs v (values c) ≡ occurs a (ends c) → Aligned v a c → Aligned v a p → Aligned v a (p ++ c)
aligned-more v a [] c e k h = k
aligned-more v a (d ∷ p) c e k h = (
  ap (occurs v) (values-append (d ∷ p) c) ∙ has-pair v a (values (d ∷ p)) (values c) (ends (d ∷ p)) (ends c) h.0 e ∙ sym (ap (occurs a) (ends-append (d ∷ p) c)),
  aligned-more v a p c e k h.1,
)

pub aligned-last : (v a : ℕ) (p c : List Cell) → occurs v (values c) ≡ 1 → occurs a (ends c) ≡ 1 → Aligned v a c → Aligned v a (p ++ c)
aligned-last v a [] c e f k = k
aligned-last v a (d ∷ p) c e f k = (
  ap (occurs v) (values-append (d ∷ p) c) ∙ occurs-later v (values (d ∷ p)) (values c) e ∙ sym (ap (occurs a) (ends-append (d ∷ p) c) ∙ occurs-later a (ends (d ∷ p)) (ends c) f),
  aligned-last v a p c e f k,
)

pub alignedV-more : (y : ℕ) (p c : List Cell) → occurs y (values c) ≡ occurs y (passed c) → AlignedV y c → AlignedV y p → AlignedV y (p ++ c)
alignedV-more y [] c e k h = k
alignedV-more y (d ∷ p) c e k h = (
  ap (occurs y) (values-append (d ∷ p) c) ∙ has-pair y y (values (d ∷ p)) (values c) (passed (d ∷ p)) (passed c) h.0 e ∙ sym (ap (occurs y) (passed-append (d ∷ p) c)),
  alignedV-more y p c e k h.1,
)

pub alignedV-last : (y : ℕ) (p c : List Cell) → occurs y (values c) ≡ 1 → occurs y (passed c) ≡ 1 → AlignedV y c → AlignedV y (p ++ c)
alignedV-last y [] c e f k = k
alignedV-last y (d ∷ p) c e f k = (
  ap (occurs y) (values-append (d ∷ p) c) ∙ occurs-later y (values (d ∷ p)) (values c) e ∙ sym (ap (occurs y) (passed-append (d ∷ p) c) ∙ occurs-later y (passed (d ∷ p)) (passed c) f),
  alignedV-last y p c e f k,
)

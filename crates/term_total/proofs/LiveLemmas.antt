-- Lists of live blocks and lines, one part after the other.
use Rattle.std.{proofs.Common.{◌≡◌, ℕ, zero, suc, ◌+◌, Bool, true, false, cond, List, [], ◌∷◌, ◌++◌, map, arith, sym, ap, ◌∙◌, append_assoc, flat_map, append-nil}, specs.List.filter, proofs.lemmas.Grind.flat_map-append, proofs.lemmas.List.map-append, proofs.lemmas.List.Elements.filter-append}
use Rattle.signed_sum.specs.Names.{numbers_from}
use Rattle.report.specs.declared.plan.{Block.Block, Op.Op, Op.TheVariants.{Square, Power, BocksteinPower}}
use Rattle.report_law.specs.Names.{block_on, is_defined}
use Rattle.term_total.specs.Names.{is_live_block, live_blocks, operations_with}

numbers-more : (a k : ℕ) → numbers_from a (k + 1) ≡ numbers_from a k ++ (a + k) ∷ []
numbers-more a zero = (let e : a ≡ a + 0 = omega arith in ap (λ n. n ∷ []) e)
numbers-more a (suc k) =
    let e : suc k + 1 ≡ suc (k + 1) = omega arith in
    let f : suc a + k ≡ a + suc k = omega arith in
    ap (numbers_from a) e ∙ ap (λ ns. a ∷ ns) (numbers-more (suc a) k ∙ ap (λ n. numbers_from (suc a) k ++ n ∷ []) f)

-- the parts of k numbers from s on, and the next part
pub parts-more : {X : Type 0} (test : X → Bool) (g : ℕ → List X) (s k m : ℕ) (old found next : List X) → found ≡ old ++ filter test (flat_map g (numbers_from s k)) → m ≡ s + k
    → next ≡ found ++ filter test (g m) → next ≡ old ++ filter test (flat_map g (numbers_from s (k + 1)))
parts-more test g s k m old found next h e f =
    f ∙ ap (λ xs. xs ++ filter test (g m)) h ∙ append_assoc old (filter test (flat_map g (numbers_from s k))) (filter test (g m))
    ∙ ap (λ xs. old ++ xs)
    (sym (filter-append test (flat_map g (numbers_from s k)) (g m))
    ∙ ap (filter test) (ap (λ xs. flat_map g (numbers_from s k) ++ xs) (sym (append-nil (g m)) ∙ ap (λ n. g n ++ []) e) ∙ sym (flat_map-append g (numbers_from s k) ((s + k) ∷ [])) ∙ ap (flat_map g) (sym (numbers-more s k))))

-- the items of k numbers from s on, and the next item, if it passes
pub items-more : {X : Type 0} (test : X → Bool) (g : ℕ → X) (s k m : ℕ) (old found next : List X) → found ≡ old ++ filter test (map g (numbers_from s k)) → m ≡ s + k
    → next ≡ found ++ filter test (g m ∷ []) → next ≡ old ++ filter test (map g (numbers_from s (k + 1)))
items-more test g s k m old found next h e f =
    f ∙ ap (λ xs. xs ++ filter test (g m ∷ [])) h ∙ append_assoc old (filter test (map g (numbers_from s k))) (filter test (g m ∷ []))
    ∙ ap (λ xs. old ++ xs)
    (sym (filter-append test (map g (numbers_from s k)) (g m ∷ []))
    ∙ ap (filter test) (ap (λ n. map g (numbers_from s k) ++ g n ∷ []) e ∙ sym (map-append g (numbers_from s k) ((s + k) ∷ [])) ∙ ap (map g) (sym (numbers-more s k))))

pub passes : {X : Type 0} (test : X → Bool) (x : X) (found next : List X) → test x ≡ true → next ≡ found ++ x ∷ [] → next ≡ found ++ filter test (x ∷ [])
passes test x found next t e = e ∙ ap (λ b. found ++ cond b (x ∷ []) []) (sym t)

pub fails : {X : Type 0} (test : X → Bool) (x : X) (found : List X) → test x ≡ false → found ≡ found ++ filter test (x ∷ [])
fails test x found t = sym (append-nil found) ∙ ap (λ b. found ++ cond b (x ∷ []) []) (sym t)

pub none-yet : {X : Type 0} (found : List X) → found ≡ found ++ []
none-yet found = sym (append-nil found)

-- ---- blocks

blocks-append : (p : ℕ) (ranks : List ℕ) (q : ℕ) (xs ys : List Op) → live_blocks p ranks q (xs ++ ys) ≡ live_blocks p ranks q xs ++ live_blocks p ranks q ys
blocks-append p ranks q xs ys =
    ap (λ os. filter (is_live_block ranks) (map (block_on p q) os)) (filter-append (is_defined p q) xs ys)
    ∙ ap (filter (is_live_block ranks)) (map-append (block_on p q) (filter (is_defined p q) xs) (filter (is_defined p q) ys))
    ∙ filter-append (is_live_block ranks) (map (block_on p q) (filter (is_defined p q) xs)) (map (block_on p q) (filter (is_defined p q) ys))

-- the blocks of one index more
pub blocks-more : (p : ℕ) (ranks : List ℕ) (q k : ℕ) (old found one two three : List Block) → found ≡ old ++ live_blocks p ranks q (flat_map operations_with (numbers_from 0 k))
    → one ≡ found ++ live_blocks p ranks q (Square k ∷ []) → two ≡ one ++ live_blocks p ranks q (Power k ∷ []) → three ≡ two ++ live_blocks p ranks q (BocksteinPower k ∷ [])
    → three ≡ old ++ live_blocks p ranks q (flat_map operations_with (numbers_from 0 (k + 1)))
blocks-more p ranks q k old found one two three h e f g =
    let L : List Op → List Block = live_blocks p ranks q in
    let all : List Op = flat_map operations_with (numbers_from 0 k) in
    let next : 0 + k ≡ k = omega arith in
    let more : flat_map operations_with (numbers_from 0 (k + 1)) ≡ all ++ operations_with k =
    ap (flat_map operations_with) (numbers-more 0 k) ∙ flat_map-append operations_with (numbers_from 0 k) ((0 + k) ∷ []) ∙ ap (λ n. all ++ operations_with n) next in
    let last : L (operations_with k) ≡ (L (Square k ∷ []) ++ L (Power k ∷ [])) ++ L (BocksteinPower k ∷ []) =
    blocks-append p ranks q (Square k ∷ Power k ∷ []) (BocksteinPower k ∷ []) ∙ ap (λ xs. xs ++ L (BocksteinPower k ∷ [])) (blocks-append p ranks q (Square k ∷ []) (Power k ∷ [])) in
    g ∙ ap (λ xs. xs ++ L (BocksteinPower k ∷ [])) (f ∙ ap (λ xs. xs ++ L (Power k ∷ [])) (e ∙ ap (λ xs. xs ++ L (Square k ∷ [])) h))
    ∙ regroup old (L all) (L (Square k ∷ [])) (L (Power k ∷ [])) (L (BocksteinPower k ∷ []))
    ∙ ap (λ xs. old ++ (L all ++ xs)) (sym last) ∙ ap (λ xs. old ++ xs) (sym (blocks-append p ranks q all (operations_with k)) ∙ ap L (sym more))
  where
    regroup : (a b c d e : List Block) → (((a ++ b) ++ c) ++ d) ++ e ≡ a ++ (b ++ ((c ++ d) ++ e))
    regroup a b c d e = simp append_assoc

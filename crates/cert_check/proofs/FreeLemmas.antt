-- Lines of which a condition asks nothing.
use Rattle.std.proofs.Common.{◌≡◌, ℕ, zero, suc, ◌+◌, ◌<◌, ◌≤◌, refl, arith, lit<, List, [], ◌∷◌, ◌++◌}
use Rattle.linear_law.{specs.Names.Each, proofs.Names.each_append}
use Rattle.complex_file.specs.declared.block.Sent.{Sent}
use Rattle.report.specs.declared.{columns.CartanAnswer.CartanAnswer, columns.CartanAnswer.TheVariants.{No, Yes}, columns.Column.Column, complex.ComplexPart.ComplexPart, job.Report.Report, map.InducedPart.InducedPart, map.MapPart.MapPart}
use Rattle.simplicial_law.specs.Names.{Chain}
use Rattle.certificate_law.specs.Names.{Certifies, Holds, Asks, Stated, after, answer_stated, behind, below_stands, cartan_stated, class_stands, complex_ends, complex_opens, complex_stated, degree_stated, facet_stands, finish, heading, induced_column, induced_opens, induced_stated, map_between, map_ends, map_opens, numbered, operation_column, operation_stated, prime_is, product_column, product_stated, send_stands, stated, with_stands}

each_numbered : {X : Type 0} (P : Stated → Type 0) (line : ℕ → X → List Stated) (k : ℕ) (xs : List X) → ((k : ℕ) (x : X) → Each P (line k x)) → Each P (numbered line k xs)
each_numbered P line k [] h = tt
each_numbered P line k (x ∷ xs) h = each_append P (line k x) (numbered line (k + 1) xs) (h k x) (each_numbered P line (k + 1) xs h)

each_behind : {X : Type 0} (P : Stated → Type 0) (line : List X → X → Stated) (b xs : List X) → ((b : List X) (x : X) → P (line b x)) → Each P (behind (λ b x. line b x ∷ []) b xs)
each_behind P line b [] h = tt
each_behind P line b (x ∷ xs) h = (h b x, each_behind P line (b ++ x ∷ []) xs h)

each_after : {X : Type 0} (P : Stated → Type 0) (line : List X → X → Stated) (b xs : List X) → ((b : List X) (x : X) → P (line b x)) → Each P (after (λ b x. line b x ∷ []) b xs)
each_after P line b [] h = tt
each_after P line b (x ∷ xs) h = (h b x, each_after P line (x ∷ b) xs h)

answer_free : (p : ℕ) (answer : CartanAnswer) → Asks p 7 (answer_stated answer)
answer_free p (Yes primitive) = tt
answer_free p (No value cycle) = tt

-- condition 7 asks nothing of a complex
pub complex_free : (p : ℕ) (e : List ComplexPart) (c : ComplexPart) → Each (Asks p 7) (complex_stated e c)
complex_free p e c =
    let P = Asks p 7 in
    let fs = behind (λ (fs : List (List ℕ)) f. facet_stands fs f ∷ []) [] c.facets in
    let ds = numbered (degree_stated c) 0 c.degrees in
    let xs = numbered (product_stated c) 0 c.products in
    let os = numbered (operation_stated c) 0 c.operations in
    let cs = numbered (cartan_stated c) 0 c.cartans in
    let es : List Stated = complex_ends c ∷ [] in (
      tt,
      each_append P fs (ds ++ (xs ++ (os ++ (cs ++ es)))) (each_behind P facet_stands [] c.facets (λ b f. tt))
          (each_append P ds (xs ++ (os ++ (cs ++ es)))
          (each_numbered P (degree_stated c) 0 c.degrees (λ n d. (
            tt,
            each_append P (after (λ b y. below_stands c n b y ∷ []) [] d.below) (after (λ b z. class_stands c n b z ∷ []) [] d.classes)
                (each_after P (below_stands c n) [] d.below (λ b y. tt)) (each_after P (class_stands c n) [] d.classes (λ b z. tt)),
          )))
          (each_append P xs (os ++ (cs ++ es)) (each_numbered P (product_stated c) 0 c.products (λ k x. (tt, each_numbered P (λ j y. product_column c x j y ∷ with_stands y.primitive ∷ []) 0 x.columns (λ j y. (tt, (tt, tt))))))
          (each_append P os (cs ++ es) (each_numbered P (operation_stated c) 0 c.operations (λ k x. (tt, each_numbered P (λ j y. operation_column c x j y ∷ with_stands y.primitive ∷ []) 0 x.columns (λ j y. (tt, (tt, tt))))))
          (each_append P cs es (each_numbered P (cartan_stated c) 0 c.cartans (λ k x. (tt, (answer_free p x.answer, tt)))) (tt, tt))))),
    )

-- Nothing is asked of the lines of maps.
pub record AreMapsFree (P : Stated → Type 0) : Type 0 where
  pub opens : (cs : List ComplexPart) (before : List MapPart) (m : MapPart) → P (map_opens cs before m)
  pub send : (from to : ComplexPart) (before : List Sent) (s : Sent) → P (send_stands from to before s)
  pub block : (from to : ComplexPart) (k : ℕ) (x : InducedPart) → P (induced_opens from to k x)
  pub column : (from to : ComplexPart) (m : MapPart) (x : InducedPart) (k : ℕ) (y : Column) → P (induced_column from to m x k y)
  pub primitive : (chain : Chain) → P (with_stands chain)
  pub ends : (from to : ComplexPart) (m : MapPart) → P (map_ends from to m)

pub map_free : (P : Stated → Type 0) → AreMapsFree P → (from to : ComplexPart) (cs : List ComplexPart) (before : List MapPart) (m : MapPart) → Each P (map_between from to cs before m)
map_free P h from to cs before m =
    let ss = behind (λ (ss : List Sent) s. send_stands from to ss s ∷ []) [] m.sends in
    let is = numbered (induced_stated from to m) 0 m.induced in
    let es : List Stated = map_ends from to m ∷ [] in (
      h.opens cs before m,
      each_append P ss (is ++ es) (each_behind P (send_stands from to) [] m.sends (h.send from to))
          (each_append P is es (each_numbered P (induced_stated from to m) 0 m.induced (λ k x. (h.block from to k x, each_numbered P (λ j y. induced_column from to m x j y ∷ with_stands y.primitive ∷ []) 0 x.columns (λ j y. (h.column from to m x j y, (h.primitive y.primitive, tt))))))
          (h.ends from to m, tt)),
    )

-- the conditions from 2 to 8 but 5 and 7 ask nothing of maps, and those but 5 nothing of the last line
pub maps_free : (p k : ℕ) → 2 ≤ k → (k ≡ 5 → ⊥) → (k ≡ 7 → ⊥) → AreMapsFree (Asks p k)
maps_free p zero a b c = absurd (omega arith)
maps_free p (suc zero) a b c = absurd (omega arith)
maps_free p (suc (suc zero)) a b c = record { opens = λ cs e m. tt; send = λ f t e s. tt; block = λ f t k x. tt; column = λ f t m x k y. tt; primitive = λ z. tt; ends = λ f t m. tt }
maps_free p (suc (suc (suc zero))) a b c = record { opens = λ cs e m. tt; send = λ f t e s. tt; block = λ f t k x. tt; column = λ f t m x k y. tt; primitive = λ z. tt; ends = λ f t m. tt }
maps_free p (suc (suc (suc (suc zero)))) a b c = record { opens = λ cs e m. tt; send = λ f t e s. tt; block = λ f t k x. tt; column = λ f t m x k y. tt; primitive = λ z. tt; ends = λ f t m. tt }
maps_free p (suc (suc (suc (suc (suc zero))))) a b c = absurd (b refl)
maps_free p (suc (suc (suc (suc (suc (suc zero)))))) a b c = record { opens = λ cs e m. tt; send = λ f t e s. tt; block = λ f t k x. tt; column = λ f t m x k y. tt; primitive = λ z. tt; ends = λ f t m. tt }
maps_free p (suc (suc (suc (suc (suc (suc (suc zero))))))) a b c = absurd (c refl)
maps_free p (suc (suc (suc (suc (suc (suc (suc (suc zero)))))))) a b c = record { opens = λ cs e m. tt; send = λ f t e s. tt; block = λ f t k x. tt; column = λ f t m x k y. tt; primitive = λ z. tt; ends = λ f t m. tt }
maps_free p (suc (suc (suc (suc (suc (suc (suc (suc (suc k))))))))) a b c = record { opens = λ cs e m. tt; send = λ f t e s. tt; block = λ f t k x. tt; column = λ f t m x k y. tt; primitive = λ z. tt; ends = λ f t m. tt }

-- what the conditions from 2 on ask of the first lines, of the first line of a complex, and, but the fifth, of the last line
pub record AreOuterFree (p k : ℕ) : Type 0 where
  pub head : Asks p k heading
  pub prime : (q : ℕ) → Asks p k (prime_is q)
  pub opens : (e : List ComplexPart) (c : ComplexPart) → Asks p k (complex_opens e c)
  pub last : (k ≡ 5 → ⊥) → (cs : List ComplexPart) → Asks p k (finish cs)

pub outer_free : (p k : ℕ) → 2 ≤ k → AreOuterFree p k
outer_free p zero a = absurd (omega arith)
outer_free p (suc zero) a = absurd (omega arith)
outer_free p (suc (suc zero)) a = record { head = tt; prime = λ q. tt; opens = λ e c. tt; last = λ n cs. tt }
outer_free p (suc (suc (suc zero))) a = record { head = tt; prime = λ q. tt; opens = λ e c. tt; last = λ n cs. tt }
outer_free p (suc (suc (suc (suc zero)))) a = record { head = tt; prime = λ q. tt; opens = λ e c. tt; last = λ n cs. tt }
outer_free p (suc (suc (suc (suc (suc zero))))) a = record { head = tt; prime = λ q. tt; opens = λ e c. tt; last = λ n cs. absurd (n refl) }
outer_free p (suc (suc (suc (suc (suc (suc zero)))))) a = record { head = tt; prime = λ q. tt; opens = λ e c. tt; last = λ n cs. tt }
outer_free p (suc (suc (suc (suc (suc (suc (suc zero))))))) a = record { head = tt; prime = λ q. tt; opens = λ e c. tt; last = λ n cs. tt }
outer_free p (suc (suc (suc (suc (suc (suc (suc (suc zero)))))))) a = record { head = tt; prime = λ q. tt; opens = λ e c. tt; last = λ n cs. tt }
outer_free p (suc (suc (suc (suc (suc (suc (suc (suc (suc k))))))))) a = record { head = tt; prime = λ q. tt; opens = λ e c. tt; last = λ n cs. tt }

each_free : (p k : ℕ) (lines : List Stated) → Each (Asks p (suc (suc (suc (suc (suc (suc (suc (suc (suc k)))))))))) lines
each_free p k [] = tt
each_free p k (s ∷ ss) = (tt, each_free p k ss)

none_asked : (p : ℕ) (lines : List Stated) → Each (Asks p 0) lines
none_asked p [] = tt
none_asked p (s ∷ ss) = (tt, none_asked p ss)

pub holds_none : (r : Report) → Holds 0 r
holds_none r = none_asked r.prime (stated r)

-- eight conditions are all
pub certified : (r : Report) → ((k : ℕ) → k < 9 → Holds k r) → Certifies r
certified r h = record { holds = go }
  where
    go : (k : ℕ) → Holds k r
    go zero = h 0 (lit< tt)
    go (suc zero) = h 1 (lit< tt)
    go (suc (suc zero)) = h 2 (lit< tt)
    go (suc (suc (suc zero))) = h 3 (lit< tt)
    go (suc (suc (suc (suc zero)))) = h 4 (lit< tt)
    go (suc (suc (suc (suc (suc zero))))) = h 5 (lit< tt)
    go (suc (suc (suc (suc (suc (suc zero)))))) = h 6 (lit< tt)
    go (suc (suc (suc (suc (suc (suc (suc zero))))))) = h 7 (lit< tt)
    go (suc (suc (suc (suc (suc (suc (suc (suc zero)))))))) = h 8 (lit< tt)
    go (suc (suc (suc (suc (suc (suc (suc (suc (suc k))))))))) = each_free r.prime k (stated r)

-- A certificate is read line by line.
use Rattle.std.specs.{Prelude.{ℕ, zero, suc, ◌+◌, ◌==◌, List, [], ◌∷◌, ◌++◌, length, Some, None, if◌then◌else◌}, declared.option.Option.Option}
use Rattle.report_text_law.specs.{declared.state.ComplexHead.ComplexHead, Types.{Sent, Yes as answers_yes, No as answers_no, CartanPart, Column, OperationPart, PairColumn, ProductPart, ComplexPart, DegreePart, Report, InducedPart, MapPart}, Lines.{Chain, Line, heading_line, prime_line, complex_line, facet_line, degree_line, below_line, class_line, product_line, pair_line, with_line, operation_line, column_line, cartan_yes, cartan_no, cycle_line, end_line, map_line, send_line, induced_line, done_line}, WellFormed.is_line, declared.state.Graded.Graded, declared.state.Multiplied.Multiplied, declared.state.Operated.Operated, declared.state.Judged.Judged, declared.state.ComplexStage.ComplexStage, declared.state.ComplexStage.TheVariants.{Facets, Degree, Product, Pair, Operation, Values, Yes, No, Cartans}, declared.state.MapHead.MapHead, declared.state.Mapped.Mapped, declared.state.MapStage.MapStage, declared.state.MapStage.TheVariants.{Sends, Induced, InducedValues}, declared.state.Finding.Finding, declared.state.State.State, declared.state.State.TheVariants.{AtStart, AtPrime, Between, InComplex, BetweenMaps, InMap, Finished}}

infixl 10 ◌>>=◌
abbrev pub ◌>>=◌ : {A B : Type 0} → Option A → (A → Option B) → Option B
(Some x) >>= f = f x
None >>= f = None

-- ---- one more item

abbrev pub with_facet : ComplexHead → List ℕ → ComplexHead
with_facet b vs = record { name = b.name; facets = b.facets ++ vs ∷ [] }

abbrev pub with_degree : Graded → DegreePart → Graded
with_degree g d = record { block = g.block; degrees = g.degrees ++ d ∷ [] }

abbrev pub with_product : Multiplied → ProductPart → Multiplied
with_product m x = record { graded = m.graded; products = m.products ++ x ∷ [] }

abbrev pub with_operation : Operated → OperationPart → Operated
with_operation o x = record { multiplied = o.multiplied; operations = o.operations ++ x ∷ [] }

abbrev pub with_cartan : Judged → CartanPart → Judged
with_cartan j x = record { operated = j.operated; cartans = j.cartans ++ x ∷ [] }

abbrev pub with_complex : Finding → ComplexPart → Finding
with_complex f c = record { prime = f.prime; complexes = f.complexes ++ c ∷ [] }

abbrev pub with_pair : ProductPart → PairColumn → ProductPart
with_pair x c = record { a = x.a; b = x.b; columns = x.columns ++ c ∷ [] }

abbrev pub with_column : OperationPart → Column → OperationPart
with_column x c = record { word = x.word; number = x.number; from = x.from; to = x.to; columns = x.columns ++ c ∷ [] }

abbrev pub with_send : MapHead → Sent → MapHead
with_send h s = record { name = h.name; from = h.from; to = h.to; sends = h.sends ++ s ∷ [] }

abbrev pub with_induced : Mapped → InducedPart → Mapped
with_induced m x = record { head = m.head; induced = m.induced ++ x ∷ [] }

abbrev pub with_induced_column : InducedPart → Column → InducedPart
with_induced_column x c = record { q = x.q; columns = x.columns ++ c ∷ [] }

-- ---- where a section may end

abbrev pub graded_of : ComplexStage → Option Graded
graded_of (Facets b) = Some (record { block = b; degrees = [] })
graded_of (Degree g zero bs cs) = Some (with_degree g (record { below = bs; classes = cs }))
graded_of _ = None

abbrev pub multiplied_from : Graded → Multiplied
multiplied_from g = record { graded = g; products = [] }

abbrev pub multiplied_of : ComplexStage → Option Multiplied
multiplied_of (Product m x) = Some (with_product m x)
multiplied_of s = graded_of s >>= λ g. Some (multiplied_from g)

abbrev pub operated_from : Multiplied → Operated
operated_from m = record { multiplied = m; operations = [] }

abbrev pub operated_of : ComplexStage → Option Operated
operated_of (Operation o x) = Some (with_operation o x)
operated_of s = multiplied_of s >>= λ m. Some (operated_from m)

abbrev pub judged_from : Operated → Judged
judged_from o = record { operated = o; cartans = [] }

abbrev pub judged_of : ComplexStage → Option Judged
judged_of (Cartans j) = Some j
judged_of s = operated_of s >>= λ o. Some (judged_from o)

abbrev pub mapped_of : MapStage → Option Mapped
mapped_of (Sends h) = Some (record { head = h; induced = [] })
mapped_of (Induced m x) = Some (with_induced m x)
mapped_of (InducedValues m x vs) = None

-- ---- the whole complex, map and report

abbrev pub complex_of : Judged → ComplexPart
complex_of j = record {
  name = j.operated.multiplied.graded.block.name;
  facets = j.operated.multiplied.graded.block.facets;
  degrees = j.operated.multiplied.graded.degrees;
  products = j.operated.multiplied.products;
  operations = j.operated.operations;
  cartans = j.cartans;
}

abbrev pub map_of : Mapped → MapPart
map_of m = record { name = m.head.name; from = m.head.from; to = m.head.to; sends = m.head.sends; induced = m.induced }

abbrev pub report_of : Finding → List MapPart → Report
report_of f ms = record { prime = f.prime; complexes = f.complexes; maps = ms }

-- ---- what a line makes of a state

abbrev pub degree_opens : Graded → ℕ → ℕ → Option ComplexStage
degree_opens g n h = if n == length g.degrees then Some (Degree g h [] []) else None

abbrev pub column_stands : Operated → OperationPart → ℕ → List ℕ → Option ComplexStage
column_stands o x j vs = if j == length x.columns + 1 then Some (Values o x vs) else None

abbrev pub induced_stands : Mapped → InducedPart → ℕ → List ℕ → Option MapStage
induced_stands m x j vs = if j == length x.columns + 1 then Some (InducedValues m x vs) else None

abbrev pub facet_stands : ComplexStage → List ℕ → Option ComplexStage
facet_stands (Facets b) vs = Some (Facets (with_facet b vs))
facet_stands _ vs = None

abbrev pub below_stands : ComplexStage → Chain → Option ComplexStage
below_stands (Degree g k bs []) ts = Some (Degree g k (bs ++ ts ∷ []) [])
below_stands _ ts = None

abbrev pub class_stands : ComplexStage → Chain → Option ComplexStage
class_stands (Degree g (suc k) bs cs) ts = Some (Degree g k bs (cs ++ ts ∷ []))
class_stands _ ts = None

abbrev pub pair_stands : ComplexStage → ℕ → ℕ → List ℕ → Option ComplexStage
pair_stands (Product m x) i j vs = Some (Pair m x i j vs)
pair_stands _ i j vs = None

abbrev pub values_stand : ComplexStage → ℕ → List ℕ → Option ComplexStage
values_stand (Operation o x) j vs = column_stands o x j vs
values_stand _ j vs = None

abbrev pub with_stands : ComplexStage → Chain → Option ComplexStage
with_stands (Pair m x i j vs) ts = Some (Product m (with_pair x (record { i = i; j = j; values = vs; primitive = ts })))
with_stands (Values o x vs) ts = Some (Operation o (with_column x (record { values = vs; primitive = ts })))
with_stands (Yes c a i b j n) ts = Some (Cartans (with_cartan c (record { a = a; i = i; b = b; j = j; n = n; answer = answers_yes ts })))
with_stands _ ts = None

abbrev pub cycle_stands : ComplexStage → Chain → Option ComplexStage
cycle_stands (No c a i b j n v) ts = Some (Cartans (with_cartan c (record { a = a; i = i; b = b; j = j; n = n; answer = answers_no v ts })))
cycle_stands _ ts = None

-- within a complex
abbrev pub next : ComplexStage → Line → Option ComplexStage
next s (facet_line vs) = facet_stands s vs
next s (degree_line n h) = graded_of s >>= λ g. degree_opens g n h
next s (below_line ts) = below_stands s ts
next s (class_line ts) = class_stands s ts
next s (product_line a b) = multiplied_of s >>= λ m. Some (Product m (record { a = a; b = b; columns = [] }))
next s (pair_line i j vs) = pair_stands s i j vs
next s (operation_line w k q n) = operated_of s >>= λ o. Some (Operation o (record { word = w; number = k; from = q; to = n; columns = [] }))
next s (column_line j vs) = values_stand s j vs
next s (cartan_yes a i b j n) = judged_of s >>= λ c. Some (Yes c a i b j n)
next s (cartan_no a i b j n v) = judged_of s >>= λ c. Some (No c a i b j n v)
next s (with_line ts) = with_stands s ts
next s (cycle_line ts) = cycle_stands s ts
next s _ = None

abbrev pub send_stands : MapStage → Sent → Option MapStage
send_stands (Sends h) s = Some (Sends (with_send h s))
send_stands _ s = None

abbrev pub induced_values_stand : MapStage → ℕ → List ℕ → Option MapStage
induced_values_stand (Induced m x) j vs = induced_stands m x j vs
induced_values_stand _ j vs = None

abbrev pub induced_with_stands : MapStage → Chain → Option MapStage
induced_with_stands (InducedValues m x vs) ts = Some (Induced m (with_induced_column x (record { values = vs; primitive = ts })))
induced_with_stands _ ts = None

-- within a map
abbrev pub next_of_map : MapStage → Line → Option MapStage
next_of_map s (send_line v w) = send_stands s (record { from = v; to = w })
next_of_map s (induced_line q) = mapped_of s >>= λ m. Some (Induced m (record { q = q; columns = [] }))
next_of_map s (column_line j vs) = induced_values_stand s j vs
next_of_map s (with_line ts) = induced_with_stands s ts
next_of_map s _ = None

abbrev pub in_complex : Finding → ComplexStage → Line → Option State
in_complex f s end_line = judged_of s >>= λ j. Some (Between (with_complex f (complex_of j)))
in_complex f s l = next s l >>= λ t. Some (InComplex f t)

abbrev pub in_map : Finding → List MapPart → MapStage → Line → Option State
in_map f ms s end_line = mapped_of s >>= λ m. Some (BetweenMaps f (ms ++ map_of m ∷ []))
in_map f ms s l = next_of_map s l >>= λ t. Some (InMap f ms t)

abbrev pub map_opens : List ℕ → List ℕ → List ℕ → MapStage
map_opens name from to = Sends (record { name = name; from = from; to = to; sends = [] })

abbrev pub at_start : Line → Option State
at_start heading_line = Some AtPrime
at_start _ = None

abbrev pub at_prime : Line → Option State
at_prime (prime_line p) = Some (Between (record { prime = p; complexes = [] }))
at_prime _ = None

abbrev pub between : Finding → Line → Option State
between f (complex_line name) = Some (InComplex f (Facets (record { name = name; facets = [] })))
between f (map_line name from to) = Some (InMap f [] (map_opens name from to))
between f done_line = Some (Finished f [])
between f _ = None

abbrev pub between_maps : Finding → List MapPart → Line → Option State
between_maps f ms (map_line name from to) = Some (InMap f ms (map_opens name from to))
between_maps f ms done_line = Some (Finished f ms)
between_maps f ms _ = None

abbrev pub move : State → Line → Option State
move AtStart l = at_start l
move AtPrime l = at_prime l
move (Between f) l = between f l
move (InComplex f s) l = in_complex f s l
move (BetweenMaps f ms) l = between_maps f ms l
move (InMap f ms s) l = in_map f ms s l
move (Finished f ms) l = None

abbrev pub prime_of : State → ℕ
prime_of AtStart = 0
prime_of AtPrime = 0
prime_of (Between f) = f.prime
prime_of (InComplex f s) = f.prime
prime_of (BetweenMaps f ms) = f.prime
prime_of (InMap f ms s) = f.prime
prime_of (Finished f ms) = f.prime

abbrev pub step : State → Line → Option State
step s l = if is_line (prime_of s) l then move s l else None

abbrev pub run : State → List Line → Option State
run s [] = Some s
run s (l ∷ ls) = step s l >>= λ t. run t ls

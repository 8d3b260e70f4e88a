-- What a line makes of a complex or a map that is read to the end of one of its sections.
use Rattle.std.specs.{Prelude.{◌≡◌, ℕ, zero, suc, ◌+◌, ◌-◌, ◌==◌, List, [], ◌∷◌, ◌++◌, length, Some, None, if◌then◌else◌}, declared.option.Option.Option}
use Rattle.complex_file.specs.declared.block.Sent.{Sent}
use Rattle.report.specs.declared.{columns.CartanPart.CartanPart, columns.Column.Column, columns.OperationPart.OperationPart, columns.PairColumn.PairColumn, columns.ProductPart.ProductPart, complex.ComplexPart.ComplexPart, complex.DegreePart.DegreePart, map.InducedPart.InducedPart, map.MapPart.MapPart}
use Rattle.report_text_law.specs.{Names.{Chain, ◌>>=◌, complex_of, map_of, degree_opens, move, with_complex}, declared.line.Line.TheVariants.{Class as class_line, With as with_line, Column as column_line, Cycle as cycle_line, End as end_line, Done as done_line, Degree as degree_line, Product as product_line, Operation as operation_line, Induced as induced_line}, declared.state.ComplexHead.ComplexHead, declared.state.Graded.Graded, declared.state.Multiplied.Multiplied, declared.state.Operated.Operated, declared.state.ComplexStage.TheVariants.{Facets, Cartans, Degree, Product, Operation}, declared.state.MapHead.MapHead, declared.state.MapStage.TheVariants.{Sends, Induced}, declared.state.Finding.Finding, declared.state.State.State, declared.state.State.TheVariants.{Between, InComplex, BetweenMaps, InMap, Finished}, declared.line.Line.Line}
use Rattle.report_reader.specs.Reading.{IsOpen, Section}

-- ---- lines that must stand next

abbrev pub end_only : State → Line → Option State
end_only s end_line = Some s
end_only s _ = None

abbrev pub done_only : State → Line → Option State
done_only s done_line = Some s
done_only s _ = None

abbrev pub class_only : (Chain → State) → Line → Option State
class_only to (class_line ts) = Some (to ts)
class_only to _ = None

abbrev pub with_only : (Chain → State) → Line → Option State
with_only to (with_line ts) = Some (to ts)
with_only to _ = None

abbrev pub cycle_only : (Chain → State) → Line → Option State
cycle_only to (cycle_line ts) = Some (to ts)
cycle_only to _ = None

-- ---- behind some items of a section, where it may end

abbrev pub within_cartans : Finding → Operated → List CartanPart → Line → Option State
within_cartans f o xs = move (InComplex f (Cartans (record { operated = o; cartans = xs })))

-- behind some operations: another, or what may stand behind all
abbrev pub within_operations : Finding → Multiplied → List OperationPart → Line → Option State
within_operations f m xs (operation_line w k q n) = Some (InComplex f (Operation (record { multiplied = m; operations = xs }) (record { word = w; number = k; from = q; to = n; columns = [] })))
within_operations f m xs l = within_cartans f (record { multiplied = m; operations = xs }) [] l

abbrev pub within_products : Finding → Graded → List ProductPart → Line → Option State
within_products f g xs (product_line a b) = Some (InComplex f (Product (record { graded = g; products = xs }) (record { a = a; b = b; columns = [] })))
within_products f g xs l = within_operations f (record { graded = g; products = xs }) [] l

abbrev pub within_degrees : Finding → ComplexHead → List DegreePart → Line → Option State
within_degrees f b xs (degree_line n h) = degree_opens (record { block = b; degrees = xs }) n h >>= λ s. Some (InComplex f s)
within_degrees f b xs l = within_products f (record { block = b; degrees = xs }) [] l

-- so many of the classes of a degree are still to come
abbrev pub within_classes : Finding → Graded → ℕ → List Chain → List Chain → Line → Option State
within_classes f g zero bs cs = within_degrees f g.block (g.degrees ++ record { below = bs; classes = cs } ∷ [])
within_classes f g (suc k) bs cs = class_only (λ ts. InComplex f (Degree g k bs (cs ++ ts ∷ [])))

-- behind some blocks of a map: another, or the end
abbrev pub behind_induced : Finding → List MapPart → MapHead → List InducedPart → Line → Option State
behind_induced f ms h xs = end_only (BetweenMaps f (ms ++ map_of (record { head = h; induced = xs }) ∷ []))

abbrev pub within_induced : Finding → List MapPart → MapHead → List InducedPart → Line → Option State
within_induced f ms h xs (induced_line q) = Some (InMap f ms (Induced (record { head = h; induced = xs }) (record { q = q; columns = [] })))
within_induced f ms h xs l = behind_induced f ms h xs l

-- ---- the sections

abbrev pub facets : ℕ → Section (Finding × List ℕ) (List ℕ)
facets prime = record {
  fits = λ i. i.0.prime ≡ prime;
  within = λ i xs. move (InComplex i.0 (Facets (record { name = i.1; facets = xs })));
  behind = λ i xs. within_degrees i.0 (record { name = i.1; facets = xs }) [];
}

abbrev pub degrees : ℕ → Section (Finding × ComplexHead) DegreePart
degrees prime = record {
  fits = λ i. i.0.prime ≡ prime;
  within = λ i. within_degrees i.0 i.1;
  behind = λ i xs. within_products i.0 (record { block = i.1; degrees = xs }) [];
}

abbrev pub belows : ℕ → Section (Finding × Graded × ℕ) Chain
belows prime = record {
  fits = λ i. i.0.prime ≡ prime;
  within = λ i xs. move (InComplex i.0 (Degree i.1 i.2 xs []));
  behind = λ i xs. within_classes i.0 i.1 i.2 xs [];
}

abbrev pub classes : ℕ → ℕ → Section (Finding × Graded × List Chain) Chain
classes prime rank = record {
  fits = λ i. i.0.prime ≡ prime;
  within = λ i xs. within_classes i.0 i.1 (rank - length xs) i.2 xs;
  behind = λ i xs. within_classes i.0 i.1 0 i.2 xs;
}

abbrev pub products : ℕ → Section (Finding × Graded) ProductPart
products prime = record {
  fits = λ i. i.0.prime ≡ prime;
  within = λ i. within_products i.0 i.1;
  behind = λ i xs. within_operations i.0 (record { graded = i.1; products = xs }) [];
}

abbrev pub pairs : ℕ → Section (Finding × Multiplied × ℕ × ℕ) PairColumn
pairs prime = record {
  fits = λ i. i.0.prime ≡ prime;
  within = λ i xs. move (InComplex i.0 (Product i.1 (record { a = i.2; b = i.3; columns = xs })));
  behind = λ i xs. within_products i.0 i.1.graded (i.1.products ++ record { a = i.2; b = i.3; columns = xs } ∷ []);
}

abbrev pub operations : ℕ → Section (Finding × Multiplied) OperationPart
operations prime = record {
  fits = λ i. i.0.prime ≡ prime;
  within = λ i. within_operations i.0 i.1;
  behind = λ i xs. within_cartans i.0 (record { multiplied = i.1; operations = xs }) [];
}

abbrev pub cartans : ℕ → Section (Finding × Operated) CartanPart
cartans prime = record {
  fits = λ i. i.0.prime ≡ prime;
  within = λ i. within_cartans i.0 i.1;
  behind = λ i xs. end_only (Between (with_complex i.0 (complex_of (record { operated = i.1; cartans = xs }))));
}

abbrev pub complexes : ℕ → Section (Unit {0}) ComplexPart
complexes prime = record {
  fits = λ i. Unit {0};
  within = λ i xs. move (Between (record { prime = prime; complexes = xs }));
  behind = λ i xs. move (BetweenMaps (record { prime = prime; complexes = xs }) []);
}

abbrev pub sends : ℕ → Section (Finding × List MapPart × List ℕ × List ℕ × List ℕ) Sent
sends prime = record {
  fits = λ i. i.0.prime ≡ prime;
  within = λ i xs. move (InMap i.0 i.1 (Sends (record { name = i.2; from = i.3; to = i.4; sends = xs })));
  behind = λ i xs. within_induced i.0 i.1 (record { name = i.2; from = i.3; to = i.4; sends = xs }) [];
}

abbrev pub induced_blocks : ℕ → Section (Finding × List MapPart × MapHead) InducedPart
induced_blocks prime = record {
  fits = λ i. i.0.prime ≡ prime;
  within = λ i. within_induced i.0 i.1 i.2;
  behind = λ i. behind_induced i.0 i.1 i.2;
}

abbrev pub maps : ℕ → Section Finding MapPart
maps prime = record {
  fits = λ f. f.prime ≡ prime;
  within = λ f xs. move (BetweenMaps f xs);
  behind = λ f xs. done_only (Finished f xs);
}

-- Columns with their chains: the state behind a chain, that behind values, and what a line makes behind the last.
abbrev pub Columned : Type 0
Columned = (List Column → State) × (List Column → List ℕ → State) × (List Column → Line → Option State)

pub record HasColumns (prime : ℕ) (at : Columned) : Type 0 where
  pub opens : (xs : List Column) (j : ℕ) (vs : List ℕ) → move (at.0 xs) (column_line j vs) ≡ (if j == length xs + 1 then Some (at.1 xs vs) else None)
  pub closes : (xs : List Column) (vs : List ℕ) (l : Line) → move (at.1 xs vs) l ≡ with_only (λ ts. at.0 (xs ++ record { values = vs; primitive = ts } ∷ [])) l
  pub ends : (xs : List Column) (l : Line) → ((j : ℕ) (vs : List ℕ) → l ≡ column_line j vs → ⊥) → move (at.0 xs) l ≡ at.2 xs l
  pub open_at : (xs : List Column) → IsOpen prime (at.0 xs)
  pub waits_at : (xs : List Column) (vs : List ℕ) → IsOpen prime (at.1 xs vs)

abbrev pub columns : ℕ → Section Columned Column
columns prime = record {
  fits = HasColumns prime;
  within = λ i xs. move (i.0 xs);
  behind = λ i. i.2;
}

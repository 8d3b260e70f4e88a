-- What is well formed.
use Rattle.std.specs.{Prelude.{ℕ, ◌+◌, ◌^◌, Bool, true, false, ◌&&◌, List, [], ◌∷◌, nat_lt, nat_le}, List.list_all, Ordering.is_lt}
use Rattle.simplicial_law.specs.Names.{simplex_cmp}
use Rattle.fp_field.specs.Served.{served}
use Rattle.complex_file.specs.Names.{is_name}
use Rattle.report_text_law.specs.{Types.Report, Lines.{Chain, Line, heading_line, prime_line, complex_line, facet_line, degree_line, below_line, class_line, product_line, pair_line, with_line, operation_line, column_line, cartan_yes, cartan_no, cycle_line, end_line, map_line, send_line, induced_line, done_line, certificate_lines}}

abbrev pub is_u32 : ℕ → Bool
is_u32 n = nat_lt n (2 ^ 32)

abbrev pub ascends : List ℕ → Bool
ascends [] = true
ascends (v ∷ []) = true
ascends (v ∷ w ∷ ws) = nat_lt v w && ascends (w ∷ ws)

abbrev pub is_vertex : ℕ → Bool
is_vertex v = nat_le v 999999

-- a simplex is not empty, and its vertices ascend
abbrev pub is_simplex : List ℕ → Bool
is_simplex [] = false
is_simplex (v ∷ vs) = list_all is_vertex (v ∷ vs) && ascends (v ∷ vs)

-- the simplices of the terms ascend in the order of simplices
abbrev pub terms_ascend : Chain → Bool
terms_ascend [] = true
terms_ascend (t ∷ []) = true
terms_ascend (t ∷ u ∷ us) = is_lt (simplex_cmp t.1 u.1) && terms_ascend (u ∷ us)

-- from 1 to p - 1
abbrev pub is_unit : ℕ → ℕ → Bool
is_unit p c = nat_lt 0 c && nat_lt c p

abbrev pub is_term : ℕ → ℕ × List ℕ → Bool
is_term p t = is_unit p t.0 && is_simplex t.1

abbrev pub is_chain : ℕ → Chain → Bool
is_chain p ts = list_all (is_term p) ts && terms_ascend ts

abbrev pub are_values : ℕ → List ℕ → Bool
are_values p vs = list_all (λ v. nat_lt v p) vs

-- A line at the prime p. The last degree has a number below 2 ^ 32 - 1, so that there are fewer than 2 ^ 32 degrees.
abbrev pub is_line : ℕ → Line → Bool
is_line p (complex_line name) = is_name name
is_line p (facet_line vs) = is_simplex vs
is_line p (degree_line n h) = is_u32 (n + 1) && is_u32 h
is_line p (below_line ts) = is_chain p ts
is_line p (class_line ts) = is_chain p ts
is_line p (product_line a b) = is_u32 a && is_u32 b
is_line p (pair_line i j vs) = is_u32 i && (is_u32 j && are_values p vs)
is_line p (with_line ts) = is_chain p ts
is_line p (operation_line w k q n) = is_u32 k && (is_u32 q && is_u32 n)
is_line p (column_line j vs) = is_u32 j && are_values p vs
is_line p (cartan_yes a i b j n) = is_u32 a && (is_u32 i && (is_u32 b && (is_u32 j && is_u32 n)))
is_line p (cartan_no a i b j n v) = is_u32 a && (is_u32 i && (is_u32 b && (is_u32 j && (is_u32 n && is_unit p v))))
is_line p (cycle_line ts) = is_chain p ts
is_line p (map_line name from to) = is_name name && (is_name from && is_name to)
is_line p (send_line v w) = is_vertex v && is_vertex w
is_line p (induced_line q) = is_u32 q
is_line p heading_line = true
is_line p (prime_line q) = served q
is_line p end_line = true
is_line p done_line = true

-- each line of the certificate is well formed at the prime of the report
unfoldable pub is_well_formed : Report → Bool
is_well_formed r = list_all (is_line r.prime) (certificate_lines r.prime r.complexes r.maps)

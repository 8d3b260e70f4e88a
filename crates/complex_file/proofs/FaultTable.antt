-- The fault of a line is the first kind of the table that comes on it.
use Rattle.std.{proofs.Common.{◌≡◌, ◌&&◌, List, [], ◌∷◌, ◌++◌, ℕ, Bool, true, false, cond, not, refl, length, nat_lt, option_map, Ok, Err, Result, Some, None, is_some, nat_le}, specs.declared.option.Option.Option, specs.List.list_all, specs.Result.result_err}
use Rattle.fp_field.specs.Served.{served}
use Rattle.simplicial_law.specs.ListedSimplices.{simplices}
use Rattle.complex_file.{specs.Names.{ComplexBlock, MapBlock, Sent, InputKind, FacetTooWide, NotText, OtherPrime, TooManySimplices, UnknownName, VertexSentTwice, VertexUnknown, is_allowed, words, Line, complex_line, end_line, facet_line, heading, is_skipped, line_of, map_line, prime_line, send_line, ascending, has_repeat, unless, is_sent, is_vertex, keeps_order, keeps_simplices, sends_each, block_names, facets_at, has_name, place_of_name, Place, Spelled, after, after_facet, after_send, at_prime, at_start, begun_map, between, in_complex, in_map, with_facets, with_sends, first_kind, tried}, specs.Input.after_line, specs.FaultTable.fault_at, proofs.RepeatLemmas.length_once}

-- a kind that is tried before others
test_first : {X : Type 0} (b : Bool) (k : InputKind) (r : Result X InputKind) (later : Option (InputKind × Bool)) → result_err r ≡ option_map (λ (e : InputKind × Bool). e.0) later
    → result_err (cond b (Err k) r) ≡ option_map (λ (e : InputKind × Bool). e.0) (cond b (Some (k, b)) later)
test_first true k r later h = refl
test_first false k r later h = h

prime_table : (o : Option ℕ) → result_err (after at_prime (prime_line o)) ≡ first_kind (tried at_prime (prime_line o))
prime_table None = refl
prime_table (Some p) = by_test _ (served p)
  where
    by_test : {X : Type 0} (x : X) (b : Bool) → result_err (cond b (Ok x) (Err OtherPrime)) ≡ first_kind ((OtherPrime, not b) ∷ [])
    by_test x true = refl
    by_test x false = refl

places_table : (s : Spelled) (name : List ℕ) (from to : Option ℕ) → result_err (begun_map s name from to) ≡ first_kind ((UnknownName, not (is_some from && is_some to)) ∷ [])
places_table s name None to = refl
places_table s name (Some i) None = refl
places_table s name (Some i) (Some j) = refl

facet_table : (s : Spelled) (c : ComplexBlock) (o : Option (List ℕ)) → result_err (after_facet s c o) ≡ first_kind (tried (in_complex s c) (facet_line o))
facet_table s c None = refl
facet_table s c (Some vs) = by_repeat (has_repeat vs) refl
  where
    by_tests : (wide many : Bool) (facets : List (List ℕ)) → result_err (with_facets s c (unless (cond wide (Some FacetTooWide) (cond many (Some TooManySimplices) None)) facets)) ≡ first_kind ((FacetTooWide, wide) ∷ (TooManySimplices, many) ∷ [])
    by_tests true many facets = refl
    by_tests false true facets = refl
    by_tests false false facets = refl

    by_repeat : (b : Bool) → has_repeat vs ≡ b → result_err (after_facet s c (Some vs)) ≡ first_kind (tried (in_complex s c) (facet_line (Some vs)))
    by_repeat true e = rw e refl
    by_repeat false e = rw (e, length_once vs e) (by_tests (nat_lt 16 (length vs)) (nat_lt 100000 (length (simplices (c.facets ++ ascending vs ∷ [])))) (c.facets ++ ascending vs ∷ []))

send_table : (s : Spelled) (m : MapBlock) (o : Option Sent) → result_err (after_send s m o) ≡ first_kind (tried (in_map s m) (send_line o))
send_table s m None = refl
send_table s m (Some d) = by_tests (not (is_vertex (facets_at s.complexes m.from) d.from && is_vertex (facets_at s.complexes m.to) d.to)) (is_sent m.sends d.from)
  where
    by_tests : (unknown twice : Bool) → result_err (with_sends s m (unless (cond unknown (Some VertexUnknown) (cond twice (Some VertexSentTwice) None)) (m.sends ++ d ∷ []))) ≡ first_kind ((VertexUnknown, unknown) ∷ (VertexSentTwice, twice) ∷ [])
    by_tests true twice = refl
    by_tests false true = refl
    by_tests false false = refl

end_tests : {X : Type 0} (x : X) (k l j : InputKind) (a b c : Bool) → result_err (unless (cond a (Some k) (cond b (Some l) (cond c (Some j) None))) x) ≡ first_kind ((k, a) ∷ (l, b) ∷ (j, c) ∷ [])
end_tests x k l j true b c = refl
end_tests x k l j false true c = refl
end_tests x k l j false false true = refl
end_tests x k l j false false false = refl

words_table : (p : Place) (l : Line) → result_err (after p l) ≡ first_kind (tried p l)
words_table at_start heading = refl
words_table at_prime (prime_line o) = prime_table o
words_table (between s) (complex_line name) = test_first (nat_le 8 (length s.complexes)) _ _ _ (test_first (has_name (block_names s.complexes s.maps) name) _ _ _ refl)
words_table (between s) (map_line name from to) =
    test_first (nat_le 8 (length s.maps)) _ _ _ (test_first (has_name (block_names s.complexes s.maps) name) _ _ _ (places_table s name (place_of_name s.complexes from) (place_of_name s.complexes to)))
words_table (in_complex s c) (facet_line o) = facet_table s c o
words_table (in_map s m) (send_line o) = send_table s m o
words_table (in_map s m) end_line =
    let from = facets_at s.complexes m.from in
    end_tests _ _ _ _ (not (sends_each from m.sends)) (not (keeps_order from m.sends)) (not (keeps_simplices from (facets_at s.complexes m.to) m.sends))
words_table _ _ = refl

pub line_table : (p : Place) (l : List ℕ) → result_err (after_line p l) ≡ fault_at p l
unfolding after_line fault_at
line_table p l = by_tests p NotText (after p (line_of (words l))) _ (list_all is_allowed l) (is_skipped (words l)) (words_table p (line_of (words l)))
  where
    by_tests : {X : Type 0} (x : X) (k : InputKind) (r : Result X InputKind) (o : Option InputKind) (text skipped : Bool) → result_err r ≡ o
        → result_err (cond text (cond skipped (Ok x) r) (Err k)) ≡ cond text (cond skipped None o) (Some k)
    by_tests x k r o false skipped h = refl
    by_tests x k r o true true h = refl
    by_tests x k r o true false h = h

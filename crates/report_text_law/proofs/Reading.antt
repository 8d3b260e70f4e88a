-- What is read is spelled so, and the lines that are taken begin a certificate.
use Rattle.std.{proofs.Common.{◌≡◌, ◌∙◌, ℕ, zero, suc, true, List, [], ◌∷◌, ◌++◌, ap, refl, sym, subst, append_assoc, Some, None, flat_map, append-nil}, specs.declared.option.Option.Option, specs.List.list_all}
use Rattle.report_text_law.{specs.Names.{is_line, IsCertificate, Begins, Chain, heading_line, prime_line, class_line, with_line, cycle_line, end_line, done_line, map_lines, certificate_lines, Graded, ComplexStage, Values, Yes, No, MapStage, Sends, InducedValues, Finding, State, AtStart, AtPrime, InComplex, InMap, Finished, ◌>>=◌, report_of, move, prime_of, step, run, Line}, proofs.Written.{written, front, move_law, some_same, bind_some, guard_some}, specs.Types.{Report, MapPart}, proofs.Fine.{IsFine, fine_law}, proofs.Again.{again, finding}, specs.declared.state.ComplexStage.TheVariants.{Degree, Pair}}

run_law : (s : State) (ls : List Line) (t : State) → run s ls ≡ Some t → IsFine s → (written t ≡ written s ++ ls) × IsFine t
run_law s [] t e fine =
    let same : s ≡ t = some_same e in
    (subst (λ (u : State). written u ≡ written s ++ []) same (sym (append-nil (written s))), subst IsFine same fine)
run_law s (l ∷ ls) t e fine =
    let m = bind_some (step s l) (λ u. run u ls) t e in
    let g = guard_some (is_line (prime_of s) l) (move s l) m.0 m.1 in
    let rest = run_law m.0 ls t m.2 (fine_law s l m.0 m.1 fine) in
    (rest.0 ∙ ap (λ (w : List Line). w ++ ls) (move_law s l m.0 g.1) ∙ append_assoc (written s) (l ∷ []) ls, rest.1)

whole_written : (f : Finding) (ms : List MapPart) → written (Finished f ms) ≡ certificate_lines f.prime f.complexes ms
whole_written f ms = append_assoc (front f) (flat_map map_lines ms) (done_line ∷ [])

-- what is read is spelled so
pub sound : (f : Finding) (ms : List MapPart) (ls : List Line) → run AtStart ls ≡ Some (Finished f ms) → IsCertificate (report_of f ms) ls
sound f ms ls e =
    let r = run_law AtStart ls (Finished f ms) e refl in
    record { well_formed = well_formed_of f ms r.1; same = sym r.0 ∙ whole_written f ms }
  where
    well_formed_of : (f : Finding) (ms : List MapPart) → IsFine (Finished f ms) → list_all (is_line f.prime) (certificate_lines f.prime f.complexes ms) ≡ true
    well_formed_of f ms h = subst (λ (ls : List Line). list_all (is_line f.prime) ls ≡ true) (whole_written f ms) h

pub behind : {A B C : Type 0} (r : Option A) (f : A → Option B) (g : A → Option C) (h : B → Option C) → ((x : A) → g x ≡ (f x >>= h)) → (r >>= g) ≡ ((r >>= f) >>= h)
behind (Some x) f g h same = same x
behind None f g h same = refl

run_more : (s : State) (xs ys : List Line) → run s (xs ++ ys) ≡ (run s xs >>= λ t. run t ys)
run_more s [] ys = refl
run_more s (x ∷ xs) ys = behind (step s x) (λ t. run t xs) (λ t. run t (xs ++ ys)) (λ t. run t ys) (λ t. run_more t xs ys)

-- ---- from each state some lines lead to the end

abbrev closing : List Line
closing = end_line ∷ done_line ∷ []

filled : ℕ → List Line
filled zero = closing
filled (suc k) = class_line [] ∷ filled k

rest_of : ComplexStage → List Line
rest_of (Degree g k bs cs) = filled k
rest_of (Pair m x i j vs) = with_line [] ∷ closing
rest_of (Values o x vs) = with_line [] ∷ closing
rest_of (Yes c a i b j n) = with_line [] ∷ closing
rest_of (No c a i b j n v) = cycle_line [] ∷ closing
rest_of _ = closing

rest_of_map : MapStage → List Line
rest_of_map (InducedValues m x vs) = with_line [] ∷ closing
rest_of_map _ = closing

rest : State → List Line
rest AtStart = heading_line ∷ prime_line 2 ∷ done_line ∷ []
rest AtPrime = prime_line 2 ∷ done_line ∷ []
rest (InComplex f s) = rest_of s
rest (InMap f ms s) = rest_of_map s
rest (Finished f ms) = []
rest _ = done_line ∷ []

abbrev Ends : State → List Line → Type 0
Ends s ls = (f : Finding) × (ms : List MapPart) × (run s ls ≡ Some (Finished f ms))

filled_ends : (f : Finding) (g : Graded) (k : ℕ) (bs cs : List Chain) → Ends (InComplex f (Degree g k bs cs)) (filled k)
unfolding filled
filled_ends f g zero bs cs = (_, _, refl)
filled_ends f g (suc k) bs cs = filled_ends f g k bs (cs ++ [] ∷ [])

stage_ends : (f : Finding) (s : ComplexStage) → Ends (InComplex f s) (rest_of s)
unfolding rest_of filled
stage_ends f (Degree g k bs cs) = filled_ends f g k bs cs
stage_ends f _ = (_, _, refl)

map_stage_ends : (f : Finding) (ms : List MapPart) (s : MapStage) → Ends (InMap f ms s) (rest_of_map s)
unfolding rest_of_map
map_stage_ends f ms (Sends h) = (_, _, refl)
map_stage_ends f ms _ = (_, _, refl)

rest_ends : (s : State) → Ends s (rest s)
unfolding rest
rest_ends (InComplex f s) = stage_ends f s
rest_ends (InMap f ms s) = map_stage_ends f ms s
rest_ends _ = (_, _, refl)

-- lines that are taken begin a certificate
pub taken_begins : (ls : List Line) (s : State) → run AtStart ls ≡ Some s → Begins ls
taken_begins ls s e =
    let r = rest_ends s in
    let whole : run AtStart (ls ++ rest s) ≡ Some (Finished r.0 r.1) = run_more AtStart ls (rest s) ∙ ap (λ (o : Option State). o >>= λ t. run t (rest s)) e ∙ r.2 in
    record { found = report_of r.0 r.1; more = rest s; certificate = sound r.0 r.1 (ls ++ rest s) whole }

abbrev pub finished_with : Report → State
finished_with r = Finished (finding r.prime r.complexes) r.maps

-- a certificate is read to its end
pub complete : (r : Report) (ls : List Line) → IsCertificate r ls → run AtStart ls ≡ Some (finished_with r)
complete r ls c = subst (λ (u : List Line). run AtStart u ≡ Some (finished_with r)) (sym c.same) (again r.prime r.complexes r.maps c.well_formed)

-- lines that begin a certificate are taken
pub begins_taken : (ls : List Line) → Begins ls → (s : State) × (run AtStart ls ≡ Some s)
begins_taken ls b =
    let whole : run AtStart (ls ++ b.more) ≡ Some (Finished (finding b.found.prime b.found.complexes) b.found.maps) = complete b.found (ls ++ b.more) b.certificate in
    let m = bind_some (run AtStart ls) (λ t. run t b.more) (Finished (finding b.found.prime b.found.complexes) b.found.maps) (sym (run_more AtStart ls b.more) ∙ whole) in
    (m.0, m.1)

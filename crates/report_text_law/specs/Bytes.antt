-- Lines as bytes: a line is guessed from its words, and taken where its spelling is the line again.
use Rattle.std.specs.{Prelude.{ℕ, ◌==◌, List, [], ◌∷◌, ◌+◌, ◌-◌, ◌*◌, ◌^◌, nat_lt, codes, flat_map, length, map, Some, None, Ok, Err, Result, if◌then◌else◌}, declared.option.Option.Option, List.slice_split, Str.bytes_eq}
use Rattle.report_text_law.specs.{Types.{OpWord, Report, Certificate}, Lines.{Chain, Line, heading_line, prime_line, complex_line, facet_line, degree_line, below_line, class_line, product_line, pair_line, with_line, operation_line, column_line, cartan_yes, cartan_no, cycle_line, end_line, map_line, send_line, induced_line, done_line}, Spelling.{joined, words}, Machine.{step, report_of, ◌>>=◌}, Certificates.pieces, declared.state.State.State, declared.state.State.TheVariants.{AtStart, Finished}}
use Rattle.report.specs.declared.columns.OpWord.TheVariants.{Sq, Power, BocksteinPower}

abbrev pub spelled : Line → List ℕ
spelled l = joined 32 (words Certificate l)

-- ---- guesses: what a word or a line says where it is spelled rightly

-- the number behind one more digit, or 0 past the numbers below 2 ^ 32
abbrev pub with_digit : ℕ → ℕ → ℕ
with_digit n b = let m = n * 10 + (b - 48) in if nat_lt m (2 ^ 32) then m else 0

abbrev pub number_after : ℕ → List ℕ → ℕ
number_after n [] = n
number_after n (b ∷ bs) = number_after (with_digit n b) bs

abbrev pub number : List ℕ → ℕ
number w = number_after 0 w

abbrev pub numbers : List (List ℕ) → List ℕ
numbers ws = map number ws

abbrev pub simplex_of : List ℕ → List ℕ
simplex_of w = numbers (slice_split (λ b. b == 46) w)

-- none, where there are not two pieces
abbrev pub term_pieces : List (List ℕ) → Chain
term_pieces (c ∷ vs ∷ []) = (number c, simplex_of vs) ∷ []
term_pieces _ = []

abbrev pub term_of : List ℕ → Chain
term_of w = term_pieces (slice_split (λ b. b == 58) w)

abbrev pub chain_of : List (List ℕ) → Chain
chain_of ws = flat_map term_of ws

abbrev pub op_of : List ℕ → OpWord
op_of w = if bytes_eq w (codes "Sq") then Sq else (if bytes_eq w (codes "P") then Power else BocksteinPower)

abbrev pub guess_prime : List (List ℕ) → Option Line
guess_prime (p ∷ []) = Some (prime_line (number p))
guess_prime _ = None

abbrev pub guess_complex : List (List ℕ) → Option Line
guess_complex (name ∷ []) = Some (complex_line name)
guess_complex _ = None

abbrev pub guess_facet : List (List ℕ) → Option Line
guess_facet ws = Some (facet_line (numbers ws))

abbrev pub guess_degree : List (List ℕ) → Option Line
guess_degree (n ∷ _ ∷ h ∷ []) = Some (degree_line (number n) (number h))
guess_degree _ = None

abbrev pub guess_product : List (List ℕ) → Option Line
guess_product (a ∷ b ∷ []) = Some (product_line (number a) (number b))
guess_product _ = None

abbrev pub guess_pair : List ℕ → List ℕ → List (List ℕ) → Option Line
guess_pair i j (_ ∷ vs) = Some (pair_line (number i) (number j) (numbers vs))
guess_pair i j [] = None

abbrev pub guess_column : List (List ℕ) → Option Line
guess_column (j ∷ w ∷ vs) = if bytes_eq w (codes "is") then Some (column_line (number j) (numbers vs)) else guess_pair j w vs
guess_column _ = None

abbrev pub guess_operation : List (List ℕ) → Option Line
guess_operation (w ∷ k ∷ _ ∷ q ∷ _ ∷ n ∷ []) = Some (operation_line (op_of w) (number k) (number q) (number n))
guess_operation _ = None

abbrev pub guess_yes : List (List ℕ) → Option Line
guess_yes (a ∷ i ∷ b ∷ j ∷ n ∷ _ ∷ []) = Some (cartan_yes (number a) (number i) (number b) (number j) (number n))
guess_yes _ = None

abbrev pub guess_no : List (List ℕ) → Option Line
guess_no (a ∷ i ∷ b ∷ j ∷ n ∷ _ ∷ v ∷ []) = Some (cartan_no (number a) (number i) (number b) (number j) (number n) (number v))
guess_no _ = None

-- six words behind the first say `yes`, and seven `no`
abbrev pub guess_cartan : List (List ℕ) → Option Line
guess_cartan ws = if length ws == 6 then guess_yes ws else guess_no ws

abbrev pub guess_map : List (List ℕ) → Option Line
guess_map (name ∷ from ∷ to ∷ []) = Some (map_line name from to)
guess_map _ = None

abbrev pub guess_send : List (List ℕ) → Option Line
guess_send (v ∷ w ∷ []) = Some (send_line (number v) (number w))
guess_send _ = None

abbrev pub guess_induced : List (List ℕ) → Option Line
guess_induced (q ∷ []) = Some (induced_line (number q))
guess_induced _ = None

-- by the first word
abbrev pub guess_last : List ℕ → List (List ℕ) → Option Line
guess_last w ws =
    if bytes_eq w (codes "end") then Some end_line
    else (if bytes_eq w (codes "prime") then guess_prime ws
    else (if bytes_eq w (codes "comch") then Some heading_line
    else (if bytes_eq w (codes "done") then Some done_line else None)))

abbrev pub guess_head : List ℕ → List (List ℕ) → Option Line
guess_head w ws =
    if bytes_eq w (codes "degree") then guess_degree ws
    else (if bytes_eq w (codes "send") then guess_send ws
    else (if bytes_eq w (codes "induced") then guess_induced ws
    else (if bytes_eq w (codes "complex") then guess_complex ws
    else (if bytes_eq w (codes "map") then guess_map ws else guess_last w ws))))

abbrev pub guess_table : List ℕ → List (List ℕ) → Option Line
guess_table w ws =
    if bytes_eq w (codes "column") then guess_column ws
    else (if bytes_eq w (codes "cartan") then guess_cartan ws
    else (if bytes_eq w (codes "product") then guess_product ws
    else (if bytes_eq w (codes "operation") then guess_operation ws
    else (if bytes_eq w (codes "facet") then guess_facet ws else guess_head w ws))))

abbrev pub guess_line : List ℕ → List (List ℕ) → Option Line
guess_line w ws =
    if bytes_eq w (codes "with") then Some (with_line (chain_of ws))
    else (if bytes_eq w (codes "below") then Some (below_line (chain_of ws))
    else (if bytes_eq w (codes "class") then Some (class_line (chain_of ws))
    else (if bytes_eq w (codes "cycle") then Some (cycle_line (chain_of ws)) else guess_table w ws)))

abbrev pub guess : List (List ℕ) → Option Line
guess [] = None
guess (w ∷ ws) = guess_line w ws

abbrev pub if_same : List ℕ → Line → Option Line
if_same bytes l = if bytes_eq (spelled l) bytes then Some l else None

abbrev pub line_at : List ℕ → Option Line
line_at bytes = guess (slice_split (λ b. b == 32) bytes) >>= if_same bytes

abbrev pub read : State → List (List ℕ) → Option State
read s [] = Some s
read s (b ∷ bs) = line_at b >>= λ l. (step s l >>= λ t. read t bs)

-- ---- a whole text

-- behind the last byte 10
abbrev pub ended_at : ℕ → State → List ℕ → Result Report ℕ
ended_at n (Finished f ms) [] = Ok (report_of f ms)
ended_at n _ _ = Err n

abbrev pub after : State → List ℕ → Option State
after s b = line_at b >>= step s

abbrev pub or_refused : ℕ → Option State → (State → Result Report ℕ) → Result Report ℕ
or_refused n None f = Err n
or_refused n (Some t) f = f t

-- the pieces from number n on
abbrev pub read_from : ℕ → State → List (List ℕ) → Result Report ℕ
read_from n s [] = Err n
read_from n s (b ∷ []) = ended_at n s b
read_from n s (b ∷ c ∷ more) = or_refused n (after s b) (λ t. read_from (n + 1) t (c ∷ more))

-- the report that the text spells, or the first line that is refused
abbrev pub read_text : List ℕ → Result Report ℕ
read_text text = read_from 1 AtStart (pieces text)

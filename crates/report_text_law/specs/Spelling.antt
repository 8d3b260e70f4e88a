-- How each line is spelled, and in which text it stands.
use Rattle.std.specs.{Prelude.{ℕ, Bool, true, List, [], ◌∷◌, ◌++◌, codes, map, flat_map, if◌then◌else◌}, Fmt.decimal}
use Rattle.report_text_law.specs.{Types.{OpWord, Form, Basis, Short, Certificate}, Lines.{Chain, Line, heading_line, prime_line, complex_line, facet_line, degree_line, below_line, class_line, product_line, pair_line, with_line, operation_line, column_line, cartan_yes, cartan_no, cycle_line, end_line, map_line, send_line, induced_line, done_line}}
use Rattle.report.specs.{Names.{has_details, has_tables}, declared.columns.OpWord.TheVariants.{Sq, Power, BocksteinPower}}

-- ---- the words of a line

abbrev pub form_word : Form → List ℕ
form_word Basis = codes "basis"
form_word Short = codes "report"
form_word Certificate = codes "certificate"

abbrev pub op_word : OpWord → List ℕ
op_word Sq = codes "Sq"
op_word Power = codes "P"
op_word BocksteinPower = codes "bP"

-- words with a byte between them
abbrev pub behind : ℕ → List ℕ → List ℕ
behind b w = b ∷ w

abbrev pub joined : ℕ → List (List ℕ) → List ℕ
joined b [] = []
joined b (w ∷ ws) = w ++ flat_map (behind b) ws

-- a coefficient, a colon, and the vertices with full stops between them
abbrev pub term_word : ℕ × List ℕ → List ℕ
term_word t = joined 58 (decimal t.0 ∷ joined 46 (map decimal t.1) ∷ [])

abbrev pub chain_words : Chain → List (List ℕ)
chain_words [] = codes "0" ∷ []
chain_words (t ∷ ts) = term_word t ∷ map term_word ts

abbrev pub words : Form → Line → List (List ℕ)
words f heading_line = codes "comch" ∷ form_word f ∷ codes "1" ∷ []
words f (prime_line p) = codes "prime" ∷ decimal p ∷ []
words f (complex_line name) = codes "complex" ∷ name ∷ []
words f (facet_line vs) = codes "facet" ∷ map decimal vs
words f (degree_line n h) = codes "degree" ∷ decimal n ∷ codes "rank" ∷ decimal h ∷ []
words f (below_line ts) = codes "below" ∷ chain_words ts
words f (class_line ts) = codes "class" ∷ chain_words ts
words f (product_line a b) = codes "product" ∷ decimal a ∷ decimal b ∷ []
words f (pair_line i j vs) = codes "column" ∷ decimal i ∷ decimal j ∷ codes "is" ∷ map decimal vs
words f (with_line ts) = codes "with" ∷ chain_words ts
words f (operation_line w k q n) = codes "operation" ∷ op_word w ∷ decimal k ∷ codes "from" ∷ decimal q ∷ codes "to" ∷ decimal n ∷ []
words f (column_line j vs) = codes "column" ∷ decimal j ∷ codes "is" ∷ map decimal vs
words f (cartan_yes a i b j n) = codes "cartan" ∷ decimal a ∷ decimal i ∷ decimal b ∷ decimal j ∷ decimal n ∷ codes "yes" ∷ []
words f (cartan_no a i b j n v) = codes "cartan" ∷ decimal a ∷ decimal i ∷ decimal b ∷ decimal j ∷ decimal n ∷ codes "no" ∷ decimal v ∷ []
words f (cycle_line ts) = codes "cycle" ∷ chain_words ts
words f end_line = codes "end" ∷ []
words f (map_line name from to) = codes "map" ∷ name ∷ from ∷ to ∷ []
words f (send_line v w) = codes "send" ∷ decimal v ∷ decimal w ∷ []
words f (induced_line q) = codes "induced" ∷ decimal q ∷ []
words f done_line = codes "done" ∷ []

-- ---- which lines stand in which text

abbrev pub stands : Form → Line → Bool
stands f (facet_line vs) = has_details f
stands f (send_line v w) = has_details f
stands f (below_line ts) = has_details f
stands f (with_line ts) = has_details f
stands f (cycle_line ts) = has_details f
stands f (product_line a b) = has_tables f
stands f (pair_line i j vs) = has_tables f
stands f (operation_line w k q n) = has_tables f
stands f (column_line j vs) = has_tables f
stands f (cartan_yes a i b j n) = has_tables f
stands f (cartan_no a i b j n v) = has_tables f
stands f (induced_line q) = has_tables f
stands f _ = true

-- a line with its byte 10, or nothing where it does not stand
abbrev pub ended : List ℕ → List ℕ
ended line = line ++ 10 ∷ []

abbrev pub shown : Form → Line → List ℕ
shown f l = if stands f l then ended (joined 32 (words f l)) else []

abbrev pub printed : Form → List Line → List ℕ
printed f ls = flat_map (shown f) ls

-- a verdict's line up to its answer
abbrev pub cartan_front : ℕ → ℕ → ℕ → ℕ → ℕ → List ℕ
cartan_front a i b j n = joined 32 (codes "cartan" ∷ decimal a ∷ decimal i ∷ decimal b ∷ decimal j ∷ decimal n ∷ [])

-- Which words are taken, and what they ask for.
use Rattle.std.specs.{Prelude.{◌≤◌, ◌^◌, ℕ, ◌&&◌, nat_le, length, List, [], ◌∷◌, Some, None, IsTrue, codes, if◌then◌else◌, option_and_then, option_map}, declared.option.Option.Option, Str.bytes_eq}
use Rattle.clap.specs.Words.{Text}
use Rattle.fp_field.specs.Served.{served}
use Rattle.complex_file.specs.Names.{is_not_empty, number_after}
use Rattle.comch_app.specs.{declared.request.Request.Request, declared.request.Request.TheVariants.{Basis, Bockstein, Report, Certify, Check, May, Sample}, CommandLine.{Given, given}}

-- the number that a word of one to thirteen digits writes
unfoldable pub number_word : Text → Option ℕ
number_word word = if is_not_empty word && nat_le (length word) 13 then number_after 0 word else None

-- `basis`, `bockstein` and `check` stand without numbers and without `--terms`
abbrev pub alone : Request → List Text → Option Text → Option Request
alone request [] None = Some request
alone request _ _ = None

-- the limit that `--terms` gives, from 1 to 10^12, and 10^8 where it does not stand
abbrev pub limit_of : Option Text → Option ℕ
limit_of None = Some (10 ^ 8)
limit_of (Some word) = option_and_then (λ n. if nat_le 1 n && nat_le n (10 ^ 12) then Some n else None) (number_word word)

-- `report` and `certify` stand without numbers
abbrev pub report_request : List Text → Option Text → Option Request
report_request [] terms = option_map Report (limit_of terms)
report_request _ _ = None

abbrev pub certify_request : List Text → Option Text → Option Request
certify_request [] terms = option_map Certify (limit_of terms)
certify_request _ _ = None

-- the prime is one that is served, and the degree is from 0 to 60
abbrev pub may_at : ℕ → ℕ → Option Request
may_at p d = if served p && nat_le d 60 then Some (May p d) else None

-- `may` stands with a prime and a degree, without `--terms`
abbrev pub may_request : List Text → Option Text → Option Request
may_request (p ∷ d ∷ []) None = option_and_then (λ prime. option_and_then (λ degree. may_at prime degree) (number_word d)) (number_word p)
may_request _ _ = None

-- the number of a torus is from 1 to 994
abbrev pub sample_at : ℕ → ℕ → Option Request
sample_at n p = if (nat_le 1 n && nat_le n 994) && served p then Some (Sample n p) else None

-- `sample` stands with a number and a prime, without `--terms`
abbrev pub sample_request : List Text → Option Text → Option Request
sample_request (n ∷ p ∷ []) None = option_and_then (λ number. option_and_then (λ prime. sample_at number prime) (number_word p)) (number_word n)
sample_request _ _ = None

abbrev pub request_named : Text → List Text → Option Text → Option Request
request_named word numbers terms =
    if bytes_eq word (codes "basis") then alone Basis numbers terms
    else (if bytes_eq word (codes "report") then report_request numbers terms
    else (if bytes_eq word (codes "certify") then certify_request numbers terms
    else (if bytes_eq word (codes "bockstein") then alone Bockstein numbers terms
    else (if bytes_eq word (codes "check") then alone Check numbers terms
    else (if bytes_eq word (codes "may") then may_request numbers terms
    else (if bytes_eq word (codes "sample") then sample_request numbers terms else None))))))

abbrev pub request_by : Given → Option Request
request_by g = option_and_then (λ word. request_named word g.numbers g.terms) g.command

-- What the words ask for. They are taken where clap takes them and one row of the table of commands fits.
abbrev pub request_of : List Text → Option Request
request_of words = option_and_then request_by (given words)

-- the numbers of a request are within their limits
abbrev pub IsAnswerable : Request → Type 0
IsAnswerable Basis = Unit {0}
IsAnswerable (Report limit) = limit ≤ 10 ^ 12
IsAnswerable (Certify limit) = limit ≤ 10 ^ 12
IsAnswerable Bockstein = Unit {0}
IsAnswerable Check = Unit {0}
IsAnswerable (Sample n p) = ((1 ≤ n) × (n ≤ 994)) × IsTrue (served p)
IsAnswerable (May p d) = IsTrue (served p) × (d ≤ 60)

-- the request is answered from what is read
abbrev pub ReadsInput : Option Request → Type 0
ReadsInput (Some Basis) = Unit {0}
ReadsInput (Some (Report limit)) = Unit {0}
ReadsInput (Some (Certify limit)) = Unit {0}
ReadsInput (Some Bockstein) = Unit {0}
ReadsInput (Some Check) = Unit {0}
ReadsInput _ = ⊥

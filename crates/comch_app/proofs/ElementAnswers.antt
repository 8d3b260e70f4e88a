-- What is known of a request, and of the candidates of an element.
use Rattle.std.{proofs.Common.{◌≡◌, ℕ, ◌≤◌, ◌^◌, ◌&&◌, Bool, true, false, List, [], ◌∷◌, Some, None, Ok, Err, Result, IfOk, IfSome, ℤ, if◌then◌else◌, nat_le, option_and_then, option_map, refl, arith, codes, bytes_eq, leb-true}, specs.declared.option.Option.Option, specs.Cmp.Lexicographic.slice_cmp, specs.Ordering.nat_cmp}
use Rattle.operad_law.specs.FormalSums.{IsFormalSum, IsSameSum}
use Rattle.table_reduction_law.specs.Names.{may_element}
use Rattle.clap.specs.Words.{Text}
use Rattle.fp_field.specs.Served.{served}
use Rattle.may_elements.specs.Counted.{cut_off}
use Rattle.comch_app.specs.{Names.{IsElementText, Given, element_text, Request, Basis, Bockstein, Certify, Check, May, Report, Sample, IsAnswerable, alone, certify_request, limit_of, may_request, sample_request, report_request, request_by}, Requests.number_word}

both : (a b : Bool) → (a && b) ≡ true → (a ≡ true) × (b ≡ true)
both true b e = (refl, e)
both false b e = cc

served_if : (p d : ℕ) (b : Bool) → (served p && nat_le d 60) ≡ b → IfSome (if b then Some (May p d) else None) IsAnswerable
served_if p d true e = let h = both (served p) (nat_le d 60) e in (h.0, leb-true d 60 h.1)
served_if p d false e = tt

either : (b : Bool) (x y : Option Request) → IfSome x IsAnswerable → IfSome y IsAnswerable → IfSome (if b then x else y) IsAnswerable
either true x y h k = h
either false x y h k = k

from : {X : Type 0} (o : Option X) (f : X → Option Request) → ((x : X) → IfSome (f x) IsAnswerable) → IfSome (option_and_then f o) IsAnswerable
from None f h = tt
from (Some x) f h = h x

alone_known : (r : Request) → IsAnswerable r → (ns : List Text) (t : Option Text) → IfSome (alone r ns t) IsAnswerable
alone_known r h [] None = h
alone_known r h [] (Some t) = tt
alone_known r h (n ∷ ns) t = tt

limited : (n : ℕ) (b : Bool) → (nat_le 1 n && nat_le n (10 ^ 12)) ≡ b → IfSome (if b then Some n else None) (λ l. l ≤ 10 ^ 12)
limited n true e = leb-true n (10 ^ 12) (both (nat_le 1 n) (nat_le n (10 ^ 12)) e).1
limited n false e = tt

limit_from : (o : Option ℕ) → IfSome (option_and_then (λ n. if nat_le 1 n && nat_le n (10 ^ 12) then Some n else None) o) (λ l. l ≤ 10 ^ 12)
limit_from None = tt
limit_from (Some n) = limited n (nat_le 1 n && nat_le n (10 ^ 12)) refl

limit_known : (t : Option Text) → IfSome (limit_of t) (λ l. l ≤ 10 ^ 12)
limit_known None = omega arith
limit_known (Some word) = limit_from (number_word word)

mapped : (o : Option ℕ) (f : ℕ → Request) → ((l : ℕ) → l ≤ 10 ^ 12 → IsAnswerable (f l)) → IfSome o (λ l. l ≤ 10 ^ 12) → IfSome (option_map f o) IsAnswerable
mapped None f h k = tt
mapped (Some l) f h k = h l k

report_known : (ns : List Text) (t : Option Text) → IfSome (report_request ns t) IsAnswerable
report_known [] t = mapped (limit_of t) Report (λ l h. h) (limit_known t)
report_known (n ∷ ns) t = tt

certify_known : (ns : List Text) (t : Option Text) → IfSome (certify_request ns t) IsAnswerable
certify_known [] t = mapped (limit_of t) Certify (λ l h. h) (limit_known t)
certify_known (n ∷ ns) t = tt

may_known : (ns : List Text) (t : Option Text) → IfSome (may_request ns t) IsAnswerable
may_known [] t = tt
may_known (p ∷ []) t = tt
may_known (p ∷ d ∷ []) None = from (number_word p) _ (λ prime. from (number_word d) _ (λ degree. served_if prime degree (served prime && nat_le degree 60) refl))
may_known (p ∷ d ∷ []) (Some t) = tt
may_known (p ∷ d ∷ n ∷ ns) t = tt

number_if : (n p : ℕ) (b : Bool) → ((nat_le 1 n && nat_le n 994) && served p) ≡ b → IfSome (if b then Some (Sample n p) else None) IsAnswerable
number_if n p true e =
    let h = both (nat_le 1 n && nat_le n 994) (served p) e in
    let k = both (nat_le 1 n) (nat_le n 994) h.0 in
    ((leb-true 1 n k.0, leb-true n 994 k.1), h.1)
number_if n p false e = tt

sample_known : (ns : List Text) (t : Option Text) → IfSome (sample_request ns t) IsAnswerable
sample_known [] t = tt
sample_known (n ∷ []) t = tt
sample_known (n ∷ p ∷ []) None = from (number_word n) _ (λ number. from (number_word p) _ (λ prime. number_if number prime ((nat_le 1 number && nat_le number 994) && served prime) refl))
sample_known (n ∷ p ∷ []) (Some t) = tt
sample_known (n ∷ p ∷ q ∷ ns) t = tt

-- the prime and the degree of a request are within their limits
pub answerable : (g : Given) → IfSome (request_by g) IsAnswerable
answerable g = from g.command _ (λ word.
    either (bytes_eq word (codes "basis")) _ _ (alone_known Basis tt g.numbers g.terms)
    (either (bytes_eq word (codes "report")) _ _ (report_known g.numbers g.terms)
    (either (bytes_eq word (codes "certify")) _ _ (certify_known g.numbers g.terms)
    (either (bytes_eq word (codes "bockstein")) _ _ (alone_known Bockstein tt g.numbers g.terms)
    (either (bytes_eq word (codes "check")) _ _ (alone_known Check tt g.numbers g.terms)
    (either (bytes_eq word (codes "may")) _ _ (may_known g.numbers g.terms)
    (either (bytes_eq word (codes "sample")) _ _ (sample_known g.numbers g.terms) tt)))))))

-- the count tells whether the candidates pass the limit
pub few : (n c : ℕ) → c ≡ cut_off n → c ≤ 10 ^ 8 → n ≤ 10 ^ 8
few n c e h = omega (arith, e, h)

pub buildable : (n c : ℕ) → c ≡ cut_off n → c ≤ 10 ^ 8 → n ≤ 10 ^ 12
buildable n c e h = omega (arith, few n c e h)

-- the text of a sum that is the element
pub is_element : {E : Type 0} (p d : ℕ) (ts : List (List ℕ × ℤ)) (r : Result (List ℕ) E) → IsFormalSum (slice_cmp nat_cmp) ts → IsSameSum ts (may_element p d) →
    IfOk r (λ b. b ≡ element_text p d ts) → IfOk r (λ b. IsElementText p d b)
is_element p d ts (Ok b) sum same e = (ts, sum, same, e)
is_element p d ts (Err x) sum same e = tt

-- The answers of `sample`.
use Rattle.std.{proofs.Common.{◌≡◌, ◌+◌, ◌^◌, ℕ, List, ◌++◌, [], ◌∷◌, Ok, Err, Result, IfOk, ap, subst, sym, ◌∙◌, append_assoc}, specs.declared.alloc.AllocError.AllocError}
use Rattle.report_law.specs.Names.{PassesLimit}
use Rattle.sample_torus.specs.Torus.{torus_job}
use Rattle.comch_app.specs.Names.{refusal, SampleAnswers, Status, TooManyTerms}

-- a text that grows by five parts
pub five_parts : (a b c d e start one two three four five : List ℕ) → start ≡ [] → one ≡ start ++ a → two ≡ one ++ b → three ≡ two ++ c → four ≡ three ++ d → five ≡ four ++ e → five ≡ a ++ (b ++ (c ++ (d ++ e)))
five_parts a b c d e start one two three four five none first second third fourth fifth =
    let x : one ≡ a = first ∙ ap (λ (t : List ℕ). t ++ a) none in
    let y : two ≡ a ++ b = second ∙ ap (λ (t : List ℕ). t ++ b) x in
    let z : three ≡ a ++ (b ++ c) = third ∙ ap (λ (t : List ℕ). t ++ c) y ∙ append_assoc a b c in
    let w : four ≡ a ++ (b ++ (c ++ d)) = fourth ∙ ap (λ (t : List ℕ). t ++ d) z ∙ append_assoc a (b ++ c) d ∙ ap (λ (t : List ℕ). a ++ t) (append_assoc b c d) in
    fifth ∙ ap (λ (t : List ℕ). t ++ e) w ∙ append_assoc a (b ++ (c ++ d)) e ∙ ap (λ (t : List ℕ). a ++ t) (append_assoc b (c ++ d) e ∙ ap (λ (t : List ℕ). b ++ t) (append_assoc c d e))

-- counted terms that pass the limit are answered by their refusal
pub sample_passes : (n p count limit : ℕ) (r : Result (Status × List ℕ) AllocError) → IfOk r (λ q. q.0 ≡ TooManyTerms count limit) → IfOk r (λ q. q.1 ≡ refusal (TooManyTerms count limit))
    → (limit ≡ 10 ^ 8) × PassesLimit (torus_job p (n + 6)) (10 ^ 8) count → IfOk r (λ q. SampleAnswers n p q.0 q.1)
sample_passes n p count limit (Err e) status text h = tt
sample_passes n p count limit (Ok (s, t)) status text h = subst (λ (z : Status). SampleAnswers n p z t) (sym status) (h.0, h.1, text)

-- What `sample` answers.
use Rattle.std.specs.Prelude.{◌≡◌, ℕ, ◌+◌, ◌^◌, List, [], ◌∷◌, ◌++◌, codes, flat_map}
use Rattle.sample_torus.specs.{declared.sizes.Sample.Sample, Samples.IsSample, Torus.{torus_facets, torus_job}}
use Rattle.report_law.specs.Names.{PassesLimit}
use Rattle.comch_app.specs.{declared.status.Status.Status, declared.status.Status.TheVariants.{Done, TooManyTerms, OutOfMemory}, Elements.spaced_number, Refusals.{ended, refusal}}

-- a word and numbers behind it
abbrev pub number_line : List ℕ → List ℕ → List ℕ
number_line word ns = ended (word ++ flat_map spaced_number ns)

-- what is shown of the torus of number n at p
abbrev pub sample_text : ℕ → ℕ → Sample → List ℕ
sample_text n p s = number_line (codes "sample") (n ∷ p ∷ []) ++ (number_line (codes "simplices") s.sizes.simplices ++ (number_line (codes "ranks") s.sizes.ranks
    ++ (number_line (codes "terms") (s.terms ∷ []) ++ (ended (codes "check yes") ++ ended (codes "done")))))

-- What may be answered for the torus of number n, which has n + 6 vertices: its sizes and its counted terms, which are at most
-- 10^8, or that they are more.
abbrev pub SampleAnswers : ℕ → ℕ → Status → List ℕ → Type 0
SampleAnswers n p Done text = (s : Sample) × IsSample p (torus_facets (n + 6)) s × (text ≡ sample_text n p s)
SampleAnswers n p (TooManyTerms count limit) text = (limit ≡ 10 ^ 8) × PassesLimit (torus_job p (n + 6)) (10 ^ 8) count × (text ≡ refusal (TooManyTerms count limit))
SampleAnswers n p OutOfMemory text = text ≡ refusal OutOfMemory
SampleAnswers n p _ text = ⊥

use Rattle.std.proofs.Common.{◌≡◌, ◌∙◌, ap, ap₂, List, ℕ, [], ◌∷◌, ◌++◌, pos}
use Rattle.signed_sum.specs.Names.{inversion_count, rearrangement_sign, less, numbers_from, signed}
use Rattle.surjection_law.specs.Names.{arity}
use Rattle.interval_cut_law.specs.Names.{gap_word, sign_exponent, starting_word}
use Rattle.interval_cut.{specs.Names.cut_of, proofs.GapLemmas.{signs_agree, word_rearranged}, proofs.ProductLemmas.small_sign, proofs.WalkLemmas.{is_at, on_walk}}
use Rattle.interval_cut.proofs.cuts.Cuts.word_sign.Goals as goal

pub returns-clause-same : goal.returns-clause-same
returns-clause-same c =
    let a = c.self.inside in
    let s = is_at a.values.items a.top a.stage a.inner.items c.args.self.now c.self.view_is c.requires in
    small_sign (sign_exponent c.args.self.now.values 0 (cut_of c.args.self.now)) c.cut_word_sign.result
    (on_walk a.values.items a.top a.stage a.inner.items c.args.self.now (λ (u p : List ℕ). c.cut_word_sign.result ≡ signed (sign_exponent u 0 p) (pos 1)) c.self.view_is s
    (c.cut_word_sign.ensures
    ∙ ap₂ (λ (u p : List ℕ). signed (inversion_count less (gap_word (numbers_from 1 a.most) u (p ++ (a.top ∷ [])))) (pos 1)) c.as_slice.ensures.value c.as_slice-2.ensures.value
    ∙ ap (λ r. signed (inversion_count less (gap_word (numbers_from 1 r) a.values.items (a.inner.items ++ (a.top ∷ [])))) (pos 1)) c.self.invariant.most
    ∙ signs_agree _ a.values.items (a.inner.items ++ (a.top ∷ [])) c.self.invariant.surjection.onto c.self.invariant.cut))

pub returns-clause-word : goal.returns-clause-word
returns-clause-word c =
    let a = c.self.inside in
    let s = is_at a.values.items a.top a.stage a.inner.items c.args.self.now c.self.view_is c.requires in
    returns-clause-same c
    ∙ on_walk a.values.items a.top a.stage a.inner.items c.args.self.now
    (λ (u p : List ℕ). signed (sign_exponent u 0 p) (pos 1) ≡ rearrangement_sign (gap_word (numbers_from 1 (arity u)) u p) (starting_word u c.args.self.now.top)) c.self.view_is s
    (word_rearranged (arity a.values.items) a.values.items a.inner.items a.top c.args.self.now.top (ap (λ w. w.top) c.self.view_is) c.self.invariant.surjection.onto c.self.invariant.cut)

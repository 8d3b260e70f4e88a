use Rattle.std.proofs.Common.{refl, []}
use Rattle.comch_app.{proofs.Endings.{memory_ends, memory_ends_may, memory_ends_sample, none_given, one_sample, memory_ends_words, one_element, words_end}, specs.Names.{Ends, MayAnswers, SampleAnswers}, proofs.Verdicts.complete_of}
use Rattle.comch_app.specs.declared.answer.Asked.TheVariants as asked
use Rattle.comch_app.specs.declared.answer.Wanted.TheVariants as wanted
use Rattle.report.specs.declared.form.Form.TheVariants as form
use Rattle.comch_app.proofs.top.run.Goals as goal

pub returns-in-Err-clause-refuses : goal.returns-in-Err-clause-refuses
returns-in-Err-clause-refuses g c none = (memory_ends_words _ _ _ c.said.ensures.says, refl)

pub returns-in-Err-clause-basis : goal.returns-in-Err-clause-basis
returns-in-Err-clause-basis g c some = memory_ends (asked.OfJob wanted.Bases) _ _ _ _ _ _ [] _ _ _ (none_given _ _) c.said.ensures.says

pub returns-in-Err-clause-report : goal.returns-in-Err-clause-report
returns-in-Err-clause-report g c limit some = memory_ends (asked.OfJob (wanted.Report form.Short limit)) _ _ _ _ _ _ [] _ _ _ (none_given _ _) c.said.ensures.says

pub returns-in-Err-clause-certify : goal.returns-in-Err-clause-certify
returns-in-Err-clause-certify g c limit some = memory_ends (asked.OfJob (wanted.Report form.Certificate limit)) _ _ _ _ _ _ [] _ _ _ (none_given _ _) c.said.ensures.says

pub returns-in-Err-clause-bockstein : goal.returns-in-Err-clause-bockstein
returns-in-Err-clause-bockstein g c some = memory_ends (asked.OfJob wanted.Bocksteins) _ _ _ _ _ _ [] _ _ _ (none_given _ _) c.said.ensures.says

pub returns-in-Err-clause-check : goal.returns-in-Err-clause-check
returns-in-Err-clause-check g c some = memory_ends asked.Verdict _ _ _ _ _ _ [] _ _ _ (none_given _ _) c.said.ensures.says

pub returns-in-Err-clause-complete : goal.returns-in-Err-clause-complete
returns-in-Err-clause-complete g c some =
    let left = g.S.Source.left c.args.source.now in
    let given = g.S.Source.given c.args.source.now in
    let faults = g.S.Source.faults c.args.source.now in
    complete_of left left given given faults faults _ _ _ (memory_ends asked.Verdict left left given given faults faults [] _ _ _ (none_given left given) c.said.ensures.says)

pub returns-in-Ok-Some-Check-clause-complete : goal.returns-in-Ok-Some-Check-clause-complete
returns-in-Ok-Some-Check-clause-complete g c some = complete_of (g.S.Source.left c.args.source.now) _ _ _ _ _ _ _ _ c.reading_run-in-Ok-Some-Check.ensures.answers

pub returns-in-Err-clause-may : goal.returns-in-Err-clause-may
returns-in-Err-clause-may g c p d some = (memory_ends_may p d _ _ _ c.said.ensures.says, refl)

pub returns-in-Err-clause-sample : goal.returns-in-Err-clause-sample
returns-in-Err-clause-sample g c n p some = (memory_ends_sample n p _ _ _ c.said.ensures.says, refl)

pub returns-in-Ok-None-clause-refuses : goal.returns-in-Ok-None-clause-refuses
returns-in-Ok-None-clause-refuses g c none = (words_end _ _ _ c.said-in-Ok-None.ensures.says, refl)

pub returns-in-Ok-Some-May-clause-may : goal.returns-in-Ok-Some-May-clause-may
returns-in-Ok-Some-May-clause-may g c p d some = (
  one_element (λ q n. Ends (MayAnswers q n) (g.K.Sink.written c.args.sink.now) (g.K.Sink.written c.may_run.new.sink) c.may_run.result) _ _ c.in-Ok-Some-May.field-0-0 c.in-Ok-Some-May.prime c.in-Ok-Some-May.degree p d
      c.in-Ok-Some-May.field-0-is c.in-Ok-Some-May.field-0-0-is c.in-Ok-Some-May.ensures.request some c.may_run.ensures.answers,
  refl,
)

pub returns-in-Ok-Some-Sample-clause-sample : goal.returns-in-Ok-Some-Sample-clause-sample
returns-in-Ok-Some-Sample-clause-sample g c n p some = (
  one_sample (λ a q. Ends (SampleAnswers a q) (g.K.Sink.written c.args.sink.now) (g.K.Sink.written c.sample_run.new.sink) c.sample_run.result) _ _ c.in-Ok-Some-Sample.field-0-0 c.in-Ok-Some-Sample.number c.in-Ok-Some-Sample.prime n p
      c.in-Ok-Some-Sample.field-0-is c.in-Ok-Some-Sample.field-0-0-is c.in-Ok-Some-Sample.ensures.request some c.sample_run.ensures.answers,
  refl,
)

-- The definitions that others cite, passed on from one place. Declares nothing.
pub use Rattle.comch_app.specs.declared.answer.Asked.{Asked}
pub use Rattle.comch_app.specs.declared.answer.Stop.{Stop}
pub use Rattle.comch_app.specs.declared.answer.Wanted.{Wanted}
pub use Rattle.comch_app.specs.declared.request.Request.{Request}
pub use Rattle.comch_app.specs.declared.request.Request.TheVariants.{Basis, Bockstein, Certify, Check, May, Report, Sample}
pub use Rattle.comch_app.specs.declared.status.Status.{Status}
pub use Rattle.comch_app.specs.declared.status.Status.TheVariants.{BadWords, Done, InputRefused, No, OutOfMemory, ReadFault, TooManyTerms, WriteFault}
pub use Rattle.comch_app.specs.Codes.{code_of}
pub use Rattle.comch_app.specs.CommandLine.{Given, GivesUp, IsRule, bare, command_rule, given, given_at, given_by, given_in, numbers_rule, terms_rule}
pub use Rattle.comch_app.specs.Requests.{IsAnswerable, ReadsInput, alone, certify_request, limit_of, may_at, may_request, report_request, request_by, request_named, request_of, sample_at, sample_request}
pub use Rattle.comch_app.specs.Refusals.{refusal}
pub use Rattle.comch_app.specs.Elements.{element_heading, element_text, spaced_number, term_line}
pub use Rattle.comch_app.specs.Answers.{AtFault, BocksteinAnswers, Ends, EndsRead, InputAnswers, IsElementText, IsReportText, JobAnswers, MayAnswers, RefusesWords, WritesRefusal}
pub use Rattle.comch_app.specs.Checks.{CheckAnswers, IsCertified, IsNo, IsRefuted, IsShown}
pub use Rattle.comch_app.specs.Samples.{SampleAnswers, number_line, sample_text}
pub use Rattle.comch_app.specs.Steps.{AnswersRead, AskedAnswers, IsAskable, IsMade, IsReadWhole, IsWithinMost, SaidCause, SaysIt, StopCause, WantedOf, most_bytes}

use Rattle.std.proofs.Common.{List, ap, get_or, ◌∙◌}
use Rattle.complex_file.specs.{declared.block.ComplexBlock.ComplexBlock, Names.content}
use Rattle.certificate_law.proofs.WrittenJobs.{well_formed_law, writable}
use Rattle.sample_torus.proofs.SampleLemmas.{few_stated, job_certifies, shown_one, shown_sample}
use Rattle.sample_torus.proofs.sizes.shown.Goals as goal

pub certified-requires-clause-well_formed : goal.certified-requires-clause-well_formed
certified-requires-clause-well_formed c = well_formed_law (content c.args.job.now) c.args.report.now c.requires.kept c.requires.report

pub certified-requires-clause-few : goal.certified-requires-clause-few
certified-requires-clause-few c = few_stated (content c.args.job.now) c.args.report.now c.requires.kept c.requires.report

pub certified-requires-clause-certifies : goal.certified-requires-clause-certifies
certified-requires-clause-certifies c = job_certifies (content c.args.job.now) c.args.report.now c.requires.kept c.requires.report c.requires.within

pub sized-requires-clause-prime : goal.sized-requires-clause-prime
sized-requires-clause-prime c = (writable (content c.args.job.now) c.requires.kept).prime

pub sized-requires-clause-part : goal.sized-requires-clause-part
sized-requires-clause-part c = (shown_one (content c.args.job.now) c.args.report.now c.index-as_slice-0.result c.index-as_slice-0-2.result c.as_slice.result.now c.as_slice-2.result.now c.requires.kept c.requires.report c.requires.within c.requires.one c.as_slice.ensures c.index-as_slice-0.is c.as_slice-2.ensures c.index-as_slice-0-2.is).can

pub sized-requires-clause-within : goal.sized-requires-clause-within
sized-requires-clause-within c = (shown_one (content c.args.job.now) c.args.report.now c.index-as_slice-0.result c.index-as_slice-0-2.result c.as_slice.result.now c.as_slice-2.result.now c.requires.kept c.requires.report c.requires.within c.requires.one c.as_slice.ensures c.index-as_slice-0.is c.as_slice-2.ensures c.index-as_slice-0-2.is).within

pub returns : goal.returns
returns c =
    shown_sample c.args.job.now.prime c.args.job.now.complexes c.index-as_slice-0.result c.index-as_slice-0-2.result c.sized.result
    (shown_one (content c.args.job.now) c.args.report.now c.index-as_slice-0.result c.index-as_slice-0-2.result c.as_slice.result.now c.as_slice-2.result.now c.requires.kept c.requires.report c.requires.within c.requires.one c.as_slice.ensures c.index-as_slice-0.is c.as_slice-2.ensures c.index-as_slice-0-2.is)
    (c.index-as_slice-0.is ∙ ap (λ (l : List ComplexBlock). get_or l 0 c.index-as_slice-0.result) c.as_slice.ensures) c.sized.ensures.sizes c.sized.ensures.terms

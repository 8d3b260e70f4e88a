use Rattle.std.proofs.Common.{◌≡◌, true, ap, subst, sym}
use Rattle.complex_file.specs.{declared.place.Reader.Reader, Jobs.is_job, Names.Spelled}
use Rattle.complex_file.proofs.JobLemmas.{spelled_job}
use Rattle.complex_file.proofs.input.read_job.Goals as goal

pub invariant_of-result : goal.invariant_of-result
invariant_of-result c = record {
  kept = subst (λ (s : Spelled). is_job s.prime s.complexes s.maps ≡ true) (sym (ap (λ (r : Reader). r.blocks) c.reader.view_is))
      (spelled_job c.args.bytes.now _ c.in_ok-read_input.ensures);
}

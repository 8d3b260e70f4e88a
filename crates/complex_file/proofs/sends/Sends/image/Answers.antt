use Rattle.std.{proofs.Common.{◌∙◌, List, ap, ℕ, unwrap_or}, specs.declared.option.Option.Option}
use Rattle.complex_file.{specs.Names.{Sent, image}, proofs.MapLemmas.image_by_lookup}
use Rattle.complex_file.proofs.sends.Sends.image.Goals as goal

pub returns : goal.returns
returns c =
    c.unwrap_or.ensures ∙ ap (λ (o : Option ℕ). unwrap_or o 0) (c.copied.ensures ∙ c.get.ensures.value)
    ∙ image_by_lookup c.self.inside.images.entries c.args.v ∙ ap (λ (s : List Sent). image s c.args.v) c.self.view_is

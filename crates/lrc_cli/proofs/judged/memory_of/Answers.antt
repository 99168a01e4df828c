use Rattle.std.proofs.Common.{◌∙◌, Some, ap, option_map, sym}
use Rattle.lrc_page.specs.Page.{words_of}
use Rattle.lrc_cli_args.specs.declared.choice.ExactOptions.{ExactOptions}
use Rattle.lrc_cli.proofs.judged.memory_of.Goals as goal

pub returns-in-Some : goal.returns-in-Some
returns-in-Some c = record {
  pages = ap Some (c.from.ensures ∙ c.words.ensures) ∙ sym (ap (option_map (λ (exact : ExactOptions). words_of exact.size)) c.in-Some.is);
  collections = sym (ap (option_map (λ (exact : ExactOptions). exact.collect.count)) c.in-Some.is);
}

pub returns-in-None : goal.returns-in-None
returns-in-None c = record {
  pages = sym (ap (option_map (λ (exact : ExactOptions). words_of exact.size)) c.in-None.is);
  collections = sym (ap (option_map (λ (exact : ExactOptions). exact.collect.count)) c.in-None.is);
}

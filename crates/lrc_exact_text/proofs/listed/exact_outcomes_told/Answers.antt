use Rattle.std.proofs.Common.{ap, subst, sym}
use Rattle.std.specs.Prelude.{◌≡◌, IfErr, IfOk}
use Rattle.lrc_exact.specs.Rule.{Shape}
use Rattle.lrc_exact_search.specs.Searching.{MeetsMore}
use Rattle.lrc_node.specs.Options.{options_of}
use Rattle.lrc_orders.specs.declared.search.ExploreFault.TheVariants.{TooMany}
use Rattle.lrc_text.specs.Parts.{whole_text}
use Rattle.lrc_exact_text.specs.Listed.{FitExactRuns, TellsExactOutcomes}
use Rattle.lrc_exact_text.proofs.listed.exact_outcomes_told.Goals as goal

pub told_in-requires : goal.told_in-requires
told_in-requires c = sym (ap (λ (s : Shape). s.nodes) c.layout_in-layout.ensures)

pub returns-clause-told : goal.returns-clause-told
returns-clause-told c =
    subst (λ (s : Shape). IfOk c.told_in.result (λ parts. TellsExactOutcomes c.args.program.now s (options_of c.args.setting.now) c.args.tries (whole_text parts.items)))
    c.layout_in-layout.ensures c.told_in.ensures.told

pub returns-clause-fits : goal.returns-clause-fits
returns-clause-fits c =
    subst (λ (s : Shape). IfOk c.told_in.result (λ parts. FitExactRuns c.args.program.now s c.args.most)) c.layout_in-layout.ensures c.told_in.ensures.fits

pub returns-clause-too_many : goal.returns-clause-too_many
returns-clause-too_many c =
    subst (λ (s : Shape). IfErr c.told_in.result (λ fault. fault ≡ TooMany → MeetsMore c.args.program.now s c.args.most)) c.layout_in-layout.ensures
    c.told_in.ensures.too_many

-- By each option in turn.
use Rattle.std.proofs.Common.{◌∙◌, ap₂}
use Rattle.std.specs.Option.{option_or}
use Rattle.lrc_more_words.specs.Number.{misfit}
use Rattle.lrc_more_words.proofs.number.misfit.Goals as goal

pub returns : goal.returns
unfolding misfit
returns c =
    c.or-5.ensures ∙ ap₂ option_or
    (c.or-4.ensures ∙ ap₂ option_or
    (c.or-3.ensures ∙ ap₂ option_or
    (c.or-2.ensures ∙ ap₂ option_or
    (c.or.ensures ∙ ap₂ option_or c.misfit_in.ensures c.misfit_in-2.ensures)
    c.misfit_in-3.ensures) c.misfit_in-4.ensures) c.misfit_in-5.ensures) c.misfit_in-6.ensures

-- Something is declared at the place of the name.
use Rattle.std.proofs.Common.{is_some, sym, ap, ◌∙◌}
use Rattle.lrc_named_names.specs.Names.{meaning_at}
use Rattle.lrc_named_names.specs.View.{declared_of}
use Rattle.lrc_named_faults.proofs.Finding.{is_some-option_map}
use Rattle.lrc_named_faults.proofs.values.is_declared.Goals as goal

pub returns : goal.returns
returns c =
    c.is_some.ensures ∙ sym (is_some-option_map _ c.meaning.result) ∙ ap is_some (c.meaning.ensures ∙ ap (λ n. meaning_at (declared_of c.args.names.now) n) c.place.ensures)

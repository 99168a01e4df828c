-- What is printed of each of those so far.
use Rattle.std.proofs.Common.{◌≡◌, Some}
use Rattle.std.specs.Prelude.{slice_get, slice_index}
use Rattle.lrc_why.specs.Spread.{OfEach}
use Rattle.lrc_why_text.specs.declared.asked.Asked.{Asked}
use Rattle.lrc_why_run.specs.Answers.{TellsAt}
use Rattle.lrc_why_run.proofs.run.told_each.Given as goal

abbrev pub invariant-loop-one : goal.invariant-loop-one
invariant-loop-one l = OfEach l.one-index (λ place part. (one : Asked) → slice_get l.asked place ≡ Some one
    → TellsAt l.source.text l.source.names l.shown l.source.program l.nodes l.page (slice_index l.statements one.act) one part.items) l.parts.items

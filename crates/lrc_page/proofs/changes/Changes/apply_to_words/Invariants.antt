use Rattle.std.proofs.Common.{◌≡◌, take}
use Rattle.lrc_page.specs.Changes.{applied}
use Rattle.lrc_page.proofs.changes.Changes.apply_to_words.Given as goal

abbrev pub invariant-loop-change : goal.invariant-loop-change
invariant-loop-change l = l.page ≡ applied l.initial.page (take l.change-index l.change-items)

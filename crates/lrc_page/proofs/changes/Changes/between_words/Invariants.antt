use Rattle.std.proofs.Common.{◌≡◌, take}
use Rattle.lrc_page.specs.Changes.{changes_between}
use Rattle.lrc_page.proofs.changes.Changes.between_words.Given as goal

abbrev pub invariant-loop-offset : goal.invariant-loop-offset
invariant-loop-offset l = l.changes ≡ changes_between l.twin (take l.offset l.page)

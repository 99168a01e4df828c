-- What was added so far.
use Rattle.std.proofs.Common.{◌≡◌, ◌++◌, take}
use Rattle.lrc_state_text.specs.Json.{later}
use Rattle.lrc_state_text.specs.Copies.{page_text}
use Rattle.lrc_state_text.proofs.copies.push_later.Given as goal

abbrev pub invariant-loop-page : goal.invariant-loop-page
invariant-loop-page l = l.text.items ≡ l.fn.text.items ++ later (page_text l.memory.size l.memory.memory) (take l.page-index l.pages)

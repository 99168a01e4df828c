use Rattle.std.proofs.Common.{◌≡◌, true}
use Rattle.std.specs.Prelude.{take, nat_lt}
use Rattle.std.specs.List.{list_all}
use Rattle.lrc_node.proofs.pages.replies.are_on_page.Given as goal

abbrev pub invariant-loop-place : goal.invariant-loop-place
invariant-loop-place l = list_all (λ change. nat_lt change.offset l.words) (take l.place l.changes) ≡ true

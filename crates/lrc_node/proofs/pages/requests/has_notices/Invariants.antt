use Rattle.std.proofs.Common.{◌≡◌, true, take}
use Rattle.std.specs.Prelude.{is_some}
use Rattle.std.specs.List.{list_all}
use Rattle.lrc_store.specs.Store.{notice_at}
use Rattle.lrc_node.proofs.pages.requests.has_notices.Given as goal

-- those so far are stored and name the page
abbrev pub invariant-loop-index : goal.invariant-loop-index
invariant-loop-index l =
    list_all (λ index. is_some (notice_at l.memory.memory.store (record { node = l.node; index = index; page = l.page }))) (take l.index-index l.indices) ≡ true

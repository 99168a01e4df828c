use Rattle.std.proofs.Common.{◌≡◌, length, take, map}
use Rattle.std.specs.Prelude.{filter, not}
use Rattle.lrc_protocol.specs.Pages.{is_readable, need_of, copy_at}
use Rattle.lrc_node.proofs.collections.begin.unread_needs.Given as goal

abbrev pub invariant-loop-page : goal.invariant-loop-page
invariant-loop-page l = record {
  so_far : l.needs.items ≡ map (need_of (length l.memory.memory.store.last) l.memory.memory)
      (filter (λ page. not (is_readable (copy_at l.memory.memory page))) (take l.page-index l.pages));
}

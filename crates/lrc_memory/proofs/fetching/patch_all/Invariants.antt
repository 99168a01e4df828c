use Rattle.std.proofs.Common.{◌≡◌, take}
use Rattle.lrc_table.specs.Table.{copy_at, with_copy}
use Rattle.lrc_memory.specs.Steps.{patched_with}
use Rattle.lrc_memory.proofs.fetching.patch_all.Given as goal

abbrev pub invariant-loop-key : goal.invariant-loop-key
invariant-loop-key l =
    l.table ≡ with_copy l.initial.table l.page (patched_with l.store (copy_at l.initial.table l.page) (take l.key-index l.keys))

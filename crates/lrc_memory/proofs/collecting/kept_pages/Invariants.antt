use Rattle.std.proofs.Common.{◌≡◌}
use Rattle.std.specs.Prelude.{filter}
use Rattle.std.specs.List.{range_with_len}
use Rattle.lrc_memory.specs.Notes.{keepers_of}
use Rattle.lrc_memory.proofs.Keepers.{is_kept}
use Rattle.lrc_memory.proofs.collecting.kept_pages.Given as goal

abbrev pub invariant-loop-page : goal.invariant-loop-page
invariant-loop-page l = l.pages ≡ filter (is_kept l.store (keepers_of l.notes) l.me) (range_with_len 0 l.page)

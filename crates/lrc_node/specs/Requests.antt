-- What is asked of a node.
use Rattle.std.specs.Prelude.{ℕ}
use Rattle.lrc_envelope.specs.Records.{IndexedChangesRecord}
use Rattle.lrc_memory.specs.View.{NodeMemory}
use Rattle.lrc_protocol.specs.Pages.{changes_or_none}

-- what the node's own interval of this index changed in a page
abbrev pub part_in : NodeMemory → ℕ → ℕ → IndexedChangesRecord
part_in m page index =
    record { index = index; changes = changes_or_none m.memory.store (record { node = m.me; index = index; page = page }) }

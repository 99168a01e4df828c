-- The holder of a lock, by the position of the acquire by which it holds the lock.
use Rattle.std.specs.Prelude.{ℕ, List, slice_index}
use Rattle.lrc_explain_waits.specs.declared.holder.Holder.{Holder}

abbrev pub holder_since : (lines : List ℕ) → (node position : ℕ) → Holder
holder_since lines node position = record { node = node; line = slice_index lines position }

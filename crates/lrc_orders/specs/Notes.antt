-- What is noted of acts: what each node prints, in order, and how it ends.
use Rattle.std.specs.Prelude.{ℕ, zero, suc, ◌==◌, ◌&&◌, Bool, true, false, List, [], ◌++◌, filter, nat_lt, if◌then◌else◌}
use Rattle.std.specs.List.{insert, position_or_len}
use Rattle.lrc_trace.specs.declared.act.Act.{Act}
use Rattle.lrc_trace.specs.declared.act.Deed.{Deed}
use Rattle.lrc_trace.specs.declared.act.Deed.TheVariants.{Print, Trap, End}

-- prints, traps and ends are noted
abbrev pub is_noted_deed : Deed → Bool
is_noted_deed (Print value) = true
is_noted_deed (Trap cause) = true
is_noted_deed End = true
is_noted_deed _ = false

-- whether this is an act of the node that is noted
abbrev pub is_note_of : ℕ → Act → Bool
is_note_of node act = (act.node == node) && is_noted_deed act.deed

-- the notes of so many nodes from this one on: node by node, each one's in order
abbrev pub notes_from : (first count : ℕ) → List Act → List Act
notes_from first zero acts = []
notes_from first (suc count) acts = filter (is_note_of first) acts ++ notes_from (suc first) count acts

abbrev pub notes_of : (nodes : ℕ) → List Act → List Act
notes_of nodes acts = notes_from 0 nodes acts

-- the place behind the notes of the nodes up to this one, where those of each node stand together, by nodes
abbrev pub place_in : (node : ℕ) → List Act → ℕ
place_in node notes = position_or_len (λ note. nat_lt node note.node) notes

-- the notes with one act more, if it is noted
abbrev pub notes_with : List Act → Act → List Act
notes_with notes act = if is_noted_deed act.deed then insert notes (place_in act.node notes) act else notes

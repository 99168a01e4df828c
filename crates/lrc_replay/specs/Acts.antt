-- What the acts so far have led to: where each node's text stands, what its private names are, and the last Write to each word.
use Rattle.std.specs.Prelude.{ℕ, ◌==◌, Option, None, Some, List, [], ◌∷◌, ◌++◌, fold, if◌then◌else◌, length}
use Rattle.std.specs.List.{flat_map, range_with_len}
use Rattle.std.specs.Option.{option_to_list}
use Rattle.lrc_program.specs.declared.Program.{Program}
use Rattle.lrc_lang.specs.Symbol.{Names}
use Rattle.lrc_trace.specs.declared.act.Act.{Act}
use Rattle.lrc_trace.specs.declared.act.Deed.{Deed}
use Rattle.lrc_trace.specs.declared.act.Deed.TheVariants.{Write}
use Rattle.lrc_trace.specs.Interval.{interval_at}
use Rattle.lrc_lines.specs.Walks.{line_behind}
use Rattle.lrc_replay.specs.declared.notes.Note.{Note}
use Rattle.lrc_replay.specs.declared.notes.Spot.{Spot}

-- a program on so many nodes, the lines of its statements, and its private names
pub record Plan : Type 0 where
  pub program : Program
  pub nodes : ℕ
  pub lines : List ℕ
  pub names : Names

-- where the node's next act stands
abbrev pub spot_behind : Plan → List Act → (node : ℕ) → Spot
spot_behind plan acts node = record {
  position = length acts;
  line = line_behind plan.program plan.nodes plan.lines acts node;
  interval = interval_at acts node (length acts);
}

-- ---- what was written

-- the Write that a deed is, by its node, and where it stands
abbrev pub note_of : Spot → (node : ℕ) → Deed → List Note
note_of spot node (Write word value) = record { word = word; value = value; node = node; spot = spot } ∷ []
note_of spot node _ = []

-- the Writes among acts that come behind these ones
abbrev pub notes_behind : Plan → (before acts : List Act) → List Note
notes_behind plan before [] = []
notes_behind plan before (act ∷ acts) =
    note_of (spot_behind plan before act.node) act.node act.deed ++ notes_behind plan (before ++ act ∷ []) acts

-- the last of these Writes that writes the word
abbrev pub last_note : List Note → (word : ℕ) → Option Note
last_note notes word = fold (λ last note. if note.word == word then Some note else last) None notes

-- of each word the last Write to it, by word
abbrev pub last_notes : (words : ℕ) → List Note → List Note
last_notes words notes = flat_map (λ word. option_to_list (last_note notes word)) (range_with_len 0 words)

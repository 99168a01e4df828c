-- Acts where they stand.
use Rattle.std.specs.Prelude.{ℕ, List, ◌++◌, codes, decimal, map, slice_index, slice_index_or}
use Rattle.lrc_trace.specs.declared.act.Act.{Act}
use Rattle.lrc_trace.specs.declared.act.Deed.TheVariants.{Quiet}
use Rattle.lrc_trace.specs.Run.{act_of}
use Rattle.lrc_labels.specs.Reading.{Label, label_seen}
use Rattle.lrc_why.specs.declared.reasons.Since.{Since}
use Rattle.lrc_why_lines.specs.declared.shown.Shown.{Shown}
use Rattle.lrc_why_lines.specs.Deeds.{shown_deed}
use Rattle.lrc_why_lines.specs.Lists.{numbers_text}

-- what is shown of a position: the act, its line and its interval
abbrev pub act_shown : Shown → ℕ → Act
act_shown shown position = slice_index_or shown.acts.now position (act_of 0 Quiet)

abbrev pub line_shown : Shown → ℕ → ℕ
line_shown shown position = slice_index shown.lines.now position

abbrev pub interval_shown : Shown → ℕ → ℕ
interval_shown shown position = slice_index shown.intervals.now position

abbrev pub labels_shown : Shown → List Label
labels_shown shown = map label_seen shown.labels.now

-- an act's line, and what it does
unfoldable pub line_text : Shown → ℕ → List ℕ
line_text shown position =
    codes ", line " ++ decimal (line_shown shown position) ++ codes ": " ++ shown_deed (labels_shown shown) (act_shown shown position).deed

-- an act with its node, and one whose node is clear
unfoldable pub act_text : Shown → ℕ → List ℕ
act_text shown position = codes "act " ++ decimal position ++ (codes ", node " ++ decimal (act_shown shown position).node) ++ line_text shown position

unfoldable pub there_text : Shown → ℕ → List ℕ
there_text shown position = codes "act " ++ decimal position ++ line_text shown position

-- a chain, and since when a position is known
unfoldable pub chain_text : List ℕ → List ℕ
chain_text chain = codes ", by acts " ++ numbers_text chain

unfoldable pub since_text : Shown → Since → List ℕ
since_text shown since = codes "since " ++ there_text shown since.first ++ chain_text since.chain.items

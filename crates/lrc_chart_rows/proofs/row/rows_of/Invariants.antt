use Rattle.std.proofs.Common.{◌≡◌, ◌≤◌, ◌∷◌, [], take}
use Rattle.std.specs.Prelude.{if◌then◌else◌}
use Rattle.lrc_turns_text.specs.TurnsText.{acts_in}
use Rattle.lrc_text.specs.Each.{each}
use Rattle.lrc_chart_rows.specs.Rows.{row_of, shows}
use Rattle.lrc_chart_rows.proofs.row.rows_of.Given as goal

-- the rows of the turns so far, and how many acts they make
abbrev pub invariant-loop-position : goal.invariant-loop-position
invariant-loop-position l = record {
  rows : l.rows.items ≡ each (λ position turn. if shows turn then row_of l.turns position turn ∷ [] else []) (take l.position l.turns);
  acts : l.acts ≡ acts_in (take l.position l.turns);
  few : l.acts ≤ l.position;
}

-- What a node has once it has learned intervals of a node.
use Rattle.std.specs.Prelude.{ℕ, ◌||◌, List}
use Rattle.lrc_exact.specs.Memory.{Interval}
use Rattle.lrc_exact.specs.Rule.{Knowledge, State, with_changes_of, with_news, names_between, is_named}

-- those above the first index, up to the last
abbrev pub with_row : ℕ → (ℕ → Interval) → ℕ → ℕ → State → State
with_row node intervals first last state =
    record state {
      words = λ w. with_changes_of node intervals w first last (state.words w);
      stale = λ p. state.stale p || names_between intervals p first last;
    }

-- those of all nodes below this one that are news to one who knows so many
abbrev pub with_rows : ℕ → (had : List ℕ) → Knowledge → State → State
with_rows nodes had news state =
    record state {
      words = λ w. with_news nodes had news w (state.words w);
      stale = λ p. state.stale p || is_named nodes had news p;
    }

-- Rows of a picture: the turns that make an act, or send or take a message.
use Rattle.std.specs.Prelude.{ℕ, Bool, true, false, ◌||◌, Some, None, is_some, List, [], ◌∷◌, if◌then◌else◌, take}
use Rattle.lrc_envelope.specs.Envelope.{EnvelopeRecord}
use Rattle.lrc_protocol.specs.Run.{Input, run, taken}
use Rattle.lrc_turns_text.specs.Turns.{Made}
use Rattle.lrc_turns_text.specs.TurnsText.{acts_in}
use Rattle.lrc_text.specs.Each.{each}
use Rattle.lrc_chart_rows.specs.declared.row.Row.{Row}

abbrev pub takes_some : Input → Bool
takes_some run = false
takes_some (taken envelope) = true

abbrev pub sends_some : List EnvelopeRecord → Bool
sends_some [] = false
sends_some (first ∷ more) = true

abbrev pub has_act : Made → Bool
has_act turn = is_some turn.entry.turn.act

abbrev pub shows : Made → Bool
shows turn = has_act turn || (takes_some turn.entry.input || sends_some turn.entry.turn.out)

-- the row of a turn at a position, with so many acts before it
abbrev pub row_at : (position : ℕ) → (acts_here : Bool) → (acts : ℕ) → Row
row_at position acts_here acts = record { turn = position; act = if acts_here then Some acts else None }

-- the same by the turns of the run
abbrev pub row_of : List Made → ℕ → Made → Row
row_of turns position turn = row_at position (has_act turn) (acts_in (take position turns))

abbrev pub rows_of : List Made → List Row
rows_of turns = each (λ position turn. if shows turn then row_of turns position turn ∷ [] else []) turns

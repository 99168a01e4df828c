-- Events at positions.
use Rattle.std.proofs.Common.{◌≡◌, ℕ, ◌<◌, List, length, sym, ◌∙◌}
use Rattle.std.proofs.lemmas.Option.{slice_get_within, same_Some}
use Rattle.lrc_races_trace.specs.declared.event.Event.{Event}
use Rattle.lrc_races_trace.specs.Trace.{At}

-- one event stands at a position
pub At-one : {events : List Event} {i : ℕ} {a b : Event} → At events i a → At events i b → a ≡ b
At-one {a = a} {b = b} h k = same_Some a b (sym h.is ∙ k.is)

-- a position where an event stands lies in the trace
pub At-within : {events : List Event} {i : ℕ} {a : Event} → At events i a → i < length events
At-within {events} {i} {a} h = slice_get_within events i a h.is

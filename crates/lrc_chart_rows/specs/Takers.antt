-- The turns that take a message.
use Rattle.std.specs.Prelude.{ℕ, Bool, List, [], ◌∷◌, if◌then◌else◌}
use Rattle.lrc_envelope.specs.Envelope.{EnvelopeRecord}
use Rattle.lrc_turns_text.specs.Turns.{Made}
use Rattle.lrc_turns_text.specs.TurnsText.{takes_numbered}
use Rattle.lrc_text.specs.Each.{each}

-- the turn is the receiver's, and takes the message of this sender and number
abbrev pub takes_it : EnvelopeRecord → Made → Bool
takes_it envelope turn = takes_numbered envelope.to envelope.from envelope.number turn.node turn.entry.input

-- the positions of the turns that take a message
abbrev pub takers : List Made → EnvelopeRecord → List ℕ
takers turns envelope = each (λ position turn. if takes_it envelope turn then position ∷ [] else []) turns

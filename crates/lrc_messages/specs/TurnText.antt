-- Messages that are taken and sent, in words: a line for each.
use Rattle.std.specs.Prelude.{ℕ, Bool, List, ◌++◌, codes, decimal, length, nat_lt, if◌then◌else◌}
use Rattle.std.specs.List.{flat_map}
use Rattle.lrc_wire.specs.declared.limits.TheConstants.{MOST_BODY_BYTES}
use Rattle.lrc_wire.specs.declared.version.Version.TheVariants.{Two}
use Rattle.lrc_envelope.specs.Envelope.{EnvelopeRecord}
use Rattle.lrc_wire.specs.Runs.{runs_of}
use Rattle.lrc_wire.specs.Spelling.{body, bytes_of}
use Rattle.lrc_messages.specs.MessageText.{message_text}

-- the node takes a message; of one that it took before no more is said
abbrev pub taken_text : ℕ → EnvelopeRecord → Bool → List ℕ
taken_text node envelope again =
    codes "# node " ++ decimal node ++ codes " takes " ++ decimal envelope.number ++ codes " from " ++ decimal envelope.from
    ++ (if again then codes " again" else codes ": " ++ message_text envelope.message) ++ codes "\n"

-- how many bytes an envelope has; one that has more than may be sent has none
abbrev pub size_text : EnvelopeRecord → List ℕ
size_text envelope =
    if nat_lt MOST_BODY_BYTES (length (body Two runs_of envelope.message))
    then codes "no"
    else decimal (length (bytes_of envelope))

-- the node sends a message
abbrev pub sent_text : ℕ → EnvelopeRecord → List ℕ
sent_text node envelope =
    codes "# node " ++ decimal node ++ codes " sends " ++ decimal envelope.number ++ codes " to " ++ decimal envelope.to ++ codes ", "
    ++ size_text envelope ++ codes " bytes: " ++ message_text envelope.message ++ codes "\n"

-- a line for each message that a node sends
abbrev pub sent_texts : ℕ → List EnvelopeRecord → List ℕ
sent_texts node out = flat_map (sent_text node) out

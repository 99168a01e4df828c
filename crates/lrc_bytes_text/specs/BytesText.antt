-- The line of a turn, with the bytes of its messages.
use Rattle.std.specs.Prelude.{ℕ, Bool, true, false, Option, None, Some, List, ◌++◌, codes, decimal, length, nat_lt, if◌then◌else◌, option_map}
use Rattle.hex.specs.Hex.{encode_lower}
use Rattle.lrc_envelope.specs.Envelope.{EnvelopeRecord}
use Rattle.lrc_wire.specs.declared.limits.TheConstants.{MOST_BODY_BYTES}
use Rattle.lrc_wire.specs.declared.version.Version.TheVariants.{Two}
use Rattle.lrc_wire.specs.Runs.{runs_of}
use Rattle.lrc_wire.specs.Spelling.{body, bytes_of}
use Rattle.lrc_messages.specs.Lists.{separated}
use Rattle.lrc_events.specs.Writing.{event_text}
use Rattle.lrc_protocol.specs.declared.event.Event.{Event}
use Rattle.lrc_text.specs.ActText.{deed_text}
use Rattle.lrc_trace.specs.declared.act.Act.{Act}
use Rattle.lrc_bytes_text.specs.declared.line.Line as code_line

-- ---- messages

-- the bytes of a message in version 2, two hexadecimal digits for each; one that is too long to be sent has none
unfoldable pub wire_text : EnvelopeRecord → List ℕ
wire_text envelope =
    if nat_lt MOST_BODY_BYTES (length (body Two runs_of envelope.message))
    then codes "no"
    else encode_lower (bytes_of envelope)

-- a message with its other end, behind the words that say which end that is
unfoldable pub message_object : (way : List ℕ) → (other : ℕ) → EnvelopeRecord → List ℕ
message_object way other envelope =
    way ++ decimal other ++ codes ",\"number\":" ++ decimal envelope.number ++ codes ",\"bytes\":\"" ++ wire_text envelope ++ codes "\"}"

abbrev pub taken_object : EnvelopeRecord → List ℕ
taken_object envelope = message_object (codes "{\"from\":") envelope.from envelope

abbrev pub sent_object : EnvelopeRecord → List ℕ
sent_object envelope = message_object (codes "{\"to\":") envelope.to envelope

-- the message that is taken, if one is
abbrev pub taken_or_null : Option EnvelopeRecord → List ℕ
taken_or_null None = codes "null"
taken_or_null (Some envelope) = taken_object envelope

abbrev pub sent_list : List EnvelopeRecord → List ℕ
sent_list out = separated (codes ",") sent_object out

-- ---- the members of a line

-- the number of a turn, its event and its node
unfoldable pub turn_head : (number : ℕ) → Event → (node : ℕ) → List ℕ
turn_head number event node =
    codes "{\"turn\":" ++ decimal number ++ codes ",\"event\":\"" ++ event_text event ++ codes "\",\"node\":" ++ decimal node

unfoldable pub take_member : Option EnvelopeRecord → List ℕ
take_member taken = codes ",\"take\":" ++ taken_or_null taken

-- whether the message was taken before, and what stands before the act
unfoldable pub again_member : Bool → List ℕ
again_member true = codes ",\"again\":true,\"act\":"
again_member false = codes ",\"again\":false,\"act\":"

-- the act at a position, if one is made
unfoldable pub act_or_null : (position : ℕ) → Option Act → List ℕ
act_or_null position None = codes "null"
act_or_null position (Some act) = codes "{\"position\":" ++ decimal position ++ codes ",\"deed\":\"" ++ deed_text act.deed ++ codes "\"}"

unfoldable pub sends_member : List EnvelopeRecord → List ℕ
sends_member out = codes ",\"sends\":[" ++ sent_list out ++ codes "]}\n"

-- ---- the line

-- a turn: how many turns come before it, its event, the node that makes it, the message that it takes and whether the node took that before,
-- how many acts come before it, its act, and what it sends
pub record Line : Type 0 where
  pub number : ℕ
  pub event : Event
  pub node : ℕ
  pub taken : Option EnvelopeRecord
  pub again : Bool
  pub position : ℕ
  pub act : Option Act
  pub out : List EnvelopeRecord

abbrev pub line_seen : code_line.Line → Line
line_seen line = record {
  number = line.number;
  event = line.event;
  node = line.node;
  taken = option_map (λ envelope. envelope.now) line.taken;
  again = line.again;
  position = line.position;
  act = line.act;
  out = line.out.now;
}

abbrev pub turn_line : Line → List ℕ
turn_line line =
    turn_head line.number line.event line.node ++ take_member line.taken ++ again_member line.again ++ act_or_null line.position line.act
    ++ sends_member line.out

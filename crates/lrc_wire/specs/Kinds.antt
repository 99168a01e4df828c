-- The kinds of messages.
use Rattle.lrc_envelope.specs.declared.message.Message.{Message}
use Rattle.lrc_envelope.specs.declared.message.Message.TheVariants.{LockRequest, LockForward, LockGrant, Arrive, Depart, Clean, Discard}
use Rattle.lrc_envelope.specs.declared.message.Message.TheVariants.{ChangesRequest, ChangesReply, PageRequest, PageReply}
use Rattle.lrc_wire.specs.declared.kind.MessageKind.{MessageKind}
use Rattle.lrc_wire.specs.declared.kind.MessageKind.TheVariants as kinds

-- the kind of each message
abbrev pub message_kind : Message → MessageKind
message_kind (LockRequest m) = kinds.LockRequest
message_kind (LockForward m) = kinds.LockForward
message_kind (LockGrant m) = kinds.LockGrant
message_kind (Arrive m) = kinds.Arrive
message_kind (Depart m) = kinds.Depart
message_kind (Clean episode) = kinds.Clean
message_kind (Discard episode) = kinds.Discard
message_kind (ChangesRequest m) = kinds.ChangesRequest
message_kind (ChangesReply m) = kinds.ChangesReply
message_kind (PageRequest page) = kinds.PageRequest
message_kind (PageReply m) = kinds.PageReply

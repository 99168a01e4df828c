use Rattle.std.proofs.Common.{◌≡◌, List, ℕ, Result, Ok, Err, refl}
use Rattle.std.specs.Prelude.{IsOkAnd, MatchResult}
use Rattle.lrc_envelope.specs.declared.message.Message.{Message}
use Rattle.lrc_envelope.specs.declared.message.Message.TheVariants as kinds
use Rattle.lrc_wire.specs.declared.fault.WireFault.{WireFault}
use Rattle.lrc_wire.specs.Reading.{Field, Gives, as_message, body_at}
use Rattle.lrc_wire.proofs.reading.bodies.read_body.Goals as goal

-- a message made of what was read
made_gives : {X Y : Type 0} (make : Y → Message) (view : X → Y) (r : Result X WireFault) (out : Result Message WireFault) (read : Field Y) (rest : List ℕ)
    → Gives (λ x. (view x, rest)) r read → MatchResult r (λ x. IsOkAnd out (λ message. message ≡ make (view x))) (λ fault. out ≡ Err fault)
    → Gives (λ message. (message, rest)) out (as_message make read)
unfolding as_message
made_gives make view (Ok x) (Ok message) read rest given made = rw (given, made) refl
made_gives make view (Ok x) (Err fault) read rest given made = absurd made
made_gives make view (Err fault) out read rest given made = rw made (λ other. rw (given other) refl)

pub returns-in-LockRequest : goal.returns-in-LockRequest
unfolding body_at
returns-in-LockRequest c =
    rw c.in-LockRequest.is (made_gives (λ m. kinds.LockRequest m) (λ m. m) c.read_lock_request.result c.map.result _ _
    c.read_lock_request.ensures c.map.ensures.cases)

pub returns-in-LockForward : goal.returns-in-LockForward
unfolding body_at
returns-in-LockForward c =
    rw c.in-LockForward.is (made_gives (λ m. kinds.LockForward m) (λ m. m) c.read_lock_forward.result c.map-in-LockForward.result _ _
    c.read_lock_forward.ensures c.map-in-LockForward.ensures.cases)

pub returns-in-LockGrant : goal.returns-in-LockGrant
unfolding body_at
returns-in-LockGrant c =
    rw c.in-LockGrant.is (made_gives (λ m. kinds.LockGrant m) (λ m. m) c.read_lock_grant.result c.map-in-LockGrant.result _ _
    c.read_lock_grant.ensures c.map-in-LockGrant.ensures.cases)

pub returns-in-Arrive : goal.returns-in-Arrive
unfolding body_at
returns-in-Arrive c =
    rw c.in-Arrive.is (made_gives (λ m. kinds.Arrive m) (λ m. m) c.read_arrive.result c.map-in-Arrive.result _ _
    c.read_arrive.ensures c.map-in-Arrive.ensures.cases)

pub returns-in-Depart : goal.returns-in-Depart
unfolding body_at
returns-in-Depart c =
    rw c.in-Depart.is (made_gives (λ m. kinds.Depart m) (λ m. m) c.read_depart.result c.map-in-Depart.result _ _
    c.read_depart.ensures c.map-in-Depart.ensures.cases)

pub returns-in-Clean : goal.returns-in-Clean
unfolding body_at
returns-in-Clean c =
    rw c.in-Clean.is (made_gives (λ m. kinds.Clean m) (λ m. m) c.read_clean.result c.map-in-Clean.result _ _
    c.read_clean.ensures c.map-in-Clean.ensures.cases)

pub returns-in-Discard : goal.returns-in-Discard
unfolding body_at
returns-in-Discard c =
    rw c.in-Discard.is (made_gives (λ m. kinds.Discard m) (λ m. m) c.read_discard.result c.map-in-Discard.result _ _
    c.read_discard.ensures c.map-in-Discard.ensures.cases)

pub returns-in-ChangesRequest : goal.returns-in-ChangesRequest
unfolding body_at
returns-in-ChangesRequest c =
    rw c.in-ChangesRequest.is (made_gives (λ m. kinds.ChangesRequest m) (λ m. m) c.read_changes_request.result c.map-in-ChangesRequest.result _ _
    c.read_changes_request.ensures c.map-in-ChangesRequest.ensures.cases)

pub returns-in-ChangesReply : goal.returns-in-ChangesReply
unfolding body_at
returns-in-ChangesReply c =
    rw c.in-ChangesReply.is (made_gives (λ m. kinds.ChangesReply m) (λ m. m) c.read_changes_reply.result c.map-in-ChangesReply.result _ _
    c.read_changes_reply.ensures c.map-in-ChangesReply.ensures.cases)

pub returns-in-PageRequest : goal.returns-in-PageRequest
unfolding body_at
returns-in-PageRequest c =
    rw c.in-PageRequest.is (made_gives (λ m. kinds.PageRequest m) (λ m. m) c.read_page_request.result c.map-in-PageRequest.result _ _
    c.read_page_request.ensures c.map-in-PageRequest.ensures.cases)

pub returns-in-PageReply : goal.returns-in-PageReply
unfolding body_at
returns-in-PageReply c =
    rw c.in-PageReply.is (made_gives (λ m. kinds.PageReply m) (λ m. m) c.read_page_reply.result c.map-in-PageReply.result _ _
    c.read_page_reply.ensures c.map-in-PageReply.ensures.cases)

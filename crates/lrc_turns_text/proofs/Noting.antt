-- What is known of the turns that were told, with one turn more.
use Rattle.std.proofs.Common.{◌≡◌, ◌∙◌, [], ℕ, List, ap, refl}
use Rattle.std.specs.Prelude.{Bool, true, false, cond, ◌==◌, ◌&&◌, ◌||◌, replicate, slice_index}
use Rattle.std.proofs.lemmas.List.{get_or-replicate}
use Rattle.lrc_envelope.specs.Envelope.{EnvelopeRecord}
use Rattle.lrc_protocol.specs.Run.{taken}
use Rattle.lrc_turns_text.specs.declared.told.Told.{Told}
use Rattle.lrc_turns_text.specs.Told.{Tells, holds_key}
use Rattle.lrc_turns_text.specs.TurnsText.{takes_numbered}

-- nothing is known before the first turn
pub tells_none : (told : Told) → told.made ≡ replicate 256 0 → told.acts ≡ 0 → told.taken.keys ≡ [] → Tells [] told
tells_none told made acts none = record {
  made = λ node within. ap (λ l. slice_index l node) made ∙ get_or-replicate 256 node 0 0 within;
  acts = acts;
  taken = λ node from number. ap (λ keys. holds_key keys node from number) none;
}

noted_more : (b c : Bool) → cond b true c ≡ (b || c)
noted_more true c = refl
noted_more false c = refl

-- a message more is noted, by its receiver, its sender and its number
pub noted_one : (other from number node : ℕ) (envelope : EnvelopeRecord) (sender message : ℕ) (keys new : List (ℕ × (ℕ × ℕ)))
    → holds_key new other from number
    ≡ cond ((node == other) && ((sender == from) && (message == number))) true (holds_key keys other from number)
    → sender ≡ envelope.from → message ≡ envelope.number
    → holds_key new other from number ≡ (takes_numbered other from number node (taken envelope) || holds_key keys other from number)
noted_one other from number node envelope sender message keys new is sender_is message_is =
    is ∙ noted_more ((node == other) && ((sender == from) && (message == number))) (holds_key keys other from number)
    ∙ ap (λ s. ((node == other) && ((s == from) && (message == number))) || holds_key keys other from number) sender_is
    ∙ ap (λ m. ((node == other) && ((envelope.from == from) && (m == number))) || holds_key keys other from number) message_is

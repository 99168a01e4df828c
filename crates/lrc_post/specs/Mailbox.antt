-- One node's mailbox, and what its calls do to it.
use Rattle.std.specs.Prelude.{◌≡◌, ℕ, ◌⊎◌, Bool, true, false, List, [], ◌∷◌, ◌++◌, map, slice_get, Option, Some, None}
use Rattle.lrc_envelope.specs.declared.picker.Picker.{Picker}
use Rattle.lrc_post.specs.declared.parcel.Parcel.{Parcel}
use Rattle.lrc_post.specs.declared.parcel.Wire.{Wire}
use Rattle.lrc_post.specs.declared.parcel.Wire.TheVariants.{Took}
use Rattle.lrc_post.specs.Wires.{put_of, IsPutOf, IsLegal, IsTakenBy, in_flight, given_next}

-- whose mailbox it is, which parcel is given next, whether it is closed, and all that was put and taken
pub record MailboxRecord : Type 0 where
  pub owner : ℕ
  pub picker : Picker
  pub closed : Bool
  pub history : List Wire

-- the history is legal, each take of it is what the picker says, and the queue has what is in flight
pub record IsMailboxKept (owner : ℕ) (picker : Picker) (history : List Wire) (flight : List ℕ) : Type 0 where
  pub legal : IsLegal owner history
  pub taken_so : IsTakenBy picker history
  pub queued : flight ≡ in_flight picker history

-- nothing is in flight: each parcel that was put was given as often as the picker gives it
abbrev pub IsAllGiven : MailboxRecord → Type 0
IsAllGiven mailbox = in_flight mailbox.picker mailbox.history ≡ []

-- the mailbox with more entries
abbrev pub with_more : MailboxRecord → List Wire → MailboxRecord
with_more before entries = record before { history = before.history ++ entries }

-- a node put these parcels into it
abbrev pub with_puts : MailboxRecord → ℕ → List Parcel → MailboxRecord
with_puts before from parcels = with_more before (map (put_of from) parcels)

-- those before a parcel that was refused were put; that one and all after it were handed back
pub record IsCutShort (before : MailboxRecord) (from : ℕ) (parcels back : List Parcel) (after : MailboxRecord) : Type 0 where
  pub put : List Parcel
  pub refused : Parcel
  pub rest : List Parcel
  pub handed_back : back ≡ refused ∷ rest
  pub all : parcels ≡ put ++ back
  pub puts : after ≡ with_puts before from put

-- the owner took a parcel: the next in flight, as it was put
pub record IsTake (before : MailboxRecord) (parcel : Parcel) (after : MailboxRecord) : Type 0 where
  pub place : ℕ
  pub not_closed : before.closed ≡ false
  pub next : given_next before.picker (in_flight before.picker before.history) ≡ Some place
  pub as_put : IsPutOf (slice_get before.history place) parcel
  pub for_owner : parcel.to ≡ before.owner
  pub taken : after ≡ with_more before (Took before.owner place ∷ [])

-- a parcel was given, or there was none to give and nothing changed
abbrev pub GivesParcel : MailboxRecord → Option Parcel → MailboxRecord → Type 0
GivesParcel before None after = (after ≡ before) × ((before.closed ≡ true) ⊎ (in_flight before.picker before.history ≡ []))
GivesParcel before (Some parcel) after = IsTake before parcel after

-- What the post does beyond one mailbox.
use Rattle.std.specs.Prelude.{◌≡◌, ℕ, ◌<◌, ◌≤◌, List, ◌∷◌, ◌++◌, slice_get, Some, All}
use Rattle.lrc_post.specs.declared.fault.PostFault.{PostFault}
use Rattle.lrc_post.specs.declared.fault.PostFault.TheVariants.{Closed}
use Rattle.lrc_post.specs.declared.parcel.Parcel.{Parcel}
use Rattle.lrc_post.specs.Wires.{IsLegal, IsTakenBy}
use Rattle.lrc_envelope.specs.declared.picker.Picker.{Picker}
use Rattle.lrc_post.specs.Mailbox.{MailboxRecord}

-- these mailboxes are of one picker
abbrev pub AreOf : Picker → List MailboxRecord → Type 0
AreOf picker mailboxes = All (λ (mailbox : MailboxRecord). mailbox.picker ≡ picker) mailboxes

-- Those before a parcel that was refused are gone, each for one of this many nodes; that one and all after it were handed back, in
-- order. Where the one that was refused is for no such node, the reason is that the mailbox is closed.
pub record IsHandedBack (nodes : ℕ) (fault : PostFault) (parcels back : List Parcel) : Type 0 where
  pub put : List Parcel
  pub refused : Parcel
  pub rest : List Parcel
  pub handed_back : back ≡ refused ∷ rest
  pub all : parcels ≡ put ++ back
  pub there : All (λ (p : Parcel). p.to < nodes) put
  pub nowhere : nodes ≤ refused.to → fault ≡ Closed

-- one mailbox for each node, from 0 up, each with a legal history of which each take is what its picker says
abbrev pub AreWires : List MailboxRecord → Type 0
AreWires mailboxes = (place : ℕ) (mailbox : MailboxRecord) → slice_get mailboxes place ≡ Some mailbox
    → (mailbox.owner ≡ place) × IsLegal mailbox.owner mailbox.history × IsTakenBy mailbox.picker mailbox.history

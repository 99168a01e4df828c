-- What nodes ask one another for, page by page.
use Rattle.std.specs.Prelude.{ℕ, ◌==◌, ◌&&◌, Bool, false, Option, Some, None, List, map}
use lib.Pointwise.{pointwise}
use Rattle.lrc_envelope.specs.Envelope.{EnvelopeRecord}
use Rattle.lrc_envelope.specs.Records.{IndexedChangesRecord}
use Rattle.lrc_envelope.specs.declared.message.Message.{Message}
use Rattle.lrc_envelope.specs.declared.message.Message.TheVariants.{ChangesRequest, ChangesReply, PageRequest, PageReply}
use Rattle.lrc_protocol.specs.Pages.{Need, awaits_changes, awaits_page}

-- a base copy of a page; or the changes of a page that a maker's intervals with these indices made
pub data Wish : Type 0 where
  base_copy : (page : ℕ) → Wish
  changes : (page : ℕ) (indices : List ℕ) → Wish

-- what a request asks for
abbrev pub wish_in : Message → Option Wish
wish_in (ChangesRequest m) = Some (changes m.page m.indices)
wish_in (PageRequest page) = Some (base_copy page)
wish_in _ = None

-- what a reply brings
abbrev pub told_in : Message → Option Wish
told_in (ChangesReply m) = Some (changes m.page (map (λ (part : IndexedChangesRecord). part.index) m.parts))
told_in (PageReply m) = Some (base_copy m.page)
told_in _ = None

abbrev pub same_wish : Wish → Wish → Bool
same_wish (base_copy a) (base_copy b) = a == b
same_wish (changes a xs) (changes b ys) = (a == b) && pointwise ◌==◌ xs ys
same_wish (base_copy a) (changes b ys) = false
same_wish (changes a xs) (base_copy b) = false

abbrev pub is_wish : Wish → Option Wish → Bool
is_wish w None = false
is_wish w (Some v) = same_wish v w

-- a request for it from node n to node q; and a reply to n with it, from q
abbrev pub asks_for : ℕ → ℕ → Wish → EnvelopeRecord → Bool
asks_for n q w e = is_wish w (wish_in e.message) && (e.to == q) && (e.from == n)

abbrev pub brings : ℕ → ℕ → Wish → EnvelopeRecord → Bool
brings n q w e = is_wish w (told_in e.message) && (e.from == q) && (e.to == n)

-- a need awaits it from node q
abbrev pub awaits : ℕ → Wish → Need → Bool
awaits q (base_copy page) need = awaits_page page q need
awaits q (changes page indices) need = awaits_changes page q indices need

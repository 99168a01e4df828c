-- What holds in every history of a run, group by group: the statements on which the groups build.
use Rattle.std.proofs.Common.{◌≡◌, ℕ, List, [], ◌∷◌}
use Rattle.std.specs.Prelude.{◌==◌, true, Some, None, slice_get, Contains, if◌then◌else◌}
use Rattle.std.specs.List.{list_any}
use Rattle.lrc_program.specs.declared.Program.{Program}
use Rattle.lrc_trace.specs.Reading.{ReadsLazily}
use Rattle.lrc_page.specs.Page.{words_of}
use Rattle.lrc_time.specs.Time.{Covers}
use Rattle.lrc_store.specs.Store.{StoredRecord, notice_of}
use Rattle.lrc_copies.specs.Page.{PageFits, AgreeOnPage, IsUntouchedBy, IsMadeOf, IsClosedWith}
use Rattle.lrc_copies.specs.Stamps.{covered, StandsBetween}
use Rattle.lrc_envelope.specs.Envelope.{EnvelopeRecord}
use Rattle.lrc_envelope.specs.Records.{PageReplyRecord}
use Rattle.lrc_envelope.specs.declared.message.Message.TheVariants.{PageRequest, PageReply}
use Rattle.lrc_protocol.specs.Pages.{written, is_readable, values_of, Need, due, copy_at}
use Rattle.lrc_protocol.specs.Node.{Wait, access, discard, Node, OptionsRecord}
use Rattle.lrc_protocol.specs.Run.{Input, EntryRecord, Logged, World, Flying, with_turn}
use Rattle.lrc_protocol.specs.Follows.{pending}
use Rattle.lrc_protocol.proofs.Worlds.{IsEntry}
use Rattle.lrc_protocol.proofs.Induction.{Comes}
use Rattle.lrc_order_laws.proofs.Reached.{IsReached}
use Rattle.lrc_reading_laws.specs.Written.{made_stamps, changes_on}
use Rattle.lrc_reading_laws.specs.Acted.{WritesPage}
use Rattle.lrc_reading_laws.proofs.Written.History.{page_history, open_record}
use Rattle.lrc_reading_laws.proofs.Closed.History.{History, closed_by}
-- ---- stamps and changes

pub use Rattle.lrc_reading_laws.specs.Known.{AreKnown}

-- ---- writes

-- What the acts wrote in the intervals that were closed, and in those that are open:
pub record AreWritten (options : OptionsRecord) (made : List StoredRecord) (world : World) : Type 0 where
  -- a page that a closed interval does not name was not written in it;
  pub named : (x : StoredRecord) (page : ℕ) → Contains made x → notice_of page x ≡ None
      → IsUntouchedBy (page_history options.size world.acts page) (words_of options.size) x
  -- a written copy is what its node's open interval made of the twin, and any other page was not written in it.
  pub written_here : (n : ℕ) (l : Logged) (page : ℕ) (values twin : List ℕ) → slice_get world.nodes n ≡ Some l
      → copy_at l.node.memory page ≡ written values twin
      → IsMadeOf (page_history options.size world.acts page) (open_record l.node) twin values
  pub untouched : (n : ℕ) (l : Logged) (page : ℕ) → slice_get world.nodes n ≡ Some l
      → ((values twin : List ℕ) → copy_at l.node.memory page ≡ written values twin → ⊥)
      → IsUntouchedBy (page_history options.size world.acts page) (words_of options.size) (open_record l.node)

-- A turn changes nothing of what closed intervals wrote; and the interval that it closes wrote each page that has a twin and has its
-- changes between twin and copy, and did not write any other.
pub record TurnWrites (options : OptionsRecord) (made : List StoredRecord) (before after : World) (node : Node) (closed : List StoredRecord)
    : Type 0 where
  pub stay : (page : ℕ) → AgreeOnPage made (page_history options.size before.acts page) (page_history options.size after.acts page)
  pub closes : (x : StoredRecord) (page : ℕ) (values twin : List ℕ) → Contains closed x → copy_at node.memory page ≡ written values twin
      → IsClosedWith (page_history options.size after.acts page) x twin values
  pub writes : (x : StoredRecord) (page : ℕ) (values twin : List ℕ) → Contains closed x → copy_at node.memory page ≡ written values twin
      → WritesPage options.size after.acts page x
  pub leaves : (x : StoredRecord) (page : ℕ) → Contains closed x
      → ((values twin : List ℕ) → copy_at node.memory page ≡ written values twin → ⊥)
      → IsUntouchedBy (page_history options.size after.acts page) (words_of options.size) x × (changes_on page x ≡ [])

-- ---- requests for pages, and base copies

-- the node waits at a miss for a base copy of the page, due from this keeper
pub record AwaitsBase (node : Node) (page keeper : ℕ) : Type 0 where
  pub need : Need
  pub waits : node.mail.wait ≡ access need
  pub page_is : need.page ≡ page
  pub base_is : need.base ≡ due keeper

-- a request for a page and its reply are on their way only while the asker waits for them
pub record AreAwaited (world : World) : Type 0 where
  pub request : (e : EnvelopeRecord) (page : ℕ) (l : Logged) → Contains (pending world) e → e.message ≡ PageRequest page
      → slice_get world.nodes e.from ≡ Some l → AwaitsBase l.node page e.to
  pub reply : (e : EnvelopeRecord) (m : PageReplyRecord) (l : Logged) → Contains (pending world) e → e.message ≡ PageReply m
      → slice_get world.nodes e.to ≡ Some l → AwaitsBase l.node m.page e.from

-- the time that a node's base copy of a page fits: that of the collection for which it was made, until that is done; and else
-- what the node collected
abbrev pub bound_in : Wait → List ℕ → ℕ → List ℕ
bound_in (discard collection) collected page = if list_any (λ kept. kept == page) collection.kept then collection.time else collected
bound_in _ collected page = collected

abbrev pub base_bound : Node → ℕ → List ℕ
base_bound node page = bound_in node.mail.wait node.memory.collected page

-- a base copy that fits its time fits the asker's collected time too: no interval between the two names the page
pub record AreServed (made : List StoredRecord) (world : World) : Type 0 where
  pub below : (n keeper page : ℕ) (l kept : Logged) → slice_get world.nodes n ≡ Some l → slice_get world.nodes keeper ≡ Some kept
      → AwaitsBase l.node page keeper → Covers l.node.memory.collected (base_bound kept.node page)
  pub unnamed : (n keeper page : ℕ) (l kept : Logged) (x : StoredRecord) → slice_get world.nodes n ≡ Some l
      → slice_get world.nodes keeper ≡ Some kept → AwaitsBase l.node page keeper
      → StandsBetween made_stamps made (base_bound kept.node page) l.node.memory.collected x → notice_of page x ≡ None

-- ---- copies

-- each readable copy fits what its node's time covers, with its own open interval
pub record AreFitting (options : OptionsRecord) (made : List StoredRecord) (world : World) : Type 0 where
  pub readable : (n : ℕ) (l : Logged) (page : ℕ) → slice_get world.nodes n ≡ Some l → is_readable (copy_at l.node.memory page) ≡ true
      → PageFits (page_history options.size world.acts page) (values_of (copy_at l.node.memory page))
      (open_record l.node ∷ covered made_stamps l.node.locks.time made)

-- ---- the laws

module _ (program : Program) (nodes : ℕ) (options : OptionsRecord) where
  abbrev pub StampsLaw : Type 0
  StampsLaw = (world : World) (made : List StoredRecord) → History program nodes options world made → AreKnown nodes made world

  abbrev pub WritesLaw : Type 0
  WritesLaw = (world : World) (made : List StoredRecord) → History program nodes options world made → AreWritten options made world

  abbrev pub TurnsLaw : Type 0
  TurnsLaw =
      (world : World) (made : List StoredRecord) (flight : List Flying) (n : ℕ) (l after : Logged) (input : Input) (entry : EntryRecord)
      → slice_get world.nodes n ≡ Some l → Comes world n input flight → IsEntry l input entry after
      → IsReached program nodes options world → IsReached program nodes options (with_turn world flight n entry after)
      → History program nodes options world made
      → TurnWrites options made world (with_turn world flight n entry after) l.node (closed_by l.node after.node)

  abbrev pub RequestsLaw : Type 0
  RequestsLaw = (world : World) → IsReached program nodes options world → AreAwaited world

  abbrev pub BasesLaw : Type 0
  BasesLaw = (world : World) (made : List StoredRecord) → History program nodes options world made → AreServed made world

  abbrev pub CopiesLaw : Type 0
  CopiesLaw = (world : World) (made : List StoredRecord) → History program nodes options world made → AreFitting options made world

  abbrev pub ReadsLaw : Type 0
  ReadsLaw = (world : World) → IsReached program nodes options world → ReadsLazily world.acts

-- What the rules of turns tell of the text, and of what a reply changes.
use Rattle.std.proofs.Common.{◌≡◌, ℕ, ◌<◌, refl, ap, ◌∙◌}
use Rattle.std.specs.Prelude.{Some}
use Rattle.lrc_page.specs.Place.{pages_of}
use Rattle.lrc_exec.specs.Meaning.{Next, reads, writes}
use Rattle.lrc_envelope.specs.declared.message.Message.{Message}
use Rattle.lrc_protocol.specs.Pages.{Memory, Need}
use Rattle.lrc_protocol.specs.Node.{Node}
use Rattle.lrc_protocol.specs.Rules.{IsReadyFor, AccessesNext, access_read, access_write, page_at, Brings, brings_changes, brings_base_copy}
use Rattle.lrc_protocol.specs.Node.{next_in}
use Rattle.lrc_order_laws.proofs.TextHolds.{TextIs}
use Rattle.lrc_order_laws.proofs.Shift.{next-ready}
use Rattle.lrc_node_laws.specs.Needs.{page_next}
use Rattle.lrc_node_laws.proofs.Needed.{changed_page, sent_page}
use Rattle.lrc_node_laws.proofs.Words.{next-in_words, page-in_range}

-- an access that a node is ready for is of one of the pages
pub access-in_range : (node : Node) (next : Next) (word : ℕ) → TextIs node.setting node.course → IsReadyFor node next → AccessesNext next word
    → page_at node word < pages_of node.setting.words node.options.size
access-in_range node next word text r (access_read w after) =
    page-in_range word node.setting.words node.options.size
    (next-in_words node.setting node.course (reads word after) text (next-ready node (reads word after) r))
access-in_range node next word text r (access_write w value after) =
    page-in_range word node.setting.words node.options.size
    (next-in_words node.setting node.course (writes word value after) text (next-ready node (writes word value after) r))

access-next : (node : Node) (next : Next) (word : ℕ) → AccessesNext next word → page_next node.options.size (Some next) ≡ Some (page_at node word)
access-next node next word (access_read w after) = refl
access-next node next word (access_write w value after) = refl

-- and the text makes it next
pub access-reaches : (node : Node) (next : Next) (word : ℕ) → IsReadyFor node next → AccessesNext next word
    → page_next node.options.size (next_in node.course) ≡ Some (page_at node word)
access-reaches node next word r a = ap (page_next node.options.size) (next-ready node next r) ∙ access-next node next word a

-- a reply changes no copy, and no need's page
pub record Brought (before after : Memory) (change : Need → Need) : Type 0 where
  pub copies : after.copies ≡ before.copies
  pub page : (need : Need) → (change need).page ≡ need.page

pub brought : (node : Node) (from : ℕ) (message : Message) (memory : Memory) (change : Need → Need) → Brings node from message memory change
    → Brought node.memory memory change
brought node from message memory change (brings_changes m lt all some) = record { copies = refl; page = changed_page m.page from }
brought node from message memory change (brings_base_copy m lt counted some) = record { copies = refl; page = sent_page m.page m.values }

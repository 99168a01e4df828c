-- What has to be so of a need, for its page to be repaired and the access to be made.
use Rattle.std.specs.Prelude.{◌≡◌, ℕ, ◌<◌, Option, Some, length, All}
use Rattle.lrc_exec.specs.Meaning.{Next, reads, writes}
use Rattle.lrc_page.specs.declared.size.Size.{Size}
use Rattle.lrc_page.specs.Page.{words_of}
use Rattle.lrc_page.specs.Place.{page_of}
use Rattle.lrc_protocol.specs.Pages.{copy_at, Need}
use Rattle.lrc_protocol.specs.Node.{Node}
use Rattle.lrc_protocol.specs.Node.{next_in}
use Rattle.lrc_node_laws.specs.Needs.{FitsBase}

-- the text accesses a word of the memory next, on this page
abbrev pub GoesToPage : Size → ℕ → ℕ → Option Next → Type 0
GoesToPage size words page (Some (reads word after)) = (word < words) × (page_of word size ≡ page)
GoesToPage size words page (Some (writes word value after)) = (word < words) × (page_of word size ≡ page)
GoesToPage size words page _ = ⊥

-- the page is one of the memory's; its base copy is due, or has come, just where the copy is absent; its keys are of it; and the
-- text's next access is on it
pub record CanBeRepaired (node : Node) (need : Need) : Type 0 where
  pub page : need.page < length node.memory.copies
  pub base : FitsBase node.setting.nodes (words_of node.options.size) (copy_at node.memory need.page) need.base
  pub of_page : All (λ key. key.page ≡ need.page) need.missing
  pub next : GoesToPage node.options.size node.setting.words need.page (next_in node.course)

-- What a node keeps of its parts.
use Rattle.std.specs.Prelude.{◌≡◌, ℕ, ◌<◌, ◌≤◌, List, All, length}
use Rattle.lrc_page.specs.declared.TheConstants.{MOST_WORDS}
use Rattle.lrc_page.specs.declared.size.Size.{Size}
use Rattle.lrc_page.specs.Place.{pages_of}
use Rattle.lrc_protocol.specs.Node.{Letter, Node, Effect}
use Rattle.lrc_control.specs.Barrier.{IsOfNodes}
use Rattle.lrc_node.specs.declared.turn.Effect.{Effect as Work}

-- there are 1 to 16 nodes, of which this is one, and words and locks as a program has them; each part has an entry for each
-- node, lock or page
pub record IsState (memory_me : ℕ) (memory_size : Size) (node : Node) : Type 0 where
  pub here : node.setting.me < node.setting.nodes
  pub few : node.setting.nodes ≤ 16
  pub some_words : 1 ≤ node.setting.words
  pub few_words : node.setting.words ≤ MOST_WORDS
  pub few_locks : node.setting.locks ≤ 64
  pub own_memory : memory_me ≡ node.setting.me
  pub sized : memory_size ≡ node.options.size
  pub holder : node.locks.held.me ≡ node.setting.me
  pub times : length node.locks.time ≡ node.setting.nodes
  pub tokens : length node.locks.held.locks ≡ node.setting.locks
  pub manager : IsOfNodes node.setting.nodes node.barrier
  pub pages : length node.memory.copies ≡ pages_of node.setting.words node.options.size
  pub last : length node.memory.store.last ≡ node.setting.nodes
  pub sent : length node.mail.sent ≡ node.setting.nodes
  pub taken : length node.mail.taken ≡ node.setting.nodes

-- what a turn does, as the protocol has it
abbrev pub seen_effect : Work → Node → Effect
seen_effect work node = record { deed = work.deed; letters = work.letters.items; node = node }

-- each letter is for one of so many nodes
abbrev pub AreFor : ℕ → List Letter → Type 0
AreFor nodes letters = All (λ letter. letter.to < nodes) letters

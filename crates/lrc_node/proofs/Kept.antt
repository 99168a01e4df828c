-- A node whose parts change is kept, and what its letters are for.
use Rattle.std.proofs.Common.{◌≡◌, ℕ, ◌<◌, List, [], ◌∷◌, length, Vec, Global, sym, ◌∙◌, subst}
use Rattle.std.specs.Prelude.{Result, Ok, Err, IfOk}
use Rattle.std.proofs.lemmas.List.Elements.{All-nil, All-cons}
use Rattle.lrc_envelope.specs.declared.message.Message.{Message}
use Rattle.lrc_page.specs.declared.size.Size.{Size}
use Rattle.lrc_mail.specs.declared.letter.Letter.{Letter as Posted}
use Rattle.lrc_memory.specs.View.{NodeMemory, SameMemory}
use Rattle.lrc_control.specs.Clock.{SameClock}
use Rattle.lrc_control.specs.Barrier.{SameBarrier}
use Rattle.lrc_protocol.specs.Barriers.{Barrier}
use Rattle.lrc_protocol.specs.Locks.{Locks}
use Rattle.lrc_protocol.specs.Node.{Letter, Mail, Node}
use Rattle.lrc_protocol.specs.Turn.{letter}
use Rattle.lrc_node.specs.declared.turn.Effect.{Effect as Work}
use Rattle.lrc_node.specs.State.{IsState, AreFor}

-- with a clock of as many nodes and locks
pub kept_locks : {me : ℕ} {size : Size} (node : Node) (locks : Locks) → IsState me size node → SameClock node.locks locks
    → IsState me size (record node { locks = locks })
kept_locks node locks is same = record {
  here = is.here;
  few = is.few;
  some_words = is.some_words;
  few_words = is.few_words;
  few_locks = is.few_locks;
  own_memory = is.own_memory;
  sized = is.sized;
  holder = same.me ∙ is.holder;
  times = same.nodes ∙ is.times;
  tokens = same.locks ∙ is.tokens;
  manager = is.manager;
  pages = is.pages;
  last = is.last;
  sent = is.sent;
  taken = is.taken;
}

-- with a part in barriers of as many nodes
pub kept_barrier : {me : ℕ} {size : Size} (node : Node) (barrier : Barrier) → IsState me size node → SameBarrier node.barrier barrier
    → IsState me size (record node { barrier = barrier })
kept_barrier node barrier is same = record {
  here = is.here;
  few = is.few;
  some_words = is.some_words;
  few_words = is.few_words;
  few_locks = is.few_locks;
  own_memory = is.own_memory;
  sized = is.sized;
  holder = is.holder;
  times = is.times;
  tokens = is.tokens;
  manager = same.nodes node.setting.nodes is.manager;
  pages = is.pages;
  last = is.last;
  sent = is.sent;
  taken = is.taken;
}

-- with memory of as many pages and nodes
pub kept_memory : (node : Node) (old new : NodeMemory) → IsState old.me old.size (record node { memory = old.memory }) → SameMemory old new
    → IsState new.me new.size (record node { memory = new.memory })
kept_memory node old new is same = record {
  here = is.here;
  few = is.few;
  some_words = is.some_words;
  few_words = is.few_words;
  few_locks = is.few_locks;
  own_memory = same.me ∙ is.own_memory;
  sized = same.size ∙ is.sized;
  holder = is.holder;
  times = is.times;
  tokens = is.tokens;
  manager = is.manager;
  pages = same.pages ∙ is.pages;
  last = same.nodes ∙ is.last;
  sent = is.sent;
  taken = is.taken;
}

-- with mail of as many nodes
pub kept_mail : {me : ℕ} {size : Size} (node : Node) (mail : Mail) → IsState me size node → length mail.sent ≡ length node.mail.sent
    → length mail.taken ≡ length node.mail.taken → IsState me size (record node { mail = mail })
kept_mail node mail is sent taken = record {
  here = is.here;
  few = is.few;
  some_words = is.some_words;
  few_words = is.few_words;
  few_locks = is.few_locks;
  own_memory = is.own_memory;
  sized = is.sized;
  holder = is.holder;
  times = is.times;
  tokens = is.tokens;
  manager = is.manager;
  pages = is.pages;
  last = is.last;
  sent = sent ∙ is.sent;
  taken = taken ∙ is.taken;
}

-- whom letters are for: no letter, one letter, and those of an act
pub none_for : (nodes : ℕ) (letters : List Letter) → letters ≡ [] → AreFor nodes letters
none_for nodes letters e = subst (AreFor nodes) (sym e) (All-nil (λ (l : Letter). l.to < nodes))

pub one_for : (nodes : ℕ) (letters : List Letter) (to : ℕ) (message : Message) → letters ≡ letter to message ∷ [] → to < nodes → AreFor nodes letters
one_for nodes letters to message e h =
    subst (AreFor nodes) (sym e) (All-cons (λ (l : Letter). l.to < nodes) (letter to message) [] h (All-nil (λ (l : Letter). l.to < nodes)))

pub made_for : {E : Type 0} (r : Result Work E) (letters : Vec Posted Global) (nodes : ℕ) → IfOk r (λ effect. effect.letters ≡ letters)
    → AreFor nodes letters.items → IfOk r (λ effect. AreFor nodes effect.letters.items)
made_for (Ok effect) letters nodes e h = subst (λ (ls : Vec Posted Global). AreFor nodes ls.items) (sym e) h
made_for (Err x) letters nodes e h = tt

-- What an act changes of what is known, and what knowledge of every word is kept.
use Rattle.std.specs.Prelude.{◌≡◌, ℕ, ◌+◌, ◌-◌, ◌<◌, ◌^◌, ◌⊎◌, Option, Some, None, List, [], length, slice_get}
use Rattle.lrc_trace.specs.declared.act.Act.{Act}
use Rattle.lrc_trace.specs.declared.act.Deed.{Deed}
use Rattle.lrc_trace.specs.declared.act.Deed.TheVariants.{Write, Acquire, Release, Arrive, Depart}
use Rattle.lrc_trace.specs.Run.{Does, departs_before, arrives_before}
use Rattle.lrc_trace.specs.Order.{HappensBefore}
use Rattle.lrc_lazy_known.specs.declared.known.Last.TheVariants.{Nothing}
use Rattle.lrc_lazy_known.specs.declared.known.Known.{Known}
use Rattle.lrc_lazy_known.specs.declared.word.Effect.{Effect}
use Rattle.lrc_lazy_known.specs.declared.word.Effect.TheVariants.{Passes, Writes, Learns}
use Rattle.lrc_lazy_known.specs.declared.known.KnownWord.{KnownWord}
use Rattle.lrc_lazy_known.specs.declared.known.Knowledge.{Knowledge}
use Rattle.lrc_lazy_known.specs.Knowing.{KnowsWrite}
use Rattle.lrc_lazy_known.specs.Word.{last_of, Describes, IsSame, IsLearned, IsWithout, IsWritten}

-- a node does this that has arrived so often, and departed so often, the barriers that are gone left out
abbrev pub effect_of : (nodes locks arrived departed node : ℕ) → Deed → Effect
effect_of nodes locks arrived departed node (Write word value) = Writes node word value
effect_of nodes locks arrived departed node (Acquire l) = Learns node (nodes + l)
effect_of nodes locks arrived departed node (Release l) = Learns (nodes + l) node
effect_of nodes locks arrived departed node Arrive = Learns (nodes + locks + arrived) node
effect_of nodes locks arrived departed node Depart = Learns node (nodes + locks + departed)
effect_of nodes locks arrived departed node _ = Passes

-- of a word that nothing is kept of nobody knows a write
abbrev pub knowers_in : Option KnownWord → List Known
knowers_in None = []
knowers_in (Some word) = word.knowers.items

abbrev pub word_of : Knowledge → ℕ → List Known
word_of knowledge word = knowers_in (slice_get knowledge.words.items word)

-- what is kept of a word after the effect
abbrev pub IsAfter : Effect → (word : ℕ) → (old new : List Known) → Type 0
IsAfter Passes word old new = IsSame old new
IsAfter (Writes writer written value) word old new =
    ((written ≡ word) × IsWritten old writer value new) ⊎ ((written ≡ word → ⊥) × IsSame old new)
IsAfter (Learns learner teacher) word old new = IsLearned old learner teacher new ⊎ ((last_of old teacher ≡ Nothing) × IsSame old new)

-- and of every word
abbrev pub IsKnowledgeAfter : Effect → (old new : Knowledge) → Type 0
IsKnowledgeAfter effect old new = (word : ℕ) → IsAfter effect word (word_of old word) (word_of new word)

-- what is kept is what is known of each word's writes after these acts, where the first so many barriers are gone
abbrev pub IsKnowledgeOf : (nodes locks gone : ℕ) → List Act → Knowledge → Type 0
IsKnowledgeOf nodes locks gone run knowledge =
    (word : ℕ) → Describes (HappensBefore run) (KnowsWrite nodes locks gone run word) (word_of knowledge word)

-- the counts are those of the node's arrives and departs where they matter, without the barriers that are gone
pub record AreCounts (gone : ℕ) (run : List Act) (node : ℕ) (deed : Deed) (arrived departed : ℕ) : Type 0 where
  pub arrives : deed ≡ Arrive → arrives_before run node (length run) ≡ gone + arrived
  pub departs : deed ≡ Depart → departs_before run node (length run) ≡ gone + departed

-- what is kept of every word where so many barriers more are gone, whose numbers begin at the first
abbrev pub IsKnowledgeWithout : (first count : ℕ) → (old new : Knowledge) → Type 0
IsKnowledgeWithout first count old new = (word : ℕ) → IsWithout first count (word_of old word) (word_of new word)

-- the acts are of these nodes, and release these locks
pub record AreOf (nodes locks : ℕ) (run : List Act) : Type 0 where
  pub in_nodes : (i node : ℕ) (deed : Deed) → Does run i node deed → node < nodes
  pub in_locks : (i node l : ℕ) → Does run i node (Release l) → l < locks

-- the numbers of those who know and of words leave room for one more
abbrev pub IsSmall : Effect → Type 0
IsSmall Passes = Unit {0}
IsSmall (Writes writer written value) = (writer < 2 ^ 64 - 1) × (written < 2 ^ 64 - 1)
IsSmall (Learns learner teacher) = learner < 2 ^ 64 - 1

-- the word that is written is one of so many
abbrev pub IsWithin : Effect → ℕ → Type 0
IsWithin (Writes writer written value) count = written < count
IsWithin _ count = Unit {0}

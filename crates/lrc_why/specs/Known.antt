-- What is known at an act of other nodes, and what it brings.
use Rattle.std.specs.Prelude.{◌≡◌, ℕ, ◌<◌, ◌≤◌, ◌≢◌, Bool, true, false, List, Option, Some, None, MatchOption, length}
use Rattle.lrc_trace.specs.declared.act.Act.{Act}
use Rattle.lrc_why_chains.specs.Known.{IsActOf, IsLastKnown}
use Rattle.lrc_why_chains.specs.Writes.{AreExactly}
use Rattle.lrc_why.specs.declared.reasons.Brought.{Brought}
use Rattle.lrc_why.specs.declared.reasons.News.{News}
use Rattle.lrc_why.specs.Since.{IsSince}
use Rattle.lrc_why.specs.Parting.{IsUnknown}
use Rattle.lrc_why.specs.Positions.{AreWordsOf, IsBeside, IsClosed, IsNew}

-- the last act of the node before the position
pub record IsActBefore (run : List Act) (node position k : ℕ) : Type 0 where
  pub acts : IsActOf run node k
  pub earlier : k < position
  pub last : (m : ℕ) → m < position → IsActOf run node m → m ≤ k

-- the acts of the node that are new at the position to the acting node, and the words that they write
pub record IsBrought (run : List Act) (acting node position : ℕ) (brought : Brought) : Type 0 where
  pub acts : AreExactly (IsNew run acting node position) brought.acts.items
  pub words : AreWordsOf run (IsNew run acting node position) brought.words.items

-- The last act of the node that is known at the position, since when it is known to the acting node, and where that is since the
-- position itself, what is new there.
pub record IsNews (run : List Act) (acting node position : ℕ) (news : News) : Type 0 where
  pub other : acting ≢ node
  pub last : IsLastKnown run node position news.last
  pub since : IsSince run acting news.last news.since
  pub brought : MatchOption news.brought (news.since.first < position)
      (λ brought. (news.since.first ≡ position) × IsBrought run acting node position brought)

-- the same, where the node is another one and something of it is known
abbrev pub IsNewsIfKnown : List Act → ℕ → ℕ → ℕ → Option News → Type 0
IsNewsIfKnown run acting node position None = acting ≢ node → IsUnknown run node position
IsNewsIfKnown run acting node position (Some news) = IsNews run acting node position news

-- the node is another one, and nothing of it is known
pub record IsUnknownNode (run : List Act) (nodes acting position node : ℕ) : Type 0 where
  pub within : node < nodes
  pub other : node ≢ acting
  pub unknown : IsUnknown run node position

-- as many acts close an interval of the node, and are known at the position or stand there
abbrev pub CountsClosed : List Act → ℕ → ℕ → ℕ → Type 0
CountsClosed run node position count = (closed : List ℕ) × AreExactly (IsClosed run node position) closed × (count ≡ length closed)

-- the words that are written in the interval that this deed closes at the position, none where it closes none
abbrev pub AreClosedWords : Bool → List Act → ℕ → List ℕ → Type 0
AreClosedWords true run position words = AreWordsOf run (IsBeside run position) words
AreClosedWords false run position words = length words ≡ 0

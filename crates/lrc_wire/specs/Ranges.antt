-- Which numbers and lists a version can spell: the ranges and orders of the fields of each kind.
use Rattle.std.specs.Prelude.{◌≡◌, ℕ, ◌^◌, ◌<◌, ◌≤◌, ◌⊎◌, IsTrue, List, length, All, AllPairs}
use Rattle.lrc_page.specs.declared.TheConstants.{MOST_PAGE_WORDS}
use Rattle.lrc_store.specs.Interval.{IntervalRecord, IsInterval, by_node}
use Rattle.lrc_envelope.specs.declared.limits.TheConstants.{MOST_LOCKS, MOST_NODES}
use Rattle.lrc_wire.specs.declared.version.Version.{Version}
use Rattle.lrc_wire.specs.declared.version.Version.TheVariants.{One, Two}
use Rattle.lrc_envelope.specs.declared.message.Message.{Message}
use Rattle.lrc_envelope.specs.declared.message.Message.TheVariants.{LockRequest, LockForward, LockGrant, Arrive, Depart, Clean, Discard}
use Rattle.lrc_envelope.specs.declared.message.Message.TheVariants.{ChangesRequest, ChangesReply, PageRequest, PageReply}
use Rattle.lrc_wire.specs.Versions.{pages_in, words_in}
use Rattle.lrc_envelope.specs.Records.{GoWith, AreIndices, IndexedChangesRecord, IsIndexedChanges, AreParts}
use Rattle.lrc_envelope.specs.Envelope.{EnvelopeRecord, IsEnvelope}

-- a number of so many bits
abbrev pub HasBits : ℕ → ℕ → Type 0
HasBits bits n = n < 2 ^ bits

-- a time of 1 to 16 nodes
pub record IsTime (time : List ℕ) : Type 0 where
  pub some : 1 ≤ length time
  pub few : length time ≤ MOST_NODES
  pub bits : All (HasBits 32) time

-- an episode, at least 1
pub record IsEpisode (episode : ℕ) : Type 0 where
  pub begun : 1 ≤ episode
  pub bits : HasBits 32 episode

-- the pages of an interval
abbrev pub NamesPages : Version → IntervalRecord → Type 0
NamesPages version interval = All (λ page. page < pages_in version) interval.pages

-- a time, and intervals that go with it, ascending by node, then index
pub record FitNews (version : Version) (time : List ℕ) (intervals : List IntervalRecord) : Type 0 where
  pub begins : IsTime time
  pub count : HasBits 32 (length intervals)
  pub each : All IsInterval intervals
  pub bits : All (λ interval. All (HasBits 32) interval.stamp) intervals
  pub pages : All (NamesPages version) intervals
  pub together : GoWith (length time) intervals
  pub ascending : AllPairs (λ a b. IsTrue (by_node a b)) intervals

-- at least one index
pub record FitIndices (indices : List ℕ) : Type 0 where
  pub some : 1 ≤ length indices
  pub count : HasBits 32 (length indices)
  pub are : AreIndices indices
  pub bits : All (HasBits 32) indices

-- what an interval changed
pub record FitPart (version : Version) (part : IndexedChangesRecord) : Type 0 where
  pub is : IsIndexedChanges part
  pub bits : HasBits 32 part.index
  pub offsets : All (λ change. change.offset < words_in version) part.changes
  pub values : All (λ change. HasBits 64 change.value) part.changes

-- what at least one interval changed
pub record FitParts (version : Version) (parts : List IndexedChangesRecord) : Type 0 where
  pub some : 1 ≤ length parts
  pub count : HasBits 32 (length parts)
  pub each : All (FitPart version) parts
  pub are : AreParts parts

-- how many words a page may have
abbrev pub IsSize : Version → ℕ → Type 0
IsSize One words = words ≡ 64
IsSize Two words = (words ≡ 64) ⊎ (words ≡ MOST_PAGE_WORDS)

-- a value for each word of a page
pub record FitValues (version : Version) (values : List ℕ) : Type 0 where
  pub all : IsSize version (length values)
  pub bits : All (HasBits 64) values

-- the ranges and orders of each kind
abbrev pub IsMessage : Version → Message → Type 0
IsMessage v (LockRequest m) = (m.lock < MOST_LOCKS) × IsTime m.time
IsMessage v (LockForward m) = (m.lock < MOST_LOCKS) × (m.asker < MOST_NODES) × IsTime m.time
IsMessage v (LockGrant m) = (m.lock < MOST_LOCKS) × FitNews v m.time m.intervals
IsMessage v (Arrive m) = IsEpisode m.episode × FitNews v m.time m.intervals
IsMessage v (Depart m) = IsEpisode m.episode × FitNews v m.time m.intervals
IsMessage v (Clean episode) = IsEpisode episode
IsMessage v (Discard episode) = IsEpisode episode
IsMessage v (ChangesRequest m) = (m.page < pages_in v) × FitIndices m.indices
IsMessage v (ChangesReply m) = (m.page < pages_in v) × FitParts v m.parts
IsMessage v (PageRequest page) = page < pages_in v
IsMessage v (PageReply m) = (m.page < pages_in v) × FitValues v m.values

-- the ranges and orders of an envelope
pub record IsFit (version : Version) (envelope : EnvelopeRecord) : Type 0 where
  pub ends : IsEnvelope envelope
  pub number : HasBits 32 envelope.number
  pub message : IsMessage version envelope.message

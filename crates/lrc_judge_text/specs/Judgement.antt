-- What a judge says of acts: by the definitions on acts, for any list of them.
use Rattle.std.specs.Prelude.{◌≡◌, ◌<◌, ◌≤◌, ◌&&◌, ◌⊎◌, ℕ, Bool, true, false, All, List, [], ◌++◌, length}
use Rattle.std.specs.Prelude.{Option, Some, None, MatchOption, Ok, if◌then◌else◌, is_some, slice_index, slice_index_or, codes, decimal}
use Rattle.std.specs.List.{flat_map}
use Rattle.lrc_trace.specs.declared.act.Act.{Act}
use Rattle.lrc_trace.specs.declared.act.Deed.{Deed}
use Rattle.lrc_trace.specs.declared.act.Deed.TheVariants.{Quiet, Read, Write}
use Rattle.lrc_trace.specs.declared.race.Race.{Race}
use Rattle.lrc_trace.specs.Run.{IsDone, act_of}
use Rattle.lrc_trace.specs.Synchronization.{IsWellSynchronized}
use Rattle.lrc_trace.specs.Reading.{ReadsLazily}
use Rattle.lrc_trace.specs.Conflict.{IsFirstRace, IsRaceFree}
use Rattle.lrc_judge.specs.Synchronization.{IsFirstBreak}
use Rattle.lrc_judge.specs.Allowed.{AreAllowed}
use Rattle.lrc_judge.specs.Reading.{IsFirstMisread}
use Rattle.lrc_judge.specs.InOrder.{IsFirstOutOfOrder, ReadsLastWritten}
use Rattle.lrc_judge.specs.Races.{AreNamedRaces, word_of}
use Rattle.lrc_judge.specs.Pairs.{AreRacingPairs}
use Rattle.lrc_judge.specs.declared.lanes.Pair.{Pair}
use Rattle.lrc_judge.specs.declared.in_order.OutOfOrder.{OutOfOrder}
use Rattle.lrc_exact.specs.Rule.{Shape}
use Rattle.lrc_exact_judge.specs.First.{IsFound}
use Rattle.lrc_exact_judge.specs.declared.first.Inexact.{Inexact}
use Rattle.lrc_text.specs.Lines.{lines_of}
use Rattle.lrc_text.specs.RaceText.{first_race_text, races_text}
use Rattle.lrc_acts.specs.ActsText.{ReadsActs, SaysSome, most_bytes}
use Rattle.lrc_acts.specs.JudgeLines.{lazy_line, ordered_line, pair_line, synchronized_line, unlazy_line, unordered_line, unsynchronized_line}
use Rattle.lrc_acts.specs.declared.judge_lines.Place.{Place}
use Rattle.lrc_acts.specs.declared.judge_lines.RacingAccesses.{RacingAccesses}
use Rattle.lrc_acts.specs.declared.reading.LinedActs.{LinedActs}
use Rattle.lrc_judge_text.specs.declared.memory.ExactMemory.{ExactMemory}

-- the place of the act at a position
abbrev pub place_at : List ℕ → ℕ → Place
place_at lines position = record { position = position; line = slice_index lines position }

-- the acts are, or are not, well synchronized, and this line says so
pub data TellsSynchronization (nodes : ℕ) (acts : List Act) (lines : List ℕ) : Bool → List ℕ → Type 0 where
  synchronized : IsWellSynchronized nodes acts → TellsSynchronization nodes acts lines true synchronized_line
  unsynchronized : {position : ℕ} → IsFirstBreak nodes acts position
      → TellsSynchronization nodes acts lines false (unsynchronized_line (place_at lines position))

-- the acts read, or do not read, lazily, and this line says so
pub data TellsLazyReading (acts : List Act) (lines : List ℕ) : Bool → List ℕ → Type 0 where
  lazy : ReadsLazily acts → TellsLazyReading acts lines true lazy_line
  unlazy : {position word value : ℕ} {allowed : List ℕ} → IsFirstMisread acts position → IsDone acts position (Read word value)
      → AreAllowed acts position word allowed → TellsLazyReading acts lines false (unlazy_line (place_at lines position) value allowed)

-- the shape of an exact memory for so many nodes
abbrev pub exact_shape : ℕ → ExactMemory → Shape
exact_shape nodes memory = record { nodes = nodes; size = memory.page_words; collect = memory.collect }

-- acts that read exactly, and the first read that does not: what it gives, and what the exact memory has
abbrev pub exact_line : List ℕ
exact_line = codes "reads exactly\n"

abbrev pub inexact_line : Place → ℕ → ℕ → List ℕ
inexact_line place value given =
    (codes "does not read exactly at act " ++ decimal place.position ++ codes ", line " ++ decimal place.line)
    ++ (codes ": read " ++ decimal value ++ codes ", given " ++ decimal given ++ codes "\n")

-- The acts that are looked at read, or do not read, exactly, and this line says so; where no memory is given, no line does.
pub data TellsExactReading (nodes : ℕ) : Option ExactMemory → List Act → List ℕ → Bool → List ℕ → Type 0 where
  unasked : {acts : List Act} {lines : List ℕ} → TellsExactReading nodes None acts lines true []
  exact : {memory : ExactMemory} {acts : List Act} {lines : List ℕ} → IsFound (exact_shape nodes memory) acts None
      → TellsExactReading nodes (Some memory) acts lines true exact_line
  inexact : {memory : ExactMemory} {acts : List Act} {lines : List ℕ} {first : Inexact} → IsFound (exact_shape nodes memory) acts (Some first)
      → TellsExactReading nodes (Some memory) acts lines false (inexact_line (place_at lines first.position) first.read first.given)

-- the acts read, or do not read, in order, and this line says so
pub data TellsOrder (acts : List Act) (lines : List ℕ) : List ℕ → Type 0 where
  ordered : ReadsLastWritten acts → TellsOrder acts lines ordered_line
  unordered : {first : OutOfOrder} {word value : ℕ} → IsFirstOutOfOrder acts first → IsDone acts first.position (Read word value)
      → TellsOrder acts lines (unordered_line (place_at lines first.position) value first.last_written)

-- 4 where the acts are not well synchronized, or do not read as is asked; else 3 where there is a race
abbrev pub judge_status : Bool → Bool → Option ℕ → ℕ
judge_status holds reads first = if holds && reads then (if is_some first then 3 else 0) else 4

-- the text after is the text before and one that is so
pub record AddsText (before after : List ℕ) (IsSo : List ℕ → Type 0) : Type 0 where
  pub added : List ℕ
  pub whole : after ≡ before ++ added
  pub so : IsSo added

-- whether a deed writes
abbrev pub writes : Deed → Bool
writes (Write word value) = true
writes _ = false

-- the deed at a position, and the node that does it
abbrev pub deed_at : List Act → ℕ → Deed
deed_at acts position = (slice_index_or acts position (act_of 0 Quiet)).deed

abbrev pub node_at : List Act → ℕ → ℕ
node_at acts position = (slice_index_or acts position (act_of 0 Quiet)).node

-- the accesses at two positions, to the word of the later
abbrev pub accesses_at : List Act → ℕ → ℕ → RacingAccesses
accesses_at acts earlier later = record {
  earlier = earlier;
  earlier_writes = writes (deed_at acts earlier);
  later = later;
  later_writes = writes (deed_at acts later);
  word = word_of (deed_at acts later);
}

-- a line for each pair of positions
abbrev pub pair_lines : List Act → List Pair → List ℕ
pair_lines acts pairs = flat_map (λ pair. pair_line (accesses_at acts pair.earlier pair.later)) pairs

-- the text names the races of the acts; or, where they are asked for, the racing pairs
pub data TellsRaces (acts : List Act) : Bool → List ℕ → Type 0 where
  named : {races : List Race} → AreNamedRaces acts races → TellsRaces acts false (races_text races)
  paired : {pairs : List Pair} → AreRacingPairs acts pairs → TellsRaces acts true (pair_lines acts pairs)

-- the least number above 0 below which every node is that acts
pub record IsNodeCount (acts : List Act) (count : ℕ) : Type 0 where
  pub some : 0 < count
  pub above : All (λ act. act.node < count) acts
  pub least : (other : ℕ) → 0 < other → All (λ act. act.node < other) acts → count ≤ other

-- how many nodes there are: as many as are given, or else as act
abbrev pub CountsNodes : Option ℕ → List Act → ℕ → Type 0
CountsNodes (Some nodes) acts count = count ≡ nodes
CountsNodes None acts count = IsNodeCount acts count

-- The first lines of a judgement: the acts are or are not well synchronized, read or do not read lazily, exactly where a memory is given, and in
-- order. They read as is asked where they read lazily, and exactly where that is asked.
pub record IsHead (nodes : ℕ) (memory : Option ExactMemory) (acts : List Act) (lines : List ℕ) (holds reads : Bool) (text : List ℕ) : Type 0 where
  pub first : List ℕ
  pub second : List ℕ
  pub between : List ℕ
  pub third : List ℕ
  pub lazily : Bool
  pub exactly : Bool
  pub tells_synchronization : TellsSynchronization nodes acts lines holds first
  pub tells_reading : TellsLazyReading acts lines lazily second
  pub tells_exactness : TellsExactReading nodes memory acts lines exactly between
  pub tells_order : TellsOrder acts lines third
  pub both : reads ≡ (lazily && exactly)
  pub whole : text ≡ first ++ second ++ between ++ third

-- what is printed of acts and their lines, and the status after it
pub record IsJudgement (nodes : ℕ) (memory : Option ExactMemory) (acts : List Act) (lines : List ℕ) (pairs : Bool) (out : List ℕ) (status : ℕ) : Type 0 where
  pub holds : Bool
  pub reads : Bool
  pub head : List ℕ
  pub races : List ℕ
  pub race : Option ℕ
  pub is_head : IsHead nodes memory acts lines holds reads head
  pub tells_races : TellsRaces acts pairs races
  pub is_first : MatchOption race (IsRaceFree acts) (IsFirstRace acts)
  pub whole : out ≡ head ++ races ++ first_race_text race
  pub status_is : status ≡ judge_status holds reads race

-- what is printed of a text of acts, and the status after it
pub record Judges (nodes : Option ℕ) (memory : Option ExactMemory) (pairs : Bool) (text out : List ℕ) (status : ℕ) : Type 0 where
  pub lined : LinedActs
  pub count : ℕ
  pub says : ReadsActs nodes text (Ok lined)
  pub counted : CountsNodes nodes lined.acts.items count
  pub judgement : IsJudgement count memory lined.acts.items lined.lines.items pairs out status

-- where memory may run out: the text is not too long, and a line says an act before any is bad, or none is bad
abbrev pub MayRunOut : Option ℕ → List ℕ → Type 0
MayRunOut nodes text =
    (length text ≤ most_bytes) × (SaysSome nodes (lines_of text) ⊎ ((lined : LinedActs) × ReadsActs nodes text (Ok lined)))

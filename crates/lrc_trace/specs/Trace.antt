-- Traces: the accesses of one node, interval by interval.
use Rattle.std.specs.Prelude.{◌≡◌, ℕ, ◌-◌, ◌==◌, Bool, true, false, if◌then◌else◌, List, [], ◌∷◌, ◌++◌, Option, Some}
use Rattle.std.specs.Prelude.{None, Contains, IsTrue, length, slice_get, slice_index_or, slice_set}
use Rattle.std.specs.Option.{ForSome}
use Rattle.lrc_page.specs.declared.size.Size.{Size}
use Rattle.lrc_page.specs.Place.{page_of, offset_of}
use Rattle.lrc_trace.specs.declared.trace.Segment.{Segment}
use Rattle.lrc_trace.specs.Touched.{has_word}
use Rattle.lrc_trace.specs.Segments.{MayFollow, opened, with_access}

-- the node, the size of its pages, and its segments
pub record TraceRecord : Type 0 where
  pub node : ℕ
  pub size : Size
  pub segments : List Segment

-- the segment of the last interval
abbrev pub last_segment : List Segment → Option Segment
last_segment segments = slice_get segments (length segments - 1)

-- the interval comes after those of the segments, or is the last of them, with its epoch and its time
abbrev pub MayNote : List Segment → ℕ → ℕ → List ℕ → Type 0
MayNote segments epoch interval time = ForSome (last_segment segments) (λ s. MayFollow s epoch interval time)

-- the segment is of the interval
abbrev pub is_of : ℕ → Option Segment → Bool
is_of interval (Some segment) = segment.interval == interval
is_of interval None = false

-- the segments with an access: in the last one where it is of the interval, and else in one more
abbrev pub noted_in : List Segment → ℕ → ℕ → List ℕ → ℕ → ℕ → Bool → List Segment
noted_in segments epoch interval time page offset is_write =
    let fresh = opened epoch interval time in
    let last = length segments - 1 in
    if is_of interval (last_segment segments)
    then slice_set segments last (with_access page offset is_write (slice_index_or segments last fresh))
    else segments ++ with_access page offset is_write fresh ∷ []

-- the trace with an access noted
abbrev pub noted : TraceRecord → ℕ → ℕ → List ℕ → ℕ → Bool → TraceRecord
noted trace epoch interval time word is_write = record trace {
  segments = noted_in trace.segments epoch interval time (page_of word trace.size) (offset_of word trace.size) is_write;
}

-- the segment has a write of the word, or a read
abbrev pub has_access : Size → Segment → Bool → ℕ → Bool
has_access size segment true word = has_word segment.writes (page_of word size) (offset_of word size)
has_access size segment false word = has_word segment.reads (page_of word size) (offset_of word size)

-- a read or a write of a word, in an interval with its epoch and its time
pub record NotedAccess : Type 0 where
  pub epoch : ℕ
  pub interval : ℕ
  pub time : List ℕ
  pub word : ℕ
  pub is_write : Bool

-- a segment of the interval, with this epoch and this time, has the access
pub record IsNoted (trace : TraceRecord) (access : NotedAccess) : Type 0 where
  pub segment : Segment
  pub there : Contains trace.segments segment
  pub epoch : segment.epoch ≡ access.epoch
  pub interval : segment.interval ≡ access.interval
  pub time : segment.time ≡ access.time
  pub has : IsTrue (has_access trace.size segment access.is_write access.word)

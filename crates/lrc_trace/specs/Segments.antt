-- Segments: the accesses of one interval.
use Rattle.std.specs.Prelude.{◌≡◌, ◌<◌, ◌⊎◌, ℕ, Bool, true, false, List, [], All, map}
use Rattle.lrc_page.specs.Pages.{IsRising}
use Rattle.lrc_trace.specs.declared.trace.Segment.{Segment}
use Rattle.lrc_trace.specs.Touched.{with_word, IsTouched}

-- an interval without accesses
abbrev pub opened : ℕ → ℕ → List ℕ → Segment
opened epoch interval time = record { epoch = epoch; interval = interval; time = time; reads = []; writes = [] }

-- the same with a read of a word, or with a write
abbrev pub with_access : ℕ → ℕ → Bool → Segment → Segment
with_access page offset true segment = record segment { writes = with_word page offset segment.writes }
with_access page offset false segment = record segment { reads = with_word page offset segment.reads }

-- the interval comes after the segment's, or is that one, with its epoch and its time
abbrev pub MayFollow : Segment → ℕ → ℕ → List ℕ → Type 0
MayFollow s epoch interval time = (s.interval < interval) ⊎ ((s.interval ≡ interval) × (s.epoch ≡ epoch) × (s.time ≡ time))

-- the words read and the words written are kept by page
pub record IsSegment (segment : Segment) : Type 0 where
  pub reads : IsTouched segment.reads
  pub writes : IsTouched segment.writes

-- the intervals of segments
abbrev pub intervals_of : List Segment → List ℕ
intervals_of segments = map (λ segment. segment.interval) segments

-- the intervals ascend, each once
pub record AreSegments (segments : List Segment) : Type 0 where
  pub rising : IsRising (intervals_of segments)
  pub each : All IsSegment segments

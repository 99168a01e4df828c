-- What holds of every timed run that keeps time.
use Rattle.std.specs.Prelude.{◌≡◌, ◌≢◌, ℕ, ◌+◌, ◌<◌, ◌≤◌, ◌⊎◌, ◌↔◌, true, false, List, [], ◌∷◌, ◌++◌, length, take}
use Rattle.lrc_trace.specs.declared.act.Act.{Act}
use Rattle.lrc_trace.specs.declared.act.Deed.{Deed}
use Rattle.lrc_trace.specs.declared.act.Deed.TheVariants.{Release, Arrive}
use Rattle.lrc_trace.specs.declared.race.Race.{Race}
use Rattle.lrc_trace.specs.Run.{Does, is_depart, count_of, arrives_before, departs_before}
use Rattle.lrc_trace.specs.Order.{HappensBefore}
use Rattle.lrc_trace.specs.Conflict.{Accesses}
use Rattle.lrc_trace.specs.Interval.{closes, interval_at, IsNamedRace}
use Rattle.lrc_trace.specs.Synchronization.{IsWellSynchronized, WaitsAtBarriers}
use Rattle.lrc_time.specs.Time.{zeros, entry, Covers, joined, weight_of}
use Rattle.lrc_clock.specs.Times.{time_at, raised, time_before, stamp_at, released_time, arrived_time}
use Rattle.lrc_clock.specs.Keeping.{KeepsTime, leaves_time, next_act_time}
use Rattle.lrc_clock.specs.Cover.{ClosesAt, IsClosedBy, IsClosedBefore, IsClosedAtRelease, IsClosedAtArrive}
use Rattle.lrc_clock.specs.Races.{AreUnknown, NamesUnknown, IsSegmentOf, IsRaceOfSegments}

-- for every timed run that keeps time,
abbrev pub OfTimedRuns : (ℕ → List Act → List (List ℕ) → Type 0) → Type 0
OfTimedRuns Holds = (nodes : ℕ) (run : List Act) (times : List (List ℕ)) → KeepsTime nodes run times → Holds nodes run times

-- and for every one that is well synchronized as well
abbrev pub OfSynchronizedRuns : (ℕ → List Act → List (List ℕ) → Type 0) → Type 0
OfSynchronizedRuns Holds = (nodes : ℕ) (run : List Act) (times : List (List ℕ)) → KeepsTime nodes run times
    → IsWellSynchronized nodes run → Holds nodes run times

-- ---- lengths

-- every time has an entry for each node: at a position, before one, and as a stamp
abbrev pub LengthAt : Type 0
LengthAt = OfTimedRuns (λ nodes run times. (j node : ℕ) (deed : Deed) → Does run j node deed → length (time_at times j) ≡ nodes)

abbrev pub LengthBefore : Type 0
LengthBefore = OfTimedRuns (λ nodes run times. (j node : ℕ) → length (time_before nodes run times node j) ≡ nodes)

abbrev pub LengthOfStamp : Type 0
LengthOfStamp = OfTimedRuns (λ nodes run times. (j node : ℕ) → length (stamp_at nodes run times node j) ≡ nodes)

-- ---- own entries

-- A node's own entry at its position is the number of its closing acts up to and with that position.
abbrev pub OwnEntryAt : Type 0
OwnEntryAt = OfTimedRuns (λ nodes run times. (j node : ℕ) (deed : Deed) → Does run j node deed
    → entry (time_at times j) node ≡ count_of closes node (take (j + 1) run))

-- So the interval of an act that closes nothing, as an access, is one more than the own entry there,
abbrev pub IntervalOfOther : Type 0
IntervalOfOther = OfTimedRuns (λ nodes run times. (j node : ℕ) (deed : Deed) → Does run j node deed → closes deed ≡ false
    → interval_at run node j ≡ entry (time_at times j) node + 1)

-- and that of a closing act is the own entry.
abbrev pub IntervalOfClosing : Type 0
IntervalOfClosing = OfTimedRuns (λ nodes run times. (j node : ℕ) (deed : Deed) → Does run j node deed → closes deed ≡ true
    → interval_at run node j ≡ entry (time_at times j) node)

-- Between its acts, and after its last, the interval that a node is in is one more than the own entry of its time.
abbrev pub IntervalBetween : Type 0
IntervalBetween = OfTimedRuns (λ nodes run times. (j node : ℕ) → j ≤ length run
    → interval_at run node j ≡ entry (time_before nodes run times node j) node + 1)

-- The own entry of a stamp is the index of the interval that it is the stamp of.
abbrev pub IntervalOfStamp : Type 0
IntervalOfStamp = OfTimedRuns (λ nodes run times. (j node : ℕ) → j ≤ length run → node < nodes
    → entry (stamp_at nodes run times node j) node ≡ interval_at run node j)

-- Nobody knows more of a node than it has closed.
abbrev pub EntryBound : Type 0
EntryBound = OfTimedRuns (λ nodes run times. (j node : ℕ) (deed : Deed) (q : ℕ) → Does run j node deed
    → entry (time_at times j) q ≤ count_of closes q (take (j + 1) run))

abbrev pub EntryBoundBefore : Type 0
EntryBoundBefore = OfTimedRuns (λ nodes run times. (j node q : ℕ) → j ≤ length run
    → entry (time_before nodes run times node j) q ≤ entry (time_before nodes run times q j) q)

-- ---- cover

-- Times rise along happens before.
abbrev pub TimesRise : Type 0
TimesRise = OfSynchronizedRuns (λ nodes run times. (i j : ℕ) → HappensBefore run i j → Covers (time_at times j) (time_at times i))

-- An entry of the time at a position is at least k exactly where that node's interval k was closed there, or where it
-- happens before.
abbrev pub EntryIsCover : Type 0
EntryIsCover = OfSynchronizedRuns (λ nodes run times. (j node : ℕ) (deed : Deed) (q k : ℕ) → Does run j node deed → 1 ≤ k
    → k ≤ entry (time_at times j) q ↔ IsClosedBy run q k j)

-- For another node: exactly where the closing act happens before the position.
abbrev pub OtherEntryIsHappensBefore : Type 0
OtherEntryIsHappensBefore = OfSynchronizedRuns (λ nodes run times. (j node : ℕ) (deed : Deed) (q k : ℕ) → Does run j node deed → q ≢ node
    → 1 ≤ k → k ≤ entry (time_at times j) q ↔ ((i : ℕ) × ClosesAt run q k i × HappensBefore run i j))

-- What the present time of a node covers, between its acts and after its last: what was closed at one of its positions or
-- where it happens before one.
abbrev pub PresentIsCover : Type 0
PresentIsCover = OfSynchronizedRuns (λ nodes run times. (j node q k : ℕ) → 1 ≤ k
    → k ≤ entry (time_before nodes run times node j) q ↔ IsClosedBefore run q k node j)

-- What it covers once the node has closed its interval and waits: that, and the interval that it has closed.
abbrev pub WaitingIsCover : Type 0
WaitingIsCover = OfSynchronizedRuns (λ nodes run times. (j node q k : ℕ) → j ≤ length run → node < nodes → 1 ≤ k
    → k ≤ entry (stamp_at nodes run times node j) q
    ↔ (IsClosedBefore run q k node j ⊎ ((q ≡ node) × (k ≡ interval_at run node j))))

-- What the time of a lock's last release covers: what was closed at a release of the lock, or happens before one.
abbrev pub ReleasedIsCover : Type 0
ReleasedIsCover = OfSynchronizedRuns (λ nodes run times. (j l q k : ℕ) → 1 ≤ k
    → k ≤ entry (released_time nodes run times l j) q ↔ IsClosedAtRelease run q k l j)

-- What the time of a barrier covers: what was closed at one of its arrives, or happens before one.
abbrev pub ArrivedIsCover : Type 0
ArrivedIsCover = OfSynchronizedRuns (λ nodes run times. (j number q k : ℕ) → 1 ≤ k
    → k ≤ entry (arrived_time nodes run times number j) q ↔ IsClosedAtArrive run q k number j)

-- The time of a barrier is the least that covers the times at its arrives.
abbrev pub ArrivedCoversArrives : Type 0
ArrivedCoversArrives = OfTimedRuns (λ nodes run times. (i j p number : ℕ) → i < j → Does run i p Arrive → arrives_before run p i ≡ number
    → Covers (arrived_time nodes run times number j) (time_at times i))

abbrev pub ArrivedIsLeast : Type 0
ArrivedIsLeast = OfTimedRuns (λ nodes run times. (time : List ℕ) (j number : ℕ)
    → ((i p : ℕ) → i < j → Does run i p Arrive → arrives_before run p i ≡ number → Covers time (time_at times i))
    → Covers time (arrived_time nodes run times number j))

-- ---- acts

-- Of acts of two nodes the one happens before the other exactly where the other's time covers its interval.
abbrev pub OrderIsCover : Type 0
OrderIsCover = OfSynchronizedRuns (λ nodes run times. (i j p q : ℕ) (d e : Deed) → p ≢ q → Does run i p d → Does run j q e
    → HappensBefore run i j ↔ (interval_at run p i ≤ entry (time_at times j) p))

-- ---- stamps

-- A closing act's time covers the stamp of the interval that it closes, and has the same own entry.
abbrev pub CloserCoversStamp : Type 0
CloserCoversStamp = OfTimedRuns (λ nodes run times. (node index i : ℕ) → ClosesAt run node index i
    → Covers (time_at times i) (stamp_at nodes run times node i))

abbrev pub CloserHasIndex : Type 0
CloserHasIndex = OfTimedRuns (λ nodes run times. (node index i : ℕ) → ClosesAt run node index i → entry (time_at times i) node ≡ index)

abbrev pub StampHasIndex : Type 0
StampHasIndex = OfTimedRuns (λ nodes run times. (node index i : ℕ) → ClosesAt run node index i
    → entry (stamp_at nodes run times node i) node ≡ index)

-- In every other entry the stamp is the node's time before.
abbrev pub StampIsTimeBefore : Type 0
StampIsTimeBefore = OfTimedRuns (λ nodes run times. (j node q : ℕ) → q ≢ node
    → entry (stamp_at nodes run times node j) q ≡ entry (time_before nodes run times node j) q)

-- The stamps of a node rise, up to that of an interval that it has just closed.
abbrev pub StampsRise : Type 0
StampsRise = OfTimedRuns (λ nodes run times. (node index i j : ℕ) → ClosesAt run node index i → i < j
    → Covers (stamp_at nodes run times node j) (stamp_at nodes run times node i))

-- What a time covers was closed, and the time covers its stamp: at a position,
abbrev pub CutAt : Type 0
CutAt = OfSynchronizedRuns (λ nodes run times. (j node : ℕ) (deed : Deed) (q k : ℕ) → Does run j node deed
    → 1 ≤ k → k ≤ entry (time_at times j) q
    → (i : ℕ) × ClosesAt run q k i × (i ≤ j) × Covers (time_at times j) (stamp_at nodes run times q i))

-- between a node's acts,
abbrev pub CutBefore : Type 0
CutBefore = OfSynchronizedRuns (λ nodes run times. (j node q k : ℕ) → 1 ≤ k → k ≤ entry (time_before nodes run times node j) q
    → (i : ℕ) × ClosesAt run q k i × (i < j) × Covers (time_before nodes run times node j) (stamp_at nodes run times q i))

-- and in a stamp, but for the interval that it is the stamp of.
abbrev pub CutOfStamp : Type 0
CutOfStamp = OfSynchronizedRuns (λ nodes run times. (j node q k : ℕ) → j ≤ length run → node < nodes
    → 1 ≤ k → k ≤ entry (stamp_at nodes run times node j) q
    → ((i : ℕ) × ClosesAt run q k i × (i < j) × Covers (stamp_at nodes run times node j) (stamp_at nodes run times q i))
    ⊎ ((q ≡ node) × (k ≡ interval_at run node j)))

-- Where the stamp of an interval covers another interval, that one's stamp weighs less,
abbrev pub CoveredIsLighter : Type 0
CoveredIsLighter = OfSynchronizedRuns (λ nodes run times. (j node q k i : ℕ) → j ≤ length run → node < nodes → ClosesAt run q k i
    → (q ≡ node → k ≢ interval_at run node j) → k ≤ entry (stamp_at nodes run times node j) q
    → weight_of (stamp_at nodes run times q i) < weight_of (stamp_at nodes run times node j))

-- and doesn't cover the interval.
abbrev pub CoveredDoesNotCover : Type 0
CoveredDoesNotCover = OfSynchronizedRuns (λ nodes run times. (j node q k i : ℕ) → j ≤ length run → node < nodes → ClosesAt run q k i
    → (q ≡ node → k ≢ interval_at run node j) → k ≤ entry (stamp_at nodes run times node j) q
    → entry (stamp_at nodes run times q i) node < interval_at run node j)

-- ---- races

-- and for every one in which, besides, no node goes on before it departs
abbrev pub OfOrderlyRuns : (ℕ → List Act → List (List ℕ) → Type 0) → Type 0
OfOrderlyRuns Holds = (nodes : ℕ) (run : List Act) (times : List (List ℕ)) → KeepsTime nodes run times
    → IsWellSynchronized nodes run → WaitsAtBarriers run → Holds nodes run times

-- Two accesses of different nodes are unordered exactly where neither's time covers the other's interval,
abbrev pub UnorderedIsUnknown : Type 0
UnorderedIsUnknown = OfSynchronizedRuns (λ nodes run times. (i p j q v w : ℕ) → p ≢ q → Accesses run i p v → Accesses run j q w
    → ((¬ HappensBefore run i j) × (¬ HappensBefore run j i)) ↔ AreUnknown run times i p j q)

-- so the named races are those of two such accesses,
abbrev pub NamedRaceIsUnknown : Type 0
NamedRaceIsUnknown = OfSynchronizedRuns (λ nodes run times. (race : Race)
    → IsNamedRace run race ↔ ((i : ℕ) × (j : ℕ) × NamesUnknown run times race i j))

-- and those of two such segments.
abbrev pub NamedRaceIsOfSegments : Type 0
NamedRaceIsOfSegments = OfOrderlyRuns (λ nodes run times. (race : Race) → IsNamedRace run race ↔ IsRaceOfSegments run times race)

-- A segment has one time, that of each of its accesses with the own entry one greater.
abbrev pub SegmentTime : Type 0
SegmentTime = OfOrderlyRuns (λ nodes run times. (node index i word : ℕ) (time : List ℕ) → IsSegmentOf run times node index time
    → Accesses run i node word → interval_at run node i ≡ index → time ≡ raised (time_at times i) node)

-- Behind an access, the node's time stands still until it closes the interval,
abbrev pub TimeStandsStill : Type 0
TimeStandsStill = OfOrderlyRuns (λ nodes run times. (i j node : ℕ) (deed : Deed) → Does run i node deed → leaves_time deed ≡ true → i < j
    → interval_at run node i ≡ interval_at run node j → time_before nodes run times node j ≡ time_at times i)

-- so the interval's stamp is the time of each of its accesses with the own entry one greater.
abbrev pub StampOfInterval : Type 0
StampOfInterval = OfOrderlyRuns (λ nodes run times. (i j node : ℕ) (deed : Deed) → Does run i node deed → leaves_time deed ≡ true → i < j
    → interval_at run node i ≡ interval_at run node j → stamp_at nodes run times node j ≡ raised (time_at times i) node)

-- An access happens before one of another node exactly where the stamp of that one's interval, closed or to be closed next,
-- covers its interval.
abbrev pub IntervalOrderIsCover : Type 0
IntervalOrderIsCover = OfOrderlyRuns (λ nodes run times. (i j p q c : ℕ) (d e : Deed) → p ≢ q → Does run i p d → Does run j q e
    → leaves_time e ≡ true → j < c → interval_at run q j ≡ interval_at run q c
    → HappensBefore run i j ↔ (interval_at run p i ≤ entry (stamp_at nodes run times q c) p))

-- ---- epochs

-- Of two acts with different numbers of departs of their nodes before them, the one with fewer happens before the other,
abbrev pub EarlierEpochHappensBefore : Type 0
EarlierEpochHappensBefore = OfOrderlyRuns (λ nodes run times. (i j p q : ℕ) (d e : Deed) → Does run i p d → is_depart d ≡ false → Does run j q e
    → departs_before run p i < departs_before run q j → HappensBefore run i j)

-- and the other's time covers its interval.
abbrev pub EarlierEpochIsCovered : Type 0
EarlierEpochIsCovered = OfOrderlyRuns (λ nodes run times. (i j p q : ℕ) (d e : Deed) → Does run i p d → is_depart d ≡ false → Does run j q e
    → departs_before run p i < departs_before run q j → interval_at run p i ≤ entry (time_at times j) p)

-- ---- prefixes

-- What the times on a prefix say is what those on the whole run say, for as long as the prefix lasts.
abbrev pub OnPrefix : (List Act → List (List ℕ) → List Act → List (List ℕ) → Type 0) → Type 0
OnPrefix Holds = (run more : List Act) (times later : List (List ℕ)) → length times ≡ length run
    → Holds run times (run ++ more) (times ++ later)

abbrev pub TimeOnPrefix : Type 0
TimeOnPrefix = OnPrefix (λ run times whole all. (j : ℕ) → j < length run → time_at all j ≡ time_at times j)

abbrev pub TimeBeforeOnPrefix : Type 0
TimeBeforeOnPrefix = OnPrefix (λ run times whole all. (nodes node j : ℕ) → j ≤ length run
    → time_before nodes whole all node j ≡ time_before nodes run times node j)

abbrev pub StampOnPrefix : Type 0
StampOnPrefix = OnPrefix (λ run times whole all. (nodes node j : ℕ) → j ≤ length run
    → stamp_at nodes whole all node j ≡ stamp_at nodes run times node j)

abbrev pub ReleasedOnPrefix : Type 0
ReleasedOnPrefix = OnPrefix (λ run times whole all. (nodes l j : ℕ) → j ≤ length run
    → released_time nodes whole all l j ≡ released_time nodes run times l j)

abbrev pub ArrivedOnPrefix : Type 0
ArrivedOnPrefix = OnPrefix (λ run times whole all. (nodes number j : ℕ) → j ≤ length run
    → arrived_time nodes whole all number j ≡ arrived_time nodes run times number j)

-- A prefix of what keeps time keeps time,
abbrev pub KeepsOnPrefix : Type 0
KeepsOnPrefix = (nodes : ℕ) (run more : List Act) (times later : List (List ℕ)) → length times ≡ length run
    → KeepsTime nodes (run ++ more) (times ++ later) → KeepsTime nodes run times

-- and so does what keeps time with one act more, exactly where its time is that of the rule.
abbrev pub KeepsByOneMore : Type 0
KeepsByOneMore = (nodes : ℕ) (run : List Act) (times : List (List ℕ)) (act : Act) (time : List ℕ) → KeepsTime nodes run times
    → KeepsTime nodes (run ++ act ∷ []) (times ++ time ∷ [])
    ↔ ((act.node < nodes) × (time ≡ next_act_time nodes run times act.node act.deed))

-- ---- the rule determines the times

-- Every run of these nodes has times that keep time,
abbrev pub TimesExist : Type 0
TimesExist = (nodes : ℕ) (run : List Act) → ((j node : ℕ) (deed : Deed) → Does run j node deed → node < nodes)
    → (times : List (List ℕ)) × KeepsTime nodes run times

-- one list of them alone,
abbrev pub TimesAreOne : Type 0
TimesAreOne = (nodes : ℕ) (run : List Act) (times others : List (List ℕ)) → KeepsTime nodes run times → KeepsTime nodes run others → times ≡ others

-- and whether a list keeps time is decided.
abbrev pub KeepingIsDecided : Type 0
KeepingIsDecided = (nodes : ℕ) (run : List Act) (times : List (List ℕ)) → KeepsTime nodes run times ⊎ (¬ KeepsTime nodes run times)

-- ---- where the times of nodes, locks and barriers come from

-- A node's time before a position is that at its last position before,
abbrev pub BeforeIsLast : Type 0
BeforeIsLast = (nodes : ℕ) (run : List Act) (times : List (List ℕ)) (i j node : ℕ) (deed : Deed) → i < j → Does run i node deed
    → ((k : ℕ) (d : Deed) → i < k → k < j → ¬ Does run k node d) → time_before nodes run times node j ≡ time_at times i

-- or zeros.
abbrev pub BeforeIsZeros : Type 0
BeforeIsZeros = (nodes : ℕ) (run : List Act) (times : List (List ℕ)) (j node : ℕ)
    → ((k : ℕ) (d : Deed) → k < j → ¬ Does run k node d) → time_before nodes run times node j ≡ zeros nodes

-- The time of a lock is that at its last release,
abbrev pub ReleasedIsLast : Type 0
ReleasedIsLast = (nodes : ℕ) (run : List Act) (times : List (List ℕ)) (i j p l : ℕ) → i < j → Does run i p (Release l)
    → ((k q : ℕ) → i < k → k < j → ¬ Does run k q (Release l)) → released_time nodes run times l j ≡ time_at times i

-- or zeros.
abbrev pub ReleasedIsZeros : Type 0
ReleasedIsZeros = (nodes : ℕ) (run : List Act) (times : List (List ℕ)) (j l : ℕ)
    → ((k q : ℕ) → k < j → ¬ Does run k q (Release l)) → released_time nodes run times l j ≡ zeros nodes

-- The time of a barrier is settled once every node has made its arrive,
abbrev pub ArrivedIsSettled : Type 0
ArrivedIsSettled = OfTimedRuns (λ nodes run times. (number i j : ℕ) → i ≤ j → ((p : ℕ) → p < nodes → number < arrives_before run p i)
    → arrived_time nodes run times number j ≡ arrived_time nodes run times number i)

-- covers that of the barrier before,
abbrev pub BarriersRise : Type 0
BarriersRise = OfTimedRuns (λ nodes run times. (number j : ℕ) → j ≤ length run
    → ((p : ℕ) → p < nodes → number + 1 < arrives_before run p j)
    → Covers (arrived_time nodes run times (number + 1) j) (arrived_time nodes run times number j))

-- and has for each node the node's own entry at its arrive.
abbrev pub BarrierHasOwn : Type 0
BarrierHasOwn = OfOrderlyRuns (λ nodes run times. (j number i node : ℕ) → i < j → Does run i node Arrive → arrives_before run node i ≡ number
    → entry (arrived_time nodes run times number j) node ≡ entry (time_at times i) node)

-- What a node covers that has taken the time of a barrier and has not departed yet.
abbrev pub MeetingIsCover : Type 0
MeetingIsCover = OfSynchronizedRuns (λ nodes run times. (j node number q k : ℕ) → 1 ≤ k
    → k ≤ entry (joined (time_before nodes run times node j) (arrived_time nodes run times number j)) q
    ↔ (IsClosedBefore run q k node j ⊎ IsClosedAtArrive run q k number j))

-- No time knows of an interval that is open at its position or later: at a position,
abbrev pub OpenAtPosition : Type 0
OpenAtPosition = OfTimedRuns (λ nodes run times. (j m node : ℕ) (deed : Deed) (q : ℕ) → j < m → Does run j node deed
    → entry (time_at times j) q < interval_at run q m)

-- of a node,
abbrev pub OpenToNode : Type 0
OpenToNode = OfTimedRuns (λ nodes run times. (j m node q : ℕ) → j ≤ m → entry (time_before nodes run times node j) q < interval_at run q m)

-- of a lock,
abbrev pub OpenToLock : Type 0
OpenToLock = OfTimedRuns (λ nodes run times. (j m l q : ℕ) → j ≤ m → entry (released_time nodes run times l j) q < interval_at run q m)

-- and of a barrier.
abbrev pub OpenToBarrier : Type 0
OpenToBarrier = OfTimedRuns (λ nodes run times. (j m number q : ℕ) → j ≤ m → entry (arrived_time nodes run times number j) q < interval_at run q m)

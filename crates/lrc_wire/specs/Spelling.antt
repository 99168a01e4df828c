-- The grammar of messages: what bytes each envelope has, in each version.
use Rattle.std.specs.Prelude.{◌≡◌, ℕ, ◌-◌, ◌≤◌, Bool, true, false, List, [], ◌∷◌, ◌++◌, length}
use Rattle.std.specs.List.{flat_map}
use Rattle.std.specs.Int.{Width, w16, w32, w64, to_be_bytes}
use Rattle.lrc_page.specs.declared.changes.Change.{Change}
use Rattle.lrc_page.specs.Changes.{IsAscending}
use Rattle.lrc_store.specs.Interval.{IntervalRecord}
use Rattle.lrc_wire.specs.declared.limits.TheConstants.{MOST_BODY_BYTES}
use Rattle.lrc_wire.specs.declared.version.Version.{Version}
use Rattle.lrc_wire.specs.declared.version.Version.TheVariants.{One, Two}
use Rattle.lrc_envelope.specs.declared.message.Message.{Message}
use Rattle.lrc_envelope.specs.declared.message.Message.TheVariants.{LockRequest, LockForward, LockGrant, Arrive, Depart, Clean, Discard}
use Rattle.lrc_envelope.specs.declared.message.Message.TheVariants.{ChangesRequest, ChangesReply, PageRequest, PageReply}
use Rattle.lrc_wire.specs.Versions.{version_number}
use Rattle.lrc_envelope.specs.Records.{IndexedChangesRecord}
use Rattle.lrc_envelope.specs.Envelope.{EnvelopeRecord}
use Rattle.lrc_wire.specs.Runs.{Run, AreRuns, runs_of}
use Rattle.lrc_wire.specs.Ranges.{IsFit}

-- one part, then the next
infixr 30 ◌·◌
abbrev pub ◌·◌ : List ℕ → List ℕ → List ℕ
a · b = a ++ b

unfoldable pub byte : ℕ → List ℕ
byte n = n ∷ []

-- a number, the highest byte first
unfoldable pub number : Width → ℕ → List ℕ
number w n = to_be_bytes w n

unfoldable pub numbers : Width → List ℕ → List ℕ
numbers w ns = flat_map (number w) ns

unfoldable pub flag : Bool → List ℕ
flag false = byte 0
flag true = byte 1

-- a time: how many entries, and the entries
unfoldable pub time : List ℕ → List ℕ
time entries = byte (length entries) · numbers w32 entries

-- how many pages, and the pages
unfoldable pub pages : List ℕ → List ℕ
pages ps = number w16 (length ps) · numbers w16 ps

unfoldable pub interval : IntervalRecord → List ℕ
interval i = byte i.node · time i.stamp · pages i.pages

-- how many intervals, and the intervals
unfoldable pub intervals : List IntervalRecord → List ℕ
intervals is = number w32 (length is) · flat_map interval is

-- a time, and intervals
unfoldable pub news : List ℕ → List IntervalRecord → List ℕ
news entries is = time entries · intervals is

-- how many indices, and the indices
unfoldable pub indices : List ℕ → List ℕ
indices ns = number w32 (length ns) · numbers w32 ns

-- ---- changes

unfoldable pub change : Change → List ℕ
change c = byte c.offset · number w64 c.value

-- how many changes, and the changes one by one
unfoldable pub singly : List Change → List ℕ
singly cs = byte (length cs) · flat_map change cs

-- the first offset, how many follow it, and the values
unfoldable pub run : Run → List ℕ
run r = byte r.first · byte (length r.values - 1) · numbers w64 r.values

-- how many runs, and the runs
unfoldable pub in_runs : List Run → List ℕ
in_runs rs = number w16 (length rs) · flat_map run rs

-- a way of cutting changes into runs
abbrev pub Cut : Type 0
Cut = List Change → List Run

-- it cuts all changes of a page into maximal runs
abbrev pub IsMaximalCut : Cut → Type 0
IsMaximalCut cut = (changes : List Change) → IsAscending changes → AreRuns changes (cut changes)

abbrev pub changes : Version → Cut → List Change → List ℕ
changes One cut cs = singly cs
changes Two cut cs = in_runs (cut cs)

-- an interval's index, and what it changed
unfoldable pub part : Version → Cut → IndexedChangesRecord → List ℕ
part v cut p = number w32 p.index · changes v cut p.changes

-- how many parts, and the parts
unfoldable pub parts : Version → Cut → List IndexedChangesRecord → List ℕ
parts v cut ps = number w32 (length ps) · flat_map (part v cut) ps

-- ---- messages

-- the values of a page; in version 2 how many stands before them
abbrev pub page_values : Version → List ℕ → List ℕ
page_values One vs = numbers w64 vs
page_values Two vs = number w16 (length vs) · numbers w64 vs

-- the number of each kind
abbrev pub kind : Message → ℕ
kind (LockRequest m) = 1
kind (LockForward m) = 2
kind (LockGrant m) = 3
kind (Arrive m) = 4
kind (Depart m) = 5
kind (Clean episode) = 6
kind (Discard episode) = 7
kind (ChangesRequest m) = 8
kind (ChangesReply m) = 9
kind (PageRequest page) = 10
kind (PageReply m) = 11

-- what each kind has after the header
abbrev pub body : Version → Cut → Message → List ℕ
body v cut (LockRequest m) = byte m.lock · time m.time
body v cut (LockForward m) = byte m.lock · byte m.asker · time m.time
body v cut (LockGrant m) = byte m.lock · news m.time m.intervals
body v cut (Arrive m) = number w32 m.episode · flag m.ask · news m.time m.intervals
body v cut (Depart m) = number w32 m.episode · flag m.collect · news m.time m.intervals
body v cut (Clean episode) = number w32 episode
body v cut (Discard episode) = number w32 episode
body v cut (ChangesRequest m) = number w16 m.page · indices m.indices
body v cut (ChangesReply m) = number w16 m.page · parts v cut m.parts
body v cut (PageRequest page) = number w16 page
body v cut (PageReply m) = number w16 m.page · page_values v m.values

-- version, kind, sender, receiver, number, and how many bytes the body has
unfoldable pub header : Version → Cut → EnvelopeRecord → List ℕ
header v cut e =
    byte (version_number v) · byte (kind e.message) · byte e.from · byte e.to · number w32 e.number · number w32 (length (body v cut e.message))

-- the bytes of an envelope in version 2, header and body, with changes in the runs that `runs_of` cuts
abbrev pub bytes_of : EnvelopeRecord → List ℕ
bytes_of e = header Two runs_of e ++ body Two runs_of e.message

-- these are the bytes of the envelope in a version
pub record Spells (version : Version) (envelope : EnvelopeRecord) (bytes : List ℕ) : Type 0 where
  pub fits : IsFit version envelope
  pub cut : Cut
  pub cuts : IsMaximalCut cut
  pub short : length (body version cut envelope.message) ≤ MOST_BODY_BYTES
  pub spelled : bytes ≡ header version cut envelope · body version cut envelope.message

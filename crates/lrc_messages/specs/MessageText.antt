-- Messages in words.
use Rattle.std.specs.Prelude.{ℕ, Bool, true, false, List, [], ◌++◌, codes, decimal, length, replicate}
use Rattle.lrc_page.specs.declared.changes.Change.{Change}
use Rattle.lrc_page.specs.Changes.{changes_between}
use Rattle.lrc_store.specs.Interval.{IntervalRecord, index_of}
use Rattle.lrc_envelope.specs.Records.{IndexedChangesRecord, LockRequestRecord, LockForwardRecord, LockGrantRecord, ArriveRecord, DepartRecord}
use Rattle.lrc_envelope.specs.Records.{ChangesRequestRecord, ChangesReplyRecord, PageReplyRecord}
use Rattle.lrc_envelope.specs.declared.message.Message.{Message}
use Rattle.lrc_envelope.specs.declared.message.Message.TheVariants.{LockRequest, LockForward, LockGrant, Arrive, Depart, Clean, Discard}
use Rattle.lrc_envelope.specs.declared.message.Message.TheVariants.{ChangesRequest, ChangesReply, PageRequest, PageReply}
use Rattle.lrc_acts_text.specs.Json.{with_commas}
use Rattle.lrc_wire.specs.declared.kind.MessageKind.{MessageKind}
use Rattle.lrc_wire.specs.declared.kind.MessageKind.TheVariants as kinds
use Rattle.lrc_messages.specs.Lists.{separated, separated_or_dash}

-- ---- parts of several kinds

-- a time: its entries
abbrev pub time_text : List ℕ → List ℕ
time_text time = codes " time " ++ with_commas time

-- an interval: its node, its number among those of that node, and the pages that it wrote
abbrev pub interval_text : IntervalRecord → List ℕ
interval_text interval =
    decimal interval.node ++ codes "." ++ decimal (index_of interval) ++ codes "[" ++ with_commas interval.pages ++ codes "]"

-- a time, and intervals
abbrev pub news_text : List ℕ → List IntervalRecord → List ℕ
news_text time intervals = time_text time ++ codes " news " ++ separated_or_dash (codes " ") interval_text intervals

-- that a collection is asked for, or that there is one
abbrev pub collect_text : Bool → List ℕ
collect_text true = codes " collect"
collect_text false = []

-- the new value of a word, by its offset in its page
abbrev pub change_text : Change → List ℕ
change_text change = decimal change.offset ++ codes "=" ++ decimal change.value

-- what the interval of this index changed
abbrev pub part_text : IndexedChangesRecord → List ℕ
part_text part = decimal part.index ++ codes "[" ++ separated (codes ",") change_text part.changes ++ codes "]"

-- the words of a page that are not 0: what it changes in a page of zeros
abbrev pub nonzero_words : List ℕ → List Change
nonzero_words values = changes_between (replicate (length values) 0) values

-- ---- the kinds

-- the name of each kind
unfoldable pub kind_name : MessageKind → List ℕ
kind_name kinds.LockRequest = codes "lock-request"
kind_name kinds.LockForward = codes "lock-forward"
kind_name kinds.LockGrant = codes "lock-grant"
kind_name kinds.Arrive = codes "arrive"
kind_name kinds.Depart = codes "depart"
kind_name kinds.Clean = codes "clean"
kind_name kinds.Discard = codes "discard"
kind_name kinds.ChangesRequest = codes "changes-request"
kind_name kinds.ChangesReply = codes "changes-reply"
kind_name kinds.PageRequest = codes "page-request"
kind_name kinds.PageReply = codes "page-reply"

-- a kind, and a number behind a word
abbrev pub named : MessageKind → List ℕ → ℕ → List ℕ
named kind word n = kind_name kind ++ word ++ decimal n

abbrev pub lock_request_text : LockRequestRecord → List ℕ
lock_request_text m = named kinds.LockRequest (codes " ") m.lock ++ time_text m.time

abbrev pub lock_forward_text : LockForwardRecord → List ℕ
lock_forward_text m = named kinds.LockForward (codes " ") m.lock ++ codes " for " ++ decimal m.asker ++ time_text m.time

abbrev pub lock_grant_text : LockGrantRecord → List ℕ
lock_grant_text m = named kinds.LockGrant (codes " ") m.lock ++ news_text m.time m.intervals

abbrev pub arrive_text : ArriveRecord → List ℕ
arrive_text m = named kinds.Arrive (codes " ") m.episode ++ news_text m.time m.intervals ++ collect_text m.ask

abbrev pub depart_text : DepartRecord → List ℕ
depart_text m = named kinds.Depart (codes " ") m.episode ++ news_text m.time m.intervals ++ collect_text m.collect

abbrev pub changes_request_text : ChangesRequestRecord → List ℕ
changes_request_text m = named kinds.ChangesRequest (codes " page ") m.page ++ codes " intervals " ++ with_commas m.indices

abbrev pub changes_reply_text : ChangesReplyRecord → List ℕ
changes_reply_text m = named kinds.ChangesReply (codes " page ") m.page ++ codes " changes " ++ separated (codes " ") part_text m.parts

abbrev pub page_reply_text : PageReplyRecord → List ℕ
page_reply_text m =
    named kinds.PageReply (codes " page ") m.page ++ codes " words " ++ separated_or_dash (codes ",") change_text (nonzero_words m.values)

-- a message: its kind, and what it says
abbrev pub message_text : Message → List ℕ
message_text (LockRequest m) = lock_request_text m
message_text (LockForward m) = lock_forward_text m
message_text (LockGrant m) = lock_grant_text m
message_text (Arrive m) = arrive_text m
message_text (Depart m) = depart_text m
message_text (Clean episode) = named kinds.Clean (codes " ") episode
message_text (Discard episode) = named kinds.Discard (codes " ") episode
message_text (ChangesRequest m) = changes_request_text m
message_text (ChangesReply m) = changes_reply_text m
message_text (PageRequest page) = named kinds.PageRequest (codes " page ") page
message_text (PageReply m) = page_reply_text m

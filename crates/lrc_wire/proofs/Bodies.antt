-- The readers of bodies agree with how bodies are spelled.
use Rattle.std.proofs.Common.{◌≡◌, ℕ, ◌<◌, List, ◌++◌, length, Some, Ok, refl, subst}
use Rattle.std.specs.Prelude.{All}
use Rattle.std.specs.Int.{w16, w32}
use Rattle.std.proofs.lemmas.List.Elements.{All-weaker}
use Rattle.lrc_store.specs.Interval.{IntervalRecord, IsInterval}
use Rattle.lrc_envelope.specs.declared.limits.TheConstants.{MOST_LOCKS, MOST_NODES}
use Rattle.lrc_wire.specs.declared.version.Version.{Version}
use Rattle.lrc_wire.specs.declared.kind.MessageKind.{MessageKind}
use Rattle.lrc_wire.specs.declared.kind.MessageKind.TheVariants as kinds
use Rattle.lrc_envelope.specs.declared.message.Message.{Message}
use Rattle.lrc_envelope.specs.declared.message.Message.TheVariants.{LockRequest, LockForward, LockGrant, Arrive, Depart, Clean, Discard}
use Rattle.lrc_envelope.specs.declared.message.Message.TheVariants.{ChangesRequest, ChangesReply, PageRequest, PageReply}
use Rattle.lrc_wire.specs.Kinds.{message_kind}
use Rattle.lrc_wire.specs.Versions.{pages_in}
use Rattle.lrc_envelope.specs.Records.{NewsRecord, LockRequestRecord, LockForwardRecord, LockGrantRecord, ArriveRecord}
use Rattle.lrc_envelope.specs.Records.{DepartRecord, ChangesRequestRecord, ChangesReplyRecord, PageReplyRecord}
use Rattle.lrc_wire.specs.Ranges.{HasBits, IsTime, NamesPages, FitNews, IsEpisode, FitIndices, FitParts, FitValues, IsMessage}
use Rattle.lrc_wire.specs.Runs.{runs_of}
use Rattle.lrc_wire.specs.Spelling.{byte, number, flag, time, news, indices, parts, page_values, kind, body}
use Rattle.lrc_wire.specs.Reading.{Field, as_message, episode_at, page_at}
use Rattle.lrc_wire.specs.Reading.{news_at, lock_request_at, lock_forward_at, lock_grant_at}
use Rattle.lrc_wire.specs.Reading.{arrive_at, depart_at, changes_request_at, changes_reply_at, page_reply_at, kind_of, body_at}
use Rattle.lrc_wire.proofs.Bytes.{IsBytes, Takes}
use Rattle.lrc_wire.proofs.Steps.{ok_is}
use Rattle.lrc_wire.proofs.Agrees.{Agrees, Agrees-as, step}
use Rattle.lrc_wire.proofs.Sequences.{whole, then_fields, last_field}
use Rattle.lrc_wire.proofs.Fields.{lock_agrees, node_agrees, episode_agrees, page_agrees, flag_agrees, time_agrees}
use Rattle.lrc_wire.proofs.Intervals.{IsBeside, AreBeside, intervals_agree}
use Rattle.lrc_wire.proofs.Listed.{indices_agree}
use Rattle.lrc_wire.proofs.ChangeParts.{parts_agree, page_values_agree}

-- ---- a time and intervals that go with it

abbrev news_text : NewsRecord → List ℕ
news_text n = news n.time n.intervals

abbrev news_with : List ℕ → List IntervalRecord → NewsRecord
news_with entries xs = record { time = entries; intervals = xs }

abbrev FitNewsRecord : Version → NewsRecord → Type 0
FitNewsRecord v n = FitNews v n.time n.intervals

news_is : (v : Version) (entries : List ℕ) (xs : List IntervalRecord) → (h : IsTime entries) → HasBits 32 (length xs) × AreBeside v (length entries) h.few xs
    → FitNews v entries xs
news_is v entries xs h both = record {
  begins = h;
  count = both.0;
  each = All-weaker (IsBeside v (length entries)) IsInterval (λ x q. q.is_interval) xs both.1.0;
  bits = All-weaker (IsBeside v (length entries)) (λ x. All (HasBits 32) x.stamp) (λ x q. q.bits) xs both.1.0;
  pages = All-weaker (IsBeside v (length entries)) (NamesPages v) (λ x q. q.pages) xs both.1.0;
  together = All-weaker (IsBeside v (length entries)) (λ x. length x.stamp ≡ length entries) (λ x q. q.long) xs both.1.0;
  ascending = both.1.1;
}

news_from : (v : Version) (entries : List ℕ) (xs : List IntervalRecord) → (h : FitNews v entries xs) → HasBits 32 (length xs)
    × AreBeside v (length entries) h.begins.few xs
news_from v entries xs h = (
  h.count,
  (
    (λ k d within. record { is_interval = h.each k d within; long = h.together k d within; bits = h.bits k d within; pages = h.pages k d within }),
    h.ascending,
  ),
)

news_agrees : (v : Version) → Agrees (news_at v) news_text (FitNewsRecord v)
unfolding news_at news
news_agrees v =
    Agrees-as (news_at v) news_text (λ n. (h : IsTime n.time)
    × (HasBits 32 (length n.intervals) × AreBeside v (length n.time) h.few n.intervals)) (FitNewsRecord v)
    (λ n h. news_is v n.time n.intervals h.0 h.1)
    (λ n h. (h.begins, news_from v n.time n.intervals h))
    (whole (λ (n : NewsRecord). (n.time, n.intervals)) (λ r _. refl) (λ n. refl)
    (then_fields time_agrees (λ entries h. last_field (λ xs. record { time = entries; intervals = xs }) (intervals_agree v (length entries) h.few))))

-- ---- each kind

abbrev spelled_lock_request : LockRequestRecord → List ℕ
spelled_lock_request m = byte m.lock ++ (time m.time)

abbrev Is_lock_request : LockRequestRecord → Type 0
Is_lock_request m = (m.lock < MOST_LOCKS) × IsTime m.time

lock_request_agrees : Agrees lock_request_at spelled_lock_request Is_lock_request
unfolding lock_request_at
lock_request_agrees =
    whole (λ (m : LockRequestRecord). (m.lock, m.time)) (λ r _. refl) (λ m. refl)
    (then_fields lock_agrees (λ lock _. last_field (λ time. record { lock = lock; time = time }) time_agrees))

abbrev spelled_lock_forward : LockForwardRecord → List ℕ
spelled_lock_forward m = byte m.lock ++ (byte m.asker ++ (time m.time))

abbrev Is_lock_forward : LockForwardRecord → Type 0
Is_lock_forward m = (m.lock < MOST_LOCKS) × ((m.asker < MOST_NODES) × IsTime m.time)

lock_forward_agrees : Agrees lock_forward_at spelled_lock_forward Is_lock_forward
unfolding lock_forward_at
lock_forward_agrees =
    whole (λ (m : LockForwardRecord). (m.lock, (m.asker, m.time))) (λ r _. refl) (λ m. refl)
    (then_fields lock_agrees (λ lock _. then_fields node_agrees (λ asker _.
    last_field (λ time. record { lock = lock; asker = asker; time = time }) time_agrees)))

abbrev spelled_lock_grant : LockGrantRecord → List ℕ
spelled_lock_grant m = byte m.lock ++ (news m.time m.intervals)

abbrev Is_lock_grant : Version → LockGrantRecord → Type 0
Is_lock_grant v m = (m.lock < MOST_LOCKS) × FitNews v m.time m.intervals

lock_grant_agrees : (v : Version) → Agrees (lock_grant_at v) spelled_lock_grant (Is_lock_grant v)
unfolding lock_grant_at
lock_grant_agrees v =
    whole (λ (m : LockGrantRecord). (m.lock, news_with m.time m.intervals)) (λ r _. refl) (λ m. refl)
    (then_fields lock_agrees (λ lock _. last_field (λ n. record { lock = lock; time = n.time; intervals = n.intervals }) (news_agrees v)))

abbrev spelled_arrive : ArriveRecord → List ℕ
spelled_arrive m = (number w32) m.episode ++ (flag m.ask ++ (news m.time m.intervals))

abbrev Is_arrive : Version → ArriveRecord → Type 0
Is_arrive v m = IsEpisode m.episode × (Unit {0} × FitNews v m.time m.intervals)

arrive_agrees : (v : Version) → Agrees (arrive_at v) spelled_arrive (Is_arrive v)
unfolding arrive_at
arrive_agrees v =
    whole (λ (m : ArriveRecord). (m.episode, (m.ask, news_with m.time m.intervals))) (λ r _. refl) (λ m. refl)
    (then_fields episode_agrees (λ episode _. then_fields flag_agrees (λ ask _.
    last_field (λ n. record { episode = episode; ask = ask; time = n.time; intervals = n.intervals }) (news_agrees v))))

abbrev spelled_depart : DepartRecord → List ℕ
spelled_depart m = (number w32) m.episode ++ (flag m.collect ++ (news m.time m.intervals))

abbrev Is_depart : Version → DepartRecord → Type 0
Is_depart v m = IsEpisode m.episode × (Unit {0} × FitNews v m.time m.intervals)

depart_agrees : (v : Version) → Agrees (depart_at v) spelled_depart (Is_depart v)
unfolding depart_at
depart_agrees v =
    whole (λ (m : DepartRecord). (m.episode, (m.collect, news_with m.time m.intervals))) (λ r _. refl) (λ m. refl)
    (then_fields episode_agrees (λ episode _. then_fields flag_agrees (λ collect _.
    last_field (λ n. record { episode = episode; collect = collect; time = n.time; intervals = n.intervals }) (news_agrees v))))

abbrev spelled_changes_request : ChangesRequestRecord → List ℕ
spelled_changes_request m = (number w16) m.page ++ (indices m.indices)

abbrev Is_changes_request : Version → ChangesRequestRecord → Type 0
Is_changes_request v m = (m.page < pages_in v) × FitIndices m.indices

changes_request_agrees : (v : Version) → Agrees (changes_request_at v) spelled_changes_request (Is_changes_request v)
unfolding changes_request_at
changes_request_agrees v =
    whole (λ (m : ChangesRequestRecord). (m.page, m.indices)) (λ r _. refl) (λ m. refl)
    (then_fields (page_agrees v) (λ page _. last_field (λ ns. record { page = page; indices = ns }) indices_agree))

abbrev spelled_changes_reply : Version → ChangesReplyRecord → List ℕ
spelled_changes_reply v m = (number w16) m.page ++ ((parts v runs_of) m.parts)

abbrev Is_changes_reply : Version → ChangesReplyRecord → Type 0
Is_changes_reply v m = (m.page < pages_in v) × FitParts v m.parts

changes_reply_agrees : (v : Version) → Agrees (changes_reply_at v) (spelled_changes_reply v) (Is_changes_reply v)
unfolding changes_reply_at
changes_reply_agrees v =
    whole (λ (m : ChangesReplyRecord). (m.page, m.parts)) (λ r _. refl) (λ m. refl)
    (then_fields (page_agrees v) (λ page _. last_field (λ ps. record { page = page; parts = ps }) (parts_agree v)))

abbrev spelled_page_reply : Version → PageReplyRecord → List ℕ
spelled_page_reply v m = (number w16) m.page ++ ((page_values v) m.values)

abbrev Is_page_reply : Version → PageReplyRecord → Type 0
Is_page_reply v m = (m.page < pages_in v) × FitValues v m.values

page_reply_agrees : (v : Version) → Agrees (page_reply_at v) (spelled_page_reply v) (Is_page_reply v)
unfolding page_reply_at
page_reply_agrees v =
    whole (λ (m : PageReplyRecord). (m.page, m.values)) (λ r _. refl) (λ m. refl)
    (then_fields (page_agrees v) (λ page _. last_field (λ vs. record { page = page; values = vs }) (page_values_agree v)))

-- ---- bodies

pub kind_of-kind : (message : Message) → kind_of (kind message) ≡ Some (message_kind message)
kind_of-kind (LockRequest m) = refl
kind_of-kind (LockForward m) = refl
kind_of-kind (LockGrant m) = refl
kind_of-kind (Arrive m) = refl
kind_of-kind (Depart m) = refl
kind_of-kind (Clean m) = refl
kind_of-kind (Discard m) = refl
kind_of-kind (ChangesRequest m) = refl
kind_of-kind (ChangesReply m) = refl
kind_of-kind (PageRequest m) = refl
kind_of-kind (PageReply m) = refl

-- a field as a message of its kind
as_takes : {A : Type 0} (v : Version) (make : A → Message) (k : MessageKind) (reads : List ℕ → Field A) (spelled : A → List ℕ) (P : A → Type 0)
    → Agrees reads spelled P
    → ((x : A) → body v runs_of (make x) ≡ spelled x) → ((x : A) → P x → IsMessage v (make x)) → ((x : A) → message_kind (make x) ≡ k)
    → (bytes : List ℕ) (message : Message) (rest : List ℕ) → IsBytes bytes → as_message make (reads bytes) ≡ Ok (message, rest)
    → Takes bytes (body v runs_of message) rest × IsMessage v message × (message_kind message ≡ k)
unfolding as_message
as_takes v make k reads spelled P agrees same is named bytes message rest fits e =
    let a = step reads spelled P agrees bytes (λ m. Ok (make m.0, m.1)) (message, rest) fits e in
    subst (λ (y : Message × List ℕ). Takes bytes (body v runs_of y.0) y.1 × IsMessage v y.0
    × (message_kind y.0 ≡ k)) (ok_is (make a.value, a.rest) (message, rest) a.then)
    (rw same a.took, is a.value a.fits, named a.value)

body_takes : (v : Version) (k : MessageKind) (bytes : List ℕ) (message : Message) (rest : List ℕ) → IsBytes bytes → body_at v k bytes ≡ Ok (message, rest)
    → Takes bytes (body v runs_of message) rest × IsMessage v message × (message_kind message ≡ k)
unfolding body_at
body_takes v kinds.LockRequest bytes message rest fits e =
    as_takes v (λ m. LockRequest m) kinds.LockRequest lock_request_at spelled_lock_request Is_lock_request lock_request_agrees (λ m. refl) (λ m h. h)
    (λ m. refl) bytes message rest fits e
body_takes v kinds.LockForward bytes message rest fits e =
    as_takes v (λ m. LockForward m) kinds.LockForward lock_forward_at spelled_lock_forward Is_lock_forward lock_forward_agrees
    (λ m. refl) (λ m h. (h.0, h.1.0, h.1.1))
    (λ m. refl) bytes message rest fits e
body_takes v kinds.LockGrant bytes message rest fits e =
    as_takes v (λ m. LockGrant m) kinds.LockGrant (lock_grant_at v) spelled_lock_grant (Is_lock_grant v) (lock_grant_agrees v) (λ m. refl) (λ m h. h)
    (λ m. refl) bytes message rest fits e
body_takes v kinds.Arrive bytes message rest fits e =
    as_takes v (λ m. Arrive m) kinds.Arrive (arrive_at v) spelled_arrive (Is_arrive v) (arrive_agrees v) (λ m. refl) (λ m h. (h.0, h.1.1))
    (λ m. refl) bytes message rest fits e
body_takes v kinds.Depart bytes message rest fits e =
    as_takes v (λ m. Depart m) kinds.Depart (depart_at v) spelled_depart (Is_depart v) (depart_agrees v) (λ m. refl) (λ m h. (h.0, h.1.1))
    (λ m. refl) bytes message rest fits e
body_takes v kinds.Clean bytes message rest fits e =
    as_takes v (λ m. Clean m) kinds.Clean episode_at (number w32) IsEpisode episode_agrees (λ m. refl) (λ m h. h) (λ m. refl) bytes message rest fits e
body_takes v kinds.Discard bytes message rest fits e =
    as_takes v (λ m. Discard m) kinds.Discard episode_at (number w32) IsEpisode episode_agrees (λ m. refl) (λ m h. h) (λ m. refl) bytes message rest fits e
body_takes v kinds.ChangesRequest bytes message rest fits e =
    as_takes v (λ m. ChangesRequest m) kinds.ChangesRequest (changes_request_at v) spelled_changes_request (Is_changes_request v) (changes_request_agrees v)
    (λ m. refl) (λ m h. h) (λ m. refl) bytes message rest fits e
body_takes v kinds.ChangesReply bytes message rest fits e =
    as_takes v (λ m. ChangesReply m) kinds.ChangesReply (changes_reply_at v) (spelled_changes_reply v) (Is_changes_reply v) (changes_reply_agrees v) (λ m. refl)
    (λ m h. h) (λ m. refl) bytes message rest fits e
body_takes v kinds.PageRequest bytes message rest fits e =
    as_takes v (λ m. PageRequest m) kinds.PageRequest (page_at v) (number w16) (λ n. n < pages_in v) (page_agrees v) (λ m. refl) (λ m h. h)
    (λ m. refl) bytes message rest fits e
body_takes v kinds.PageReply bytes message rest fits e =
    as_takes v (λ m. PageReply m) kinds.PageReply (page_reply_at v) (spelled_page_reply v) (Is_page_reply v) (page_reply_agrees v) (λ m. refl) (λ m h. h)
    (λ m. refl) bytes message rest fits e

body_again : (v : Version) (message : Message) (rest : List ℕ) → IsMessage v message
    → body_at v (message_kind message) (body v runs_of message ++ rest) ≡ Ok (message, rest)
unfolding body_at as_message
body_again v (LockRequest m) rest h = let a = (lock_request_agrees).again m rest h in rw a refl
body_again v (LockForward m) rest h = let a = lock_forward_agrees.again m rest (h.0, (h.1, h.2)) in rw a refl
body_again v (LockGrant m) rest h = let a = (lock_grant_agrees v).again m rest h in rw a refl
body_again v (Arrive m) rest h = let a = (arrive_agrees v).again m rest (h.0, (tt, h.1)) in rw a refl
body_again v (Depart m) rest h = let a = (depart_agrees v).again m rest (h.0, (tt, h.1)) in rw a refl
body_again v (Clean m) rest h = let a = (episode_agrees).again m rest h in rw a refl
body_again v (Discard m) rest h = let a = (episode_agrees).again m rest h in rw a refl
body_again v (ChangesRequest m) rest h = let a = (changes_request_agrees v).again m rest h in rw a refl
body_again v (ChangesReply m) rest h = let a = (changes_reply_agrees v).again m rest h in rw a refl
body_again v (PageRequest m) rest h = let a = (page_agrees v).again m rest h in rw a refl
body_again v (PageReply m) rest h = let a = (page_reply_agrees v).again m rest h in rw a refl

pub body_agrees : (v : Version) (k : MessageKind) → Agrees (body_at v k) (body v runs_of) (λ message. IsMessage v message × (message_kind message ≡ k))
body_agrees v k = record {
  takes = λ bytes message rest fits e. let t = body_takes v k bytes message rest fits e in (t.0, (t.1, t.2));
  again = λ message rest h. subst (λ (k : MessageKind). body_at v k (body v runs_of message ++ rest) ≡ Ok (message, rest)) h.1 (body_again v message rest h.0);
}

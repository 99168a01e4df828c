-- What a turn of a node makes: whether its text goes on, and what it waits for then.
use Rattle.std.proofs.Common.{◌≡◌, ◌∙◌, ℕ, Bool, true, false, List, Option, Some, None, refl, sym, ap, subst}
use Rattle.lrc_trace.specs.declared.act.Deed.{Deed}
use Rattle.lrc_trace.specs.declared.act.Deed.TheVariants as deeds
use Rattle.lrc_exec.specs.Meaning.{Next, acquires, arrives, departs, ends, next_of, prints, quiet, reads, releases, traps, writes}
use Rattle.lrc_envelope.specs.Envelope.{EnvelopeRecord}
use Rattle.lrc_envelope.specs.declared.message.Message.{Message}
use Rattle.lrc_protocol.specs.Locks.{Locks}
use Rattle.lrc_protocol.specs.Node.{Course, Effect, Letter, Node, Wait, access, acts, acts_by, deed_of, departure, discard, ended, going, grant, next_in, nothing}
use Rattle.lrc_protocol.specs.Node.{trapped, upkeep}
use Rattle.lrc_protocol.specs.Rules.{IsSent, RunRule, TakeRule, TurnRule, by_message, by_repeat, by_run, run_acquire, run_ask, run_barrier, run_hit, run_miss}
use Rattle.lrc_protocol.specs.Rules.{run_other, run_release, run_repair, take_arrive, take_changes_request, take_clean, take_collect, take_collect_at_once}
use Rattle.lrc_protocol.specs.Rules.{take_depart, take_discard, take_forward, take_kept_reply, take_last_arrive, take_last_clean, take_last_kept_reply}
use Rattle.lrc_protocol.specs.Rules.{take_last_reply, take_page_request, take_reply, take_request, take_token, with_numbers}
use Rattle.lrc_protocol.specs.Run.{Input, outcome_of, run, taken}
use Rattle.lrc_protocol.specs.Turn.{TurnRecord, done, taking}
use Rattle.lrc_protocol.proofs.Ruled.{by_rule}
use Rattle.lrc_order_laws.specs.Waiting.{FixesNext, acquiring, is_access, is_departing}
use Rattle.lrc_order_laws.proofs.Shift.{Moved, Part, Shift, Shifted, ShiftedIf, accessing, arriving, deed_back, deed_in, deed_made, departing, discarding, grants, part_of}
use Rattle.lrc_order_laws.proofs.Shift.{plain, releasing, shifts, takes}
use Rattle.lrc_along.specs.Due.{is_depart, is_midway, lets_go}

-- ---- a message is taken

-- nothing changes what the node waits for but its act
mail_of : (letters : List Letter) (node : Node) (c : Course) → (acts_by letters node c).node.mail ≡ node.mail
mail_of letters node (going thread) = refl
mail_of letters node (trapped cause) = refl
mail_of letters node ended = refl

waits_for : (letters : List Letter) (node : Node) → (acts letters node).node.mail.wait ≡ node.mail.wait
waits_for letters node = ap (λ m. m.wait) (mail_of letters node node.course)

-- A node that takes a message makes no act, and begins none; or it has begun its act, and makes it; or the message lets it go on from a
-- barrier.
pub data Takes (wait : Wait) (message : Message) (deed : Option Deed) (later : Wait) : Type 0 where
  rests : deed ≡ None → (is_midway later ≡ true → is_midway wait ≡ true) → Takes wait message deed later
  makes : is_midway wait ≡ true → later ≡ nothing → Takes wait message deed later
  goes_on : lets_go message ≡ true → is_midway wait ≡ false → ((next : Option Next) → FixesNext wait next → is_departing next ≡ true) → later ≡ nothing
      → Takes wait message deed later

kept : (wait : Wait) → is_midway wait ≡ true → is_midway wait ≡ true
kept wait h = h

from_departure : (wait : Wait) → wait ≡ departure → (next : Option Next) → FixesNext wait next → is_departing next ≡ true
from_departure wait is next fits = subst (λ w. FixesNext w next) is fits

from_discard : (wait : Wait) (collection : _) → wait ≡ discard collection → (next : Option Next) → FixesNext wait next → is_departing next ≡ true
from_discard wait collection is next fits = subst (λ w. FixesNext w next) is fits

take : (node : Node) (from : ℕ) (message : Message) (e : Effect) → TakeRule node from message e
    → Takes node.mail.wait message e.deed e.node.mail.wait
take node from message e (take_request m lt counted mine) = rests refl (kept _)
take node from message e (take_forward m lt asker counted managed is) = rests refl (kept _)
take node from message e (take_token m lt at news) = makes (ap is_midway at) (waits_for _ _)
take node from message e (take_arrive m before after at news is) = rests refl (kept _)
take node from message e (take_last_arrive m before after departures at news is) = rests refl (kept _)
take node from message e (take_depart m d c) = goes_on refl (ap is_midway d.awaited) (from_departure node.mail.wait d.awaited) (waits_for _ _)
take node from message e (take_collect m d c unmet) = rests refl (λ h. cc)
take node from message e (take_collect_at_once m d c met) = rests refl (λ h. cc)
take node from message e (take_reply need b at unmet) = rests refl (λ h. ap is_midway at)
take node from message e (take_last_reply need b at met) = makes (ap is_midway at) (waits_for _ _)
take node from message e (take_kept_reply collection needs b at unmet) = rests refl (λ h. cc)
take node from message e (take_last_kept_reply collection needs b at met) = rests refl (λ h. cc)
take node from message e (take_clean episode before after at is) = rests refl (kept _)
take node from message e (take_last_clean episode over before after at is) = rests refl (kept _)
take node from message e (take_discard episode collection f at k) = goes_on refl (ap is_midway at) (from_discard node.mail.wait collection at) (waits_for _ _)
take node from message e (take_changes_request m lt all) = rests refl (kept _)
take node from message e (take_page_request page values lt other at) = rests refl (kept _)

once_sent : (node : Node) (message : Message) (e : Effect) (turn : TurnRecord) (after : Node) → Takes node.mail.wait message e.deed e.node.mail.wait
    → IsSent e turn after → Takes node.mail.wait message (deed_made turn) after.mail.wait
once_sent node message e turn after t (with_numbers out sent is) =
    subst (λ d. Takes node.mail.wait message d e.node.mail.wait) (sym (deed_back e.node.setting.me e.deed)) t

taken_by : (node : Node) (input : Input) (turn : TurnRecord) (after : Node) (envelope : EnvelopeRecord) → input ≡ taken envelope
    → TurnRule node input turn after → Takes node.mail.wait envelope.message (deed_made turn) after.mail.wait
taken_by node input turn after envelope is (by_run r s) = cc
taken_by node input turn after envelope is (by_repeat other f again) = rests refl (kept _)
taken_by node input turn after envelope is (by_message other {effect = effect} f new r s) =
    let same : other ≡ envelope = cc in
    subst (λ (x : EnvelopeRecord). Takes node.mail.wait x.message (deed_made turn) after.mail.wait) same
    (once_sent node other.message effect turn after (take (taking node other) other.from other.message effect r) s)

pub takes_so : (node : Node) (turn : TurnRecord) (after : Node) (envelope : EnvelopeRecord) → outcome_of node (taken envelope) ≡ done turn after
    → Takes node.mail.wait envelope.message (deed_made turn) after.mail.wait
takes_so node turn after envelope e = taken_by node (taken envelope) turn after envelope refl (by_rule node (taken envelope) turn after e)

-- ---- a node goes on by itself

idle : (node : Node) (e : Effect) → RunRule node e → node.mail.wait ≡ nothing
idle node e (run_hit r a here) = r.idle
idle node e (run_miss r a away unmet) = r.idle
idle node e (run_repair r a away met) = r.idle
idle node e (run_acquire lock after r room free) = r.idle
idle node e (run_ask lock after r room away) = r.idle
idle node e (run_release lock after r room) = r.idle
idle node e (run_barrier after r room) = r.idle
idle node e (run_other r own) = r.idle

run_by : (node : Node) (input : Input) (turn : TurnRecord) (after : Node) → input ≡ run → TurnRule node input turn after → node.mail.wait ≡ nothing
run_by node input turn after is (by_run {effect = effect} r s) = idle node effect r
run_by node input turn after is (by_repeat envelope f again) = cc
run_by node input turn after is (by_message envelope f new r s) = cc

pub waits_for_nothing : (node : Node) (turn : TurnRecord) (after : Node) → outcome_of node run ≡ done turn after → node.mail.wait ≡ nothing
waits_for_nothing node turn after e = run_by node run turn after refl (by_rule node run turn after e)

-- ---- acts

-- what each turn does to the part that synchronizes
pub shifted : (node : Node) (input : Input) (turn : TurnRecord) (after : Node) → outcome_of node input ≡ done turn after → Shifted node turn after
shifted node input turn after e = subst (ShiftedIf node) e (shifts node input)

-- a node that has made its act has begun no other
not_midway : (p : Part) (wait : Wait) (locks : Locks) (episode : ℕ) → Shift p true wait locks episode → is_midway wait ≡ false
not_midway p wait locks episode (plain next at is pl) = refl
not_midway p wait locks episode (takes lock at is free) = refl
not_midway p wait locks episode (releasing lock after at is) = refl
not_midway p wait locks episode (arriving after at is) = refl
not_midway p wait locks episode (grants lock time at news) = refl
not_midway p wait locks episode (departing time at news) = refl
not_midway p wait locks episode (discarding collection at) = refl
not_midway p wait locks episode (accessing need at) = refl

-- an act was made, of this text
pub record IsActed (node after : Node) (deed : Deed) : Type 0 where
  pub value : ℕ
  pub deed_is : Some deed ≡ deed_in value node.course
  pub rests : is_midway after.mail.wait ≡ false

acted_if : (node : Node) (turn : TurnRecord) (after : Node) (deed : Deed) → deed_made turn ≡ Some deed → (s : Shifted node turn after) → (b : Bool)
    → s.acts ≡ b → IsActed node after deed
acted_if node turn after deed is s true acts =
    let shift = subst (λ b. Shift (part_of node) b after.mail.wait after.locks after.barrier.episode) acts s.shift in
    let moved = subst (λ b. Moved b node.course (deed_made turn) after.course) acts s.moved in
    record {
      value = moved.value;
      deed_is = sym is ∙ moved.deed_is;
      rests = not_midway (part_of node) after.mail.wait after.locks after.barrier.episode shift;
    }
acted_if node turn after deed is s false acts =
    let moved = subst (λ b. Moved b node.course (deed_made turn) after.course) acts s.moved in
    let never : Some deed ≡ None = sym is ∙ moved.deed_is in cc

pub acted : (node : Node) (input : Input) (turn : TurnRecord) (after : Node) (deed : Deed) → outcome_of node input ≡ done turn after
    → deed_made turn ≡ Some deed → IsActed node after deed
acted node input turn after deed e is = let s = shifted node input turn after e in acted_if node turn after deed is s s.acts refl

-- ---- what the deed is

-- whether a deed is an arrive
abbrev pub is_arrive : Deed → Bool
is_arrive deeds.Arrive = true
is_arrive _ = false

departs_so : (value : ℕ) (next : Next) → is_departing (Some next) ≡ true → deed_of value next ≡ deeds.Depart
departs_so value (departs after) h = refl
departs_so value (quiet after) h = cc
departs_so value (prints v after) h = cc
departs_so value (reads w after) h = cc
departs_so value (writes w v after) h = cc
departs_so value (acquires l after) h = cc
departs_so value (releases l after) h = cc
departs_so value (arrives after) h = cc
departs_so value (traps c) h = cc
departs_so value ends h = cc

departs_not : (value : ℕ) (next : Next) → is_departing (Some next) ≡ false → is_depart (deed_of value next) ≡ false
departs_not value (departs after) h = cc
departs_not value (quiet after) h = refl
departs_not value (prints v after) h = refl
departs_not value (reads w after) h = refl
departs_not value (writes w v after) h = refl
departs_not value (acquires l after) h = refl
departs_not value (releases l after) h = refl
departs_not value (arrives after) h = refl
departs_not value (traps c) h = refl
departs_not value ends h = refl

-- an access or an acquire
pub record IsOfNone (deed : Deed) : Type 0 where
  pub not_depart : is_depart deed ≡ false
  pub not_arrive : is_arrive deed ≡ false

acquires_so : (value lock : ℕ) (next : Next) → acquiring (Some next) ≡ Some lock → IsOfNone (deed_of value next)
acquires_so value lock (acquires l after) h = record { not_depart = refl; not_arrive = refl }
acquires_so value lock (departs after) h = cc
acquires_so value lock (quiet after) h = cc
acquires_so value lock (prints v after) h = cc
acquires_so value lock (reads w after) h = cc
acquires_so value lock (writes w v after) h = cc
acquires_so value lock (releases l after) h = cc
acquires_so value lock (arrives after) h = cc
acquires_so value lock (traps c) h = cc
acquires_so value lock ends h = cc

accesses_so : (value : ℕ) (next : Next) → is_access (Some next) ≡ true → IsOfNone (deed_of value next)
accesses_so value (reads w after) h = record { not_depart = refl; not_arrive = refl }
accesses_so value (writes w v after) h = record { not_depart = refl; not_arrive = refl }
accesses_so value (acquires l after) h = cc
accesses_so value (departs after) h = cc
accesses_so value (quiet after) h = cc
accesses_so value (prints v after) h = cc
accesses_so value (releases l after) h = cc
accesses_so value (arrives after) h = cc
accesses_so value (traps c) h = cc
accesses_so value ends h = cc

-- of a text that goes on, the deed is that of what comes next
by_next : (P : Deed → Type 0) (deed : Deed) (value : ℕ) (c : Course) → Some deed ≡ deed_in value c
    → ((next : Next) → next_in c ≡ Some next → P (deed_of value next)) → P deed
by_next P deed value (going thread) is go =
    let same : deed ≡ deed_of value (next_of thread) = cc in subst P (sym same) (go (next_of thread) refl)
by_next P deed value (trapped cause) is go = cc
by_next P deed value ended is go = cc

pub it_departs : (node after : Node) (deed : Deed) → IsActed node after deed → is_departing (next_in node.course) ≡ true → deed ≡ deeds.Depart
it_departs node after deed a h =
    by_next (λ d. d ≡ deeds.Depart) deed a.value node.course a.deed_is (λ next is. departs_so a.value next (ap is_departing (sym is) ∙ h))

pub it_departs_not : (node after : Node) (deed : Deed) → IsActed node after deed → is_departing (next_in node.course) ≡ false → is_depart deed ≡ false
it_departs_not node after deed a h =
    by_next (λ d. is_depart d ≡ false) deed a.value node.course a.deed_is (λ next is. departs_not a.value next (ap is_departing (sym is) ∙ h))

of_none : (node after : Node) (deed : Deed) (wait : Wait) → IsActed node after deed → is_midway wait ≡ true → FixesNext wait (next_in node.course)
    → IsOfNone deed
of_none node after deed (grant lock) a m fits =
    by_next IsOfNone deed a.value node.course a.deed_is (λ next is. acquires_so a.value lock next (ap acquiring (sym is) ∙ fits))
of_none node after deed (access need) a m fits =
    by_next IsOfNone deed a.value node.course a.deed_is (λ next is. accesses_so a.value next (ap is_access (sym is) ∙ fits))
of_none node after deed nothing a m fits = cc
of_none node after deed departure a m fits = cc
of_none node after deed (upkeep collection needs) a m fits = cc
of_none node after deed (discard collection) a m fits = cc

-- the act that a node had begun is no arrive and no depart
pub is_of_none : (node after : Node) (deed : Deed) → IsActed node after deed → is_midway node.mail.wait ≡ true
    → FixesNext node.mail.wait (next_in node.course) → IsOfNone deed
is_of_none node after deed a m fits = of_none node after deed node.mail.wait a m fits

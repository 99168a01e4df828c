-- A node sends a base copy only to who asks for it, and it is the one that it keeps.
use Rattle.std.proofs.Common.{◌≡◌, ℕ, ◌+◌, List, [], ◌∷◌, ◌++◌, sym, ap, subst, ◌∙◌, inl, inr}
use Rattle.std.specs.Prelude.{Option, Some, None, Contains, map, flat_map}
use Rattle.std.specs.List.{range_with_len}
use Rattle.lrc_store.proofs.Orders.{cases_Contains, none_Contains}
use Rattle.lrc_envelope.specs.Envelope.{EnvelopeRecord}
use Rattle.lrc_envelope.specs.Records.{PageReplyRecord}
use Rattle.lrc_envelope.specs.declared.message.Message.{Message}
use Rattle.lrc_envelope.specs.declared.message.Message.TheVariants.{Clean}
use Rattle.lrc_envelope.specs.declared.message.Message.TheVariants.{PageRequest, PageReply}
use Rattle.lrc_exec.specs.Meaning.{releases, arrives}
use Rattle.lrc_lock.specs.declared.state.Pass.{Pass}
use Rattle.lrc_lock.specs.Held.{pass_of, released}
use Rattle.lrc_barrier.specs.declared.departure.Departure.{Departure}
use Rattle.lrc_lock.specs.Managed.{recent_asker}
use Rattle.lrc_protocol.specs.Pages.{Base, unneeded, due, come, Asked, Need}
use Rattle.lrc_protocol.specs.Barriers.{base_at}
use Rattle.lrc_protocol.specs.Node.{Letter, Course, going, trapped, ended, Node, Effect, acts, acts_by}
use Rattle.lrc_protocol.specs.Turn.{grants_of, departure_of, discards_to, requests_of, page_request_of, page_reply_to, letter, forward_to}
use Rattle.lrc_protocol.specs.Turn.{arrival_of, changes_reply_to, changes_request_of, TurnRecord, taking}
use Rattle.lrc_protocol.specs.Run.{Input, run, taken as taken_in}
use Rattle.lrc_protocol.specs.Rules.{take_request, need_at, page_at, closed_for, upkeep_at, RunRule, run_miss, run_repair, run_ask, run_release}
use Rattle.lrc_protocol.specs.Rules.{run_barrier, TakeRule, take_forward, take_token, take_last_arrive, take_depart, take_collect}
use Rattle.lrc_protocol.specs.Rules.{take_collect_at_once, take_last_reply, take_last_kept_reply, take_last_clean, take_discard}
use Rattle.lrc_protocol.specs.Rules.{take_changes_request, take_page_request, IsSent, with_numbers, TurnRule, by_run, by_repeat, by_message}
use Rattle.lrc_order_laws.proofs.Sends.{letter_in, LettersIf, numbered-letters}
use Rattle.lrc_reading_laws.proofs.Fitting.Repair.{into_map}

-- ---- letters that carry no page

abbrev pub CarriesNone : Message → Type 0
CarriesNone (PageReply m) = ⊥
CarriesNone _ = Unit {0}

abbrev pub AllCarryNone : List Letter → Type 0
AllCarryNone [] = Unit {0}
AllCarryNone (x ∷ letters) = CarriesNone x.message × AllCarryNone letters

append-none : (xs ys : List Letter) → AllCarryNone xs → AllCarryNone ys → AllCarryNone (xs ++ ys)
append-none [] ys h k = k
append-none (x ∷ xs) ys h k = (h.0, append-none xs ys h.1 k)

page_request-none : (page : ℕ) (base : Base) → AllCarryNone (page_request_of page base)
page_request-none page unneeded = tt
page_request-none page (due keeper) = (tt, tt)
page_request-none page (come values) = tt

changes_requests-none : (page : ℕ) (asked : List Asked) → AllCarryNone (map (changes_request_of page) asked)
changes_requests-none page [] = tt
changes_requests-none page (a ∷ asked) = (tt, changes_requests-none page asked)

requests-none : (need : Need) → AllCarryNone (requests_of need)
requests-none need =
    append-none (page_request_of need.page need.base) (map (changes_request_of need.page) need.asked)
    (page_request-none need.page need.base) (changes_requests-none need.page need.asked)

all_requests-none : (needs : List Need) → AllCarryNone (flat_map requests_of needs)
all_requests-none [] = tt
all_requests-none (need ∷ needs) =
    append-none (requests_of need) (flat_map requests_of needs) (requests-none need) (all_requests-none needs)

departures-none : (departures : List Departure) → AllCarryNone (map departure_of departures)
departures-none [] = tt
departures-none (d ∷ departures) = (tt, departures-none departures)

discards-none : (nodes : List ℕ) (episode : ℕ) → AllCarryNone (discards_to nodes episode)
discards-none [] episode = tt
discards-none (n ∷ nodes) episode = (tt, discards-none nodes episode)

grants-none : (node : Node) (pass : Option Pass) → AllCarryNone (grants_of node pass)
grants-none node None = tt
grants-none node (Some pass) = (tt, tt)

acts_by-none : (letters : List Letter) (node : Node) (c : Course) → AllCarryNone letters → AllCarryNone (acts_by letters node c).letters
acts_by-none letters node (going t) h = h
acts_by-none letters node (trapped cause) h = h
acts_by-none letters node ended h = h

acts-none : (letters : List Letter) (node : Node) → AllCarryNone letters → AllCarryNone (acts letters node).letters
acts-none letters node h = acts_by-none letters node node.course h

-- ---- by itself a node sends no page

run-none : (node : Node) (e : Effect) → RunRule node e → AllCarryNone e.letters
run-none node e (run_miss {word = word} r a away unmet) = requests-none (need_at node (page_at node word))
run-none node e (run_repair {word = word} r a away met) = acts-none _ _ (requests-none (need_at node (page_at node word)))
run-none node e (run_ask lock after r room away) = (tt, tt)
run-none node e (run_release lock after r room) =
    let closed : Node = closed_for node (releases lock after) in
    let pass : Option Pass = pass_of (released node.locks.held lock closed.locks.time) in
    acts-none (grants_of closed pass) _ (grants-none closed pass)
run-none node e (run_barrier after r room) = acts-none (arrival_of (closed_for node (arrives after)) (node.barrier.episode + 1) ∷ []) _ (tt, tt)
run-none node e _ = acts-none [] _ tt

-- ---- with a message

-- what is sent to who asks for a page
pub record Answers (node : Node) (from : ℕ) (message : Message) (to : ℕ) (m : PageReplyRecord) : Type 0 where
  pub asked : message ≡ PageRequest m.page
  pub back : to ≡ from
  pub kept : base_at node.memory m.page ≡ Some m.values

-- each letter that carries a page is such
abbrev pub AllAnswer : Node → ℕ → Message → List Letter → Type 0
AllAnswer node from message letters = (letter : Letter) (m : PageReplyRecord) → Contains letters letter → letter.message ≡ PageReply m
    → Answers node from message letter.to m

no_page : (message : Message) (m : PageReplyRecord) → CarriesNone message → message ≡ PageReply m → ⊥
no_page (PageReply n) m h e = h
no_page _ m h e = cc

no_pages : (letters : List Letter) → AllCarryNone letters → (letter : Letter) (m : PageReplyRecord) → Contains letters letter
    → letter.message ≡ PageReply m → ⊥
no_pages [] h letter m c e = none_Contains letter c
no_pages (x ∷ letters) h letter m c e = elim (cases_Contains x letters letter c) [
  | inl here ↦ no_page x.message m h.0 (ap (λ (l : Letter). l.message) here ∙ e)
  | inr later ↦ no_pages letters h.1 letter m later e
]

none-answer : (node : Node) (from : ℕ) (message : Message) (letters : List Letter) → AllCarryNone letters → AllAnswer node from message letters
none-answer node from message letters h letter m c is = absurd (no_pages letters h letter m c is)

same_reply : (a b : PageReplyRecord) → PageReply a ≡ PageReply b → a ≡ b
same_reply a b e = cc

page-answers : (node : Node) (from page : ℕ) (values : List ℕ) → base_at node.memory page ≡ Some values
    → AllAnswer node from (PageRequest page) (page_reply_to from page values ∷ [])
page-answers node from page values b letter m c e = elim (cases_Contains _ [] letter c) [
  | inl here ↦
      let same : record { page = page; values = values } ≡ m =
      same_reply (record { page = page; values = values }) m (ap (λ (l : Letter). l.message) here ∙ e) in
      record {
        asked = ap PageRequest (ap (λ (m : PageReplyRecord). m.page) same);
        back = ap (λ (l : Letter). l.to) (sym here);
        kept = subst (λ (m : PageReplyRecord). base_at node.memory m.page ≡ Some m.values) same b;
      }
  | inr later ↦ absurd (none_Contains letter later)
]

take-answers : (node : Node) (from : ℕ) (message : Message) (e : Effect) → TakeRule node from message e → AllAnswer node from message e.letters
take-answers node from message e (take_request m lt counted mine) =
    none-answer node from message (forward_to (recent_asker node.locks.managed m.lock) m.lock from m.time ∷ []) (tt, tt)
take-answers node from message e (take_forward m lt asker counted managed taken) = none-answer node from message _ (grants-none node _)
take-answers node from message e (take_last_arrive m before after departures at news is) =
    none-answer node from message _ (departures-none departures)
take-answers node from message e (take_collect m d c unmet) = none-answer node from message _ (all_requests-none (upkeep_at node m))
take-answers node from message e (take_collect_at_once m d c met) =
    none-answer node from message (letter 0 (Clean node.barrier.episode) ∷ []) (tt, tt)
take-answers node from message e (take_last_kept_reply collection needs b at met) =
    none-answer node from message (letter 0 (Clean node.barrier.episode) ∷ []) (tt, tt)
take-answers node from message e (take_last_clean episode over before after at is) =
    none-answer node from message _ (discards-none (range_with_len 0 node.setting.nodes) over)
take-answers node from message e (take_changes_request m lt all) =
    none-answer node from message (changes_reply_to node from m.page m.indices ∷ []) (tt, tt)
take-answers node from message e (take_page_request page values lt other at) = page-answers node from page values at
take-answers node from message e (take_token m lt at news) = none-answer node from message _ (acts-none [] _ tt)
take-answers node from message e (take_depart m d c) = none-answer node from message _ (acts-none [] _ tt)
take-answers node from message e (take_last_reply need b at met) = none-answer node from message _ (acts-none [] _ tt)
take-answers node from message e (take_discard episode collection f at k) = none-answer node from message _ (acts-none [] _ tt)
take-answers node from message e _ = none-answer node from message [] tt

-- ---- turns

-- with an input that lets it, a node sends this of a page
abbrev pub Sends : Node → Input → ℕ → PageReplyRecord → Type 0
Sends node run to m = ⊥
Sends node (taken_in request) to m = Answers (taking node request) request.from request.message to m

sent-letter : (e : Effect) (turn : TurnRecord) (after : Node) (x : EnvelopeRecord) → IsSent e turn after → Contains turn.out x
    → Contains e.letters (letter_in x)
sent-letter e turn after x (with_numbers out sent is) c =
    subst (λ letters. Contains letters (letter_in x))
    (subst (LettersIf e.letters) is (numbered-letters e.node.setting.me e.node.options.first e.node.mail.sent e.letters)) (into_map letter_in out x c)

-- each page that a turn sends is such
pub sends_page : (node : Node) (input : Input) (turn : TurnRecord) (after : Node) → TurnRule node input turn after
    → (x : EnvelopeRecord) (m : PageReplyRecord) → Contains turn.out x → x.message ≡ PageReply m → Sends node input x.to m
sends_page node _ turn after (by_run {effect = effect} r s) x m c e =
    no_pages effect.letters (run-none node effect r) (letter_in x) m (sent-letter effect turn after x s c) e
sends_page node _ _ _ (by_repeat envelope f again) x m c e = absurd (none_Contains x c)
sends_page node _ turn after (by_message envelope {effect = effect} f new r s) x m c e =
    take-answers (taking node envelope) envelope.from envelope.message effect r (letter_in x) m (sent-letter effect turn after x s c) e

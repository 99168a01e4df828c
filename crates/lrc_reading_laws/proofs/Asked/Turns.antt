-- Every turn keeps the balance of what is asked for and brought.
use Rattle.std.proofs.Common.{◌≡◌, ℕ, ◌+◌, List, [], ◌∷◌, false, cond, refl, sym, ap, subst, ◌∙◌, append-nil}
use Rattle.std.specs.Prelude.{Option, Some, None, count_by, map, flat_map}
use Rattle.std.specs.List.{range_with_len}
use Rattle.std.proofs.lemmas.Bool.{false≢true}
use Rattle.lrc_page.specs.Page.{words_of}
use Rattle.lrc_exec.specs.Meaning.{releases, arrives}
use Rattle.lrc_envelope.specs.Envelope.{EnvelopeRecord}
use Rattle.lrc_envelope.specs.Records.{IndexedChangesRecord}
use Rattle.lrc_envelope.specs.declared.message.Message.{Message}
use Rattle.lrc_envelope.specs.declared.message.Message.TheVariants.{ChangesRequest, ChangesReply, PageRequest, PageReply}
use Rattle.lrc_lock.specs.declared.state.Pass.{Pass}
use Rattle.lrc_lock.specs.Held.{LockStep, released, pass_of, held_after}
use Rattle.lrc_barrier.specs.declared.departure.Departure.{Departure}
use Rattle.lrc_protocol.specs.Pages.{Memory, Need, changes_came, page_came}
use Rattle.lrc_protocol.specs.Node.{Letter, Wait, nothing, access, upkeep, needs_of, Course, going, trapped, ended, Node, Effect, with_tokens}
use Rattle.lrc_protocol.specs.Node.{acts, acts_by}
use Rattle.lrc_protocol.specs.Turn.{letter, arrival_of, grants_of, departure_of, discards_to, requests_of, own_part, with_needs, charged}
use Rattle.lrc_protocol.specs.Turn.{TurnRecord, taking, is_repeat}
use Rattle.lrc_protocol.specs.Run.{Input, run, taken}
use Rattle.lrc_protocol.specs.Rules.{take_request, Brings, brings_changes, brings_base_copy, page_at, need_at, closed_for, upkeep_at, RunRule}
use Rattle.lrc_protocol.specs.Rules.{run_hit, run_miss, run_repair, run_acquire, run_ask, run_release, run_barrier, run_other, TakeRule}
use Rattle.lrc_protocol.specs.Rules.{take_forward, take_token, take_arrive, take_last_arrive, take_depart, take_collect, take_collect_at_once}
use Rattle.lrc_protocol.specs.Rules.{take_reply, take_last_reply, take_kept_reply, take_last_kept_reply, take_clean, take_last_clean}
use Rattle.lrc_protocol.specs.Rules.{take_discard, take_changes_request, take_page_request, IsSent, with_numbers, TurnRule, by_run, by_repeat}
use Rattle.lrc_protocol.specs.Rules.{by_message}
use Rattle.lrc_order_laws.proofs.Sends.{Came, by_itself, comes, letter_in, sent-letters}
use Rattle.lrc_node_laws.specs.Reached.{IsReached}
use Rattle.lrc_node_laws.proofs.Change.{view_of, pages_in}
use Rattle.lrc_node_laws.proofs.Needs.{needs-with}
use Rattle.lrc_node_laws.proofs.Needed.{Needed}
use Rattle.lrc_node_laws.proofs.Always.{needed_at}
use Rattle.lrc_reading_laws.specs.Requested.{base_copy, changes}
use Rattle.lrc_reading_laws.proofs.Asked.Wishes.{awaited, Steady, AreCalm, calm, begins, answers, gets, all_requests-ask}
use Rattle.lrc_reading_laws.proofs.Asked.Needs.{page_comes, changes_come, met_asks, all_met-ask}

-- ---- letters that ask for nothing

pub grants-calm : (node : Node) (pass : Option Pass) → AreCalm (grants_of node pass)
grants-calm node None = tt
grants-calm node (Some pass) = ((refl, refl), tt)

pub departs-calm : (departures : List Departure) → AreCalm (map departure_of departures)
departs-calm [] = tt
departs-calm (d ∷ departures) = ((refl, refl), departs-calm departures)

pub discards-calm : (nodes : List ℕ) (episode : ℕ) → AreCalm (discards_to nodes episode)
discards-calm [] episode = tt
discards-calm (to ∷ nodes) episode = ((refl, refl), discards-calm nodes episode)

module _ (me : ℕ) (came : Came) (before : List Letter) where
  -- what an effect sends, and what its node awaits then
  abbrev pub Keeps : Effect → Type 0
  Keeps e = Steady me came e.letters before (awaited e.node.mail.wait)

  acts_by-keep : (letters : List Letter) (node : Node) (c : Course) → Steady me came letters before (awaited node.mail.wait) → Keeps (acts_by letters node c)
  acts_by-keep letters node (going thread) k = k
  acts_by-keep letters node (trapped cause) k = k
  acts_by-keep letters node ended k = k

  acts-keep : (letters : List Letter) (node : Node) → Steady me came letters before (awaited node.mail.wait) → Keeps (acts letters node)
  acts-keep letters node k = acts_by-keep letters node node.course k

-- the reply to a request tells of the indices that it asked for
reply-indices : (node : Node) (page : ℕ) (indices : List ℕ)
    → map (λ (part : IndexedChangesRecord). part.index) (map (own_part node page) indices) ≡ indices
reply-indices node page [] = refl
reply-indices node page (index ∷ indices) = ap (λ l. index ∷ l) (reply-indices node page indices)

module _ (node : Node) where
  abbrev me : ℕ
  me = node.setting.me

  abbrev was : List Letter
  was = awaited node.mail.wait

  -- ---- by itself

  -- at a miss the node awaits what it asks for
  misses-keep : (need : Need) → node.mail.wait ≡ nothing → Steady me by_itself (requests_of need) was (awaited (access need))
  misses-keep need idle =
      subst (λ letters. Steady me by_itself letters was (awaited (access need))) (append-nil (requests_of need))
      (begins me by_itself (awaited (access need)) was tt (all_requests-ask (need ∷ [])) (ap awaited idle))

  run-keep : (e : Effect) → RunRule node e → Keeps me by_itself was e
  run-keep e (run_hit {next = next} r a readable) = acts-keep me by_itself was [] (charged node next) (calm me by_itself [] was was tt tt refl)
  run-keep e (run_miss {word = word} r a away unmet) = misses-keep (need_at node (page_at node word)) r.idle
  run-keep e (run_repair {word = word} r a away met) =
      let need : Need = need_at node (page_at node word) in
      acts-keep me by_itself was (requests_of need) _
      (subst (Steady me by_itself (requests_of need) was) (append-nil (requests_of need) ∙ met_asks need met) (misses-keep need r.idle))
  run-keep e (run_acquire lock after r room free) = acts-keep me by_itself was [] _ (calm me by_itself [] was was tt tt refl)
  run-keep e (run_ask lock after r room away) = calm me by_itself _ was [] tt ((refl, refl), tt) (sym (ap awaited r.idle))
  run-keep e (run_release lock after r room) =
      let closed : Node = closed_for node (releases lock after) in
      let step : LockStep = released node.locks.held lock closed.locks.time in
      acts-keep me by_itself was (grants_of closed (pass_of step)) (with_tokens closed (held_after node.locks.held lock step))
      (calm me by_itself (grants_of closed (pass_of step)) was was tt (grants-calm closed (pass_of step)) refl)
  run-keep e (run_barrier after r room) =
      let letters : List Letter = arrival_of (closed_for node (arrives after)) (node.barrier.episode + 1) ∷ [] in
      acts-keep me by_itself was letters _ (calm me by_itself letters was [] tt ((refl, refl), tt) (sym (ap awaited r.idle)))
  run-keep e (run_other {next = next} r own) = acts-keep me by_itself was [] (charged node next) (calm me by_itself [] was was tt tt refl)

  -- ---- with a message, its number taken

  module _ (reached : IsReached node) (envelope : EnvelopeRecord) (from : ℕ) where
    abbrev now : Node
    now = taking node envelope

    needed : Needed (view_of node)
    needed = needed_at node reached

    -- with a reply no more is awaited of it
    gets-keep : (message : Message) (memory : Memory) (change : Need → Need) → Brings now from message memory change
        → (letters : List Letter) → AreCalm letters → Steady me (comes from message) letters was (awaited (with_needs change node.mail.wait))
    gets-keep message memory change (brings_changes m lt all some) letters l =
        let indices : List ℕ = map (λ (part : IndexedChangesRecord). part.index) m.parts in
        let asked : Letter = letter from (ChangesRequest (record { page = m.page; indices = indices })) in
        gets me from (ChangesReply m) (changes m.page indices) asked letters was _ refl refl refl refl l
        (λ test.
        changes_come node.setting.nodes (pages_in (view_of node)) (words_of node.options.size) node.memory from m.page indices test
        (needs_of node.mail.wait) needed.each needed.apart some
        ∙ ap (λ after. cond {A = ℕ} (test asked) 1 0 + count_by test after)
        (sym (ap (flat_map requests_of) (needs-with (changes_came m.page from) node.mail.wait))))
    gets-keep message memory change (brings_base_copy m lt counted some) letters l =
        let asked : Letter = letter from (PageRequest m.page) in
        gets me from (PageReply m) (base_copy m.page) asked letters was _ refl refl refl refl l
        (λ test.
        page_comes from m.page m.values test (needs_of node.mail.wait) needed.apart some
        ∙ ap (λ after. cond {A = ℕ} (test asked) 1 0 + count_by test after)
        (sym (ap (flat_map requests_of) (needs-with (page_came m.page m.values) node.mail.wait))))

    -- of a node that waits so
    reply-keep : (message : Message) (memory : Memory) (change : Need → Need) (wait : Wait) → Brings now from message memory change
        → node.mail.wait ≡ wait → (letters : List Letter) → AreCalm letters
        → Steady me (comes from message) letters was (awaited (with_needs change wait))
    reply-keep message memory change wait b at letters l =
        subst (λ w. Steady me (comes from message) letters was (awaited (with_needs change w))) at (gets-keep message memory change b letters l)

    take-keep : (message : Message) (e : Effect) → TakeRule now from message e → Keeps me (comes from message) was e
    take-keep message e (take_request m lt counted mine) = calm me _ _ was was (refl, refl) ((refl, refl), tt) refl
    take-keep message e (take_forward m lt asker counted managed accepted) = calm me _ _ was was (refl, refl) (grants-calm now _) refl
    take-keep message e (take_token m lt at news) = acts-keep me _ was [] _ (calm me _ [] was [] (refl, refl) tt (sym (ap awaited at)))
    take-keep message e (take_arrive m before after at news is) = calm me _ [] was was (refl, refl) tt refl
    take-keep message e (take_last_arrive m before after departures at news is) =
        calm me _ _ was was (refl, refl) (departs-calm departures) refl
    take-keep message e (take_depart m d c) = acts-keep me _ was [] _ (calm me _ [] was [] (refl, refl) tt (sym (ap awaited d.awaited)))
    take-keep message e (take_collect m d c unmet) =
        begins me _ (flat_map requests_of (upkeep_at now m)) was (refl, refl) (all_requests-ask (upkeep_at now m)) (ap awaited d.awaited)
    take-keep message e (take_collect_at_once m d c met) =
        calm me _ _ was [] (refl, refl) ((refl, refl), tt) (sym (ap awaited d.awaited))
    take-keep message e (take_reply {memory = memory} {change = change} need b at unmet) =
        reply-keep message memory change (access need) b at [] tt
    take-keep message e (take_last_reply {memory = memory} {change = change} need b at met) =
        acts-keep me _ was [] _
        (subst (Steady me (comes from message) [] was) (append-nil (requests_of (change need)) ∙ met_asks (change need) met)
        (reply-keep message memory change (access need) b at [] tt))
    take-keep message e (take_kept_reply {memory = memory} {change = change} collection needs b at unmet) =
        reply-keep message memory change (upkeep collection needs) b at [] tt
    take-keep message e (take_last_kept_reply {memory = memory} {change = change} collection needs b at met) =
        subst (Steady me (comes from message) _ was) (all_met-ask (map change needs) met)
        (reply-keep message memory change (upkeep collection needs) b at _ ((refl, refl), tt))
    take-keep message e (take_clean episode before after at is) = calm me _ [] was was (refl, refl) tt refl
    take-keep message e (take_last_clean episode over before after at is) =
        calm me _ _ was was (refl, refl) (discards-calm (range_with_len 0 node.setting.nodes) over) refl
    take-keep message e (take_discard episode collection by_manager at is) =
        acts-keep me _ was [] _ (calm me _ [] was [] (refl, refl) tt (sym (ap awaited at)))
    take-keep message e (take_changes_request m lt all) =
        answers me from (ChangesRequest m) (ChangesReply (record { page = m.page; parts = map (own_part now m.page) m.indices })) was refl refl
        (ap (λ indices. Some (changes m.page indices)) (reply-indices now m.page m.indices))
    take-keep message e (take_page_request page values lt other at) =
        answers me from (PageRequest page) (PageReply (record { page = page; values = values })) was refl refl refl

-- ---- turns

-- a turn that is no repeat
pub record Asks (node : Node) (came : Came) (turn : TurnRecord) (after : Node) : Type 0 where
  pub letters : List Letter
  pub out : map letter_in turn.out ≡ letters
  pub steady : Steady node.setting.me came letters (awaited node.mail.wait) (awaited after.mail.wait)

-- of a message that was not taken before
abbrev pub AskFact : Node → Input → TurnRecord → Node → Type 0
AskFact node run turn after = Asks node by_itself turn after
AskFact node (taken m) turn after = is_repeat node m ≡ false → Asks node (comes m.from m.message) turn after

sent-asks : (node : Node) (came : Came) (e : Effect) (turn : TurnRecord) (after : Node) → Keeps node.setting.me came (awaited node.mail.wait) e
    → IsSent e turn after → Asks node came turn after
sent-asks node came e turn after k (with_numbers out sent is) =
    record { letters = e.letters; out = sent-letters e _ _ (with_numbers out sent is); steady = k }

pub asks : (node : Node) (input : Input) (turn : TurnRecord) (after : Node) → IsReached node → TurnRule node input turn after
    → AskFact node input turn after
asks node input turn after reached (by_run {effect = e} r s) = sent-asks node by_itself e turn after (run-keep node e r) s
asks node input turn after reached (by_repeat envelope addressed again) = λ new. absurd (false≢true (sym new ∙ again))
asks node input turn after reached (by_message envelope {effect = e} addressed new r s) = λ also.
    sent-asks node (comes envelope.from envelope.message) e turn after
    (take-keep node reached envelope envelope.from envelope.message e r) s

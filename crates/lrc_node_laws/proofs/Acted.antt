-- What each turn writes: a node's copies are what its open interval made of them.
use Rattle.std.proofs.Common.{◌≡◌, ℕ, ◌<◌, List, [], ◌∷◌, ◌++◌, true, false, length, refl, sym, ap, subst, ◌∙◌, arith}
use Rattle.std.specs.Prelude.{Option, Some, None, All, map, slice_index_or}
use Rattle.std.proofs.lemmas.Option.{same_Some}
use Rattle.std.proofs.lemmas.List.Elements.{All-head}
use Rattle.lrc_trace.specs.declared.act.Deed.{Deed}
use Rattle.lrc_page.specs.declared.size.Size.{Size}
use Rattle.lrc_page.specs.Page.{words_of}
use Rattle.lrc_page.specs.Place.{page_of, pages_of}
use Rattle.lrc_exec.specs.Meaning.{Thread, Next, quiet, prints, reads, writes, acquires, releases, arrives, departs, traps, ends, next_of}
use Rattle.lrc_store.specs.Interval.{IntervalRecord}
use Rattle.lrc_envelope.specs.Envelope.{EnvelopeRecord}
use Rattle.lrc_envelope.specs.declared.message.Message.{Message}
use Rattle.lrc_protocol.specs.Times.{next_time}
use Rattle.lrc_protocol.specs.Pages.{Copy, valid, written, invalid, absent, is_readable, changes_of, Memory, copy_at, with_written_word, Base, Need}
use Rattle.lrc_protocol.specs.Pages.{repaired}
use Rattle.lrc_protocol.specs.Barriers.{after_collection}
use Rattle.lrc_protocol.specs.Node.{Letter, Wait, nothing, grant, departure, access, upkeep, discard, needs_of, Course, going, trapped, ended}
use Rattle.lrc_protocol.specs.Node.{Node, Effect, makes, acts, acts_by, with_memory, waiting}
use Rattle.lrc_protocol.specs.Turn.{requests_of, charged, learns as learns_news, TurnRecord, taking}
use Rattle.lrc_protocol.specs.Run.{Input}
use Rattle.lrc_protocol.specs.Rules.{take_request, AccessesNext, access_read, access_write, IsOwn, own_quiet, own_print, own_trap, own_end, page_at}
use Rattle.lrc_protocol.specs.Rules.{need_at, closed_for, keeping, collection_at, upkeep_at, RunRule, run_hit, run_miss, run_repair}
use Rattle.lrc_protocol.specs.Rules.{run_acquire, run_ask, run_release, run_barrier, run_other, TakeRule, take_forward, take_token, take_arrive}
use Rattle.lrc_protocol.specs.Rules.{take_last_arrive, take_depart, take_collect, take_collect_at_once, take_reply, take_last_reply}
use Rattle.lrc_protocol.specs.Rules.{take_kept_reply, take_last_kept_reply, take_clean, take_last_clean, take_discard, take_changes_request}
use Rattle.lrc_protocol.specs.Rules.{take_page_request, IsSent, with_numbers, TurnRule, by_run, by_repeat, by_message}
use Rattle.lrc_order_laws.specs.Waiting.{is_departing, FixesNext}
use Rattle.lrc_protocol.specs.Node.{next_in}
use Rattle.lrc_order_laws.proofs.Counts.{lock_next, departure_next}
use Rattle.lrc_order_laws.proofs.TextHolds.{TextIs}
use Rattle.lrc_order_laws.proofs.Shift.{next-ready, deed_made, deed_back}
use Rattle.lrc_node_laws.specs.Needs.{FitsBase, FitsNeed, page_next, ReachesFor}
use Rattle.lrc_node_laws.specs.Waits.{IsQuiet}
use Rattle.lrc_node_laws.specs.Opened.{after_deed, open_in, IsMadeBy, AreMadeBy}
use Rattle.lrc_node_laws.proofs.ByRules.{access-in_range, Brought, brought}
use Rattle.lrc_node_laws.proofs.Quiet.{learned-none}
use Rattle.lrc_node_laws.proofs.Replies.{is-mended}
use Rattle.lrc_node_laws.proofs.Opened.{puts-made, closes-made, learns-made, discards-made, mends-made, cleans-made}

-- what is known of a node before its turn
pub record Known (node : Node) : Type 0 where
  pub text : TextIs node.setting node.course
  pub fits : FixesNext node.mail.wait (next_in node.course)
  pub quiet : IsQuiet node.mail.wait node.memory
  pub copies : length node.memory.copies ≡ pages_of node.setting.words node.options.size
  pub needs : All (FitsNeed node.setting.nodes (pages_of node.setting.words node.options.size) (words_of node.options.size) node.memory)
      (needs_of node.mail.wait)
  pub reaching : ReachesFor node.options.size (next_in node.course) node.mail.wait

-- what must hold before the text makes this
abbrev Before : Size → Memory → List (ℕ × ℕ) → Next → Type 0
Before size memory ws (writes word value after) = AreMadeBy size memory ws × (is_readable (copy_at memory (page_of word size)) ≡ true)
Before size memory ws (acquires lock after) = AreMadeBy size memory []
Before size memory ws (releases lock after) = AreMadeBy size memory []
Before size memory ws (arrives after) = AreMadeBy size memory []
Before size memory ws _ = AreMadeBy size memory ws

-- an access on a page that can be read
access_by : (size : Size) (ws : List (ℕ × ℕ)) (page : ℕ) (o : Option Next) → page_next size o ≡ Some page
    → (next : Next) × (o ≡ Some next) × ((memory : Memory) → is_readable (copy_at memory page) ≡ true → AreMadeBy size memory ws → Before size memory ws next)
access_by size ws page None e = cc
access_by size ws page (Some (reads word after)) e = (reads word after, refl, λ memory r m. m)
access_by size ws page (Some (writes word value after)) e =
    (writes word value after, refl, λ memory r m. (m, subst (λ p. is_readable (copy_at memory p) ≡ true) (sym (same_Some (page_of word size) page e)) r))
access_by size ws page (Some (quiet after)) e = cc
access_by size ws page (Some (prints value after)) e = cc
access_by size ws page (Some (acquires lock after)) e = cc
access_by size ws page (Some (releases lock after)) e = cc
access_by size ws page (Some (arrives after)) e = cc
access_by size ws page (Some (departs after)) e = cc
access_by size ws page (Some (traps cause)) e = cc
access_by size ws page (Some ends) e = cc

unreadable : (copy : Copy) → is_readable copy ≡ false → changes_of copy ≡ None
unreadable (valid values) r = refl
unreadable (written values twin) r = cc
unreadable (invalid values since) r = refl
unreadable absent r = refl

fits-unwritten : (nodes words : ℕ) (copy : Copy) (base : Base) → FitsBase nodes words copy base → changes_of copy ≡ None
fits-unwritten nodes words (valid values) base f = refl
fits-unwritten nodes words (written values twin) base f = absurd f
fits-unwritten nodes words (invalid values since) base f = refl
fits-unwritten nodes words absent base f = refl

abbrev pub after_one : List (ℕ × ℕ) → Option Deed → List (ℕ × ℕ)
after_one ws None = ws
after_one ws (Some deed) = after_deed ws deed

module _ (ws : List (ℕ × ℕ)) where
  abbrev pub Made : Node → Type 0
  Made node = AreMadeBy node.options.size node.memory (open_in node.mail.wait ws)

  abbrev After : Effect → Type 0
  After e = AreMadeBy e.node.options.size e.node.memory (open_in e.node.mail.wait (after_one ws e.deed))

  abbrev NotGrant : Node → Type 0
  NotGrant node = (x : List (ℕ × ℕ)) → open_in node.mail.wait x ≡ x

  as_open : (node : Node) (memory : Memory) (x : List (ℕ × ℕ)) → NotGrant node → AreMadeBy node.options.size memory x
      → AreMadeBy node.options.size memory (open_in node.mail.wait x)
  as_open node memory x o m = subst (AreMadeBy node.options.size memory) (sym (o x)) m

  makes-made : (letters : List Letter) (node : Node) (next : Next) → NotGrant node → Before node.options.size node.memory ws next
      → After (makes letters node next)
  makes-made letters node (quiet after) o b = as_open node node.memory ws o b
  makes-made letters node (prints value after) o b = as_open node node.memory ws o b
  makes-made letters node (reads word after) o b = as_open node node.memory ws o b
  makes-made letters node (writes word value after) o b =
      as_open node (with_written_word node.options.size word value node.memory) (ws ++ (word, value) ∷ []) o
      (puts-made node.options.size node.memory ws word value b.1 b.0)
  makes-made letters node (acquires lock after) o b = as_open node node.memory [] o b
  makes-made letters node (releases lock after) o b = as_open node node.memory [] o b
  makes-made letters node (arrives after) o b = as_open node node.memory [] o b
  makes-made letters node (departs after) o b = as_open node node.memory ws o b
  makes-made letters node (traps cause) o b = as_open node node.memory ws o b
  makes-made letters node ends o b = as_open node node.memory ws o b

  acts_by-made : (letters : List Letter) (node : Node) (c : Course) (next : Next) → next_in c ≡ Some next → NotGrant node
      → Before node.options.size node.memory ws next → After (acts_by letters node c)
  acts_by-made letters node (going thread) next n o b =
      subst (λ next. After (makes letters node next)) (sym (same_Some (next_of thread) next n)) (makes-made letters node next o b)
  acts_by-made letters node (trapped cause) next n o b = cc
  acts_by-made letters node ended next n o b = cc

  acts-made : (letters : List Letter) (node : Node) (next : Next) → next_in node.course ≡ Some next → NotGrant node
      → Before node.options.size node.memory ws next → After (acts letters node)
  acts-made letters node next n o b = acts_by-made letters node node.course next n o b

  -- what a node makes that waits so
  waits-made : (node : Node) (w : Wait) → node.mail.wait ≡ w → Made node → AreMadeBy node.options.size node.memory (open_in w ws)
  waits-made node w e m = subst (λ w. AreMadeBy node.options.size node.memory (open_in w ws)) e m

  free : (node : Node) → node.mail.wait ≡ nothing → NotGrant node
  free node idle x = ap (λ w. open_in w x) idle

  -- ---- by itself

  own-before : (size : Size) (memory : Memory) (next : Next) → IsOwn next → AreMadeBy size memory ws → Before size memory ws next
  own-before size memory next (own_quiet after) m = m
  own-before size memory next (own_print value after) m = m
  own-before size memory next (own_trap cause) m = m
  own-before size memory next own_end m = m

  access-before : (size : Size) (memory : Memory) (next : Next) (word : ℕ) → AccessesNext next word
      → is_readable (copy_at memory (page_of word size)) ≡ true → AreMadeBy size memory ws → Before size memory ws next
  access-before size memory next word (access_read w after) r m = m
  access-before size memory next word (access_write w value after) r m = (m, r)

  closed : (node : Node) (next : Next) → AreMadeBy node.options.size (closed_for node next).memory []
  closed node next = closes-made node.options.size node.setting.me (next_time node.setting.me node.locks.time) node.memory

  run-made : (node : Node) (e : Effect) → Known node → Made node → RunRule node e → After e
  run-made node e k m (run_hit {next = next} {word = word} r a readable) =
      acts-made [] (charged node next) next (next-ready node next r) (free node r.idle)
      (access-before node.options.size node.memory next word a readable (waits-made node nothing r.idle m))
  run-made node e k m (run_miss r a away unmet) = waits-made node nothing r.idle m
  run-made node e k m (run_repair {next = next} {word = word} r a away met) =
      let need : Need = need_at node (page_at node word) in
      let mended : Memory = repaired node.memory need in
      let lt : page_at node word < pages_of node.setting.words node.options.size = access-in_range node next word k.text r a in
      acts-made (requests_of need) (waiting nothing (with_memory (charged node next) mended)) next (next-ready node next r) (λ x. refl)
      (access-before node.options.size mended next word a (is-mended node.memory need (page_at node word) refl (omega (arith, lt, k.copies)))
      (mends-made node.options.size node.memory need ws (unreadable (copy_at node.memory (page_at node word)) away)
      (waits-made node nothing r.idle m)))
  run-made node e k m (run_acquire lock after r room here) =
      acts-made [] _ (acquires lock after) (next-ready node (acquires lock after) r) (free node r.idle) (closed node (acquires lock after))
  run-made node e k m (run_ask lock after r room away) = closed node (acquires lock after)
  run-made node e k m (run_release lock after r room) =
      acts-made _ _ (releases lock after) (next-ready node (releases lock after) r) (free node r.idle) (closed node (releases lock after))
  run-made node e k m (run_barrier after r room) =
      acts-made _ _ (arrives after) (next-ready node (arrives after) r) (λ x. refl) (closed node (arrives after))
  run-made node e k m (run_other {next = next} r own) =
      acts-made [] (charged node next) next (next-ready node next r) (free node r.idle)
      (own-before node.options.size node.memory next own (waits-made node nothing r.idle m))

  -- ---- with a message

  -- the text departs
  leaves-made : (node : Node) → is_departing (next_in node.course) ≡ true → NotGrant node → AreMadeBy node.options.size node.memory ws
      → After (acts [] node)
  leaves-made node leaving o m =
      let next : (x : Thread) × (next_in node.course ≡ Some (departs x)) = departure_next (next_in node.course) leaving in
      acts-made [] node (departs next.0) next.1 o m

  -- what was learned with a departure
  learned-made : (node : Node) (time : List ℕ) (intervals : List IntervalRecord) → node.mail.wait ≡ departure → Made node
      → AreMadeBy node.options.size (learns_news time intervals node).memory ws
  learned-made node time intervals at m =
      learns-made node.options.size node.locks.time intervals node.memory ws (waits-made node departure at m)

  brought-made : (size : Size) (before after : Memory) (change : Need → Need) → Brought before after change → AreMadeBy size before ws
      → AreMadeBy size after ws
  brought-made size before after change b m page =
      subst (λ (copies : List Copy). IsMadeBy size page ws (slice_index_or copies page absent)) (sym b.copies) (m page)

  -- with the last reply at a miss the page is mended, and the access made
  mended-made : (node : Node) (memory : Memory) (change : Need → Need) (need : Need) → Known node → node.mail.wait ≡ access need
      → Brought node.memory memory change → AreMadeBy node.options.size memory ws
      → After (acts [] (waiting nothing (with_memory node (repaired memory (change need)))))
  mended-made node memory change need k at b m =
      let size : Size = node.options.size in
      let Fits : Need → Type 0 = FitsNeed node.setting.nodes (pages_of node.setting.words size) (words_of size) node.memory in
      let fits : Fits need = All-head Fits need [] (subst (λ w. All Fits (needs_of w)) at k.needs) in
      let next : _ = access_by size ws need.page (next_in node.course) (subst (ReachesFor size (next_in node.course)) at k.reaching) in
      let unread : changes_of (copy_at memory (change need).page) ≡ None =
      ap (λ p. changes_of (copy_at memory p)) (b.page need)
      ∙ ap (λ (copies : List Copy). changes_of (slice_index_or copies need.page absent)) b.copies
      ∙ fits-unwritten node.setting.nodes (words_of size) (copy_at node.memory need.page) need.base fits.base in
      acts-made [] _ next.0 next.1 (λ x. refl)
      (next.2 (repaired memory (change need))
      (is-mended memory (change need) need.page (b.page need) (omega (arith, fits.in_range, k.copies, ap (λ (l : List Copy). length l) b.copies)))
      (mends-made size memory (change need) ws unread m))

  take-made : (node : Node) (from : ℕ) (message : Message) (e : Effect) → Known node → Made node → TakeRule node from message e → After e
  take-made node from message e k made (take_request m lt counted mine) = made
  take-made node from message e k made (take_forward m lt asker counted managed accepted) = made
  take-made node from message e k made (take_token m lt at news) =
      let next : (x : Thread) × (next_in node.course ≡ Some (acquires m.lock x)) =
      lock_next (next_in node.course) m.lock (subst (λ w. FixesNext w (next_in node.course)) at k.fits) in
      acts-made [] _ (acquires m.lock next.0) next.1 (λ x. refl)
      (learns-made node.options.size node.locks.time m.intervals node.memory [] (waits-made node (grant m.lock) at made))
  take-made node from message e k made (take_arrive m before after at news is) = made
  take-made node from message e k made (take_last_arrive m before after departures at news is) = made
  take-made node from message e k made (take_depart m d c) =
      leaves-made (waiting nothing (learns_news m.time m.intervals node)) (subst (λ w. FixesNext w (next_in node.course)) d.awaited k.fits)
      (λ x. refl) (learned-made node m.time m.intervals d.awaited made)
  take-made node from message e k made (take_collect m d c unmet) = learned-made node m.time m.intervals d.awaited made
  take-made node from message e k made (take_collect_at_once m d c met) =
      cleans-made node.options.size (upkeep_at node m) (collection_at node m).kept (keeping node m).memory ws
      (learned-none node.locks.time m.intervals node.memory (subst (λ w. IsQuiet w node.memory) d.awaited k.quiet))
      (learned-made node m.time m.intervals d.awaited made)
  take-made node from message e k made (take_reply {memory = memory} {change = change} need b at unmet) =
      brought-made node.options.size node.memory memory change (brought node from message memory change b) (waits-made node (access need) at made)
  take-made node from message e k made (take_last_reply {memory = memory} {change = change} need b at met) =
      let came : Brought node.memory memory change = brought node from message memory change b in
      mended-made node memory change need k at came
      (brought-made node.options.size node.memory memory change came (waits-made node (access need) at made))
  take-made node from message e k made (take_kept_reply {memory = memory} {change = change} collection needs b at unmet) =
      brought-made node.options.size node.memory memory change (brought node from message memory change b)
      (waits-made node (upkeep collection needs) at made)
  take-made node from message e k made (take_last_kept_reply {memory = memory} {change = change} collection needs b at met) =
      let came : Brought node.memory memory change = brought node from message memory change b in
      cleans-made node.options.size (map change needs) collection.kept memory ws
      (subst (λ (copies : List Copy). All (λ copy. changes_of copy ≡ None) copies) (sym came.copies)
      (subst (λ w. IsQuiet w node.memory) at k.quiet))
      (brought-made node.options.size node.memory memory change came (waits-made node (upkeep collection needs) at made))
  take-made node from message e k made (take_clean episode before after at is) = made
  take-made node from message e k made (take_last_clean episode over before after at is) = made
  take-made node from message e k made (take_discard episode collection f at is) =
      leaves-made (waiting nothing (with_memory node (after_collection node.setting.me collection.time node.memory)))
      (subst (λ w. FixesNext w (next_in node.course)) at k.fits) (λ x. refl)
      (discards-made node.options.size node.setting.me collection.time node.memory ws (waits-made node (discard collection) at made))
  take-made node from message e k made (take_changes_request m lt all) = made
  take-made node from message e k made (take_page_request page values lt other at) = made

-- ---- turns

-- the writes of the open interval after a turn
abbrev pub MadeAfter : List (ℕ × ℕ) → TurnRecord → Node → Type 0
MadeAfter ws turn after = AreMadeBy after.options.size after.memory (open_in after.mail.wait (after_one ws (deed_made turn)))

sent-made : (ws : List (ℕ × ℕ)) (e : Effect) (turn : TurnRecord) (after : Node) → After ws e → IsSent e turn after → MadeAfter ws turn after
sent-made ws e turn after m (with_numbers out sent is) =
    subst (λ d. AreMadeBy e.node.options.size e.node.memory (open_in e.node.mail.wait (after_one ws d))) (sym (deed_back e.node.setting.me e.deed)) m

taking-known : (node : Node) (envelope : EnvelopeRecord) → Known node → Known (taking node envelope)
taking-known node envelope k = record { text = k.text; fits = k.fits; quiet = k.quiet; copies = k.copies; needs = k.needs; reaching = k.reaching }

-- each turn leaves of the copies what the open interval made of them
pub turn-made : (ws : List (ℕ × ℕ)) (node : Node) (input : Input) (turn : TurnRecord) (after : Node) → Known node → Made ws node
    → TurnRule node input turn after → MadeAfter ws turn after
turn-made ws node input turn after k m (by_run {effect = e} r s) = sent-made ws e turn after (run-made ws node e k m r) s
turn-made ws node input turn after k m (by_repeat envelope f again) = m
turn-made ws node input turn after k m (by_message envelope {effect = e} f new r s) =
    sent-made ws e turn after
    (take-made ws (taking node envelope) envelope.from envelope.message e (taking-known node envelope k) m r) s

-- A turn that reads a word: its value is that of the word in the node's copy of the page, which is readable.
use Rattle.std.proofs.Common.{◌≡◌, ℕ, ◌<◌, List, [], true, refl, sym, ap, subst, ◌∙◌, length, arith}
use Rattle.std.specs.Prelude.{Option, Some, None, All}
use Rattle.std.proofs.lemmas.Option.{same_Some}
use Rattle.std.proofs.lemmas.List.Elements.{All-head}
use Rattle.lrc_trace.specs.declared.act.Deed.{Deed}
use Rattle.lrc_trace.specs.declared.act.Deed.TheVariants.{Read}
use Rattle.lrc_page.specs.declared.size.Size.{Size}
use Rattle.lrc_page.specs.Page.{words_of}
use Rattle.lrc_page.specs.Place.{page_of, pages_of}
use Rattle.lrc_exec.specs.Meaning.{Next, reads, acquires, releases, arrives, next_of}
use Rattle.lrc_envelope.specs.declared.message.Message.{Message}
use Rattle.lrc_protocol.specs.Pages.{is_readable, Memory, copy_at, value_at, Need}
use Rattle.lrc_protocol.specs.Node.{Letter, Wait, grant, departure, discard, needs_of, Course, going, trapped, ended, Node, Effect, makes, acts}
use Rattle.lrc_protocol.specs.Node.{acts_by}
use Rattle.lrc_protocol.specs.Turn.{TurnRecord, taking}
use Rattle.lrc_protocol.specs.Run.{Input}
use Rattle.lrc_protocol.specs.Rules.{IsReadyFor, AccessesNext, access_read, access_write, IsOwn, own_quiet, page_at, need_at, Brings}
use Rattle.lrc_protocol.specs.Rules.{brings_changes, brings_base_copy, RunRule, run_hit, run_repair, run_acquire, run_release, run_barrier}
use Rattle.lrc_protocol.specs.Rules.{run_other, TakeRule, take_token, take_depart, take_last_reply, take_discard, IsSent, with_numbers}
use Rattle.lrc_protocol.specs.Rules.{TurnRule, by_run, by_repeat, by_message}
use Rattle.lrc_order_laws.specs.Waiting.{is_departing, FixesNext}
use Rattle.lrc_protocol.specs.Node.{next_in}
use Rattle.lrc_order_laws.proofs.Shift.{deed_made, deed_back, next-ready}
use Rattle.lrc_order_laws.proofs.Counts.{lock_next, departure_next}
use Rattle.lrc_node_laws.specs.Needs.{FitsNeed, page_next, ReachesFor}
use Rattle.lrc_node_laws.proofs.Words.{InWords, next-in_words, page-in_range}
use Rattle.lrc_node_laws.proofs.Needed.{changed_page, sent_page}
use Rattle.lrc_node_laws.proofs.Replies.{is-mended}
use Rattle.lrc_node_laws.proofs.Acted.{Known}

-- the copy of the word's page is readable, and has this value of the word
pub record HasRead (size : Size) (memory : Memory) (word value : ℕ) : Type 0 where
  pub readable : is_readable (copy_at memory (page_of word size)) ≡ true
  pub value_is : value ≡ value_at size memory word

-- where a deed reads, this is what was read
abbrev ReadsFrom : Size → Memory → Option Deed → Type 0
ReadsFrom size memory (Some (Read word value)) = HasRead size memory word value
ReadsFrom size memory _ = Unit {0}

record After (e : Effect) : Type 0 where
  reads : ReadsFrom e.node.options.size e.node.memory e.deed

-- the page that a text goes to next, if it goes to one, is readable
abbrev MayRead : Size → Memory → Option Next → Type 0
MayRead size memory next = (page : ℕ) → page_next size next ≡ Some page → is_readable (copy_at memory page) ≡ true

-- ---- acts

makes-reads : (letters : List Letter) (node : Node) (next : Next) → MayRead node.options.size node.memory (Some next)
    → After (makes letters node next)
makes-reads letters node (reads word after) may = record { reads = record { readable = may (page_of word node.options.size) refl; value_is = refl } }
makes-reads letters node _ may = record { reads = tt }

acts_by-reads : (letters : List Letter) (node : Node) (c : Course) → MayRead node.options.size node.memory (next_in c)
    → After (acts_by letters node c)
acts_by-reads letters node (going thread) may = makes-reads letters node (next_of thread) may
acts_by-reads letters node (trapped cause) may = record { reads = tt }
acts_by-reads letters node ended may = record { reads = tt }

-- at a page that is readable, and at none
acts-reads : (letters : List Letter) (node : Node) (page : ℕ) → page_next node.options.size (next_in node.course) ≡ Some page
    → is_readable (copy_at node.memory page) ≡ true → After (acts letters node)
acts-reads letters node page to readable =
    acts_by-reads letters node node.course
    (λ other e. subst (λ p. is_readable (copy_at node.memory p) ≡ true) (same_Some page other (sym to ∙ e)) readable)

acts-elsewhere : (letters : List Letter) (node : Node) → page_next node.options.size (next_in node.course) ≡ None → After (acts letters node)
acts-elsewhere letters node none =
    acts_by-reads letters node node.course (λ page e. let never : None ≡ Some page = sym none ∙ e in cc)

access-page : (size : Size) (next : Next) (word : ℕ) → AccessesNext next word → page_next size (Some next) ≡ Some (page_of word size)
access-page size next word (access_read w after) = refl
access-page size next word (access_write w value after) = refl

access-word : (words : ℕ) (next : Next) (word : ℕ) → AccessesNext next word → InWords words next → word < words
access-word words next word (access_read w after) lt = lt
access-word words next word (access_write w value after) lt = lt

own-page : (size : Size) (next : Next) → IsOwn next → page_next size (Some next) ≡ None
own-page size next (own_quiet after) = refl
own-page size next _ = refl

module _ (node : Node) (known : Known node) where
  abbrev size : Size
  size = node.options.size

  abbrev coming : Option Next
  coming = next_in node.course

  -- ---- by itself

  comes : (next : Next) → IsReadyFor node next → page_next size coming ≡ page_next size (Some next)
  comes next r = ap (page_next size) (next-ready node next r)

  to_page : (next : Next) (word : ℕ) → IsReadyFor node next → AccessesNext next word → page_next size coming ≡ Some (page_at node word)
  to_page next word r a = comes next r ∙ access-page size next word a

  in_range : (next : Next) (word : ℕ) → IsReadyFor node next → AccessesNext next word → page_at node word < length node.memory.copies
  in_range next word r a =
      let lt : page_at node word < pages_of node.setting.words size =
      page-in_range word node.setting.words size
      (access-word node.setting.words next word a (next-in_words node.setting node.course next known.text (next-ready node next r))) in
      omega (arith, lt, known.copies)

  run-reads : (e : Effect) → RunRule node e → After e
  run-reads e (run_hit {next = next} {word = word} r a here) = acts-reads [] _ (page_at node word) (to_page next word r a) here
  run-reads e (run_repair {next = next} {word = word} r a away met) =
      acts-reads _ _ (page_at node word) (to_page next word r a)
      (is-mended node.memory (need_at node (page_at node word)) (page_at node word) refl (in_range next word r a))
  run-reads e (run_acquire lock after r room free) = acts-elsewhere [] _ (comes (acquires lock after) r)
  run-reads e (run_release lock after r room) = acts-elsewhere _ _ (comes (releases lock after) r)
  run-reads e (run_barrier after r room) = acts-elsewhere _ _ (comes (arrives after) r)
  run-reads e (run_other {next = next} r own) = acts-elsewhere [] _ (comes next r ∙ own-page size next own)
  run-reads e _ = record { reads = tt }

  -- ---- with a message

  -- who waits for this does next what it says
  fixed : (w : Wait) → node.mail.wait ≡ w → FixesNext w coming
  fixed w at = subst (λ w. FixesNext w coming) at known.fits

  departing : is_departing coming ≡ true → page_next size coming ≡ None
  departing d = ap (page_next size) (departure_next coming d).1

  brings-page : (from : ℕ) (message : Message) (memory : Memory) (change : Need → Need) (need : Need) → Brings node from message memory change
      → ((change need).page ≡ need.page) × (memory.copies ≡ node.memory.copies)
  brings-page from message memory change need (brings_changes m lt all some) = (changed_page m.page from need, refl)
  brings-page from message memory change need (brings_base_copy m lt counted some) = (sent_page m.page m.values need, refl)

  abbrev AllFit : Wait → Type 0
  AllFit w = All (FitsNeed node.setting.nodes (pages_of node.setting.words size) (words_of size) node.memory) (needs_of w)

  take-reads : (from : ℕ) (message : Message) (e : Effect) → TakeRule node from message e → After e
  take-reads from message e (take_token m lt at news) =
      acts-elsewhere [] _ (ap (page_next size) (lock_next coming m.lock (fixed (grant m.lock) at)).1)
  take-reads from message e (take_depart m d c) = acts-elsewhere [] _ (departing (fixed departure d.awaited))
  take-reads from message e (take_discard episode collection f at k) = acts-elsewhere [] _ (departing (fixed (discard collection) at))
  take-reads from message e (take_last_reply {memory = memory} {change = change} need b at met) =
      let fits : FitsNeed node.setting.nodes (pages_of node.setting.words size) (words_of size) node.memory need =
      All-head (FitsNeed node.setting.nodes (pages_of node.setting.words size) (words_of size) node.memory) need [] (subst AllFit at known.needs) in
      let same : _ = brings-page from message memory change need b in
      let lt : need.page < length memory.copies = omega (arith, fits.in_range, known.copies, ap length same.1) in
      acts-reads [] _ need.page (subst (ReachesFor size coming) at known.reaching) (is-mended memory (change need) need.page same.0 lt)
  take-reads from message e _ = record { reads = tt }

-- ---- turns

sent-reads : (e : Effect) (turn : TurnRecord) (after : Node) → IsSent e turn after → After e
    → ReadsFrom after.options.size after.memory (deed_made turn)
sent-reads e turn after (with_numbers out sent is) h =
    subst (ReadsFrom e.node.options.size e.node.memory) (sym (deed_back e.node.setting.me e.deed)) h.reads

turn-reads : (node : Node) (input : Input) (turn : TurnRecord) (after : Node) → Known node → TurnRule node input turn after
    → ReadsFrom after.options.size after.memory (deed_made turn)
turn-reads node input turn after k (by_run {effect = effect} r s) = sent-reads effect turn after s (run-reads node k effect r)
turn-reads node input turn after k (by_repeat envelope f again) = tt
turn-reads node input turn after k (by_message envelope {effect = effect} f new r s) =
    let known : Known (taking node envelope) =
    record { text = k.text; fits = k.fits; quiet = k.quiet; copies = k.copies; needs = k.needs; reaching = k.reaching } in
    sent-reads effect turn after s (take-reads (taking node envelope) known envelope.from envelope.message effect r)

-- a turn that reads leaves its node with what it read
pub has_read : (node : Node) (input : Input) (turn : TurnRecord) (after : Node) (word value : ℕ) → Known node → TurnRule node input turn after
    → deed_made turn ≡ Some (Read word value) → HasRead after.options.size after.memory word value
has_read node input turn after word value k r is =
    subst (ReadsFrom after.options.size after.memory) is (turn-reads node input turn after k r)

-- A turn of a node keeps what it has as the exact memory has it, where barriers collect.
use Rattle.std.proofs.Common.{◌≡◌, ℕ, suc, ◌+◌, ◌<◌, ◌≤◌, ◌↔◌, ◌&&◌, List, [], ◌∷◌, ◌++◌, true, false, length, map, refl, sym, ap, subst, ◌∙◌}
use Rattle.std.proofs.Common.{inl, inr, arith, append-nil}
use Rattle.std.specs.Prelude.{Option, Some, None, is_some, unwrap_or, ◌==◌, not, filter, fold, Contains, if◌then◌else◌}
use Rattle.std.specs.List.{list_all, range_with_len}
use Rattle.std.proofs.lemmas.Bool.{cases_Bool, and_parts, eq-eqb, eqb-true, ne_eqb, false≢true}
use Rattle.std.proofs.lemmas.Option.{same_Some}
use Rattle.std.proofs.lemmas.List.Elements.{All-head, All-nil, All-cons}
use Rattle.lrc_program.specs.declared.Program.{Program}
use Rattle.lrc_trace.specs.declared.act.Act.{Act}
use Rattle.lrc_trace.specs.declared.act.Deed.TheVariants.{Read, Write, Acquire, Depart as Departs}
use Rattle.lrc_time.specs.Time.{entry, joined, Covers}
use Rattle.lrc_time.proofs.Times.{entry-set_same, covers-joined_second}
use Rattle.lrc_page.specs.declared.size.Size.{Size}
use Rattle.lrc_page.specs.Page.{words_of}
use Rattle.lrc_page.specs.Place.{page_of}
use Rattle.lrc_exec.specs.Meaning.{Next, quiet, prints, reads, writes, acquires, releases, arrives, departs, traps, ends}
use Rattle.lrc_store.specs.Interval.{index_of}
use Rattle.lrc_store.specs.Store.{StoredRecord, NoticeRecord, interval_of, intervals_of, notice_of}
use Rattle.lrc_store.proofs.Orders.{filter-Contains}
use Rattle.lrc_envelope.specs.declared.message.Message.{Message}
use Rattle.lrc_envelope.specs.declared.message.Message.TheVariants.{Depart as Depart_message, PageReply}
use Rattle.lrc_envelope.specs.Records.{DepartRecord, PageReplyRecord}
use Rattle.lrc_protocol.specs.Times.{next_time, is_named}
use Rattle.lrc_protocol.specs.Pages.{Copy, valid, written, invalid, absent, is_readable, values_of, changes_of, Memory, copy_at, keeper_at, Need, is_met}
use Rattle.lrc_protocol.specs.Pages.{repaired, learned, with_interval as storing, value_at, with_written_word, with_part, changes_came, page_came}
use Rattle.lrc_protocol.specs.Barriers.{Collection, base_at, kept_pages, clean_memory, after_collection, with_keepers, least, namers_of}
use Rattle.lrc_protocol.specs.Locks.{Locks}
use Rattle.lrc_protocol.specs.Node.{Letter, Wait, nothing, grant, departure, access, upkeep, discard, Node, Mail}
use Rattle.lrc_protocol.specs.Node.{Effect, makes, sends, acts as acting, with_memory, waiting, next_in, OptionsRecord}
use Rattle.lrc_protocol.specs.Turn.{charged, with_needs}
use Rattle.lrc_protocol.specs.Rules.{IsReadyFor, AccessesNext, access_read, access_write, IsOwn, own_quiet, own_print, own_trap, own_end, page_at, need_at}
use Rattle.lrc_protocol.specs.Rules.{RunRule, run_hit, run_miss, run_repair, run_acquire, run_ask, run_release, run_barrier, run_other, TakeRule, Brings}
use Rattle.lrc_protocol.specs.Rules.{brings_changes, brings_base_copy, take_request, take_forward, take_token, take_arrive, take_last_arrive, take_depart}
use Rattle.lrc_protocol.specs.Rules.{take_collect, take_collect_at_once, take_reply, take_last_reply, take_kept_reply, take_last_kept_reply, take_clean}
use Rattle.lrc_protocol.specs.Rules.{take_last_clean, take_discard, take_changes_request, take_page_request, IsDepartureDue, keeping, collection_at, upkeep_at}
use Rattle.lrc_order_laws.specs.Counts.{is_inside}
use Rattle.lrc_order_laws.specs.Waiting.{FixesNext}
use Rattle.lrc_order_laws.proofs.Counts.{lock_next, departure_next}
use Rattle.lrc_order_laws.proofs.Sends.{comes as comes_from}
use Rattle.lrc_order_laws.proofs.Shift.{next-ready}
use Rattle.lrc_node_laws.specs.Needs.{FitsNeed, page_next, ReachesFor}
use Rattle.lrc_node_laws.specs.Ranges.{IsWholeCopy}
use Rattle.lrc_node_laws.specs.Waits.{NoneWritten, IsQuiet}
use Rattle.lrc_node_laws.proofs.ByRules.{access-in_range, access-reaches, Brought, brought}
use Rattle.lrc_node_laws.proofs.Change.{View, view_of, Walk, goes, News, news, reply_in, pages_in, misses, gets_changes, gets_page}
use Rattle.lrc_node_laws.proofs.Change.{mends as mends_change, cleans as cleans_change}
use Rattle.lrc_node_laws.proofs.Lists.{length-placed}
use Rattle.lrc_node_laws.proofs.Ranges.{SameRest, clean-same}
use Rattle.lrc_node_laws.proofs.Reach.{first_view}
use Rattle.lrc_node_laws.proofs.Replies.{is-mended}
use Rattle.lrc_node_laws.proofs.Turning.{First, begins, news_in, first-walk}
use Rattle.lrc_node_laws.proofs.Whole.{readable-long}
use Rattle.lrc_reading_laws.specs.Made.{AllMade}
use Rattle.lrc_reading_laws.specs.Written.{word_on, changes_on}
use Rattle.lrc_reading_laws.proofs.Closed.History.{closed_record}
use Rattle.lrc_reading_laws.proofs.Closed.Stored.{from_range}
use Rattle.lrc_reading_laws.proofs.Collected.Turns.{in_collection}
use Rattle.lrc_reading_laws.proofs.Fitting.Copies.{Stored}
use Rattle.lrc_reading_laws.proofs.Fitting.First.{whole-long}
use Rattle.lrc_reading_laws.proofs.Fitting.Later.{AtView, at_view}
use Rattle.lrc_reading_laws.proofs.Stamped.Lists.{own_between}
use Rattle.lrc_reading_laws.proofs.Written.Notices.{closed_changes, closed_none, noticed, unnamed as unnoticed}
use Rattle.lrc_exact.specs.LocalRule.{released_state}
use Rattle.lrc_exact.specs.Rule.{Shape, Knowledge, State, accessed, closed, with_learned, acquired, collects, collected, departed, keeper_of}
use Rattle.lrc_exact_made.specs.Copies.{shape_of}
use Rattle.lrc_exact_made.specs.Steps.{IsClosing}
use Rattle.lrc_exact_made.proofs.Accessing.{reads_exactly}
use Rattle.lrc_exact_collected.specs.Keepers.{StoresWhatIsKnown}
use Rattle.lrc_exact_collected.proofs.Keepers.{named-keeper}
use Rattle.lrc_exact_pages.specs.Pages.{HasPages}
use Rattle.lrc_exact_pages.proofs.Accessing.{accesses_pages, writes_pages}
use Rattle.lrc_exact_pages.proofs.Closing.{closes as closes_pages}
use Rattle.lrc_exact_collecting.specs.Left.{left_after}
use Rattle.lrc_exact_turns.proofs.Stands.{is_among, standing, IsLeft, NeedIsLeft, StandsAt, arrived_in, number_of, all_at, left_at, now_state, next_state}
use Rattle.lrc_exact_turns.proofs.Stands.{KnowsMade, Here, Tells, Effected, Elsewhere}
use Rattle.lrc_exact_turns.proofs.Cleaning.{among-in, looked_value, cleans_so}
use Rattle.lrc_exact_turns.proofs.Deeds.{read_word, read_value, acts_by-as, departs_so, left_then}
use Rattle.lrc_exact_turns.proofs.Dropping.{discards_so}
use Rattle.lrc_exact_turns.proofs.Learning.{all_made, found_state, learns_no_pages, own_entry, learns-then, grants-then}
use Rattle.lrc_exact_turns.proofs.Mending.{mends}
use Rattle.lrc_exact_turns.proofs.Replies.{new_need, new_needs, changed_needs, sent_needs, noted}

-- ---- a node before its turn

module _ (nodes collect : ℕ) (acts : List Act) (states : List State) (made : List StoredRecord) (program : Program) (count : ℕ)
    (options : OptionsRecord) (me : ℕ) (among : me < count) (node : Node) (walked : Walk (first_view program count options me among) (view_of node))
    (h : Here nodes collect acts states made node) where
  abbrev size : Size
  size = node.options.size

  abbrev own : ℕ
  own = node.setting.me

  abbrev time : List ℕ
  time = node.locks.time

  abbrev shape : Shape
  shape = shape_of nodes size collect

  abbrev now : State
  now = now_state nodes collect acts states node

  abbrev arrived : ℕ → ℕ → Option State
  arrived = arrived_in acts states

  abbrev number : ℕ
  number = number_of acts own

  abbrev all : Knowledge
  all = all_at nodes acts states number

  abbrev left : ℕ → ℕ → ℕ
  left = left_at shape acts states

  abbrev Then : Effect → Type 0
  Then e = Elsewhere nodes collect acts states made node e → Effected nodes collect acts states made node e

  abbrev Has : ℕ → List StoredRecord → List ℕ → Memory → State → Type 0
  Has k all t memory state = HasPages size all (λ page offset. left k (word_on size page offset)) t memory state

  abbrev Bases : ℕ → Memory → Type 0
  Bases k memory = (page : ℕ) (values : List ℕ) → base_at memory page ≡ Some values → IsLeft size (left k) page values

  abbrev Standing : ℕ → List StoredRecord → List ℕ → Wait → Memory → State → Type 0
  Standing k made t wait memory state = StandsAt size nodes collect acts states made k own t wait memory state

  a : AtView (view_of node)
  a = at_view program count options me among (view_of node) walked

  whole : (page : ℕ) (copy : Copy) → copy_at node.memory page ≡ copy → IsWholeCopy node.setting.nodes (words_of size) copy
  whole page copy e = whole-long node.setting.nodes (words_of size) node.memory.copies page copy e a.whole.copies

  own_among : own < nodes
  own_among = subst (λ n. own < n) h.count a.ranged.me

  -- ---- what is closed

  -- by a turn after which the node has this time
  abbrev closed_to : List ℕ → List StoredRecord
  closed_to t = if entry t own == entry time own then [] else closed_record node ∷ []

  none_closed : (t : List ℕ) → entry t own ≡ entry time own → made ≡ made ++ closed_to t
  none_closed t e =
      sym (append-nil made) ∙ ap (λ b. made ++ (if b then [] else closed_record node ∷ [])) (sym (eq-eqb (entry t own) (entry time own) e))

  one_closed : (t : List ℕ) → (entry t own ≡ entry time own → ⊥) → closed_record node ∷ [] ≡ closed_to t
  one_closed t ne = ap (λ b. if b then [] else closed_record node ∷ []) (sym (ne_eqb (entry t own) (entry time own) ne))

  rises : entry (next_time own time) own ≡ entry time own → ⊥
  rises e = let more = entry-set_same time own (entry time own + 1) h.within in omega arith

  -- where nothing is closed
  remains : (k : ℕ) (t : List ℕ) (wait : Wait) (memory : Memory) (state : State) → entry t own ≡ entry time own → Standing k made t wait memory state
      → Standing k (made ++ closed_to t) t wait memory state
  remains k t wait memory state e f = subst (λ all. Standing k all t wait memory state) (none_closed t e) f

  -- where the interval is
  closes_to : (k : ℕ) (wait : Wait) (memory : Memory) (state : State) → Standing k (made ++ closed_record node ∷ []) (next_time own time) wait memory state
      → Standing k (made ++ closed_to (next_time own time)) (next_time own time) wait memory state
  closes_to k wait memory state f =
      subst (λ new. Standing k (made ++ new) (next_time own time) wait memory state) (one_closed (next_time own time) rises) f

  no_written : (copy : Copy) (values twin : List ℕ) → changes_of copy ≡ None → copy ≡ written values twin → ⊥
  no_written copy values twin none e = cc

  changes_are : (page : ℕ) (copy : Copy) → copy_at node.memory page ≡ copy → changes_on page (closed_record node) ≡ unwrap_or (changes_of copy) []
  changes_are page (valid values) e = closed_none node page (λ v t w. no_written (copy_at node.memory page) v t (ap changes_of e) w)
  changes_are page (written values twin) e = closed_changes node page values twin e
  changes_are page (invalid values since) e = closed_none node page (λ v t w. no_written (copy_at node.memory page) v t (ap changes_of e) w)
  changes_are page absent e = closed_none node page (λ v t w. no_written (copy_at node.memory page) v t (ap changes_of e) w)

  none_or : (o : Option NoticeRecord) → (o ≡ None → ⊥) → is_some o ≡ true
  none_or None never = absurd (never refl)
  none_or (Some notice) never = refl

  notice_none : (page : ℕ) → changes_of (copy_at node.memory page) ≡ None → is_some (notice_of page (closed_record node)) ≡ false
  notice_none page none =
      elim (cases_Bool (is_some (notice_of page (closed_record node)))) [
        | inl some ↦
            let it = noticed node page some in
            absurd (no_written (copy_at node.memory page) it.0 it.1 none it.2)
        | inr not ↦ not
      ]

  notices_are : (page : ℕ) (copy : Copy) → copy_at node.memory page ≡ copy → is_some (notice_of page (closed_record node)) ≡ is_some (changes_of copy)
  notices_are page (valid values) e = notice_none page (ap changes_of e)
  notices_are page (written values twin) e = none_or (notice_of page (closed_record node)) (λ none. unnoticed node page none values twin e)
  notices_are page (invalid values since) e = notice_none page (ap changes_of e)
  notices_are page absent e = notice_none page (ap changes_of e)

  closing : IsClosing size made own time node.memory (closed_record node)
  closing = record {
    node_is = refl;
    stamp_is = refl;
    changes = λ page. changes_are page (copy_at node.memory page) refl;
    notices = λ page. notices_are page (copy_at node.memory page) refl;
    within = h.within;
    own = λ y c e. (own_between made own (entry time own) y h.counted c e).1;
    long = λ page values twin e. (whole page (written values twin) e).0;
  }

  -- ---- the state

  -- where this is awaited
  stands_at : (w : Wait) → node.mail.wait ≡ w → Standing number made time w node.memory now
  stands_at w e = subst (λ w. Standing number made time w node.memory now) e h.stands

  free : (w : Wait) → w ≡ nothing → (shape : Shape) (all : Knowledge) (state : State) → standing shape own all w state ≡ state
  free w e shape all state = ap (λ w. standing shape own all w state) e

  outside : (w : Wait) → in_collection w ≡ false → in_collection w ≡ true → ⊥
  outside w off inside = false≢true (sym off ∙ inside)

  -- a node that waits for nothing
  idles : (k : ℕ) (w : Wait) → w ≡ nothing → (all : List StoredRecord) (t : List ℕ) (memory : Memory) (state : State) → Has k all t memory state
      → Bases k memory → Standing k all t w memory state
  idles k w e all t memory state f b =
      subst (λ w. Standing k all t w memory state) (sym e) (record { pages = f; bases = b; needs = All-nil (NeedIsLeft size (left k)); own = tt })

  idle_pages : node.mail.wait ≡ nothing → Has number made time node.memory now
  idle_pages idle = (stands_at nothing idle).pages

  idle_bases : node.mail.wait ≡ nothing → Bases number node.memory
  idle_bases idle = (stands_at nothing idle).bases

  closes : node.mail.wait ≡ nothing
      → Has number (made ++ closed_record node ∷ []) (next_time own time) (storing own (next_time own time) node.memory) (closed own now)
  closes idle =
      closes_pages size made (λ page offset. left number (word_on size page offset)) own time node.memory now (closed_record node) (idle_pages idle) closing

  -- readable copies are whole
  long_then : (z : Node) → Walk (first_view program count options me among) (view_of z) → (page : ℕ) → is_readable (copy_at z.memory page) ≡ true
      → length (values_of (copy_at z.memory page)) ≡ words_of z.options.size
  long_then z w page readable =
      readable-long z.setting.nodes (words_of z.options.size) (copy_at z.memory page) readable
      (whole-long z.setting.nodes (words_of z.options.size) z.memory.copies page (copy_at z.memory page) refl
      (at_view program count options me among (view_of z) w).whole.copies)

  -- ---- accesses

  module _ (steps : ℕ) (mail : Mail) (memory : Memory) (letters : List Letter) (idle : mail.wait ≡ nothing) where
    abbrev x : Node
    x = record node { left = steps; mail = mail; memory = memory }

    accesses-then : (next : Next) (word : ℕ) → AccessesNext next word → Has number made time memory (accessed shape (page_of word size) now)
        → Bases number memory
        → is_readable (copy_at memory (page_of word size)) ≡ true → length (values_of (copy_at memory (page_of word size))) ≡ words_of size
        → Effected nodes collect acts states made node (makes letters x next)
    accesses-then _ _ (access_read word after) f b readable long =
        let value : ℕ = value_at size memory word in
        let is : value ≡ (now.words word).value =
        reads_exactly size nodes collect made time memory (accessed shape (page_of word size) now) f.exact word readable
        ∙ looked_value (now.words word) (page_of word size == page_of word size) in
        record {
          stands = remains number time mail.wait memory (accessed shape (page_of word size) now) refl
              (idles number mail.wait idle made time memory (accessed shape (page_of word size) now) f b);
          reads = λ w v e.
              let same : Read word value ≡ Read w v = same_Some (Read word value) (Read w v) e in
              sym (ap read_value same) ∙ is ∙ ap (λ w. (now.words w).value) (ap read_word same);
          departs = λ e. absurd cc;
          settled = λ d e. (free mail.wait idle, outside mail.wait (ap in_collection idle));
        }
    accesses-then _ _ (access_write word value after) f b readable long =
        let then_memory : Memory = with_written_word size word value memory in
        let next : State = next_state nodes collect acts states node (Write word value) in
        record {
          stands = remains number time mail.wait then_memory next refl
              (idles number mail.wait idle made time then_memory next
              (writes_pages size nodes collect made (λ page offset. left number (word_on size page offset)) time memory (accessed shape (page_of word size) now) f
              word value readable long) b);
          reads = λ w v e. absurd (no_read word value w v e);
          departs = λ e. absurd cc;
          settled = λ d e. (free mail.wait idle, outside mail.wait (ap in_collection idle));
        }
      where
        no_read : (word value w v : ℕ) → Some (Write word value) ≡ Some (Read w v) → ⊥
        no_read word value w v e = cc

    own-stands : Has number made time memory now → Bases number memory → Standing number (made ++ closed_to time) time mail.wait memory now
    own-stands f b = remains number time mail.wait memory now refl (idles number mail.wait idle made time memory now f b)

    own-then : (next : Next) → IsOwn next → Has number made time memory now → Bases number memory
        → Effected nodes collect acts states made node (makes letters x next)
    own-then next (own_quiet after) f b = record {
      stands = own-stands f b;
      reads = λ w v e. absurd cc;
      departs = λ e. absurd cc;
      settled = λ d e. (free mail.wait idle, outside mail.wait (ap in_collection idle));
    }
    own-then next (own_print value after) f b = record {
      stands = own-stands f b;
      reads = λ w v e. absurd cc;
      departs = λ e. absurd cc;
      settled = λ d e. (free mail.wait idle, outside mail.wait (ap in_collection idle));
    }
    own-then next (own_trap cause) f b = record {
      stands = own-stands f b;
      reads = λ w v e. absurd cc;
      departs = λ e. absurd cc;
      settled = λ d e. (free mail.wait idle, outside mail.wait (ap in_collection idle));
    }
    own-then next own_end f b = record {
      stands = own-stands f b;
      reads = λ w v e. absurd cc;
      departs = λ e. absurd cc;
      settled = λ d e. (free mail.wait idle, outside mail.wait (ap in_collection idle));
    }

  -- ---- an acquire with the token here, which learns nothing

  acquires_here : (o : Option State) → (acquired nodes own now o).knows.time ≡ next_time own time
      → Has number (made ++ closed_record node ∷ []) (next_time own time) (storing own (next_time own time) node.memory) (closed own now)
      → Has number (made ++ closed_record node ∷ []) (next_time own time) (storing own (next_time own time) node.memory) (acquired nodes own now o)
  acquires_here None timed f = f
  acquires_here (Some released) timed f =
      let same : joined (closed own now).knows.time released.knows.time ≡ (closed own now).knows.time = timed ∙ sym f.exact.time_is in
      let old : Covers (closed own now).knows.time released.knows.time =
      subst (λ t. Covers t released.knows.time) same (covers-joined_second (closed own now).knows.time released.knows.time) in
      learns_no_pages size nodes (made ++ closed_record node ∷ []) (λ page offset. left number (word_on size page offset)) (next_time own time)
      (storing own (next_time own time) node.memory) (closed own now) released.knows old same f

  -- ---- by itself

  -- a page that is repaired at once
  repairs-then : (next : Next) (word : ℕ) (letters : List Letter) → IsReadyFor node next → AccessesNext next word
      → is_readable (copy_at node.memory (page_at node word)) ≡ false → is_met (need_at node (page_at node word)) ≡ true
      → Then (acting letters (waiting nothing (with_memory (charged node next) (repaired node.memory (need_at node (page_at node word))))))
  repairs-then next word letters r access_is away met =
      let page : ℕ = page_at node word in
      let need : Need = need_at node page in
      let lt : page < pages_in (view_of node) = access-in_range node next word h.known.text r access_is in
      let x : Node = waiting (access need) node in
      let walk : Walk (first_view program count options me among) (view_of x) =
      goes walked (misses page r.idle lt away (access-reaches node next word r access_is)) in
      let b : AtView (view_of x) = at_view program count options me among (view_of x) walk in
      let fits : FitsNeed node.setting.nodes (pages_in (view_of node)) (words_of size) node.memory need =
      All-head (FitsNeed node.setting.nodes (pages_in (view_of node)) (words_of size) node.memory) need [] b.needed.each in
      let copies = h.known.copies in
      let readable : is_readable (copy_at (repaired node.memory need) page) ≡ true = is-mended node.memory need page refl (omega arith) in
      let f : Has number made time (repaired node.memory need) (accessed shape page now) =
      mends nodes collect made (left number) now (view_of x) b h.stored h.stamped h.listed.found (idle_pages r.idle) need fits met
      (new_need size (left number) node.setting.nodes node.memory page) in
      acts_by-as Then letters (waiting nothing (with_memory (charged node next) (repaired node.memory need))) node.course next (next-ready node next r) (λ o.
      accesses-then (charged node next).left (record node.mail { wait = nothing }) (repaired node.memory need) letters refl next word access_is f
      (idle_bases r.idle) readable
      (long_then (waiting nothing (with_memory node (repaired node.memory need))) (goes walk (mends_change need refl met)) page readable))

  pub run-then : (e : Effect) → RunRule node e → Then e
  run-then e (run_hit {next = next} {word = word} r access_is readable) =
      acts_by-as Then [] (charged node next) node.course next (next-ready node next r) (λ o.
      accesses-then (charged node next).left node.mail node.memory [] r.idle next word access_is
      (accesses_pages size nodes collect made (λ page offset. left number (word_on size page offset)) time node.memory now (idle_pages r.idle)
      (page_of word size) readable) (idle_bases r.idle) readable
      (readable-long node.setting.nodes (words_of size) (copy_at node.memory (page_of word size)) readable
      (whole (page_of word size) (copy_at node.memory (page_of word size)) refl)))
  run-then e (run_miss {next = next} {word = word} r access_is away unmet) = λ o. record {
    stands = remains number time (access (need_at node (page_at node word))) node.memory now refl (record {
      pages = idle_pages r.idle;
      bases = idle_bases r.idle;
      needs = All-cons (NeedIsLeft size (left number)) (need_at node (page_at node word)) []
          (new_need size (left number) node.setting.nodes node.memory (page_at node word)) (All-nil (NeedIsLeft size (left number)));
      own = tt;
    });
    reads = λ w v e. absurd cc;
    departs = λ e. absurd cc;
    settled = λ d e. absurd cc;
  }
  run-then e (run_repair {next = next} {word = word} r access_is away met) = repairs-then next word _ r access_is away met
  run-then e (run_acquire lock after r room here) =
      acts_by-as Then [] _ node.course (acquires lock after) (next-ready node (acquires lock after) r) (λ o. record {
        stands = closes_to number node.mail.wait (storing own (next_time own time) node.memory) (next_state nodes collect acts states node (Acquire lock))
            (idles number node.mail.wait r.idle (made ++ closed_record node ∷ []) (next_time own time) (storing own (next_time own time) node.memory)
            (next_state nodes collect acts states node (Acquire lock))
            (acquires_here (released_state acts states lock (length acts)) (o.timed (Acquire lock) refl) (closes r.idle)) (idle_bases r.idle));
        reads = λ w v e. absurd cc;
        departs = λ e. absurd cc;
        settled = λ d e. (free node.mail.wait r.idle, outside node.mail.wait (ap in_collection r.idle));
      })
  run-then e (run_ask lock after r room away) = λ o. record {
    stands = closes_to number (grant lock) (storing own (next_time own time) node.memory) now (record {
      pages = closes r.idle;
      bases = idle_bases r.idle;
      needs = All-nil (NeedIsLeft size (left number));
      own = tt;
    });
    reads = λ w v e. absurd cc;
    departs = λ e. absurd cc;
    settled = λ d e. absurd cc;
  }
  run-then e (run_release lock after r room) =
      acts_by-as Then _ _ node.course (releases lock after) (next-ready node (releases lock after) r) (λ o. record {
        stands = closes_to number node.mail.wait (storing own (next_time own time) node.memory) (closed own now)
            (idles number node.mail.wait r.idle (made ++ closed_record node ∷ []) (next_time own time) (storing own (next_time own time) node.memory)
            (closed own now) (closes r.idle) (idle_bases r.idle));
        reads = λ w v e. absurd cc;
        departs = λ e. absurd cc;
        settled = λ d e. (free node.mail.wait r.idle, outside node.mail.wait (ap in_collection r.idle));
      })
  run-then e (run_barrier after r room) =
      acts_by-as Then _ _ node.course (arrives after) (next-ready node (arrives after) r) (λ o. record {
        stands = closes_to number departure (storing own (next_time own time) node.memory) (closed own now) (record {
          pages = closes r.idle;
          bases = idle_bases r.idle;
          needs = All-nil (NeedIsLeft size (left number));
          own = tt;
        });
        reads = λ w v e. absurd cc;
        departs = λ e. absurd cc;
        settled = λ d e. ((λ shape all state. refl), outside departure refl);
      })
  run-then e (run_other {next = next} r is_own) =
      acts_by-as Then [] (charged node next) node.course next (next-ready node next r) (λ o.
      own-then (charged node next).left node.mail node.memory [] r.idle next is_own (idle_pages r.idle) (idle_bases r.idle))

  -- ---- with a message

  -- a message that changes nothing here
  rests : (x : Node) (letters : List Letter) → x.memory ≡ node.memory → x.locks.time ≡ time → x.mail.wait ≡ node.mail.wait
      → Effected nodes collect acts states made node (sends letters x)
  rests x letters memory_is time_is wait_is = record {
    stands = remains number x.locks.time x.mail.wait x.memory now (ap (λ t. entry t own) time_is)
        (subst (λ w. Standing number made x.locks.time w x.memory now) (sym wait_is)
        (subst (λ t. Standing number made t node.mail.wait x.memory now) (sym time_is)
        (subst (λ memory. Standing number made time node.mail.wait memory now) (sym memory_is) h.stands)));
    reads = λ w v e. absurd cc;
    departs = λ e. absurd cc;
    settled = λ d e. absurd cc;
  }

  -- who waits so has no page that is written
  quiet_at : (w : Wait) → node.mail.wait ≡ w → IsQuiet w node.memory
  quiet_at w at = subst (λ w. IsQuiet w node.memory) at h.known.quiet

  fixed : (w : Wait) → node.mail.wait ≡ w → FixesNext w (next_in node.course)
  fixed w at = subst (λ w. FixesNext w (next_in node.course)) at h.known.fits

  holds_all : KnowsMade size made all
  holds_all =
      all_made size nodes made h.stamped (arrived number) (λ n s is. let it = found_state states _ (length acts) s is in h.holds it.0 s it.1) nodes

  -- a store that has what is known of a barrier's arrives
  stores_all : (t : List ℕ) (memory : Memory) → Stored made t memory.collected memory.store → all.time ≡ t
      → StoresWhatIsKnown size nodes made memory.collected all memory.store
  stores_all t memory stored e = record {
    exactly = holds_all.exactly;
    reach = holds_all.reach;
    among = h.listed.among;
    just = λ i.
        subst
        (λ t. Contains (intervals_of memory.store) i
        ↔ (Contains (map interval_of made) i × (entry memory.collected i.node < index_of i) × (index_of i ≤ entry t i.node)))
        (sym e) (stored.just i);
  }

  -- what a collection leaves that is under way
  later_is : collects shape (arrived number) ≡ true → left (suc number) ≡ left_after shape now.dropped all (arrived number) (left number)
  later_is e =
      left_then shape arrived number true e ∙ ap (λ gone. left_after shape gone all (arrived number) (left number)) (sym h.dropped)

  -- ---- replies

  module _ (from : ℕ) (message : Message) (tells : Tells nodes collect acts states node message) where
    abbrev start : View
    start = first_view program count options me among

    -- a node that has noted what came
    gets : (message : Message) → ((m : PageReplyRecord) → message ≡ PageReply m → IsLeft size (left number) m.page m.values)
        → (memory : Memory) (change : Need → Need) → Brings node from message memory change → (w : Wait) → node.mail.wait ≡ w
        → (Standing number made time (with_needs change w) memory now)
        × (Walk start (view_of (waiting (with_needs change w) (with_memory node memory))))
    gets _ sent _ _ (brings_changes m lt all_fit some) w at = (
      noted size nodes collect made (left number) (left (suc number)) all own time (changes_came m.page from) w node.memory
          (record node.memory { store = fold (with_part from m.page) node.memory.store m.parts }) now
          (λ s f. record {
            exact = record { time_is = f.exact.time_is; copies = f.exact.copies; written = f.exact.written; knows = f.exact.knows };
            dropped_is = f.dropped_is;
            pages = f.pages;
          }) refl (changed_needs size (left number) m.page from w (stands_at w at).needs) (stands_at w at),
      subst (λ w. Walk start (view_of (waiting (with_needs (changes_came m.page from) w)
          (with_memory node (record node.memory { store = fold (with_part from m.page) node.memory.store m.parts }))))) at
          (goes walked (gets_changes from m (reply_in node from m lt all_fit some))),
    )
    gets _ sent _ _ (brings_base_copy m lt long some) w at = (
      noted size nodes collect made (left number) (left (suc number)) all own time (page_came m.page m.values) w node.memory node.memory now (λ s f. f) refl
          (sent_needs size (left number) m.page m.values w (sent m refl) (stands_at w at).needs) (stands_at w at),
      subst (λ w. Walk start (view_of (waiting (with_needs (page_came m.page m.values) w) node))) at
          (goes walked (gets_page from m.page m.values (record { in_range = lt; whole = long; asked = some }))),
    )

    -- the last reply at a miss
    module _ (memory : Memory) (change : Need → Need) (need : Need) (b : Brings node from message memory change)
        (at : node.mail.wait ≡ access need) (met : is_met (change need) ≡ true) where
      came : Brought node.memory memory change
      came = brought node from message memory change b

      abbrev then_need : Need
      then_need = change need

      abbrev y : Node
      y = waiting (access then_need) (with_memory node memory)

      got : Standing number made time (access then_need) memory now
      got = (gets message tells.sent memory change b (access need) at).0

      walks : Walk start (view_of y)
      walks = (gets message tells.sent memory change b (access need) at).1

      at_y : AtView (view_of y)
      at_y = at_view program count options me among (view_of y) walks

      abbrev Fits : Need → Type 0
      Fits need = FitsNeed node.setting.nodes (pages_in (view_of node)) (words_of size) memory need

      fits : Fits then_need
      fits = All-head Fits then_need [] at_y.needed.each

      readable_then : is_readable (copy_at (repaired memory then_need) need.page) ≡ true
      readable_then =
          let lt = fits.in_range in
          let long = at_y.ranged.memory.copies in
          let same : then_need.page ≡ need.page = came.page need in
          is-mended memory then_need need.page same (subst (λ p. p < length memory.copies) same (omega arith))

      mended_then : Stored made time memory.collected memory.store
          → Has number made time (repaired memory then_need) (accessed shape need.page now)
      mended_then stored =
          subst (λ page. Has number made time (repaired memory then_need) (accessed shape page now)) (came.page need)
          (mends nodes collect made (left number) now (view_of y) at_y stored h.stamped h.listed.found got.pages then_need fits met
          (All-head (NeedIsLeft size (left number)) then_need [] got.needs))

      -- the access that is made then
      access-then : (c : Option Next) → page_next size c ≡ Some need.page → (next : Next) × (word : ℕ) × AccessesNext next word × (c ≡ Some next)
          × (page_of word size ≡ need.page)
      access-then (Some (reads word after)) e = (reads word after, word, access_read word after, refl, same_Some (page_of word size) need.page e)
      access-then (Some (writes word value after)) e =
          (writes word value after, word, access_write word value after, refl, same_Some (page_of word size) need.page e)
      access-then (Some (quiet after)) e = absurd cc
      access-then (Some (prints value after)) e = absurd cc
      access-then (Some (acquires lock after)) e = absurd cc
      access-then (Some (releases lock after)) e = absurd cc
      access-then (Some (arrives after)) e = absurd cc
      access-then (Some (departs after)) e = absurd cc
      access-then (Some (traps cause)) e = absurd cc
      access-then (Some ends) e = absurd cc
      access-then None e = absurd cc

      -- the store is that of the effect
      stored_as : (next : Next) (word : ℕ) → AccessesNext next word
          → Elsewhere nodes collect acts states made node (makes [] (waiting nothing (with_memory node (repaired memory then_need))) next)
          → Stored made time memory.collected memory.store
      stored_as _ _ (access_read word after) o =
          subst (λ all. Stored all time memory.collected memory.store)
          (sym (none_closed time refl)) o.stored
      stored_as _ _ (access_write word value after) o =
          subst (λ all. Stored all time memory.collected memory.store)
          (sym (none_closed time refl)) o.stored

      last_reply-then : Then (acting [] (waiting nothing (with_memory node (repaired memory then_need))))
      last_reply-then =
          let it = access-then (next_in node.course) (subst (ReachesFor size (next_in node.course)) at h.known.reaching) in
          let next : Next = it.0 in
          let word : ℕ = it.1 in
          let access_is : AccessesNext next word = it.2 in
          let page_is : page_of word size ≡ need.page = it.4 in
          let readable : is_readable (copy_at (repaired memory then_need) (page_of word size)) ≡ true =
          subst (λ page. is_readable (copy_at (repaired memory then_need) page) ≡ true) (sym page_is) readable_then in
          acts_by-as Then [] (waiting nothing (with_memory node (repaired memory then_need))) node.course next it.3 (λ o.
          accesses-then node.left (record node.mail { wait = nothing }) (repaired memory then_need) [] refl next word access_is
          (subst (λ page. Has number made time (repaired memory then_need) (accessed shape page now)) (sym page_is) (mended_then (stored_as next word access_is o)))
          got.bases readable
          (long_then (waiting nothing (with_memory node (repaired memory then_need))) (goes walks (mends_change then_need refl met)) (page_of word size) readable))

    -- ---- collections

    -- a node in a collection to which all has come
    cleans-then : (locks : Locks) (mail : Mail) (memory : Memory) → Walk start (view_of (record node { locks = locks; mail = mail; memory = memory }))
        → (collection : Collection) (needs : List Need) → (w : mail.wait ≡ upkeep collection needs) → (met : list_all is_met needs ≡ true)
        → Stored made locks.time memory.collected memory.store → all.time ≡ locks.time → collects shape (arrived number) ≡ true
        → arrived number own ≡ Some now → Standing number made locks.time (upkeep collection needs) memory now
        → Standing number made locks.time (discard collection) (clean_memory needs collection.kept memory) now
    cleans-then locks mail memory walk collection needs w met stored time_is collecting here f =
        let v : View = view_of (record node { locks = locks; mail = mail; memory = memory }) in
        let b : AtView (record v { wait = discard collection; memory = clean_memory needs collection.kept memory }) =
        at_view program count options me among (record v { wait = discard collection; memory = clean_memory needs collection.kept memory })
        (goes walk (cleans_change collection needs w met)) in
        cleans_so nodes collect made (left number) (left (suc number)) all (arrived number) now v (at_view program count options me among v walk) collection
        needs w met b stored h.stamped h.listed.found time_is (stores_all locks.time memory stored time_is) own_among here (later_is collecting) f

    -- a departure that collects
    module _ (m : DepartRecord) (d : IsDepartureDue node from m) (told : AllMade (map interval_of made) m.intervals) where
      come : News (view_of node) m.time m.intervals
      come = news node m.time m.intervals d.learnable

      none_written : NoneWritten node.memory
      none_written = quiet_at departure d.awaited

      begins-change : First (comes_from from (Depart_message m)) (view_of node) (view_of (waiting (upkeep (collection_at node m) (upkeep_at node m)) (keeping node m)))
      begins-change =
          begins m.time m.intervals d.awaited d.above come (record { from = from; message = Depart_message m; came_is = refl; told = refl })

      walk-begun : Walk start (view_of (waiting (upkeep (collection_at node m) (upkeep_at node m)) (keeping node m)))
      walk-begun = first-walk (comes_from from (Depart_message m)) start (view_of node) _ begins-change walked

      learned-pages : (all.time ≡ joined time m.time)
          → Has number made (joined time m.time) (learned time m.intervals node.memory) (with_learned nodes all now)
      learned-pages e =
          learns-then nodes made node h.count h.listed h.stamped a (λ page offset. left number (word_on size page offset)) m.time m.intervals come told none_written
          now all holds_all (stands_at departure d.awaited).pages
          (ap (λ t. joined t all.time) (stands_at departure d.awaited).pages.exact.time_is ∙ ap (joined time) (e ∙ sym its_time))
        where
          its_time : m.time ≡ joined time m.time
          its_time = (at_view program count options me among _ walk-begun).ranged.present

      -- the node is the keeper of what it keeps
      keeps-own : Stored made (joined time m.time) node.memory.collected (learned time m.intervals node.memory).store → all.time ≡ joined time m.time
          → (page : ℕ) → is_among (kept_pages own (keeping node m).memory) page ≡ true → keeper_of nodes now.dropped all page ≡ own
      keeps-own stored e page is =
          let before : Memory = learned time m.intervals node.memory in
          let after : Memory = with_keepers before in
          let parts : Contains (range_with_len 0 (length after.keepers)) page
          × ((is_named (intervals_of after.store) page && (keeper_at after page == own)) ≡ true) =
          (filter-Contains (λ page. is_named (intervals_of after.store) page && (keeper_at after page == own)) (range_with_len 0 (length after.keepers)) page).0
          (among-in (kept_pages own after) page is) in
          let both = and_parts (is_named (intervals_of after.store) page) (keeper_at after page == own) parts.1 in
          let in_range = (from_range 0 (length after.keepers) page parts.0).1 in
          let long = length-placed (λ (place : ℕ × ℕ). unwrap_or (least (namers_of before.store place.0)) place.1) before.keepers in
          ap (λ gone. keeper_of nodes gone all page) (stands_at departure d.awaited).pages.dropped_is
          ∙ sym (named-keeper size nodes made node.memory.collected all before page (stores_all (joined time m.time) before stored e) (omega arith) both.0)
          ∙ eqb-true (keeper_at after page) own both.1

      begun : Stored made (joined time m.time) node.memory.collected (keeping node m).memory.store → all.time ≡ joined time m.time
          → Standing number made (joined time m.time) (upkeep (collection_at node m) (upkeep_at node m)) (keeping node m).memory now
      begun stored e =
          let f = learned-pages e in
          record {
            pages = record {
              exact = record { time_is = f.exact.time_is; copies = f.exact.copies; written = f.exact.written; knows = f.exact.knows };
              dropped_is = f.dropped_is;
              pages = f.pages;
            };
            bases = (stands_at departure d.awaited).bases;
            needs = new_needs size (left number) node.setting.nodes (keeping node m).memory
                (filter (λ page. not (is_readable (copy_at (keeping node m).memory page))) (collection_at node m).kept);
            own = keeps-own stored e;
          }

      unclosed : Stored (made ++ closed_to (joined time m.time)) (joined time m.time) node.memory.collected (keeping node m).memory.store
          → Stored made (joined time m.time) node.memory.collected (keeping node m).memory.store
      unclosed stored =
          subst (λ all. Stored all (joined time m.time) node.memory.collected (keeping node m).memory.store)
          (sym (none_closed (joined time m.time)
          (own_entry nodes made node h.count h.listed h.stamped a (λ page offset. left number (word_on size page offset)) m.time m.intervals come told none_written)))
          stored

      same_own : entry (joined time m.time) own ≡ entry time own
      same_own = own_entry nodes made node h.count h.listed h.stamped a (λ page offset. left number (word_on size page offset)) m.time m.intervals come told none_written

  -- ---- each message

  pub take-then : (from : ℕ) (message : Message) (e : Effect) → Tells nodes collect acts states node message
      → AllMade (map interval_of made) (news_in message) → TakeRule node from message e → Then e
  take-then from message e tells told (take_request m lt counted mine) = λ o. rests _ _ refl refl refl
  take-then from message e tells told (take_forward m lt asker counted managed accepted) = λ o. rests _ _ refl refl refl
  take-then from message e tells told (take_token m lt at learnable) =
      let next = lock_next (next_in node.course) m.lock (fixed (grant m.lock) at) in
      let come : News (view_of node) m.time m.intervals = news node m.time m.intervals learnable in
      let quiet : NoneWritten node.memory = quiet_at (grant m.lock) at in
      acts_by-as Then [] _ node.course (acquires m.lock next.0) next.1 (λ o. record {
        stands = remains number (joined time m.time) nothing (learned time m.intervals node.memory) (next_state nodes collect acts states node (Acquire m.lock))
            (own_entry nodes made node h.count h.listed h.stamped a (λ page offset. left number (word_on size page offset)) m.time m.intervals come told quiet)
            (record {
              pages = grants-then nodes made node h.count h.listed h.stamped a (λ page offset. left number (word_on size page offset)) m.time m.intervals come told
                  quiet now (released_state acts states m.lock (length acts))
                  (λ s is. let it = found_state states _ (length acts) s is in h.holds it.0 s it.1)
                  (stands_at (grant m.lock) at).pages (o.timed (Acquire m.lock) refl);
              bases = (stands_at (grant m.lock) at).bases;
              needs = All-nil (NeedIsLeft size (left number));
              own = tt;
            });
        reads = λ w v e. absurd cc;
        departs = λ e. absurd cc;
        settled = λ d e. ((λ shape all state. refl), outside nothing refl);
      })
  take-then from message e tells told (take_arrive m before after at learnable is) = λ o. rests _ _ refl refl refl
  take-then from message e tells told (take_last_arrive m before after departures at learnable is) = λ o. rests _ _ refl refl refl
  take-then from message e tells told (take_depart m d c) =
      let next = departure_next (next_in node.course) (fixed departure d.awaited) in
      let come : News (view_of node) m.time m.intervals = news node m.time m.intervals d.learnable in
      let quiet : NoneWritten node.memory = quiet_at departure d.awaited in
      let none : collects shape (arrived number) ≡ false = sym (tells.told m refl) ∙ c in
      let so : departed shape now (arrived number) ≡ with_learned nodes all now = departs_so shape now (arrived number) false none in
      let stays_left : left (suc number) ≡ left number = left_then shape arrived number false none in
      acts_by-as Then [] _ node.course (departs next.0) next.1 (λ o. record {
        stands = remains (suc number) (joined time m.time) nothing (learned time m.intervals node.memory) (departed shape now (arrived number))
            (own_entry nodes made node h.count h.listed h.stamped a (λ page offset. left number (word_on size page offset)) m.time m.intervals come told quiet)
            (record {
              pages = subst (λ (f : ℕ → ℕ). HasPages size made (λ page offset. f (word_on size page offset)) (joined time m.time)
                  (learned time m.intervals node.memory) (departed shape now (arrived number))) (sym stays_left)
                  (subst (Has number made (joined time m.time) (learned time m.intervals node.memory)) (sym so)
                  (learns-then nodes made node h.count h.listed h.stamped a (λ page offset. left number (word_on size page offset)) m.time m.intervals come told
                  quiet now all holds_all (stands_at departure d.awaited).pages
                  (ap (λ (s : State). s.knows.time) (sym so) ∙ o.timed Departs refl)));
              bases = λ page values e.
                  subst (λ (f : ℕ → ℕ). IsLeft size f page values) (sym stays_left) ((stands_at departure d.awaited).bases page values e);
              needs = All-nil (NeedIsLeft size (left (suc number)));
              own = tt;
            });
        reads = λ w v e. absurd cc;
        departs = λ e. ap is_inside d.awaited;
        settled = λ d e. ((λ shape all state. refl), outside nothing refl);
      })
  take-then from message e tells told (take_collect m d c unmet) = λ o. record {
    stands = remains number (joined time m.time) (upkeep (collection_at node m) (upkeep_at node m)) (keeping node m).memory now (same_own from _ tells m d told)
        (begun from _ tells m d told (unclosed from _ tells m d told o.stored) (o.collecting refl refl));
    reads = λ w v e. absurd cc;
    departs = λ e. absurd cc;
    settled = λ d e. absurd cc;
  }
  take-then from message e tells told (take_collect_at_once m d c met) = λ o.
      let rest : SameRest (keeping node m).memory (clean_memory (upkeep_at node m) (collection_at node m).kept (keeping node m).memory) =
      clean-same (upkeep_at node m) (collection_at node m).kept (keeping node m).memory in
      let stored : Stored made (joined time m.time) node.memory.collected (keeping node m).memory.store =
      unclosed from _ tells m d told
      (subst (λ gone. Stored (made ++ closed_to (joined time m.time)) (joined time m.time) gone (keeping node m).memory.store) rest.collected
      (subst (λ store. Stored (made ++ closed_to (joined time m.time)) (joined time m.time)
      (clean_memory (upkeep_at node m) (collection_at node m).kept (keeping node m).memory).collected store) rest.store o.stored)) in
      record {
        stands = remains number (joined time m.time) (discard (collection_at node m))
            (clean_memory (upkeep_at node m) (collection_at node m).kept (keeping node m).memory) now (same_own from _ tells m d told)
            (cleans-then from message tells (keeping node m).locks (record node.mail { wait = upkeep (collection_at node m) (upkeep_at node m) })
            (keeping node m).memory (walk-begun from _ tells m d told) (collection_at node m) (upkeep_at node m) refl met stored (o.collecting refl refl)
            (sym (tells.told m refl) ∙ c) (h.inside (ap is_inside d.awaited))
            (begun from _ tells m d told stored (o.collecting refl refl)));
        reads = λ w v e. absurd cc;
        departs = λ e. absurd cc;
        settled = λ d e. absurd cc;
      }
  take-then from message e tells told (take_reply {memory = memory} {change = change} need b at unmet) = λ o. record {
    stands = remains number time (access (change need)) memory now refl (gets from message tells message tells.sent memory change b (access need) at).0;
    reads = λ w v e. absurd cc;
    departs = λ e. absurd cc;
    settled = λ d e. absurd cc;
  }
  take-then from message e tells told (take_last_reply {memory = memory} {change = change} need b at met) =
      last_reply-then from message tells memory change need b at met
  take-then from message e tells told (take_kept_reply {memory = memory} {change = change} collection needs b at unmet) = λ o. record {
    stands = remains number time (upkeep collection (map change needs)) memory now refl
        (gets from message tells message tells.sent memory change b (upkeep collection needs) at).0;
    reads = λ w v e. absurd cc;
    departs = λ e. absurd cc;
    settled = λ d e. absurd cc;
  }
  take-then from message e tells told (take_last_kept_reply {memory = memory} {change = change} collection needs b at met) = λ o.
      let got = gets from message tells message tells.sent memory change b (upkeep collection needs) at in
      let then_needs : List Need = map change needs in
      let rest : SameRest memory (clean_memory then_needs collection.kept memory) = clean-same then_needs collection.kept memory in
      let stored : Stored made time memory.collected memory.store =
      subst (λ all. Stored all time memory.collected memory.store) (sym (none_closed time refl))
      (subst (λ gone. Stored (made ++ closed_to time) time gone memory.store) rest.collected
      (subst (λ store. Stored (made ++ closed_to time) time (clean_memory then_needs collection.kept memory).collected store) rest.store o.stored)) in
      let c = h.collecting (ap in_collection at) in
      record {
        stands = remains number time (discard collection) (clean_memory then_needs collection.kept memory) now refl
            (cleans-then from message tells node.locks (record node.mail { wait = upkeep collection then_needs }) memory got.1 collection then_needs refl met
            stored c.1 c.0 (h.inside (ap is_inside at)) got.0);
        reads = λ w v e. absurd cc;
        departs = λ e. absurd cc;
        settled = λ d e. absurd cc;
      }
  take-then from message e tells told (take_clean episode before after at is) = λ o. rests _ _ refl refl refl
  take-then from message e tells told (take_last_clean episode over before after at is) = λ o. rests _ _ refl refl refl
  take-then from message e tells told (take_discard episode collection by_manager at is) =
      let next = departure_next (next_in node.course) (fixed (discard collection) at) in
      let c = h.collecting (ap in_collection at) in
      let so : departed shape now (arrived number) ≡ collected shape all (arrived number) (with_learned nodes all now) =
      departs_so shape now (arrived number) true c.0 in
      acts_by-as Then [] _ node.course (departs next.0) next.1 (λ o. record {
        stands = remains (suc number) time nothing (after_collection own collection.time node.memory) (departed shape now (arrived number)) refl
            (subst (λ s. Standing (suc number) made time nothing (after_collection own collection.time node.memory) s) (sym so)
            (discards_so nodes collect made (left number) (left (suc number)) all (arrived number) now (view_of node) a collection at c.1
            (stores_all time node.memory h.stored c.1) own_among (h.inside (ap is_inside at)) (later_is c.0) (stands_at (discard collection) at)
            (left (suc (suc number))) (all_at nodes acts states (suc number))));
        reads = λ w v e. absurd cc;
        departs = λ e. ap is_inside at;
        settled = λ d e. ((λ shape all state. refl), outside nothing refl);
      })
  take-then from message e tells told (take_changes_request m lt all_there) = λ o. rests _ _ refl refl refl
  take-then from message e tells told (take_page_request page values lt other at) = λ o. rests _ _ refl refl refl

-- What holds of a fresh node and is kept by every change holds of each node that is reached.
use Rattle.std.proofs.Common.{◌≡◌, ℕ, zero, suc, ◌+◌, ◌-◌, ◌<◌, ◌≤◌, List, [], Bool, true, false, length}
use Rattle.std.proofs.Common.{refl, sym, ap, subst, ◌∙◌, ◌⊎◌, inl, inr, ⊎_elim, arith}
use Rattle.std.specs.Prelude.{All, map, is_none, slice_index_or, replicate}
use Rattle.std.specs.List.{range_with_len}
use Rattle.std.proofs.lemmas.List.{length-replicate, length-set}
use Rattle.std.proofs.lemmas.List.FromFn.{length-range_with_len}
use Rattle.std.proofs.lemmas.List.Elements.{All-nil, All-replicate, All-weaker, All-filter}
use Rattle.lrc_program.specs.declared.Program.{Program}
use Rattle.lrc_time.specs.Time.{entry, zeros}
use Rattle.lrc_time.proofs.Times.{length-zeros, covers-refl}
use Rattle.lrc_page.specs.Page.{zero_page, words_of}
use Rattle.lrc_page.specs.Place.{pages_of}
use Rattle.lrc_store.specs.Interval.{IntervalRecord}
use Rattle.lrc_store.specs.Store.{IsStore}
use Rattle.lrc_protocol.specs.Times.{indices_by, next_time}
use Rattle.lrc_protocol.specs.Pages.{fresh_memory, indices_of, unknown_of, missing_at, Copy, valid, absent, Asked, Need, copy_at, is_met, Memory}
use Rattle.lrc_protocol.specs.Node.{Node, OptionsRecord, going, Wait, nothing, grant, departure, access, upkeep, discard, needs_of}
use Rattle.lrc_protocol.specs.Turn.{is_learnable, expects_changes_reply}
use Rattle.lrc_node_laws.specs.Ranges.{InRange}
use Rattle.lrc_node_laws.specs.Reached.{IsReached}
use Rattle.lrc_node_laws.specs.Stored.{StoresExactly}
use Rattle.lrc_node_laws.proofs.Change.{View, News, news, Reply, reply, view_of, pages_in, Walk, stands, goes}
use Rattle.lrc_node_laws.proofs.Reach.{first_view}
use Rattle.lrc_node_laws.proofs.Tokened.{come_to, is_set}
use Rattle.lrc_exec.specs.Meaning.{Setting, Thread, Next, quiet, prints, reads, writes, acquires, releases, arrives, departs, traps, ends}
use Rattle.lrc_exec.specs.Plain.{setting_of}
use Rattle.lrc_order_laws.specs.Waiting.{is_departing, is_access, acquiring, FixesNext}
use Rattle.lrc_protocol.specs.Node.{next_in}
use Rattle.lrc_order_laws.specs.Counts.{is_inside}
use Rattle.std.specs.Prelude.{Option, Some, None, ◌==◌}
use Rattle.lrc_order_laws.proofs.Waiting.{departs_arrived}
use Rattle.lrc_order_laws.proofs.TextHolds.{IsText, TextIs}
use Rattle.lrc_node_laws.proofs.Acted.{Known}
use Rattle.lrc_node_laws.proofs.Ranges.{Ranged, ranged-kept}
use Rattle.lrc_node_laws.specs.Waits.{IsQuiet}
use Rattle.lrc_page.specs.declared.changes.Change.{Change}
use Rattle.lrc_store.specs.Store.{notice_at, unread}
use Rattle.lrc_envelope.specs.Records.{IndexedChangesRecord, ChangesReplyRecord}
use Rattle.lrc_node_laws.specs.Needs.{FitsNeed, ReachesFor}
use Rattle.lrc_node_laws.proofs.Needed.{Needed, needed-kept}
use Rattle.lrc_node_laws.proofs.Reaches.{reaches-kept}
use Rattle.lrc_node_laws.proofs.Replies.{asked-exactly}
use Rattle.lrc_node_laws.proofs.Awaited.{All-unmap, asked-unread}
use Rattle.lrc_page.specs.declared.size.Size.{Size}
use Rattle.lrc_node_laws.specs.Ranges.{IsWholeCopy, IsWholeBase}
use Rattle.lrc_node_laws.proofs.Whole.{Whole, whole-kept}
use Rattle.lrc_store.specs.declared.key.Key.{Key}
use Rattle.lrc_store.specs.Store.{StoredRecord, changes_at}
use Rattle.lrc_node_laws.specs.Own.{IsAttached, OwnAttached, OwnCopied}
use Rattle.lrc_node_laws.proofs.Own.{attached-kept}
use Rattle.lrc_node_laws.proofs.OwnCopies.{own-kept, lacking-other}
use Rattle.lrc_node_laws.proofs.OwnAsked.{makers-other}
use Rattle.lrc_node_laws.specs.Remembered.{IsBetween}
use Rattle.lrc_node_laws.proofs.Remembered.{Between, between-kept}
use Rattle.lrc_node_laws.proofs.MetNeeds.{met-known}
use Rattle.lrc_node_laws.specs.Sized.{IsSized}
use Rattle.lrc_node_laws.proofs.Sized.{AllSized, sized-kept}
use Rattle.lrc_node_laws.proofs.Quiet.{quiet-kept}
use Rattle.lrc_node_laws.proofs.Mailed.{Mailed, mailed-kept, first-manager}
use Rattle.lrc_node_laws.proofs.Exact.{exact-kept, is_store, own-entry, next-indices}

-- copies that are all valid
pub slice_index_or-replicate : (n : ℕ) (copy : Copy) (page : ℕ) → (slice_index_or (replicate n copy) page absent ≡ copy) ⊎
    (slice_index_or (replicate n copy) page absent ≡ absent)
slice_index_or-replicate zero copy page = inr refl
slice_index_or-replicate (suc n) copy zero = inl refl
slice_index_or-replicate (suc n) copy (suc page) = slice_index_or-replicate n copy page

fresh-between : (time : List ℕ) (memory : Memory) (page : ℕ) (values : List ℕ) → (copy_at memory page ≡ valid values) ⊎ (copy_at memory page ≡ absent)
    → IsBetween time memory page (copy_at memory page)
fresh-between time memory page values e =
    ⊎_elim (λ v. subst (IsBetween time memory page) (sym v) tt) (λ a. subst (IsBetween time memory page) (sym a) tt) e

module _ (program : Program) (nodes : ℕ) (options : OptionsRecord) (me : ℕ) (among : me < nodes) where
  abbrev From : View → Type 0
  From v = Walk (first_view program nodes options me among) v

  ranged-first : Ranged (first_view program nodes options me among)
  ranged-first =
      let pages : ℕ = pages_of program.words options.size in
      record {
        me = among;
        time = length-zeros nodes;
        present = tt;
        memory = record {
          copies = length-replicate pages _;
          bases = length-replicate pages _;
          keepers = length-replicate pages _;
          keeping = All-replicate (λ keeper. keeper < nodes) pages 0 (omega (arith, among));
          collected = length-zeros nodes;
          store_pages = refl;
          store_nodes = length-zeros nodes;
          intervals = All-nil (InRange nodes pages);
        };
      }

  pub ranged : (v : View) → From v → Ranged v
  ranged _ stands = ranged-first
  ranged _ (goes {v = v} {after = after} w c) = ranged-kept v after c (ranged v w)

  exact-first : StoresExactly (zeros nodes) (fresh_memory nodes (pages_of program.words options.size) options.size)
  exact-first = record {
    last = refl;
    below = covers-refl (zeros nodes);
    stored = λ q.
        let none : 0 ≡ entry (zeros nodes) q - entry (zeros nodes) q = omega arith in
        ap (range_with_len (entry (zeros nodes) q + 1)) none;
  }

  pub exact : (v : View) → From v → StoresExactly v.time v.memory
  exact _ stands = exact-first
  exact _ (goes {v = v} {after = after} w c) = exact-kept v after c (ranged v w) (exact v w)

  pub all_quiet : (v : View) → From v → IsQuiet v.wait v.memory
  all_quiet _ stands = tt
  all_quiet _ (goes {v = v} {after = after} w c) = quiet-kept v after c (all_quiet v w)

  pub mailed : (v : View) → From v → Mailed v
  mailed _ stands = record { taken = length-replicate nodes []; manager = first-manager me nodes }
  mailed _ (goes {v = v} {after = after} w c) = mailed-kept v after c (mailed v w)

  pub needed : (v : View) → From v → Needed v
  needed _ stands = record {
    each = All-nil (FitsNeed nodes (pages_of program.words options.size) (words_of options.size)
        (fresh_memory nodes (pages_of program.words options.size) options.size));
    apart = tt;
    kept = tt;
  }
  needed _ (goes {v = v} {after = after} w c) = needed-kept v after c (ranged v w) (exact v w) (needed v w)

  pub reaching : (v : View) → From v → ReachesFor v.size (next_in v.course) v.wait
  reaching _ stands = tt
  reaching _ (goes {v = v} {after = after} w c) = reaches-kept v after c (reaching v w)

  whole-first : (size : Size) (pages : ℕ) → Whole nodes (words_of size) (fresh_memory nodes pages size)
  unfolding zero_page
  whole-first size pages = record {
    copies = All-replicate (IsWholeCopy nodes (words_of size)) pages (valid (zero_page size)) (length-replicate (words_of size) 0);
    bases = All-replicate (IsWholeBase (words_of size)) pages None tt;
  }

  pub whole : (v : View) → From v → Whole v.setting.nodes (words_of v.size) v.memory
  whole _ stands = whole-first options.size (pages_of program.words options.size)
  whole _ (goes {v = v} {after = after} w c) = whole-kept v after c (ranged v w) (needed v w) (whole v w)

  pub attached_own : (v : View) → From v → OwnAttached v.setting.me v.memory
  attached_own _ stands = All-nil (λ (stored : StoredRecord). stored.node ≡ me → IsAttached stored)
  attached_own _ (goes {v = v} {after = after} w c) = attached-kept v after c (ranged v w) (attached_own v w)

  pub copied_own : (v : View) → From v → OwnCopied v.setting.me v.memory
  copied_own _ stands = λ k d within. absurd (omega (arith, within))
  copied_own _ (goes {v = v} {after = after} w c) = own-kept v after c (ranged v w) (exact v w) (copied_own v w)

  pub between : (v : View) → From v → Between v
  between _ stands = λ page.
      fresh-between (zeros nodes) (fresh_memory nodes (pages_of program.words options.size) options.size) page _
      (slice_index_or-replicate (pages_of program.words options.size) (valid (zero_page options.size)) page)
  between _ (goes {v = v} {after = after} w c) = between-kept v after c (ranged v w) (exact v w) (between v w)

  pub sized : (v : View) → From v → AllSized (words_of v.size) v.memory.store
  sized _ stands = All-nil (IsSized (words_of options.size))
  sized _ (goes {v = v} {after = after} w c) = sized-kept v after c (whole v w) (sized v w)

-- of a node that is reached
pub ranged_at : (node : Node) → IsReached node → Ranged (view_of node)
ranged_at node r = ranged r.program r.nodes r.options r.me r.leads.among (view_of node) (come_to node r).walked

pub exact_at : (node : Node) → IsReached node → StoresExactly node.locks.time node.memory
exact_at node r = exact r.program r.nodes r.options r.me r.leads.among (view_of node) (come_to node r).walked

pub is_store_at : (node : Node) → IsReached node → IsStore node.memory.store
is_store_at node r = is_store node.setting.nodes _ node.locks.time node.memory (ranged_at node r).memory (exact_at node r)

pub own_next : (node : Node) → IsReached node
    → (length (next_time node.setting.me node.locks.time) ≡ length node.memory.store.last)
    × (entry (next_time node.setting.me node.locks.time) node.setting.me ≡ entry node.memory.store.last node.setting.me + 1)
own_next node r =
    let v : Ranged (view_of node) = ranged_at node r in
    let e : StoresExactly node.locks.time node.memory = exact_at node r in (
      length-set node.locks.time node.setting.me _ ∙ ap length (sym e.last),
      own-entry node.setting.nodes (pages_in (view_of node)) node.setting.me node.locks.time node.memory v.me v.time e
          ∙ ap (λ l. entry l node.setting.me + 1) (sym e.last),
    )

pub can_be_added : (node : Node) (time : List ℕ) (intervals : List IntervalRecord) → IsReached node → is_learnable node time intervals ≡ true
    → All (InRange node.setting.nodes (pages_of node.setting.words node.options.size)) intervals
    × ((q : ℕ) → indices_by intervals q ≡ range_with_len (entry node.memory.store.last q + 1) (length (indices_by intervals q)))
can_be_added node time intervals r e =
    let v : Ranged (view_of node) = ranged_at node r in
    let s : StoresExactly node.locks.time node.memory = exact_at node r in
    let n : News (view_of node) time intervals = news node time intervals e in (
      n.each,
      λ q.
          let next : indices_by intervals q ≡ range_with_len (entry node.locks.time q + 1) (entry time q - entry node.locks.time q) =
          next-indices (view_of node) time intervals n v s q in
          next
          ∙ ap (range_with_len (entry node.locks.time q + 1)) (sym (length-range_with_len (entry node.locks.time q + 1) _) ∙ ap length (sym next))
          ∙ ap (λ l. range_with_len (entry l q + 1) (length (indices_by intervals q))) (sym s.last),
    )

pub quiet_at : (node : Node) → IsReached node → IsQuiet node.mail.wait node.memory
quiet_at node r = all_quiet r.program r.nodes r.options r.me r.leads.among (view_of node) (come_to node r).walked

pub mailed_at : (node : Node) → IsReached node → Mailed (view_of node)
mailed_at node r = mailed r.program r.nodes r.options r.me r.leads.among (view_of node) (come_to node r).walked

pub sent_at : (node : Node) → IsReached node → length node.mail.sent ≡ node.setting.nodes
sent_at node r = (come_to node r).sent ∙ sym (ap (λ (s : Setting). s.nodes) (is_set node r))

pub early_at : (node : Node) → IsReached node → node.barrier.episode ≤ entry node.locks.time node.setting.me
early_at node r = subst (λ (s : Setting). node.barrier.episode ≤ entry node.locks.time s.me) (sym (is_set node r)) (come_to node r).early

-- who is inside a barrier has arrived at one
pub entered_at : (node : Node) → IsReached node → is_inside node.mail.wait ≤ node.barrier.episode
entered_at node r = (come_to node r).entered

-- ---- of its text

pub text_at : (node : Node) → IsReached node → (thread : Thread) → node.course ≡ going thread → (thread.setting ≡ node.setting) × (length thread.held ≡ 64)
text_at node r thread e =
    let is : IsText (setting_of r.program r.nodes r.me) thread = (come_to node r).tokened.text thread e in
    (is.setting ∙ sym (is_set node r), is.places)

-- a thread of which it is known whether it departs next
pub arrived_at : (node : Node) (thread : Thread) (b : Bool) → node.course ≡ going thread → is_departing (next_in node.course) ≡ b → thread.arrived ≡ b
arrived_at node thread b e d = sym (departs_arrived thread) ∙ ap (λ c. is_departing (next_in c)) (sym e) ∙ d

grant-stays : (lock : ℕ) (next : Option Next) → acquiring next ≡ Some lock → is_departing next ≡ false
grant-stays lock None e = cc
grant-stays lock (Some (quiet after)) e = refl
grant-stays lock (Some (prints value after)) e = refl
grant-stays lock (Some (reads word after)) e = refl
grant-stays lock (Some (writes word value after)) e = refl
grant-stays lock (Some (acquires l after)) e = refl
grant-stays lock (Some (releases l after)) e = refl
grant-stays lock (Some (arrives after)) e = refl
grant-stays lock (Some (departs after)) e = cc
grant-stays lock (Some (traps cause)) e = refl
grant-stays lock (Some ends) e = refl

access-stays : (next : Option Next) → is_access next ≡ true → is_departing next ≡ false
access-stays None e = cc
access-stays (Some (quiet after)) e = refl
access-stays (Some (prints value after)) e = refl
access-stays (Some (reads word after)) e = refl
access-stays (Some (writes word value after)) e = refl
access-stays (Some (acquires l after)) e = refl
access-stays (Some (releases l after)) e = refl
access-stays (Some (arrives after)) e = refl
access-stays (Some (departs after)) e = cc
access-stays (Some (traps cause)) e = refl
access-stays (Some ends) e = refl

-- who is inside a barrier departs next, and nobody else does
departs_inside : (w : Wait) (next : Option Next) → FixesNext w next → is_departing next ≡ (is_inside w == 1)
departs_inside nothing next f = f
departs_inside (grant lock) next f = grant-stays lock next f
departs_inside departure next f = f
departs_inside (access need) next f = access-stays next f
departs_inside (upkeep collection needs) next f = f
departs_inside (discard collection) next f = f

pub inside_at : (node : Node) → IsReached node → (thread : Thread) → node.course ≡ going thread → thread.arrived ≡ (is_inside node.mail.wait == 1)
inside_at node r thread e =
    arrived_at node thread (is_inside node.mail.wait == 1) e (departs_inside node.mail.wait (next_in node.course) (come_to node r).tokened.fits)

-- ---- needs

pub needed_at : (node : Node) → IsReached node → Needed (view_of node)
needed_at node r = needed r.program r.nodes r.options r.me r.leads.among (view_of node) (come_to node r).walked

pub reaching_at : (node : Node) → IsReached node → ReachesFor node.options.size (next_in node.course) node.mail.wait
reaching_at node r = reaching r.program r.nodes r.options r.me r.leads.among (view_of node) (come_to node r).walked

pub awaited_at : (node : Node) → IsReached node → (from : ℕ) (m : ChangesReplyRecord) → expects_changes_reply node from m ≡ true
    → All (λ (part : IndexedChangesRecord). (notice_at node.memory.store (record { node = from; index = part.index; page = m.page }) ≡ Some (unread m.page))
    × All (λ (change : Change). change.offset < words_of node.options.size) part.changes) m.parts
awaited_at node r from m e =
    let it : Reply (view_of node) from m = reply node from m e in
    let P : ℕ → Type 0 = λ index. notice_at node.memory.store (record { node = from; index = index; page = m.page }) ≡ Some (unread m.page) in
    let just : map (λ (part : IndexedChangesRecord). part.index) m.parts ≡ indices_of (unknown_of node.memory.store (missing_at node.memory m.page)) from =
    asked-exactly node.setting.nodes (pages_in (view_of node)) (words_of node.options.size) node.memory (needs_of node.mail.wait) m.page from
    (map (λ (part : IndexedChangesRecord). part.index) m.parts) (needed_at node r).each it.asked in
    let unread_all : All (λ (part : IndexedChangesRecord). P part.index) m.parts =
    All-unmap P (λ (part : IndexedChangesRecord). part.index) m.parts
    (subst (All P) (sym just) (asked-unread node.memory m.page from (is_store_at node r))) in
    λ k d within. (unread_all k d within, it.changes k d within)

pub whole_at : (node : Node) → IsReached node → Whole node.setting.nodes (words_of node.options.size) node.memory
whole_at node r = whole r.program r.nodes r.options r.me r.leads.among (view_of node) (come_to node r).walked

-- ---- own intervals

pub attached_at : (node : Node) → IsReached node → OwnAttached node.setting.me node.memory
attached_at node r = attached_own r.program r.nodes r.options r.me r.leads.among (view_of node) (come_to node r).walked

pub copied_at : (node : Node) → IsReached node → OwnCopied node.setting.me node.memory
copied_at node r = copied_own r.program r.nodes r.options r.me r.leads.among (view_of node) (come_to node r).walked

pub others_lack : (node : Node) → IsReached node → (page : ℕ) → All (λ (key : Key). key.node ≡ node.setting.me → ⊥) (missing_at node.memory page)
others_lack node r page = lacking-other node.setting.me page node.memory (copy_at node.memory page) refl (copied_at node r)

pub others_asked : (node : Node) → IsReached node
    → All (λ (need : Need). All (λ (asked : Asked). (asked.maker < node.setting.nodes) × (asked.maker ≡ node.setting.me → ⊥)) need.asked)
    (needs_of node.mail.wait)
others_asked node r =
    All-weaker (FitsNeed node.setting.nodes (pages_in (view_of node)) (words_of node.options.size) node.memory)
    (λ (need : Need). All (λ (asked : Asked). (asked.maker < node.setting.nodes) × (asked.maker ≡ node.setting.me → ⊥)) need.asked)
    (λ need fits.
    subst (All (λ (asked : Asked). (asked.maker < node.setting.nodes) × (asked.maker ≡ node.setting.me → ⊥))) (sym fits.asked)
    (makers-other node.setting.nodes node.setting.me (unknown_of node.memory.store need.missing)
    (All-filter (λ (key : Key). is_none (changes_at node.memory.store key)) (λ (key : Key). key.node ≡ node.setting.me → ⊥) need.missing
    (subst (All (λ (key : Key). key.node ≡ node.setting.me → ⊥)) (sym fits.missing) (others_lack node r need.page)))))
    (needs_of node.mail.wait) (needed_at node r).each

-- ---- what is remembered, and what is known

pub between_at : (node : Node) → IsReached node → Between (view_of node)
between_at node r = between r.program r.nodes r.options r.me r.leads.among (view_of node) (come_to node r).walked

pub met_at : (node : Node) → IsReached node → (need : Need)
    → FitsNeed node.setting.nodes (pages_of node.setting.words node.options.size) (words_of node.options.size) node.memory need
    → is_met need ≡ true → All (λ (key : Key). is_none (changes_at node.memory.store key) ≡ false) need.missing
met_at node r need f met = met-known node.setting.nodes (pages_in (view_of node)) (words_of node.options.size) node.memory need (ranged_at node r).memory f met

pub sized_at : (node : Node) → IsReached node → AllSized (words_of node.options.size) node.memory.store
sized_at node r = sized r.program r.nodes r.options r.me r.leads.among (view_of node) (come_to node r).walked

-- ---- before a turn

pub known_at : (node : Node) → IsReached node → Known node
known_at node r = record {
  text = subst (λ s. TextIs s node.course) (sym (is_set node r)) (come_to node r).tokened.text;
  fits = (come_to node r).tokened.fits;
  quiet = quiet_at node r;
  copies = (ranged_at node r).memory.copies;
  needs = (needed_at node r).each;
  reaching = reaching_at node r;
}

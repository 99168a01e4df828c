-- A node that awaits changes or a base copy can repair its page once they have come.
use Rattle.std.proofs.Common.{◌≡◌, ℕ, ◌<◌, true, List, [], length, map, fold, refl, sym, ◌∙◌, ap, subst}
use Rattle.std.specs.Prelude.{◌≤◌, Option, Some, None, option_map, All, not, filter, slice_index_or}
use Rattle.std.specs.List.{list_any}
use Rattle.std.proofs.lemmas.Bool.{and_parts}
use Rattle.std.proofs.lemmas.List.Elements.{All-head}
use Rattle.std.proofs.lemmas.Option.{same_Some}
use Rattle.lrc_page.specs.Page.{words_of}
use Rattle.lrc_page.specs.Place.{pages_of}
use Rattle.lrc_exec.specs.Ask.{ask_of}
use Rattle.lrc_exec.specs.Meaning.{Next, quiet, prints, reads, writes, acquires, releases, arrives, departs, traps, ends}
use Rattle.lrc_store.specs.declared.key.Key.{Key}
use Rattle.lrc_envelope.specs.Records.{IndexedChangesRecord, ChangesReplyRecord}
use Rattle.lrc_protocol.specs.Pages.{Copy, absent, is_readable, changes_of, Memory, copy_at, Need, is_due, is_met, changes_came, page_came}
use Rattle.lrc_protocol.specs.Pages.{awaits_page, with_part}
use Rattle.lrc_protocol.specs.Node.{Mail, Wait, nothing, grant, departure, access, upkeep, discard, needs_of, Node, with_memory}
use Rattle.lrc_protocol.specs.Turn.{expects_changes_reply, with_needs}
use Rattle.lrc_protocol.specs.Node.{next_in}
use Rattle.lrc_node_laws.specs.Reached.{IsReached}
use Rattle.lrc_node_laws.specs.Needs.{FitsNeed, FitsKept, page_next, ReachesFor}
use Rattle.lrc_node_laws.specs.Waits.{IsQuiet}
use Rattle.lrc_order_laws.specs.Counts.{is_inside}
use Rattle.lrc_node_laws.proofs.Indices.{Ascends}
use Rattle.lrc_node_laws.proofs.Needs.{same_pages, kept-below}
use Rattle.lrc_node_laws.proofs.Always.{needed_at, reaching_at, ranged_at, is_store_at, quiet_at, entered_at}
use Rattle.lrc_node_laws.proofs.Change.{Reply, reply, view_of}
use Rattle.lrc_node_laws.proofs.Needed.{changed_page, sent_page}
use Rattle.lrc_node_laws.proofs.Replies.{changes-fit, page-fits, asked-exactly}
use Rattle.lrc_node.specs.Effects.{AccessesPage, CanRepair, CanGoOn, with_parts}
use Rattle.lrc_node.proofs.CanRun.{read_within, write_within}
use Rattle.lrc_node.proofs.Misses.{lacking_of_page}
use Rattle.lrc_node.proofs.Keeping.{fits_met, not_true, can_clean}

accesses : (node : Node) → IsReached node → (page : ℕ) (o : Option Next) → next_in node.course ≡ o → page_next node.options.size o ≡ Some page
    → AccessesPage node page (option_map ask_of o)
accesses node r page None at e = tt
accesses node r page (Some (quiet after)) at e = tt
accesses node r page (Some (prints value after)) at e = tt
accesses node r page (Some (reads word after)) at e = (read_within node r node.course word after refl at, same_Some _ _ e)
accesses node r page (Some (writes word value after)) at e = (write_within node r node.course word value after refl at, same_Some _ _ e)
accesses node r page (Some (acquires lock after)) at e = tt
accesses node r page (Some (releases lock after)) at e = tt
accesses node r page (Some (arrives after)) at e = tt
accesses node r page (Some (departs after)) at e = tt
accesses node r page (Some (traps cause)) at e = tt
accesses node r page (Some ends) at e = tt

repairable : (node : Node) → IsReached node → (memory : Memory) (need : Need) → memory.copies ≡ node.memory.copies
    → FitsNeed node.setting.nodes (pages_of node.setting.words node.options.size) (words_of node.options.size) memory need
    → page_next node.options.size (next_in node.course) ≡ Some need.page → is_met need ≡ true → CanRepair (with_memory node memory) need
repairable node r memory need same fits next met = record {
  page = subst (λ n. need.page < n) (sym (ap length same ∙ (ranged_at node r).memory.copies)) fits.in_range;
  fit = fits_met node.options.size node.setting.nodes (copy_at memory need.page) need.base fits.base (not_true (is_due need.base) (and_parts _ _ met).0);
  of_page = subst (All (λ (key : Key). key.page ≡ need.page)) (sym fits.missing) (lacking_of_page memory need.page);
  next = accesses node r need.page (next_in node.course) refl next;
}

-- what a node that waits has, besides needs that fit its memory
record Waits (node : Node) (wait : Wait) : Type 0 where
  next : ReachesFor node.options.size (next_in node.course) wait
  quiet : IsQuiet wait node.memory
  apart : Ascends (map (λ (need : Need). need.page) (needs_of wait))
  kept : FitsKept node.setting.me node.memory wait
  entered : is_inside wait ≤ node.barrier.episode

waits_at : (node : Node) → IsReached node → Waits node node.mail.wait
waits_at node r = record {
  next = reaching_at node r;
  quiet = quiet_at node r;
  apart = (needed_at node r).apart;
  kept = (needed_at node r).kept;
  entered = entered_at node r;
}

goes_on_access : (node : Node) → IsReached node → (memory : Memory) (change : Need → Need) → memory.copies ≡ node.memory.copies
    → ((need : Need) → (change need).page ≡ need.page) → (wait : Wait) → Waits node wait
    → All (FitsNeed node.setting.nodes (pages_of node.setting.words node.options.size) (words_of node.options.size) memory) (map change (needs_of wait))
    → CanGoOn (with_memory node memory) (with_needs change wait)
goes_on_access node r memory change same keeps nothing waits fits = tt
goes_on_access node r memory change same keeps (grant lock) waits fits = tt
goes_on_access node r memory change same keeps departure waits fits = tt
goes_on_access node r memory change same keeps (access need) waits fits = λ met.
    repairable node r memory (change need) same
    (All-head (FitsNeed node.setting.nodes (pages_of node.setting.words node.options.size)
    (words_of node.options.size) memory) (change need) [] fits) (waits.next ∙ ap Some (sym (keeps need))) met
goes_on_access node r memory change same keeps (upkeep collection needs) waits fits = λ met.
    let pages : ℕ = pages_of node.setting.words node.options.size in
    let ranges = (ranged_at node r).memory in
    let now : List Need = map change needs in
    let kept_now : map (λ (need : Need). need.page) now ≡ map (λ (need : Need). need.page) needs = same_pages change keeps needs in
    can_clean (with_memory node memory) pages collection.kept now waits.entered (ap length same ∙ ranges.copies)
    (subst Ascends (sym kept_now) waits.apart) fits
    (subst (All (λ page. page < pages)) (sym waits.kept.0) (kept-below node.setting.me pages node.memory ranges.keepers))
    (kept_now ∙ waits.kept.1
    ∙ ap (λ (copies : List Copy). filter (λ page. not (is_readable (slice_index_or copies page absent))) collection.kept) (sym same))
    (subst (All (λ copy. changes_of copy ≡ None)) (sym same) waits.quiet) met
goes_on_access node r memory change same keeps (discard collection) waits fits = tt

-- once changes have come
pub changes_go_on : (node : Node) → IsReached node → (from : ℕ) (m : ChangesReplyRecord) → expects_changes_reply node from m ≡ true
    → CanGoOn (with_parts from m node) (with_needs (changes_came m.page from) node.mail.wait)
changes_go_on node r from m e =
    let it : Reply (view_of node) from m = reply node from m e in
    let nodes = node.setting.nodes in
    let pages = pages_of node.setting.words node.options.size in
    let words = words_of node.options.size in
    let fits = (needed_at node r).each in
    let asked = asked-exactly nodes pages words node.memory (needs_of node.mail.wait) m.page from
    (map (λ (part : IndexedChangesRecord). part.index) m.parts) fits it.asked in
    goes_on_access node r (record node.memory { store = fold (with_part from m.page) node.memory.store m.parts }) (changes_came m.page from) refl
    (changed_page m.page from) node.mail.wait (waits_at node r)
    (changes-fit nodes pages words node.memory from m.page m.parts (is_store_at node r) asked (needs_of node.mail.wait) fits)

-- once a base copy has come
pub page_goes_on : (node : Node) → IsReached node → (from page : ℕ) (values : List ℕ) → length values ≡ words_of node.options.size
    → list_any (awaits_page page from) (needs_of node.mail.wait) ≡ true → CanGoOn node (with_needs (page_came page values) node.mail.wait)
page_goes_on node r from page values long e =
    goes_on_access node r node.memory (page_came page values) refl (sent_page page values) node.mail.wait (waits_at node r)
    (page-fits node.setting.nodes (pages_of node.setting.words node.options.size) (words_of node.options.size) node.memory (needs_of node.mail.wait)
    page from values (needed_at node r).each e long)

-- what else is in its mail makes no difference
pub whatever_mail : (node : Node) (mail : Mail) (wait : Wait) → CanGoOn node wait → CanGoOn (record node { mail = mail }) wait
whatever_mail node mail nothing h = tt
whatever_mail node mail (grant lock) h = tt
whatever_mail node mail departure h = tt
whatever_mail node mail (access need) h = λ met. let can = h met in record { page = can.page; fit = can.fit; of_page = can.of_page; next = can.next }
whatever_mail node mail (upkeep collection needs) h = λ met. let can = h met in
    record { arrived = can.arrived; apart = can.apart; mends = can.mends; keeps = can.keeps }
whatever_mail node mail (discard collection) h = tt

-- What comes for a page leaves a need that can be repaired once all has come.
use Rattle.std.proofs.Common.{◌≡◌, ℕ, List, [], true, length, refl, sym, ap, subst, arith}
use Rattle.std.specs.Prelude.{Option, Some, None, All, slice_index_or}
use Rattle.std.proofs.lemmas.Bool.{and_parts, eqb-true, ltb-true}
use Rattle.std.proofs.lemmas.Option.{same_Some}
use Rattle.std.proofs.lemmas.List.Elements.{All-head, All-weaker}
use Rattle.lrc_protocol.specs.Pages.{Copy, absent, copy_at, missing_at, Need, changes_came, page_came}
use Rattle.lrc_exec.specs.Meaning.{Setting, Next, quiet, prints, reads, writes, acquires, releases, arrives, departs, traps, ends}
use Rattle.lrc_page.specs.declared.size.Size.{Size}
use Rattle.lrc_page.specs.Page.{words_of}
use Rattle.lrc_page.specs.Place.{page_of}
use Rattle.lrc_store.specs.declared.key.Key.{Key}
use Rattle.lrc_store.specs.Store.{IsStore}
use Rattle.lrc_envelope.specs.Records.{ChangesReplyRecord, PageReplyRecord}
use Rattle.lrc_protocol.specs.Node.{access, needs_of, Node}
use Rattle.lrc_protocol.specs.Turn.{with_needs, expects_changes_reply}
use Rattle.lrc_protocol.specs.Follows.{is_expected}
use Rattle.lrc_protocol.proofs.Expecting.{fulfilled}
use Rattle.lrc_envelope.specs.declared.message.Message.TheVariants.{PageReply}
use Rattle.lrc_protocol.specs.Node.{next_in}
use Rattle.lrc_node_laws.specs.Needs.{FitsBase, FitsNeed, page_next, ReachesFor}
use Rattle.lrc_node_laws.specs.Comes.{GoesToPage, CanBeRepaired}
use Rattle.lrc_node_laws.specs.Reached.{IsReached}
use Rattle.lrc_node_laws.proofs.Change.{View, view_of, pages_in, Change, gets_changes, gets_page, reply}
use Rattle.lrc_node_laws.proofs.Ranges.{Ranged, ranged-kept}
use Rattle.lrc_node_laws.proofs.Exact.{exact-kept, is_store}
use Rattle.lrc_node_laws.proofs.Needed.{Needed, needed-kept}
use Rattle.lrc_node_laws.proofs.Reaches.{reaches-kept}
use Rattle.lrc_node_laws.proofs.Keys.{IsNoticed}
use Rattle.lrc_node_laws.proofs.Replies.{lacking-noticed}
use Rattle.lrc_node_laws.proofs.Words.{InWords, next-in_words}
use Rattle.lrc_node_laws.proofs.Always.{ranged_at, exact_at, needed_at, reaching_at, known_at}

-- the next access is of a word of the memory
goes_to : (size : Size) (words page : ℕ) (o : Option Next) → ((next : Next) → o ≡ Some next → InWords words next) → page_next size o ≡ Some page
    → GoesToPage size words page o
goes_to size words page None k e = cc
goes_to size words page (Some (reads word after)) k e = (k (reads word after) refl, same_Some (page_of word size) page e)
goes_to size words page (Some (writes word value after)) k e = (k (writes word value after) refl, same_Some (page_of word size) page e)
goes_to size words page (Some (quiet after)) k e = cc
goes_to size words page (Some (prints value after)) k e = cc
goes_to size words page (Some (acquires lock after)) k e = cc
goes_to size words page (Some (releases lock after)) k e = cc
goes_to size words page (Some (arrives after)) k e = cc
goes_to size words page (Some (departs after)) k e = cc
goes_to size words page (Some (traps cause)) k e = cc
goes_to size words page (Some ends) k e = cc

-- after a change that leaves the text and the copies
repairs : (node : Node) → IsReached node → (after : View) → Change (view_of node) after → after.setting ≡ node.setting → after.size ≡ node.options.size
    → after.course ≡ node.course → after.memory.copies ≡ node.memory.copies → (need : Need) → after.wait ≡ access need → CanBeRepaired node need
repairs node r after c s z t k need w =
    let ranged : Ranged after = ranged-kept (view_of node) after c (ranged_at node r) in
    let needed : Needed after = needed-kept (view_of node) after c (ranged_at node r) (exact_at node r) (needed_at node r) in
    let reaching : ReachesFor after.size (next_in after.course) after.wait = reaches-kept (view_of node) after c (reaching_at node r) in
    let fits : FitsNeed after.setting.nodes (pages_in after) (words_of after.size) after.memory need =
    All-head (FitsNeed after.setting.nodes (pages_in after) (words_of after.size) after.memory) need []
    (subst (λ w. All (FitsNeed after.setting.nodes (pages_in after) (words_of after.size) after.memory) (needs_of w)) w needed.each) in
    let stored : IsStore after.memory.store =
    is_store after.setting.nodes (pages_in after) after.time after.memory ranged.memory
    (exact-kept (view_of node) after c (ranged_at node r) (exact_at node r)) in
    let page : page_next node.options.size (next_in node.course) ≡ Some need.page =
    subst (λ x. page_next node.options.size (next_in x) ≡ Some need.page) t
    (subst (λ x. page_next x (next_in after.course) ≡ Some need.page) z (subst (ReachesFor after.size (next_in after.course)) w reaching)) in
    record {
      page = omega (arith, fits.in_range, ranged.memory.copies, ap length k);
      base =
          subst (λ (copies : List Copy). FitsBase node.setting.nodes (words_of node.options.size) (slice_index_or copies need.page absent) need.base) k
          (subst (λ n. FitsBase n (words_of node.options.size) (copy_at after.memory need.page) need.base) (ap (λ (x : Setting). x.nodes) s)
          (subst (λ z. FitsBase after.setting.nodes (words_of z) (copy_at after.memory need.page) need.base) z fits.base));
      of_page =
          subst (All (λ (key : Key). key.page ≡ need.page)) (sym fits.missing)
          (All-weaker (λ (key : Key). (key.page ≡ need.page) × IsNoticed after.memory.store key) (λ (key : Key). key.page ≡ need.page) (λ key is. is.0)
          (missing_at after.memory need.page) (lacking-noticed after.memory need.page (copy_at after.memory need.page) stored));
      next = goes_to node.options.size node.setting.words need.page (next_in node.course)
          (λ next n. next-in_words node.setting node.course next (known_at node r).text n) page;
    }

pub changes_repair : (node : Node) → IsReached node → (from : ℕ) (m : ChangesReplyRecord) → expects_changes_reply node from m ≡ true → (need : Need)
    → with_needs (changes_came m.page from) node.mail.wait ≡ access need → CanBeRepaired node need
changes_repair node r from m e need w =
    repairs node r _ (gets_changes from m (reply node from m e)) refl refl refl refl need w

pub page_repairs : (node : Node) → IsReached node → (from : ℕ) (m : PageReplyRecord) → is_expected node from (PageReply m) ≡ true → (need : Need)
    → with_needs (page_came m.page m.values) node.mail.wait ≡ access need → CanBeRepaired node need
page_repairs node r from m e need w =
    let outer : _ = and_parts _ _ (fulfilled node from (PageReply m) e) in
    let inner : _ = and_parts _ _ outer.0 in
    repairs node r _
    (gets_page from m.page m.values (record { in_range = ltb-true _ _ inner.0; whole = eqb-true _ _ inner.1; asked = outer.1 })) refl refl refl refl need w

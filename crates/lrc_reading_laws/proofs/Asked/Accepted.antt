-- In every run each pending message of pages would be accepted by its receiver.
use Rattle.std.proofs.Common.{◌≡◌, ℕ, ◌<◌, List, [], ◌∷◌, Bool, true, length, refl, sym, ap, subst, ◌∙◌}
use Rattle.std.specs.Prelude.{Some, ◌==◌, ◌&&◌, All, Contains, map, nat_lt, slice_get}
use Rattle.std.specs.List.{list_any, list_all}
use Rattle.std.proofs.lemmas.Bool.{and_parts, and_from, eqb-true, eq-eqb, lt-ltb}
use Rattle.std.proofs.lemmas.List.Elements.{All-head, All-tail, All-weaker}
use Rattle.lrc_program.specs.declared.Program.{Program}
use Rattle.lrc_exec.specs.Plain.{setting_of}
use Rattle.lrc_page.specs.declared.changes.Change.{Change}
use Rattle.lrc_page.specs.Page.{words_of}
use Rattle.lrc_page.specs.Place.{pages_of}
use Rattle.lrc_envelope.specs.Envelope.{EnvelopeRecord}
use Rattle.lrc_envelope.specs.Records.{ChangesReplyRecord, IndexedChangesRecord, PageReplyRecord}
use Rattle.lrc_envelope.specs.declared.message.Message.TheVariants.{ChangesReply, PageReply}
use Rattle.lrc_protocol.specs.Pages.{Need, awaits_changes, awaits_page}
use Rattle.lrc_protocol.specs.Node.{needs_of, Node, OptionsRecord}
use Rattle.lrc_protocol.specs.Turn.{is_page, are_changes}
use Rattle.lrc_protocol.specs.Follows.{is_expected}
use Rattle.lrc_protocol.specs.Run.{Logged, World}
use Rattle.lrc_protocol.specs.Follows.{pending}
use Rattle.lrc_protocol.specs.Follows.{turns_of}
use Rattle.lrc_protocol.proofs.Expecting.{conditions}
use Rattle.lrc_order_laws.proofs.Shape.{NodeShape, shape_at}
use Rattle.lrc_order_laws.proofs.Reached.{IsReached}
use Rattle.lrc_node_laws.specs.Needs.{FitsNeed}
use Rattle.lrc_node_laws.specs.Reached.{IsReached as IsReachedNode}
use Rattle.lrc_node_laws.specs.Sized.{AreInPage}
use Rattle.lrc_node_laws.proofs.Needs.{any_fits}
use Rattle.lrc_node_laws.proofs.Always.{needed_at}
use Rattle.lrc_reading_laws.proofs.Closed.Stored.{reached}
use Rattle.lrc_reading_laws.proofs.Asked.Laws.{page_reply-awaited, changes_reply-awaited}
use Rattle.lrc_reading_laws.proofs.Asked.Sound.{IsSound, AllSound, all_sound}

pub all_pass : {X : Type 0} (test : X → Bool) (xs : List X) → All (λ x. test x ≡ true) xs → list_all test xs ≡ true
all_pass test [] h = refl
all_pass test (x ∷ xs) h =
    and_from (test x) (list_all test xs) (All-head (λ x. test x ≡ true) x xs h) (all_pass test xs (All-tail (λ x. test x ≡ true) x xs h))

-- what a node needs is of its pages
pub needed_page : (node : Node) → IsReachedNode node → (page : ℕ) (awaits : Need → Bool)
    → ((need : Need) → awaits need ≡ true → need.page ≡ page) → list_any awaits (needs_of node.mail.wait) ≡ true → is_page node page ≡ true
needed_page node r page awaits of_page e =
    any_fits (FitsNeed node.setting.nodes (pages_of node.setting.words node.options.size) (words_of node.options.size) node.memory) awaits
    (is_page node page ≡ true)
    (λ need fits is. lt-ltb page (pages_of node.setting.words node.options.size)
    (subst (λ p. p < pages_of node.setting.words node.options.size) (of_page need is) fits.in_range))
    (needs_of node.mail.wait) (needed_at node r).each e

module _ (program : Program) (nodes : ℕ) (options : OptionsRecord) (world : World) (r : IsReached program nodes options world) where
  node_at : (n : ℕ) (l : Logged) → slice_get world.nodes n ≡ Some l → IsReachedNode l.node
  node_at n l at = reached program nodes options r.events world r.runs n l at

  pub shaped : (n : ℕ) (l : Logged) → slice_get world.nodes n ≡ Some l
      → NodeShape (setting_of program nodes n) options (record { node = l.node; turns = turns_of l.log })
  shaped n l at = shape_at program nodes options r.events world n l r.runs at

  sound : AllSound program nodes options world
  sound = all_sound program nodes options r.events world r.runs

  -- a base copy is awaited, and is a page long
  pub page_reply-accepted : (e : EnvelopeRecord) (m : PageReplyRecord) (l : Logged) → Contains (pending world) e → e.message ≡ PageReply m
      → slice_get world.nodes e.to ≡ Some l → is_expected l.node e.from (PageReply m) ≡ true
  page_reply-accepted e m l there is at =
      let awaits : list_any (awaits_page m.page e.from) (needs_of l.node.mail.wait) ≡ true =
      page_reply-awaited program nodes options world r e m l there is at in
      let long : length m.values ≡ words_of options.size = subst (IsSound (words_of options.size)) is (sound.each e there) in
      let words : words_of l.node.options.size ≡ words_of options.size = ap (λ (o : OptionsRecord). words_of o.size) (shaped e.to l at).options in
      conditions l.node e.from (PageReply m)
      ∙ and_from (is_page l.node m.page && (length m.values == words_of l.node.options.size)) (list_any (awaits_page m.page e.from) (needs_of l.node.mail.wait))
      (and_from (is_page l.node m.page) (length m.values == words_of l.node.options.size)
      (needed_page l.node (node_at e.to l at) m.page (awaits_page m.page e.from)
      (λ need is. eqb-true need.page m.page (and_parts _ _ is).0) awaits)
      (eq-eqb (length m.values) (words_of l.node.options.size) (long ∙ sym words)))
      awaits

  -- changes are awaited, just these, and are of words of a page
  pub changes_reply-accepted : (e : EnvelopeRecord) (m : ChangesReplyRecord) (l : Logged) → Contains (pending world) e → e.message ≡ ChangesReply m
      → slice_get world.nodes e.to ≡ Some l → is_expected l.node e.from (ChangesReply m) ≡ true
  changes_reply-accepted e m l there is at =
      let indices : List ℕ = map (λ (part : IndexedChangesRecord). part.index) m.parts in
      let awaits : list_any (awaits_changes m.page e.from indices) (needs_of l.node.mail.wait) ≡ true =
      changes_reply-awaited program nodes options world r e m l there is at in
      let sized : All (λ (part : IndexedChangesRecord). AreInPage (words_of options.size) part.changes) m.parts =
      subst (IsSound (words_of options.size)) is (sound.each e there) in
      let words : words_of options.size ≡ words_of l.node.options.size = sym (ap (λ (o : OptionsRecord). words_of o.size) (shaped e.to l at).options) in
      conditions l.node e.from (ChangesReply m)
      ∙ and_from (is_page l.node m.page && list_all (are_changes l.node) m.parts) (list_any (awaits_changes m.page e.from indices) (needs_of l.node.mail.wait))
      (and_from (is_page l.node m.page) (list_all (are_changes l.node) m.parts)
      (needed_page l.node (node_at e.to l at) m.page (awaits_changes m.page e.from indices)
      (λ need is. eqb-true need.page m.page (and_parts _ _ is).0) awaits)
      (all_pass (are_changes l.node) m.parts
      (All-weaker (λ (part : IndexedChangesRecord). AreInPage (words_of options.size) part.changes)
      (λ (part : IndexedChangesRecord). are_changes l.node part ≡ true)
      (λ part h.
      all_pass (λ (change : Change). nat_lt change.offset (words_of l.node.options.size)) part.changes
      (All-weaker (λ (change : Change). change.offset < words_of options.size)
      (λ (change : Change). nat_lt change.offset (words_of l.node.options.size) ≡ true)
      (λ change lt. lt-ltb change.offset (words_of l.node.options.size) (subst (λ w. change.offset < w) words lt)) part.changes h))
      m.parts sized)))
      awaits

-- In every run a pending request for a base copy would be accepted by its keeper.
use Rattle.std.proofs.Common.{◌≡◌, ℕ, ◌<◌, [], true, is_some, length, refl, sym, ap, subst, ◌∙◌}
use Rattle.std.specs.Prelude.{Some, ◌==◌, ◌&&◌, not, All, Contains, nat_lt, slice_get, slice_index}
use Rattle.std.proofs.lemmas.Bool.{and_parts, and_from, eqb-true, ne_eqb}
use Rattle.std.proofs.lemmas.List.Elements.{All-head}
use Rattle.lrc_program.specs.declared.Program.{Program}
use Rattle.lrc_exec.specs.Meaning.{Setting}
use Rattle.lrc_page.specs.Page.{words_of}
use Rattle.lrc_page.specs.Place.{pages_of}
use Rattle.lrc_envelope.specs.Envelope.{EnvelopeRecord}
use Rattle.lrc_envelope.specs.declared.message.Message.TheVariants.{PageRequest}
use Rattle.lrc_protocol.specs.Pages.{Copy, valid, written, invalid, absent, copy_at, due, awaits_page}
use Rattle.lrc_protocol.specs.Barriers.{base_at}
use Rattle.lrc_protocol.specs.Node.{needs_of, Node, OptionsRecord}
use Rattle.lrc_protocol.specs.Turn.{is_page}
use Rattle.lrc_protocol.specs.Follows.{is_expected}
use Rattle.lrc_protocol.specs.Run.{Logged, World}
use Rattle.lrc_protocol.specs.Follows.{pending}
use Rattle.lrc_protocol.proofs.Expecting.{conditions}
use Rattle.lrc_order_laws.proofs.Reached.{IsReached}
use Rattle.lrc_node_laws.specs.Needs.{FitsBase, FitsNeed}
use Rattle.lrc_node_laws.specs.Reached.{IsReached as IsReachedNode}
use Rattle.lrc_node_laws.proofs.Always.{known_at, needed_at}
use Rattle.lrc_reading_laws.proofs.Laws.{AwaitsBase}
use Rattle.lrc_reading_laws.proofs.Closed.Stored.{reached}
use Rattle.lrc_reading_laws.proofs.Collected.Local.{IsDueRight, due_right, absent_elsewhere}
use Rattle.lrc_reading_laws.proofs.Asked.Laws.{page_request-awaited, are_awaited}
use Rattle.lrc_reading_laws.proofs.Asked.Accepted.{needed_page, shaped}
use Rattle.lrc_reading_laws.proofs.Asked.Expected.{asker}

-- who is asked for a base copy has one
abbrev pub AskedHaveBases : World → Type 0
AskedHaveBases world = (n keeper page : ℕ) (l kept : Logged) → slice_get world.nodes n ≡ Some l → slice_get world.nodes keeper ≡ Some kept
    → AwaitsBase l.node page keeper → is_some (base_at kept.node.memory page) ≡ true

due_absent : (nodes words keeper : ℕ) (copy : Copy) → FitsBase nodes words copy (due keeper) → copy ≡ absent
due_absent nodes words keeper absent f = refl
due_absent nodes words keeper (valid values) f = absurd f
due_absent nodes words keeper (written values twin) f = absurd f
due_absent nodes words keeper (invalid values since) f = absurd f

-- nobody asks itself
keeper_other : (node : Node) → IsReachedNode node → (page keeper : ℕ) → AwaitsBase node page keeper → node.setting.me ≡ keeper → ⊥
keeper_other node r page keeper a mine =
    let pages : ℕ = pages_of node.setting.words node.options.size in
    let fits : FitsNeed node.setting.nodes pages (words_of node.options.size) node.memory a.need =
    All-head (FitsNeed node.setting.nodes pages (words_of node.options.size) node.memory) a.need []
    (subst (λ w. All (FitsNeed node.setting.nodes pages (words_of node.options.size) node.memory) (needs_of w)) a.waits (needed_at node r).each) in
    let gone : copy_at node.memory a.need.page ≡ absent =
    due_absent node.setting.nodes (words_of node.options.size) keeper (copy_at node.memory a.need.page)
    (subst (FitsBase node.setting.nodes (words_of node.options.size) (copy_at node.memory a.need.page)) a.base_is fits.base) in
    let keeps : slice_index node.memory.keepers a.need.page ≡ keeper = subst (IsDueRight node.memory.keepers) a.waits (due_right node r) keeper a.base_is in
    let lt : a.need.page < length node.memory.copies = subst (λ k. a.need.page < k) (sym (known_at node r).copies) fits.in_range in
    absent_elsewhere node r a.need.page lt gone (keeps ∙ sym mine)

module _ (program : Program) (nodes : ℕ) (options : OptionsRecord) (world : World) (r : IsReached program nodes options world)
    (have : AskedHaveBases world) where
  pub page_request-accepted : (e : EnvelopeRecord) (page : ℕ) (k : Logged) → Contains (pending world) e → e.message ≡ PageRequest page
      → slice_get world.nodes e.to ≡ Some k → is_expected k.node e.from (PageRequest page) ≡ true
  page_request-accepted e page k there is at =
      let by : (l : Logged) × (slice_get world.nodes e.from ≡ Some l) = asker program nodes options world r e there in
      let l : Logged = by.0 in
      let me : k.node.setting.me ≡ e.to = ap (λ (s : Setting). s.me) (shaped program nodes options world r e.to k at).setting in
      let its : l.node.setting.me ≡ e.from = ap (λ (s : Setting). s.me) (shaped program nodes options world r e.from l by.1).setting in
      let words : l.node.setting.words ≡ k.node.setting.words =
      ap (λ (s : Setting). s.words) (shaped program nodes options world r e.from l by.1).setting
      ∙ sym (ap (λ (s : Setting). s.words) (shaped program nodes options world r e.to k at).setting) in
      let same : l.node.options ≡ k.node.options =
      (shaped program nodes options world r e.from l by.1).options ∙ sym (shaped program nodes options world r e.to k at).options in
      let asker_reached : IsReachedNode l.node = reached program nodes options r.events world r.runs e.from l by.1 in
      let waits : AwaitsBase l.node page e.to = (are_awaited program nodes options world r).request e page l there is by.1 in
      let in_range : is_page l.node page ≡ true =
      needed_page l.node asker_reached page (awaits_page page e.to) (λ need is. eqb-true need.page page (and_parts _ _ is).0)
      (page_request-awaited program nodes options world r e page l there is by.1) in
      let apart : e.from ≡ k.node.setting.me → ⊥ = λ same_node. keeper_other l.node asker_reached page e.to waits (its ∙ same_node ∙ me) in
      conditions k.node e.from (PageRequest page)
      ∙ and_from (is_page k.node page && not (e.from == k.node.setting.me)) (is_some (base_at k.node.memory page))
      (and_from (is_page k.node page) (not (e.from == k.node.setting.me))
      (subst (λ (o : OptionsRecord). nat_lt page (pages_of k.node.setting.words o.size) ≡ true) same
      (subst (λ w. nat_lt page (pages_of w l.node.options.size) ≡ true) words in_range))
      (ap not (ne_eqb e.from k.node.setting.me apart)))
      (have e.from e.to page l k by.1 at waits)

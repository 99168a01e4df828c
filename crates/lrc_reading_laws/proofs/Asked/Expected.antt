-- In every run a pending request for changes would be accepted by its maker: it has the intervals, and has not collected them.
use Rattle.std.proofs.Common.{◌≡◌, ℕ, ◌+◌, ◌<◌, ◌≤◌, List, Bool, true, is_some, refl, sym, ap, subst, ◌∙◌, arith}
use Rattle.std.specs.Prelude.{Some, All, Contains, nat_lt, slice_get}
use Rattle.std.specs.List.{list_any, list_all}
use Rattle.std.proofs.lemmas.Bool.{and_parts, and_from, eqb-true, false≢true}
use Rattle.lrc_program.specs.declared.Program.{Program}
use Rattle.lrc_exec.specs.Meaning.{Setting}
use Rattle.lrc_page.specs.Page.{words_of}
use Rattle.lrc_page.specs.Place.{pages_of}
use Rattle.lrc_time.specs.Time.{entry, Covers}
use Rattle.lrc_store.specs.Interval.{IntervalRecord, index_of}
use Rattle.lrc_store.specs.Store.{notice_at}
use Rattle.lrc_envelope.specs.Envelope.{EnvelopeRecord}
use Rattle.lrc_envelope.specs.Records.{ChangesRequestRecord}
use Rattle.lrc_envelope.specs.declared.message.Message.TheVariants.{ChangesRequest}
use Rattle.lrc_protocol.specs.Pages.{missing_at, Need, awaits_changes, indices_of, unknown_of}
use Rattle.lrc_protocol.specs.Node.{Wait, nothing, grant, departure, access, upkeep, discard, needs_of, OptionsRecord}
use Rattle.lrc_protocol.specs.Turn.{is_page}
use Rattle.lrc_protocol.specs.Follows.{is_expected}
use Rattle.lrc_protocol.specs.Run.{Logged, World}
use Rattle.lrc_protocol.specs.Follows.{pending}
use Rattle.lrc_protocol.proofs.Worlds.{run-whole}
use Rattle.lrc_protocol.proofs.Expecting.{conditions}
use Rattle.lrc_order_laws.proofs.Pending.{get_within}
use Rattle.lrc_order_laws.proofs.Reached.{IsReached}
use Rattle.lrc_node_laws.proofs.Replies.{asked-exactly}
use Rattle.lrc_node_laws.proofs.Always.{needed_at}
use Rattle.lrc_reading_laws.specs.Made.{AreMade}
use Rattle.lrc_reading_laws.proofs.Closed.Stored.{reached, stores_just, index_in, from_range}
use Rattle.lrc_reading_laws.proofs.Closed.MadeWorlds.{knows}
use Rattle.lrc_reading_laws.proofs.Collected.Covers.{missing_covers, fetching_covers}
use Rattle.lrc_reading_laws.proofs.Asked.Laws.{changes_request-awaited}
use Rattle.lrc_reading_laws.proofs.Asked.Sound.{all_sound}
use Rattle.lrc_reading_laws.proofs.Asked.Accepted.{needed_page, all_pass, shaped}
use Rattle.lrc_reading_laws.proofs.Asked.Stored.{asked_stored}

module _ (program : Program) (nodes : ℕ) (options : OptionsRecord) (world : World) (r : IsReached program nodes options world) where
  -- who waits for pages has collected all that any other node has
  newest : (n m : ℕ) (l k : Logged) → slice_get world.nodes n ≡ Some l → slice_get world.nodes m ≡ Some k → (w : Wait) → l.node.mail.wait ≡ w
      → (awaits : Need → Bool) → list_any awaits (needs_of w) ≡ true → Covers l.node.memory.collected k.node.memory.collected
  newest n m l k at at_m (access need) is awaits e = missing_covers program nodes options world r n m l k at at_m need is
  newest n m l k at at_m (upkeep collection needs) is awaits e = fetching_covers program nodes options world r n m l k at at_m collection needs is
  newest n m l k at at_m nothing is awaits e = absurd (false≢true e)
  newest n m l k at at_m (grant lock) is awaits e = absurd (false≢true e)
  newest n m l k at at_m departure is awaits e = absurd (false≢true e)
  newest n m l k at at_m (discard collection) is awaits e = absurd (false≢true e)

  -- nobody closed an interval that is not in its own time
  upto : (made : List IntervalRecord) → AreMade made world → (q : ℕ) (k : Logged) → slice_get world.nodes q ≡ Some k → (i : IntervalRecord)
      → Contains made i → i.node ≡ q → index_of i ≤ entry k.node.locks.time q
  upto made are q k at i there mine =
      let within : (1 ≤ index_of i) × (index_of i < 1 + entry k.node.locks.time q) =
      from_range 1 (entry k.node.locks.time q) (index_of i) (subst (λ ks. Contains ks (index_of i)) (are.exact q k at) (index_in q made i there mine)) in
      let below : index_of i < 1 + entry k.node.locks.time q = within.1 in
      omega (arith, below)

  pub asker : (e : EnvelopeRecord) → Contains (pending world) e → (l : Logged) × (slice_get world.nodes e.from ≡ Some l)
  asker e there =
      get_within world.nodes e.from
      (subst (λ k. e.from < k) (sym (run-whole program nodes options r.events world r.runs).count)
      ((all_sound program nodes options r.events world r.runs).from e there))

  pub changes_request-accepted : (e : EnvelopeRecord) (m : ChangesRequestRecord) (k : Logged) → Contains (pending world) e → e.message ≡ ChangesRequest m
      → slice_get world.nodes e.to ≡ Some k → is_expected k.node e.from (ChangesRequest m) ≡ true
  changes_request-accepted e m k there is at =
      let by : (l : Logged) × (slice_get world.nodes e.from ≡ Some l) = asker e there in
      let l : Logged = by.0 in
      let made : List IntervalRecord = (knows program nodes options r.events world r.runs).made in
      let are : AreMade made world = (knows program nodes options r.events world r.runs).are in
      let me : k.node.setting.me ≡ e.to = ap (λ (s : Setting). s.me) (shaped program nodes options world r e.to k at).setting in
      let words : l.node.setting.words ≡ k.node.setting.words =
      ap (λ (s : Setting). s.words) (shaped program nodes options world r e.from l by.1).setting
      ∙ sym (ap (λ (s : Setting). s.words) (shaped program nodes options world r e.to k at).setting) in
      let same : l.node.options ≡ k.node.options =
      (shaped program nodes options world r e.from l by.1).options ∙ sym (shaped program nodes options world r e.to k at).options in
      let awaits : list_any (awaits_changes m.page e.to m.indices) (needs_of l.node.mail.wait) ≡ true =
      changes_request-awaited program nodes options world r e m l there is by.1 in
      let asker_reached = reached program nodes options r.events world r.runs e.from l by.1 in
      let page : is_page l.node m.page ≡ true =
      needed_page l.node asker_reached m.page (awaits_changes m.page e.to m.indices) (λ need is. eqb-true need.page m.page (and_parts _ _ is).0) awaits in
      let just : m.indices ≡ indices_of (unknown_of l.node.memory.store (missing_at l.node.memory m.page)) e.to =
      asked-exactly l.node.setting.nodes (pages_of l.node.setting.words l.node.options.size) (words_of l.node.options.size) l.node.memory
      (needs_of l.node.mail.wait) m.page e.to m.indices (needed_at l.node asker_reached).each awaits in
      let covers : Covers l.node.memory.collected k.node.memory.collected =
      newest e.from e.to l k by.1 at l.node.mail.wait refl (awaits_changes m.page e.to m.indices) awaits in
      let stored : All (λ index. is_some (notice_at k.node.memory.store (record { node = k.node.setting.me; index = index; page = m.page })) ≡ true) m.indices =
      subst (All (λ index. is_some (notice_at k.node.memory.store (record { node = k.node.setting.me; index = index; page = m.page })) ≡ true))
      (ap (indices_of (unknown_of l.node.memory.store (missing_at l.node.memory m.page))) me ∙ sym just)
      (asked_stored made l.node k.node asker_reached (reached program nodes options r.events world r.runs e.to k at)
      (stores_just program nodes options r.events world r.runs made are e.from l by.1)
      (stores_just program nodes options r.events world r.runs made are e.to k at)
      (λ i there mine.
      subst (λ q. index_of i ≤ entry k.node.locks.time q) (sym me) (upto made are e.to k at i there (mine ∙ me)))
      (covers k.node.setting.me) m.page) in
      conditions k.node e.from (ChangesRequest m)
      ∙ and_from (is_page k.node m.page)
      (list_all (λ index. is_some (notice_at k.node.memory.store (record { node = k.node.setting.me; index = index; page = m.page }))) m.indices)
      (subst (λ (o : OptionsRecord). nat_lt m.page (pages_of k.node.setting.words o.size) ≡ true) same
      (subst (λ w. nat_lt m.page (pages_of w l.node.options.size) ≡ true) words page))
      (all_pass (λ index. is_some (notice_at k.node.memory.store (record { node = k.node.setting.me; index = index; page = m.page }))) m.indices stored)

-- A keeper's base copy serves its asker: what its time lacks of the asker's collected time does not name the page.
use Rattle.std.proofs.Common.{◌≡◌, ℕ, ◌<◌, List, [], ◌∷◌, Bool, true, false, IsTrue, is_some, length, map, refl, sym, ap, subst, ◌∙◌, inl, inr, arith}
use Rattle.std.specs.Prelude.{Option, Some, None, Contains, ◌==◌, find, slice_get, slice_index, if◌then◌else◌}
use Rattle.std.specs.List.{list_any}
use Rattle.std.proofs.lemmas.Bool.{false≢true, eqb-true, eq-eqb, cases_lt, or_left, or_right}
use Rattle.std.proofs.lemmas.List.Elements.{All-contains}
use Rattle.lrc_program.specs.declared.Program.{Program}
use Rattle.lrc_exec.specs.Meaning.{Setting}
use Rattle.lrc_time.specs.Time.{entry, Covers}
use Rattle.lrc_time.proofs.Times.{covers-refl}
use Rattle.lrc_page.specs.Place.{pages_of}
use Rattle.lrc_store.specs.Interval.{IntervalRecord, index_of}
use Rattle.lrc_store.specs.Store.{StoredRecord, NoticeRecord, interval_of, intervals_of, notice_of}
use Rattle.lrc_store.proofs.Orders.{cases_Contains, none_Contains}
use Rattle.lrc_copies.specs.Stamps.{stamps_covered, StandsBetween}
use Rattle.lrc_copies.proofs.Stamping.{covered-le, le-covered}
use Rattle.lrc_protocol.specs.Pages.{Need, keeper_at}
use Rattle.lrc_protocol.specs.Barriers.{Collection, kept_pages}
use Rattle.lrc_protocol.specs.Node.{Wait, nothing, grant, departure, access, upkeep, discard, Node, OptionsRecord}
use Rattle.lrc_protocol.specs.Run.{Logged, World}
use Rattle.lrc_order_laws.specs.Counts.{is_inside}
use Rattle.lrc_order_laws.proofs.Shape.{shape_at}
use Rattle.lrc_order_laws.proofs.Reached.{IsReached}
use Rattle.lrc_node_laws.specs.Needs.{FitsKept}
use Rattle.lrc_node_laws.specs.Ranges.{CollectsAt, InRange, HasRanges}
use Rattle.lrc_node_laws.proofs.Always.{ranged_at, needed_at, exact_at}
use Rattle.lrc_node_laws.proofs.Needs.{any_fits}
use Rattle.lrc_reading_laws.specs.Made.{StoresJust}
use Rattle.lrc_reading_laws.specs.Written.{made_stamps}
use Rattle.lrc_reading_laws.proofs.Closed.History.{History, reached_by}
use Rattle.lrc_reading_laws.proofs.Laws.{AwaitsBase, bound_in, base_bound, StampsLaw, BasesLaw}
use Rattle.lrc_reading_laws.proofs.Stamped.Lists.{interval-in}
use Rattle.lrc_reading_laws.proofs.Collected.Turns.{in_collection}
use Rattle.lrc_reading_laws.proofs.Collected.Keepers.{names, is_named_by, in_kept}
use Rattle.lrc_reading_laws.proofs.Collected.Local.{IsDueRight, due_right}
use Rattle.lrc_reading_laws.proofs.Collected.Pairs.{inside}
use Rattle.lrc_reading_laws.proofs.Collected.Agree.{node_reached}
use Rattle.lrc_reading_laws.proofs.Collected.Covers.{agree, cleans, none_under_way, waits_for_word}

-- ---- an interval that names a page

named_by_notice : (page : ℕ) (notices : List NoticeRecord) (notice : NoticeRecord)
    → find (λ (notice : NoticeRecord). notice.page == page) notices ≡ Some notice
    → list_any (λ named. named == page) (map (λ (notice : NoticeRecord). notice.page) notices) ≡ true
named_by_notice page [] notice e = cc
named_by_notice page (x ∷ notices) notice e = by_test (λ e. named_by_notice page notices notice e) (x.page == page) refl e
  where
    by_test : (find (λ (notice : NoticeRecord). notice.page == page) notices ≡ Some notice
        → list_any (λ named. named == page) (map (λ (notice : NoticeRecord). notice.page) notices) ≡ true) → (b : Bool) → (x.page == page) ≡ b
        → (if b then Some x else find (λ (notice : NoticeRecord). notice.page == page) notices) ≡ Some notice
        → list_any (λ named. named == page) (map (λ (notice : NoticeRecord). notice.page) (x ∷ notices)) ≡ true
    by_test more true is e = or_left (x.page == page) (list_any (λ named. named == page) (map (λ (notice : NoticeRecord). notice.page) notices)) is
    by_test more false is e = or_right (x.page == page) (list_any (λ named. named == page) (map (λ (notice : NoticeRecord). notice.page) notices)) (more e)

-- it names the page where it has a notice of it
pub notice_names : (page : ℕ) (x : StoredRecord) (notice : NoticeRecord) → notice_of page x ≡ Some notice → names page (interval_of x) ≡ true
notice_names page x notice e = named_by_notice page x.notices notice e

any_of : (pages : List ℕ) (page : ℕ) → Contains pages page → list_any (λ kept. kept == page) pages ≡ true
any_of [] page there = absurd (none_Contains page there)
any_of (x ∷ pages) page there = elim (cases_Contains x pages page there) [
  | inl here ↦ or_left (x == page) (list_any (λ kept. kept == page) pages) (eq-eqb x page here)
  | inr later ↦ or_right (x == page) (list_any (λ kept. kept == page) pages) (any_of pages page later)
]

-- who is in no collection has a base copy for what it has collected
bound_out : (w : Wait) (collected : List ℕ) (page : ℕ) → in_collection w ≡ false → bound_in w collected page ≡ collected
bound_out nothing collected page e = refl
bound_out (grant lock) collected page e = refl
bound_out departure collected page e = refl
bound_out (access need) collected page e = refl
bound_out (upkeep collection needs) collected page e = cc
bound_out (discard collection) collected page e = cc

module _ (program : Program) (nodes : ℕ) (options : OptionsRecord) (world : World) (r : IsReached program nodes options world) where
  pub me_at : (n : ℕ) (l : Logged) → slice_get world.nodes n ≡ Some l → l.node.setting.me ≡ n
  me_at n l at = ap (λ (s : Setting). s.me) (shape_at program nodes options r.events world n l r.runs at).setting

  -- who awaits a base copy awaits it from the page's keeper
  pub awaited_keeper : (n : ℕ) (l : Logged) (page keeper : ℕ) → slice_get world.nodes n ≡ Some l → AwaitsBase l.node page keeper
      → keeper_at l.node.memory page ≡ keeper
  awaited_keeper n l page keeper at a =
      let right : IsDueRight l.node.memory.keepers (access a.need) =
      subst (IsDueRight l.node.memory.keepers) a.waits (due_right l.node (node_reached program nodes options world r n l at)) in
      ap (slice_index l.node.memory.keepers) (sym a.page_is) ∙ right keeper a.base_is

  -- the keeper has a base copy for what the asker has collected, or the page is not among those that it keeps anew
  pub data Bound (l k : Node) (page : ℕ) : Type 0 where
    equal : base_bound k page ≡ l.memory.collected → Bound l k page
    older : (collection : Collection) → k.mail.wait ≡ discard collection → list_any (λ kept. kept == page) collection.kept ≡ false
        → base_bound k page ≡ k.memory.collected → l.memory.collected ≡ k.locks.time → l.memory.keepers ≡ k.memory.keepers → Bound l k page

  module _ (n m : ℕ) (l k : Logged) (at : slice_get world.nodes n ≡ Some l) (at_m : slice_get world.nodes m ≡ Some k) (page : ℕ) where
    in_discard : (collection : Collection) → k.node.mail.wait ≡ discard collection → (b : Bool) → list_any (λ kept. kept == page) collection.kept ≡ b
        → (l.node.memory.collected ≡ k.node.locks.time) × (l.node.memory.keepers ≡ k.node.memory.keepers) → Bound l.node k.node page
    in_discard collection w true kept fit =
        let its_own : CollectsAt k.node.locks.time (discard collection) =
        subst (CollectsAt k.node.locks.time) w (ranged_at k.node (node_reached program nodes options world r m k at_m)).present in
        equal
        (ap (λ wait. bound_in wait k.node.memory.collected page) w
        ∙ ap (λ b. if b then collection.time else k.node.memory.collected) kept ∙ its_own ∙ sym fit.0)
    in_discard collection w false kept fit =
        older collection w kept
        (ap (λ wait. bound_in wait k.node.memory.collected page) w ∙ ap (λ b. if b then collection.time else k.node.memory.collected) kept)
        fit.0 fit.1

    bound_by : (need : Need) → l.node.mail.wait ≡ access need → (b : Bool) → inside k.node ≡ b → Bound l.node k.node page
    bound_by need w false out =
        equal
        (bound_out k.node.mail.wait k.node.memory.collected page out
        ∙ sym (((agree program nodes options world r).fit n m l k at at_m).alike (ap in_collection w ∙ sym out)).0)
    bound_by need w true i =
        let none : cleans program nodes options world r ≡ None = none_under_way program nodes options world r n l at (ap is_inside w) in
        let d : (collection : Collection) × (k.node.mail.wait ≡ discard collection) = waits_for_word program nodes options world r m k at_m none i in
        in_discard d.0 d.1 (list_any (λ kept. kept == page) d.0.kept) refl
        (((agree program nodes options world r).fit m n k l at_m at).behind (ap is_some none) i (ap in_collection w))

    pub bound : (need : Need) → l.node.mail.wait ≡ access need → Bound l.node k.node page
    bound need w = bound_by need w (inside k.node) refl

  -- what a node stores of an interval that was made
  module _ (made : List StoredRecord) (m : ℕ) (k : Logged) (at_m : slice_get world.nodes m ≡ Some k) (just : StoresJust (map interval_of made) k.node)
      (page : ℕ) where
    in_pages : (i : IntervalRecord) → Contains (intervals_of k.node.memory.store) i → names page i ≡ true → page < length k.node.memory.keepers
    in_pages i there e =
        let pages : ℕ = pages_of k.node.setting.words k.node.options.size in
        let ranges : HasRanges k.node.setting.nodes pages k.node.memory = (ranged_at k.node (node_reached program nodes options world r m k at_m)).memory in
        let range : InRange k.node.setting.nodes pages i =
        All-contains (InRange k.node.setting.nodes pages) (intervals_of k.node.memory.store) i ranges.intervals there in
        let lt : page < pages =
        any_fits (λ named. named < pages) (λ named. named == page) (page < pages)
        (λ named lt same. subst (λ p. p < pages) (eqb-true named page same) lt) i.pages range.named e in
        omega (arith, lt, ranges.keepers)

    -- between what it has collected and its time no interval names a page that it keeps, and does not keep anew
    none_named : (collection : Collection) → k.node.mail.wait ≡ discard collection → list_any (λ kept. kept == page) collection.kept ≡ false
        → keeper_at k.node.memory page ≡ m → (x : StoredRecord)
        → StandsBetween made_stamps made k.node.memory.collected k.node.locks.time x → names page (interval_of x) ≡ true → ⊥
    none_named collection w kept mine x b e =
        let i : IntervalRecord = interval_of x in
        let me : ℕ = k.node.setting.me in
        let above : entry k.node.memory.collected i.node < index_of i = elim (cases_lt (entry k.node.memory.collected i.node) (index_of i)) [
          | inl lt ↦ lt
          | inr le ↦ absurd (b.later (le-covered made_stamps k.node.memory.collected x le))
        ] in
        let stored : Contains (intervals_of k.node.memory.store) i =
        (just i).1 (interval-in made x b.member, above, covered-le made_stamps k.node.locks.time x b.known) in
        let there : Contains (kept_pages me k.node.memory) page =
        in_kept me k.node.memory page (in_pages i stored e) (is_named_by (intervals_of k.node.memory.store) page i stored e) (mine ∙ sym (me_at m k at_m)) in
        let fits : FitsKept me k.node.memory (discard collection) =
        subst (FitsKept me k.node.memory) w (needed_at k.node (node_reached program nodes options world r m k at_m)).kept in
        absurd (false≢true (sym kept ∙ any_of collection.kept page (subst (λ pages. Contains pages page) (sym fits.0) there)))

module _ (program : Program) (nodes : ℕ) (options : OptionsRecord) (stamps : StampsLaw program nodes options) where
  module _ (world : World) (made : List StoredRecord) (history : History program nodes options world made) where
    abbrev reach : IsReached program nodes options world
    reach = reached_by program nodes options world made history

    module _ (n m page : ℕ) (l k : Logged) (at : slice_get world.nodes n ≡ Some l) (at_m : slice_get world.nodes m ≡ Some k)
        (a : AwaitsBase l.node page m) where
      covered_by : Bound program nodes options world reach l.node k.node page → Covers l.node.memory.collected (base_bound k.node page)
      covered_by (equal e) = subst (Covers l.node.memory.collected) (sym e) (covers-refl l.node.memory.collected)
      covered_by (older collection w kept e time keepers) =
          subst (Covers l.node.memory.collected) (sym e)
          (subst (λ t. Covers t k.node.memory.collected) (sym time) (exact_at k.node (node_reached program nodes options world reach m k at_m)).below)

      unnamed_by : Bound program nodes options world reach l.node k.node page → (x : StoredRecord)
          → StandsBetween made_stamps made (base_bound k.node page) l.node.memory.collected x → (o : Option NoticeRecord) → notice_of page x ≡ o → o ≡ None
      unnamed_by b x between None e = refl
      unnamed_by (equal same) x between (Some notice) e =
          absurd (between.later (subst (λ t. IsTrue (stamps_covered made_stamps t x)) (sym same) between.known))
      unnamed_by (older collection w kept same time keepers) x between (Some notice) e =
          let mine : keeper_at k.node.memory page ≡ m =
          ap (λ (l : List ℕ). slice_index l page) (sym keepers) ∙ awaited_keeper program nodes options world reach n l page m at a in
          absurd
          (none_named program nodes options world reach made m k at_m ((stamps world made history).stored m k at_m) page collection w kept mine x
          (subst (λ since. StandsBetween made_stamps made since k.node.locks.time x) same
          (subst (λ upto. StandsBetween made_stamps made (base_bound k.node page) upto x) time between))
          (notice_names page x notice e))

      its_bound : Bound program nodes options world reach l.node k.node page
      its_bound = bound program nodes options world reach n m l k at at_m page a.need a.waits

  pub bases_law : BasesLaw program nodes options
  bases_law world made history = record {
    below = λ n keeper page l kept at at_k a.
        covered_by world made history n keeper page l kept at at_k a (its_bound world made history n keeper page l kept at at_k a);
    unnamed = λ n keeper page l kept x at at_k a between.
        unnamed_by world made history n keeper page l kept at at_k a (its_bound world made history n keeper page l kept at at_k a) x between
        (notice_of page x) refl;
  }

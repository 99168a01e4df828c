-- In every history the closed intervals name the pages that their nodes wrote in them, and have the changes that the acts made.
use Rattle.std.proofs.Common.{◌≡◌, ◌↔◌, ℕ, ◌<◌, List, [], ◌∷◌, ◌++◌, true, IsTrue, cond, length, refl, sym, ap, subst, ◌∙◌, ◌⊎◌, inl, inr, ⊎_elim}
use Rattle.std.specs.Prelude.{Option, Some, None, is_some, unwrap_or, ◌==◌, map, find, Contains, slice_get, slice_index}
use Rattle.std.proofs.lemmas.Bool.{cases_eq, eq-eqb, ne_eqb, false≢true}
use Rattle.std.proofs.lemmas.Option.{none-some}
use Rattle.std.proofs.lemmas.List.Elements.{Contains-append_left, Contains-append_cases}
use Rattle.lrc_program.specs.declared.Program.{Program}
use Rattle.lrc_page.specs.Page.{words_of}
use Rattle.lrc_store.specs.Store.{StoredRecord, NoticeRecord, interval_of, notice_of}
use Rattle.lrc_copies.specs.Page.{PageHistory, PageFits, IsClosedWith, page_below}
use Rattle.lrc_copies.specs.Stamps.{stamps_covered, covered, stamps_below, IsClosedAt}
use Rattle.lrc_copies.proofs.Members.{Contains-first, Contains-later, cases_Contains, none_Contains, Contains-filter, Contains-from_filter}
use Rattle.lrc_copies.proofs.Paging.{page_fits_more, page_fits_agreed}
use Rattle.lrc_copies.proofs.Stamping.{below-covered, not_below_itself, covered_below, below_covered}
use Rattle.lrc_protocol.specs.Pages.{written, copy_at}
use Rattle.lrc_protocol.specs.Node.{OptionsRecord}
use Rattle.lrc_protocol.specs.Run.{Input, EntryRecord, Logged, World, Flying, fresh_world, with_turn}
use Rattle.lrc_protocol.proofs.Worlds.{IsEntry}
use Rattle.lrc_protocol.proofs.Induction.{Comes}
use Rattle.lrc_order_laws.proofs.Reached.{IsReached}
use Rattle.lrc_reading_laws.specs.Written.{made_stamps, page_history}
use Rattle.lrc_reading_laws.specs.Acted.{WritesPage, HasChanges}
use Rattle.lrc_reading_laws.proofs.Laws.{TurnWrites, StampsLaw, WritesLaw, TurnsLaw, RequestsLaw, BasesLaw}
use Rattle.lrc_reading_laws.proofs.Written.Nodes.{twin_long}
use Rattle.lrc_reading_laws.proofs.Written.Notices.{noticed}
use Rattle.lrc_reading_laws.proofs.Fitting.Copies.{CopyFits}
use Rattle.lrc_reading_laws.proofs.Fitting.Worlds.{AreFit, TurnFits, wrote_in, closed-is, closed-at, turn-fits}
use Rattle.lrc_reading_laws.proofs.Fitting.Law.{all_fit}
use Rattle.lrc_reading_laws.proofs.Closed.History.{History, KeptByHistory, by_history, closed_record, closed_by}

-- ---- pages and notices

-- a page that is named has a notice
pub noticed_in : (page : ℕ) (notices : List NoticeRecord) → Contains (map (λ (notice : NoticeRecord). notice.page) notices) page
    → is_some (find (λ (notice : NoticeRecord). notice.page == page) notices) ≡ true
noticed_in page [] c = absurd (none_Contains page c)
noticed_in page (first ∷ notices) c =
    let rest : Option NoticeRecord = find (λ (notice : NoticeRecord). notice.page == page) notices in
    elim (cases_eq first.page page) [
      | inl same ↦ ap (λ b. is_some (cond b (Some first) rest)) (eq-eqb first.page page same)
      | inr other ↦
          ap (λ b. is_some (cond b (Some first) rest)) (ne_eqb first.page page other)
          ∙ noticed_in page notices
          (⊎_elim (λ (here : first.page ≡ page). absurd (other here))
          (λ (later : Contains (map (λ (notice : NoticeRecord). notice.page) notices) page). later)
          (cases_Contains first.page (map (λ (notice : NoticeRecord). notice.page) notices) page c))
    ]

-- and a page with a notice is named
pub named_in : (page : ℕ) (notices : List NoticeRecord) → is_some (find (λ (notice : NoticeRecord). notice.page == page) notices) ≡ true
    → Contains (map (λ (notice : NoticeRecord). notice.page) notices) page
named_in page [] some = absurd (false≢true some)
named_in page (first ∷ notices) some =
    let pages : List ℕ = map (λ (notice : NoticeRecord). notice.page) notices in
    let rest : Option NoticeRecord = find (λ (notice : NoticeRecord). notice.page == page) notices in
    elim (cases_eq first.page page) [
      | inl same ↦ subst (Contains (first.page ∷ pages)) same (Contains-first first.page pages)
      | inr other ↦
          Contains-later first.page pages page
          (named_in page notices (sym (ap (λ b. is_some (cond b (Some first) rest)) (ne_eqb first.page page other)) ∙ some))
    ]

pub some_or_none : (o : Option NoticeRecord) → (o ≡ None) ⊎ (is_some o ≡ true)
some_or_none None = inl refl
some_or_none (Some notice) = inr refl

-- ---- one turn

-- an interval whose node wrote the page in it, and has these changes of it
record IsChanged (options : OptionsRecord) (world : World) (made : List StoredRecord) (page : ℕ) (x : StoredRecord) : Type 0 where
  writes : WritesPage options.size world.acts page x
  has : HasChanges options.size world.acts made page x

module _ (program : Program) (nodes : ℕ) (options : OptionsRecord) (stamps : StampsLaw program nodes options) (writes : WritesLaw program nodes options)
    (turns : TurnsLaw program nodes options) (requests : RequestsLaw program nodes options) (bases : BasesLaw program nodes options) where
  module _ (world : World) (made : List StoredRecord) (flight : List Flying) (n : ℕ) (l after : Logged) (input : Input) (entry_made : EntryRecord)
      (at : slice_get world.nodes n ≡ Some l) (come : Comes world n input flight) (i : IsEntry l input entry_made after)
      (r : IsReached program nodes options world) (r' : IsReached program nodes options (with_turn world flight n entry_made after))
      (hist : History program nodes options world made) (page : ℕ) where
    abbrev now : World
    now = with_turn world flight n entry_made after

    abbrev new : List StoredRecord
    new = closed_by l.node after.node

    abbrev shut : StoredRecord
    shut = closed_record l.node

    abbrev before : PageHistory StoredRecord
    before = page_history options.size world.acts page

    abbrev then : PageHistory StoredRecord
    then = page_history options.size now.acts page

    turn : TurnWrites options made world now l.node new
    turn = turns world made flight n l after input entry_made at come i r r' hist

    fit : AreFit options made world
    fit = all_fit program nodes options stamps writes turns requests bases world made hist

    closed : IsClosedAt made_stamps nodes made l.node.locks.time shut
    closed = closed-at program nodes options stamps writes turns world made flight n l after input entry_made at come i r r' hist fit

    -- what the turn closes is below none of what was closed before, nor below itself
    new-above : (x a : StoredRecord) → Contains made x → Contains new a → IsTrue (stamps_below made_stamps a x) → ⊥
    new-above x a c fresh under =
        closed.unknown x c
        (below-covered made_stamps shut x
        (subst (λ y. IsTrue (stamps_below made_stamps y x)) (sym (closed-is l.node after.node a fresh)) under))

    new-itself : (a : StoredRecord) → Contains new a → IsTrue (stamps_below made_stamps a shut) → ⊥
    new-itself a fresh under =
        not_below_itself made_stamps shut
        (subst (λ y. IsTrue (stamps_below made_stamps y shut)) (sym (closed-is l.node after.node a fresh)) under)

    old-fits : (x : StoredRecord) (twin : List ℕ) → Contains made x → PageFits before twin (page_below before made x)
        → PageFits then twin (page_below then (made ++ new) x)
    old-fits x twin c fits =
        page_fits_more then twin (page_below before made x) (page_below then (made ++ new) x)
        (record {
          kept = λ a there.
              let parts = Contains-from_filter (λ b. stamps_below made_stamps b x) made a there in
              Contains-filter (λ b. stamps_below made_stamps b x) (made ++ new) a (Contains-append_left made new a parts.0) parts.1;
          more = λ a there.
              let parts = Contains-from_filter (λ b. stamps_below made_stamps b x) (made ++ new) a there in
              ⊎_elim
              (λ (old : Contains made a). inl (Contains-filter (λ b. stamps_below made_stamps b x) made a old parts.1))
              (λ (fresh : Contains new a). absurd (new-above x a c fresh parts.1))
              (Contains-append_cases made new a parts.0);
        })
        (page_fits_agreed before then twin (page_below before made x)
        (record {
          wrote = λ a offset there.
              (turn.stay page).wrote a offset (Contains-from_filter (λ b. stamps_below made_stamps b x) made a there).0;
          below = λ a b a_in b_in. refl;
        }) fits)

    shut-fits : (twin : List ℕ) → PageFits then twin (covered made_stamps l.node.locks.time made)
        → PageFits then twin (page_below then (made ++ new) shut)
    shut-fits twin fits =
        let time : List ℕ = l.node.locks.time in
        page_fits_more then twin (covered made_stamps time made) (page_below then (made ++ new) shut)
        (record {
          kept = λ a there.
              let parts = Contains-from_filter (stamps_covered made_stamps time) made a there in
              Contains-filter (λ b. stamps_below made_stamps b shut) (made ++ new) a (Contains-append_left made new a parts.0)
              (covered_below made_stamps nodes made time shut closed a parts.0 parts.1);
          more = λ a there.
              let parts = Contains-from_filter (λ b. stamps_below made_stamps b shut) (made ++ new) a there in
              ⊎_elim
              (λ (old : Contains made a).
              inl (Contains-filter (stamps_covered made_stamps time) made a old (below_covered made_stamps nodes made time shut closed a old parts.1)))
              (λ (fresh : Contains new a). absurd (new-itself a fresh parts.1))
              (Contains-append_cases made new a parts.0);
        }) fits

    -- an interval that was closed before
    old-changed : (x : StoredRecord) → Contains made x → IsChanged options world made page x → IsChanged options now (made ++ new) page x
    old-changed x c was = record {
      writes = record {
        offset = was.writes.offset;
        value = was.writes.value;
        within = was.writes.within;
        wrote = sym ((turn.stay page).wrote x was.writes.offset c) ∙ was.writes.wrote;
      };
      has = record {
        twin = was.has.twin;
        copy = was.has.copy;
        twin_long = was.has.twin_long;
        copy_long = was.has.copy_long;
        fits = old-fits x was.has.twin c was.has.fits;
        left = λ offset lt.
            was.has.left offset lt ∙ ap (λ o. unwrap_or o (slice_index was.has.twin offset)) ((turn.stay page).wrote x offset c);
        changes = was.has.changes;
      };
    }

    -- the interval that the turn closes
    new-changed : Contains new shut → is_some (notice_of page shut) ≡ true → IsChanged options now (made ++ new) page shut
    new-changed c some =
        let at_page : (values : List ℕ) × (twin : List ℕ) × (copy_at l.node.memory page ≡ written values twin) = noticed l.node page some in
        let values : List ℕ = at_page.0 in
        let twin : List ℕ = at_page.1 in
        let e : copy_at l.node.memory page ≡ written values twin = at_page.2 in
        let with_twin : IsClosedWith then shut twin values = turn.closes shut page values twin c e in
        let long : length twin ≡ words_of options.size = twin_long program nodes options world r n l at page values twin e in
        let fits : TurnFits options made new world now l after input =
        turn-fits program nodes options stamps writes turns world made flight n l after input entry_made at come i r r' hist fit in
        let whole : length values ≡ words_of options.size = sym with_twin.made.long ∙ long in
        record {
          writes = turn.writes shut page values twin c e;
          has = record {
            twin = twin;
            copy = values;
            twin_long = long;
            copy_long = whole;
            fits =
                shut-fits twin
                (subst (CopyFits (wrote_in options now.acts) made l.node.locks.time page) e ((fits.then_node n l at).copies page));
            left = λ offset lt. with_twin.made.has offset (subst (λ k. offset < k) (sym whole) lt);
            changes = with_twin.changes;
          };
        }

    changed-after : ((x : StoredRecord) → Contains made x → is_some (notice_of page x) ≡ true → IsChanged options world made page x)
        → (x : StoredRecord) → Contains (made ++ new) x → is_some (notice_of page x) ≡ true → IsChanged options now (made ++ new) page x
    changed-after was x c some =
        ⊎_elim
        (λ (old : Contains made x). old-changed x old (was x old some))
        (λ (fresh : Contains new x).
        let is : shut ≡ x = closed-is l.node after.node x fresh in
        subst (IsChanged options now (made ++ new) page) is
        (new-changed (subst (Contains new) (sym is) fresh) (subst (λ y. is_some (notice_of page y) ≡ true) (sym is) some)))
        (Contains-append_cases made new x c)

  -- ---- every history

  AreChanged : World → List StoredRecord → Type 0
  AreChanged world made =
      (page : ℕ) (x : StoredRecord) → Contains made x → is_some (notice_of page x) ≡ true → IsChanged options world made page x

  changed-kept : KeptByHistory program nodes options AreChanged
  unfolding AreChanged
  changed-kept world made flight n l after input entry_made at come i r r' hist was page =
      changed-after world made flight n l after input entry_made at come i r r' hist page (was page)

  changed-fresh : AreChanged (fresh_world program nodes options) []
  unfolding AreChanged
  changed-fresh page x c some = absurd (none_Contains x c)

  all_changed : (world : World) (made : List StoredRecord) → History program nodes options world made → (page : ℕ) (x : StoredRecord)
      → Contains made x → is_some (notice_of page x) ≡ true → IsChanged options world made page x
  unfolding AreChanged
  all_changed world made hist = by_history program nodes options AreChanged changed-fresh changed-kept world made hist

  -- a page that was written has a notice
  written-noticed : (world : World) (made : List StoredRecord) → History program nodes options world made → (x : StoredRecord) (page : ℕ)
      → Contains made x → WritesPage options.size world.acts page x → is_some (notice_of page x) ≡ true
  written-noticed world made hist x page c w =
      ⊎_elim
      (λ (none : notice_of page x ≡ None).
      absurd (none-some w.value (sym ((writes world made hist).named x page c none w.offset w.within) ∙ w.wrote)))
      (λ (some : is_some (notice_of page x) ≡ true). some)
      (some_or_none (notice_of page x))

  -- the pages that a closed interval names, and their changes
  pub named_by : (world : World) (made : List StoredRecord) → History program nodes options world made → (x : StoredRecord) (page : ℕ)
      → Contains made x → Contains (interval_of x).pages page ↔ WritesPage options.size world.acts page x
  named_by world made hist x page c = (
    λ there. (all_changed world made hist page x c (noticed_in page x.notices there)).writes,
    λ w. named_in page x.notices (written-noticed world made hist x page c w),
  )

  pub changed_by : (world : World) (made : List StoredRecord) → History program nodes options world made → (x : StoredRecord) (page : ℕ)
      → Contains made x → Contains (interval_of x).pages page → HasChanges options.size world.acts made page x
  changed_by world made hist x page c there = (all_changed world made hist page x c (noticed_in page x.notices there)).has

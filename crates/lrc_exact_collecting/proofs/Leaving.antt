-- What a collection leaves: of a page that was named since the last one its keeper's values, and of any other what was left before.
use Rattle.std.proofs.Common.{◌≡◌, ℕ, ◌<◌, ◌≤◌, ◌&&◌, List, [], Bool, true, false, inl, inr, refl, sym, ap, subst, ◌∙◌, arith}
use Rattle.std.specs.Prelude.{Option, Some, None, is_some, nat_lt, unwrap_or, option_and_then, if◌then◌else◌}
use Rattle.std.proofs.lemmas.Bool.{cases_Bool, lt-ltb, ltb-true}
use Rattle.lrc_page.specs.declared.size.Size.{Size}
use Rattle.lrc_page.specs.Page.{words_of}
use Rattle.lrc_page.specs.Place.{page_of}
use Rattle.lrc_time.specs.Time.{entry}
use Rattle.lrc_store.specs.Interval.{IntervalRecord, index_of}
use Rattle.lrc_store.specs.Store.{StoredRecord, NoticeRecord, interval_of, intervals_of, notice_of}
use Rattle.lrc_protocol.specs.Times.{is_named}
use Rattle.lrc_protocol.specs.Pages.{Memory}
use Rattle.lrc_reading_laws.specs.Written.{word_on}
use Rattle.lrc_reading_laws.proofs.Collected.Keepers.{names, Namer, namer_of, is_named_by}
use Rattle.lrc_reading_laws.proofs.Fitting.Repair.{named_is}
use Rattle.lrc_reading_laws.proofs.Stamped.Lists.{HasRecord, interval-in, interval-from}
use Rattle.lrc_reading_laws.proofs.Written.Pages.{page_of-word_on}
use Rattle.lrc_exact.specs.Memory.{Rank, Word}
use Rattle.lrc_exact.specs.Rule.{Shape, Knowledge, State, with_learned, keeper_of, kept_value}
use Rattle.lrc_exact_reading.proofs.Staleness.{keeper_among}
use Rattle.lrc_exact_made.specs.Copies.{shape_of, IsChangeBetween}
use Rattle.lrc_exact_made.proofs.Closing.{no_change}
use Rattle.lrc_exact_collected.specs.Keepers.{StoresWhatIsKnown}
use Rattle.lrc_exact_collected.proofs.Keepers.{writes, unnamed-keeper}
use Rattle.lrc_exact_pages.specs.Pages.{IsNamedBetween}
use Rattle.lrc_exact_collecting.specs.Left.{left_after}
use Rattle.lrc_exact_collecting.specs.Kept.{with_kept}

-- ---- who names a page

-- an interval that changed a page names it
pub change_names : (made : List StoredRecord) (page offset : ℕ) (since upto : List ℕ) (rank : Rank) (value : ℕ)
    → IsChangeBetween made page offset since upto rank value → IsNamedBetween made page since upto
change_names made page offset since upto rank value b =
    record { interval = b.interval; member = b.member; later = b.later; known = b.known; named = by_notice (notice_of page b.interval) refl }
  where
    by_notice : (o : Option NoticeRecord) → notice_of page b.interval ≡ o → is_some o ≡ true
    by_notice (Some notice) e = refl
    by_notice None e =
        absurd (no_change page offset value b.interval (ap (λ o. unwrap_or (option_and_then (λ (notice : NoticeRecord). notice.changes) o) []) e) b.changed)

module _ (size : Size) (nodes : ℕ) (made : List StoredRecord) (dropped : List ℕ) (all : Knowledge) (memory : Memory) (page : ℕ)
    (h : StoresWhatIsKnown size nodes made dropped all memory.store) where
  -- a page that a stored interval names has a keeper
  pub keeper_there : is_named (intervals_of memory.store) page ≡ true → keeper_of nodes dropped all page < nodes
  keeper_there named =
      let n : (node : ℕ) × Namer (intervals_of memory.store) page node = namer_of (intervals_of memory.store) page named in
      let w = writes size nodes made dropped all memory page h n.0 n.1 in
      keeper_among nodes dropped all page n.0 w.1 w.0

  pub nobody_there : is_named (intervals_of memory.store) page ≡ false → keeper_of nodes dropped all page ≡ nodes
  nobody_there none = (unnamed-keeper size nodes made dropped all memory page h none).0

  -- the stored intervals are those that came since
  pub stored_named : IsNamedBetween made page dropped all.time → is_named (intervals_of memory.store) page ≡ true
  stored_named b =
      is_named_by (intervals_of memory.store) page (interval_of b.interval)
      ((h.just (interval_of b.interval)).1 (interval-in made b.interval b.member, b.later, b.known))
      (named_is page b.interval.notices ∙ b.named)

  pub named_stored : is_named (intervals_of memory.store) page ≡ true → IsNamedBetween made page dropped all.time
  named_stored named =
      let n : (node : ℕ) × Namer (intervals_of memory.store) page node = namer_of (intervals_of memory.store) page named in
      let i : IntervalRecord = n.1.interval in
      let had = (h.just i).0 n.1.among in
      let x : HasRecord made i = interval-from made i had.0 in
      record {
        interval = x.x;
        member = x.in_list;
        later = subst (λ i. entry dropped i.node < index_of i) (sym x.is) had.1;
        known = subst (λ i. index_of i ≤ entry all.time i.node) (sym x.is) had.2;
        named = sym (named_is page x.x.notices) ∙ ap (names page) x.is ∙ n.1.named;
      }

-- ---- what is left

module _ (size : Size) (nodes collect : ℕ) (left : ℕ → ℕ) (all : Knowledge) (arrived : ℕ → Option State) (dropped : List ℕ) (page offset : ℕ)
    (lt : offset < words_of size) where
  abbrev shape : Shape
  shape = shape_of nodes size collect

  abbrev word : ℕ
  word = word_on size page offset

  abbrev by_keeper : ℕ → ℕ
  by_keeper keeper = if nat_lt keeper nodes then kept_value nodes all (arrived keeper) word else left word

  is_by : by_keeper (keeper_of nodes dropped all page) ≡ left_after shape dropped all arrived left word
  is_by = ap (λ p. by_keeper (keeper_of nodes dropped all p)) (sym (page_of-word_on size page offset lt))

  pub left_kept : keeper_of nodes dropped all page < nodes
      → left_after shape dropped all arrived left word ≡ kept_value nodes all (arrived (keeper_of nodes dropped all page)) word
  left_kept within =
      sym is_by
      ∙ ap (λ b. if b then kept_value nodes all (arrived (keeper_of nodes dropped all page)) word else left word)
      (lt-ltb (keeper_of nodes dropped all page) nodes within)

  pub left_still : keeper_of nodes dropped all page ≡ nodes → left_after shape dropped all arrived left word ≡ left word
  left_still nobody =
      sym is_by
      ∙ ap by_keeper nobody
      ∙ ap (λ b. if b then kept_value nodes all (arrived nodes) word else left word) (never nodes)
    where
      never : (n : ℕ) → nat_lt n n ≡ false
      never n = elim (cases_Bool (nat_lt n n)) [
        | inl less ↦ let impossible = ltb-true n n less in absurd (omega arith)
        | inr not ↦ not
      ]

-- of what a node keeps
pub left_own : (size : Size) (nodes collect : ℕ) (left : ℕ → ℕ) (me : ℕ) (state : State) (all : Knowledge) (arrived : ℕ → Option State)
    (kept : ℕ → Bool) (page offset : ℕ) → offset < words_of size
    → me < nodes → arrived me ≡ Some state → keeper_of nodes state.dropped all page ≡ me
    → ((with_kept (shape_of nodes size collect) kept (with_learned nodes all state)).words (word_on size page offset)).value
    ≡ left_after (shape_of nodes size collect) state.dropped all arrived left (word_on size page offset)
left_own size nodes collect left me state all arrived kept page offset lt among here own =
    looked_value ((with_learned nodes all state).words word)
    ((with_learned nodes all state).stale (page_of word size) && kept (page_of word size))
    ∙ ap (λ o. kept_value nodes all o word) (sym here)
    ∙ ap (λ k. kept_value nodes all (arrived k) word) (sym own)
    ∙ sym (left_kept size nodes collect left all arrived state.dropped page offset lt (subst (λ k. k < nodes) (sym own) among))
  where
    word : ℕ
    word = word_on size page offset

    looked_value : (word : Word) (b : Bool) → (if b then record word { mark = None } else word).value ≡ word.value
    looked_value word true = refl
    looked_value word false = refl

pub left_unnamed : (size : Size) (nodes collect : ℕ) (made : List StoredRecord) (left : ℕ → ℕ) (dropped : List ℕ) (all : Knowledge)
    (arrived : ℕ → Option State) (memory : Memory) (page offset : ℕ) → offset < words_of size
    → StoresWhatIsKnown size nodes made dropped all memory.store → is_named (intervals_of memory.store) page ≡ false
    → left_after (shape_of nodes size collect) dropped all arrived left (word_on size page offset) ≡ left (word_on size page offset)
left_unnamed size nodes collect made left dropped all arrived memory page offset lt stores none =
    left_still size nodes collect left all arrived dropped page offset lt (nobody_there size nodes made dropped all memory page stores none)

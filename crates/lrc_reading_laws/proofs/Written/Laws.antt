-- What closed intervals wrote stays what it was, and the interval that a turn closes has what its node's copies show: the laws
-- of writes, and of a turn's writes.
use Rattle.std.proofs.Common.{◌≡◌, ℕ, zero, suc, ◌+◌, ◌≤◌, List, [], ◌∷◌, ◌++◌, Bool, true, false, refl, sym}
use Rattle.std.proofs.Common.{ap, subst, ◌∙◌, ◌⊎◌, inl, inr, ⊎_elim, arith, append-nil}
use Rattle.std.specs.Prelude.{Option, Some, None, unwrap_or, ◌==◌, slice_index, Contains, slice_get, if◌then◌else◌}
use Rattle.std.specs.List.{cons_option}
use Rattle.std.proofs.lemmas.Bool.{cases_eq, eqb-false}
use Rattle.std.proofs.lemmas.Option.{same_Some}
use Rattle.std.proofs.lemmas.List.{map-append}
use Rattle.std.proofs.lemmas.List.Elements.{filter_map-append, Contains-append_cases}
use Rattle.lrc_program.specs.declared.Program.{Program}
use Rattle.lrc_trace.specs.declared.act.Deed.{Deed}
use Rattle.lrc_page.specs.Page.{words_of}
use Rattle.lrc_time.specs.Time.{entry}
use Rattle.lrc_exec.specs.Follows.{deeds_of}
use Rattle.lrc_copies.specs.Page.{IsUntouchedBy, IsMadeOf, IsClosedWith}
use Rattle.lrc_copies.specs.Stamps.{stamp_index}
use Rattle.lrc_store.specs.Store.{StoredRecord, notice_of}
use Rattle.lrc_protocol.specs.Pages.{written, copy_at}
use Rattle.lrc_protocol.specs.Node.{grant, OptionsRecord}
use Rattle.lrc_protocol.specs.Turn.{TurnRecord}
use Rattle.lrc_protocol.specs.Run.{Input, EntryRecord, Logged, World, Flying, with_turn}
use Rattle.lrc_protocol.specs.Follows.{turns_of, deeds_in}
use Rattle.lrc_protocol.proofs.Worlds.{IsEntry, get_set_same, get_set_other}
use Rattle.lrc_order_laws.specs.Counts.{closes, count, awaits_acquire}
use Rattle.lrc_order_laws.specs.Waiting.{FixesNext}
use Rattle.lrc_protocol.specs.Node.{next_in}
use Rattle.lrc_order_laws.proofs.Reached.{IsReached}
use Rattle.lrc_order_laws.proofs.Shift.{part_of, Shifted, ShiftedIf, shifts, deed_made}
use Rattle.lrc_reading_laws.specs.Written.{last_write, made_stamps, changes_on, word_on}
use Rattle.lrc_reading_laws.specs.Acted.{WritesPage}
use Rattle.lrc_reading_laws.proofs.Written.History.{page_history, open_record}
use Rattle.lrc_reading_laws.proofs.Closed.History.{History, KeptByHistory, by_history, reached_by, closed_record, closed_by}
use Rattle.lrc_reading_laws.proofs.Laws.{TurnWrites, WritesLaw, TurnsLaw}
use Rattle.lrc_reading_laws.proofs.Written.Deeds.{written_in, last_scanned, written-more}
use Rattle.lrc_reading_laws.proofs.Written.Nodes.{is_me, me_within, follows, fits, own, open_index, made_of_twin, writes_open, untouched_by_open}
use Rattle.lrc_reading_laws.proofs.Written.Notices.{closed_changes, closed_none, unnamed}
use Rattle.lrc_reading_laws.proofs.Written.Turns.{WritesNone, OwnMoves, acquires_next, awaits_some, own_moves}

-- the deeds after one turn more
deeds_more : (turns : List TurnRecord) (turn : TurnRecord) → deeds_in (turns ++ turn ∷ []) ≡ deeds_in turns ++ cons_option (deed_made turn) []
deeds_more turns turn = filter_map-append deed_made turns (turn ∷ [])

-- an interval that was closed: its node's own entry has counted it
record IsOld (world : World) (x : StoredRecord) : Type 0 where
  l : Logged
  at : slice_get world.nodes x.node ≡ Some l
  most : stamp_index made_stamps x ≤ entry l.node.locks.time x.node

abbrev AllOld : List StoredRecord → World → Type 0
AllOld made world = (x : StoredRecord) → Contains made x → IsOld world x

-- a page that one of these intervals does not name was not written in it
abbrev AreNamed : OptionsRecord → List StoredRecord → World → Type 0
AreNamed options made world = (x : StoredRecord) (page : ℕ) → Contains made x → notice_of page x ≡ None
    → IsUntouchedBy (page_history options.size world.acts page) (words_of options.size) x

-- ---- one turn of a node

module _ (program : Program) (nodes : ℕ) (options : OptionsRecord) (world : World) (flight : List Flying) (n : ℕ) (l after : Logged) (input : Input)
    (logged : EntryRecord) (at : slice_get world.nodes n ≡ Some l) (i : IsEntry l input logged after)
    (r : IsReached program nodes options world) (r' : IsReached program nodes options (with_turn world flight n logged after)) where
  abbrev next : World
  next = with_turn world flight n logged after

  there : slice_get next.nodes n ≡ Some after
  there = get_set_same world.nodes n l after at

  shifted : Shifted l.node logged.turn after.node
  shifted = subst (ShiftedIf l.node) i.turn_is (shifts l.node input)

  -- the own entry stays, or it is one greater and nothing was written
  moves : OwnMoves n l.node.locks.time (deed_made logged.turn) after.node.locks.time
  moves =
      subst (λ me. OwnMoves me l.node.locks.time (deed_made logged.turn) after.node.locks.time) (is_me program nodes options world r n l at)
      (own_moves (part_of l.node) (me_within program nodes options world r n l at) shifted.acts after.node.mail.wait after.node.locks
      after.node.barrier.episode (deed_made logged.turn) after.node.course shifted.shift shifted.moved)

  -- the deeds of the node, and of any other
  own_deeds : deeds_of n next.acts ≡ deeds_of n world.acts ++ cons_option (deed_made logged.turn) []
  own_deeds =
      (follows program nodes options next r' n after there).deeds
      ∙ ap (λ log. deeds_in (turns_of log)) i.log_is
      ∙ ap deeds_in (map-append (λ (x : EntryRecord). x.turn) l.log (logged ∷ []))
      ∙ deeds_more (turns_of l.log) logged.turn
      ∙ ap (λ ds. ds ++ cons_option (deed_made logged.turn) []) (sym (follows program nodes options world r n l at).deeds)

  other_deeds : (m : ℕ) (k : Logged) → (n ≡ m → ⊥) → slice_get world.nodes m ≡ Some k → deeds_of m next.acts ≡ deeds_of m world.acts
  other_deeds m k ne is =
      (follows program nodes options next r' m k (get_set_other world.nodes n m after ne ∙ is)).deeds
      ∙ sym (follows program nodes options world r m k is).deeds

  -- what the node wrote in an interval stays the same where the deed is in another, or writes nothing
  stays_by : (deed : Option Deed) (index word : ℕ)
      → (WritesNone deed ⊎ (1 + count closes (deeds_of n world.acts) ≡ index → ⊥))
      → written_in (deeds_of n world.acts ++ cons_option deed []) index word ≡ written_in (deeds_of n world.acts) index word
  stays_by None index word h = ap (λ ds. written_in ds index word) (append-nil (deeds_of n world.acts))
  stays_by (Some d) index word h =
      written-more index word (deeds_of n world.acts) d (λ e. ⊎_elim (λ (none : WritesNone (Some d)). none word) (λ ne. absurd (ne e)) h)

  stays : (index word : ℕ) → (WritesNone (deed_made logged.turn) ⊎ (1 + count closes (deeds_of n world.acts) ≡ index → ⊥))
      → last_write world.acts n index word ≡ last_write next.acts n index word
  stays index word h =
      last_scanned world.acts n index word
      ∙ sym (stays_by (deed_made logged.turn) index word h)
      ∙ ap (λ ds. written_in ds index word) (sym own_deeds)
      ∙ sym (last_scanned next.acts n index word)

  -- an interval that is closed is not the one that a write is in
  closed_apart : (index : ℕ) → index ≤ entry l.node.locks.time n
      → WritesNone (deed_made logged.turn) ⊎ (1 + count closes (deeds_of n world.acts) ≡ index → ⊥)
  closed_apart index le = elim (cases_eq (1 + count closes (deeds_of n world.acts)) index) [
    | inl e ↦
        let counted : entry l.node.locks.time n ≡ count closes (deeds_of n world.acts) + awaits_acquire l.node.mail.wait =
        own program nodes options world r n l at in
        let waits : (lock : ℕ) × (l.node.mail.wait ≡ grant lock) = awaits_some l.node.mail.wait (omega (arith, e, le, counted)) in
        inl (acquires_next shifted.acts l.node.course after.node.course (deed_made logged.turn) waits.0 shifted.moved
        (subst (λ w. FixesNext w (next_in l.node.course)) waits.1 (fits program nodes options world r n l at)))
    | inr ne ↦ inr ne
  ]

  stays_me : (index word : ℕ) → (WritesNone (deed_made logged.turn) ⊎ (1 + count closes (deeds_of n world.acts) ≡ index → ⊥))
      → last_write world.acts l.node.setting.me index word ≡ last_write next.acts l.node.setting.me index word
  stays_me index word h =
      subst (λ me. last_write world.acts me index word ≡ last_write next.acts me index word) (sym (is_me program nodes options world r n l at))
      (stays index word h)

  -- ---- the interval that is closed

  closed_one : (b : Bool) (x y : StoredRecord) → Contains (if b then [] else y ∷ []) x → (b ≡ false) × (x ≡ y)
  closed_one true x y (k, lt, e) = absurd (omega (arith, lt))
  closed_one false x y (zero, lt, e) = (refl, sym e)
  closed_one false x y (suc k, lt, e) = absurd (omega (arith, lt))

  -- its node's own entry is one greater after the turn, and its deed writes nothing
  record IsNew (x : StoredRecord) : Type 0 where
    is : x ≡ closed_record l.node
    rises : entry after.node.locks.time n ≡ entry l.node.locks.time n + 1
    none : WritesNone (deed_made logged.turn)

  closed_new : (x : StoredRecord) → Contains (closed_by l.node after.node) x → IsNew x
  closed_new x c =
      let me : ℕ = l.node.setting.me in
      let one : ((entry after.node.locks.time me == entry l.node.locks.time me) ≡ false) × (x ≡ closed_record l.node) =
      closed_one (entry after.node.locks.time me == entry l.node.locks.time me) x (closed_record l.node) c in
      let apart : entry after.node.locks.time n ≡ entry l.node.locks.time n → ⊥ =
      subst (λ k. entry after.node.locks.time k ≡ entry l.node.locks.time k → ⊥) (is_me program nodes options world r n l at)
      (eqb-false (entry after.node.locks.time me) (entry l.node.locks.time me) one.0) in
      elim moves [
        | inl same ↦ absurd (apart same)
        | inr more ↦ record { is = one.1; rises = more.0; none = more.1 }
      ]

  closes_with : (x : StoredRecord) (page : ℕ) (values twin : List ℕ) → Contains (closed_by l.node after.node) x
      → copy_at l.node.memory page ≡ written values twin → IsClosedWith (page_history options.size next.acts page) x twin values
  closes_with x page values twin c e =
      let new : IsNew x = closed_new x c in
      let open_page : IsMadeOf (page_history options.size world.acts page) (open_record l.node) twin values =
      made_of_twin program nodes options world r n l at page values twin e in
      subst (λ x. IsClosedWith (page_history options.size next.acts page) x twin values) (sym new.is)
      (record {
        made = record {
          long = open_page.long;
          has = λ offset lt.
              open_page.has offset lt
              ∙ ap (λ o. unwrap_or o (slice_index twin offset))
              (stays_me (stamp_index made_stamps (open_record l.node)) (word_on options.size page offset) (inl new.none));
        };
        changes = closed_changes l.node page values twin e;
      })

  closes_writing : (x : StoredRecord) (page : ℕ) (values twin : List ℕ) → Contains (closed_by l.node after.node) x
      → copy_at l.node.memory page ≡ written values twin → WritesPage options.size next.acts page x
  closes_writing x page values twin c e =
      let new : IsNew x = closed_new x c in
      let writes : WritesPage options.size world.acts page (open_record l.node) = writes_open program nodes options world r n l at page values twin e in
      subst (WritesPage options.size next.acts page) (sym new.is)
      (record {
        offset = writes.offset;
        value = writes.value;
        within = writes.within;
        wrote =
            sym (stays_me (stamp_index made_stamps (open_record l.node)) (word_on options.size page writes.offset) (inl new.none))
            ∙ writes.wrote;
      })

  leaves_alone : (x : StoredRecord) (page : ℕ) → Contains (closed_by l.node after.node) x
      → ((values twin : List ℕ) → copy_at l.node.memory page ≡ written values twin → ⊥)
      → IsUntouchedBy (page_history options.size next.acts page) (words_of options.size) x × (changes_on page x ≡ [])
  leaves_alone x page c none =
      let new : IsNew x = closed_new x c in
      subst (λ x. IsUntouchedBy (page_history options.size next.acts page) (words_of options.size) x × (changes_on page x ≡ [])) (sym new.is) (
        λ offset lt.
            sym (stays_me (stamp_index made_stamps (open_record l.node)) (word_on options.size page offset) (inl new.none))
            ∙ untouched_by_open program nodes options world r n l at page none offset lt,
        closed_none l.node page none,
      )

  -- ---- intervals that were closed before

  old_kept : (x : StoredRecord) → IsOld world x → IsOld next x
  old_kept x old = elim (cases_eq n x.node) [
    | inl e ↦
        let same : l ≡ old.l = same_Some l old.l (sym at ∙ ap (slice_get world.nodes) e ∙ old.at) in
        let bound : stamp_index made_stamps x ≤ entry l.node.locks.time n =
        subst (λ k. stamp_index made_stamps x ≤ entry l.node.locks.time k) (sym e)
        (subst (λ (l : Logged). stamp_index made_stamps x ≤ entry l.node.locks.time x.node) (sym same) old.most) in
        record {
          l = after;
          at = ap (slice_get next.nodes) (sym e) ∙ there;
          most = subst (λ k. stamp_index made_stamps x ≤ entry after.node.locks.time k) e
              (elim moves [ inl stands ↦ omega (arith, bound, stands) | inr more ↦ omega (arith, bound, more.0) ]);
        }
    | inr ne ↦ record { l = old.l; at = get_set_other world.nodes n x.node after ne ∙ old.at; most = old.most }
  ]

  new_old : (x : StoredRecord) → Contains (closed_by l.node after.node) x → IsOld next x
  new_old x c =
      let new : IsNew x = closed_new x c in
      let me : l.node.setting.me ≡ n = is_me program nodes options world r n l at in
      subst (IsOld next) (sym new.is)
      (record {
        l = after;
        at = ap (slice_get next.nodes) me ∙ there;
        most = subst (λ k. stamp_index made_stamps (open_record l.node) ≤ entry after.node.locks.time k) (sym me)
            (let index : _ = open_index program nodes options world r n l at in omega (arith, index, new.rises));
      })

  old_stays : (x : StoredRecord) (word : ℕ) → IsOld world x
      → last_write world.acts x.node (stamp_index made_stamps x) word ≡ last_write next.acts x.node (stamp_index made_stamps x) word
  old_stays x word old = elim (cases_eq n x.node) [
    | inl e ↦
        let same : l ≡ old.l = same_Some l old.l (sym at ∙ ap (slice_get world.nodes) e ∙ old.at) in
        let bound : stamp_index made_stamps x ≤ entry l.node.locks.time n =
        subst (λ k. stamp_index made_stamps x ≤ entry l.node.locks.time k) (sym e)
        (subst (λ (l : Logged). stamp_index made_stamps x ≤ entry l.node.locks.time x.node) (sym same) old.most) in
        subst (λ k. last_write world.acts k (stamp_index made_stamps x) word ≡ last_write next.acts k (stamp_index made_stamps x) word) e
        (stays (stamp_index made_stamps x) word (closed_apart (stamp_index made_stamps x) bound))
    | inr ne ↦
        last_scanned world.acts x.node (stamp_index made_stamps x) word
        ∙ ap (λ ds. written_in ds (stamp_index made_stamps x) word) (sym (other_deeds x.node old.l ne old.at))
        ∙ sym (last_scanned next.acts x.node (stamp_index made_stamps x) word)
  ]

  turn_writes : (made : List StoredRecord) → AllOld made world → TurnWrites options made world next l.node (closed_by l.node after.node)
  turn_writes made old = record {
    stay = λ page. record {
      wrote = λ x offset c. old_stays x (word_on options.size page offset) (old x c);
      below = λ a b c d. refl;
    };
    closes = closes_with;
    writes = closes_writing;
    leaves = leaves_alone;
  }

  old_after : (made : List StoredRecord) → AllOld made world → AllOld (made ++ closed_by l.node after.node) next
  old_after made old x c =
      ⊎_elim (λ before. old_kept x (old x before)) (λ closed. new_old x closed)
      (Contains-append_cases made (closed_by l.node after.node) x c)

  named_after : (made : List StoredRecord) → AllOld made world → AreNamed options made world
      → AreNamed options (made ++ closed_by l.node after.node) next
  named_after made old named x page c none =
      ⊎_elim
      (λ before offset lt. sym (old_stays x (word_on options.size page offset) (old x before)) ∙ named x page before none offset lt)
      (λ closed.
      let new : IsNew x = closed_new x closed in
      (leaves_alone x page closed (unnamed l.node page (subst (λ x. notice_of page x ≡ None) new.is none))).0)
      (Contains-append_cases made (closed_by l.node after.node) x c)

-- ---- every history

module _ (program : Program) (nodes : ℕ) (options : OptionsRecord) where
  Kept : World → List StoredRecord → Type 0
  Kept world made = AllOld made world × AreNamed options made world

  kept_by : KeptByHistory program nodes options Kept
  unfolding Kept
  kept_by world made flight n l after input logged at comes i r r' h k = (
    old_after program nodes options world flight n l after input logged at i r r' made k.0,
    named_after program nodes options world flight n l after input logged at i r r' made k.0 k.1,
  )

  kept_all : (world : World) (made : List StoredRecord) → History program nodes options world made → Kept world made
  unfolding Kept
  kept_all world made h =
      by_history program nodes options Kept (λ x c. absurd (omega (arith, c.1)), λ x page c. absurd (omega (arith, c.1))) kept_by world made h

  -- what was written in the intervals of a run, closed and open
  pub writes_law : WritesLaw program nodes options
  unfolding Kept
  writes_law world made h =
      let r : IsReached program nodes options world = reached_by program nodes options world made h in
      record {
        named = (kept_all world made h).1;
        written_here = λ n l page values twin at e. made_of_twin program nodes options world r n l at page values twin e;
        untouched = λ n l page at none. untouched_by_open program nodes options world r n l at page none;
      }

  -- what a turn changes of it, and closes
  pub turns_law : TurnsLaw program nodes options
  unfolding Kept
  turns_law world made flight n l after input logged at comes i r r' h =
      turn_writes program nodes options world flight n l after input logged at i r r' made (kept_all world made h).0

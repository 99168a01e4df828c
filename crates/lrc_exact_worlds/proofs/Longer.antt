-- What holds of a node, and of what is known, stays as other nodes close intervals.
use Rattle.std.proofs.Common.{◌≡◌, ℕ, ◌+◌, ◌≤◌, List, [], ◌∷◌, ◌++◌, Bool, true, false, map, inl, inr, sym, ap, subst, ◌∙◌, arith, append-nil}
use Rattle.std.specs.Prelude.{Option, ◌==◌, slice_index, if◌then◌else◌}
use Rattle.std.proofs.lemmas.List.Elements.{Contains-append_left, Contains-push_cases}
use Rattle.lrc_time.specs.Time.{entry}
use Rattle.lrc_page.specs.declared.size.Size.{Size}
use Rattle.lrc_store.specs.Interval.{index_of}
use Rattle.lrc_store.specs.Interval.{IntervalRecord}
use Rattle.lrc_store.specs.Store.{StoredRecord, interval_of}
use Rattle.lrc_copies.specs.Stamps.{stamp_index}
use Rattle.lrc_protocol.specs.Pages.{Copy, valid, written, invalid, absent, Memory, copy_at}
use Rattle.lrc_protocol.specs.Node.{Wait, Node}
use Rattle.lrc_reading_laws.specs.Written.{made_stamps, word_on}
use Rattle.lrc_reading_laws.proofs.Closed.History.{closed_record, closed_by}
use Rattle.lrc_reading_laws.proofs.Closed.Stored.{Member}
use Rattle.lrc_reading_laws.proofs.Stamped.Cuts.{IsFull, Counted}
use Rattle.lrc_reading_laws.proofs.Stamped.Lists.{HasRecord, interval-from, own_between}
use Rattle.lrc_exact.specs.Memory.{Word}
use Rattle.lrc_exact.specs.Rule.{Knowledge, State}
use Rattle.lrc_exact_known.specs.Learned.{TakesHighest}
use Rattle.lrc_exact_marks.proofs.Ranks.{by_other_words}
use Rattle.lrc_exact_made.specs.Copies.{AreExactly, IsChangeBetween, unmarked, HasWord, HasExact}
use Rattle.lrc_exact_made.specs.Steps.{IsAmong}
use Rattle.lrc_exact_pages.specs.Pages.{HasPage, HasPages, IsNamedBetween}
use Rattle.lrc_exact_turns.proofs.Stands.{KnowsMade, Stands}

-- a time that covers only what was closed reaches no further
pub reaches : (made : List StoredRecord) (time : List ℕ) → IsFull made time → (q k : ℕ) → 1 ≤ k → k ≤ entry time q → IsAmong made q k
reaches made time full q k some most =
    let m : Member q k (map interval_of made) = full.reach q k some most in
    let r : HasRecord made m.i = interval-from made m.i m.in_list in
    record {
      interval = r.x;
      member = r.in_list;
      node_is = ap (λ (i : IntervalRecord). i.node) r.is ∙ m.node_is;
      index_is = ap index_of r.is ∙ m.index_is;
    }

-- so it does not reach an interval that is still to be closed
pub not_reached : (made : List StoredRecord) (time : List ℕ) (n : ℕ) (x : StoredRecord)
    → ((q k : ℕ) → 1 ≤ k → k ≤ entry time q → IsAmong made q k) → Counted made x.node n → stamp_index made_stamps x ≡ n + 1
    → stamp_index made_stamps x ≤ entry time x.node → ⊥
not_reached made time n x reach counted index known =
    let it : IsAmong made x.node (n + 1) = reach x.node (n + 1) (omega arith) (omega arith) in
    let most = (own_between made x.node n it.interval counted it.member it.node_is).1 in
    let is = it.index_is in
    omega arith

module _ (size : Size) (made : List StoredRecord) (x : StoredRecord) where
  abbrev all : List StoredRecord
  all = made ++ x ∷ []

  exactly_longer : (knows : Knowledge) → (stamp_index made_stamps x ≤ entry knows.time x.node → ⊥) → AreExactly size made knows → AreExactly size all knows
  exactly_longer knows unknown h = record {
    each = λ y member known.
        elim (Contains-push_cases made x y member) [
          | inl old ↦ h.each y old known
          | inr new ↦ absurd (unknown (subst (λ (z : StoredRecord). stamp_index made_stamps z ≤ entry knows.time z.node) (sym new) known))
        ];
  }

  among_longer : (q k : ℕ) → IsAmong made q k → IsAmong all q k
  among_longer q k it = record {
    interval = it.interval;
    member = Contains-append_left made (x ∷ []) it.interval it.member;
    node_is = it.node_is;
    index_is = it.index_is;
  }

  knows_longer : (knows : Knowledge) → (stamp_index made_stamps x ≤ entry knows.time x.node → ⊥) → KnowsMade size made knows → KnowsMade size all knows
  knows_longer knows unknown h = record {
    exactly = exactly_longer knows unknown h.exactly;
    reach = λ q k some most. among_longer q k (h.reach q k some most);
  }

  takes_longer : (page offset : ℕ) (since time : List ℕ) → (stamp_index made_stamps x ≤ entry time x.node → ⊥) → (base word : Word)
      → TakesHighest (IsChangeBetween made page offset since time) base word → TakesHighest (IsChangeBetween all page offset since time) base word
  takes_longer page offset since time unknown base word f =
      by_other_words (IsChangeBetween made page offset since time) (IsChangeBetween all page offset since time) base word
      (λ rank value b. record {
        interval = b.interval;
        member = Contains-append_left made (x ∷ []) b.interval b.member;
        later = b.later;
        known = b.known;
        ranked = b.ranked;
        changed = b.changed;
      })
      (λ rank value b.
      elim (Contains-push_cases made x b.interval b.member) [
        | inl old ↦ record { interval = b.interval; member = old; later = b.later; known = b.known; ranked = b.ranked; changed = b.changed }
        | inr new ↦ absurd (unknown (subst (λ (z : StoredRecord). stamp_index made_stamps z ≤ entry time z.node) (sym new) b.known))
      ]) f

  named_longer : (page : ℕ) (since time : List ℕ) → IsNamedBetween made page since time → IsNamedBetween all page since time
  named_longer page since time b = record {
    interval = b.interval;
    member = Contains-append_left made (x ∷ []) b.interval b.member;
    later = b.later;
    known = b.known;
    named = b.named;
  }

  named_shorter : (page : ℕ) (since time : List ℕ) → (stamp_index made_stamps x ≤ entry time x.node → ⊥) → IsNamedBetween all page since time
      → IsNamedBetween made page since time
  named_shorter page since time unknown b =
      elim (Contains-push_cases made x b.interval b.member) [
        | inl old ↦ record { interval = b.interval; member = old; later = b.later; known = b.known; named = b.named }
        | inr new ↦ absurd (unknown (subst (λ (z : StoredRecord). stamp_index made_stamps z ≤ entry time z.node) (sym new) b.known))
      ]

  page_longer : (fixed : ℕ → ℕ) (gone time : List ℕ) (page : ℕ) (copy : Copy) (state : State) → (stamp_index made_stamps x ≤ entry time x.node → ⊥)
      → HasPage size made fixed gone time page copy state → HasPage size all fixed gone time page copy state
  page_longer fixed gone time page (valid values) state unknown f = f
  page_longer fixed gone time page (written values twin) state unknown f = f
  page_longer fixed gone time page (invalid values since) state unknown f = f
  page_longer fixed gone time page absent state unknown f = (
    λ offset lt. takes_longer page offset gone time unknown (unmarked (fixed offset)) (state.words (word_on size page offset)) (f.0 offset lt),
    (λ is. named_longer page gone time (f.1.0 is), λ b. f.1.1 (named_shorter page gone time unknown b)),
  )

  word_longer : (time : List ℕ) (page offset : ℕ) (copy : Copy) (word : Word) (before : Option ℕ) → (stamp_index made_stamps x ≤ entry time x.node → ⊥)
      → HasWord made time page offset copy word before → HasWord all time page offset copy word before
  word_longer time page offset (valid values) word before unknown f = f
  word_longer time page offset (written values twin) word before unknown f = f
  word_longer time page offset (invalid values since) word before unknown f =
      (takes_longer page offset since time unknown (unmarked (slice_index values offset)) word f.0, f.1)
  word_longer time page offset absent word before unknown f = f

  exact_longer : (time : List ℕ) (memory : Memory) (state : State) → (stamp_index made_stamps x ≤ entry time x.node → ⊥)
      → HasExact size made time memory state → HasExact size all time memory state
  exact_longer time memory state unknown h = record {
    time_is = h.time_is;
    copies = λ page offset lt.
        word_longer time page offset (copy_at memory page) (state.words (word_on size page offset)) (state.before (word_on size page offset)) unknown
        (h.copies page offset lt);
    written = h.written;
    knows = exactly_longer state.knows (λ known. unknown (subst (λ t. stamp_index made_stamps x ≤ entry t x.node) h.time_is known)) h.knows;
  }

  pages_longer : (fixed : ℕ → ℕ → ℕ) (time : List ℕ) (memory : Memory) (state : State) → (stamp_index made_stamps x ≤ entry time x.node → ⊥)
      → HasPages size made fixed time memory state → HasPages size all fixed time memory state
  pages_longer fixed time memory state unknown h = record {
    exact = exact_longer time memory state unknown h.exact;
    dropped_is = h.dropped_is;
    pages = λ page lt. page_longer (fixed page) memory.collected time page (copy_at memory page) state unknown (h.pages page lt);
  }

-- with what a turn closes
module _ (size : Size) (made : List StoredRecord) (node after : Node) where
  abbrev closed_if : Bool → List StoredRecord
  closed_if b = if b then [] else closed_record node ∷ []

  abbrev same_entry : Bool
  same_entry = entry after.locks.time node.setting.me == entry node.locks.time node.setting.me

  pub knows_more : (knows : Knowledge)
      → (stamp_index made_stamps (closed_record node) ≤ entry knows.time node.setting.me → ⊥) → KnowsMade size made knows
      → KnowsMade size (made ++ closed_by node after) knows
  knows_more knows unknown h = by_test same_entry
    where
      by_test : (b : Bool) → KnowsMade size (made ++ closed_if b) knows
      by_test true = subst (λ all. KnowsMade size all knows) (sym (append-nil made)) h
      by_test false = knows_longer size made (closed_record node) knows unknown h

  pub stands_more : (nodes collect : ℕ) (left later : ℕ → ℕ) (known : Knowledge) (me : ℕ) (time : List ℕ) (wait : Wait) (memory : Memory) (state : State)
      → (stamp_index made_stamps (closed_record node) ≤ entry time node.setting.me → ⊥)
      → Stands size nodes collect made left later known me time wait memory state
      → Stands size nodes collect (made ++ closed_by node after) left later known me time wait memory state
  stands_more nodes collect left later known me time wait memory state unknown h = by_test same_entry
    where
      by_test : (b : Bool) → Stands size nodes collect (made ++ closed_if b) left later known me time wait memory state
      by_test true = subst (λ all. Stands size nodes collect all left later known me time wait memory state) (sym (append-nil made)) h
      by_test false = record {
        pages = pages_longer size made (closed_record node) _ time memory _ unknown h.pages;
        bases = h.bases;
        needs = h.needs;
        own = h.own;
      }

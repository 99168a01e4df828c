-- A node whose collection is over drops what was collected: for an invalid copy stands what the collection left, and its base copies have that.
use Rattle.std.proofs.Common.{◌≡◌, ℕ, ◌<◌, ◌&&◌, List, [], ◌∷◌, Bool, true, false, length, refl, sym, ap, subst, ◌∙◌, inl, inr, arith}
use Rattle.std.specs.Prelude.{◌==◌, Option, Some, None, Contains, not, if◌then◌else◌}
use Rattle.std.specs.List.{list_any, range_with_len}
use Rattle.std.proofs.lemmas.Bool.{cases_Bool, and_from, and_parts, or_cases, or_left, or_right, eqb-true, eq-eqb, false≢true}
use Rattle.std.proofs.lemmas.List.Elements.{All-nil}
use Rattle.lrc_page.specs.declared.size.Size.{Size}
use Rattle.lrc_store.specs.Store.{StoredRecord, intervals_of, is_missing}
use Rattle.lrc_store.proofs.Orders.{filter-Contains}
use Rattle.lrc_protocol.specs.Times.{is_named}
use Rattle.lrc_protocol.specs.Pages.{invalid, is_readable, Memory, copy_at, keeper_at}
use Rattle.lrc_protocol.specs.Barriers.{Collection, base_at, kept_pages, after_collection}
use Rattle.lrc_protocol.specs.Node.{nothing, discard}
use Rattle.lrc_node_laws.specs.Needs.{FitsKept}
use Rattle.lrc_node_laws.specs.Ranges.{CollectsAt}
use Rattle.lrc_node_laws.specs.Remembered.{IsBetween}
use Rattle.lrc_node_laws.proofs.Change.{View, view_of}
use Rattle.lrc_node_laws.proofs.Lists.{length-placed}
use Rattle.lrc_node_laws.proofs.Needs.{any_fits}
use Rattle.lrc_node_laws.proofs.Tokened.{come_to}
use Rattle.lrc_reading_laws.specs.Written.{word_on}
use Rattle.lrc_reading_laws.proofs.Closed.Stored.{in_range}
use Rattle.lrc_reading_laws.proofs.Fitting.Copies.{base-within}
use Rattle.lrc_reading_laws.proofs.Fitting.First.{list_any-in, placed-base}
use Rattle.lrc_reading_laws.proofs.Fitting.Later.{AtView, at_view}
use Rattle.lrc_exact.specs.Rule.{Shape, Knowledge, State, with_learned, collected}
use Rattle.lrc_exact_made.specs.Copies.{shape_of}
use Rattle.lrc_exact_collected.specs.Keepers.{StoresWhatIsKnown}
use Rattle.lrc_exact_pages.specs.Pages.{HasPages}
use Rattle.lrc_exact_collecting.specs.Left.{left_after}
use Rattle.lrc_exact_collecting.specs.Kept.{IsDiscarding}
use Rattle.lrc_exact_collecting.proofs.Discarding.{discards_pages}
use Rattle.lrc_exact_collecting.proofs.Leaving.{left_unnamed}
use Rattle.lrc_exact_turns.specs.Laws.{StandsOnceDiscarded}
use Rattle.lrc_exact_turns.proofs.Stands.{is_among, IsLeft, NeedIsLeft, Stands}

any-weaker : {X : Type 0} (p q : X → Bool) → ((x : X) → p x ≡ true → q x ≡ true) → (xs : List X) → list_any p xs ≡ true → list_any q xs ≡ true
any-weaker p q says [] e = absurd (false≢true e)
any-weaker p q says (x ∷ xs) e =
    elim (or_cases (p x) (list_any p xs) e) [
      | inl here ↦ or_left (q x) (list_any q xs) (says x here)
      | inr later ↦ or_right (q x) (list_any q xs) (any-weaker p q says xs later)
    ]

no_base_left : (values : List ℕ) → None ≡ Some values → ⊥
no_base_left values e = cc

module _ (nodes collect : ℕ) (made : List StoredRecord) (left later : ℕ → ℕ) (all : Knowledge) (arrived : ℕ → Option State) (state : State) (v : View)
    (a : AtView v) (collection : Collection) (w : v.wait ≡ discard collection) (time_is : all.time ≡ v.time)
    (stores : StoresWhatIsKnown v.size nodes made v.memory.collected all v.memory.store) (among : v.setting.me < nodes)
    (here : arrived v.setting.me ≡ Some state) (later_is : later ≡ left_after (shape_of nodes v.size collect) state.dropped all arrived left)
    (h : Stands v.size nodes collect made left later all v.setting.me v.time (discard collection) v.memory state) where
  abbrev size : Size
  size = v.size

  abbrev me : ℕ
  me = v.setting.me

  abbrev shape : Shape
  shape = shape_of nodes size collect

  abbrev kept : ℕ → Bool
  kept = is_among collection.kept

  its_kept : FitsKept me v.memory (discard collection)
  its_kept = subst (FitsKept me v.memory) w a.needed.kept

  ends_now : all.time ≡ collection.time
  ends_now =
      let its : CollectsAt v.time (discard collection) = subst (CollectsAt v.time) w a.ranged.present in
      time_is ∙ sym its

  missing_named : (page : ℕ) (values since : List ℕ) → copy_at v.memory page ≡ invalid values since → is_named (intervals_of v.memory.store) page ≡ true
  missing_named page values since e =
      let between : IsBetween v.time v.memory page (invalid values since) = subst (IsBetween v.time v.memory page) e (a.between page) in
      any-weaker (is_missing page since) (λ interval. list_any (λ named. named == page) interval.pages)
      (λ i missing. (and_parts (list_any (λ named. named == page) i.pages) _ missing).0) (intervals_of v.memory.store) between.2

  discarding : IsDiscarding size nodes made me v.time v.memory state all arrived kept
  discarding = record {
    time_is = time_is;
    stores = stores;
    among = among;
    here = here;
    own = h.own;
    readable = λ page e.
        any_fits (λ k. is_readable (copy_at v.memory k) ≡ true) (λ k. k == page) (is_readable (copy_at v.memory page) ≡ true)
        (λ k r there. subst (λ p. is_readable (copy_at v.memory p) ≡ true) (eqb-true k page there) r) collection.kept its_kept.1 e;
    named = missing_named;
  }

  abbrev after : Memory
  after = after_collection me collection.time v.memory

  then_pages : HasPages size made (λ page offset. later (word_on size page offset)) v.time after (collected shape all arrived (with_learned nodes all state))
  then_pages =
      subst (λ (f : ℕ → ℕ). HasPages size made (λ page offset. f (word_on size page offset)) v.time after (collected shape all arrived (with_learned nodes all state)))
      (sym later_is)
      (subst (λ t. HasPages size made (λ page offset. left_after shape state.dropped all arrived left (word_on size page offset)) v.time
      (after_collection me t v.memory) (collected shape all arrived (with_learned nodes all state))) ends_now
      (discards_pages size nodes collect made left me v.time v.memory state all arrived kept h.pages discarding))

  -- ---- base copies

  -- a page that the node keeps, but not anew, was named by no interval since the last collection
  not_named : (page : ℕ) → page < length v.memory.keepers → (keeper_at v.memory page == me) ≡ true → kept page ≡ false
      → is_named (intervals_of v.memory.store) page ≡ false
  not_named page lt mine none =
      elim (cases_Bool (is_named (intervals_of v.memory.store) page)) [
        | inl named ↦
            let there : Contains (range_with_len 0 (length v.memory.keepers)) page =
            in_range 0 (length v.memory.keepers) page (omega arith) (omega arith) in
            let is_kept : Contains (kept_pages me v.memory) page =
            (filter-Contains (λ page. is_named (intervals_of v.memory.store) page && (keeper_at v.memory page == me))
            (range_with_len 0 (length v.memory.keepers)) page).1
            (there, and_from (is_named (intervals_of v.memory.store) page) (keeper_at v.memory page == me) named mine) in
            absurd (false≢true (sym none
            ∙ list_any-in (λ k. k == page) collection.kept page (subst (λ l. Contains l page) (sym its_kept.0) is_kept) (eq-eqb page page refl)))
        | inr not ↦ not
      ]

  mine-left : (page : ℕ) (values : List ℕ) → page < length v.memory.keepers → (keeper_at v.memory page == me) ≡ true → (b : Bool) → kept page ≡ b
      → IsLeft size (if b then later else left) page values → IsLeft size later page values
  mine-left page values lt mine true is f offset within = f offset within
  mine-left page values lt mine false none f offset within =
      f offset within
      ∙ sym (left_unnamed size nodes collect made left v.memory.collected all arrived v.memory page offset within stores (not_named page lt mine none))
      ∙ ap (λ gone. left_after shape gone all arrived left (word_on size page offset)) (sym h.pages.dropped_is)
      ∙ ap (λ f. f (word_on size page offset)) (sym later_is)

  then_left : (page : ℕ) (values : List ℕ) → page < length v.memory.bases → (b : Bool) → (keeper_at v.memory page == me) ≡ b
      → (if b then base_at v.memory page else None) ≡ Some values → IsLeft size later page values
  then_left page values lt true mine e =
      let bases = a.ranged.memory.bases in
      let keepers = a.ranged.memory.keepers in
      mine-left page values (omega arith) mine (kept page) refl (h.bases page values e)
  then_left page values lt false mine e = absurd (no_base_left values e)

  pub discards_so : (later' : ℕ → ℕ) (all' : Knowledge)
      → Stands size nodes collect made later later' all' me v.time nothing after (collected shape all arrived (with_learned nodes all state))
  discards_so later' all' =
      let f : ℕ × Option (List ℕ) → Option (List ℕ) = λ place. if keeper_at v.memory place.0 == me then place.1 else None in
      record {
        pages = then_pages;
        bases = λ page values e.
            let within : page < length after.bases = base-within after page values e in
            let long = length-placed f v.memory.bases in
            let lt : page < length v.memory.bases = omega arith in
            then_left page values lt (keeper_at v.memory page == me) refl (sym (placed-base f v.memory.bases page lt) ∙ e);
        needs = All-nil (NeedIsLeft size later);
        own = tt;
      }

-- a reached node
pub reached_discards : StandsOnceDiscarded
reached_discards nodes collect made left later all arrived state node collection next known r w time_is stores among here later_is h =
    discards_so nodes collect made left later all arrived state (view_of node)
    (at_view r.program r.nodes r.options r.me r.leads.among (view_of node) (come_to node r).walked) collection w time_is stores among here later_is h next known

-- What the manager of barriers notes of each node's newest arrival, as arrivals are kept.
use Rattle.std.proofs.Common.{◌≡◌, ℕ, ◌+◌, ◌-◌, ◌<◌, false, length, refl, sym, ap, subst, ◌∙◌, inl, inr}
use Rattle.std.specs.Prelude.{Option, Some, None, is_some, slice_index_or, slice_set}
use Rattle.std.specs.List.{range_with_len}
use Rattle.std.proofs.lemmas.Bool.{cases_eq}
use Rattle.std.proofs.lemmas.List.{get_or-set_same, get_or-set_other}
use Rattle.lrc_time.specs.Time.{entry}
use Rattle.lrc_barrier.specs.declared.arrival.Arrival.{Arrival}
use Rattle.lrc_barrier.specs.Barrier.{ManagerRecord, with_arrival, has_arrived}
use Rattle.lrc_order_laws.proofs.Managers.{Places}
use Rattle.lrc_order_laws.proofs.Arrivals.{get_set}
use Rattle.lrc_reading_laws.proofs.Asked.Departs.{IsOwn}

-- of a node with no arrival kept, what it told by the end of the former episode; of any other its arrival, with its own intervals
-- since then
pub record Notes (former : ℕ → ℕ) (manager : ManagerRecord) : Type 0 where
  pub free : (q : ℕ) → slice_index_or manager.arrivals q None ≡ None → entry manager.last q ≡ former q
  pub kept : (q : ℕ) (a : Arrival) → slice_index_or manager.arrivals q None ≡ Some a
      → IsOwn former (entry a.time) q a.intervals × (entry manager.last q ≡ entry a.time q)

pub notes-stay : (former : ℕ → ℕ) (before after : ManagerRecord) → after.last ≡ before.last → after.arrivals ≡ before.arrivals → Notes former before
    → Notes former after
notes-stay former before after l a h = record {
  free = λ q e. ap (λ last. entry last q) l ∙ h.free q (ap (λ xs. slice_index_or xs q None) (sym a) ∙ e);
  kept = λ q x e.
      let it : _ = h.kept q x (ap (λ xs. slice_index_or xs q None) (sym a) ∙ e) in
      (it.0, ap (λ last. entry last q) l ∙ it.1);
}

some_none : (a : Arrival) → Some a ≡ None → ⊥
some_none a e = cc

not_there : (o : Option Arrival) → is_some o ≡ false → o ≡ None
not_there None e = refl
not_there (Some a) e = cc

pub notes-keep : (nodes : ℕ) (former : ℕ → ℕ) (manager : ManagerRecord) (from : ℕ) (a : Arrival) → Places nodes manager → from < nodes
    → has_arrived manager from ≡ false → IsOwn (entry manager.last) (entry a.time) from a.intervals → Notes former manager
    → Notes former (with_arrival manager from a)
notes-keep nodes former manager from a p lt first own h = record {
  free = λ q e. elim (cases_eq from q) [
    | inl same ↦
        absurd (some_none a
        (sym (get_or-set_same manager.arrivals from (Some a) None within) ∙ ap (λ k. slice_index_or (slice_set manager.arrivals from
        (Some a)) k None) same ∙ e))
    | inr other ↦
        get_or-set_other manager.last from q (entry a.time from) 0 (λ e. other (sym e))
        ∙ h.free q (sym (get_or-set_other manager.arrivals from q (Some a) None (λ e. other (sym e))) ∙ e)
  ];
  kept = λ q x e. elim (get_set manager.arrivals from q a x e) [
    | inl here ↦
        subst (λ k. IsOwn former (entry x.time) k x.intervals × (entry (slice_set manager.last from (entry a.time from)) k ≡ entry x.time k)) here.0
        (subst (λ (x : Arrival). IsOwn former (entry x.time) from x.intervals × (entry (slice_set manager.last from
        (entry a.time from)) from ≡ entry x.time from))
        here.1 (mine, get_or-set_same manager.last from (entry a.time from) 0 (subst (λ k. from < k) (sym p.last) lt)))
    | inr old ↦
        let it : _ = h.kept q x old in (
          it.0,
          elim (cases_eq from q) [
            | inl same ↦
                absurd (some_none x (sym old ∙ ap (λ k. slice_index_or manager.arrivals k None) (sym same) ∙ none_yet))
            | inr other ↦ get_or-set_other manager.last from q (entry a.time from) 0 (λ e. other (sym e)) ∙ it.1
          ],
        )
  ];
}
  where
    within : from < length manager.arrivals
    within = subst (λ k. from < k) (sym p.arrivals) lt

    none_yet : slice_index_or manager.arrivals from None ≡ None
    none_yet = not_there (slice_index_or manager.arrivals from None) first

    mine : IsOwn former (entry a.time) from a.intervals
    mine = record {
      own = own.own ∙ ap (λ k. range_with_len (k + 1) (entry a.time from - k)) (h.free from none_yet);
      only = own.only;
    }

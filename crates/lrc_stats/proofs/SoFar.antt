-- What the messages brought of the first turns of a log, with one turn more.
use Rattle.std.proofs.Common.{◌≡◌, ◌∙◌, ◌+◌, ◌<◌, ◌++◌, ℕ, Bool, true, false, List, [], ◌∷◌, cond, sym, ap, arith}
use Rattle.std.proofs.Common.{length, take, get_or}
use Rattle.std.specs.Prelude.{count_by, sum_by}
use Rattle.std.proofs.lemmas.List.{length_push}
use Rattle.std.proofs.lemmas.List.Sums.{fold_more, sum_by-append}
use Rattle.lrc_protocol.specs.Run.{EntryRecord}
use Rattle.lrc_stats.specs.Learned.{a_repeat, brought, brought_after, discards, first_takings, interval_count}
use Rattle.lrc_stats.specs.Learned.{takes_repeat, notice_count, together, with_entry}
use Rattle.lrc_stats.specs.declared.learned.Learned.{Learned}

-- of so many turns these are no repeats, and brought this
pub record IsSoFar (count : ℕ) (kept : List EntryRecord) (learned : Learned) : Type 0 where
  pub repeats : learned.repeats + length kept ≡ count
  pub intervals : learned.intervals ≡ sum_by interval_count kept
  pub notices : learned.notices ≡ sum_by notice_count kept
  pub discards : learned.discards ≡ count_by (λ entry. discards entry.input) kept

pub kept_more : (log : List EntryRecord) (i : ℕ) (d : EntryRecord) → i < length log
    → first_takings (take (i + 1) log) ≡ with_entry (first_takings (take i log)) (get_or log i d)
kept_more log i d lt = fold_more with_entry [] log i d lt

sum_push : (f : EntryRecord → ℕ) (kept : List EntryRecord) (entry : EntryRecord) → sum_by f (kept ++ entry ∷ []) ≡ sum_by f kept + f entry
sum_push f kept entry =
    let one : sum_by f (entry ∷ []) ≡ f entry = omega arith in
    sum_by-append f kept (entry ∷ []) ∙ ap (λ n. sum_by f kept + n) one

module _ (count : ℕ) (kept : List EntryRecord) (entry : EntryRecord) (learned : Learned) (h : IsSoFar count kept learned) where
  by_test : (b : Bool) → IsSoFar (count + 1) (cond b kept (kept ++ entry ∷ [])) (together learned (cond b a_repeat (brought entry)))
  by_test true =
      let repeats = h.repeats in
      let intervals = h.intervals in
      let notices = h.notices in
      let discards = h.discards in
      record { repeats = omega arith; intervals = omega arith; notices = omega arith; discards = omega arith }
  by_test false =
      let repeats = h.repeats in
      let intervals = h.intervals in
      let notices = h.notices in
      let many = length_push kept entry in
      record {
        repeats = omega arith;
        intervals = ap (λ n. n + interval_count entry) intervals ∙ sym (sum_push interval_count kept entry);
        notices = ap (λ n. n + notice_count entry) notices ∙ sym (sum_push notice_count kept entry);
        discards = ap (λ n. n + cond (discards entry.input) 1 0) h.discards
            ∙ sym (sum_push (λ (e : EntryRecord). cond (discards e.input) 1 0) kept entry);
      }

  pub so_far_more : IsSoFar (count + 1) (with_entry kept entry) (together learned (brought_after kept entry))
  so_far_more = by_test (takes_repeat kept entry.input)

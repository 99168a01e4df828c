-- A search that goes through what is open.
use Rattle.std.proofs.Common.{◌≡◌, ℕ, ◌+◌, ◌<◌, ◌≤◌, List, [], Bool, true, false, inl, inr, length, refl, sym, ap, ◌∙◌, subst, arith}
use Rattle.std.specs.Prelude.{◌↔◌, IsTrue, Option, Some, None, is_none, slice_get}
use Rattle.std.proofs.lemmas.Bool.{cases_eq, true≢false}
use Rattle.std.proofs.lemmas.List.{length-append}
use Rattle.std.proofs.lemmas.Option.{same_Some, slice_get_within}
use Rattle.lrc_trace.specs.declared.act.Act.{Act}
use Rattle.lrc_trace.proofs.Positions.{slice_get-front}
use Rattle.lrc_exec.specs.States.{plain_at}
use Rattle.lrc_orders.specs.declared.noted.Noted.{Noted}
use Rattle.lrc_orders.specs.declared.outcomes.Outcome.{Outcome}
use Rattle.lrc_orders.specs.Kept.{Grows}
use Rattle.lrc_orders.specs.Meeting.{IsCalm}
use Rattle.lrc_orders.specs.Outcome.{HasOutcome}
use Rattle.lrc_orders.specs.Stuck.{IsAtRest, IsStuck}
use Rattle.lrc_orders.proofs.Keeping.{grows_not, stands_on}
use Rattle.lrc_orders.proofs.Searching.{copy_same}
use Rattle.lrc_orders_table.specs.declared.rows.Rows.{Rows}
use Rattle.lrc_orders_table.specs.Rows.{IsRowAt, IsRowPlace, WidensRows}
use Rattle.lrc_orders_table.proofs.RowLaws.{row_copy, row_grown}
use Rattle.lrc_explore.specs.declared.task.Task.{Task}
use Rattle.lrc_explore.specs.Answers.{AreSound, first_stuck}
use Rattle.lrc_explore.specs.Reached.{IsExpandedAt}
use Rattle.lrc_explore.proofs.Keys.{expanded_grown}
use Rattle.lrc_explore.proofs.Trapping.{trap_grown}
use Rattle.lrc_explore_less.specs.declared.less.Less.{Less}
use Rattle.lrc_explore_less.specs.Passing.{AreLess, Widens}
use Rattle.lrc_explore_less.specs.Enough.{AreDone, AreOpenCalm, AreOpenGoing, HasBegun, IsDoneAt, IsPast, IsStuckOpen, IsThrough}
use Rattle.lrc_explore_less.specs.Outcomes.{AreGathered, IsGatheredAt}
use Rattle.lrc_explore_less.proofs.Steps.{begun_on}
use Rattle.lrc_explore_less.proofs.Ways.{was_at}

pub expanded_at_grown : (task : Task) (old new : Rows) (place : ℕ) → WidensRows old new → IsRowPlace old place → IsExpandedAt task old place
    → IsExpandedAt task new place
expanded_at_grown task old new place w full h key at = expanded_grown task old new key w (h key (was_at old new place key w full at))

pub done_grown : (task : Task) (old new : Rows) (calm calm' : Bool) (place : ℕ) → WidensRows old new → IsRowPlace old place → (calm' ≡ true → calm ≡ true)
    → IsDoneAt task old calm place → IsDoneAt task new calm' place
done_grown task old new calm calm' place w full less_calm d = record {
  expanded = expanded_at_grown task old new place w full d.expanded;
  trapless = λ e step. trap_grown task old new place step false w full (d.trapless (less_calm e) step);
}

-- what is open was open
was_open : (old new : List ℕ) (k place : ℕ) → Grows old new → k < length old → slice_get new k ≡ Some place → slice_get old k ≡ Some place
was_open old new k place g lt at = sym (slice_get-front old g.more k lt) ∙ ap (λ l. slice_get l k) (sym g.is) ∙ at

pub no_shorter : (old new : List ℕ) → Grows old new → length old ≤ length new
no_shorter old new g = omega (arith, ap length g.is, length-append old g.more)

-- ---- where what was found grows

module _ (task : Task) (old new : Less) (is : AreLess task old) (w : Widens old new) where
  abbrev was : Rows
  was = old.found.table.rows

  abbrev all : Rows
  all = new.found.table.rows

  full : (k place : ℕ) → slice_get old.opens.items k ≡ Some place → IsRowPlace was place
  full k place at = is.sound.found.reached.full place (is.within k place at)

  pub all_done_grown : (index : ℕ) → index ≤ length old.opens.items → AreDone task old index → AreDone task new index
  all_done_grown index le done k place lt at =
      let there = was_open old.opens.items new.opens.items k place w.opens (omega (arith, lt, le)) at in
      done_grown task was all (is_none old.trap) (is_none new.trap) place w.found.rows (full k place there) w.trap (done k place lt there)

  pub key_was : (index k place : ℕ) (key : Noted) → index ≤ length old.opens.items → k < index → slice_get new.opens.items k ≡ Some place
      → IsRowAt all place key → (slice_get old.opens.items k ≡ Some place) × IsRowAt was place key
  key_was index k place key le lt at there =
      let here = was_open old.opens.items new.opens.items k place w.opens (omega (arith, lt, le)) at in
      (here, was_at was all place key w.found.rows (full k place here) there)

  pub all_calm_grown : (index : ℕ) → index ≤ length old.opens.items → AreOpenCalm task old index → AreOpenCalm task new index
  all_calm_grown index le c k place key lt at there =
      let o = key_was index k place key le lt at there in c k place key lt o.0 o.1

  pub all_going_grown : (index : ℕ) → index ≤ length old.opens.items → AreOpenGoing task old index → AreOpenGoing task new index
  all_going_grown index le c k place key lt at there =
      let o = key_was index k place key le lt at there in c k place key lt o.0 o.1

  pub halted_grown : (index : ℕ) (stuck : Option ℕ) → index ≤ length old.opens.items → IsStuckOpen task old index stuck → IsStuckOpen task new index stuck
  halted_grown index None le h = all_going_grown index le h
  halted_grown index (Some place) le h = (h.0, row_grown was all place h.0 w.found.rows h.1, h.2)

-- ---- one more open state

pub done_more : (task : Task) (new : Less) (index place : ℕ) → slice_get new.opens.items index ≡ Some place
    → IsDoneAt task new.found.table.rows (is_none new.trap) place → AreDone task new index → AreDone task new (index + 1)
done_more task new index place at here done k p lt there = elim (cases_eq k index) [
  | inl same ↦
      let one : place ≡ p = same_Some place p (sym at ∙ sym (ap (slice_get new.opens.items) same) ∙ there) in
      subst (IsDoneAt task new.found.table.rows (is_none new.trap)) one here
  | inr apart ↦ done k p (omega (arith, lt, apart)) there
]

-- ---- for a meeting

-- the states that were looked at
pub record Seeking (task : Task) (now : Less) (index : ℕ) (races : Bool) (stuck : Option ℕ) : Type 0 where
  pub less : AreLess task now
  pub begun : HasBegun task now
  pub done : AreDone task now index
  pub calm : races ≡ true → AreOpenCalm task now index
  pub halted : IsStuckOpen task now index stuck

pub seeking_first : (task : Task) (less : Less) (races : Bool) → AreLess task less → HasBegun task less → Seeking task less 0 races None
seeking_first task less races is begun = record {
  less = is;
  begun = begun;
  done = λ k place lt at. absurd (omega (arith, lt));
  calm = λ e k place key lt at there. absurd (omega (arith, lt));
  halted = λ k place key lt at there. absurd (omega (arith, lt));
}

pub seeking_grown : (task : Task) (old new : Less) (index : ℕ) (races : Bool) (stuck : Option ℕ) → Seeking task old index races stuck
    → index ≤ length old.opens.items → AreLess task new → Widens old new → Seeking task new index races stuck
seeking_grown task old new index races stuck s le is w = record {
  less = is;
  begun = begun_on task old new w s.begun;
  done = all_done_grown task old new s.less w index le s.done;
  calm = λ e. all_calm_grown task old new s.less w index le (s.calm e);
  halted = halted_grown task old new s.less w index stuck le s.halted;
}

module _ (task : Task) (new : Less) (index place : ℕ) (races halts : Bool) (at : slice_get new.opens.items index ≡ Some place)
    (seen : IsPast task new place races halts) where
  same_key : (k p : ℕ) (key : Noted) → k ≡ index → slice_get new.opens.items k ≡ Some p → IsRowAt new.found.table.rows p key
      → plain_at task.flat key.state ≡ plain_at task.flat seen.key.state
  same_key k p key same there row =
      let here : p ≡ place = same_Some p place (sym there ∙ ap (slice_get new.opens.items) same ∙ at) in
      copy_same task.flat key.state seen.key.state
      (row_copy new.found.table.rows place key seen.key (subst (λ n. IsRowAt new.found.table.rows n key) here row) seen.there).state

  calm_more : (races ≡ true → AreOpenCalm task new index) → races ≡ true → AreOpenCalm task new (index + 1)
  calm_more c looked k p key lt there row = elim (cases_eq k index) [
    | inl same ↦ subst IsCalm (sym (same_key k p key same there row)) (seen.calm looked)
    | inr apart ↦ c looked k p key (omega (arith, lt, apart)) there row
  ]

  halted_more : (stuck : Option ℕ) (b : Bool) → (IsTrue b ↔ IsStuck (plain_at task.flat seen.key.state)) → IsStuckOpen task new index stuck
      → IsStuckOpen task new (index + 1) (first_stuck stuck b place)
  halted_more (Some first) b h is = is
  halted_more None true h is = (seen.key, seen.there, h.0 refl)
  halted_more None false h is = λ k p key lt there row. elim (cases_eq k index) [
    | inl same ↦ λ halted. true≢false (sym (h.1 (subst IsStuck (same_key k p key same there row) halted)))
    | inr apart ↦ is k p key (omega (arith, lt, apart)) there row
  ]

  pub seeking_more : (stuck : Option ℕ) → Seeking task new index races stuck → Seeking task new (index + 1) races (first_stuck stuck halts place)
  seeking_more stuck s = record {
    less = s.less;
    begun = s.begun;
    done = done_more task new index place at seen.done s.done;
    calm = calm_more s.calm;
    halted = halted_more stuck halts seen.halted s.halted;
  }

-- past all of them
module _ (task : Task) (less : Less) (index : ℕ) (past : length less.opens.items ≤ index) where
  by_stuck : (o : Option ℕ) → IsStuckOpen task less index o → IsStuckOpen task less (length less.opens.items) o
  by_stuck None h = λ k place key lt at there. h k place key (omega (arith, lt, past)) at there
  by_stuck (Some place) h = h

  pub through : (races : Bool) (stuck : Option ℕ) → Seeking task less index races stuck
      → IsThrough task less stuck less.trap × (races ≡ true → AreOpenCalm task less (length less.opens.items))
  through races stuck s = (
    record {
      done = λ k place lt at. s.done k place (omega (arith, lt, past)) at;
      halted = by_stuck stuck s.halted;
      trap_is = refl;
    },
    λ e k place key lt at there. s.calm e k place key (omega (arith, lt, past)) at there,
  )

-- ---- for outcomes

pub record Gathering (task : Task) (now : Less) (outcomes : List Outcome) (index : ℕ) : Type 0 where
  pub less : AreLess task now
  pub begun : HasBegun task now
  pub sound : AreSound task outcomes
  pub done : AreGathered task now outcomes index

pub gathering_first : (task : Task) (less : Less) (outcomes : List Outcome) → AreLess task less → HasBegun task less → outcomes ≡ []
    → Gathering task less outcomes 0
gathering_first task less outcomes is begun none = record {
  less = is;
  begun = begun;
  sound = λ k outcome at. let lt = slice_get_within outcomes k outcome at in absurd (omega (arith, lt, ap length none));
  done = record { done = λ k place lt at. absurd (omega (arith, lt)); gathered = λ k place lt at. absurd (omega (arith, lt)) };
}

-- the outcome of the state at a place
pub gathered_at : (task : Task) (all : Rows) (outcomes : List Outcome) (place : ℕ) (key : Noted) → IsRowAt all place key
    → (IsAtRest (plain_at task.flat key.state) → HasOutcome outcomes key.notes.items) → IsGatheredAt task all outcomes place
gathered_at task all outcomes place key there gathered other at still =
    let copy = row_copy all place other key at there in
    let o = gathered (subst IsAtRest (copy_same task.flat other.state key.state copy.state) still) in
    record { place = o.place; outcome = o.outcome; there = o.there; same = o.same ∙ sym copy.notes }

has_grown : (some more : List Outcome) (notes : List Act) → Grows some more → HasOutcome some notes → HasOutcome more notes
has_grown some more notes g o = record { place = o.place; outcome = o.outcome; there = stands_on o.place o.outcome g o.there; same = o.same }

gathered_on : (task : Task) (old new : Rows) (some more : List Outcome) (place : ℕ) → WidensRows old new → IsRowPlace old place → Grows some more
    → IsGatheredAt task old some place → IsGatheredAt task new more place
gathered_on task old new some more place w full g is key at still =
    has_grown some more key.notes.items g (is key (was_at old new place key w full at) still)

pub gathering_on : (task : Task) (old new : Less) (some more : List Outcome) (index place : ℕ) → Gathering task old some index
    → index < length old.opens.items → slice_get old.opens.items index ≡ Some place → Grows some more → AreSound task more
    → IsGatheredAt task old.found.table.rows more place → AreLess task new → Widens old new
    → IsDoneAt task new.found.table.rows (is_none new.trap) place → Gathering task new more (index + 1)
gathering_on task old new some more index place g lt at grown sound here is w done = record {
  less = is;
  begun = begun_on task old new w g.begun;
  sound = sound;
  done = record {
    done = done_more task new index place (stands_on index place w.opens at) done
        (all_done_grown task old new g.less w index (omega (arith, lt)) g.done.done);
    gathered = λ k p below there.
        let first = was_open old.opens.items new.opens.items k p w.opens (omega (arith, below, lt)) there in
        let full = g.less.sound.found.reached.full p (g.less.within k p first) in
        elim (cases_eq k index) [
          | inl same ↦
              let one : place ≡ p = same_Some place p (sym at ∙ sym (ap (slice_get old.opens.items) same) ∙ first) in
              gathered_on task old.found.table.rows new.found.table.rows more more p w.found.rows full (grows_not more more refl)
              (subst (IsGatheredAt task old.found.table.rows more) one here)
          | inr apart ↦
              gathered_on task old.found.table.rows new.found.table.rows some more p w.found.rows full grown
              (g.done.gathered k p (omega (arith, below, apart)) first)
        ];
  };
}

pub gathered_all : (task : Task) (less : Less) (outcomes : List Outcome) (index : ℕ) → Gathering task less outcomes index
    → length less.opens.items ≤ index → AreGathered task less outcomes (length less.opens.items)
gathered_all task less outcomes index g past = record {
  done = λ k place lt at. g.done.done k place (omega (arith, lt, past)) at;
  gathered = λ k place lt at. g.done.gathered k place (omega (arith, lt, past)) at;
}

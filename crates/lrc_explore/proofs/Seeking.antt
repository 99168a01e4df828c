-- A search that goes through what was found.
use Rattle.std.proofs.Common.{◌≡◌, ℕ, ◌+◌, ◌<◌, ◌≤◌, List, [], Bool, true, false, inl, inr, refl, sym, ◌∙◌, subst, arith}
use Rattle.std.specs.Prelude.{◌↔◌, All, IsTrue, MatchOption, Option, Some, None, is_some}
use Rattle.std.proofs.lemmas.Bool.{cases_eq, true≢false}
use Rattle.lrc_trace.specs.declared.act.Act.{Act}
use Rattle.lrc_orders.specs.declared.noted.Noted.{Noted}
use Rattle.lrc_orders_table.specs.declared.rows.Rows.{Rows}
use Rattle.lrc_orders.specs.declared.outcomes.Outcome.{Outcome}
use Rattle.lrc_orders.specs.contracts.noted.NotedPartialEq.TheImpl.{eq-value as noted_eq}
use Rattle.lrc_orders.specs.Kept.{Grows}
use Rattle.lrc_orders.specs.Meeting.{IsCalm}
use Rattle.lrc_orders_table.specs.Rows.{IsRowAt, WidensRows, row_count}
use Rattle.lrc_orders.specs.Outcome.{HasOutcome, IsOutcome}
use Rattle.lrc_exec.specs.States.{machine_begun, plain_at}
use Rattle.lrc_orders.specs.Stuck.{IsAtRest, IsStuck}
use Rattle.lrc_orders.proofs.Keeping.{grows_not, stands_on}
use Rattle.lrc_orders.proofs.Searching.{copy_same}
use Rattle.lrc_orders.proofs.Stores.{IsList, before, listed, listed_apart}
use Rattle.lrc_orders.proofs.Ways.{IsNotedCopy}
use Rattle.lrc_orders_table.proofs.RowLaws.{row_copy, row_grown, row_store, row_within, rows_not}
use Rattle.lrc_orders_table.proofs.RowsApart.{row_apart}
use Rattle.lrc_exec.specs.declared.spot.Spot.{Spot}
use Rattle.lrc_exec.specs.declared.state.State.{State}
use Rattle.lrc_orders.specs.declared.search.ExploreFault.{ExploreFault}
use Rattle.lrc_orders.specs.declared.search.ExploreFault.TheVariants.{BadNodes, NoMemory, TooMany}
use Rattle.lrc_exec.specs.Plain.{plain_start, thread_in}
use Rattle.lrc_orders_settling.specs.Settling.{MakesFree}
use Rattle.lrc_orders_laws.specs.Steps.{IsSettledOutcome}
use Rattle.lrc_orders_laws.proofs.GoingOn.{state_fine}
use Rattle.lrc_orders_laws.proofs.Settled.{outcomes}
use Rattle.lrc_explore.specs.declared.task.Task.{Task}
use Rattle.lrc_explore.specs.declared.task.Found.{Found}
use Rattle.lrc_explore.specs.Reached.{AreCalm, AreExpanded, AreFound, AreNowhereStuck, AreReached, HasStart, IsExpanded, IsMore, IsReached, IsTask}
use Rattle.lrc_explore.specs.Answers.{AddsOnly, AreGathered, AreSettledApart, AreSound, HasMoreSettled, IsFault, IsLong, IsLongAt, IsLongFault, IsSearchFault, SettlesLong, starts_long, settles_long, is_long, has_more, IsGathered, IsGatheredAt, IsSeen, IsStuckFirst, IsThrough, first_stuck}
use Rattle.lrc_explore.specs.Cut.{IsCut, are_more, is_longer}
use Rattle.lrc_explore.specs.Met.{IsTrapMet}
use Rattle.lrc_explore.specs.Traps.{AreRowsTrapless, IsStepTrap, IsTrapSoFar, IsTrapStepAt, KeepsTrapless, ShowsStartTrap, first_trap, start_trap}
use Rattle.lrc_explore.specs.declared.task.Trapping.{Trapping}
use Rattle.lrc_explore.specs.declared.task.Trapping.TheVariants as trapping
use Rattle.lrc_orders_settling.specs.declared.step.Step.{Step}
use Rattle.lrc_orders_settling.specs.Taking.{ComputesLong, Takes}
use Rattle.lrc_orders_live.specs.Live.{forgot}
use Rattle.lrc_orders_live.proofs.Like.{like_back, rest_like}
use Rattle.lrc_orders_table.proofs.Forgotten.{threads_of_row}
use Rattle.lrc_explore.proofs.Keys.{expanded_copy, expanded_grown, more_again}
use Rattle.lrc_explore.proofs.MeansOf.{means_are, means_of}
use Rattle.lrc_explore.proofs.Reaching.{all_reached, fine_key}

-- what is at an old place was there
was_there : (old new : Rows) (k : ℕ) (key : Noted) → WidensRows old new → ((n : ℕ) → n < row_count old → (x : Noted) × IsRowAt old n x)
    → k < row_count old → IsRowAt new k key → IsRowAt old k key
was_there old new k key w full lt at = before IsRowAt row_count WidensRows IsNotedCopy row_store old new k key w (full k lt) at

same_plain : (task : Task) (all : Rows) (k : ℕ) (a b : Noted) → IsRowAt all k a → IsRowAt all k b
    → plain_at task.flat a.state ≡ plain_at task.flat b.state
same_plain task all k a b x y = copy_same task.flat a.state b.state (row_copy all k a b x y).state

-- ---- for a meeting

abbrev pub IsStuckSoFar : Task → Rows → (index : ℕ) → Option ℕ → Type 0
IsStuckSoFar task all index None = AreNowhereStuck task all index
IsStuckSoFar task all index (Some place) =
    (key : Noted) × IsRowAt all place key × IsStuck (plain_at task.flat key.state) × AreNowhereStuck task all place

pub record Seeking (task : Task) (first now : Found) (place : ℕ) (races : Bool) (stuck : Option ℕ) (trap : Option Trapping) : Type 0 where
  pub found : AreFound task now
  pub more : IsMore first now
  pub calm : races ≡ true → AreCalm task now.table.rows place
  pub expanded : AreExpanded task now.table.rows place
  pub halted : IsStuckSoFar task now.table.rows place stuck
  pub traps : IsTrapSoFar task now.table.rows place trap
  pub trapless : is_some trap ≡ false → AreRowsTrapless task now.table.rows

start_so_far : (task : Task) (all : Rows) (start : Bool) → ShowsStartTrap task start → IsTrapSoFar task all 0 (start_trap start)
start_so_far task all true s = s.made refl
start_so_far task all false s = record { start = s.each; steps = λ k key lt at. absurd (omega (arith, lt)) }

start_none : (start : Bool) → is_some (start_trap start) ≡ false → start ≡ false
start_none true e = absurd (true≢false e)
start_none false e = refl

pub seeking_first : (task : Task) (first : Found) (races start : Bool) → AreFound task first → ShowsStartTrap task start
    → (start ≡ false → AreRowsTrapless task first.table.rows) → Seeking task first first 0 races None (start_trap start)
seeking_first task first races start f s t = record {
  found = f;
  more = record { rows = rows_not first.table.rows; origins = grows_not first.origins.items first.origins.items refl };
  calm = λ e k key lt at. absurd (omega (arith, lt));
  expanded = λ k lt key at. absurd (omega (arith, lt));
  halted = λ k key lt at. absurd (omega (arith, lt));
  traps = start_so_far task first.table.rows start s;
  trapless = λ e. t (start_none start e);
}

module _ (task : Task) (first old new : Found) (place : ℕ) (races : Bool) (stuck : Option ℕ) (trap : Option Trapping)
    (s : Seeking task first old place races stuck trap) (f : AreFound task new) (m : IsMore old new) (within : place < row_count old.table.rows)
    (halts : Bool) (step : Option Step) (seen : IsSeen task new place races halts step)
    (keeps : KeepsTrapless task old.table.rows new.table.rows (is_some step)) where
  old_at : (k : ℕ) (key : Noted) → k < place → IsRowAt new.table.rows k key → IsRowAt old.table.rows k key
  old_at k key lt at = was_there old.table.rows new.table.rows k key m.rows s.found.reached.full (omega (arith, lt, within)) at

  expanded_on : AreExpanded task new.table.rows place
  expanded_on k lt key at = expanded_grown task old.table.rows new.table.rows key m.rows (s.expanded k lt key (old_at k key lt at))

  seen_expanded : AreExpanded task new.table.rows (place + 1)
  seen_expanded k lt key at = elim (cases_eq k place) [
    | inl same ↦
        expanded_copy task new.table.rows key seen.key
        (row_copy new.table.rows place key seen.key (subst (λ n. IsRowAt new.table.rows n key) same at) seen.there) seen.expanded
    | inr apart ↦ expanded_on k (omega (arith, lt, apart)) key at
  ]

  -- what stands at the place is what was seen there
  same_seen : (k : ℕ) (key : Noted) → k ≡ place → IsRowAt new.table.rows k key → plain_at task.flat key.state ≡ plain_at task.flat seen.key.state
  same_seen k key same at = same_plain task new.table.rows place key seen.key (subst (λ n. IsRowAt new.table.rows n key) same at) seen.there

  seen_calm : races ≡ true → AreCalm task new.table.rows (place + 1)
  seen_calm looked k key lt at = elim (cases_eq k place) [
    | inl same ↦ subst IsCalm (sym (same_seen k key same at)) (seen.calm looked)
    | inr apart ↦ s.calm looked k key (omega (arith, lt, apart)) (old_at k key (omega (arith, lt, apart)) at)
  ]

  nowhere_on : (IsStuck (plain_at task.flat seen.key.state) → ⊥) → AreNowhereStuck task old.table.rows place
      → AreNowhereStuck task new.table.rows (place + 1)
  nowhere_on never nowhere k key lt at = elim (cases_eq k place) [
    | inl same ↦ λ halted. never (subst IsStuck (same_seen k key same at) halted)
    | inr apart ↦ nowhere k key (omega (arith, lt, apart)) (old_at k key (omega (arith, lt, apart)) at)
  ]

  -- the first state that is stuck is it still
  still_first : (at : ℕ) → IsStuckSoFar task old.table.rows place (Some at) → IsStuckSoFar task new.table.rows (place + 1) (Some at)
  still_first at is = (
    is.0,
    row_grown old.table.rows new.table.rows at is.0 m.rows is.1,
    is.2,
    λ k key lt there.
        let here = row_within old.table.rows at is.0 is.1 in
        is.3 k key lt (was_there old.table.rows new.table.rows k key m.rows s.found.reached.full (omega (arith, lt, here)) there),
  )

  stuck_on : (o : Option ℕ) (b : Bool) → (IsTrue b ↔ IsStuck (plain_at task.flat seen.key.state)) → IsStuckSoFar task old.table.rows place o
      → IsStuckSoFar task new.table.rows (place + 1) (first_stuck o b place)
  stuck_on (Some at) b h is = still_first at is
  stuck_on None true h nowhere = (seen.key, seen.there, h.0 refl, λ k key lt at. nowhere k key lt (old_at k key lt at))
  stuck_on None false h nowhere = nowhere_on (λ halted. true≢false (sym (h.1 halted))) nowhere

  trap_on : (o : Option Trapping) (t : Option Step) → IsStepTrap task seen.key t → IsTrapSoFar task old.table.rows place o
      → IsTrapSoFar task new.table.rows (place + 1) (first_trap o t place)
  trap_on (Some trapping.Start) t is so = so
  trap_on (Some (trapping.Step origin)) t is so = (so.0, row_grown old.table.rows new.table.rows origin.parent so.0 m.rows so.1, so.2)
  trap_on None (Some taken) is so = (seen.key, seen.there, is)
  trap_on None None is so = record {
    start = so.start;
    steps = λ k key lt at. elim (cases_eq k place) [
      | inl same ↦ λ taken acts after takes. is taken acts after (subst (λ m. Takes m taken acts after) (same_seen k key same at) takes)
      | inr apart ↦ so.steps k key (omega (arith, lt, apart)) (old_at k key (omega (arith, lt, apart)) at)
    ];
  }

  trapless_on : (o : Option Trapping) (t : Option Step) → (is_some o ≡ false → AreRowsTrapless task old.table.rows)
      → KeepsTrapless task old.table.rows new.table.rows (is_some t) → is_some (first_trap o t place) ≡ false → AreRowsTrapless task new.table.rows
  trapless_on (Some there) t was here e = absurd (true≢false e)
  trapless_on None (Some taken) was here e = absurd (true≢false e)
  trapless_on None None was here e = here e (was refl)

  pub seeking_on : Seeking task first new (place + 1) races (first_stuck stuck halts place) (first_trap trap step place)
  seeking_on = record {
    found = f;
    more = more_again s.more m;
    calm = seen_calm;
    expanded = seen_expanded;
    halted = stuck_on stuck halts seen.halted s.halted;
    traps = trap_on trap step seen.traps s.traps;
    trapless = trapless_on trap step s.trapless keeps;
  }

stuck_end : (task : Task) (all : Rows) (index : ℕ) → row_count all ≤ index → (o : Option ℕ) → IsStuckSoFar task all index o → IsStuckFirst task all o
stuck_end task all index le None nowhere = λ k key lt at. nowhere k key (omega (arith, lt, le)) at
stuck_end task all index le (Some place) is = is

trap_end : (task : Task) (all : Rows) (index : ℕ) → row_count all ≤ index → (o : Option Trapping) → IsTrapSoFar task all index o
    → IsTrapSoFar task all (row_count all) o
trap_end task all index le None nowhere = record { start = nowhere.start; steps = λ k key lt at. nowhere.steps k key (omega (arith, lt, le)) at }
trap_end task all index le (Some there) is = is

-- among too many states
pub trap_met : (task : Task) (all : Rows) (index : ℕ) (o : Option Trapping) → IsTrapSoFar task all index o
    → (is_some o ≡ false → AreRowsTrapless task all) → IsTrapMet task all o
trap_met task all index None so trapless = trapless refl
trap_met task all index (Some there) so trapless = so

-- where the search is cut short at the state at this place
pub trap_cut : (task : Task) (old new : Rows) (place : ℕ) (o : Option Trapping) (t : Option Step) (key : Noted)
    → WidensRows old new → IsRowAt new place key → IsTrapSoFar task old place o
    → (is_some o ≡ false → AreRowsTrapless task old) → KeepsTrapless task old new (is_some t)
    → IsTrapStepAt task new place t → IsTrapMet task new (first_trap o t place)
trap_cut task old new place (Some trapping.Start) t key w at so was keeps is = so
trap_cut task old new place (Some (trapping.Step origin)) t key w at so was keeps is =
    (so.0, row_grown old new origin.parent so.0 w so.1, so.2)
trap_cut task old new place None (Some taken) key w at so was keeps is = (key, at, is key at)
trap_cut task old new place None None key w at so was keeps is = keeps refl (was refl)

pub calm_cut : (task : Task) (old new : Found) (place : ℕ) (races : Bool) → AreFound task old
    → WidensRows old.table.rows new.table.rows → place < row_count old.table.rows
    → (races ≡ true → AreCalm task old.table.rows place) → races ≡ true → AreCalm task new.table.rows place
calm_cut task old new place races f w within calm looked k key lt at =
    calm looked k key lt (was_there old.table.rows new.table.rows k key w f.reached.full (omega (arith, lt, within)) at)

pub through : (task : Task) (first now : Found) (place : ℕ) (races : Bool) (stuck : Option ℕ) (trap : Option Trapping)
    → Seeking task first now place races stuck trap → row_count now.table.rows ≤ place → IsThrough task now races stuck trap
through task first now place races stuck trap s past = record {
  calm = λ looked k key lt at. s.calm looked k key (omega (arith, lt, past)) at;
  expanded = λ k lt key at. s.expanded k (omega (arith, lt, past)) key at;
  halted = stuck_end task now.table.rows place past stuck s.halted;
  traps = trap_end task now.table.rows place past trap s.traps;
}

-- a meeting, where meetings are looked for
pub meeting_looked : {A : Type 0} (races : Bool) (o : Option A) (C : Type 0) (L M N : A → Type 0) → races ≡ true
    → MatchOption o C (λ pair. L pair × M pair × N pair) → MatchOption o (races ≡ true → C) (λ pair. (races ≡ true) × M pair)
meeting_looked races None C L M N looked calm = λ e. calm
meeting_looked races (Some pair) C L M N looked is = (looked, is.1)

-- ---- for outcomes

pub record Gathering (task : Task) (first now : Found) (outcomes : List Outcome) (place : ℕ) : Type 0 where
  pub found : AreFound task now
  pub more : IsMore first now
  pub sound : AreSound task outcomes
  pub done : AreGathered task now.table.rows outcomes place

gathered_grown : (task : Task) (old new : Rows) (some more : List Outcome) (key : Noted) → WidensRows old new → Grows some more
    → IsGathered task old some key → IsGathered task new more key
gathered_grown task old new some more key w g d = record {
  expanded = expanded_grown task old new key w d.expanded;
  gathered = λ still.
      let o = d.gathered still in
      record { place = o.place; outcome = o.outcome; there = stands_on o.place o.outcome g o.there; same = o.same };
}

pub gathering_on : (task : Task) (first old new : Found) (some more : List Outcome) (place : ℕ) → Gathering task first old some place → AreFound task new
    → IsMore old new → Grows some more → AreSound task more → IsGatheredAt task new.table.rows more place → place < row_count old.table.rows
    → Gathering task first new more (place + 1)
gathering_on task first old new some more place g f m grown sound here within = record {
  found = f;
  more = more_again g.more m;
  sound = sound;
  done = λ k lt key at. elim (cases_eq k place) [
    | inl same ↦ here key (subst (λ n. IsRowAt new.table.rows n key) same at)
    | inr apart ↦
        let there = was_there old.table.rows new.table.rows k key m.rows g.found.reached.full (omega (arith, lt, apart, within)) at in
        gathered_grown task old.table.rows new.table.rows some more key m.rows grown (g.done k (omega (arith, lt, apart)) key there)
  ];
}

pub gathered_at : (task : Task) (old new : Rows) (outcomes : List Outcome) (place : ℕ) (key : Noted) → WidensRows old new → IsRowAt old place key
    → IsExpanded task new key → (IsAtRest (plain_at task.flat key.state) → HasOutcome outcomes key.notes.items) → IsGatheredAt task new outcomes place
gathered_at task old new outcomes place key w there expanded gathered other at =
    let copy = row_copy new place other key at (row_grown old new place key w there) in
    record {
      expanded = expanded_copy task new other key copy expanded;
      gathered = λ still.
          let o = gathered (subst IsAtRest (copy_same task.flat other.state key.state copy.state) still) in
          record { place = o.place; outcome = o.outcome; there = o.there; same = o.same ∙ sym copy.notes };
    }

pub sound_on : (task : Task) (old new : List Outcome) (key : Noted) → AreSound task old → AddsOnly old new key.notes.items → IsReached task key
    → IsAtRest (plain_at task.flat key.state) → AreSound task new
sound_on task old new key sound adds r still k outcome at noting = elim (adds k outcome at) [
  | inl there ↦ sound k outcome there noting
  | inr same ↦ record {
    acts = r.acts;
    machine = r.machine;
    led = r.led;
    still = rest_like (plain_at task.flat key.state) r.machine (fine_key task key r) (state_fine r.led) (like_back r.alike) still;
    are = r.noted noting ∙ sym same;
  }
]

pub exact : (task : Task) (all : Rows) (found : List Outcome) → AreReached task all → HasStart task all → AreSound task found
    → AreGathered task all found (row_count all) → task.noting ≡ true → (notes : List Act)
    → (HasOutcome found notes ↔ IsOutcome task.program.now task.flat.nodes notes)
exact task all found reached start sound done noting notes =
    let law = outcomes task.program.now task.flat.nodes notes in (
      λ has. law.1 (subst (IsSettledOutcome task.program.now task.flat.nodes) has.same (sound has.place has.outcome has.there noting)),
      λ is.
          let o = law.0 is in
          let has = all_reached task all reached start (λ k lt key at. (done k lt key at).expanded) o.led in
          let key = has.key in
          let still = rest_like o.machine (plain_at task.flat key.state) (state_fine o.led) (fine_key task key (reached.each has.place key has.there))
          has.alike o.still in
          let h = (done has.place (row_within all has.place key has.there) key has.there).gathered still in
          record { place = h.place; outcome = h.outcome; there = h.there; same = h.same ∙ has.noted noting ∙ o.are },
    )

-- ---- too many states

-- what a row stands for keeps no value that is dead
pub bare_key : (task : Task) (found : Found) (place : ℕ) (key : Noted) → AreFound task found → IsRowAt found.table.rows place key
    → All (λ (spot : Spot). forgot task.live.items spot ≡ spot) key.state.spots.items
bare_key task found place key f at =
    let keys = found.table.rows.threads.keys in
    threads_of_row (λ (spot : Spot). forgot task.live.items spot ≡ spot) keys found.table.rows.nodes at.row.threads key.state.spots.items at.stands.threads
    (f.table (means_of task) (means_are task)).bare

abbrev pub all_items : (task : Task) (found : Found) → AreFound task found
    → IsList IsRowAt row_count WidensRows IsNotedCopy row_store found.table.rows
all_items task found f = listed IsRowAt row_count WidensRows IsNotedCopy row_store found.table.rows f.reached.full

pub settled_apart : (task : Task) (found : Found) (races : Bool) (f : AreFound task found)
    → (races ≡ true → AreCalm task found.table.rows (row_count found.table.rows))
    → AreSettledApart task (all_items task found f).list races
settled_apart task found races f calm =
    let all = found.table.rows in
    let reached = f.reached in
    let items = all_items task found f in
    record {
      distinct = listed_apart IsRowAt row_count WidensRows IsNotedCopy row_store noted_eq.it all (row_apart all reached.distinct) items;
      each = λ k key there. reached.each k key (items.at k key there);
      bare = λ k key there. bare_key task found k key f (items.at k key there);
      calm = λ looked k key there. let at = items.at k key there in calm looked k key (row_within all k key at) at;
    }

has_more_settled : (task : Task) (found : Found) (most : ℕ) (races : Bool) → AreFound task found
    → most < row_count found.table.rows → (races ≡ true → AreCalm task found.table.rows (row_count found.table.rows))
    → HasMoreSettled task most races
has_more_settled task found most races f many calm =
    let items = all_items task found f in
    record {
      keys = items.list;
      many = subst (λ n. most < n) (sym items.long) many;
      are = settled_apart task found races f calm;
    }

pub too_many_states : (task : Task) (found : Found) (races : Bool) → AreFound task found → task.most < row_count found.table.rows
    → (races ≡ true → AreCalm task found.table.rows (row_count found.table.rows)) → IsSearchFault task races TooMany
too_many_states task found races f many calm = record {
  nodes = λ e. cc;
  many = λ e. has_more (has_more_settled task found task.most races f many calm);
}

-- a step's fault is the search's
pub of_step : (task : Task) (races : Bool) (fault : ExploreFault) → IsFault task fault → IsSearchFault task races fault
of_step task races fault f = record { nodes = f.nodes; many = λ e. is_long (f.many e) }

-- one more state at which no two nodes meet, where the least two that do are looked for
pub calm_on : (task : Task) (all : Rows) (place : ℕ) (races : Bool) (key : Noted) → IsRowAt all place key
    → (races ≡ true → AreCalm task all place) → (races ≡ true → IsCalm (plain_at task.flat key.state)) → races ≡ true → AreCalm task all (place + 1)
calm_on task all place races key there before here looked k other lt at = elim (cases_eq k place) [
  | inl same ↦
      subst IsCalm (sym (same_plain task all place other key (subst (λ n. IsRowAt all n other) same at) there)) (here looked)
  | inr apart ↦ before looked k other (omega (arith, lt, apart)) at
]

-- a node that computes too long
pub settles_from : (task : Task) (key : Noted) → IsReached task key
    → ComputesLong (plain_at task.flat key.state) task.looked → SettlesLong task.program.now task.flat.nodes task.looked
settles_from task key r long = record {
  acts = r.acts;
  machine = r.machine;
  led = r.led;
  like = plain_at task.flat key.state;
  alike = r.alike;
  long = long;
}

pub long_at : (task : Task) (found : Found) (place : ℕ) → AreFound task found → IsLongAt task found.table.rows place
    → IsLong task
long_at task found place f is = settles_long (settles_from task is.0 (f.reached.each place is.0 is.1) is.2)

-- a fault of a step
pub fault_of : (task : Task) (key : Noted) (fault : ExploreFault) → IsReached task key → IsLongFault task key.state fault → IsFault task fault
fault_of task key fault r f = record { nodes = f.nodes; many = λ e. settles_long (settles_from task key r (f.many e)) }

-- a search that is cut short
pub cut_short : (task : Task) (found : Found) (races : Bool) → AreFound task found → IsCut task found.table.rows
    → (races ≡ true → AreCalm task found.table.rows (row_count found.table.rows)) → IsSearchFault task races TooMany
cut_short task found races f (are_more many) calm = too_many_states task found races f many calm
cut_short task found races f (is_longer place long) calm =
    record { nodes = λ e. cc; many = λ e. is_long (long_at task found place f long) }

-- where there is no memory
pub memory_fault : (task : Task) (fault : ExploreFault) → fault ≡ NoMemory → IsFault task fault
memory_fault task fault is = subst (IsFault task) (sym is) (record { nodes = λ e. cc; many = λ e. cc })

-- the fault of the start
pub long_start : (task : Task) (state : State) → IsTask task → plain_at task.flat state ≡ machine_begun task.flat task.start
    → (k : ℕ) × MakesFree task.looked (thread_in (plain_at task.flat state) k) → (fault : ExploreFault) → fault ≡ TooMany → IsFault task fault
long_start task state is begun makes fault too_many = record {
  nodes = λ e. let x : TooMany ≡ BadNodes = sym too_many ∙ e in cc;
  many = λ e. starts_long (record {
    order = [];
    acts = [];
    there = plain_start task.program.now task.flat.nodes;
    led = refl;
    node = makes.0;
    makes = subst (λ m. MakesFree task.looked (thread_in m makes.0)) (begun ∙ is.begun) makes.1;
  });
}

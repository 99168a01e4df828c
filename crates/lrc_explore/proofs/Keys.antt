-- Keys that are put to those that were found.
use Rattle.std.proofs.Common.{◌≡◌, ℕ, ◌+◌, ◌<◌, ◌≤◌, List, [], ◌∷◌, ◌++◌, Bool, true, false, inl, inr, length, map, refl, sym, ap, ◌∙◌, subst, arith}
use Rattle.std.specs.Prelude.{All, Some, slice_get, if◌then◌else◌}
use Rattle.std.proofs.lemmas.Bool.{cases_lt, cases_eq}
use Rattle.std.proofs.lemmas.List.{length-map, length_push}
use Rattle.lrc_trace.specs.declared.act.Act.{Act}
use Rattle.lrc_trace.proofs.Positions.{slice_get-seam}
use Rattle.lrc_exec.specs.Plain.{Plain}
use Rattle.lrc_exec.specs.declared.spot.Spot.{Spot}
use Rattle.lrc_exec.specs.Spots.{spot_thread}
use Rattle.lrc_orders.specs.declared.noted.Noted.{Noted}
use Rattle.lrc_orders_table.specs.declared.rows.Rows.{Rows}
use Rattle.lrc_exec.specs.declared.state.State.{State}
use Rattle.lrc_orders.specs.Kept.{Grows, IsAddedAt}
use Rattle.lrc_orders_table.specs.Links.{StandByNode}
use Rattle.lrc_orders_table.specs.Rows.{IsRowAt, IsRowPlace, WidensRows, row_count}
use Rattle.lrc_orders.specs.Notes.{notes_of}
use Rattle.lrc_exec.specs.States.{plain_at, IsCopy, IsStateOf}
use Rattle.lrc_orders.proofs.Keeping.{grows_again, grows_not, stands_on}
use Rattle.lrc_orders.proofs.Searching.{copy_same, copy_state}
use Rattle.lrc_orders.proofs.Standing.{step_within}
use Rattle.lrc_orders.proofs.Stores.{added_all, before, full_more}
use Rattle.lrc_orders.proofs.Ways.{IsNotedCopy}
use Rattle.lrc_orders_table.proofs.ByNode.{stand_none, stand_notes}
use Rattle.lrc_orders_table.proofs.RowLaws.{row_copy, row_grown, row_store, row_within, rows_again}
use Rattle.lrc_orders_laws.specs.Steps.{beginning}
use Rattle.lrc_orders_laws.proofs.Rounds.{one_settling}
use Rattle.lrc_orders_settling.specs.declared.step.Step.{Step}
use Rattle.lrc_orders_settling.specs.declared.step.Step.TheVariants.{Alone, Together}
use Rattle.lrc_orders_settling.specs.Taking.{count_of, IsCounted, Takes, alone}
use Rattle.lrc_explore.specs.declared.task.Task.{Task}
use Rattle.lrc_explore.specs.declared.task.Origin.{Origin}
use Rattle.lrc_explore.specs.declared.task.Found.{Found}
use Rattle.lrc_explore.specs.Reached.{AreFound, AreReached, CannotTake, ComesFrom, HasAfter, HasAfterAt, HasReached, HasStart, IsExpanded, IsExpandedAt, IsFirstKey, IsFound}
use Rattle.lrc_explore.specs.Reached.{IsFrom, IsKept, IsKeyOf, IsMore, IsReached, IsTableOf, SettlesStart}
use Rattle.lrc_orders_table.specs.Nexts.{notes_on}
use Rattle.lrc_orders_live.specs.Like.{AreLike, TakesLike}
use Rattle.lrc_orders_live.specs.Live.{forgot}
use Rattle.lrc_orders_live.proofs.Alike.{takes_once}
use Rattle.lrc_orders_live.proofs.Like.{like_alike, like_back, like_is, like_on, like_same}
use Rattle.lrc_orders_table.proofs.Forgotten.{all_forgot}
use Rattle.lrc_explore.proofs.MeansOf.{table_distinct}
use Rattle.lrc_explore.proofs.Reaching.{Further, further, notes_onward}

-- ---- copies

copy_counted : (a b : State) → IsCopy a b → IsCounted b → IsCounted a
copy_counted a b c is =
    c.arrivals ∙ is ∙ ap (λ spots. map count_of spots) (sym c.spots)

reached_copy : (task : Task) (copy key : Noted) → IsNotedCopy copy key → IsReached task key → IsReached task copy
reached_copy task copy key c r = record {
  valid = copy_state task.flat copy.state key.state c.state r.valid;
  counted = copy_counted copy.state key.state c.state r.counted;
  acts = r.acts;
  machine = r.machine;
  led = r.led;
  alike = like_is r.alike (sym (copy_same task.flat copy.state key.state c.state));
  noted = λ e. r.noted e ∙ sym c.notes;
  bare = λ e. c.notes ∙ r.bare e;
}

-- the notes of what was reached stand node by node
stand_if : (task : Task) (key : Noted) → IsReached task key → (b : Bool) → task.noting ≡ b → StandByNode task.flat.nodes key.notes.items
stand_if task key r true e = subst (StandByNode task.flat.nodes) (r.noted e) (stand_notes task.flat.nodes r.acts)
stand_if task key r false e = subst (StandByNode task.flat.nodes) (sym (r.bare e)) (stand_none task.flat.nodes)

pub reached_stand : (task : Task) (key : Noted) → IsReached task key → StandByNode task.flat.nodes key.notes.items
reached_stand task key r = stand_if task key r task.noting refl

takes_copy : (task : Task) (from : Plain) (step : Step) (acts : List Act) (copy key : Noted) → IsNotedCopy copy key
    → TakesLike from step acts (plain_at task.flat key.state) → TakesLike from step acts (plain_at task.flat copy.state)
takes_copy task from step acts copy key c t = record {
  there = t.there;
  takes = t.takes;
  alike = like_is t.alike (sym (copy_same task.flat copy.state key.state c.state));
}

from_copy : (task : Task) (all : Rows) (origin : Origin) (copy key : Noted) → IsNotedCopy copy key → IsFrom task all origin key
    → IsFrom task all origin copy
from_copy task all origin copy key c f = record {
  before = f.before;
  there = f.there;
  acts = f.acts;
  takes = takes_copy task (plain_at task.flat f.before.state) origin.step f.acts copy key c f.takes;
  noted = λ e. c.notes ∙ f.noted e;
}

pub from_grown : (task : Task) (old new : Rows) (origin : Origin) (key : Noted) → WidensRows old new → IsFrom task old origin key
    → IsFrom task new origin key
from_grown task old new origin key w f = record {
  before = f.before;
  there = row_grown old new origin.parent f.before w f.there;
  acts = f.acts;
  takes = f.takes;
  noted = f.noted;
}

first_copy : (task : Task) (copy key : Noted) → IsNotedCopy copy key → IsFirstKey task key → IsFirstKey task copy
first_copy task copy key c f =
    (f.0, f.1, f.2, like_is f.3 (sym (copy_same task.flat copy.state key.state c.state)), λ e. c.notes ∙ f.4 e)

-- ---- what was found

pub found_none : (task : Task) (found : Found) → row_count found.table.rows ≡ 0 → found.table.rows.nodes ≡ task.flat.nodes → IsTableOf task found.table
    → found.origins.items ≡ [] → AreFound task found
found_none task found none nodes table origins = record {
  reached = record {
    full = λ k lt. absurd (omega (arith, lt, none));
    nodes = nodes;
    distinct = table_distinct task found.table table;
    each = λ k key at. let within = row_within found.table.rows k key at in absurd (omega (arith, within, none));
  };
  table = table;
  even = ap (λ l. length l) origins ∙ sym none;
  from = λ k key pos at. let within = row_within found.table.rows k key at in absurd (omega (arith, within, none));
  first = λ key at. let within = row_within found.table.rows 0 key at in absurd (omega (arith, within, none));
}

origins_grow : (b : Bool) (old new : List Origin) (origin : Origin) → new ≡ (if b then old ++ origin ∷ [] else old) → Grows old new
origins_grow true old new origin is = record { more = origin ∷ []; is = is }
origins_grow false old new origin is = grows_not old new is

even_put : (b : Bool) (old new : Rows) (place : ℕ) (before after : List Origin) (origin : Origin)
    → IsAddedAt (row_count old) (row_count new) place b → after ≡ (if b then before ++ origin ∷ [] else before)
    → length before ≡ row_count old → length after ≡ row_count new
even_put true old new place before after origin put is e =
    ap (λ l. length l) is ∙ length_push before origin ∙ ap (λ n. n + 1) e ∙ sym put.1
even_put false old new place before after origin put is e = ap (λ l. length l) is ∙ e ∙ sym put

module _ (task : Task) (old new : Found) (key : Noted) (origin : Origin) (place : ℕ) (added : Bool) (f : AreFound task old) (r : IsReached task key)
    (from : ComesFrom task old origin key) (w : WidensRows old.table.rows new.table.rows) (table : IsTableOf task new.table)
    (put : IsAddedAt (row_count old.table.rows) (row_count new.table.rows) place added) (at : IsRowAt new.table.rows place key)
    (origins : new.origins.items ≡ (if added then old.origins.items ++ origin ∷ [] else old.origins.items)) where
  pub more_put : IsMore old new
  more_put = record { rows = w; origins = origins_grow added old.origins.items new.origins.items origin origins }

  seam : added ≡ true → slice_get new.origins.items (row_count old.table.rows) ≡ Some origin
  seam e =
      ap (λ l. slice_get l (row_count old.table.rows)) (origins ∙ ap (λ b. if b then old.origins.items ++ origin ∷ [] else old.origins.items) e)
      ∙ ap (slice_get (old.origins.items ++ origin ∷ [])) (sym f.even)
      ∙ slice_get-seam old.origins.items origin []

  found_at : (k : ℕ) (x : Noted) → IsRowAt new.table.rows k x → 0 < k → IsFound task new k x
  found_at k x there pos =
      added_all IsRowAt row_count WidensRows IsNotedCopy row_store old.table.rows new.table.rows place added key w f.reached.full put at
      (λ n y. 0 < n → IsFound task new n y)
      (λ n y here positive.
      let o = f.from n y positive here in
      record {
        origin = o.origin;
        there = stands_on n o.origin more_put.origins o.there;
        earlier = o.earlier;
        from = from_grown task old.table.rows new.table.rows o.origin y w o.from;
      })
      (λ e copy c positive.
      let o = from.0 positive in
      record {
        origin = origin;
        there = seam e;
        earlier = o.0;
        from = from_copy task new.table.rows origin copy key c (from_grown task old.table.rows new.table.rows origin key w o.1);
      }) k x there pos

  first_at : (k : ℕ) (x : Noted) → IsRowAt new.table.rows k x → k ≡ 0 → IsFirstKey task x
  first_at =
      added_all IsRowAt row_count WidensRows IsNotedCopy row_store old.table.rows new.table.rows place added key w f.reached.full put at
      (λ n y. n ≡ 0 → IsFirstKey task y)
      (λ n y here e. f.first y (subst (λ m. IsRowAt old.table.rows m y) e here))
      (λ e copy c none. first_copy task copy key c (from.1 none))

  pub found_put : AreFound task new
  found_put = record {
    reached = record {
      full = full_more IsRowAt row_count WidensRows IsNotedCopy row_store old.table.rows new.table.rows place added key w f.reached.full put at;
      nodes = w.nodes ∙ f.reached.nodes;
      distinct = table_distinct task new.table table;
      each =
          added_all IsRowAt row_count WidensRows IsNotedCopy row_store old.table.rows new.table.rows place added key w f.reached.full put at
          (λ n y. IsReached task y) f.reached.each (λ e copy c. reached_copy task copy key c r);
    };
    table = table;
    even = even_put added old.table.rows new.table.rows place old.origins.items new.origins.items origin put origins f.even;
    from = λ k x pos there. found_at k x there pos;
    first = λ x there. first_at 0 x there refl;
  }

-- ---- the key of the start

-- what was forgotten is 0
pub bare_by : (live table : List (List Bool)) (old new : List Spot) → table ≡ live → new ≡ map (forgot table) old
    → All (λ (spot : Spot). forgot live spot ≡ spot) new
bare_by live table old new same is = subst (λ t. All (λ (spot : Spot). forgot t spot ≡ spot) new) same (all_forgot table old new is)

module _ (task : Task) (state : State) (acts : List Act) (key : Noted) (s : SettlesStart task [] acts state) (k : IsKeyOf task state acts key) where
  made : s.acts ≡ acts
  made = sym s.made

  start_noted : task.noting ≡ true → notes_of task.flat.nodes s.acts ≡ key.notes.items
  start_noted e = ap (notes_of task.flat.nodes) made ∙ sym (k.noted e)

  pub start_reached : IsReached task key
  start_reached = record {
    valid = k.valid;
    counted = k.counted;
    acts = s.acts;
    machine = s.settles.there;
    led = beginning s.acts s.settles.there s.settles.settles;
    alike = like_on (like_alike s.settles.alike) (like_back k.alike);
    noted = start_noted;
    bare = k.bare;
  }

  pub start_first : IsFirstKey task key
  start_first = (s.acts, s.settles.there, s.settles.settles, like_on (like_alike s.settles.alike) (like_back k.alike), λ e. sym (start_noted e))

  pub has_start : (all : Rows) → IsKept all key → HasStart task all
  has_start all kept others machine settles =
      let one = one_settling settles s.settles.settles in
      record {
        place = kept.0;
        key = key;
        there = kept.1;
        alike = like_on (subst (λ m. AreLike machine m) one.1 (like_same machine)) (like_on (like_alike s.settles.alike) (like_back k.alike));
        noted = λ e. sym (start_noted e) ∙ ap (notes_of task.flat.nodes) (sym one.0);
      }

-- ---- the key of a step

-- it is reached
pub next_reached : (task : Task) (before : Noted) (step : Step) (acts : List Act) (key : Noted) → IsReached task before → IsStateOf task.flat key.state
    → IsCounted key.state → TakesLike (plain_at task.flat before.state) step acts (plain_at task.flat key.state)
    → (task.noting ≡ true → key.notes.items ≡ notes_on before.notes.items acts) → (task.noting ≡ false → key.notes.items ≡ before.notes.items)
    → IsReached task key
next_reached task before step acts key r valid counted takes noted bare =
    let on : Further task (r.acts ++ acts) (plain_at task.flat key.state) =
    further task before r r.acts r.machine r.led r.alike step acts (plain_at task.flat key.state) takes in
    record {
      valid = valid;
      counted = counted;
      acts = r.acts ++ acts;
      machine = on.machine;
      led = on.led;
      alike = on.alike;
      noted = λ e.
          notes_onward task.program.now task.flat.nodes r.acts acts on.machine on.led ∙ ap (λ n. notes_on n acts) (r.noted e) ∙ sym (noted e);
      bare = λ e. bare e ∙ r.bare e;
    }

-- it is found from where the step was taken
pub next_comes : (task : Task) (found : Found) (origin : Origin) (key : Noted) → IsFrom task found.table.rows origin key → ComesFrom task found origin key
next_comes task found origin key from =
    let within = row_within found.table.rows origin.parent from.before from.there in (λ pos. (within, from), λ none. absurd (omega (arith, within, none)))

-- and is what the step leads to
pub has_after : (task : Task) (old new : Rows) (place : ℕ) (step : Step) (key : Noted) → IsFrom task old (record { parent = place; step = step }) key
    → WidensRows old new → IsKept new key → HasAfterAt task new place step
has_after task old new place step key from w kept other at acts after takes =
    let copy = row_copy new place other from.before at (row_grown old new place from.before w from.there) in
    let here = subst (λ m. Takes m step acts after) (copy_same task.flat other.state from.before.state copy.state) takes in
    let one = takes_once here from.takes.takes in
    record {
      place = kept.0;
      key = key;
      there = kept.1;
      alike = like_on (subst (λ m. AreLike after m) one.1 (like_same after)) from.takes.alike;
      noted = λ e. from.noted e ∙ ap (notes_on from.before.notes.items) (sym one.0) ∙ ap (λ n. notes_on n acts) (sym copy.notes);
    }

pub has_none : (task : Task) (all : Rows) (key : Noted) (step : Step) → CannotTake task key.state step → HasAfter task all key step
has_none task all key step cannot acts after takes = absurd (cannot acts after takes)

reached_grown : (task : Task) (old new : Rows) (machine : Plain) (notes : List Act) → WidensRows old new → HasReached task old machine notes
    → HasReached task new machine notes
reached_grown task old new machine notes w h = record {
  place = h.place;
  key = h.key;
  there = row_grown old new h.place h.key w h.there;
  alike = h.alike;
  noted = h.noted;
}

after_grown : (task : Task) (old new : Rows) (key : Noted) (step : Step) → WidensRows old new → HasAfter task old key step
    → HasAfter task new key step
after_grown task old new key step w h acts after takes = reached_grown task old new after (notes_on key.notes.items acts) w (h acts after takes)

pub start_grown : (task : Task) (old new : Rows) → WidensRows old new → HasStart task old → HasStart task new
start_grown task old new w h acts machine settles = reached_grown task old new machine (notes_of task.flat.nodes acts) w (h acts machine settles)

pub expanded_grown : (task : Task) (old new : Rows) (key : Noted) → WidensRows old new → IsExpanded task old key → IsExpanded task new key
expanded_grown task old new key w h step = after_grown task old new key step w (h step)

pub expanded_copy : (task : Task) (all : Rows) (copy key : Noted) → IsNotedCopy copy key → IsExpanded task all key → IsExpanded task all copy
expanded_copy task all copy key c h step acts after takes =
    let from = subst (λ m. Takes m step acts after) (copy_same task.flat copy.state key.state c.state) takes in
    let r = h step acts after from in
    record {
      place = r.place;
      key = r.key;
      there = r.there;
      alike = r.alike;
      noted = λ e. r.noted e ∙ ap (λ n. notes_on n acts) (sym c.notes);
    }

-- past the nodes there is none that takes a step
pub no_node : (task : Task) (state : State) (node : ℕ) → length state.spots.items ≤ node → CannotTake task state (Alone node)
no_node task state node past acts after (alone machine mid _ _ deed more kind step settles) =
    let within = step_within (plain_at task.flat state) node (deed, mid) step in
    omega (arith, past, within, length-map state.spots.items (spot_thread task.flat))

expanded_all : (task : Task) (all : Rows) (key : Noted) (last : ℕ) → length key.state.spots.items ≤ last → HasAfter task all key Together
    → ((node : ℕ) → node < last → HasAfter task all key (Alone node)) → IsExpanded task all key
expanded_all task all key last le all_together each Together = all_together
expanded_all task all key last le all_together each (Alone node) = elim (cases_lt node last) [
  | inl lt ↦ each node lt
  | inr past ↦ has_none task all key (Alone node) (no_node task key.state node (omega (arith, le, past)))
]

pub expanded_at : (task : Task) (all : Rows) (place last : ℕ) → AreReached task all → task.flat.nodes ≤ last → HasAfterAt task all place Together
    → ((node : ℕ) → node < last → HasAfterAt task all place (Alone node)) → IsExpandedAt task all place
expanded_at task all place last reached le all_together each key at =
    expanded_all task all key last (let e = (reached.each place key at).valid.spots in omega (arith, e, le)) (all_together key at)
    (λ node lt. each node lt key at)

pub more_again : {a b c : Found} → IsMore a b → IsMore b c → IsMore a c
more_again v w = record { rows = rows_again v.rows w.rows; origins = grows_again v.origins w.origins }

pub after_at_grown : (task : Task) (old new : Rows) (place : ℕ) (step : Step) → WidensRows old new → IsRowPlace old place → HasAfterAt task old place step
    → HasAfterAt task new place step
after_at_grown task old new place step w full h key at =
    after_grown task old new key step w (h key (before IsRowAt row_count WidensRows IsNotedCopy row_store old new place key w full at))

pub each_more : (task : Task) (old new : Rows) (place node : ℕ) → WidensRows old new → IsRowPlace old place
    → ((k : ℕ) → k < node → HasAfterAt task old place (Alone k)) → HasAfterAt task new place (Alone node) → (k : ℕ) → k < node + 1
    → HasAfterAt task new place (Alone k)
each_more task old new place node w full each here k lt = elim (cases_eq k node) [
  | inl same ↦ subst (λ n. HasAfterAt task new place (Alone n)) (sym same) here
  | inr apart ↦ after_at_grown task old new place (Alone k) w full (each k (omega (arith, lt, apart)))
]

-- places stay within what was found
pub within_more : (task : Task) (old new : Found) (place : ℕ) → AreFound task old → IsMore old new → place < row_count old.table.rows
    → place < row_count new.table.rows
within_more task old new place f more lt =
    let x = f.reached.full place lt in
    row_within new.table.rows place x.0 (row_grown old.table.rows new.table.rows place x.0 more.rows x.1)

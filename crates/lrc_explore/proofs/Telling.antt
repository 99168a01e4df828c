-- The way to a state is taken once more.
use Rattle.std.proofs.Common.{◌≡◌, ℕ, ◌+◌, ◌<◌, ◌≤◌, List, [], ◌∷◌, length, drop, get_or, sym, ap, ◌∙◌, subst, arith, add-one, drop-cons}
use Rattle.std.specs.Prelude.{Option, Some, None, MatchOption, slice_get, slice_index}
use Rattle.std.proofs.lemmas.Option.{same_Some, slice_get_within}
use Rattle.std.proofs.lemmas.Grind.{common_steps}
use Rattle.lrc_trace.specs.declared.act.Act.{Act}
use Rattle.lrc_orders.specs.declared.noted.Noted.{Noted}
use Rattle.lrc_exec.specs.declared.state.State.{State}
use Rattle.lrc_orders_table.specs.Rows.{IsRowAt, row_count}
use Rattle.lrc_orders.specs.Notes.{notes_of}
use Rattle.lrc_exec.specs.States.{plain_at}
use Rattle.lrc_orders.proofs.Searching.{copy_same}
use Rattle.lrc_orders.proofs.Ways.{IsNotedCopy}
use Rattle.lrc_orders_table.proofs.RowLaws.{row_copy}
use Rattle.lrc_orders_laws.specs.Steps.{beginning, IsSettledState}
use Rattle.lrc_orders_laws.proofs.Rounds.{one_settling}
use Rattle.lrc_explore.specs.declared.task.Task.{Task}
use Rattle.lrc_explore.specs.declared.task.Origin.{Origin}
use Rattle.lrc_explore.specs.declared.task.Found.{Found}
use Rattle.lrc_explore.specs.Reached.{AreFound, CannotTake, HasTakenTo, IsFound, SettlesStart}
use Rattle.lrc_orders_table.specs.Nexts.{notes_on}
use Rattle.lrc_explore.specs.Told.{Comes, here, on, IsParentLed, LeadTo}
use Rattle.lrc_orders_live.specs.Like.{AreLike, TakesLike}
use Rattle.lrc_orders_live.proofs.Alike.{takes_once}
use Rattle.lrc_orders_live.proofs.Like.{like_alike, like_back, like_is, like_on}
use Rattle.lrc_explore.proofs.Reaching.{further, notes_onward}

-- the first state
pub led_first : (task : Task) (found : Found) (place : ℕ) (acts : List Act) (state : State) → AreFound task found → place < row_count found.table.rows
    → SettlesStart task [] acts state → LeadTo task found 0 acts
led_first task found place acts state f lt s =
    let at = f.reached.full 0 (omega (arith, lt)) in
    let first = f.first at.0 at.1 in
    let one = one_settling s.settles.settles first.2 in
    record {
      machine = s.settles.there;
      led = subst (λ l. IsSettledState task.program.now task.flat.nodes l s.settles.there) (sym s.made) (beginning s.acts s.settles.there s.settles.settles);
      key = at.0;
      there = at.1;
      alike = subst (λ m. AreLike m (plain_at task.flat at.0.state)) (sym one.1) first.3;
      noted = λ e. ap (notes_of task.flat.nodes) (s.made ∙ one.0) ∙ sym (first.4 e);
    }

-- one step more
module _ (task : Task) (found : Found) (place : ℕ) (origin : Origin) (key : Noted) (f : AreFound task found) (within : place < row_count found.table.rows)
    (later : 0 < place) (noted : slice_get found.origins.items place ≡ Some origin) (there : IsRowAt found.table.rows origin.parent key) where
  here_is : (x : Noted) × IsRowAt found.table.rows place x
  here_is = f.reached.full place within

  was : IsFound task found place here_is.0
  was = f.from place here_is.0 later here_is.1

  same_origin : was.origin ≡ origin
  same_origin = same_Some was.origin origin (sym was.there ∙ noted)

  before_copy : IsNotedCopy was.from.before key
  before_copy =
      let at : IsRowAt found.table.rows origin.parent was.from.before =
      subst (λ (o : Origin). IsRowAt found.table.rows o.parent was.from.before) same_origin was.from.there in
      row_copy found.table.rows origin.parent was.from.before key at there

  before_is : plain_at task.flat was.from.before.state ≡ plain_at task.flat key.state
  before_is = copy_same task.flat was.from.before.state key.state before_copy.state

  takes_it : TakesLike (plain_at task.flat key.state) origin.step was.from.acts (plain_at task.flat here_is.0.state)
  takes_it =
      subst (λ (o : Origin). TakesLike (plain_at task.flat key.state) o.step was.from.acts (plain_at task.flat here_is.0.state)) same_origin
      (subst (λ m. TakesLike m was.origin.step was.from.acts (plain_at task.flat here_is.0.state)) before_is was.from.takes)

  pub led_on : (acts later_acts : List Act) (o : Option State) → LeadTo task found origin.parent acts
      → MatchOption o (CannotTake task key.state origin.step × (later_acts ≡ acts)) (HasTakenTo task key.state origin.step acts later_acts) → LeadTo task found place later_acts
  led_on acts later_acts None led cannot = absurd (cannot.0 was.from.acts takes_it.there takes_it.takes)
  led_on acts later_acts (Some state) led t =
      let r = f.reached.each origin.parent key there in
      let copy = row_copy found.table.rows origin.parent led.key key led.there there in
      let alike : AreLike led.machine (plain_at task.flat key.state) = like_is led.alike (copy_same task.flat led.key.state key.state copy.state) in
      let next = further task key r acts led.machine led.led alike origin.step t.acts (plain_at task.flat state)
      (record { there = t.takes.there; takes = t.takes.takes; alike = like_alike t.takes.alike }) in
      let one = takes_once t.takes.takes takes_it.takes in
      record {
        machine = next.machine;
        led = subst (λ l. IsSettledState task.program.now task.flat.nodes l next.machine) (sym t.made) next.led;
        key = here_is.0;
        there = here_is.1;
        alike = like_on next.alike (like_on (like_back (like_alike t.takes.alike)) (subst (λ m. AreLike m (plain_at task.flat here_is.0.state)) (sym one.1) takes_it.alike));
        noted = λ e.
            ap (notes_of task.flat.nodes) t.made
            ∙ notes_onward task.program.now task.flat.nodes acts t.acts next.machine next.led
            ∙ ap (λ n. notes_on n t.acts) (led.noted e ∙ copy.notes ∙ sym before_copy.notes)
            ∙ ap (notes_on was.from.before.notes.items) one.0
            ∙ sym (was.from.noted e);
      }

-- ---- a way, place by place

pub record Onwards (origins : List Origin) (from next to : ℕ) (path : List ℕ) : Type 0 where
  pub later : 0 < next
  pub origin : Origin
  pub there : slice_get origins next ≡ Some origin
  pub parent : origin.parent ≡ from
  pub rest : Comes origins next path to

onwards : (origins : List Origin) (from next to : ℕ) (path : List ℕ) → Comes origins from (next ∷ path) to → Onwards origins from next to path
onwards origins from next to path (on _ _ _ _ origin later there parent rest) =
    record { later = later; origin = origin; there = there; parent = parent; rest = rest }

ended : (origins : List Origin) (from to : ℕ) → Comes origins from [] to → from ≡ to
ended origins from to (here _ _ e) = e

-- so many places of the path were passed
pub record Following (task : Task) (found : Found) (path : List ℕ) (place index : ℕ) (acts : List Act) : Type 0 where
  pub at : ℕ
  pub comes : Comes found.origins.items at (drop index path) place
  pub led : LeadTo task found at acts

pub following_first : (task : Task) (found : Found) (path : List ℕ) (place : ℕ) (acts : List Act) → Comes found.origins.items 0 path place
    → LeadTo task found 0 acts → Following task found path place 0 acts
following_first task found path place acts comes led = record { at = 0; comes = comes; led = led }

module _ (task : Task) (found : Found) (path : List ℕ) (place index : ℕ) (acts : List Act) (f : AreFound task found)
    (so : Following task found path place index acts) (lt : index < length path) where
  pub next : Onwards found.origins.items so.at (slice_index path index) place (drop (index + 1) path)
  next =
      onwards found.origins.items so.at (slice_index path index) place (drop (index + 1) path)
      (subst (λ l. Comes found.origins.items so.at l place) (drop-cons path index 0 lt ∙ ap (λ n. get_or path index 0 ∷ drop n path) (sym (add-one index))) so.comes)

  pub next_within : slice_index path index < row_count found.table.rows
  next_within = let e = slice_get_within found.origins.items (slice_index path index) next.origin next.there in omega (arith, e, f.even)

  pub next_led : IsParentLed task found (slice_index path index) acts
  next_led origin there =
      let same : next.origin ≡ origin = same_Some next.origin origin (sym next.there ∙ there) in
      subst (λ n. LeadTo task found n acts) (sym next.parent ∙ ap (λ (o : Origin). o.parent) same) so.led

  pub following_on : (later : List Act) → LeadTo task found (slice_index path index) later → Following task found path place (index + 1) later
  following_on later led = record { at = slice_index path index; comes = next.rest; led = led }

pub followed : (task : Task) (found : Found) (path : List ℕ) (place index : ℕ) (acts : List Act) → Following task found path place index acts
    → length path ≤ index → LeadTo task found place acts
followed task found path place index acts so le =
    let none : drop index path ≡ [] = all_dropped path index le in
    subst (λ n. LeadTo task found n acts) (ended found.origins.items so.at place (subst (λ l. Comes found.origins.items so.at l place) none so.comes)) so.led
  where
    all_dropped : (xs : List ℕ) (n : ℕ) → length xs ≤ n → drop n xs ≡ []
    all_dropped xs n le = grind (arith, common_steps)

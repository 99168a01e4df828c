-- What is known once a step was taken, or passed by.
use Rattle.std.proofs.Common.{◌≡◌, ℕ, ◌+◌, ◌-◌, ◌<◌, ◌≤◌, List, [], ◌∷◌, ◌++◌, Bool, true, false, inl, inr, length, refl, sym, ap, ◌∙◌, subst, arith}
use Rattle.std.specs.Prelude.{Option, Some, None, if◌then◌else◌, is_none, nat_lt, slice_get}
use Rattle.std.proofs.lemmas.Bool.{cases_eq, cases_lt, true≢false}
use borrow.Author.Tests.{ltb-true}
use Rattle.std.proofs.lemmas.List.{length_push}
use Rattle.std.proofs.lemmas.Option.{slice_get_within}
use Rattle.lrc_trace.specs.declared.act.Act.{Act}
use Rattle.lrc_trace.proofs.Positions.{slice_get-seam}
use Rattle.lrc_exec.specs.States.{IsStateOf, plain_at}
use Rattle.lrc_orders.specs.declared.noted.Noted.{Noted}
use Rattle.lrc_orders.specs.Kept.{Grows, IsAddedAt}
use Rattle.lrc_orders.specs.Stuck.{GetsStuck, IsStuck}
use Rattle.lrc_orders.specs.Traps.{NodeTraps, has_trap}
use Rattle.lrc_exec.specs.Follows.{nodes_of_acts}
use Rattle.lrc_orders.proofs.Gathering.{put_all}
use Rattle.lrc_orders.proofs.Keeping.{grows_again, grows_not, item_at}
use Rattle.lrc_orders.proofs.Searching.{copy_same}
use Rattle.lrc_orders_settling.specs.declared.step.Step.{Step}
use Rattle.lrc_orders_settling.specs.declared.step.Step.TheVariants.{Alone}
use Rattle.lrc_orders_settling.specs.Taking.{Takes}
use Rattle.lrc_orders_live.proofs.Alike.{takes_once}
use Rattle.lrc_orders_table.specs.declared.rows.Row.{Row}
use Rattle.lrc_orders_table.specs.declared.rows.Rows.{Rows}
use Rattle.lrc_orders_table.specs.Rows.{IsRowAt, IsRowPlace, WidensRows, row_count}
use Rattle.lrc_orders_table.specs.Tables.{IsRowOf}
use Rattle.lrc_orders_table.specs.declared.known.Means.{Means}
use Rattle.lrc_orders_table.proofs.RowLaws.{row_copy, row_grown, rows_not, stands_at}
use Rattle.lrc_orders_less.specs.Reaches.{AreReaches, IsAlwaysUndisputed}
use Rattle.lrc_orders_less.proofs.Pairs.{reaches_grown as reaches_more}
use Rattle.lrc_explore.specs.declared.task.Found.{Found}
use Rattle.lrc_explore.specs.declared.task.Origin.{Origin}
use Rattle.lrc_explore.specs.declared.task.Task.{Task}
use Rattle.lrc_explore.specs.declared.task.Trapping.{Trapping}
use Rattle.lrc_explore.specs.declared.task.Trapping.TheVariants as trapping
use Rattle.lrc_explore.specs.Reached.{AreFound, CannotTakeAt, HasAfterAt, HasStart, IsFrom, IsMeansOf, IsMore, LeadsTo}
use Rattle.lrc_explore.specs.Traps.{AreRowsTrapless, LeadIntoTrap, ShowsStartTrap, ShowsTrapAt, start_trap}
use Rattle.lrc_explore.specs.Told.{LeadTo}
use Rattle.lrc_explore.proofs.Keys.{after_at_grown, has_after, start_grown}
use Rattle.lrc_explore.proofs.Reaching.{gets_stuck}
use Rattle.lrc_explore.proofs.Trapping.{node_traps, trap_grown}
use Rattle.lrc_explore.specs.Answers.{IsLong}
use Rattle.lrc_explore.proofs.Seeking.{long_at}
use Rattle.lrc_explore_less.specs.declared.less.Less.{Less}
use Rattle.lrc_explore_less.specs.declared.less.Pass.TheVariants as pass
use Rattle.lrc_explore_less.specs.Passing.{AreFirst, AreLess, ArePassing, HasPassed, HasTaken, IsLongSome, IsSound, IsTrap, LeadsOpen, Passes, Reaches, Way, Widens, stays, pass_of, trap_then}
use Rattle.lrc_explore_less.specs.Enough.{HasBegun, IsStartTrapless}
use Rattle.lrc_explore_less.proofs.Ways.{leads_grown, was_at, way_grown, way_on, way_open, widens_not}

-- ---- a step that was taken

pub reaches_of : (task : Task) (mid new : Rows) (place next : ℕ) (step : Step) (row : Row) (traps : Bool) → WidensRows mid new
    → (n : LeadsTo task mid place step row) → ShowsTrapAt task mid place step traps → IsRowAt new next n.key → Reaches task new place step traps next
reaches_of task mid new place next step row traps w n shows at =
    let f = n.from in
    record {
      before = f.before;
      there = row_grown mid new place f.before w f.there;
      after = n.key;
      comes = at;
      acts = f.acts;
      takes = f.takes;
      noted = f.noted;
      shows = (shows f.before f.there).each f.acts f.takes.there f.takes.takes;
    }

from_reaches : (task : Task) (all : Rows) (place next : ℕ) (step : Step) (traps : Bool) → (r : Reaches task all place step traps next)
    → IsFrom task all (record { parent = place; step = step }) r.after
from_reaches task all place next step traps r =
    record { before = r.before; there = r.there; acts = r.acts; takes = r.takes; noted = r.noted }

pub after_reached : (task : Task) (all : Rows) (place next : ℕ) (step : Step) (traps : Bool) → Reaches task all place step traps next
    → HasAfterAt task all place step
after_reached task all place next step traps r =
    has_after task all all place step r.after (from_reaches task all place next step traps r) (rows_not all) (next, r.comes)

pub shown_reached : (task : Task) (all : Rows) (place next : ℕ) (step : Step) → Reaches task all place step false next → ShowsTrapAt task all place step false
shown_reached task all place next step r other at =
    let copy = row_copy all place other r.before at r.there in
    record {
      each = λ acts after takes.
          let own = subst (λ m. Takes m step acts after) (copy_same task.flat other.state r.before.state copy.state) takes in
          ap has_trap (takes_once own r.takes.takes).0 ∙ r.shows;
      made = λ e. absurd (true≢false (sym e));
    }

pub after_none : (task : Task) (all : Rows) (place : ℕ) (step : Step) → CannotTakeAt task all place step → HasAfterAt task all place step
after_none task all place step cannot key at acts after takes = absurd (cannot key at acts after takes)

pub shown_none : (task : Task) (all : Rows) (place : ℕ) (step : Step) → CannotTakeAt task all place step → ShowsTrapAt task all place step false
shown_none task all place step cannot key at =
    record { each = λ acts after takes. absurd (cannot key at acts after takes); made = λ e. absurd (true≢false (sym e)) }

-- ---- where a node traps

pub trap_calm : (trap : Option Trapping) (traps : Bool) (origin : Origin) → is_none (trap_then trap traps origin) ≡ true
    → (is_none trap ≡ true) × (traps ≡ false)
trap_calm (Some first) traps origin e = absurd (true≢false (sym e))
trap_calm None true origin e = absurd (true≢false (sym e))
trap_calm None false origin e = (refl, refl)

pub trap_more : (task : Task) (old new : Rows) (trap : Option Trapping) → WidensRows old new → IsTrap task old trap → IsTrap task new trap
trap_more task old new None w is = tt
trap_more task old new (Some trapping.Start) w is = is
trap_more task old new (Some (trapping.Step origin)) w is = (is.0, row_grown old new origin.parent is.0 w is.1, is.2)

pub trap_taken : (task : Task) (old mid : Rows) (trap : Option Trapping) (traps : Bool) (place : ℕ) (step : Step) → WidensRows old mid
    → IsTrap task old trap → (key : Noted) → IsRowAt mid place key → ShowsTrapAt task mid place step traps
    → IsTrap task mid (trap_then trap traps (record { parent = place; step = step }))
trap_taken task old mid (Some first) traps place step w is key at shows = trap_more task old mid (Some first) w is
trap_taken task old mid None false place step w is key at shows = tt
trap_taken task old mid None true place step w is key at shows = (key, at, (shows key at).made refl)

-- as the start settles
pub trap_first : (task : Task) (all : Rows) (traps : Bool) → ShowsStartTrap task traps → IsTrap task all (start_trap traps)
trap_first task all true s = s.made refl
trap_first task all false s = tt

pub start_trapless : (task : Task) (traps : Bool) → ShowsStartTrap task traps → is_none (start_trap traps) ≡ true → IsStartTrapless task
start_trapless task true s e = absurd (true≢false (sym e))
start_trapless task false s e = s.each

start_none : (traps : Bool) → is_none (start_trap traps) ≡ true → traps ≡ false
start_none true e = absurd (true≢false (sym e))
start_none false e = refl

pub begun_on : (task : Task) (old new : Less) → Widens old new → HasBegun task old → HasBegun task new
begun_on task old new w b = record {
  start = start_grown task old.found.table.rows new.found.table.rows w.found.rows b.start;
  trapless = λ e. b.trapless (w.trap e);
}

-- ---- what is known stays so

pub sound_taken : (task : Task) (old new : Less) (mid : Found) (trap : Option Trapping) → IsSound task old → WidensRows old.found.table.rows mid.table.rows
    → new ≡ record old { found = new.found; trap = trap } → AreFound task new.found → WidensRows mid.table.rows new.found.table.rows
    → IsTrap task mid.table.rows trap → (is_none trap ≡ true → AreRowsTrapless task new.found.table.rows) → IsSound task new
sound_taken task old new mid trap s w same f v is trapless = subst (IsSound task) (sym same) (record {
  found = f;
  reaches = reaches_more task.flat old.found.table.rows.threads.keys new.found.table.rows.threads.keys old.reaches (grows_again w.threads v.threads) s.reaches;
  trap = trap_more task mid.table.rows new.found.table.rows trap v is;
  trapless = trapless;
})

pub widens_same : (old new : Less) → IsMore old.found new.found → new.opens.items ≡ old.opens.items → new.trap ≡ old.trap → Widens old new
widens_same old new more opens same =
    record { found = more; opens = grows_not old.opens.items new.opens.items opens; trap = λ e. ap is_none (sym same) ∙ e }

pub widens_put : (old new : Less) (traps : Bool) (origin : Origin) → IsMore old.found new.found → new.opens.items ≡ old.opens.items
    → new.trap ≡ trap_then old.trap traps origin → Widens old new
widens_put old new traps origin more opens same = record {
  found = more;
  opens = grows_not old.opens.items new.opens.items opens;
  trap = λ e. (trap_calm old.trap traps origin (ap is_none (sym same) ∙ e)).0;
}

-- ---- what is known of pairs is asked

pub widens_known : (old new : Less) → new ≡ record old { reaches = new.reaches } → Widens old new
widens_known old new same =
    let n = widens_not old in
    subst (Widens old) (sym same) (record { found = n.found; opens = n.opens; trap = λ e. e })

pub passing_known : (task : Task) (old new : Less) (first : ℕ) → ArePassing task old first → IsSound task new → new ≡ record old { reaches = new.reaches }
    → ArePassing task new first
passing_known task old new first p sound same = subst (λ l. ArePassing task l first) (sym same) (record {
  sound = subst (IsSound task) same sound;
  leads = p.leads;
  passed = p.passed;
  within = p.within;
  few = p.few;
  some = p.some;
})

module _ (task : Task) (less : Less) (place : ℕ) (row : Row) (means : Means) (is : IsMeansOf task means) (s : IsSound task less)
    (there : slice_get less.found.table.rows.rows.keys place ≡ Some row) where
  pub reaches_by : AreReaches means.flat less.found.table.rows.threads.keys less.reaches
  reaches_by = subst (λ f. AreReaches f less.found.table.rows.threads.keys less.reaches) (sym is.flat) s.reaches

  pub row_of_key : (key : Noted) → IsRowAt less.found.table.rows place key → IsRowOf means less.found.table row key
  row_of_key key at = record {
    stands = stands_at less.found.table.rows place row there (key, at);
    valid = subst (λ f. IsStateOf f key.state) (sym is.flat) (s.found.reached.each place key at).valid;
  }

  pub known_of_key : (node : ℕ) → ((key : Noted) → IsRowOf means less.found.table row key → IsAlwaysUndisputed means.flat key.state node)
      → (key : Noted) → IsRowAt less.found.table.rows place key → IsAlwaysUndisputed task.flat key.state node
  known_of_key node known key at = subst (λ f. IsAlwaysUndisputed f key.state node) is.flat (known key (row_of_key key at))

pub known_on : (task : Task) (old new : Rows) (place node : ℕ) → WidensRows old new → IsRowPlace old place
    → ((key : Noted) → IsRowAt old place key → IsAlwaysUndisputed task.flat key.state node) → (key : Noted) → IsRowAt new place key
    → IsAlwaysUndisputed task.flat key.state node
known_on task old new place node w full known key at = known key (was_at old new place key w full at)

-- ---- on the way

module _ (task : Task) (old new : Less) (first : ℕ) (p : ArePassing task old first) (sound : IsSound task new) (w : Widens old new)
    (opens : new.opens.items ≡ old.opens.items) where
  abbrev was : Rows
  was = old.found.table.rows

  abbrev all : Rows
  all = new.found.table.rows

  abbrev now_calm : Bool
  now_calm = is_none new.trap

  leads_still : (place : ℕ) → place < first → LeadsOpen task all now_calm new.opens.items place
  leads_still place lt =
      leads_grown task was all (is_none old.trap) now_calm w.found.rows w.trap old.opens.items new.opens.items place
      (grows_not old.opens.items new.opens.items opens) (p.leads place lt)

  within_still : (index place : ℕ) → slice_get new.opens.items index ≡ Some place → place < first
  within_still index place at = p.within index place (ap (λ l. slice_get l index) (sym opens) ∙ at)

  way_still : (place last : ℕ) → first ≤ place → place ≤ last → last + 1 ≡ row_count was → Way task all now_calm place last
  way_still place last le to is = way_grown task was all (is_none old.trap) now_calm w.found.rows w.trap (p.passed place last le to is)

  -- no state was added
  pub still_passing : row_count all ≡ row_count was → ArePassing task new first
  still_passing same = record {
    sound = sound;
    leads = leads_still;
    passed = λ place last le to is. way_still place last le to (is ∙ same);
    within = within_still;
    few = let few = p.few in omega (arith, few, ap length opens);
    some = let some = p.some in omega (arith, some, same);
  }

  module _ (at next : ℕ) (last : at + 1 ≡ row_count was) (step : Passes task all now_calm at next) where
    -- the step led to a new state
    pub on_passing : next ≡ row_count was → row_count all ≡ row_count was + 1 → ArePassing task new first
    on_passing is more = record {
      sound = sound;
      leads = leads_still;
      passed = λ place end le to ends. elim (cases_eq place end) [
        | inl same ↦ subst (Way task all now_calm place) same (stays place)
        | inr apart ↦
            let there : next ≡ end = omega (arith, is, more, ends) in
            subst (Way task all now_calm place) there (way_on task all now_calm (way_still place at le (omega (arith, to, apart, ends, more, last)) last) next step)
      ];
      within = within_still;
      few = let few = p.few in omega (arith, few, ap length opens);
      some = let some = p.some in omega (arith, some, more);
    }

    -- it led to one that was found earlier
    pub joined_less : next < first → row_count all ≡ row_count was → AreLess task new
    joined_less lt same = record {
      sound = sound;
      leads = λ place inside. elim (cases_lt place first) [
        | inl before ↦ leads_still place before
        | inr past ↦
            let way = way_on task all now_calm (way_still place at past (omega (arith, inside, same, last)) last) next step in
            way_open task all now_calm way new.opens.items (leads_still next lt)
      ];
      within = λ index place there. let some = p.some in omega (arith, within_still index place there, some, same);
      few = let few = p.few in let some = p.some in omega (arith, few, some, same, ap length opens);
    }

-- from the last state every step is taken
pub opened_less : (task : Task) (old new : Less) (first last : ℕ) → ArePassing task old first → last + 1 ≡ row_count old.found.table.rows
    → new ≡ record old { opens = new.opens } → new.opens.items ≡ old.opens.items ++ last ∷ [] → AreLess task new
opened_less task old new first last p is same more = subst (AreLess task) (sym same) (record {
  sound = record { found = p.sound.found; reaches = p.sound.reaches; trap = p.sound.trap; trapless = p.sound.trapless };
  leads = λ place inside. elim (cases_lt place first) [
    | inl before ↦ leads_grown task all all calm calm (rows_not all) (λ e. e) old.opens.items new.opens.items place grown (p.leads place before)
    | inr past ↦ record {
      to = last;
      way = p.passed place last past (omega (arith, inside, is)) is;
      index = length old.opens.items;
      is_open = ap (λ l. slice_get l (length old.opens.items)) more ∙ slice_get-seam old.opens.items last [];
    }
  ];
  within = λ index place at.
      put_all (λ k (x : ℕ). x < row_count all) false old.opens.items new.opens.items last more
      (λ k x there. let some = p.some in omega (arith, p.within k x there, some)) (omega (arith, is)) index place at;
  few = let few = p.few in let some = p.some in omega (arith, few, some, ap length more ∙ length_push old.opens.items last);
})
  where
    all : Rows
    all = old.found.table.rows

    calm : Bool
    calm = is_none old.trap

    grown : Grows old.opens.items new.opens.items
    grown = record { more = last ∷ []; is = more }

-- from all states but the last every step is taken
pub first_passing : (task : Task) (less : Less) (last : ℕ) → IsSound task less → last + 1 ≡ row_count less.found.table.rows
    → AreFirst less.opens.items last → ArePassing task less last
first_passing task less last sound is first = record {
  sound = sound;
  leads = λ place lt.
      let it = item_at less.opens.items place (omega (arith, lt, first.0)) in
      record { to = it.0; way = subst (λ n. Way task all calm n it.0) (first.1 place it.0 it.1) (stays it.0); index = place; is_open = it.1 };
  passed = λ place end le to ends.
      let same : place ≡ end = omega (arith, le, to, ends, is) in subst (Way task all calm place) same (stays place);
  within = λ index place at.
      let lt = slice_get_within less.opens.items index place at in let same = first.1 index place at in omega (arith, lt, same, first.0);
  few = omega (arith, first.0);
  some = omega (arith, is);
}
  where
    all : Rows
    all = less.found.table.rows

    calm : Bool
    calm = is_none less.trap

pub begun_first : (task : Task) (less : Less) (last : ℕ) (traps : Bool) → AreFound task less.found
    → AreReaches task.flat less.found.table.rows.threads.keys less.reaches → ShowsStartTrap task traps → less.trap ≡ start_trap traps
    → (traps ≡ false → AreRowsTrapless task less.found.table.rows) → last + 1 ≡ row_count less.found.table.rows → AreFirst less.opens.items last
    → ArePassing task less last
begun_first task less last traps f r s same trapless is first =
    first_passing task less last (record {
      found = f;
      reaches = r;
      trap = subst (IsTrap task less.found.table.rows) (sym same) (trap_first task less.found.table.rows traps s);
      trapless = λ none. trapless (start_none traps (ap is_none (sym same) ∙ none));
    }) is first

pub has_begun : (task : Task) (less : Less) (traps : Bool) → HasStart task less.found.table.rows → ShowsStartTrap task traps → less.trap ≡ start_trap traps
    → HasBegun task less
has_begun task less traps start s same = record { start = start; trapless = λ e. start_trapless task traps s (ap is_none (sym same) ∙ e) }

pub first_none : (opens : List ℕ) → opens ≡ [] → AreFirst opens 0
first_none opens none =
    (ap length none, λ index place at. let lt = slice_get_within opens index place at in absurd (omega (arith, lt, ap length none)))

pub first_more : (opens new : List ℕ) (count : ℕ) → AreFirst opens count → new ≡ opens ++ count ∷ [] → AreFirst new (count + 1)
first_more opens new count first is = (
  ap length is ∙ length_push opens count ∙ ap (λ n. n + 1) first.0,
  λ index place at.
      put_all (λ k (x : ℕ). x ≡ k) false opens new count is first.1 (sym first.0) index place at,
)

-- ---- past a step

module _ (task : Task) (old new : Less) (is : AreLess task old) (sound : IsSound task new) (w : Widens old new)
    (opens : new.opens.items ≡ old.opens.items) where
  abbrev earlier : Rows
  earlier = old.found.table.rows

  abbrev later : Rows
  later = new.found.table.rows

  leads_on : (place : ℕ) → place < row_count earlier → LeadsOpen task later (is_none new.trap) new.opens.items place
  leads_on place lt =
      leads_grown task earlier later (is_none old.trap) (is_none new.trap) w.found.rows w.trap old.opens.items new.opens.items place
      (grows_not old.opens.items new.opens.items opens) (is.leads place lt)

  pub still_less : row_count later ≡ row_count earlier → AreLess task new
  still_less same = record {
    sound = sound;
    leads = λ place lt. leads_on place (omega (arith, lt, same));
    within = λ index place at. let lt = is.within index place (ap (λ l. slice_get l index) (sym opens) ∙ at) in omega (arith, lt, same);
    few = let few = is.few in omega (arith, few, same, ap length opens);
  }

  -- a state was added: it is the last
  pub begun_passing : (last : ℕ) → last + 1 ≡ row_count later → row_count later ≡ row_count earlier + 1 → ArePassing task new last
  begun_passing last ends more = record {
    sound = sound;
    leads = λ place lt. leads_on place (omega (arith, lt, ends, more));
    passed = λ place end le to at.
        let same : place ≡ end = omega (arith, le, to, at, ends) in subst (Way task later (is_none new.trap) place) same (stays place);
    within = λ index place at. let lt = is.within index place (ap (λ l. slice_get l index) (sym opens) ∙ at) in omega (arith, lt, ends, more);
    few = let few = is.few in omega (arith, few, ends, more, ap length opens);
    some = omega (arith, ends);
  }

-- a step of an undisputed act
pub passes_of : (task : Task) (old new : Less) (at : ℕ) (node : ℕ) (put : ℕ × Bool) → (t : HasTaken task old new at (Alone node) put)
    → ((key : Noted) → IsRowAt new.found.table.rows at key → IsAlwaysUndisputed task.flat key.state node)
    → Passes task new.found.table.rows (is_none new.trap) at put.0
passes_of task old new at node put t known = record {
  node = node;
  traps = t.traps;
  reaches = t.reaches;
  known = known t.reaches.before t.reaches.there;
  trapless = λ e. (trap_calm old.trap t.traps (record { parent = at; step = Alone node }) (ap is_none (sym t.trap) ∙ e)).1;
}

-- what became of passing on
pub passed_so : (task : Task) (old new : Less) (first at : ℕ) (node : ℕ) (put : ℕ × Bool) → ArePassing task old first → IsSound task new → Widens old new
    → new.opens.items ≡ old.opens.items → at + 1 ≡ row_count old.found.table.rows → (t : HasTaken task old new at (Alone node) put)
    → ((key : Noted) → IsRowAt new.found.table.rows at key → IsAlwaysUndisputed task.flat key.state node)
    → HasPassed task new first (pass_of put.0 put.1 first)
passed_so task old new first at node put p sound w opens last t known = by_added put.1 refl
  where
    step : Passes task new.found.table.rows (is_none new.trap) at put.0
    step = passes_of task old new at node put t known

    by_first : row_count new.found.table.rows ≡ row_count old.found.table.rows → (b : Bool) → nat_lt put.0 first ≡ b
        → HasPassed task new first (if b then pass.Joined else pass.Open)
    by_first same true e = joined_less task old new first p sound w opens at put.0 last step (ltb-true put.0 first e) same
    by_first same false e = still_passing task old new first p sound w opens same

    by_added : (b : Bool) → put.1 ≡ b → HasPassed task new first (if b then pass.On else (if nat_lt put.0 first then pass.Joined else pass.Open))
    by_added true e =
        let a = subst (IsAddedAt (row_count old.found.table.rows) (row_count new.found.table.rows) put.0) e t.added in
        on_passing task old new first p sound w opens at put.0 last step a.0 a.1
    by_added false e =
        by_first (subst (IsAddedAt (row_count old.found.table.rows) (row_count new.found.table.rows) put.0) e t.added) (nat_lt put.0 first) refl

-- it went on only to a state that was added
pub on_added : (was now : ℕ) (put : ℕ × Bool) (first : ℕ) → IsAddedAt was now put.0 put.1 → pass_of put.0 put.1 first ≡ pass.On → now ≡ was + 1
on_added was now put first added is = by_added put.1 refl is
  where
    by_first : (b : Bool) → (if b then pass.Joined else pass.Open) ≡ pass.On → now ≡ was + 1
    by_first true e = cc
    by_first false e = cc

    by_added : (b : Bool) → put.1 ≡ b → (if b then pass.On else (if nat_lt put.0 first then pass.Joined else pass.Open)) ≡ pass.On → now ≡ was + 1
    by_added true e so = (subst (IsAddedAt was now put.0) e added).1
    by_added false e so = by_first (nat_lt put.0 first) so

-- ---- past a step and what was passed on from it

pub shown_taken : (task : Task) (old new : Less) (place : ℕ) (step : Step) (put : ℕ × Bool) → HasTaken task old new place step put
    → is_none new.trap ≡ true → ShowsTrapAt task new.found.table.rows place step false
shown_taken task old new place step put t calm =
    let e = (trap_calm old.trap t.traps (record { parent = place; step = step }) (ap is_none (sym t.trap) ∙ calm)).1 in
    shown_reached task new.found.table.rows place put.0 step (subst (λ b. Reaches task new.found.table.rows place step b put.0) e t.reaches)

module _ (task : Task) (old mid new : Less) (place : ℕ) (step : Step) (put : ℕ × Bool) (t : HasTaken task old mid place step put)
    (full : IsRowPlace mid.found.table.rows place) (w : Widens mid new) where
  pub after_advanced : HasAfterAt task new.found.table.rows place step
  after_advanced =
      after_at_grown task mid.found.table.rows new.found.table.rows place step w.found.rows full
      (after_reached task mid.found.table.rows place put.0 step t.traps t.reaches)

  pub shown_advanced : is_none new.trap ≡ true → ShowsTrapAt task new.found.table.rows place step false
  shown_advanced calm =
      trap_grown task mid.found.table.rows new.found.table.rows place step false w.found.rows full (shown_taken task old mid place step put t (w.trap calm))

-- from the last state, which stays where it is
pub opened_last : (task : Task) (old new : Less) (first : ℕ) → ArePassing task old first → new ≡ record old { opens = new.opens }
    → new.opens.items ≡ old.opens.items ++ (row_count old.found.table.rows - 1) ∷ [] → AreLess task new
opened_last task old new first p same more =
    opened_less task old new first (row_count old.found.table.rows - 1) p (let some = p.some in omega (arith, some)) same more

pub widens_opened : (old new : Less) (last : ℕ) → new ≡ record old { opens = new.opens } → new.opens.items ≡ old.opens.items ++ last ∷ [] → Widens old new
widens_opened old new last same more =
    let n = widens_not old in
    subst (Widens old) (sym same) (record { found = n.found; opens = record { more = last ∷ []; is = more }; trap = λ e. e })

-- ---- an order that gets stuck

pub stuck_order : (task : Task) (found : Found) (place : ℕ) (key : Noted) (acts : List Act) (order : List ℕ) → AreFound task found
    → IsRowAt found.table.rows place key → IsStuck (plain_at task.flat key.state) → LeadTo task found place acts → order ≡ nodes_of_acts acts
    → GetsStuck task.program.now task.flat.nodes order
stuck_order task found place key acts order f at is led same =
    let copy = row_copy found.table.rows place key led.key at led.there in
    subst (GetsStuck task.program.now task.flat.nodes) (sym same)
    (gets_stuck task led.key (f.reached.each place led.key led.there) acts led.machine led.led led.alike
    (subst IsStuck (copy_same task.flat key.state led.key.state copy.state) is))

-- ---- an order in which a node traps

pub trap_order : (task : Task) (acts : List Act) (order : List ℕ) → LeadIntoTrap task acts → order ≡ nodes_of_acts acts
    → NodeTraps task.program.now task.flat.nodes order
trap_order task acts order led same = subst (NodeTraps task.program.now task.flat.nodes) (sym same) (node_traps task acts led)

-- ---- where some node computes too long

pub long_opened : (task : Task) (old new : Less) → new ≡ record old { opens = new.opens } → IsLongSome task old
    → IsLongSome task new
long_opened task old new same is = subst (IsLongSome task) (sym same) is

pub long_less : (task : Task) (less : Less) → IsSound task less → IsLongSome task less → IsLong task
long_less task less sound is = long_at task less.found is.0 sound.found is.1

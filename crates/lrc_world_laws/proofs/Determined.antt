-- Where a schedule leaves no choice, one of two runs that it leads is the beginning of the other.
use Rattle.std.proofs.Common.{◌≡◌, ◌∙◌, ◌⊎◌, inl, inr, ⊎_elim, ℕ, ◌+◌, ◌≤◌, arith, List, [], ◌∷◌, ◌++◌, refl, sym, ap, subst, length}
use Rattle.std.proofs.Common.{length-append, append-nil, append_assoc}
use Rattle.std.specs.Prelude.{Some}
use Rattle.std.proofs.lemmas.Bool.{cases_lt}
use Rattle.std.proofs.lemmas.Option.{same_Some}
use Rattle.lrc_program.specs.declared.Program.{Program}
use Rattle.lrc_protocol.specs.declared.event.Event.{Event}
use Rattle.lrc_protocol.specs.Node.{OptionsRecord}
use Rattle.lrc_protocol.specs.Run.{World as Run, event_on, fresh_world}
use Rattle.lrc_world.specs.Led.{Schedule, Led, begins, plays, passes, AreLed}
use Rattle.lrc_world.specs.Report.{IsOver, AreAll}
use Rattle.lrc_world.proofs.Driven.{led_played, none_long}
use Rattle.lrc_world_laws.specs.Ended.{IsEnded}

-- where it stands one event is due at most, or it passes on, to one place
pub record IsDeterministic (schedule : Schedule) : Type 0 where
  pub one_due : (run : Run) (at : schedule.Standing) (a b : Event) (x y : schedule.Standing) → schedule.Due run at a x
      → schedule.Due run at b y → (a ≡ b) × (x ≡ y)
  pub one_pass : (run : Run) (at x y : schedule.Standing) → schedule.Passes run at x → schedule.Passes run at y → x ≡ y
  pub apart : (run : Run) (at : schedule.Standing) (a : Event) (x y : schedule.Standing) → schedule.Due run at a x
      → schedule.Passes run at y → ⊥

-- What holds wherever it stands, so that no event is due where nothing is left to do.
pub record Stops (schedule : Schedule) (start : Run) : Type 1 where
  pub Holds : Run → schedule.Standing → Type 0
  pub first : Holds start schedule.first
  pub played : (run next : Run) (at after : schedule.Standing) (event : Event) → Holds run at → schedule.Due run at event after
      → event_on run event ≡ Some next → Holds next after
  pub passed : (run : Run) (at after : schedule.Standing) → Holds run at → schedule.Passes run at after → Holds run after
  pub none_due : (run : Run) (at after : schedule.Standing) (event : Event) → Holds run at → IsOver run
      → schedule.Due run at event after → ⊥

-- the events that it goes on with, from one world and standing to another
pub data GoesOn (schedule : Schedule) : Run → schedule.Standing → List Event → Run → schedule.Standing → Type 0 where
  stays : {run : Run} {at : schedule.Standing} → GoesOn schedule run at [] run at
  next_plays : {run next last : Run} {at after end : schedule.Standing} {event : Event} {events : List Event}
      → schedule.Due run at event after → event_on run event ≡ Some next → GoesOn schedule next after events last end
      → GoesOn schedule run at (event ∷ events) last end
  next_passes : {run last : Run} {at after end : schedule.Standing} {events : List Event}
      → schedule.Passes run at after → GoesOn schedule run after events last end → GoesOn schedule run at events last end

module _ (schedule : Schedule) where
  -- one more event at the end, or one more place passed
  more_plays : (run middle last : Run) (at mid end : schedule.Standing) (event : Event) (events : List Event)
      → GoesOn schedule run at events middle mid → schedule.Due middle mid event end → event_on middle event ≡ Some last
      → GoesOn schedule run at (events ++ event ∷ []) last end
  more_plays run middle last at mid end event [] stays due next = next_plays due next stays
  more_plays run middle last at mid end event (e ∷ events) (next_plays d n more) due next =
      next_plays d n (more_plays _ middle last _ mid end event events more due next)
  more_plays run middle last at mid end event events (next_passes p more) due next =
      next_passes p (more_plays run middle last _ mid end event events more due next)

  more_passes : (run last : Run) (at mid end : schedule.Standing) (events : List Event)
      → GoesOn schedule run at events last mid → schedule.Passes last mid end → GoesOn schedule run at events last end
  more_passes run last at mid end [] stays pass = next_passes pass stays
  more_passes run last at mid end (e ∷ events) (next_plays d n more) pass = next_plays d n (more_passes _ last _ mid end events more pass)
  more_passes run last at mid end events (next_passes p more) pass = next_passes p (more_passes run last _ mid end events more pass)

  from_start : (start run : Run) (at : schedule.Standing) (events : List Event) → Led schedule start events run at
      → GoesOn schedule start schedule.first events run at
  from_start start run at [] begins = stays
  from_start start run at events (plays {events = before} {event = event} led due next) =
      more_plays start _ run schedule.first _ at event before (from_start start _ _ before led) due next
  from_start start run at events (passes led pass) =
      more_passes start run schedule.first _ at events (from_start start run _ events led) pass

-- the one goes on to the other
pub record IsAhead (schedule : Schedule) (events : List Event) (run : Run) (at : schedule.Standing) (others : List Event) (last : Run)
    (end : schedule.Standing) : Type 0 where
  pub more : List Event
  pub split : others ≡ events ++ more
  pub goes : GoesOn schedule run at more last end

module _ (schedule : Schedule) (is : IsDeterministic schedule) where
  -- it went on from where this event is due: it stayed there, or played just this event first
  after_event : (run next last : Run) (at after end : schedule.Standing) (event : Event) (events : List Event)
      → GoesOn schedule run at events last end → schedule.Due run at event after → event_on run event ≡ Some next
      → ((events ≡ []) × GoesOn schedule last end (event ∷ []) next after)
      ⊎ ((rest : List Event) × (events ≡ event ∷ rest) × GoesOn schedule next after rest last end)
  after_event run next last at after end event [] stays due is_next = inl (refl, next_plays due is_next stays)
  after_event run next last at after end event (e ∷ rest) (next_plays {next = other} {after = to} d n more) due is_next =
      let same : (e ≡ event) × (to ≡ after) = is.one_due run at e event to after d due in
      let one : other ≡ next = same_Some other next (sym n ∙ ap (event_on run) same.0 ∙ is_next) in
      inr (
        rest,
        ap (λ x. x ∷ rest) same.0,
        subst (λ to. GoesOn schedule next to rest last end) same.1 (subst (λ run. GoesOn schedule run to rest last end) one more),
      )
  after_event run next last at after end event events (next_passes {after = to} p more) due is_next =
      absurd (is.apart run at event after to due p)

  -- it went on from where it passes on: it stayed there, or passed on first
  after_place : (run last : Run) (at after end : schedule.Standing) (events : List Event) → GoesOn schedule run at events last end
      → schedule.Passes run at after
      → ((events ≡ []) × GoesOn schedule last end [] run after) ⊎ GoesOn schedule run after events last end
  after_place run last at after end [] stays pass = inl (refl, next_passes pass stays)
  after_place run last at after end (e ∷ rest) (next_plays {after = to} d n more) pass = absurd (is.apart run at e to after d pass)
  after_place run last at after end events (next_passes {after = to} p more) pass =
      inr (subst (λ to. GoesOn schedule run to events last end) (is.one_pass run at to after p pass) more)

  module _ (start last : Run) (end : schedule.Standing) (others : List Event) (other : Led schedule start others last end) where
    -- two runs that it leads from one world: one goes on to the other
    pub ahead : (events : List Event) (run : Run) (at : schedule.Standing) → Led schedule start events run at
        → IsAhead schedule events run at others last end ⊎ IsAhead schedule others last end events run at
    ahead [] run at begins = inl (record { more = others; split = refl; goes = from_start schedule start last end others other })
    ahead events run at (plays {events = before} {run = old} {at = from} {event = event} led due next) =
        ⊎_elim
        (λ (a : IsAhead schedule before old from others last end).
        ⊎_elim
        (λ (stayed : (a.more ≡ []) × GoesOn schedule last end (event ∷ []) run at).
        let same : others ≡ before = a.split ∙ ap (λ more. before ++ more) stayed.0 ∙ append-nil before in
        let this : IsAhead schedule others last end (before ++ event ∷ []) run at = record {
          more = event ∷ [];
          split = ap (λ xs. xs ++ event ∷ []) (sym same);
          goes = stayed.1;
        } in inr this)
        (λ (played : (rest : List Event) × (a.more ≡ event ∷ rest) × GoesOn schedule run at rest last end).
        let this : IsAhead schedule (before ++ event ∷ []) run at others last end = record {
          more = played.0;
          split = a.split ∙ ap (λ more. before ++ more) played.1 ∙ sym (append_assoc before (event ∷ []) played.0);
          goes = played.2;
        } in inl this)
        (after_event old run last from at end event a.more a.goes due next))
        (λ (a : IsAhead schedule others last end before old from).
        let this : IsAhead schedule others last end (before ++ event ∷ []) run at = record {
          more = a.more ++ event ∷ [];
          split = ap (λ xs. xs ++ event ∷ []) a.split ∙ append_assoc others a.more (event ∷ []);
          goes = more_plays schedule last old run end from at event a.more a.goes due next;
        } in inr this)
        (ahead before old from led)
    ahead events run at (passes {at = from} led pass) =
        ⊎_elim
        (λ (a : IsAhead schedule events run from others last end).
        ⊎_elim
        (λ (stayed : (a.more ≡ []) × GoesOn schedule last end [] run at).
        let same : others ≡ events = a.split ∙ ap (λ more. events ++ more) stayed.0 ∙ append-nil events in
        let this : IsAhead schedule others last end events run at = record {
          more = [];
          split = sym same ∙ sym (append-nil others);
          goes = stayed.1;
        } in inr this)
        (λ (on : GoesOn schedule run at a.more last end).
        let this : IsAhead schedule events run at others last end = record { more = a.more; split = a.split; goes = on } in inl this)
        (after_place run last from at end a.more a.goes pass))
        (λ (a : IsAhead schedule others last end events run from).
        let this : IsAhead schedule others last end events run at = record {
          more = a.more;
          split = a.split;
          goes = more_passes schedule last run end from at a.more a.goes pass;
        } in inr this)
        (ahead events run from led)

module _ (schedule : Schedule) (start : Run) (stops : Stops schedule start) where
  -- what holds wherever it stands
  pub holds : (events : List Event) (run : Run) (at : schedule.Standing) → Led schedule start events run at → stops.Holds run at
  holds [] run at begins = stops.first
  holds events run at (plays {events = before} {run = old} {at = from} {event = event} led due next) =
      stops.played old run from at event (holds before old from led) due next
  holds events run at (passes {at = from} led pass) = stops.passed run from at (holds events run from led) pass

  -- no event comes after nothing is left to do
  pub none_after : (events : List Event) (run last : Run) (at end : schedule.Standing) → stops.Holds run at → IsOver run
      → GoesOn schedule run at events last end → events ≡ []
  none_after [] run last at end h over stays = refl
  none_after (event ∷ events) run last at end h over (next_plays {after = to} d n more) = absurd (stops.none_due run at to event h over d)
  none_after events run last at end h over (next_passes {after = to} p more) =
      none_after events run last to end (stops.passed run at to h p) over more

-- where nothing is left to do, or there are 100,000,000 events, no more come
module _ (schedule : Schedule) (program : Program) (nodes : ℕ) (options : OptionsRecord)
    (stops : Stops schedule (fresh_world program nodes options)) where
  none_more : (events others : List Event) (run last : Run) (at end : schedule.Standing)
      → Led schedule (fresh_world program nodes options) events run at → IsEnded program nodes options events
      → IsAhead schedule events run at others last end → length others ≤ 100000000 → others ≡ events
  none_more events others run last at end led ended a few =
      let long : length others ≡ length events + length a.more = ap length a.split ∙ length-append events a.more in
      let none : a.more ≡ [] =
      elim (cases_lt (length events) 100000000) [
        | inl less ↦
            let all : AreAll program nodes options events = ended.over less in
            let same : all.0 ≡ run =
            same_Some all.0 run (sym all.1 ∙ led_played schedule (fresh_world program nodes options) events run at led) in
            none_after schedule (fresh_world program nodes options) stops a.more run last at end
            (holds schedule (fresh_world program nodes options) stops events run at led) (subst IsOver same all.2) a.goes
        | inr full ↦ none_long a.more (omega (arith, full, long, few))
      ] in
      a.split ∙ ap (λ more. events ++ more) none ∙ append-nil events

  -- a schedule without choices determines the events
  pub determined : IsDeterministic schedule → (events others : List Event) → AreLed schedule program nodes options events
      → IsEnded program nodes options events → AreLed schedule program nodes options others → IsEnded program nodes options others
      → events ≡ others
  determined is events others led ended other end =
      elim (ahead schedule is (fresh_world program nodes options) other.0 other.1 others other.2 events led.0 led.1 led.2) [
        | inl a ↦ sym (none_more events others led.0 other.0 led.1 other.1 led.2 ended a end.few)
        | inr a ↦ none_more others events other.0 led.0 other.1 led.1 other.2 end a ended.few
      ]

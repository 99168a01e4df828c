-- A run that ends, and in which no message is too long, does not wear out.
use Rattle.std.proofs.Common.{◌≡◌, ◌∙◌, ◌⊎◌, inl, inr, ⊎_elim, ℕ, zero, suc, ◌+◌, ◌<◌, arith, List, [], ◌∷◌, ◌++◌, Bool, true, false, ◌||◌, Option, Some, None, refl, sym}
use Rattle.std.proofs.Common.{ap, subst, length, length-append}
use Rattle.std.specs.Prelude.{remove, slice_get, slice_set}
use Rattle.std.specs.List.{list_any}
use Rattle.std.proofs.lemmas.Bool.{true≢false}
use Rattle.std.proofs.lemmas.Option.{same_Some}
use Rattle.lrc_program.specs.declared.Program.{Program}
use Rattle.lrc_protocol.specs.declared.event.Event.{Event}
use Rattle.lrc_protocol.specs.declared.event.Event.TheVariants as events
use Rattle.lrc_protocol.specs.Node.{OptionsRecord}
use Rattle.lrc_protocol.specs.Run.{World as Run, Flying, Logged, Logging, Input, EntryRecord, logged, refused, too_large, fresh_world, event_on, run_of}
use Rattle.lrc_protocol.specs.Run.{after_input, input_to, delivers, logs, taken, with_mark}
use Rattle.lrc_protocol.specs.Run as log
use Rattle.lrc_protocol.proofs.Worlds.{Entries, logs-entries}
use Rattle.lrc_world.specs.Led.{Schedule, AreLed, WearsOut}
use Rattle.lrc_world.specs.Report.{IsOver, AreAll}
use Rattle.lrc_world.specs.World.{entry_is_long, log_is_long, sends_long}
use Rattle.lrc_world.proofs.Driven.{led_played}
use Rattle.lrc_world_laws.specs.Ended.{IsEnded}
use Rattle.lrc_world_laws.proofs.Determined.{IsDeterministic, Stops, GoesOn, IsAhead, stays, next_plays, next_passes, ahead, holds, none_after}

-- ---- a message that is too long stays in its log

either : (a b : Bool) → (a || b) ≡ true → (a ≡ true) ⊎ (b ≡ true)
either true b e = inl refl
either false b e = inr e

left_true : (a b : Bool) → a ≡ true → (a || b) ≡ true
left_true a b e = ap (λ x. x || b) e

right_true : (a b : Bool) → b ≡ true → (a || b) ≡ true
right_true true b e = refl
right_true false b e = e

any_front : {A : Type 0} (p : A → Bool) (xs ys : List A) → list_any p xs ≡ true → list_any p (xs ++ ys) ≡ true
any_front p [] ys e = cc
any_front p (x ∷ xs) ys e =
    ⊎_elim (λ (here : p x ≡ true). left_true (p x) (list_any p (xs ++ ys)) here)
    (λ (later : list_any p xs ≡ true). right_true (p x) (list_any p (xs ++ ys)) (any_front p xs ys later))
    (either (p x) (list_any p xs) e)

any_set : {A : Type 0} (p : A → Bool) (xs : List A) (n : ℕ) (x y : A) → slice_get xs n ≡ Some x → (p x ≡ true → p y ≡ true)
    → list_any p xs ≡ true → list_any p (slice_set xs n y) ≡ true
any_set p [] n x y there carries e = cc
any_set p (z ∷ xs) zero x y there carries e =
    let same : z ≡ x = cc in
    ⊎_elim (λ (here : p z ≡ true). left_true (p y) (list_any p xs) (carries (ap p (sym same) ∙ here)))
    (λ (later : list_any p xs ≡ true). right_true (p y) (list_any p xs) later)
    (either (p z) (list_any p xs) e)
any_set p (z ∷ xs) (suc n) x y there carries e =
    ⊎_elim (λ (here : p z ≡ true). left_true (p z) (list_any p (slice_set xs n y)) here)
    (λ (later : list_any p xs ≡ true). right_true (p z) (list_any p (slice_set xs n y)) (any_set p xs n x y there carries later))
    (either (p z) (list_any p xs) e)

module _ (run : Run) (long : sends_long run ≡ true) (left : List Flying) where
  after_logging : (n : ℕ) (input : Input) (next : Run) (l : Logged) (is : Logging) → slice_get run.nodes n ≡ Some l → Entries l input is
      → after_input run left n is ≡ Some next → sends_long next ≡ true
  after_logging n input next l (logged entry after) there is e =
      let made : sends_long next ≡ list_any log_is_long (slice_set run.nodes n after) = ap sends_long (sym (same_Some _ next e)) in
      made
      ∙ any_set log_is_long run.nodes n l after there
      (λ before. ap (list_any entry_is_long) is.log_is ∙ any_front entry_is_long l.log (entry ∷ []) before) long
  after_logging n input next l refused there is e = ap sends_long (sym (same_Some run next e)) ∙ long
  after_logging n input next l too_large there is e = cc

  after_taking : (n : ℕ) (input : Input) (stamp : ℕ) (next : Run) (l : Option Logged) → slice_get run.nodes n ≡ l
      → input_to run left n input stamp l ≡ Some next → sends_long next ≡ true
  after_taking n input stamp next None there e = ap sends_long (sym (same_Some run next e)) ∙ long
  after_taking n input stamp next (Some l) there e = after_logging n input next l (logs l input stamp) there (logs-entries l input stamp) e

  after_delivery : (next : Run) (flying : Option Flying) → delivers run left flying ≡ Some next → sends_long next ≡ true
  after_delivery next None e = ap sends_long (sym (same_Some run next e)) ∙ long
  after_delivery next (Some flying) e =
      after_taking flying.envelope.to (taken flying.envelope) flying.stamp next (slice_get run.nodes flying.envelope.to) refl e

after_one : (run next : Run) (event : Event) → sends_long run ≡ true → event_on run event ≡ Some next → sends_long next ≡ true
after_one run next (events.Run n) long e = after_taking run long run.flight n log.run 0 next (slice_get run.nodes n) refl e
after_one run next (events.Deliver place) long e = after_delivery run long (remove run.flight place) next (slice_get run.flight place) e
after_one run next (events.Repeat place) long e = after_delivery run long (with_mark run.flight place) next (slice_get run.flight place) e

-- ---- where a run goes on

module _ (schedule : Schedule) where
  still_long : (events : List Event) (run last : Run) (at end : schedule.Standing) → GoesOn schedule run at events last end
      → sends_long run ≡ true → sends_long last ≡ true
  still_long [] run last at end stays long = long
  still_long (event ∷ events) run last at end (next_plays {next = next} {after = to} d n more) long =
      still_long events next last to end more (after_one run next event long n)
  still_long events run last at end (next_passes {after = to} p more) long = still_long events run last to end more long

  -- without an event the run stays
  stands_still : (events : List Event) (run last : Run) (at end : schedule.Standing) → GoesOn schedule run at events last end
      → events ≡ [] → last ≡ run
  stands_still [] run last at end stays none = refl
  stands_still (event ∷ events) run last at end (next_plays d n more) none = cc
  stands_still events run last at end (next_passes {after = to} p more) none = stands_still events run last to end more none

module _ (schedule : Schedule) (is : IsDeterministic schedule) (program : Program) (nodes : ℕ) (options : OptionsRecord)
    (stops : Stops schedule (fresh_world program nodes options)) (events : List Event) (led : AreLed schedule program nodes options events)
    (ended : IsEnded program nodes options events) (run : Run)
    (runs : run_of program nodes options events ≡ Some run) (short : sends_long run ≡ false)
    (worn : WearsOut schedule (fresh_world program nodes options)) where
  abbrev start : Run
  start = fresh_world program nodes options

  -- nothing is left to do where there are fewer events than may be
  over_at : length events < 100000000 → IsOver led.0
  over_at less =
      let all : AreAll program nodes options events = ended.over less in
      subst IsOver (same_Some all.0 led.0 (sym all.1 ∙ led_played schedule start events led.0 led.1 led.2)) all.2

  -- it does not wear out where nothing is left to do,
  not_over : IsOver worn.run → ⊥
  not_over over =
      stops.none_due worn.run worn.at worn.after worn.event (holds schedule start stops worn.before worn.run worn.at worn.led) over worn.due

  -- nor behind all events,
  not_behind : IsAhead schedule events led.0 led.1 worn.before worn.run worn.at → ⊥
  not_behind a =
      let long : length worn.before ≡ length events + length a.more = ap length a.split ∙ length-append events a.more in
      let less : length events < 100000000 = omega (arith, worn.early, long) in
      let none : a.more ≡ [] =
      none_after schedule start stops a.more led.0 worn.run led.1 worn.at (holds schedule start stops events led.0 led.1 led.2)
      (over_at less) a.goes in
      not_over (subst IsOver (sym (stands_still schedule a.more led.0 worn.run led.1 worn.at a.goes none)) (over_at less))

  -- nor at the next of them
  played_on : (rest : List Event) (next : Run) → event_on worn.run worn.event ≡ Some next → GoesOn schedule next worn.after rest led.0 led.1
      → (event_on worn.run worn.event ≡ None) ⊎ ((next : Run) × (event_on worn.run worn.event ≡ Some next) × (sends_long next ≡ true)) → ⊥
  played_on rest next plays more wears =
      ⊎_elim
      (λ (fails : event_on worn.run worn.event ≡ None). let apart : Some next ≡ None = sym plays ∙ fails in cc)
      (λ (long : (other : Run) × (event_on worn.run worn.event ≡ Some other) × (sends_long other ≡ true)).
      let here : sends_long next ≡ true = ap sends_long (same_Some next long.0 (sym plays ∙ long.1)) ∙ long.2 in
      let same : led.0 ≡ run = same_Some led.0 run (sym (led_played schedule start events led.0 led.1 led.2) ∙ runs) in
      true≢false (sym (still_long schedule rest next led.0 worn.after led.1 more here) ∙ ap sends_long same ∙ short))
      wears

  next_is : (more : List Event) (run : Run) (at : schedule.Standing) → GoesOn schedule run at more led.0 led.1
      → schedule.Due run at worn.event worn.after → (more ≡ [])
      ⊎ ((rest : List Event) × (next : Run) × (event_on run worn.event ≡ Some next) × GoesOn schedule next worn.after rest led.0 led.1)
  next_is [] run at stays due = inl refl
  next_is (event ∷ rest) run at (next_plays {next = next} {after = to} d n more) due =
      let one : (event ≡ worn.event) × (to ≡ worn.after) = is.one_due run at event worn.event to worn.after d due in
      inr (
        rest,
        next,
        ap (event_on run) (sym one.0) ∙ n,
        subst (λ to. GoesOn schedule next to rest led.0 led.1) one.1 more,
      )
  next_is events run at (next_passes {after = to} p more) due = absurd (is.apart run at worn.event worn.after to due p)

  not_before : IsAhead schedule worn.before worn.run worn.at events led.0 led.1 → ⊥
  not_before a =
      ⊎_elim
      (λ (none : a.more ≡ []).
      let long : length events ≡ length worn.before + length a.more = ap length a.split ∙ length-append worn.before a.more in
      let empty : length a.more ≡ 0 = ap length none in
      let less : length events < 100000000 = omega (arith, worn.early, long, empty) in
      not_over (subst IsOver (stands_still schedule a.more worn.run led.0 worn.at led.1 a.goes none) (over_at less)))
      (λ (next : (rest : List Event) × (next : Run) × (event_on worn.run worn.event ≡ Some next)
      × GoesOn schedule next worn.after rest led.0 led.1).
      played_on next.0 next.1 next.2 next.3 worn.wears)
      (next_is a.more worn.run worn.at a.goes worn.due)

  pub never_worn : ⊥
  never_worn =
      ⊎_elim not_behind not_before
      (ahead schedule is start worn.run worn.at worn.before worn.led events led.0 led.1 led.2)

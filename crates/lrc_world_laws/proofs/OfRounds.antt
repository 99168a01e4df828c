-- Rounds leave no choice, and no message is due where none is in flight.
use Rattle.std.proofs.Common.{◌≡◌, ◌∙◌, ℕ, zero, suc, ◌+◌, ◌≤◌, arith, List, [], ◌∷◌, ◌++◌, Bool, true, false, Option, Some, None, refl, sym, ap, length}
use Rattle.std.proofs.Common.{length-append, le-ltb, lt-ltb, nat_lt}
use Rattle.std.specs.Prelude.{remove, slice_get, if◌then◌else◌, ◌==◌}
use Rattle.std.specs.List.{enumerate_from}
use Rattle.std.specs.Option.{option_map_or}
use Rattle.std.proofs.lemmas.Bool.{true≢false}
use Rattle.std.proofs.lemmas.List.{length-map}
use Rattle.std.proofs.lemmas.Option.{same_Some}
use Rattle.lrc_program.specs.declared.Program.{Program}
use Rattle.lrc_envelope.specs.declared.picker.Picker.{Picker}
use Rattle.lrc_envelope.specs.declared.picker.Picker.TheVariants.{Oldest, Newest, Twice}
use Rattle.lrc_protocol.specs.declared.event.Event.{Event}
use Rattle.lrc_protocol.specs.declared.event.Event.TheVariants.{Deliver, Repeat}
use Rattle.lrc_protocol.specs.Node.{OptionsRecord}
use Rattle.lrc_protocol.specs.Turn.{is_ready}
use Rattle.lrc_protocol.specs.Run.{World as Run, Flying, Logged, Logging, Input, logged, refused, too_large, fresh_world, event_on, run_of}
use Rattle.lrc_protocol.specs.Run.{after_input, input_to, delivers, logs, sent_by, taken, with_mark, marked}
use Rattle.lrc_world.specs.Report.{IsOver}
use Rattle.lrc_world.specs.Rounds.{Stage, at_node, delivering, IsDue, turn, delivery, Passes, asleep, all_went, all_delivered, ready_at}
use Rattle.lrc_world.specs.Rounds.{delivery_of, is_delivered, newest_place, schedule_of_rounds, AreRounds, RoundsWearOut}
use Rattle.lrc_world.specs.World.{sends_long}
use Rattle.lrc_world.proofs.Lists.{none_of}
use Rattle.lrc_world_laws.specs.Ended.{IsEnded}
use Rattle.lrc_world_laws.proofs.Determined.{IsDeterministic, Stops, determined}
use Rattle.lrc_world_laws.proofs.Worn.{never_worn}

-- ---- no choice

one_due : (picker : Picker) (nodes : ℕ) (run : Run) (at : Stage) (a b : Event) (x y : Stage) → IsDue picker nodes run at a x
    → IsDue picker nodes run at b y → (a ≡ b) × (x ≡ y)
one_due picker nodes run (at_node n) a b x y (turn below ready) (turn low also) = (refl, refl)
one_due picker nodes run (delivering zero) a b x y first second = elim first [ ]
one_due picker nodes run (delivering (suc left)) a b x y delivery delivery = (refl, refl)

-- the place to which it passes on
abbrev passed_to : ℕ → Run → Stage → Stage
passed_to nodes run (at_node n) = if nat_lt n nodes then at_node (n + 1) else delivering (length run.flight)
passed_to nodes run (delivering left) = at_node zero

passes_to : (nodes : ℕ) (run : Run) (at x : Stage) → Passes nodes run at x → x ≡ passed_to nodes run at
passes_to nodes run at x (asleep {n = n} below fails) = rw (lt-ltb n nodes below) refl
passes_to nodes run at x all_went = rw (le-ltb nodes nodes (omega arith)) refl
passes_to nodes run at x all_delivered = refl

apart : (picker : Picker) (nodes : ℕ) (run : Run) (at : Stage) (a : Event) (x y : Stage) → IsDue picker nodes run at a x
    → Passes nodes run at y → ⊥
apart picker nodes run (at_node n) a x y (turn below ready) (asleep low fails) = true≢false (sym ready ∙ fails)
apart picker nodes run (at_node n) a x y (turn below ready) all_went = absurd (omega (arith, below))
apart picker nodes run (delivering zero) a x y due pass = elim due [ ]
apart picker nodes run (delivering (suc left)) a x y due pass = elim pass [ ]

deterministic : (picker : Picker) (nodes : ℕ) → IsDeterministic (schedule_of_rounds picker nodes)
deterministic picker nodes = record {
  one_due = one_due picker nodes;
  one_pass = λ run at x y first second. passes_to nodes run at x first ∙ sym (passes_to nodes run at y second);
  apart = apart picker nodes;
}

-- ---- at each delivery a message is in flight

length-remove : {A : Type 0} (xs : List A) (n : ℕ) → length xs ≤ length (remove xs n) + 1
length-remove [] n = omega arith
length-remove (x ∷ xs) zero = omega arith
length-remove (x ∷ xs) (suc n) = let more = length-remove xs n in omega (arith, more)

length-enumerate : {A : Type 0} (n : ℕ) (xs : List A) → length (enumerate_from n xs) ≡ length xs
length-enumerate n [] = refl
length-enumerate n (x ∷ xs) = ap suc (length-enumerate (n + 1) xs)

length-mark : (flight : List Flying) (place : ℕ) → length (with_mark flight place) ≡ length flight
length-mark flight place =
    length-map (enumerate_from 0 flight) (λ at. if at.0 == place then marked at.1 else at.1) ∙ length-enumerate 0 flight

module _ (run : Run) (left : List Flying) (most : length run.flight ≤ length left + 1) where
  after_logging : (n : ℕ) (next : Run) (is : Logging) → after_input run left n is ≡ Some next → length run.flight ≤ length next.flight + 1
  after_logging n next (logged entry l) e =
      let flight : left ++ sent_by entry ≡ next.flight = ap (λ (r : Run). r.flight) (same_Some _ next e) in
      let long : length next.flight ≡ length left + length (sent_by entry) = ap length (sym flight) ∙ length-append left (sent_by entry) in
      omega (arith, most, long)
  after_logging n next refused e =
      let same : length run.flight ≡ length next.flight = ap (λ (r : Run). length r.flight) (same_Some run next e) in omega (arith, same)
  after_logging n next too_large e = cc

  after_taking : (n : ℕ) (input : Input) (stamp : ℕ) (next : Run) (l : Option Logged) → input_to run left n input stamp l ≡ Some next
      → length run.flight ≤ length next.flight + 1
  after_taking n input stamp next None e = after_logging n next refused e
  after_taking n input stamp next (Some l) e = after_logging n next (logs l input stamp) e

  after_delivery : (next : Run) (flying : Option Flying) → delivers run left flying ≡ Some next → length run.flight ≤ length next.flight + 1
  after_delivery next None e = after_logging 0 next refused e
  after_delivery next (Some flying) e =
      after_taking flying.envelope.to (taken flying.envelope) flying.stamp next (slice_get run.nodes flying.envelope.to) e

removes : (run next : Run) (place : ℕ) → event_on run (Deliver place) ≡ Some next → length run.flight ≤ length next.flight + 1
removes run next place e =
    after_delivery run (remove run.flight place) (length-remove run.flight place) next (slice_get run.flight place) e

keeps : (run next : Run) (place : ℕ) → event_on run (Repeat place) ≡ Some next → length run.flight ≤ length next.flight + 1
keeps run next place e =
    after_delivery run (with_mark run.flight place) (omega (arith, length-mark run.flight place)) next (slice_get run.flight place) e

twice : (run next : Run) (again : Bool) → event_on run (if again then Deliver 0 else Repeat 0) ≡ Some next
    → length run.flight ≤ length next.flight + 1
twice run next true e = removes run next 0 e
twice run next false e = keeps run next 0 e

-- a delivery takes one message away at most
takes_one : (picker : Picker) (run next : Run) → event_on run (delivery_of picker run.flight) ≡ Some next
    → length run.flight ≤ length next.flight + 1
takes_one Oldest run next e = removes run next 0 e
takes_one Newest run next e = removes run next (newest_place (length run.flight)) e
takes_one Twice run next e = twice run next (is_delivered (slice_get run.flight 0)) e

-- so many messages are in flight as are to be delivered
abbrev Lies : Run → Stage → Type 0
Lies run (at_node n) = Unit {0}
Lies run (delivering left) = left ≤ length run.flight

unready : (run : Run) → IsOver run → (n : ℕ) (o : Option Logged) → slice_get run.nodes n ≡ o
    → option_map_or (λ (l : Logged). is_ready l.node) o false ≡ false
unready run over n None there = refl
unready run over n (Some l) there = none_of (λ (l : Logged). is_ready l.node) run.nodes n l over.idle there

-- where nothing is left to do, no node is ready
pub idle : (run : Run) (n : ℕ) → IsOver run → ready_at run n ≡ false
idle run n over = unready run over n (slice_get run.nodes n) refl

module _ (picker : Picker) (nodes : ℕ) where
  lies_after : (run next : Run) (at after : Stage) (event : Event) → Lies run at → IsDue picker nodes run at event after
      → event_on run event ≡ Some next → Lies next after
  lies_after run next (at_node n) after event lies (turn below ready) e = tt
  lies_after run next (delivering zero) after event lies due e = elim due [ ]
  lies_after run next (delivering (suc left)) after event lies delivery e =
      let one = takes_one picker run next e in omega (arith, lies, one)

  lies_behind : (run : Run) (at after : Stage) → Lies run at → Passes nodes run at after → Lies run after
  lies_behind run (at_node n) after lies (asleep below fails) = tt
  lies_behind run (at_node n) after lies all_went = omega arith
  lies_behind run (delivering zero) after lies all_delivered = tt
  lies_behind run (delivering (suc left)) after lies pass = elim pass [ ]

  none_due : (run : Run) (at after : Stage) (event : Event) → Lies run at → IsOver run → IsDue picker nodes run at event after → ⊥
  none_due run (at_node n) after event lies over (turn below ready) = true≢false (sym ready ∙ idle run n over)
  none_due run (delivering zero) after event lies over due = elim due [ ]
  none_due run (delivering (suc left)) after event lies over delivery =
      let none : length run.flight ≡ 0 = ap length over.taken in absurd (omega (arith, lies, none))

  stops : (start : Run) → Stops (schedule_of_rounds picker nodes) start
  stops start = record { Holds = Lies; first = tt; played = lies_after; passed = lies_behind; none_due = none_due }

pub rounds_never_worn : (program : Program) (nodes : ℕ) (options : OptionsRecord) (picker : Picker) (events : List Event) (run : Run)
    → AreRounds program nodes options picker events → IsEnded program nodes options events → run_of program nodes options events ≡ Some run
    → sends_long run ≡ false → ¬ RoundsWearOut program nodes options picker
rounds_never_worn program nodes options picker events run led ended runs short worn =
    never_worn (schedule_of_rounds picker nodes) (deterministic picker nodes) program nodes options
    (stops picker nodes (fresh_world program nodes options)) events led ended run runs short worn

pub rounds_determined : (program : Program) (nodes : ℕ) (options : OptionsRecord) (picker : Picker) (events others : List Event)
    → AreRounds program nodes options picker events → IsEnded program nodes options events
    → AreRounds program nodes options picker others → IsEnded program nodes options others → events ≡ others
rounds_determined program nodes options picker events others =
    determined (schedule_of_rounds picker nodes) program nodes options (stops picker nodes (fresh_world program nodes options))
    (deterministic picker nodes) events others

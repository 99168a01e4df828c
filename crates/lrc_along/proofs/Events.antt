-- What an event does to a world: one node takes a turn, or nothing changes.
use Rattle.std.proofs.Common.{◌≡◌, ◌∙◌, ◌⊎◌, ◌<◌, ◌++◌, ℕ, zero, suc, Bool, true, List, [], ◌∷◌, Option, Some, None, inl, inr, refl, sym, ap, subst, length, get_or, map, arith}
use Rattle.std.specs.Prelude.{fold, position, remove, slice_get, slice_set}
use Rattle.std.specs.Option.{option_to_list}
use Rattle.std.proofs.lemmas.Grind.{fold-append}
use Rattle.std.proofs.lemmas.List.Quantifiers.{position-Some}
use Rattle.std.proofs.lemmas.Option.{same_Some, slice_get-get_or}
use Rattle.lrc_program.specs.declared.Program.{Program}
use Rattle.lrc_envelope.specs.Envelope.{EnvelopeRecord}
use Rattle.lrc_protocol.specs.declared.event.Event.{Event}
use Rattle.lrc_protocol.specs.declared.event.Event.TheVariants as events
use Rattle.lrc_protocol.specs.Node.{OptionsRecord}
use Rattle.lrc_protocol.specs.Run.{Flying, Input, Logged, Logging, World, after_input, delivers, event_on, fresh_world, input_to, logged}
use Rattle.lrc_protocol.specs.Run.{logs, outcome_of, refused, run_of, step_of, too_large, with_turn}
use Rattle.lrc_protocol.specs.Run as log
use Rattle.lrc_protocol.specs.Turn.{TurnRecord, done}
use Rattle.lrc_protocol.proofs.Worlds.{Entries, logs-entries}

-- a node has taken a turn of an input
pub record Moves (world next : World) (n : ℕ) (input : Input) : Type 0 where
  pub l : Logged
  pub after : Logged
  pub turn : TurnRecord
  pub there : slice_get world.nodes n ≡ Some l
  pub outcome : outcome_of l.node input ≡ done turn after.node
  pub nodes : next.nodes ≡ slice_set world.nodes n after
  pub acts : next.acts ≡ world.acts ++ option_to_list turn.act

-- it has, or nothing has changed
abbrev pub MovesOrNot : World → World → ℕ → Input → Type 0
MovesOrNot world next n input = (next ≡ world) ⊎ Moves world next n input

by_logging : (world next : World) (flight : List Flying) (n : ℕ) (l : Logged) (input : Input) (r : Logging) → slice_get world.nodes n ≡ Some l
    → Entries l input r → after_input world flight n r ≡ Some next → MovesOrNot world next n input
by_logging world next flight n l input (logged entry after) at i e =
    let is : with_turn world flight n entry after ≡ next = same_Some (with_turn world flight n entry after) next e in
    inr (record {
      l = l;
      after = after;
      turn = entry.turn;
      there = at;
      outcome = i.turn_is;
      nodes = ap (λ (w : World). w.nodes) (sym is);
      acts = ap (λ (w : World). w.acts) (sym is);
    })
by_logging world next flight n l input refused at i e = inl (sym (same_Some world next e))
by_logging world next flight n l input too_large at i e = cc

by_node : (world next : World) (flight : List Flying) (n : ℕ) (input : Input) (came : ℕ) (o : Option Logged) → slice_get world.nodes n ≡ o
    → input_to world flight n input came o ≡ Some next → MovesOrNot world next n input
by_node world next flight n input came None at e = inl (sym (same_Some world next e))
by_node world next flight n input came (Some l) at e = by_logging world next flight n l input (logs l input came) at (logs-entries l input came) e

pub run_moves : (world next : World) (n : ℕ) → event_on world (events.Run n) ≡ Some next → MovesOrNot world next n log.run
run_moves world next n e = by_node world next world.flight n log.run 0 (slice_get world.nodes n) refl e

delivered : (world next : World) (flight : List Flying) (o : Option Flying) (sent : Flying) → o ≡ Some sent → delivers world flight o ≡ Some next
    → MovesOrNot world next sent.envelope.to (log.taken sent.envelope)
delivered world next flight None sent is e = cc
delivered world next flight (Some other) sent is e =
    subst (λ (f : Flying). MovesOrNot world next f.envelope.to (log.taken f.envelope)) (same_Some other sent is)
    (by_node world next flight other.envelope.to (log.taken other.envelope) other.stamp (slice_get world.nodes other.envelope.to) refl e)

pub deliver_moves : (world next : World) (place : ℕ) (sent : Flying) → slice_get world.flight place ≡ Some sent
    → event_on world (events.Deliver place) ≡ Some next → MovesOrNot world next sent.envelope.to (log.taken sent.envelope)
deliver_moves world next place sent at e = delivered world next (remove world.flight place) (slice_get world.flight place) sent at e

-- ---- one event more

module _ (program : Program) (nodes : ℕ) (options : OptionsRecord) where
  before_last : (o : Option World) (event : Event) (next : World) → step_of o event ≡ Some next → (world : World) × (o ≡ Some world) × (event_on world event ≡ Some next)
  before_last None event next e = cc
  before_last (Some world) event next e = (world, refl, e)

  -- a run with one event more is one event further
  pub one_before : (events : List Event) (event : Event) (next : World) → run_of program nodes options (events ++ event ∷ []) ≡ Some next
      → (world : World) × (run_of program nodes options events ≡ Some world) × (event_on world event ≡ Some next)
  one_before events event next e =
      before_last (run_of program nodes options events) event next
      (sym (fold-append step_of (Some (fresh_world program nodes options)) events (event ∷ [])) ∙ e)

  -- and the events before others make a run, where all do
  some_before : (o : Option World) (more : List Event) (end : World) → fold step_of o more ≡ Some end → (world : World) × (o ≡ Some world)
  some_before (Some world) more end goes = (world, refl)
  some_before None [] end goes = cc
  some_before None (event ∷ more) end goes = some_before None more end goes

  pub all_before : (events more : List Event) (end : World) → run_of program nodes options (events ++ more) ≡ Some end
      → (world : World) × (run_of program nodes options events ≡ Some world)
  all_before events more end e =
      some_before (run_of program nodes options events) more end
      (sym (fold-append step_of (Some (fresh_world program nodes options)) events more) ∙ e)

-- ---- the message that is delivered

mapped : {X Y : Type 0} (f : X → Y) (xs : List X) (k : ℕ) (y : Y) → slice_get (map f xs) k ≡ Some y → (x : X) × (slice_get xs k ≡ Some x) × (f x ≡ y)
mapped f [] k y e = cc
mapped f (x ∷ xs) zero y e = (x, refl, same_Some (f x) y e)
mapped f (x ∷ xs) (suc k) y e = mapped f xs k y e

some_get : {X : Type 0} (xs : List X) (k : ℕ) → k < length xs → (x : X) × (slice_get xs k ≡ Some x)
some_get [] k lt = absurd (omega (arith, lt))
some_get (x ∷ xs) zero lt = (x, refl)
some_get (x ∷ xs) (suc k) lt = some_get xs k (omega (arith, lt))

-- the message at the place that is found, and what it is
pub found : (test : EnvelopeRecord → Bool) (flight : List Flying) (place : ℕ) → position test (map (λ (f : Flying). f.envelope) flight) ≡ Some place
    → (sent : Flying) × (slice_get flight place ≡ Some sent) × (test sent.envelope ≡ true)
found test flight place e = at_first (map (λ (f : Flying). f.envelope) flight) refl
  where
    envelopes : List EnvelopeRecord
    envelopes = map (λ (f : Flying). f.envelope) flight

    at_first : (all : List EnvelopeRecord) → map (λ (f : Flying). f.envelope) flight ≡ all
        → (sent : Flying) × (slice_get flight place ≡ Some sent) × (test sent.envelope ≡ true)
    at_first [] is = let never : position test [] ≡ Some place = ap (position test) (sym is) ∙ e in cc
    at_first (first ∷ more) is =
        let so : position test (first ∷ more) ≡ Some place = ap (position test) (sym is) ∙ e in
        let p = position-Some test (first ∷ more) place first so in
        let there : slice_get (first ∷ more) place ≡ Some (get_or (first ∷ more) place first) = slice_get-get_or (first ∷ more) place first p.0 in
        let m = mapped (λ (f : Flying). f.envelope) flight place (get_or (first ∷ more) place first) (ap (λ l. slice_get l place) is ∙ there) in
        (m.0, m.1, ap test m.2 ∙ p.1)

-- What an event does: it makes one turn of one node, or it is skipped.
use Rattle.std.proofs.Common.{◌≡◌, ◌∙◌, ℕ, List, [], ◌∷◌, ◌++◌, Bool, true, false, cond, Option, Some, None, ◌⊎◌, inl, inr}
use Rattle.std.proofs.Common.{refl, sym, ap, subst, append-nil, append_assoc}
use Rattle.std.specs.Prelude.{fold, nat_le, remove, slice_get}
use Rattle.std.proofs.lemmas.Bool.{cases_eq}
use Rattle.std.proofs.lemmas.Option.{none-some, same_Some}
use Rattle.lrc_protocol.specs.declared.event.Event.{Event}
use Rattle.lrc_protocol.specs.declared.event.Event.TheVariants as events
use Rattle.lrc_protocol.specs.Turn.{Outcome, done, not_ready, unexpected, worn}
use Rattle.lrc_protocol.specs.Run.{Input, EntryRecord, Logged, Logging, logged, refused, too_large, logs, logging, outcome_of, next_stamp}
use Rattle.lrc_protocol.specs.Run.{MOST_STAMP, World as Run, Flying as Sent, with_turn, with_mark, after_input, input_to, delivers, event_on}
use Rattle.lrc_protocol.specs.Run.{step_of, played}
use Rattle.lrc_protocol.specs.Run as log
use Rattle.lrc_protocol.proofs.Worlds.{IsEntry, Entries, logs-entries, get_set_same, get_set_other}
use Rattle.lrc_world.specs.declared.turned.Turned.{Turned}
use Rattle.lrc_world.specs.Turned.{node_if, node_by, taker, turner, turned_by, turned_from, events_in}

-- ---- one input

-- an input to a node makes a turn of it, and that makes the next world
pub record Made (world next : Run) (flight : List Sent) (n : ℕ) (input : Input) : Type 0 where
  pub l : Logged
  pub came : ℕ
  pub entry : EntryRecord
  pub after : Logged
  pub there : slice_get world.nodes n ≡ Some l
  pub turn : logs l input came ≡ logged entry after
  pub next_is : next ≡ with_turn world flight n entry after

-- it makes a turn; or it makes none, and nothing changes
abbrev pub MadeOrNot : Run → Run → List Sent → Input → Option ℕ → Type 0
MadeOrNot world next flight input o = ((o ≡ None) × (next ≡ world)) ⊎ ((n : ℕ) × (o ≡ Some n) × Made world next flight n input)

by_logging : (world next : Run) (flight : List Sent) (n : ℕ) (l : Logged) (input : Input) (came : ℕ) (r : Logging) → logs l input came ≡ r
    → slice_get world.nodes n ≡ Some l → after_input world flight n r ≡ Some next → MadeOrNot world next flight input (node_if n r)
by_logging world next flight n l input came (logged entry after) is at e =
    inr (
      n,
      refl,
      record {
        l = l;
        came = came;
        entry = entry;
        after = after;
        there = at;
        turn = is;
        next_is = sym (same_Some (with_turn world flight n entry after) next e);
      },
    )
by_logging world next flight n l input came refused is at e = inl (refl, sym (same_Some world next e))
by_logging world next flight n l input came too_large is at e = cc

pub by_node : (world next : Run) (flight : List Sent) (n : ℕ) (input : Input) (came : ℕ) (o : Option Logged) → slice_get world.nodes n ≡ o
    → input_to world flight n input came o ≡ Some next → MadeOrNot world next flight input (node_by n input came o)
by_node world next flight n input came None at e = inl (refl, sym (same_Some world next e))
by_node world next flight n input came (Some l) at e = by_logging world next flight n l input came (logs l input came) refl at e

pub by_taker : (world next : Run) (flight : List Sent) (sent : Sent) → delivers world flight (Some sent) ≡ Some next
    → MadeOrNot world next flight (log.taken sent.envelope) (taker world (Some sent))
by_taker world next flight sent e =
    by_node world next flight sent.envelope.to (log.taken sent.envelope) sent.stamp (slice_get world.nodes sent.envelope.to) refl e

-- ---- one event

-- what an event that makes a turn leaves in flight of what was there
abbrev pub left_in : Run → Event → List Sent
left_in world (events.Run n) = world.flight
left_in world (events.Deliver place) = remove world.flight place
left_in world (events.Repeat place) = with_mark world.flight place

-- an event makes a turn; or it is skipped, and nothing changes
abbrev pub TurnsOrNot : Run → Run → List Sent → Option ℕ → Type 0
TurnsOrNot world next flight o = ((o ≡ None) × (next ≡ world)) ⊎ ((n : ℕ) × (o ≡ Some n) × (input : Input) × Made world next flight n input)

some_input : (world next : Run) (flight : List Sent) (input : Input) (o : Option ℕ) → MadeOrNot world next flight input o
    → TurnsOrNot world next flight o
some_input world next flight input o either = elim either [
  | inl none ↦ inl none
  | inr made ↦ inr (made.0, made.1, input, made.2)
]

by_delivery : (world next : Run) (flight : List Sent) (o : Option Sent) → delivers world flight o ≡ Some next
    → TurnsOrNot world next flight (taker world o)
by_delivery world next flight None e = inl (refl, sym (same_Some world next e))
by_delivery world next flight (Some sent) e =
    some_input world next flight (log.taken sent.envelope) (taker world (Some sent)) (by_taker world next flight sent e)

pub by_event : (world next : Run) (event : Event) → event_on world event ≡ Some next
    → TurnsOrNot world next (left_in world event) (turner world event)
by_event world next (events.Run n) e =
    some_input world next world.flight log.run (turner world (events.Run n))
    (by_node world next world.flight n log.run 0 (slice_get world.nodes n) refl e)
by_event world next (events.Deliver place) e = by_delivery world next (remove world.flight place) (slice_get world.flight place) e
by_event world next (events.Repeat place) e = by_delivery world next (with_mark world.flight place) (slice_get world.flight place) e

-- an event at which a number would be too large makes none
none_if : (world : Run) (flight : List Sent) (n : ℕ) (r : Logging) → after_input world flight n r ≡ None → node_if n r ≡ None
none_if world flight n (logged entry after) e = cc
none_if world flight n refused e = refl
none_if world flight n too_large e = refl

none_by : (world : Run) (flight : List Sent) (n : ℕ) (input : Input) (came : ℕ) (o : Option Logged) → input_to world flight n input came o ≡ None
    → node_by n input came o ≡ None
none_by world flight n input came None e = refl
none_by world flight n input came (Some l) e = none_if world flight n (logs l input came) e

none_taken : (world : Run) (flight : List Sent) (o : Option Sent) → delivers world flight o ≡ None → taker world o ≡ None
none_taken world flight None e = refl
none_taken world flight (Some sent) e =
    none_by world flight sent.envelope.to (log.taken sent.envelope) sent.stamp (slice_get world.nodes sent.envelope.to) e

no_turner : (world : Run) (event : Event) → event_on world event ≡ None → turner world event ≡ None
no_turner world (events.Run n) e = none_by world world.flight n log.run 0 (slice_get world.nodes n) e
no_turner world (events.Deliver place) e = none_taken world (remove world.flight place) (slice_get world.flight place) e
no_turner world (events.Repeat place) e = none_taken world (with_mark world.flight place) (slice_get world.flight place) e

-- ---- all events

pub nowhere : (events : List Event) → fold step_of None events ≡ None
nowhere [] = refl
nowhere (event ∷ events) = nowhere events

none_turned : (events : List Event) → turned_from None events ≡ []
none_turned [] = refl
none_turned (event ∷ events) = refl

-- what one event more makes
abbrev pub turned_last : Option Run → Event → List Turned
turned_last None event = []
turned_last (Some world) event = turned_by event (turner world event)

last_one : (o : Option Run) (event : Event) → turned_from o (event ∷ []) ≡ turned_last o event
last_one None event = refl
last_one (Some world) event = append-nil (turned_by event (turner world event))

pub turned_more : (o : Option Run) (before : List Event) (event : Event)
    → turned_from o (before ++ event ∷ []) ≡ turned_from o before ++ turned_last (fold step_of o before) event
turned_more o [] event = last_one o event
turned_more None (x ∷ before) event = ap (λ w. turned_last w event) (sym (nowhere before))
turned_more (Some world) (x ∷ before) event =
    ap (λ ts. turned_by x (turner world x) ++ ts) (turned_more (event_on world x) before event)
    ∙ sym (append_assoc (turned_by x (turner world x)) (turned_from (event_on world x) before)
    (turned_last (fold step_of (event_on world x) before) event))

turned_none : (events : List Event) → turned_from None events ≡ []
turned_none [] = refl
turned_none (event ∷ more) = refl

-- the turns of some events and of those behind them
pub turned_both : (o : Option Run) (before more : List Event)
    → turned_from o (before ++ more) ≡ turned_from o before ++ turned_from (fold step_of o before) more
turned_both o [] more = refl
turned_both None (x ∷ before) more = sym (ap (λ w. turned_from w more) (nowhere before) ∙ turned_none more)
turned_both (Some world) (x ∷ before) more =
    ap (λ ts. turned_by x (turner world x) ++ ts) (turned_both (event_on world x) before more)
    ∙ sym (append_assoc (turned_by x (turner world x)) (turned_from (event_on world x) before)
    (turned_from (fold step_of (event_on world x) before) more))

-- ---- the turned events alone

-- the run of one event and those after it that are not skipped
alone_one : (world end : Run) (event : Event) (more : List Event) (next : Option Run) (o : Option ℕ) → event_on world event ≡ next
    → fold step_of next more ≡ Some end → ((w : Run) → next ≡ Some w → TurnsOrNot world w (left_in world event) o)
    → ((w : Run) → next ≡ Some w → played w (events_in (turned_from (Some w) more)) ≡ Some end)
    → played world (events_in (turned_by event o ++ turned_from next more)) ≡ Some end
alone_one world end event more None o is e turns rest = let none : None ≡ Some end = sym (nowhere more) ∙ e in cc
alone_one world end event more (Some w) None is e turns rest = elim (turns w refl) [
  | inl none ↦ subst (λ v. played v (events_in (turned_from (Some w) more)) ≡ Some end) none.1 (rest w refl)
  | inr made ↦ let no = made.1 in cc
]
alone_one world end event more (Some w) (Some n) is e turns rest =
    ap (λ o. fold step_of o (events_in (turned_from (Some w) more))) is ∙ rest w refl

-- events that are skipped may be left out
pub alone : (events : List Event) (world end : Run) → played world events ≡ Some end
    → played world (events_in (turned_from (Some world) events)) ≡ Some end
alone [] world end e = e
alone (event ∷ more) world end e =
    alone_one world end event more (event_on world event) (turner world event) refl e (λ w is. by_event world w event is)
    (λ w is. alone more w end (ap (λ o. fold step_of o more) (sym is) ∙ e))

-- and what is left has none that is skipped
still_one : (world end : Run) (event : Event) (more : List Event) (next : Option Run) (o : Option ℕ) → event_on world event ≡ next
    → turner world event ≡ o → ((w : Run) → next ≡ Some w → TurnsOrNot world w (left_in world event) o)
    → ((w : Run) → next ≡ Some w
    → events_in (turned_from (Some w) (events_in (turned_from (Some w) more))) ≡ events_in (turned_from (Some w) more))
    → events_in (turned_from (Some world) (events_in (turned_by event o ++ turned_from next more))) ≡ events_in (turned_by event o ++ turned_from next more)
still_one world end event more None None is node turns rest =
    ap (λ ts. events_in (turned_from (Some world) (events_in ts))) (none_turned more) ∙ sym (ap events_in (none_turned more))
still_one world end event more None (Some n) is node turns rest = let no : Some n ≡ None = sym node ∙ no_turner world event is in cc
still_one world end event more (Some w) None is node turns rest = elim (turns w refl) [
  | inl none ↦
      subst (λ v. events_in (turned_from (Some v) (events_in (turned_from (Some w) more))) ≡ events_in (turned_from (Some w) more)) none.1 (rest w refl)
  | inr made ↦ let no = made.1 in cc
]
still_one world end event more (Some w) (Some n) is node turns rest =
    ap (λ o. events_in (turned_by event o ++ turned_from (event_on world event) (events_in (turned_from (Some w) more)))) node
    ∙ ap (λ o. event ∷ events_in (turned_from o (events_in (turned_from (Some w) more)))) is
    ∙ ap (λ xs. event ∷ xs) (rest w refl)

pub still_turned : (events : List Event) (world : Run)
    → events_in (turned_from (Some world) (events_in (turned_from (Some world) events))) ≡ events_in (turned_from (Some world) events)
still_turned [] world = refl
still_turned (event ∷ more) world =
    still_one world world event more (event_on world event) (turner world event) refl refl (λ w is. by_event world w event is)
    (λ w is. still_turned more w)

-- ---- logs later in a run

pub is_entry : (l : Logged) (input : Input) (came : ℕ) (entry : EntryRecord) (after : Logged) → logs l input came ≡ logged entry after
    → IsEntry l input entry after
is_entry l input came entry after turn = subst (Entries l input) turn (logs-entries l input came)

-- A node's log later in a run goes on by these entries. The first of them is what an input makes of the node as it is now.
pub record Later (l later : Logged) : Type 0 where
  pub more : List EntryRecord
  pub log_is : later.log ≡ l.log ++ more
  pub first : (entry : EntryRecord) → slice_get more 0 ≡ Some entry → (came : ℕ) × (after : Logged) × (logs l entry.input came ≡ logged entry after)

later_same : (l : Logged) → Later l l
later_same l = record { more = []; log_is = sym (append-nil l.log); first = λ entry at. cc }

later_made : (l after later : Logged) (input : Input) (came : ℕ) (entry : EntryRecord) → logs l input came ≡ logged entry after → Later after later
    → Later l later
later_made l after later input came entry turn h =
    let i = is_entry l input came entry after turn in
    record {
      more = entry ∷ h.more;
      log_is = h.log_is ∙ ap (λ xs. xs ++ h.more) i.log_is ∙ append_assoc l.log (entry ∷ []) h.more;
      first = λ other at.
          let same : entry ≡ other = same_Some entry other at in (
            came,
            after,
            subst (λ x. logs l x.input came ≡ logged x after) same (subst (λ x. logs l x came ≡ logged entry after) (sym i.input_is) turn),
          );
    }

-- each node's log after more events
pub record GoesLater (world end : Run) : Type 0 where
  pub each : (n : ℕ) (l : Logged) → slice_get world.nodes n ≡ Some l → (j : Logged) × (slice_get end.nodes n ≡ Some j) × Later l j

later_turn : (world next end : Run) (flight : List Sent) (m : ℕ) (input : Input) → Made world next flight m input → GoesLater next end
    → GoesLater world end
later_turn world next end flight m input made after = record {
  each = λ n l at. elim (cases_eq m n) [
    | inl same ↦
        let l_is : made.l ≡ l = same_Some made.l l (sym made.there ∙ ap (slice_get world.nodes) same ∙ at) in
        let here : slice_get next.nodes n ≡ Some made.after =
        ap (λ (w : Run). slice_get w.nodes n) made.next_is ∙ ap (slice_get (with_turn world flight m made.entry made.after).nodes) (sym same)
        ∙ get_set_same world.nodes m made.l made.after made.there in
        let rest = after.each n made.after here in
        (rest.0, rest.1, subst (λ x. Later x rest.0) l_is (later_made made.l made.after rest.0 input made.came made.entry made.turn rest.2))
    | inr apart ↦
        let here : slice_get next.nodes n ≡ Some l =
        ap (λ (w : Run). slice_get w.nodes n) made.next_is ∙ get_set_other world.nodes m n made.after apart ∙ at in
        after.each n l here
  ];
}

later_one : (world next end : Run) (flight : List Sent) (o : Option ℕ) → TurnsOrNot world next flight o → GoesLater next end → GoesLater world end
later_one world next end flight o either after = elim either [
  | inl none ↦ subst (λ w. GoesLater w end) none.1 after
  | inr made ↦ later_turn world next end flight made.0 made.2 made.3 after
]

later_from : (world end : Run) (event : Event) (more : List Event) (next : Option Run) → event_on world event ≡ next
    → fold step_of next more ≡ Some end → ((w : Run) → played w more ≡ Some end → GoesLater w end) → GoesLater world end
later_from world end event more None is e after = absurd (none-some end (sym (nowhere more) ∙ e))
later_from world end event more (Some w) is e after = later_one world w end (left_in world event) (turner world event) (by_event world w event is) (after w e)

pub goes_later : (events : List Event) (world end : Run) → played world events ≡ Some end → GoesLater world end
goes_later [] world end e = record {
  each = λ n l at.
      let same : world ≡ end = same_Some world end e in (l, subst (λ (w : Run). slice_get w.nodes n ≡ Some l) same at, later_same l);
}
goes_later (event ∷ more) world end e = later_from world end event more (event_on world event) refl e (λ w rest. goes_later more w end rest)

-- ---- what is refused

refused_outcome : (input : Input) (a b : ℕ) (before : List EntryRecord) (o : Outcome) → logging input a before o ≡ refused
    → logging input b before o ≡ refused
refused_outcome input a b before (done turn node) e = by_test (nat_le a MOST_STAMP) e
  where
    by_test : (t : Bool)
        → cond t (logged (record { input = input; stamp = a; turn = turn })
        (record { node = node; log = before ++ (record { input = input; stamp = a; turn = turn }) ∷ [] })) too_large ≡ refused
        → logging input b before (done turn node) ≡ refused
    by_test true e = cc
    by_test false e = cc
refused_outcome input a b before not_ready e = refl
refused_outcome input a b before unexpected e = refl
refused_outcome input a b before worn e = cc

-- what a node refuses it refuses with any stamp
pub still_refused : (l : Logged) (input : Input) (a b : ℕ) → logs l input a ≡ refused → logs l input b ≡ refused
still_refused l input a b e = refused_outcome input (next_stamp l.log a) (next_stamp l.log b) l.log (outcome_of l.node input) e

-- The turns that are kept beside a world.
use Rattle.std.proofs.Common.{◌≡◌, ◌∙◌, ◌≤◌, ℕ, List, [], ◌∷◌, ◌++◌, Option, Some, None, Result, Ok, Err, OnOk, true, false}
use Rattle.std.proofs.Common.{append-nil, append_assoc, ap, arith, length, refl, sym}
use Rattle.std.proofs.lemmas.Option.{slice_get_past}
use Rattle.std.specs.Prelude.{slice_get}
use Rattle.lrc_protocol.specs.declared.event.Event.{Event}
use Rattle.lrc_protocol.specs.Run.{Input, taken, Logged, World as Run, Flying as Sent, played}
use Rattle.lrc_node.specs.Logged.{TracedLog}
use Rattle.lrc_node.specs.declared.fault.NodeFault.{NodeFault}
use Rattle.lrc_node.specs.declared.fault.NodeFault.TheVariants as NodeFaults
use Rattle.lrc_node.specs.declared.fault.NodeFault.TheVariants.{Failed, NotReady, Unexpected}
use Rattle.lrc_world.specs.declared.keep.Keep.{Keep}
use Rattle.lrc_world.specs.declared.keep.Keep.TheVariants.{All, Newest, Turns}
use Rattle.lrc_world.specs.declared.report.TurnFault.{TurnFault}
use Rattle.lrc_world.specs.declared.turned.Turned.{Turned}
use Rattle.lrc_world.specs.declared.world.World.{World}
use Rattle.lrc_world.specs.Turned.{when_all, node_by, node_if, taker, turned_by, turned_from, turner}
use Rattle.lrc_world.specs.World.{NotesTurn, Shows, Starts, TurnsBy, TurnsTo, seen_flying, seen_sent, turn_made}
use Rattle.lrc_world.proofs.Lists.{same_length}
use Rattle.lrc_world.proofs.Made.{turned_last, turned_more}
use Rattle.lrc_world.proofs.Played.{whole}

-- ---- lists of them

pub kept_none : {A : Type 0} (keep : Keep) → when_all {A = A} keep [] ≡ []
kept_none All = refl
kept_none Turns = refl
kept_none Newest = refl

pub kept_both : {A : Type 0} (keep : Keep) (some more : List A) → when_all keep (some ++ more) ≡ when_all keep some ++ when_all keep more
kept_both All some more = refl
kept_both Turns some more = refl
kept_both Newest some more = refl

-- where no turn was made, none is kept
pub notes_none : (old new : World) (event : Event) (maker : Option ℕ) → maker ≡ None → new.turned ≡ old.turned → NotesTurn old new event maker
notes_none old new event maker none same =
    ap (λ v. v.items) same ∙ sym (append-nil old.turned.items) ∙ ap (λ ts. old.turned.items ++ ts) (sym (kept_none old.keep))
    ∙ ap (λ n. old.turned.items ++ when_all old.keep (turned_by event n)) (sym none)

-- a turn that is noted behind others is noted by the world that had kept just those
pub notes_same : (old new : World) (keep : Keep) (turned : List Turned) (event : Event) (maker other : Option ℕ) (result : Result (Unit {0}) TurnFault)
    → keep ≡ old.keep → turned ≡ old.turned.items → maker ≡ other
    → OnOk result (new.turned.items ≡ turned ++ when_all keep (turned_by event maker)) → OnOk result (NotesTurn old new event other)
notes_same old new keep turned event maker other (Ok done) kept same is notes =
    notes ∙ ap (λ ts. ts ++ when_all keep (turned_by event maker)) same
    ∙ ap (λ k. old.turned.items ++ when_all k (turned_by event maker)) kept
    ∙ ap (λ n. old.turned.items ++ when_all old.keep (turned_by event n)) is
notes_same old new keep turned event maker other (Err fault) kept same is notes = tt

-- one event more
pub noted_more : (starts : Starts) (start run : Run) (earlier : List Turned) (before : List Event) (event : Event) (old new : World)
    → Shows starts old run → played start before ≡ Some run
    → old.turned.items ≡ earlier ++ when_all starts.keep (turned_from (Some start) before)
    → NotesTurn old new event (turner run event)
    → new.turned.items ≡ earlier ++ when_all starts.keep (turned_from (Some start) (before ++ event ∷ []))
noted_more starts start run earlier before event old new shows plays so_far notes =
    notes ∙ ap (λ keep. old.turned.items ++ when_all keep (turned_by event (turner run event))) shows.keep
    ∙ ap (λ ts. ts ++ when_all starts.keep (turned_by event (turner run event))) so_far
    ∙ append_assoc earlier (when_all starts.keep (turned_from (Some start) before)) (when_all starts.keep (turned_by event (turner run event)))
    ∙ ap (λ ts. earlier ++ ts) (sym (kept_both starts.keep (turned_from (Some start) before) (turned_by event (turner run event)))
    ∙ ap (λ o. when_all starts.keep (turned_from (Some start) before ++ turned_last o event)) (sym plays)
    ∙ ap (when_all starts.keep) (sym (turned_more (Some start) before event)))

-- ---- who made a turn

module _ (olds news : List TracedLog) (n : ℕ) (input : Input) (came : ℕ) where
  made_by : (o : Option Logged) (outcome : Result (Unit {0}) NodeFault) → TurnsBy olds news n input came o outcome → turn_made outcome ≡ Ok true
      → node_by n input came o ≡ Some n
  made_by None (Ok done) t e = absurd t
  made_by None (Err NotReady) t e = cc
  made_by None (Err Unexpected) t e = absurd t
  made_by None (Err NodeFaults.Worn) t e = absurd t
  made_by None (Err NodeFaults.NoMemory) t e = absurd t
  made_by None (Err Failed) t e = absurd t
  made_by (Some l) (Ok done) t e = ap (node_if n) t.turn
  made_by (Some l) (Err NotReady) t e = cc
  made_by (Some l) (Err Unexpected) t e = cc
  made_by (Some l) (Err NodeFaults.Worn) t e = cc
  made_by (Some l) (Err NodeFaults.NoMemory) t e = cc
  made_by (Some l) (Err Failed) t e = absurd t

  unmade_by : (o : Option Logged) (outcome : Result (Unit {0}) NodeFault) → TurnsBy olds news n input came o outcome → turn_made outcome ≡ Ok false
      → node_by n input came o ≡ None
  unmade_by None (Ok done) t e = absurd t
  unmade_by None (Err NotReady) t e = refl
  unmade_by None (Err Unexpected) t e = absurd t
  unmade_by None (Err NodeFaults.Worn) t e = absurd t
  unmade_by None (Err NodeFaults.NoMemory) t e = absurd t
  unmade_by None (Err Failed) t e = absurd t
  unmade_by (Some l) (Ok done) t e = cc
  unmade_by (Some l) (Err NotReady) t e = ap (node_if n) t.0
  unmade_by (Some l) (Err Unexpected) t e = ap (node_if n) t.0
  unmade_by (Some l) (Err NodeFaults.Worn) t e = cc
  unmade_by (Some l) (Err NodeFaults.NoMemory) t e = cc
  unmade_by (Some l) (Err Failed) t e = absurd t

module _ (starts : Starts) (old mid : World) (run : Run) (n : ℕ) (input : Input) (came : ℕ) (outcome : Result (Unit {0}) NodeFault)
    (shows : Shows starts old run) (turns : TurnsTo old.nodes.items mid.nodes.items n input came outcome) where
  -- the node that was named made one
  pub who_made : turn_made outcome ≡ Ok true → Some n ≡ node_by n input came (slice_get run.nodes n)
  who_made made =
      sym (made_by old.nodes.items mid.nodes.items n input came (slice_get run.nodes n) outcome
      (whole starts old mid run n input came outcome shows turns) made)

  -- it made none
  pub none_made : turn_made outcome ≡ Ok false → node_by n input came (slice_get run.nodes n) ≡ None
  none_made made =
      unmade_by old.nodes.items mid.nodes.items n input came (slice_get run.nodes n) outcome
      (whole starts old mid run n input came outcome shows turns) made

-- the receiver of a message is who takes it
pub taker_is : (run : Run) (place : ℕ) (sent : Sent) (maker : Option ℕ) → slice_get run.flight place ≡ Some sent
    → node_by sent.envelope.to (taken sent.envelope) sent.stamp (slice_get run.nodes sent.envelope.to) ≡ maker → maker ≡ taker run (slice_get run.flight place)
taker_is run place sent maker there is = sym is ∙ ap (taker run) (sym there)

-- where no message is, none is taken
pub none_taken : (starts : Starts) (world : World) (run : Run) (place : ℕ) → Shows starts world run → length world.flight.items ≤ place
    → None ≡ taker run (slice_get run.flight place)
none_taken starts world run place shows past =
    let same = same_length seen_flying seen_sent world.flight.items run.flight shows.flight in
    ap (taker run) (sym (slice_get_past run.flight place (omega (arith, past, same))))

-- ---- numbers that are no node's

-- a number past a byte's is that of no node
pub no_node : (starts : Starts) (world : World) (run : Run) (n : ℕ) → Shows starts world run → 256 ≤ n → slice_get run.nodes n ≡ None
no_node starts world run n shows large = slice_get_past run.nodes n (omega (arith, shows.few, large))

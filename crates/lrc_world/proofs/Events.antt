-- One event more.
use Rattle.std.proofs.Common.{◌≡◌, ◌∙◌, ℕ, ◌+◌, List, [], ◌∷◌, ◌++◌, Some, Result, Ok, Err, IfErr, IsErrAnd, OnOk, refl}
use Rattle.std.proofs.Common.{sym, ap, subst, take, drop, zero, suc, arith, length, ◌≤◌, ◌<◌}
use Rattle.std.specs.Prelude.{slice_get, slice_index_or}
use Rattle.std.proofs.lemmas.List.Sums.{fold-append}
use Rattle.lrc_program.specs.declared.Program.{Program}
use Rattle.lrc_protocol.specs.declared.event.Event.{Event}
use Rattle.lrc_protocol.specs.Node.{OptionsRecord}
use Rattle.lrc_protocol.specs.Run.{World as Run, fresh_world, event_on, step_of, run_of}
use Rattle.lrc_consistency_laws.proofs.Ahead.{take_ahead}
use Rattle.lrc_world.specs.declared.world.World.{World}
use Rattle.lrc_world.specs.declared.report.TurnFault.{TurnFault}
use Rattle.lrc_world.specs.declared.report.TurnFault.TheVariants.{NoMemory, Worn}
use Rattle.lrc_world.specs.declared.keep.Keep.{Keep}
use Rattle.lrc_world.specs.Turned.{when_all, turned_of, turner}
use Rattle.lrc_world.specs.World.{NotesTurn, Starts, Shows, PlaysTo, starts_of}
use Rattle.lrc_world.proofs.Noted.{noted_more}
use Rattle.lrc_world.specs.Report.{IsWornBy, IsWornFault}
use Rattle.lrc_world.specs.Runs.{ShowsRun}

module _ (program : Program) (nodes : ℕ) (options : OptionsRecord) (events : List Event) (k : ℕ) (event : Event) (at : slice_get events k ≡ Some event) where
  taken_next : take (k + 1) events ≡ take k events ++ event ∷ []
  taken_next = let next : k + 1 ≡ suc k = omega arith in ap (λ n. take n events) next ∙ take_ahead events k event at

  one_more : (run : Run) → run_of program nodes options (take k events) ≡ Some run
      → run_of program nodes options (take (k + 1) events) ≡ event_on run event
  one_more run so_far =
      ap (run_of program nodes options) taken_next
      ∙ fold-append step_of (Some (fresh_world program nodes options)) (take k events) (event ∷ [])
      ∙ ap (λ w. step_of w event) so_far

  pub goes_on : (keep : Keep) (old new : World) (result : Result (Unit {0}) TurnFault) (u : Unit {0})
      → ShowsRun keep program nodes options (take k events) old
      → ((starts : Starts) (run : Run) → Shows starts old run → PlaysTo starts new (event_on run event) result)
      → ((starts : Starts) (run : Run) → Shows starts old run → OnOk result (NotesTurn old new event (turner run event))) → result ≡ Ok u
      → ShowsRun keep program nodes options (take (k + 1) events) new
  goes_on keep old new result u runs plays notes ok =
      let first = starts_of program nodes options keep in
      let p = subst (PlaysTo first new (event_on runs.0 event)) ok (plays first runs.0 runs.2) in
      let noted = subst (λ r. OnOk r (NotesTurn old new event (turner runs.0 event))) ok (notes first runs.0 runs.2) in (
        p.0,
        one_more runs.0 runs.1 ∙ p.1,
        p.2,
        noted_more first (fresh_world program nodes options) runs.0 [] (take k events) event old new runs.2 runs.1 runs.3 noted
            ∙ ap (λ es. when_all keep (turned_of program nodes options es)) (sym taken_next),
      )

pub split_at : {X : Type 0} (xs : List X) (k : ℕ) (x : X) → slice_get xs k ≡ Some x → xs ≡ take k xs ++ x ∷ drop (suc k) xs
split_at [] k x at = cc
split_at (y ∷ xs) zero x at = let same : y ≡ x = cc in ap (λ z. z ∷ xs) same
split_at (y ∷ xs) (suc k) x at = ap (λ more. y ∷ more) (split_at xs k x at)

pub wears_out : (program : Program) (nodes : ℕ) (options : OptionsRecord) (events : List Event) (k : ℕ) (event : Event) → slice_get events k ≡ Some event
    → (keep : Keep) (old new : World) (result : Result (Unit {0}) TurnFault) → ShowsRun keep program nodes options (take k events) old
    → ((starts : Starts) (run : Run) → Shows starts old run → PlaysTo starts new (event_on run event) result) → result ≡ Err Worn
    → IsWornBy program nodes options events
wears_out program nodes options events k event at keep old new result runs plays worn = record {
  before = take k events;
  event = event;
  after = drop (suc k) events;
  run = runs.0;
  split = split_at events k event at;
  plays = runs.1;
  wears =
      subst (PlaysTo (starts_of program nodes options keep) new (event_on runs.0 event)) worn (plays (starts_of program nodes options keep) runs.0 runs.2);
}

-- why the events are not played, where one of them is not
pub faults_at : (program : Program) (nodes : ℕ) (options : OptionsRecord) (events : List Event) (k : ℕ) (event : Event) → slice_get events k ≡ Some event
    → (keep : Keep) (old new : World) (fault : TurnFault) → ShowsRun keep program nodes options (take k events) old
    → ((starts : Starts) (run : Run) → Shows starts old run → PlaysTo starts new (event_on run event) (Err fault))
    → IsWornFault (IsWornBy program nodes options events) fault
faults_at program nodes options events k event at keep old new Worn runs plays =
    wears_out program nodes options events k event at keep old new (Err Worn) runs plays refl
faults_at program nodes options events k event at keep old new NoMemory runs plays = tt

pub fault_up : {X : Type 0} (r : Result X TurnFault) (fault : TurnFault) (P : TurnFault → Type 0) → IsErrAnd r (λ f. f ≡ fault) → P fault → IfErr r P
fault_up (Ok x) fault P is holds = tt
fault_up (Err f) fault P is holds = subst P (sym is) holds

pub take_whole : {X : Type 0} (xs : List X) (k : ℕ) → length xs ≤ k → take k xs ≡ xs
take_whole [] zero all = refl
take_whole [] (suc k) all = refl
take_whole (x ∷ xs) zero all = absurd (omega (arith, all))
take_whole (x ∷ xs) (suc k) all = ap (λ more. x ∷ more) (take_whole xs k (omega (arith, all)))

pub get_at : {X : Type 0} (xs : List X) (k : ℕ) (d : X) → k < length xs → slice_get xs k ≡ Some (slice_index_or xs k d)
get_at [] k d within = absurd (omega (arith, within))
get_at (x ∷ xs) zero d within = refl
get_at (x ∷ xs) (suc k) d within = get_at xs k d (omega (arith, within))

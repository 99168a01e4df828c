-- Woven events play: the run has just the turns of the logs that have come.
use Rattle.std.proofs.Common.{◌≡◌, ℕ, zero, suc, ◌+◌, ◌<◌, List, [], ◌∷◌, ◌++◌, Bool, true, false, length, map}
use Rattle.std.proofs.Common.{replicate, take, drop, refl, sym, ap, subst, ◌∙◌, inl, inr, arith}
use Rattle.std.specs.Prelude.{Some, None, cond, remove, nat_le, slice_get, slice_set}
use Rattle.std.specs.List.{range_with_len}
use Rattle.std.specs.Option.{option_to_list}
use Rattle.std.proofs.lemmas.Bool.{cases_eq}
use Rattle.std.proofs.lemmas.List.{length-set, length-map, length-replicate, get_or-replicate, get_or-set_same, get_or-set_other}
use Rattle.std.proofs.lemmas.Option.{slice_get-get_or}
use Rattle.std.proofs.lemmas.List.FromFn.{length-range_with_len}
use Rattle.std.proofs.lemmas.Grind.{fold-append}
use Rattle.lrc_program.specs.declared.Program.{Program}
use Rattle.lrc_trace.specs.declared.act.Act.{Act}
use Rattle.lrc_protocol.specs.declared.event.Event.{Event}
use Rattle.lrc_protocol.specs.Node.{Node, OptionsRecord, fresh_node}
use Rattle.lrc_protocol.specs.Turn.{TurnRecord, Outcome, done, not_ready, unexpected, worn}
use Rattle.lrc_protocol.specs.Run.{Input, run, taken, EntryRecord, Logged, logged, too_large, logs as logs', logging, next_stamp, outcome_of}
use Rattle.lrc_protocol.specs.Run.{MOST_STAMP, World, Flying, fresh_world, with_turn, with_mark, sent_by, with_input, input_to, after_input}
use Rattle.lrc_protocol.specs.Run.{delivers, event_on, step_of, run_of}
use Rattle.lrc_protocol.proofs.Worlds.{get_set_same, get_set_other}
use Rattle.lrc_weave.specs.Logs.{GoesOnBy, MayCome, AreLogs}
use Rattle.lrc_weave.specs.Whole.{MakesRun}
use Rattle.lrc_weave.specs.Woven.{IsTakenAt, MakesNextTurn, runs, takes_last, takes_again, Woven, nothing_yet, then_one, AreWoven}
use Rattle.lrc_protocol.specs.Follows.{log_of, come_of, next_entry}
use Rattle.lrc_weave.proofs.Places.{taken_more, dropped_less, taken_all, within_outer, mapped_is}

-- ---- one entry

-- what an entry of a log is
pub record IsLogged (l : Logged) (came : ℕ) (entry : EntryRecord) (after : Logged) : Type 0 where
  pub stamp : entry.stamp ≡ next_stamp l.log came
  pub log : after.log ≡ l.log ++ entry ∷ []

by_test : (l : Logged) (input : Input) (came : ℕ) (turn : TurnRecord) (node : Node) (entry : EntryRecord) (after : Logged) (b : Bool)
    → cond b (logged (record { input = input; stamp = next_stamp l.log came; turn = turn })
    (record { node = node; log = l.log ++ (record { input = input; stamp = next_stamp l.log came; turn = turn }) ∷ [] })) too_large
    ≡ logged entry after → IsLogged l came entry after
by_test l input came turn node entry after true e =
    let first : EntryRecord = record { input = input; stamp = next_stamp l.log came; turn = turn } in
    let same : first ≡ entry = cc in
    let whole : (record { node = node; log = l.log ++ first ∷ [] }) ≡ after = cc in
    record {
      stamp = sym (ap (λ (x : EntryRecord). x.stamp) same);
      log = sym (ap (λ (x : Logged). x.log) whole) ∙ ap (λ x. l.log ++ x ∷ []) same;
    }
by_test l input came turn node entry after false e = cc

by_outcome : (l : Logged) (input : Input) (came : ℕ) (entry : EntryRecord) (after : Logged) (o : Outcome)
    → logging input (next_stamp l.log came) l.log o ≡ logged entry after → IsLogged l came entry after
by_outcome l input came entry after (done turn node) e = by_test l input came turn node entry after (nat_le (next_stamp l.log came) MOST_STAMP) e
by_outcome l input came entry after not_ready e = cc
by_outcome l input came entry after unexpected e = cc
by_outcome l input came entry after worn e = cc

pub is_logged : (l : Logged) (input : Input) (came : ℕ) (entry : EntryRecord) (after : Logged) → logs' l input came ≡ logged entry after
    → IsLogged l came entry after
is_logged l input came entry after e = by_outcome l input came entry after (outcome_of l.node input) e

-- the stamp that came matters by what it makes alone
same_stamp : (l : Logged) (input : Input) (came other : ℕ) → next_stamp l.log other ≡ next_stamp l.log came → logs' l input other ≡ logs' l input came
same_stamp l input came other e = ap (λ stamp. logging input stamp l.log (outcome_of l.node input)) e

no_stamp : (l : Logged) (input : Input) (came : ℕ) (entry : EntryRecord) (after : Logged) → input ≡ run → MayCome input came
    → logs' l input came ≡ logged entry after → logs' l run 0 ≡ logged entry after
no_stamp l run came entry after e may turned = ap (logs' l run) (sym may) ∙ turned
no_stamp l (taken envelope) came entry after e may turned = cc

-- the acts of the turns that are woven, in order
abbrev pub acts_in : {logs : List (List EntryRecord)} {come : List ℕ} {flight : List Flying} {events : List Event} → Woven logs come flight events → List Act
acts_in nothing_yet = []
acts_in (then_one {entry = entry} woven next makes) = acts_in woven ++ option_to_list entry.turn.act

-- ---- the whole world

-- a world in which so many turns of each node have come
pub record IsAt (logs : List (List EntryRecord)) (come : List ℕ) (flight : List Flying) (world : World) : Type 0 where
  pub count : length world.nodes ≡ length logs
  pub counted : length come ≡ length logs
  pub flown : world.flight ≡ flight
  pub each : (n : ℕ) → n < length logs
      → (l : Logged) × (slice_get world.nodes n ≡ Some l) × (l.log ≡ take (come_of come n) (log_of logs n)) × GoesOnBy l (drop (come_of come n) (log_of logs n))

module _ (logs : List (List EntryRecord)) where
  -- a turn more
  more : (world : World) (come : List ℕ) (flight left : List Flying) (n : ℕ) (entry : EntryRecord) (l after : Logged)
      → IsAt logs come flight world → n < length logs → slice_get world.nodes n ≡ Some l → next_entry logs come n ≡ Some entry
      → l.log ≡ take (come_of come n) (log_of logs n) → after.log ≡ l.log ++ entry ∷ []
      → GoesOnBy after (drop (come_of come n + 1) (log_of logs n))
      → IsAt logs (slice_set come n (come_of come n + 1)) (left ++ sent_by entry) (with_turn world left n entry after)
  more world come flight left n entry l after at within there next log_is more_is on =
      let k = come_of come n in
      let new = slice_set come n (k + 1) in
      record {
        count = length-set world.nodes n after ∙ at.count;
        counted = length-set come n (k + 1) ∙ at.counted;
        flown = refl;
        each = λ m lt. elim (cases_eq n m) [
          | inl e ↦
              let now : come_of new n ≡ k + 1 = get_or-set_same come n (k + 1) 0 (subst (λ x. n < x) (sym at.counted) within) in
              let here : (x : Logged) × (slice_get (slice_set world.nodes n after) n ≡ Some x) × (x.log ≡ take (come_of new n) (log_of logs n))
              × GoesOnBy x (drop (come_of new n) (log_of logs n)) = (
                after,
                get_set_same world.nodes n l after there,
                more_is ∙ ap (λ xs. xs ++ entry ∷ []) log_is ∙ sym (taken_more (log_of logs n) k entry next) ∙ ap (λ c. take c (log_of logs n)) (sym now),
                subst (λ c. GoesOnBy after (drop c (log_of logs n))) (sym now) on,
              ) in
              subst (λ m. (x : Logged) × (slice_get (slice_set world.nodes n after) m ≡ Some x) × (x.log ≡ take (come_of new m) (log_of logs m))
              × GoesOnBy x (drop (come_of new m) (log_of logs m))) e here
          | inr ne ↦
              let old = at.each m lt in
              let now : come_of new m ≡ come_of come m = get_or-set_other come n m (k + 1) 0 (λ e. ne (sym e)) in (
                old.0,
                get_set_other world.nodes n m after ne ∙ old.1,
                old.2 ∙ ap (λ c. take c (log_of logs m)) (sym now),
                subst (λ c. GoesOnBy old.0 (drop c (log_of logs m))) (sym now) old.3,
              )
        ];
      }

  -- what is taken from flight makes the turn
  by_message : (world : World) (left flight : List Flying) (n place came : ℕ) (entry : EntryRecord) (flying : Flying)
      → (l after : Logged) (before : List EntryRecord) → world.flight ≡ flight → slice_get world.nodes n ≡ Some l → l.log ≡ before
      → IsTakenAt n before entry flight place flying
      → logs' l entry.input came ≡ logged entry after
      → delivers world left (slice_get world.flight place) ≡ Some (with_turn world left n entry after)
  by_message world left flight n place came entry flying l after before flown there log_is t turned =
      let stamps : next_stamp l.log flying.stamp ≡ next_stamp l.log came =
      ap (λ b. next_stamp b flying.stamp) log_is ∙ sym t.stamp ∙ (is_logged l entry.input came entry after turned).stamp in
      let made : logs' l (taken flying.envelope) flying.stamp ≡ logged entry after =
      same_stamp l (taken flying.envelope) came flying.stamp stamps ∙ ap (λ i. logs' l i came) (sym t.input) ∙ turned in
      ap (delivers world left) (ap (λ f. slice_get f place) flown ∙ t.there)
      ∙ ap (λ to. with_input world left to (taken flying.envelope) flying.stamp) t.receiver
      ∙ ap (input_to world left n (taken flying.envelope) flying.stamp) there
      ∙ ap (after_input world left n) made

  -- the event of a turn makes it
  event_is : (world : World) (flight left : List Flying) (n came : ℕ) (entry : EntryRecord) (l after : Logged) (before later : List EntryRecord) (event : Event)
      → world.flight ≡ flight → slice_get world.nodes n ≡ Some l → l.log ≡ before → MayCome entry.input came → logs' l entry.input came ≡ logged entry after
      → MakesNextTurn n before later entry flight event left → event_on world event ≡ Some (with_turn world left n entry after)
  event_is world flight left n came entry l after before later event flown there log_is may turned (runs i) =
      ap (λ f. with_input world f n run 0) flown ∙ ap (input_to world flight n run 0) there
      ∙ ap (after_input world flight n) (no_stamp l entry.input came entry after i may turned)
  event_is world flight left n came entry l after before later event flown there log_is may turned (takes_last {place = place} {flying = flying} t no_more) =
      ap (λ f. delivers world (remove f place) (slice_get world.flight place)) flown
      ∙ by_message world (remove flight place) flight n place came entry flying l after before flown there log_is t turned
  event_is world flight left n came entry l after before later event flown there log_is may turned (takes_again {place = place} {flying = flying} t again) =
      ap (λ f. delivers world (with_mark f place) (slice_get world.flight place)) flown
      ∙ by_message world (with_mark flight place) flight n place came entry flying l after before flown there log_is t turned

  by_event : (world : World) (come : List ℕ) (flight left : List Flying) (event : Event) (n : ℕ) (entry : EntryRecord) → IsAt logs come flight world
      → next_entry logs come n ≡ Some entry
      → MakesNextTurn n (take (come_of come n) (log_of logs n)) (drop (come_of come n + 1) (log_of logs n)) entry flight event left
      → (next : World) × (event_on world event ≡ Some next) × IsAt logs (slice_set come n (come_of come n + 1)) (left ++ sent_by entry) next
      × (next.acts ≡ world.acts ++ option_to_list entry.turn.act)
  by_event world come flight left event n entry at next makes =
      let k = come_of come n in
      let within : n < length logs = within_outer logs n k entry next in
      let old = at.each n within in
      let on : GoesOnBy old.0 (entry ∷ drop (k + 1) (log_of logs n)) = subst (GoesOnBy old.0) (dropped_less (log_of logs n) k entry next) old.3 in
      let turned : logs' old.0 entry.input on.0 ≡ logged entry on.1 = on.3 in (
        with_turn world left n entry on.1,
        event_is world flight left n on.0 entry old.0 on.1 _ _ event at.flown old.1 old.2 on.2 turned makes,
        more world come flight left n entry old.0 on.1 at within old.1 next old.2 (is_logged old.0 entry.input on.0 entry on.1 turned).log on.4,
        refl,
      )

  module _ (program : Program) (nodes : ℕ) (options : OptionsRecord) (are : AreLogs program nodes options logs) where
    -- a fresh node with no log
    abbrev new_at : ℕ → Logged
    new_at n = record { node = fresh_node program nodes options n; log = [] }

    fresh_there : (a k n : ℕ) → n < k
        → slice_get {X = Logged} (map (λ (node : Node). record { node = node; log = [] }) (map (fresh_node program nodes options) (range_with_len a k))) n
        ≡ Some (new_at (a + n))
    fresh_there a zero n lt = absurd (omega (arith, lt))
    fresh_there a (suc k) zero lt = ap (λ m. Some (new_at m)) (omega arith)
    fresh_there a (suc k) (suc n) lt = fresh_there (a + 1) k n (omega (arith, lt)) ∙ ap (λ m. Some (new_at m)) (omega arith)

    at_start : IsAt logs (replicate (length logs) 0) [] (fresh_world program nodes options)
    at_start = record {
      count = length-map (map (fresh_node program nodes options) (range_with_len 0 nodes)) (λ (node : Node). record { node = node; log = [] })
          ∙ length-map (range_with_len 0 nodes) (fresh_node program nodes options) ∙ length-range_with_len 0 nodes ∙ sym are.count;
      counted = length-replicate (length logs) 0;
      flown = refl;
      each = λ n lt.
          let none : come_of (replicate (length logs) 0) n ≡ 0 = get_or-replicate (length logs) n 0 0 lt in (
            new_at n,
            fresh_there 0 nodes n (subst (λ k. n < k) are.count lt) ∙ ap (λ m. Some (new_at m)) (omega arith),
            ap (λ c. take c (log_of logs n)) (sym none),
            subst (λ c. GoesOnBy (new_at n) (drop c (log_of logs n))) (sym none) (are.each n (log_of logs n) (slice_get-get_or logs n [] lt)),
          );
    }

    -- the run of woven events has the turns that have come, and in flight is what the weave has in flight
    pub all_played : (come : List ℕ) (flight : List Flying) (events : List Event) (woven : Woven logs come flight events)
        → (world : World) × (run_of program nodes options events ≡ Some world) × IsAt logs come flight world × (world.acts ≡ acts_in woven)
    all_played _ _ _ nothing_yet = (fresh_world program nodes options, refl, at_start, refl)
    all_played _ _ _ (then_one {come = come} {flight = flight} {left = left} {events = events} {event = event} {n = n} {entry = entry} woven next makes) =
        let so_far = all_played come flight events woven in
        let more = by_event so_far.0 come flight left event n entry so_far.2 next.next makes in (
          more.0,
          fold-append step_of (Some (fresh_world program nodes options)) events (event ∷ []) ∙ ap (λ o. step_of o event) so_far.1 ∙ more.1,
          more.2,
          more.3 ∙ ap (λ acts. acts ++ option_to_list entry.turn.act) so_far.3,
        )

    -- where all turns have come the nodes have these logs
    all_come : (come : List ℕ) (flight : List Flying) (world : World) → IsAt logs come flight world → ((n : ℕ) → next_entry logs come n ≡ None)
        → map (λ (l : Logged). l.log) world.nodes ≡ logs
    all_come come flight world at all =
        mapped_is (λ (l : Logged). l.log) world.nodes logs [] at.count (λ n lt.
        let x = at.each n lt in
        (x.0, x.1, x.2 ∙ taken_all (log_of logs n) (come_of come n) (all n)))

    -- events that make all turns make a run with these logs
    pub whole_run : (events : List Event) (flight : List Flying) → AreWoven logs events flight
        → (world : World) × (run_of program nodes options events ≡ Some world) × (map (λ (l : Logged). l.log) world.nodes ≡ logs) × (world.flight ≡ flight)
    whole_run events flight are_woven =
        let p = all_played are_woven.come flight events are_woven.woven in (
          p.0,
          p.1,
          all_come are_woven.come flight p.0 p.2 are_woven.all,
          p.2.flown,
        )

    -- and the acts of that run are those of the turns
    pub makes_run : (events : List Event) (flight : List Flying) (are_woven : AreWoven logs events flight)
        → MakesRun program nodes options logs events (acts_in are_woven.woven) (length flight)
    makes_run events flight are_woven =
        let p = all_played are_woven.come flight events are_woven.woven in
        record {
          world = p.0;
          runs = p.1;
          logs_are = all_come are_woven.come flight p.0 p.2 are_woven.all;
          acts_are = p.3;
          flight = ap length p.2.flown;
        }

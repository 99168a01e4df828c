-- The acts of a run and their turns.
use Rattle.std.proofs.Common.{◌≡◌, ◌∙◌, ◌⊎◌, ⊎_elim, ℕ, ◌+◌, ◌<◌, suc, zero, arith, List, [], ◌∷◌, ◌++◌, Bool, true, false, cond, Option, Some, None}
use Rattle.std.proofs.Common.{refl, sym, ap, subst, append-nil, append_assoc, inl, inr, map, length, drop, replicate}
use Rattle.std.proofs.lemmas.Bool.{cases_eq, cases_lt, eq-eqb, ne_eqb}
use Rattle.std.proofs.lemmas.List.Sums.{sum_by-cons}
use Rattle.std.proofs.lemmas.List.{get_or-replicate, get_or-set_other, get_or-set_same, get_or_past, length-replicate, length-set}
use Rattle.std.proofs.lemmas.Option.{none-some, same_Some}
use Rattle.std.specs.Prelude.{fold, ◌==◌, if◌then◌else◌, is_some, slice_get, take}
use Rattle.std.specs.Option.{option_to_list}
use Rattle.lrc_program.specs.declared.Program.{Program}
use Rattle.lrc_trace.specs.declared.act.Act.{Act}
use Rattle.lrc_protocol.specs.declared.event.Event.{Event}
use Rattle.lrc_protocol.specs.Follows.{come_of, log_of, next_entry}
use Rattle.lrc_protocol.proofs.Worlds.{run-whole}
use Rattle.lrc_protocol.specs.Node.{OptionsRecord}
use Rattle.lrc_protocol.specs.Run.{Input, EntryRecord, Logged, World as Run, event_on, fresh_world, played, run_of, step_of}
use Rattle.lrc_clock.specs.Keeping.{KeepsTime}
use Rattle.lrc_clock.proofs.Computing.{keeps-none}
use Rattle.lrc_lines.specs.Statements.{act_statements}
use Rattle.lrc_timeline.specs.Timeline.{IsTimelineOf, brought_behind, timed, times_in}
use Rattle.lrc_world.specs.declared.keep.Keep.{Keep}
use Rattle.lrc_world.specs.declared.keep.Keep.TheVariants.{Newest, Turns}
use Rattle.lrc_world.specs.declared.origins.Origins.{Origins}
use Rattle.lrc_world.specs.declared.turned.Turned.{Turned}
use Rattle.lrc_world.specs.Origins.{AreOriginsOf, AreTurnsOf, act_turns, acts_along, acts_in_turn, acts_of, has_act, turns_along, turns_before}
use Rattle.lrc_world.specs.Turned.{turned_by, turned_from, turned_of, turner, when_all}
use Rattle.lrc_world.specs.Walk.{Leads, come_after, come_with}
use Rattle.lrc_world.proofs.Made.{Made, TurnsOrNot, by_event, left_in, nowhere}
use Rattle.lrc_world.proofs.Walked.{IsAt, at_made, at_start, leads_through, made_next, same_nodes}

-- ---- the acts of a run are those of its turns

module _ (end : Run) (logs : List (List EntryRecord)) (has : map (λ (l : Logged). l.log) end.nodes ≡ logs) where
  -- how the acts of the rest of a run go on, wherever a walk has come
  record ActsOn (world : Run) (more : List Turned) : Type 0 where
    pub from : (come flight : List ℕ) → length end.nodes ≡ length world.nodes → IsAt come flight world
        → world.acts ++ acts_along logs come more ≡ end.acts

  acts_turn : (now next : Run) (event : Event) (more : List Event) (n : ℕ) (input : Input) → Made now next (left_in now event) n input
      → played next more ≡ Some end → ActsOn next (turned_from (Some next) more)
      → ActsOn now (turned_by event (Some n) ++ turned_from (Some next) more)
  acts_turn now next event more n input made plays rest = record {
    from = λ come flight same at.
        let first = made_next now end logs come flight has same at next more (left_in now event) n input made plays in
        let after = at_made now end logs come flight has same at next more event n input made plays in
        let stays : length end.nodes ≡ length next.nodes = same ∙ sym (same_nodes now next (left_in now event) n input made) in
        let own = option_to_list made.entry.turn.act in
        let later = acts_along logs (come_with logs come (Some n)) (turned_from (Some next) more) in
        ap (λ o. now.acts ++ (acts_of o ++ later)) first ∙ sym (append_assoc now.acts own later)
        ∙ ap (λ (w : Run). w.acts ++ later) (sym made.next_is) ∙ rest.from _ _ stays after;
  }

  acts_one : (now next : Run) (event : Event) (more : List Event) (o : Option ℕ) → TurnsOrNot now next (left_in now event) o
      → played next more ≡ Some end → ActsOn next (turned_from (Some next) more)
      → ActsOn now (turned_by event o ++ turned_from (Some next) more)
  acts_one now next event more o either plays rest = elim either [
    | inl none ↦
        subst (λ x. ActsOn now (turned_by event x ++ turned_from (Some next) more)) (sym none.0)
        (subst (λ w. ActsOn w (turned_from (Some next) more)) none.1 rest)
    | inr made ↦
        subst (λ x. ActsOn now (turned_by event x ++ turned_from (Some next) more)) (sym made.1)
        (acts_turn now next event more made.0 made.2 made.3 plays rest)
  ]

  acts_next : (now : Run) (event : Event) (more : List Event) (o : Option Run) → event_on now event ≡ o → fold step_of o more ≡ Some end
      → ((next : Run) → played next more ≡ Some end → ActsOn next (turned_from (Some next) more))
      → ActsOn now (turned_by event (turner now event) ++ turned_from o more)
  acts_next now event more None is plays rest = absurd (none-some end (sym (nowhere more) ∙ plays))
  acts_next now event more (Some next) is plays rest =
      acts_one now next event more (turner now event) (by_event now next event is) plays (rest next plays)

  acts_from : (events : List Event) (now : Run) → played now events ≡ Some end → ActsOn now (turned_from (Some now) events)
  acts_from [] now plays = record {
    from = λ come flight same at. append-nil now.acts ∙ ap (λ (w : Run). w.acts) (same_Some now end plays);
  }
  acts_from (event ∷ more) now plays = acts_next now event more (event_on now event) refl plays (λ next rest. acts_from more next rest)

-- there are as many turns that make acts as acts
as_many : (logs : List (List EntryRecord)) (come : List ℕ) (before : ℕ) (turned : List Turned)
    → length (turns_along logs come before turned) ≡ length (acts_along logs come turned)
as_many logs come before [] = refl
as_many logs come before (turn ∷ more) =
    one (next_entry logs come turn.node) _ _ (as_many logs (come_with logs come (Some turn.node)) (before + 1) more)
  where
    acting : (o : Option Act) (first : List ℕ) (rest : List Act) → length first ≡ length rest
        → length ((if is_some o then before ∷ [] else []) ++ first) ≡ length (option_to_list o ++ rest)
    acting None first rest same = same
    acting (Some act) first rest same = ap suc same

    one : (o : Option EntryRecord) (first : List ℕ) (rest : List Act) → length first ≡ length rest
        → length ((if has_act o then before ∷ [] else []) ++ first) ≡ length (acts_of o ++ rest)
    one None first rest same = same
    one (Some entry) first rest same = acting entry.turn.act first rest same

-- the turn at this place makes the act, where so many turns of each node come before
record IsTurnFrom (logs : List (List EntryRecord)) (come : List ℕ) (turned : List Turned) (place : ℕ) (act : Act) : Type 0 where
  pub turn : Turned
  pub there : slice_get turned place ≡ Some turn
  pub entry : EntryRecord
  pub logged : slice_get (log_of logs turn.node) (come_of come turn.node + turns_before turned place turn.node) ≡ Some entry
  pub makes : entry.turn.act ≡ Some act

-- a turn makes the act, and its place is among these places, of which so many more come before
record HasTurn (logs : List (List EntryRecord)) (come : List ℕ) (before : ℕ) (places : List ℕ) (turned : List Turned) (k : ℕ) (act : Act) : Type 0 where
  pub place : ℕ
  pub found : slice_get places k ≡ Some (before + place)
  pub is : IsTurnFrom logs come turned place act

abbrev one_if : Bool → ℕ
one_if b = cond b 1 0

module _ (logs : List (List EntryRecord)) (come : List ℕ) (turn : Turned) (more : List Turned) (entry : EntryRecord)
    (long : length come ≡ length logs) (next : next_entry logs come turn.node ≡ Some entry) where
  abbrev after : List ℕ
  after = come_after come turn.node (Some entry)

  inside : turn.node < length come
  inside = ⊎_elim (λ below. below)
      (λ past.
      let none : log_of logs turn.node ≡ [] = get_or_past logs turn.node [] (omega (arith, past, long)) in
      absurd (none-some entry (sym (ap (λ log. slice_get log (come_of come turn.node)) none) ∙ next)))
      (cases_lt turn.node (length come))

  split : (place m : ℕ) → turns_before (turn ∷ more) (suc place) m ≡ one_if (turn.node == m) + turns_before more place m
  split place m = sum_by-cons (λ (t : Turned). cond (t.node == m) 1 0) turn (take place more)

  counts : (place m : ℕ) → come_of after m + turns_before more place m ≡ come_of come m + turns_before (turn ∷ more) (suc place) m
  counts place m = ⊎_elim
      (λ is.
      let grown : come_of after turn.node ≡ come_of come turn.node + 1 =
      get_or-set_same come turn.node (come_of come turn.node + 1) 0 inside in
      let here : come_of after m ≡ come_of after turn.node = ap (come_of after) (sym is) in
      let was : come_of come m ≡ come_of come turn.node = ap (come_of come) (sym is) in
      let one : one_if (turn.node == m) ≡ one_if true = ap one_if (eq-eqb turn.node m is) in
      let both = split place m in
      omega (arith, grown, here, was, one, both))
      (λ other.
      let same : come_of after m ≡ come_of come m =
      get_or-set_other come turn.node m (come_of come turn.node + 1) 0 (λ e. other (sym e)) in
      let none : one_if (turn.node == m) ≡ one_if false = ap one_if (ne_eqb turn.node m other) in
      let both = split place m in
      omega (arith, same, none, both))
      (cases_eq turn.node m)

  later : (place : ℕ) (act : Act) → IsTurnFrom logs after more place act → IsTurnFrom logs come (turn ∷ more) (suc place) act
  later place act is = record {
    turn = is.turn;
    there = is.there;
    entry = is.entry;
    logged = ap (slice_get (log_of logs is.turn.node)) (sym (counts place is.turn.node)) ∙ is.logged;
    makes = is.makes;
  }

  now : (act : Act) → entry.turn.act ≡ Some act → IsTurnFrom logs come (turn ∷ more) 0 act
  now act makes =
      let none : come_of come turn.node + 0 ≡ come_of come turn.node = omega arith in
      record {
        turn = turn;
        there = refl;
        entry = entry;
        logged = ap (slice_get (log_of logs turn.node)) none ∙ next;
        makes = makes;
      }

  abbrev Has : (before : ℕ) → (k : ℕ) → Act → Type 0
  Has before = HasTurn logs after (before + 1) (turns_along logs after (before + 1) more) more

  moved : (before k j : ℕ) (places : List ℕ) (act : Act) → slice_get places k ≡ slice_get (turns_along logs after (before + 1) more) j
      → Has before j act → HasTurn logs come before places (turn ∷ more) k act
  moved before k j places act at found =
      let place : before + 1 + found.place ≡ before + suc found.place = omega arith in
      record { place = suc found.place; found = at ∙ found.found ∙ ap Some place; is = later found.place act found.is }

  by_act : (before : ℕ) (o : Option Act) → entry.turn.act ≡ o
      → ((j : ℕ) (act : Act) → slice_get (acts_along logs after more) j ≡ Some act → Has before j act)
      → (k : ℕ) (act : Act) → slice_get (option_to_list o ++ acts_along logs after more) k ≡ Some act
      → HasTurn logs come before ((if is_some o then before ∷ [] else []) ++ turns_along logs after (before + 1) more) (turn ∷ more) k act
  by_act before None makes rest k act there = moved before k k (turns_along logs after (before + 1) more) act refl (rest k act there)
  by_act before (Some first) makes rest zero act there =
      let place : before ≡ before + 0 = omega arith in
      record { place = 0; found = ap Some place; is = now act (makes ∙ there) }
  by_act before (Some first) makes rest (suc k) act there =
      moved before (suc k) k (before ∷ turns_along logs after (before + 1) more) act refl (rest k act there)

  turns_are : (before : ℕ)
      → turns_along logs come before (turn ∷ more) ≡ (if is_some entry.turn.act then before ∷ [] else []) ++ turns_along logs after (before + 1) more
  turns_are before =
      ap (λ o. (if has_act o then before ∷ [] else []) ++ turns_along logs (come_after come turn.node o) (before + 1) more) next

  acts_are : acts_along logs come (turn ∷ more) ≡ option_to_list entry.turn.act ++ acts_along logs after more
  acts_are = ap (λ o. acts_of o ++ acts_along logs (come_after come turn.node o) more) next

  first_or_later : (before : ℕ) → ((j : ℕ) (act : Act) → slice_get (acts_along logs after more) j ≡ Some act → Has before j act)
      → (k : ℕ) (act : Act) → slice_get (acts_along logs come (turn ∷ more)) k ≡ Some act
      → HasTurn logs come before (turns_along logs come before (turn ∷ more)) (turn ∷ more) k act
  first_or_later before rest k act there =
      subst (λ places. HasTurn logs come before places (turn ∷ more) k act) (sym (turns_are before))
      (by_act before entry.turn.act refl rest k act (ap (λ acts. slice_get acts k) (sym acts_are) ∙ there))

turn_at : (logs : List (List EntryRecord)) (turned : List Turned) (come : List ℕ) (before : ℕ) → length come ≡ length logs → Leads logs come turned
    → (k : ℕ) (act : Act) → slice_get (acts_along logs come turned) k ≡ Some act → HasTurn logs come before (turns_along logs come before turned) turned k act
turn_at logs [] come before long leads k act there = absurd (none-some act there)
turn_at logs (turn ∷ more) come before long leads k act there =
    first_or_later logs come turn more leads.0 long leads.1 before
    (λ j act there. turn_at logs more (come_after come turn.node (Some leads.0)) (before + 1)
    (length-set come turn.node (come_of come turn.node + 1) ∙ long) leads.2 j act there)
    k act there

-- from the beginning on
none_came : (count node : ℕ) → come_of (replicate count 0) node ≡ 0
none_came count node = ⊎_elim (λ below. get_or-replicate count node 0 0 below)
    (λ past.
    let none : ℕ = 0 in
    let long : length (replicate count none) ≡ count = length-replicate count none in
    get_or_past (replicate count none) node 0 (omega (arith, past, long)))
    (cases_lt node count)

turns_of : (logs : List (List EntryRecord)) (turned : List Turned) → Leads logs (replicate (length logs) 0) turned
    → AreTurnsOf logs turned (act_turns logs turned) (acts_in_turn logs turned)
turns_of logs turned leads = λ k act there.
    let found = turn_at logs turned (replicate (length logs) 0) 0 (length-replicate (length logs) 0) leads k act there in
    let is = found.is in
    let place : 0 + found.place ≡ found.place = omega arith in
    let none : come_of (replicate (length logs) 0) is.turn.node ≡ 0 = none_came (length logs) is.turn.node in
    let count : turns_before turned found.place is.turn.node ≡ come_of (replicate (length logs) 0) is.turn.node + turns_before turned found.place is.turn.node =
    omega (arith, none) in (
      found.place,
      found.found ∙ ap Some place,
      record {
        turn = is.turn;
        there = is.there;
        entry = is.entry;
        logged = ap (slice_get (log_of logs is.turn.node)) count ∙ is.logged;
        makes = is.makes;
      },
    )

module _ (program : Program) (nodes : ℕ) (options : OptionsRecord) (events : List Event) (run : Run)
    (runs : run_of program nodes options events ≡ Some run) where
  abbrev pub logs : List (List EntryRecord)
  logs = map (λ (l : Logged). l.log) run.nodes

  pub acts_turned : acts_in_turn logs (turned_of program nodes options events) ≡ run.acts
  acts_turned =
      let ends = (run-whole program nodes options events run runs).count in
      let stands = (run-whole program nodes options [] (fresh_world program nodes options) refl).count in
      (acts_from run logs refl events (fresh_world program nodes options) runs).from (replicate (length logs) 0) [] (ends ∙ sym stands)
      (at_start program nodes options events logs (run, runs, refl))

  pub turns_of_acts : AreTurnsOf logs (turned_of program nodes options events) (act_turns logs (turned_of program nodes options events)) run.acts
  turns_of_acts =
      subst (AreTurnsOf logs (turned_of program nodes options events) (act_turns logs (turned_of program nodes options events))) acts_turned
      (turns_of logs (turned_of program nodes options events) (leads_through program nodes options events logs (run, runs, refl)))

  pub turns_acting : length (act_turns logs (turned_of program nodes options events)) ≡ length run.acts
  turns_acting = as_many logs (replicate (length logs) 0) 0 (turned_of program nodes options events) ∙ ap length acts_turned

-- ---- a run of which not all is kept

timed_none : (acts : List Act) → timed acts [] ≡ []
timed_none [] = refl
timed_none (act ∷ acts) = refl

module _ (keep : Keep) (less : (keep ≡ Newest) ⊎ (keep ≡ Turns)) where
  none_kept : {A : Type 0} (items : List A) → when_all keep items ≡ []
  none_kept items = ⊎_elim (λ e. ap (λ k. when_all k items) e) (λ e. ap (λ k. when_all k items) e) less

  -- nothing is kept of where its acts come from
  pub no_origins : (program : Program) (nodes : ℕ) (logs : List (List EntryRecord)) (turned : List Turned) (acts : List Act) (origins : Origins)
      → origins.turns.items ≡ [] → origins.statements.items ≡ [] → IsTimelineOf [] origins.times
      → AreOriginsOf keep program nodes logs turned acts origins
  no_origins program nodes logs turned acts origins turns statements none = record {
    turns = turns ∙ sym (none_kept (act_turns logs turned));
    statements = statements ∙ sym (none_kept (act_statements program nodes acts));
    times = subst (λ a. KeepsTime nodes a (times_in origins.times)) (sym (none_kept acts))
        (subst (KeepsTime nodes []) (sym none.times) (keeps-none nodes));
    kept = none.kept ∙ ap (brought_behind []) (sym (ap (timed acts) none.times ∙ timed_none acts));
  }

-- ---- one turn more

drop_at : {A : Type 0} (xs : List A) (k : ℕ) (x : A) → slice_get xs k ≡ Some x → drop k xs ≡ x ∷ drop (k + 1) xs
drop_at [] k x there = cc
drop_at (y ∷ xs) zero x there = ap (λ h. h ∷ xs) (same_Some y x there)
drop_at (y ∷ xs) (suc k) x there =
    let next : suc k + 1 ≡ suc (k + 1) = omega arith in
    drop_at xs k x there ∙ ap (λ n. x ∷ drop n (y ∷ xs)) (sym next)

pub turns_more : (logs : List (List EntryRecord)) (come next : List ℕ) (k node : ℕ) (turn : Turned) (all : List Turned) (before now so_far : List ℕ)
    (acts : Bool) → slice_get all k ≡ Some turn → node ≡ turn.node → next ≡ come_with logs come (Some node)
    → acts ≡ has_act (next_entry logs come node) → now ≡ before ++ (if acts then k ∷ [] else [])
    → before ++ turns_along logs come k (drop k all) ≡ so_far → now ++ turns_along logs next (k + 1) (drop (k + 1) all) ≡ so_far
turns_more logs come next k node turn all before now so_far acts there own goes is grown so =
    let rest = λ (come : List ℕ). turns_along logs come (k + 1) (drop (k + 1) all) in
    let later = rest (come_with logs come (Some turn.node)) in
    let own_later = ap (λ n. rest (come_with logs come (Some n))) own in
    ap (λ c. now ++ rest c) goes ∙ ap (λ l. now ++ l) own_later ∙ ap (λ l. l ++ later) grown
    ∙ append_assoc before (if acts then k ∷ [] else []) later
    ∙ ap (λ b. before ++ ((if b then k ∷ [] else []) ++ later)) (is ∙ ap (λ n. has_act (next_entry logs come n)) own)
    ∙ ap (λ l. before ++ turns_along logs come k l) (sym (drop_at all k turn there)) ∙ so

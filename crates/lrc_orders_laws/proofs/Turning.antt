-- Threads that turn for ever: what they do keeps them turning, and can be left out of a run.
use Rattle.std.proofs.Common.{◌≡◌, ℕ, suc, ◌≤◌, List, [], ◌∷◌, inl, inr, length, refl, sym, ap, ◌∙◌, subst, arith}
use Rattle.std.specs.Prelude.{Option, Some, None, IsSome, true, false, ◌||◌, option_and_then, slice_set}
use Rattle.std.proofs.lemmas.Bool.{cases_eq}
use Rattle.std.proofs.lemmas.List.{get_or-set_other, set_comm, set-set, set-get_or}
use Rattle.std.proofs.lemmas.Option.{some_pair_parts}
use Rattle.lrc_trace.specs.declared.act.Act.{Act}
use Rattle.lrc_trace.specs.declared.act.Deed.{Deed}
use Rattle.lrc_trace.specs.declared.act.Deed.TheVariants.{Read}
use Rattle.lrc_trace.specs.Run.{act_of}
use Rattle.lrc_exec.specs.Meaning.{Thread, Next, quiet, prints, reads, writes, acquires, releases, arrives, departs, traps, ends, next_of}
use Rattle.lrc_exec.specs.Plain.{Plain, thread_in, plain_step, plain_from, with_thread, deed_done}
use Rattle.lrc_exec.specs.Follows.{Goes, quietly, printing, reading, writing, acquiring, releasing, arriving, departing, trapping, ending}
use Rattle.lrc_consistency_laws.proofs.Runs.{CanDo}
use Rattle.lrc_consistency_laws.proofs.Plainly.{stepwise, one_more}
use Rattle.lrc_orders.proofs.Effects.{after_of}
use Rattle.lrc_orders.specs.Meeting.{access_of, next_access_in, next_access, Meet}
use Rattle.lrc_orders.specs.Stuck.{IsAtRest}
use Rattle.lrc_orders.specs.Traps.{has_trap, is_trap}
use Rattle.lrc_orders_laws.specs.Free.{after_quiet, after_quiets, Turns, TurnsIn, TurnsAt}
use Rattle.lrc_orders_laws.proofs.Parts.{Stepped, stepped, can_step}
use Rattle.lrc_orders_laws.proofs.Front.{either_on, meet_still}

pub no_some : {X : Type 0} → IsSome {T = Thread} None → X
no_some e = cc

-- what a thread that turns does next
pub record TurnsOn (thread : Thread) : Type 0 where
  pub after : Thread
  pub is : after_quiet (next_of thread) ≡ Some after
  pub on : Turns after

turns_by : (thread : Thread) (o : Option Thread) → after_quiet (next_of thread) ≡ o
    → ((count : ℕ) → IsSome (option_and_then (λ after. after_quiets count after) o)) → TurnsOn thread
turns_by thread None is on = no_some (on 0)
turns_by thread (Some after) is on = record { after = after; is = is; on = record { on = on } }

pub turns_on : (thread : Thread) → Turns thread → TurnsOn thread
turns_on thread turns = turns_by thread (after_quiet (next_of thread)) refl (λ count. turns.on (suc count))

-- a quiet act or a print changes its node's thread alone
pub record OnlyTurns (machine : Plain) (node : ℕ) (deed : Deed) (new : Option Thread) (after : Thread) : Type 0 where
  pub new_is : new ≡ Some after
  pub effect : after_of machine node deed new ≡ with_thread machine node new
  pub no_trap : is_trap deed ≡ false

only_turns : (machine : Plain) (node : ℕ) {next : Next} {deed : Deed} {new : Option Thread} → Goes next deed new → (after : Thread)
    → after_quiet next ≡ Some after → OnlyTurns machine node deed new after
only_turns machine node quietly after e = record { new_is = e; effect = refl; no_trap = refl }
only_turns machine node printing after e = record { new_is = e; effect = refl; no_trap = refl }
only_turns machine node reading after e = cc
only_turns machine node writing after e = cc
only_turns machine node acquiring after e = cc
only_turns machine node releasing after e = cc
only_turns machine node arriving after e = cc
only_turns machine node departing after e = cc
only_turns machine node trapping after e = cc
only_turns machine node ending after e = cc

-- the step of a node that turns
pub record TurnStep (machine : Plain) (node : ℕ) (deed : Deed) (after : Plain) : Type 0 where
  pub thread : Thread
  pub leads : after ≡ with_thread machine node (Some thread)
  pub own : thread_in after node ≡ Some thread
  pub turns : Turns thread
  pub no_trap : is_trap deed ≡ false

pub turn_step : (machine : Plain) (node : ℕ) (deed : Deed) (after : Plain) → Stepped machine node deed after → TurnsAt machine node
    → TurnStep machine node deed after
turn_step machine node deed after s turns =
    let t = turns_on s.thread (subst TurnsIn s.there turns) in
    let only = only_turns machine node s.took.goes t.after t.is in
    record {
      thread = t.after;
      leads = s.took.is ∙ only.effect ∙ ap (with_thread machine node) only.new_is;
      own = s.own ∙ only.new_is;
      turns = t.on;
      no_trap = only.no_trap;
    }

pub turns_after : (machine : Plain) (x node : ℕ) (deed : Deed) (after : Plain) → plain_step machine x ≡ Some (deed, after) → TurnsAt machine node
    → TurnsAt after node
turns_after machine x node deed after e turns =
    let s = stepped machine x deed after e in
    elim (cases_eq node x) [
      | inl same ↦
          let t = turn_step machine x deed after s (subst (TurnsAt machine) same turns) in
          let there : TurnsAt after x = subst TurnsIn (sym t.own) t.turns in
          subst (TurnsAt after) (sym same) there
      | inr apart ↦ subst TurnsIn (sym (s.others node apart)) turns
    ]

pub turns_still : (order : List ℕ) (machine final : Plain) (acts : List Act) (node : ℕ) → plain_from machine order ≡ Some (acts, final)
    → TurnsAt machine node → TurnsAt final node
turns_still [] machine final acts node e turns = subst (λ m. TurnsAt m node) ((some_pair_parts [] acts machine final e).1) turns
turns_still (x ∷ order) machine final acts node e turns =
    let s = stepwise machine x order acts final e in
    turns_still order s.after final s.more node s.rest (turns_after machine x node s.deed s.after s.first turns)

-- it can always make an act, and that is no access
can_turn : (machine : Plain) (node : ℕ) (next : Next) (after : Thread) → after_quiet next ≡ Some after → deed_done machine node next ≡ None → ⊥
can_turn machine node (quiet t) after e none = cc
can_turn machine node (prints v t) after e none = cc
can_turn machine node (reads w t) after e none = cc
can_turn machine node (writes w v t) after e none = cc
can_turn machine node (acquires l t) after e none = cc
can_turn machine node (releases l t) after e none = cc
can_turn machine node (arrives t) after e none = cc
can_turn machine node (departs t) after e none = cc
can_turn machine node (traps c) after e none = cc
can_turn machine node ends after e none = cc

turning_access : (next : Next) (after : Thread) → after_quiet next ≡ Some after → access_of next ≡ None
turning_access (quiet t) after e = refl
turning_access (prints v t) after e = refl
turning_access (reads w t) after e = cc
turning_access (writes w v t) after e = cc
turning_access (acquires l t) after e = refl
turning_access (releases l t) after e = refl
turning_access (arrives t) after e = refl
turning_access (departs t) after e = refl
turning_access (traps c) after e = refl
turning_access ends after e = refl

-- the thread of a node that turns
turner : (o : Option Thread) → TurnsIn o → (thread : Thread) × (o ≡ Some thread) × Turns thread
turner None turns = absurd turns
turner (Some thread) turns = (thread, refl, turns)

pub at_rest_none_turns : (machine : Plain) (node : ℕ) → IsAtRest machine → TurnsAt machine node → ⊥
at_rest_none_turns machine node still turns =
    let t = turner (thread_in machine node) turns in
    let on = turns_on t.0 t.2 in
    can_turn machine node (next_of t.0) on.after on.is
    (sym (ap (option_and_then (λ x. deed_done machine node (next_of x))) t.1) ∙ still node)

pub turning_meets_none : (machine : Plain) (node : ℕ) → TurnsAt machine node → next_access machine node ≡ None
turning_meets_none machine node turns =
    let t = turner (thread_in machine node) turns in
    let on = turns_on t.0 t.2 in
    ap next_access_in t.1 ∙ turning_access (next_of t.0) on.after on.is

-- ---- a run without what a turning node does

-- a deed with the machine after it, and no act
abbrev done : Deed → Plain → Option (Deed × Plain)
done deed machine = Some (deed, machine)

abbrev nothing : Plain → Option (List Act × Plain)
nothing machine = Some ([], machine)

-- a step of another node, with this node's thread another
aside : (machine after : Plain) (x node : ℕ) (thread : Thread) (deed : Deed) → (x ≡ node → ⊥) → plain_step machine x ≡ Some (deed, after)
    → plain_step (with_thread machine node (Some thread)) x ≡ Some (deed, with_thread after node (Some thread))
aside machine after x node thread deed apart e =
    let s = stepped machine x deed after e in
    let beside = with_thread machine node (Some thread) in
    let there : thread_in beside x ≡ Some s.thread = get_or-set_other machine.threads node x (Some thread) None apart ∙ s.there in
    let can : CanDo beside x deed = alike deed s.took.can in
    let new = s.took.goes_on_as in
    can_step beside x s.thread deed there refl s.took.goes can
    ∙ ap (λ (ts : List (Option Thread)). done deed (record (after_of machine x deed new) { threads = ts }))
    (set_comm machine.threads node x (Some thread) new (λ e'. apart (sym e')))
    ∙ ap (λ (m : Plain). done deed (with_thread m node (Some thread))) (sym s.took.is)
  where
    alike : (d : Deed) → CanDo machine x d → CanDo (with_thread machine node (Some thread)) x d
    alike (Read w v) can = can
    alike _ can = can

-- the run with the node's thread another that turns too
pub record Without (machine : Plain) (node : ℕ) (thread : Thread) (order : List ℕ) (acts : List Act) (final : Plain) : Type 0 where
  pub new_order : List ℕ
  pub new_acts : List Act
  pub run : plain_from (with_thread machine node (Some thread)) new_order ≡ Some (new_acts, with_thread final node (Some thread))
  pub short : length new_order ≤ length order
  pub traps : has_trap acts ≡ true → has_trap new_acts ≡ true

pub without : (order : List ℕ) (machine final : Plain) (acts : List Act) (node : ℕ) (thread : Thread) → plain_from machine order ≡ Some (acts, final)
    → TurnsAt machine node → Without machine node thread order acts final
without [] machine final acts node thread e turns =
    let same = some_pair_parts [] acts machine final e in
    record { new_order = []; new_acts = []; run = ap (λ (m : Plain). nothing (with_thread m node (Some thread))) same.1; short = omega arith; traps = λ e. ap has_trap same.0 ∙ e }
without (x ∷ order) machine final acts node thread e turns =
    let s = stepwise machine x order acts final e in
    let more = without order s.after final s.more node thread s.rest (turns_after machine x node s.deed s.after s.first turns) in
    elim (cases_eq x node) [
      | inl same ↦
          let st = stepped machine x s.deed s.after s.first in
          let t = turn_step machine x s.deed s.after st (subst (TurnsAt machine) (sym same) turns) in
          let leads : s.after ≡ with_thread machine node (Some t.thread) = t.leads ∙ ap (λ k. with_thread machine k (Some t.thread)) same in
          let back : with_thread s.after node (Some thread) ≡ with_thread machine node (Some thread) =
          ap (λ m. with_thread m node (Some thread)) leads
          ∙ ap (λ ts. record machine { threads = ts }) (set-set machine.threads node (Some t.thread) (Some thread)) in
          record {
            new_order = more.new_order;
            new_acts = more.new_acts;
            run = ap (λ m. plain_from m more.new_order) (sym back) ∙ more.run;
            short = let le = more.short in omega arith;
            traps = λ e. more.traps (ap (λ b. b || has_trap s.more) (sym t.no_trap) ∙ ap has_trap (sym s.acts_are) ∙ e);
          }
      | inr apart ↦ record {
        new_order = x ∷ more.new_order;
        new_acts = act_of x s.deed ∷ more.new_acts;
        run = one_more (with_thread machine node (Some thread)) (with_thread s.after node (Some thread)) (with_thread final node (Some thread)) x s.deed
            more.new_order more.new_acts (aside machine s.after x node thread s.deed apart s.first) more.run;
        short = let le = more.short in omega arith;
        traps = λ e. either_on (is_trap s.deed) more.traps (ap has_trap (sym s.acts_are) ∙ e);
      }
    ]

-- a step of a node that turns left out
pub record Dropped (machine : Plain) (node : ℕ) (deed : Deed) (order : List ℕ) (acts : List Act) (final : Plain) : Type 0 where
  pub new_order : List ℕ
  pub new_acts : List Act
  pub new_final : Plain
  pub run : plain_from machine new_order ≡ Some (new_acts, new_final)
  pub short : length new_order ≤ length order
  pub meets : (p q : ℕ) → Meet final p q → Meet new_final p q
  pub traps : has_trap (act_of node deed ∷ acts) ≡ true → has_trap new_acts ≡ true

pub dropped : (machine after final : Plain) (node : ℕ) (deed : Deed) (order : List ℕ) (acts : List Act) → plain_step machine node ≡ Some (deed, after)
    → TurnsAt machine node → plain_from after order ≡ Some (acts, final) → Dropped machine node deed order acts final
dropped machine after final node deed order acts first turns rest =
    let s = stepped machine node deed after first in
    let t = turn_step machine node deed after s turns in
    let on = turns_after machine node node deed after first turns in
    let w = without order after final acts node s.thread rest on in
    let as_it_was : with_thread after node (Some s.thread) ≡ machine =
    ap (λ m. with_thread m node (Some s.thread)) t.leads
    ∙ ap (λ ts. record machine { threads = ts }) (set-set machine.threads node (Some t.thread) (Some s.thread)
    ∙ ap (slice_set machine.threads node) (sym s.there) ∙ set-get_or machine.threads node None) in
    let last : TurnsAt final node = turns_still order after final acts node rest on in
    record {
      new_order = w.new_order;
      new_acts = w.new_acts;
      new_final = with_thread final node (Some s.thread);
      run = ap (λ m. plain_from m w.new_order) (sym as_it_was) ∙ w.run;
      short = w.short;
      meets = λ p q meet. meet_still final (with_thread final node (Some s.thread)) node p q (turning_meets_none final node last)
          (λ other apart. get_or-set_other final.threads node other (Some s.thread) None apart) meet;
      traps = λ e. w.traps (ap (λ b. b || has_trap acts) (sym t.no_trap) ∙ e);
    }

-- What a node can do is the deed of what its thread asks for, and what it leads to.
use Rattle.std.proofs.Common.{◌≡◌, ◌∙◌, ℕ, ◌+◌, Bool, true, false, Option, Some, None, refl, sym, ap, subst}
use Rattle.std.specs.Prelude.{option_map, option_and_then, slice_index, slice_set, if◌then◌else◌, IsSome, IsSomeAnd}
use Rattle.lrc_trace.specs.declared.act.Deed.{Deed}
use Rattle.lrc_trace.specs.declared.act.Deed.TheVariants as deeds
use Rattle.lrc_exec.specs.declared.machine.Ask.{Ask}
use Rattle.lrc_exec.specs.declared.machine.Ask.TheVariants as asks
use Rattle.lrc_exec.specs.Ask.{ask_of, deed_asked, done, resumed, thread_departed, IsResumable, TakesAnswer}
use Rattle.lrc_exec.specs.Meaning.{Thread, Next, quiet, prints, reads, writes, acquires, releases, arrives, departs, traps, ends, first_act, next_of}
use Rattle.lrc_exec.specs.Plain.{Plain, thread_in, with_thread, nobody_holds, all_arrived, deed_done, plain_step}
use Rattle.lrc_exec.specs.States.{deed_now, IsThere}
use Rattle.lrc_exec.proofs.NextLaws.{IsFine, next_of-fine}

-- what a node with this thread can do
abbrev pub deed_of : Plain → ℕ → Option Thread → Option Deed
deed_of machine node o = option_map (λ step. step.0) (option_and_then (λ thread. deed_done machine node (next_of thread)) o)

pub if_first : (test : Bool) (deed : Deed) (after : Plain)
    → option_map (λ (step : Deed × Plain). step.0) (if test then Some (deed, after) else None) ≡ (if test then Some deed else None)
if_first true deed after = refl
if_first false deed after = refl

pub deed_is : (machine : Plain) (node : ℕ) (thread : Thread) (next : Next) → IsFine thread next → thread.arrived ≡ false
    → option_map (λ step. step.0) (deed_done machine node next) ≡ deed_now machine (ask_of next)
deed_is machine node thread (quiet after) fine stays = refl
deed_is machine node thread (prints value after) fine stays = refl
deed_is machine node thread (reads word after) fine stays = refl
deed_is machine node thread (writes word value after) fine stays = refl
deed_is machine node thread (acquires lock after) fine stays = if_first (nobody_holds machine lock) (deeds.Acquire lock) _
deed_is machine node thread (releases lock after) fine stays = refl
deed_is machine node thread (arrives after) fine stays = refl
deed_is machine node thread (departs after) fine stays = cc
deed_is machine node thread (traps cause) fine stays = refl
deed_is machine node thread ends fine stays = refl

-- nothing but a word of the memory and a lock that another may hold depends on the machine
pub other_deed : (machine : Plain) (ask : Ask) → ((word : ℕ) → ask ≡ asks.Read word → ⊥)
    → ((lock : ℕ) → ask ≡ asks.Acquire lock → nobody_holds machine lock ≡ true) → Some (deed_asked 0 ask) ≡ deed_now machine ask
other_deed machine asks.Quiet not_read free = refl
other_deed machine (asks.Print value) not_read free = refl
other_deed machine (asks.Read word) not_read free = absurd (not_read word refl)
other_deed machine (asks.Write word value) not_read free = refl
other_deed machine (asks.Acquire lock) not_read free = ap (λ b. if b then Some (deeds.Acquire lock) else None) (sym (free lock refl))
other_deed machine (asks.Release lock) not_read free = refl
other_deed machine asks.Barrier not_read free = refl
other_deed machine (asks.Trap cause) not_read free = refl
other_deed machine asks.End not_read free = refl

pub same_lock : (lock other : ℕ) → asks.Acquire lock ≡ asks.Acquire other → lock ≡ other
same_lock lock other e = cc

-- what a deed leads to
abbrev pub after_deed : Plain → ℕ → Deed → Plain
after_deed machine node deeds.Quiet = with_thread machine node (option_map (resumed 0 false) (thread_in machine node))
after_deed machine node (deeds.Print printed) = with_thread machine node (option_map (resumed 0 false) (thread_in machine node))
after_deed machine node (deeds.Read word value) = with_thread machine node (option_map (resumed value false) (thread_in machine node))
after_deed machine node (deeds.Write word value) =
    record (with_thread machine node (option_map (resumed 0 false) (thread_in machine node))) { memory = slice_set machine.memory word value }
after_deed machine node (deeds.Acquire lock) =
    record (with_thread machine node (option_map (resumed 0 false) (thread_in machine node))) { holders = slice_set machine.holders lock (Some node) }
after_deed machine node (deeds.Release lock) =
    record (with_thread machine node (option_map (resumed 0 false) (thread_in machine node))) { holders = slice_set machine.holders lock None }
after_deed machine node deeds.Arrive =
    record (with_thread machine node (option_map (resumed 0 true) (thread_in machine node))) {
      arrivals = slice_set machine.arrivals node (slice_index machine.arrivals node + 1);
    }
after_deed machine node deeds.Depart = with_thread machine node (option_map thread_departed (thread_in machine node))
after_deed machine node (deeds.Trap cause) = with_thread machine node None
after_deed machine node deeds.End = with_thread machine node None

-- the deeds behind which a thread goes on with an answer
abbrev pub Resumes : Deed → Type 0
Resumes deeds.Depart = ⊥
Resumes (deeds.Trap cause) = ⊥
Resumes deeds.End = ⊥
Resumes _ = Unit {0}

-- a step where a test is met
abbrev step_if : Bool → Deed → Plain → Option (Deed × Plain)
step_if test deed after = if test then Some (deed, after) else None

made_if : (test : Bool) (a d : Deed) (m : Plain) (after : Deed → Plain) → m ≡ after a → option_map (λ step. step.0) (step_if test a m) ≡ Some d
    → step_if test a m ≡ Some (d, after d)
made_if true a d m after same e = let is : a ≡ d = cc in ap (λ x. Some (a, x)) same ∙ ap (λ x. Some (x, after x)) is
made_if false a d m after same e = cc

first_is : (test : Bool) (a d : Deed) (m : Plain) → option_map (λ step. step.0) (step_if test a m) ≡ Some d → a ≡ d
first_is true a d m e = cc
first_is false a d m e = cc

goes_on : (value : ℕ) (thread : Thread) (next : Next) (o : Option Thread) → next_of thread ≡ next → (done value thread next).arrived ≡ false → o ≡ Some thread
    → Some (done value thread next) ≡ option_map (resumed value false) o
goes_on value thread next o e waits there =
    ap (λ b. Some (record (done value thread next) { arrived = b })) waits
    ∙ ap (λ n. Some (record (done value thread n) { arrived = false })) (sym e) ∙ ap (option_map (resumed value false)) (sym there)

waits_on : (thread after : Thread) (o : Option Thread) → next_of thread ≡ arrives after → after.arrived ≡ true → o ≡ Some thread
    → Some after ≡ option_map (resumed 0 true) o
waits_on thread after o e waits there =
    ap (λ b. Some (record after { arrived = b })) waits
    ∙ ap (λ n. Some (record (done 0 thread n) { arrived = true })) (sym e) ∙ ap (option_map (resumed 0 true)) (sym there)

leaves_on : (thread after : Thread) (o : Option Thread) → next_of thread ≡ departs after → thread.arrived ≡ true → o ≡ Some thread
    → Some after ≡ option_map thread_departed o
leaves_on thread after o e waits there =
    let is : departs after ≡ departs (record thread { arrived = false }) =
    sym e ∙ ap (λ b. if b then departs (record thread { arrived = false }) else first_act thread thread.rest) waits in
    let same : after ≡ record thread { arrived = false } = cc in
    ap Some same ∙ ap (option_map thread_departed) (sym there)

made_by : (machine : Plain) (node : ℕ) (thread : Thread) (next : Next) → IsFine thread next → next_of thread ≡ next
    → thread_in machine node ≡ Some thread → (d : Deed) → option_map (λ step. step.0) (deed_done machine node next) ≡ Some d
    → deed_done machine node next ≡ Some (d, after_deed machine node d)
made_by machine node thread (quiet after) fine e there d can =
    made_if true deeds.Quiet d _ (after_deed machine node) (ap (with_thread machine node) (goes_on 0 thread (quiet after) _ e fine.1.arrived there)) can
made_by machine node thread (prints value after) fine e there d can =
    made_if true (deeds.Print value) d _ (after_deed machine node)
    (ap (with_thread machine node) (goes_on 0 thread (prints value after) _ e fine.1.arrived there)) can
made_by machine node thread (reads word after) fine e there d can =
    let value = slice_index machine.memory word in
    made_if true (deeds.Read word value) d _ (after_deed machine node)
    (ap (with_thread machine node) (goes_on value thread (reads word after) _ e (fine.1 value).1.arrived there)) can
made_by machine node thread (writes word value after) fine e there d can =
    made_if true (deeds.Write word value) d _ (after_deed machine node)
    (ap (λ o. record (with_thread machine node o) { memory = slice_set machine.memory word value })
    (goes_on 0 thread (writes word value after) _ e fine.1.1.arrived there)) can
made_by machine node thread (acquires lock after) fine e there d can =
    made_if (nobody_holds machine lock) (deeds.Acquire lock) d _ (after_deed machine node)
    (ap (λ o. record (with_thread machine node o) { holders = slice_set machine.holders lock (Some node) })
    (goes_on 0 thread (acquires lock after) _ e fine.3.arrived there)) can
made_by machine node thread (releases lock after) fine e there d can =
    made_if true (deeds.Release lock) d _ (after_deed machine node)
    (ap (λ o. record (with_thread machine node o) { holders = slice_set machine.holders lock None })
    (goes_on 0 thread (releases lock after) _ e fine.3.arrived there)) can
made_by machine node thread (arrives after) fine e there d can =
    made_if true deeds.Arrive d _ (after_deed machine node)
    (ap (λ o. record (with_thread machine node o) { arrivals = slice_set machine.arrivals node (slice_index machine.arrivals node + 1) })
    (waits_on thread after _ e fine.1.arrived there)) can
made_by machine node thread (departs after) fine e there d can =
    made_if (all_arrived machine node) deeds.Depart d _ (after_deed machine node) (ap (with_thread machine node) (leaves_on thread after _ e fine.0 there)) can
made_by machine node thread (traps cause) fine e there d can = made_if true (deeds.Trap cause) d _ (after_deed machine node) refl can
made_by machine node thread ends fine e there d can = made_if true deeds.End d _ (after_deed machine node) refl can

resumable_by : (machine : Plain) (node : ℕ) (thread : Thread) (next : Next) → IsFine thread next → (d : Deed)
    → option_map (λ step. step.0) (deed_done machine node next) ≡ Some d → Resumes d → (thread.arrived ≡ false) × TakesAnswer (ask_of next)
resumable_by machine node thread (quiet after) fine d can goes = (fine.0, tt)
resumable_by machine node thread (prints value after) fine d can goes = (fine.0, tt)
resumable_by machine node thread (reads word after) fine d can goes = ((fine.1 0).0, tt)
resumable_by machine node thread (writes word value after) fine d can goes = (fine.1.0, tt)
resumable_by machine node thread (acquires lock after) fine d can goes = (fine.2, tt)
resumable_by machine node thread (releases lock after) fine d can goes = (fine.2, tt)
resumable_by machine node thread (arrives after) fine d can goes = (fine.0, tt)
resumable_by machine node thread (departs after) fine d can goes =
    absurd (subst Resumes (sym (first_is (all_arrived machine node) deeds.Depart d _ can)) goes)
resumable_by machine node thread (traps cause) fine d can goes =
    absurd (subst Resumes (sym (first_is true (deeds.Trap cause) d (with_thread machine node None) can)) goes)
resumable_by machine node thread ends fine d can goes = absurd (subst Resumes (sym (first_is true deeds.End d (with_thread machine node None) can)) goes)

-- a node that can do a deed has a thread, and is led where the deed says
pub record Makes (machine : Plain) (node : ℕ) (d : Deed) : Type 0 where
  pub thread : Thread
  pub there : thread_in machine node ≡ Some thread
  pub made : plain_step machine node ≡ Some (d, after_deed machine node d)
  pub resumable : Resumes d → IsResumable thread

makes_at : (machine : Plain) (node : ℕ) (o : Option Thread) → thread_in machine node ≡ o → (d : Deed)
    → option_map (λ step. step.0) (option_and_then (λ thread. deed_done machine node (next_of thread)) o) ≡ Some d → Makes machine node d
makes_at machine node None there d can = cc
makes_at machine node (Some thread) there d can = record {
  thread = thread;
  there = there;
  made = ap (option_and_then (λ t. deed_done machine node (next_of t))) there
      ∙ made_by machine node thread (next_of thread) (next_of-fine thread) refl there d can;
  resumable = resumable_by machine node thread (next_of thread) (next_of-fine thread) d can;
}

module _ (machine : Plain) (node : ℕ) (d : Deed) (can : option_map (λ step. step.0) (plain_step machine node) ≡ Some d) where
  pub makes : Makes machine node d
  makes = makes_at machine node (thread_in machine node) refl d can

  pub has_thread : IsSome (thread_in machine node)
  has_thread = subst IsSome (sym makes.there) refl

  pub resumes : (e : Deed) → d ≡ e → Resumes e → IsSomeAnd (thread_in machine node) IsResumable
  resumes e is goes = subst (λ o. IsSomeAnd o IsResumable) (sym makes.there) (makes.resumable (subst Resumes (sym is) goes))

  pub made_as : (e : Deed) → d ≡ e → (new : Plain) → new ≡ after_deed machine node e → plain_step machine node ≡ Some (d, new)
  made_as e is new leads = makes.made ∙ ap (λ m. Some (d, m)) (ap (after_deed machine node) is ∙ sym leads)

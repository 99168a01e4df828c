-- What every next act of a thread keeps.
use Rattle.std.proofs.Common.{◌≡◌, ℕ, ◌<◌, Bool, true, false, List, [], ◌∷◌, Option, Some, None, refl, ◌∙◌}
use Rattle.std.specs.Prelude.{nat_lt, if◌then◌else◌, slice_set}
use Rattle.std.proofs.lemmas.Bool.{ltb-true}
use Rattle.lrc_program.specs.declared.Statement.{Statement}
use Rattle.lrc_program.specs.declared.Statement.TheVariants.{Assign, Read, Write, Acquire, Release, Barrier, Print, If', While'}
use Rattle.lrc_trace.specs.declared.act.Cause.{Cause}
use Rattle.lrc_trace.specs.declared.act.Cause.TheVariants.{WordOutOfRange, LockOutOfRange, LockHeld, LockNotHeld}
use Rattle.lrc_exec.specs.Meaning.{Thread, Next, quiet, prints, reads, writes, acquires, releases, arrives, departs, traps}
use Rattle.lrc_exec.specs.Meaning.{ends, or_trap, value_in, if_below, holds, next_of_statement, first_act, next_of}

-- the thread after has the same setting, holds these locks, and has arrived or not
pub record Leads (before after : Thread) (locks : List Bool) (waits : Bool) : Type 0 where
  pub setting : after.setting ≡ before.setting
  pub held : after.held ≡ locks
  pub arrived : after.arrived ≡ waits

-- neither thread is at a barrier, and the setting and the locks stay
abbrev pub Stays : Thread → Thread → Type 0
Stays thread after = (thread.arrived ≡ false) × Leads thread after thread.held false

-- words and locks are in range, a lock that is got is not held and one given back is, a thread waits at a barrier from
-- its arrive to its depart alone, and it holds what it held but for the lock that it gets or gives back
abbrev pub IsFine : Thread → Next → Type 0
IsFine thread (quiet after) = Stays thread after
IsFine thread (prints value after) = Stays thread after
IsFine thread (reads word after) = (word < thread.setting.words) × ((value : ℕ) → Stays thread (after value))
IsFine thread (writes word value after) = (word < thread.setting.words) × Stays thread after
IsFine thread (acquires lock after) =
    (lock < thread.setting.locks) × (holds thread lock ≡ false) × (thread.arrived ≡ false)
    × Leads thread after (slice_set thread.held lock true) false
IsFine thread (releases lock after) =
    (lock < thread.setting.locks) × (holds thread lock ≡ true) × (thread.arrived ≡ false)
    × Leads thread after (slice_set thread.held lock false) false
IsFine thread (arrives after) = (thread.arrived ≡ false) × Leads thread after thread.held true
IsFine thread (departs after) = (thread.arrived ≡ true) × Leads thread after thread.held false
IsFine thread (traps cause) = thread.arrived ≡ false
IsFine thread ends = thread.arrived ≡ false

module _ (thread : Thread) (stays : thread.arrived ≡ false) where
  or_trap_fine : (o : Option ℕ) (go : ℕ → Next) → ((v : ℕ) → IsFine thread (go v)) → IsFine thread (or_trap o go)
  or_trap_fine None go fine = stays
  or_trap_fine (Some v) go fine = fine v

  then_fine : (test : Bool) (next : Next) (cause : Cause) → (test ≡ true → IsFine thread next) → IsFine thread (if test then next else traps cause)
  then_fine true next cause fine = fine refl
  then_fine false next cause fine = stays

  else_fine : (test : Bool) (next : Next) (cause : Cause) → (test ≡ false → IsFine thread next) → IsFine thread (if test then traps cause else next)
  else_fine true next cause fine = stays
  else_fine false next cause fine = fine refl

  below_fine : (n limit : ℕ) (cause : Cause) (next : Next) → (n < limit → IsFine thread next) → IsFine thread (if_below n limit cause next)
  below_fine n limit cause next fine = then_fine (nat_lt n limit) next cause (λ e. fine (ltb-true n limit e))

  leads : (after : Thread) (locks : List Bool) → after.setting ≡ thread.setting → after.held ≡ locks → after.arrived ≡ thread.arrived
      → Leads thread after locks false
  leads after locks setting held arrived = record { setting = setting; held = held; arrived = arrived ∙ stays }

  keeps : (after : Thread) → after.setting ≡ thread.setting → after.held ≡ thread.held → after.arrived ≡ thread.arrived → Stays thread after
  keeps after setting held arrived = (stays, leads after thread.held setting held arrived)

  act_fine : (s : Statement) (rest : List Statement) → IsFine thread (next_of_statement thread s rest)
  act_fine (Assign name e) rest = or_trap_fine (value_in thread e) _ (λ v. keeps _ refl refl refl)
  act_fine (Read name e) rest =
      or_trap_fine (value_in thread e) _ (λ w. below_fine w _ WordOutOfRange _ (λ below. (below, (λ v. keeps _ refl refl refl))))
  act_fine (Write word e) rest =
      or_trap_fine (value_in thread word) _ (λ w. or_trap_fine (value_in thread e) _ (λ v.
      below_fine w _ WordOutOfRange _ (λ below. (below, keeps _ refl refl refl))))
  act_fine (Acquire e) rest =
      or_trap_fine (value_in thread e) _ (λ l. below_fine l _ LockOutOfRange _ (λ below.
      else_fine (holds thread l) _ LockHeld (λ free. (below, free, stays, leads _ _ refl refl refl))))
  act_fine (Release e) rest =
      or_trap_fine (value_in thread e) _ (λ l. below_fine l _ LockOutOfRange _ (λ below.
      then_fine (holds thread l) _ LockNotHeld (λ held. (below, held, stays, leads _ _ refl refl refl))))
  act_fine Barrier rest = (stays, record { setting = refl; held = refl; arrived = refl })
  act_fine (Print e) rest = or_trap_fine (value_in thread e) _ (λ v. keeps _ refl refl refl)
  act_fine (If' e p a q b) rest = or_trap_fine (value_in thread e) _ (λ v. keeps _ refl refl refl)
  act_fine (While' e p a) rest = or_trap_fine (value_in thread e) _ (λ v. keeps _ refl refl refl)

  first_fine : (rest : List Statement) → IsFine thread (first_act thread rest)
  first_fine [] = stays
  first_fine (s ∷ rest) = act_fine s rest

next_fine : (thread : Thread) (arrived : Bool) → thread.arrived ≡ arrived
    → IsFine thread (if arrived then departs (record thread { arrived = false }) else first_act thread thread.rest)
next_fine thread true e = (e, record { setting = refl; held = refl; arrived = refl })
next_fine thread false e = first_fine thread e thread.rest

-- every next act is so
pub next_of-fine : (thread : Thread) → IsFine thread (next_of thread)
next_of-fine thread = next_fine thread thread.arrived refl

-- What a thread asks for, with the number that completes it.
use Rattle.std.specs.Prelude.{◌≡◌, ℕ, List, ◌∷◌, Some, false, Result, Ok, Err}
use Rattle.lrc_program.specs.declared.Statement.{Statement}
use Rattle.lrc_program.specs.declared.Statement.TheVariants.{Assign, Acquire, Release, If', While'}
use Rattle.lrc_trace.specs.declared.act.Cause.{Cause}
use Rattle.lrc_exec.specs.declared.machine.Ask.{Ask}
use Rattle.lrc_exec.specs.declared.machine.Ask.TheVariants.{Trap}
use Rattle.lrc_exec.specs.declared.spot.Wish.{Wish}
use Rattle.lrc_exec.specs.Meaning.{Thread, next_of, value_in}
use Rattle.lrc_exec.specs.Ask.{ask_of, TakesAnswer}

-- the number completes the first of these statements: it is the value that is assigned, of the lock, or of the condition;
-- what has none of these needs no number
abbrev pub Completes : Thread → List Statement → ℕ → Type 0
Completes thread (Assign name value ∷ rest) number = value_in thread value ≡ Some number
Completes thread (Acquire lock ∷ rest) number = value_in thread lock ≡ Some number
Completes thread (Release lock ∷ rest) number = value_in thread lock ≡ Some number
Completes thread (If' condition p first q second ∷ rest) number = value_in thread condition ≡ Some number
Completes thread (While' condition p body ∷ rest) number = value_in thread condition ≡ Some number
Completes thread _ number = Unit {0}

-- what is asked for, or the trap in its place
abbrev pub asked_or_trap : Result Wish Cause → Ask
asked_or_trap (Ok wish) = wish.ask
asked_or_trap (Err cause) = Trap cause

-- the thread, at no barrier, asks for this, and where it goes on, the number completes what it asked for
pub record IsWishOf (thread : Thread) (wish : Wish) : Type 0 where
  pub asked : wish.ask ≡ ask_of (next_of thread)
  pub number : TakesAnswer (ask_of (next_of thread)) → Completes thread thread.rest wish.number
  pub not_arrived : thread.arrived ≡ false

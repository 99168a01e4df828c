-- What comes of the quiet acts and prints of a thread.
use Rattle.std.specs.Prelude.{◌≡◌, ℕ, Bool, true, false, None, IsSome}
use Rattle.lrc_exec.specs.declared.machine.Ask.{Ask}
use Rattle.lrc_exec.specs.declared.machine.Ask.TheVariants as asks
use Rattle.lrc_exec.specs.Meaning.{Thread}
use Rattle.lrc_orders_settling.specs.declared.turning.Course.{Course}
use Rattle.lrc_orders_settling.specs.declared.turning.Course.TheVariants.{Stops, Turns, Open}
use Rattle.lrc_orders_laws.specs.Free.{after_quiets}
use Rattle.lrc_orders_laws.specs.Free as free

-- whether this asks for a quiet act or a print
abbrev pub is_quiet_ask : Ask → Bool
is_quiet_ask asks.Quiet = true
is_quiet_ask (asks.Print value) = true
is_quiet_ask _ = false

-- so many quiet acts and prints do not come; or they come without end; or so many come
abbrev pub IsCourse : Thread → (most : ℕ) → Course → Type 0
IsCourse thread most Stops = after_quiets most thread ≡ None
IsCourse thread most Turns = free.Turns thread
IsCourse thread most Open = IsSome (after_quiets most thread)

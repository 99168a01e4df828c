-- What a program means: what a thread, the run of the text on one node, does next, and where it goes on.
use Rattle.std.specs.Prelude.{ℕ, zero, suc, ◌+◌, ◌-◌, ◌*◌, ◌/◌, ◌%◌, ◌^◌, Bool, true, false, not, Option, Some, None, List, [], ◌∷◌, ◌++◌}
use Rattle.std.specs.Prelude.{nat_eq, nat_lt, nat_le, if◌then◌else◌, replicate, slice_index, slice_index_or, slice_set}
use Rattle.lrc_program.specs.declared.Operator.{Operator}
use Rattle.lrc_program.specs.declared.Operator.TheVariants.{Add, Subtract, Multiply, Divide, Remainder, Equal, NotEqual}
use Rattle.lrc_program.specs.declared.Operator.TheVariants.{Less, LessOrEqual, Greater, GreaterOrEqual}
use Rattle.lrc_program.specs.declared.Expression.{Expression}
use Rattle.lrc_program.specs.declared.Expression.TheVariants.{Number, Private, Me, Nodes, Binary'}
use Rattle.lrc_program.specs.declared.Statement.{Statement, Row_of-Statement, end_of-Statement, more_of-Statement}
use Rattle.lrc_program.specs.declared.Statement.TheVariants.{Assign, Read, Write, Acquire, Release, Barrier, Print, If', While'}
use Rattle.lrc_trace.specs.declared.act.Cause.{Cause}
use Rattle.lrc_trace.specs.declared.act.Cause.TheVariants.{DivisionByZero, WordOutOfRange, LockOutOfRange, LockHeld, LockNotHeld}

-- what never changes: how many words and locks there are, which node this is, and how many nodes run the text
pub record Setting : Type 0 where
  pub words : ℕ
  pub locks : ℕ
  pub me : ℕ
  pub nodes : ℕ

-- a thread: its setting, the statements still to do, the private values, for each lock whether this node holds it, and
-- whether it has arrived at a barrier and not departed
pub record Thread : Type 0 where
  pub setting : Setting
  pub rest : List Statement
  pub privates : List ℕ
  pub held : List Bool
  pub arrived : Bool

-- a thread at the beginning of these statements: private values are 0, and no lock is held
abbrev pub thread_at_start : Setting → List Statement → Thread
thread_at_start setting statements =
    record { setting = setting; rest = statements; privates = replicate 32 0; held = replicate 64 false; arrived = false }

-- the statements of a block
abbrev pub block : {m : _} → Row_of-Statement m → List Statement
block end_of-Statement = []
block (more_of-Statement statement more) = statement ∷ block more

-- a comparison gives 1 where it holds, and else 0
abbrev pub one_if : Bool → ℕ
one_if holds = if holds then 1 else 0

-- a condition holds where its value is not 0
abbrev pub chosen : {A : Type 0} → ℕ → A → A → A
chosen zero where_it_holds otherwise = otherwise
chosen (suc n) where_it_holds otherwise = where_it_holds

-- what an operator gives, modulo 2^64; none is a division by zero
abbrev pub operated : Operator → ℕ → ℕ → Option ℕ
operated Add x y = Some ((x + y) % 2 ^ 64)
operated Subtract x y = Some ((x + (2 ^ 64 - y)) % 2 ^ 64)
operated Multiply x y = Some ((x * y) % 2 ^ 64)
operated Divide x y = chosen y (Some (x / y)) None
operated Remainder x y = chosen y (Some (x % y)) None
operated Equal x y = Some (one_if (nat_eq x y))
operated NotEqual x y = Some (one_if (not (nat_eq x y)))
operated Less x y = Some (one_if (nat_lt x y))
operated LessOrEqual x y = Some (one_if (nat_le x y))
operated Greater x y = Some (one_if (nat_lt y x))
operated GreaterOrEqual x y = Some (one_if (nat_le y x))

-- what an operator gives, once both sides have values
abbrev pub combined : Operator → Option ℕ → Option ℕ → Option ℕ
combined operator None right = None
combined operator (Some x) None = None
combined operator (Some x) (Some y) = operated operator x y

-- the value of an expression on node `me` of `nodes`, with these private values; none is a division by zero
abbrev pub value_of : (me nodes : ℕ) → List ℕ → Expression → Option ℕ
value_of me nodes privates (Number n) = Some n
value_of me nodes privates (Private name) = Some (slice_index privates name)
value_of me nodes privates Me = Some me
value_of me nodes privates Nodes = Some nodes
value_of me nodes privates (Binary' p left operator q right) =
    combined operator (value_of me nodes privates left) (value_of me nodes privates right)

-- what a thread does next, with the thread after it; a read goes on with the value that it gets
pub data Next : Type 0 where
  quiet : Thread → Next
  prints : (value : ℕ) → Thread → Next
  reads : (word : ℕ) → (ℕ → Thread) → Next
  writes : (word value : ℕ) → Thread → Next
  acquires : (lock : ℕ) → Thread → Next
  releases : (lock : ℕ) → Thread → Next
  arrives : Thread → Next
  departs : Thread → Next
  traps : Cause → Next
  ends : Next

-- goes on with the value, or traps where there is none
abbrev pub or_trap : Option ℕ → (ℕ → Next) → Next
or_trap None go = traps DivisionByZero
or_trap (Some value) go = go value

-- the value of an expression to a thread
abbrev pub value_in : Thread → Expression → Option ℕ
value_in thread expression = value_of thread.setting.me thread.setting.nodes thread.privates expression

-- goes on with the value of an expression, or traps
abbrev pub with_value : Thread → Expression → (ℕ → Next) → Next
with_value thread expression go = or_trap (value_in thread expression) go

-- goes on where the number is below the limit, and else traps
abbrev pub if_below : ℕ → ℕ → Cause → Next → Next
if_below number limit cause next = if nat_lt number limit then next else traps cause

-- the thread once the statement before `rest` is done
abbrev pub then_does : Thread → List Statement → Thread
then_does thread rest = record thread { rest = rest }

-- the same, with a private name set to a value
abbrev pub then_keeps : Thread → List Statement → ℕ → ℕ → Thread
then_keeps thread rest name value = record thread { rest = rest; privates = slice_set thread.privates name value }

-- whether the thread holds a lock
abbrev pub holds : Thread → ℕ → Bool
holds thread lock = slice_index_or thread.held lock false

-- the same as `then_does`, with a lock held or not
abbrev pub then_holds : Thread → List Statement → ℕ → Bool → Thread
then_holds thread rest lock held = record thread { rest = rest; held = slice_set thread.held lock held }

-- the act of a statement of which `rest` comes after it
abbrev pub next_of_statement : Thread → Statement → List Statement → Next
next_of_statement thread (Assign name value) rest =
    with_value thread value (λ v. quiet (then_keeps thread rest name v))
next_of_statement thread (Read name word) rest =
    with_value thread word (λ w.
    if_below w thread.setting.words WordOutOfRange (reads w (λ v. then_keeps thread rest name v)))
next_of_statement thread (Write word value) rest =
    with_value thread word (λ w.
    with_value thread value (λ v.
    if_below w thread.setting.words WordOutOfRange (writes w v (then_does thread rest))))
next_of_statement thread (Acquire lock) rest =
    with_value thread lock (λ l.
    if_below l thread.setting.locks LockOutOfRange
    (if holds thread l then traps LockHeld else acquires l (then_holds thread rest l true)))
next_of_statement thread (Release lock) rest =
    with_value thread lock (λ l.
    if_below l thread.setting.locks LockOutOfRange
    (if holds thread l then releases l (then_holds thread rest l false) else traps LockNotHeld))
next_of_statement thread Barrier rest = arrives (record thread { rest = rest; arrived = true })
next_of_statement thread (Print value) rest =
    with_value thread value (λ v. prints v (then_does thread rest))
next_of_statement thread (If' condition p first q second) rest =
    with_value thread condition (λ v.
    quiet (then_does thread (chosen v (block first ++ rest) (block second ++ rest))))
next_of_statement thread (While' condition p body) rest =
    with_value thread condition (λ v.
    quiet (then_does thread (chosen v (block body ++ While' condition p body ∷ rest) rest)))

-- the act of the first of these statements, and End where there is none
abbrev pub first_act : Thread → List Statement → Next
first_act thread [] = ends
first_act thread (statement ∷ rest) = next_of_statement thread statement rest

-- what a thread does next: departs where it has arrived, and else its next statement
abbrev pub next_of : Thread → Next
next_of thread = if thread.arrived then departs (record thread { arrived = false }) else first_act thread thread.rest

-- Where one step leads a walk, and what holds along all acts.
use Rattle.std.proofs.Common.{◌≡◌, ◌⊎◌, inl, inr, ℕ, Bool, true, false, Some, List, [], ◌∷◌, ◌++◌, append-nil, append_assoc, map, refl, sym, ap}
use Rattle.std.proofs.Common.{subst, ◌∙◌}
use Rattle.std.specs.Prelude.{if◌then◌else◌, nat_lt, slice_set, ◌==◌}
use Rattle.std.specs.List.{All}
use Rattle.std.proofs.lemmas.List.Sums.{fold-append}
use Rattle.lrc_program.specs.declared.Expression.{Expression}
use Rattle.lrc_program.specs.declared.Program.{Program}
use Rattle.lrc_program.specs.declared.Statement.{Statement}
use Rattle.lrc_program.specs.declared.Statement.TheVariants.{Assign, Read, Write, Acquire, Release, Barrier, Print, If', While'}
use Rattle.lrc_trace.specs.declared.act.Act.{Act}
use Rattle.lrc_trace.specs.declared.act.Cause.TheVariants.{DivisionByZero, WordOutOfRange, LockOutOfRange, LockHeld, LockNotHeld}
use Rattle.lrc_trace.specs.declared.act.Deed.{Deed}
use Rattle.lrc_trace.specs.declared.act.Deed.TheVariants as deeds
use Rattle.lrc_exec.specs.Meaning.{Thread, Next, departs, traps, holds, then_holds, value_in, next_of_statement, first_act, next_of}
use Rattle.lrc_exec.specs.Ask.{ask_of, done, answered}
use Rattle.lrc_exec.specs.Condition.{value_is_met, first_is_met, condition_holds}
use Rattle.lrc_lines.specs.Places.{StandsAmong, in_order}
use Rattle.lrc_lines.specs.Standing.{Agrees}
use Rattle.lrc_lines.specs.Tasks.{Task, beyond, passed}
use Rattle.lrc_lines.specs.Walks.{Walk, goes_on, onward, led, led_by, walk_at_start, walk_behind}
use Rattle.lrc_lines.proofs.Agreeing.{agrees_behind, on_value, on_if}
use Rattle.lrc_lines.proofs.Placing.{stand_behind}

abbrev pub statements : List Task → List Statement
statements todo = map (λ task. task.statement) todo

-- a thread keeps its setting and its locks, and its private values too
pub record Keeps (t u : Thread) : Type 0 where
  pub setting : u.setting ≡ t.setting
  pub held : u.held ≡ t.held

pub record Same (t u : Thread) : Type 0 where
  pub setting : u.setting ≡ t.setting
  pub held : u.held ≡ t.held
  pub privates : u.privates ≡ t.privates

-- neither a name nor a lock changes by it, and it has no blocks
pub data IsPlain : Statement → Type 0 where
  a_write : {e v : Expression} → IsPlain (Write e v)
  a_barrier : IsPlain Barrier
  a_print : {e : Expression} → IsPlain (Print e)

-- a thread, and the first of what it has still to do; where one step leads it, and what it has to do then
pub data Moves (t : Thread) (task : Task) (more : List Task) (u : Thread) (todo : List Task) : Type 0 where
  assigns : (k x : ℕ) {e : Expression} → task.statement ≡ Assign k e → value_in t e ≡ Some x → u.privates ≡ slice_set t.privates k x → Keeps t u → todo ≡ more
      → Moves t task more u todo
  reads : (k x : ℕ) {w : ℕ} {e : Expression} → task.statement ≡ Read k e → value_in t e ≡ Some w → u.privates ≡ slice_set t.privates k x → Keeps t u → todo ≡ more
      → Moves t task more u todo
  acquires : (l : ℕ) {e : Expression} → task.statement ≡ Acquire e → value_in t e ≡ Some l → u.held ≡ slice_set t.held l true → u.privates ≡ t.privates
      → u.setting ≡ t.setting → todo ≡ more → Moves t task more u todo
  releases : (l : ℕ) {e : Expression} → task.statement ≡ Release e → value_in t e ≡ Some l → u.held ≡ slice_set t.held l false → u.privates ≡ t.privates
      → u.setting ≡ t.setting → todo ≡ more → Moves t task more u todo
  passes : IsPlain task.statement → Same t u → todo ≡ more → Moves t task more u todo
  branches : {e : Expression} {p q a b : _} → task.statement ≡ If' e p a q b → Same t u
      → todo ≡ beyond (value_is_met (value_in t e)) task.statement task.lines more → Moves t task more u todo
  loops : {e : Expression} {p a : _} → task.statement ≡ While' e p a → Same t u
      → todo ≡ beyond (value_is_met (value_in t e)) task.statement task.lines more → Moves t task more u todo

-- one step of a walk, if any was made
pub record Moved (walk after : Walk) : Type 0 where
  pub task : Task
  pub more : List Task
  pub todo : walk.todo ≡ task ∷ more
  pub moves : Moves walk.thread task more after.thread after.todo

module _ (value : ℕ) (t : Thread) where
  abbrev Leads : Task → List Task → List Task → Next → Type 0
  Leads task more todo next = goes_on (ask_of next) ≡ true → Moves t task more (done value t next) todo

  stuck : (task : Task) (more todo : List Task) (cause : _) → Leads task more todo (traps cause)
  stuck task more todo cause goes = cc

  leads : (s : Statement) (lines : List ℕ) (more : List Task)
      → Leads (record { statement = s; lines = lines }) more (beyond (first_is_met t (s ∷ statements more)) s lines more) (next_of_statement t s (statements more))
  leads (Assign name e) lines more =
      let L = Leads (record { statement = Assign name e; lines = lines }) more more in
      on_value L (value_in t e) _ (stuck _ more more DivisionByZero)
      (λ v is goes. assigns name v {e = e} refl is refl (record { setting = refl; held = refl }) refl)
  leads (Read name e) lines more =
      let L = Leads (record { statement = Read name e; lines = lines }) more more in
      on_value L (value_in t e) _ (stuck _ more more DivisionByZero)
      (λ w is. on_if L (nat_lt w t.setting.words) _ _
      (λ goes. reads name value {w = w} {e = e} refl is refl (record { setting = refl; held = refl }) refl) (stuck _ more more WordOutOfRange))
  leads (Write e v) lines more =
      let L = Leads (record { statement = Write e v; lines = lines }) more more in
      on_value L (value_in t e) _ (stuck _ more more DivisionByZero)
      (λ w is. on_value L (value_in t v) _ (stuck _ more more DivisionByZero)
      (λ x is_x. on_if L (nat_lt w t.setting.words) _ _ (λ goes. passes a_write (record { setting = refl; held = refl; privates = refl }) refl)
      (stuck _ more more WordOutOfRange)))
  leads (Acquire e) lines more =
      let L = Leads (record { statement = Acquire e; lines = lines }) more more in
      on_value L (value_in t e) _ (stuck _ more more DivisionByZero)
      (λ l is. on_if L (nat_lt l t.setting.locks) _ _
      (on_if L (holds t l) (traps LockHeld) (Next.acquires l (then_holds t (statements more) l true)) (stuck _ more more LockHeld)
      (λ goes. Moves.acquires l {e = e} refl is refl refl refl refl))
      (stuck _ more more LockOutOfRange))
  leads (Release e) lines more =
      let L = Leads (record { statement = Release e; lines = lines }) more more in
      on_value L (value_in t e) _ (stuck _ more more DivisionByZero)
      (λ l is. on_if L (nat_lt l t.setting.locks) _ _
      (on_if L (holds t l) (Next.releases l (then_holds t (statements more) l false)) (traps LockNotHeld)
      (λ goes. Moves.releases l {e = e} refl is refl refl refl refl) (stuck _ more more LockNotHeld))
      (stuck _ more more LockOutOfRange))
  leads Barrier lines more = λ goes. passes a_barrier (record { setting = refl; held = refl; privates = refl }) refl
  leads (Print e) lines more =
      let L = Leads (record { statement = Print e; lines = lines }) more more in
      on_value L (value_in t e) _ (stuck _ more more DivisionByZero)
      (λ v is goes. passes a_print (record { setting = refl; held = refl; privates = refl }) refl)
  leads (If' e p a q b) lines more =
      let after = beyond (value_is_met (value_in t e)) (If' e p a q b) lines more in
      let L = Leads (record { statement = If' e p a q b; lines = lines }) more after in
      on_value L (value_in t e) _ (stuck _ more after DivisionByZero)
      (λ v is goes. branches {e = e} refl (record { setting = refl; held = refl; privates = refl }) refl)
  leads (While' e p a) lines more =
      let after = beyond (value_is_met (value_in t e)) (While' e p a) lines more in
      let L = Leads (record { statement = While' e p a; lines = lines }) more after in
      on_value L (value_in t e) _ (stuck _ more after DivisionByZero)
      (λ v is goes. loops {e = e} refl (record { setting = refl; held = refl; privates = refl }) refl)

-- ---- walks

-- what a thread does next that is at no barrier
pub next_stays : (t : Thread) (s : Statement) (rest : List Statement) → t.rest ≡ s ∷ rest → t.arrived ≡ false → next_of t ≡ next_of_statement t s rest
next_stays t s rest is stays =
    ap (λ b. if b then departs (record t { arrived = false }) else first_act t t.rest) stays ∙ ap (first_act t) is

next_ends : (t : Thread) → t.rest ≡ [] → t.arrived ≡ false → goes_on (ask_of (next_of t)) ≡ false
next_ends t is stays =
    ap (λ n. goes_on (ask_of n)) (ap (λ b. if b then departs (record t { arrived = false }) else first_act t t.rest) stays ∙ ap (first_act t) is)

moved_todo : (value : ℕ) (t : Thread) (todo : List Task) → statements todo ≡ t.rest → t.arrived ≡ false → goes_on (ask_of (next_of t)) ≡ true
    → Moved (record { thread = t; todo = todo }) (record { thread = answered value t; todo = passed (condition_holds t) todo })
moved_todo value t [] same stays goes = let no = next_ends t (sym same) stays in cc
moved_todo value t (task ∷ more) same stays goes =
    let is = next_stays t task.statement (statements more) (sym same) stays in
    let made : Moves t task more (done value t (next_of_statement t task.statement (statements more)))
    (beyond (first_is_met t (task.statement ∷ statements more)) task.statement task.lines more) =
    leads value t task.statement task.lines more (sym (ap (λ n. goes_on (ask_of n)) is) ∙ goes) in
    record {
      task = task;
      more = more;
      todo = refl;
      moves =
          subst (λ rest. Moves t task more (answered value t) (beyond (first_is_met t rest) task.statement task.lines more)) same
          (subst (λ u. Moves t task more u (beyond (first_is_met t (task.statement ∷ statements more)) task.statement task.lines more))
          (sym (ap (done value t) is)) made);
    }

moved_if : (walk other : Walk) (b : Bool) → (b ≡ true → Moved walk other) → ((if b then other else walk) ≡ walk) ⊎ Moved walk (if b then other else walk)
moved_if walk other true moved = inr (moved refl)
moved_if walk other false moved = inl refl

moved_onward : (value : ℕ) (walk : Walk) → Agrees walk → (onward value walk ≡ walk) ⊎ Moved walk (onward value walk)
moved_onward value walk agrees =
    moved_if walk (record { thread = answered value walk.thread; todo = passed (condition_holds walk.thread) walk.todo })
    (goes_on (ask_of (next_of walk.thread))) (λ goes. moved_todo value walk.thread walk.todo agrees.0 agrees.1 goes)

pub moved_led : (walk : Walk) (d : Deed) → Agrees walk → (led walk d ≡ walk) ⊎ Moved walk (led walk d)
moved_led walk deeds.Arrive agrees = inl refl
moved_led walk (deeds.Trap cause) agrees = inl refl
moved_led walk deeds.End agrees = inl refl
moved_led walk deeds.Quiet agrees = moved_onward 0 walk agrees
moved_led walk (deeds.Print v) agrees = moved_onward 0 walk agrees
moved_led walk (deeds.Read word v) agrees = moved_onward v walk agrees
moved_led walk (deeds.Write word v) agrees = moved_onward 0 walk agrees
moved_led walk (deeds.Acquire lock) agrees = moved_onward 0 walk agrees
moved_led walk (deeds.Release lock) agrees = moved_onward 0 walk agrees
moved_led walk deeds.Depart agrees = moved_onward 0 walk agrees

-- ---- what each step keeps holds along all acts

module _ (program : Program) (nodes : ℕ) (lines : List ℕ) (node : ℕ) (P : Walk → Type 0) where
  abbrev At : List Act → Walk
  At acts = walk_behind program nodes lines acts node

  -- a step keeps it, of a walk that the text leads here
  abbrev pub IsKept : Type 0
  IsKept = (walk after : Walk) → Agrees walk → All (StandsAmong (in_order program.statements.items) lines) walk.todo → P walk → Moved walk after → P after

  after_deed : IsKept → (acts : List Act) (d : Deed) → P (At acts) → P (led (At acts) d)
  after_deed keeps acts d here =
      let agrees = agrees_behind program nodes lines acts node in
      elim (moved_led (At acts) d agrees) [
        | inl same ↦ subst P (sym same) here
        | inr moved ↦ keeps (At acts) (led (At acts) d) agrees (stand_behind program nodes lines acts node) here moved
      ]

  after_act : IsKept → (acts : List Act) (act : Act) → P (At acts) → P (led_by node (At acts) act)
  after_act keeps acts act here = choose (act.node == node)
    where
      choose : (b : Bool) → P (if b then led (At acts) act.deed else At acts)
      choose true = after_deed keeps acts act.deed here
      choose false = here

  pub more_is : (acts : List Act) (act : Act) → At (acts ++ act ∷ []) ≡ led_by node (At acts) act
  more_is acts act = fold-append (led_by node) (walk_at_start program nodes lines node) acts (act ∷ [])

  pub along_from : IsKept → (acts later : List Act) → P (At acts) → P (At (acts ++ later))
  along_from keeps acts [] here = subst (λ l. P (At l)) (sym (append-nil acts)) here
  along_from keeps acts (act ∷ later) here =
      subst (λ l. P (At l)) (append_assoc acts (act ∷ []) later)
      (along_from keeps (acts ++ act ∷ []) later (subst P (sym (more_is acts act)) (after_act keeps acts act here)))

  pub along : IsKept → P (walk_at_start program nodes lines node) → (acts : List Act) → P (At acts)
  along keeps start acts = along_from keeps [] acts start

-- Where acts that follow the text lead a node's walk, and what its next deed is of.
use Rattle.std.proofs.Common.{◌≡◌, ◌≢◌, ◌∙◌, ◌<◌, ℕ, zero, suc, Bool, true, false, Option, Some, None, List, [], ◌∷◌, ◌++◌, append-nil}
use Rattle.std.proofs.Common.{append_assoc, fold, map, take, refl, sym, ap, ap₂, subst}
use Rattle.std.specs.Prelude.{if◌then◌else◌, filter, ◌==◌, slice_get, nat_lt}
use Rattle.std.proofs.lemmas.Bool.{eq-eqb, lt-ltb}
use Rattle.std.proofs.lemmas.Option.{same_Some}
use Rattle.lrc_program.specs.declared.Program.{Program}
use Rattle.lrc_program.specs.declared.Statement.{Statement}
use Rattle.lrc_program.specs.declared.Statement.TheVariants.{Assign, Read, Write, Acquire, Release, Barrier, Print, If', While'}
use Rattle.lrc_trace.specs.declared.act.Act.{Act}
use Rattle.lrc_trace.specs.declared.act.Deed.{Deed}
use Rattle.lrc_exec.specs.Meaning.{Thread, Next, quiet, prints, reads, writes, acquires, releases, arrives, departs, traps, ends}
use Rattle.lrc_exec.specs.Meaning.{next_of_statement, first_act, next_of, holds, then_holds, value_in}
use Rattle.lrc_exec.specs.Ask.{answered, ask_of, done}
use Rattle.lrc_exec.specs.Condition.{condition_holds}
use Rattle.lrc_exec.specs.Plain.{start_of}
use Rattle.lrc_trace.specs.Run.{Does}
use Rattle.lrc_exec.specs.Follows.{FollowsText, Goes, Makes, deeds_of, quietly, printing, reading, writing, acquiring, releasing}
use Rattle.lrc_exec.specs.Follows.{arriving, departing, trapping, ending}
use Rattle.lrc_exec.specs.Follows.{and_then}
use Rattle.lrc_lines.specs.Makes.{MakesNext, statement, barrier, end}
use Rattle.lrc_lines.specs.Standing.{Agrees}
use Rattle.lrc_lines.specs.Tasks.{Task, passed}
use Rattle.lrc_lines.specs.Walks.{Walk, goes_on, led, led_by, onward, end_line, line_at, line_behind, lines_behind, act_lines, walk_at_start}
use Rattle.lrc_lines.specs.Walks.{walk_behind}
use Rattle.lrc_lines.proofs.Agreeing.{agrees_led, agrees_start, on_value, on_if}
use Rattle.lrc_lines.proofs.Following.{onward_going}

-- ---- which statements arrive and depart

abbrev arrives_now : Next → Bool
arrives_now (arrives after) = true
arrives_now _ = false

abbrev departs_now : Next → Bool
departs_now (departs after) = true
departs_now _ = false

-- neither
record Stays (next : Next) : Type 0 where
  comes : arrives_now next ≡ false
  leaves : departs_now next ≡ false

trapped : (cause : _) → Stays (traps cause)
trapped cause = record { comes = refl; leaves = refl }

stays : (t : Thread) (s : Statement) (rest : List Statement) → s ≢ Barrier → Stays (next_of_statement t s rest)
stays t (Assign name e) rest other = on_value Stays (value_in t e) _ (trapped _) (λ v is. record { comes = refl; leaves = refl })
stays t (Read name e) rest other =
    on_value Stays (value_in t e) _ (trapped _)
    (λ w is. on_if Stays (nat_lt w t.setting.words) _ _ (record { comes = refl; leaves = refl }) (trapped _))
stays t (Write e value) rest other =
    on_value Stays (value_in t e) _ (trapped _)
    (λ w is. on_value Stays (value_in t value) _ (trapped _)
    (λ v is_v. on_if Stays (nat_lt w t.setting.words) _ _ (record { comes = refl; leaves = refl }) (trapped _)))
stays t (Acquire e) rest other =
    on_value Stays (value_in t e) _ (trapped _)
    (λ l is. on_if Stays (nat_lt l t.setting.locks) _ _
    (on_if Stays (holds t l) _ (acquires l (then_holds t rest l true)) (trapped _) (record { comes = refl; leaves = refl })) (trapped _))
stays t (Release e) rest other =
    on_value Stays (value_in t e) _ (trapped _)
    (λ l is. on_if Stays (nat_lt l t.setting.locks) _ _
    (on_if Stays (holds t l) (releases l (then_holds t rest l false)) _ (record { comes = refl; leaves = refl }) (trapped _)) (trapped _))
stays t Barrier rest other = absurd (other refl)
stays t (Print e) rest other = on_value Stays (value_in t e) _ (trapped _) (λ v is. record { comes = refl; leaves = refl })
stays t (If' e p a q b) rest other = on_value Stays (value_in t e) _ (trapped _) (λ v is. record { comes = refl; leaves = refl })
stays t (While' e p a) rest other = on_value Stays (value_in t e) _ (trapped _) (λ v is. record { comes = refl; leaves = refl })

-- the thread behind an arrive: the statement is the barrier
arrival : (t : Thread) (s : Statement) (rest : List Statement) (u : Thread) → next_of_statement t s rest ≡ arrives u
    → (s ≡ Barrier) × (u ≡ record t { rest = rest; arrived = true })
arrival t Barrier rest u is = (refl, cc)
arrival t (Assign name e) rest u is = let no = (stays t (Assign name e) rest (λ e. cc)).comes in cc
arrival t (Read name e) rest u is = let no = (stays t (Read name e) rest (λ e. cc)).comes in cc
arrival t (Write e v) rest u is = let no = (stays t (Write e v) rest (λ e. cc)).comes in cc
arrival t (Acquire e) rest u is = let no = (stays t (Acquire e) rest (λ e. cc)).comes in cc
arrival t (Release e) rest u is = let no = (stays t (Release e) rest (λ e. cc)).comes in cc
arrival t (Print e) rest u is = let no = (stays t (Print e) rest (λ e. cc)).comes in cc
arrival t (If' e p a q b) rest u is = let no = (stays t (If' e p a q b) rest (λ e. cc)).comes in cc
arrival t (While' e p a) rest u is = let no = (stays t (While' e p a) rest (λ e. cc)).comes in cc

-- ---- the thread of the text, beside that of a walk

-- it is the walk's thread, or that one has come to a barrier and this one has arrived there; or it has stopped
data Beside (walk : Walk) : Option Thread → Type 0 where
  together : {t : Thread} → t ≡ walk.thread → Beside walk (Some t)
  at_barrier : {t : Thread} → next_of walk.thread ≡ arrives t → Beside walk (Some t)
  stopped : Beside walk None

onward_thread : (value : ℕ) (walk : Walk) (next : Next) → next_of walk.thread ≡ next → goes_on (ask_of next) ≡ true
    → done value walk.thread next ≡ (onward value walk).thread
onward_thread value walk next is goes =
    sym (ap (done value walk.thread) is)
    ∙ ap (λ (w : Walk). w.thread)
    (onward_going value walk (answered value walk.thread) (passed (condition_holds walk.thread) walk.todo) (condition_holds walk.thread)
    (ap (λ n. goes_on (ask_of n)) is ∙ goes) refl refl refl)

-- from the walk's thread on
step_at : (walk : Walk) (next : Next) (d : Deed) (after : Option Thread) → next_of walk.thread ≡ next → Goes next d after
    → Beside (led walk d) after
step_at walk (quiet u) d after is quietly = together (onward_thread 0 walk (quiet u) is refl)
step_at walk (prints v u) d after is printing = together (onward_thread 0 walk (prints v u) is refl)
step_at walk (reads w f) d after is (reading {v = v}) = together (onward_thread v walk (reads w f) is refl)
step_at walk (writes w v u) d after is writing = together (onward_thread 0 walk (writes w v u) is refl)
step_at walk (acquires l u) d after is acquiring = together (onward_thread 0 walk (acquires l u) is refl)
step_at walk (releases l u) d after is releasing = together (onward_thread 0 walk (releases l u) is refl)
step_at walk (arrives u) d after is arriving = at_barrier is
step_at walk (departs u) d after is departing = together (onward_thread 0 walk (departs u) is refl)
step_at walk (traps c) d after is trapping = stopped
step_at walk ends d after is ending = stopped

-- what comes next of a walk that agrees with its thread
next_is : (walk : Walk) → Agrees walk → next_of walk.thread ≡ first_act walk.thread (map (λ task. task.statement) walk.todo)
next_is walk agrees =
    ap (λ b. if b then departs (record walk.thread { arrived = false }) else first_act walk.thread walk.thread.rest) agrees.1
    ∙ ap (first_act walk.thread) (sym agrees.0)

-- a thread that has arrived departs
record Waits (walk : Walk) (t : Thread) : Type 0 where
  task : Task
  more : List Task
  todo : walk.todo ≡ task ∷ more
  meets : task.statement ≡ Barrier
  next : next_of t ≡ departs (record t { arrived = false })

waits_in : (walk : Walk) (t : Thread) (todo : List Task) → walk.todo ≡ todo
    → first_act walk.thread (map (λ task. task.statement) todo) ≡ arrives t → Waits walk t
waits_in walk t [] todo_is is = cc
waits_in walk t (task ∷ more) todo_is is =
    let (meets, gone) = arrival walk.thread task.statement (map (λ later. later.statement) more) t is in
    record { task = task; more = more; todo = todo_is; meets = meets; next = departs_behind t (ap (λ (u : Thread). u.arrived) gone) }
  where
    departs_behind : (t : Thread) → t.arrived ≡ true → next_of t ≡ departs (record t { arrived = false })
    departs_behind t is = ap (λ b. if b then departs (record t { arrived = false }) else first_act t t.rest) is

waits : (walk : Walk) (t : Thread) → Agrees walk → next_of walk.thread ≡ arrives t → Waits walk t
waits walk t agrees is = waits_in walk t walk.todo refl (sym (next_is walk agrees) ∙ is)

step_behind : (walk : Walk) (t : Thread) (next : Next) (d : Deed) (after : Option Thread) → next_of walk.thread ≡ arrives t
    → next ≡ departs (record t { arrived = false }) → Goes next d after → Beside (led walk d) after
step_behind walk t (departs u) d after is next_is departing =
    let same : u ≡ record t { arrived = false } = cc in
    together (same ∙ onward_thread 0 walk (arrives t) is refl)
step_behind walk t (quiet u) d after is next_is goes = cc
step_behind walk t (prints v u) d after is next_is goes = cc
step_behind walk t (reads w f) d after is next_is goes = cc
step_behind walk t (writes w v u) d after is next_is goes = cc
step_behind walk t (acquires l u) d after is next_is goes = cc
step_behind walk t (releases l u) d after is next_is goes = cc
step_behind walk t (arrives u) d after is next_is goes = cc
step_behind walk t (traps c) d after is next_is goes = cc
step_behind walk t ends d after is next_is goes = cc

steps : (walk : Walk) (t : Thread) (d : Deed) (after : Option Thread) → Beside walk (Some t) → Agrees walk → Goes (next_of t) d after
    → Beside (led walk d) after
steps walk t d after (together same) agrees goes = step_at walk (next_of t) d after (ap next_of (sym same)) goes
steps walk t d after (at_barrier is) agrees goes = step_behind walk t (next_of t) d after is (waits walk t agrees is).next goes

-- ---- what the next deed is of

made_in : (walk : Walk) (todo : List Task) (d : Deed) (after : Option Thread) → walk.todo ≡ todo
    → Goes (first_act walk.thread (map (λ task. task.statement) todo)) d after → MakesNext walk d
made_in walk [] d after todo_is ending = end todo_is
made_in walk (task ∷ more) d after todo_is goes = statement todo_is goes

departs_alone : (walk : Walk) (t : Thread) (next : Next) (d : Deed) (after : Option Thread) → Waits walk t
    → next ≡ departs (record t { arrived = false }) → Goes next d after → MakesNext walk d
departs_alone walk t (departs u) d after w next_is departing = barrier w.todo w.meets
departs_alone walk t (quiet u) d after w next_is goes = cc
departs_alone walk t (prints v u) d after w next_is goes = cc
departs_alone walk t (reads x f) d after w next_is goes = cc
departs_alone walk t (writes x v u) d after w next_is goes = cc
departs_alone walk t (acquires l u) d after w next_is goes = cc
departs_alone walk t (releases l u) d after w next_is goes = cc
departs_alone walk t (arrives u) d after w next_is goes = cc
departs_alone walk t (traps c) d after w next_is goes = cc
departs_alone walk t ends d after w next_is goes = cc

makes : (walk : Walk) (t : Thread) (d : Deed) (after : Option Thread) → Beside walk (Some t) → Agrees walk → Goes (next_of t) d after
    → MakesNext walk d
makes walk t d after (together same) agrees goes =
    made_in walk walk.todo d after refl
    (subst (λ next. Goes next d after) (ap next_of same ∙ next_is walk agrees) goes)
makes walk t d after (at_barrier is) agrees goes =
    let w = waits walk t agrees is in
    departs_alone walk t (next_of t) d after w w.next goes

-- ---- along acts

-- the deeds of a node with one act more in front
deeds_on : (n : ℕ) (act : Act) (acts : List Act) (b : Bool) → (act.node == n) ≡ b
    → deeds_of n (act ∷ acts) ≡ (if b then act.deed ∷ deeds_of n acts else deeds_of n acts)
deeds_on n act acts true is =
    ap (λ b. map (λ (a : Act). a.deed) (if b then act ∷ filter (λ a. a.node == n) acts else filter (λ a. a.node == n) acts)) is
deeds_on n act acts false is =
    ap (λ b. map (λ (a : Act). a.deed) (if b then act ∷ filter (λ a. a.node == n) acts else filter (λ a. a.node == n) acts)) is

first_made : (walk : Walk) (o : Option Thread) (d : Deed) (ds : List Deed) → Beside walk o → Agrees walk → Makes o (d ∷ ds)
    → MakesNext walk d
first_made walk None d ds beside agrees made = elim made [ ]
first_made walk (Some t) d ds beside agrees (and_then {after = after} goes more) = makes walk t d after beside agrees goes

-- where a node's own act leads, and what is made behind it
record Onward (walk : Walk) (d : Deed) (ds : List Deed) : Type 0 where
  after : Option Thread
  beside : Beside (led walk d) after
  more : Makes after ds

goes_onward : (walk : Walk) (o : Option Thread) (d : Deed) (ds : List Deed) → Beside walk o → Agrees walk → Makes o (d ∷ ds)
    → Onward walk d ds
goes_onward walk None d ds beside agrees made = elim made [ ]
goes_onward walk (Some t) d ds beside agrees (and_then {after = after} goes more) =
    record { after = after; beside = steps walk t d after beside agrees goes; more = more }

-- what is made behind an act, where that is known from where the act leads
behind_act : (n i : ℕ) (act : Act) (acts : List Act) (d : Deed) (walk : Walk) (o : Option Thread)
    → ((w : Walk) (p : Option Thread) → Beside w p → Agrees w → Makes p (deeds_of n acts) → MakesNext (fold (led_by n) w (take i acts)) d)
    → Beside walk o → Agrees walk → Makes o (deeds_of n (act ∷ acts)) → (b : Bool) → (act.node == n) ≡ b
    → MakesNext (fold (led_by n) (led_by n walk act) (take i acts)) d
behind_act n i act acts d walk o go beside agrees made true own =
    let onto = goes_onward walk o act.deed (deeds_of n acts) beside agrees (subst (Makes o) (deeds_on n act acts true own) made) in
    subst (λ w. MakesNext (fold (led_by n) w (take i acts)) d) (sym (ap (λ b. if b then led walk act.deed else walk) own))
    (go (led walk act.deed) onto.after onto.beside (agrees_led walk act.deed agrees) onto.more)
behind_act n i act acts d walk o go beside agrees made false other =
    subst (λ w. MakesNext (fold (led_by n) w (take i acts)) d) (sym (ap (λ b. if b then led walk act.deed else walk) other))
    (go walk o beside agrees (subst (Makes o) (deeds_on n act acts false other) made))

makes_along : (acts : List Act) (i n : ℕ) (d : Deed) (walk : Walk) (o : Option Thread)
    → slice_get acts i ≡ Some (record { node = n; deed = d })
    → Beside walk o → Agrees walk → Makes o (deeds_of n acts) → MakesNext (fold (led_by n) walk (take i acts)) d
makes_along [] i n d walk o there beside agrees made = cc
makes_along (act ∷ acts) zero n d walk o there beside agrees made =
    let is : act ≡ record { node = n; deed = d } = same_Some act (record { node = n; deed = d }) there in
    let own : (act.node == n) ≡ true = ap (λ (a : Act). a.node == n) is ∙ eq-eqb n n refl in
    subst (λ e. MakesNext walk e) (ap (λ (a : Act). a.deed) is)
    (first_made walk o act.deed (deeds_of n acts) beside agrees (subst (Makes o) (deeds_on n act acts true own) made))
makes_along (act ∷ acts) (suc i) n d walk o there beside agrees made =
    behind_act n i act acts d walk o (λ w p b a m. makes_along acts i n d w p there b a m) beside agrees made (act.node == n) refl

pub makes_behind : (program : Program) (nodes : ℕ) (lines : List ℕ) (acts : List Act) (i n : ℕ) (d : Deed) → FollowsText program nodes acts
    → Does acts i n d → n < nodes → MakesNext (walk_behind program nodes lines (take i acts) n) d
makes_behind program nodes lines acts i n d follows does within =
    makes_along acts i n d (walk_at_start program nodes lines n) (Some (start_of program nodes n)) does.stands (together refl)
    (agrees_start program nodes lines n) (follows.each n within)

-- ---- the line of an act

line_there : (program : Program) (nodes : ℕ) (lines : List ℕ) (acts before : List Act) (i : ℕ) (act : Act) → slice_get acts i ≡ Some act
    → slice_get (lines_behind program nodes lines before acts) i ≡ Some (line_behind program nodes lines (before ++ take i acts) act.node)
line_there program nodes lines [] before i act there = cc
line_there program nodes lines (first ∷ acts) before zero act there =
    ap₂ (λ b (a : Act). Some (line_behind program nodes lines b a.node)) (sym (append-nil before)) (same_Some first act there)
line_there program nodes lines (first ∷ acts) before (suc i) act there =
    line_there program nodes lines acts (before ++ first ∷ []) i act there
    ∙ ap (λ b. Some (line_behind program nodes lines b act.node)) (append_assoc before (first ∷ []) (take i acts))

pub line_of_act : (program : Program) (nodes : ℕ) (lines : List ℕ) (acts : List Act) (i n : ℕ) (d : Deed) → Does acts i n d → n < nodes
    → slice_get (act_lines program nodes lines acts) i ≡ Some (line_at (end_line lines) (walk_behind program nodes lines (take i acts) n))
line_of_act program nodes lines acts i n d does within =
    let walk = walk_behind program nodes lines (take i acts) n in
    line_there program nodes lines acts [] i (record { node = n; deed = d }) does.stands
    ∙ ap (λ b. Some (if b then line_at (end_line lines) walk else end_line lines)) (lt-ltb n nodes within)

-- What a walk has still to do is what its thread has still to do.
use Rattle.std.proofs.Common.{◌≡◌, ℕ, zero, suc, Bool, true, false, Option, Some, None, List, [], ◌∷◌, ◌++◌, drop, fold, map, refl, sym, ap, ap₂, ◌∙◌}
use Rattle.std.specs.Prelude.{if◌then◌else◌, nat_lt, ◌==◌}
use Rattle.std.proofs.lemmas.List.{map-append}
use Rattle.lrc_program.specs.declared.Program.{Program}
use Rattle.lrc_program.specs.declared.Statement.{Statement}
use Rattle.lrc_program.specs.declared.Statement.TheVariants.{Assign, Read, Write, Acquire, Release, Barrier, Print, If', While'}
use Rattle.lrc_trace.specs.declared.act.Act.{Act}
use Rattle.lrc_trace.specs.declared.act.Cause.TheVariants.{DivisionByZero, WordOutOfRange, LockOutOfRange, LockHeld, LockNotHeld}
use Rattle.lrc_trace.specs.declared.act.Deed.{Deed}
use Rattle.lrc_trace.specs.declared.act.Deed.TheVariants as deeds
use Rattle.lrc_exec.specs.Meaning.{Thread, Next, acquires, releases, departs, traps, holds, then_holds, or_trap, value_in}
use Rattle.lrc_exec.specs.Meaning.{block, chosen, next_of_statement, first_act, next_of}
use Rattle.lrc_exec.specs.Ask.{ask_of, done, answered}
use Rattle.lrc_exec.specs.Condition.{value_is_met, first_is_met, condition_holds}
use Rattle.lrc_lines.specs.Tasks.{Task, behind, behind_block, tasks, beyond, passed}
use Rattle.lrc_lines.specs.Standing.{Agrees}
use Rattle.lrc_lines.specs.Walks.{Walk, walk_at_start, goes_on, onward, led, led_by, walk_behind}

abbrev statements : List Task → List Statement
statements todo = map (λ task. task.statement) todo

statements_tasks : (all : List Statement) (lines : List ℕ) → statements (tasks all lines) ≡ all
statements_tasks [] lines = refl
statements_tasks (first ∷ more) lines = ap (λ l. first ∷ l) (statements_tasks more (behind first lines))

-- ---- what a thread does next

pub on_value : (P : Next → Type 0) (o : Option ℕ) (go : ℕ → Next) → P (traps DivisionByZero) → ((v : ℕ) → o ≡ Some v → P (go v)) → P (or_trap o go)
on_value P None go trapped each = trapped
on_value P (Some v) go trapped each = each v refl

pub on_if : (P : Next → Type 0) (test : Bool) (one other : Next) → P one → P other → P (if test then one else other)
on_if P true one other first second = first
on_if P false one other first second = second

chosen_tasks : (v : ℕ) (one other rest : List Statement) (first second more : List Task) → statements first ≡ one → statements second ≡ other →
    statements more ≡ rest → chosen v (one ++ rest) (other ++ rest) ≡ statements ((if chosen v true false then first else second) ++ more)
chosen_tasks zero one other rest first second more f s m = ap₂ ◌++◌ (sym s) (sym m) ∙ sym (map-append (λ task. task.statement) second more)
chosen_tasks (suc n) one other rest first second more f s m = ap₂ ◌++◌ (sym f) (sym m) ∙ sym (map-append (λ task. task.statement) first more)

looped_tasks : (v : ℕ) (one rest : List Statement) (loop : Task) (first more : List Task) → statements first ≡ one → statements more ≡ rest →
    chosen v (one ++ loop.statement ∷ rest) rest ≡ statements (if chosen v true false then first ++ loop ∷ more else more)
looped_tasks zero one rest loop first more f m = sym m
looped_tasks (suc n) one rest loop first more f m =
    ap₂ (λ a b. a ++ loop.statement ∷ b) (sym f) (sym m) ∙ sym (map-append (λ task. task.statement) first (loop ∷ more))

module _ (value : ℕ) (t : Thread) (stays : t.arrived ≡ false) where
  abbrev Leads : List Statement → Next → Type 0
  Leads rest next = goes_on (ask_of next) ≡ true → ((done value t next).rest ≡ rest) × ((done value t next).arrived ≡ false)

  stuck : (rest : List Statement) (cause : _) → Leads rest (traps cause)
  stuck rest cause goes = cc

  leads : (s : Statement) (lines : List ℕ) (rest : List Statement) (more : List Task) → statements more ≡ rest →
      Leads (statements (beyond (first_is_met t (s ∷ rest)) s lines more)) (next_of_statement t s rest)
  leads (Assign name e) lines rest more same =
      on_value (Leads (statements more)) (value_in t e) _ (stuck (statements more) DivisionByZero) (λ v is goes. (sym same, stays))
  leads (Read name e) lines rest more same =
      on_value (Leads (statements more)) (value_in t e) _ (stuck (statements more) DivisionByZero)
      (λ w is. on_if (Leads (statements more)) (nat_lt w t.setting.words) _ _ (λ goes. (sym same, stays)) (stuck (statements more) WordOutOfRange))
  leads (Write e value) lines rest more same =
      on_value (Leads (statements more)) (value_in t e) _ (stuck (statements more) DivisionByZero)
      (λ w is. on_value (Leads (statements more)) (value_in t value) _ (stuck (statements more) DivisionByZero)
      (λ v is_v. on_if (Leads (statements more)) (nat_lt w t.setting.words) _ _ (λ goes. (sym same, stays)) (stuck (statements more) WordOutOfRange)))
  leads (Acquire e) lines rest more same =
      on_value (Leads (statements more)) (value_in t e) _ (stuck (statements more) DivisionByZero)
      (λ l is. on_if (Leads (statements more)) (nat_lt l t.setting.locks) _ _
      (on_if (Leads (statements more)) (holds t l) (traps LockHeld) (acquires l (then_holds t rest l true)) (stuck (statements more) LockHeld)
      (λ goes. (sym same, stays)))
      (stuck (statements more) LockOutOfRange))
  leads (Release e) lines rest more same =
      on_value (Leads (statements more)) (value_in t e) _ (stuck (statements more) DivisionByZero)
      (λ l is. on_if (Leads (statements more)) (nat_lt l t.setting.locks) _ _
      (on_if (Leads (statements more)) (holds t l) (releases l (then_holds t rest l false)) (traps LockNotHeld) (λ goes. (sym same, stays))
      (stuck (statements more) LockNotHeld))
      (stuck (statements more) LockOutOfRange))
  leads Barrier lines rest more same = λ goes. (sym same, refl)
  leads (Print e) lines rest more same =
      on_value (Leads (statements more)) (value_in t e) _ (stuck (statements more) DivisionByZero) (λ v is goes. (sym same, stays))
  leads (If' e p a q b) lines rest more same =
      let inside = tasks (block a) (drop 1 lines) in
      let second = tasks (block b) (behind_block a (drop 1 lines)) in
      on_value (Leads (statements ((if value_is_met (value_in t e) then inside else second) ++ more))) (value_in t e) _ (stuck _ DivisionByZero)
      (λ v is goes. (
        chosen_tasks v (block a) (block b) rest inside second more (statements_tasks (block a) _) (statements_tasks (block b) _) same
            ∙ ap (λ o. statements ((if value_is_met o then inside else second) ++ more)) (sym is),
        stays,
      ))
  leads (While' e p a) lines rest more same =
      let inside = tasks (block a) (drop 1 lines) in
      let loop : Task = record { statement = While' e p a; lines = lines } in
      on_value (Leads (statements (if value_is_met (value_in t e) then inside ++ loop ∷ more else more))) (value_in t e) _ (stuck _ DivisionByZero)
      (λ v is goes. (
        looped_tasks v (block a) rest loop inside more (statements_tasks (block a) _) same
            ∙ ap (λ o. statements (if value_is_met o then inside ++ loop ∷ more else more)) (sym is),
        stays,
      ))

-- ---- walks

agrees_on : (value : ℕ) (t : Thread) (todo : List Task) → statements todo ≡ t.rest → t.arrived ≡ false → goes_on (ask_of (next_of t)) ≡ true →
    (statements (passed (condition_holds t) todo) ≡ (answered value t).rest) × ((answered value t).arrived ≡ false)
agrees_on value t [] same stays goes =
    let next_is : next_of t ≡ first_act t [] =
    ap (λ b. if b then departs (record t { arrived = false }) else first_act t t.rest) stays ∙ ap (first_act t) (sym same) in
    let stops : false ≡ true = sym (ap (λ n. goes_on (ask_of n)) next_is) ∙ goes in
    cc
agrees_on value t (task ∷ more) same stays goes =
    let next_is : next_of t ≡ next_of_statement t task.statement (statements more) =
    ap (λ b. if b then departs (record t { arrived = false }) else first_act t t.rest) stays ∙ ap (first_act t) (sym same) in
    let holds = first_is_met t (task.statement ∷ statements more) in
    let led : ((done value t (next_of_statement t task.statement (statements more))).rest ≡ statements (beyond holds task.statement task.lines more))
    × ((done value t (next_of_statement t task.statement (statements more))).arrived ≡ false) =
    leads value t stays task.statement task.lines (statements more) more refl (sym (ap (λ n. goes_on (ask_of n)) next_is) ∙ goes) in
    let after : answered value t ≡ done value t (next_of_statement t task.statement (statements more)) = ap (done value t) next_is in (
      ap (λ l. statements (beyond (first_is_met t l) task.statement task.lines more)) (sym same) ∙ sym led.0
          ∙ sym (ap (λ (u : Thread). u.rest) after),
      ap (λ (u : Thread). u.arrived) after ∙ led.1,
    )

agrees_if : (b : Bool) (one other : Walk) → (b ≡ true → Agrees one) → Agrees other → Agrees (if b then one else other)
agrees_if true one other h k = h refl
agrees_if false one other h k = k

agrees_onward : (value : ℕ) (w : Walk) → Agrees w → Agrees (onward value w)
agrees_onward value w agrees =
    agrees_if (goes_on (ask_of (next_of w.thread))) _ w (λ goes. agrees_on value w.thread w.todo agrees.0 agrees.1 goes) agrees

pub agrees_led : (w : Walk) (d : Deed) → Agrees w → Agrees (led w d)
agrees_led w deeds.Arrive agrees = agrees
agrees_led w (deeds.Trap cause) agrees = agrees
agrees_led w deeds.End agrees = agrees
agrees_led w deeds.Quiet agrees = agrees_onward 0 w agrees
agrees_led w (deeds.Print v) agrees = agrees_onward 0 w agrees
agrees_led w (deeds.Read word v) agrees = agrees_onward v w agrees
agrees_led w (deeds.Write word v) agrees = agrees_onward 0 w agrees
agrees_led w (deeds.Acquire lock) agrees = agrees_onward 0 w agrees
agrees_led w (deeds.Release lock) agrees = agrees_onward 0 w agrees
agrees_led w deeds.Depart agrees = agrees_onward 0 w agrees

agrees_fold : (node : ℕ) (acts : List Act) (w : Walk) → Agrees w → Agrees (fold (led_by node) w acts)
agrees_fold node [] w agrees = agrees
agrees_fold node (act ∷ acts) w agrees =
    agrees_fold node acts (led_by node w act) (agrees_if (act.node == node) (led w act.deed) w (λ e. agrees_led w act.deed agrees) agrees)

pub agrees_start : (program : Program) (nodes : ℕ) (lines : List ℕ) (node : ℕ) → Agrees (walk_at_start program nodes lines node)
agrees_start program nodes lines node = (statements_tasks program.statements.items lines, refl)

pub agrees_behind : (program : Program) (nodes : ℕ) (lines : List ℕ) (acts : List Act) (node : ℕ) → Agrees (walk_behind program nodes lines acts node)
agrees_behind program nodes lines acts node =
    agrees_fold node acts (walk_at_start program nodes lines node) (agrees_start program nodes lines node)

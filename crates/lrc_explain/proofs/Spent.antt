-- The steps that a node has taken, and whether it has more.
use Rattle.std.proofs.Common.{◌≡◌, ◌∙◌, ◌↔◌, ◌<◌, ◌+◌, ℕ, Bool, true, false, cond, List, []}
use Rattle.std.proofs.Common.{◌∷◌, Option, Some, None, length, take, refl, sym, ap, ap₂, subst₂, arith, take_all}
use Rattle.std.specs.Prelude.{◌==◌, ◌&&◌, if◌then◌else◌, nat_lt}
use Rattle.std.proofs.lemmas.Bool.{both_ways, false≢true, leb-false, lt-leb, true_from_ne_false, and_right}
use Rattle.std.proofs.lemmas.List.Sums.{sum_by-cons}
use Rattle.lrc_trace.specs.declared.act.Act.{Act}
use Rattle.lrc_trace.specs.declared.act.Deed.{Deed}
use Rattle.lrc_trace.specs.declared.act.Deed.TheVariants as deeds
use Rattle.lrc_trace.specs.Run.{count_of, is_arrive, is_depart}
use Rattle.lrc_exec.specs.declared.machine.Ask.{Ask}
use Rattle.lrc_exec.specs.declared.machine.Ask.TheVariants as asks
use Rattle.lrc_exec.specs.Ask.{steps_of}
use Rattle.lrc_explain_waits.specs.declared.stand.Coming.{Coming}
use Rattle.lrc_explain_waits.specs.declared.stand.Coming.TheVariants.{Barrier, StepsUsedUp}
use Rattle.lrc_explain_waits.specs.Stand.{coming_by, coming_of, costs, is_used_up, takes_step}
use Rattle.lrc_explain.specs.Waiting.{AreLeft, HasStepsFor, deed_by, deed_next, departs_in, steps_taken}

-- all acts stand before the end
pub all_acts : (run : List Act) → take (length run) run ≡ run
all_acts run = take_all (length run) run (omega arith)

pub cost_is : (deed : Deed) → (costs deed ≡ true) ↔ (steps_of deed ≡ 1)
cost_is deeds.Depart = (λ e. absurd (false≢true e), λ e. absurd (omega (arith, e)))
cost_is deeds.End = (λ e. absurd (false≢true e), λ e. absurd (omega (arith, e)))
cost_is deed = (λ _. refl, λ _. refl)

cost_counts : (deed : Deed) → cond (costs deed) 1 0 ≡ steps_of deed
cost_counts deeds.Depart = refl
cost_counts deeds.End = refl
cost_counts deed = refl

act_counts : (own : Bool) (deed : Deed) → cond (own && costs deed) 1 0 ≡ (if own then steps_of deed else 0)
act_counts true deed = cost_counts deed
act_counts false deed = refl

pub steps_counted : (run : List Act) (node : ℕ) → count_of costs node run ≡ steps_taken run node
steps_counted [] node = refl
steps_counted (act ∷ acts) node =
    sum_by-cons (λ (a : Act). cond (a.node == node && costs a.deed) 1 0) act acts
    ∙ ap₂ (λ x y. x + y) (act_counts (act.node == node) act.deed) (steps_counted acts node)
    ∙ sym (sum_by-cons (λ (a : Act). if a.node == node then steps_of a.deed else 0) act acts)

-- what is asked for takes a step exactly where its deed does
takes_counts : (arrived : Bool) (ask : Ask) → cond (takes_step arrived ask) 1 0 ≡ steps_of (deed_by arrived ask)
takes_counts true asks.Barrier = refl
takes_counts false asks.Barrier = refl
takes_counts arrived asks.End = refl
takes_counts arrived ask = refl

enough : (steps : Option ℕ) (taken : ℕ) (takes : Bool) → ((takes && is_used_up steps taken) ≡ false) ↔ AreLeft steps taken (cond takes 1 0)
enough None taken takes = (λ _. tt, λ _. and_right takes false refl)
enough (Some steps) taken true = (
  (λ e. let more : taken < steps = leb-false steps taken e in omega arith),
  λ some. lt-leb steps taken (omega (arith, some)),
)
enough (Some steps) taken false = (λ _. omega arith, λ _. refl)

-- whether a node has arrived at a barrier, and not departed
abbrev has_arrived : (node : ℕ) → List Act → Bool
has_arrived node run = nat_lt (count_of is_depart node run) (count_of is_arrive node run)

-- whether a node has no steps for what it asks for
abbrev pub spent_for : Option ℕ → List Act → ℕ → Ask → Bool
spent_for steps run node ask =
    takes_step (has_arrived node run) ask && is_used_up steps (count_of costs node run)

next_counts : (run : List Act) (node : ℕ) (ask : Ask)
    → cond (takes_step (has_arrived node run) ask) 1 0 ≡ steps_of (deed_next run node ask)
next_counts run node ask =
    takes_counts (has_arrived node run) ask
    ∙ ap (λ (acts : List Act). steps_of (deed_by (has_arrived node acts) ask)) (sym (all_acts run))

pub left_is : (steps : Option ℕ) (run : List Act) (node : ℕ) (ask : Ask)
    → (spent_for steps run node ask ≡ false) ↔ HasStepsFor steps run node (deed_next run node ask)
left_is steps run node ask =
    let counted = steps_counted run node in
    let next = next_counts run node ask in
    let by' = enough steps (count_of costs node run) (takes_step (has_arrived node run) ask) in (
      (λ e. subst₂ (λ taken more. AreLeft steps taken more) counted next (by'.0 e)),
      λ has. by'.1 (subst₂ (λ taken more. AreLeft steps taken more) (sym counted) (sym next) has),
    )

never_used_up : (departs : ℕ) (acts : List Act) (lines : List ℕ) (ask : Ask) → coming_by departs acts lines ask ≡ StepsUsedUp → ⊥
never_used_up departs acts lines asks.Quiet is = let never : ⊥ = cc in never
never_used_up departs acts lines (asks.Print value) is = let never : ⊥ = cc in never
never_used_up departs acts lines (asks.Read word) is = let never : ⊥ = cc in never
never_used_up departs acts lines (asks.Write word value) is = let never : ⊥ = cc in never
never_used_up departs acts lines (asks.Acquire lock) is = let never : ⊥ = cc in never
never_used_up departs acts lines (asks.Release lock) is = let never : ⊥ = cc in never
never_used_up departs acts lines asks.Barrier is = let never : ⊥ = cc in never
never_used_up departs acts lines (asks.Trap cause) is = let never : ⊥ = cc in never
never_used_up departs acts lines asks.End is = let never : ⊥ = cc in never

-- what comes next, by whether the node has steps for it
abbrev pub coming_if : Bool → ℕ → List Act → List ℕ → Ask → Coming
coming_if spent departs acts lines ask = if spent then StepsUsedUp else coming_by departs acts lines ask

used_up_if : (spent : Bool) (departs : ℕ) (acts : List Act) (lines : List ℕ) (ask : Ask)
    → (coming_if spent departs acts lines ask ≡ StepsUsedUp) ↔ (spent ≡ true)
used_up_if true departs acts lines ask = (λ _. refl, λ _. refl)
used_up_if false departs acts lines ask = (λ is. absurd (never_used_up departs acts lines ask is), λ e. absurd (false≢true e))

pub used_up_is : (steps : Option ℕ) (run : List Act) (lines : List ℕ) (node : ℕ) (ask : Ask)
    → (coming_of steps run lines node ask ≡ StepsUsedUp) ↔ (HasStepsFor steps run node (deed_next run node ask) → ⊥)
used_up_is steps run lines node ask =
    let spent = spent_for steps run node ask in
    let at = used_up_if spent (count_of is_depart node run) run lines ask in
    let has = left_is steps run node ask in (
      (λ is enough'. both_ways spent (has.1 enough') (at.0 is)),
      λ no. at.1 (true_from_ne_false spent (λ e. no (has.0 e))),
    )

-- ---- the number of a barrier

number_by : (departs number : ℕ) (acts : List Act) (lines : List ℕ) (ask : Ask) → coming_by departs acts lines ask ≡ Barrier number
    → number ≡ departs + 1
number_by departs number acts lines asks.Barrier is = cc
number_by departs number acts lines asks.Quiet is = let never : ⊥ = cc in absurd never
number_by departs number acts lines (asks.Print value) is = let never : ⊥ = cc in absurd never
number_by departs number acts lines (asks.Read word) is = let never : ⊥ = cc in absurd never
number_by departs number acts lines (asks.Write word value) is = let never : ⊥ = cc in absurd never
number_by departs number acts lines (asks.Acquire lock) is = let never : ⊥ = cc in absurd never
number_by departs number acts lines (asks.Release lock) is = let never : ⊥ = cc in absurd never
number_by departs number acts lines (asks.Trap cause) is = let never : ⊥ = cc in absurd never
number_by departs number acts lines asks.End is = let never : ⊥ = cc in absurd never

number_if : (spent : Bool) (departs number : ℕ) (acts : List Act) (lines : List ℕ) (ask : Ask)
    → coming_if spent departs acts lines ask ≡ Barrier number → number ≡ departs + 1
number_if true departs number acts lines ask is = let never : ⊥ = cc in absurd never
number_if false departs number acts lines ask is = number_by departs number acts lines ask is

pub number_is : (steps : Option ℕ) (run : List Act) (lines : List ℕ) (node number : ℕ) (ask : Ask)
    → coming_of steps run lines node ask ≡ Barrier number → number ≡ departs_in run node + 1
number_is steps run lines node number ask is =
    number_if (spent_for steps run node ask) (count_of is_depart node run) number run lines ask is
    ∙ ap (λ (acts : List Act). count_of is_depart node acts + 1) (sym (all_acts run))

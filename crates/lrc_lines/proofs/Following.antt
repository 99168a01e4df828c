-- Where deeds lead a walk.
use Rattle.std.proofs.Common.{◌≡◌, ℕ, suc, ◌-◌, Bool, true, false, List, [], ◌∷◌, length, fold, Some, None, Result, Ok, Err, refl, sym, ap, ◌∙◌, arith}
use Rattle.std.specs.Prelude.{if◌then◌else◌, slice_get, OnOk}
use Rattle.std.proofs.lemmas.Option.{same_Some, slice_get-get_or}
use Rattle.lrc_trace.specs.declared.act.Deed.{Deed}
use Rattle.lrc_trace.specs.declared.act.Deed.TheVariants.{Quiet, Print, Read, Write, Acquire, Release, Arrive, Depart, Trap, End}
use Rattle.lrc_exec.specs.declared.machine.Ask.{Ask}
use Rattle.lrc_exec.specs.declared.machine.Ask.TheVariants as asks
use Rattle.lrc_exec.specs.Meaning.{Thread, next_of}
use Rattle.lrc_exec.specs.Ask.{ask_of, answered, TakesAnswer}
use Rattle.lrc_exec.specs.Condition.{condition_holds}
use Rattle.lrc_lines.specs.Tasks.{Task, passed}
use Rattle.lrc_lines.specs.Walks.{Walk, goes_on, onward, led}

-- a thread that goes on takes an answer
pub goes_takes : (a : Ask) → goes_on a ≡ true → TakesAnswer a
goes_takes asks.Quiet goes = tt
goes_takes (asks.Print v) goes = tt
goes_takes (asks.Read w) goes = tt
goes_takes (asks.Write w v) goes = tt
goes_takes (asks.Acquire l) goes = tt
goes_takes (asks.Release l) goes = tt
goes_takes asks.Barrier goes = tt
goes_takes (asks.Trap c) goes = cc
goes_takes asks.End goes = cc

-- a walk that has stopped stays
pub onward_stopped : (value : ℕ) (w : Walk) → goes_on (ask_of (next_of w.thread)) ≡ false → w ≡ onward value w
onward_stopped value w stops =
    sym (ap (λ b. if b then record { thread = answered value w.thread; todo = passed (condition_holds w.thread) w.todo } else w) stops)

walk_same : (t u : Thread) (x y : List Task) → t ≡ u → x ≡ y →
    ◌≡◌ {A = Walk} (record { thread = t; todo = x }) (record { thread = u; todo = y })
walk_same t u x y same_thread same_todo = cc

-- a walk that goes on
pub onward_going : (value : ℕ) (w : Walk) (t : Thread) (todo : List Task) (holds : Bool) → goes_on (ask_of (next_of w.thread)) ≡ true →
    t ≡ answered value w.thread → holds ≡ condition_holds w.thread → todo ≡ passed holds w.todo →
    ◌≡◌ {A = Walk} (record { thread = t; todo = todo }) (onward value w)
onward_going value w t todo holds goes thread_is holds_is todo_is =
    walk_same t (answered value w.thread) todo (passed (condition_holds w.thread) w.todo) thread_is (todo_is ∙ ap (λ b. passed b w.todo) holds_is)
    ∙ sym (ap (λ b. if b then record { thread = answered value w.thread; todo = passed (condition_holds w.thread) w.todo } else w) goes)

-- most deeds lead onward
pub led_onward : (w : Walk) (d : Deed) → (d ≡ Arrive → ⊥) → ((c : _) → d ≡ Trap c → ⊥) → (d ≡ End → ⊥) → ((word v : _) → d ≡ Read word v → ⊥) →
    onward 0 w ≡ led w d
led_onward w Quiet not_arrive not_trap not_end not_read = refl
led_onward w (Print v) not_arrive not_trap not_end not_read = refl
led_onward w (Read word v) not_arrive not_trap not_end not_read = absurd (not_read word v refl)
led_onward w (Write word v) not_arrive not_trap not_end not_read = refl
led_onward w (Acquire l) not_arrive not_trap not_end not_read = refl
led_onward w (Release l) not_arrive not_trap not_end not_read = refl
led_onward w Arrive not_arrive not_trap not_end not_read = absurd (not_arrive refl)
led_onward w Depart not_arrive not_trap not_end not_read = refl
led_onward w (Trap c) not_arrive not_trap not_end not_read = absurd (not_trap c refl)
led_onward w End not_arrive not_trap not_end not_read = absurd (not_end refl)

pub on_ok : {E A : Type 0} {P Q : Type 0} (r : Result A E) → (P → Q) → OnOk r P → OnOk r Q
on_ok (Ok x) f h = f h
on_ok (Err e) f h = tt

-- ---- the text's end

-- the last line is the text's end
pub end_of_last : (from line : ℕ) (lines : List ℕ) → slice_get lines (length lines - 1) ≡ Some line → fold (λ _ l. l) from lines ≡ line
end_of_last from line [] is = cc
end_of_last from line (x ∷ []) is =
    let place : length (x ∷ []) - 1 ≡ 0 = omega arith in
    same_Some x line (sym (ap (slice_get (x ∷ [])) place) ∙ is)
end_of_last from line (x ∷ y ∷ rest) is =
    let place : length (x ∷ y ∷ rest) - 1 ≡ suc (length (y ∷ rest) - 1) = omega arith in
    end_of_last x line (y ∷ rest) (sym (ap (slice_get (x ∷ y ∷ rest)) place) ∙ is)

pub end_of_none : (lines : List ℕ) → slice_get lines (length lines - 1) ≡ None → lines ≡ []
end_of_none [] is = refl
end_of_none (x ∷ rest) is =
    let there = slice_get-get_or (x ∷ rest) (length (x ∷ rest) - 1) x (omega arith) in
    cc

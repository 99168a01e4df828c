-- What a text begins, by what it asks for.
use Rattle.std.proofs.Common.{◌≡◌, ◌≤◌, ℕ, Bool, true, false, sym, ◌∙◌, ap, subst, refl}
use Rattle.std.specs.Prelude.{Option, Some, None, nat_le, option_map, if◌then◌else◌}
use Rattle.std.proofs.lemmas.Bool.{leb-true}
use Rattle.std.proofs.lemmas.Option.{same_Some}
use Rattle.lrc_exec.specs.declared.machine.Ask.{Ask}
use Rattle.lrc_exec.specs.declared.machine.Ask.TheVariants.{Quiet}
use Rattle.lrc_exec.specs.Ask.{ask_of, cost_asked, done, answered, TakesAnswer}
use Rattle.lrc_exec.specs.Meaning.{Thread, Next, quiet, prints, reads, writes, acquires, releases, arrives, departs, traps, ends, next_of}
use Rattle.lrc_exec.proofs.NextLaws.{IsFine, next_of-fine}
use Rattle.lrc_protocol.specs.Node.{Course, going, trapped, ended, cost_of, course_of}
use Rattle.lrc_protocol.specs.Turn.{begins_of, may_begin}
use Rattle.lrc_control.specs.declared.text.TextStanding.{TextStanding}
use Rattle.lrc_control.specs.declared.text.TextStanding.TheVariants.{Running, Arrived, Trapped, Ended}
use Rattle.lrc_control.specs.Text.{TextRecord, allowed_with, asked_in, cost_to_begin, course_in, gone_on}

pick : (allowed : Bool) (n : Next) → option_map ask_of (if allowed then Some n else None) ≡ (if allowed then Some (ask_of n) else None)
pick true n = refl
pick false n = refl

begins_by : (t : Thread) (n : Next) (left : ℕ) → t.arrived ≡ false → IsFine t n
    → option_map ask_of (if may_begin left n then Some n else None) ≡ allowed_with left (ask_of n)
begins_by t (quiet after) left past f = pick (nat_le 1 left) (quiet after)
begins_by t (prints v after) left past f = pick (nat_le 1 left) (prints v after)
begins_by t (reads w after) left past f = pick (nat_le 1 left) (reads w after)
begins_by t (writes w v after) left past f = pick (nat_le 1 left) (writes w v after)
begins_by t (acquires l after) left past f = pick (nat_le 1 left) (acquires l after)
begins_by t (releases l after) left past f = pick (nat_le 1 left) (releases l after)
begins_by t (arrives after) left past f = pick (nat_le 1 left) (arrives after)
begins_by t (departs after) left past f = let x : true ≡ false = sym f.0 ∙ past in cc
begins_by t (traps c) left past f = pick (nat_le 1 left) (traps c)
begins_by t ends left past f = pick (nat_le 0 left) ends

-- a thread that is not at a barrier begins what it asks for, if it has the steps
pub begins_next : (t : Thread) (left : ℕ) → t.arrived ≡ false
    → option_map ask_of (if may_begin left (next_of t) then Some (next_of t) else None) ≡ allowed_with left (ask_of (next_of t))
begins_next t left past = begins_by t (next_of t) left past (next_of-fine t)

-- ---- the price of what is begun

-- a step of this price is begun only where it is left, and costs what is asked for it
IsPaid : ℕ → Option Next → Ask → Type 0
IsPaid left begun ask = option_map ask_of begun ≡ Some ask → (cost_asked ask ≤ left) × (cost_to_begin begun ≡ cost_asked ask)

paid_if : (left : ℕ) (next : Next) (ask : Ask) (b : Bool) → b ≡ nat_le (cost_of next) left → cost_asked (ask_of next) ≡ cost_of next
    → IsPaid left (if b then Some next else None) ask
unfolding IsPaid
paid_if left next ask true fits same = λ e.
    let asked : ask_of next ≡ ask = same_Some _ _ e in
    let price : cost_asked ask ≡ cost_of next = sym (ap cost_asked asked) ∙ same in
    (subst (λ cost. cost ≤ left) (sym price) (leb-true (cost_of next) left (sym fits)), sym price)
paid_if left next ask false fits same = λ e. cc

nothing_paid : (left : ℕ) (ask : Ask) → IsPaid left None ask
unfolding IsPaid
nothing_paid left ask = λ e. cc

paid_next : (left : ℕ) (next : Next) (ask : Ask) → IsPaid left (if may_begin left next then Some next else None) ask
paid_next left (quiet after) ask = paid_if left (quiet after) ask (nat_le 1 left) refl refl
paid_next left (prints v after) ask = paid_if left (prints v after) ask (nat_le 1 left) refl refl
paid_next left (reads w after) ask = paid_if left (reads w after) ask (nat_le 1 left) refl refl
paid_next left (writes w v after) ask = paid_if left (writes w v after) ask (nat_le 1 left) refl refl
paid_next left (acquires l after) ask = paid_if left (acquires l after) ask (nat_le 1 left) refl refl
paid_next left (releases l after) ask = paid_if left (releases l after) ask (nat_le 1 left) refl refl
paid_next left (arrives after) ask = paid_if left (arrives after) ask (nat_le 1 left) refl refl
paid_next left (departs after) ask = nothing_paid left ask
paid_next left (traps c) ask = paid_if left (traps c) ask (nat_le 1 left) refl refl
paid_next left ends ask = paid_if left ends ask (nat_le 0 left) refl refl

-- what is begun is paid
pub begun_paid : (left : ℕ) (course : Course) (ask : Ask) → option_map ask_of (begins_of left course) ≡ Some ask
    → (cost_asked ask ≤ left) × (cost_to_begin (begins_of left course) ≡ cost_asked ask)
unfolding IsPaid
begun_paid left (going thread) ask e = paid_next left (next_of thread) ask e
begun_paid left (trapped c) ask e = cc
begun_paid left ended ask e = cc

-- ---- a step that only its own thread sees

-- it takes an answer
pub quiet_takes : (s : TextStanding) (t : Thread) → asked_in (course_in s t) ≡ Some Quiet → TakesAnswer (ask_of (next_of t))
quiet_takes Running t e = subst TakesAnswer (sym (same_Some _ _ e)) tt
quiet_takes Arrived t e = cc
quiet_takes (Trapped c) t e = cc
quiet_takes Ended t e = cc

answered_by : (t : Thread) (n : Next) → ask_of n ≡ Quiet → going (done 0 t n) ≡ course_of 0 n
answered_by t (quiet after) e = refl
answered_by t (prints v after) e = cc
answered_by t (reads w after) e = cc
answered_by t (writes w v after) e = cc
answered_by t (acquires l after) e = cc
answered_by t (releases l after) e = cc
answered_by t (arrives after) e = cc
answered_by t (departs after) e = cc
answered_by t (traps c) e = cc
answered_by t ends e = cc

answered_in : (s : TextStanding) (t : Thread) → asked_in (course_in s t) ≡ Some Quiet → course_in s (answered 0 t) ≡ gone_on 0 (course_in s t)
answered_in Running t e = answered_by t (next_of t) (same_Some _ _ e)
answered_in Arrived t e = cc
answered_in (Trapped c) t e = cc
answered_in Ended t e = cc

-- and the text stands where it stood
pub quiet_answered : (s : TextStanding) (t after : Thread) (left : ℕ) (text : TextRecord) → record { course = course_in s t; left = left } ≡ text
    → asked_in text.course ≡ Some Quiet → after ≡ answered 0 t
    → (let now : TextRecord = record { course = course_in s after; left = left } in now ≡ record text { course = gone_on 0 text.course })
quiet_answered s t after left text view e is =
    let asked : asked_in (course_in s t) ≡ Some Quiet = ap (λ (x : TextRecord). asked_in x.course) view ∙ e in
    let now : course_in s after ≡ gone_on 0 (course_in s t) = ap (course_in s) is ∙ answered_in s t asked in
    ap (λ course. record { course = course; left = left }) now
    ∙ ap (λ (x : TextRecord). record x { course = gone_on 0 x.course }) view

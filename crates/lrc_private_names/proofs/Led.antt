-- Where the acts of a run lead the thread of a node.
use Rattle.std.proofs.Common.{◌≡◌, ℕ, ◌+◌, ◌<◌, Bool, true, false, List, [], ◌∷◌, ◌++◌, length, get_or, take, refl, sym, ap, ◌∙◌}
use Rattle.std.specs.Prelude.{if◌then◌else◌}
use Rattle.std.proofs.lemmas.List.{take_more}
use Rattle.lrc_program.specs.declared.Program.{Program}
use Rattle.lrc_trace.specs.declared.act.Act.{Act}
use Rattle.lrc_trace.specs.declared.act.Deed.{Deed}
use Rattle.lrc_trace.specs.declared.act.Deed.TheVariants.{Quiet, Print, Read, Write, Acquire, Release, Arrive, Depart, Trap, End}
use Rattle.lrc_exec.specs.Ask.{ask_of}
use Rattle.lrc_exec.specs.Meaning.{Thread, next_of}
use Rattle.lrc_lines.specs.Walks.{Walk, goes_on, led, walk_behind}
use Rattle.lrc_lines.proofs.Several.{more_other, more_own}
use Rattle.lrc_private_names.specs.Standing.{thread_before}
use Rattle.lrc_private_names.specs.Ways.{thread_led}

thread-if : (b : Bool) (one other : Walk) → (if b then one else other).thread ≡ (if b then one.thread else other.thread)
thread-if true one other = refl
thread-if false one other = refl

-- the thread of a walk that is led
pub led-thread : (w : Walk) (d : Deed) → (led w d).thread ≡ thread_led w.thread d
led-thread w Quiet = thread-if (goes_on (ask_of (next_of w.thread))) _ w
led-thread w (Print v) = thread-if (goes_on (ask_of (next_of w.thread))) _ w
led-thread w (Read word v) = thread-if (goes_on (ask_of (next_of w.thread))) _ w
led-thread w (Write word v) = thread-if (goes_on (ask_of (next_of w.thread))) _ w
led-thread w (Acquire l) = thread-if (goes_on (ask_of (next_of w.thread))) _ w
led-thread w (Release l) = thread-if (goes_on (ask_of (next_of w.thread))) _ w
led-thread w Arrive = refl
led-thread w Depart = thread-if (goes_on (ask_of (next_of w.thread))) _ w
led-thread w (Trap cause) = refl
led-thread w End = refl

module _ (program : Program) (nodes : ℕ) (lines : List ℕ) (acts : List Act) (node at : ℕ) (act : Act) (within : at < length acts)
    (is : act ≡ get_or acts at act) where
  abbrev thread_behind : List Act → ℕ → Thread
  thread_behind before n = (walk_behind program nodes lines before n).thread

  one_more : take (at + 1) acts ≡ take at acts ++ act ∷ []
  one_more = take_more acts at act within ∙ ap (λ (a : Act). take at acts ++ a ∷ []) (sym is)

  pub own_step : act.node ≡ node
      → thread_before program nodes lines acts node (at + 1) ≡ thread_led (thread_before program nodes lines acts node at) act.deed
  own_step same =
      ap (λ l. thread_behind l node) one_more
      ∙ ap (thread_behind (take at acts ++ act ∷ [])) (sym same)
      ∙ ap (λ (w : Walk). w.thread) (more_own program nodes lines (take at acts) act)
      ∙ led-thread (walk_behind program nodes lines (take at acts) act.node) act.deed
      ∙ ap (λ n. thread_led (thread_behind (take at acts) n) act.deed) same

  pub other_step : (act.node ≡ node → ⊥) → thread_before program nodes lines acts node (at + 1) ≡ thread_before program nodes lines acts node at
  other_step other =
      ap (λ l. thread_behind l node) one_more ∙ ap (λ (w : Walk). w.thread) (more_other program nodes lines (take at acts) act node other)

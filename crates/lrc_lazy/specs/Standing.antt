-- The machine that makes lazy runs: the plain machine without its memory, and what each node knows of the writes.
use Rattle.std.specs.Prelude.{◌≡◌, ℕ, ◌+◌, ◌-◌, ◌<◌, ◌≤◌, Bool, false, Option, Some, None, List, [], ◌∷◌, if◌then◌else◌, length, map, slice_index}
use Rattle.lrc_program.specs.declared.Program.{Program}
use Rattle.lrc_trace.specs.declared.act.Act.{Act}
use Rattle.lrc_trace.specs.declared.act.Deed.{Deed}
use Rattle.lrc_trace.specs.declared.act.Deed.TheVariants.{Read}
use Rattle.lrc_trace.specs.Run.{arrives_before, departs_before}
use Rattle.lrc_exec.specs.Meaning.{Thread, next_of}
use Rattle.lrc_exec.specs.Plain.{Plain, thread_in, plain_step, start_of}
use Rattle.lrc_exec.specs.Follows.{Goes, deeds_of}
use Rattle.lrc_consistency_laws.specs.Matching.{Matches}
use Rattle.lrc_lazy.specs.Lazy.{IsLazyRun}
use Rattle.lrc_lazy_known.specs.declared.known.Knowledge.{Knowledge}
use Rattle.lrc_lazy_known.specs.declared.word.Effect.{Effect}
use Rattle.lrc_lazy_known.specs.Word.{Gives}
use Rattle.lrc_lazy_known.specs.Effect.{effect_of, word_of, IsKnowledgeOf, IsKnowledgeWithout, AreOf}

-- the machine with these words
abbrev pub with_memory : Plain → List ℕ → Plain
with_memory machine memory = record machine { memory = memory }

-- the machine where each node has arrived so often before
abbrev pub advanced : ℕ → Plain → Plain
advanced gone machine = record machine { arrivals = map (λ count. gone + count) machine.arrivals }

-- by these deeds a thread comes to where another stands, or it has stopped
pub data Comes : Option Thread → List Deed → Option Thread → Type 0 where
  there : {t : Option Thread} → Comes t [] t
  onward : {t : Thread} {d : Deed} {after last : Option Thread} {ds : List Deed} → Goes (next_of t) d after → Comes after ds last → Comes (Some t) (d ∷ ds) last

-- The acts are a lazy run, after which the machine, whatever its words, stands there, and this is kept of what is known. The first so many
-- barriers, from which all nodes have departed, are gone: the machine does not count them, and nothing is kept of them.
pub record Stands (program : Program) (nodes : ℕ) (acts : List Act) (machine : Plain) (knowledge : Knowledge) : Type 0 where
  pub run : IsLazyRun program nodes acts
  pub gone : ℕ
  pub departed : (n : ℕ) → n < nodes → gone ≤ departs_before acts n (length acts)
  pub memory : List ℕ
  pub matches : Matches acts (length acts) (with_memory (advanced gone machine) memory)
  pub long : length memory ≡ program.words
  pub holders : length machine.holders ≡ program.locks
  pub size : length machine.arrivals ≡ nodes
  pub leads : (n : ℕ) → n < nodes → Comes (Some (start_of program nodes n)) (deeds_of n acts) (thread_in machine n)
  pub stopped : (n : ℕ) → n < nodes → thread_in machine n ≡ None → departs_before acts n (length acts) ≡ arrives_before acts n (length acts)
  pub are : AreOf nodes program.locks acts
  pub known : IsKnowledgeOf nodes program.locks gone acts knowledge

-- how often a node has departed: as often as it has arrived, or once less where it waits
abbrev pub is_waiting : Option Thread → Bool
is_waiting None = false
is_waiting (Some thread) = thread.arrived

abbrev pub departures_of : Plain → (node : ℕ) → ℕ
departures_of machine node = slice_index machine.arrivals node - (if is_waiting (thread_in machine node) then 1 else 0)

-- so many barriers more, from which all nodes have departed, are gone
pub record IsRenewed (nodes locks : ℕ) (machine : Plain) (knowledge : Knowledge) (left : Plain) (kept : Knowledge) : Type 0 where
  pub count : ℕ
  pub departed : (n : ℕ) → n < nodes → count ≤ departures_of machine n
  pub is : machine ≡ advanced count left
  pub known : IsKnowledgeWithout (nodes + locks) count knowledge kept

-- the effect of a node's deed where it has arrived so often: at a depart it has departed once less
abbrev pub effect_at : (nodes locks : ℕ) → Plain → (node : ℕ) → Deed → Effect
effect_at nodes locks machine node deed =
    effect_of nodes locks (slice_index machine.arrivals node) (slice_index machine.arrivals node - 1) node deed

-- a node's read gives what it may
abbrev pub MayGive : Knowledge → (node : ℕ) → Deed → Type 0
MayGive knowledge node deed = (w v : ℕ) → deed ≡ Read w v → Gives (word_of knowledge w) node v

-- with some words the machine makes the deed, and a read gives what it may
pub record CanMake (words : ℕ) (machine : Plain) (knowledge : Knowledge) (node : ℕ) (deed : Deed) : Type 0 where
  pub memory : List ℕ
  pub long : length memory ≡ words
  pub after : Plain
  pub made : plain_step (with_memory machine memory) node ≡ Some (deed, after)
  pub gives : MayGive knowledge node deed

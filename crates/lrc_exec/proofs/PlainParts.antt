-- What an answer keeps of a thread, and what is there that a deed names.
use Rattle.std.proofs.Common.{◌≡◌, ℕ, ◌<◌, Bool, true, false, length, Option}
use Rattle.std.proofs.Common.{Some, None, refl, sym, subst, ⊎_elim}
use Rattle.std.specs.Prelude.{IsSome, option_map, option_and_then, slice_index, if◌then◌else◌}
use Rattle.std.proofs.lemmas.Bool.{cases_lt}
use Rattle.std.proofs.lemmas.List.{get_or_past}
use Rattle.lrc_exec.specs.Meaning.{Thread, Next, quiet, prints, reads, writes, acquires, releases, arrives, departs, traps, ends, next_of}
use Rattle.lrc_exec.specs.Ask.{done, answered}
use Rattle.lrc_exec.specs.Plain.{Plain, thread_in, nobody_holds, all_arrived, deed_done, plain_step}
use Rattle.lrc_trace.specs.declared.act.Deed.{Deed}
use Rattle.lrc_trace.specs.declared.act.Deed.TheVariants.{Quiet, Print, Read, Write, Acquire, Release, Arrive, Depart, Trap, End}
use Rattle.lrc_exec.proofs.NextLaws.{IsFine, next_of-fine}

-- an answer keeps the setting
done_setting : (value : ℕ) (thread : Thread) (next : Next) → IsFine thread next → (done value thread next).setting ≡ thread.setting
done_setting value thread (quiet after) fine = fine.1.setting
done_setting value thread (prints printed after) fine = fine.1.setting
done_setting value thread (reads word after) fine = (fine.1 value).1.setting
done_setting value thread (writes word written after) fine = fine.1.1.setting
done_setting value thread (acquires lock after) fine = fine.3.setting
done_setting value thread (releases lock after) fine = fine.3.setting
done_setting value thread (arrives after) fine = fine.1.setting
done_setting value thread (departs after) fine = fine.1.setting
done_setting value thread (traps cause) fine = refl
done_setting value thread ends fine = refl

pub setting-answered : (value : ℕ) (thread : Thread) → (answered value thread).setting ≡ thread.setting
setting-answered value thread = done_setting value thread (next_of thread) (next_of-fine thread)

none_is_no : IsSome {T = Thread} None → ⊥
none_is_no e = cc

-- what a thread's setting says of what a deed names
abbrev pub Fits : Thread → Deed → Type 0
Fits thread (Write word value) = word < thread.setting.words
Fits thread (Acquire lock) = lock < thread.setting.locks
Fits thread (Release lock) = lock < thread.setting.locks
Fits thread deed = Unit {0}

-- what holds of a step that is taken where a test is met holds of the step that is taken
pub where_true : {X : Type 0} (P : X → Type 0) (test : Bool) {x s : X} → P x → (if test then Some x else None) ≡ Some s → P s
where_true P true {x = x} {s = s} h e = let is : x ≡ s = cc in subst P is h
where_true P false h e = cc

deed_if : {A B : Type 0} (test : Bool) (a : A) (b : B) (d : A) → option_map (λ (s : A × B). s.0) (if test then Some (a, b) else None) ≡ Some d → a ≡ d
deed_if true a b d e = cc
deed_if false a b d e = cc

deed_fits : (machine : Plain) (node : ℕ) (thread : Thread) (next : Next) → IsFine thread next → (d : Deed)
    → option_map (λ step. step.0) (deed_done machine node next) ≡ Some d → Fits thread d
deed_fits machine node thread (quiet after) fine d e = let is : Quiet ≡ d = cc in subst (Fits thread) is tt
deed_fits machine node thread (prints value after) fine d e = let is : Print value ≡ d = cc in subst (Fits thread) is tt
deed_fits machine node thread (reads word after) fine d e = let is : Read word (slice_index machine.memory word) ≡ d = cc in subst (Fits thread) is tt
deed_fits machine node thread (writes word value after) fine d e = let is : Write word value ≡ d = cc in subst (Fits thread) is fine.0
deed_fits machine node thread (acquires lock after) fine d e = subst (Fits thread) (deed_if (nobody_holds machine lock) (Acquire lock) _ d e) fine.0
deed_fits machine node thread (releases lock after) fine d e = let is : Release lock ≡ d = cc in subst (Fits thread) is fine.0
deed_fits machine node thread (arrives after) fine d e = let is : Arrive ≡ d = cc in subst (Fits thread) is tt
deed_fits machine node thread (departs after) fine d e = subst (Fits thread) (deed_if (all_arrived machine node) Depart _ d e) tt
deed_fits machine node thread (traps cause) fine d e = let is : Trap cause ≡ d = cc in subst (Fits thread) is tt
deed_fits machine node thread ends fine d e = let is : End ≡ d = cc in subst (Fits thread) is tt

step_fits : (machine : Plain) (node : ℕ) (o : Option Thread) (d : Deed)
    → option_map (λ step. step.0) (option_and_then (λ thread. deed_done machine node (next_of thread)) o) ≡ Some d → (thread : Thread) × (o ≡ Some thread)
    × Fits thread d
step_fits machine node None d e = cc
step_fits machine node (Some thread) d e = (thread, refl, deed_fits machine node thread (next_of thread) (next_of-fine thread) d e)

-- a node that can do a deed has a thread, and what the deed names is there
pub step-fits : (machine : Plain) (node : ℕ) (d : Deed) → option_map (λ step. step.0) (plain_step machine node) ≡ Some d → (thread : Thread)
    × (thread_in machine node ≡ Some thread) × Fits thread d
step-fits machine node d e = step_fits machine node (thread_in machine node) d e

-- a node with a thread is one of the nodes
pub thread_within : (machine : Plain) (node : ℕ) (thread : Thread) → thread_in machine node ≡ Some thread → node < length machine.threads
thread_within machine node thread is =
    ⊎_elim (λ inside. inside)
    (λ past. absurd (none_is_no (subst IsSome (get_or_past machine.threads node None past) (subst IsSome (sym is) refl))))
    (cases_lt node (length machine.threads))

-- Threads that come to the same place go on alike, and no deed of a thread is out of the program's range.
use Rattle.std.proofs.Common.{◌≡◌, ℕ, ◌<◌, List, [], ◌∷◌, ◌++◌, refl, sym, subst, ap, ◌∙◌}
use Rattle.std.specs.Prelude.{Option, Some, None}
use Rattle.std.proofs.lemmas.Option.{none-some, same_Some}
use Rattle.lrc_program.specs.declared.Program.{Program}
use Rattle.lrc_trace.specs.declared.act.Act.{Act}
use Rattle.lrc_trace.specs.declared.act.Deed.{Deed}
use Rattle.lrc_trace.specs.declared.act.Deed.TheVariants.{Read, Write, Acquire, Release}
use Rattle.lrc_exec.specs.Meaning.{Setting, Thread, Next, next_of}
use Rattle.lrc_exec.specs.Plain.{start_of}
use Rattle.lrc_exec.specs.Follows.{FollowsText, Goes, quietly, printing, reading, writing, acquiring, releasing, arriving, departing, trapping, ending, Makes, and_then, deeds_of}
use Rattle.lrc_exec.proofs.NextLaws.{IsFine, next_of-fine}
use Rattle.lrc_orders.specs.Notes.{notes_of}
use Rattle.lrc_lazy.specs.Standing.{Comes, there, onward}
use Rattle.lrc_exact_states.specs.Goes.{IsTextAlike}
use Rattle.lrc_exact_states.specs.Key.{after_next, thread_after}

-- ---- where a thread is

goes_is : {next : Next} {deed : Deed} {after : Option Thread} → Goes next deed after → after_next next deed ≡ after
goes_is quietly = refl
goes_is printing = refl
goes_is reading = refl
goes_is writing = refl
goes_is acquiring = refl
goes_is releasing = refl
goes_is arriving = refl
goes_is departing = refl
goes_is trapping = refl
goes_is ending = refl

-- what a thread makes more, it makes from where it is
makes_on : (deeds more : List Deed) (thread : Option Thread) → Makes thread (deeds ++ more) → Makes (thread_after deeds thread) more
makes_on [] more thread makes = makes
makes_on (deed ∷ deeds) more (Some t) (and_then goes makes) =
    makes_on deeds more (after_next (next_of t) deed) (subst (λ (o : Option Thread). Makes o (deeds ++ more)) (sym (goes_is goes)) makes)
makes_on (deed ∷ deeds) more None makes = elim makes [ ]

makes_back : (deeds more : List Deed) (thread : Option Thread) → Makes thread deeds → Makes (thread_after deeds thread) more → Makes thread (deeds ++ more)
makes_back [] more thread makes later = later
makes_back (deed ∷ deeds) more (Some t) (and_then {after = after} goes makes) later =
    and_then goes (makes_back deeds more after makes (subst (λ (o : Option Thread). Makes (thread_after deeds o) more) (goes_is goes) later))
makes_back (deed ∷ deeds) more None makes later = elim makes [ ]

-- where its deeds lead it
pub comes_is : (deeds : List Deed) (thread last : Option Thread) → Comes thread deeds last → thread_after deeds thread ≡ last
comes_is [] thread last there = refl
comes_is (deed ∷ deeds) (Some t) last (onward {after = after} goes comes) =
    ap (thread_after deeds) (goes_is goes) ∙ comes_is deeds after last comes
comes_is (deed ∷ deeds) None last comes = elim comes [ ]

module _ (program : Program) (nodes : ℕ) where
  abbrev pub thread_of : List Act → ℕ → Option Thread
  thread_of run node = thread_after (deeds_of node run) (Some (start_of program nodes node))

  -- so do the threads of two runs
  pub texts_alike : (run run' : List Act) → FollowsText program nodes run → FollowsText program nodes run'
      → ((node : ℕ) → node < nodes → thread_of run node ≡ thread_of run' node) → notes_of nodes run ≡ notes_of nodes run' → IsTextAlike program nodes run run'
  texts_alike run run' follows follows' same notes = record {
    makes = λ node lt more. (
      λ makes. makes_back (deeds_of node run') more (Some (start_of program nodes node)) (follows'.each node lt)
          (subst (λ (o : Option Thread). Makes o more) (same node lt) (makes_on (deeds_of node run) more (Some (start_of program nodes node)) makes)),
      λ makes. makes_back (deeds_of node run) more (Some (start_of program nodes node)) (follows.each node lt)
          (subst (λ (o : Option Thread). Makes o more) (sym (same node lt)) (makes_on (deeds_of node run') more (Some (start_of program nodes node)) makes)),
    );
    notes = notes;
  }

-- ---- words and locks in range

abbrev pub IsWithin : (words locks : ℕ) → Deed → Type 0
IsWithin words locks (Read word value) = word < words
IsWithin words locks (Write word value) = word < words
IsWithin words locks (Acquire lock) = lock < locks
IsWithin words locks (Release lock) = lock < locks
IsWithin words locks deed = Unit {0}

record IsNextWithin (setting : Setting) (deed : Deed) (after : Option Thread) : Type 0 where
  within : IsWithin setting.words setting.locks deed
  still : (thread : Thread) → after ≡ Some thread → thread.setting ≡ setting

module _ (t : Thread) where
  kept : (after thread : Thread) → after.setting ≡ t.setting → ◌≡◌ {A = Option Thread} (Some after) (Some thread) → thread.setting ≡ t.setting
  kept after thread same is = subst (λ (x : Thread). x.setting ≡ t.setting) (same_Some after thread is) same

  none_kept : (thread : Thread) → ◌≡◌ {A = Option Thread} None (Some thread) → thread.setting ≡ t.setting
  none_kept thread is = absurd (none-some thread is)

  goes_within : {next : Next} {deed : Deed} {after : Option Thread} → IsFine t next → Goes next deed after → IsNextWithin t.setting deed after
  goes_within fine (quietly {t = u}) = record { within = tt; still = λ x is. kept u x fine.1.setting is }
  goes_within fine (printing {t = u}) = record { within = tt; still = λ x is. kept u x fine.1.setting is }
  goes_within fine (reading {t = u} {v = v}) = record { within = fine.0; still = λ x is. kept (u v) x (fine.1 v).1.setting is }
  goes_within fine (writing {t = u}) = record { within = fine.0; still = λ x is. kept u x fine.1.1.setting is }
  goes_within fine (acquiring {t = u}) = record { within = fine.0; still = λ x is. kept u x fine.3.setting is }
  goes_within fine (releasing {t = u}) = record { within = fine.0; still = λ x is. kept u x fine.3.setting is }
  goes_within fine (arriving {t = u}) = record { within = tt; still = λ x is. kept u x fine.1.setting is }
  goes_within fine (departing {t = u}) = record { within = tt; still = λ x is. kept u x fine.1.setting is }
  goes_within fine trapping = record { within = tt; still = λ x is. none_kept x is }
  goes_within fine ending = record { within = tt; still = λ x is. none_kept x is }

-- the last of the deeds that a thread makes
pub last_within : (setting : Setting) (o : Option Thread) (deeds : List Deed) (deed : Deed) → Makes o (deeds ++ deed ∷ [])
    → ((thread : Thread) → o ≡ Some thread → thread.setting ≡ setting) → IsWithin setting.words setting.locks deed
last_within setting None [] deed makes same = elim makes [ ]
last_within setting None (first ∷ deeds) deed makes same = elim makes [ ]
last_within setting (Some t) [] deed (and_then goes makes) same =
    subst (λ (s : Setting). IsWithin s.words s.locks deed) (same t refl) (goes_within t (next_of-fine t) goes).within
last_within setting (Some t) (first ∷ deeds) deed (and_then {after = after} goes makes) same =
    last_within setting after deeds deed makes (λ x is. (goes_within t (next_of-fine t) goes).still x is ∙ same t refl)

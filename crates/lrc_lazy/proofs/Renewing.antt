-- The machine stands there too where more barriers are gone.
use Rattle.std.proofs.Common.{◌≡◌, ℕ, ◌+◌, ◌-◌, ◌<◌, ◌≤◌, List, Bool, true, false, length, refl, sym, subst, ◌∙◌, ap, arith}
use Rattle.std.specs.Prelude.{Option, Some, None, if◌then◌else◌, slice_index}
use Rattle.std.proofs.lemmas.List.{length-map}
use Rattle.lrc_program.specs.declared.Program.{Program}
use Rattle.lrc_trace.specs.declared.act.Act.{Act}
use Rattle.lrc_trace.specs.Run.{arrives_before, departs_before}
use Rattle.lrc_exec.specs.Meaning.{Thread}
use Rattle.lrc_exec.specs.Plain.{Plain, thread_in, start_of}
use Rattle.lrc_exec.specs.Follows.{deeds_of}
use Rattle.lrc_consistency_laws.specs.Matching.{Matches, IsPaired}
use Rattle.lrc_lazy_known.specs.declared.known.Knowledge.{Knowledge}
use Rattle.lrc_lazy_known.proofs.Dropping.{knowledge_without}
use Rattle.lrc_lazy.specs.Standing.{advanced, with_memory, is_waiting, Comes, IsRenewed, Stands}
use Rattle.lrc_lazy.proofs.Advancing.{advanced_twice, count_moved}

module _ (program : Program) (nodes : ℕ) (acts : List Act) (machine : Plain) (knowledge : Knowledge) (s : Stands program nodes acts machine knowledge) where
  -- how often a node has arrived
  pub arrived : (n : ℕ) → n < nodes → arrives_before acts n (length acts) ≡ s.gone + slice_index machine.arrivals n
  arrived n lt =
      let size = s.size in
      let within : n < length machine.arrivals = omega arith in
      let long = length-map machine.arrivals (λ count. s.gone + count) in
      sym (s.matches.arrivals n (omega (arith, within, long))) ∙ count_moved s.gone machine n within

  paired_departed : (n count : ℕ) (waits : Bool) → n < nodes → IsPaired waits (arrives_before acts n (length acts)) (departs_before acts n (length acts))
      → count ≤ slice_index machine.arrivals n - (if waits then 1 else 0) → s.gone + count ≤ departs_before acts n (length acts)
  paired_departed n count true lt paired few = let a = arrived n lt in let d = s.departed n lt in omega (arith, a, d, paired, few)
  paired_departed n count false lt paired few = let a = arrived n lt in omega (arith, a, paired, few)

  module _ (left : Plain) (kept : Knowledge) (r : IsRenewed nodes program.locks machine knowledge left kept) where
    departed_too : (n : ℕ) → n < nodes → (o : Option Thread) → thread_in machine n ≡ o → s.gone + r.count ≤ departs_before acts n (length acts)
    departed_too n lt None at =
        paired_departed n r.count false lt (sym (s.stopped n lt at))
        (subst (λ o. r.count ≤ slice_index machine.arrivals n - (if is_waiting o then 1 else 0)) at (r.departed n lt))
    departed_too n lt (Some t) at =
        paired_departed n r.count t.arrived lt (s.matches.threads n t at).paired
        (subst (λ o. r.count ≤ slice_index machine.arrivals n - (if is_waiting o then 1 else 0)) at (r.departed n lt))

    pub stands_renewed : Stands program nodes acts left kept
    stands_renewed = record {
      run = s.run;
      gone = s.gone + r.count;
      departed = λ n lt. departed_too n lt (thread_in machine n) refl;
      memory = s.memory;
      matches = subst (λ (m : Plain). Matches acts (length acts) (with_memory m s.memory)) (ap (advanced s.gone) r.is ∙ advanced_twice s.gone r.count left)
          s.matches;
      long = s.long;
      holders = sym (ap (λ (m : Plain). length m.holders) r.is) ∙ s.holders;
      size = sym (ap (λ (m : Plain). length m.arrivals) r.is ∙ length-map left.arrivals (λ count. r.count + count)) ∙ s.size;
      leads = λ n lt. subst (λ o. Comes (Some (start_of program nodes n)) (deeds_of n acts) o) (ap (λ (m : Plain). thread_in m n) r.is) (s.leads n lt);
      stopped = λ n lt none. s.stopped n lt (ap (λ (m : Plain). thread_in m n) r.is ∙ none);
      are = s.are;
      known = knowledge_without nodes program.locks s.gone r.count acts knowledge kept s.are s.known r.known;
    }

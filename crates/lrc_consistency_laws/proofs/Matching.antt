-- The plain machine between two acts, against the acts that were made so far, and after one act more.
use Rattle.std.proofs.Common.{◌≡◌, ℕ, ◌+◌, ◌<◌, List, Bool, true, false, inl, inr, length, sym, subst, ◌∙◌, ap}
use Rattle.std.specs.Prelude.{Option, Some, None, slice_index, slice_index_or, slice_set}
use Rattle.std.proofs.lemmas.Bool.{cases_eq}
use Rattle.std.proofs.lemmas.List.{get_or-set_same, get_or-set_other}
use Rattle.lrc_trace.specs.declared.act.Act.{Act}
use Rattle.lrc_trace.specs.declared.act.Deed.{Deed}
use Rattle.lrc_trace.specs.Run.{Does, is_arrive, is_depart, arrives_before, departs_before}
use Rattle.lrc_trace.specs.Synchronization.{Holds}
use Rattle.lrc_trace.proofs.Intervals.{count_of-same}
use Rattle.lrc_trace.proofs.Holding.{Holds-kept}
use Rattle.lrc_exec.specs.Meaning.{Thread, holds}
use Rattle.lrc_exec.specs.Plain.{Plain, thread_in}
use Rattle.lrc_consistency_laws.specs.Matching.{IsPaired, ThreadFits, Matches}

module _ (run : List Act) (j node : ℕ) (d : Deed) (here : Does run j node d) where
  -- the counts of arrives and departs after an act
  pub arrives-same : (n : ℕ) → (node ≡ n → is_arrive d ≡ true → ⊥) → arrives_before run n (j + 1) ≡ arrives_before run n j
  arrives-same n h = count_of-same is_arrive run n j node d here h

  pub departs-same : (n : ℕ) → (node ≡ n → is_depart d ≡ true → ⊥) → departs_before run n (j + 1) ≡ departs_before run n j
  departs-same n h = count_of-same is_depart run n j node d here h

  -- the thread of another node, in a machine with as many words and locks
  other_fits : (machine after : Plain) (n : ℕ) (t : Thread) → length after.memory ≡ length machine.memory → length after.holders ≡ length machine.holders
      → (n ≡ node → ⊥) → ThreadFits run j machine n t → ThreadFits run (j + 1) after n t
  other_fits machine after n t m h other f = record {
    words = f.words ∙ sym m;
    locks = f.locks ∙ sym h;
    paired = let arrived = arrives-same n (λ e x. other (sym e)) in let departed = departs-same n (λ e x. other (sym e)) in
        subst (λ a. IsPaired t.arrived a (departs_before run n (j + 1))) (sym arrived)
        (subst (λ b. IsPaired t.arrived (arrives_before run n j) b) (sym departed) f.paired);
    held = λ l e. Holds-kept run j node d here n l (λ e' x. other e') (f.held l e);
  }

  -- the threads after an act: this node's is the new one, and the others fit as before
  pub threads_after : (machine after : Plain) (t : Option Thread) → length after.memory ≡ length machine.memory → length after.holders ≡ length machine.holders
      → after.threads ≡ slice_set machine.threads node t → node < length machine.threads
      → Matches run j machine → ((t' : Thread) → t ≡ Some t' → ThreadFits run (j + 1) after node t') → (n : ℕ) (t' : Thread) → thread_in after n ≡ Some t'
      → ThreadFits run (j + 1) after n t'
  threads_after machine after t m h e within before new n t' at = elim (cases_eq n node) [
    | inl same ↦
        let there : thread_in after n ≡ t = ap (λ ts. slice_index_or ts n None) e ∙ ap (λ k. slice_index_or (slice_set machine.threads node t) k None) same
        ∙ get_or-set_same machine.threads node t None within in
        subst (λ k. ThreadFits run (j + 1) after k t') (sym same) (new t' (sym there ∙ at))
    | inr other ↦
        let there : thread_in after n ≡ thread_in machine n = ap (λ ts. slice_index_or ts n None) e ∙ get_or-set_other machine.threads node n t None other in
        other_fits machine after n t' m h other (before.threads n t' (sym there ∙ at))
  ]

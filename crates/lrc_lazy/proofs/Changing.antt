-- Two neighbouring acts of a lazy run change places.
use Rattle.std.proofs.Common.{◌≡◌, ℕ, List, [], ◌∷◌, ◌++◌, sym, subst, append_assoc}
use Rattle.std.specs.Prelude.{◌↔◌}
use Rattle.lrc_program.specs.declared.Program.{Program}
use Rattle.lrc_trace.specs.declared.act.Act.{Act}
use Rattle.lrc_exec.specs.Follows.{FollowsText}
use Rattle.lrc_lazy.specs.Lazy.{IsLazyRun, IsOver}
use Rattle.lrc_lazy.specs.Swapped.{pair, MayComeFirst}
use Rattle.lrc_lazy.proofs.Synchronized.{synchronized_then, may_go_on_then}
use Rattle.lrc_lazy.proofs.Both.{lazily_both}
use Rattle.lrc_lazy.proofs.Deeds.{follows_moved}

module _ (program : Program) (nodes : ℕ) where
  pub run_changed : (front : List Act) (first second : Act) (rest : List Act) → IsLazyRun program nodes (pair front first second rest)
      → MayComeFirst nodes front first second → IsLazyRun program nodes (pair front second first rest)
  run_changed front first second rest run m = record {
    follows = follows_moved front first second rest m.apart program nodes run.follows;
    synchronized = synchronized_then nodes front first second rest run.synchronized m;
    lazily = (lazily_both nodes front first second rest run.synchronized m).0 run.lazily;
  }

  -- one act more
  module _ (front : List Act) (first second : Act) (rest : List Act) (apart : first.node ≡ second.node → ⊥) where
    follows_more : (act : Act) → FollowsText program nodes (pair front first second rest ++ act ∷ [])
        → FollowsText program nodes (pair front second first rest ++ act ∷ [])
    follows_more act follows =
        subst (FollowsText program nodes) (sym (append_assoc front (second ∷ first ∷ rest) (act ∷ [])))
        (follows_moved front first second (rest ++ act ∷ []) apart program nodes
        (subst (FollowsText program nodes) (append_assoc front (first ∷ second ∷ rest) (act ∷ [])) follows))

  pub over_changed : (front : List Act) (first second : Act) (rest : List Act) → (first.node ≡ second.node → ⊥)
      → IsOver program nodes (pair front first second rest) → IsOver program nodes (pair front second first rest)
  over_changed front first second rest apart over act next =
      let apart_too : second.node ≡ first.node → ⊥ = λ e. apart (sym e) in
      over act (record {
        follows = follows_more front second first rest apart_too act next.follows;
        may = may_go_on_then nodes front second first rest apart_too act next.may;
      })

  pub over_both : (front : List Act) (first second : Act) (rest : List Act) → MayComeFirst nodes front first second
      → IsOver program nodes (pair front first second rest) ↔ IsOver program nodes (pair front second first rest)
  over_both front first second rest m =
      (over_changed front first second rest m.apart, over_changed front second first rest (λ e. m.apart (sym e)))

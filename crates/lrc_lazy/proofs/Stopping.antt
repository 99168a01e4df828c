-- Where each node has stopped or waits, no node can act.
use Rattle.std.proofs.Common.{◌≡◌, ℕ, zero, suc, List, [], ◌∷◌, ◌++◌, length, inl, inr, refl, subst, arith}
use Rattle.std.specs.Prelude.{Option, Some, None}
use Rattle.std.proofs.lemmas.Bool.{cases_eq}
use Rattle.std.proofs.lemmas.Option.{same_Some}
use Rattle.lrc_program.specs.declared.Program.{Program}
use Rattle.lrc_trace.specs.declared.act.Act.{Act}
use Rattle.lrc_trace.specs.declared.act.Cause.{Cause}
use Rattle.lrc_trace.specs.declared.act.Deed.{Deed}
use Rattle.lrc_trace.specs.declared.act.Deed.TheVariants.{Acquire, Depart, Trap, End}
use Rattle.lrc_trace.specs.Run.{Does, act_of}
use Rattle.lrc_trace.proofs.Positions.{Does-within, Does-last}
use Rattle.lrc_exec.specs.Meaning.{Thread, Next, next_of}
use Rattle.lrc_exec.specs.Plain.{start_of}
use Rattle.lrc_exec.specs.Follows.{Goes, trapping, ending, Makes, deeds_of, FollowsText}
use Rattle.lrc_consistency_laws.specs.Kinds.{SameKind, same}
use Rattle.lrc_consistency_laws.proofs.Runs.{makes_first, deeds_of-own, deeds_of-other}
use Rattle.lrc_consistency_laws.proofs.UpToRace.{in_range}
use Rattle.lrc_lazy.specs.Lazy.{MayComeNext, IsOver, HasStopped, ended, trapped, Waits, for_lock, at_barrier, AllHaveStoppedOrWait}
use Rattle.lrc_lazy.proofs.Onward.{deeds_more-own}
use Rattle.lrc_lazy.proofs.Deeds.{kind_next}

acquire_kind : {l : ℕ} {d : Deed} → SameKind (Acquire l) d → d ≡ Acquire l
acquire_kind same = refl

depart_kind : {d : Deed} → SameKind Depart d → d ≡ Depart
depart_kind same = refl

-- ---- a thread that has stopped makes no deed

abbrev Stops : Deed → Type 0
Stops s = (n : Next) (after : Option Thread) → Goes n s after → after ≡ None

end_stops : (n : Next) (after : Option Thread) → Goes n End after → after ≡ None
end_stops n after ending = refl

trap_stops : (cause : Cause) (n : Next) (after : Option Thread) → Goes n (Trap cause) after → after ≡ None
trap_stops cause n after trapping = refl

none_made : (ds : List Deed) (d : Deed) → Makes None (ds ++ d ∷ []) → ⊥
none_made [] d m = elim m [ ]
none_made (x ∷ ds) d m = elim m [ ]

module _ (node : ℕ) (last d : Deed) (stops : Stops last) where
  none_after : (o : Option Thread) (acts : List Act) (i : ℕ) → Does acts i node last → Makes o (deeds_of node acts ++ d ∷ []) → ⊥
  none_after o [] i does m = let within = Does-within does in absurd (omega arith)
  none_after o (x ∷ acts) zero does m =
      let here : x ≡ act_of node last = same_Some x (act_of node last) does.stands in
      let own : Makes o (last ∷ deeds_of node acts ++ d ∷ []) =
      subst (λ ds. Makes o (ds ++ d ∷ [])) (deeds_of-own (act_of node last) acts) (subst (λ (y : Act). Makes o (deeds_of node (y ∷ acts) ++ d ∷ [])) here m) in
      let first = makes_first own in
      none_made (deeds_of node acts) d (subst (λ t. Makes t (deeds_of node acts ++ d ∷ [])) (stops (next_of first.thread) first.after first.goes) first.more)
  none_after o (x ∷ acts) (suc i) does m =
      let later : Does acts i node last = record { stands = does.stands } in
      elim (cases_eq x.node node) [
        | inl own ↦
            let is : deeds_of node (x ∷ acts) ≡ x.deed ∷ deeds_of node acts =
            subst (λ k. deeds_of k (x ∷ acts) ≡ x.deed ∷ deeds_of k acts) own (deeds_of-own x acts) in
            let first = makes_first (subst (λ ds. Makes o (ds ++ d ∷ [])) is m) in
            none_after first.after acts i later first.more
        | inr other ↦ none_after o acts i later (subst (λ ds. Makes o (ds ++ d ∷ [])) (deeds_of-other x acts node other) m)
      ]

-- ---- no act may come next

module _ (program : Program) (nodes : ℕ) (acts : List Act) where
  -- the deeds of the act's node
  makes_next : (act : Act) → FollowsText program nodes (acts ++ act ∷ [])
      → Makes (Some (start_of program nodes act.node)) (deeds_of act.node acts ++ act.deed ∷ [])
  makes_next act follows =
      subst (λ ds. Makes (Some (start_of program nodes act.node)) ds) (deeds_more-own act.node acts act.deed)
      (follows.each act.node (in_range follows (length acts) act.node act.deed (Does-last acts act)))

  stopped_no_more : (act : Act) → MayComeNext program nodes acts act → HasStopped acts act.node → ⊥
  stopped_no_more act next (ended {i = i} does) =
      none_after act.node End act.deed end_stops (Some (start_of program nodes act.node)) acts i does (makes_next act next.follows)
  stopped_no_more act next (trapped {i = i} {cause = cause} does) =
      none_after act.node (Trap cause) act.deed (trap_stops cause) (Some (start_of program nodes act.node)) acts i does (makes_next act next.follows)

  waits_no_more : (act : Act) → MayComeNext program nodes acts act → Waits program nodes acts act.node → ⊥
  waits_no_more act next (for_lock {lock = lock} {other = other} follows holds) =
      let kind = kind_next (deeds_of act.node acts) (Acquire lock) act.deed (makes_next (act_of act.node (Acquire lock)) follows)
      (makes_next act next.follows) in
      next.may.acquires lock (acquire_kind kind) other holds
  waits_no_more act next (at_barrier {other = other} follows lt behind) =
      let kind = kind_next (deeds_of act.node acts) Depart act.deed (makes_next (act_of act.node Depart) follows) (makes_next act next.follows) in
      let more = next.may.departs (depart_kind kind) other lt in
      absurd (omega (arith, behind, more))

  pub stopped_over : AllHaveStoppedOrWait program nodes acts → IsOver program nodes acts
  stopped_over all act next =
      elim (all act.node (in_range next.follows (length acts) act.node act.deed (Does-last acts act))) [
        | inl stopped ↦ stopped_no_more act next stopped
        | inr waits ↦ waits_no_more act next waits
      ]

-- Of two runs that read by one local rule, and in which the nodes act in one order, the shorter begins the longer.
use Rattle.std.proofs.Common.{◌≡◌, ℕ, zero, suc, ◌+◌, ◌<◌, ◌≤◌, List, [], ◌∷◌, ◌++◌, length, take, drop, inl, inr, refl, sym, subst, ap, ◌∙◌, arith}
use Rattle.std.proofs.Common.{add-one}
use Rattle.std.specs.Prelude.{Some, slice_get}
use Rattle.std.proofs.lemmas.Bool.{cases_lt}
use Rattle.std.proofs.lemmas.List.{take_all, take-take, take-append-drop, length-map}
use Rattle.std.proofs.lemmas.Option.{same_Some, slice_get_within}
use Rattle.lrc_program.specs.declared.Program.{Program}
use Rattle.lrc_trace.specs.declared.act.Act.{Act}
use Rattle.lrc_trace.specs.declared.act.Deed.{Deed}
use Rattle.lrc_trace.specs.declared.act.Deed.TheVariants.{Read}
use Rattle.lrc_trace.specs.Run.{Does, act_of, is_arrive, is_depart, count_of}
use Rattle.lrc_trace.proofs.Positions.{slice_get-front, Does-node, Does-deed}
use Rattle.lrc_trace.proofs.Intervals.{act_at}
use Rattle.lrc_exec.specs.Plain.{start_of}
use Rattle.lrc_exec.specs.Follows.{Makes, deeds_of, nodes_of_acts}
use Rattle.lrc_exact.specs.LocalRule.{LocalRule}
use Rattle.lrc_exact.proofs.LocalRules.{AreAlike, before-same, after-same}
use Rattle.lrc_exact_laws.specs.Order.{Begins}
use Rattle.lrc_exact_laws.proofs.Deeds.{taken, deeds_of-split}
use Rattle.lrc_exact_laws.proofs.Threads.{next_deeds}
use Rattle.lrc_exact_laws.proofs.Deciding.{IsRuled}

node-there-of : (node : ℕ) (deed : Deed) (acts : List Act) (k : ℕ) → slice_get acts k ≡ Some (act_of node deed) → slice_get (nodes_of_acts acts) k ≡ Some node
node-there-of node deed [] k e = let within = slice_get_within [] k (act_of node deed) e in absurd (omega arith)
node-there-of node deed (a ∷ acts) zero e = ap (λ (x : Act). Some x.node) (same_Some a (act_of node deed) e)
node-there-of node deed (a ∷ acts) (suc k) e = node-there-of node deed acts k e

node-there : (run : List Act) (j node : ℕ) (deed : Deed) → Does run j node deed → slice_get (nodes_of_acts run) j ≡ Some node
node-there run j node deed h = node-there-of node deed run j h.stands

slice_get-take : {A : Type 0} → (xs : List A) (n k : ℕ) → k < n → slice_get (take n xs) k ≡ slice_get xs k
slice_get-take xs zero k lt = absurd (omega arith)
slice_get-take [] (suc n) k lt = refl
slice_get-take (x ∷ xs) (suc n) zero lt = refl
slice_get-take (x ∷ xs) (suc n) (suc k) lt = slice_get-take xs n k (omega arith)

module _ {S : Type 0} (rule : LocalRule S) (value : S → ℕ → ℕ) (program : Program) (nodes : ℕ) (run run' : List Act) (states states' : List S)
    (first : IsRuled rule value program nodes run states) (second : IsRuled rule value program nodes run' states')
    (rest : List ℕ) (order : nodes_of_acts run ++ rest ≡ nodes_of_acts run') where
  -- up to a position the acts and the states are the same
  record AreSame (n : ℕ) : Type 0 where
    acts : take n run ≡ take n run'
    states_same : (k : ℕ) → k < n → slice_get states k ≡ slice_get states' k

  -- the same node acts in both
  acts_too : (j node : ℕ) (deed : Deed) → Does run j node deed → (e : Deed) × Does run' j node e
  acts_too j node deed does =
      let stands = node-there run j node deed does in
      let within = slice_get_within (nodes_of_acts run) j node stands in
      let there : slice_get (nodes_of_acts run') j ≡ Some node =
      ap (λ xs. slice_get xs j) (sym order) ∙ slice_get-front (nodes_of_acts run) rest j within ∙ stands in
      let within' = slice_get_within (nodes_of_acts run') j node there in
      let long = length-map run' (λ (a : Act). a.node) in
      let (act, does') = act_at run' j (omega arith) in
      let own : act.node ≡ node = same_Some act.node node (sym (node-there run' j act.node act.deed does') ∙ there) in
      (act.deed, Does-node own does')

  module _ (n : ℕ) (same : AreSame n) where
    alike : AreAlike run run' states states' n
    alike = record {
      acts = λ k lt. sym (slice_get-take run n k lt) ∙ ap (λ xs. slice_get xs k) same.acts ∙ slice_get-take run' n k lt;
      arrives = λ node k lt.
          ap (count_of is_arrive node) (sym (take-take k n run (omega arith)) ∙ ap (take k) same.acts ∙ take-take k n run' (omega arith));
      departs = λ node. ap (count_of is_depart node) same.acts;
      states_same = same.states_same;
    }

    same_deed : (node : ℕ) (d e : Deed) → Does run n node d → Does run' n node e → d ≡ e
    same_deed node d e here there =
        let lt = first.keeps.in_range n node d here in
        let start = start_of program nodes node in
        let made : Makes (Some start) (deeds_of node (take n run) ++ d ∷ deeds_of node (drop (n + 1) run)) =
        subst (λ ds. Makes (Some start) ds) (deeds_of-split run n node d here) (first.follows.each node lt) in
        let made' : Makes (Some start) (deeds_of node (take n run) ++ e ∷ deeds_of node (drop (n + 1) run')) =
        subst (λ ds. Makes (Some start) ds)
        (deeds_of-split run' n node e there ∙ ap (λ xs. deeds_of node xs ++ e ∷ deeds_of node (drop (n + 1) run')) (sym same.acts))
        (second.follows.each node lt) in
        elim (next_deeds (Some start) (deeds_of node (take n run)) d e (deeds_of node (drop (n + 1) run)) (deeds_of node (drop (n + 1) run')) made made') [
          | inl equal ↦ equal
          | inr (w, u, v, is, is') ↦
              let a = first.reads n node w u (Does-deed is here) in
              let b = second.reads n node w v (Does-deed is' there) in
              is ∙ ap (λ x. Read w x) (a ∙ ap (λ s. value s w) (before-same rule run run' states states' n alike node) ∙ sym b) ∙ sym is'
        ]

    further : n < length run → AreSame (n + 1)
    further within =
        let (act, here) = act_at run n within in
        let (e, there) = acts_too n act.node act.deed here in
        let deed = same_deed act.node act.deed e here there in
        let there' : Does run' n act.node act.deed = Does-deed (sym deed) there in
        record {
          acts = taken run n act.node act.deed here ∙ ap (λ xs. xs ++ act_of act.node act.deed ∷ []) same.acts
              ∙ sym (taken run' n act.node act.deed there');
          states_same = λ k lt.
              elim (cases_lt k n) [
                | inl less ↦ same.states_same k less
                | inr most ↦
                    let last : k ≡ n = omega arith in
                    ap (λ m. slice_get states m) last
                    ∙ first.keeps.follows n act.node act.deed here
                    ∙ ap (λ s. Some s) (after-same rule run run' states states' n alike act.node act.deed)
                    ∙ sym (second.keeps.follows n act.node act.deed there')
                    ∙ ap (λ m. slice_get states' m) (sym last)
              ];
        }

  same_up_to : (n : ℕ) → n ≤ length run → AreSame n
  same_up_to zero le = record { acts = refl; states_same = λ k lt. absurd (omega arith) }
  same_up_to (suc n) le = subst AreSame (add-one n) (further n (same_up_to n (omega arith)) (omega arith))

  pub order_decides : Begins run run'
  order_decides =
      let same = same_up_to (length run) (omega arith) in (
        drop (length run) run',
        ap (λ xs. xs ++ drop (length run) run') (sym (take_all (length run) run (omega arith)) ∙ same.acts)
            ∙ take-append-drop (length run) run',
      )

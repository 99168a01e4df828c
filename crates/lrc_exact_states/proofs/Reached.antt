-- Runs that are reached and have equal keys stand alike.
use Rattle.std.proofs.Common.{◌≡◌, ℕ, ◌≤◌, List, [], ◌∷◌, ◌++◌, length, inl, inr, sym, subst, ap, arith}
use Rattle.std.specs.Prelude.{Some}
use Rattle.std.proofs.lemmas.Option.{same_Some}
use Rattle.lrc_program.specs.declared.Program.{Program}
use Rattle.lrc_trace.specs.declared.act.Act.{Act}
use Rattle.lrc_trace.specs.declared.act.Deed.{Deed}
use Rattle.lrc_trace.specs.Run.{Does}
use Rattle.lrc_trace.proofs.Positions.{Does-cases, Does-last, Does-within}
use Rattle.lrc_exec.specs.Meaning.{Thread}
use Rattle.lrc_exec.specs.Plain.{setting_of, start_of}
use Rattle.lrc_exec.specs.Follows.{deeds_of, Makes}
use Rattle.lrc_consistency_laws.proofs.UpToRace.{in_range}
use Rattle.lrc_lazy.proofs.Onward.{deeds_more-own}
use Rattle.lrc_exact.specs.Rule.{Shape, State, exact_rule, KeepsExact}
use Rattle.lrc_exact.proofs.LocalRules.{one_list}
use Rattle.lrc_exact_laws.specs.Laws.{IsExactRun}
use Rattle.lrc_exact_states.specs.Runs.{Base}
use Rattle.lrc_exact_states.specs.Goes.{AreAlike}
use Rattle.lrc_exact_states.specs.Searched.{begins, goes_on, IsReached}
use Rattle.lrc_exact_states.specs.Key.{Key, key_of}
use Rattle.lrc_exact_states.proofs.By.{AreAlikeBy}
use Rattle.lrc_exact_states.proofs.Keys.{keys_stand_alike}
use Rattle.lrc_exact_states.proofs.Listed.{each_same}
use Rattle.lrc_exact_states.proofs.Selves.{stands_alone}
use Rattle.lrc_exact_states.proofs.Texts.{IsWithin, last_within, texts_alike, thread_of}

module _ (program : Program) (shape : Shape) where
  -- what the last act touches is in range
  act_within : (run : List Act) (act : Act) → IsExactRun program shape (run ++ act ∷ []) → IsWithin program.words program.locks act.deed
  act_within run act longer =
      last_within (setting_of program shape.nodes act.node) (Some (start_of program shape.nodes act.node)) (deeds_of act.node run) act.deed
      (subst (λ ds. Makes (Some (start_of program shape.nodes act.node)) ds) (deeds_more-own act.node run act.deed)
      (longer.follows.each act.node (in_range longer.follows (length run) act.node act.deed (Does-last run act))))
      (λ thread is. sym (ap (λ (t : Thread). t.setting) (same_Some (start_of program shape.nodes act.node) thread is)))

  -- so is what any act touches
  all_within : (run : List Act) (base : Base) → IsReached program shape run base → (j q : ℕ) (deed : Deed) → Does run j q deed
      → IsWithin program.words program.locks deed
  all_within run base begins j q deed does = let lt = Does-within does in absurd (omega (arith, lt))
  all_within run base (goes_on {run = before} {before = old} act reached longer from) j q deed does = elim (Does-cases does) [
    | inl (lt, earlier) ↦ all_within before old reached j q deed earlier
    | inr (last, own, is) ↦ subst (IsWithin program.words program.locks) is (act_within before act longer)
  ]

  module _ (calm : shape.collect ≡ 0) (cap : ℕ) (some : 1 ≤ cap) where
    itself : (run : List Act) (base : Base) (states : List State) → IsReached program shape run base → KeepsExact shape run states
        → AreAlikeBy program shape cap base base run run states states
    itself run base states reached keeps =
        let s = stands_alone program shape calm run base reached in
        let a = s.alike cap some in
        let same : s.states ≡ states = one_list (exact_rule shape) shape.nodes run s.states states a.alike.keeps keeps in
        subst (λ ss. AreAlikeBy program shape cap base base run run ss ss) same a

    pub keys_alike : (base base' : Base) (run run' : List Act) (states states' : List State) → IsReached program shape run base → IsReached program shape run' base'
        → KeepsExact shape run states → KeepsExact shape run' states' → key_of program shape cap base run states ≡ key_of program shape cap base' run' states'
        → AreAlike program shape cap base base' run run' states states'
    keys_alike base base' run run' states states' reached reached' keeps keeps' same =
        let a = itself run base states reached keeps in
        let b = itself run' base' states' reached' keeps' in
        record {
          exact = a.exact;
          exact' = b.exact;
          text = texts_alike program shape.nodes run run' a.exact.follows b.exact.follows
              (λ node lt.
              each_same (thread_of program shape.nodes run) (thread_of program shape.nodes run') 0 shape.nodes (ap (λ (k : Key). k.threads) same) node (omega arith)
              (omega (arith, lt))) (ap (λ (k : Key). k.notes) same);
          alike = keys_stand_alike program shape calm cap base base' run run' states states' a.alike b.alike (all_within run base reached)
              (all_within run' base' reached') same;
        }

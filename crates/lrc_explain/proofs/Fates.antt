-- How a node ended, by what its acts did.
use Rattle.std.proofs.Common.{◌≡◌, ◌∙◌, ◌↔◌, ◌⊎◌, ℕ, zero, suc, inl, inr, List, [], ◌∷◌, ap, fold, refl, sym}
use Rattle.std.specs.Prelude.{◌==◌, if◌then◌else◌}
use Rattle.std.proofs.lemmas.Bool.{cases_eq, eq-eqb, ne_eqb}
use Rattle.std.proofs.lemmas.Option.{none-some, same_Some}
use Rattle.lrc_trace.specs.declared.act.Act.{Act}
use Rattle.lrc_trace.specs.declared.act.Cause.{Cause}
use Rattle.lrc_trace.specs.declared.act.Deed.{Deed}
use Rattle.lrc_trace.specs.declared.act.Deed.TheVariants.{Trap, End}
use Rattle.lrc_trace.specs.Run.{Does, act_of}
use Rattle.lrc_trace.proofs.Positions.{Does-deed, Does-node}
use Rattle.lrc_explain_waits.specs.declared.stand.Fate.{Fate}
use Rattle.lrc_explain_waits.specs.declared.stand.Fate.TheVariants.{Ended, Trapped, Unfinished}
use Rattle.lrc_explain_waits.specs.Stand.{fate_after, fate_of}
use Rattle.lrc_explain.specs.Waiting.{IsUnfinished}

-- what an act of the node does to its fate
abbrev fated : (node : ℕ) → Fate → Act → Fate
fated node fate act = if act.node == node then fate_after fate act.deed else fate

own : (node : ℕ) (fate : Fate) (act : Act) → act.node ≡ node → fated node fate act ≡ fate_after fate act.deed
own node fate act same = ap (λ b. if b then fate_after fate act.deed else fate) (eq-eqb act.node node same)

foreign : (node : ℕ) (fate : Fate) (act : Act) → (act.node ≡ node → ⊥) → fated node fate act ≡ fate
foreign node fate act other = ap (λ b. if b then fate_after fate act.deed else fate) (ne_eqb act.node node other)

-- what is done among the others is done by the whole list, one position later; the first act is done first
Does-later : {act : Act} {acts : List Act} {j node : ℕ} {deed : Deed} → Does acts j node deed → Does (act ∷ acts) (suc j) node deed
Does-later d = record { stands = d.stands }

Does-first : (act : Act) (acts : List Act) (node : ℕ) (deed : Deed) → act.node ≡ node → act.deed ≡ deed → Does (act ∷ acts) 0 node deed
Does-first act acts node deed same is =
    let here : Does (act ∷ acts) 0 act.node act.deed = record { stands = refl } in Does-node same (Does-deed is here)

none_done : (act : Act) (acts : List Act) (node : ℕ) (deed : Deed) → (act.node ≡ node → act.deed ≡ deed → ⊥)
    → ((j : ℕ) → Does acts j node deed → ⊥) → (j : ℕ) → Does (act ∷ acts) j node deed → ⊥
none_done act acts node deed first rest zero d =
    let is : act ≡ act_of node deed = same_Some act (act_of node deed) d.stands in
    first (ap (λ (a : Act). a.node) is) (ap (λ (a : Act). a.deed) is)
none_done act acts node deed first rest (suc j) d = rest j (record { stands = d.stands })

-- ---- unfinished

record Leaves (fate : Fate) (deed : Deed) : Type 0 where
  before : fate ≡ Unfinished
  no_trap : (cause : Cause) → deed ≡ Trap cause → ⊥
  no_end : deed ≡ End → ⊥

leaves : (fate : Fate) (deed : Deed) → fate_after fate deed ≡ Unfinished → Leaves fate deed
leaves fate (Trap cause) is = let never : ⊥ = cc in absurd never
leaves fate End is = let never : ⊥ = cc in absurd never
leaves fate deed is = record { before = is; no_trap = λ c e. let never : ⊥ = cc in never; no_end = λ e. let never : ⊥ = cc in never }

left : (deed : Deed) → ((cause : Cause) → deed ≡ Trap cause → ⊥) → (deed ≡ End → ⊥) → fate_after Unfinished deed ≡ Unfinished
left (Trap cause) no_trap no_end = absurd (no_trap cause refl)
left End no_trap no_end = absurd (no_end refl)
left deed no_trap no_end = refl

unfinished_first : (node : ℕ) (act : Act) (acts : List Act) (fate : Fate) → fated node fate act ≡ Unfinished → IsUnfinished acts node
    → (fate ≡ Unfinished) × IsUnfinished (act ∷ acts) node
unfinished_first node act acts fate is rest =
    elim (cases_eq act.node node) [
      | inl same ↦
          let at : Leaves fate act.deed = leaves fate act.deed (sym (own node fate act same) ∙ is) in (
            at.before,
            record {
              no_trap = λ j cause. none_done act acts node (Trap cause) (λ _ e. at.no_trap cause e) (λ k. rest.no_trap k cause) j;
              no_end = λ j. none_done act acts node End (λ _ e. at.no_end e) (λ k. rest.no_end k) j;
            },
          )
      | inr other ↦ (
        sym (foreign node fate act other) ∙ is,
        record {
          no_trap = λ j cause. none_done act acts node (Trap cause) (λ e _. other e) (λ k. rest.no_trap k cause) j;
          no_end = λ j. none_done act acts node End (λ e _. other e) (λ k. rest.no_end k) j;
        },
      )
    ]

unfinished_from : (node : ℕ) (acts : List Act) (fate : Fate) → fold (fated node) fate acts ≡ Unfinished
    → (fate ≡ Unfinished) × IsUnfinished acts node
unfinished_from node [] fate is = (
  is,
  record {
    no_trap = λ j cause d. none-some (act_of node (Trap cause)) d.stands;
    no_end = λ j d. none-some (act_of node End) d.stands;
  },
)
unfinished_from node (act ∷ acts) fate is =
    let (first, rest) = unfinished_from node acts (fated node fate act) is in unfinished_first node act acts fate first rest

unfinished_to : (node : ℕ) (acts : List Act) → IsUnfinished acts node → fold (fated node) Unfinished acts ≡ Unfinished
unfinished_to node [] u = refl
unfinished_to node (act ∷ acts) u =
    let first : fated node Unfinished act ≡ Unfinished =
    elim (cases_eq act.node node) [
      | inl same ↦
          own node Unfinished act same
          ∙ left act.deed (λ cause e. u.no_trap 0 cause (Does-first act acts node (Trap cause) same e))
          (λ e. u.no_end 0 (Does-first act acts node End same e))
      | inr other ↦ foreign node Unfinished act other
    ] in
    ap (λ f. fold (fated node) f acts) first
    ∙ unfinished_to node acts (record {
      no_trap = λ j cause d. u.no_trap (suc j) cause (Does-later d);
      no_end = λ j d. u.no_end (suc j) (Does-later d);
    })

pub unfinished_is : (run : List Act) (node : ℕ) → (fate_of node run ≡ Unfinished) ↔ IsUnfinished run node
unfinished_is run node = (λ is. (unfinished_from node run Unfinished is).1, unfinished_to node run)

-- ---- ended, or trapped

module _ (node : ℕ) (said : Fate) (by' : Deed)
    (only : (fate : Fate) (deed : Deed) → fate_after fate deed ≡ said → (fate ≡ said) ⊎ (deed ≡ by')) where
  done_from : (acts : List Act) (fate : Fate) → fold (fated node) fate acts ≡ said → (fate ≡ said) ⊎ ((j : ℕ) × Does acts j node by')
  done_from [] fate is = inl is
  done_from (act ∷ acts) fate is =
      elim (done_from acts (fated node fate act) is) [
        | inr (j, d) ↦ inr (suc j, Does-later d)
        | inl first ↦
            elim (cases_eq act.node node) [
              | inl same ↦
                  elim (only fate act.deed (sym (own node fate act same) ∙ first)) [
                    | inl before ↦ inl before
                    | inr did ↦ inr (0, Does-first act acts node by' same did)
                  ]
              | inr other ↦ inl (sym (foreign node fate act other) ∙ first)
            ]
      ]

  done_of : (run : List Act) → (Unfinished ≡ said → ⊥) → fate_of node run ≡ said → (j : ℕ) × Does run j node by'
  done_of run other is = elim (done_from run Unfinished is) [ inl same ↦ absurd (other same) | inr did ↦ did ]

only_end : (fate : Fate) (deed : Deed) → fate_after fate deed ≡ Ended → (fate ≡ Ended) ⊎ (deed ≡ End)
only_end fate (Trap cause) is = let never : ⊥ = cc in absurd never
only_end fate End is = inr refl
only_end fate deed is = inl is

only_trap : (cause : Cause) (fate : Fate) (deed : Deed) → fate_after fate deed ≡ Trapped cause
    → (fate ≡ Trapped cause) ⊎ (deed ≡ Trap cause)
only_trap cause fate (Trap c) is = let same : c ≡ cause = cc in inr (ap (λ x. Trap x) same)
only_trap cause fate End is = let never : ⊥ = cc in absurd never
only_trap cause fate deed is = inl is

pub ended_did : (run : List Act) (node : ℕ) → fate_of node run ≡ Ended → (j : ℕ) × Does run j node End
ended_did run node = done_of node Ended End only_end run (λ e. let never : ⊥ = cc in never)

pub trapped_did : (run : List Act) (node : ℕ) (cause : Cause) → fate_of node run ≡ Trapped cause → (j : ℕ) × Does run j node (Trap cause)
trapped_did run node cause = done_of node (Trapped cause) (Trap cause) (only_trap cause) run (λ e. let never : ⊥ = cc in never)

-- Acts that lead to states.
use Rattle.std.proofs.Common.{◌≡◌, ℕ, List, [], ◌∷◌, ◌++◌, length, sym, subst, ◌∙◌, ap}
use Rattle.lrc_program.specs.declared.Program.{Program}
use Rattle.lrc_trace.specs.declared.act.Act.{Act}
use Rattle.lrc_trace.specs.declared.act.Deed.{Deed}
use Rattle.lrc_trace.specs.Run.{act_of}
use Rattle.lrc_trace.proofs.Positions.{Does-last}
use Rattle.lrc_exec.specs.declared.spot.Flat.{Flat}
use Rattle.lrc_exec.specs.Plain.{Plain}
use Rattle.lrc_consistency_laws.proofs.UpToRace.{in_range}
use Rattle.lrc_exec.specs.States.{IsFirst}
use Rattle.lrc_orders.specs.Notes.{notes_with}
use Rattle.lrc_exec.specs.States.{plain_at}
use Rattle.lrc_orders.proofs.Noting.{notes_more}
use Rattle.lrc_lazy_known.specs.Effect.{IsKnowledgeAfter, word_of}
use Rattle.lrc_lazy.specs.Standing.{CanMake, IsRenewed, Stands, effect_at}
use Rattle.lrc_lazy.proofs.Beginning.{first_notes, stands_first}
use Rattle.lrc_lazy.proofs.Renewing.{stands_renewed}
use Rattle.lrc_lazy.proofs.Stepping.{over_there, stands_on}
use Rattle.lrc_lazy_search.specs.declared.state.LazyState.{LazyState}
use Rattle.lrc_lazy_search.specs.Searching.{IsFresh, Steps}
use Rattle.lrc_lazy_run.specs.declared.sought.Sought.{Sought}
use Rattle.lrc_lazy_run.specs.Ended.{IsEndedLazyRun}
use Rattle.lrc_lazy_run.specs.Ways.{IsSought, LeadsTo}

-- no acts lead to the beginning
pub leads_first : (sought : Sought) (key : LazyState) → IsSought sought → IsFirst sought.flat sought.start key.state
    → ((word : ℕ) → word_of key.knowledge word ≡ []) → key.notes.items ≡ [] → LeadsTo sought.program.now sought.flat [] key
leads_first sought key is first nothing none =
    let machine = first.begun ∙ is.begun in
    record {
      stands = subst (λ (m : Plain). Stands sought.program.now sought.flat.nodes [] m key.knowledge) (sym machine)
          (stands_first sought.program.now sought.flat.nodes key.knowledge nothing);
      noted = first_notes sought.flat.nodes ∙ sym none;
    }

module _ (program : Program) (flat : Flat) (words : flat.words ≡ program.words) (locks : flat.locks ≡ program.locks) where
  -- one act more
  pub leads_on : (acts : List Act) (key after : LazyState) (node : ℕ) (deed : Deed) → LeadsTo program flat acts key → Steps flat key node deed after
      → LeadsTo program flat (acts ++ act_of node deed ∷ []) after
  leads_on acts key after node deed l steps =
      let act = act_of node deed in
      let effect = subst (λ n. IsKnowledgeAfter (effect_at flat.nodes n (plain_at flat key.state) node deed) key.knowledge after.knowledge) locks steps.effect in
      let stands = stands_on program flat.nodes acts (plain_at flat key.state) key.knowledge l.stands node deed steps.makes.memory steps.makes.later
      (plain_at flat after.state) after.knowledge steps.makes.made steps.gives effect in
      let lt = in_range stands.run.follows (length acts) node deed (Does-last acts act) in
      record {
        stands = stands;
        noted = notes_more flat.nodes acts act lt ∙ ap (λ notes. notes_with notes act) l.noted ∙ sym steps.notes;
      }

  -- without the barriers that are gone
  pub leads_fresh : (acts : List Act) (key after : LazyState) → LeadsTo program flat acts key → IsFresh flat key after → LeadsTo program flat acts after
  leads_fresh acts key after l fresh = record {
    stands = stands_renewed program flat.nodes acts (plain_at flat key.state) key.knowledge l.stands (plain_at flat after.state) after.knowledge
        (subst (λ n. IsRenewed flat.nodes n (plain_at flat key.state) key.knowledge (plain_at flat after.state) after.knowledge) locks fresh.renewed);
    noted = l.noted ∙ sym fresh.notes;
  }

  -- acts that lead to where no node can act are a lazy run that has ended
  pub ended_there : (acts : List Act) (key : LazyState) (notes : List Act) → LeadsTo program flat acts key
      → ((node : ℕ) (deed : Deed) → ¬ CanMake flat.words (plain_at flat key.state) key.knowledge node deed) → key.notes.items ≡ notes
      → IsEndedLazyRun program flat.nodes notes acts
  ended_there acts key notes l none is = record {
    run = l.stands.run;
    over = over_there program flat.nodes acts (plain_at flat key.state) key.knowledge l.stands (λ node deed can.
        none node deed (subst (λ n. CanMake n (plain_at flat key.state) key.knowledge node deed) (sym words) can));
    are = l.noted ∙ is;
  }

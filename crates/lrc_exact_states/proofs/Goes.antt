-- Of two exact runs that stand alike, each goes on with what the other does.
use Rattle.std.proofs.Common.{◌≡◌, ℕ, zero, suc, ◌<◌, List, [], ◌∷◌, ◌++◌, length, refl, sym, subst, ap, ◌∙◌, arith, append_assoc}
use Rattle.std.specs.Prelude.{◌↔◌, All, Some}
use Rattle.std.proofs.lemmas.List.Elements.{All-append}
use Rattle.lrc_program.specs.declared.Program.{Program}
use Rattle.lrc_trace.specs.declared.act.Act.{Act}
use Rattle.lrc_trace.specs.declared.act.Deed.{Deed}
use Rattle.lrc_trace.specs.declared.act.Deed.TheVariants.{Read}
use Rattle.lrc_trace.specs.Synchronization.{MayGoOn}
use Rattle.lrc_trace.proofs.Positions.{Does-deed, Does-last, Does-within}
use Rattle.lrc_trace.proofs.Prefixes.{IsWellSynchronized-more, MayGoOn-last}
use Rattle.lrc_exec.specs.Plain.{start_of}
use Rattle.lrc_exec.specs.Follows.{FollowsText, Makes, deeds_of}
use Rattle.lrc_consistency_laws.proofs.UpToRace.{in_range}
use Rattle.lrc_orders.specs.Notes.{notes_with}
use Rattle.lrc_orders.proofs.Noting.{notes_more}
use Rattle.lrc_lazy.specs.Lazy.{IsOver}
use Rattle.lrc_lazy.proofs.Deeds.{deeds_joined}
use Rattle.lrc_lazy.proofs.Following.{stands_first}
use Rattle.lrc_exact.specs.LocalRule.{state_after}
use Rattle.lrc_exact.specs.Rule.{Shape, State, exact_rule, exact_value, KeepsExact}
use Rattle.lrc_exact.proofs.LocalRules.{before-same, keeps-more, one_list, prefix-alike}
use Rattle.lrc_exact_laws.specs.Laws.{IsExactRun}
use Rattle.lrc_exact_judge.proofs.Reading.{reads-more, reads-none}
use Rattle.lrc_exact_states.specs.Goes.{IsTextAlike}
use Rattle.lrc_exact_states.specs.Runs.{Base, here, IsDecidedDeed}
use Rattle.lrc_exact_states.proofs.By.{AreAlikeBy}
use Rattle.lrc_exact_states.proofs.Chains.{runs_then}
use Rattle.lrc_exact_states.proofs.Runs.{may_alike, may_back, runs_more}

module _ (program : Program) (nodes : ℕ) where
  abbrev Begins : ℕ → List Deed → Type 0
  Begins n ds = Makes (Some (start_of program nodes n)) ds

  text_on : (run run' : List Act) (act : Act) → act.node < nodes
      → ((n : ℕ) → n < nodes → (more : List Deed) → Begins n (deeds_of n run ++ more) → Begins n (deeds_of n run' ++ more)) → FollowsText program nodes run'
      → FollowsText program nodes (run ++ act ∷ []) → FollowsText program nodes (run' ++ act ∷ [])
  text_on run run' act lt makes before follows = record {
    in_range = All-append (λ (x : Act). x.node < nodes) run' (act ∷ []) before.in_range one;
    each = λ n less.
        subst (λ ds. Begins n ds) (sym (deeds_joined n run' (act ∷ [])))
        (makes n less (deeds_of n (act ∷ [])) (subst (λ ds. Begins n ds) (deeds_joined n run (act ∷ [])) (follows.each n less)));
  }
    where
      one : All (λ (x : Act). x.node < nodes) (act ∷ [])
      one zero d less = lt
      one (suc k) d less = absurd (omega (arith, less))

  -- with one act more the texts still go on alike
  pub text_more : (run run' : List Act) (act : Act) → act.node < nodes → IsTextAlike program nodes run run' → IsTextAlike program nodes (run ++ act ∷ []) (run' ++ act ∷ [])
  text_more run run' act lt t = record {
    makes = λ n less more.
        let one = deeds_of n (act ∷ []) in
        let is = ap (λ ds. ds ++ more) (deeds_joined n run (act ∷ [])) ∙ append_assoc (deeds_of n run) one more in
        let is' = ap (λ ds. ds ++ more) (deeds_joined n run' (act ∷ [])) ∙ append_assoc (deeds_of n run') one more in
        let both = t.makes n less (one ++ more) in (
          λ m. subst (λ ds. Begins n ds) (sym is') (both.0 (subst (λ ds. Begins n ds) is m)),
          λ m. subst (λ ds. Begins n ds) (sym is) (both.1 (subst (λ ds. Begins n ds) is' m)),
        );
    notes = notes_more nodes run act lt ∙ ap (λ ns. notes_with ns act) t.notes ∙ sym (notes_more nodes run' act lt);
  }

module _ (program : Program) (shape : Shape) where
  abbrev Exact : List Act → Type 0
  Exact run = IsExactRun program shape run

  -- the run without acts
  pub none_yet : Exact []
  none_yet = record {
    follows = (stands_first program shape.nodes).follows;
    synchronized = record {
      acquires = λ j n l does. let lt = Does-within does in absurd (omega arith);
      releases = λ j n l does. let lt = Does-within does in absurd (omega arith);
      departs = λ j n does. let lt = Does-within does in absurd (omega arith);
    };
    exact = reads-none shape;
  }

  -- one way
  goes_there : (run run' : List Act) (states states' : List State) → KeepsExact shape run states → KeepsExact shape run' states' → Exact run'
      → ((q word : ℕ) → q < shape.nodes → ((here shape run states q).words word).value ≡ ((here shape run' states' q).words word).value)
      → ((n : ℕ) → n < shape.nodes → (more : List Deed)
      → Makes (Some (start_of program shape.nodes n)) (deeds_of n run ++ more) → Makes (Some (start_of program shape.nodes n)) (deeds_of n run' ++ more))
      → ((act : Act) → act.node < shape.nodes → MayGoOn shape.nodes run act → MayGoOn shape.nodes run' act) → (act : Act) → Exact (run ++ act ∷ [])
      → Exact (run' ++ act ∷ [])
  goes_there run run' states states' keeps keeps' exact' values makes may act longer = record {
    follows = text_on program shape.nodes run run' act lt makes exact'.follows longer.follows;
    synchronized = IsWellSynchronized-more run' act shape.nodes exact'.synchronized (may act lt (MayGoOn-last run act shape.nodes longer.synchronized));
    exact = reads-more shape run' act lt exact'.exact gives;
  }
    where
      lt : act.node < shape.nodes
      lt = in_range longer.follows (length run) act.node act.deed (Does-last run act)

      next_state : State
      next_state = state_after (exact_rule shape) run states (length run) act.node act.deed

      grown : List Act
      grown = run ++ act ∷ []

      -- the read gives the same in the first run
      given : (word value : ℕ) → act.deed ≡ Read word value → value ≡ exact_value shape run states act.node (length run) word
      given word value is =
          let whole = keeps-more (exact_rule shape) shape.nodes run states act next_state keeps lt refl in
          longer.exact.reads (length run) act.node word value (Does-deed is (Does-last run act))
          ∙ ap (λ ss. exact_value shape grown ss act.node (length run) word)
          (one_list (exact_rule shape) shape.nodes grown longer.exact.states (states ++ next_state ∷ []) longer.exact.keeps whole)
          ∙ ap (λ (s : State). (s.words word).value)
          (before-same (exact_rule shape) grown run (states ++ next_state ∷ []) states (length run)
          (prefix-alike run (act ∷ []) states (next_state ∷ []) keeps.stated (length run) (omega arith)) act.node)

      gives : (word value : ℕ) (others : List State) → act.deed ≡ Read word value → KeepsExact shape run' others
          → value ≡ exact_value shape run' others act.node (length run') word
      gives word value others is others_keep =
          given word value is
          ∙ values act.node word lt
          ∙ ap (λ ss. exact_value shape run' ss act.node (length run') word) (one_list (exact_rule shape) shape.nodes run' states' others keeps' others_keep)

  module _ (cap : ℕ) (base base' : Base) (run run' : List Act) (states states' : List State)
      (a : AreAlikeBy program shape cap base base' run run' states states') where
    values : (q word : ℕ) → q < shape.nodes → ((here shape run' states' q).words word).value ≡ ((here shape run states q).words word).value
    values q word lt = ((a.alike.nodes_are q lt).words word).value

    -- what the one may go on with, the other may
    pub goes_alike : (act : Act) → Exact (run ++ act ∷ []) ↔ Exact (run' ++ act ∷ [])
    goes_alike act = (
      goes_there run run' states states' a.alike.keeps a.alike.keeps' a.exact' (λ q word lt. sym (values q word lt)) (λ n lt more. (a.text.makes n lt more).0)
          (λ x lt. may_alike shape.nodes base.first base'.first run run' x lt a.alike.synchronized) act,
      goes_there run' run states' states a.alike.keeps' a.alike.keeps a.exact values (λ n lt more. (a.text.makes n lt more).1)
          (λ x lt. may_back shape.nodes base.first base'.first run run' x lt a.alike.synchronized) act,
    )

    -- where no node can act after the one, none can after the other
    pub over_alike : IsOver program shape.nodes run → IsOver program shape.nodes run'
    over_alike over act comes =
        let lt : act.node < shape.nodes = in_range comes.follows (length run') act.node act.deed (Does-last run' act) in
        over act (record {
          follows = text_on program shape.nodes run' run act lt (λ n less more. (a.text.makes n less more).1) a.exact.follows comes.follows;
          may = may_back shape.nodes base.first base'.first run run' act lt a.alike.synchronized comes.may;
        })

    -- with an act more that is decided they stand alike again
    pub alike_more : shape.collect ≡ 0 → (act : Act) (longer : Exact (run ++ act ∷ []))
        → (decided : IsDecidedDeed shape cap base'.floor run' states' act.node act.deed)
        → AreAlikeBy program shape cap base base' (run ++ act ∷ []) (run' ++ act ∷ [])
        (states ++ state_after (exact_rule shape) run states (length run) act.node act.deed ∷ [])
        (states' ++ state_after (exact_rule shape) run' states' (length run') act.node act.deed ∷ [])
    alike_more calm act longer decided =
        let lt : act.node < shape.nodes = in_range longer.follows (length run) act.node act.deed (Does-last run act) in
        record {
          exact = longer;
          exact' = (goes_alike act).0 longer;
          text = text_more program shape.nodes run run' act lt a.text;
          alike = runs_more shape cap base base' run run' states states' a.alike act lt calm decided;
        }

-- ---- runs that stand alike, one after another

pub alike_then : (program : Program) (shape : Shape) (cap : ℕ) (base base' base'' : Base) (run run' run'' : List Act) (states states' states'' : List State)
    → AreAlikeBy program shape cap base base' run run' states states' → AreAlikeBy program shape cap base' base'' run' run'' states' states''
    → AreAlikeBy program shape cap base base'' run run'' states states''
alike_then program shape cap base base' base'' run run' run'' states states' states'' a b = record {
  exact = a.exact;
  exact' = b.exact';
  text = record {
    makes = λ n lt more.
        let x = a.text.makes n lt more in
        let y = b.text.makes n lt more in (λ m. y.0 (x.0 m), λ m. x.1 (y.1 m));
    notes = a.text.notes ∙ b.text.notes;
  };
  alike = runs_then shape cap base base' base'' run run' run'' states states' states'' a.alike b.alike;
}

-- Exact runs: their beginnings, and one act more.
use Rattle.std.proofs.Common.{◌≡◌, ℕ, List, [], ◌∷◌, ◌++◌, length, take, drop, sym, subst, ap, ◌∙◌, arith}
use Rattle.std.specs.Prelude.{◌↔◌, Option, Some}
use Rattle.std.proofs.lemmas.List.{length-append, length-take-le, map-append, take-append-drop}
use Rattle.std.proofs.lemmas.Option.{same_Some}
use Rattle.lrc_program.specs.declared.Program.{Program}
use Rattle.lrc_trace.specs.declared.act.Act.{Act}
use Rattle.lrc_trace.specs.declared.act.Deed.{Deed}
use Rattle.lrc_trace.specs.declared.act.Deed.TheVariants.{Read}
use Rattle.lrc_trace.specs.Run.{act_of}
use Rattle.lrc_trace.proofs.Positions.{Does-last, Does-longer, Does-within}
use Rattle.lrc_trace.proofs.Prefixes.{IsWellSynchronized-more, IsWellSynchronized-shorter, MayGoOn-last}
use Rattle.lrc_exec.specs.Meaning.{Thread}
use Rattle.lrc_exec.specs.Plain.{start_of}
use Rattle.lrc_exec.specs.Follows.{Makes, nothing_more, and_then, deeds_of, nodes_of_acts}
use Rattle.lrc_consistency_laws.specs.Kinds.{SameKind, same, reads}
use Rattle.lrc_consistency_laws.proofs.UpToRace.{in_range}
use Rattle.lrc_exact.specs.Rule.{Shape, State, exact_rule, exact_value, KeepsExact, ReadsExactly}
use Rattle.lrc_exact.proofs.LocalRules.{before-same, keeps-prefix, one_list, prefix-alike}
use Rattle.lrc_exact_laws.specs.Laws.{IsExactRun}
use Rattle.lrc_exact_laws.proofs.Lists.{same_last}
use Rattle.lrc_exact_judge.proofs.Reading.{reads-more, one_read}
use Rattle.lrc_exact_machine.specs.Machine.{exact}
use Rattle.lrc_exact_machine.proofs.Making.{is_made, makes_exact_run}
use Rattle.lrc_lazy.specs.Lazy.{IsOver, MayComeNext}
use Rattle.lrc_lazy.proofs.Deeds.{deeds_joined}
use Rattle.lrc_lazy.proofs.Onward.{all_in_range, free_read, other_follows}
use Rattle.lrc_exact_outcomes.specs.Outcome.{IsExactOutcome, IsExactOutcomeFrom}
use Rattle.lrc_exact_outcomes.specs.Laws.{IsMachineOutcome}

-- ---- the beginning of a run

module _ (shape : Shape) (run more : List Act) (exact : ReadsExactly shape (run ++ more)) where
  abbrev ours : List State
  ours = take (length run) exact.states

  stated : length ours ≡ length run
  stated =
      let size = exact.keeps.stated in
      let both = length-append run more in
      length-take-le (length run) exact.states (omega (arith, size, both))

  whole : KeepsExact shape (run ++ more) (ours ++ drop (length run) exact.states)
  whole = subst (λ ss. KeepsExact shape (run ++ more) ss) (sym (take-append-drop (length run) exact.states)) exact.keeps

  pub reads_front : ReadsExactly shape run
  reads_front = record {
    states = ours;
    keeps = keeps-prefix run more ours (drop (length run) exact.states) stated (exact_rule shape) shape.nodes whole;
    reads = λ j node word value does.
        let lt = Does-within does in
        exact.reads j node word value (Does-longer more does)
        ∙ ap (λ ss. exact_value shape (run ++ more) ss node j word) (sym (take-append-drop (length run) exact.states))
        ∙ ap (λ (s : State). (s.words word).value)
        (before-same (exact_rule shape) (run ++ more) run (ours ++ drop (length run) exact.states) ours j
        (prefix-alike run more ours (drop (length run) exact.states) stated j (omega (arith, lt))) node);
  }

module _ (program : Program) (shape : Shape) where
  makes_front : {o : Option Thread} (ds es : List Deed) → Makes o (ds ++ es) → Makes o ds
  makes_front [] es m = nothing_more
  makes_front (d ∷ ds) es (and_then g m) = and_then g (makes_front ds es m)

  pub exact_front : (run more : List Act) → IsExactRun program shape (run ++ more) → IsExactRun program shape run
  exact_front run more exact = record {
    follows = record {
      in_range = all_in_range shape.nodes run (λ k n d does. in_range exact.follows k n d (Does-longer more does));
      each = λ n lt. makes_front (deeds_of n run) (deeds_of n more)
          (subst (λ ds. Makes (Some (start_of program shape.nodes n)) ds) (deeds_joined n run more) (exact.follows.each n lt));
    };
    synchronized = IsWellSynchronized-shorter run more shape.nodes exact.synchronized;
    exact = reads_front shape run more exact.exact;
  }

  -- ---- one act more

  -- an act comes, and a read gives what the memory has
  pub exact_more : (acts : List Act) (node : ℕ) (deed : Deed) → IsExactRun program shape acts
      → MayComeNext program shape.nodes acts (act_of node deed)
      → ((word value : ℕ) (states : List State) → deed ≡ Read word value → KeepsExact shape acts states
      → value ≡ exact_value shape acts states node (length acts) word)
      → IsExactRun program shape (acts ++ act_of node deed ∷ [])
  exact_more acts node deed run next gives =
      let act = act_of node deed in
      record {
        follows = next.follows;
        synchronized = IsWellSynchronized-more acts act shape.nodes run.synchronized next.may;
        exact = reads-more shape acts act (in_range next.follows (length acts) node deed (Does-last acts act)) run.exact gives;
      }

  pub may_come : (acts : List Act) (act : Act) → IsExactRun program shape (acts ++ act ∷ []) → MayComeNext program shape.nodes acts act
  may_come acts act run = record { follows = run.follows; may = MayGoOn-last acts act shape.nodes run.synchronized }

  pub goes_on : (acts : List Act) (node : ℕ) (deed : Deed) → IsExactRun program shape acts → MayComeNext program shape.nodes acts (act_of node deed)
      → (other : Deed) × SameKind deed other × IsExactRun program shape (acts ++ act_of node other ∷ [])
  goes_on acts node (Read w u) run next =
      let v = exact_value shape acts run.exact.states node (length acts) w in (
        Read w v,
        reads,
        exact_more acts node (Read w v) run (record {
          follows = other_follows acts node w program shape.nodes u v next.follows;
          may = free_read shape.nodes acts node w v;
        }) (λ word value states is keeps.
            let parts = one_read is in
            sym parts.1
            ∙ ap (λ x. exact_value shape acts run.exact.states node (length acts) x) parts.0
            ∙ ap (λ ss. exact_value shape acts ss node (length acts) word)
            (one_list (exact_rule shape) shape.nodes acts run.exact.states states run.exact.keeps keeps)),
      )
  goes_on acts node deed run next =
      (deed, same, exact_more acts node deed run next (λ word value states is keeps. let never : ⊥ = cc in absurd never))

  pub over_where : (acts : List Act) → IsExactRun program shape acts
      → IsOver program shape.nodes acts ↔ ((act : Act) → IsExactRun program shape (acts ++ act ∷ []) → ⊥)
  over_where acts run = (
    λ over act longer. over act (may_come acts act longer),
    λ none act next. let on = goes_on acts act.node act.deed run next in none (act_of act.node on.0) on.2,
  )

-- ---- outcomes

pub from_beginning : (program : Program) (shape : Shape) (notes : List Act) → IsExactOutcome program shape notes ↔ IsExactOutcomeFrom program shape [] notes
from_beginning program shape notes = (
  λ o. record { more = o.acts; run = o.run; over = o.over; are = o.are },
  λ o. record { acts = o.more; run = o.run; over = o.over; are = o.are },
)

pub by_machine : (program : Program) (shape : Shape) (notes : List Act) → IsExactOutcome program shape notes ↔ IsMachineOutcome program shape notes
by_machine program shape notes = (
  λ o. record { order = nodes_of_acts o.acts; acts = o.acts; made = is_made program shape o.acts o.run; over = o.over; are = o.are },
  λ o. record { acts = o.acts; run = (makes_exact_run program shape o.order o.acts o.made).0; over = o.over; are = o.are },
)

-- ---- a node can do one thing next

pub one_deed : (program : Program) (shape : Shape) (acts : List Act) (node : ℕ) (d e : Deed) → IsExactRun program shape (acts ++ act_of node d ∷ [])
    → IsExactRun program shape (acts ++ act_of node e ∷ []) → d ≡ e
one_deed program shape acts node d e a b =
    let run = acts ++ act_of node d ∷ [] in
    let other = acts ++ act_of node e ∷ [] in
    let order : nodes_of_acts run ≡ nodes_of_acts other =
    map-append (λ (x : Act). x.node) acts (act_of node d ∷ []) ∙ sym (map-append (λ (x : Act). x.node) acts (act_of node e ∷ [])) in
    let same : run ≡ other =
    same_Some run other (sym (is_made program shape run a) ∙ ap (exact program shape) order ∙ is_made program shape other b) in
    ap (λ (x : Act). x.deed) (same_last acts acts (act_of node d) (act_of node e) same)

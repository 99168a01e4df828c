-- Each arm counts its deed, and puts down how often it came before.
use Rattle.std.proofs.Common.{◌≡◌, ℕ, ◌+◌, ◌<◌, List, [], ◌∷◌, ◌++◌, length, get_or, set, sym, subst, arith, ◌∙◌, ap, length-set, inl, inr, take}
use Rattle.std.specs.Prelude.{Bool, true}
use Rattle.std.proofs.lemmas.Bool.{cases_eq}
use Rattle.std.proofs.lemmas.List.{length_push, get_or_push, get_or_append_left, get_or_default}
use Rattle.lrc_trace.specs.declared.act.Act.{Act}
use Rattle.lrc_trace.specs.declared.act.Deed.{Deed}
use Rattle.lrc_trace.specs.declared.act.Deed.TheVariants.{Quiet, Arrive, Depart}
use Rattle.lrc_trace.specs.Run.{Does, is_arrive, is_depart, count_of, arrives_before, departs_before}
use Rattle.lrc_trace.proofs.Positions.{Does-read, Does-node, Does-one_node, Does-one_deed, Does-within}
use Rattle.lrc_trace.proofs.Counts.{counts_same, counts_next, no_arrive, no_depart}
use Rattle.lrc_why_chains.proofs.Gates.{arrives-bound, departs-bound}
use Rattle.lrc_why_chains.proofs.numbers.barrier_numbers.Goals as goal
use Rattle.lrc_why_chains.proofs.numbers.barrier_numbers.Goals.{After-from-node, in-Arrive, in-Depart, in_default}

-- the act at the position
abbrev act_at : After-from-node → Act
act_at c = get_or c.args.acts.now c.loop-position.position (record { node = 0; deed = Quiet })

here : (c : After-from-node) → Does c.args.acts.now c.loop-position.position c.from-node.result (act_at c).deed
here c = Does-node (sym c.from-node.ensures) (Does-read c.args.acts.now c.loop-position.position (record { node = 0; deed = Quiet }) c.loop-position-test.true)

arrive_not_depart : Arrive ≡ Depart → ⊥
arrive_not_depart e = cc

-- numbers of a deed, with one more
more : (run : List Act) (n number : ℕ) (numbers : List ℕ) (deed : Deed) (count : ℕ → ℕ → ℕ) → length numbers ≡ n
    → ((k node : ℕ) → k < n → Does run k node deed → get_or numbers k 0 ≡ count node k)
    → ((node : ℕ) → Does run n node deed → number ≡ count node n) → (k node : ℕ) → k < n + 1 → Does run k node deed
    → get_or (numbers ++ number ∷ []) k 0 ≡ count node k
more run n number numbers deed count long old at k node lt does =
    elim (cases_eq k n) [
      | inl same ↦ get_or_push numbers number 0 k (sym (same ∙ sym long)) ∙ at node (subst (λ (m : ℕ). Does run m node deed) same does) ∙ ap (count node) (sym same)
      | inr other ↦ get_or_append_left numbers (number ∷ []) 0 k (omega arith) ∙ old k node (omega arith) does
    ]

node_within : (c : After-from-node) → c.from-node.result < 256
node_within c = omega (arith, c.loop-position-test.element_fits, c.from-node.ensures)

-- what is read of a count
read_count : (counts : List ℕ) (node read count : ℕ) → read ≡ get_or counts node read → node < length counts
    → get_or counts node 0 ≡ count → read ≡ count
read_count counts node read count is within counted = is ∙ get_or_default counts node read 0 within ∙ counted

arrived : (c : After-from-node) (read : ℕ) → read ≡ get_or c.loop-position.arrives.items c.from-node.result read
    → read ≡ arrives_before c.args.acts.now c.from-node.result c.loop-position.position
arrived c read is =
    let inside = node_within c in
    let within : c.from-node.result < length c.loop-position.arrives.items = omega (arith, c.loop-position.invariant.all_arrives) in
    read_count c.loop-position.arrives.items c.from-node.result read _ is within (c.loop-position.invariant.arrives c.from-node.result within)

departed : (c : After-from-node) (read : ℕ) → read ≡ get_or c.loop-position.departs.items c.from-node.result read
    → read ≡ departs_before c.args.acts.now c.from-node.result c.loop-position.position
departed c read is =
    let inside = node_within c in
    let within : c.from-node.result < length c.loop-position.departs.items = omega (arith, c.loop-position.invariant.all_departs) in
    read_count c.loop-position.departs.items c.from-node.result read _ is within (c.loop-position.invariant.departs c.from-node.result within)

pub overflow_add-number : goal.overflow_add-number
overflow_add-number c =
    let b = (goal.at.overflow_add-number c).After-from-node in
    let counted = arrived b c.index-number.result.now c.index-number.ensures in
    let bound = arrives-bound c.args.acts.now c.from-node.result c.loop-position.position (omega (arith, c.loop-position-test.true)) in
    omega (arith, counted, bound)

pub overflow_add-number-in-Depart : goal.overflow_add-number-in-Depart
overflow_add-number-in-Depart c =
    let b = (goal.at.overflow_add-number-in-Depart c).After-from-node in
    let counted = departed b c.index-number-in-Depart.result.now c.index-number-in-Depart.ensures in
    let bound = departs-bound c.args.acts.now c.from-node.result c.loop-position.position (omega (arith, c.loop-position-test.true)) in
    omega (arith, counted, bound)

-- the counts of a deed, one more at the node
counted : (run : List Act) (n node : ℕ) (deed : Deed) (here : Does run n node deed) (kind : Deed → Bool) (counts : List ℕ) (read : ℕ)
    → kind deed ≡ true → node < length counts → read ≡ get_or counts node read
    → ((q : ℕ) → q < length counts → get_or counts q 0 ≡ count_of kind q (take n run)) → (q : ℕ) → q < length (set counts node (read + 1))
    → get_or (set counts node (read + 1)) q 0 ≡ count_of kind q (take (n + 1) run)
counted run n node deed here kind counts read passes within is old =
    let e : get_or counts node 0 ≡ read = sym (is ∙ get_or_default counts node read 0 within) in
    subst (λ (x : ℕ). (q : ℕ) → q < length (set counts node (x + 1)) → get_or (set counts node (x + 1)) q 0 ≡ count_of kind q (take (n + 1) run)) e
    (counts_next run n node deed here kind counts passes within old)

pub loop-position-preserved : goal.loop-position-preserved
loop-position-preserved c =
    let b = (goal.at.loop-position-preserved c).After-from-node in
    let run = c.args.acts.now in
    let n = c.loop-position.position in
    let node = c.from-node.result in
    let deed = (act_at b).deed in
    let inv = c.loop-position.invariant in
    let inside = node_within b in
    elim c.match-acts-position.branch [
      | in-Arrive w ↦
          let read = w.index-number.result.now in
          let is = w.in-Arrive.is in
          let number = arrived b read w.index-number.ensures in
          rw (w.arrives-is, w.departs-is, c.in_ok-push.ensures.items, w.number-is) (record {
            all_arrives = length-set c.loop-position.arrives.items node (read + 1) ∙ inv.all_arrives;
            all_departs = inv.all_departs;
            all = length_push c.loop-position.numbers.items read ∙ ap (λ m. m + 1) inv.all;
            arrives = counted run n node deed (here b) is_arrive c.loop-position.arrives.items read (ap is_arrive is)
                (omega (arith, inside, inv.all_arrives)) w.index-number.ensures inv.arrives;
            departs = counts_same run n node deed (here b) is_depart c.loop-position.departs.items (ap is_depart is) inv.departs;
            arrive = more run n read c.loop-position.numbers.items Arrive (arrives_before run) inv.all inv.arrive
                (λ q does. number ∙ ap (λ m. arrives_before run m n) (Does-one_node (here b) does));
            depart = more run n read c.loop-position.numbers.items Depart (departs_before run) inv.all inv.depart
                (λ q does. absurd (arrive_not_depart (sym is ∙ Does-one_deed (here b) does)));
          })
      | in-Depart w ↦
          let read = w.index-number-in-Depart.result.now in
          let is = w.in-Depart.is in
          let number = departed b read w.index-number-in-Depart.ensures in
          rw (w.arrives-is, w.departs-is, c.in_ok-push.ensures.items, w.number-is) (record {
            all_arrives = inv.all_arrives;
            all_departs = length-set c.loop-position.departs.items node (read + 1) ∙ inv.all_departs;
            all = length_push c.loop-position.numbers.items read ∙ ap (λ m. m + 1) inv.all;
            arrives = counts_same run n node deed (here b) is_arrive c.loop-position.arrives.items (ap is_arrive is) inv.arrives;
            departs = counted run n node deed (here b) is_depart c.loop-position.departs.items read (ap is_depart is)
                (omega (arith, inside, inv.all_departs)) w.index-number-in-Depart.ensures inv.departs;
            arrive = more run n read c.loop-position.numbers.items Arrive (arrives_before run) inv.all inv.arrive
                (λ q does. absurd (arrive_not_depart (sym (sym is ∙ Does-one_deed (here b) does))));
            depart = more run n read c.loop-position.numbers.items Depart (departs_before run) inv.all inv.depart
                (λ q does. number ∙ ap (λ m. departs_before run m n) (Does-one_node (here b) does));
          })
      | in_default w ↦ rw (w.arrives-is, w.departs-is, c.in_ok-push.ensures.items, w.number-is) (record {
        all_arrives = inv.all_arrives;
        all_departs = inv.all_departs;
        all = length_push c.loop-position.numbers.items 0 ∙ ap (λ m. m + 1) inv.all;
        arrives = counts_same run n node deed (here b) is_arrive c.loop-position.arrives.items (no_arrive deed w.in_default.not-Arrive) inv.arrives;
        departs = counts_same run n node deed (here b) is_depart c.loop-position.departs.items (no_depart deed w.in_default.not-Depart) inv.departs;
        arrive = more run n 0 c.loop-position.numbers.items Arrive (arrives_before run) inv.all inv.arrive
            (λ q does. absurd (w.in_default.not-Arrive (Does-one_deed (here b) does)));
        depart = more run n 0 c.loop-position.numbers.items Depart (departs_before run) inv.all inv.depart
            (λ q does. absurd (w.in_default.not-Depart (Does-one_deed (here b) does)));
      })
    ]

pub returns : goal.returns
returns c = record {
  all = omega (arith, c.loop-position.invariant.all);
  arrives = λ k node does. let within = Does-within does in c.loop-position.invariant.arrive k node (omega arith) does;
  departs = λ k node does. let within = Does-within does in c.loop-position.invariant.depart k node (omega arith) does;
}

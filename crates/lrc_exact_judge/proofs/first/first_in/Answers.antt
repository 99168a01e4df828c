use Rattle.std.proofs.Common.{◌≡◌, ◌<◌, ℕ, List, length, take, take_all, sym, subst, ap, ◌∙◌, arith}
use Rattle.std.proofs.lemmas.List.{length-take-le}
use Rattle.lrc_trace.specs.declared.act.Deed.TheVariants.{Read}
use Rattle.lrc_trace.specs.Run.{is_depart}
use Rattle.lrc_trace.specs.Synchronization.{MayGoOn}
use Rattle.lrc_trace.proofs.Positions.{Does-deed, Does-read}
use Rattle.lrc_trace.proofs.Prefixes.{MayGoOn-last, WaitsAtBarriers-last}
use Rattle.lrc_exact.specs.Rule.{State, KeepsExact, ReadsExactly, exact_value}
use Rattle.lrc_exact_judge.specs.Current.{IsMemoryAt}
use Rattle.lrc_exact_judge.specs.Shape.{shape_of}
use Rattle.lrc_exact_judge.specs.declared.layout.Layout.{Layout}
use Rattle.lrc_exact_judge.proofs.Reading.{grown, next_act, no_act, one_read, reads-more, reads-none, synchronized-next, waits-next}
use Rattle.lrc_exact_judge.proofs.first.first_in.Goals as goal
use Rattle.lrc_exact_judge.proofs.first.first_in.Goals.{in-Read+else-read-given, in_default}

pub loop-position-init : goal.loop-position-init
loop-position-init c = record {
  layout = c.in_ok-memory.ensures.layout;
  memory = c.in_ok-memory.ensures.memory;
  reads = reads-none (shape_of c.args.layout);
}

pub value-given-requires : goal.value-given-requires
value-given-requires c =
    let run = c.args.acts.now in
    let j = c.loop-position.position in
    let lt = c.loop-position-test.true in
    let act = next_act run j lt in
    record {
      memory = c.loop-position.invariant.memory;
      node = subst (λ (y : Layout). act.node < y.nodes) (sym c.loop-position.invariant.layout) (c.requires.nodes j no_act lt);
      goes_on = WaitsAtBarriers-last (take j run) act (waits-next run j lt c.requires.waits) (ap is_depart c.in-Read.is);
    }

pub step-requires : goal.step-requires
step-requires c =
    let run = c.args.acts.now in
    let j = c.loop-position.position in
    let lt = c.loop-position-test.true in
    let act = next_act run j lt in
    let long = length-take-le j run (omega arith) in
    let short = c.requires.short in
    record {
      memory = c.loop-position.invariant.memory;
      node = subst (λ (y : Layout). act.node < y.nodes) (sym c.loop-position.invariant.layout) (c.requires.nodes j no_act lt);
      short = omega arith;
      goes_on =
          subst (λ (y : Layout). MayGoOn y.nodes (take j run) act) (sym c.loop-position.invariant.layout)
          (MayGoOn-last (take j run) act c.args.layout.nodes (synchronized-next run j lt c.args.layout.nodes c.requires.synchronized));
      waits = waits-next run j lt c.requires.waits;
    }

pub loop-position-preserved : goal.loop-position-preserved
loop-position-preserved c =
    let run = c.args.acts.now in
    let j = c.loop-position.position in
    let lt = c.loop-position-test.true in
    let act = next_act run j lt in
    let shape = shape_of c.args.layout in
    let inv = c.loop-position.invariant in
    let last : (word value : ℕ) (states : List State) → act.deed ≡ Read word value → KeepsExact shape (take j run) states
    → value ≡ exact_value shape (take j run) states act.node (length (take j run)) word =
    elim c.match-acts-position.branch [
      | in-Read+else-read-given w ↦ λ word value states is keeps.
          let same = one_read (sym is ∙ w.in-Read.is) in
          same.1 ∙ w.if-read-given.false
          ∙ w.value-given.ensures states (subst (λ (y : Layout). KeepsExact (shape_of y) (take j run) states) (sym inv.layout) keeps)
          ∙ ap (λ (y : Layout). exact_value (shape_of y) (take j run) states act.node (length (take j run)) w.in-Read.word) inv.layout
          ∙ ap (λ m. exact_value shape (take j run) states act.node (length (take j run)) m) (sym same.0)
      | in_default w ↦ λ word value states is keeps. absurd (w.in_default.not-Read word value is)
    ] in
    record {
      layout = c.in_ok-step.ensures.layout ∙ inv.layout;
      memory = subst (λ xs. IsMemoryAt xs (length xs) c.step.new.self) (sym (grown run j lt)) c.in_ok-step.ensures.memory;
      reads = subst (ReadsExactly shape) (sym (grown run j lt)) (reads-more shape (take j run) act (c.requires.nodes j no_act lt) inv.reads last);
    }

pub returns-then-read-given : goal.returns-then-read-given
returns-then-read-given c =
    let run = c.args.acts.now in
    let j = c.loop-position.position in
    let lt = c.loop-position-test.true in
    let act = next_act run j lt in
    let shape = shape_of c.args.layout in
    let inv = c.loop-position.invariant in
    let long = length-take-le j run (omega arith) in
    record {
      within = lt;
      node = act.node;
      word = c.in-Read.word;
      does = Does-deed c.in-Read.is (Does-read run j no_act lt);
      apart = c.if-read-given.true;
      given = λ states keeps.
          c.value-given.ensures states (subst (λ (y : Layout). KeepsExact (shape_of y) (take j run) states) (sym inv.layout) keeps)
          ∙ ap (λ (y : Layout). exact_value (shape_of y) (take j run) states act.node (length (take j run)) c.in-Read.word) inv.layout
          ∙ ap (λ k. exact_value shape (take j run) states act.node k c.in-Read.word) long;
      earlier = inv.reads;
    }

pub returns : goal.returns
returns c =
    subst (ReadsExactly (shape_of c.args.layout)) (take_all c.loop-position.position c.args.acts.now c.loop-position-test.false)
    c.loop-position.invariant.reads

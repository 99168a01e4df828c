use Rattle.std.proofs.Common.{◌∙◌, [], ap, arith, get_or, subst, sym, take}
use Rattle.std.specs.Prelude.{slice_index}
use Rattle.std.proofs.lemmas.List.{take_all}
use Rattle.lrc_trace.specs.declared.act.Act.{Act}
use Rattle.lrc_trace.specs.declared.act.Deed.TheVariants.{Quiet}
use Rattle.lrc_exec.specs.Plain.{Plain}
use Rattle.lrc_exec.specs.States.{plain_at}
use Rattle.lrc_lazy.proofs.Following.{StandsAt, over_to_rest, rest_to_over, stands_first}
use Rattle.lrc_lazy.proofs.Steps.{counts_on, follow_on, front_lazy, may_follow, none_arrived, so_far}
use Rattle.lrc_lazy.proofs.over.is_over_in.Goals as goal

pub loop-act-init : goal.loop-act-init
loop-act-init c =
    let program = c.args.program.now in
    let flat = c.args.flat.now in
    let machine = c.in_ok-state.ensures.first.begun ∙ c.requires.flat.begun in
    record {
      valid = c.in_ok-state.ensures.state;
      stands = subst (λ (m : Plain). StandsAt program flat.nodes [] m) (sym machine) (stands_first program flat.nodes);
      counted = λ node.
          let few = none_arrived flat.nodes node in
          let same = ap (λ (m : Plain). slice_index m.arrivals node) machine in
          omega (arith, few, same);
    }

pub follow-requires-clause-may : goal.follow-requires-clause-may
follow-requires-clause-may c =
    let program = c.args.program.now in
    let flat = c.args.flat.now in
    let acts = c.args.acts.now in
    let i = c.loop-act.invariant in
    let at = c.loop-act.act-index in
    let act : Act = get_or acts at (record { node = 0; deed = Quiet }) in
    let few = i.counted act.node in
    may_follow program flat c.args.start c.requires.flat c.loop-act.state i.valid (take at acts) i.stands act
    (front_lazy program flat.nodes acts at (record { node = 0; deed = Quiet }) c.loop-act-test.true c.requires.run)
    (omega (arith, few, c.loop-act-test.true))

pub loop-act-preserved : goal.loop-act-preserved
loop-act-preserved c =
    let program = c.args.program.now in
    let flat = c.args.flat.now in
    let acts = c.args.acts.now in
    let i = c.loop-act.invariant in
    let at = c.loop-act.act-index in
    let act : Act = get_or acts at (record { node = 0; deed = Quiet }) in
    let old = c.loop-act.state in
    let new = c.follow.new.state in
    record {
      valid = c.follow.ensures.valid;
      stands = subst (λ front. StandsAt program flat.nodes front (plain_at flat new)) (so_far acts at (record { node = 0; deed = Quiet }) c.loop-act-test.true)
          (follow_on program flat c.args.start c.requires.flat old i.valid (take at acts) i.stands act new c.follow.ensures);
      counted = counts_on flat old new act at c.follow.ensures i.counted;
    }

pub returns : goal.returns
returns c =
    let program = c.args.program.now in
    let flat = c.args.flat.now in
    let acts = c.args.acts.now in
    let i = c.loop-act.invariant in
    let state = c.loop-act.state in
    let machine = plain_at flat state in
    let all = take_all c.loop-act.act-index acts c.loop-act-test.false in
    let stands = subst (λ front. StandsAt program flat.nodes front machine) all i.stands in
    let still = c.is_still.ensures in (
      λ yes. rest_to_over program flat.nodes acts machine stands state.memory.items (still.0 yes),
      λ over. still.1 (over_to_rest program flat.nodes acts machine stands state.memory.items over),
    )

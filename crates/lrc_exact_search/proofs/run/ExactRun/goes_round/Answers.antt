use Rattle.std.proofs.Common.{◌≡◌, ◌∙◌, ℕ, List, suc, length, true, ap, rules, subst, sym}
use Rattle.lrc_trace.specs.declared.act.Act.{Act}
use Rattle.lrc_trace.specs.Run.{act_of}
use Rattle.lrc_exec.specs.contracts.state.StatePartialEq.TheImpl.{eq-value as state_eq}
use Rattle.lrc_exec.specs.Plain.{Plain}
use Rattle.lrc_exec.specs.States.{plain_at}
use Rattle.lrc_lazy.proofs.Following.{StandsAt}
use Rattle.lrc_lazy.specs.Following.{poked}
use Rattle.lrc_orders.proofs.Same.{state_same}
use Rattle.lrc_orders.proofs.Searching.{copy_same}
use Rattle.lrc_exact.specs.Rule.{exact_rule, exact_value}
use Rattle.lrc_exact.proofs.LocalRules.{one_list}
use Rattle.lrc_exact_judge.specs.Shape.{shape_of}
use Rattle.lrc_exact_search.specs.Run.{IsAhead, still, onward}
use Rattle.lrc_exact_search.proofs.Complete.{ahead_again}
use Rattle.lrc_exact_search.proofs.Spinning.{HasValues, Looks, none, more, goes_round, look_free, read_gives, values_stay}
use Rattle.lrc_exact_search.proofs.Standing.{to_stands}
use Rattle.lrc_exact_search.proofs.run.ExactRun.goes_round.Goals as goal

pub loop-init : goal.loop-init
loop-init c =
    let task = c.args.task.now in
    let run = c.args.self.now in
    let acts = run.acts.items in
    let shape = shape_of task.layout in
    let node = c.args.node in
    let exact = c.requires.at.exact.exact in
    record {
      at = c.requires.at;
      ahead = still;
      values = λ w. exact_value shape acts exact.states node (length acts) w;
      has = λ states keeps w.
          ap (λ ss. exact_value shape acts ss node (length acts) w) (one_list (exact_rule shape) shape.nodes acts states exact.states keeps exact.keeps);
      count = 0;
      looks = subst (λ (m : Plain). Looks node (λ w. exact_value shape acts exact.states node (length acts) w) (plain_at task.flat c.in_ok-begun.begun) 0 m)
          (copy_same task.flat c.in_ok-begun.begun run.state c.in_ok-begun.ensures) none;
    }

pub make-requires-clause-next : goal.make-requires-clause-next
make-requires-clause-next c = c.deed.ensures.some c.in-Some.deed c.in-Some.is

pub loop-preserved : goal.loop-preserved
loop-preserved c =
    let task = c.args.task.now in
    let shape = shape_of task.layout in
    let node = c.args.node in
    let i = c.loop.invariant in
    let old = c.loop.self in
    let acts = old.acts.items in
    let deed = c.in-Some.deed in
    let longer = c.deed.ensures.some deed c.in-Some.is in
    let look = c.is_look.ensures c.if-not-is_look.false in
    let exact = i.at.exact.exact in
    record {
      at = c.in_ok-make.ensures.at;
      ahead = subst (λ (xs : List Act). IsAhead task.program.now shape c.args.self.now.acts.items xs) (sym c.in_ok-make.ensures.acts)
          (onward (act_of node deed) i.ahead (record { longer = longer; free = look_free deed look }));
      values = i.values;
      has = subst (λ (xs : List Act). HasValues shape node i.values xs) (sym c.in_ok-make.ensures.acts)
          (values_stay task.program.now shape acts node deed longer exact.states exact.keeps look i.values i.has);
      count = suc i.count;
      looks = more deed (poked deed old.state.memory.items) i.looks look
          (λ w v is. read_gives task.program.now shape acts node deed longer exact.states exact.keeps w v is ∙ i.has exact.states exact.keeps w)
          c.in_ok-make.ensures.followed.made;
    }

pub returns-then-eq-clause-ahead : goal.returns-then-eq-clause-ahead
returns-then-eq-clause-ahead c =
    let task = c.args.task.now in
    let longer = c.deed.ensures.some c.in-Some.deed c.in-Some.is in
    let look = c.is_look.ensures c.if-not-is_look.false in
    subst (λ (xs : List Act). IsAhead task.program.now (shape_of task.layout) c.args.self.now.acts.items xs) (sym c.in_ok-make.ensures.acts)
    (onward (act_of c.args.node c.in-Some.deed) c.loop.invariant.ahead (record { longer = longer; free = look_free c.in-Some.deed look }))

-- the node stands where it began
pub returns-then-eq-clause-endless : goal.returns-then-eq-clause-endless
returns-then-eq-clause-endless c back =
    let task = c.args.task.now in
    let program = task.program.now in
    let shape = shape_of task.layout in
    let node = c.args.node in
    let i = c.loop.invariant in
    let old = c.loop.self in
    let new = c.make.new.self in
    let acts = old.acts.items in
    let deed = c.in-Some.deed in
    let longer = c.deed.ensures.some deed c.in-Some.is in
    let look = c.is_look.ensures c.if-not-is_look.false in
    let exact = i.at.exact.exact in
    let at = c.in_ok-make.ensures.at in
    let begun : Plain = plain_at task.flat c.in_ok-begun.begun in
    let here : Plain = plain_at task.flat new.state in
    let equal : state_eq.it new.state c.in_ok-begun.begun ≡ true = search rules in
    let same : here ≡ begun = state_same task.flat new.state c.in_ok-begun.begun equal in
    let looks : Looks node i.values begun (suc i.count) here =
    more deed (poked deed old.state.memory.items) i.looks look
    (λ w v is. read_gives program shape acts node deed longer exact.states exact.keeps w v is ∙ i.has exact.states exact.keeps w)
    c.in_ok-make.ensures.followed.made in
    let stands : StandsAt program shape.nodes new.acts.items here =
    subst (λ (n : ℕ). StandsAt program n new.acts.items here) c.requires.task.nodes (to_stands at.led) in
    let has : HasValues shape node i.values new.acts.items =
    subst (λ (xs : List Act). HasValues shape node i.values xs) (sym c.in_ok-make.ensures.acts)
    (values_stay program shape acts node deed longer exact.states exact.keeps look i.values i.has) in
    goes_round program shape node i.values new.acts.items
    (record { run = at.exact; stands = subst (λ (m : Plain). StandsAt program shape.nodes new.acts.items m) same stands; has = has })
    (subst (λ (m : Plain). Looks node i.values begun (suc i.count) m) same looks)

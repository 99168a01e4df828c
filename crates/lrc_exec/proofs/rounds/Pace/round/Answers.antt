-- A node's turn is the next turn of the round.
use Rattle.std.proofs.Common.{Vec, Global, ◌≡◌, ℕ, ◌+◌, ◌∙◌, Some, None, List, [], ◌∷◌, ◌++◌, length, sym}
use Rattle.std.proofs.Common.{ap, subst, arith, append_assoc, length-append, length-set}
use Rattle.std.specs.List.{range_with_len}
use Rattle.lrc_trace.specs.declared.act.Act.{Act}
use Rattle.lrc_trace.specs.declared.act.Deed.{Deed}
use Rattle.lrc_exec.specs.Plain.{plain_from}
use Rattle.lrc_exec.specs.Rounds.{Paced, turn, turns}
use Rattle.lrc_exec.specs.RoundsCode.{paced_of, MakesTurn}
use Rattle.lrc_exec.proofs.PlainLaws.{plain_from-last, plain_step-grows}
use Rattle.lrc_exec.proofs.RoundsLaws.{range-last, turns-last, turns-none, turn-is}
use Rattle.lrc_exec.proofs.rounds.Pace.round.Invariants.{HasTurned}
use Rattle.lrc_exec.proofs.rounds.Pace.round.Goals as goal
use Rattle.lrc_exec.proofs.rounds.Pace.round.Goals.{in-Some+in_ok-push, in_default}

-- one node on, which made an act
turned_on : (node : ℕ) (old now next : Paced) (acts after more : List Act) (deed : Deed) → HasTurned node old now acts after
    → MakesTurn now next node (Some deed) → more ≡ after ++ record { node = node; deed = deed } ∷ [] → HasTurned (node + 1) old next acts more
turned_on node old now next acts after more deed h m more_is =
    let so_far = range_with_len 0 node in
    let act : Act = record { node = node; deed = deed } in
    let last : range_with_len 0 (node + 1) ≡ so_far ++ node ∷ [] = range-last 0 node ∙ ap (λ k. so_far ++ k ∷ []) (omega arith) in
    let turn_is : turn (turns old so_far).1 node ≡ Some next = ap (λ p. turn p node) (sym h.now_is) ∙ m.0 in
    let all = ap (turns old) last ∙ turns-last old so_far node next turn_is in
    let grows = plain_step-grows now.machine node (deed, next.machine) m.1 in
    let t = turn-is now node next m.0 in
    record {
      made = h.made ++ act ∷ [];
      acts_are = more_is ∙ ap (λ l. l ++ act ∷ []) h.acts_are ∙ append_assoc acts h.made (act ∷ []);
      plainly =
          ap (λ (r : List ℕ × Paced). plain_from old.machine r.0) all
          ∙ plain_from-last old.machine now.machine next.machine (turns old so_far).0 h.made node deed h.plainly m.1;
      now_is = sym (ap (λ (r : List ℕ × Paced). r.1) all);
      long = ap (λ (p : Paced). length p.left) t.next_is ∙ length-set now.left node _ ∙ h.long;
      few_arrivals = λ k. omega (arith, grows.arrivals k, h.few_arrivals k, ap length more_is, length-append after (act ∷ []));
    }

-- one node on, which made none
turned_none : (node : ℕ) (old now next : Paced) (acts after : List Act) → HasTurned node old now acts after → MakesTurn now next node None
    → HasTurned (node + 1) old next acts after
turned_none node old now next acts after h m =
    let so_far = range_with_len 0 node in
    let last : range_with_len 0 (node + 1) ≡ so_far ++ node ∷ [] = range-last 0 node ∙ ap (λ k. so_far ++ k ∷ []) (omega arith) in
    let none : turn (turns old so_far).1 node ≡ None = ap (λ p. turn p node) (sym h.now_is) ∙ m.0 in
    let all = ap (turns old) last ∙ turns-none old so_far node none in
    let still : HasTurned (node + 1) old now acts after =
    record {
      made = h.made;
      acts_are = h.acts_are;
      plainly = ap (λ (r : List ℕ × Paced). plain_from old.machine r.0) all ∙ h.plainly;
      now_is = h.now_is ∙ sym (ap (λ (r : List ℕ × Paced). r.1) all);
      long = h.long;
      few_arrivals = h.few_arrivals;
    }
    in
    subst (λ p. HasTurned (node + 1) old p acts after) (sym m.1) still

pub loop-node-preserved : goal.loop-node-preserved
loop-node-preserved c =
    let flat = c.args.flat.now in
    let old = paced_of flat c.args.self.now in
    let now = paced_of flat c.loop-node.self in
    let next = paced_of flat c.turn.new.self in
    let node = c.loop-node.node in
    let acts = c.args.acts.now.items in
    let after = c.loop-node.acts.items in
    record {
      turned = elim c.match-turn.branch [
        | in-Some+in_ok-push w ↦
            (let m = subst (MakesTurn now next node) w.in-Some.is c.turn.ensures.made in
            subst (λ (v : Vec Act Global). HasTurned (node + 1) old next acts v.items) (sym w.acts-is)
            (turned_on node old now next acts after w.push.new.self.items w.in-Some.deed c.loop-node.invariant.turned m w.in_ok-push.ensures.items))
        | in_default w ↦
            (let m = subst (MakesTurn now next node) w.in_default.is c.turn.ensures.made in
            subst (λ (v : Vec Act Global). HasTurned (node + 1) old next acts v.items) (sym w.acts-is)
            (turned_none node old now next acts after c.loop-node.invariant.turned m))
      ];
      state = c.turn.ensures.state;
    }

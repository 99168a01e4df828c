-- What is asked for is the act of the statement at the node's place.
use Rattle.std.proofs.Common.{◌≡◌, ◌∙◌, List, get_or, refl, sym, ap, subst, arith}
use Rattle.lrc_program.specs.declared.Statement.{Statement}
use Rattle.lrc_exec.specs.declared.spot.Wish.{Wish}
use Rattle.lrc_exec.specs.Ask.{ask_of, TakesAnswer}
use Rattle.lrc_exec.specs.Flat.{rest_at}
use Rattle.lrc_exec.specs.Spots.{thread_at}
use Rattle.lrc_exec.specs.Wish.{Completes}
use Rattle.lrc_exec.proofs.Running.{next_of-end, next_of-at, rest-at}
use Rattle.lrc_exec.proofs.spot.Flat.wish.Goals as goal

pub returns-in_default : goal.returns-in_default
returns-in_default c =
    let at_end : c.args.spot.now.place ≡ 0 = omega (arith, c.in_default.ensures) in
    let ends = ap ask_of (next_of-end c.args.self.now c.args.spot.now at_end) in
    record {
      asked = ap (λ (w : Wish). w.ask) c.asking.ensures ∙ sym ends;
      number = λ takes. absurd (subst TakesAnswer ends takes);
      not_arrived = refl;
    }

pub returns-in-Ok : goal.returns-in-Ok
returns-in-Ok c =
    let flat = c.args.self.now in
    let spot = c.args.spot.now in
    let d = c.index-self-index.result in
    let k = c.in-Some.index in
    let rest = rest_at flat.code.now (get_or flat.code.now k d).next in
    let number = c.in-Ok.wish.number in
    record {
      asked =
          sym (ap ask_of (next_of-at flat spot d k c.requires.flat c.requires.within c.in-Some.ensures.0 c.in-Some.ensures.1) ∙ c.in-Ok.ensures.asked rest);
      number = λ takes.
          subst (λ (l : List Statement). Completes (thread_at flat spot) l number)
          (sym (rest-at flat spot d k c.requires.flat c.requires.within c.in-Some.ensures.0 c.in-Some.ensures.1))
          (c.in-Ok.ensures.number rest);
      not_arrived = refl;
    }

pub returns-in-Err : goal.returns-in-Err
returns-in-Err c =
    let flat = c.args.self.now in
    let spot = c.args.spot.now in
    let d = c.index-self-index.result in
    let k = c.in-Some.index in
    let traps =
    ap ask_of (next_of-at flat spot d k c.requires.flat c.requires.within c.in-Some.ensures.0 c.in-Some.ensures.1)
    ∙ c.in-Err.ensures.asked (rest_at flat.code.now (get_or flat.code.now k d).next) in
    record {
      asked = ap (λ (w : Wish). w.ask) c.asking-in-Err.ensures ∙ sym traps;
      number = λ takes. absurd (subst TakesAnswer traps takes);
      not_arrived = refl;
    }

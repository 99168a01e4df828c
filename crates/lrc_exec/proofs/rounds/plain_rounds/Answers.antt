-- Each round goes on from the rounds so far, and the last makes no act.
use Rattle.std.proofs.Common.{◌≡◌, ℕ, ◌<◌, ◌≤◌, ◌∙◌, Bool, true, false, List, replicate, ap, subst, ⊎_elim, arith}
use Rattle.std.specs.Prelude.{vec_len, IsTrue}
use Rattle.std.proofs.lemmas.Bool.{cases_lt}
use Rattle.lrc_exec.specs.Plain.{Plain, plain_start}
use Rattle.lrc_exec.specs.Rounds.{Paced}
use Rattle.lrc_exec.specs.RoundsCode.{paced_of, MakesRound}
use Rattle.lrc_exec.proofs.Beginning.{begun_of}
use Rattle.lrc_exec.proofs.RoundsLaws.{not_rounded, rounded_on, round_falls, rounds_over}
use Rattle.lrc_exec.proofs.rounds.plain_rounds.Goals as goal

pace_is : (m m' : Plain) (l l' : List ℕ) → m ≡ m' → l ≡ l' → ◌≡◌ {A = Paced} (record { machine = m; left = l }) (record { machine = m'; left = l' })
pace_is m m' l l' em el = cc

-- where a test failed, its fact does not hold
not_more : (test : Bool) (a b : ℕ) → test ≡ false → (a < b → IsTrue test) → b ≤ a
not_more test a b e h =
    ⊎_elim (λ less. let yes : test ≡ true = h less in let both : ⊥ = cc in absurd both) (λ past. past) (cases_lt a b)

pub loop-acts-init : goal.loop-acts-init
loop-acts-init c =
    let machine =
    c.in_ok-start.ensures.first.begun ∙ begun_of c.in_ok-code.code c.args.nodes c.of-place.result.1 c.of-place.result.0 c.of-place.ensures.program
    ∙ ap (λ p. plain_start p c.args.nodes) c.in_ok-code.ensures in
    let left : c.in_ok-vec.field-0.items ≡ replicate c.args.nodes c.args.steps = c.in_ok-vec.ensures.items_if_clones_equal (λ y e. e) in
    record {
      rounded = not_rounded c.args.program.now c.args.nodes c.args.steps _ c.new-acts.result.items c.new-acts.ensures.items (pace_is _ _ _ _ machine left);
      state = c.in_ok-start.ensures.state;
    }

pub loop-acts-smaller : goal.loop-acts-smaller
loop-acts-smaller c =
    let flat = c.of-place.result.0 in
    let nodes : vec_len c.loop-acts.pace.left ≡ c.args.nodes = c.loop-acts.pace.left.ok.0 ∙ c.loop-acts.invariant.rounded.long in
    let made = subst (λ n. MakesRound n (paced_of flat c.loop-acts.pace)
    (paced_of flat c.round.new.self) c.loop-acts.acts.items c.round.new.acts.items) nodes c.in_ok-round.ensures.made in
    let more : vec_len c.loop-acts.acts < vec_len c.round.new.acts = c.in_ok-round.ensures.more.0 c.if-branch.true in
    round_falls c.args.nodes (paced_of flat c.loop-acts.pace) (paced_of flat c.round.new.self) c.loop-acts.acts.items c.round.new.acts.items made
    (omega (arith, more, c.loop-acts.acts.ok.0, c.round.new.acts.ok.0))

pub loop-acts-preserved : goal.loop-acts-preserved
loop-acts-preserved c =
    let flat = c.of-place.result.0 in
    let nodes : vec_len c.loop-acts.pace.left ≡ c.args.nodes = c.loop-acts.pace.left.ok.0 ∙ c.loop-acts.invariant.rounded.long in
    let made = subst (λ n. MakesRound n (paced_of flat c.loop-acts.pace)
    (paced_of flat c.round.new.self) c.loop-acts.acts.items c.round.new.acts.items) nodes c.in_ok-round.ensures.made in
    record {
      rounded =
          rounded_on c.args.nodes _ (paced_of flat c.loop-acts.pace) (paced_of flat c.round.new.self) c.loop-acts.acts.items c.round.new.acts.items
          c.loop-acts.invariant.rounded made;
      state = c.in_ok-round.ensures.state;
    }

pub returns : goal.returns
returns c =
    let flat = c.of-place.result.0 in
    let nodes : vec_len c.loop-acts.pace.left ≡ c.args.nodes = c.loop-acts.pace.left.ok.0 ∙ c.loop-acts.invariant.rounded.long in
    let made = subst (λ n. MakesRound n (paced_of flat c.loop-acts.pace)
    (paced_of flat c.round.new.self) c.loop-acts.acts.items c.round.new.acts.items) nodes c.in_ok-round.ensures.made in
    let none : vec_len c.round.new.acts ≤ vec_len c.loop-acts.acts = not_more c.in_ok-round.field-0 _ _ c.if-branch.false c.in_ok-round.ensures.more.1 in
    rounds_over c.args.program.now c.args.nodes c.args.steps (paced_of flat c.loop-acts.pace)
    (paced_of flat c.round.new.self) c.loop-acts.acts.items c.round.new.acts.items c.loop-acts.invariant.rounded made
    (omega (arith, none, c.loop-acts.acts.ok.0, c.round.new.acts.ok.0))

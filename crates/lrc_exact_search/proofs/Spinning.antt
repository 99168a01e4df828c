-- A node that only looks, and comes back to where it was, goes on so for ever.
use Rattle.std.proofs.Common.{◌≡◌, ℕ, zero, suc, ◌+◌, ◌≤◌, Bool, true, false, List, [], ◌∷◌, ◌++◌, length, refl, sym, subst, ap, ◌∙◌, arith}
use Rattle.std.specs.Prelude.{◌==◌, Some, None, if◌then◌else◌}
use Rattle.std.proofs.lemmas.List.{length_push}
use Rattle.lrc_program.specs.declared.Program.{Program}
use Rattle.lrc_trace.specs.declared.act.Act.{Act}
use Rattle.lrc_trace.specs.declared.act.Deed.{Deed}
use Rattle.lrc_trace.specs.declared.act.Deed.TheVariants.{Quiet, Print, Read}
use Rattle.lrc_trace.specs.Run.{Does, act_of}
use Rattle.lrc_trace.proofs.Positions.{Does-last}
use Rattle.lrc_exec.specs.Plain.{Plain, plain_step}
use Rattle.lrc_lazy.specs.Lazy.{MayComeNext}
use Rattle.lrc_lazy.specs.Standing.{with_memory}
use Rattle.lrc_lazy.specs.Swapped.{IsNoAcquire}
use Rattle.lrc_lazy.proofs.Following.{StandsAt, stands_next}
use Rattle.lrc_exact.specs.LocalRule.{state_after, state_before}
use Rattle.lrc_exact.specs.Memory.{Word}
use Rattle.lrc_exact.specs.Rule.{Shape, State, exact_rule, exact_value, KeepsExact, page_of}
use Rattle.lrc_exact.proofs.LocalRules.{before-same, keeps-more, one_list, prefix-alike}
use Rattle.lrc_exact_laws.specs.Laws.{IsExactRun}
use Rattle.lrc_exact_judge.proofs.Next.{before-own}
use Rattle.lrc_exact_outcomes.proofs.Running.{exact_more}
use Rattle.lrc_exact_search.specs.Run.{IsAhead, still, onward, IsEndless, IsFree, IsLook}
use Rattle.lrc_exact_search.proofs.Complete.{ahead_again}
use Rattle.lrc_exact_search.proofs.Standing.{comes}

-- ---- what a look leaves

unmarked : (b : Bool) (word : Word) → (if b then record word { mark = None } else word).value ≡ word.value
unmarked true word = refl
unmarked false word = refl

module _ (shape : Shape) (acts : List Act) (states : List State) (j node : ℕ) where
  -- a look leaves all words of its node as they were
  look_leaves : (d : Deed) → IsLook d → (w : ℕ)
      → ((state_after (exact_rule shape) acts states j node d).words w).value ≡ exact_value shape acts states node j w
  look_leaves Quiet look w = refl
  look_leaves (Print v) look w = refl
  look_leaves (Read x v) look w =
      unmarked (page_of shape w == page_of shape x) ((state_before (exact_rule shape) acts states node j).words w)
  look_leaves d look w = absurd look

pub look_free : (d : Deed) → IsLook d → IsNoAcquire d
look_free Quiet look = λ l e. cc
look_free (Print v) look = λ l e. cc
look_free (Read w v) look = λ l e. cc
look_free d look = absurd look

-- the node has these values after the acts
abbrev pub HasValues : Shape → (node : ℕ) → (values : ℕ → ℕ) → List Act → Type 0
HasValues shape node values acts =
    (states : List State) → KeepsExact shape acts states → (w : ℕ) → exact_value shape acts states node (length acts) w ≡ values w

module _ (program : Program) (shape : Shape) (acts : List Act) (node : ℕ) (d : Deed)
    (longer : IsExactRun program shape (acts ++ act_of node d ∷ [])) (states : List State) (keeps : KeepsExact shape acts states) where
  abbrev after : State
  after = state_after (exact_rule shape) acts states (length acts) node d

  longer_keeps : KeepsExact shape (acts ++ act_of node d ∷ []) (states ++ after ∷ [])
  longer_keeps =
      keeps-more (exact_rule shape) shape.nodes acts states (act_of node d) after keeps
      (longer.exact.keeps.in_range (length acts) node d (Does-last acts (act_of node d))) refl

  one_more : (others : List State) → KeepsExact shape (acts ++ act_of node d ∷ []) others → others ≡ states ++ after ∷ []
  one_more others keep =
      one_list (exact_rule shape) shape.nodes (acts ++ act_of node d ∷ []) others (states ++ after ∷ []) keep longer_keeps

  -- a read that comes next gives what the node has
  pub read_gives : (w v : ℕ) → d ≡ Read w v → v ≡ exact_value shape acts states node (length acts) w
  read_gives w v is =
      let run = acts ++ act_of node d ∷ [] in
      longer.exact.reads (length acts) node w v (subst (λ (x : Deed). Does run (length acts) node x) is (Does-last acts (act_of node d)))
      ∙ ap (λ ss. exact_value shape run ss node (length acts) w) (one_more longer.exact.states longer.exact.keeps)
      ∙ ap (λ (s : State). (s.words w).value)
      (before-same (exact_rule shape) run acts (states ++ after ∷ []) states (length acts)
      (prefix-alike acts (act_of node d ∷ []) states (after ∷ []) keeps.stated (length acts) (omega arith)) node)

  -- after a look the node has the same values
  pub values_stay : IsLook d → (values : ℕ → ℕ) → HasValues shape node values acts → HasValues shape node values (acts ++ act_of node d ∷ [])
  values_stay look values has others keep w =
      let run = acts ++ act_of node d ∷ [] in
      ap (λ ss. exact_value shape run ss node (length run) w) (one_more others keep)
      ∙ ap (λ (s : State). (s.words w).value) (before-own (exact_rule shape) acts states (act_of node d) after keeps.stated)
      ∙ look_leaves shape acts states (length acts) node d look w
      ∙ has states keeps w

-- ---- looks, one after another

-- so many looks lead the machine from one state to another; a read gives the value that the node has
pub data Looks (node : ℕ) (values : ℕ → ℕ) (from : Plain) : ℕ → Plain → Type 0 where
  none : Looks node values from zero from
  more : {count : ℕ} {mid last : Plain} (d : Deed) (memory : List ℕ) → Looks node values from count mid → IsLook d
      → ((w v : ℕ) → d ≡ Read w v → v ≡ values w) → plain_step (with_memory mid memory) node ≡ Some (d, last) → Looks node values from (suc count) last

module _ (program : Program) (shape : Shape) (node : ℕ) (values : ℕ → ℕ) where
  -- the machine stands here after the acts of an exact run, and the node has these values
  pub record IsRound (acts : List Act) (machine : Plain) : Type 0 where
    pub run : IsExactRun program shape acts
    pub stands : StandsAt program shape.nodes acts machine
    pub has : HasValues shape node values acts

  -- free acts lead to such a run that is longer
  record Along (acts : List Act) (machine : Plain) (count : ℕ) : Type 0 where
    later : List Act
    ahead : IsAhead program shape acts later
    long : length acts + count ≤ length later
    round : IsRound later machine

  other_words : (acts : List Act) (machine : Plain) (memory : List ℕ) → StandsAt program shape.nodes acts machine
      → StandsAt program shape.nodes acts (with_memory machine memory)
  other_words acts machine memory s =
      record { follows = s.follows; memory = s.memory; matches = s.matches; long = s.long; size = s.size; leads = s.leads }

  look : (acts : List Act) (mid last : Plain) (d : Deed) (memory : List ℕ) → IsRound acts mid → IsLook d → ((w v : ℕ) → d ≡ Read w v → v ≡ values w)
      → plain_step (with_memory mid memory) node ≡ Some (d, last) → Along acts last (suc zero)
  look acts mid last d memory r is_look gives step =
      let next = comes program shape.nodes acts (with_memory mid memory) (other_words acts mid memory r.stands) node d last step in
      let longer = exact_more program shape acts node d r.run next (λ w v states is keeps. gives w v is ∙ sym (r.has states keeps w)) in
      let one = length_push acts (act_of node d) in
      record {
        later = acts ++ act_of node d ∷ [];
        ahead = onward (act_of node d) still (record { longer = longer; free = look_free d is_look });
        long = omega (arith, one);
        round = record {
          run = longer;
          stands = stands_next program shape.nodes acts mid r.stands node d memory last step;
          has = values_stay program shape acts node d longer r.run.exact.states r.run.exact.keeps is_look values r.has;
        };
      }

  along : {from to : Plain} {count : ℕ} (acts : List Act) → IsRound acts from → Looks node values from count to → Along acts to count
  along acts r none = record { later = acts; ahead = still; long = omega arith; round = r }
  along acts r (more {count = count} {mid = mid} {last = last} d memory before is_look gives step) =
      let a = along acts r before in
      let b = look a.later mid last d memory a.round is_look gives step in
      let far = a.long in
      let farther = b.long in
      record {
        later = b.later;
        ahead = ahead_again a.ahead b.ahead;
        long = omega (arith, far, farther);
        round = b.round;
      }

  -- as often as is wanted
  often : (times : ℕ) {from : Plain} {count : ℕ} (acts : List Act) → IsRound acts from → Looks node values from (suc count) from → Along acts from times
  often zero acts r looks = record { later = acts; ahead = still; long = omega arith; round = r }
  often (suc times) acts r looks =
      let a = often times acts r looks in
      let b = along a.later a.round looks in
      let far = a.long in
      let farther = b.long in
      record {
        later = b.later;
        ahead = ahead_again a.ahead b.ahead;
        long = omega (arith, far, farther);
        round = b.round;
      }

  pub goes_round : {from : Plain} {count : ℕ} (acts : List Act) → IsRound acts from → Looks node values from (suc count) from
      → IsEndless program shape acts
  goes_round acts r looks many =
      let a = often many acts r looks in
      let far = a.long in
      (a.later, a.ahead, omega (arith, far))

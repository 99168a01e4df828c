-- From a run of the plain machine to a way of settled states.
use Rattle.std.proofs.Common.{◌≡◌, ℕ, zero, suc, ◌+◌, ◌≤◌, List, [], ◌∷◌, ◌++◌, inl, inr, Bool, true, false, length, refl, sym, ap, ◌∙◌, subst, arith, append_assoc}
use Rattle.std.specs.Prelude.{Option, Some}
use Rattle.std.proofs.lemmas.List.{append-nil}
use Rattle.std.proofs.lemmas.Option.{some_pair_parts}
use Rattle.lrc_program.specs.declared.Program.{Program}
use Rattle.lrc_trace.specs.declared.act.Act.{Act}
use Rattle.lrc_trace.specs.declared.act.Deed.{Deed}
use Rattle.lrc_trace.specs.declared.act.Deed.TheVariants.{Depart}
use Rattle.lrc_trace.specs.Run.{act_of}
use Rattle.lrc_exec.specs.Meaning.{Thread, Next, next_of}
use Rattle.lrc_exec.specs.Plain.{Plain, plain_step, plain_from, plain_start}
use Rattle.lrc_exec.specs.Follows.{Goes, quietly, printing, reading, writing, acquiring, releasing, arriving, departing, trapping, ending}
use Rattle.lrc_consistency_laws.proofs.Plainly.{stepwise}
use Rattle.lrc_orders.specs.Stuck.{IsAtRest}
use Rattle.lrc_orders.specs.Traps.{has_trap}
use Rattle.lrc_orders_laws.specs.Free.{is_free, is_free_in, is_contended, TurnsAt}
use Rattle.lrc_orders_laws.specs.Settling.{IsSettled, Settles, settled, settling}
use Rattle.lrc_orders_laws.specs.Steps.{Leads, alone, together, IsSettledState, beginning, onward}
use Rattle.lrc_orders_laws.proofs.Parts.{Stepped, stepped}
use Rattle.lrc_orders_laws.proofs.Held.{Held, held_after, held_at_start}
use Rattle.lrc_orders_laws.proofs.Diamond.{true_is_false}
use Rattle.lrc_orders_laws.proofs.Front.{Follows, follows_here, follows_on, follows_behind, follows_is}
use Rattle.lrc_orders_laws.proofs.Turning.{turns_still, at_rest_none_turns, dropped}
use Rattle.lrc_orders_laws.proofs.Finishing.{AllFinish}
use Rattle.lrc_orders_laws.proofs.Settle.{settle, settling_free, along}
use Rattle.lrc_orders_laws.proofs.Aligned as barriers
use Rattle.lrc_orders_laws.proofs.Aligned.{Aligned, aligned_after, aligned_at_start, AtBarrier, at_barrier, all_wait, aligned_past, Together}

-- what holds of each settled state
pub record Fine (machine : Plain) : Type 0 where
  pub held : Held machine
  pub aligned : Aligned machine

pub fine_after : (machine : Plain) → Fine machine → (node : ℕ) (deed : Deed) (after : Plain) → Stepped machine node deed after → (deed ≡ Depart → ⊥) → Fine after
fine_after machine fine node deed after s never_so = record {
  held = held_after machine fine.held node deed after s;
  aligned = aligned_after machine fine.held fine.aligned node deed after s never_so;
}

pub not_depart : {next : Next} {deed : Deed} {new : Option Thread} → Goes next deed new → is_free next ≡ true → deed ≡ Depart → ⊥
not_depart quietly f e = cc
not_depart printing f e = cc
not_depart reading f e = cc
not_depart writing f e = cc
not_depart acquiring f e = cc
not_depart releasing f e = cc
not_depart arriving f e = cc
not_depart departing f e = true_is_false true refl (sym f)
not_depart trapping f e = cc
not_depart ending f e = cc

-- neither contended nor free is a depart alone
is_depart : {next : Next} {deed : Deed} {new : Option Thread} → Goes next deed new → is_contended deed ≡ false → is_free next ≡ false → deed ≡ Depart
is_depart quietly e f = true_is_false true refl f
is_depart printing e f = true_is_false true refl f
is_depart reading e f = true_is_false true refl e
is_depart writing e f = true_is_false true refl e
is_depart acquiring e f = true_is_false true refl e
is_depart releasing e f = true_is_false true refl f
is_depart arriving e f = true_is_false true refl f
is_depart departing e f = refl
is_depart trapping e f = true_is_false true refl f
is_depart ending e f = true_is_false true refl f

pub contended_no_depart : (deed : Deed) → is_contended deed ≡ true → deed ≡ Depart → ⊥
contended_no_depart deed e is = true_is_false true refl (sym (subst (λ d. is_contended d ≡ true) is e))

pub is_settled : {machine there : Plain} {made : List Act} → Settles machine made there → IsSettled there
is_settled (settled machine is) = is
is_settled (settling machine after there node deed made next step more) = is_settled more

pub fine_settled : {machine there : Plain} {made : List Act} → Settles machine made there → Fine machine → Fine there
fine_settled (settled machine is) fine = fine
fine_settled (settling machine after there node deed made next step more) fine =
    let s = stepped machine node deed after step in
    fine_settled more (fine_after machine fine node deed after s (not_depart s.took.goes (settling_free next s)))

-- steps one after the other
pub data Way : Plain → List Act → Plain → Type 0 where
  ended : (machine : Plain) → Way machine [] machine
  goes_on : (machine mid there : Plain) (acts more : List Act) → Leads machine acts mid → Way mid more there → Way machine (acts ++ more) there

-- a way of settled states that stands for a run
pub record Onward (machine : Plain) (acts : List Act) (final : Plain) : Type 0 where
  pub made : List Act
  pub there : Plain
  pub way : Way machine made there
  pub follows : Follows acts made final there

-- the same where the state has to settle first
pub record Settling (machine : Plain) (acts : List Act) (final : Plain) : Type 0 where
  pub first : List Act
  pub mid : Plain
  pub settles : Settles machine first mid
  pub made : List Act
  pub there : Plain
  pub way : Way mid made there
  pub follows : Follows acts (first ++ made) final there

follows_join : (xs : List Act) {ks ls : List Act} {x y : Plain} → Follows ks ls x y → Follows (xs ++ ks) (xs ++ ls) x y
follows_join [] f = f
follows_join (a ∷ xs) f = follows_behind a (follows_join xs f)

follows_as : {ks ls ms : List Act} {x y : Plain} → ls ≡ ms → Follows ks ls x y → Follows ks ms x y
follows_as {ks = ks} {x = x} {y = y} e f = subst (λ l. Follows ks l x y) e f

-- what is to be shown may be known only once each node's free acts come to an end
module _ (Goal : Type 0) (Good : Plain → Type 0)
    (keeps : (final new_final : Plain) → (IsAtRest final → new_final ≡ final) → Good final → Good new_final)
    (finish : (machine : Plain) (order : List ℕ) (acts : List Act) (final : Plain) → plain_from machine order ≡ Some (acts, final) → Good final
    → (AllFinish machine → Goal) → Goal) where
  -- from settled states, for runs of so many acts
  abbrev FromSettled : ℕ → Type 0
  FromSettled most = (machine : Plain) → IsSettled machine → Fine machine → (order : List ℕ) (acts : List Act) (final : Plain) → length order ≤ most
      → plain_from machine order ≡ Some (acts, final) → Good final → (Onward machine acts final → Goal) → Goal

  settle_on : (most : ℕ) → FromSettled most → (machine : Plain) → Fine machine → (order : List ℕ) (acts : List Act) (final : Plain) → length order ≤ most
      → plain_from machine order ≡ Some (acts, final) → Good final → (Settling machine acts final → Goal) → Goal
  settle_on most next machine fine order acts final le run good then_goal = finish machine order acts final run good (λ fin.
      let st = settle machine fin in
      let al = along st.settles fine.held order acts final run in
      next st.final (is_settled st.settles) (fine_settled st.settles fine) al.new_order al.new_acts al.new_final (let short = al.short in omega (arith, short, le))
      al.run (keeps final al.new_final (λ still. (al.follows.rest still).0) good) (λ on. then_goal (record {
        first = st.acts;
        mid = st.final;
        settles = st.settles;
        made = on.made;
        there = on.there;
        way = on.way;
        follows = follows_on al.follows (follows_join st.acts on.follows);
      })))

  by_kind : (most : ℕ) → FromSettled most → (machine : Plain) → IsSettled machine → Fine machine → (x : ℕ) (order : List ℕ) (acts : List Act) (final : Plain)
      → length order ≤ most → plain_from machine (x ∷ order) ≡ Some (acts, final) → (deed : Deed) (after : Plain) (more : List Act)
      → plain_step machine x ≡ Some (deed, after) → plain_from after order ≡ Some (more, final) → acts ≡ act_of x deed ∷ more
      → (s : Stepped machine x deed after) → Good final → (Onward machine acts final → Goal) → (contended free : Bool) → is_contended deed ≡ contended
      → is_free (next_of s.thread) ≡ free → Goal
  -- a read, a write or an acquire is a step
  by_kind most next machine is fine x order acts final le run deed after more first rest acts_are s good then_goal true free e f =
      settle_on most next after (fine_after machine fine x deed after s (contended_no_depart deed e)) order more final le rest good (λ r. then_goal (record {
        made = (act_of x deed ∷ r.first) ++ r.made;
        there = r.there;
        way = goes_on machine r.mid r.there (act_of x deed ∷ r.first) r.made (alone machine after r.mid x deed r.first e first r.settles) r.way;
        follows = follows_is (sym acts_are) (follows_behind (act_of x deed) r.follows);
      }))
  -- what a node does that turns for ever is left out
  by_kind most next machine is fine x order acts final le run deed after more first rest acts_are s good then_goal false true e f =
      let turns : TurnsAt machine x = is.each x (ap is_free_in s.there ∙ f) in
      let never : IsAtRest final → ⊥ = λ still. at_rest_none_turns final x still (turns_still (x ∷ order) machine final acts x run turns) in
      let d = dropped machine after final x deed order more first turns rest in
      next machine is fine d.new_order d.new_acts d.new_final (let short = d.short in omega (arith, short, le)) d.run
      (keeps final d.new_final (λ still. absurd (never still)) good) (λ on. then_goal (record {
        made = on.made;
        there = on.there;
        way = on.way;
        follows = follows_on (record { rest = λ still. absurd (never still); meets = d.meets; traps = λ t. d.traps (ap has_trap (sym acts_are) ∙ t) }) on.follows;
      }))
  -- the first depart of an episode is the step of all
  by_kind most next machine is fine x order acts final le run deed after more first rest acts_are s good then_goal false false e f =
      let long = length machine.threads in
      let count = fine.aligned.episode + 1 in
      let b = at_barrier machine fine.held fine.aligned x after deed s (is_depart s.took.goes e f) in
      let t = barriers.together long 0 long count (omega arith) machine b (x ∷ order) acts final run in
      let short : length t.new_order ≤ most = elim t.short [
        | inl lt ↦ omega (arith, lt, le)
        | inr same ↦ absurd (same.1 x (omega arith) s.within (inl refl))
      ] in
      let fine' : Fine t.there = record { held = t.barrier.held; aligned = aligned_past t.there count long t.barrier } in
      settle_on most next t.there fine' t.new_order t.new_acts t.new_final short t.run
      (keeps final t.new_final (λ still. (t.follows.rest still).0) good) (λ r. then_goal (record {
        made = (t.departs_made ++ r.first) ++ r.made;
        there = r.there;
        way = goes_on machine r.mid r.there (t.departs_made ++ r.first) r.made
            (together machine t.there r.mid t.departs_made r.first (all_wait machine count b) t.led r.settles) r.way;
        follows = follows_as (sym (append_assoc t.departs_made r.first r.made)) (follows_on t.follows (follows_join t.departs_made r.follows));
      }))

  from_settled : (most : ℕ) → FromSettled most
  from_settled most machine is fine [] acts final le run good then_goal =
      let same = some_pair_parts [] acts machine final run in
      then_goal (record {
        made = [];
        there = machine;
        way = ended machine;
        follows = follows_is same.0 (subst (λ m. Follows [] [] m machine) same.1 (follows_here [] machine));
      })
  from_settled zero machine is fine (x ∷ order) acts final le run good then_goal = absurd (omega (arith, le))
  from_settled (suc most) machine is fine (x ∷ order) acts final le run good then_goal =
      let s = stepwise machine x order acts final run in
      let st = stepped machine x s.deed s.after s.first in
      by_kind most (from_settled most) machine is fine x order acts final (omega (arith, le)) run s.deed s.after s.more s.first s.rest s.acts_are st good
      then_goal (is_contended s.deed) (is_free (next_of st.thread)) refl refl

  pub from_start : (program : Program) (nodes : ℕ) (order : List ℕ) (acts : List Act) (final : Plain)
      → plain_from (plain_start program nodes) order ≡ Some (acts, final) → Good final → (Settling (plain_start program nodes) acts final → Goal) → Goal
  from_start program nodes order acts final run good then_goal =
      settle_on (length order) (from_settled (length order)) (plain_start program nodes)
      (record { held = held_at_start program nodes; aligned = aligned_at_start program nodes }) order acts final (omega arith) run good then_goal

-- a way from a settled state leads to one
pub state_on : {program : Program} {nodes : ℕ} {acts more : List Act} {machine there : Plain} → IsSettledState program nodes acts machine
    → Way machine more there → IsSettledState program nodes (acts ++ more) there
state_on {program} {nodes} {acts} state (ended machine) = subst (λ l. IsSettledState program nodes l machine) (sym (append-nil acts)) state
state_on {program} {nodes} {acts} state (goes_on machine mid there first more leads way) =
    subst (λ l. IsSettledState program nodes l there) (append_assoc acts first more)
    (state_on (onward acts first machine mid state leads) way)

pub settled_state : {program : Program} {nodes : ℕ} {acts : List Act} {final : Plain} → (s : Settling (plain_start program nodes) acts final)
    → IsSettledState program nodes (s.first ++ s.made) s.there
settled_state s = state_on (beginning s.first s.mid s.settles) s.way

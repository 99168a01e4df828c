-- Where undisputed acts lead from the settled states on to some of them, what some order shows one of these shows.
use Rattle.std.proofs.Common.{◌≡◌, ℕ, zero, suc, ◌+◌, ◌≤◌, List, [], ◌∷◌, ◌++◌, inl, inr, Bool, true, false, length, refl, sym, ap, ◌∙◌, subst, arith, append_assoc}
use Rattle.std.specs.Prelude.{Some}
use Rattle.std.proofs.lemmas.List.{append-nil}
use Rattle.std.proofs.lemmas.Option.{some_pair_parts}
use Rattle.lrc_program.specs.declared.Program.{Program}
use Rattle.lrc_trace.specs.declared.act.Act.{Act}
use Rattle.lrc_trace.specs.declared.act.Deed.{Deed}
use Rattle.lrc_trace.specs.declared.act.Deed.TheVariants.{Depart}
use Rattle.lrc_trace.specs.Run.{act_of}
use Rattle.lrc_exec.specs.Meaning.{Next, Thread, next_of}
use Rattle.lrc_exec.specs.Plain.{Plain, plain_step, plain_from, plain_start}
use Rattle.lrc_exec.specs.Follows.{Goes, quietly, printing, reading, writing, acquiring, releasing, arriving, departing, trapping, ending}
use Rattle.lrc_consistency_laws.proofs.Plainly.{stepwise}
use Rattle.std.specs.Prelude.{Option}
use Rattle.lrc_orders_laws.specs.Free.{is_contended, is_free, is_free_in, TurnsAt}
use Rattle.lrc_orders_laws.specs.Settling.{IsSettled, Settles, settled, settling}
use Rattle.lrc_orders_laws.specs.Steps.{Leads, alone, together}
use Rattle.lrc_orders_laws.proofs.Parts.{Stepped, stepped}
use Rattle.lrc_orders_laws.proofs.Held.{Held, held_at_start}
use Rattle.lrc_orders_laws.proofs.Diamond.{true_is_false}
use Rattle.lrc_orders_laws.proofs.Front.{Follows, follows_behind}
use Rattle.lrc_orders_laws.proofs.Turning.{Dropped, dropped}
use Rattle.lrc_orders_laws.proofs.Finishing.{AllFinish, all_may_finish, free_steady}
use Rattle.lrc_orders_laws.proofs.Settle.{settle, settling_free, along}
use Rattle.lrc_orders_laws.proofs.Aligned as barriers
use Rattle.lrc_orders_laws.proofs.Aligned.{aligned_at_start, at_barrier, all_wait, aligned_past}
use Rattle.lrc_orders_laws.proofs.Onward.{Fine, contended_no_depart, fine_after, fine_settled}
use Rattle.lrc_orders_undisputed.specs.Undisputed.{Conflicts, read_and_written, written_and_read, written_twice, acquired_twice, IsUndisputed}
use Rattle.lrc_orders_undisputed.specs.Searched.{Advances, arrived, further}

-- ---- settling is made of undisputed acts

no_conflict : {deed : Deed} {next : Next} → Conflicts deed next → is_contended deed ≡ false → ⊥
no_conflict read_and_written e = true_is_false true refl e
no_conflict written_and_read e = true_is_false true refl e
no_conflict written_twice e = true_is_false true refl e
no_conflict acquired_twice e = true_is_false true refl e

pub steady_undisputed : (machine after : Plain) (node : ℕ) (deed : Deed) → plain_step machine node ≡ Some (deed, after) → is_contended deed ≡ false
    → IsUndisputed machine node deed after
steady_undisputed machine after node deed step steady = record { step = step; never = λ d. no_conflict d.conflicts steady }

pub settles_advances : {machine there : Plain} {acts : List Act} → Settles machine acts there → Advances machine acts there
settles_advances (settled machine is) = arrived machine
settles_advances (settling machine after there node deed acts next step more) =
    let s = stepped machine node deed after step in
    further machine after there node deed acts
    (steady_undisputed machine after node deed step (free_steady s.took.goes (settling_free next s)))
    (settles_advances more)

pub advances_on : {a b c : Plain} {first more : List Act} → Advances a first b → Advances b more c → Advances a (first ++ more) c
advances_on (arrived machine) then = then
advances_on {c = c} {more = more} (further machine mid final node deed acts u rest) then =
    further machine mid c node deed (acts ++ more) u (advances_on rest then)

-- ---- what a run shows

follows_join : (first : List Act) {ks ls : List Act} {x y : Plain} → Follows ks ls x y → Follows (first ++ ks) (first ++ ls) x y
follows_join [] f = f
follows_join (a ∷ first) f = follows_behind a (follows_join first f)

-- neither contended nor free is a depart alone
is_depart : {next : Next} {deed : Deed} {new : Option Thread} → Goes next deed new → is_contended deed ≡ false → is_free next ≡ false → deed ≡ Depart
is_depart quietly e f = true_is_false true refl f
is_depart printing e f = true_is_false true refl f
is_depart reading e f = true_is_false true refl e
is_depart writing e f = true_is_false true refl e
is_depart acquiring e f = true_is_false true refl e
is_depart releasing e f = true_is_false true refl f
is_depart arriving e f = true_is_false true refl f
is_depart departing e f = refl
is_depart trapping e f = true_is_false true refl f
is_depart ending e f = true_is_false true refl f

-- after these acts, undisputed acts lead from the state to one that is kept open
pub record Onto (Open : List Act → Plain → Type 0) (past : List Act) (machine : Plain) : Type 0 where
  pub made : List Act
  pub there : Plain
  pub advances : Advances machine made there
  pub open_there : Open (past ++ made) there

-- a run of no more acts that shows the same
pub record GoodRun (Good : List Act → Plain → Type 0) (past : List Act) (machine : Plain) (most : ℕ) : Type 0 where
  pub order : List ℕ
  pub acts : List Act
  pub final : Plain
  pub led : plain_from machine order ≡ Some (acts, final)
  pub short : length order ≤ most
  pub good : Good (past ++ acts) final

-- what is looked for stays where a run begins with acts that others do not dispute, and where those of a node that turns are left out
pub record IsLookedFor (Good : List Act → Plain → Type 0) : Type 0 where
  pub follows : (acts new : List Act) (final new_final : Plain) → Follows acts new final new_final → Good acts final → Good new new_final
  pub drops : (past : List Act) (machine after final : Plain) (node : ℕ) (deed : Deed) (order : List ℕ) (acts : List Act)
      → plain_step machine node ≡ Some (deed, after) → TurnsAt machine node → plain_from after order ≡ Some (acts, final)
      → (d : Dropped machine node deed order acts final) → Good (past ++ act_of node deed ∷ acts) final → Good (past ++ d.new_acts) d.new_final
  pub ahead : (past made : List Act) (machine there : Plain) → Held machine → Advances machine made there → (order : List ℕ) (acts : List Act) (final : Plain)
      → plain_from machine order ≡ Some (acts, final) → Good (past ++ acts) final → GoodRun Good (past ++ made) there (length order)

-- the settled states from which steps go on, with the acts that lead to them
pub record AreKept (program : Program) (nodes : ℕ) (Open : List Act → Plain → Type 0) : Type 0 where
  pub fine : (past : List Act) (machine : Plain) → Open past machine → Fine machine
  pub is_settled : (past : List Act) (machine : Plain) → Open past machine → IsSettled machine
  pub onward : (past acts : List Act) (machine after : Plain) → Open past machine → Leads machine acts after → Onto Open (past ++ acts) after
  pub begins : (acts : List Act) (machine : Plain) → Settles (plain_start program nodes) acts machine → Onto Open acts machine

-- what is to be shown may be known only once each node's free acts come to an end
abbrev pub MayFinish : (Goal : Type 0) → (Good : List Act → Plain → Type 0) → Type 0
MayFinish Goal Good =
    (machine : Plain) (order : List ℕ) (total acts : List Act) (final : Plain) → plain_from machine order ≡ Some (acts, final) → Good total final
    → (AllFinish machine → Goal) → Goal

pub may_finish : (Good : List Act → Plain → Type 0) → MayFinish ⊥ Good
may_finish Good machine order total acts final run good go = all_may_finish machine go

module _ (program : Program) (nodes : ℕ) (Open Good : List Act → Plain → Type 0) (kept : AreKept program nodes Open) (looked : IsLookedFor Good)
    (Goal : Type 0) (finish : MayFinish Goal Good) (shown : (past : List Act) (machine : Plain) → Open past machine → Good past machine → Goal) where
  abbrev FromOpen : ℕ → Type 0
  FromOpen most = (past : List Act) (machine : Plain) → Open past machine → (order : List ℕ) (acts : List Act) (final : Plain) → length order ≤ most
      → plain_from machine order ≡ Some (acts, final) → Good (past ++ acts) final → Goal

  from_onto : (most : ℕ) → FromOpen most → (past : List Act) (machine : Plain) → Held machine → Onto Open past machine → (order : List ℕ) (acts : List Act)
      (final : Plain) → length order ≤ most → plain_from machine order ≡ Some (acts, final) → Good (past ++ acts) final → Goal
  from_onto most next past machine held onto order acts final le run good =
      let a = looked.ahead past onto.made machine onto.there held onto.advances order acts final run good in
      next (past ++ onto.made) onto.there onto.open_there a.order a.acts a.final (let short = a.short in omega (arith, short, le)) a.led a.good

  -- from where a step has begun
  settle_on : (most : ℕ) → FromOpen most → (past begun : List Act) (machine mid : Plain) → Open past machine → Fine mid
      → ((made : List Act) (there : Plain) → Settles mid made there → Leads machine (begun ++ made) there) → (order : List ℕ) (acts : List Act)
      (final : Plain) → length order ≤ most → plain_from mid order ≡ Some (acts, final) → Good (past ++ (begun ++ acts)) final → Goal
  settle_on most next past begun machine mid is fine leads order acts final le run good = finish mid order (past ++ (begun ++ acts)) acts final run good (λ fin.
      let st = settle mid fin in
      let al = along st.settles fine.held order acts final run in
      let onto = kept.onward past (begun ++ st.acts) machine st.final is (leads st.acts st.final st.settles) in
      let held = (fine_settled st.settles fine).held in
      let on = looked.follows (past ++ (begun ++ acts)) (past ++ (begun ++ (st.acts ++ al.new_acts))) final al.new_final
      (follows_join past (follows_join begun al.follows)) good in
      let regroup : past ++ (begun ++ (st.acts ++ al.new_acts)) ≡ (past ++ (begun ++ st.acts)) ++ al.new_acts =
      ap (λ l. past ++ l) (sym (append_assoc begun st.acts al.new_acts)) ∙ sym (append_assoc past (begun ++ st.acts) al.new_acts) in
      from_onto most next (past ++ (begun ++ st.acts)) st.final held onto al.new_order al.new_acts al.new_final (let short = al.short in omega (arith, short, le))
      al.run (subst (λ l. Good l al.new_final) regroup on))

  by_kind : (most : ℕ) → FromOpen most → (past : List Act) (machine : Plain) → Open past machine → (x : ℕ) (order : List ℕ) (acts : List Act) (final : Plain)
      → length order ≤ most → plain_from machine (x ∷ order) ≡ Some (acts, final) → (deed : Deed) (after : Plain) (more : List Act)
      → plain_step machine x ≡ Some (deed, after) → plain_from after order ≡ Some (more, final) → acts ≡ act_of x deed ∷ more
      → (s : Stepped machine x deed after) → Good (past ++ acts) final → (contended free : Bool) → is_contended deed ≡ contended
      → is_free (next_of s.thread) ≡ free → Goal
  -- a read, a write or an acquire begins a step
  by_kind most next past machine is x order acts final le run deed after more first rest acts_are s good true free e f =
      settle_on most next past (act_of x deed ∷ []) machine after is (fine_after machine (kept.fine past machine is) x deed after s (contended_no_depart deed e))
      (λ made there settles. alone machine after there x deed made e first settles) order more final le rest
      (subst (λ l. Good (past ++ l) final) acts_are good)
  -- what a node does that turns for ever is left out
  by_kind most next past machine is x order acts final le run deed after more first rest acts_are s good false true e f =
      let turns : TurnsAt machine x = (kept.is_settled past machine is).each x (ap is_free_in s.there ∙ f) in
      let d = dropped machine after final x deed order more first turns rest in
      next past machine is d.new_order d.new_acts d.new_final (let short = d.short in omega (arith, short, le)) d.run
      (looked.drops past machine after final x deed order more first turns rest d (subst (λ l. Good (past ++ l) final) acts_are good))
  -- the first depart of an episode begins the step of all
  by_kind most next past machine is x order acts final le run deed after more first rest acts_are s good false false e f =
      let fine = kept.fine past machine is in
      let long = length machine.threads in
      let count = fine.aligned.episode + 1 in
      let b = at_barrier machine fine.held fine.aligned x after deed s (is_depart s.took.goes e f) in
      let t = barriers.together long 0 long count (omega arith) machine b (x ∷ order) acts final run in
      let short : length t.new_order ≤ most = elim t.short [
        | inl lt ↦ omega (arith, lt, le)
        | inr same ↦ absurd (same.1 x (omega arith) s.within (inl refl))
      ] in
      let fine' : Fine t.there = record { held = t.barrier.held; aligned = aligned_past t.there count long t.barrier } in
      settle_on most next past t.departs_made machine t.there is fine'
      (λ made there settles. together machine t.there there t.departs_made made (all_wait machine count b) t.led settles) t.new_order t.new_acts t.new_final short
      t.run (looked.follows (past ++ acts) (past ++ (t.departs_made ++ t.new_acts)) final t.new_final (follows_join past t.follows) good)

  from_open : (most : ℕ) → FromOpen most
  from_open most past machine is [] acts final le run good =
      let same = some_pair_parts [] acts machine final run in
      shown past machine is
      (subst (λ l. Good l machine) (append-nil past) (subst (λ l. Good (past ++ l) machine) (sym same.0) (subst (Good (past ++ acts)) (sym same.1) good)))
  from_open zero past machine is (x ∷ order) acts final le run good = absurd (omega (arith, le))
  from_open (suc most) past machine is (x ∷ order) acts final le run good =
      let s = stepwise machine x order acts final run in
      let st = stepped machine x s.deed s.after s.first in
      by_kind most (λ p m o xs ks f l r g. from_open most p m o xs ks f l r g) past machine is x order acts final (omega (arith, le)) run s.deed s.after s.more s.first s.rest s.acts_are st good
      (is_contended s.deed) (is_free (next_of st.thread)) refl refl

  pub all_shown : (order : List ℕ) (acts : List Act) (final : Plain) → plain_from (plain_start program nodes) order ≡ Some (acts, final)
      → Good acts final → Goal
  all_shown order acts final run good = finish (plain_start program nodes) order acts acts final run good (λ fin.
      let start = plain_start program nodes in
      let fine : Fine start = record { held = held_at_start program nodes; aligned = aligned_at_start program nodes } in
      let st = settle start fin in
      let al = along st.settles fine.held order acts final run in
      from_onto (length order) (from_open (length order)) st.acts st.final (fine_settled st.settles fine).held (kept.begins st.acts st.final st.settles)
      al.new_order al.new_acts al.new_final al.short al.run (looked.follows acts (st.acts ++ al.new_acts) final al.new_final al.follows good))

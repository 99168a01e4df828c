-- In front: a run from where a node can make an act that nobody disputes can begin with this act, and go on with the rest.
use Rattle.std.proofs.Common.{◌≡◌, ℕ, ◌+◌, ◌≤◌, List, [], ◌∷◌, inl, inr, length, refl, sym, ap, ◌∙◌, subst, arith}
use Rattle.std.specs.Prelude.{Some}
use Rattle.std.proofs.lemmas.Bool.{cases_eq}
use Rattle.std.proofs.lemmas.Option.{some_pair_parts}
use Rattle.lrc_trace.specs.declared.act.Act.{Act}
use Rattle.lrc_trace.specs.declared.act.Deed.{Deed}
use Rattle.lrc_trace.specs.Run.{act_of}
use Rattle.lrc_exec.specs.Meaning.{next_of}
use Rattle.lrc_exec.specs.Plain.{Plain, plain_step, plain_from}
use Rattle.lrc_consistency_laws.proofs.Plainly.{stepwise, one_more}
use Rattle.lrc_orders_laws.proofs.Parts.{Stepped, stepped}
use Rattle.lrc_orders_laws.proofs.Held.{Held, held_after}
use Rattle.lrc_orders_undisputed.specs.Undisputed.{Conflicts, IsUndisputed}
use Rattle.lrc_orders_undisputed.proofs.Swapping.{swapped}

-- what another node does next does not conflict
pub clear : {machine after : Plain} {node x : ℕ} {deed first : Deed} {there : Plain} → IsUndisputed machine node deed after → (x ≡ node → ⊥)
    → (s : Stepped machine x first there) → Conflicts deed (next_of s.thread) → ⊥
clear {machine} {x = x} u apart s conflicts = u.never (record {
  order = [];
  acts = [];
  final = machine;
  led = refl;
  without = λ o. o;
  other = x;
  apart = apart;
  thread = s.thread;
  there = s.there;
  conflicts = conflicts;
})

-- behind an act of another node it is still undisputed
pub still_undisputed : {machine after there far : Plain} {node x : ℕ} {deed first : Deed} → IsUndisputed machine node deed after → (x ≡ node → ⊥)
    → plain_step machine x ≡ Some (first, there) → plain_step there node ≡ Some (deed, far) → IsUndisputed there node deed far
still_undisputed {machine} {there = there} {node = node} {x = x} {first = first} u apart e step = record {
  step = step;
  never = λ d. u.never (record {
    order = x ∷ d.order;
    acts = act_of x first ∷ d.acts;
    final = d.final;
    led = one_more machine there d.final x first d.order d.acts e d.led;
    without = λ o. elim o [
      | inl same ↦ apart same
      | inr later ↦ d.without later
    ];
    other = d.other;
    apart = d.apart;
    thread = d.thread;
    there = d.there;
    conflicts = d.conflicts;
  });
}

-- an undisputed act and one of another node, in either order
pub record Passed (machine after there : Plain) (node x : ℕ) (deed first : Deed) : Type 0 where
  pub far : Plain
  pub own : plain_step after x ≡ Some (first, far)
  pub later : IsUndisputed there node deed far

pub passed : (machine after there : Plain) (node x : ℕ) (deed first : Deed) → Held machine → IsUndisputed machine node deed after → (x ≡ node → ⊥)
    → plain_step machine x ≡ Some (first, there) → Passed machine after there node x deed first
passed machine after there node x deed first held u apart e =
    let one = stepped machine node deed after u.step in
    let other = stepped machine x first there e in
    let d = swapped machine held node x (λ same. apart (sym same)) deed first after there one other (clear u apart other) in
    record { far = d.far; own = d.first_then; later = still_undisputed u apart e d.second_then }

-- acts, and the same with an act put in behind some acts of other nodes
pub data Moved (act : Act) : List Act → List Act → Type 0 where
  first : (acts : List Act) → Moved act acts (act ∷ acts)
  later : (other : Act) (new old : List Act) → (act.node ≡ other.node → ⊥) → Moved act new old → Moved act (other ∷ new) (other ∷ old)

-- how a run ends once an act of a node was put in front: the act was the run's own, and the end is the same; or it is an act more, and
-- stands at the end of the run without it
pub data Ending (node : ℕ) (deed : Deed) (order new_order : List ℕ) (acts new_acts : List Act) (final new_final : Plain) : Type 0 where
  within : length new_order + 1 ≡ length order → new_final ≡ final → Moved (act_of node deed) new_acts acts
      → Ending node deed order new_order acts new_acts final new_final
  behind : new_order ≡ order → new_acts ≡ acts → IsUndisputed final node deed new_final
      → Ending node deed order new_order acts new_acts final new_final

-- the run that goes on behind the act
pub record Front (after : Plain) (node : ℕ) (deed : Deed) (order : List ℕ) (acts : List Act) (final : Plain) : Type 0 where
  pub new_order : List ℕ
  pub new_acts : List Act
  pub new_final : Plain
  pub run : plain_from after new_order ≡ Some (new_acts, new_final)
  pub ending : Ending node deed order new_order acts new_acts final new_final

-- the ending of a run of one act more before it
ending_on : (node x : ℕ) (deed other : Deed) (order new_order : List ℕ) (acts new_acts : List Act) (final new_final : Plain) → (node ≡ x → ⊥)
    → Ending node deed order new_order acts new_acts final new_final
    → Ending node deed (x ∷ order) (x ∷ new_order) (act_of x other ∷ acts) (act_of x other ∷ new_acts) final new_final
ending_on node x deed other order new_order acts new_acts final new_final apart (within shorter same moved) =
    within (omega arith) same (later (act_of x other) new_acts acts apart moved)
ending_on node x deed other order new_order acts new_acts final new_final apart (behind same alike last) =
    behind (ap (λ l. x ∷ l) same) (ap (λ l. act_of x other ∷ l) alike) last

pub in_front : (order : List ℕ) (machine final : Plain) (acts : List Act) (node : ℕ) (deed : Deed) (after : Plain) → Held machine
    → IsUndisputed machine node deed after → plain_from machine order ≡ Some (acts, final) → Front after node deed order acts final
in_front [] machine final acts node deed after held u e =
    let parts = some_pair_parts [] acts machine final e in
    record {
      new_order = [];
      new_acts = [];
      new_final = after;
      run = refl;
      ending = behind refl parts.0 (subst (λ m. IsUndisputed m node deed after) parts.1 u);
    }
in_front (x ∷ order) machine final acts node deed after held u e =
    let s = stepwise machine x order acts final e in
    elim (cases_eq node x) [
      | inl same ↦
          let both = some_pair_parts deed s.deed after s.after (sym u.step ∙ ap (plain_step machine) same ∙ s.first) in
          let is : act_of node deed ∷ s.more ≡ acts =
          ap (λ d. act_of node d ∷ s.more) both.0 ∙ ap (λ k. act_of k s.deed ∷ s.more) same ∙ sym s.acts_are in
          record {
            new_order = order;
            new_acts = s.more;
            new_final = final;
            run = ap (λ m. plain_from m order) both.1 ∙ s.rest;
            ending = within (omega arith) refl (subst (Moved (act_of node deed) s.more) is (first s.more));
          }
      | inr apart ↦
          let p = passed machine after s.after node x deed s.deed held u (λ same. apart (sym same)) s.first in
          let held' = held_after machine held x s.deed s.after (stepped machine x s.deed s.after s.first) in
          let more = in_front order s.after final s.more node deed p.far held' p.later s.rest in
          record {
            new_order = x ∷ more.new_order;
            new_acts = act_of x s.deed ∷ more.new_acts;
            new_final = more.new_final;
            run = one_more after p.far more.new_final x s.deed more.new_order more.new_acts p.own more.run;
            ending = subst (λ l. Ending node deed (x ∷ order) (x ∷ more.new_order) l (act_of x s.deed ∷ more.new_acts) final more.new_final) (sym s.acts_are)
                (ending_on node x deed s.deed order more.new_order s.more more.new_acts final more.new_final apart more.ending);
          }
    ]

-- the run behind an act put in front is no longer
pub ending_short : (node : ℕ) (deed : Deed) (order new_order : List ℕ) (acts new_acts : List Act) (final new_final : Plain)
    → Ending node deed order new_order acts new_acts final new_final → length new_order ≤ length order
ending_short node deed order new_order acts new_acts final new_final (within shorter same moved) = omega arith
ending_short node deed order new_order acts new_acts final new_final (behind same alike last) = omega (arith, ap length same)

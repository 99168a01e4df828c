-- Where each node's free acts come to an end, the state settles; and a run from it goes on from where it is settled.
use Rattle.std.proofs.Common.{◌≡◌, ℕ, zero, suc, ◌+◌, ◌<◌, ◌≤◌, List, [], ◌∷◌, ◌++◌, inl, inr, true, false, length, refl, sym, ap, ◌∙◌, subst, arith}
use Rattle.std.specs.Prelude.{Option, Some, None}
use Rattle.std.proofs.lemmas.Bool.{cases_eq, cases_lt}
use Rattle.std.proofs.lemmas.List.{get_or_past, get_or-set_same, get_or-set_other, length-set}
use Rattle.lrc_trace.specs.declared.act.Act.{Act}
use Rattle.lrc_trace.specs.declared.act.Deed.{Deed}
use Rattle.lrc_trace.specs.Run.{act_of}
use Rattle.lrc_exec.specs.Meaning.{Thread, next_of}
use Rattle.lrc_exec.specs.Plain.{Plain, thread_in, plain_step, plain_from}
use Rattle.lrc_orders.proofs.Effects.{after_of}
use Rattle.lrc_orders_laws.specs.Free.{is_free, is_free_in, is_contended, TurnsIn}
use Rattle.lrc_orders_laws.specs.Settling.{IsSettledAt, IsNextToSettle, Settles, settled, settling}
use Rattle.lrc_orders_laws.proofs.Parts.{Stepped, stepped, can_step}
use Rattle.lrc_orders_laws.proofs.Held.{Held, held_after}
use Rattle.lrc_orders_laws.proofs.Front.{Follows, follows_here, follows_on, follows_behind, in_front, ending_follows, ending_length}
use Rattle.lrc_orders_laws.proofs.Finishing.{Finishes, over, waits, turning, goes, AllFinish, free_can, free_steady}

pub record SettlesTo (machine : Plain) : Type 0 where
  pub acts : List Act
  pub final : Plain
  pub settles : Settles machine acts final

-- the nodes below this one are settled
abbrev Lower : Plain → ℕ → Type 0
Lower machine bound = (node : ℕ) → node < bound → IsSettledAt machine node

settled_alike : (a b : Option Thread) → a ≡ b → (is_free_in a ≡ true → TurnsIn a) → is_free_in b ≡ true → TurnsIn b
settled_alike a b e h = subst (λ o. is_free_in o ≡ true → TurnsIn o) e h

never_free : (o : Option Thread) → is_free_in o ≡ false → is_free_in o ≡ true → TurnsIn o
never_free o e f = let g : false ≡ true = sym e ∙ f in cc

lower_more : (machine : Plain) (node : ℕ) → Lower machine node → IsSettledAt machine node → Lower machine (node + 1)
lower_more machine node lower here n lt = elim (cases_eq n node) [
  | inl same ↦ subst (IsSettledAt machine) (sym same) here
  | inr apart ↦ lower n (omega (arith, lt, apart))
]

all_finish : (machine : Plain) (node : ℕ) → Finishes (thread_in machine node) → ((n : ℕ) → (n ≡ node → ⊥) → Finishes (thread_in machine n)) → AllFinish machine
all_finish machine node here others = record {
  each = λ n. elim (cases_eq n node) [
    | inl same ↦ subst (λ k. Finishes (thread_in machine k)) (sym same) here
    | inr apart ↦ others n apart
  ];
}

module _ (node long : ℕ) (within : node < long) where
  -- the others settle once this node has
  abbrev Next : Type 0
  Next = (machine : Plain) → length machine.threads ≡ long → AllFinish machine → Lower machine (node + 1) → SettlesTo machine

  settle_node : Next → {o : Option Thread} → Finishes o → (machine : Plain) → length machine.threads ≡ long → thread_in machine node ≡ o
      → ((n : ℕ) → (n ≡ node → ⊥) → Finishes (thread_in machine n)) → Lower machine node → SettlesTo machine
  settle_node next over machine size at others lower =
      next machine size (all_finish machine node (subst Finishes (sym at) over) others)
      (lower_more machine node lower (never_free (thread_in machine node) (ap is_free_in at)))
  settle_node next (waits thread e) machine size at others lower =
      next machine size (all_finish machine node (subst Finishes (sym at) (waits thread e)) others)
      (lower_more machine node lower (never_free (thread_in machine node) (ap is_free_in at ∙ e)))
  settle_node next (turning thread turns) machine size at others lower =
      next machine size (all_finish machine node (subst Finishes (sym at) (turning thread turns)) others)
      (lower_more machine node lower (λ free. subst TurnsIn (sym at) turns))
  settle_node next (goes thread deed after g free stop more) machine size at others lower =
      let there = after_of machine node deed after in
      let step : plain_step machine node ≡ Some (deed, there) = can_step machine node thread deed at refl g (free_can machine node g free) in
      let own : thread_in there node ≡ after = get_or-set_same machine.threads node after None (omega (arith, size, within)) in
      let others_are : (n : ℕ) → (n ≡ node → ⊥) → thread_in there n ≡ thread_in machine n =
      λ n apart. get_or-set_other machine.threads node n after None apart in
      let rest = settle_node next more there (length-set machine.threads node after ∙ size) own
      (λ n apart. subst Finishes (sym (others_are n apart)) (others n apart))
      (λ n lt. settled_alike (thread_in machine n) (thread_in there n) (sym (others_are n (λ e. absurd (omega (arith, lt, e))))) (lower n lt)) in
      record {
        acts = act_of node deed ∷ rest.acts;
        final = rest.final;
        settles = settling machine there rest.final node deed rest.acts
            (record { free = ap is_free_in at ∙ free; stops = λ turns. stop (subst TurnsIn at turns); lowest = lower }) step rest.settles;
      }

settle_from : (count node long : ℕ) → node + count ≡ long → (machine : Plain) → length machine.threads ≡ long → AllFinish machine → Lower machine node
    → SettlesTo machine
settle_from zero node long sum machine size fin lower = record {
  acts = [];
  final = machine;
  settles = settled machine (record {
    each = λ n. elim (cases_lt n node) [
      | inl lt ↦ lower n lt
      | inr le ↦ never_free (thread_in machine n) (ap is_free_in (get_or_past machine.threads n None (omega (arith, le, sum, size))))
    ];
  });
}
settle_from (suc count) node long sum machine size fin lower =
    settle_node node long (omega (arith, sum)) (λ m size' fin' lower'. settle_from count (node + 1) long (omega (arith, sum)) m size' fin' lower')
    (fin.each node) machine size refl (λ n apart. fin.each n) lower

pub settle : (machine : Plain) → AllFinish machine → SettlesTo machine
settle machine fin = settle_from (length machine.threads) 0 (length machine.threads) (omega arith) machine refl fin (λ n lt. absurd (omega (arith, lt)))

-- ---- a run from a state, from where that is settled

-- what settling makes is free
pub settling_free : {machine after : Plain} {node : ℕ} {deed : Deed} → IsNextToSettle machine node → (s : Stepped machine node deed after)
    → is_free (next_of s.thread) ≡ true
settling_free n s = sym (ap is_free_in s.there) ∙ n.free

pub record Along (settled_at : Plain) (made : List Act) (order : List ℕ) (acts : List Act) (final : Plain) : Type 0 where
  pub new_order : List ℕ
  pub new_acts : List Act
  pub new_final : Plain
  pub run : plain_from settled_at new_order ≡ Some (new_acts, new_final)
  pub short : length new_order ≤ length order
  pub follows : Follows acts (made ++ new_acts) final new_final

pub along : {machine there : Plain} {made : List Act} → Settles machine made there → Held machine → (order : List ℕ) (acts : List Act) (final : Plain)
    → plain_from machine order ≡ Some (acts, final) → Along there made order acts final
along (settled machine is) held order acts final run =
    record { new_order = order; new_acts = acts; new_final = final; run = run; short = omega arith; follows = follows_here acts final }
along (settling machine after there node deed made next step more) held order acts final run =
    let s = stepped machine node deed after step in
    let steady : is_contended deed ≡ false = free_steady s.took.goes (settling_free next s) in
    let f = in_front order machine final acts node deed after held step steady run in
    let rest = along more (held_after machine held node deed after s) f.new_order f.new_acts f.new_final f.run in
    record {
      new_order = rest.new_order;
      new_acts = rest.new_acts;
      new_final = rest.new_final;
      run = rest.run;
      short = elim (ending_length node deed order f.new_order acts f.new_acts final f.new_final f.ending) [
        | inl lt ↦ let le = rest.short in omega (arith, lt, le)
        | inr same ↦ let le = rest.short in omega (arith, le, ap length same.0)
      ];
      follows = follows_on (ending_follows node deed order f.new_order acts f.new_acts final f.new_final steady f.ending)
          (follows_behind (act_of node deed) rest.follows);
    }

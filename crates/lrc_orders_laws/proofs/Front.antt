-- In front: a run from where a node can make an act that commutes can begin with this act, and go on with the rest.
use Rattle.std.proofs.Common.{◌≡◌, ℕ, ◌+◌, ◌<◌, List, [], ◌∷◌, ◌⊎◌, inl, inr, Bool, true, false, length, refl, sym, ap, ◌∙◌, subst, arith}
use Rattle.std.specs.Prelude.{Option, Some, None, ◌||◌}
use Rattle.std.proofs.lemmas.Bool.{cases_eq}
use Rattle.std.proofs.lemmas.Option.{some_pair_parts}
use Rattle.lrc_trace.specs.declared.act.Act.{Act}
use Rattle.lrc_trace.specs.declared.act.Deed.{Deed}
use Rattle.lrc_trace.specs.Run.{act_of}
use Rattle.lrc_exec.specs.Meaning.{Thread, Next}
use Rattle.lrc_exec.specs.Plain.{Plain, thread_in, plain_step, plain_from}
use Rattle.lrc_exec.specs.Follows.{Goes, quietly, printing, reading, writing, acquiring, releasing, arriving, departing, trapping, ending}
use Rattle.lrc_consistency_laws.proofs.Plainly.{stepwise, one_more}
use Rattle.lrc_orders.specs.Meeting.{access_of, next_access_in, next_access, Meet}
use Rattle.lrc_orders.specs.Stuck.{IsAtRest}
use Rattle.lrc_orders.specs.Traps.{has_trap, is_trap}
use Rattle.lrc_orders_laws.specs.Free.{is_contended}
use Rattle.lrc_orders_laws.proofs.Parts.{Stepped, stepped}
use Rattle.lrc_orders_laws.proofs.Held.{Held, held_after}
use Rattle.lrc_orders_laws.proofs.Diamond.{diamond, true_is_false}
use Rattle.lrc_orders_laws.proofs.Alike.{Alike, alike_here, alike_on, alike_behind, alike_swap, alike_is}

-- a node acts in the order
abbrev pub Occurs : ℕ → List ℕ → Type 0
Occurs node [] = ⊥
Occurs node (x ∷ xs) = (x ≡ node) ⊎ Occurs node xs

-- how a run ends once an act of a node was put in front: the act was the run's own, and the end is the same; or it is an act more, and
-- stands at the end of the run without it
pub data Ending (node : ℕ) (deed : Deed) (order new_order : List ℕ) (acts new_acts : List Act) (final new_final : Plain) : Type 0 where
  within : length new_order + 1 ≡ length order → new_final ≡ final → Alike (act_of node deed ∷ new_acts) acts
      → Ending node deed order new_order acts new_acts final new_final
  behind : new_order ≡ order → new_acts ≡ acts → (Occurs node order → ⊥) → plain_step final node ≡ Some (deed, new_final)
      → Ending node deed order new_order acts new_acts final new_final

-- the run that goes on behind the act
pub record Front (after : Plain) (node : ℕ) (deed : Deed) (order : List ℕ) (acts : List Act) (final : Plain) : Type 0 where
  pub new_order : List ℕ
  pub new_acts : List Act
  pub new_final : Plain
  pub run : plain_from after new_order ≡ Some (new_acts, new_final)
  pub ending : Ending node deed order new_order acts new_acts final new_final

-- the ending of a run of one act more before it
ending_on : (node x : ℕ) (deed first : Deed) (order new_order : List ℕ) (acts new_acts : List Act) (final new_final : Plain) → (node ≡ x → ⊥)
    → Ending node deed order new_order acts new_acts final new_final
    → Ending node deed (x ∷ order) (x ∷ new_order) (act_of x first ∷ acts) (act_of x first ∷ new_acts) final new_final
ending_on node x deed first order new_order acts new_acts final new_final apart (within shorter same alike) =
    within (omega arith) same (alike_on (alike_swap (act_of node deed) (act_of x first) new_acts apart) (alike_behind (act_of x first) alike))
ending_on node x deed first order new_order acts new_acts final new_final apart (behind same acts_same absent last) =
    behind (ap (λ l. x ∷ l) same) (ap (λ l. act_of x first ∷ l) acts_same) (λ occurs. elim occurs [
      | inl e ↦ apart (sym e)
      | inr later ↦ absent later
    ]) last

pub in_front : (order : List ℕ) (machine final : Plain) (acts : List Act) (node : ℕ) (deed : Deed) (after : Plain) → Held machine
    → plain_step machine node ≡ Some (deed, after) → is_contended deed ≡ false → plain_from machine order ≡ Some (acts, final)
    → Front after node deed order acts final
in_front [] machine final acts node deed after held step steady e =
    let parts = some_pair_parts [] acts machine final e in
    record {
      new_order = [];
      new_acts = [];
      new_final = after;
      run = refl;
      ending = behind refl parts.0 (λ occurs. occurs) (subst (λ m. plain_step m node ≡ Some (deed, after)) parts.1 step);
    }
in_front (x ∷ order) machine final acts node deed after held step steady e =
    let s = stepwise machine x order acts final e in
    elim (cases_eq node x) [
      | inl same ↦
          let both = some_pair_parts deed s.deed after s.after (sym step ∙ ap (plain_step machine) same ∙ s.first) in
          record {
            new_order = order;
            new_acts = s.more;
            new_final = final;
            run = ap (λ m. plain_from m order) both.1 ∙ s.rest;
            ending = within (omega arith) refl
                (alike_is (ap (λ d. act_of node d ∷ s.more) both.0 ∙ ap (λ k. act_of k s.deed ∷ s.more) same ∙ sym s.acts_are));
          }
      | inr apart ↦
          let one = stepped machine node deed after step in
          let other = stepped machine x s.deed s.after s.first in
          let d = diamond machine held node x apart deed s.deed after s.after one other steady in
          let more = in_front order s.after final s.more node deed d.far (held_after machine held x s.deed s.after other) d.second_then steady s.rest in
          record {
            new_order = x ∷ more.new_order;
            new_acts = act_of x s.deed ∷ more.new_acts;
            new_final = more.new_final;
            run = one_more after d.far more.new_final x s.deed more.new_order more.new_acts d.first_then more.run;
            ending = subst (λ l. Ending node deed (x ∷ order) (x ∷ more.new_order) l (act_of x s.deed ∷ more.new_acts) final more.new_final) (sym s.acts_are)
                (ending_on node x deed s.deed order more.new_order s.more more.new_acts final more.new_final apart more.ending);
          }
    ]

-- what is kept of where a run ends: at rest it is where it was and the notes are the same, who meets there still does, and where a node
-- trapped one still does
pub record Follows (acts new_acts : List Act) (final new_final : Plain) : Type 0 where
  pub rest : IsAtRest final → (new_final ≡ final) × Alike new_acts acts
  pub meets : (p q : ℕ) → Meet final p q → Meet new_final p q
  pub traps : has_trap acts ≡ true → has_trap new_acts ≡ true

-- what an act more shows, or what the acts behind it do
pub either_on : (b : Bool) {x y : Bool} → (x ≡ true → y ≡ true) → (b || x) ≡ true → (b || y) ≡ true
either_on true on e = refl
either_on false on e = on e

pub follows_here : (acts : List Act) (final : Plain) → Follows acts acts final final
follows_here acts final = record { rest = λ still. (refl, alike_here acts); meets = λ p q meet. meet; traps = λ e. e }

pub follows_on : {ks ls ms : List Act} {x y z : Plain} → Follows ks ls x y → Follows ls ms y z → Follows ks ms x z
follows_on {x = x} {y = y} {z = z} f g = record {
  rest = λ still.
      let one = f.rest still in
      let two = g.rest (subst IsAtRest (sym one.0) still) in
      (two.0 ∙ one.0, alike_on two.1 one.1);
  meets = λ p q meet. g.meets p q (f.meets p q meet);
  traps = λ e. g.traps (f.traps e);
}

pub follows_behind : (act : Act) {ks ls : List Act} {x y : Plain} → Follows ks ls x y → Follows (act ∷ ks) (act ∷ ls) x y
follows_behind act f = record {
  rest = λ still. let one = f.rest still in (one.0, alike_behind act one.1);
  meets = f.meets;
  traps = either_on (is_trap act.deed) f.traps;
}

pub follows_is : {ks ls ms : List Act} {x y : Plain} → ks ≡ ls → Follows ks ms x y → Follows ls ms x y
follows_is {ms = ms} {x = x} {y = y} e f = subst (λ l. Follows l ms x y) e f

-- a node whose act is no access meets none, and meetings of others stay
no_access : {next : Next} {deed : Deed} {new : Option Thread} → Goes next deed new → is_contended deed ≡ false → access_of next ≡ None
no_access quietly e = refl
no_access printing e = refl
no_access reading e = true_is_false true refl e
no_access writing e = true_is_false true refl e
no_access acquiring e = refl
no_access releasing e = refl
no_access arriving e = refl
no_access departing e = refl
no_access trapping e = refl
no_access ending e = refl

pub not_its_access : {machine after : Plain} {node : ℕ} {deed : Deed} → Stepped machine node deed after → is_contended deed ≡ false
    → next_access machine node ≡ None
not_its_access s steady = ap next_access_in s.there ∙ no_access s.took.goes steady

pub other_access : (machine : Plain) (node p : ℕ) (access : ℕ × Bool) → next_access machine node ≡ None → next_access machine p ≡ Some access
    → p ≡ node → ⊥
other_access machine node p access none some same = let e : None ≡ Some access = sym none ∙ ap (next_access machine) (sym same) ∙ some in cc

pub meet_still : (machine after : Plain) (node p q : ℕ) → next_access machine node ≡ None
    → ((other : ℕ) → (other ≡ node → ⊥) → thread_in after other ≡ thread_in machine other) → Meet machine p q → Meet after p q
meet_still machine after node p q none others meet = record {
  apart = meet.apart;
  word = meet.word;
  first_writes = meet.first_writes;
  second_writes = meet.second_writes;
  first = ap next_access_in (others p (other_access machine node p (meet.word, meet.first_writes) none meet.first)) ∙ meet.first;
  second = ap next_access_in (others q (other_access machine node q (meet.word, meet.second_writes) none meet.second)) ∙ meet.second;
  writes = meet.writes;
}

either_late : (b : Bool) {x : Bool} → x ≡ true → (b || x) ≡ true
either_late true e = refl
either_late false e = e

pub ending_follows : (node : ℕ) (deed : Deed) (order new_order : List ℕ) (acts new_acts : List Act) (final new_final : Plain)
    → is_contended deed ≡ false
    → Ending node deed order new_order acts new_acts final new_final → Follows acts (act_of node deed ∷ new_acts) final new_final
ending_follows node deed order new_order acts new_acts final new_final steady (within shorter same alike) = record {
  rest = λ still. (same, alike);
  meets = λ p q meet. subst (λ m. Meet m p q) (sym same) meet;
  traps = λ e. alike.traps ∙ e;
}
ending_follows node deed order new_order acts new_acts final new_final steady (behind same acts_same absent last) =
    let s = stepped final node deed new_final last in record {
      rest = λ still. let e : None ≡ Some (deed, new_final) = sym (still node) ∙ last in cc;
      meets = λ p q meet. meet_still final new_final node p q (not_its_access s steady) s.others meet;
      traps = λ e. either_late (is_trap deed) (ap has_trap acts_same ∙ e);
    }

-- the run behind an act put in front is no longer, and shorter where the node acts in it
pub ending_length : (node : ℕ) (deed : Deed) (order new_order : List ℕ) (acts new_acts : List Act) (final new_final : Plain)
    → Ending node deed order new_order acts new_acts final new_final
    → (length new_order < length order) ⊎ ((new_order ≡ order) × (Occurs node order → ⊥))
ending_length node deed order new_order acts new_acts final new_final (within shorter same alike) = inl (omega arith)
ending_length node deed order new_order acts new_acts final new_final (behind same acts_same absent last) = inr (same, absent)

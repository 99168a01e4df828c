-- What is to come from a state is to come behind each undisputed act.
use Rattle.std.proofs.Common.{◌≡◌, ℕ, ◌+◌, List, [], ◌∷◌, ◌++◌, inl, inr, Bool, true, false, refl, sym, ap, ◌∙◌, subst, arith, append_assoc}
use Rattle.std.specs.Prelude.{Option, Some, None, IsTrue, ◌||◌}
use Rattle.std.proofs.lemmas.List.{append-nil}
use Rattle.std.proofs.lemmas.Option.{some_pair_parts}
use Rattle.lrc_program.specs.declared.Program.{Program}
use Rattle.lrc_trace.specs.declared.act.Act.{Act}
use Rattle.lrc_trace.specs.declared.act.Deed.{Deed}
use Rattle.lrc_trace.specs.declared.act.Deed.TheVariants.{Read, Write, Trap}
use Rattle.lrc_trace.specs.Run.{act_of}
use Rattle.lrc_exec.specs.Meaning.{Thread, Next, quiet, prints, reads, writes, acquires, releases, arrives, departs, traps, ends, next_of}
use Rattle.lrc_exec.specs.Plain.{Plain, thread_in, plain_step, plain_from, plain_start}
use Rattle.lrc_exec.specs.Follows.{Goes, quietly, printing, reading, writing, acquiring, releasing, arriving, departing, trapping, ending}
use Rattle.lrc_consistency_laws.proofs.Plainly.{stepwise, one_more}
use Rattle.lrc_orders.specs.Meeting.{access_of, next_access_in, next_access, Meet, IsReachable}
use Rattle.lrc_orders.specs.Stuck.{IsAtRest}
use Rattle.lrc_orders_laws.proofs.Alike.{Alike, alike_here, alike_on, alike_behind, alike_join, alike_swap, notes_alike}
use Rattle.lrc_orders_laws.proofs.Parts.{stepped}
use Rattle.lrc_orders_laws.proofs.Held.{Held, held_after, held_at_start}
use Rattle.lrc_orders_undisputed.specs.Undisputed.{Conflicts, read_and_written, written_and_read, written_twice, IsUndisputed}
use Rattle.lrc_orders_undisputed.specs.Findings.{Finding, meeting, stuck, trap, no_end, outcome, CanEnd, IsMade, Shows, Comes, StandsFor}
use Rattle.lrc_orders_undisputed.specs.Searched.{Advances, arrived, further}
use Rattle.lrc_orders_undisputed.proofs.InFront.{Moved, first, later, Ending, within, behind, in_front, ending_short}

-- ---- locks that are held, along a run

pub held_along : (order : List ℕ) (machine final : Plain) (acts : List Act) → Held machine → plain_from machine order ≡ Some (acts, final) → Held final
held_along [] machine final acts held e = subst Held ((some_pair_parts [] acts machine final e).1) held
held_along (x ∷ order) machine final acts held e =
    let s = stepwise machine x order acts final e in
    held_along order s.after final s.more (held_after machine held x s.deed s.after (stepped machine x s.deed s.after s.first)) s.rest

pub held_reached : (program : Program) (nodes : ℕ) (machine : Plain) → IsReachable program nodes machine → Held machine
held_reached program nodes machine r = held_along r.order (plain_start program nodes) machine r.acts (held_at_start program nodes) r.led

-- ---- an access that is undisputed meets none

-- two accesses of one word, one of them a write, conflict
reads_against : (w v word : ℕ) (b c : Bool) → w ≡ word → false ≡ b → (next : Next) → access_of next ≡ Some (word, c) → IsTrue (b || c)
    → Conflicts (Read w v) next
reads_against w v word b c same plain (reads x t) e one =
    let parts = some_pair_parts x word false c (e) in
    let neither : IsTrue (false || false) = subst (λ y. IsTrue (false || y)) (sym parts.1) (subst (λ y. IsTrue (y || c)) (sym plain) one) in
    cc
reads_against w v word b c same plain (writes x y t) e one =
    let parts = some_pair_parts x word true c e in
    subst (λ k. Conflicts (Read k v) (writes x y t)) (parts.0 ∙ sym same) read_and_written
reads_against w v word b c same plain (quiet t) e one = cc
reads_against w v word b c same plain (prints x t) e one = cc
reads_against w v word b c same plain (acquires l t) e one = cc
reads_against w v word b c same plain (releases l t) e one = cc
reads_against w v word b c same plain (arrives t) e one = cc
reads_against w v word b c same plain (departs t) e one = cc
reads_against w v word b c same plain (traps x) e one = cc
reads_against w v word b c same plain ends e one = cc

writes_against : (w v word : ℕ) (c : Bool) → w ≡ word → (next : Next) → access_of next ≡ Some (word, c) → Conflicts (Write w v) next
writes_against w v word c same (reads x t) e =
    let parts = some_pair_parts x word false c e in subst (λ k. Conflicts (Write k v) (reads x t)) (parts.0 ∙ sym same) written_and_read
writes_against w v word c same (writes x y t) e =
    let parts = some_pair_parts x word true c e in subst (λ k. Conflicts (Write k v) (writes x y t)) (parts.0 ∙ sym same) written_twice
writes_against w v word c same (quiet t) e = cc
writes_against w v word c same (prints x t) e = cc
writes_against w v word c same (acquires l t) e = cc
writes_against w v word c same (releases l t) e = cc
writes_against w v word c same (arrives t) e = cc
writes_against w v word c same (departs t) e = cc
writes_against w v word c same (traps x) e = cc
writes_against w v word c same ends e = cc

against : {next : Next} {deed : Deed} {new : Option Thread} → Goes next deed new → (word : ℕ) (b c : Bool) → access_of next ≡ Some (word, b)
    → (other : Next) → access_of other ≡ Some (word, c) → IsTrue (b || c) → Conflicts deed other
against (reading {w = w} {v = v}) word b c e other e' one =
    let parts = some_pair_parts w word false b e in reads_against w v word b c parts.0 parts.1 other e' one
against (writing {w = w} {v = v}) word b c e other e' one =
    let parts = some_pair_parts w word true b e in writes_against w v word c parts.0 other e'
against quietly word b c e other e' one = cc
against printing word b c e other e' one = cc
against acquiring word b c e other e' one = cc
against releasing word b c e other e' one = cc
against arriving word b c e other e' one = cc
against departing word b c e other e' one = cc
against trapping word b c e other e' one = cc
against ending word b c e other e' one = cc

-- the thread that makes an access
accessor : (o : Option Thread) (access : ℕ × Bool) → next_access_in o ≡ Some access
    → (thread : Thread) × (o ≡ Some thread) × (access_of (next_of thread) ≡ Some access)
accessor None access e = cc
accessor (Some thread) access e = (thread, refl, e)

or_swap : (b c : Bool) → IsTrue (b || c) → IsTrue (c || b)
or_swap true true one = one
or_swap true false one = one
or_swap false true one = one
or_swap false false one = one

-- the node of an undisputed act is none of two that meet
pub not_met : {machine after : Plain} {node : ℕ} {deed : Deed} → IsUndisputed machine node deed after → (x word : ℕ) (b c : Bool) → (x ≡ node → ⊥)
    → next_access machine node ≡ Some (word, b) → next_access machine x ≡ Some (word, c) → IsTrue (b || c) → ⊥
not_met {machine} {after} {node} {deed} u x word b c apart mine its one =
    let s = stepped machine node deed after u.step in
    let a = accessor (thread_in machine x) (word, c) its in
    let own : access_of (next_of s.thread) ≡ Some (word, b) = sym (ap next_access_in s.there) ∙ mine in
    u.never (record {
      order = [];
      acts = [];
      final = machine;
      led = refl;
      without = λ o. o;
      other = x;
      apart = apart;
      thread = a.0;
      there = a.1;
      conflicts = against s.took.goes word b c own (next_of a.0) a.2 one;
    })

pub meet_on : {machine after : Plain} {node : ℕ} {deed : Deed} → IsUndisputed machine node deed after → (p q : ℕ) → Meet machine p q → Meet after p q
meet_on {machine} {after} {node} {deed} u p q meet =
    let s = stepped machine node deed after u.step in
    let not_p : p ≡ node → ⊥ = λ same.
    not_met u q meet.word meet.first_writes meet.second_writes (λ e. meet.apart (same ∙ sym e)) (ap (next_access machine) (sym same) ∙ meet.first) meet.second
    meet.writes in
    let not_q : q ≡ node → ⊥ = λ same.
    not_met u p meet.word meet.second_writes meet.first_writes (λ e. meet.apart (e ∙ sym same)) (ap (next_access machine) (sym same) ∙ meet.second) meet.first
    (or_swap meet.first_writes meet.second_writes meet.writes) in
    record {
      apart = meet.apart;
      word = meet.word;
      first_writes = meet.first_writes;
      second_writes = meet.second_writes;
      first = ap next_access_in (s.others p not_p) ∙ meet.first;
      second = ap next_access_in (s.others q not_q) ∙ meet.second;
      writes = meet.writes;
    }

-- ---- acts of which one stands further in front

moved_alike : {act : Act} {new old : List Act} → Moved act new old → Alike (act ∷ new) old
moved_alike {act} (first acts) = alike_here (act ∷ acts)
moved_alike {act} (later other new old apart more) = alike_on (alike_swap act other new apart) (alike_behind other (moved_alike more))

moved_made : (x : Act) {act : Act} {new old : List Act} → Moved act new old → IsMade x old → IsMade x (act ∷ new)
moved_made x (first acts) made = made
moved_made x {act} (later other new old apart more) (inl same) = inr (inl same)
moved_made x {act} (later other new old apart more) (inr made) = elim (moved_made x more made) [
  | inl same ↦ inl same
  | inr after ↦ inr (inr after)
]

pub made_join : (x : Act) (past old new : List Act) → (IsMade x old → IsMade x new) → IsMade x (past ++ old) → IsMade x (past ++ new)
made_join x [] old new go made = go made
made_join x (act ∷ past) old new go (inl same) = inl same
made_join x (act ∷ past) old new go (inr made) = inr (made_join x past old new go made)

-- ---- what a run shows, and with an act in front

pub cannot_rest : (machine after : Plain) (node : ℕ) (deed : Deed) → plain_step machine node ≡ Some (deed, after) → IsAtRest machine → ⊥
cannot_rest machine after node deed step still =
    let e : ◌≡◌ {A = Option (Deed × Plain)} None (Some (deed, after)) = sym (still node) ∙ step in cc

pub can_end_before : (machine after : Plain) (node : ℕ) (deed : Deed) → plain_step machine node ≡ Some (deed, after) → CanEnd after → CanEnd machine
can_end_before machine after node deed step can = record {
  order = node ∷ can.order;
  acts = act_of node deed ∷ can.acts;
  final = can.final;
  led = one_more machine after can.final node deed can.order can.acts step can.led;
  still = can.still;
}

module _ (past : List Act) (node : ℕ) (deed : Deed) (order new_order acts new_acts : _) (final new_final : Plain) where
  in_front_shows : (finding : Finding) → Ending node deed order new_order acts new_acts final new_final → Shows finding (past ++ acts) final
      → Shows finding (past ++ act_of node deed ∷ new_acts) new_final
  in_front_shows meeting (within shorter same moved) (p, q, meet) = (p, q, subst (λ m. Meet m p q) (sym same) meet)
  in_front_shows meeting (behind same alike last) (p, q, meet) = (p, q, meet_on last p q meet)
  in_front_shows stuck (within shorter same moved) (still, some) =
      subst (λ m. Shows stuck (past ++ act_of node deed ∷ new_acts) m) (sym same) (still, some)
  in_front_shows stuck (behind same alike last) (still, some) = absurd (cannot_rest final new_final node deed last.step still)
  in_front_shows (trap n cause) (within shorter same moved) made =
      made_join (act_of n (Trap cause)) past acts (act_of node deed ∷ new_acts) (moved_made (act_of n (Trap cause)) moved) made
  in_front_shows (trap n cause) (behind same alike last) made =
      made_join (act_of n (Trap cause)) past acts (act_of node deed ∷ new_acts) (λ m. inr (subst (IsMade (act_of n (Trap cause))) (sym alike) m)) made
  in_front_shows no_end (within shorter same moved) never = λ can. never (subst CanEnd same can)
  in_front_shows no_end (behind same alike last) never = λ can. never (can_end_before final new_final node deed last.step can)
  in_front_shows (outcome nodes notes) (within shorter same moved) (still, are) =
      (subst IsAtRest (sym same) still, notes_alike (alike_join past (moved_alike moved)) nodes 0 ∙ are)
  in_front_shows (outcome nodes notes) (behind same alike last) (still, are) = absurd (cannot_rest final new_final node deed last.step still)

-- ---- the laws

pub comes_behind : (machine after : Plain) (node : ℕ) (deed : Deed) (past : List Act) (finding : Finding) → Held machine
    → IsUndisputed machine node deed after → StandsFor finding past machine (past ++ act_of node deed ∷ []) after
comes_behind machine after node deed past finding held u most c =
    let f = in_front c.order machine c.final c.acts node deed after held u c.led in
    let shows = in_front_shows past node deed c.order f.new_order c.acts f.new_acts c.final f.new_final finding f.ending c.shows in
    let le = ending_short node deed c.order f.new_order c.acts f.new_acts c.final f.new_final f.ending in
    record {
      order = f.new_order;
      acts = f.new_acts;
      final = f.new_final;
      led = f.run;
      short = let short = c.short in omega (arith, short, le);
      shows = subst (λ l. Shows finding l f.new_final) (sym (append_assoc past (act_of node deed ∷ []) f.new_acts)) shows;
    }

pub comes_before : (machine after : Plain) (node : ℕ) (deed : Deed) (past : List Act) (most : ℕ) (finding : Finding)
    → plain_step machine node ≡ Some (deed, after) → Comes (past ++ act_of node deed ∷ []) after most finding → Comes past machine (most + 1) finding
comes_before machine after node deed past most finding step c = record {
  order = node ∷ c.order;
  acts = act_of node deed ∷ c.acts;
  final = c.final;
  led = one_more machine after c.final node deed c.order c.acts step c.led;
  short = let short = c.short in omega (arith, short);
  shows = subst (λ l. Shows finding l c.final) (append_assoc past (act_of node deed ∷ []) c.acts) c.shows;
}

pub comes_ahead : {machine there : Plain} {acts : List Act} → Advances machine acts there → Held machine → (past : List Act) (finding : Finding)
    → StandsFor finding past machine (past ++ acts) there
comes_ahead (arrived machine) held past finding = λ most c. subst (λ l. Comes l machine most finding) (sym (append-nil past)) c
comes_ahead (further machine mid final node deed acts u more) held past finding =
    let held' = held_after machine held node deed mid (stepped machine node deed mid u.step) in
    let rest = comes_ahead more held' (past ++ act_of node deed ∷ []) finding in
    λ most c. subst (λ l. Comes l final most finding) (append_assoc past (act_of node deed ∷ []) acts)
    (rest most (comes_behind machine mid node deed past finding held u most c))

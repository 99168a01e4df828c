-- Where a node comes round by undisputed acts, its acts can be left out.
use Rattle.std.proofs.Common.{◌≡◌, ℕ, ◌<◌, ◌≤◌, List, [], ◌∷◌, ◌++◌, inl, inr, length, refl, sym, ap, ◌∙◌, subst, arith}
use Rattle.std.specs.Prelude.{Option, Some, None}
use Rattle.std.proofs.lemmas.Bool.{cases_eq}
use Rattle.std.proofs.lemmas.Option.{some_pair_parts}
use Rattle.lrc_trace.specs.declared.act.Act.{Act}
use Rattle.lrc_trace.specs.declared.act.Cause.{Cause}
use Rattle.lrc_trace.specs.declared.act.Deed.{Deed}
use Rattle.lrc_trace.specs.declared.act.Deed.TheVariants.{Trap}
use Rattle.lrc_trace.specs.Run.{act_of}
use Rattle.lrc_exec.specs.Meaning.{Thread, Next}
use Rattle.lrc_exec.specs.Plain.{Plain, plain_step, plain_from}
use Rattle.lrc_exec.specs.Follows.{Goes, quietly, printing, reading, writing, acquiring, releasing, arriving, departing, trapping, ending}
use Rattle.lrc_consistency_laws.proofs.Plainly.{stepwise, one_more}
use Rattle.lrc_orders.specs.Meeting.{Meet}
use Rattle.lrc_orders_laws.proofs.Parts.{stepped}
use Rattle.lrc_orders_laws.proofs.Held.{Held, held_after}
use Rattle.lrc_orders_undisputed.specs.Undisputed.{ActsIn, IsUndisputed}
use Rattle.lrc_orders_undisputed.specs.Findings.{Finding, meeting, stuck, trap, no_end, outcome, CanEnd, IsMade, Shows, Comes}
use Rattle.lrc_orders_undisputed.specs.Rounds.{GoesAlone, stays, goes, ComesRound, ComesWithout}
use Rattle.lrc_orders_undisputed.proofs.InFront.{passed}
use Rattle.lrc_orders_undisputed.proofs.ToCome.{meet_on, made_join, cannot_rest, can_end_before}

-- an act of another node, and what the node does alone, in either order
record Beside (node x : ℕ) (deed : Deed) (there final : Plain) (acts : List Act) : Type 0 where
  far : Plain
  step : plain_step final x ≡ Some (deed, far)
  alone : GoesAlone node there acts far

beside : {node : ℕ} {machine final : Plain} {acts : List Act} → GoesAlone node machine acts final → Held machine → (x : ℕ) (deed : Deed) (there : Plain)
    → (x ≡ node → ⊥) → plain_step machine x ≡ Some (deed, there) → Beside node x deed there final acts
beside (stays machine) held x deed there apart step = record { far = there; step = step; alone = stays there }
beside {node} (goes machine mid final own acts u more) held x deed there apart step =
    let p = passed machine mid there node x own deed held u apart step in
    let held' = held_after machine held node own mid (stepped machine node own mid u.step) in
    let b = beside more held' x deed p.far apart p.own in
    record { far = b.far; step = b.step; alone = goes there p.far b.far own acts p.later b.alone }

one_behind : {node : ℕ} {machine mid : Plain} {acts : List Act} → GoesAlone node machine acts mid → (deed : Deed) (final : Plain)
    → IsUndisputed mid node deed final → GoesAlone node machine (acts ++ act_of node deed ∷ []) final
one_behind {node} (stays machine) deed final u = goes machine final final deed [] u (stays final)
one_behind (goes machine mid there own acts u more) deed final last = goes machine mid final own (acts ++ _ ∷ []) u (one_behind more deed final last)

-- a state on the way round, from home and back to it
pub record OnRound (node : ℕ) (home machine : Plain) : Type 0 where
  pub past : List Act
  pub came : GoesAlone node home past machine
  pub deed : Deed
  pub next : Plain
  pub step : IsUndisputed machine node deed next
  pub ahead : List Act
  pub back : GoesAlone node next ahead home

-- home again
round_again : {node : ℕ} {home machine : Plain} {past : List Act} → GoesAlone node home past machine → (deed : Deed) → IsUndisputed machine node deed home
    → OnRound node home home
round_again (stays machine) deed u =
    record { past = []; came = stays machine; deed = deed; next = machine; step = u; ahead = []; back = stays machine }
round_again {node} (goes home mid machine own acts u more) deed last = record {
  past = [];
  came = stays home;
  deed = own;
  next = mid;
  step = u;
  ahead = acts ++ act_of node deed ∷ [];
  back = one_behind more deed home last;
}

round_on : {node : ℕ} {home machine next : Plain} {past ahead : List Act} → GoesAlone node home past machine → (deed : Deed)
    → IsUndisputed machine node deed next → GoesAlone node next ahead home → OnRound node home next
round_on came deed u (stays home) = round_again came deed u
round_on {node} {past = past} came deed u (goes next mid home own acts v more) = record {
  past = past ++ act_of node deed ∷ [];
  came = one_behind came deed next u;
  deed = own;
  next = mid;
  step = v;
  ahead = acts;
  back = more;
}

-- the node's own act leads on
own_round : {node : ℕ} {home machine : Plain} → OnRound node home machine → (deed : Deed) (after : Plain) → plain_step machine node ≡ Some (deed, after)
    → OnRound node home after
own_round {node} {home} r deed after e =
    let same = some_pair_parts r.deed deed r.next after (sym r.step.step ∙ e) in
    subst (OnRound node home) same.1 (round_on r.came r.deed r.step r.back)

held_alone : {node : ℕ} {machine final : Plain} {acts : List Act} → GoesAlone node machine acts final → Held machine → Held final
held_alone (stays machine) held = held
held_alone {node} (goes machine mid final deed acts u more) held =
    held_alone more (held_after machine held node deed mid (stepped machine node deed mid u.step))

-- an act of another node leads to another round, and home to where that begins
record OtherRound (node x : ℕ) (home there : Plain) (deed : Deed) : Type 0 where
  home_then : Plain
  led : plain_step home x ≡ Some (deed, home_then)
  round : OnRound node home_then there

other_round : {node : ℕ} {home machine : Plain} → OnRound node home machine → Held machine → (x : ℕ) (deed : Deed) (there : Plain) → (x ≡ node → ⊥)
    → plain_step machine x ≡ Some (deed, there) → OtherRound node x home there deed
other_round {node} {home} {machine} r held x deed there apart e =
    let p = passed machine r.next there node x r.deed deed held r.step apart e in
    let held' = held_after machine held node r.deed r.next (stepped machine node r.deed r.next r.step.step) in
    let b = beside r.back held' x deed p.far apart p.own in
    let c = beside r.came (held_alone r.back held') x deed b.far apart b.step in
    let same = some_pair_parts deed deed c.far there (sym c.step ∙ e) in
    record {
      home_then = b.far;
      led = b.step;
      round = record {
        past = r.past;
        came = subst (GoesAlone node b.far r.past) same.1 c.alone;
        deed = r.deed;
        next = p.far;
        step = p.later;
        ahead = r.ahead;
        back = b.alone;
      };
    }

-- ---- a node that comes round makes acts for ever, so it does not trap

stops : {next : Next} {deed : Deed} {new : Option Thread} → Goes next deed new → (cause : Cause) → deed ≡ Trap cause → new ≡ None
stops trapping cause e = refl
stops ending cause e = cc
stops quietly cause e = cc
stops printing cause e = cc
stops reading cause e = cc
stops writing cause e = cc
stops acquiring cause e = cc
stops releasing cause e = cc
stops arriving cause e = cc
stops departing cause e = cc

no_trap : (machine after later : Plain) (node : ℕ) (deed next : Deed) (cause : Cause) → plain_step machine node ≡ Some (deed, after)
    → plain_step after node ≡ Some (next, later) → deed ≡ Trap cause → ⊥
no_trap machine after later node deed next cause e e' trapped =
    let s = stepped machine node deed after e in
    let t = stepped after node next later e' in
    let over : None ≡ Some t.thread = sym (stops s.took.goes cause trapped) ∙ sym s.own ∙ t.there in
    cc

-- ---- a run without the acts of a node that comes round

pub record Dropped (node : ℕ) (home : Plain) (order : List ℕ) (acts : List Act) (final : Plain) : Type 0 where
  pub new_order : List ℕ
  pub new_acts : List Act
  pub there : Plain
  pub run : plain_from home new_order ≡ Some (new_acts, there)
  pub without : ActsIn node new_order → ⊥
  pub short : length new_order ≤ length order
  pub fewer : ActsIn node order → length new_order < length order
  pub round : OnRound node there final
  pub kept : (n : ℕ) (cause : Cause) → IsMade (act_of n (Trap cause)) acts → IsMade (act_of n (Trap cause)) new_acts

dropped_own : (node : ℕ) (home machine after final : Plain) (order : List ℕ) (deed : Deed) (acts more : List Act)
    → plain_step machine node ≡ Some (deed, after) → OnRound node home after → acts ≡ act_of node deed ∷ more → Dropped node home order more final
    → Dropped node home (node ∷ order) acts final
dropped_own node home machine after final order deed acts more first r is d =
    let le = d.short in
    record {
      new_order = d.new_order;
      new_acts = d.new_acts;
      there = d.there;
      run = d.run;
      without = d.without;
      short = omega (arith, le);
      fewer = λ o. omega (arith, le);
      round = d.round;
      kept = λ n cause made. elim (subst (IsMade (act_of n (Trap cause))) is made) [
        | inl same ↦ absurd (no_trap machine after r.next node deed r.deed cause first r.step.step (ap (λ (a : Act). a.deed) same))
        | inr later ↦ d.kept n cause later
      ];
    }

dropped_other : (node x : ℕ) (home home_then final : Plain) (order : List ℕ) (deed : Deed) (acts more : List Act) → (x ≡ node → ⊥)
    → plain_step home x ≡ Some (deed, home_then) → acts ≡ act_of x deed ∷ more → Dropped node home_then order more final
    → Dropped node home (x ∷ order) acts final
dropped_other node x home home_then final order deed acts more apart first is d =
    let le = d.short in
    record {
      new_order = x ∷ d.new_order;
      new_acts = act_of x deed ∷ d.new_acts;
      there = d.there;
      run = one_more home home_then d.there x deed d.new_order d.new_acts first d.run;
      without = λ o. elim o [
        | inl same ↦ apart same
        | inr later ↦ d.without later
      ];
      short = omega (arith, le);
      fewer = λ o. elim o [
        | inl same ↦ absurd (apart same)
        | inr later ↦ let lt = d.fewer later in omega (arith, lt)
      ];
      round = d.round;
      kept = λ n cause made. elim (subst (IsMade (act_of n (Trap cause))) is made) [
        | inl same ↦ inl same
        | inr later ↦ inr (d.kept n cause later)
      ];
    }

pub drop : (order : List ℕ) (node : ℕ) (home machine final : Plain) (acts : List Act) → Held machine → OnRound node home machine
    → plain_from machine order ≡ Some (acts, final) → Dropped node home order acts final
drop [] node home machine final acts held r e =
    let parts = some_pair_parts [] acts machine final e in
    record {
      new_order = [];
      new_acts = [];
      there = home;
      run = refl;
      without = λ o. o;
      short = omega arith;
      fewer = λ o. absurd o;
      round = subst (OnRound node home) parts.1 r;
      kept = λ n cause made. subst (IsMade (act_of n (Trap cause))) (sym parts.0) made;
    }
drop (x ∷ order) node home machine final acts held r e =
    let s = stepwise machine x order acts final e in
    let held' = held_after machine held x s.deed s.after (stepped machine x s.deed s.after s.first) in
    elim (cases_eq x node) [
      | inl same ↦
          let mine : plain_step machine node ≡ Some (s.deed, s.after) = sym (ap (plain_step machine) same) ∙ s.first in
          let round = own_round r s.deed s.after mine in
          let d = drop order node home s.after final s.more held' round s.rest in
          subst (λ k. Dropped node home (k ∷ order) acts final) (sym same)
          (dropped_own node home machine s.after final order s.deed acts s.more mine round (s.acts_are ∙ ap (λ k. act_of k s.deed ∷ s.more) same) d)
      | inr apart ↦
          let o = other_round r held x s.deed s.after apart s.first in
          let d = drop order node o.home_then s.after final s.more held' o.round s.rest in
          dropped_other node x home o.home_then final order s.deed acts s.more apart o.led s.acts_are d
    ]

-- ---- what is shown without them

alone_meets : {node : ℕ} {machine final : Plain} {acts : List Act} → GoesAlone node machine acts final → (p q : ℕ) → Meet machine p q → Meet final p q
alone_meets (stays machine) p q meet = meet
alone_meets (goes machine mid final deed acts u more) p q meet = alone_meets more p q (meet_on u p q meet)

alone_ends : {node : ℕ} {machine final : Plain} {acts : List Act} → GoesAlone node machine acts final → CanEnd final → CanEnd machine
alone_ends (stays machine) can = can
alone_ends {node} (goes machine mid final deed acts u more) can = can_end_before machine mid node deed u.step (alone_ends more can)

pub drop_shows : (node : ℕ) (home final : Plain) (order : List ℕ) (acts past : List Act) (finding : Finding)
    → (d : Dropped node home order acts final) → Shows finding (past ++ acts) final → Shows finding (past ++ d.new_acts) d.there
drop_shows node home final order acts past meeting d (p, q, meet) = (p, q, alone_meets d.round.back p q (meet_on d.round.step p q meet))
drop_shows node home final order acts past stuck d (still, some) =
    absurd (cannot_rest final d.round.next node d.round.deed d.round.step.step still)
drop_shows node home final order acts past (trap n cause) d made =
    made_join (act_of n (Trap cause)) past acts d.new_acts (d.kept n cause) made
drop_shows node home final order acts past no_end d never =
    λ can. never (can_end_before final d.round.next node d.round.deed d.round.step.step (alone_ends d.round.back can))
drop_shows node home final order acts past (outcome nodes notes) d (still, are) =
    absurd (cannot_rest final d.round.next node d.round.deed d.round.step.step still)

pub round_of : {machine : Plain} {node : ℕ} → ComesRound machine node → OnRound node machine machine
round_of {machine} c =
    record { past = []; came = stays machine; deed = c.deed; next = c.mid; step = c.first; ahead = c.acts; back = c.back }

pub comes_without : (machine : Plain) (node : ℕ) (past : List Act) (most : ℕ) (finding : Finding) → Held machine → ComesRound machine node
    → Comes past machine most finding → ComesWithout node past machine most finding
comes_without machine node past most finding held round c =
    let d = drop c.order node machine machine c.final c.acts held (round_of round) c.led in
    record {
      order = d.new_order;
      acts = d.new_acts;
      final = d.there;
      led = d.run;
      without = d.without;
      short = let le = d.short in let short = c.short in omega (arith, le, short);
      shows = drop_shows node machine c.final c.order c.acts past finding d c.shows;
    }

-- Barriers between settled states: all nodes are at one episode, so one node can depart only where all have arrived; and the departs of
-- all can be put in front of a run.
use Rattle.std.proofs.Common.{◌≡◌, ℕ, zero, suc, ◌+◌, ◌<◌, ◌≤◌, List, [], ◌∷◌, ◌++◌, ◌⊎◌, inl, inr, Bool, true, false, length, refl, sym, ap, ◌∙◌, subst, arith}
use Rattle.std.specs.Prelude.{Option, Some, None, nat_le, slice_index, slice_index_or, if◌then◌else◌}
use Rattle.std.specs.List.{range_with_len}
use Rattle.std.proofs.lemmas.Bool.{cases_eq, cases_lt, le-leb, leb-true}
use Rattle.std.proofs.lemmas.List.{get_or_past, get_or_default, get_or-set_same, length-set}
use Rattle.std.proofs.lemmas.List.Sums.{AllPass-from_list_all, list_all-from_AllPass}
use Rattle.std.proofs.lemmas.Option.{same_Some}
use Rattle.lrc_program.specs.declared.Program.{Program}
use Rattle.lrc_trace.specs.declared.act.Act.{Act}
use Rattle.lrc_trace.specs.declared.act.Deed.{Deed}
use Rattle.lrc_trace.specs.declared.act.Deed.TheVariants.{Arrive, Depart}
use Rattle.lrc_trace.specs.Run.{act_of}
use Rattle.lrc_exec.specs.Meaning.{Thread, Next, departs, next_of, first_act}
use Rattle.lrc_exec.specs.Plain.{Plain, thread_in, plain_step, plain_from, plain_start}
use Rattle.lrc_exec.proofs.NextLaws.{IsFine, next_of-fine}
use Rattle.lrc_exec.proofs.PlainLaws.{no_arrivals}
use Rattle.lrc_exec.proofs.PlainParts.{thread_within}
use Rattle.lrc_exec.specs.Follows.{Goes, quietly, printing, reading, writing, acquiring, releasing, arriving, departing, trapping, ending}
use Rattle.lrc_consistency_laws.proofs.Runs.{CanDo}
use Rattle.lrc_consistency_laws.proofs.Plainly.{one_more}
use Rattle.lrc_orders.proofs.Effects.{after_of, arrivals_after, arrival_counted, arrivals_other}
use Rattle.lrc_orders_laws.specs.Steps.{waits_in, AllWait}
use Rattle.lrc_orders_laws.proofs.Parts.{Stepped, stepped, can_step}
use Rattle.lrc_orders_laws.proofs.Held.{Held, held_after, started}
use Rattle.lrc_orders_laws.proofs.Diamond.{true_is_false}
use Rattle.lrc_orders_laws.proofs.Front.{Occurs, Follows, follows_here, follows_on, follows_behind, in_front, ending_follows, ending_length}

-- each node goes towards the end of one episode, or waits there; who has stopped has not come further
pub record Aligned (machine : Plain) : Type 0 where
  pub episode : ℕ
  pub waiting : (node : ℕ) (thread : Thread) → thread_in machine node ≡ Some thread → thread.arrived ≡ true
      → slice_index machine.arrivals node ≡ episode + 1
  pub going : (node : ℕ) (thread : Thread) → thread_in machine node ≡ Some thread → thread.arrived ≡ false → slice_index machine.arrivals node ≡ episode
  pub over : (node : ℕ) → thread_in machine node ≡ None → slice_index machine.arrivals node ≤ episode

-- the same of one node
record Counted (episode count : ℕ) (o : Option Thread) : Type 0 where
  waiting : (thread : Thread) → o ≡ Some thread → thread.arrived ≡ true → count ≡ episode + 1
  going : (thread : Thread) → o ≡ Some thread → thread.arrived ≡ false → count ≡ episode
  over : o ≡ None → count ≤ episode

counted_going : (episode count : ℕ) (t : Thread) → t.arrived ≡ false → count ≡ episode → Counted episode count (Some t)
counted_going episode count t stays e = record {
  waiting = λ thread is waits. true_is_false thread.arrived waits (ap (λ (x : Thread). x.arrived) (sym (same_Some t thread is)) ∙ stays);
  going = λ thread is goes. e;
  over = λ is. cc;
}

counted_waiting : (episode count : ℕ) (t : Thread) → t.arrived ≡ true → count ≡ episode + 1 → Counted episode count (Some t)
counted_waiting episode count t waits e = record {
  waiting = λ thread is w. e;
  going = λ thread is stays. true_is_false t.arrived waits (ap (λ (x : Thread). x.arrived) (same_Some t thread is) ∙ stays);
  over = λ is. cc;
}

counted_over : (episode count : ℕ) → count ≡ episode → Counted episode count None
counted_over episode count e = record { waiting = λ thread is w. cc; going = λ thread is w. cc; over = λ is. omega (arith, e) }

counted : (episode node : ℕ) (xs : List ℕ) → node < length xs → (thread : Thread) → (thread.arrived ≡ false → slice_index xs node ≡ episode)
    → {next : Next} {deed : Deed} {new : Option Thread} → Goes next deed new → IsFine thread next → (deed ≡ Depart → ⊥)
    → Counted episode (slice_index (arrivals_after node deed xs) node) new
counted episode node xs within thread e (quietly {t = t}) f never_so = counted_going episode (slice_index xs node) t f.1.arrived (e f.0)
counted episode node xs within thread e (printing {t = t}) f never_so = counted_going episode (slice_index xs node) t f.1.arrived (e f.0)
counted episode node xs within thread e (reading {t = t} {v = v}) f never_so =
    counted_going episode (slice_index xs node) (t v) (f.1 v).1.arrived (e (f.1 v).0)
counted episode node xs within thread e (writing {t = t}) f never_so = counted_going episode (slice_index xs node) t f.1.1.arrived (e f.1.0)
counted episode node xs within thread e (acquiring {t = t}) f never_so = counted_going episode (slice_index xs node) t f.3.arrived (e f.2)
counted episode node xs within thread e (releasing {t = t}) f never_so = counted_going episode (slice_index xs node) t f.3.arrived (e f.2)
counted episode node xs within thread e (arriving {t = t}) f never_so =
    counted_waiting episode (slice_index (arrivals_after node Arrive xs) node) t f.1.arrived
    (arrival_counted node xs within ∙ ap (λ n. n + 1) (e f.0))
counted episode node xs within thread e departing f never_so = absurd (never_so refl)
counted episode node xs within thread e trapping f never_so = counted_over episode (slice_index xs node) (e f)
counted episode node xs within thread e ending f never_so = counted_over episode (slice_index xs node) (e f)

counted_at : (machine : Plain) (a : Aligned machine) (node : ℕ) → Counted a.episode (slice_index machine.arrivals node) (thread_in machine node)
counted_at machine a node = record { waiting = a.waiting node; going = a.going node; over = a.over node }

pub aligned_after : (machine : Plain) → Held machine → Aligned machine → (node : ℕ) (deed : Deed) (after : Plain) → Stepped machine node deed after
    → (deed ≡ Depart → ⊥) → Aligned after
aligned_after machine held a node deed after s never_so =
    let arrivals : after.arrivals ≡ arrivals_after node deed machine.arrivals = ap (λ (m : Plain). m.arrivals) s.took.is in
    let within : node < length machine.arrivals = omega (arith, s.within, held.sizes) in
    let own : Counted a.episode (slice_index (arrivals_after node deed machine.arrivals) node) s.took.goes_on_as =
    counted a.episode node machine.arrivals within s.thread (a.going node s.thread s.there) s.took.goes (next_of-fine s.thread) never_so in
    let each : (n : ℕ) → Counted a.episode (slice_index after.arrivals n) (thread_in after n) = λ n. elim (cases_eq n node) [
      | inl same ↦
          let at : Counted a.episode (slice_index after.arrivals node) (thread_in after node) =
          subst (λ xs. Counted a.episode (slice_index xs node) (thread_in after node)) (sym arrivals)
          (subst (λ o. Counted a.episode (slice_index (arrivals_after node deed machine.arrivals) node) o) (sym s.own) own) in
          subst (λ k. Counted a.episode (slice_index after.arrivals k) (thread_in after k)) (sym same) at
      | inr apart ↦
          let still : slice_index after.arrivals n ≡ slice_index machine.arrivals n =
          ap (λ xs. slice_index xs n) arrivals ∙ arrivals_other node deed n machine.arrivals apart in
          subst (λ c. Counted a.episode c (thread_in after n)) (sym still)
          (subst (λ o. Counted a.episode (slice_index machine.arrivals n) o) (sym (s.others n apart)) (counted_at machine a n))
    ] in
    record {
      episode = a.episode;
      waiting = λ n. (each n).waiting;
      going = λ n. (each n).going;
      over = λ n. (each n).over;
    }

pub aligned_at_start : (program : Program) (nodes : ℕ) → Aligned (plain_start program nodes)
aligned_at_start program nodes = record {
  episode = 0;
  waiting = λ n t at waits. true_is_false t.arrived waits (ap (λ (x : Thread). x.arrived) (sym (started program nodes n t at)));
  going = λ n t at stays. omega (arith, no_arrivals nodes n);
  over = λ n at. no_arrivals nodes n;
}

-- ---- where one departs, all have arrived

departs_waiting : (thread : Thread) {next : Next} {deed : Deed} {new : Option Thread} → Goes next deed new → IsFine thread next → deed ≡ Depart
    → thread.arrived ≡ true
departs_waiting thread departing f e = f.0
departs_waiting thread quietly f e = cc
departs_waiting thread printing f e = cc
departs_waiting thread reading f e = cc
departs_waiting thread writing f e = cc
departs_waiting thread acquiring f e = cc
departs_waiting thread releasing f e = cc
departs_waiting thread arriving f e = cc
departs_waiting thread trapping f e = cc
departs_waiting thread ending f e = cc

came : (episode count : ℕ) (o : Option Thread) → Counted episode count o → episode + 1 ≤ count → (waits_in o ≡ true) × (count ≡ episode + 1)
came episode count None c le = let few = c.over refl in absurd (omega (arith, few, le))
came episode count (Some t) c le = by_test t.arrived refl
  where
    by_test : (b : Bool) → t.arrived ≡ b → (t.arrived ≡ true) × (count ≡ episode + 1)
    by_test true e = (e, c.waiting t refl e)
    by_test false e = let few = c.going t refl e in absurd (omega (arith, few, le))

-- every node has arrived equally often, those from a place on wait, and those before it have departed
pub record AtBarrier (machine : Plain) (count place long : ℕ) : Type 0 where
  pub held : Held machine
  pub size : length machine.threads ≡ long
  pub counts : (node : ℕ) → node < long → slice_index machine.arrivals node ≡ count
  pub waits : (node : ℕ) → place ≤ node → node < long → waits_in (thread_in machine node) ≡ true
  pub gone : (node : ℕ) (thread : Thread) → node < place → thread_in machine node ≡ Some thread → thread.arrived ≡ false

pub at_barrier : (machine : Plain) → Held machine → (a : Aligned machine) → (node : ℕ) (after : Plain) (deed : Deed) → Stepped machine node deed after
    → deed ≡ Depart → AtBarrier machine (a.episode + 1) 0 (length machine.threads)
at_barrier machine held a node after deed s is =
    let can : CanDo machine node Depart = subst (CanDo machine node) is s.took.can in
    let waits = departs_waiting s.thread s.took.goes (next_of-fine s.thread) is in
    let mine = a.waiting node s.thread s.there waits in
    let all = AllPass-from_list_all (λ count. nat_le (slice_index machine.arrivals node) count) machine.arrivals can in
    let each : (n : ℕ) → n < length machine.threads → (waits_in (thread_in machine n) ≡ true) × (slice_index machine.arrivals n ≡ a.episode + 1) =
    λ n lt.
    let within : n < length machine.arrivals = omega (arith, lt, held.sizes) in
    let le = leb-true (slice_index machine.arrivals node) (slice_index machine.arrivals n) (all n 0 within) in
    came a.episode (slice_index machine.arrivals n) (thread_in machine n) (counted_at machine a n) (omega (arith, le, mine)) in
    record {
      held = held;
      size = refl;
      counts = λ n lt. (each n lt).1;
      waits = λ n le lt. (each n lt).0;
      gone = λ n t lt at. absurd (omega (arith, lt));
    }

pub all_wait : (machine : Plain) (count : ℕ) → AtBarrier machine count 0 (length machine.threads) → AllWait machine
all_wait machine count b = record { each = λ n lt. b.waits n (omega arith) lt }

-- past the barrier
pub aligned_past : (machine : Plain) (count long : ℕ) → AtBarrier machine count long long → Aligned machine
aligned_past machine count long b = record {
  episode = count;
  waiting = λ n t at waits.
      let lt = thread_within machine n t at in true_is_false t.arrived waits (b.gone n t (omega (arith, lt, b.size)) at);
  going = λ n t at stays. let lt = thread_within machine n t at in b.counts n (omega (arith, lt, b.size));
  over = λ n at. elim (cases_lt n long) [
    | inl lt ↦ omega (arith, b.counts n lt)
    | inr le ↦ omega (arith, get_or_past machine.arrivals n 0 (omega (arith, le, b.size, b.held.sizes)))
  ];
}

-- a thread past the barrier
abbrev pub departed : Option Thread → Option Thread
departed None = None
departed (Some thread) = Some (record thread { arrived = false })

-- the next node departs
pub record DepartStep (machine : Plain) (count place long : ℕ) : Type 0 where
  pub after : Plain
  pub step : plain_step machine place ≡ Some (Depart, after)
  pub is : after ≡ after_of machine place Depart (departed (thread_in machine place))
  pub barrier : AtBarrier after count (place + 1) long

pub waiter : (o : Option Thread) → waits_in o ≡ true → (thread : Thread) × (o ≡ Some thread) × (thread.arrived ≡ true)
waiter None e = true_is_false true refl (sym e)
waiter (Some thread) e = (thread, refl, e)

pub depart_step : (machine : Plain) (count place long : ℕ) → AtBarrier machine count place long → place < long → DepartStep machine count place long
depart_step machine count place long b lt =
    let w = waiter (thread_in machine place) (b.waits place (omega arith) lt) in
    let t : Thread = w.0 in
    let gone : Thread = record t { arrived = false } in
    let next : next_of t ≡ departs gone = ap (λ x. if x then departs gone else first_act t t.rest) w.2 in
    let own = b.counts place lt in
    let can : CanDo machine place Depart =
    list_all-from_AllPass (λ c. nat_le (slice_index machine.arrivals place) c) machine.arrivals (λ k d in_range.
    let its = b.counts k (omega (arith, in_range, b.size, b.held.sizes)) in
    let same = get_or_default machine.arrivals k d 0 in_range in
    le-leb (slice_index machine.arrivals place) (slice_index_or machine.arrivals k d) (omega (arith, own, its, same))) in
    let after = after_of machine place Depart (Some gone) in
    let step : plain_step machine place ≡ Some (Depart, after) = can_step machine place t Depart w.1 next departing can in
    let s = stepped machine place Depart after step in
    let there : thread_in after place ≡ Some gone = get_or-set_same machine.threads place (Some gone) None (omega (arith, lt, b.size)) in
    record {
      after = after;
      step = step;
      is = ap (λ o. after_of machine place Depart (departed o)) (sym w.1);
      barrier = record {
        held = held_after machine b.held place Depart after s;
        size = length-set machine.threads place (Some gone) ∙ b.size;
        counts = b.counts;
        waits = λ n le within. ap waits_in (s.others n (λ e. absurd (omega (arith, le, e)))) ∙ b.waits n (omega (arith, le)) within;
        gone = λ n x before at. elim (cases_eq n place) [
          | inl same ↦
              let is : gone ≡ x = same_Some gone x (sym there ∙ ap (thread_in after) (sym same) ∙ at) in
              ap (λ (y : Thread). y.arrived) (sym is)
          | inr apart ↦ b.gone n x (omega (arith, before, apart)) (sym (s.others n apart) ∙ at)
        ];
      };
    }

-- the departs of the nodes from a place on, put in front of a run
pub record Together (machine : Plain) (count place many long : ℕ) (order : List ℕ) (acts : List Act) (final : Plain) : Type 0 where
  pub departs_made : List Act
  pub there : Plain
  pub led : plain_from machine (range_with_len place many) ≡ Some (departs_made, there)
  pub barrier : AtBarrier there count long long
  pub new_order : List ℕ
  pub new_acts : List Act
  pub new_final : Plain
  pub run : plain_from there new_order ≡ Some (new_acts, new_final)
  pub short : (length new_order < length order) ⊎ ((new_order ≡ order) × ((node : ℕ) → place ≤ node → node < long → Occurs node order → ⊥))
  pub follows : Follows acts (departs_made ++ new_acts) final new_final

pub together : (many place long count : ℕ) → place + many ≡ long → (machine : Plain) → AtBarrier machine count place long → (order : List ℕ)
    (acts : List Act) (final : Plain) → plain_from machine order ≡ Some (acts, final) → Together machine count place many long order acts final
together zero place long count sum machine b order acts final run =
    let e : place ≡ long = omega (arith, sum) in
    record {
      departs_made = [];
      there = machine;
      led = refl;
      barrier = subst (λ k. AtBarrier machine count k long) e b;
      new_order = order;
      new_acts = acts;
      new_final = final;
      run = run;
      short = inr (refl, λ node le lt occurs. absurd (omega (arith, le, lt, e)));
      follows = follows_here acts final;
    }
together (suc many) place long count sum machine b order acts final run =
    let d = depart_step machine count place long b (omega (arith, sum)) in
    let f = in_front order machine final acts place Depart d.after b.held d.step refl run in
    let rest = together many (place + 1) long count (omega (arith, sum)) d.after d.barrier f.new_order f.new_acts f.new_final f.run in
    record {
      departs_made = act_of place Depart ∷ rest.departs_made;
      there = rest.there;
      led = one_more machine d.after rest.there place Depart (range_with_len (place + 1) many) rest.departs_made d.step rest.led;
      barrier = rest.barrier;
      new_order = rest.new_order;
      new_acts = rest.new_acts;
      new_final = rest.new_final;
      run = rest.run;
      short = elim (ending_length place Depart order f.new_order acts f.new_acts final f.new_final f.ending) [
        | inl lt ↦ elim rest.short [
          | inl lt' ↦ inl (omega (arith, lt, lt'))
          | inr same ↦ inl (omega (arith, lt, ap length same.0))
        ]
        | inr same ↦ elim rest.short [
          | inl lt' ↦ inl (omega (arith, lt', ap length same.0))
          | inr same' ↦ inr (
            same'.0 ∙ same.0,
            λ node le lt occurs. elim (cases_eq node place) [
              | inl e ↦ same.1 (subst (λ k. Occurs k order) e occurs)
              | inr apart ↦ same'.1 node (omega (arith, le, apart)) lt (subst (Occurs node) (sym same.0) occurs)
            ],
          )
        ]
      ];
      follows = follows_on (ending_follows place Depart order f.new_order acts f.new_acts final f.new_final refl f.ending)
          (follows_behind (act_of place Depart) rest.follows);
    }

-- A program has a race exactly where two of its nodes meet.
use Rattle.std.proofs.Common.{◌≡◌, ℕ, zero, suc, ◌+◌, ◌<◌, ◌≤◌, List, [], ◌∷◌, ◌++◌, Bool, true, false, ◌⊎◌, inl, inr}
use Rattle.std.proofs.Common.{length, sym, subst, ◌∙◌, ap, refl, arith, append_assoc, length-append}
use Rattle.std.specs.Prelude.{Option, Some, None, IsTrue, ◌||◌, Contains, slice_index, slice_index_or, slice_set, option_and_then}
use Rattle.std.proofs.lemmas.Bool.{cases_lt}
use Rattle.std.proofs.lemmas.List.{get_or-set_other, length_push}
use Rattle.std.proofs.lemmas.Option.{some_pair_parts, option_and_then_some}
use Rattle.lrc_program.specs.declared.Program.{Program}
use Rattle.lrc_trace.specs.declared.act.Act.{Act}
use Rattle.lrc_trace.specs.declared.act.Deed.{Deed}
use Rattle.lrc_trace.specs.declared.act.Deed.TheVariants.{Read, Write, Release, Arrive}
use Rattle.lrc_trace.specs.Run.{Does, act_of}
use Rattle.lrc_trace.specs.Order.{Precedes, program, lock, barrier, HappensBefore, base, further}
use Rattle.lrc_trace.specs.Conflict.{Writes, Accesses, ConflictAt, Races}
use Rattle.lrc_trace.proofs.Positions.{slice_get-seam, Does-last, Does-one_node, Does-one_deed}
use Rattle.lrc_trace.proofs.HappensBefore.{forward, Precedes-forward}
use Rattle.lrc_exec.specs.Meaning.{Thread, Next, reads, writes, next_of}
use Rattle.lrc_exec.specs.Plain.{Plain, deed_done, thread_in, plain_step, plain_start, plain_from, plain, with_thread}
use Rattle.lrc_exec.proofs.PlainLaws.{plain_from-begins}
use Rattle.lrc_consistency_laws.specs.Racing.{HasNoRace}
use Rattle.lrc_consistency_laws.proofs.Runs.{start_ready}
use Rattle.lrc_consistency_laws.proofs.Plainly.{facts, one_more, plain_from-joined}
use Rattle.lrc_orders.specs.Meeting.{access_of, next_access_in, next_access, Meet, IsReachable, NeverMeets, NeverMeetsBefore, IsCertificate}
use Rattle.lrc_orders.specs.Verdict.{NeverRacesBefore}
use Rattle.lrc_orders.proofs.Reduced.{Reduced}
use Rattle.lrc_orders.proofs.Reducing.{IsAccess, by_read, by_write, Accessed, reduce}

-- ---- from a race to a meeting

accessed : {run : List Act} {i p word : ℕ} → Accesses run i p word → (b : Bool) × Accessed run i p word b
accessed (inl (v, does)) = (false, record { deed = Read _ v; does = does; is = by_read })
accessed (inr (v, does)) = (true, record { deed = Write _ v; does = does; is = by_write })

written : {run : List Act} {i p word : ℕ} → Writes run i p word → Accessed run i p word true
written (v, does) = record { deed = Write _ v; does = does; is = by_write }

-- what both positions of a conflict do, and that one of them writes
pub record Pair (run : List Act) (i p j q word : ℕ) : Type 0 where
  pub b : Bool
  pub c : Bool
  pub one : Accessed run i p word b
  pub other : Accessed run j q word c
  pub writes : IsTrue (b || c)

either : (b : Bool) → IsTrue (b || true)
either true = refl
either false = refl

pub pair : {run : List Act} {i p j q word : ℕ} → ConflictAt run i p j q word → Writes run i p word ⊎ Writes run j q word → Pair run i p j q word
pair at (inl w) = let other = accessed at.second in record { b = true; c = other.0; one = written w; other = other.1; writes = refl }
pair at (inr w) = let one = accessed at.first in record { b = one.0; c = true; one = one.1; other = written w; writes = either one.0 }

-- where no order of so few acts leads to a meeting, none has a race up to there
module _ (prog : Program) (nodes many : ℕ) (never : NeverMeetsBefore prog nodes many) where
  no_first : (order : List ℕ) (run : List Act) → plain prog nodes order ≡ Some run → (i j : ℕ) → j ≤ many → ((x y : ℕ) → Races run x y → j ≤ y)
      → Races run i j → ⊥
  no_first order run e i j few first race =
      let f = facts prog nodes order run e in
      let p = race.conflict.0 in
      let q = race.conflict.1 in
      let word = race.conflict.2 in
      let at : ConflictAt run i p j q word = race.conflict.3 in
      let two = pair at at.writes in
      let start = plain_start prog nodes in
      let alike : Reduced run i p (Some (word, two.b)) 0 start start = record {
        threads = λ n clean. refl;
        memory = λ w clean. refl;
        holders = λ l clean. refl;
        arrivals = λ n clean. refl;
        arrived = λ x n lt does kept. absurd (omega arith);
        waits = λ lt. absurd (omega arith);
        threads_long = refl;
        memory_long = refl;
        holders_long = refl;
        arrivals_long = refl;
      } in
      let met = reduce prog nodes run f.follows f.synchronized f.in_order i j first p q word two.b two.c race.earlier race.unordered two.one two.other
      run 0 start start (start_ready prog nodes run f.follows) alike (record { order = []; acts = []; led = refl })
      (record { up_to = omega arith; fewer = λ lt. absurd (omega (arith, lt)) }) (omega arith) in
      let short = met.short in
      never met.machine met.reached (omega (arith, short, few)) p q (record {
        apart = at.apart;
        word = word;
        first_writes = two.b;
        second_writes = two.c;
        first = met.first_next;
        second = met.second_next;
        writes = two.writes;
      })

  none_below : (order : List ℕ) (run : List Act) → plain prog nodes order ≡ Some run → (bound i j : ℕ) → j < bound → j ≤ many → Races run i j → ⊥
  none_below order run e zero i j lt few race = absurd (omega (arith, lt))
  none_below order run e (suc bound) i j lt few race =
      no_first order run e i j few (λ x y other. elim (cases_lt y j) [
        | inl before ↦ absurd (none_below order run e bound x y (omega (arith, lt, before)) (omega (arith, few, before)) other)
        | inr le ↦ le
      ]) race

  pub no_race_before : NeverRacesBefore prog nodes (many + 1)
  no_race_before order run i j e race = elim (cases_lt many j) [
    | inl lt ↦ omega (arith, lt)
    | inr few ↦ absurd (none_below order run e (j + 1) i j (omega arith) few race)
  ]

pub no_race : (prog : Program) (nodes : ℕ) → NeverMeets prog nodes → HasNoRace prog nodes
no_race prog nodes never order run e i j race =
    let late = no_race_before prog nodes j (λ machine r lt. never machine r) order run i j e race in absurd (omega (arith, late))

-- ---- from a meeting to a race

-- the step of a node that accesses a word next
record Stepping (machine : Plain) (node word : ℕ) (b : Bool) : Type 0 where
  deed : Deed
  after : Plain
  thread : Option Thread
  is : plain_step machine node ≡ Some (deed, after)
  access : IsAccess deed word b
  threads : after.threads ≡ slice_set machine.threads node thread

made : (machine : Plain) (node word : ℕ) (b : Bool) (t : Thread) (n : Next) → thread_in machine node ≡ Some t → next_of t ≡ n → access_of n ≡ Some (word, b)
    → Stepping machine node word b
made machine node word b t (reads w after) at is e =
    let parts = some_pair_parts w word false b e in
    let v = slice_index machine.memory w in
    record {
      deed = Read w v;
      after = with_thread machine node (Some (after v));
      thread = Some (after v);
      is = ap (option_and_then (λ x. deed_done machine node (next_of x))) at ∙ ap (deed_done machine node) is;
      access = subst (λ x. IsAccess (Read w v) x b) parts.0 (subst (λ x. IsAccess (Read w v) w x) parts.1 by_read);
      threads = refl;
    }
made machine node word b t (writes w v after) at is e =
    let parts = some_pair_parts w word true b e in
    record {
      deed = Write w v;
      after = record (with_thread machine node (Some after)) { memory = slice_set machine.memory w v };
      thread = Some after;
      is = ap (option_and_then (λ x. deed_done machine node (next_of x))) at ∙ ap (deed_done machine node) is;
      access = subst (λ x. IsAccess (Write w v) x b) parts.0 (subst (λ x. IsAccess (Write w v) w x) parts.1 by_write);
      threads = refl;
    }
made machine node word b t _ at is e = cc

stepping : (machine : Plain) (node word : ℕ) (b : Bool) → next_access machine node ≡ Some (word, b) → Stepping machine node word b
stepping machine node word b e =
    option_and_then_some (λ t. access_of (next_of t)) (thread_in machine node) (word, b) e (λ t at is. made machine node word b t (next_of t) at refl is)

accesses : {run : List Act} {i p word : ℕ} {d : Deed} {b : Bool} → IsAccess d word b → Does run i p d → Accesses run i p word
accesses (by_read {v = v}) does = inl (v, does)
accesses (by_write {v = v}) does = inr (v, does)

writes_at : {run : List Act} {i p word : ℕ} {d : Deed} {b : Bool} → IsAccess d word b → b ≡ true → Does run i p d → Writes run i p word
writes_at by_read e does = cc
writes_at (by_write {v = v}) e does = (v, does)

no_release : {d : Deed} {word l : ℕ} {b : Bool} → IsAccess d word b → d ≡ Release l → ⊥
no_release by_read e = cc
no_release by_write e = cc

no_arrive : {d : Deed} {word : ℕ} {b : Bool} → IsAccess d word b → d ≡ Arrive → ⊥
no_arrive by_read e = cc
no_arrive by_write e = cc

-- neighbours of two nodes are unordered where the first is an access
apart_neighbours : {run : List Act} {i p q word : ℕ} {d e : Deed} {b : Bool} → (p ≡ q → ⊥) → Does run i p d → IsAccess d word b → Does run (i + 1) q e
    → Precedes run i (i + 1) → ⊥
apart_neighbours apart one access other (program lt here there) = apart (Does-one_node one here ∙ sym (Does-one_node other there))
apart_neighbours apart one access other (lock lt here there) = no_release access (Does-one_deed one here)
apart_neighbours apart one access other (barrier lt here there same) = no_arrive access (Does-one_deed one here)

module _ {run : List Act} {i p q word : ℕ} {d e : Deed} {b : Bool} (apart : p ≡ q → ⊥) (one : Does run i p d) (access : IsAccess d word b)
    (other : Does run (i + 1) q e) where
  unordered : (j : ℕ) → j ≡ i + 1 → HappensBefore run i j → ⊥
  unordered j at (base step) = apart_neighbours apart one access other (subst (λ y. Precedes run i y) at step)
  unordered j at (further {j = k} h step) = let lt = forward h in let less = Precedes-forward step in absurd (omega arith)

one_writes : (b c : Bool) → IsTrue (b || c) → (b ≡ true) ⊎ (c ≡ true)
one_writes true c e = inl refl
one_writes false c e = inr e

-- the last of two acts behind others
pub second_last : (acts : List Act) (a b : Act) → Does (acts ++ a ∷ b ∷ []) (length acts + 1) b.node b.deed
second_last acts a b =
    let long : length (acts ++ a ∷ []) ≡ length acts + 1 = length_push acts a in
    let h : Does ((acts ++ a ∷ []) ++ b ∷ []) (length acts + 1) b.node b.deed =
    subst (λ k. Does ((acts ++ a ∷ []) ++ b ∷ []) k b.node b.deed) long (Does-last (acts ++ a ∷ []) b) in
    subst (λ (xs : List Act). Does xs (length acts + 1) b.node b.deed) (append_assoc acts (a ∷ []) (b ∷ [])) h

-- the acts that end with the two accesses, and their race
pub record Racing (prog : Program) (nodes : ℕ) (order : List ℕ) (acts : List Act) (p q : ℕ) : Type 0 where
  pub run : List Act
  pub is : plain prog nodes (order ++ p ∷ q ∷ []) ≡ Some run
  pub races : Races run (length acts) (length acts + 1)
  pub long : length acts + 2 ≡ length run

pub racing : (prog : Program) (nodes : ℕ) (machine : Plain) (r : IsReachable prog nodes machine) (p q : ℕ) → Meet machine p q
    → Racing prog nodes r.order r.acts p q
racing prog nodes machine r p q meet =
    let one = stepping machine p meet.word meet.first_writes meet.first in
    let there : thread_in one.after q ≡ thread_in machine q =
    ap (λ ts. slice_index_or ts q None) one.threads ∙ get_or-set_other machine.threads p q one.thread None (λ e. meet.apart (sym e)) in
    let two = stepping one.after q meet.word meet.second_writes (ap next_access_in there ∙ meet.second) in
    let a = act_of p one.deed in
    let b = act_of q two.deed in
    let both : plain_from machine (p ∷ q ∷ []) ≡ Some (a ∷ b ∷ [], two.after) =
    one_more machine one.after two.after p one.deed (q ∷ []) (b ∷ []) one.is (one_more one.after two.after two.after q two.deed [] [] two.is refl) in
    let run = r.acts ++ a ∷ b ∷ [] in
    let i = length r.acts in
    let first : Does run i p one.deed = record { stands = slice_get-seam r.acts a (b ∷ []) } in
    let second : Does run (i + 1) q two.deed = second_last r.acts a b in
    record {
      run = run;
      is = ap (λ o. option_and_then (λ x. Some x.0) o)
          (plain_from-joined r.order (p ∷ q ∷ []) (plain_start prog nodes) machine two.after r.acts (a ∷ b ∷ []) r.led both);
      races = record {
        earlier = omega arith;
        conflict = (
          p,
          q,
          meet.word,
          record {
            apart = meet.apart;
            first = accesses one.access first;
            second = accesses two.access second;
            writes = elim (one_writes meet.first_writes meet.second_writes meet.writes) [
              | inl w ↦ inl (writes_at one.access w first)
              | inr w ↦ inr (writes_at two.access w second)
            ];
          },
        );
        unordered = unordered meet.apart first one.access second (i + 1) refl;
      };
      long = omega (arith, length-append r.acts (a ∷ b ∷ []));
    }

pub never_meets : (prog : Program) (nodes : ℕ) → HasNoRace prog nodes → NeverMeets prog nodes
never_meets prog nodes none machine r p q meet =
    let race = racing prog nodes machine r p q meet in none (r.order ++ p ∷ q ∷ []) race.run race.is (length r.acts) (length r.acts + 1) race.races

-- ---- closed states

-- what has the start and every state that a step leads to has all that is reached
pub all_reached : (Seen : Plain → Type 0)
    → ((machine after : Plain) (node : ℕ) (deed : Deed) → Seen machine → plain_step machine node ≡ Some (deed, after) → Seen after)
    → (order : List ℕ) (from : Plain) (acts : List Act) (machine : Plain) → Seen from → plain_from from order ≡ Some (acts, machine) → Seen machine
all_reached Seen closed [] from acts machine seen e = subst Seen ((some_pair_parts [] acts from machine e).1) seen
all_reached Seen closed (node ∷ order) from acts machine seen e =
    let begins = plain_from-begins from node order (acts, machine) e in
    let next : Seen begins.step.1 = closed from begins.step.1 node begins.step.0 seen begins.step_is in
    let same : machine ≡ begins.more.1 = ap (λ r. r.1) begins.run_is in
    subst Seen (sym same) (all_reached Seen closed order begins.step.1 begins.more.0 begins.more.1 next begins.more_is)

pub certified : (prog : Program) (nodes : ℕ) (states : List Plain) → IsCertificate prog nodes states → HasNoRace prog nodes
certified prog nodes states c =
    no_race prog nodes (λ machine r. c.calm machine
    (all_reached (λ m. Contains states m) c.closed r.order (plain_start prog nodes) r.acts machine c.start r.led))

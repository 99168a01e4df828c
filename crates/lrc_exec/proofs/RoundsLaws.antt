-- Laws of the rounds: one node more, and why they end.
use Rattle.std.proofs.Common.{◌≡◌, ℕ, zero, suc, ◌+◌, ◌-◌, ◌*◌, ◌<◌, ◌≤◌, Bool, true, false, List, [], ◌∷◌, ◌++◌, length, get_or, set, Option}
use Rattle.std.proofs.Common.{Some, None, refl, sym, ap, ◌∙◌, subst, ⊎_elim, arith, add-zero, length-append, length-set}
use Rattle.std.specs.Prelude.{option_map, option_and_then, slice_index, is_some, unwrap_or, nat_le, sum, sum_by, if◌then◌else◌}
use Rattle.std.specs.List.{range_with_len}
use Rattle.std.proofs.lemmas.Bool.{cases_lt, leb-true}
use Rattle.std.proofs.lemmas.List.{append-nil, nil_from_length, length-replicate}
use Rattle.std.proofs.lemmas.List.Sums.{sum_by-cons, sum_by-set}
use Rattle.lrc_exec.proofs.PlainParts.{thread_within, where_true}
use Rattle.lrc_trace.specs.declared.act.Act.{Act}
use Rattle.lrc_trace.specs.declared.act.Deed.{Deed}
use Rattle.lrc_exec.specs.Meaning.{Thread, Next, quiet, prints, reads, writes, acquires, releases, arrives, departs, traps, ends, next_of}
use Rattle.lrc_program.specs.declared.Program.{Program}
use Rattle.lrc_exec.specs.Plain.{Plain, plain_start, nobody_holds, all_arrived, deed_done, thread_in, plain_step, plain_from, plain}
use Rattle.lrc_exec.specs.Ask.{steps_of}
use Rattle.lrc_exec.specs.Rounds.{Paced, turn, turns, round, rounds, paced_start, AreActsOfRounds}
use Rattle.lrc_exec.specs.RoundsCode.{MakesRound}
use Rattle.lrc_exec.proofs.PlainLaws.{no_arrivals, then_from, plain_from-append, plain_from-length, plain_from-arrivals}
use Rattle.lrc_exec.proofs.NextLaws.{IsFine, next_of-fine}

-- the numbers below one more
pub range-last : (from n : ℕ) → range_with_len from (n + 1) ≡ range_with_len from n ++ (from + n) ∷ []
range-last from zero = ap (λ k. k ∷ []) (sym (add-zero from))
range-last from (suc n) =
    let more : suc n + 1 ≡ suc (n + 1) = omega arith in
    let same : from + 1 + n ≡ from + suc n = omega arith in
    ap (range_with_len from) more
    ∙ ap (λ l. from ∷ l) (range-last (from + 1) n ∙ ap (λ k. range_with_len (from + 1) n ++ k ∷ []) same)

chosen_append : (test : Bool) (node : ℕ) (a b : List ℕ) → (if test then node ∷ a else a) ++ b ≡ (if test then node ∷ (a ++ b) else a ++ b)
chosen_append true node a b = refl
chosen_append false node a b = refl

-- the turns of one list of nodes and then of another
pub turns-append : (pace : Paced) (a b : List ℕ) → turns pace (a ++ b) ≡ ((turns pace a).0 ++ (turns (turns pace a).1 b).0, (turns (turns pace a).1 b).1)
turns-append pace [] b = refl
turns-append pace (node ∷ a) b =
    let next = unwrap_or (turn pace node) pace in
    let test = is_some (turn pace node) in
    ap (λ (r : List ℕ × Paced). (if test then node ∷ r.0 else r.0, r.1)) (turns-append next a b)
    ∙ ap (λ l. (l, (turns (turns next a).1 b).1)) (sym (chosen_append test node (turns next a).0 (turns (turns next a).1 b).0))

-- one node more, with its turn
pub turns-last : (pace : Paced) (nodes : List ℕ) (node : ℕ) (next : Paced) → turn (turns pace nodes).1 node ≡ Some next
    → turns pace (nodes ++ node ∷ []) ≡ ((turns pace nodes).0 ++ node ∷ [], next)
turns-last pace nodes node next is =
    turns-append pace nodes (node ∷ [])
    ∙ ap (λ o. ((turns pace nodes).0 ++ (if is_some o then node ∷ [] else []), unwrap_or o (turns pace nodes).1)) is

-- one node more that has no turn
pub turns-none : (pace : Paced) (nodes : List ℕ) (node : ℕ) → turn (turns pace nodes).1 node ≡ None → turns pace (nodes ++ node ∷ []) ≡ turns pace nodes
turns-none pace nodes node is =
    turns-append pace nodes (node ∷ [])
    ∙ ap (λ o. ((turns pace nodes).0 ++ (if is_some o then node ∷ [] else []), unwrap_or o (turns pace nodes).1)) is
    ∙ ap (λ l. (l, (turns pace nodes).1)) (append-nil (turns pace nodes).0)

-- what a turn is
pub record IsTurn (pace : Paced) (node : ℕ) (next : Paced) : Type 0 where
  pub step : Deed × Plain
  pub step_is : plain_step pace.machine node ≡ Some step
  pub enough : steps_of step.0 ≤ slice_index pace.left node
  pub next_is : next ≡ record { machine = step.1; left = set pace.left node (slice_index pace.left node - steps_of step.0) }

turn_taken : (pace : Paced) (node : ℕ) (next : Paced) (step : Deed × Plain) (test : Bool) → plain_step pace.machine node ≡ Some step
    → nat_le (steps_of step.0) (slice_index pace.left node) ≡ test
    → (if test then Some (record { machine = step.1; left = set pace.left node (slice_index pace.left node - steps_of step.0) }) else None) ≡ Some next
    → IsTurn pace node next
turn_taken pace node next step true step_is enough e =
    record {
      step = step;
      step_is = step_is;
      enough = leb-true _ _ enough;
      next_is =
          (let is : next ≡ record { machine = step.1; left = set pace.left node (slice_index pace.left node - steps_of step.0) } = cc in is);
    }
turn_taken pace node next step false step_is enough e = cc

turn_made : (pace : Paced) (node : ℕ) (next : Paced) (o : Option (Deed × Plain)) → plain_step pace.machine node ≡ o
    → option_and_then (λ step. if nat_le (steps_of step.0) (slice_index pace.left node) then Some (record {
      machine = step.1;
      left =
          set pace.left node (slice_index pace.left node - steps_of step.0);
    }) else None) o ≡ Some next → IsTurn pace node next
turn_made pace node next None is e = cc
turn_made pace node next (Some step) is e = turn_taken pace node next step (nat_le (steps_of step.0) (slice_index pace.left node)) is refl e

pub turn-is : (pace : Paced) (node : ℕ) (next : Paced) → turn pace node ≡ Some next → IsTurn pace node next
turn-is pace node next e = turn_made pace node next (plain_step pace.machine node) refl e

-- how many acts a thread can still make without a step: the end, and the depart from where it has arrived
abbrev pub weight : Option Thread → ℕ
weight None = 0
weight (Some thread) = if thread.arrived then 2 else 1

-- a bound on the acts that the rounds can still make
pub fuel : Paced → ℕ
fuel pace = 3 * sum pace.left + sum_by weight pace.machine.threads

weight_of : (thread : Thread) (arrived : Bool) → thread.arrived ≡ arrived → weight (Some thread) ≡ (if arrived then 2 else 1)
weight_of thread arrived e = ap (λ b. if b then 2 else 1) e

weight_most : (thread : Thread) → weight (Some thread) ≤ 2
weight_most thread = most thread.arrived
  where
    most : (b : Bool) → (if b then 2 else 1) ≤ 2
    most true = omega arith
    most false = omega arith

-- what a step leaves of a thread
record Leaves (machine : Plain) (node : ℕ) (thread : Thread) (step : Deed × Plain) : Type 0 where
  after : Option Thread
  threads : step.1.threads ≡ set machine.threads node after
  lighter : weight after < weight (Some thread) + 2 * steps_of step.0

-- a step that is counted leaves a thread, or none
counted : (machine : Plain) (node : ℕ) (thread after : Thread) (not_arrived : thread.arrived ≡ false) (d : Deed) (new : Plain) → steps_of d ≡ 1
    → new.threads ≡ set machine.threads node (Some after) → Leaves machine node thread (d, new)
counted machine node thread after not_arrived d new one threads =
    record { after = Some after; threads = threads; lighter = omega (arith, weight_most after, weight_of thread false not_arrived, one) }

deed_leaves : (machine : Plain) (node : ℕ) (thread : Thread) (next : Next) (s : Deed × Plain) → IsFine thread next → deed_done machine node next ≡ Some s
    → Leaves machine node thread s
deed_leaves machine node thread (quiet after) s fine e =
    where_true (Leaves machine node thread) true (counted machine node thread after fine.0 _ _ refl refl) e
deed_leaves machine node thread (prints value after) s fine e =
    where_true (Leaves machine node thread) true (counted machine node thread after fine.0 _ _ refl refl) e
deed_leaves machine node thread (reads word after) s fine e =
    let value = slice_index machine.memory word in
    where_true (Leaves machine node thread) true (counted machine node thread (after value) (fine.1 value).0 _ _ refl refl) e
deed_leaves machine node thread (writes word value after) s fine e =
    where_true (Leaves machine node thread) true (counted machine node thread after fine.1.0 _ _ refl refl) e
deed_leaves machine node thread (acquires lock after) s fine e =
    where_true (Leaves machine node thread) (nobody_holds machine lock) (counted machine node thread after fine.2 _ _ refl refl) e
deed_leaves machine node thread (releases lock after) s fine e =
    where_true (Leaves machine node thread) true (counted machine node thread after fine.2 _ _ refl refl) e
deed_leaves machine node thread (arrives after) s fine e =
    where_true (Leaves machine node thread) true (counted machine node thread after fine.0 _ _ refl refl) e
deed_leaves machine node thread (departs after) s fine e =
    where_true (Leaves machine node thread) (all_arrived machine node) (record {
      after = Some after;
      threads = refl;
      lighter =
          omega (arith, weight_of thread true fine.0, weight_of after false fine.1.arrived);
    }) e
deed_leaves machine node thread (traps cause) s fine e =
    where_true (Leaves machine node thread) true (record { after = None; threads = refl; lighter = omega arith }) e
deed_leaves machine node thread ends s fine e =
    where_true (Leaves machine node thread) true (record { after = None; threads = refl; lighter = omega (arith, weight_of thread false fine) }) e

step_leaves : (machine : Plain) (node : ℕ) (o : Option Thread) (s : Deed × Plain) → option_and_then (λ thread. deed_done machine node (next_of thread)) o ≡ Some s
    → (thread : Thread) × (o ≡ Some thread) × Leaves machine node thread s
step_leaves machine node None s e = cc
step_leaves machine node (Some thread) s e = (thread, refl, deed_leaves machine node thread (next_of thread) s (next_of-fine thread) e)

sum-set_less : (xs : List ℕ) (n c : ℕ) → c ≤ slice_index xs n → sum (set xs n (slice_index xs n - c)) + c ≡ sum xs
sum-set_less [] n c enough = omega (arith, enough)
sum-set_less (x ∷ xs) zero c enough = omega (arith, enough, sum_by-cons (λ k. k) (x - c) xs, sum_by-cons (λ k. k) x xs)
sum-set_less (x ∷ xs) (suc n) c enough =
    omega (arith, sum-set_less xs n c enough, sum_by-cons (λ k. k) x xs, sum_by-cons (λ k. k) x (set xs n (slice_index xs n - c)))

-- each act uses some of the bound
pub turn_falls : (pace : Paced) (node : ℕ) (next : Paced) → turn pace node ≡ Some next → fuel next < fuel pace
unfolding fuel
turn_falls pace node next e =
    let t = turn-is pace node next e in
    let h = step_leaves pace.machine node (thread_in pace.machine node) t.step t.step_is in
    let leaves = h.2 in
    let within = thread_within pace.machine node h.0 h.1 in
    let left = sum-set_less pace.left node (steps_of t.step.0) t.enough in
    let threads = sum_by-set weight pace.machine.threads node leaves.after None within in
    let weight_is : weight (get_or pace.machine.threads node None) ≡ weight (Some h.0) = ap weight h.1 in
    let left_is : sum next.left ≡ sum (set pace.left node (slice_index pace.left node - steps_of t.step.0)) = ap (λ (p : Paced). sum p.left) t.next_is in
    let threads_is : sum_by weight next.machine.threads ≡ sum_by weight (set pace.machine.threads node leaves.after) =
    ap (λ (p : Paced). sum_by weight p.machine.threads) t.next_is ∙ ap (sum_by weight) leaves.threads in
    omega (arith, leaves.lighter)

turns_one : (pace : Paced) (node : ℕ) (nodes : List ℕ) (o : Option Paced) → turn pace node ≡ o
    → ((p : Paced) → fuel (turns p nodes).1 + length (turns p nodes).0 ≤ fuel p)
    → fuel (turns (unwrap_or o pace) nodes).1 + length
    (if is_some o then node ∷ (turns (unwrap_or o pace) nodes).0 else (turns (unwrap_or o pace) nodes).0) ≤ fuel pace
turns_one pace node nodes None e more = more pace
turns_one pace node nodes (Some next) e more = omega (arith, more next, turn_falls pace node next e)

-- the turns of a list of nodes use as much of the bound as they make acts, or more
pub turns_fall : (pace : Paced) (nodes : List ℕ) → fuel (turns pace nodes).1 + length (turns pace nodes).0 ≤ fuel pace
turns_fall pace [] = omega arith
turns_fall pace (node ∷ nodes) = turns_one pace node nodes (turn pace node) refl (λ p. turns_fall p nodes)

-- a turn keeps how many nodes there are
left_one : (pace : Paced) (node : ℕ) (o : Option Paced) → turn pace node ≡ o → length (unwrap_or o pace).left ≡ length pace.left
left_one pace node None e = refl
left_one pace node (Some next) e =
    ap (λ (p : Paced). length p.left) (turn-is pace node next e).next_is ∙ length-set pace.left node _

pub length-turns : (pace : Paced) (nodes : List ℕ) → length (turns pace nodes).1.left ≡ length pace.left
length-turns pace [] = refl
length-turns pace (node ∷ nodes) =
    length-turns (unwrap_or (turn pace node) pace) nodes ∙ left_one pace node (turn pace node) refl

-- the rounds so far: the acts that they made, and the machine after them
pub record HasRounded (nodes : ℕ) (start now : Paced) (acts : List Act) : Type 0 where
  pub count : ℕ
  pub made : plain_from start.machine (rounds nodes start count).0 ≡ Some (acts, now.machine)
  pub now_is : now ≡ (rounds nodes start count).1
  pub long : length now.left ≡ nodes
  pub few_arrivals : (k : ℕ) → slice_index now.machine.arrivals k ≤ length acts

-- one round on
pub rounded_on : (nodes : ℕ) (start now next : Paced) (acts after : List Act) → HasRounded nodes start now acts → MakesRound nodes now next acts after
    → HasRounded nodes start next after
rounded_on nodes start now next acts after h m =
    let same = λ (p : Paced). round nodes p in
    let last : (rounds nodes start (suc h.count)).0 ≡ (rounds nodes start h.count).0 ++ (round nodes now).0 =
    ap (λ (p : Paced). (rounds nodes start h.count).0 ++ (round nodes p).0) (sym h.now_is) in
    record {
      count = suc h.count;
      made =
          ap (plain_from start.machine) last
          ∙ plain_from-append start.machine (rounds nodes start h.count).0 (round nodes now).0
          ∙ ap (λ run. then_from run (round nodes now).0) h.made
          ∙ ap (option_map (λ more. (acts ++ more.0, more.1))) m.plainly
          ∙ ap (λ l. Some (l, next.machine)) (sym m.acts_are);
      now_is = m.new_is ∙ ap (λ p. (round nodes p).1) h.now_is;
      long = ap (λ (p : Paced). length p.left) m.new_is ∙ length-turns now (range_with_len 0 nodes) ∙ h.long;
      few_arrivals = λ k.
          omega (
            arith,
            plain_from-arrivals now.machine (round nodes now).0 (m.made, next.machine) m.plainly k,
            h.few_arrivals k,
            ap length m.acts_are,
            length-append acts m.made,
          );
    }

-- a round that made an act used some of the bound
pub round_falls : (nodes : ℕ) (now next : Paced) (acts after : List Act) → MakesRound nodes now next acts after → length acts < length after
    → fuel next < fuel now
round_falls nodes now next acts after m more =
    let long = plain_from-length now.machine (round nodes now).0 (m.made, next.machine) m.plainly in
    omega (arith, turns_fall now (range_with_len 0 nodes), ap fuel m.new_is, long, ap length m.acts_are, length-append acts m.made)

-- after a round that made none, these are the acts of the rounds
pub rounds_over : (program : Program) (nodes steps : ℕ) (now next : Paced) (acts after : List Act) → HasRounded nodes (paced_start program nodes steps) now acts
    → MakesRound nodes now next acts after → length after ≤ length acts → AreActsOfRounds program nodes steps after
rounds_over program nodes steps now next acts after h m none =
    let empty : m.made ≡ [] = nil_from_length m.made (omega (arith, ap length m.acts_are, length-append acts m.made)) in
    let same : after ≡ acts = m.acts_are ∙ ap (λ l. acts ++ l) empty ∙ append-nil acts in
    let long = plain_from-length now.machine (round nodes now).0 (m.made, next.machine) m.plainly in
    record {
      count = h.count;
      made = ap (option_map (λ run. run.0)) h.made ∙ ap Some (sym same);
      over = ap (λ p. (round nodes p).0) (sym h.now_is) ∙ nil_from_length (round nodes now).0 (omega (arith, long, ap length empty));
    }

-- before the first round
pub not_rounded : (program : Program) (nodes steps : ℕ) (now : Paced) (acts : List Act) → acts ≡ [] → now ≡ paced_start program nodes steps
    → HasRounded nodes (paced_start program nodes steps) now acts
not_rounded program nodes steps now acts none begun =
    record {
      count = 0;
      made = ap (λ l. Some (l, plain_start program nodes)) (sym none) ∙ ap (λ (p : Paced). Some (acts, p.machine)) (sym begun);
      now_is = begun;
      long = ap (λ (p : Paced). length p.left) begun ∙ length-replicate nodes steps;
      few_arrivals = λ k. omega (arith, subst (λ (p : Paced). slice_index p.machine.arrivals k ≤ 0) (sym begun) (no_arrivals nodes k));
    }

-- where a turn is not taken, the pace stays
nothing_cons : (test : Bool) (node : ℕ) (a : List ℕ) → (if test then node ∷ a else a) ≡ [] → (test ≡ false) × (a ≡ [])
nothing_cons true node a e = cc
nothing_cons false node a e = (refl, e)

not_taken : (o : Option Paced) (pace : Paced) → is_some o ≡ false → unwrap_or o pace ≡ pace
not_taken None pace e = refl
not_taken (Some next) pace e = cc

-- turns that make no act change nothing
pub turns-nothing : (pace : Paced) (nodes : List ℕ) → (turns pace nodes).0 ≡ [] → (turns pace nodes).1 ≡ pace
turns-nothing pace [] e = refl
turns-nothing pace (node ∷ nodes) e =
    let h = nothing_cons (is_some (turn pace node)) node (turns (unwrap_or (turn pace node) pace) nodes).0 e in
    turns-nothing (unwrap_or (turn pace node) pace) nodes h.1 ∙ not_taken (turn pace node) pace h.0

-- after a round with no act, further rounds make none
pub rounds-over : (nodes : ℕ) (start : Paced) (count more : ℕ) → (round nodes (rounds nodes start count).1).0 ≡ []
    → rounds nodes start (more + count) ≡ rounds nodes start count
rounds-over nodes start count zero over = let same : 0 + count ≡ count = omega arith in ap (rounds nodes start) same
rounds-over nodes start count (suc more) over =
    let same = rounds-over nodes start count more over in
    let next : suc more + count ≡ suc (more + count) = omega arith in
    ap (rounds nodes start) next
    ∙ ap (λ (r : List ℕ × Paced). (r.0 ++ (round nodes r.1).0, (round nodes r.1).1)) same
    ∙ ap (λ l. ((rounds nodes start count).0 ++ l, (round nodes (rounds nodes start count).1).1)) over
    ∙ ap (λ l. (l, (round nodes (rounds nodes start count).1).1)) (append-nil (rounds nodes start count).0)
    ∙ ap (λ p. ((rounds nodes start count).0, p)) (turns-nothing (rounds nodes start count).1 (range_with_len 0 nodes) over)

rounds_same : (nodes : ℕ) (start : Paced) (a b : ℕ) → (round nodes (rounds nodes start a).1).0 ≡ [] → (round nodes (rounds nodes start b).1).0 ≡ []
    → (rounds nodes start a).0 ≡ (rounds nodes start b).0
rounds_same nodes start a b over_a over_b =
    ⊎_elim
    (λ less.
    let gap : b - a + a ≡ b = omega arith in
    sym (ap (λ (r : List ℕ × Paced). r.0) (ap (rounds nodes start) (sym gap) ∙ rounds-over nodes start a (b - a) over_a)))
    (λ more.
    let gap : a - b + b ≡ a = omega arith in
    ap (λ (r : List ℕ × Paced). r.0) (ap (rounds nodes start) (sym gap) ∙ rounds-over nodes start b (a - b) over_b))
    (cases_lt a b)

pub rounds_determined : (program : Program) (nodes steps : ℕ) (first second : List Act) → AreActsOfRounds program nodes steps first
    → AreActsOfRounds program nodes steps second → first ≡ second
rounds_determined program nodes steps first second a b =
    let same = rounds_same nodes (paced_start program nodes steps) a.count b.count a.over b.over in
    let both : Some first ≡ Some second = sym a.made ∙ ap (plain program nodes) same ∙ b.made in
    cc

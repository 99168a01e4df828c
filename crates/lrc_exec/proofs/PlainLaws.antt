-- Laws of the plain machine: an order may be cut anywhere, and each entry makes one act.
use Rattle.std.proofs.Common.{◌≡◌, ℕ, zero, suc, ◌+◌, ◌≤◌, true, List, [], ◌∷◌, ◌++◌, length, take, set, replicate}
use Rattle.std.proofs.Common.{Option, Some, None, refl, sym, ap, ◌∙◌, subst, arith, length-set}
use Rattle.std.specs.Prelude.{option_map, option_and_then, map, slice_index}
use Rattle.std.proofs.lemmas.List.{length-map}
use Rattle.lrc_program.specs.declared.Program.{Program}
use Rattle.lrc_trace.specs.declared.act.Act.{Act}
use Rattle.lrc_trace.specs.declared.act.Deed.{Deed}
use Rattle.lrc_exec.proofs.PlainParts.{where_true}
use Rattle.lrc_exec.specs.Meaning.{Thread, Next, quiet, prints, reads, writes, acquires, releases, arrives, departs, traps, ends, next_of}
use Rattle.lrc_exec.specs.Plain.{Plain, plain_start, nobody_holds, all_arrived, deed_done, thread_in, plain_step, plain_from, plain}

-- the acts of one order and then of another
abbrev pub then_from : Option (List Act × Plain) → List ℕ → Option (List Act × Plain)
then_from None order = None
then_from (Some run) order = option_map (λ more. (run.0 ++ more.0, more.1)) (plain_from run.1 order)

-- one act before others
abbrev pub before : Act → List Act × Plain → List Act × Plain
before act more = (act ∷ more.0, more.1)

before_all : (act : Act) (acts : List Act) (o : Option (List Act × Plain))
    → option_map (before act) (option_map (λ more. (acts ++ more.0, more.1)) o) ≡ option_map (λ more. ((act ∷ acts) ++ more.0, more.1)) o
before_all act acts None = refl
before_all act acts (Some more) = refl

before_then : (act : Act) (run : Option (List Act × Plain)) (order : List ℕ)
    → option_map (before act) (then_from run order) ≡ then_from (option_map (before act) run) order
before_then act None order = refl
before_then act (Some run) order = before_all act run.0 (plain_from run.1 order)

nothing_before : (o : Option (List Act × Plain)) → o ≡ option_map (λ more. ([] ++ more.0, more.1)) o
nothing_before None = refl
nothing_before (Some more) = refl

step_then : (node : ℕ) (a b : List ℕ) → ((machine : Plain) → plain_from machine (a ++ b) ≡ then_from (plain_from machine a) b) → (o : Option (Deed × Plain))
    → option_and_then (λ step. option_map (before (record { node = node; deed = step.0 })) (plain_from step.1 (a ++ b))) o ≡ then_from
    (option_and_then (λ step. option_map (before (record { node = node; deed = step.0 })) (plain_from step.1 a)) o) b
step_then node a b more None = refl
step_then node a b more (Some step) =
    let act : Act = record { node = node; deed = step.0 } in
    ap (option_map (before act)) (more step.1) ∙ before_then act (plain_from step.1 a) b

-- the acts for an order in two parts are those for the first, and then those for the second
pub plain_from-append : (machine : Plain) (a b : List ℕ) → plain_from machine (a ++ b) ≡ then_from (plain_from machine a) b
plain_from-append machine [] b = nothing_before (plain_from machine b)
plain_from-append machine (node ∷ a) b = step_then node a b (λ m. plain_from-append m a b) (plain_step machine node)

-- one more entry of the order, and its act
pub plain_from-last : (machine mid after : Plain) (order : List ℕ) (acts : List Act) (node : ℕ) (deed : Deed) → plain_from machine order ≡ Some (acts, mid)
    → plain_step mid node ≡ Some (deed, after) → plain_from machine (order ++ node ∷ []) ≡ Some (acts ++ record { node = node; deed = deed } ∷ [], after)
plain_from-last machine mid after order acts node deed so_far step =
    plain_from-append machine order (node ∷ [])
    ∙ ap (λ run. then_from run (node ∷ [])) so_far
    ∙ ap (λ o. option_map (λ more. (
      acts
          ++ more.0,
      more.1,
    )) (option_and_then (λ s. option_map (before (record { node = node; deed = s.0 })) (plain_from s.1 [])) o)) step

-- an entry that cannot step leaves no acts
pub plain_from-stuck : (machine mid : Plain) (order rest : List ℕ) (acts : List Act) (node : ℕ) → plain_from machine order ≡ Some (acts, mid)
    → plain_step mid node ≡ None → plain_from machine (order ++ node ∷ rest) ≡ None
plain_from-stuck machine mid order rest acts node so_far stuck =
    plain_from-append machine order (node ∷ rest)
    ∙ ap (λ run. then_from run (node ∷ rest)) so_far
    ∙ ap (λ o. option_map (λ more. (
      acts
          ++ more.0,
      more.1,
    )) (option_and_then (λ s. option_map (before (record { node = node; deed = s.0 })) (plain_from s.1 rest)) o)) stuck

-- what a step keeps: how many nodes there are, and no count of arrivals rises by more than one
pub record Grows (old new : Plain) : Type 0 where
  pub threads : length new.threads ≡ length old.threads
  pub arrivals : (k : ℕ) → slice_index new.arrivals k ≤ slice_index old.arrivals k + 1

-- a change that leaves the arrivals alone
grows : (old : Plain) (memory : List ℕ) (holders : List (Option ℕ)) (node : ℕ) (thread : Option Thread)
    → Grows old (record { memory = memory; holders = holders; arrivals = old.arrivals; threads = set old.threads node thread })
grows old memory holders node thread = record { threads = length-set old.threads node thread; arrivals = λ k. omega arith }

counted : (counts : List ℕ) (node k : ℕ) → slice_index (set counts node (slice_index counts node + 1)) k ≤ slice_index counts k + 1
counted [] node k = omega arith
counted (n ∷ counts) zero zero = omega arith
counted (n ∷ counts) zero (suc k) = omega arith
counted (n ∷ counts) (suc node) zero = omega arith
counted (n ∷ counts) (suc node) (suc k) = counted counts node k

-- a step that adds no more than that
abbrev HasGrown : Plain → Deed × Plain → Type 0
HasGrown old step = Grows old step.1

deed_grows : (machine : Plain) (node : ℕ) (next : Next) (s : Deed × Plain) → deed_done machine node next ≡ Some s → Grows machine s.1
deed_grows machine node (quiet after) s e = where_true (HasGrown machine) true (grows machine machine.memory machine.holders node (Some after)) e
deed_grows machine node (prints value after) s e = where_true (HasGrown machine) true (grows machine machine.memory machine.holders node (Some after)) e
deed_grows machine node (reads word after) s e =
    where_true (HasGrown machine) true (grows machine machine.memory machine.holders node (Some (after (slice_index machine.memory word)))) e
deed_grows machine node (writes word value after) s e =
    where_true (HasGrown machine) true (grows machine (set machine.memory word value) machine.holders node (Some after)) e
deed_grows machine node (acquires lock after) s e =
    where_true (HasGrown machine) (nobody_holds machine lock) (grows machine machine.memory (set machine.holders lock (Some node)) node (Some after)) e
deed_grows machine node (releases lock after) s e =
    where_true (HasGrown machine) true (grows machine machine.memory (set machine.holders lock None) node (Some after)) e
deed_grows machine node (arrives after) s e =
    where_true (HasGrown machine) true (record { threads = length-set machine.threads node (Some after); arrivals = counted machine.arrivals node }) e
deed_grows machine node (departs after) s e =
    where_true (HasGrown machine) (all_arrived machine node) (grows machine machine.memory machine.holders node (Some after)) e
deed_grows machine node (traps cause) s e = where_true (HasGrown machine) true (grows machine machine.memory machine.holders node None) e
deed_grows machine node ends s e = where_true (HasGrown machine) true (grows machine machine.memory machine.holders node None) e

step_grows : (machine : Plain) (node : ℕ) (o : Option Thread) (s : Deed × Plain) → option_and_then (λ thread. deed_done machine node (next_of thread)) o ≡ Some s
    → Grows machine s.1
step_grows machine node None s e = cc
step_grows machine node (Some thread) s e = deed_grows machine node (next_of thread) s e

pub plain_step-grows : (machine : Plain) (node : ℕ) (s : Deed × Plain) → plain_step machine node ≡ Some s → Grows machine s.1
plain_step-grows machine node s e = step_grows machine node (thread_in machine node) s e

-- the parts of a run that is not empty
some_before : (act : Act) (o : Option (List Act × Plain)) (run : List Act × Plain) → option_map (before act) o ≡ Some run → (more : List Act × Plain)
    × (o ≡ Some more) × (run ≡ before act more)
some_before act None run e = cc
some_before act (Some more) run e = (more, refl, (let same : run ≡ before act more = cc in same))

pub record Begins (machine : Plain) (node : ℕ) (order : List ℕ) (run : List Act × Plain) : Type 0 where
  pub step : Deed × Plain
  pub more : List Act × Plain
  pub step_is : plain_step machine node ≡ Some step
  pub more_is : plain_from step.1 order ≡ Some more
  pub run_is : run ≡ (record { node = node; deed = step.0 } ∷ more.0, more.1)

begins : (machine : Plain) (node : ℕ) (order : List ℕ) (o : Option (Deed × Plain)) (run : List Act × Plain) → plain_step machine node ≡ o
    → option_and_then (λ step. option_map (before (record { node = node; deed = step.0 })) (plain_from step.1 order)) o ≡ Some run
    → Begins machine node order run
begins machine node order None run is e = cc
begins machine node order (Some step) run is e =
    let h = some_before (record { node = node; deed = step.0 }) (plain_from step.1 order) run e in
    record { step = step; more = h.0; step_is = is; more_is = h.1; run_is = h.2 }

pub plain_from-begins : (machine : Plain) (node : ℕ) (order : List ℕ) (run : List Act × Plain) → plain_from machine (node ∷ order) ≡ Some run
    → Begins machine node order run
plain_from-begins machine node order run e = begins machine node order (plain_step machine node) run refl e

-- each entry of the order makes the act of its node
pub plain_from-nodes : (machine : Plain) (order : List ℕ) (run : List Act × Plain) → plain_from machine order ≡ Some run
    → map (λ (act : Act). act.node) run.0 ≡ order
plain_from-nodes machine [] run e = let is : ([], machine) ≡ run = cc in sym (ap (λ (r : List Act × Plain). map (λ (act : Act). act.node) r.0) is)
plain_from-nodes machine (node ∷ order) run e =
    let h = plain_from-begins machine node order run e in
    ap (λ (r : List Act × Plain). map (λ (act : Act). act.node) r.0) h.run_is ∙ ap (λ l. node ∷ l) (plain_from-nodes h.step.1 order h.more h.more_is)

pub plain_from-length : (machine : Plain) (order : List ℕ) (run : List Act × Plain) → plain_from machine order ≡ Some run → length run.0 ≡ length order
plain_from-length machine order run e =
    sym (length-map run.0 (λ (act : Act). act.node)) ∙ ap length (plain_from-nodes machine order run e)

-- the acts for an order cut short are the acts cut short
pub plain_from-take : (machine : Plain) (order : List ℕ) (cut : ℕ) (run : List Act × Plain) → plain_from machine order ≡ Some run → (mid : Plain)
    × (plain_from machine (take cut order) ≡ Some (take cut run.0, mid))
plain_from-take machine order zero run e = (machine, refl)
plain_from-take machine [] (suc cut) run e = let is : ([], machine) ≡ run = cc in
    (machine, ap (λ (r : List Act × Plain). Some (take (suc cut) r.0, machine)) is)
plain_from-take machine (node ∷ order) (suc cut) run e =
    let h = plain_from-begins machine node order run e in
    let rest = plain_from-take h.step.1 order cut h.more h.more_is in
    let act : Act = record { node = node; deed = h.step.0 } in (
      rest.0,
      ap (λ o. option_and_then (λ s. option_map (before (record { node = node; deed = s.0 })) (plain_from s.1 (take cut order))) o) h.step_is
          ∙ ap (option_map (before act)) rest.1
          ∙ ap (λ (r : List Act × Plain). Some (take (suc cut) r.0, rest.0)) (sym h.run_is),
    )

first_of_run : (o : Option (List Act × Plain)) (acts : List Act) → option_map (λ run. run.0) o ≡ Some acts → (run : List Act × Plain) × (o ≡ Some run)
    × (run.0 ≡ acts)
first_of_run None acts e = cc
first_of_run (Some run) acts e = (run, refl, (let is : run.0 ≡ acts = cc in is))

pub plain-run : (program : Program) (nodes : ℕ) (order : List ℕ) (acts : List Act) → plain program nodes order ≡ Some acts → (run : List Act × Plain)
    × (plain_from (plain_start program nodes) order ≡ Some run) × (run.0 ≡ acts)
plain-run program nodes order acts e = first_of_run (plain_from (plain_start program nodes) order) acts e

pub plain-take : (program : Program) (nodes cut : ℕ) (order : List ℕ) (acts : List Act) → plain program nodes order ≡ Some acts
    → plain program nodes (take cut order) ≡ Some (take cut acts)
plain-take program nodes cut order acts e =
    let h = plain-run program nodes order acts e in
    let t = plain_from-take (plain_start program nodes) order cut h.0 h.1 in
    ap (option_map (λ run. run.0)) t.1 ∙ ap (λ a. Some (take cut a)) h.2

pub plain-nodes : (program : Program) (nodes : ℕ) (order : List ℕ) (acts : List Act) → plain program nodes order ≡ Some acts
    → map (λ (act : Act). act.node) acts ≡ order
plain-nodes program nodes order acts e =
    let h = plain-run program nodes order acts e in
    ap (map (λ (act : Act). act.node)) (sym h.2) ∙ plain_from-nodes (plain_start program nodes) order h.0 h.1

-- zeros are few
pub no_arrivals : (n k : ℕ) → slice_index (replicate n 0) k ≤ 0
no_arrivals zero k = omega arith
no_arrivals (suc n) zero = omega arith
no_arrivals (suc n) (suc k) = no_arrivals n k

-- no count of arrivals rises by more than one for each act
pub plain_from-arrivals : (machine : Plain) (order : List ℕ) (run : List Act × Plain) → plain_from machine order ≡ Some run → (k : ℕ)
    → slice_index run.1.arrivals k ≤ slice_index machine.arrivals k + length run.0
plain_from-arrivals machine [] run e k = let is : ([], machine) ≡ run = cc in
    subst (λ (r : List Act × Plain). slice_index r.1.arrivals k ≤ slice_index machine.arrivals k + length r.0) is (omega arith)
plain_from-arrivals machine (node ∷ order) run e k =
    let h = plain_from-begins machine node order run e in
    let grows = plain_step-grows machine node h.step h.step_is in
    let more = plain_from-arrivals h.step.1 order h.more h.more_is k in
    subst (λ (r : List Act × Plain). slice_index r.1.arrivals k ≤ slice_index machine.arrivals k + length r.0) (sym h.run_is)
    (omega (arith, grows.arrivals k, more))

acts_after : (acts : List Act) (o : Option (List Act × Plain))
    → option_map (λ (run : List Act × Plain). run.0) (option_map (λ (more : List Act × Plain). (acts ++ more.0, more.1)) o) ≡ option_map (λ (more : List Act
    × Plain). acts ++ more.0) o
acts_after acts None = refl
acts_after acts (Some more) = refl

pub plain-append : (program : Program) (nodes : ℕ) (first second : List ℕ) (acts : List Act) (machine : Plain)
    → plain_from (plain_start program nodes) first ≡ Some (acts, machine)
    → plain program nodes (first ++ second) ≡ option_map (λ more. acts ++ more.0) (plain_from machine second)
plain-append program nodes first second acts machine made =
    ap (option_map (λ run. run.0)) (plain_from-append (plain_start program nodes) first second ∙ ap (λ run. then_from run second) made)
    ∙ acts_after acts (plain_from machine second)

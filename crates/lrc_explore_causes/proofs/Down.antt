-- What a run with a race comes of is a run of the plain machine.
use Rattle.std.proofs.Common.{◌≡◌, ℕ, ◌+◌, ◌-◌, ◌≤◌, List, [], ◌∷◌, ◌++◌, Bool, true, false, inl, inr, length, sym, subst, ◌∙◌, ap, refl, arith}
use Rattle.std.specs.Prelude.{Option, Some, option_map, option_and_then, slice_index, slice_set}
use Rattle.std.proofs.lemmas.List.{map-append}
use Rattle.std.proofs.lemmas.Option.{same_Some, some_pair_parts, option_and_then_some}
use Rattle.lrc_program.specs.declared.Program.{Program}
use Rattle.lrc_trace.specs.declared.act.Act.{Act}
use Rattle.lrc_trace.specs.declared.act.Deed.{Deed}
use Rattle.lrc_trace.specs.declared.act.Deed.TheVariants.{Read, Write}
use Rattle.lrc_trace.specs.Run.{Does, act_of}
use Rattle.lrc_trace.specs.Conflict.{Races}
use Rattle.lrc_trace.proofs.Conflicts.{Accesses-node}
use Rattle.lrc_trace.proofs.HappensBefore.{forward}
use Rattle.lrc_trace.proofs.Positions.{Does-within}
use Rattle.lrc_exec.specs.Meaning.{Thread, Next, reads, writes, next_of}
use Rattle.lrc_exec.specs.Plain.{Plain, deed_done, thread_in, plain_step, plain_start, plain_from, plain, with_thread}
use Rattle.lrc_exec.proofs.PlainLaws.{then_from, plain_from-append}
use Rattle.lrc_exec.specs.Follows.{nodes_of_acts}
use Rattle.lrc_consistency_laws.proofs.Runs.{start_ready}
use Rattle.lrc_consistency_laws.proofs.Plainly.{facts, stepwise}
use Rattle.lrc_orders.specs.Meeting.{access_of, next_access}
use Rattle.lrc_orders.proofs.Meetings.{pair, racing}
use Rattle.lrc_orders.proofs.Reducing.{IsAccess, by_read, by_write}
use Rattle.lrc_explore_causes.specs.Causes.{AreCauses, IsCause, Keeps, beginning}
use Rattle.lrc_explore_causes.specs.Told.{IsEarliestRace, TellsRace}
use Rattle.lrc_explore_causes.proofs.Coming.{come, cause_closed}
use Rattle.lrc_explore_causes.proofs.Earliest.{at_the_end}
use Rattle.lrc_explore_causes.proofs.Keeping.{unique, none_later}
use Rattle.lrc_explore_causes.proofs.Leaving.{Leaves}

mapped : {A B P : Type 0} (f : A → B) (o : Option A) (y : B) → option_map f o ≡ Some y → ((x : A) → o ≡ Some x → f x ≡ y → P) → P
mapped f (Some x) y e go = go x refl (same_Some (f x) y e)
mapped f _ y e go = cc

-- the step of a node that accesses a word next is that access
access_made : (machine : Plain) (node word : ℕ) (b : Bool) (t : Thread) (n : Next) → thread_in machine node ≡ Some t → next_of t ≡ n
    → access_of n ≡ Some (word, b) → (d : Deed) (after : Plain) → plain_step machine node ≡ Some (d, after) → IsAccess d word b
access_made machine node word b t (reads w more) at is e d after step =
    let parts = some_pair_parts w word false b e in
    let v = slice_index machine.memory w in
    let done : plain_step machine node ≡ Some (Read w v, with_thread machine node (Some (more v))) =
    ap (option_and_then (λ x. deed_done machine node (next_of x))) at ∙ ap (deed_done machine node) is in
    let same = some_pair_parts (Read w v) d (with_thread machine node (Some (more v))) after (sym done ∙ step) in
    subst (λ x. IsAccess x word b) same.0
    (subst (λ x. IsAccess (Read w v) x b) parts.0 (subst (λ x. IsAccess (Read w v) w x) parts.1 by_read))
access_made machine node word b t (writes w v more) at is e d after step =
    let parts = some_pair_parts w word true b e in
    let then_ : Plain = record (with_thread machine node (Some more)) { memory = slice_set machine.memory w v } in
    let done : plain_step machine node ≡ Some (Write w v, then_) =
    ap (option_and_then (λ x. deed_done machine node (next_of x))) at ∙ ap (deed_done machine node) is in
    let same = some_pair_parts (Write w v) d then_ after (sym done ∙ step) in
    subst (λ x. IsAccess x word b) same.0
    (subst (λ x. IsAccess (Write w v) x b) parts.0 (subst (λ x. IsAccess (Write w v) w x) parts.1 by_write))
access_made machine node word b t _ at is e d after step = cc

is_access : (machine : Plain) (node word : ℕ) (b : Bool) → next_access machine node ≡ Some (word, b) → (d : Deed) (after : Plain)
    → plain_step machine node ≡ Some (d, after) → IsAccess d word b
is_access machine node word b e d after step =
    option_and_then_some (λ t. access_of (next_of t)) (thread_in machine node) (word, b) e
    (λ t at is. access_made machine node word b t (next_of t) at refl is d after step)

-- behind acts two nodes make an act each
record TwoMore (machine : Plain) (p q : ℕ) (told run : List Act) : Type 0 where
  one : Deed
  other : Deed
  mid : Plain
  first : plain_step machine p ≡ Some (one, mid)
  is : run ≡ told ++ act_of p one ∷ act_of q other ∷ []

two_more : (start machine : Plain) (order : List ℕ) (p q : ℕ) (told run : List Act) → plain_from start order ≡ Some (told, machine)
    → option_map (λ (r : List Act × Plain). r.0) (plain_from start (order ++ p ∷ q ∷ [])) ≡ Some run → TwoMore machine p q told run
two_more start machine order p q told run led e =
    mapped (λ (r : List Act × Plain). r.0) (plain_from start (order ++ p ∷ q ∷ [])) run e (λ all made is.
    let split = sym (plain_from-append start order (p ∷ q ∷ []) ∙ ap (λ r. then_from r (p ∷ q ∷ [])) led) ∙ made in
    mapped (λ (more : List Act × Plain). (told ++ more.0, more.1)) (plain_from machine (p ∷ q ∷ [])) all split (λ more steps joined.
    let one = stepwise machine p (q ∷ []) more.0 more.1 steps in
    let other = stepwise one.after q [] one.more more.1 one.rest in
    let last : other.more ≡ [] = sym (ap (λ (o : Option (List Act × Plain)). of_made o) other.rest) in
    record {
      one = one.deed;
      other = other.deed;
      mid = one.after;
      first = one.first;
      is = sym is ∙ ap (λ (r : List Act × Plain). r.0) (sym joined)
          ∙ ap (λ (l : List Act). told ++ l) (one.acts_are ∙ ap (λ (l : List Act). act_of p one.deed ∷ l)
          (other.acts_are ∙ ap (λ (l : List Act). act_of q other.deed ∷ l) last));
    }))
  where
    of_made : Option (List Act × Plain) → List Act
    of_made (Some r) = r.0
    of_made _ = []

-- what a run comes of, and what is told of it
pub record Down (prog : Program) (nodes : ℕ) (run before : List Act) (p q : ℕ) : Type 0 where
  pub told : List Act
  pub made : plain prog nodes (nodes_of_acts before ++ p ∷ q ∷ []) ≡ Some told
  pub tells : TellsRace prog nodes run told

module _ (prog : Program) (nodes : ℕ) (order : List ℕ) (run : List Act) (e : plain prog nodes order ≡ Some run) (i j : ℕ)
    (race : IsEarliestRace run i j) where
  abbrev start : Plain
  start = plain_start prog nodes

  no_later : (x : ℕ) → j ≤ x → IsCause run i j x → ⊥
  no_later x le (inl h) = let lt = forward h in let less = race.races.earlier in absurd (omega (arith, le, lt, less))
  no_later x le (inr h) = let lt = forward h in absurd (omega (arith, le, lt))

  pub down : (before : List Act) → AreCauses run i j before → (p q : ℕ) (d f : Deed) → Does run i p d → Does run j q f → Down prog nodes run before p q
  down before causes p q d f first second =
      let known = facts prog nodes order run e in
      let r = race.races in
      let p' = r.conflict.0 in
      let q' = r.conflict.1 in
      let word = r.conflict.2 in
      let c = r.conflict.3 in
      let Stays = IsCause run i j in
      let two = pair c c.writes in
      let alike : Leaves run Stays (cause_closed run i j) i p' (Some (word, two.b)) 0 start start = record {
        threads = λ n clean. refl;
        memory = λ w clean. refl;
        holders = λ l clean. refl;
        arrivals = λ n clean. refl;
        arrived = λ x n lt does stays. absurd (omega (arith, lt));
        waits = λ lt. absurd (omega (arith, lt));
        threads_long = refl;
        memory_long = refl;
        holders_long = refl;
        arrivals_long = refl;
      } in
      let both = come prog nodes run known.follows known.synchronized known.in_order i j race.earliest p' q' word two.b two.c r.earlier r.unordered two.one
      two.other run 0 start start [] (start_ready prog nodes run known.follows) alike beginning refl (omega arith) in
      let inside = Does-within second in
      let long : j + (length run - j) ≡ length run = omega (arith, inside) in
      let far = none_later run Stays both.keeps (length run - j) no_later in
      let same : both.told ≡ before = unique run Stays (subst (λ y. Keeps run Stays y both.told) long far) causes in
      let met = racing prog nodes both.machine (record { order = nodes_of_acts both.told; acts = both.told; led = both.led }) p' q' (record {
        apart = c.apart;
        word = word;
        first_writes = two.b;
        second_writes = two.c;
        first = both.first_next;
        second = both.second_next;
        writes = two.writes;
      }) in
      let more = two_more start both.machine (nodes_of_acts both.told) p' q' both.told met.run both.led met.is in
      let a = act_of p' more.one in
      let b = act_of q' more.other in
      let told = both.told ++ a ∷ b ∷ [] in
      let access = is_access both.machine p' word two.b both.first_next more.one more.mid more.first in
      let made : plain prog nodes (nodes_of_acts both.told ++ p' ∷ q' ∷ []) ≡ Some told = met.is ∙ ap Some more.is in
      let of_both : Down prog nodes run both.told p' q' = record {
        told = told;
        made = made;
        tells = record {
          first = i;
          second = j;
          race = race;
          before = both.told;
          causes = subst (λ l. AreCauses run i j l) (sym same) causes;
          ends = record {
            one = p';
            other = q';
            one_did = two.one.deed;
            other_did = two.other.deed;
            one_stood = two.one.does;
            other_stood = two.other.does;
            one_does = more.one;
            other_does = more.other;
            is = refl;
          };
          is = ap (λ ns. plain prog nodes ns) (map-append (λ (x : Act). x.node) both.told (a ∷ b ∷ [])) ∙ made;
          races = subst (λ l. Races l (length both.told) (length both.told + 1)) more.is met.races;
          earliest = at_the_end run i j r race.earliest p' word two.b two.one both.told both.keeps a b refl access;
        };
      } in
      subst (λ l. Down prog nodes run l p q) same
      (subst (λ n. Down prog nodes run both.told n q) (Accesses-node c.first first)
      (subst (λ n. Down prog nodes run both.told p' n) (Accesses-node c.second second) of_both))

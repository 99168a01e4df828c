-- What the thread at a place of flat code does next, and where an answer leads it.
use Rattle.std.proofs.Common.{◌≡◌, ℕ, zero, suc, ◌+◌, ◌-◌, ◌<◌, ◌≤◌, Bool, true, false, List, ◌∷◌, ◌++◌, length}
use Rattle.std.proofs.Common.{get_or, Option, Some, None, refl, sym, ap, ◌∙◌, subst, arith}
use Rattle.std.specs.Prelude.{slice_get, slice_set, unwrap_or, nat_lt, if◌then◌else◌}
use Rattle.std.proofs.lemmas.Bool.{ltb-true}
use Rattle.std.proofs.lemmas.Option.{same_Some, slice_get-get_or}
use Rattle.lrc_program.specs.declared.Expression.{Expression}
use Rattle.lrc_program.specs.declared.Statement.{Statement}
use Rattle.lrc_program.specs.declared.Statement.TheVariants.{Assign, Read, Write, Acquire, Release, Barrier, Print, If', While', If, While}
use Rattle.lrc_program.specs.declared.Statement.TheBlock.{shape-the_row-Statement-0, hidden-the_row-Statement-0}
use Rattle.lrc_trace.specs.declared.act.Cause.{Cause}
use Rattle.lrc_trace.specs.declared.act.Cause.TheVariants.{WordOutOfRange, LockOutOfRange, LockHeld, LockNotHeld}
use Rattle.lrc_exec.specs.declared.code.Instruction.{Instruction}
use Rattle.lrc_exec.specs.declared.spot.Flat.{Flat}
use Rattle.lrc_exec.specs.declared.spot.Spot.{Spot}
use Rattle.lrc_exec.specs.Meaning.{Thread, Next, or_trap, if_below, value_in, traps, block, holds, then_does}
use Rattle.lrc_exec.specs.Meaning.{then_keeps, then_holds, chosen, next_of_statement, first_act, next_of, ends}
use Rattle.lrc_exec.specs.Ask.{TakesAnswer, ask_of, done, answered}
use Rattle.lrc_exec.specs.Condition.{first_is_met, condition_holds, value_is_met}
use Rattle.lrc_exec.specs.Flat.{rest_at, where_it_holds, where_it_fails, IsSoundAt}
use Rattle.lrc_exec.specs.Laid.{IsStraight}
use Rattle.lrc_exec.specs.Places.{place_after, place_led_by, place_led_to}
use Rattle.lrc_exec.specs.Spots.{thread_at, IsFlat}
use Rattle.lrc_exec.specs.Wish.{Completes}
use Rattle.lrc_exec.proofs.Flat.{if_made, while_made, rest_at-end, rest_at-instruction}

-- a thread goes on where what it does next takes an answer
abbrev pub GoesOn : Next → Type 0
GoesOn next = TakesAnswer (ask_of next)

-- at place 0 the thread is at the end
pub next_of-end : (flat : Flat) (spot : Spot) → spot.place ≡ 0 → next_of (thread_at flat spot) ≡ ends
next_of-end flat spot at_end = ap (first_act (thread_at flat spot)) (ap (rest_at flat.code.now) at_end ∙ rest_at-end flat.code.now)

-- and has no condition to evaluate
pub condition_holds-end : (flat : Flat) (spot : Spot) → spot.place ≡ 0 → condition_holds (thread_at flat spot) ≡ false
condition_holds-end flat spot at_end = ap (first_is_met (thread_at flat spot)) (ap (rest_at flat.code.now) at_end ∙ rest_at-end flat.code.now)

-- where a thread goes on, there was a value
or_trap_done : (value : ℕ) (thread : Thread) (o : Option ℕ) (go : ℕ → Next) (after : ℕ → Thread)
    → ((v : ℕ) → GoesOn (go v) → done value thread (go v) ≡ after v) → GoesOn (or_trap o go) → done value thread (or_trap o go) ≡ after (unwrap_or o 0)
or_trap_done value thread None go after each goes = absurd goes
or_trap_done value thread (Some v) go after each goes = each v goes

-- where a thread goes on, the number that it goes on with is below the limit
passed : (test : Bool) (next : Next) (cause : Cause) → GoesOn (if test then next else traps cause) → test ≡ true
passed true next cause goes = refl
passed false next cause goes = absurd goes

below_limit : (o : Option ℕ) (limit number : ℕ) (cause : Cause) (next : ℕ → Next) → GoesOn (or_trap o (λ l. if_below l limit cause (next l)))
    → o ≡ Some number → number < limit
below_limit None limit number cause next goes is = absurd goes
below_limit (Some l) limit number cause next goes is =
    subst (λ k. k < limit) (same_Some l number is) (ltb-true l limit (passed (nat_lt l limit) (next l) cause goes))

-- where a thread goes on, a test passed that traps otherwise
then_done : (value : ℕ) (thread : Thread) (test : Bool) (next : Next) (cause : Cause) (after : Thread) → (GoesOn next → done value thread next ≡ after)
    → GoesOn (if test then next else traps cause) → done value thread (if test then next else traps cause) ≡ after
then_done value thread true next cause after each goes = each goes
then_done value thread false next cause after each goes = absurd goes

else_done : (value : ℕ) (thread : Thread) (test : Bool) (next : Next) (cause : Cause) (after : Thread) → (GoesOn next → done value thread next ≡ after)
    → GoesOn (if test then traps cause else next) → done value thread (if test then traps cause else next) ≡ after
else_done value thread true next cause after each goes = absurd goes
else_done value thread false next cause after each goes = each goes

-- the lock that a statement takes or gives back
abbrev pub lock_in : Statement → Option Expression
lock_in (Acquire e) = Some e
lock_in (Release e) = Some e
lock_in _ = None

-- where a thread goes on, that lock is one of the program's
is_lock : (thread : Thread) (rest : List Statement) (s : Statement) (e : Expression) (number : ℕ) → lock_in s ≡ Some e
    → value_in thread e ≡ Some number → GoesOn (next_of_statement thread s rest) → number < thread.setting.locks
is_lock thread rest s e number is value_is goes = by_kind s is goes
  where
    value_of-own : (own : Expression) → Some own ≡ Some e → value_in thread own ≡ Some number
    value_of-own own is = ap (value_in thread) (same_Some own e is) ∙ value_is

    by_kind : (s : Statement) → lock_in s ≡ Some e → GoesOn (next_of_statement thread s rest) → number < thread.setting.locks
    by_kind (Acquire x) is goes = below_limit (value_in thread x) thread.setting.locks number LockOutOfRange _ goes (value_of-own x is)
    by_kind (Release x) is goes = below_limit (value_in thread x) thread.setting.locks number LockOutOfRange _ goes (value_of-own x is)
    by_kind (Assign name x) is goes = cc
    by_kind (Read name x) is goes = cc
    by_kind (Write x value) is goes = cc
    by_kind Barrier is goes = cc
    by_kind (Print x) is goes = cc
    by_kind (If' x p a q b) is goes = cc
    by_kind (While' x p a) is goes = cc

module _ (value : ℕ) (thread : Thread) (rest : List Statement) where
  -- the thread once an assignment is done
  pub assign_done : (name : ℕ) (e : Expression) → GoesOn (next_of_statement thread (Assign name e) rest)
      → done value thread (next_of_statement thread (Assign name e) rest) ≡ then_keeps thread rest name (unwrap_or (value_in thread e) 0)
  assign_done name e = or_trap_done value thread (value_in thread e) _ (then_keeps thread rest name) (λ v g. refl)

  -- the thread once a shared read has got its value
  pub read_done : (name : ℕ) (e : Expression) → GoesOn (next_of_statement thread (Read name e) rest)
      → done value thread (next_of_statement thread (Read name e) rest) ≡ then_keeps thread rest name value
  read_done name e =
      or_trap_done value thread (value_in thread e) _ (λ v. then_keeps thread rest name value)
      (λ w. then_done value thread (nat_lt w thread.setting.words) _ WordOutOfRange _ (λ g. refl))

  -- the thread once it has got a lock
  pub acquire_done : (e : Expression) → GoesOn (next_of_statement thread (Acquire e) rest)
      → done value thread (next_of_statement thread (Acquire e) rest) ≡ then_holds thread rest (unwrap_or (value_in thread e) 0) true
  acquire_done e =
      or_trap_done value thread (value_in thread e) _ (λ l. then_holds thread rest l true)
      (λ l. then_done value thread (nat_lt l thread.setting.locks) _ LockOutOfRange _
      (else_done value thread (holds thread l) _ LockHeld _ (λ g. refl)))

  -- the thread once it has given a lock back
  pub release_done : (e : Expression) → GoesOn (next_of_statement thread (Release e) rest)
      → done value thread (next_of_statement thread (Release e) rest) ≡ then_holds thread rest (unwrap_or (value_in thread e) 0) false
  release_done e =
      or_trap_done value thread (value_in thread e) _ (λ l. then_holds thread rest l false)
      (λ l. then_done value thread (nat_lt l thread.setting.locks) _ LockOutOfRange _
      (then_done value thread (holds thread l) _ LockNotHeld _ (λ g. refl)))

  -- the thread once the condition of a choice was evaluated
  pub if_done : (e : Expression) (p : _) (a : _) (q : _) (b : _) → GoesOn (next_of_statement thread (If' e p a q b) rest)
      → done value thread (next_of_statement thread (If' e p a q b) rest) ≡ then_does thread (chosen (unwrap_or (value_in thread e) 0) (block a ++ rest) (block b ++ rest))
  if_done e p a q b =
      or_trap_done value thread (value_in thread e) _ (λ v. then_does thread (chosen v (block a ++ rest) (block b ++ rest))) (λ v g. refl)

  -- the thread once the condition of a loop was evaluated
  pub while_done : (e : Expression) (p : _) (a : _) → GoesOn (next_of_statement thread (While' e p a) rest)
      → done value thread (next_of_statement thread (While' e p a) rest) ≡ then_does thread (chosen (unwrap_or (value_in thread e) 0) (block a
      ++ While' e p a ∷ rest) rest)
  while_done e p a =
      or_trap_done value thread (value_in thread e) _ (λ v. then_does thread (chosen v (block a ++ While' e p a ∷ rest) rest)) (λ v g. refl)

  write_done : (w e : Expression) → GoesOn (next_of_statement thread (Write w e) rest) → done value thread (next_of_statement thread (Write w e) rest) ≡ then_does thread rest
  write_done w e =
      or_trap_done value thread (value_in thread w) _ (λ n. then_does thread rest)
      (λ n. or_trap_done value thread (value_in thread e) _ (λ v. then_does thread rest)
      (λ v. then_done value thread (nat_lt n thread.setting.words) _ WordOutOfRange _ (λ g. refl)))

  print_done : (e : Expression) → GoesOn (next_of_statement thread (Print e) rest) → done value thread (next_of_statement thread (Print e) rest) ≡ then_does thread rest
  print_done e = or_trap_done value thread (value_in thread e) _ (λ v. then_does thread rest) (λ v g. refl)

  -- the thread once any other statement is done
  pub other_done : (s : Statement) → thread.arrived ≡ false → ((n : _) (e : _) → s ≡ Assign n e → ⊥) → ((n : _) (e : _) → s ≡ Read n e → ⊥)
      → ((e : _) → s ≡ Acquire e → ⊥) → ((e : _) → s ≡ Release e → ⊥) → ((e : _) (a b : _) → s ≡ If e a b → ⊥) → ((e : _) (a : _) → s ≡ While e a → ⊥)
      → GoesOn (next_of_statement thread s rest) → done value thread (next_of_statement thread s rest) ≡ then_does thread rest
  other_done (Assign n e) stays not_assign not_read not_acquire not_release not_if not_while goes = absurd (not_assign n e refl)
  other_done (Read n e) stays not_assign not_read not_acquire not_release not_if not_while goes = absurd (not_read n e refl)
  other_done (Write w e) stays not_assign not_read not_acquire not_release not_if not_while goes = write_done w e goes
  other_done (Acquire e) stays not_assign not_read not_acquire not_release not_if not_while goes = absurd (not_acquire e refl)
  other_done (Release e) stays not_assign not_read not_acquire not_release not_if not_while goes = absurd (not_release e refl)
  other_done Barrier stays not_assign not_read not_acquire not_release not_if not_while goes = ap (λ b. record thread { rest = rest; arrived = b }) (sym stays)
  other_done (Print e) stays not_assign not_read not_acquire not_release not_if not_while goes = print_done e goes
  other_done (If' e p a q b) stays not_assign not_read not_acquire not_release not_if not_while goes = absurd (not_if e _ _ (if_made e p a q b))
  other_done (While' e p a) stays not_assign not_read not_acquire not_release not_if not_while goes = absurd (not_while e _ (while_made e p a))

-- where a condition of a value leads
chosen_met : (n : ℕ) (first second : ℕ) → (if value_is_met (Some n) then first else second) ≡ chosen n first second
chosen_met zero first second = refl
chosen_met (suc n) first second = refl

met_place : (o : Option ℕ) (n first second : ℕ) → o ≡ Some n → (if value_is_met o then first else second) ≡ chosen n first second
met_place o n first second is = ap (λ x. if value_is_met x then first else second) is ∙ chosen_met n first second

if_place : (thread : Thread) (i : Instruction) (e : Expression) (a b : _) (n : ℕ) → value_in thread e ≡ Some n
    → place_led_to thread i (If e a b) ≡ chosen n i.then i.otherwise
if_place thread i e a b n is = met_place (value_in thread e) n i.then i.otherwise is

while_place : (thread : Thread) (i : Instruction) (e : Expression) (a : _) (n : ℕ) → value_in thread e ≡ Some n
    → place_led_to thread i (While e a) ≡ chosen n i.then i.otherwise
while_place thread i e a n is = met_place (value_in thread e) n i.then i.otherwise is

-- a statement that is no condition leads to the next place
straight_place : (thread : Thread) (i : Instruction) (s : Statement) → IsStraight s → place_led_to thread i s ≡ i.next
straight_place thread i (Assign n e) straight = refl
straight_place thread i (Read n e) straight = refl
straight_place thread i (Write w e) straight = refl
straight_place thread i (Acquire e) straight = refl
straight_place thread i (Release e) straight = refl
straight_place thread i Barrier straight = refl
straight_place thread i (Print e) straight = refl
straight_place thread i (If' e p a q b) straight = absurd straight
straight_place thread i (While' e p a) straight = absurd straight

is_straight : (s : Statement) → ((e : _) (a b : _) → s ≡ If e a b → ⊥) → ((e : _) (a : _) → s ≡ While e a → ⊥) → IsStraight s
is_straight (Assign n e) not_if not_while = tt
is_straight (Read n e) not_if not_while = tt
is_straight (Write w e) not_if not_while = tt
is_straight (Acquire e) not_if not_while = tt
is_straight (Release e) not_if not_while = tt
is_straight Barrier not_if not_while = tt
is_straight (Print e) not_if not_while = tt
is_straight (If' e p a q b) not_if not_while = not_if e _ _ (if_made e p a q b)
is_straight (While' e p a) not_if not_while = not_while e _ (while_made e p a)

-- a node that stands at the k-th instruction
module _ (flat : Flat) (spot : Spot) (d : Instruction) (k : ℕ) (sound : IsFlat flat) (within : spot.place ≤ length flat.code.now) (from : 1 ≤ spot.place)
    (here : k ≡ spot.place - 1) where
  -- the thread, the instruction, and the statements behind it
  abbrev thread : Thread
  thread = thread_at flat spot

  abbrev own : Instruction
  own = get_or flat.code.now k d

  abbrev behind : List Statement
  behind = rest_at flat.code.now own.next

  at_index : slice_get flat.code.now k ≡ Some own
  at_index = slice_get-get_or flat.code.now k d (omega (arith, within))

  pub sound_at : IsSoundAt flat.code.now k own
  sound_at = sound.sound k own (omega arith) at_index

  -- what the thread has still to do begins with the instruction's statement
  pub rest-at : thread.rest ≡ own.statement.now ∷ behind
  rest-at =
      let place_is : spot.place ≡ k + 1 = omega arith in
      ap (rest_at flat.code.now) place_is ∙ rest_at-instruction flat.code.now k own at_index sound_at.next_below

  -- so its next act is that of this statement
  pub next_of-at : next_of thread ≡ next_of_statement thread own.statement.now behind
  next_of-at = ap (first_act thread) rest-at

  -- the number that completes what it does is that of this statement
  pub completes-at : (number : ℕ) (s : Statement) → own.statement.now ≡ s → Completes thread thread.rest number → Completes thread (s ∷ behind) number
  completes-at number s is_s completes =
      subst (λ x. Completes thread (x ∷ behind) number) is_s (subst (λ l. Completes thread l number) rest-at completes)

  -- and its condition that of this statement
  pub condition_holds-at : condition_holds thread ≡ first_is_met thread (own.statement.now ∷ behind)
  condition_holds-at = ap (first_is_met thread) rest-at

  -- where the answer leads
  answered-at : (value : ℕ) (s : Statement) (after : Thread) → own.statement.now ≡ s → GoesOn (next_of thread)
      → (GoesOn (next_of_statement thread s behind) → done value thread (next_of_statement thread s behind) ≡ after) → answered value thread ≡ after
  answered-at value s after is_s goes leads =
      let act_is : next_of thread ≡ next_of_statement thread s behind = next_of-at ∙ ap (λ x. next_of_statement thread x behind) is_s in
      ap (done value thread) act_is ∙ leads (subst GoesOn act_is goes)

  -- where the node is after the instruction
  pub next_within : own.next ≤ length flat.code.now
  next_within = omega (arith, sound_at.next_below, within)

  pub chosen_within : (v : ℕ) → chosen v own.then own.otherwise ≤ length flat.code.now
  chosen_within zero = sound_at.otherwise_within
  chosen_within (suc v) = sound_at.then_within

  -- the place to which the instruction's statement leads
  placed-at : (s : Statement) → own.statement.now ≡ s → place_after thread flat.code.now spot.place ≡ place_led_to thread own s
  placed-at s is_s =
      let place_is : spot.place ≡ suc k = omega arith in
      ap (place_after thread flat.code.now) place_is ∙ ap (place_led_by thread) at_index ∙ ap (place_led_to thread own) is_s

  pub straight_placed : (s : Statement) → own.statement.now ≡ s → IsStraight s → own.next ≡ place_after thread flat.code.now spot.place
  straight_placed s is_s straight = sym (placed-at s is_s ∙ straight_place thread own s straight)

  pub other_placed : ((e : _) (a b : _) → own.statement.now ≡ If e a b → ⊥) → ((e : _) (a : _) → own.statement.now ≡ While e a → ⊥)
      → own.next ≡ place_after thread flat.code.now spot.place
  other_placed not_if not_while = straight_placed own.statement.now refl (is_straight own.statement.now not_if not_while)

  pub if_placed : (number place : ℕ) (e : Expression) (a b : _) → own.statement.now ≡ If e a b → Completes thread thread.rest number
      → place ≡ chosen number own.then own.otherwise → place ≡ place_after thread flat.code.now spot.place
  if_placed number place e a b is_s completes place_is =
      place_is ∙ sym (placed-at (If e a b) is_s ∙ if_place thread own e a b number (completes-at number (If e a b) is_s completes))

  pub while_placed : (number place : ℕ) (e : Expression) (a : _) → own.statement.now ≡ While e a → Completes thread thread.rest number
      → place ≡ chosen number own.then own.otherwise → place ≡ place_after thread flat.code.now spot.place
  while_placed number place e a is_s completes place_is =
      place_is ∙ sym (placed-at (While e a) is_s ∙ while_place thread own e a number (completes-at number (While e a) is_s completes))

  -- the lock of the instruction's statement is among the 64 that a node knows
  pub lock_there : (s : Statement) (e : Expression) (number : ℕ) → own.statement.now ≡ s → lock_in s ≡ Some e → value_in thread e ≡ Some number
      → GoesOn (next_of thread) → number < 64
  lock_there s e number is_s is value_is goes =
      let goes_at : GoesOn (next_of_statement thread s behind) = subst GoesOn (next_of-at ∙ ap (λ x. next_of_statement thread x behind) is_s) goes in
      let below : number < flat.locks = is_lock thread behind s e number is value_is goes_at in
      omega (arith, below, sound.few_locks)

  number_of : (e : Expression) (number : ℕ) → value_in thread e ≡ Some number → number ≡ unwrap_or (value_in thread e) 0
  number_of e number is = sym (ap (λ o. unwrap_or o 0) is)

  -- the thread once each statement is answered
  pub assign_answered : (value name number : ℕ) (e : Expression) (privates : List ℕ) → own.statement.now ≡ Assign name e
      → Completes thread thread.rest number → privates ≡ slice_set spot.privates name number → GoesOn (next_of thread)
      → thread_at flat (record spot { place = own.next; privates = privates }) ≡ answered value thread
  assign_answered value name number e privates is_s completes privates_is goes =
      ap (λ p. thread_at flat (record spot { place = own.next; privates = p })) privates_is
      ∙ ap (then_keeps thread behind name) (number_of e number (completes-at number (Assign name e) is_s completes))
      ∙ sym (answered-at value (Assign name e) _ is_s goes (assign_done value thread behind name e))

  pub read_answered : (value name : ℕ) (e : Expression) (privates : List ℕ) → own.statement.now ≡ Read name e
      → privates ≡ slice_set spot.privates name value → GoesOn (next_of thread)
      → thread_at flat (record spot { place = own.next; privates = privates }) ≡ answered value thread
  read_answered value name e privates is_s privates_is goes =
      ap (λ p. thread_at flat (record spot { place = own.next; privates = p })) privates_is
      ∙ sym (answered-at value (Read name e) _ is_s goes (read_done value thread behind name e))

  pub acquire_answered : (value number : ℕ) (e : Expression) (held : List Bool) → own.statement.now ≡ Acquire e
      → Completes thread thread.rest number → held ≡ slice_set spot.held number true → GoesOn (next_of thread)
      → thread_at flat (record spot { place = own.next; held = held }) ≡ answered value thread
  acquire_answered value number e held is_s completes held_is goes =
      ap (λ h. thread_at flat (record spot { place = own.next; held = h })) held_is
      ∙ ap (λ n. then_holds thread behind n true) (number_of e number (completes-at number (Acquire e) is_s completes))
      ∙ sym (answered-at value (Acquire e) _ is_s goes (acquire_done value thread behind e))

  pub release_answered : (value number : ℕ) (e : Expression) (held : List Bool) → own.statement.now ≡ Release e
      → Completes thread thread.rest number → held ≡ slice_set spot.held number false → GoesOn (next_of thread)
      → thread_at flat (record spot { place = own.next; held = held }) ≡ answered value thread
  release_answered value number e held is_s completes held_is goes =
      ap (λ h. thread_at flat (record spot { place = own.next; held = h })) held_is
      ∙ ap (λ n. then_holds thread behind n false) (number_of e number (completes-at number (Release e) is_s completes))
      ∙ sym (answered-at value (Release e) _ is_s goes (release_done value thread behind e))

  pub other_answered : (value : ℕ) → ((n : _) (e : _) → own.statement.now ≡ Assign n e → ⊥) → ((n : _) (e : _) → own.statement.now ≡ Read n e → ⊥)
      → ((e : _) → own.statement.now ≡ Acquire e → ⊥) → ((e : _) → own.statement.now ≡ Release e → ⊥)
      → ((e : _) (a b : _) → own.statement.now ≡ If e a b → ⊥) → ((e : _) (a : _) → own.statement.now ≡ While e a → ⊥)
      → GoesOn (next_of thread) → thread_at flat (record spot { place = own.next }) ≡ answered value thread
  other_answered value not_assign not_read not_acquire not_release not_if not_while goes =
      sym (answered-at value own.statement.now _ refl goes
      (other_done value thread behind own.statement.now refl not_assign not_read not_acquire not_release not_if not_while))

  -- where a condition of this value leads
  rest_at-chosen : (v : ℕ) (s : Statement) → own.statement.now ≡ s
      → rest_at flat.code.now (chosen v own.then own.otherwise) ≡ chosen v (where_it_holds s behind) (where_it_fails s behind)
  rest_at-chosen zero s is_s = sound_at.otherwise_leads ∙ ap (λ x. where_it_fails x behind) is_s
  rest_at-chosen (suc v) s is_s = sound_at.then_leads ∙ ap (λ x. where_it_holds x behind) is_s

  pub if_answered : (value number place : ℕ) (e : Expression) (a b : _) → own.statement.now ≡ If e a b → Completes thread thread.rest number
      → place ≡ chosen number own.then own.otherwise → GoesOn (next_of thread) → thread_at flat (record spot { place = place }) ≡ answered value thread
  if_answered value number place e a b is_s completes place_is goes =
      let leads = λ (n : ℕ). chosen n (where_it_holds (If e a b) behind) (where_it_fails (If e a b) behind) in
      ap (then_does thread) (ap (rest_at flat.code.now) place_is ∙ rest_at-chosen number (If e a b) is_s
      ∙ ap leads (number_of e number (completes-at number (If e a b) is_s completes)))
      ∙ sym (answered-at value (If e a b) _ is_s goes
      (if_done value thread behind e (shape-the_row-Statement-0 a) (hidden-the_row-Statement-0 a) (shape-the_row-Statement-0 b)
      (hidden-the_row-Statement-0 b)))

  pub while_answered : (value number place : ℕ) (e : Expression) (a : _) → own.statement.now ≡ While e a → Completes thread thread.rest number
      → place ≡ chosen number own.then own.otherwise → GoesOn (next_of thread) → thread_at flat (record spot { place = place }) ≡ answered value thread
  while_answered value number place e a is_s completes place_is goes =
      let leads = λ (n : ℕ). chosen n (where_it_holds (While e a) behind) (where_it_fails (While e a) behind) in
      ap (then_does thread) (ap (rest_at flat.code.now) place_is ∙ rest_at-chosen number (While e a) is_s
      ∙ ap leads (number_of e number (completes-at number (While e a) is_s completes)))
      ∙ sym (answered-at value (While e a) _ is_s goes (while_done value thread behind e (shape-the_row-Statement-0 a) (hidden-the_row-Statement-0 a)))

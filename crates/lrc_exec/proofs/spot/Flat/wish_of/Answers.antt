-- A statement asks for what its values give, and traps where one of them is missing or out of range.
use Rattle.std.proofs.Common.{◌≡◌, ◌∙◌, ℕ, Bool, true, false, List, ◌∷◌, Option, Some, None, Result, Ok, Err, Vec, Global}
use Rattle.std.proofs.Common.{◌⊎◌, inl, inr, refl, sym, ap, subst}
use Rattle.std.specs.Prelude.{if◌then◌else◌, nat_lt, ok_or, IsErrAnd}
use Rattle.std.proofs.lemmas.Result.{IfOk-from_err}
use Rattle.lrc_program.specs.declared.Expression.{Expression}
use Rattle.lrc_program.specs.declared.Statement.{Statement}
use Rattle.lrc_program.specs.declared.Statement.TheVariants.{If, While}
use Rattle.lrc_trace.specs.declared.act.Cause.{Cause}
use Rattle.lrc_trace.specs.declared.act.Cause.TheVariants.{DivisionByZero, WordOutOfRange, LockOutOfRange, LockHeld, LockNotHeld}
use Rattle.lrc_exec.specs.declared.machine.Ask.{Ask}
use Rattle.lrc_exec.specs.declared.machine.Ask.TheVariants.{Quiet, Read, Write, Acquire, Release, Trap}
use Rattle.lrc_exec.specs.declared.spot.Wish.{Wish}
use Rattle.lrc_exec.specs.Ask.{ask_of}
use Rattle.lrc_exec.specs.Meaning.{Thread, Next, traps, or_trap, value_in, holds, next_of_statement}
use Rattle.lrc_exec.specs.Spots.{thread_at}
use Rattle.lrc_exec.specs.Wish.{Completes, asked_or_trap}
use Rattle.lrc_exec.proofs.spot.Flat.wish_of.Goals as goal

-- the value that there is, where a thread goes on, and the trap where there is none
value_is : (o : Option ℕ) (n : ℕ) → Ok n ≡ ok_or o DivisionByZero → o ≡ Some n
value_is None n e = cc
value_is (Some v) n e = cc

value_goes : (o : Option ℕ) (n : ℕ) (go : ℕ → Next) → Ok n ≡ ok_or o DivisionByZero → or_trap o go ≡ go n
value_goes o n go e = ap (λ x. or_trap x go) (value_is o n e)

value_fails : (o : Option ℕ) (cause : Cause) (go : ℕ → Next) → Err cause ≡ ok_or o DivisionByZero → ask_of (or_trap o go) ≡ Trap cause
value_fails None cause go e = ap Trap cc
value_fails (Some v) cause go e = cc

-- the same of a number that must be below a limit
number_is : (test : Bool) (n m : ℕ) (out : Cause) → Ok m ≡ (if test then Ok n else Err out) → n ≡ m
number_is true n m out e = cc
number_is false n m out e = cc

number_goes : (test : Bool) (n m : ℕ) (out : Cause) (next : Next) → Ok m ≡ (if test then Ok n else Err out) → (if test then next else traps out) ≡ next
number_goes true n m out next e = refl
number_goes false n m out next e = cc

number_fails : (test : Bool) (n : ℕ) (out cause : Cause) (next : Next) → Err cause ≡ (if test then Ok n else Err out)
    → ask_of (if test then next else traps out) ≡ Trap cause
number_fails true n out cause next e = cc
number_fails false n out cause next e = ap Trap cc

-- and of a test
then_goes : (test : Bool) (x y : Next) → test ≡ true → (if test then x else y) ≡ x
then_goes test x y e = ap (λ b. if b then x else y) e

else_goes : (test : Bool) (x y : Next) → test ≡ false → (if test then x else y) ≡ y
else_goes test x y e = ap (λ b. if b then x else y) e

-- a statement with this condition
abbrev Chooses : Statement → Expression → Type 0
Chooses s e = ((a : Vec Statement Global) × (b : Vec Statement Global) × (s ≡ If e a b)) ⊎ ((a : Vec Statement Global) × (s ≡ While e a))

module _ (thread : Thread) where
  module _ (s own : Statement) (is : s ≡ own) where
    -- what a statement of this kind asks for
    asks : (ask : Ask) → ((rest : List Statement) → ask_of (next_of_statement thread own rest) ≡ ask) → (rest : List Statement)
        → ask_of (next_of_statement thread s rest) ≡ ask
    asks ask by_kind rest = ap (λ x. ask_of (next_of_statement thread x rest)) is ∙ by_kind rest

    -- and what completes it
    completes : (number : ℕ) → ((rest : List Statement) → Completes thread (own ∷ rest) number) → (rest : List Statement)
        → Completes thread (s ∷ rest) number
    completes number by_kind rest = subst (λ x. Completes thread (x ∷ rest) number) (sym is) (by_kind rest)

  -- a fault that is handed on is a trap
  handed_on : (s : Statement) (r : Result Wish Cause) (cause : Cause) → IsErrAnd r (λ e. e ≡ cause)
      → ((rest : List Statement) → ask_of (next_of_statement thread s rest) ≡ Trap cause) → (rest : List Statement)
      → ask_of (next_of_statement thread s rest) ≡ asked_or_trap r
  handed_on s (Ok wish) cause fails trap rest = absurd fails
  handed_on s (Err e) cause fails trap rest = trap rest ∙ ap Trap (sym fails)

  -- a condition is evaluated
  choice_fails : (s : Statement) (e : Expression) (cause : Cause) → Chooses s e → Err cause ≡ ok_or (value_in thread e) DivisionByZero
      → (rest : List Statement) → ask_of (next_of_statement thread s rest) ≡ Trap cause
  choice_fails s e cause (inl kind) fails = asks s _ kind.2 (Trap cause) (λ rest. value_fails (value_in thread e) cause _ fails)
  choice_fails s e cause (inr kind) fails = asks s _ kind.1 (Trap cause) (λ rest. value_fails (value_in thread e) cause _ fails)

  choice_asks : (s : Statement) (e : Expression) (number : ℕ) → Chooses s e → Ok number ≡ ok_or (value_in thread e) DivisionByZero
      → (rest : List Statement) → ask_of (next_of_statement thread s rest) ≡ Quiet
  choice_asks s e number (inl kind) is = asks s _ kind.2 Quiet (λ rest. ap ask_of (value_goes (value_in thread e) number _ is))
  choice_asks s e number (inr kind) is = asks s _ kind.1 Quiet (λ rest. ap ask_of (value_goes (value_in thread e) number _ is))

  choice_completes : (s : Statement) (e : Expression) (number : ℕ) → Chooses s e → Ok number ≡ ok_or (value_in thread e) DivisionByZero
      → (rest : List Statement) → Completes thread (s ∷ rest) number
  choice_completes s e number (inl kind) is = completes s _ kind.2 number (λ rest. value_is (value_in thread e) number is)
  choice_completes s e number (inr kind) is = completes s _ kind.1 number (λ rest. value_is (value_in thread e) number is)

pub returns-in_err-number-in-Assign : goal.returns-in_err-number-in-Assign
returns-in_err-number-in-Assign c =
    record {
      asked =
          handed_on (thread_at c.args.self.now c.args.spot.now) c.args.statement.now
          c.from_residual.result c.in_err-number-in-Assign.field-0.0 c.from_residual.ensures.1
          (asks (thread_at c.args.self.now c.args.spot.now) c.args.statement.now _ c.in-Assign.is (Trap c.in_err-number-in-Assign.field-0.0)
          (λ rest. value_fails (value_in (thread_at c.args.self.now c.args.spot.now) c.in-Assign.value) _ _ c.in_err-number-in-Assign.ensures));
      number = IfOk-from_err c.from_residual.result _ c.from_residual.ensures.0;
    }

pub returns-in_err-word-in-Read : goal.returns-in_err-word-in-Read
returns-in_err-word-in-Read c =
    record {
      asked =
          handed_on (thread_at c.args.self.now c.args.spot.now) c.args.statement.now
          c.from_residual-in_err-word-in-Read.result c.in_err-word-in-Read.field-0.0 c.from_residual-in_err-word-in-Read.ensures.1
          (asks (thread_at c.args.self.now c.args.spot.now) c.args.statement.now _ c.in-Read.is (Trap c.in_err-word-in-Read.field-0.0)
          (λ rest. value_fails (value_in (thread_at c.args.self.now c.args.spot.now) c.in-Read.word) _ _ c.in_err-word-in-Read.ensures));
      number = IfOk-from_err c.from_residual-in_err-word-in-Read.result _ c.from_residual-in_err-word-in-Read.ensures.0;
    }

pub returns-in_err-word-in-Read-2 : goal.returns-in_err-word-in-Read-2
returns-in_err-word-in-Read-2 c =
    record {
      asked =
          handed_on (thread_at c.args.self.now c.args.spot.now) c.args.statement.now
          c.from_residual-in_err-word-in-Read-2.result c.in_err-word-in-Read-2.field-0.0 c.from_residual-in_err-word-in-Read-2.ensures.1
          (asks (thread_at c.args.self.now c.args.spot.now) c.args.statement.now _ c.in-Read.is (Trap c.in_err-word-in-Read-2.field-0.0)
          (λ rest. ap ask_of (value_goes (value_in (thread_at c.args.self.now c.args.spot.now) c.in-Read.word) c.in_ok-word-in-Read.word _ c.in_ok-word-in-Read.ensures)
          ∙ number_fails (nat_lt c.in_ok-word-in-Read.word c.args.self.now.words) _ WordOutOfRange _ _ c.in_err-word-in-Read-2.ensures));
      number = IfOk-from_err c.from_residual-in_err-word-in-Read-2.result _ c.from_residual-in_err-word-in-Read-2.ensures.0;
    }

pub returns-in_err-word-in-Write : goal.returns-in_err-word-in-Write
returns-in_err-word-in-Write c =
    record {
      asked =
          handed_on (thread_at c.args.self.now c.args.spot.now) c.args.statement.now
          c.from_residual-in_err-word-in-Write.result c.in_err-word-in-Write.field-0.0 c.from_residual-in_err-word-in-Write.ensures.1
          (asks (thread_at c.args.self.now c.args.spot.now) c.args.statement.now _ c.in-Write.is (Trap c.in_err-word-in-Write.field-0.0)
          (λ rest. value_fails (value_in (thread_at c.args.self.now c.args.spot.now) c.in-Write.word) _ _ c.in_err-word-in-Write.ensures));
      number = IfOk-from_err c.from_residual-in_err-word-in-Write.result _ c.from_residual-in_err-word-in-Write.ensures.0;
    }

pub returns-in_err-value-in-Write : goal.returns-in_err-value-in-Write
returns-in_err-value-in-Write c =
    record {
      asked =
          handed_on (thread_at c.args.self.now c.args.spot.now) c.args.statement.now
          c.from_residual-in_err-value-in-Write.result c.in_err-value-in-Write.field-0.0 c.from_residual-in_err-value-in-Write.ensures.1
          (asks (thread_at c.args.self.now c.args.spot.now) c.args.statement.now _ c.in-Write.is (Trap c.in_err-value-in-Write.field-0.0)
          (λ rest. ap ask_of (value_goes (value_in (thread_at c.args.self.now c.args.spot.now) c.in-Write.word) c.in_ok-word-in-Write.word _ c.in_ok-word-in-Write.ensures)
          ∙ value_fails (value_in (thread_at c.args.self.now c.args.spot.now) c.in-Write.value) _ _ c.in_err-value-in-Write.ensures));
      number = IfOk-from_err c.from_residual-in_err-value-in-Write.result _ c.from_residual-in_err-value-in-Write.ensures.0;
    }

pub returns-in_err-word-in-Write-2 : goal.returns-in_err-word-in-Write-2
returns-in_err-word-in-Write-2 c =
    record {
      asked =
          handed_on (thread_at c.args.self.now c.args.spot.now) c.args.statement.now
          c.from_residual-in_err-word-in-Write-2.result c.in_err-word-in-Write-2.field-0.0 c.from_residual-in_err-word-in-Write-2.ensures.1
          (asks (thread_at c.args.self.now c.args.spot.now) c.args.statement.now _ c.in-Write.is (Trap c.in_err-word-in-Write-2.field-0.0)
          (λ rest. ap ask_of (value_goes (value_in (thread_at c.args.self.now c.args.spot.now) c.in-Write.word) c.in_ok-word-in-Write.word _ c.in_ok-word-in-Write.ensures
          ∙ value_goes (value_in (thread_at c.args.self.now c.args.spot.now) c.in-Write.value) c.in_ok-value-in-Write.value _ c.in_ok-value-in-Write.ensures)
          ∙ number_fails (nat_lt c.in_ok-word-in-Write.word c.args.self.now.words) _ WordOutOfRange _ _ c.in_err-word-in-Write-2.ensures));
      number = IfOk-from_err c.from_residual-in_err-word-in-Write-2.result _ c.from_residual-in_err-word-in-Write-2.ensures.0;
    }

pub returns-in_err-number-in-Acquire : goal.returns-in_err-number-in-Acquire
returns-in_err-number-in-Acquire c =
    record {
      asked =
          handed_on (thread_at c.args.self.now c.args.spot.now) c.args.statement.now
          c.from_residual-in_err-number-in-Acquire.result c.in_err-number-in-Acquire.field-0.0 c.from_residual-in_err-number-in-Acquire.ensures.1
          (asks (thread_at c.args.self.now c.args.spot.now) c.args.statement.now _ c.in-Acquire.is (Trap c.in_err-number-in-Acquire.field-0.0)
          (λ rest. value_fails (value_in (thread_at c.args.self.now c.args.spot.now) c.in-Acquire.lock) _ _ c.in_err-number-in-Acquire.ensures));
      number = IfOk-from_err c.from_residual-in_err-number-in-Acquire.result _ c.from_residual-in_err-number-in-Acquire.ensures.0;
    }

pub returns-in_err-lock-in-Acquire : goal.returns-in_err-lock-in-Acquire
returns-in_err-lock-in-Acquire c =
    record {
      asked =
          handed_on (thread_at c.args.self.now c.args.spot.now) c.args.statement.now
          c.from_residual-in_err-lock-in-Acquire.result c.in_err-lock-in-Acquire.field-0.0 c.from_residual-in_err-lock-in-Acquire.ensures.1
          (asks (thread_at c.args.self.now c.args.spot.now) c.args.statement.now _ c.in-Acquire.is (Trap c.in_err-lock-in-Acquire.field-0.0)
          (λ rest. ap ask_of (value_goes (value_in (thread_at c.args.self.now c.args.spot.now) c.in-Acquire.lock) _ _ c.in_ok-number-in-Acquire.ensures)
          ∙ number_fails (nat_lt c.in_ok-number-in-Acquire.number c.args.self.now.locks) _ LockOutOfRange _ _
          c.in_err-lock-in-Acquire.ensures));
      number = IfOk-from_err c.from_residual-in_err-lock-in-Acquire.result _ c.from_residual-in_err-lock-in-Acquire.ensures.0;
    }

pub returns-in_err-number-in-Release : goal.returns-in_err-number-in-Release
returns-in_err-number-in-Release c =
    record {
      asked =
          handed_on (thread_at c.args.self.now c.args.spot.now) c.args.statement.now
          c.from_residual-in_err-number-in-Release.result c.in_err-number-in-Release.field-0.0 c.from_residual-in_err-number-in-Release.ensures.1
          (asks (thread_at c.args.self.now c.args.spot.now) c.args.statement.now _ c.in-Release.is (Trap c.in_err-number-in-Release.field-0.0)
          (λ rest. value_fails (value_in (thread_at c.args.self.now c.args.spot.now) c.in-Release.lock) _ _ c.in_err-number-in-Release.ensures));
      number = IfOk-from_err c.from_residual-in_err-number-in-Release.result _ c.from_residual-in_err-number-in-Release.ensures.0;
    }

pub returns-in_err-lock-in-Release : goal.returns-in_err-lock-in-Release
returns-in_err-lock-in-Release c =
    record {
      asked =
          handed_on (thread_at c.args.self.now c.args.spot.now) c.args.statement.now
          c.from_residual-in_err-lock-in-Release.result c.in_err-lock-in-Release.field-0.0 c.from_residual-in_err-lock-in-Release.ensures.1
          (asks (thread_at c.args.self.now c.args.spot.now) c.args.statement.now _ c.in-Release.is (Trap c.in_err-lock-in-Release.field-0.0)
          (λ rest. ap ask_of (value_goes (value_in (thread_at c.args.self.now c.args.spot.now) c.in-Release.lock) _ _ c.in_ok-number-in-Release.ensures)
          ∙ number_fails (nat_lt c.in_ok-number-in-Release.number c.args.self.now.locks) _ LockOutOfRange _ _
          c.in_err-lock-in-Release.ensures));
      number = IfOk-from_err c.from_residual-in_err-lock-in-Release.result _ c.from_residual-in_err-lock-in-Release.ensures.0;
    }

pub returns-in_err-value-in-Print : goal.returns-in_err-value-in-Print
returns-in_err-value-in-Print c =
    record {
      asked =
          handed_on (thread_at c.args.self.now c.args.spot.now) c.args.statement.now
          c.from_residual-in_err-value-in-Print.result c.in_err-value-in-Print.field-0.0 c.from_residual-in_err-value-in-Print.ensures.1
          (asks (thread_at c.args.self.now c.args.spot.now) c.args.statement.now _ c.in-Print.is (Trap c.in_err-value-in-Print.field-0.0)
          (λ rest. value_fails (value_in (thread_at c.args.self.now c.args.spot.now) c.in-Print.value) _ _ c.in_err-value-in-Print.ensures));
      number = IfOk-from_err c.from_residual-in_err-value-in-Print.result _ c.from_residual-in_err-value-in-Print.ensures.0;
    }

pub returns-in_err-number-in-If : goal.returns-in_err-number-in-If
returns-in_err-number-in-If c =
    record {
      asked =
          handed_on (thread_at c.args.self.now c.args.spot.now) c.args.statement.now
          c.from_residual-in_err-number-in-If.result c.in_err-number-in-If.field-0.0 c.from_residual-in_err-number-in-If.ensures.1
          (choice_fails (thread_at c.args.self.now c.args.spot.now) c.args.statement.now c.in-If.condition _ c.in-If.is c.in_err-number-in-If.ensures);
      number = IfOk-from_err c.from_residual-in_err-number-in-If.result _ c.from_residual-in_err-number-in-If.ensures.0;
    }

pub returns-in_ok-number-in-Assign : goal.returns-in_ok-number-in-Assign
returns-in_ok-number-in-Assign c =
    let value = value_in (thread_at c.args.self.now c.args.spot.now) c.in-Assign.value in
    let number = c.in_ok-number-in-Assign.number in
    record {
      asked = asks (thread_at c.args.self.now c.args.spot.now) c.args.statement.now _ c.in-Assign.is Quiet
          (λ rest. ap ask_of (value_goes value number _ c.in_ok-number-in-Assign.ensures));
      number = completes (thread_at c.args.self.now c.args.spot.now) c.args.statement.now _ c.in-Assign.is number (λ rest. value_is value number c.in_ok-number-in-Assign.ensures);
    }

pub returns-in_ok-word-in-Read-2 : goal.returns-in_ok-word-in-Read-2
returns-in_ok-word-in-Read-2 c =
    let below = nat_lt c.in_ok-word-in-Read.word c.args.self.now.words in
    record {
      asked = asks (thread_at c.args.self.now c.args.spot.now) c.args.statement.now _ c.in-Read.is c.asking.result.ask
          (λ rest. ap ask_of (value_goes (value_in (thread_at c.args.self.now c.args.spot.now) c.in-Read.word) c.in_ok-word-in-Read.word _ c.in_ok-word-in-Read.ensures
          ∙ number_goes below _ _ WordOutOfRange _ c.in_ok-word-in-Read-2.ensures)
          ∙ ap Read (number_is below _ _ WordOutOfRange c.in_ok-word-in-Read-2.ensures) ∙ ap (λ (w : Wish). w.ask) (sym c.asking.ensures));
      number = completes (thread_at c.args.self.now c.args.spot.now) c.args.statement.now _ c.in-Read.is c.asking.result.number (λ rest. tt);
    }

pub returns-in_ok-word-in-Write-2 : goal.returns-in_ok-word-in-Write-2
returns-in_ok-word-in-Write-2 c =
    let below = nat_lt c.in_ok-word-in-Write.word c.args.self.now.words in
    let value = c.in_ok-value-in-Write.value in
    record {
      asked = asks (thread_at c.args.self.now c.args.spot.now) c.args.statement.now _ c.in-Write.is c.asking-in-Write.result.ask
          (λ rest. ap ask_of (value_goes (value_in (thread_at c.args.self.now c.args.spot.now) c.in-Write.word) c.in_ok-word-in-Write.word _ c.in_ok-word-in-Write.ensures
          ∙ value_goes (value_in (thread_at c.args.self.now c.args.spot.now) c.in-Write.value) c.in_ok-value-in-Write.value _ c.in_ok-value-in-Write.ensures
          ∙ number_goes below _ _ WordOutOfRange _ c.in_ok-word-in-Write-2.ensures)
          ∙ ap (λ w. Write w value) (number_is below _ _ WordOutOfRange c.in_ok-word-in-Write-2.ensures)
          ∙ ap (λ (w : Wish). w.ask) (sym c.asking-in-Write.ensures));
      number = completes (thread_at c.args.self.now c.args.spot.now) c.args.statement.now _ c.in-Write.is c.asking-in-Write.result.number (λ rest. tt);
    }

pub returns-in_ok-value-in-Print : goal.returns-in_ok-value-in-Print
returns-in_ok-value-in-Print c =
    record {
      asked = asks (thread_at c.args.self.now c.args.spot.now) c.args.statement.now _ c.in-Print.is c.asking-in-Print.result.ask
          (λ rest. ap ask_of (value_goes (value_in (thread_at c.args.self.now c.args.spot.now) c.in-Print.value) _ _ c.in_ok-value-in-Print.ensures)
          ∙ ap (λ (w : Wish). w.ask) (sym c.asking-in-Print.ensures));
      number = completes (thread_at c.args.self.now c.args.spot.now) c.args.statement.now _ c.in-Print.is c.asking-in-Print.result.number (λ rest. tt);
    }

pub returns-in-Barrier : goal.returns-in-Barrier
returns-in-Barrier c =
    record {
      asked = asks (thread_at c.args.self.now c.args.spot.now) c.args.statement.now _ c.in-Barrier.is c.asking-in-Barrier.result.ask
          (λ rest. ap (λ (w : Wish). w.ask) (sym c.asking-in-Barrier.ensures));
      number = completes (thread_at c.args.self.now c.args.spot.now) c.args.statement.now _ c.in-Barrier.is c.asking-in-Barrier.result.number (λ rest. tt);
    }

pub returns-in_ok-number-in-If : goal.returns-in_ok-number-in-If
returns-in_ok-number-in-If c =
    record {
      asked = choice_asks (thread_at c.args.self.now c.args.spot.now) c.args.statement.now c.in-If.condition _ c.in-If.is c.in_ok-number-in-If.ensures;
      number = choice_completes (thread_at c.args.self.now c.args.spot.now) c.args.statement.now c.in-If.condition _ c.in-If.is c.in_ok-number-in-If.ensures;
    }

pub returns-then-spot-lock : goal.returns-then-spot-lock
returns-then-spot-lock c =
    let below = nat_lt c.in_ok-number-in-Acquire.number c.args.self.now.locks in
    let same = number_is below c.in_ok-number-in-Acquire.number c.in_ok-lock-in-Acquire.lock LockOutOfRange c.in_ok-lock-in-Acquire.ensures in
    let held : holds (thread_at c.args.self.now c.args.spot.now) c.in_ok-lock-in-Acquire.lock ≡ true =
    c.if-spot-lock.true in
    record {
      asked = asks (thread_at c.args.self.now c.args.spot.now) c.args.statement.now _ c.in-Acquire.is (Trap LockHeld)
          (λ rest. ap ask_of (value_goes (value_in (thread_at c.args.self.now c.args.spot.now) c.in-Acquire.lock) _ _ c.in_ok-number-in-Acquire.ensures
          ∙ number_goes below _ _ LockOutOfRange _ c.in_ok-lock-in-Acquire.ensures
          ∙ then_goes (holds (thread_at c.args.self.now c.args.spot.now) c.in_ok-number-in-Acquire.number) _ _ (ap (holds (thread_at c.args.self.now c.args.spot.now)) same ∙ held)));
      number = tt;
    }

pub returns-else-spot-lock : goal.returns-else-spot-lock
returns-else-spot-lock c =
    let below = nat_lt c.in_ok-number-in-Acquire.number c.args.self.now.locks in
    let same = number_is below c.in_ok-number-in-Acquire.number c.in_ok-lock-in-Acquire.lock LockOutOfRange c.in_ok-lock-in-Acquire.ensures in
    let held : holds (thread_at c.args.self.now c.args.spot.now) c.in_ok-lock-in-Acquire.lock ≡ false =
    c.if-spot-lock.false in
    record {
      asked = asks (thread_at c.args.self.now c.args.spot.now) c.args.statement.now _ c.in-Acquire.is (Acquire c.in_ok-lock-in-Acquire.lock)
          (λ rest. ap ask_of (value_goes (value_in (thread_at c.args.self.now c.args.spot.now) c.in-Acquire.lock) _ _ c.in_ok-number-in-Acquire.ensures
          ∙ number_goes below _ _ LockOutOfRange _ c.in_ok-lock-in-Acquire.ensures
          ∙ else_goes (holds (thread_at c.args.self.now c.args.spot.now) c.in_ok-number-in-Acquire.number) _ _ (ap (holds (thread_at c.args.self.now c.args.spot.now)) same ∙ held))
          ∙ ap Acquire same);
      number = completes (thread_at c.args.self.now c.args.spot.now) c.args.statement.now _ c.in-Acquire.is c.in_ok-number-in-Acquire.number
          (λ rest. value_is (value_in (thread_at c.args.self.now c.args.spot.now) c.in-Acquire.lock) c.in_ok-number-in-Acquire.number c.in_ok-number-in-Acquire.ensures);
    }

pub returns-then-not-spot-lock : goal.returns-then-not-spot-lock
returns-then-not-spot-lock c =
    let below = nat_lt c.in_ok-number-in-Release.number c.args.self.now.locks in
    let same = number_is below c.in_ok-number-in-Release.number c.in_ok-lock-in-Release.lock LockOutOfRange c.in_ok-lock-in-Release.ensures in
    let held : holds (thread_at c.args.self.now c.args.spot.now) c.in_ok-lock-in-Release.lock ≡ false =
    c.if-not-spot-lock.true in
    record {
      asked = asks (thread_at c.args.self.now c.args.spot.now) c.args.statement.now _ c.in-Release.is (Trap LockNotHeld)
          (λ rest. ap ask_of (value_goes (value_in (thread_at c.args.self.now c.args.spot.now) c.in-Release.lock) _ _ c.in_ok-number-in-Release.ensures
          ∙ number_goes below _ _ LockOutOfRange _ c.in_ok-lock-in-Release.ensures
          ∙ else_goes (holds (thread_at c.args.self.now c.args.spot.now) c.in_ok-number-in-Release.number) _ _ (ap (holds (thread_at c.args.self.now c.args.spot.now)) same ∙ held)));
      number = tt;
    }

pub returns-else-not-spot-lock : goal.returns-else-not-spot-lock
returns-else-not-spot-lock c =
    let below = nat_lt c.in_ok-number-in-Release.number c.args.self.now.locks in
    let same = number_is below c.in_ok-number-in-Release.number c.in_ok-lock-in-Release.lock LockOutOfRange c.in_ok-lock-in-Release.ensures in
    let held : holds (thread_at c.args.self.now c.args.spot.now) c.in_ok-lock-in-Release.lock ≡ true =
    c.if-not-spot-lock.false in
    record {
      asked = asks (thread_at c.args.self.now c.args.spot.now) c.args.statement.now _ c.in-Release.is (Release c.in_ok-lock-in-Release.lock)
          (λ rest. ap ask_of (value_goes (value_in (thread_at c.args.self.now c.args.spot.now) c.in-Release.lock) _ _ c.in_ok-number-in-Release.ensures
          ∙ number_goes below _ _ LockOutOfRange _ c.in_ok-lock-in-Release.ensures
          ∙ then_goes (holds (thread_at c.args.self.now c.args.spot.now) c.in_ok-number-in-Release.number) _ _ (ap (holds (thread_at c.args.self.now c.args.spot.now)) same ∙ held))
          ∙ ap Release same);
      number = completes (thread_at c.args.self.now c.args.spot.now) c.args.statement.now _ c.in-Release.is c.in_ok-number-in-Release.number
          (λ rest. value_is (value_in (thread_at c.args.self.now c.args.spot.now) c.in-Release.lock) c.in_ok-number-in-Release.number c.in_ok-number-in-Release.ensures);
    }

-- A text reads and writes words of its memory alone, so it goes to pages that there are.
use Rattle.std.proofs.Common.{◌≡◌, ℕ, ◌<◌, List, [], ◌∷◌, Bool, true, false, refl, subst, arith}
use Rattle.std.specs.Prelude.{Option, Some, None, if◌then◌else◌, nat_lt}
use Rattle.std.proofs.lemmas.Bool.{ltb-true}
use Rattle.std.proofs.lemmas.Option.{same_Some}
use Rattle.lrc_program.specs.declared.Statement.{Statement}
use Rattle.lrc_program.specs.declared.Statement.TheVariants.{Assign, Read, Write, Acquire, Release, Barrier, Print, If', While'}
use Rattle.lrc_trace.specs.declared.act.Cause.{Cause}
use Rattle.lrc_trace.specs.declared.act.Cause.TheVariants.{WordOutOfRange, LockOutOfRange, LockHeld, LockNotHeld}
use Rattle.lrc_exec.specs.Meaning.{Setting, Thread, Next, reads, writes, acquires, releases, departs, traps}
use Rattle.lrc_exec.specs.Meaning.{or_trap, value_in, holds, then_holds, next_of_statement, first_act, next_of}
use Rattle.lrc_page.specs.declared.size.Size.{Size}
use Rattle.lrc_page.specs.declared.size.Size.TheVariants.{Words64, Words256}
use Rattle.lrc_page.specs.Place.{page_of, pages_of}
use Rattle.lrc_protocol.specs.Node.{Course, going, trapped, ended}
use Rattle.lrc_protocol.specs.Node.{next_in}
use Rattle.lrc_order_laws.proofs.TextHolds.{TextIs}

-- the word that comes next is below this number
abbrev pub InWords : ℕ → Next → Type 0
InWords words (reads word after) = word < words
InWords words (writes word value after) = word < words
InWords words _ = Unit {0}

or_trap-in : (words : ℕ) (o : Option ℕ) (go : ℕ → Next) → ((v : ℕ) → InWords words (go v)) → InWords words (or_trap o go)
or_trap-in words None go h = tt
or_trap-in words (Some v) go h = h v

below-in : (words : ℕ) (b : Bool) (cause : Cause) (next : Next) → (b ≡ true → InWords words next) → InWords words (if b then next else traps cause)
below-in words true cause next h = h refl
below-in words false cause next h = tt

acquire-in : (t : Thread) (b : Bool) (l : ℕ) (rest : List Statement)
    → InWords t.setting.words (if b then traps LockHeld else acquires l (then_holds t rest l true))
acquire-in t true l rest = tt
acquire-in t false l rest = tt

release-in : (t : Thread) (b : Bool) (l : ℕ) (rest : List Statement)
    → InWords t.setting.words (if b then releases l (then_holds t rest l false) else traps LockNotHeld)
release-in t true l rest = tt
release-in t false l rest = tt

statement-in : (t : Thread) (s : Statement) (rest : List Statement) → InWords t.setting.words (next_of_statement t s rest)
statement-in t (Assign name value) rest = or_trap-in _ (value_in t value) _ (λ v. tt)
statement-in t (Read name word) rest =
    or_trap-in _ (value_in t word) _ (λ w. below-in _ (nat_lt w t.setting.words) WordOutOfRange _ (λ b. ltb-true w t.setting.words b))
statement-in t (Write word value) rest =
    or_trap-in _ (value_in t word) _ (λ w.
    or_trap-in _ (value_in t value) _ (λ v. below-in _ (nat_lt w t.setting.words) WordOutOfRange _ (λ b. ltb-true w t.setting.words b)))
statement-in t (Acquire lock) rest =
    or_trap-in _ (value_in t lock) _ (λ l. below-in _ (nat_lt l t.setting.locks) LockOutOfRange _ (λ b. acquire-in t (holds t l) l rest))
statement-in t (Release lock) rest =
    or_trap-in _ (value_in t lock) _ (λ l. below-in _ (nat_lt l t.setting.locks) LockOutOfRange _ (λ b. release-in t (holds t l) l rest))
statement-in t Barrier rest = tt
statement-in t (Print value) rest = or_trap-in _ (value_in t value) _ (λ v. tt)
statement-in t (If' condition p first q second) rest = or_trap-in _ (value_in t condition) _ (λ v. tt)
statement-in t (While' condition p body) rest = or_trap-in _ (value_in t condition) _ (λ v. tt)

first-in : (t : Thread) (rest : List Statement) → InWords t.setting.words (first_act t rest)
first-in t [] = tt
first-in t (s ∷ rest) = statement-in t s rest

in_by : (t : Thread) (b : Bool) → InWords t.setting.words (if b then departs (record t { arrived = false }) else first_act t t.rest)
in_by t true = tt
in_by t false = first-in t t.rest

in_words : (t : Thread) → InWords t.setting.words (next_of t)
in_words t = in_by t t.arrived

-- of a text in its setting
pub next-in_words : (s : Setting) (c : Course) (next : Next) → TextIs s c → next_in c ≡ Some next → InWords s.words next
next-in_words s (going t) next text n =
    subst (λ next. InWords s.words next) (same_Some (next_of t) next n)
    (subst (λ (x : Setting). InWords x.words (next_of t)) (text t refl).setting (in_words t))
next-in_words s (trapped cause) next text n = cc
next-in_words s ended next text n = cc

-- a word of the memory is on one of its pages
pub page-in_range : (word words : ℕ) (size : Size) → word < words → page_of word size < pages_of words size
page-in_range word words Words64 lt = omega arith
page-in_range word words Words256 lt = omega arith

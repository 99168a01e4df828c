-- The lock of a `with`, and elements that do not exist.
use Rattle.std.proofs.Common.{◌≡◌, ◌≢◌, ◌⊎◌, inl, inr, ℕ, ◌+◌, ◌^◌, ◌-◌, ◌<◌, ◌≤◌, Bool, true, false, Some, None, List, [], ◌∷◌, ◌++◌, length, refl, sym, ap, subst, arith, ◌∙◌}
use Rattle.std.specs.Prelude.{Option, if◌then◌else◌, nat_lt}
use Rattle.std.proofs.lemmas.Bool.{le-ltb}
use Rattle.std.proofs.lemmas.List.{append_assoc, length-append}
use Rattle.lrc_program.specs.declared.Statement.{Statement}
use Rattle.lrc_program.specs.Statements as lang
use Rattle.lrc_program.specs.Statements.{statement_of, block_of}
use Rattle.lrc_trace.specs.declared.act.Cause.{Cause}
use Rattle.lrc_trace.specs.declared.act.Cause.TheVariants.{DivisionByZero, LockHeld, LockNotHeld, LockOutOfRange, WordOutOfRange}
use Rattle.lrc_trace.specs.declared.act.Deed.{Deed}
use Rattle.lrc_trace.specs.declared.act.Deed.TheVariants as deeds
use Rattle.lrc_exec.specs.Meaning.{Thread, Next, reads, writes, acquires, releases, traps, holds, if_below, next_of, next_of_statement, or_trap, then_does, then_holds, then_keeps, value_in}
use Rattle.lrc_exec.specs.Follows.{Goes}
use Rattle.lrc_named_core.specs.Tree as core
use Rattle.lrc_named_core.specs.Tree.{Expression, Block, Statement as Core, acquire, release, empty, next, only, behind, Origin}
use Rattle.lrc_named_acts_laws.specs.Coded.{Numbers, number_of, KeepAll, coded, statement_coded, block_coded}
use Rattle.lrc_named_acts_laws.specs.Standing.{IsSteady, StandsBefore, Stays, UsesElement, reads as reading, writes as writing, acquires as acquiring, releases as releasing, value_at}
use Rattle.lrc_named_acts_laws.proofs.Coding.{acquire_is, coded_behind, first_is, none_is, read_is, release_is, split_joined, value_coded, write_is}
use Rattle.lrc_named_acts_laws.proofs.Steps.{after_acquire, after_release, after_trap, next_here, not_none, some_is}
use Rattle.lrc_named_acts_laws.proofs.Staying.{along, steady}

-- a node that stands before a statement of the core stands before it in the code
pub record Before (numbers : Numbers) (t : Thread) (s : Core) (others : Block) (more : List Statement) : Type 0 where
  pub first : Statement
  pub rest : List Statement
  pub first_is : statement_of first ≡ statement_coded numbers s
  pub rest_is : block_of rest ≡ block_coded numbers others
  pub todo : t.rest ≡ first ∷ (rest ++ more)

pub before : (numbers : Numbers) (t : Thread) (s : Core) (others : Block) (more : List Statement) → StandsBefore numbers t (next s others) more
    → Before numbers t s others more
before numbers t s others more stands =
    let (x, ys, is, x_is, ys_is) = first_is stands.statements (statement_coded numbers s) (block_coded numbers others) stands.are in
    record { first = x; rest = ys; first_is = x_is; rest_is = ys_is; todo = stands.rest ∙ ap (λ l. l ++ more) is }

-- ---- a lock

three : (l : ℕ) (b : Bool) (t : Thread) {d : Deed} {o : Option Thread} (c : Bool)
    → Goes (if b then (if c then traps LockHeld else acquires l t) else traps LockOutOfRange) d o
    → (d ≡ deeds.Acquire l) ⊎ (d ≡ deeds.Trap LockHeld) ⊎ (d ≡ deeds.Trap LockOutOfRange)
three l true t true g = inr (inl (after_trap g).0)
three l true t false g = inl (after_acquire g).0
three l false t c g = inr (inr (after_trap g).0)

two : (l : ℕ) (t : Thread) {d : Deed} {o : Option Thread} (c : Bool) → Goes (if c then releases l t else traps LockNotHeld) d o
    → (d ≡ deeds.Release l) ⊎ (d ≡ deeds.Trap LockNotHeld)
two l t true g = inl (after_release g).0
two l t false g = inr (after_trap g).0

-- it went on, so the lock exists
went_on : (l : ℕ) (b c : Bool) (t s : Thread) → Goes (if b then (if c then traps LockHeld else acquires l t) else traps LockOutOfRange) (deeds.Acquire l) (Some s)
    → (b ≡ true) × (s ≡ t)
went_on l true true t s g = absurd (not_none (after_trap g).1)
went_on l true false t s g = (refl, some_is (after_acquire g).1)
went_on l false c t s g = absurd (not_none (after_trap g).1)

module _ (numbers : Numbers) (t : Thread) (at : Origin) (word : Expression) (others : Block) (more : List Statement) (l : ℕ)
    (value : value_at numbers t word ≡ Some l) (here : t.arrived ≡ false) where
  lock_next : (b : Before numbers t (acquire at word) others more) → next_of t
      ≡ (if nat_lt l t.setting.locks then (if holds t l then traps LockHeld else acquires l (then_holds t (b.rest ++ more) l true)) else traps LockOutOfRange)
  lock_next b =
      let (e, is, e_is) = acquire_is b.first (coded numbers word) b.first_is in
      let rest = b.rest ++ more in
      next_here t b.first rest b.todo here ∙ ap (λ s. next_of_statement t s rest) is
      ∙ ap (λ o. or_trap o (λ x. if_below x t.setting.locks LockOutOfRange (if holds t x then traps LockHeld else acquires x (then_holds t rest x true))))
      (value_coded numbers t e word e_is ∙ value)

  release_next : (b : Before numbers t (release at word) others more) → next_of t
      ≡ (if nat_lt l t.setting.locks then (if holds t l then releases l (then_holds t (b.rest ++ more) l false) else traps LockNotHeld) else traps LockOutOfRange)
  release_next b =
      let (e, is, e_is) = release_is b.first (coded numbers word) b.first_is in
      let rest = b.rest ++ more in
      next_here t b.first rest b.todo here ∙ ap (λ s. next_of_statement t s rest) is
      ∙ ap (λ o. or_trap o (λ x. if_below x t.setting.locks LockOutOfRange (if holds t x then releases x (then_holds t rest x false) else traps LockNotHeld)))
      (value_coded numbers t e word e_is ∙ value)

  pub acquired : StandsBefore numbers t (next (acquire at word) others) more → (d : Deed) (after : Option Thread) → Goes (next_of t) d after
      → (d ≡ deeds.Acquire l) ⊎ (d ≡ deeds.Trap LockHeld) ⊎ (d ≡ deeds.Trap LockOutOfRange)
  acquired stands d after g =
      let b = before numbers t (acquire at word) others more stands in
      three l (nat_lt l t.setting.locks) (then_holds t (b.rest ++ more) l true) (holds t l) (subst (λ n. Goes n d after) (lock_next b) g)

  released : nat_lt l t.setting.locks ≡ true → StandsBefore numbers t (next (release at word) others) more → (d : Deed) (after : Option Thread)
      → Goes (next_of t) d after → (d ≡ deeds.Release l) ⊎ (d ≡ deeds.Trap LockNotHeld)
  released lt stands d after g =
      let b = before numbers t (release at word) others more stands in
      let after_release_is = then_holds t (b.rest ++ more) l false in
      let is =
      release_next b
      ∙ ap (λ x. if x then (if holds t l then releases l (then_holds t (b.rest ++ more) l false) else traps LockNotHeld) else traps LockOutOfRange) lt in
      two l (then_holds t (b.rest ++ more) l false) (holds t l) (subst (λ n. Goes n d after) is g)

one_behind : (r : Statement) (more : List Statement) → length more + 1 ≡ length (r ∷ more)
one_behind r more = omega (arith, length-append (r ∷ []) more)

pub with_releases : (numbers : Numbers) (t s u : Thread) (at last : Origin) (word : Expression) (inside : Block) (more : List Statement) (l : ℕ) (ds : List Deed)
    → StandsBefore numbers t (next (acquire at word) (behind inside (only (release last word)))) more → value_at numbers t word ≡ Some l
    → IsSteady numbers word inside → Goes (next_of t) (deeds.Acquire l) (Some s) → Stays (length more + 1) s ds u
    → StandsBefore numbers u (only (release last word)) more
    → (d : Deed) (after : Option Thread) → Goes (next_of u) d after → (d ≡ deeds.Release l) ⊎ (d ≡ deeds.Trap LockNotHeld)
with_releases numbers t s u at last word inside more l ds stands value is_steady g stays at_end d after h =
    let b = before numbers t (acquire at word) (behind inside (only (release last word))) more stands in
    let went =
    went_on l (nat_lt l t.setting.locks) (holds t l) (then_holds t (b.rest ++ more) l true) s
    (subst (λ n. Goes n (deeds.Acquire l) (Some s)) (lock_next numbers t at word (behind inside (only (release last word))) more l value stands.here b) g) in
    let (ys, zs, parts, ys_is, zs_is) =
    split_joined b.rest (block_coded numbers inside) (block_coded numbers (only (release last word)))
    (b.rest_is ∙ coded_behind numbers inside (only (release last word))) in
    let (r, none, zs_parts, r_is, none_here) = first_is zs (statement_coded numbers (release last word)) lang.empty zs_is in
    let list_is : b.rest ≡ ys ++ (r ∷ []) = parts ∙ ap (λ x. ys ++ x) (zs_parts ∙ ap (λ x. r ∷ x) (none_is none none_here)) in
    let rest_is : s.rest ≡ ys ++ (r ∷ more) = ap (λ x. x.rest) went.1 ∙ ap (λ x. x ++ more) list_is ∙ append_assoc ys (r ∷ []) more in
    let by = along (r ∷ more) s u ds ys rest_is (subst (λ n. Stays n s ds u) (one_behind r more) stays) in
    let value_then : value_at numbers u word ≡ Some l =
    steady numbers s u word inside is_steady by.setting (λ k all. by.worth_kept (numbers.of_own k) (subst (KeepAll (numbers.of_own k)) (sym ys_is) all))
    ∙ ap (λ x. value_at numbers x word) went.1 ∙ value in
    let setting_is : u.setting ≡ t.setting = by.setting ∙ ap (λ x. x.setting) went.1 in
    released numbers u last word empty more l value_then at_end.here (ap (λ x. nat_lt l x.locks) setting_is ∙ went.0) at_end d after h

-- ---- an element that does not exist

no_word : (n words : ℕ) → n ≡ 2 ^ 64 - 1 → words ≤ 65536 → nat_lt n words ≡ false
no_word n words is few = le-ltb n words (omega (arith, is))

trap_of : (b : Bool) (n : Next) (c : Cause) (d : Deed) (after : Option Thread) → b ≡ false → Goes (if b then n else traps c) d after
    → (cause : Cause) × (d ≡ deeds.Trap cause) × (after ≡ None)
trap_of true n c d after is g = absurd (cc)
trap_of false n c d after is g = let h = after_trap g in (c, h.0, h.1)

trap_or : (o : Option ℕ) (go : ℕ → Next) (d : Deed) (after : Option Thread)
    → ((v : ℕ) → Goes (go v) d after → (cause : Cause) × (d ≡ deeds.Trap cause) × (after ≡ None))
    → Goes (or_trap o go) d after → (cause : Cause) × (d ≡ deeds.Trap cause) × (after ≡ None)
trap_or None go d after each g = let h = after_trap g in (DivisionByZero, h.0, h.1)
trap_or (Some v) go d after each g = each v g

pub no_element : (numbers : Numbers) (t : Thread) (word : Expression) (those : Block) (more : List Statement)
    → StandsBefore numbers t those more → UsesElement word those → value_at numbers t word ≡ Some (2 ^ 64 - 1)
    → t.setting.words ≤ 65536 → t.setting.locks ≤ 64
    → (d : Deed) (after : Option Thread) → Goes (next_of t) d after → (cause : Cause) × (d ≡ deeds.Trap cause) × (after ≡ None)
no_element numbers t word those more stands (reading {at = at} {name = name} {others = others}) value words locks d after g =
    let b = before numbers t (core.read at name word) others more stands in
    let (e, is, e_is) = read_is b.first (number_of numbers name) (coded numbers word) b.first_is in
    let k = number_of numbers name in
    let rest = b.rest ++ more in
    let next_is =
    next_here t b.first rest b.todo stands.here ∙ ap (λ s. next_of_statement t s rest) is
    ∙ ap (λ o. or_trap o (λ w. if_below w t.setting.words WordOutOfRange (reads w (λ v. then_keeps t rest k v)))) (value_coded numbers t e word e_is ∙ value) in
    trap_of (nat_lt (2 ^ 64 - 1) t.setting.words) (reads (2 ^ 64 - 1) (λ v. then_keeps t rest k v)) WordOutOfRange d after
    (no_word (2 ^ 64 - 1) t.setting.words refl words) (subst (λ n. Goes n d after) next_is g)
no_element numbers t word those more stands (writing {at = at} {value = p} {others = others}) value words locks d after g =
    let b = before numbers t (core.write at word p) others more stands in
    let (e, f, is, e_is) = write_is b.first (coded numbers word) (coded numbers p) b.first_is in
    let rest = b.rest ++ more in
    let next_is =
    next_here t b.first rest b.todo stands.here ∙ ap (λ s. next_of_statement t s rest) is
    ∙ ap (λ o. or_trap o (λ w. or_trap (value_in t f) (λ v. if_below w t.setting.words WordOutOfRange (writes w v (then_does t rest)))))
    (value_coded numbers t e word e_is ∙ value) in
    trap_or (value_in t f) (λ v. if_below (2 ^ 64 - 1) t.setting.words WordOutOfRange (writes (2 ^ 64 - 1) v (then_does t rest))) d after
    (λ v h. trap_of (nat_lt (2 ^ 64 - 1) t.setting.words) (writes (2 ^ 64 - 1) v (then_does t rest)) WordOutOfRange d after
    (no_word (2 ^ 64 - 1) t.setting.words refl words) h)
    (subst (λ n. Goes n d after) next_is g)
no_element numbers t word those more stands (acquiring {at = at} {others = others}) value words locks d after g =
    let b = before numbers t (acquire at word) others more stands in
    let n = 2 ^ 64 - 1 in
    trap_of (nat_lt (2 ^ 64 - 1) t.setting.locks) (if holds t (2 ^ 64 - 1) then traps LockHeld else acquires (2 ^ 64 - 1) (then_holds t (b.rest ++ more) (2 ^ 64 - 1) true))
    LockOutOfRange d after (le-ltb (2 ^ 64 - 1) t.setting.locks (omega arith))
    (subst (λ x. Goes x d after) (lock_next numbers t at word others more (2 ^ 64 - 1) value stands.here b) g)
no_element numbers t word those more stands (releasing {at = at} {others = others}) value words locks d after g =
    let b = before numbers t (release at word) others more stands in
    trap_of (nat_lt (2 ^ 64 - 1) t.setting.locks) (if holds t (2 ^ 64 - 1) then releases (2 ^ 64 - 1) (then_holds t (b.rest ++ more) (2 ^ 64 - 1) false) else traps LockNotHeld)
    LockOutOfRange d after (le-ltb (2 ^ 64 - 1) t.setting.locks (omega arith))
    (subst (λ x. Goes x d after) (release_next numbers t at word others more (2 ^ 64 - 1) value stands.here b) g)

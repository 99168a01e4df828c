-- A private name keeps the value that it was set to.
use Rattle.std.proofs.Common.{◌≡◌, ℕ, zero, suc, ◌+◌, ◌-◌, ◌<◌, ◌≤◌, Bool, true, false, List, [], ◌∷◌, Option, Some, None, length, get_or, take, replicate, inl, inr, refl, sym, ap, subst, ◌∙◌, arith}
use Rattle.std.specs.Prelude.{if◌then◌else◌, nat_lt}
use Rattle.std.proofs.lemmas.Bool.{cases_eq, cases_lt}
use Rattle.std.proofs.lemmas.List.{get_or-replicate, get_or-set_other, get_or_default, get_or_past, length-replicate}
use Rattle.lrc_program.specs.declared.Program.{Program}
use Rattle.lrc_program.specs.declared.Statement.{Statement}
use Rattle.lrc_program.specs.declared.Statement.TheVariants.{Assign, Read, Write, Acquire, Release, Barrier, Print, If', While'}
use Rattle.lrc_trace.specs.declared.act.Act.{Act}
use Rattle.lrc_trace.specs.declared.act.Cause.TheVariants.{LockHeld, LockNotHeld}
use Rattle.lrc_trace.specs.declared.act.Deed.{Deed}
use Rattle.lrc_trace.specs.declared.act.Deed.TheVariants.{Quiet}
use Rattle.lrc_trace.specs.Run.{Does, act_of}
use Rattle.lrc_trace.proofs.Positions.{Does-node}
use Rattle.lrc_exec.specs.Ask.{answered, done}
use Rattle.lrc_exec.specs.Meaning.{Next, Thread, acquires, departs, first_act, holds, next_of, releases, then_holds, traps, value_in}
use Rattle.lrc_lines.specs.Walks.{value_given}
use Rattle.lrc_lines.proofs.Agreeing.{agrees_behind, on_if, on_value}
use Rattle.lrc_private_names.specs.Standing.{Sets, SetsLast, first_set, passes, set_by, thread_before}
use Rattle.lrc_private_names.specs.Ways.{thread_led}
use Rattle.lrc_private_names.proofs.Lasts.{Does-here}
use Rattle.lrc_private_names.proofs.Led.{other_step, own_step}

abbrev private_value : Thread → ℕ → ℕ
private_value thread name = get_or thread.privates name 0

-- a statement leaves all names but the one that it sets
module _ (value : ℕ) (t : Thread) (name : ℕ) where
  abbrev Keeps : Next → Type 0
  Keeps next = private_value (done value t next) name ≡ private_value t name

  keeps : (rest : List Statement) → (first_set rest ≡ Some name → ⊥) → Keeps (first_act t rest)
  keeps [] not = refl
  keeps (Assign m e ∷ more) not =
      on_value Keeps (value_in t e) _ refl (λ v is. get_or-set_other t.privates m name v 0 (λ same. not (ap (λ n. Some n) (sym same))))
  keeps (Read m e ∷ more) not =
      on_value Keeps (value_in t e) _ refl
      (λ w is. on_if Keeps (nat_lt w t.setting.words) _ _ (get_or-set_other t.privates m name value 0 (λ same. not (ap (λ n. Some n) (sym same)))) refl)
  keeps (Write e v ∷ more) not =
      on_value Keeps (value_in t e) _ refl (λ w is. on_value Keeps (value_in t v) _ refl (λ x has. on_if Keeps (nat_lt w t.setting.words) _ _ refl refl))
  keeps (Acquire e ∷ more) not =
      on_value Keeps (value_in t e) _ refl
      (λ l is. on_if Keeps (nat_lt l t.setting.locks) _ _
      (on_if Keeps (holds t l) (traps LockHeld) (acquires l (then_holds t more l true)) refl refl) refl)
  keeps (Release e ∷ more) not =
      on_value Keeps (value_in t e) _ refl
      (λ l is. on_if Keeps (nat_lt l t.setting.locks) _ _
      (on_if Keeps (holds t l) (releases l (then_holds t more l false)) (traps LockNotHeld) refl refl) refl)
  keeps (Barrier ∷ more) not = refl
  keeps (Print e ∷ more) not = on_value Keeps (value_in t e) _ refl (λ v is. refl)
  keeps (If' e p a q b ∷ more) not = on_value Keeps (value_in t e) _ refl (λ v is. refl)
  keeps (While' e p a ∷ more) not = on_value Keeps (value_in t e) _ refl (λ v is. refl)

  keeps_answered : t.arrived ≡ false → (first_set t.rest ≡ Some name → ⊥) → private_value (answered value t) name ≡ private_value t name
  keeps_answered stays not =
      let next_is : next_of t ≡ first_act t t.rest = ap (λ b. if b then departs (record t { arrived = false }) else first_act t t.rest) stays in
      ap (λ (n : Next). private_value (done value t n) name) next_is ∙ keeps t.rest not

-- where a thread goes on or not
led_if : (b : Bool) (one t : Thread) (name : ℕ) (set : Option ℕ) → ((if b then set else None) ≡ Some name → ⊥)
    → ((set ≡ Some name → ⊥) → private_value one name ≡ private_value t name) → private_value (if b then one else t) name ≡ private_value t name
led_if true one t name set not h = h not
led_if false one t name set not h = refl

keeps_led : (t : Thread) (d : Deed) (name : ℕ) → t.arrived ≡ false → (set_by t d ≡ Some name → ⊥) → private_value (thread_led t d) name ≡ private_value t name
keeps_led t d name stays not =
    led_if (passes t d) (answered (value_given d) t) t name (first_set t.rest) not (λ other. keeps_answered (value_given d) t name stays other)

all_same : (n name x : ℕ) → get_or (replicate n x) name x ≡ x
all_same n name x =
    elim (cases_lt name n) [
      | inl inside ↦ get_or-replicate n name x x inside
      | inr past ↦ get_or_past (replicate n x) name x (omega (arith, past, length-replicate n x))
    ]

module _ (program : Program) (nodes : ℕ) (lines : List ℕ) (acts : List Act) (node name : ℕ) where
  abbrev value_before : ℕ → ℕ
  value_before position = private_value (thread_before program nodes lines acts node position) name

  -- an act that does not set the name leaves it
  pub same_behind : (at : ℕ) → at < length acts → (Sets program nodes lines acts node name at → ⊥) → value_before (at + 1) ≡ value_before at
  same_behind at within not =
      let act = get_or acts at (act_of 0 Quiet) in
      let is : act ≡ get_or acts at act = get_or_default acts at (act_of 0 Quiet) act within in
      let before = thread_before program nodes lines acts node at in
      elim (cases_eq act.node node) [
        | inl same ↦
            ap (λ (t : Thread). private_value t name) (own_step program nodes lines acts node at act within is same)
            ∙ keeps_led before act.deed name (agrees_behind program nodes lines (take at acts) node).1
            (λ sets. not (record { deed = act.deed; does = Does-node same (Does-here acts at act within is); sets = sets }))
        | inr other ↦ ap (λ (t : Thread). private_value t name) (other_step program nodes lines acts node at act within is other)
      ]

  pub never : (position : ℕ) → position ≤ length acts → ((k : ℕ) → k < position → Sets program nodes lines acts node name k → ⊥) → value_before position ≡ 0
  never zero within none = all_same 32 name 0
  never (suc at) within none =
      let next : at + 1 ≡ suc at = omega arith in
      subst (λ n. value_before n ≡ 0) next
      (same_behind at (omega (arith, within)) (none at (omega arith)) ∙ never at (omega (arith, within)) (λ k lt. none k (omega (arith, lt))))

  kept_for : (at d : ℕ) → at + d ≤ length acts → ((k : ℕ) → at ≤ k → k < at + d → Sets program nodes lines acts node name k → ⊥)
      → value_before (at + d) ≡ value_before at
  kept_for at zero within none = let there : at + 0 ≡ at = omega arith in ap value_before there
  kept_for at (suc d) within none =
      let next : at + d + 1 ≡ at + suc d = omega arith in
      subst (λ n. value_before n ≡ value_before at) next
      (same_behind (at + d) (omega (arith, within)) (none (at + d) (omega arith) (omega arith))
      ∙ kept_for at d (omega (arith, within)) (λ k low high. none k low (omega (arith, high))))

  pub kept : (before position : ℕ) → before ≤ length acts → SetsLast program nodes lines acts node name before position
      → value_before before ≡ value_before (position + 1)
  kept before position within sets =
      let earlier = sets.earlier in
      let there : position + 1 + (before - (position + 1)) ≡ before = omega arith in
      subst (λ n. value_before n ≡ value_before (position + 1)) there
      (kept_for (position + 1) (before - (position + 1)) (omega arith) (λ k low high. sets.last k (omega arith) (omega arith)))

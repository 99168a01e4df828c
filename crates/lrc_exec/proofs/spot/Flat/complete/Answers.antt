-- Each answer leads to the place after the statement, or to where its condition leads.
use Rattle.std.proofs.Common.{◌≡◌, ◌≤◌, ◌-◌, ℕ, length, get_or, refl, sym, subst, arith}
use Rattle.lrc_program.specs.declared.Statement.{Statement}
use Rattle.lrc_program.specs.Sizes.{names_in_statement}
use Rattle.lrc_program.specs.Statements.{statement_of}
use Rattle.lrc_exec.specs.declared.code.Instruction.{Instruction}
use Rattle.lrc_exec.specs.declared.spot.Flat.{Flat}
use Rattle.lrc_exec.specs.declared.spot.Spot.{Spot}
use Rattle.lrc_exec.specs.Spots.{IsFlat}
use Rattle.lrc_exec.proofs.Running.{GoesOn, next_of-end, sound_at, completes-at, lock_there, next_within, chosen_within}
use Rattle.lrc_exec.proofs.Running.{assign_answered, read_answered, acquire_answered, release_answered, other_answered, if_answered, while_answered}
use Rattle.lrc_exec.proofs.Running.{straight_placed, if_placed, while_placed, other_placed}
use Rattle.lrc_exec.proofs.spot.Flat.complete.Goals as goal

-- the private names of the statement there are among the 32 that there are
names_there : (flat : Flat) (spot : Spot) (d : Instruction) (k : ℕ) → IsFlat flat → spot.place ≤ length flat.code.now → 1 ≤ spot.place
    → k ≡ spot.place - 1 → (s : Statement) → (get_or flat.code.now k d).statement.now ≡ s → names_in_statement (statement_of s) ≤ 32
names_there flat spot d k sound within from here s is =
    subst (λ x. names_in_statement (statement_of x) ≤ 32) is (sound_at flat spot d k sound within from here).names

-- at the end nothing is answered
pub returns-in_default-clause-answered : goal.returns-in_default-clause-answered
returns-in_default-clause-answered c =
    let at_end : c.args.spot.now.place ≡ 0 = omega (arith, c.in_default.ensures) in
    absurd (subst GoesOn (next_of-end c.args.self.now c.args.spot.now at_end) c.requires.takes)

pub set_name-requires : goal.set_name-requires
set_name-requires c =
    let n = names_there c.args.self.now c.args.spot.now c.index-self-index.result c.in-Some.index c.requires.flat c.requires.within c.in-Some.ensures.0 c.in-Some.ensures.1 _ c.in-Assign.is in omega arith

pub set_name-requires-in-Read : goal.set_name-requires-in-Read
set_name-requires-in-Read c =
    let n = names_there c.args.self.now c.args.spot.now c.index-self-index.result c.in-Some.index c.requires.flat c.requires.within c.in-Some.ensures.0 c.in-Some.ensures.1 _ c.in-Read.is in omega arith

pub set_held-requires : goal.set_held-requires
set_held-requires c =
    lock_there c.args.self.now c.args.spot.now c.index-self-index.result c.in-Some.index c.requires.flat c.requires.within c.in-Some.ensures.0 c.in-Some.ensures.1 _ _ _ c.in-Acquire.is refl
    (completes-at c.args.self.now c.args.spot.now c.index-self-index.result c.in-Some.index c.requires.flat c.requires.within c.in-Some.ensures.0 c.in-Some.ensures.1 c.args.number _ c.in-Acquire.is c.requires.number) c.requires.takes

pub set_held-requires-in-Release : goal.set_held-requires-in-Release
set_held-requires-in-Release c =
    lock_there c.args.self.now c.args.spot.now c.index-self-index.result c.in-Some.index c.requires.flat c.requires.within c.in-Some.ensures.0 c.in-Some.ensures.1 _ _ _ c.in-Release.is refl
    (completes-at c.args.self.now c.args.spot.now c.index-self-index.result c.in-Some.index c.requires.flat c.requires.within c.in-Some.ensures.0 c.in-Some.ensures.1 c.args.number _ c.in-Release.is c.requires.number) c.requires.takes

pub returns-in-Assign-clause-within : goal.returns-in-Assign-clause-within
returns-in-Assign-clause-within c =
    next_within c.args.self.now c.args.spot.now c.index-self-index.result c.in-Some.index c.requires.flat c.requires.within c.in-Some.ensures.0 c.in-Some.ensures.1

pub returns-in-Read-clause-within : goal.returns-in-Read-clause-within
returns-in-Read-clause-within c =
    next_within c.args.self.now c.args.spot.now c.index-self-index.result c.in-Some.index c.requires.flat c.requires.within c.in-Some.ensures.0 c.in-Some.ensures.1

pub returns-in-Acquire-clause-within : goal.returns-in-Acquire-clause-within
returns-in-Acquire-clause-within c =
    next_within c.args.self.now c.args.spot.now c.index-self-index.result c.in-Some.index c.requires.flat c.requires.within c.in-Some.ensures.0 c.in-Some.ensures.1

pub returns-in-Release-clause-within : goal.returns-in-Release-clause-within
returns-in-Release-clause-within c =
    next_within c.args.self.now c.args.spot.now c.index-self-index.result c.in-Some.index c.requires.flat c.requires.within c.in-Some.ensures.0 c.in-Some.ensures.1

pub returns-in_default-statement-clause-within : goal.returns-in_default-statement-clause-within
returns-in_default-statement-clause-within c =
    next_within c.args.self.now c.args.spot.now c.index-self-index.result c.in-Some.index c.requires.flat c.requires.within c.in-Some.ensures.0 c.in-Some.ensures.1

pub returns-in-If-clause-within : goal.returns-in-If-clause-within
returns-in-If-clause-within c =
    subst (λ p. p ≤ length c.args.self.now.code.now) (sym c.chosen-spot.ensures) (chosen_within c.args.self.now c.args.spot.now c.index-self-index.result c.in-Some.index c.requires.flat c.requires.within c.in-Some.ensures.0 c.in-Some.ensures.1 c.args.number)

pub returns-in-While-clause-within : goal.returns-in-While-clause-within
returns-in-While-clause-within c =
    subst (λ p. p ≤ length c.args.self.now.code.now) (sym c.chosen-spot-in-While.ensures) (chosen_within c.args.self.now c.args.spot.now c.index-self-index.result c.in-Some.index c.requires.flat c.requires.within c.in-Some.ensures.0 c.in-Some.ensures.1 c.args.number)

pub returns-in-Assign-clause-answered : goal.returns-in-Assign-clause-answered
returns-in-Assign-clause-answered c =
    assign_answered c.args.self.now c.args.spot.now c.index-self-index.result c.in-Some.index c.requires.flat c.requires.within c.in-Some.ensures.0 c.in-Some.ensures.1
    c.args.value c.in-Assign.name c.args.number c.in-Assign.field-1 c.set_name.new.privates c.in-Assign.is c.requires.number c.set_name.ensures c.requires.takes

pub returns-in-Read-clause-answered : goal.returns-in-Read-clause-answered
returns-in-Read-clause-answered c =
    read_answered c.args.self.now c.args.spot.now c.index-self-index.result c.in-Some.index c.requires.flat c.requires.within c.in-Some.ensures.0 c.in-Some.ensures.1
    c.args.value c.in-Read.name c.in-Read.field-1 c.set_name-in-Read.new.privates c.in-Read.is c.set_name-in-Read.ensures c.requires.takes

pub returns-in-Acquire-clause-answered : goal.returns-in-Acquire-clause-answered
returns-in-Acquire-clause-answered c =
    acquire_answered c.args.self.now c.args.spot.now c.index-self-index.result c.in-Some.index c.requires.flat c.requires.within c.in-Some.ensures.0 c.in-Some.ensures.1
    c.args.value c.args.number c.in-Acquire.field-0 c.set_held.new.locks c.in-Acquire.is c.requires.number c.set_held.ensures c.requires.takes

pub returns-in-Release-clause-answered : goal.returns-in-Release-clause-answered
returns-in-Release-clause-answered c =
    release_answered c.args.self.now c.args.spot.now c.index-self-index.result c.in-Some.index c.requires.flat c.requires.within c.in-Some.ensures.0 c.in-Some.ensures.1
    c.args.value c.args.number c.in-Release.field-0 c.set_held-in-Release.new.locks c.in-Release.is c.requires.number c.set_held-in-Release.ensures c.requires.takes

pub returns-in-If-clause-answered : goal.returns-in-If-clause-answered
returns-in-If-clause-answered c =
    if_answered c.args.self.now c.args.spot.now c.index-self-index.result c.in-Some.index c.requires.flat c.requires.within c.in-Some.ensures.0 c.in-Some.ensures.1
    c.args.value c.args.number c.chosen-spot.result c.in-If.field-0 c.in-If.field-1 c.in-If.field-2 c.in-If.is c.requires.number c.chosen-spot.ensures
    c.requires.takes

pub returns-in-While-clause-answered : goal.returns-in-While-clause-answered
returns-in-While-clause-answered c =
    while_answered c.args.self.now c.args.spot.now c.index-self-index.result c.in-Some.index c.requires.flat c.requires.within c.in-Some.ensures.0 c.in-Some.ensures.1
    c.args.value c.args.number c.chosen-spot-in-While.result c.in-While.field-0 c.in-While.field-1 c.in-While.is c.requires.number
    c.chosen-spot-in-While.ensures c.requires.takes

pub returns-in_default-statement-clause-answered : goal.returns-in_default-statement-clause-answered
returns-in_default-statement-clause-answered c =
    let h = c.in_default-statement in
    other_answered c.args.self.now c.args.spot.now c.index-self-index.result c.in-Some.index c.requires.flat c.requires.within c.in-Some.ensures.0 c.in-Some.ensures.1
    c.args.value h.not-Assign h.not-Read h.not-Acquire h.not-Release h.not-If h.not-While c.requires.takes

pub returns-in-Assign-clause-placed : goal.returns-in-Assign-clause-placed
returns-in-Assign-clause-placed c =
    straight_placed c.args.self.now c.args.spot.now c.index-self-index.result c.in-Some.index c.requires.flat c.requires.within c.in-Some.ensures.0 c.in-Some.ensures.1 _ c.in-Assign.is tt

pub returns-in-Read-clause-placed : goal.returns-in-Read-clause-placed
returns-in-Read-clause-placed c =
    straight_placed c.args.self.now c.args.spot.now c.index-self-index.result c.in-Some.index c.requires.flat c.requires.within c.in-Some.ensures.0 c.in-Some.ensures.1 _ c.in-Read.is tt

pub returns-in-Acquire-clause-placed : goal.returns-in-Acquire-clause-placed
returns-in-Acquire-clause-placed c =
    straight_placed c.args.self.now c.args.spot.now c.index-self-index.result c.in-Some.index c.requires.flat c.requires.within c.in-Some.ensures.0 c.in-Some.ensures.1 _ c.in-Acquire.is tt

pub returns-in-Release-clause-placed : goal.returns-in-Release-clause-placed
returns-in-Release-clause-placed c =
    straight_placed c.args.self.now c.args.spot.now c.index-self-index.result c.in-Some.index c.requires.flat c.requires.within c.in-Some.ensures.0 c.in-Some.ensures.1 _ c.in-Release.is tt

pub returns-in-If-clause-placed : goal.returns-in-If-clause-placed
returns-in-If-clause-placed c =
    if_placed c.args.self.now c.args.spot.now c.index-self-index.result c.in-Some.index c.requires.flat c.requires.within c.in-Some.ensures.0 c.in-Some.ensures.1
    c.args.number c.chosen-spot.result c.in-If.field-0 c.in-If.field-1 c.in-If.field-2 c.in-If.is c.requires.number c.chosen-spot.ensures

pub returns-in-While-clause-placed : goal.returns-in-While-clause-placed
returns-in-While-clause-placed c =
    while_placed c.args.self.now c.args.spot.now c.index-self-index.result c.in-Some.index c.requires.flat c.requires.within c.in-Some.ensures.0 c.in-Some.ensures.1
    c.args.number c.chosen-spot-in-While.result c.in-While.field-0 c.in-While.field-1 c.in-While.is c.requires.number c.chosen-spot-in-While.ensures

pub returns-in_default-statement-clause-placed : goal.returns-in_default-statement-clause-placed
returns-in_default-statement-clause-placed c =
    other_placed c.args.self.now c.args.spot.now c.index-self-index.result c.in-Some.index c.requires.flat c.requires.within c.in-Some.ensures.0 c.in-Some.ensures.1
    c.in_default-statement.not-If c.in_default-statement.not-While

-- What a deed names is there.
use Rattle.std.proofs.Common.{◌≡◌, ◌∙◌, ◌+◌, ℕ, Some, None, ap, arith, subst, sym, ⊎_elim}
use Rattle.std.specs.Prelude.{slice_index, slice_set}
use Rattle.std.proofs.lemmas.List.{get_or_read}
use Rattle.lrc_trace.specs.declared.act.Deed.TheVariants.{Quiet, Print, Write, Acquire, Release, Arrive, Depart, Trap, End}
use Rattle.lrc_exec.specs.Plain.{Plain}
use Rattle.lrc_exec.proofs.PlainDeeds.{has_thread, made_as, resumes}
use Rattle.lrc_exec.proofs.PlainParts.{step-fits}
use Rattle.lrc_trace.specs.declared.act.Deed.{Deed}
use Rattle.lrc_exec.specs.declared.spot.Flat.{Flat}
use Rattle.lrc_exec.specs.declared.state.State.{State}
use Rattle.lrc_exec.specs.States.{plain_at, HasMoved, place_then}
use Rattle.lrc_exec.proofs.States.{counts, state_arrivals, state_holders, state_memory}
use Rattle.lrc_exec.proofs.Spots.{words_known}
use Rattle.lrc_exec.proofs.state.State.take.Goals as goal

-- where a deed leads, by which it is
moved_as : (flat : Flat) (before after : State) (node : ℕ) (d e : Deed) → d ≡ e → HasMoved before node (place_then flat e) after
    → HasMoved before node (place_then flat d) after
moved_as flat before after node d e is moved = subst (λ x. HasMoved before node (place_then flat x) after) (sym is) moved

pub index_mut-requires : goal.index_mut-requires
index_mut-requires c =
    let h = step-fits (plain_at c.args.flat.now c.args.self.now) c.args.node (Write c.in-Write.word c.in-Write.value)
    (c.requires.can ∙ ap Some c.in-Write.is) in
    let known = words_known c.args.flat.now c.args.self.now c.args.node h.0 h.1 in
    omega (arith, h.2, known.0, c.go_on-in-Write.ensures.state.memory, c.go_on-in-Write.new.self.memory.ok.0)

pub index_mut-requires-in-Acquire : goal.index_mut-requires-in-Acquire
index_mut-requires-in-Acquire c =
    let h = step-fits (plain_at c.args.flat.now c.args.self.now) c.args.node (Acquire c.in-Acquire.lock) (c.requires.can ∙ ap Some c.in-Acquire.is) in
    let known = words_known c.args.flat.now c.args.self.now c.args.node h.0 h.1 in
    omega (arith, h.2, known.1, c.go_on-in-Acquire.ensures.state.holders, c.go_on-in-Acquire.new.self.holders.ok.0)

pub index_mut-requires-in-Release : goal.index_mut-requires-in-Release
index_mut-requires-in-Release c =
    let h = step-fits (plain_at c.args.flat.now c.args.self.now) c.args.node (Release c.in-Release.lock) (c.requires.can ∙ ap Some c.in-Release.is) in
    let known = words_known c.args.flat.now c.args.self.now c.args.node h.0 h.1 in
    omega (arith, h.2, known.1, c.go_on-in-Release.ensures.state.holders, c.go_on-in-Release.new.self.holders.ok.0)

pub go_on-requires-clause-resumable : goal.go_on-requires-clause-resumable
go_on-requires-clause-resumable c =
    let goes = resumes (plain_at c.args.flat.now c.args.self.now) c.args.node c.args.step.deed c.requires.can in
    ⊎_elim (λ is. goes Quiet is tt) (λ is. goes (Print is.0) is.1 tt) c.in-Quiet.is

pub go_on-requires-in-Read-clause-resumable : goal.go_on-requires-in-Read-clause-resumable
go_on-requires-in-Read-clause-resumable c =
    resumes (plain_at c.args.flat.now c.args.self.now) c.args.node c.args.step.deed c.requires.can _ c.in-Read.is tt

pub go_on-requires-in-Write-clause-resumable : goal.go_on-requires-in-Write-clause-resumable
go_on-requires-in-Write-clause-resumable c =
    resumes (plain_at c.args.flat.now c.args.self.now) c.args.node c.args.step.deed c.requires.can _ c.in-Write.is tt

pub go_on-requires-in-Acquire-clause-resumable : goal.go_on-requires-in-Acquire-clause-resumable
go_on-requires-in-Acquire-clause-resumable c =
    resumes (plain_at c.args.flat.now c.args.self.now) c.args.node c.args.step.deed c.requires.can _ c.in-Acquire.is tt

pub go_on-requires-in-Release-clause-resumable : goal.go_on-requires-in-Release-clause-resumable
go_on-requires-in-Release-clause-resumable c =
    resumes (plain_at c.args.flat.now c.args.self.now) c.args.node c.args.step.deed c.requires.can _ c.in-Release.is tt

pub go_on-requires-in-Arrive-clause-resumable : goal.go_on-requires-in-Arrive-clause-resumable
go_on-requires-in-Arrive-clause-resumable c =
    resumes (plain_at c.args.flat.now c.args.self.now) c.args.node c.args.step.deed c.requires.can _ c.in-Arrive.is tt

pub leave-requires-clause-there : goal.leave-requires-clause-there
leave-requires-clause-there c =
    has_thread (plain_at c.args.flat.now c.args.self.now) c.args.node c.args.step.deed c.requires.can

pub stop-requires-clause-there : goal.stop-requires-clause-there
stop-requires-clause-there c =
    has_thread (plain_at c.args.flat.now c.args.self.now) c.args.node c.args.step.deed c.requires.can

pub returns-in-Quiet-clause-made : goal.returns-in-Quiet-clause-made
returns-in-Quiet-clause-made c =
    let made = made_as (plain_at c.args.flat.now c.args.self.now) c.args.node c.args.step.deed c.requires.can in
    ⊎_elim (λ is. made Quiet is _ c.go_on.ensures.gone) (λ is. made (Print is.0) is.1 _ c.go_on.ensures.gone) c.in-Quiet.is

pub returns-in-Read-clause-made : goal.returns-in-Read-clause-made
returns-in-Read-clause-made c =
    made_as (plain_at c.args.flat.now c.args.self.now) c.args.node c.args.step.deed c.requires.can _ c.in-Read.is _ c.go_on-in-Read.ensures.gone

pub returns-in-Write-clause-made : goal.returns-in-Write-clause-made
returns-in-Write-clause-made c =
    made_as (plain_at c.args.flat.now c.args.self.now) c.args.node c.args.step.deed c.requires.can _ c.in-Write.is _
    (ap (λ (m : Plain). record m { memory = slice_set m.memory c.in-Write.word c.in-Write.value }) c.go_on-in-Write.ensures.gone)

pub returns-in-Write-clause-state : goal.returns-in-Write-clause-state
returns-in-Write-clause-state c =
    state_memory c.args.flat.now c.go_on-in-Write.new.self c.in-Write.word c.in-Write.value c.go_on-in-Write.ensures.state

pub returns-in-Acquire-clause-made : goal.returns-in-Acquire-clause-made
returns-in-Acquire-clause-made c =
    made_as (plain_at c.args.flat.now c.args.self.now) c.args.node c.args.step.deed c.requires.can _ c.in-Acquire.is _
    (ap (λ (m : Plain). record m { holders = slice_set m.holders c.in-Acquire.lock (Some c.args.node) }) c.go_on-in-Acquire.ensures.gone)

pub returns-in-Acquire-clause-state : goal.returns-in-Acquire-clause-state
returns-in-Acquire-clause-state c =
    state_holders c.args.flat.now c.go_on-in-Acquire.new.self c.in-Acquire.lock (Some c.args.node) c.go_on-in-Acquire.ensures.state

pub returns-in-Release-clause-made : goal.returns-in-Release-clause-made
returns-in-Release-clause-made c =
    made_as (plain_at c.args.flat.now c.args.self.now) c.args.node c.args.step.deed c.requires.can _ c.in-Release.is _
    (ap (λ (m : Plain). record m { holders = slice_set m.holders c.in-Release.lock None }) c.go_on-in-Release.ensures.gone)

pub returns-in-Release-clause-state : goal.returns-in-Release-clause-state
returns-in-Release-clause-state c =
    state_holders c.args.flat.now c.go_on-in-Release.new.self c.in-Release.lock None c.go_on-in-Release.ensures.state

pub index_mut-requires-in-Arrive : goal.index_mut-requires-in-Arrive
index_mut-requires-in-Arrive c =
    let new = c.go_on-in-Arrive.new.self in
    omega (
      arith,
      counts c.args.flat.now c.args.self.now new c.args.node c.args.step.deed c.requires.can c.requires.state c.go_on-in-Arrive.ensures.state,
      new.arrivals.ok.0,
    )

pub overflow_add-index_mut : goal.overflow_add-index_mut
overflow_add-index_mut c =
    let new = c.go_on-in-Arrive.new.self in
    let within = counts c.args.flat.now c.args.self.now new c.args.node c.args.step.deed c.requires.can c.requires.state c.go_on-in-Arrive.ensures.state in
    let value : c.index_mut-in-Arrive.result.now ≡ slice_index new.arrivals.items c.args.node =
    get_or_read new.arrivals.items _ _ within c.index_mut-in-Arrive.ensures.value 0 in
    omega (arith, value, ap (λ (m : Plain). slice_index m.arrivals c.args.node) c.go_on-in-Arrive.ensures.gone, c.requires.room)

pub returns-in-Arrive-clause-made : goal.returns-in-Arrive-clause-made
returns-in-Arrive-clause-made c =
    let new = c.go_on-in-Arrive.new.self in
    let within = counts c.args.flat.now c.args.self.now new c.args.node c.args.step.deed c.requires.can c.requires.state c.go_on-in-Arrive.ensures.state in
    let value : c.index_mut-in-Arrive.result.now ≡ slice_index new.arrivals.items c.args.node =
    get_or_read new.arrivals.items _ _ within c.index_mut-in-Arrive.ensures.value 0 in
    made_as (plain_at c.args.flat.now c.args.self.now) c.args.node c.args.step.deed c.requires.can Arrive c.in-Arrive.is _
    (ap (λ count. record (plain_at c.args.flat.now new) { arrivals = slice_set new.arrivals.items c.args.node (count + 1) }) value
    ∙ ap (λ (m : Plain). record m { arrivals = slice_set m.arrivals c.args.node (slice_index m.arrivals c.args.node + 1) }) c.go_on-in-Arrive.ensures.gone)

pub returns-in-Arrive-clause-state : goal.returns-in-Arrive-clause-state
returns-in-Arrive-clause-state c =
    state_arrivals c.args.flat.now c.go_on-in-Arrive.new.self c.args.node (c.index_mut-in-Arrive.result.now + 1) c.go_on-in-Arrive.ensures.state

pub returns-in-Depart-clause-made : goal.returns-in-Depart-clause-made
returns-in-Depart-clause-made c =
    made_as (plain_at c.args.flat.now c.args.self.now) c.args.node c.args.step.deed c.requires.can Depart c.in-Depart.is _ c.leave.ensures.left

pub returns-in-Trap-clause-made : goal.returns-in-Trap-clause-made
returns-in-Trap-clause-made c =
    let made = made_as (plain_at c.args.flat.now c.args.self.now) c.args.node c.args.step.deed c.requires.can in
    ⊎_elim (λ is. made (Trap is.0) is.1 _ c.stop.ensures.ended) (λ is. made End is _ c.stop.ensures.ended) c.in-Trap.is

pub returns-in-Quiet-clause-moved : goal.returns-in-Quiet-clause-moved
returns-in-Quiet-clause-moved c =
    let by = moved_as c.args.flat.now c.args.self.now c.go_on.new.self c.args.node c.args.step.deed in
    ⊎_elim (λ is. by Quiet is c.go_on.ensures.moved) (λ is. by (Print is.0) is.1 c.go_on.ensures.moved) c.in-Quiet.is

pub returns-in-Read-clause-moved : goal.returns-in-Read-clause-moved
returns-in-Read-clause-moved c =
    moved_as c.args.flat.now c.args.self.now c.go_on-in-Read.new.self c.args.node c.args.step.deed _ c.in-Read.is c.go_on-in-Read.ensures.moved

pub returns-in-Write-clause-moved : goal.returns-in-Write-clause-moved
returns-in-Write-clause-moved c =
    moved_as c.args.flat.now c.args.self.now c.go_on-in-Write.new.self c.args.node c.args.step.deed _ c.in-Write.is c.go_on-in-Write.ensures.moved

pub returns-in-Acquire-clause-moved : goal.returns-in-Acquire-clause-moved
returns-in-Acquire-clause-moved c =
    moved_as c.args.flat.now c.args.self.now c.go_on-in-Acquire.new.self c.args.node c.args.step.deed _ c.in-Acquire.is c.go_on-in-Acquire.ensures.moved

pub returns-in-Release-clause-moved : goal.returns-in-Release-clause-moved
returns-in-Release-clause-moved c =
    moved_as c.args.flat.now c.args.self.now c.go_on-in-Release.new.self c.args.node c.args.step.deed _ c.in-Release.is c.go_on-in-Release.ensures.moved

pub returns-in-Arrive-clause-moved : goal.returns-in-Arrive-clause-moved
returns-in-Arrive-clause-moved c =
    moved_as c.args.flat.now c.args.self.now c.go_on-in-Arrive.new.self c.args.node c.args.step.deed _ c.in-Arrive.is c.go_on-in-Arrive.ensures.moved

pub returns-in-Depart-clause-moved : goal.returns-in-Depart-clause-moved
returns-in-Depart-clause-moved c =
    moved_as c.args.flat.now c.args.self.now c.leave.new.self c.args.node c.args.step.deed _ c.in-Depart.is c.leave.ensures.moved

pub returns-in-Trap-clause-moved : goal.returns-in-Trap-clause-moved
returns-in-Trap-clause-moved c =
    let by = moved_as c.args.flat.now c.args.self.now c.stop.new.self c.args.node c.args.step.deed in
    ⊎_elim (λ is. by (Trap is.0) is.1 c.stop.ensures.moved) (λ is. by End is c.stop.ensures.moved) c.in-Trap.is

-- What stands at a place of flat code comes next.
use Rattle.std.proofs.Common.{◌≡◌, ◌+◌, ◌-◌, ◌<◌, ◌≤◌, ◌∙◌, ℕ, List, Some, length, get_or, ap, arith}
use Rattle.std.specs.Prelude.{slice_get}
use Rattle.std.proofs.lemmas.Option.{slice_get-get_or}
use Rattle.lrc_exec.specs.declared.code.Instruction.{Instruction}
use Rattle.lrc_exec.specs.Flat.{IsSoundAt, IsSoundFrom, rest_at}
use Rattle.lrc_exec.proofs.Flat.{rest_at-end, rest_at-instruction}
use Rattle.lrc_private_names.proofs.way.Way.statement.Goals as goal

sound_there : (code : List Instruction) (k : ℕ) (d : Instruction) → k < length code → IsSoundFrom 0 code → IsSoundAt code k (get_or code k d)
sound_there code k d lt sound = sound k (get_or code k d) (omega arith) (slice_get-get_or code k d lt)

pub returns-in_default-clause-next : goal.returns-in_default-clause-next
returns-in_default-clause-next c =
    let code = c.args.self.now.flat.code.now in
    let at_end : c.args.self.now.spot.place ≡ 0 = omega (arith, c.in_default.ensures) in
    ap (rest_at code) at_end ∙ rest_at-end code

pub returns-clause-next : goal.returns-clause-next
returns-clause-next c =
    let code = c.args.self.now.flat.code.now in
    let k = c.in-Some.index in
    let d = c.index-self-index.result in
    let from = c.in-Some.ensures.0 in
    let here = c.in-Some.ensures.1 in
    let within = c.requires.within in
    let lt : k < length code = omega arith in
    let place : c.args.self.now.spot.place ≡ k + 1 = omega arith in
    let sound = sound_there code k d lt c.requires.sound.sound in (
      rest_at code (get_or code k d).next,
      ap (rest_at code) place ∙ rest_at-instruction code k (get_or code k d) (slice_get-get_or code k d lt) sound.next_below,
    )

pub returns-clause-names : goal.returns-clause-names
returns-clause-names c =
    let code = c.args.self.now.flat.code.now in
    let k = c.in-Some.index in
    let d = c.index-self-index.result in
    let from = c.in-Some.ensures.0 in
    let here = c.in-Some.ensures.1 in
    let within = c.requires.within in
    let lt : k < length code = omega arith in
    (sound_there code k d lt c.requires.sound.sound).names

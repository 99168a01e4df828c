-- Each arm decides its clause by what the tables say.
use Rattle.std.proofs.Common.{◌≡◌, ◌<◌, ◌≤◌, length, get_or, take, refl, sym, ◌∙◌, ap, arith}
use Rattle.std.proofs.lemmas.List.{get_or-take, length-take-le}
use Rattle.lrc_trace.specs.declared.act.Act.{Act}
use Rattle.lrc_trace.specs.declared.act.Deed.TheVariants.{Quiet, Acquire, Release}
use Rattle.lrc_trace.specs.Run.{departs_before}
use Rattle.lrc_trace.proofs.Positions.{Does-read}
use Rattle.lrc_judge.proofs.Breaking.{decides_acquire, decides_release, decides_depart, others_go_on}
use Rattle.lrc_judge.proofs.synchronization.Standing.allows.Goals as goal

pub returns-in-Acquire : goal.returns-in-Acquire
returns-in-Acquire c =
    let run = c.args.acts.now in
    let quiet : Act = record { node = 0; deed = Quiet } in
    let act = get_or run c.args.position quiet in
    let is : act.deed ≡ Acquire c.from.result = c.in-Acquire.is ∙ ap (λ l. Acquire l) (sym c.from.ensures) in
    decides_acquire c.args.nodes run c.args.position act.node act.deed
    (Does-read run c.args.position quiet c.requires.within) c.args.self.now.holder c.requires.standing.holder c.from.result is
    (omega (arith, c.args.self.now.all_locks)) _ refl c.is_none.result c.is_none.ensures

pub returns-in-Release : goal.returns-in-Release
returns-in-Release c =
    let run = c.args.acts.now in
    let quiet : Act = record { node = 0; deed = Quiet } in
    let act = get_or run c.args.position quiet in
    let is : act.deed ≡ Release c.from-in-Release.result = c.in-Release.is ∙ ap (λ l. Release l) (sym c.from-in-Release.ensures) in
    decides_release c.args.nodes run c.args.position act.node act.deed
    (Does-read run c.args.position quiet c.requires.within) c.args.self.now.holder c.requires.standing.holder
    c.from-in-Release.result is (omega (arith, c.args.self.now.all_locks)) _ refl c.eq.result c.eq.ensures

pub returns-in-Depart : goal.returns-in-Depart
returns-in-Depart c =
    let run = c.args.acts.now in
    let quiet : Act = record { node = 0; deed = Quiet } in
    let act = get_or run c.args.position quiet in
    let arrives = c.args.self.now.arrives in
    let nodes = c.from-in-Depart-2.result in
    let few : nodes ≤ length arrives = omega (arith, c.from-in-Depart-2.ensures, c.args.self.now.all_arrives) in
    let below = c.requires.acts c.args.position quiet c.requires.within in
    let within : c.from-in-Depart.result < length c.args.self.now.departs = omega (arith, c.from-in-Depart.ensures, c.args.self.now.all_departs) in
    let departs = c.requires.standing.departs c.from-in-Depart.result within ∙ ap (λ q. departs_before run q c.args.position) c.from-in-Depart.ensures in
    decides_depart c.args.nodes run c.args.position act.node act.deed (Does-read run c.args.position quiet c.requires.within)
    c.in-Depart.is (take nodes arrives) _ (length-take-le nodes arrives few ∙ c.from-in-Depart-2.ensures)
    (λ q lt. get_or-take nodes arrives q 0 (omega arith) ∙ c.requires.standing.arrives q (omega arith)) departs c.are_above.result c.are_above.ensures

pub returns-in_default : goal.returns-in_default
returns-in_default c =
    let run = c.args.acts.now in
    let quiet : Act = record { node = 0; deed = Quiet } in
    let act = get_or run c.args.position quiet in
    others_go_on c.args.nodes run c.args.position act.node act.deed (Does-read run c.args.position quiet c.requires.within)
    c.in_default.not-Acquire c.in_default.not-Release c.in_default.not-Depart

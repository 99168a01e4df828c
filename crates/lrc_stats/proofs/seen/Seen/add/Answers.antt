use Rattle.std.proofs.Common.{rules, ◌≡◌, ◌<◌, refl, length}
use Rattle.std.proofs.lemmas.Result.{on_ok_weaker}
use Rattle.lrc_protocol.specs.Run.{taken}
use Rattle.lrc_stats.proofs.SeenNumbers.{seen-added}
use Rattle.lrc_stats.proofs.seen.Seen.add.Goals as goal

pub returns-in-Taken : goal.returns-in-Taken
returns-in-Taken c =
    let items = c.args.self.now.numbers.items in
    let e = c.in-Taken.envelope.value in
    let viewed = c.entry.view_is in
    let matched = c.in-Taken.is in
    let seen_is = c.envelope.view_is in
    let input : c.args.entry.now.input ≡ taken e = first_of (cc, search rules) in
    let from : c.from.result ≡ e.from = first_of (search rules, cc) in
    let numbered : c.envelope.inside.number ≡ e.number = first_of (search rules, cc) in
    let lt : c.from.result < length items = search rules in
    λ before h. on_ok_weaker c.add.result
    (λ added. seen-added before c.args.self.now _ c.args.entry.now e c.from.result c.envelope.inside.number
    c.index_mut.result.now c.add.new.self input from numbered lt c.index_mut.ensures.value added refl h)
    c.add.ensures

use Rattle.lrc_why.proofs.Telling.{since_other}
use Rattle.lrc_why.proofs.about.last_source.Goals as goal

pub returns-in_ok-since-in-Some : goal.returns-in_ok-since-in-Some
returns-in_ok-since-in-Some c position word acts are none =
    let run = c.args.acts.now in
    let last = c.in-Some.ensures run position word are in
    let (value, written) = last.known in (
      last,
      none,
      since_other run c.args.node position c.in-Some.write c.in_ok-since-in-Some.since acts written.before c.if-is_act_of.ensures
          c.in_ok-since-in-Some.ensures,
    )

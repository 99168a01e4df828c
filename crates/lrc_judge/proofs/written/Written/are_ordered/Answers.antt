-- By the flag of the last write, and whether it leads.
use Rattle.std.proofs.Common.{◌≡◌, refl, sym, ◌∙◌, get_or}
use Rattle.std.specs.Prelude.{false, true}
use Rattle.std.proofs.lemmas.Bool.{false≢true}
use Rattle.lrc_judge.proofs.LatestWrites.{latest_written, ordered_none, ordered_flag, ordered_iff}
use Rattle.lrc_judge.proofs.written.Written.are_ordered.Goals as goal

pub returns-then-ordered-latest : goal.returns-then-ordered-latest
returns-then-ordered-latest c = λ run are in_range flags.
    let written = c.args.self.now in
    let latest = c.in-Some.latest in
    let found = latest_written run written are in_range c.args.word c.args.position latest c.in-Some.ensures in
    let flag = flags latest found.1.0 found.0 found.1.1 in
    let set : get_or c.args.ordered.now latest false ≡ true = c.if-ordered-latest.true in
    ordered_iff run written are in_range c.args.word c.args.position latest true c.leads.result c.in-Some.ensures
    (λ _. flag.0 set, λ _. refl) (c.leads.ensures run are)

pub returns-else-ordered-latest : goal.returns-else-ordered-latest
returns-else-ordered-latest c = λ run are in_range flags.
    let written = c.args.self.now in
    let latest = c.in-Some.latest in
    let found = latest_written run written are in_range c.args.word c.args.position latest c.in-Some.ensures in
    let flag = flags latest found.1.0 found.0 found.1.1 in
    let unset : get_or c.args.ordered.now latest false ≡ false = c.if-ordered-latest.false in (
      λ t. absurd (false≢true (sym unset ∙ t)),
      λ o. flag.1 (ordered_flag run written are in_range c.args.word c.args.position latest c.in-Some.ensures o),
    )

pub returns-in-None : goal.returns-in-None
returns-in-None c = λ run are in_range flags.
    (λ _. ordered_none run c.args.self.now are in_range c.args.word c.args.position c.in-None.ensures, λ _. refl)

use Rattle.std.proofs.Common.{◌≡◌, ◌∙◌, IfOk, false, refl, subst, sym, true}
use Rattle.std.specs.Prelude.{IfErr}
use Rattle.lrc_orders.specs.declared.search.ExploreFault.TheVariants.{TooMany}
use Rattle.lrc_explore.specs.Answers.{MetTooMany}
use Rattle.lrc_explore.specs.Met.{GaveUp}
use Rattle.lrc_explore_less.specs.Met.{IsSearched}
use Rattle.lrc_explore_events_text.specs.Met.{IsShowing, ShowsMet}
use Rattle.lrc_explore_events_text.specs.Shows.{ShowsLine, free}
use Rattle.lrc_explore_events_text.proofs.told.line_shown.Goals as goal

pub returns-then-ends-clause-shows : goal.returns-then-ends-clause-shows
returns-then-ends-clause-shows c =
    let program = c.args.program.now in
    let nodes = c.args.nodes in
    let races = c.args.races in
    subst
    (λ b. IfOk c.ends_shown.result (IsShowing (ShowsLine program nodes races b c.args.line) (ShowsMet program nodes c.args.most races c.args.line)))
    (sym c.if-ends.true) c.ends_shown.ensures.shows

pub returns-then-races-clause-shows : goal.returns-then-races-clause-shows
returns-then-races-clause-shows c =
    let program = c.args.program.now in
    let nodes = c.args.nodes in
    let line = c.args.line in
    subst
    (λ b. IfOk c.verdict_shown.result (IsShowing (ShowsLine program nodes c.args.races b line) (ShowsMet program nodes c.args.most c.args.races line)))
    (sym c.if-ends.false)
    (subst (λ b. IfOk c.verdict_shown.result (IsShowing (ShowsLine program nodes b false line) (ShowsMet program nodes c.args.most b line)))
    (sym c.if-races.true) c.verdict_shown.ensures.shows)

pub found_shown-requires-clause-end : goal.found_shown-requires-clause-end
found_shown-requires-clause-end c = (false, refl)

pub found_shown-requires-clause-found : goal.found_shown-requires-clause-found
found_shown-requires-clause-found c = subst (IsSearched c.args.program.now c.args.nodes c.args.most) c.in-All.is c.in_ok-found.ensures.findings

pub met_shown-requires-clause-gave : goal.met_shown-requires-clause-gave
met_shown-requires-clause-gave c =
    (c.args.most, false, (subst (IsSearched c.args.program.now c.args.nodes c.args.most) c.in-Many.is c.in_ok-found.ensures.findings).0)

pub returns-in_ok-text-in-Many-clause-shows : goal.returns-in_ok-text-in-Many-clause-shows
returns-in_ok-text-in-Many-clause-shows c =
    let gave = (subst (IsSearched c.args.program.now c.args.nodes c.args.most) c.in-Many.is c.in_ok-found.ensures.findings).0 in
    record {
      met = c.in-Many.met;
      gave = subst (λ b. GaveUp c.args.program.now c.args.nodes c.args.most b c.in-Many.met) (sym c.if-races.false) gave;
      shows = c.in_ok-text-in-Many.ensures;
    }

pub returns-in_ok-shown-in-All-clause-shows : goal.returns-in_ok-shown-in-All-clause-shows
returns-in_ok-shown-in-All-clause-shows c =
    let shown = c.in_ok-shown-in-All.shown in
    subst (λ b. ShowsLine c.args.program.now c.args.nodes c.args.races b c.args.line shown.text.items shown.status) (sym c.if-ends.false)
    (free (λ is. let never : true ≡ false = sym is ∙ c.if-races.false in cc) (c.in_ok-shown-in-All.ensures false refl))

pub returns-then-races-clause-too_many : goal.returns-then-races-clause-too_many
returns-then-races-clause-too_many c =
    subst (λ b. IfErr c.verdict_shown.result (λ fault. fault ≡ TooMany → MetTooMany c.args.program.now c.args.nodes c.args.most false b)) (sym c.if-races.true)
    c.verdict_shown.ensures.too_many

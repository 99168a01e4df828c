-- A name that has a place before this one is one of the first.
use Rattle.std.proofs.Common.{ap, ◌∙◌}
use Rattle.lrc_named_expression_faults.proofs.Spelling.{before_among, is_before}
use Rattle.lrc_named_expression_faults.proofs.spelled.Spelled.has_before.Goals as goal

pub returns-in-Some : goal.returns-in-Some
returns-in-Some c =
    let spelled = c.args.self.now in
    let name = c.args.name.now in
    ap (λ found. is_before found c.args.count) (c.in-Some.ensures.value ∙ spelled.placed name) ∙ before_among spelled.names.now name c.args.count

pub returns-in-None : goal.returns-in-None
returns-in-None c =
    let spelled = c.args.self.now in
    let name = c.args.name.now in
    ap (λ found. is_before found c.args.count) (c.in-None.ensures.value ∙ spelled.placed name) ∙ before_among spelled.names.now name c.args.count

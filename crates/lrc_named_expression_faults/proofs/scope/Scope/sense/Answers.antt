-- A parameter, what is declared, or what is not.
use Rattle.std.proofs.Common.{sym, ap, ◌∙◌}
use Rattle.lrc_named_names.specs.Names.{meaning_at, meaning_of}
use Rattle.lrc_named_names.specs.View.{meaning_seen}
use Rattle.lrc_named_constants.specs.Constant.{names_of}
use Rattle.lrc_named_constants.specs.Well.{is_among}
use Rattle.lrc_named_expression_faults.specs.View.{scope_of}
use Rattle.lrc_named_expression_faults.proofs.Senses.{is_declared, is_parameter, is_undeclared}
use Rattle.lrc_named_expression_faults.proofs.scope.Scope.sense.Goals as goal

pub returns-then-has : goal.returns-then-has
returns-then-has c =
    let scope = scope_of c.args.self.now in
    let name = c.args.name.now in
    is_parameter (is_among (names_of scope.known) name) (meaning_of scope.declared name) (is_among scope.assigned name)
    (ap (λ l. is_among l name) c.args.self.now.alike ∙ sym c.has.ensures ∙ c.if-has.true)

pub returns-in-Some : goal.returns-in-Some
returns-in-Some c =
    let scope = scope_of c.args.self.now in
    let name = c.args.name.now in
    is_declared (is_among (names_of scope.known) name) (meaning_of scope.declared name) (is_among scope.assigned name) (meaning_seen c.in-Some.meaning.now)
    (ap (λ l. is_among l name) c.args.self.now.alike ∙ sym c.has.ensures ∙ c.if-has.false)
    (ap (λ n. meaning_at scope.declared n) (sym c.place.ensures) ∙ sym c.in-Some.ensures)

pub returns-in-None : goal.returns-in-None
returns-in-None c =
    let scope = scope_of c.args.self.now in
    let name = c.args.name.now in
    c.undeclared.ensures
    ∙ is_undeclared (is_among (names_of scope.known) name) (meaning_of scope.declared name) (is_among scope.assigned name)
    (ap (λ l. is_among l name) c.args.self.now.alike ∙ sym c.has.ensures ∙ c.if-has.false)
    (ap (λ n. meaning_at scope.declared n) (sym c.place.ensures) ∙ sym c.in-None.ensures)

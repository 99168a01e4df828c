-- The name and the parameters, and the body.
use Rattle.std.proofs.Common.{◌⊎◌, [], ◌∷◌, map, subst}
use Rattle.lrc_named_tree.specs.View.{expression_of, named_of}
use Rattle.lrc_named_names.specs.View.{declared_of}
use Rattle.lrc_named_expression_faults.specs.Fault.{IsFirstOf}
use Rattle.lrc_named_expression_faults.proofs.First.{joined, none_found}
use Rattle.lrc_named_faults.specs.Declarations.{IsInBody, IsInName, IsInParameters, body_scope}
use Rattle.lrc_named_faults.specs.Values.{IsBodyFound}
use Rattle.lrc_named_faults.proofs.Declaring.{body_extent, clean_body}
use Rattle.lrc_named_faults.proofs.Laid.{neither, told_alone, told_with}
use Rattle.lrc_named_faults.proofs.layout.Layout.function.Goals as goal

pub returns-in-Bad : goal.returns-in-Bad
returns-in-Bad c =
    let table = declared_of c.args.self.now.names in
    let named = named_of c.args.name in
    let own = map named_of c.args.parameters.now in
    let e = expression_of c.args.expression.now in
    let others = subst (λ l. IsFirstOf (λ f. IsInParameters table (named.bytes ∷ []) (map named_of l) f) c.in_parameters-others.result) c.in_ok-spelled.ensures
    c.in_parameters-others.ensures in
    told_with (λ f. IsInName table [] named f ⊎ IsInParameters table (named.bytes ∷ []) own f) (λ f. IsInBody (body_scope table own) e f) c.earlier-own.result
    c.in-Bad.fault c.told.result c.told.ensures
    (joined (λ f. IsInName table [] named f) (λ f. IsInParameters table (named.bytes ∷ []) own f) c.in_name-first.result c.in_parameters-others.result
    c.earlier-own.result c.earlier-own.ensures c.in_name-first.ensures others)
    (subst (λ r. IsBodyFound (body_scope table own) e r) c.in-Bad.is c.in_ok-found.ensures)

pub returns-in-Some : goal.returns-in-Some
returns-in-Some c =
    let table = declared_of c.args.self.now.names in
    let named = named_of c.args.name in
    let own = map named_of c.args.parameters.now in
    let e = expression_of c.args.expression.now in
    let others = subst (λ l. IsFirstOf (λ f. IsInParameters table (named.bytes ∷ []) (map named_of l) f) c.in_parameters-others.result) c.in_ok-spelled.ensures
    c.in_parameters-others.ensures in
    let good = subst (λ r. IsBodyFound (body_scope table own) e r) c.in-Good.is c.in_ok-found.ensures in
    told_alone (λ f. IsInName table [] named f ⊎ IsInParameters table (named.bytes ∷ []) own f) (λ f. IsInBody (body_scope table own) e f) c.in-Some.fault
    (subst (λ r. IsFirstOf (λ f. IsInName table [] named f ⊎ IsInParameters table (named.bytes ∷ []) own f) r) c.in-Some.is
    (joined (λ f. IsInName table [] named f) (λ f. IsInParameters table (named.bytes ∷ []) own f) c.in_name-first.result c.in_parameters-others.result
    c.earlier-own.result c.earlier-own.ensures c.in_name-first.ensures others))
    (clean_body table own e c.in-Good.extent good)

pub returns : goal.returns
returns c =
    let table = declared_of c.args.self.now.names in
    let named = named_of c.args.name in
    let own = map named_of c.args.parameters.now in
    let e = expression_of c.args.expression.now in
    let others = subst (λ l. IsFirstOf (λ f. IsInParameters table (named.bytes ∷ []) (map named_of l) f) c.in_parameters-others.result) c.in_ok-spelled.ensures
    c.in_parameters-others.ensures in
    let good = subst (λ r. IsBodyFound (body_scope table own) e r) c.in-Good.is c.in_ok-found.ensures in (
      neither (λ f. IsInName table [] named f ⊎ IsInParameters table (named.bytes ∷ []) own f) (λ f. IsInBody (body_scope table own) e f)
          (none_found (λ f. IsInName table [] named f ⊎ IsInParameters table (named.bytes ∷ []) own f) c.earlier-own.result c.in-None.is
          (joined (λ f. IsInName table [] named f) (λ f. IsInParameters table (named.bytes ∷ []) own f) c.in_name-first.result c.in_parameters-others.result
          c.earlier-own.result c.earlier-own.ensures c.in_name-first.ensures others))
          (clean_body table own e c.in-Good.extent good),
      good.0,
      body_extent table own e c.in-Good.extent good,
      good.2,
    )

-- Each function that is declared has its extent at its place.
use Rattle.std.proofs.Common.{ap, ◌∙◌}
use Rattle.std.specs.Prelude.{slice_get}
use Rattle.lrc_named_names.specs.Names.{place_of}
use Rattle.lrc_named_names.specs.View.{declared_of}
use Rattle.lrc_named_constants.specs.Well.{bytes_of}
use Rattle.lrc_named_expression_faults.specs.Extent.{before}
use Rattle.lrc_named_expression_faults.proofs.Extents.{nothing_there, same_extent, same_there}
use Rattle.lrc_named_expression_faults.proofs.scope.Scope.body_extent.Goals as goal

pub returns-in-Some : goal.returns-in-Some
returns-in-Some c =
    λ own body means.
    let declared = declared_of c.args.self.now.names.now in
    let h = c.requires (place_of declared c.args.name.now) own body means in
    let found = c.in-Some.ensures ∙ ap (λ n. slice_get c.args.self.now.extents.now n) c.place.ensures in
    same_extent (before declared c.args.name.now) (bytes_of own) body h.0 c.in-Some.extent
    (same_there (slice_get c.args.self.now.extents.now (place_of declared c.args.name.now)) h.0 c.in-Some.extent h.1 found) h.2 h.3

pub returns-in-None : goal.returns-in-None
returns-in-None c =
    λ own body means.
    let declared = declared_of c.args.self.now.names.now in
    let h = c.requires (place_of declared c.args.name.now) own body means in
    let found = c.in-None.ensures ∙ ap (λ n. slice_get c.args.self.now.extents.now n) c.place.ensures in
    absurd (nothing_there (slice_get c.args.self.now.extents.now (place_of declared c.args.name.now)) h.0 h.1 found)

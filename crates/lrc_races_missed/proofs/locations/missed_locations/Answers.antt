-- One pair more is noted, and all.
use Rattle.std.proofs.Common.{◌≡◌, ◌∙◌, length, refl, sym, arith}
use Rattle.std.proofs.lemmas.Option.{slice_get-get_or}
use Rattle.lrc_races_text.specs.Tables.{naming_of}
use Rattle.lrc_races_claims.specs.Known.{known_names}
use Rattle.lrc_races_claims.proofs.Renaming.{same_side}
use Rattle.lrc_races_missed.proofs.LocationLemmas.{locations_are, noted_found, noted_none}
use Rattle.lrc_races_missed.proofs.locations.missed_locations.Goals as goal

pub loop-pair-init : goal.loop-pair-init
loop-pair-init c = record {
  kept = refl;
  noted = λ sought naming events claims variables same named shown are.
      noted_none naming (known_names c.args.places.now) claims c.args.shown.now _ _ c.new-met.ensures.empty c.new-missed.ensures.items;
}

pub loop-pair-preserved : goal.loop-pair-preserved
loop-pair-preserved c =
    let items = c.args.shown.now in
    let n = c.loop-pair.pair-index in
    record {
      kept = c.in_ok-found.ensures.kept ∙ c.loop-pair.invariant.kept;
      noted = λ sought naming events claims variables same named shown are.
          noted_found sought naming events (known_names c.args.places.now) claims variables c.args.keys.now.keys items named shown are n _
          (slice_get-get_or items n _ c.loop-pair-test.true) _ _ _ _ _ (known_names c.loop-pair.places) c.place_name-place.result.now
          c.place_name-other.result.now c.loop-pair.invariant.kept
          (c.place_name-place.ensures ∙ same_side (naming_of c.args.names.now) naming (sym same) _)
          (c.place_name-other.ensures ∙ same_side (naming_of c.args.names.now) naming (sym same) _)
          c.in_ok-found.ensures.found c.in_ok-note.ensures (c.loop-pair.invariant.noted sought naming events claims variables same named shown are);
    }

pub returns-clause-missed : goal.returns-clause-missed
returns-clause-missed c =
    let done : c.loop-pair.pair-index ≡ length c.args.shown.now = omega arith in
    λ sought naming events claims variables same named shown are.
    locations_are sought naming events (known_names c.args.places.now) claims c.args.shown.now c.loop-pair.pair-index c.loop-pair.met.keys
    c.loop-pair.missed.items done shown (c.loop-pair.invariant.noted sought naming events claims variables same named shown are)

pub returns-clause-kept : goal.returns-clause-kept
returns-clause-kept c = c.loop-pair.invariant.kept

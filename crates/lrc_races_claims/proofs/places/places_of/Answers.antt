-- One pair more, and all.
use Rattle.std.proofs.Common.{◌≡◌, length, refl, ◌∙◌, arith}
use Rattle.std.proofs.lemmas.Option.{slice_get-get_or}
use Rattle.lrc_races_lines.specs.Table.{names_of}
use Rattle.lrc_races_text.specs.Tables.{naming_of}
use Rattle.lrc_races_claims.specs.Known.{known_names}
use Rattle.lrc_races_claims.proofs.Pairing.{shown_none, shown_noted, places_done}
use Rattle.lrc_races_claims.proofs.places.places_of.Goals as goal

pub loop-pair-init : goal.loop-pair-init
loop-pair-init c = record {
  same = refl;
  pairs = shown_none (naming_of c.args.names.now) (known_names c.new.result) c.as_slice-pair-items.result.now c.new-2.result.keys c.new-2.ensures.empty;
}

pub loop-pair-preserved : goal.loop-pair-preserved
loop-pair-preserved c =
    let items = c.as_slice-pair-items.result.now in
    let n = c.loop-pair.pair-index in
    record {
      same = c.in_ok-note_pair.ensures.kept ∙ c.loop-pair.invariant.same;
      pairs = shown_noted (naming_of c.args.names.now) (known_names c.new.result) (known_names c.loop-pair.places.names) items n _
          (slice_get-get_or items n _ c.loop-pair-test.true) c.loop-pair.places.pairs.keys c.note_pair.new.places.pairs.keys c.loop-pair.invariant.same
          c.in_ok-note_pair.ensures.pairs c.loop-pair.invariant.pairs;
    }

pub returns : goal.returns
returns c =
    let items = c.as_slice-pair-items.result.now in
    let done : c.loop-pair.pair-index ≡ length items = omega arith in
    places_done c.args.sought (naming_of c.args.names.now) c.args.events.now _ (known_names c.new.result) (names_of c.in_ok-table.table) items
    c.in_ok-shown.shown.items c.loop-pair.pair-index c.loop-pair.invariant.same c.new.ensures c.in_ok-table.ensures c.as_slice-pair-items.ensures.value
    c.in_ok-shown.ensures refl done c.loop-pair.invariant.pairs

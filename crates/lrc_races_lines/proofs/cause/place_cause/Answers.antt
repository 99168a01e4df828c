-- A long one, or a further bar.
use Rattle.std.proofs.Common.{arith}
use Rattle.lrc_races_lines.specs.Cause.{place_long}
use Rattle.lrc_races_lines.proofs.Caused.{place-short}
use Rattle.lrc_races_lines.proofs.cause.place_cause.Goals as goal

pub returns-then-location-gt-LONGEST_NAME : goal.returns-then-location-gt-LONGEST_NAME
returns-then-location-gt-LONGEST_NAME c = λ feeds none. place_long c.up_to_bar-location.ensures (omega arith)

pub returns : goal.returns
returns c = λ feeds none. place-short _ _ c.up_to_bar-location.ensures (omega arith) feeds none

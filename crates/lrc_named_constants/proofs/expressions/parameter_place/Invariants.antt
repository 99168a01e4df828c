-- No parameter before the present one has this name.
use Rattle.std.proofs.Common.{◌≡◌, ℕ, ◌<◌, false, map, get_or}
use Rattle.std.specs.Str.{bytes_eq}
use Rattle.lrc_named_constants.specs.Constant.{Known}
use Rattle.lrc_named_constants.specs.View.{known_of}
use Rattle.lrc_named_constants.proofs.expressions.parameter_place.Given as goal

abbrev pub invariant-loop-i : goal.invariant-loop-i
invariant-loop-i l = (k : ℕ) → k < l.i → (d : Known) → bytes_eq (get_or (map known_of l.known) k d).name l.name ≡ false

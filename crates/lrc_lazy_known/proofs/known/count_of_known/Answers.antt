use Rattle.std.proofs.Common.{◌≡◌, ◌<◌, ◌-◌, [], length, refl, arith}
use Rattle.std.specs.Prelude.{Some, slice_get}
use Rattle.std.proofs.lemmas.Option.{slice_get_read}
use Rattle.std.proofs.lemmas.Grind.{common_steps}
use Rattle.lrc_lazy_known.proofs.Cutting.{unknown_more}
use Rattle.lrc_lazy_known.proofs.known.count_of_known.Goals as goal

pub loop-count-preserved : goal.loop-count-preserved
loop-count-preserved c =
    let words = c.args.words.now in
    let word = c.index-words-count.result in
    let some = c.loop-count-test.true in
    let inside = c.loop-count.invariant.within in
    let within : c.loop-count.count - 1 < length words = omega arith in
    let found : slice_get words (c.loop-count.count - 1) ≡ Some word = slice_get_read words (length words) (c.loop-count.count - 1) word refl within c.index-words-count.is in
    let none : word.knowers.items ≡ [] = grind (arith, common_steps) in
    record {
      within = omega arith;
      blank = unknown_more words c.loop-count.count word c.loop-count.invariant.blank some found none;
    }

-- One pair more is added, or not, and all.
use Rattle.std.proofs.Common.{◌≡◌, false, true, length, arith, rules}
use Rattle.std.proofs.lemmas.Option.{slice_get-get_or}
use Rattle.lrc_races_missed.proofs.PairLemmas.{added_all, added_more, added_none, added_same}
use Rattle.lrc_races_missed.proofs.pairs.note_told.Goals as goal

pub loop-pair-init : goal.loop-pair-init
loop-pair-init c = λ ordered. added_none c.args.keys.now.keys c.args.told.now c.args.lines.now.items

pub loop-pair-preserved-then-not-is_unclaimed : goal.loop-pair-preserved-then-not-is_unclaimed
loop-pair-preserved-then-not-is_unclaimed c = λ ordered.
    let told = c.args.told.now in
    let n = c.loop-pair.pair-index in
    added_same c.args.keys.now.keys told ordered n _ (slice_get-get_or told n _ c.loop-pair-test.true)
    (λ free. let set : c.is_unclaimed.result ≡ true = c.is_unclaimed.ensures.1 free in
    let none : c.is_unclaimed.result ≡ false = search rules in let never : ⊥ = cc in never) c.args.lines.now.items c.loop-pair.lines.items
    (c.loop-pair.invariant ordered)

pub loop-pair-preserved : goal.loop-pair-preserved
loop-pair-preserved c = λ ordered.
    let told = c.args.told.now in
    let n = c.loop-pair.pair-index in
    let is : c.is_unclaimed.result ≡ true = search rules in
    added_more c.args.keys.now.keys told ordered n _ (slice_get-get_or told n _ c.loop-pair-test.true) (c.is_unclaimed.ensures.0 is)
    c.args.lines.now.items c.loop-pair.lines.items c.push.new.self.items c.in_ok-push.ensures.items (c.loop-pair.invariant ordered)

pub returns : goal.returns
returns c =
    let done : c.loop-pair.pair-index ≡ length c.args.told.now = omega arith in
    λ ordered. added_all c.args.keys.now.keys c.args.told.now c.loop-pair.pair-index c.args.lines.now.items c.loop-pair.lines.items done
    (c.loop-pair.invariant ordered)

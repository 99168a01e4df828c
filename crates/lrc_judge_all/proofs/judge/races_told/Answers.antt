use Rattle.std.proofs.Common.{◌∙◌, Bool, List, ap, arith, false, get_or, subst, sym, true, ℕ}
use Rattle.std.proofs.lemmas.List.Elements.{Contains-get_or}
use Rattle.lrc_text.specs.RaceText.{races_text}
use Rattle.lrc_judge.specs.Pairs.{AreRacingPairs}
use Rattle.lrc_judge.specs.declared.lanes.Pair.{Pair}
use Rattle.lrc_judge_text.specs.Judgement.{TellsRaces, named, pair_lines, paired}
use Rattle.lrc_judge_text.proofs.Within.{race_within}
use Rattle.lrc_judge_all.proofs.judge.races_told.Goals as goal

pub pairs_part-requires : goal.pairs_part-requires
pairs_part-requires c = λ k d within.
    let pairs = c.as_slice.result.now in
    let are : AreRacingPairs c.args.acts.now pairs =
    subst (λ (l : List Pair). AreRacingPairs c.args.acts.now l) (sym c.as_slice.ensures.value) c.in_ok-pairs.ensures in
    let race = (are.exact (get_or pairs k d)).0 (Contains-get_or pairs k d within) in
    let last = race_within race in
    let earlier = race.earlier in
    (omega arith, last)

pub returns-in_ok-part : goal.returns-in_ok-part
returns-in_ok-part c =
    subst (λ (b : Bool). TellsRaces c.args.acts.now b c.in_ok-part.part.items) (sym c.if-pairs.true)
    (subst (λ (t : List ℕ). TellsRaces c.args.acts.now true t)
    (sym (c.in_ok-part.ensures ∙ ap (λ (l : List Pair). pair_lines c.args.acts.now l) c.as_slice.ensures.value))
    (paired c.in_ok-pairs.ensures))

pub returns-in_ok-part-2 : goal.returns-in_ok-part-2
returns-in_ok-part-2 c =
    subst (λ (b : Bool). TellsRaces c.args.acts.now b c.in_ok-part-2.part.items) (sym c.if-pairs.false)
    (subst (λ (t : List ℕ). TellsRaces c.args.acts.now false t) (sym (c.in_ok-part-2.ensures ∙ ap races_text c.as_slice-else-pairs.ensures.value))
    (named c.in_ok-races.ensures))

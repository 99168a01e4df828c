-- A read that gives what it may give, or does not.
use Rattle.std.proofs.Common.{◌≡◌, ◌∙◌, ℕ, List, subst, sym}
use Rattle.lrc_trace.specs.declared.act.Act.{Act}
use Rattle.lrc_trace.specs.declared.act.Deed.TheVariants.{Read}
use Rattle.lrc_trace.specs.Run.{IsDone}
use Rattle.lrc_trace.specs.Reading.{MayRead}
use Rattle.lrc_trace.proofs.Positions.{Does-one_deed}
use Rattle.lrc_judge.specs.InOrder.{IsLastWritten}
use Rattle.lrc_judge.specs.Reading.{Misreads}
use Rattle.lrc_judge_all.specs.JudgesAll.{IsDisorder}
use Rattle.lrc_judge_all.proofs.LastOne.{last_one}

pub not_misread : (run : List Act) (n word value : ℕ) → IsDone run n (Read word value) → MayRead run n word value → Misreads run n → ⊥
not_misread run n word value done may m =
    let both : Read word value ≡ Read m.word m.value = Does-one_deed done.1 m.read.1 in
    let words : word ≡ m.word = cc in
    let values : value ≡ m.value = cc in
    m.refused (subst (λ w. MayRead run n w m.value) words (subst (λ v. MayRead run n word v) values may))

pub not_disorder : (run : List Act) (n word value : ℕ) → IsDone run n (Read word value) → IsLastWritten run n word value → IsDisorder run n → ⊥
not_disorder run n word value done last m =
    let both : Read word value ≡ Read m.word m.value = Does-one_deed done.1 m.read.1 in
    let words : word ≡ m.word = cc in
    let values : value ≡ m.value = cc in
    m.apart (sym values ∙ last_one m.word run n value m.last_written (subst (λ w. IsLastWritten run n w value) words last) m.written)

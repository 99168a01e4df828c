use Rattle.std.proofs.Common.{◌≡◌, ◌∙◌, ◌+◌, ◌++◌, ◌∷◌, [], List, ap, append_assoc, get_or, subst, sym, take, ℕ}
use Rattle.std.proofs.lemmas.List.{take_all, take_more}
use Rattle.std.proofs.lemmas.List.Elements.{Contains-get_or}
use Rattle.lrc_judge_all.specs.Known.{AreKept}
use Rattle.lrc_judge_all.proofs.Keeping.{fresh_more}
use Rattle.lrc_judge_all.proofs.kept.note_all.Goals as goal

pub note-requires-clause-within : goal.note-requires-clause-within
note-requires-clause-within c =
    c.requires.within _ (Contains-get_or c.args.positions.now c.loop-position.position-index 0 c.loop-position-test.true)

pub loop-position-preserved : goal.loop-position-preserved
loop-position-preserved c = λ known fresh kept.
    let run = c.args.acts.now in
    let all = c.args.positions.now in
    let i = c.loop-position.position-index in
    let next = get_or all i 0 in
    let step = c.in_ok-note.ensures (known ++ take i all) (fresh_more run known all i c.requires.ascending c.loop-position-test.true fresh)
    (c.loop-position.invariant known fresh kept) in
    let is : (known ++ take i all) ++ next ∷ [] ≡ known ++ take (i + 1) all =
    append_assoc known (take i all) (next ∷ []) ∙ sym (ap (λ (l : List ℕ). known ++ l) (take_more all i 0 c.loop-position-test.true)) in
    subst (λ (l : List ℕ). AreKept run l c.note.new.words) is step

pub returns : goal.returns
returns c = λ known fresh kept.
    let all = c.args.positions.now in
    subst (λ (l : List ℕ). AreKept c.args.acts.now (known ++ l) c.loop-position.words)
    (take_all c.loop-position.position-index all c.loop-position-test.false) (c.loop-position.invariant known fresh kept)

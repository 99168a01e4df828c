use Rattle.std.proofs.Common.{◌≡◌, ◌∙◌, ◌++◌, ◌∷◌, [], Option, get_or, inl, inr, subst, sym}
use Rattle.std.specs.BTreeMap.{get}
use Rattle.std.specs.Ordering.{nat_cmp}
use Rattle.std.proofs.lemmas.Bool.{cases_eq, ne_eqb}
use Rattle.lrc_trace.specs.declared.act.Act.{Act}
use Rattle.lrc_trace.specs.declared.act.Deed.TheVariants.{Quiet, Write}
use Rattle.lrc_trace.specs.Run.{IsDone}
use Rattle.lrc_trace.proofs.Positions.{Does-deed, Does-one_deed, Does-read}
use Rattle.lrc_judge.proofs.Ascending.{is_eq-nat}
use Rattle.lrc_judge_all.specs.Known.{IsKept}
use Rattle.lrc_judge_all.specs.declared.kept.Kept.{Kept}
use Rattle.lrc_judge_all.proofs.Keeping.{kept_same}
use Rattle.lrc_judge_all.proofs.kept.note.Goals as goal

abbrev quiet : Act
quiet = record { node = 0; deed = Quiet }

pub returns-in_default : goal.returns-in_default
returns-in_default c = λ known fresh kept word.
    let here = Does-read c.args.acts.now c.args.position quiet c.requires.within in
    kept_same c.args.acts.now known word c.args.position (get nat_cmp c.args.words.now word)
    (λ v (p, d). c.in_default.not-Write word v (Does-one_deed here d)) (kept word)

pub returns : goal.returns
returns c = λ known fresh kept w.
    let run = c.args.acts.now in
    let n = c.args.position in
    let word = c.in-Write.word in
    let value = c.in-Write.value in
    let here = Does-deed c.in-Write.is (Does-read run n quiet c.requires.within) in
    let done : IsDone run n (Write word value) = ((get_or run n quiet).node, here) in
    let inserted = c.in_ok-insert.ensures.updates in
    elim (cases_eq word w) [
      | inl same ↦
          let old : IsKept run known word c.remove-old.result = subst (λ (o : Option Kept). IsKept run known word o) (sym c.remove-old.ensures.value) (kept word) in
          let new = c.in_ok-kept.ensures run known word c.requires.order done fresh old in
          let there : IsKept run (known ++ n ∷ []) word (get nat_cmp c.insert.new.self word) =
          subst (λ (o : Option Kept). IsKept run (known ++ n ∷ []) word o) (sym inserted.1) new in
          subst (λ x. IsKept run (known ++ n ∷ []) x (get nat_cmp c.insert.new.self x)) same there
      | inr other ↦
          let apart = is_eq-nat word w ∙ ne_eqb word w other in
          let same : get nat_cmp c.insert.new.self w ≡ get nat_cmp c.args.words.now w = inserted.2 w apart ∙ c.remove-old.ensures.updates.2 w apart in
          subst (λ (o : Option Kept). IsKept run (known ++ n ∷ []) w o) (sym same)
          (kept_same run known w n (get nat_cmp c.args.words.now w)
          (λ v (p, d). let both : Write word value ≡ Write w v = Does-one_deed here d in other (cc)) (kept w))
    ]

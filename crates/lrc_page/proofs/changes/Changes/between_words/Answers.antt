use Rattle.std.proofs.Common.{◌≡◌, ◌∙◌, ◌++◌, ◌∷◌, [], ap, take, get_or, arith}
use Rattle.std.proofs.lemmas.List.{take_all}
use Rattle.lrc_page.specs.Changes.{applied, changes_between}
use Rattle.lrc_page.proofs.ChangeLists.{change, applied-between, changes_between-more_same, changes_between-more_differs, last_between_below}
use Rattle.lrc_page.proofs.changes.Changes.between_words.Goals as goal
use Rattle.lrc_page.proofs.changes.Changes.between_words.Goals.{then-twin-offset+in_ok-push, else-twin-offset}

pub push-requires : goal.push-requires
push-requires c =
    rw c.loop-offset.invariant
    (last_between_below c.args.twin.now c.args.page.now c.loop-offset.offset (omega arith))

pub loop-offset-preserved : goal.loop-offset-preserved
loop-offset-preserved c =
    let old = c.args.twin.now in
    let new = c.args.page.now in
    let i = c.loop-offset.offset in
    elim c.if-twin-offset.branch [
      | then-twin-offset+in_ok-push w ↦
          rw (changes_between-more_differs old new i (omega arith) w.if-twin-offset.true)
          (w.changes-is ∙ w.in_ok-push.ensures.ok ∙ ap (λ found. found ++ change i (get_or new i 0) ∷ []) c.loop-offset.invariant)
      | else-twin-offset w ↦
          rw (changes_between-more_same old new i (omega arith) w.if-twin-offset.false) (w.changes-is ∙ c.loop-offset.invariant)
    ]

pub returns-clause-exact : goal.returns-clause-exact
returns-clause-exact c =
    let old = c.args.twin.now in
    let new = c.args.page.now in
    let whole : take c.loop-offset.offset new ≡ new = take_all c.loop-offset.offset new (omega arith) in
    c.loop-offset.invariant ∙ ap (changes_between old) whole

pub returns-clause-turns : goal.returns-clause-turns
returns-clause-turns c =
    ap (applied c.args.twin.now) (returns-clause-exact c)
    ∙ applied-between c.args.twin.now c.args.page.now c.requires.same

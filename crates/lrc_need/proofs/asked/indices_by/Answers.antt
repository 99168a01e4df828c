use Rattle.std.proofs.Common.{◌∙◌, List, ℕ, ◌∷◌, [], ◌++◌, get_or, ap, sym}
use Rattle.std.proofs.lemmas.List.{take_all}
use Rattle.lrc_store.specs.declared.key.Key.{Key}
use Rattle.lrc_need.proofs.Asking.{listed, listed-more, listed-other}
use Rattle.lrc_need.proofs.asked.indices_by.Goals as goal
use Rattle.lrc_need.proofs.asked.indices_by.Goals.{then-key-maker+in_ok-push, else-key-maker}

pub loop-key-preserved : goal.loop-key-preserved
loop-key-preserved c =
    let none : Key = record { node = 0; index = 0; page = 0 } in
    let k = c.loop-key.key-index in
    let keys = c.args.keys.now in
    elim c.if-key-maker.branch [
      | then-key-maker+in_ok-push w ↦
          ap (λ l. l.items) w.list-is
          ∙ w.in_ok-push.ensures.ok
          ∙ ap (λ (l : List ℕ). l ++ (get_or keys k none).index ∷ []) c.loop-key.invariant
          ∙ sym (listed-more keys c.args.maker k none c.loop-key-test.true w.if-key-maker.true)
      | else-key-maker w ↦
          ap (λ l. l.items) w.list-is
          ∙ c.loop-key.invariant
          ∙ sym (listed-other keys c.args.maker k none c.loop-key-test.true w.if-key-maker.false)
    ]

pub returns : goal.returns
returns c = c.loop-key.invariant ∙ ap (λ keys. listed keys c.args.maker) (take_all _ _ c.loop-key-test.false)

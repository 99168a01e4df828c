use Rattle.std.proofs.Common.{◌≡◌, ◌+◌, ◌≤◌, List, ◌++◌, length, sym, ap, ◌∙◌, subst}
use Rattle.std.specs.List.{All}
use Rattle.std.specs.Option.{option_to_list}
use Rattle.lrc_protocol.specs.Pages.{Asked, some_asked, asked_of}
use Rattle.lrc_need.proofs.Asking.{asked_of-more, asks-some}
use Rattle.lrc_need.proofs.asked.ask.Goals as goal

pub loop-maker-preserved : goal.loop-maker-preserved
loop-maker-preserved c =
    let keys = c.args.keys.now in
    let maker = c.loop-maker.maker in
    let after = c.in_ok-put_some.ensures in
    let same : c.put_some.new.all.items ≡ asked_of (maker + 1) keys =
    after
    ∙ ap (λ l. l ++ option_to_list (some_asked maker c.in_ok-indices.indices)) c.loop-maker.invariant.0
    ∙ ap (λ l. asked_of maker keys ++ option_to_list (some_asked maker l)) c.in_ok-indices.ensures
    ∙ sym (asked_of-more maker keys) in (
      same,
      subst (λ (l : List Asked). All (λ a. 1 ≤ length a.indices) l) (sym after)
          (asks-some maker c.in_ok-indices.indices c.loop-maker.all.items c.loop-maker.invariant.1),
    )

use Rattle.std.proofs.Common.{ap, sym, ◌∙◌}
use Rattle.std.specs.Option.{is_some}
use Rattle.lrc_store.specs.declared.key.Key.{Key}
use Rattle.lrc_store.specs.Store.{notice_at}
use Rattle.lrc_memory.specs.View.{NodeMemory, unmade}
use Rattle.lrc_memory.proofs.Inside.{kept}
use Rattle.lrc_memory.proofs.Overlays.{has_notice-over}
use Rattle.lrc_memory.proofs.memory.Memory.has_notice.Goals as goal

pub returns : goal.returns
returns c =
    let k = kept c.self.inside in
    let key : Key = record { node = c.args.node; index = c.args.index; page = c.args.page } in
    c.has_notice.ensures
    ∙ sym (has_notice-over (unmade k.me k.named k.table) k.store key)
    ∙ ap (λ (n : NodeMemory). is_some (notice_at n.memory.store key)) c.self.view_is

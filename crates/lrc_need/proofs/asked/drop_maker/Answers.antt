use Rattle.std.proofs.Common.{not, rules}
use Rattle.std.specs.Prelude.{◌==◌}
use Rattle.std.proofs.lemmas.Fn.{filter_same}
use Rattle.lrc_need.proofs.asked.drop_maker.Goals as goal

pub returns : goal.returns
returns c =
    filter_same _ (λ asked. not (asked.maker == c.args.maker)) _ (λ x b f' h. (search rules, search rules)) c.args.all.now.items
    c.retain.new.self.items c.retain.ensures.filtered

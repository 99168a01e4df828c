use Rattle.std.proofs.Common.{refl}
use Rattle.lrc_page.specs.Page.{zero_page}
use Rattle.test_parts.proofs.protocol.a_silent_write_is_named.Goals as goal

pub returns : goal.returns
unfolding zero_page
returns c = refl

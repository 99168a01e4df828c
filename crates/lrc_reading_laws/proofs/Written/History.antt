-- What each interval did to a page, and a node's open interval, as the theory of copies takes them.
use Rattle.std.specs.Prelude.{[]}
use Rattle.lrc_store.specs.Store.{StoredRecord}
use Rattle.lrc_protocol.specs.Times.{next_time}
use Rattle.lrc_protocol.specs.Node.{Node}
-- what each interval did to a page, after these acts
pub use Rattle.lrc_reading_laws.specs.Written.{page_history}

-- a node's open interval: it has no changes yet
abbrev pub open_record : Node → StoredRecord
open_record node = record { node = node.setting.me; stamp = next_time node.setting.me node.locks.time; notices = [] }

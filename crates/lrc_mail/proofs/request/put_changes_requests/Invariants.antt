use Rattle.std.proofs.Common.{◌≡◌, ◌++◌, map}
use Rattle.std.specs.Prelude.{take}
use Rattle.lrc_protocol.specs.Turn.{changes_request_of}
use Rattle.lrc_mail.proofs.request.put_changes_requests.Given as goal

abbrev pub invariant-loop-asked : goal.invariant-loop-asked
invariant-loop-asked l = l.letters.items ≡ l.initial.letters.items ++ map (changes_request_of l.page) (take l.asked-index l.all)

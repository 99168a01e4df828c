use Rattle.std.proofs.Common.{◌≡◌, ◌++◌, take}
use Rattle.std.specs.Prelude.{codes}
use Rattle.lrc_messages.specs.Lists.{separated}
use Rattle.lrc_bytes_text.specs.BytesText.{sent_object}
use Rattle.lrc_bytes_text.proofs.message.push_sent.Given as goal

-- the messages so far
abbrev pub invariant-loop-place : goal.invariant-loop-place
invariant-loop-place l = l.text.items ≡ l.initial.text.items ++ separated (codes ",") sent_object (take l.place l.out)

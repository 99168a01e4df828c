use Rattle.std.proofs.Common.{◌≡◌, ◌++◌, take}
use Rattle.lrc_explain_waits.specs.Words.{others_words}
use Rattle.lrc_explain_waits.proofs.words.push_others.Given as goal

abbrev pub invariant-loop-missing : goal.invariant-loop-missing
invariant-loop-missing l = l.text.items ≡ l.initial.text.items ++ others_words (take l.missing-index l.others)

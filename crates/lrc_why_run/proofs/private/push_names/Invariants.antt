-- What was added so far.
use Rattle.std.proofs.Common.{◌≡◌, ◌++◌, map, take}
use Rattle.lrc_why_run.specs.Private.{names_text}
use Rattle.lrc_why_run.proofs.private.push_names.Given as goal

abbrev pub invariant-loop-name : goal.invariant-loop-name
invariant-loop-name l =
    l.text.items ≡ l.fn.text.items ++ names_text l.shown (map (λ name. name.now) l.names) l.privates l.statement (take l.name l.lasts)

use Rattle.std.proofs.Common.{◌≡◌, [], ◌∷◌, take}
use Rattle.lrc_text.specs.Each.{each}
use Rattle.lrc_explain_waits.specs.Circles.{waits_by}
use Rattle.lrc_explain_waits.proofs.circles.waits_of.Given as goal

-- for whom the nodes so far wait
abbrev pub invariant-loop-me : goal.invariant-loop-me
invariant-loop-me l = l.waits.items ≡ each (λ me stand. waits_by l.stands me stand ∷ []) (take l.me l.stands)

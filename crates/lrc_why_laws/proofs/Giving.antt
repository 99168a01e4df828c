-- A read gives what it may.
use Rattle.std.proofs.Common.{◌≡◌, ℕ, List, subst}
use Rattle.std.specs.Prelude.{IsTrue}
use Rattle.lrc_trace.specs.declared.act.Act.{Act}
use Rattle.lrc_trace.specs.declared.act.Deed.{Deed}
use Rattle.lrc_trace.specs.Reading.{ReadsLazily}
use Rattle.lrc_trace.specs.Run.{Does}
use Rattle.lrc_why.specs.declared.reasons.About.{About}
use Rattle.lrc_why.specs.declared.reasons.About.TheVariants.{Gives}
use Rattle.lrc_why.specs.declared.reasons.Gift.{Gift}
use Rattle.lrc_why.specs.About.{IsAbout, trapped, gives, follows, comes, goes_on, quiet, print, write, release, end}

same_gift : (one other : Gift) → Gives one ≡ Gives other → one ≡ other
same_gift one other e = cc

pub may_give : {run : List Act} {node position : ℕ} {deed : Deed} {about : About} (gift : Gift) → ReadsLazily run → Does run position node deed
    → IsAbout run node position deed about → about ≡ Gives gift → IsTrue gift.allowed
may_give gift lazy does trapped e = cc
may_give {node = node} {position = position} gift lazy does (gives {word = word} {value = value} {gift = other} is) e =
    subst (λ (g : Gift). IsTrue g.allowed) (same_gift other gift e) (is.allowed.1 (lazy position word value (node, does)))
may_give gift lazy does (follows h) e = cc
may_give gift lazy does comes e = cc
may_give gift lazy does goes_on e = cc
may_give gift lazy does quiet e = cc
may_give gift lazy does print e = cc
may_give gift lazy does write e = cc
may_give gift lazy does release e = cc
may_give gift lazy does end e = cc

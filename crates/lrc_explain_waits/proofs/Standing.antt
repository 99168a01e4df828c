-- A stand that is read past the end of a list.
use Rattle.lrc_explain_waits.specs.declared.stand.Fate.TheVariants.{Ended}
use Rattle.lrc_explain_waits.specs.declared.stand.Coming.TheVariants.{StepsUsedUp}
use Rattle.lrc_explain_waits.specs.declared.stand.Stand.{Stand}

abbrev pub no_stand : Stand
no_stand = record { fate = Ended; arrives = 0; line = 0; coming = StepsUsedUp }

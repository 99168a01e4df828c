-- What is awaited, as the protocol's machine sees it.
use Rattle.lrc_protocol.specs.Node.{nothing, grant, departure, access, upkeep, discard}
use Rattle.lrc_protocol.specs.Node as mail
use Rattle.lrc_need.specs.declared.wait.Wait.{Wait}
use Rattle.lrc_need.specs.declared.wait.Wait.TheVariants.{Nothing, Grant, Departure, Access, Upkeep, Discard}

abbrev pub seen_wait : Wait → mail.Wait
seen_wait Nothing = nothing
seen_wait (Grant lock) = grant lock
seen_wait Departure = departure
seen_wait (Access need) = access need
seen_wait (Upkeep collection needs) = upkeep collection needs.items
seen_wait (Discard collection) = discard collection

-- A copy as it is shown.
use Rattle.lrc_protocol.specs.Pages.{Copy, valid, written, invalid, absent}
use Rattle.lrc_memory.specs.declared.seen.SeenCopy.{SeenCopy}
use Rattle.lrc_memory.specs.declared.seen.SeenCopy.TheVariants.{Valid, Written, Invalid, Absent}

abbrev pub copy_shown : SeenCopy → Copy
copy_shown (Valid values) = valid values.now
copy_shown (Written values twin) = written values.now twin.now
copy_shown (Invalid values since) = invalid values.now since.now
copy_shown Absent = absent

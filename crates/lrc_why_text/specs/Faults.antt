-- Faults of a text of acts, as those of an answer.
use Rattle.lrc_acts.specs.declared.reading.ActsFault.{ActsFault}
use Rattle.lrc_acts.specs.declared.reading.ActsFault.TheVariants as faults
use Rattle.lrc_why_text.specs.declared.fault.WhyFault.{WhyFault}
use Rattle.lrc_why_text.specs.declared.fault.WhyFault.TheVariants.{BadAct, NoMemory, TooLong}

abbrev pub of_acts_fault : ActsFault → WhyFault
of_acts_fault faults.TooLong = TooLong
of_acts_fault (faults.BadAct line) = BadAct line
of_acts_fault faults.NoMemory = NoMemory

use Rattle.lrc_acts.specs.Printed.{numbers_from}
use Rattle.lrc_acts_text_laws.proofs.Printing.{acts_ranged, acts_said}
use Rattle.lrc_acts_text_laws.proofs.Reading.{read_long, read_whole}
use Rattle.lrc_acts_text_laws.proofs.laws.printed_acts_of_every_run_are_read.Goals as goal

pub returns-clause-ranged : goal.returns-clause-ranged
returns-clause-ranged c = λ nodes acts printed is. acts_ranged nodes acts printed is

pub returns-clause-read : goal.returns-clause-read
returns-clause-read c = λ nodes acts printed given is room. acts_said nodes acts printed is given room

pub returns-clause-whole : goal.returns-clause-whole
returns-clause-whole c = λ nodes acts printed given result is room short reads.
    read_whole given printed acts (numbers_from 1 acts) (acts_said nodes acts printed is given room) result short reads

pub returns-clause-too_long : goal.returns-clause-too_long
returns-clause-too_long c = λ printed given result long reads. read_long given printed result long reads

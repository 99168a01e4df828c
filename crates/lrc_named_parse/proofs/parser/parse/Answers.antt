use Rattle.lrc_named_parse.proofs.OneAnswer.{of_program, of_fault}
use Rattle.lrc_named_parse.proofs.parser.parse.Goals as goal

pub returns-clause-of_program : goal.returns-clause-of_program
returns-clause-of_program c = of_program c.args.text.now c.read.result c.read.ensures.program c.read.ensures.fault

pub returns-clause-of_fault : goal.returns-clause-of_fault
returns-clause-of_fault c = of_fault c.args.text.now c.read.result c.read.ensures.program c.read.ensures.fault

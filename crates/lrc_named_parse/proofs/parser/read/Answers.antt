use Rattle.lrc_named_parse.proofs.Texts.{program_answer, fault_answer}
use Rattle.lrc_named_parse.proofs.parser.read.Goals as goal

pub read_tokens-requires : goal.read_tokens-requires
read_tokens-requires c = record { text = c.args.text.now; fits = c.requires; lexed = c.in-Ok.ensures }

pub returns-in-Ok-clause-program : goal.returns-in-Ok-clause-program
returns-in-Ok-clause-program c =
    program_answer c.args.text.now c.in-Ok.tokens.items c.read_tokens.result c.requires c.in-Ok.ensures c.read_tokens.ensures.same c.read_tokens.ensures.program

pub returns-in-Ok-clause-fault : goal.returns-in-Ok-clause-fault
returns-in-Ok-clause-fault c =
    fault_answer c.args.text.now c.in-Ok.tokens.items c.read_tokens.result c.requires c.in-Ok.ensures c.read_tokens.ensures.fault

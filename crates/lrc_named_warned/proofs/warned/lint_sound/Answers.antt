use Rattle.lrc_named_tokens.specs.View.{place_of}
use Rattle.lrc_named_warned.proofs.Telling.{nothing_told}
use Rattle.lrc_named_warned.proofs.warned.lint_sound.Goals as goal

pub returns-in-Err : goal.returns-in-Err
returns-in-Err c =
    nothing_told c.args.file.now c.args.text.now (place_of c.in-Err.fault.place) c.in-Err.fault.kind c.unless_memory.result c.in-Err.ensures.fault c.unless_memory.ensures

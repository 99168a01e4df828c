use Rattle.std.proofs.Common.{map, refl, subst, sym}
use Rattle.lrc_cli_args.specs.declared.choice.ChooseFault.{ChooseFault}
use Rattle.lrc_shell.specs.Plays.{IsRefusal}
use Rattle.lrc_shell.proofs.refusal.refuse.Goals as goal

pub returns-in-BadNumber : goal.returns-in-BadNumber
returns-in-BadNumber g c =
    subst (λ (fault : ChooseFault). IsRefusal c.args.terminal fault (map g.S.AsStr.text c.args.words.now)
    (g.E.Write.contents c.args.err.now) (g.E.Write.contents c.refuse_number.new.err) 2)
    (sym c.in-BadNumber.is) (c.refuse_number.ensures, refl)

pub returns-in-NoMemory : goal.returns-in-NoMemory
returns-in-NoMemory g c =
    subst (λ (fault : ChooseFault). IsRefusal c.args.terminal fault (map g.S.AsStr.text c.args.words.now)
    (g.E.Write.contents c.args.err.now) (g.E.Write.contents c.refuse_memory.new.err) c.refuse_memory.result)
    (sym c.in-NoMemory.is) (c.refuse_memory.ensures.told, c.refuse_memory.ensures.status)

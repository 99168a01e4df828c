use Rattle.std.proofs.Common.{◌≡◌, ◌⊎◌, ℕ, true, Global, List, Ok, Option, Some, None, Vec, refl, subst, inl, inr}
use Rattle.std.specs.Io.KnownBytes.{Keeps}
use Rattle.lrc_text.specs.Parts.{whole_text}
use Rattle.lrc_cli.specs.Answer.{Answers, IsFault, Prints, asks_pairs}
use Rattle.lrc_cli_answer.specs.FaultLine.{fault_line}
use Rattle.lrc_cli.specs.Performance.{IsBrokenOff, IsPrintedOrCut, IsWritten, Performs, cuts, faults, gives_up, prints}
use Rattle.lrc_cli_args.specs.declared.choice.Choice.{Choice}
use Rattle.lrc_cli_answer.specs.declared.fault.Fault.{Fault}
use Rattle.lrc_cli_answer.specs.declared.fault.Fault.TheVariants.{NoMemory}
use Rattle.lrc_cli.proofs.AnswerLemmas.{memory_ran_out}
use Rattle.lrc_cli.proofs.performance.tell.Goals as goal

same : (held : Option (List ℕ)) → Keeps held held
same None = tt
same (Some bytes) = refl

complained : (choice : Choice) (text : List ℕ) (events out err err' : Option (List ℕ)) (result : ℕ) (fault : Fault) → IsFault choice text events fault
    → IsWritten err err' (fault_line fault) 1 result ⊎ IsWritten err err' (fault_line NoMemory) 1 result → Performs choice text events out out err err' result
complained choice text events out err err' result fault is (inl line) = faults fault is line (same out)
complained choice text events out err err' result fault is (inr line) = faults NoMemory (memory_ran_out choice text events) line (same out)

pub returns-in-Ok-Printed : goal.returns-in-Ok-Printed
returns-in-Ok-Printed g c choice text events answers =
    prints _ _ (subst (λ answered. Answers choice text events (Ok answered)) c.in-Ok-Printed.field-0-is
    (subst (Answers choice text events) c.in-Ok-Printed.is answers)) c.print.ensures (same (g.E.Write.contents c.args.err.now))

-- what comes of a judgement that is written while its racing pairs are found
judged : (choice : Choice) (text : List ℕ) (events out out' err err' : Option (List ℕ)) (printed : List ℕ) (status result : ℕ)
    → asks_pairs choice ≡ true → Prints choice text events printed status → IsPrintedOrCut out out' err err' printed status result
    → Performs choice text events out out' err err' result
judged choice text events out out' err err' printed status result asks is (inl (written, kept)) = prints printed status is written kept
judged choice text events out out' err err' printed status result asks is (inr cut) = cuts printed status asks is cut

pub returns-in-Ok-Judged : goal.returns-in-Ok-Judged
returns-in-Ok-Judged g c choice text events answers =
    let is = subst (λ answered. Answers choice text events (Ok answered)) c.in-Ok-Judged.field-0-is
    (subst (Answers choice text events) c.in-Ok-Judged.is answers) in
    judged choice text events _ _ _ _ _ _ c.print_pairs.result is.0 is.2 c.print_pairs.ensures

pub returns-in-Ok-Met : goal.returns-in-Ok-Met
returns-in-Ok-Met g c choice text events answers =
    let is = subst (λ answered. Answers choice text events (Ok answered)) c.in-Ok-Met.field-0-is (subst (Answers choice text events) c.in-Ok-Met.is answers) in
    gives_up _ _ is
    (subst
    (λ (parts : List (Vec ℕ Global)). IsBrokenOff (g.W.Write.contents c.args.out.now) (g.W.Write.contents c.print_met.new.out)
    (g.E.Write.contents c.args.err.now) (g.E.Write.contents c.print_met.new.err) (whole_text parts) c.in-Ok-Met.fault c.print_met.result)
    c.deref.ensures.value c.print_met.ensures)

pub returns-in-Err : goal.returns-in-Err
returns-in-Err g c choice text events answers =
    complained choice text _ _ _ _ c.complain.result c.in-Err.fault (subst (Answers choice text events) (c.in-Err.is) answers) c.complain.ensures

-- What is shown of a run, where a named program is read as its core.
use Rattle.std.proofs.Common.{◌≡◌, ℕ, List, Option, Result, Ok, Err, IfErr, IfOk, IsErrAnd, inl, inr, sym, subst}
use Rattle.lrc_cli_answer.specs.declared.fault.Fault.{Fault}
use Rattle.lrc_cli_answer.specs.declared.printout.Printout.{Printout}
use Rattle.lrc_cli_args.specs.declared.choice.RunChoice.{RunChoice}
use Rattle.lrc_cli_args.specs.declared.choice.Shape.{Shape}
use Rattle.lrc_cli_runs.specs.Showing.{AnswersShowing, RefusesRun, ShowsRun}
use Rattle.lrc_setting.specs.declared.setting.Nodes.{Nodes}
use Rattle.lrc_source.specs.Telling.{ReadText}
use Rattle.lrc_text.specs.Parts.{whole_text}
use Rattle.lrc_cli.specs.Reading.{IsReadAs, IsUnread, run_for}
use Rattle.lrc_cli.specs.Showing.{AnswersAsRead, RefusesAsRead}

-- what is told apart, in one
pub one_answer : (run : RunChoice) (shape : Shape) (text : ReadText) (events : Option (List ℕ)) (r : Result Printout Fault)
    → IfOk r (λ printout. ShowsRun run shape text events (whole_text printout.parts.items) printout.status)
    → IfErr r (λ fault. RefusesRun run shape text events fault) → AnswersShowing run shape text events r
one_answer run shape text events (Ok printout) ok err = ok
one_answer run shape text events (Err fault) ok err = err

-- of a text that is read: what is shown of the run of this text is shown of the run that is made of it
pub as_read : (run own : RunChoice) (shape : Shape) (text : List ℕ) (seen : ReadText) (events : Option (List ℕ)) (r : Result Printout Fault)
    (nodes : Option Nodes) (read : ReadText) → IsReadAs text nodes read → own ≡ run_for run nodes → seen ≡ read
    → AnswersShowing own shape seen events r → AnswersAsRead run shape text events r
as_read run own shape text seen events (Ok printout) nodes read is_read is same h = record {
  nodes = nodes;
  read = read;
  is_read = is_read;
  holds =
      subst (λ (o : RunChoice). ShowsRun o shape read events (whole_text printout.parts.items) printout.status) is
      (subst (λ (t : ReadText). ShowsRun own shape t events (whole_text printout.parts.items) printout.status) same h);
}
as_read run own shape text seen events (Err fault) nodes read is_read is same h = inr (record {
  nodes = nodes;
  read = read;
  is_read = is_read;
  holds =
      subst (λ (o : RunChoice). RefusesRun o shape read events fault) is
      (subst (λ (t : ReadText). RefusesRun own shape t events fault) same h);
})

-- of one that cannot be read
pub unread : (run : RunChoice) (shape : Shape) (text : List ℕ) (events : Option (List ℕ)) (r : Result Printout Fault) (fault : Fault)
    → IsErrAnd r (λ f. f ≡ fault) → IsUnread text fault → AnswersAsRead run shape text events r
unread run shape text events (Ok printout) fault is h = absurd is
unread run shape text events (Err f) fault is h = subst (RefusesAsRead run shape text events) (sym is) (inl h)

use Rattle.std.proofs.Common.{◌≡◌, ◌∙◌, ◌∷◌, ◌++◌, [], List, ℕ, append_assoc}
use Rattle.lrc_wire.proofs.Written.{on_ok_so}
use Rattle.lrc_wire.proofs.Leads.{run_text}
use Rattle.lrc_wire.proofs.writing.runs.put_run.Goals as goal

two_before : (out rest : List ℕ) (a b : ℕ) → ((out ++ a ∷ []) ++ b ∷ []) ++ rest ≡ out ++ a ∷ b ∷ rest
two_before out rest a b = append_assoc (out ++ a ∷ []) (b ∷ []) rest ∙ append_assoc out (a ∷ []) (b ∷ rest)

pub returns-clause-written : goal.returns-clause-written
returns-clause-written c =
    let text = run_text c.args.changes.now c.args.start c.args.end c.at.result c.requires.exact c.requires.within c.at.ensures in
    rw text (on_ok_so c.put_run_values.result (λ h. h
    ∙ rw (
      c.in_ok-put_u8-2.ensures.ok,
      c.in_ok-put_u8.ensures.ok,
    ) (two_before c.args.out.now.items _ c.at.result.offset _)) c.put_run_values.ensures.written)

-- What is kept of the lines of a trace, and what is known of what is to be noted of them.
use Rattle.std.specs.Prelude.{ℕ, List}
use Rattle.lrc_races_text.specs.declared.asked.Sought.{Sought}
use Rattle.lrc_races_text.specs.declared.form.Form.{Form}
use Rattle.lrc_races_front.specs.Front.{Keeping}
use Rattle.lrc_races_notes.specs.Noter.{HasNoted}
use Rattle.lrc_races_notes.specs.declared.noting.Noting.{Noting}

-- both are so of the same lines
abbrev pub KeepsBoth : {K : Type 0} → Keeping K → Keeping (Noting K)
KeepsBoth Has form lines noting = Has form lines noting.kept × HasNoted form lines noting.noter

-- whatever races are sought
abbrev pub HasBoth : {K : Type 0} → (Sought → Keeping K) → Sought → Keeping (Noting K)
HasBoth Has sought = KeepsBoth (Has sought)

-- The lines that were read and are good, where no more are read.
use Rattle.std.proofs.Common.{◌≡◌, ℕ, ◌+◌, ◌≤◌, List, [], ◌∷◌, ◌++◌, length, refl, subst, sym, ap₂, arith, append-nil}
use Rattle.lrc_races_text.specs.Session.{Text}
use Rattle.lrc_races_text.specs.Told.{IsCut}
use Rattle.lrc_races_text.specs.declared.fault.Fault.{Fault}
use Rattle.lrc_races_text.specs.declared.fault.Fault.TheVariants.{BadEvent, NoMemory}
use Rattle.lrc_races_text.specs.declared.form.Form.{Form}
use Rattle.lrc_races_front.specs.Front.{IsBadAt, IsBadIn, Keeping, all_lines, bad_line, bad_rest}
use Rattle.lrc_races_front.specs.Steps.{Fails, Stops}
use Rattle.lrc_shell_sources.specs.Known.{Held, IsReadOff}
use Rattle.lrc_races_stream.specs.Reach.{AreFirst, IsBehind, IsStop, all, bad, cut, exhausted, past, some, unread}
use Rattle.lrc_races_stream.specs.Strict.{LacksMemory}
use Rattle.lrc_races_stream.specs.declared.answer.Stop.{Stop}
use Rattle.lrc_races_stream.specs.declared.answer.Stop.TheVariants.{Faulted, IllFormed, Past, Unread}

-- how many lines are good where no more are read, for this
abbrev pub IsUpTo : ℕ → Stop → Type 0
IsUpTo count (Past end) = end ≡ count
IsUpTo count (Faulted (BadEvent number why)) = number ≡ count + 1
IsUpTo count (Faulted NoMemory) = ⊥
IsUpTo count (IllFormed ill) = ⊥
IsUpTo count (Unread kind) = Unit {0}

-- The first lines of a trace, up to where no more are read, are good, and this is kept of them.
pub record AreReached {K : Type 0} (Has : Keeping K) (form : Form) (last : ℕ) (held : Held) (kept : K) (stop : Stop) : Type 0 where
  pub lines : List (List ℕ)
  pub first : AreFirst held lines
  pub few : length lines ≤ last
  pub up_to : IsUpTo (length lines) stop
  pub has_kept : Has form lines kept

nothing_behind : (before : List (List ℕ)) (line : List ℕ) (after : List (List ℕ)) → [] ≡ before ++ line ∷ after → ⊥
nothing_behind [] line after e = cc
nothing_behind (b ∷ bs) line after e = cc

-- of lines to which one is added, those before one of them are lines before
shorter : (lines before after : List (List ℕ)) (last line : List ℕ) → lines ++ last ∷ [] ≡ before ++ line ∷ after
    → (more : List (List ℕ)) × (lines ≡ before ++ more)
shorter lines [] after last line e = (lines, refl)
shorter [] (b ∷ bs) after last line e =
    let none : [] ≡ bs ++ line ∷ after = cc in
    absurd (nothing_behind bs line after none)
shorter (x ∷ xs) (b ∷ bs) after last line e =
    let head : x ≡ b = cc in
    let rest : xs ++ last ∷ [] ≡ bs ++ line ∷ after = cc in
    let r = shorter xs bs after last line rest in
    (r.0, ap₂ (λ (y : List ℕ) (ys : List (List ℕ)). y ∷ ys) head r.1)

module _ {K : Type 0} (Has : Keeping K) (form : Form) (held left : Held) (last : ℕ) (kept : K) (bytes : List ℕ) (read : IsReadOff held bytes left) where
  before_bad : (number : ℕ) (why : Text) {lines : List (List ℕ)} → number ≤ last → (b : IsBadAt Has form lines number why.items kept)
      → AreFirst held b.before → AreReached Has form last held kept (Faulted (BadEvent number why))
  before_bad number why few b are =
      let counted = b.counted in
      record { lines = b.before; first = are; few = omega arith; up_to = counted; has_kept = b.good }

  among : (number : ℕ) (why : Text) (lines : List (List ℕ)) (rest : List ℕ) → IsCut bytes lines rest → number ≤ last
      → IsBadAt Has form lines number why.items kept → AreReached Has form last held kept (Faulted (BadEvent number why))
  among number why lines rest is_cut few b =
      before_bad number why few b (some bytes left (b.line ∷ b.after) rest read (subst (λ ls. IsCut bytes ls rest) b.whole is_cut))

  behind_all : (number : ℕ) (why : Text) (lines : List (List ℕ)) (rest : List ℕ) → IsCut bytes lines rest → number ≤ last
      → IsBadAt Has form (lines ++ rest ∷ []) number why.items kept → AreReached Has form last held kept (Faulted (BadEvent number why))
  behind_all number why lines rest is_cut few b =
      let s = shorter lines b.before b.after rest b.line b.whole in
      before_bad number why few b (some bytes left s.0 rest read (subst (λ ls. IsCut bytes ls rest) s.1 is_cut))

  of_last : (number : ℕ) (why : Text) (lines : List (List ℕ)) (rest : List ℕ) → IsCut bytes lines rest → number ≤ last
      → IsBadAt Has form (all_lines lines rest) number why.items kept → AreReached Has form last held kept (Faulted (BadEvent number why))
  of_last number why lines [] is_cut few b = among number why lines [] is_cut few b
  of_last number why lines (byte ∷ rest) is_cut few b = behind_all number why lines (byte ∷ rest) is_cut few b

  of_bad : (number : ℕ) (why : Text) → IsBadIn Has form last bytes number why.items kept
      → AreReached Has form last held kept (Faulted (BadEvent number why))
  of_bad number why (bad_line lines rest is_cut few b) = among number why lines rest is_cut few b
  of_bad number why (bad_rest lines rest is_cut few long b) = behind_all number why lines rest is_cut few b

  of_fault : (fault : Fault) → (LacksMemory (Faulted fault) → ⊥) → Stops Has form last bytes kept fault
      → AreReached Has form last held kept (Faulted fault)
  of_fault (BadEvent number why) has b = of_bad number why b
  of_fault NoMemory has b = absurd (has tt)

  of_end : (fault : Fault) → (LacksMemory (Faulted fault) → ⊥) → Fails Has form last bytes kept fault
      → AreReached Has form last held kept (Faulted fault)
  of_end (BadEvent number why) has b = of_last number why b.lines b.rest b.cut b.few b.bad
  of_end NoMemory has b = absurd (has tt)

  pub of_unread : (lines : List (List ℕ)) (rest : List ℕ) → IsCut bytes lines rest → AreFirst held lines
  of_unread lines rest is_cut = some bytes left [] rest read (subst (λ ls. IsCut bytes ls rest) (sym (append-nil lines)) is_cut)

pub reached : {K : Type 0} (Has : Keeping K) (form : Form) (last : ℕ) (held : Held) (kept : K) (stop : Stop) → IsStop Has form last held kept stop
    → (LacksMemory stop → ⊥) → AreReached Has form last held kept stop
reached Has form last held kept _ (past lines are has_kept counted few) has =
    record { lines = lines; first = all are; few = omega arith; up_to = counted; has_kept = has_kept }
reached Has form last held kept _ (bad bytes left {fault = fault} read stops) has = of_fault Has form held left last kept bytes read fault has stops
reached Has form last held kept _ (cut bytes left {fault = fault} read end fails) has = of_end Has form held left last kept bytes read fault has fails
reached Has form last held kept _ exhausted has = absurd (has tt)
reached Has form last held kept _ (unread bytes left lines rest read is_cut few has_kept cause) has =
    record {
      lines = lines;
      first = of_unread Has form held left last kept bytes read lines rest is_cut;
      few = omega arith;
      up_to = tt;
      has_kept = has_kept;
    }

pub behind_has : (line : ℕ) (stop : Stop) → IsBehind line stop → LacksMemory stop → ⊥
behind_has line (Past end) behind lacks = lacks
behind_has line (Faulted (BadEvent number why)) behind lacks = lacks
behind_has line (Faulted NoMemory) behind lacks = behind
behind_has line (IllFormed ill) behind lacks = lacks
behind_has line (Unread kind) behind lacks = lacks

-- a line behind which no more are read is among them
pub enough : (line count : ℕ) (stop : Stop) → IsUpTo count stop → IsBehind line stop → line ≤ count
enough line count (Past end) to behind = omega arith
enough line count (Faulted (BadEvent number why)) to behind = omega arith
enough line count (Faulted NoMemory) to behind = absurd to
enough line count (IllFormed ill) to behind = absurd to
enough line count (Unread kind) to behind = absurd behind

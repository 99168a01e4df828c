-- The lines of what is missed, and of the sorts of claims, put together.
use Rattle.std.proofs.Common.{◌≡◌, ◌∙◌, ℕ, List, [], ◌∷◌, ◌++◌, Bool, true, false, cond, refl, sym, subst, ap, append_assoc}
use Rattle.std.specs.Prelude.{OnOk, Result, codes}
use Rattle.std.specs.List.{flat_map}
use Rattle.std.proofs.lemmas.List.{append-nil}
use Rattle.std.proofs.lemmas.Result.{on_ok_weaker}
use Rattle.lrc_races_trace.specs.declared.event.Event.{Event}
use Rattle.lrc_races_trace.specs.declared.event.Pair.{Pair}
use Rattle.lrc_races_text.specs.declared.asked.Sought.{Sought}
use Rattle.lrc_races_text.specs.Naming.{Naming}
use Rattle.lrc_races_text.specs.Spelled.{side_place, together}
use Rattle.lrc_races_score.specs.declared.report.LinedClaim.{LinedClaim}
use Rattle.lrc_races_claims.specs.declared.verdict.Verdict.{Verdict}
use Rattle.lrc_races_claims.specs.Judge.{AreVerdicts}
use Rattle.lrc_races_claims.proofs.Renaming.{same_side}
use Rattle.lrc_races_scored.specs.declared.missed.Missed.{Missed}
use Rattle.lrc_races_scored.specs.declared.sort.Sort.{Sort}
use Rattle.lrc_races_scored.specs.declared.tally.Tally.{Tally}
use Rattle.lrc_races_scored.specs.Sorts.{claims_of, false_of, is_scored, true_of}
use Rattle.lrc_races_scored.specs.Missing.{AreMissed}
use Rattle.lrc_races_scored.specs.Scored.{HasScored, status_of}
use Rattle.lrc_races_scored.specs.Spelled.{judged_lines, locations_line, missed_lines, score_line, score_lines, tally_line}

five_parts : (old a b c d e : List ℕ) → ((((old ++ a) ++ b) ++ c) ++ d) ++ e ≡ old ++ together (a ∷ b ∷ c ∷ d ∷ e ∷ [])
five_parts old a b c d e = simp (append_assoc, append-nil)

pub five_together : (old one two three four five a b c d e : List ℕ) → one ≡ old ++ a → two ≡ one ++ b → three ≡ two ++ c → four ≡ three ++ d → five ≡ four ++ e
    → five ≡ old ++ together (a ∷ b ∷ c ∷ d ∷ e ∷ [])
five_together old one two three four five a b c d e e1 e2 e3 e4 e5 =
    e5 ∙ ap (λ t. t ++ e) (e4 ∙ ap (λ t. t ++ d) (e3 ∙ ap (λ t. t ++ c) (e2 ∙ ap (λ t. t ++ b) e1))) ∙ five_parts old a b c d e

pub unscored_line : (claims : List LinedClaim) (verdicts : List Verdict) (sort : Sort) (missed : ℕ) (says : Bool) (old : List ℕ) → says ≡ is_scored sort claims
    → says ≡ false → old ≡ old ++ score_line claims verdicts sort missed
unscored_line claims verdicts sort missed says old same unset =
    subst (λ (b : Bool). old ≡ old ++ cond b (tally_line sort
    (record { claims = claims_of sort claims; right = true_of sort claims verdicts; wrong = false_of sort claims verdicts }) missed) []) (sym unset ∙ same)
    (sym (append-nil old))

abbrev made : ℕ → ℕ → ℕ → Tally
made all right wrong = record { claims = all; right = right; wrong = wrong }

pub scored_line : {T E : Type 0} (result : Result T E) (claims : List LinedClaim) (verdicts : List Verdict) (sort : Sort) (missed : ℕ) (says : Bool) (tally : Tally)
    (old new : List ℕ) → says ≡ is_scored sort claims → says ≡ true → tally.claims ≡ claims_of sort claims → tally.right ≡ true_of sort claims verdicts
    → tally.wrong ≡ false_of sort claims verdicts → OnOk result (new ≡ old ++ tally_line sort tally missed)
    → OnOk result (new ≡ old ++ score_line claims verdicts sort missed)
scored_line result claims verdicts sort missed says tally old new same set e f g ok = on_ok_weaker result (λ is. is ∙ ap (λ l. old ++ l) line) ok
  where
    one : tally ≡ made (claims_of sort claims) (true_of sort claims verdicts) (false_of sort claims verdicts)
    one =
        ap (λ n. made n tally.right tally.wrong) e ∙ ap (λ n. made (claims_of sort claims) n tally.wrong) f
        ∙ ap (λ n. made (claims_of sort claims) (true_of sort claims verdicts) n) g

    line : tally_line sort tally missed ≡ score_line claims verdicts sort missed
    line =
        ap (λ (t : Tally). tally_line sort t missed) one
        ∙ subst (λ (b : Bool). tally_line sort (made (claims_of sort claims) (true_of sort claims verdicts) (false_of sort claims verdicts)) missed
        ≡ cond b (tally_line sort (made (claims_of sort claims) (true_of sort claims verdicts) (false_of sort claims verdicts)) missed) []) (sym set ∙ same) refl

-- by another number that is the same
pub scored_part : (claims : List LinedClaim) (verdicts : List Verdict) (sort : Sort) (old new : List ℕ) (n m : ℕ) → new ≡ old ++ score_line claims verdicts sort n
    → n ≡ m → new ≡ old ++ score_line claims verdicts sort m
scored_part claims verdicts sort old new n m is same = is ∙ ap (λ k. old ++ score_line claims verdicts sort k) same

-- ---- what is missed

same_lines : {X : Type 0} (f g : X → List ℕ) → ((x : X) → f x ≡ g x) → (xs : List X) → flat_map f xs ≡ flat_map g xs
same_lines f g same [] = refl
same_lines f g same (x ∷ xs) = ap (λ l. l ++ flat_map f xs) (same x) ∙ ap (λ l. g x ++ l) (same_lines f g same xs)

pub lines_seen : {X : Type 0} (f g : X → List ℕ) → ((x : X) → f x ≡ g x) → (seen items : List X) (old new : List ℕ) → seen ≡ items
    → new ≡ old ++ flat_map f seen → new ≡ old ++ flat_map g items
lines_seen f g same seen items old new e is = is ∙ ap (λ l. old ++ flat_map f l) e ∙ ap (λ l. old ++ l) (same_lines f g same items)

pub same_locations : (naming other : Naming) → naming.locations ≡ other.locations → (pair : Pair) → locations_line naming pair ≡ locations_line other pair
same_locations naming other e pair =
    ap (λ (a : List ℕ). together (codes "missed locations " ∷ a ∷ codes "|" ∷ side_place naming pair.later.event.location ∷ codes "\n" ∷ []))
    (same_side naming other e pair.earlier.event.location)
    ∙ ap (λ (b : List ℕ). together (codes "missed locations " ∷ side_place other pair.earlier.event.location ∷ codes "|" ∷ b ∷ codes "\n" ∷ []))
    (same_side naming other e pair.later.event.location)

-- ---- all that is printed

pub has_scored : (sought : Sought) (naming : Naming) (events : List Event) (last : ℕ) (claims : List LinedClaim) (threads : List (List ℕ))
    (verdicts seen seen' : List Verdict) (missed : Missed) (status : ℕ) (old mid new : List ℕ) → naming.threads ≡ threads → seen ≡ verdicts → seen' ≡ verdicts
    → AreVerdicts sought naming events last claims verdicts → AreMissed sought naming events claims missed
    → mid ≡ old ++ judged_lines sought threads claims seen
    → (new ≡ mid ++ (missed_lines naming missed ++ score_lines claims seen' missed)) × (status ≡ status_of seen' missed)
    → HasScored sought naming events last claims old status new
has_scored sought naming events last claims threads verdicts seen seen' missed status old mid new same e e' judged are was (is, answer) = (
  judged_lines sought naming.threads claims verdicts ++ rest verdicts,
  is ∙ ap (λ v. mid ++ rest v) e' ∙ ap (λ t. t ++ rest verdicts) begun ∙ append_assoc old (judged_lines sought naming.threads claims verdicts) (rest verdicts),
  record { verdicts = verdicts; missed = missed; judged = judged; are_missed = are; text = refl; answer = answer ∙ ap (λ v. status_of v missed) e' },
)
  where
    rest : List Verdict → List ℕ
    rest v = missed_lines naming missed ++ score_lines claims v missed

    begun : mid ≡ old ++ judged_lines sought naming.threads claims verdicts
    begun = was ∙ ap (λ v. old ++ judged_lines sought threads claims v) e ∙ ap (λ t. old ++ judged_lines sought t claims verdicts) (sym same)

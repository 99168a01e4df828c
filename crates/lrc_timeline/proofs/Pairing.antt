-- Acts with their times.
use Rattle.std.proofs.Common.{◌≡◌, ◌∙◌, ℕ, ◌+◌, ◌<◌, List, [], ◌∷◌, ◌++◌, ap, arith, get_or, length, map, refl, take}
use Rattle.std.proofs.lemmas.List.{length-take, take_more}
use Rattle.lrc_trace.specs.declared.act.Act.{Act}
use Rattle.lrc_timeline.specs.Timeline.{Timed, timed}

abbrev pub with_time : Act → List ℕ → Timed
with_time act time = record { node = act.node; time = time }

timed_push : (acts : List Act) (act : Act) (times : List (List ℕ)) → length acts < length times
    → timed (acts ++ act ∷ []) times ≡ timed acts times ++ with_time act (get_or times (length acts) []) ∷ []
timed_push [] act [] more = absurd (omega arith)
timed_push [] act (time ∷ times) more = refl
timed_push (first ∷ acts) act [] more = absurd (omega arith)
timed_push (first ∷ acts) act (time ∷ times) more = ap (λ (l : List Timed). with_time first time ∷ l) (timed_push acts act times (omega arith))

-- one act more
pub timed_more : (acts : List Act) (times : List (List ℕ)) (n : ℕ) (none : Act) → n < length acts → n < length times
    → timed (take (n + 1) acts) times ≡ timed (take n acts) times ++ with_time (get_or acts n none) (get_or times n []) ∷ []
timed_more acts times n none inside long =
    let many : length (take n acts) ≡ n = omega (arith, inside, length-take n acts) in
    ap (λ (l : List Act). timed l times) (take_more acts n none inside)
    ∙ timed_push (take n acts) (get_or acts n none) times (omega (arith, many, long))
    ∙ ap (λ k. timed (take n acts) times ++ with_time (get_or acts n none) (get_or times k []) ∷ []) many

-- the times of acts with times
pub times_of_timed : (acts : List Act) (times : List (List ℕ)) → length times ≡ length acts → map (λ act. act.time) (timed acts times) ≡ times
times_of_timed [] [] same = refl
times_of_timed [] (time ∷ times) same = absurd (omega arith)
times_of_timed (act ∷ acts) [] same = absurd (omega arith)
times_of_timed (act ∷ acts) (time ∷ times) same = ap (λ (l : List (List ℕ)). time ∷ l) (times_of_timed acts times (omega arith))

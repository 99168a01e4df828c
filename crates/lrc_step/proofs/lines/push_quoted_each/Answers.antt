use Rattle.std.proofs.Common.{◌≡◌, ◌∙◌, ◌<◌, ◌+◌, ◌++◌, [], ℕ, Bor, List, ap, sym, arith, append_assoc, length, map, take, get_or}
use Rattle.std.proofs.lemmas.List.{get_or-map, length-map}
use Rattle.lrc_text.proofs.Each.{each_more}
use Rattle.lrc_step.specs.Lines.{quoted_at, quoted_each}
use Rattle.lrc_step.proofs.lines.push_quoted_each.Goals as goal

abbrev bytes_of : Bor (List ℕ) → List ℕ
bytes_of line = line.now

-- one line more
more : (old so_far next : List ℕ) (lines : List (Bor (List ℕ))) (n : ℕ) (d : Bor (List ℕ)) → n < length lines
    → so_far ≡ old ++ quoted_each (take n (map bytes_of lines)) → next ≡ so_far ++ quoted_at n (get_or lines n d).now
    → next ≡ old ++ quoted_each (take (n + 1) (map bytes_of lines))
more old so_far next lines n d within before is =
    let texts : List (List ℕ) = map bytes_of lines in
    let many : length texts ≡ length lines = length-map lines bytes_of in
    let here : get_or texts n [] ≡ (get_or lines n d).now = get_or-map bytes_of lines n d [] within in
    is
    ∙ ap (λ (l : List ℕ). so_far ++ quoted_at n l) (sym here)
    ∙ ap (λ (l : List ℕ). l ++ quoted_at n (get_or texts n [])) before
    ∙ append_assoc old (quoted_each (take n texts)) (quoted_at n (get_or texts n []))
    ∙ ap (λ (l : List ℕ). old ++ l) (sym (each_more quoted_at texts n [] (omega (arith, within, many))))

pub loop-place-preserved : goal.loop-place-preserved
loop-place-preserved c = more c.args.text.now.items c.loop-place.text.items c.push_quoted_at.new.text.items c.args.lines.now c.loop-place.place _
    c.loop-place-test.true c.loop-place.invariant c.in_ok-push_quoted_at.ensures

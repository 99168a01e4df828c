use Rattle.std.proofs.Common.{rules, ◌≡◌, ◌∙◌, ◌<◌, ◌≤◌, ℕ, Bool, Bor, List, Option, [], ap, ap₂, length, option_map, subst}
use Rattle.std.specs.Prelude.{if◌then◌else◌}
use Rattle.lrc_turns_text.specs.Turns.{Made}
use Rattle.lrc_chart_rows.specs.Rows.{rows_of}
use Rattle.lrc_chart_rows.specs.declared.row.Row.{Row}
use Rattle.lrc_chart_build.specs.declared.part.Part.{Part}
use Rattle.lrc_chart_build.specs.declared.part.Place.{Place}
use Rattle.lrc_chart_build.specs.Course.{CourseRecord, ends_in, kept_of, rows_in, rows_shown}
use Rattle.lrc_chart_build.specs.Portrait.{IsPictureOf, MOST_SHOWN, waits_shown}
use Rattle.lrc_chart_build.proofs.portrait.portrait_of.Goals as goal

-- the rows that are shown, by the steps that lead to them
shown_are : (course : CourseRecord) (part : Part) (turns : List Made) (rows slice found : List Row) (places : List Place)
    → places ≡ kept_of turns part.hides_quiet found → found ≡ rows_in part slice → slice ≡ rows → rows ≡ rows_of turns → turns ≡ course.turns
    → places ≡ rows_shown course part
shown_are course part turns rows slice found places places_are found_is slice_is rows_are turns_are =
    places_are ∙ ap (kept_of turns part.hides_quiet) (found_is ∙ ap (rows_in part) (slice_is ∙ rows_are))
    ∙ ap (λ (t : List Made). kept_of t part.hides_quiet (rows_in part (rows_of t))) turns_are

-- and for whom nodes are shown to wait
waits_are : (course : CourseRecord) (part : Part) (turns : List Made) (rows slice : List Row) (ends : Bool) (waits given : List (Option ℕ))
    → waits ≡ (if ends then given else []) → ends ≡ ends_in part slice → slice ≡ rows → rows ≡ rows_of turns → turns ≡ course.turns
    → given ≡ course.waits → waits ≡ waits_shown course part
waits_are course part turns rows slice ends waits given is ends_is slice_is rows_are turns_are given_is =
    is
    ∙ ap₂ (λ (b : Bool) (w : List (Option ℕ)). if b then w else [])
    (ends_is ∙ ap (ends_in part) (slice_is ∙ rows_are ∙ ap rows_of turns_are)) given_is

abbrev turns_in : CourseRecord → List Made
turns_in course = course.turns

abbrev waits_in : CourseRecord → List (Option ℕ)
waits_in course = course.waits

pub returns-then-len-gt-MOST_ROWS-clause-err : goal.returns-then-len-gt-MOST_ROWS-clause-err
returns-then-len-gt-MOST_ROWS-clause-err c = λ _.
    let many : c.len.result ≡ length c.in_ok-places.places.items = search rules in
    subst (λ (l : List Place). MOST_SHOWN < length l)
    (shown_are c.args.course.now c.args.part c.course.inside.turns.now c.in_ok-rows.rows.items c.as_slice.result.now c.rows_in.result.now
    c.in_ok-places.places.items c.in_ok-places.ensures c.rows_in.ensures c.as_slice.ensures.value c.in_ok-rows.ensures
    (ap turns_in c.course.view_is)) (subst (λ n. MOST_SHOWN < n) many c.if-len-gt-MOST_ROWS.true)

pub returns-clause-ok : goal.returns-clause-ok
returns-clause-ok c =
    let source = option_map (λ (text : Bor (List ℕ)). text.now) c.args.source in
    let places = c.as_slice-3.result.now in
    let picture = c.in_ok-picture_of.field-0 in
    subst (λ (w : List (Option ℕ)). IsPictureOf c.args.title.now c.args.nodes c.args.course.now w (rows_shown c.args.course.now c.args.part) source picture)
    (waits_are c.args.course.now c.args.part c.course.inside.turns.now c.in_ok-rows.rows.items c.as_slice-2.result.now c.ends_in.result
    c.waits_if-waits.result.now c.course.inside.waits.now c.waits_if-waits.ensures c.ends_in.ensures c.as_slice-2.ensures.value c.in_ok-rows.ensures
    (ap turns_in c.course.view_is) (ap waits_in c.course.view_is))
    (subst (λ (l : List Place). IsPictureOf c.args.title.now c.args.nodes c.args.course.now c.waits_if-waits.result.now l source picture)
    (c.as_slice-3.ensures.value
    ∙ shown_are c.args.course.now c.args.part c.course.inside.turns.now c.in_ok-rows.rows.items c.as_slice.result.now c.rows_in.result.now
    c.in_ok-places.places.items c.in_ok-places.ensures c.rows_in.ensures c.as_slice.ensures.value c.in_ok-rows.ensures
    (ap turns_in c.course.view_is)) c.in_ok-picture_of.ensures)

pub returns-clause-short : goal.returns-clause-short
returns-clause-short c =
    let many : c.len.result ≡ length c.in_ok-places.places.items = search rules in
    subst (λ (l : List Place). length l ≤ MOST_SHOWN)
    (shown_are c.args.course.now c.args.part c.course.inside.turns.now c.in_ok-rows.rows.items c.as_slice.result.now c.rows_in.result.now
    c.in_ok-places.places.items c.in_ok-places.ensures c.rows_in.ensures c.as_slice.ensures.value c.in_ok-rows.ensures
    (ap turns_in c.course.view_is)) (subst (λ n. n ≤ MOST_SHOWN) many c.if-len-gt-MOST_ROWS.false)

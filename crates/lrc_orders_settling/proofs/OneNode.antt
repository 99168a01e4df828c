-- A node that settles while those before it are settled: its free acts come first.
use Rattle.std.proofs.Common.{◌≡◌, ℕ, ◌<◌, List, [], ◌∷◌, ◌++◌, Bool, true, false, length, refl, sym, ap, ◌∙◌, subst, arith}
use Rattle.std.specs.Prelude.{Option, Some, None, slice_set, if◌then◌else◌}
use Rattle.std.proofs.lemmas.List.{get_or-set_same, get_or-set_other, length-set, set-set, set-get_or}
use Rattle.lrc_trace.specs.declared.act.Act.{Act}
use Rattle.lrc_trace.specs.declared.act.Deed.{Deed}
use Rattle.lrc_trace.specs.declared.act.Deed.TheVariants.{Acquire}
use Rattle.lrc_exec.specs.declared.spot.Flat.{Flat}
use Rattle.lrc_exec.specs.declared.spot.Spot.{Spot}
use Rattle.lrc_exec.specs.Spots.{thread_at, spot_thread}
use Rattle.lrc_exec.specs.Meaning.{Setting, Thread, Next}
use Rattle.lrc_exec.specs.Plain.{Plain, thread_in}
use Rattle.lrc_exec.proofs.NextLaws.{IsFine, next_of-fine}
use Rattle.lrc_exec.specs.Follows.{Goes, quietly, printing, reading, writing, acquiring, releasing, arriving, departing, trapping, ending}
use Rattle.lrc_orders.proofs.Effects.{after_of, holders_after}
use Rattle.lrc_orders_laws.specs.Free.{is_free_in, is_contended, TurnsIn}
use Rattle.lrc_orders_laws.specs.Rows.{AreAlike}
use Rattle.lrc_orders_laws.specs.Settling.{IsSettledAt, Settles, settling}
use Rattle.lrc_orders_laws.specs.Threads.{ThreadSettles, stopped, waits, turns, goes}
use Rattle.lrc_orders_laws.proofs.Parts.{can_step}
use Rattle.lrc_orders_laws.proofs.Diamond.{true_is_false, memory_still}
use Rattle.lrc_orders_laws.proofs.Finishing.{free_can, free_steady}
use Rattle.lrc_orders_settling.specs.Gone.{acts_by, freed_by, freed, gone}

-- after the free acts of a node: settling goes on from there
pub record Goings (machine : Plain) (node : ℕ) (deeds : List Deed) (there : Option Thread) : Type 0 where
  pub after : Plain
  pub alike : AreAlike after (gone machine node deeds there)
  pub on : (rest : List Act) (final : Plain) → Settles after rest final → Settles machine (acts_by node deeds ++ rest) final

-- a free deed takes no lock
free_frees : (node : ℕ) (deed : Deed) (holders : List (Option ℕ)) → is_contended deed ≡ false → holders_after node deed holders ≡ freed_by deed holders
free_frees node (Acquire lock) holders e = true_is_false true refl e
free_frees node _ holders e = refl

going_none : (machine : Plain) (node : ℕ) (o : Option Thread) → thread_in machine node ≡ o → Goings machine node [] o
going_none machine node o at = record {
  after = machine;
  alike = record {
    memory = refl;
    holders = refl;
    threads = sym (set-get_or machine.threads node None) ∙ ap (slice_set machine.threads node) at;
  };
  on = λ rest final s. s;
}

pub going : (machine : Plain) (node : ℕ) → node < length machine.threads → ((other : ℕ) → other < node → IsSettledAt machine other)
    → (o there : Option Thread) (deeds : List Deed) → thread_in machine node ≡ o → ThreadSettles o deeds there → Goings machine node deeds there
going machine node within lower None None [] at stopped = going_none machine node None at
going machine node within lower None None (deed ∷ deeds) at s = elim s [ ]
going machine node within lower None (Some _) deeds at s = elim s [ ]
going machine node within lower (Some thread) _ [] at (waits _ e) = going_none machine node (Some thread) at
going machine node within lower (Some thread) _ [] at (turns _ e) = going_none machine node (Some thread) at
going machine node within lower (Some thread) there (deed ∷ deeds) at (goes _ _ after _ _ g free never more) =
    let mid : Plain = after_of machine node deed after in
    let steady : is_contended deed ≡ false = free_steady g free in
    let step = can_step machine node thread deed at refl g (free_can machine node g free) in
    let own : thread_in mid node ≡ after = get_or-set_same machine.threads node after None within in
    let still : (other : ℕ) → other < node → IsSettledAt mid other = λ other lt.
    subst (λ (x : Option Thread). is_free_in x ≡ true → TurnsIn x)
    (sym (get_or-set_other machine.threads node other after None (λ e. absurd (omega (arith, lt, e))))) (lower other lt) in
    let rest = going mid node (omega (arith, within, length-set machine.threads node after)) still after there deeds own more in
    record {
      after = rest.after;
      alike = record {
        memory = rest.alike.memory ∙ memory_still deed machine.memory steady;
        holders = rest.alike.holders ∙ ap (freed deeds) (free_frees node deed machine.holders steady);
        threads = rest.alike.threads ∙ set-set machine.threads node after there;
      };
      on = λ later final s. settling machine mid final node deed (acts_by node deeds ++ later)
          (record {
            free = ap is_free_in at ∙ free;
            stops = λ turning. never (subst TurnsIn at turning);
            lowest = lower;
          }) step (rest.on later final s);
    }

-- ---- the thread to which one settles

-- its setting stays
keeps_setting : (thread : Thread) {next : Next} {deed : Deed} {after : Option Thread} → Goes next deed after → IsFine thread next → (there : Thread)
    → after ≡ Some there → there.setting ≡ thread.setting
keeps_setting thread (quietly {t = t}) f there e = let same : t ≡ there = cc in ap (λ (x : Thread). x.setting) (sym same) ∙ f.1.setting
keeps_setting thread (printing {t = t}) f there e = let same : t ≡ there = cc in ap (λ (x : Thread). x.setting) (sym same) ∙ f.1.setting
keeps_setting thread (reading {t = t} {v = v}) f there e = let same : t v ≡ there = cc in ap (λ (x : Thread). x.setting) (sym same) ∙ (f.1 v).1.setting
keeps_setting thread (writing {t = t}) f there e = let same : t ≡ there = cc in ap (λ (x : Thread). x.setting) (sym same) ∙ f.1.1.setting
keeps_setting thread (acquiring {t = t}) f there e = let same : t ≡ there = cc in ap (λ (x : Thread). x.setting) (sym same) ∙ f.3.setting
keeps_setting thread (releasing {t = t}) f there e = let same : t ≡ there = cc in ap (λ (x : Thread). x.setting) (sym same) ∙ f.3.setting
keeps_setting thread (arriving {t = t}) f there e = let same : t ≡ there = cc in ap (λ (x : Thread). x.setting) (sym same) ∙ f.1.setting
keeps_setting thread (departing {t = t}) f there e = let same : t ≡ there = cc in ap (λ (x : Thread). x.setting) (sym same) ∙ f.1.setting
keeps_setting thread trapping f there e = cc
keeps_setting thread ending f there e = cc

none_on : {there : Option Thread} {deeds : List Deed} {X : Type 0} → ThreadSettles None deeds there → {after : Thread} → there ≡ Some after → X
none_on stopped e = cc

pub settles_setting : {o there : Option Thread} {deeds : List Deed} → ThreadSettles o deeds there → (before after : Thread) → o ≡ Some before
    → there ≡ Some after → after.setting ≡ before.setting
settles_setting stopped before after e f = cc
settles_setting (waits thread is) before after e f =
    let same : before ≡ after = cc in ap (λ (x : Thread). x.setting) (sym same)
settles_setting (turns thread is) before after e f =
    let same : before ≡ after = cc in ap (λ (x : Thread). x.setting) (sym same)
settles_setting (goes thread deed None there deeds g free never more) before after e f = none_on more f
settles_setting (goes thread deed (Some x) there deeds g free never more) before after e f =
    let same : thread ≡ before = cc in
    settles_setting more x after refl f ∙ keeps_setting thread g (next_of-fine thread) x refl ∙ ap (λ (y : Thread). y.setting) same

-- and it is settled
pub settles_settled : {o there : Option Thread} {deeds : List Deed} → ThreadSettles o deeds there → is_free_in there ≡ true → TurnsIn there
settles_settled stopped e = true_is_false true refl (sym e)
settles_settled (waits thread is) e = true_is_false (is_free_in (Some thread)) e is
settles_settled (turns thread is) e = is
settles_settled (goes thread deed after there deeds g free never more) e = settles_settled more e

-- the node keeps its number
settled_number : (flat : Flat) (old new : Spot) (deeds : List Deed) (was is : Bool) → old.stopped ≡ was → new.stopped ≡ is → is ≡ false
    → ThreadSettles (if was then None else Some (record (thread_at flat old) { arrived = old.arrived })) deeds
    (if is then None else Some (record (thread_at flat new) { arrived = new.arrived })) → new.me ≡ old.me
settled_number flat old new deeds was true e f on s = cc
settled_number flat old new deeds true false e f on s = none_on s refl
settled_number flat old new deeds false false e f on s = ap (λ (x : Setting). x.me) (settles_setting s _ _ refl refl)

pub keeps_number : (flat : Flat) (old new : Spot) (deeds : List Deed) → ThreadSettles (spot_thread flat old) deeds (spot_thread flat new)
    → new.stopped ≡ false → new.me ≡ old.me
keeps_number flat old new deeds s on = settled_number flat old new deeds old.stopped new.stopped refl refl on s

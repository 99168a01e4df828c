-- Misses: what a page needs, and that it can be read once it is repaired.
use Rattle.std.proofs.Common.{◌≡◌, ℕ, ◌<◌, Bool, true, false, List, [], refl, sym, ◌∙◌, ap}
use Rattle.std.specs.Prelude.{Option, Some, None, All, not, if◌then◌else◌}
use Rattle.std.proofs.lemmas.Bool.{and_parts}
use Rattle.std.proofs.lemmas.List.Elements.{All-map, All-nil}
use Rattle.lrc_page.specs.declared.size.Size.{Size}
use Rattle.lrc_exec.specs.declared.machine.Ask.{Ask}
use Rattle.lrc_exec.specs.declared.machine.Ask.TheVariants.{Quiet, Print, Read, Write, Acquire, Release, Barrier, Trap, End}
use Rattle.lrc_store.specs.declared.key.Key.{Key}
use Rattle.lrc_store.specs.Store.{key_of}
use Rattle.lrc_memory.specs.Turns.{is_mendable}
use Rattle.lrc_need.specs.Need.{DueBelow}
use Rattle.lrc_need.proofs.Asking.{asked-below}
use Rattle.lrc_mail.proofs.Receivers.{requests-below}
use Rattle.lrc_protocol.specs.Pages.{Copy, valid, written, invalid, absent, is_readable, Memory, copy_at, missing_at, missing_in, keeper_at, Need}
use Rattle.lrc_protocol.specs.Pages.{base_of, is_due, is_met, need_of, unknown_of, repaired}
use Rattle.lrc_protocol.specs.Node.{Letter, access, nothing, Node, acts, sends, waiting, with_memory}
use Rattle.lrc_protocol.specs.Turn.{requests_of, reaches, fetches}
use Rattle.lrc_node.specs.Effects.{AccessesPage, CanAccess}
use Rattle.lrc_node.specs.State.{AreFor}

lacking_on : (memory : Memory) (page : ℕ) (copy : Copy) → All (λ (key : Key). key.page ≡ page) (missing_in memory page copy)
lacking_on memory page (valid values) = All-nil (λ (key : Key). key.page ≡ page)
lacking_on memory page (written values twin) = All-nil (λ (key : Key). key.page ≡ page)
lacking_on memory page (invalid values since) = All-map (λ (key : Key). key.page ≡ page) (key_of page) _ (λ k d h. refl)
lacking_on memory page absent = All-map (λ (key : Key). key.page ≡ page) (key_of page) _ (λ k d h. refl)

-- what a copy lacks is of its page
pub lacking_of_page : (memory : Memory) (page : ℕ) → All (λ (key : Key). key.page ≡ page) (missing_at memory page)
lacking_of_page memory page = lacking_on memory page (copy_at memory page)

fits : (size : Size) (keeper : ℕ) (copy : Copy) → is_readable copy ≡ false → is_due (base_of keeper copy) ≡ false
    → is_mendable size copy (base_of keeper copy) ≡ true
fits size keeper (valid values) r d = cc
fits size keeper (written values twin) r d = cc
fits size keeper (invalid values since) r d = refl
fits size keeper absent r d = cc

not_true : (b : Bool) → not b ≡ true → b ≡ false
not_true true e = cc
not_true false e = refl

-- a need that is met at once can be mended
pub fits_at_once : (size : Size) (nodes : ℕ) (memory : Memory) (page : ℕ) → is_readable (copy_at memory page) ≡ false
    → is_met (need_of nodes memory page) ≡ true → is_mendable size (copy_at memory page) (base_of (keeper_at memory page) (copy_at memory page)) ≡ true
fits_at_once size nodes memory page r met =
    fits size (keeper_at memory page) (copy_at memory page) r
    (not_true (is_due (base_of (keeper_at memory page) (copy_at memory page))) (and_parts _ _ met).0)

-- with its page readable an access can be made
pub can_access : (node : Node) (memory : Memory) (page : ℕ) (ask : Option Ask) → AccessesPage node page ask → is_readable (copy_at memory page) ≡ true
    → CanAccess (record node { memory = memory }) ask
can_access node memory page None a r = tt
can_access node memory page (Some Quiet) a r = tt
can_access node memory page (Some (Print value)) a r = tt
can_access node memory page (Some (Read word)) a r = (a.0, ap (λ p. is_readable (copy_at memory p)) a.1 ∙ r)
can_access node memory page (Some (Write word value)) a r = (a.0, ap (λ p. is_readable (copy_at memory p)) a.1 ∙ r)
can_access node memory page (Some (Acquire lock)) a r = tt
can_access node memory page (Some (Release lock)) a r = tt
can_access node memory page (Some Barrier) a r = tt
can_access node memory page (Some (Trap cause)) a r = tt
can_access node memory page (Some End) a r = tt

due_below : (nodes keeper : ℕ) (copy : Copy) → keeper < nodes → DueBelow nodes (base_of keeper copy)
due_below nodes keeper (valid values) lt = tt
due_below nodes keeper (written values twin) lt = tt
due_below nodes keeper (invalid values since) lt = tt
due_below nodes keeper absent lt = lt

-- what a page needs is asked of nodes
pub requests_for : (nodes : ℕ) (memory : Memory) (page : ℕ) → keeper_at memory page < nodes → AreFor nodes (requests_of (need_of nodes memory page))
requests_for nodes memory page lt =
    requests-below nodes (need_of nodes memory page) (due_below nodes (keeper_at memory page) (copy_at memory page) lt)
    (asked-below nodes (unknown_of memory.store (missing_at memory page)))

-- ---- what a miss does

missed : (node : Node) (page : ℕ) (readable : Bool) → readable ≡ false
    → (if readable then acts [] node else (let need = need_of node.setting.nodes node.memory page in fetches (requests_of need) node need))
    ≡ (let need = need_of node.setting.nodes node.memory page in fetches (requests_of need) node need)
missed node page true e = cc
missed node page false e = refl

pub reaches_missing : (node : Node) (page : ℕ) (need : Need) → is_readable (copy_at node.memory page) ≡ false
    → need ≡ need_of node.setting.nodes node.memory page → reaches node page ≡ fetches (requests_of need) node need
reaches_missing node page need r e =
    missed node page (is_readable (copy_at node.memory page)) r
    ∙ sym (ap (λ n. fetches (requests_of n) node n) e)

met_at : (letters : List Letter) (node : Node) (need : Need) (met : Bool) → met ≡ true
    → (if met then acts letters (waiting nothing (with_memory node (repaired node.memory need))) else sends letters (waiting (access need) node))
    ≡ acts letters (waiting nothing (with_memory node (repaired node.memory need)))
met_at letters node need true e = refl
met_at letters node need false e = cc

pub access_met : (letters : List Letter) (node : Node) (need : Need) → is_met need ≡ true
    → fetches letters node need ≡ acts letters (waiting nothing (with_memory node (repaired node.memory need)))
access_met letters node need e = met_at letters node need (is_met need) e

-- All that is proved of a close, from what is proved of its steps at the tree and at level 3.
use Rattle.gate_schedules.proofs.Prelude.{CauseOf, ClosePhase, Config, DownRead, HasReason, HookAnswer, IsGood, IsWithin, List, Next, Ok, Phase}
use Rattle.gate_schedules.proofs.Prelude.{Reply, Some, StepKeeps, SyncStep, World, after_step, ap, arith, cases_Bool, closed, common_steps}
use Rattle.gate_schedules.proofs.Prelude.{down_read_after, found_at, held_of, inl, inr, level_in, map_next, phase_after, refl, rephased, sync_role_of}
use Rattle.gate_schedules.proofs.Prelude.{value_at, word_of, ℕ, ◌<◌, ◌==◌, ◌∙◌, ◌∷◌, ◌≡◌, ◌≤◌}
use Rattle.composite_ops.specs.file_closes.Phases.{after, leaves_on, then_frees}
use Rattle.gate_world.specs.{Fits.CloseFits, SameRoles.SameRolesOffTree, refusals.Causes.asks_level, traces.TraceStates.CloseReadIsValid}
use Rattle.node_words.specs.Nodes.{any_file_in}
use Rattle.gate_schedules.proofs.frames.{OperationLaws.PhaseLaws, Snapshots.completes_none, ValidWords.events_may_be}
use Rattle.gate_schedules.proofs.operations.close.Causes.{enters_asks, enters_cause, looked_cause}
use Rattle.gate_schedules.proofs.operations.close.{Fits.{close_acts, close_agrees, close_goes, close_there}, LevelEvents.{beside_ends, beside_enters}}
use Rattle.gate_schedules.proofs.operations.close.LevelEvents.{beside_reads, beside_runs, close_fits_now, enters_level, leaves_level}
use Rattle.gate_schedules.proofs.operations.close.Parts.{close_run, frees_node, loads_file, lowers_count, refunds_blocks, uncounts}
use Rattle.gate_schedules.proofs.operations.readers.{Causes.{read_not_closed, read_own}, Laws.{end_phase, read_phase}}

-- each step keeps the invariant, and moves the shown state by its action or not at all
pub close_keeps : (c : Config) → IsWithin c → (w : World) → IsGood c w → (t : ℕ) → t < c.tasks → (hook : HookAnswer) → (x : ClosePhase) →
    (w.views t).phase ≡ Some (Phase.Closes x) → StepKeeps c w t hook (Phase.Closes x)
close_keeps c lim w good t lt hook (ClosePhase.LoadsFile x) e = loads_file c lim w good t lt hook x e
close_keeps c lim w good t lt hook (ClosePhase.LowersCount x node) e = lowers_count c lim w good t lt hook x node e
close_keeps c lim w good t lt hook (ClosePhase.Enters file node r) e = enters_level c lim w good t lt hook file node r e
close_keeps c lim w good t lt hook (ClosePhase.FreesNode file p node) e = frees_node c lim w good t lt hook file p node e
close_keeps c lim w good t lt hook (ClosePhase.RefundsBlocks p blocks) e = refunds_blocks c lim w good t lt hook p blocks e
close_keeps c lim w good t lt hook (ClosePhase.Uncounts p) e = uncounts c lim w good t lt hook p e
close_keeps c lim w good t lt hook (ClosePhase.Leaves p) e = leaves_level c lim w good t lt hook p e

-- each step is one of each level's kinds of step
close_runs : (c : Config) → IsWithin c → (w : World) → IsGood c w → (t : ℕ) → t < c.tasks → (hook : HookAnswer) → (x : ClosePhase) →
    (w.views t).phase ≡ Some (Phase.Closes x) → (i : ℕ) → 1 ≤ i → i ≤ 3 →
    SyncStep c.tasks (level_in w i) (level_in (after_step w t (Phase.Closes x) hook) i)
close_runs c lim w good t lt hook (ClosePhase.LoadsFile x) e i one three = close_run c w t lt hook (ClosePhase.LoadsFile x) refl e i
close_runs c lim w good t lt hook (ClosePhase.LowersCount x node) e i one three = close_run c w t lt hook (ClosePhase.LowersCount x node) refl e i
close_runs c lim w good t lt hook (ClosePhase.Enters file node r) e i one three =
    let b : SameRolesOffTree (w.views t).phase (Some (Phase.DownReads r)) × IsGood c (rephased w t (Some (Phase.DownReads r))) =
    beside_reads c w good t lt file node r e in
    let n : Next DownRead = (down_read_after r r.step (found_at w.words (Phase.DownReads r) hook)).0 in
    beside_runs c w t lt hook (Phase.DownReads r) b.0 b.1 (map_next Phase.Closes (then_frees file node r.cpu n)) (beside_enters file r.cpu node n) i
    (λ g at. (read_phase c r).runs lim (rephased w t (Some (Phase.DownReads r))) g t lt hook at i one three)
close_runs c lim w good t lt hook (ClosePhase.FreesNode file p node) e i one three = close_run c w t lt hook (ClosePhase.FreesNode file p node) refl e i
close_runs c lim w good t lt hook (ClosePhase.RefundsBlocks p blocks) e i one three = close_run c w t lt hook (ClosePhase.RefundsBlocks p blocks) refl e i
close_runs c lim w good t lt hook (ClosePhase.Uncounts p) e i one three = close_run c w t lt hook (ClosePhase.Uncounts p) refl e i
close_runs c lim w good t lt hook (ClosePhase.Leaves p) e i one three =
    let q : Phase = Phase.UpReads (leaves_on p) in
    let b : SameRolesOffTree (w.views t).phase (Some q) × IsGood c (rephased w t (Some q)) = beside_ends c w good t lt p e in
    beside_runs c w t lt hook q b.0 b.1 (Next.Done (Ok Reply.Unit)) refl i
    (λ g at. (end_phase c (leaves_on p)).runs lim (rephased w t (Some q)) g t lt hook at i one three)

-- its cause stays while others step
close_stays : (c : Config) (t : ℕ) (w next : World) (earlier : List World) (x : ClosePhase) → (next.views t).phase ≡ Some (Phase.Closes x) →
    CauseOf c t w earlier (Some (Phase.Closes x)) → CauseOf c t next (w ∷ earlier) (Some (Phase.Closes x))
close_stays c t w next earlier x e h = grind arith

-- and what comes after its step has its cause
close_causes : (c : Config) → (w : World) (earlier : List World) → IsGood c w → (t : ℕ) (hook : HookAnswer) (x : ClosePhase) →
    CloseFits c t (held_of (w.views t)) x → (w.views t).phase ≡ Some (Phase.Closes x) →
    let comes : Next ClosePhase = (after x (found_at w.words (Phase.Closes x) hook)).0 in
    ((after_step w t (Phase.Closes x) hook).views t).phase ≡ phase_after (map_next Phase.Closes comes) → CauseOf c t w earlier (Some (Phase.Closes x)) →
    CauseOf c t (after_step w t (Phase.Closes x) hook) (w ∷ earlier) (phase_after (map_next Phase.Closes comes))
close_causes c w earlier good t hook (ClosePhase.LoadsFile x) f e is h =
    looked_cause c t (after_step w t (Phase.Closes (ClosePhase.LoadsFile x)) hook) (w ∷ earlier) x
    (any_file_in (found_at w.words (Phase.Closes (ClosePhase.LoadsFile x)) hook))
close_causes c w earlier good t hook (ClosePhase.LowersCount x node) f e is h =
    elim (cases_Bool (w.words.node x.file == word_of node)) [ inl z ↦ rw z tt | inr z ↦ rw z tt ]
close_causes c w earlier good t hook (ClosePhase.Enters file node r) f e is h =
    let next : World = after_step w t (Phase.Closes (ClosePhase.Enters file node r)) hook in
    let n : Next DownRead = (down_read_after r r.step (found_at w.words (Phase.DownReads r) hook)).0 in
    enters_cause c t w next earlier file r.cpu node n
    (read_own c t w next earlier good r f.2.0 f.2.1 hook r.step (ap asks_level e)
    (ap (λ q. closed (sync_role_of r.level q)) e ∙ read_not_closed r.level r.level r.step) h
    (enters_asks c t w next earlier file r.cpu node n is))
close_causes c w earlier good t hook (ClosePhase.FreesNode file p node) f e is h =
    elim (cases_Bool (w.words.node file == word_of node)) [ inl z ↦ rw z tt | inr z ↦ rw z tt ]
close_causes c w earlier good t hook other f e is h = tt

-- it waits at level 3 alone
close_waits : (c : Config) (w : World) (earlier : List World) (t : ℕ) (hook : HookAnswer) (x : ClosePhase) →
    CloseReadIsValid x (value_at w.words (Phase.Closes x) hook) → CauseOf c t w earlier (Some (Phase.Closes x)) →
    HasReason c w earlier t (Phase.Closes x) (map_next Phase.Closes (after x (found_at w.words (Phase.Closes x) hook)).0)
close_waits c w earlier t hook x may h = grind (arith, common_steps)

pub close_phase : (c : Config) (x : ClosePhase) → PhaseLaws c (Phase.Closes x)
close_phase c x = record {
  step = λ lim w good t lt hook e. close_keeps c lim w good t lt hook x e;
  runs = λ lim w good t lt hook e i one three. close_runs c lim w good t lt hook x e i one three;
  completes = λ lim w good t lt hook e. completes_none c w t hook (Phase.Closes x) (λ trace found. refl);
  word = λ n le t lt held hook f. close_there c n le t lt held hook x f;
  acts = λ lim t held found hook f. close_acts c lim t held x found f;
  goes = λ lim t held found hook f. close_goes c t held x found f;
  agrees = λ t held seen same fits. close_agrees c t held seen same x fits;
  stays = λ w next earlier good t f e was quiet h. close_stays c t w next earlier x e h;
  causes = λ w earlier good t lt hook e after is h. close_causes c w earlier good t hook x (close_fits_now c w good t lt hook x e) e is h;
  reasons = λ lim w earlier good t lt hook e cause.
      close_waits c w earlier t hook x (events_may_be c lim w good t lt (Phase.Closes x) hook e) cause;
}

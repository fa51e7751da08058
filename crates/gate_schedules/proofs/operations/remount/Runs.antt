-- What the steps of a remount make of each freeze level: they leave it.
use Rattle.gate_schedules.proofs.Prelude.{Config, HookAnswer, IsGood, KnowsStage, Next, Phase, Remount, RemountStep, SameWords, Some, SyncAt}
use Rattle.gate_schedules.proofs.Prelude.{SyncStep, Words, World, after_step, arith, at_remount, found_at, inside, level_in, map_next, phase_after}
use Rattle.gate_schedules.proofs.Prelude.{refl, remount_stage_role, sync_role_of, words_after, ℕ, ◌<◌, ◌≡◌}
use Rattle.{freeze_laws.specs.levels.Roles.Out as IsApart, mount_counts.specs.Remounts.remount_after}
use Rattle.gate_schedules.proofs.{mounts.Runs.apart_run, operations.remount.Parts.here_knows}

-- no step of a remount changes what a level reads of the words: the superblock's flags are stored at stage 0, where nothing is frozen
remount_words : (w : Words) (x : Remount) (hook : HookAnswer) (s : RemountStep) → KnowsStage w.stage w.sb (remount_stage_role x.nodes s) →
    (i : ℕ) → SameWords w (words_after w (Phase.Remounts (at_remount x s)) hook) (SyncAt i)
remount_words w x hook s k i = grind arith

remount_outside : (next : Next Remount) → inside (phase_after (map_next Phase.Remounts next)) ≡ 0
remount_outside next = grind arith

remount_apart : (i : ℕ) (next : Next Remount) → sync_role_of i (phase_after (map_next Phase.Remounts next)) ≡ IsApart
remount_apart i next = grind arith

-- each step of a remount is one at which each level stays
pub remount_runs : (c : Config) (w : World) → IsGood c w → (t : ℕ) → t < c.tasks → (hook : HookAnswer) (x : Remount) →
    (w.views t).phase ≡ Some (Phase.Remounts x) → (i : ℕ) → SyncStep c.tasks (level_in w i) (level_in (after_step w t (Phase.Remounts x) hook) i)
remount_runs c w good t lt hook x e i =
    apart_run c.tasks w t lt hook (Phase.Remounts x) e i
    (remount_words w.words x hook x.step (here_knows c w good t lt x x.step e) i) refl refl
    (remount_outside (remount_after x x.step (found_at w.words (Phase.Remounts x) hook) hook).0)
    (remount_apart i (remount_after x x.step (found_at w.words (Phase.Remounts x) hook) hook).0)

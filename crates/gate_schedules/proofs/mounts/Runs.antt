-- What a step off the levels makes of each of them: it leaves it, and so each step of want, drop and change does.
use Rattle.gate_schedules.proofs.Prelude.{HookAnswer, MountPhase, Phase, SameWords, Some, SyncAt, SyncStep, Words, World, after_of, after_step, ap}
use Rattle.gate_schedules.proofs.Prelude.{arith, found_at, inside, level_in, map_next, no_roles, phase_after, refl, roles_of, sym, sync_role_of}
use Rattle.gate_schedules.proofs.Prelude.{value_at, view_after, words_after, ℕ, ◌<◌, ◌∙◌, ◌≡◌}
use Rattle.{freeze_laws.specs.levels.Roles.Out as IsApart, mount_counts.specs.Phases.after}
use Rattle.gate_schedules.proofs.{levels.Steps.{level_kept, level_stays}, mounts.Parts.{mounts_roles, off_mounts}}

-- a step that leaves what a level reads of the words, of a task that has no part in the level and is inside no section, before it and
-- after it, is one at which the level stays
pub apart_run : (tasks : ℕ) (w : World) (t : ℕ) → t < tasks → (hook : HookAnswer) (phase : Phase) → (w.views t).phase ≡ Some phase →
    (i : ℕ) → SameWords w.words (words_after w.words phase hook) (SyncAt i) → inside (Some phase) ≡ 0 →
    sync_role_of i (Some phase) ≡ IsApart →
    inside (phase_after (after_of phase (found_at w.words phase hook) hook).0) ≡ 0 →
    sync_role_of i (phase_after (after_of phase (found_at w.words phase hook) hook).0) ≡ IsApart →
    SyncStep tasks (level_in w i) (level_in (after_step w t phase hook) i)
apart_run tasks w t lt hook phase e i same outside apart outside_then apart_then =
    level_stays tasks t lt (level_in w i) (level_in (after_step w t phase hook) i)
    (level_kept w t i (words_after w.words phase hook) (view_after (w.views t) phase (value_at w.words phase hook) hook)
    same.0 same.1 same.3 same.2 (outside_then ∙ sym (ap inside e ∙ outside)) (apart_then ∙ sym (ap (sync_role_of i) e ∙ apart)))

mount_words : (w : Words) (x : MountPhase) (hook : HookAnswer) (i : ℕ) → SameWords w (words_after w (Phase.Mounts x) hook) (SyncAt i)
mount_words w x hook i = grind arith

-- each step of want, drop or change is one at which each level stays
pub mounts_run : (tasks : ℕ) (w : World) (t : ℕ) → t < tasks → (hook : HookAnswer) (x : MountPhase) →
    (w.views t).phase ≡ Some (Phase.Mounts x) → (i : ℕ) → SyncStep tasks (level_in w i) (level_in (after_step w t (Phase.Mounts x) hook) i)
mounts_run tasks w t lt hook x e i =
    let there : off_mounts (roles_of (phase_after (map_next Phase.Mounts (after x (found_at w.words (Phase.Mounts x) hook) hook).0))) ≡ no_roles =
    mounts_roles (after x (found_at w.words (Phase.Mounts x) hook) hook).0 in
    apart_run tasks w t lt hook (Phase.Mounts x) e i (mount_words w.words x hook i) refl refl (λ j. (there j).inside) (λ j. (there j).sync i)

-- The step of an end.
use Rattle.gate_schedules.proofs.Prelude.{Action, Config, Fits, Fitting, Gate, HookAnswer, IsGood, IsWithin, Next, Ok, Option, Phase, PhaseFits}
use Rattle.gate_schedules.proofs.Prelude.{Reply, Some, StepKeeps, View, Words, World, ap, arith, false, held_of, holds_level, inside, level_role_of}
use Rattle.gate_schedules.proofs.Prelude.{refl, subst, sym, sync_role_of, update, update_at, ℕ, ◌<◌, ◌≡◌}
use Rattle.percpu_rwsem.specs.declared.readers.UpRead.{UpRead}
use Rattle.gate_schedules.proofs.levels.Counts.{SameElsewhere, down_beside, leaves, view_down, words_down}
use Rattle.gate_schedules.proofs.levels.Parts.{IsAtLevels, SameAtMounts, SameOffLevels, end_at_levels, level_parts, level_shown, reads_at_levels}
use Rattle.gate_schedules.proofs.levels.Parts.{sections_left_at, sync_left_at}

module _ (c : Config) (lim : IsWithin c) (w : World) (good : IsGood c w) (t : ℕ) (lt : t < c.tasks) (hook : HookAnswer) (u : UpRead)
    (e : (w.views t).phase ≡ Some (Phase.UpReads u)) where
  end_fits : PhaseFits c t (held_of (w.views t)) (Phase.UpReads u)
  end_fits = subst (Fits c t (held_of (w.views t))) e (good Fitting t lt)

  -- what comes after its step, and the action that this adds
  abbrev ended : Next Phase × Option Action
  ended = (Next.Done (Ok Reply.Unit), Some (Action.Return (Gate.Level u.level)))

  -- the words after it
  abbrev end_words : Words
  end_words = words_down c lim w good t lt u.level u.cpu end_fits.2 hook ended

  -- and the task's view
  abbrev end_view : View
  end_view = view_down c lim w good t lt u.level u.cpu end_fits.2 hook ended

  end_beside : SameOffLevels w.words end_words
  end_beside = down_beside c lim w good t lt u.level u.cpu end_fits.2 hook ended

  end_was : IsAtLevels (w.views t).phase
  end_was = subst IsAtLevels (sym e) (end_at_levels u)

  end_now : IsAtLevels end_view.phase
  end_now = reads_at_levels (Next.Done (Ok Reply.Unit))

  end_mounts : SameAtMounts (w.views t) end_view
  end_mounts = record { held_same = refl; added_same = refl; taken_same = refl; open_same = refl }

  end_elsewhere : SameElsewhere u.level (w.views t) end_view
  end_elsewhere = grind arith

  end_good : IsGood c (record { words = end_words; views = update w.views t end_view })
  end_good =
      level_parts c w good t lt end_words end_view end_beside end_was end_now end_mounts tt
      (leaves c lim w good t lt u.level u.cpu end_fits.2 hook ended (ap (level_role_of u.level) e) refl end_fits.3
      (update_at (holds_level (w.views t)) u.level false) end_elsewhere)
      (sync_left_at c w good t lt end_words end_view end_beside end_was end_now refl refl (λ j. sym (ap (sync_role_of j) e)))
      (sections_left_at c w good t lt end_words end_view end_beside end_was end_now refl (sym (ap inside e)))

-- The step of an end keeps the invariant, and returns its task's access to the level.
pub end_keeps : (c : Config) → IsWithin c → (w : World) → IsGood c w → (t : ℕ) → t < c.tasks → (hook : HookAnswer) → (u : UpRead) →
    (w.views t).phase ≡ Some (Phase.UpReads u) → StepKeeps c w t hook (Phase.UpReads u)
end_keeps c lim w good t lt hook u e = (
  end_good c lim w good t lt hook u e,
  (
    (
      lt,
      (
        ((end_fits c lim w good t lt hook u e).0, (end_fits c lim w good t lt hook u e).1),
        (end_fits c lim w good t lt hook u e).3,
      ),
    ),
    level_shown c w good t lt (end_words c lim w good t lt hook u e) (end_view c lim w good t lt hook u e)
        (end_beside c lim w good t lt hook u e) (end_was c lim w good t lt hook u e) (end_now c lim w good t lt hook u e)
        (end_mounts c lim w good t lt hook u e),
  ),
)

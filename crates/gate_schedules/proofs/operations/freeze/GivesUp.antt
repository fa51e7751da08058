-- The steps of a freeze that waits for somebody inside a level: it sums again, or gives the level up and leaves its rcu_sync.
use Rattle.gate_schedules.proofs.Prelude.{Action, Apart, Config, DownWrite, Err, Freeze, FreezeStep, Freezing, HookAnswer, IsGood, IsWithin, List}
use Rattle.gate_schedules.proofs.Prelude.{Next, None, Ok, Option, Phase, Reply, Some, StepKeeps, Touch, Traced, Transition, TransitionNext, UpWrite}
use Rattle.gate_schedules.proofs.Prelude.{UpWriteStep, View, WordName, Words, World, added_by, ap, arith, at_freeze, down_write_next, down_write_role}
use Rattle.gate_schedules.proofs.Prelude.{exit_made, found_by, held_of, holder_role_of, left, level_added_by, level_taken_by, map_next, nat_lt}
use Rattle.gate_schedules.proofs.Prelude.{on_exit, owns, phase_after, put, read, refl, rephased, stage_role_of, subst, sym, taken_by}
use Rattle.gate_schedules.proofs.Prelude.{transition_after, tree_role_of, view_with, ℕ, ◌<◌, ◌∙◌, ◌≡◌, ◌≤◌}
use Rattle.freeze_laws.{proofs.stages.Facts.at_level, specs.stages.{Events.{Stays, Unblocks}, Roles.{Before, Closing, bit}}}
use Rattle.freeze_levels.specs.Freezes.{after_undoing, freeze_closed, freeze_undone}
use Rattle.{gate_world.specs.{Roles.{down_count_role, place_of}, SameRoles.SameRoles}, gated_tree.specs.Roles.Out as OffTree}
use Rattle.percpu_rwsem.specs.Transitions.{transition_next}
use Rattle.gate_schedules.proofs.frames.{PhaseSubstitution.{alike_of, made_keeps}, Stages.IsStageEvent}
use Rattle.gate_schedules.proofs.levels.{GivenUp.{summing_at, unblocked_levels}, LevelPositions.{HasPosition, position_after_opening}}
use Rattle.gate_schedules.proofs.levels.{PositionRoles.{closing_says, closing_says_none, say_back, stands_so}, UpWrite.up_write_levels}
use Rattle.gate_schedules.proofs.operations.freeze.{Closes.closes, Fits.freeze_goes, Stages.{FitsHere, IsHere, Keeps, freeze_stands, goes_to}}
use Rattle.gate_schedules.proofs.{operations.freeze.Stages.{here_fits, here_stands, here_tree, here_writes, view_at}, writers.Parts.WriterLaw}
use Rattle.gate_schedules.proofs.writers.{Parts.{freeze_comes, freeze_work, freezes_write, whole_writer}, Stages.{none_leaves, stays_there}}
use Rattle.gate_schedules.proofs.writers.Words.{tree_beside, up_write_counts_none, up_write_words, writer_at_level}

-- a freeze that waits stands with all conjuncts of the invariant as it did when its sum began
waits_alike : (x : Freeze) (d : DownWrite) →
    SameRoles (Some (Phase.Freezes (at_freeze x (FreezeStep.Waits d)))) (Some (Phase.Freezes (at_freeze x (FreezeStep.Closes d))))
waits_alike x d = refl

-- what comes after a step by which it leaves the rcu_sync of a level that it has given up
abbrev undone_then : Freeze → ℕ → ℕ → TransitionNext → Option Phase
undone_then x level code n = phase_after (map_next Phase.Freezes (after_undoing x level code n))

-- has the lock as before,
undone_owns : (x : Freeze) (level code : ℕ) → 1 ≤ level → level ≤ 3 → (n : TransitionNext) → owns (undone_then x level code n) ≡ bit (nat_lt 1 level)
undone_owns x level code low high n = grind (arith, at_level, owns)

-- is still at the stage of that level,
undone_stage : (x : Freeze) (level code : ℕ) → 1 ≤ level → level ≤ 3 → (n : TransitionNext) →
    stage_role_of (undone_then x level code n) ≡ Freezing level Before (nat_lt 1 level)
undone_stage x level code low high n = grind (arith, at_level, stage_role_of)

-- does nothing at the tree,
undone_tree : (x : Freeze) (level code : ℕ) (trace : List Traced) (n : TransitionNext) → tree_role_of trace (undone_then x level code n) ≡ OffTree
undone_tree x level code trace n = grind arith

-- and nothing with the holders
undone_holder : (x : Freeze) (level code : ℕ) (n : TransitionNext) → holder_role_of (undone_then x level code n) ≡ Apart
undone_holder x level code n = grind arith

-- at the end it is as where its level is still to be closed: those below it are closed
pub undone_stands : (x : Freeze) (level code : ℕ) → 1 ≤ level → level ≤ 3 → (transition : Transition) (n : TransitionNext) →
    HasPosition (undone_then x level code n)
    (position_after_opening level (exit_made (record { level = level; step = UpWriteStep.Exits transition }) n))
undone_stands x level code low high transition (TransitionNext.More more) = freeze_stands (at_freeze x (FreezeStep.Undoes level more code))
undone_stands x level code low high transition TransitionNext.Undefined = freeze_stands (at_freeze x (FreezeStep.Undoes level Transition.Loads code))
undone_stands x level code low high transition (TransitionNext.Made state) =
    at_level (λ i. HasPosition (Some (Phase.Freezes (at_freeze x (freeze_undone i code))))
    (position_after_opening i (Next.Done (Ok Reply.Unit)))) (
      stands_so _ _ _ (say_back _ _ (closing_says_none 0 0)) (freeze_stands (at_freeze x (FreezeStep.LocksToUndo code))),
      stands_so _ _ _ (say_back _ _ (closing_says 1 0 0 (omega arith))) (freeze_stands (at_freeze x (FreezeStep.GivesUp 2 code))),
      stands_so _ _ _ (say_back _ _ (closing_says 2 0 0 (omega arith))) (freeze_stands (at_freeze x (FreezeStep.GivesUp 3 code))),
    )
    level low high

module _ (c : Config) (lim : IsWithin c) (w : World) (good : IsGood c w) (t : ℕ) (lt : t < c.tasks) (x : Freeze) where
  -- the law of a step of the closing of a level, whole
  closes_keeps : (hook : HookAnswer) (d : DownWrite) → IsHere c lim w good t lt x (FreezeStep.Closes d) →
      StepKeeps c w t hook (Phase.Freezes (at_freeze x (FreezeStep.Closes d)))
  closes_keeps hook d e =
      let f : FitsHere c lim w good t lt x (FreezeStep.Closes d) = here_fits c lim w good t lt x (FreezeStep.Closes d) e in
      whole_writer c w t lt good hook (Phase.Freezes (at_freeze x (FreezeStep.Closes d))) e
      (freeze_work c w (at_freeze x (FreezeStep.Closes d)) hook f.5) (closes c lim w good t lt x hook d d.step e)

module _ (c : Config) (lim : IsWithin c) (w : World) (good : IsGood c w) (t : ℕ) (lt : t < c.tasks) (x : Freeze) where
  -- the hook has answered that it is to wait: its next step is that of the closing of the level
  waits_on : (d : DownWrite) (answer : Unit {0}) → IsHere c lim w good t lt x (FreezeStep.Waits d) →
      Keeps c lim w good t lt x (Ok answer) (FreezeStep.Waits d)
  waits_on d answer e =
      let f : FitsHere c lim w good t lt x (FreezeStep.Waits d) = here_fits c lim w good t lt x (FreezeStep.Waits d) e in
      let y : Freeze = at_freeze x (FreezeStep.Closes d) in
      let event : WordName × Touch = down_write_next d d.step in
      let found : ℕ = found_by event.1 (read w.words event.0) in
      let more : Next Freeze × Option Action = freeze_closed x d found in
      let law : StepKeeps c w t (Ok answer) (Phase.Freezes (at_freeze x (FreezeStep.Waits d))) =
      made_keeps c w t lt (Some (Phase.Freezes y)) event (Ok answer) (map_next Phase.Freezes more.0) (map_next Phase.Freezes more.0) more.1 good
      (alike_of e (waits_alike x d)) (f.0, f.1, f.2, f.3, f.4, f.5.0)
      (λ g at. closes_keeps c lim (rephased w t (Some (Phase.Freezes y))) g t lt x (Ok answer) d at) refl
      (freeze_goes c lim t (held_of (w.views t)) x (FreezeStep.Waits d) found (Ok answer) f) in
      (λ part known. law.0 part, law.1)

  -- it has answered that it is not: the store opens the level
  unblocks : (d : DownWrite) (code : ℕ) → IsHere c lim w good t lt x (FreezeStep.Waits d) →
      Keeps c lim w good t lt x (Err code) (FreezeStep.Waits d)
  unblocks d code e =
      let f : FitsHere c lim w good t lt x (FreezeStep.Waits d) = here_fits c lim w good t lt x (FreezeStep.Waits d) e in
      let s' : FreezeStep = FreezeStep.Undoes d.level Transition.Loads code in
      let v : View = view_at c lim w good t lt x (WordName.Block d.level, Touch.Store 0) (w.words.block d.level) (Err code) s' None in
      let ws : Words = put w.words (WordName.Block d.level) 0 in
      let was : HasPosition (w.views t).phase (Some (summing_at d.level)) =
      subst (λ s. HasPosition (w.views t).phase (Some record { level = d.level; count = down_count_role s; sync = down_write_role s })) f.5.1
      (here_stands c lim w good t lt x (FreezeStep.Waits d) e) in
      let role : stage_role_of (w.views t).phase ≡ Freezing d.level Closing (nat_lt 1 d.level) =
      ap stage_role_of e ∙ ap (λ s. Freezing d.level (place_of s) (nat_lt 1 d.level)) f.5.1 in
      writer_at_level c w good t lt ws v None (Unblocks d.level (nat_lt 1 d.level)) (here_writes c lim w good t lt x (FreezeStep.Waits d) e)
      (freezes_write (at_freeze x s')) (up_write_words w.words (record { level = d.level; step = UpWriteStep.ClearsBlock }) UpWriteStep.ClearsBlock)
      (record { held_same = refl; added_same = refl; taken_same = refl })
      (goes_to c lim w good t lt x (FreezeStep.Waits d) s' e (f.5.0.0, f.5.0.1, tt))
      (sym (ap owns e))
      (unblocked_levels c lim w good t lt d.level v (record { held_same = refl; added_same = refl; taken_same = refl }) was
      (freeze_stands (at_freeze x s')))
      (tree_beside c w good t lt ws v
      (up_write_words w.words (record { level = d.level; step = UpWriteStep.ClearsBlock }) UpWriteStep.ClearsBlock)
      (sym (here_tree c lim w good t lt x (FreezeStep.Waits d) e)))
      (role, refl) refl tt (none_leaves c w good t lt) (sym (ap holder_role_of e))

  module _ (hook : HookAnswer) (level : ℕ) (transition : Transition) (code : ℕ) where
    -- the up-write of which its step is one
    abbrev leaving : UpWrite
    leaving = record { level = level; step = UpWriteStep.Exits transition }

    abbrev event_here : WordName × Touch
    event_here = transition_next level transition

    abbrev next_here : TransitionNext
    next_here = transition_after on_exit transition (found_by event_here.1 (read w.words event_here.0))

    abbrev words_here : Words
    words_here = put w.words event_here.0 (left event_here.1 (read w.words event_here.0))

    abbrev view_here : View
    view_here =
        view_with (w.views t) event_here (read w.words event_here.0) hook
        (map_next Phase.Freezes (after_undoing x level code next_here), None)

    -- its law, where it leaves the words of the stage
    undo_law : IsHere c lim w good t lt x (FreezeStep.Undoes level transition code) → IsStageEvent c w good t lt words_here view_here Stays →
        WriterLaw c w t words_here view_here None
    undo_law e happens =
        let s : FreezeStep = FreezeStep.Undoes level transition code in
        let f : FitsHere c lim w good t lt x s = here_fits c lim w good t lt x s e in
        let none : (g : ℕ → ℕ → ℕ) → _ = up_write_counts_none leaving leaving.step in
        writer_at_level c w good t lt words_here view_here None Stays (here_writes c lim w good t lt x s e)
        (freeze_comes (after_undoing x level code next_here)) (up_write_words w.words leaving leaving.step)
        (record {
          held_same = refl;
          added_same = (none (added_by (w.views t).events)).0;
          taken_same = (none (taken_by (w.views t).events)).1;
        })
        (freeze_goes c lim t (held_of (w.views t)) x s (found_by event_here.1 (read w.words event_here.0)) hook f)
        (undone_owns x level code f.5.0 f.5.1 next_here ∙ sym (ap owns e))
        (up_write_levels c lim w good t lt leaving view_here
        (record {
          held_same = refl;
          added_same = (none (level_added_by (w.views t).events)).2;
          taken_same = (none (level_taken_by (w.views t).events)).3;
        })
        f.5 (here_stands c lim w good t lt x s e) (undone_stands x level code f.5.0 f.5.1 transition next_here))
        (tree_beside c w good t lt words_here view_here (up_write_words w.words leaving leaving.step)
        (undone_tree x level code view_here.trace next_here ∙ sym (here_tree c lim w good t lt x s e)))
        happens refl tt (none_leaves c w good t lt) (undone_holder x level code next_here ∙ sym (ap holder_role_of e))

  -- leaves the rcu_sync of a level that it has given up
  pub undoes : (hook : HookAnswer) (level : ℕ) (transition : Transition) (code : ℕ) →
      IsHere c lim w good t lt x (FreezeStep.Undoes level transition code) →
      Keeps c lim w good t lt x hook (FreezeStep.Undoes level transition code)
  undoes hook level Transition.Loads code e =
      let f : FitsHere c lim w good t lt x (FreezeStep.Undoes level Transition.Loads code) =
      here_fits c lim w good t lt x (FreezeStep.Undoes level Transition.Loads code) e in
      undo_law hook level Transition.Loads code e
      (stays_there c w good t lt w.words (view_here hook level Transition.Loads code)
      (record { stage_same = refl; sb_same = refl; remount_same = refl; block_same = refl; node_same = refl })
      (undone_stage x level code f.5.0 f.5.1 (next_here hook level Transition.Loads code) ∙ sym (ap stage_role_of e)))
  undoes hook level (Transition.Exchanges from to) code e =
      let f : FitsHere c lim w good t lt x (FreezeStep.Undoes level (Transition.Exchanges from to) code) =
      here_fits c lim w good t lt x (FreezeStep.Undoes level (Transition.Exchanges from to) code) e in
      undo_law hook level (Transition.Exchanges from to) code e
      (stays_there c w good t lt (words_here hook level (Transition.Exchanges from to) code) (view_here hook level (Transition.Exchanges from to) code)
      (record { stage_same = refl; sb_same = refl; remount_same = refl; block_same = refl; node_same = refl })
      (undone_stage x level code f.5.0 f.5.1 (next_here hook level (Transition.Exchanges from to) code) ∙ sym (ap stage_role_of e)))

  -- each step of a freeze that waits
  pub waits : (hook : HookAnswer) (d : DownWrite) → IsHere c lim w good t lt x (FreezeStep.Waits d) →
      Keeps c lim w good t lt x hook (FreezeStep.Waits d)
  waits (Ok answer) d e = waits_on d answer e
  waits (Err code) d e = unblocks d code e

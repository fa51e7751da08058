-- States and refusals that no execution has, of which a clause says so: a wrong order of steps, or a weaker rule, would have them.
use Rattle.std.proofs.Common.{Err, Ok, Some, [], arith, inl, inr, refl, suc, sym, true, true≢false, zero, ℕ, ◌%◌, ◌+◌, ◌∷◌, ◌≡◌, ◌≤◌}
use Rattle.access_model.specs.declared.{actions.Holder.Holder, errors.GateError.GateError, replies.Reply.Reply}
use Rattle.{cpu_words.specs.{Sums.lead, Words.Words, gate_counts.{Gates.{admitted, unread}, Levels.level_as_gate}}, finite_sums.specs.Sums.total}
use Rattle.{freeze_levels.specs.declared.freezes.FreezeStep.FreezeStep, gate_schedules.specs.{Frozen.FrozenIsClosed, Leads.MountsLead}}
use Rattle.gate_world.specs.{Headline.{LevelsLead, NothingIsLeft, SnapshotsStand}, Levels.at_level, Rules.{Holds, Stages, at_mount}}
use Rattle.gate_world.specs.{Views.opening_view, Worlds.{World, opening}, declared.{views.View.View, work.Phase.Phase}, refusals.Causes.HasCause}
use Rattle.gated_tree.specs.declared.{phases.TreePhase.TreePhase, snapshots.SnapshotStep.SnapshotStep}
use Rattle.mount_counts.specs.{Roles.counted, declared.phases.{Change.Change, ChangeStep.ChangeStep, MountPhase.MountPhase, WantStep.WantStep}}
use Rattle.percpu_rwsem.specs.declared.{readers.DownReadStep.DownReadStep, writers.DownWriteStep.DownWriteStep}
use Rattle.test_schedules.specs.Schedules.{small}

-- a task of which nothing is known but what it is at
abbrev at_phase : Phase → View
at_phase phase = record opening_view { phase = Some phase }

-- the first task at one phase, the second at another, and the third idle
abbrev views_of : View → View → ℕ → View
views_of first second zero = first
views_of first second (suc zero) = second
views_of first second t = opening_view

-- a freeze that sums level 1, with `block` set, and without a grace period: a reader is on the fast path still
abbrev fast : World
fast = record {
  words = record opening.words { block = λ i. 1 };
  views = views_of
      (at_phase (Phase.Freezes record {
        holder = Holder.User;
        task = 0;
        tasks = 3;
        processors = 2;
        nodes = 2;
        step = FreezeStep.Closes record { level = 1; tasks = 3; processors = 2; step = DownWriteStep.Sums record { words = 0; total = 0 } };
      }))
      (at_phase (Phase.DownReads record { level = 1; cpu = 0; task = 1; wait = true; step = DownReadStep.CountsUpFast }));
}

-- its lead is no less than what is held there and sought on a word to come
fast_leads : total 3 (λ x. admitted (level_as_gate (at_level 1 (fast.views x)))) +
    total 3 (λ x. unread 0 (level_as_gate (at_level 1 (fast.views x)))) ≤ lead 2 (fast.words.level 1) 0 0
fast_leads = omega arith

-- but less than what is admitted
fast_never : LevelsLead small fast → ⊥
fast_never h = omega (arith, (h 0 1 0 0 (omega arith) (omega arith) (omega arith) refl).1)

-- one for each access that the first processor counts
abbrev first_word : ℕ → ℕ
first_word zero = 1
first_word (suc p) = 0

-- a change that has read the first of two words, which was 0, while a want that has added to it since has found HOLD clear
abbrev late : World
late = record {
  words = record opening.words { flags = λ m. 2; count = λ m. first_word };
  views = views_of
      (at_phase (Phase.Mounts (MountPhase.Change record {
        mount = 0;
        read_only = true;
        wait = true;
        task = 0;
        processors = 2;
        step = ChangeStep.Sums record { words = 1; total = 0 };
      })))
      (at_phase (Phase.Mounts (MountPhase.Want record { mount = 0; cpu = 0; wait = true; step = WantStep.LoadsRemount })));
}

-- its words sum to what is held and sought
late_sums : total 2 (late.words.count 0) % 18446744073709551616 ≡ total 3 (λ x. counted (at_mount 0 (late.views x)))
late_sums = refl

-- but its lead is less than what is admitted
late_never : MountsLead small late → ⊥
late_never h = omega (arith, (h 0 0 1 0 (omega arith) (omega arith) refl).1)

-- a snapshot that has loaded its last word, and not given `umount` back, of a file system that is thawed
abbrev thawed : World
thawed = record {
  words = opening.words;
  views =
      views_of (at_phase (Phase.Trees
      (TreePhase.Snapshot record { nodes = 2; task = 0; wait = true; step = SnapshotStep.Releases (Ok Reply.Tree) }))) opening_view;
}

thawed_never : SnapshotsStand small thawed → ⊥
thawed_never h = omega (arith, (h 0 _ 5 (omega arith) refl refl).0)

-- a freeze at its release, once it has given level 1 up and stored stage 0, but left `block` set
abbrev shut_words : Words
shut_words = record opening.words { block = λ i. 1; umount = 1 }

abbrev shut : World
shut = record {
  words = shut_words;
  views =
      views_of (at_phase (Phase.Freezes record {
        holder = Holder.User;
        task = 0;
        tasks = 3;
        processors = 2;
        nodes = 2;
        step = FreezeStep.Releases (Err (GateError.Hook 110));
      })) opening_view;
}

-- no rule has it: nobody's is the level, and the stage isn't 4
shut_never : Holds small shut Stages → ⊥
shut_never h = omega (arith, h.blocks 1 (omega arith) (omega arith))

-- the same after its release, with nothing under way
abbrev left_shut : World
left_shut = record { words = record shut_words { umount = 0 }; views = λ t. opening_view }

left_shut_never : NothingIsLeft small left_shut → ⊥
left_shut_never h = omega (arith, (h (λ t lt. refl)).levels_open 1 (omega arith) (omega arith))

-- a freeze that has stored stage 0 while it sums level 1, with `block` set
abbrev early_zero : World
early_zero = record {
  words = record opening.words { block = λ i. 1 };
  views =
      views_of (at_phase (Phase.Freezes record {
        holder = Holder.User;
        task = 0;
        tasks = 3;
        processors = 2;
        nodes = 2;
        step = FreezeStep.Waits record { level = 1; tasks = 3; processors = 2; step = DownWriteStep.Sums record { words = 0; total = 0 } };
      })) opening_view;
}

-- a freeze has the stage that it stored last
early_zero_never : Holds small early_zero Stages → ⊥
early_zero_never h = omega (arith, h.knows 0 (omega arith))

-- a change that is refused as busy where nothing is counted, by whatever step, be it its first
early_never : (x : Change) → HasCause small 0 (opening ∷ []) (Phase.Mounts (MountPhase.Change x)) GateError.Busy → ⊥
early_never x h = true≢false (sym h)

-- stage 4 with all three levels open, and a writable superblock
abbrev open_frozen : World
open_frozen = record { words = record opening.words { stage = 4 }; views = λ t. opening_view }

-- what reports itself frozen is closed
open_frozen_never : FrozenIsClosed small open_frozen → ⊥
open_frozen_never h = elim (h.shut refl) [ inl passed ↦ omega (arith, passed) | inr read_only ↦ true≢false (sym read_only) ]

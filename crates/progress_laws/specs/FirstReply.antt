-- How near the first reply is beside lost tasks.
use Rattle.std.specs.Prelude.{Bool, false, suc, zero, ℕ, ◌*◌, ◌+◌, ◌<◌, ◌≡◌, ◌⊎◌}
use Rattle.{cpu_words.specs.Hooks.HookAnswer, gate_schedules.specs.operations.Progress.{HasReply, IsUnderWay}}
use Rattle.gate_world.specs.{Worlds.{World, happens}, declared.{config.Config.Config, entries.Entry.TheVariants.Steps}}
use Rattle.progress_laws.specs.{LostTasks.AllWait, StepsLeft.most_steps}

-- A scheduler can pick, step by step, one of the tasks under way that aren't lost, knowing what the hooks have answered so far but not what they
-- will, so that after at most so many steps the task that was stepped last has its reply, or this holds of the state.
abbrev pub ReplyOr : Config → (ℕ → Bool) → (World → Type 0) → ℕ → World → Type 0
ReplyOr c lost P zero w = P w
ReplyOr c lost P (suc n) w =
    P w ⊎
    ((t : ℕ) × (t < c.tasks) × (lost t ≡ false) × IsUnderWay w t ×
    ((hook : HookAnswer) → HasReply (happens c w (Steps t hook)) t ⊎ ReplyOr c lost P n (happens c w (Steps t hook))))

-- The first reply is so near, or all come to wait before it.
abbrev pub RepliesOrWaits : Config → (ℕ → Bool) → ℕ → World → Type 0
RepliesOrWaits c lost n w = ReplyOr c lost (AllWait c lost) n w

-- Each start, want, write access and close, and each try to claim a callback, once and alone, which is 17 steps at most; and the callbacks that are
-- claimed, of which each level has one at most.
abbrev pub most_of_kinds : Config → ℕ
most_of_kinds c = 17 * c.tasks + 3 * (2 * c.tasks + 8)

-- The first reply is no farther: these; one freeze alone; these once more, where it gives level 1 up and can't have `umount`; and one operation that
-- waits no more.
abbrev pub most_to_reply : Config → ℕ
most_to_reply c =
    most_of_kinds c + (6 * c.tasks + 6 * c.processors + c.nodes + 59) + (most_of_kinds c + most_steps c)

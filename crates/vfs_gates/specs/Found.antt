-- What a call found: what was so, at which instant, where it was done and added nothing; and a freeze that waited for nobody inside.
use Rattle.std.specs.Prelude.{List, Ok, [], false, true, ℕ, ◌++◌, ◌∷◌, ◌≡◌, ◌⊎◌}
use Rattle.access_model.specs.{Laws.IsReadOnly, declared.{actions.Holder.Holder, replies.{Next.{Next, TheVariants.{Go, Wait}}, Reply.{Reply, TheVariants.Ran}}}}
use Rattle.freeze_levels.specs.declared.{freezes.FreezeStep.{FreezeStep, TheVariants.Waits}, hooks.HookCall.TheVariants.{FreezeFs as FreezeCall, Sync as SyncCall}}
use Rattle.gate_steps.specs.{Seating.DealtNumbers, call_events.{Asked.agreed, Asking.{Ask, asks_of}, Runs.Called, Spans.IsEventDuring}}
use Rattle.gate_world.specs.{Headline.world_after, Shown.shown, Worlds.World, traces.{Found.none_queued, TraceStates.state_of_trace}}
use Rattle.gate_world.specs.declared.{config.Config.Config, entries.Entry.Entry, views.Traced.Traced, work.Phase.{Phase, TheVariants.Freezes}}
use Rattle.gate_world.specs.declared.operations.Op.{Op, TheVariants.{Callback, ChangeMount, Freeze as FreezeOp, RemountSb, Snapshot}}
use Rattle.{percpu_rwsem.specs.SyncWords.unpack, vfs_gates.specs.TaskStates.{SeatedTask, own_number}}

-- What is so in a state, if an operation has nothing to add there: the mount is read-only, by its own flag or the superblock's, or it is writable, by
-- both; the superblock is as it was asked for; the level has no callback queued that isn't taken; everything is frozen. Of a callback that ran the
-- model has nothing. Every other operation that is done adds an action.
abbrev pub IsSo : Config → Op → Reply → World → Type 0
IsSo c (ChangeMount m true wait) reply w = IsReadOnly (shown c w) m
IsSo c (ChangeMount m false wait) reply w = IsReadOnly (shown c w) m → ⊥
IsSo c (RemountSb read_only) reply w = (shown c w).sb_ro ≡ read_only
IsSo c (Callback i) (Ran false) w = none_queued (unpack (w.words.sync i)) ≡ true
IsSo c (Callback i) reply w = Unit {0}
IsSo c (Snapshot wait) reply w = (shown c w).stage ≡ 4
IsSo c op reply w = ⊥

-- It was so at an instant between call and return: in the state in which the last step of the call happens, with which the call returns.
pub record WasSoDuring (c : Config) (items : DealtNumbers) (op : Op) (reply : Reply) (seen left : List (List Entry)) : Type 0 where
  pub earlier : List Traced
  pub last : Traced
  pub during : IsEventDuring c items op earlier last seen left
  pub returns : during.rest ≡ []
  pub so : IsSo c op reply (world_after c during.entries)

-- a freeze that stands here has found somebody at the sum of a level, and is to wait for them or to give up
abbrev pub WaitsInside : FreezeStep → Type 0
WaitsInside (Waits d) = Unit {0}
WaitsInside step = ⊥

-- so of an operation, and of what comes next
abbrev pub FoundAt : Phase → Type 0
FoundAt (Freezes x) = WaitsInside x.step
FoundAt phase = ⊥

abbrev pub HasFoundSomebody : Next Phase → Type 0
HasFoundSomebody (Go phase) = FoundAt phase
HasFoundSomebody (Wait phase) = FoundAt phase
HasFoundSomebody next = ⊥

-- After none of these steps it has: each level was summed once, and nobody was counted there.
abbrev pub FoundNobody : Config → ℕ → Op → List Traced → Type 0
FoundNobody c n op trace = (later earlier : List Traced) → trace ≡ later ++ earlier →
    HasFoundSomebody (state_of_trace c n op earlier).comes → ⊥

-- `sync` was asked, and then `freeze_fs`, each once, or no hook
abbrev pub AskedBothOrNone : List Ask → Type 0
AskedBothOrNone asks =
    ((last first : DealtNumbers) × (asks ≡ agreed FreezeCall last ∷ (agreed SyncCall first ∷ []))) ⊎ (asks ≡ [])

-- A freeze was granted that found nobody inside a level, and so never asked whether to wait.
pub record FrozeAtOnce (holder : Holder) (old left : SeatedTask) : Type 0 where
  pub reply : Reply
  pub called : Called (FreezeOp holder) old left (Ok reply)
  pub found : FoundNobody old.config (own_number old.items) (FreezeOp holder) called.trace
  pub asked : AskedBothOrNone (asks_of old.config (FreezeOp holder) old.items called.trace)

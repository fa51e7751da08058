-- Steps of tasks as steps of a level.
use Rattle.gate_schedules.proofs.Prelude.{SyncStep, View, Words, World, arith, common_steps, inside, is_frozen_whole, level_in, sync_role_of, update}
use Rattle.gate_schedules.proofs.Prelude.{ℕ, ◌<◌, ◌≡◌}
use Rattle.freeze_laws.specs.levels.Events.{Stays, SyncLevel}

pub level_stays : (tasks t : ℕ) → t < tasks → (l l' : SyncLevel) → l' ≡ l → SyncStep tasks l l'
level_stays tasks t lt l l' e = record { task = t; there = lt; kind = Stays; happens = e }

-- a level of the state after a step of this task
pub level_moved : (w : World) (t i : ℕ) (ws : Words) (v : View) → level_in (record { words = ws; views = update w.views t v }) i ≡
    record {
      sync = ws.sync i;
      block = ws.block i;
      full = is_frozen_whole ws;
      section = ws.section;
      inside = update (λ x. inside (w.views x).phase) t (inside v.phase);
      at = update (λ x. sync_role_of i (w.views x).phase) t (sync_role_of i v.phase);
    }
level_moved w t i ws v = grind arith

-- a step that leaves what a level reads of the words, and the task's part in it, leaves the level
pub level_kept : (w : World) (t i : ℕ) (ws : Words) (v : View) → ws.sync i ≡ w.words.sync i → ws.block i ≡ w.words.block i →
    is_frozen_whole ws ≡ is_frozen_whole w.words → ws.section ≡ w.words.section → inside v.phase ≡ inside (w.views t).phase →
    sync_role_of i v.phase ≡ sync_role_of i (w.views t).phase →
    level_in (record { words = ws; views = update w.views t v }) i ≡ level_in w i
level_kept w t i ws v es eb ef ec ei er = grind (arith, common_steps)

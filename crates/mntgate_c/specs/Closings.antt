-- What C is told of the words of closed gates.
use Rattle.std.specs.Prelude.{◌≡◌, Bool, true, false, ℕ, ◌*◌, ◌%◌, ◌<◌, ◌==◌, nat_le, if◌then◌else◌, Option, Some, None, List, length, slice_index, slice_index_or}
use Rattle.access_model.specs.declared.{actions.Gate.{Gate, TheVariants.{Mount, Level}}, errors.GateError.{GateError, TheVariants.{Busy, NoMemory, Order}}}
use Rattle.cpu_words.specs.{Names.{IsWord, place, stride}, declared.names.WordName.{WordName}}
use Rattle.finite_sums.specs.Sums.{total}
use Rattle.gate_world.specs.Configs.{extents_of}
use Rattle.vfs_gates.specs.{Ended.{ClosedState, EndedWith, HasAll}, Sums.{count_word, IsGate}, TaskStates.{SeatedTask}}
use Rattle.mntgate_c.specs.{Events.{word_at}, declared.events.WordRecord.{WordRecord}}

-- the word that is asked for
abbrev pub name_asked : WordRecord → Option WordName
name_asked r = if nat_le r.kind 14 then Some (word_at r) else None

-- the gate whose sum is asked for
abbrev pub gate_asked : WordRecord → Option Gate
gate_asked r = if r.kind == 15 then Some (Mount r.first) else if r.kind == 16 then Some (Level r.first) else None

-- where none is asked for
abbrev pub no_word : WordRecord
no_word = record { kind = 0; first = 0; second = 0 }

-- why a task does not close its gates, and how its handle is left: with the task as it was, or with none
abbrev pub CloseIsRefused : SeatedTask → Bool → SeatedTask → GateError → Type 0
CloseIsRefused old full new Order = ¬ HasAll old × (full ≡ true) × (new ≡ old)
CloseIsRefused old full new Busy = HasAll old × (full ≡ true) × (new ≡ old)
CloseIsRefused old full new NoMemory = HasAll old × (full ≡ false)
CloseIsRefused old full new e = ⊥

-- The value of the word that was asked for, or the wrapping sum of a gate's counts, which is 0; 0 where there is no such word or gate.
pub record IsValue (e : ClosedState) (asked : WordRecord) (value : ℕ) : Type 0 where
  pub word : (name : WordName) → name_asked asked ≡ Some name → IsWord (extents_of e.config) name → value ≡ slice_index e.words (stride * place name)
  pub no_word : (name : WordName) → name_asked asked ≡ Some name → ¬ IsWord (extents_of e.config) name → value ≡ 0
  pub sum : (gate : Gate) → gate_asked asked ≡ Some gate → IsGate e.config gate →
      value ≡ total e.config.processors (λ cpu. slice_index e.words (stride * place (count_word gate cpu))) % 18446744073709551616
  pub zero : (gate : Gate) → gate_asked asked ≡ Some gate → value ≡ 0

-- The gates of a task were closed, and of each word that was asked for the value was told.
pub record ClosedWith (last : SeatedTask) (asked : List WordRecord) (values : List ℕ) : Type 0 where
  pub ending : ClosedState
  pub config : ending.config ≡ last.config
  pub ended : EndedWith ending.config ending.words last.items last.seen
  pub told : (k : ℕ) → k < length values → IsValue ending (slice_index_or asked k no_word) (slice_index values k)

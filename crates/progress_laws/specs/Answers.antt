-- What `keep_waiting` answers: a freeze that finds somebody counted at a level that it closes asks whether to wait on.
use Rattle.std.specs.Prelude.{Err, List, Ok, Some, [], ℕ, ◌∷◌, ◌≡◌}
use Rattle.{cpu_words.specs.Hooks.HookAnswer, freeze_levels.specs.declared.hooks.HookKind.TheVariants.KeepWaiting}
use Rattle.gate_world.specs.{Work.hook_of, Worlds.{World, happens, run}, declared.{config.Config.Config, entries.Entry.Entry}}
use Rattle.gate_world.specs.declared.{entries.Entry.TheVariants.{Begins, Steps}, work.Phase.Phase}

-- a transition that asks it brings such an answer to this task; of all other transitions nothing is said
abbrev pub AnswersSo : (ℕ → HookAnswer → Type 0) → World → Entry → Type 0
AnswersSo such w (Begins t op) = Unit {0}
AnswersSo such w (Steps t hook) = (phase : Phase) → (w.views t).phase ≡ Some phase → hook_of phase ≡ Some KeepWaiting → such t hook

abbrev pub AllAnswerSo : (ℕ → HookAnswer → Type 0) → Config → World → List Entry → Type 0
AllAnswerSo such c w [] = Unit {0}
AllAnswerSo such c w (e ∷ es) = AnswersSo such w e × AllAnswerSo such c (happens c w e) es

-- the same of lists of transitions, one after the other
abbrev pub RoundsAnswerSo : (ℕ → HookAnswer → Type 0) → Config → World → List (List Entry) → Type 0
RoundsAnswerSo such c w [] = Unit {0}
RoundsAnswerSo such c w (es ∷ rounds) = AllAnswerSo such c w es × RoundsAnswerSo such c (run c w es) rounds

-- it says to wait on
abbrev pub IsPatient : ℕ → HookAnswer → Type 0
IsPatient t hook = hook ≡ Ok tt

-- it says so to this task
abbrev pub IsPatientWith : ℕ → ℕ → HookAnswer → Type 0
IsPatientWith patient t hook = t ≡ patient → hook ≡ Ok tt

-- it says to give up
abbrev pub IsImpatient : ℕ → HookAnswer → Type 0
IsImpatient t hook = (code : ℕ) × (hook ≡ Err code)

-- No step stores into the word of a node or a sync word, so what it finds there is what the word held.
use Rattle.gate_steps.proofs.Prelude.{HookAnswer, Phase, arith, found_by, next_of, ℕ}
use Rattle.gate_world.specs.traces.TraceStates.{ReadIsValid}

pub there_found : (phase : Phase) (hook : HookAnswer) (value : ℕ) → ReadIsValid phase (next_of phase hook).0 value →
    ReadIsValid phase (next_of phase hook).0 (found_by (next_of phase hook).1 value)
there_found phase hook value may = grind arith

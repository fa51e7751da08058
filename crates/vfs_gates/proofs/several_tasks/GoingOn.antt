-- An operation under way goes on while its task sees more.
use Rattle.vfs_gates.proofs.Prelude.{Config, DealtNumbers, Entry, IsTrace, List, None, Op, OpUnderWay, SeatedTask, Some, StaySeen, Traced, [], ap}
use Rattle.vfs_gates.proofs.Prelude.{items_at, own_number, phase_after, refl, state_of_trace, stays_seen_on, subst, sym, ◌∙◌, ◌∷◌, ◌≡◌}
use Rattle.gate_steps.specs.call_events.Runs.{AreMovesSoFar, begins_at}

-- after its first step
moves_still : (c : Config) (op : Op) (items : DealtNumbers) (seen : List (List Entry)) (trace : List Traced) (now later : List (List Entry)) →
    begins_at op trace ≡ None → AreMovesSoFar c op items seen trace now → StaySeen now later → AreMovesSoFar c op items seen trace later
moves_still c op items seen [] now later stepped moves stays = absurd (let no : ⊥ = cc in no)
moves_still c op items seen (e ∷ earlier) now later stepped moves stays = (moves.0, stays_seen_on moves.0 now later moves.1 stays, moves.2)

pub goes_on_still : (op : Op) (start now later : SeatedTask) → OpUnderWay op start now → now.begins ≡ None →
    later ≡ record now { seen = later.seen } → StaySeen now.seen later.seen → OpUnderWay op start later
goes_on_still op start now later goes stepped same stays = subst (OpUnderWay op start) (sym same) (record {
  trace = goes.trace;
  admitted = goes.admitted;
  table = goes.table;
  config = goes.config;
  follows = goes.follows;
  phase = goes.phase;
  going = goes.going;
  begins = goes.begins;
  items = goes.items;
  moves = moves_still start.config op start.items start.seen goes.trace now.seen later.seen (sym goes.begins ∙ stepped) goes.moves stays;
})

-- before it nothing has happened
no_events : (op of : Op) (trace : List Traced) → begins_at op trace ≡ Some of → trace ≡ []
no_events op of [] begins = refl
no_events op of (e ∷ earlier) begins = absurd (let no : ⊥ = cc in no)

pub begins_still : (op of : Op) (start now later : SeatedTask) → OpUnderWay op start now → now.begins ≡ Some of →
    later ≡ record now { seen = later.seen } → OpUnderWay op (record start { seen = later.seen }) later
begins_still op of start now later goes unstepped same =
    let none : goes.trace ≡ [] = no_events op of goes.trace (sym goes.begins ∙ unstepped) in
    subst (OpUnderWay op (record start { seen = later.seen })) (sym same) (record {
      trace = [];
      admitted = goes.admitted;
      table = goes.table;
      config = goes.config;
      follows = subst (IsTrace start.config (own_number start.items) op) none goes.follows;
      phase = goes.phase ∙ ap (λ (l : List Traced). phase_after (state_of_trace start.config (own_number start.items) op l).comes) none;
      going = goes.going;
      begins = goes.begins ∙ ap (begins_at op) none;
      items = goes.items ∙ ap (λ (l : List Traced). items_at start.config op l start.items) none;
      moves = (later.seen, refl, refl);
    })

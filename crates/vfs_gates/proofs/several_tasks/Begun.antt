-- A call begins in a state in which its task's numbers stand as they did.
use Rattle.vfs_gates.proofs.Prelude.{AreMoves, Begins, Called, Config, DealtNumbers, Done, Entry, GateError, Go, HookAnswer, IsPrefix, List, Next}
use Rattle.vfs_gates.proofs.Prelude.{None, Numbered, Op, Option, Phase, Reply, Result, Some, Steps, Traced, Wait, [], ap, append_assoc, get_elem?}
use Rattle.vfs_gates.proofs.Prelude.{only, refl, state_of_trace, stays_seen_on, subst, sym, ℕ, ◌∙◌, ◌∷◌, ◌≡◌}
use Rattle.gate_steps.{proofs.call_events.Grown.next_on, specs.{Histories.{then_begins, then_steps}, Seating.{HasWitness, StepWitness}}}
use Rattle.gate_steps.specs.call_events.{Runs.IsNextMove, SeatedTasks.{SeatedTask, own_number}}
use Rattle.vfs_gates.specs.Meetings.{BeginsIn}

-- a step's schedule goes on from the one before it
goes_on : (n : ℕ) (begins : Option Op) (hook : HookAnswer) (past : List Entry) → IsPrefix past (then_steps n hook (then_begins n begins past))
goes_on n None hook past = (Steps n hook ∷ [], refl)
goes_on n (Some op) hook past = (Begins n op ∷ (Steps n hook ∷ []), append_assoc past (Begins n op ∷ []) (Steps n hook ∷ []))

by_move : (c : Config) (begins : Option Op) (phase : Phase) (hook : HookAnswer) (x : Numbered) (xs : DealtNumbers) (found : ℕ)
    (seen gone : List (List Entry)) → StepWitness c begins phase hook x xs found seen gone → BeginsIn c (x ∷ xs) seen gone
by_move c begins phase hook x xs found seen gone w =
    let past : List Entry = w.past.reached.entries in
    let now : List Entry = w.history.reached.entries in
    let on : IsPrefix past now =
    subst (IsPrefix past) (sym (w.stepped ∙ ap (then_steps x.number hook) w.begun)) (goes_on x.number begins hook past) in record {
      began = past;
      all = record { within = w.within; world = w.world; good = w.before; history = w.past; mine = w.mine; last = refl };
      from = λ k earlier at. (0, past, refl, w.from.goes_on k earlier at);
      on = λ k earlier at. (0, now, ap (λ l. get_elem? l 0) w.leaves, subst (λ (l : List Entry). IsPrefix l now) (only past k earlier at) on);
    }

by_witness : (c : Config) (begins : Option Op) (phase : Phase) (hook : HookAnswer) (items : DealtNumbers) (found : ℕ)
    (seen gone : List (List Entry)) → HasWitness c begins phase hook items found seen gone → BeginsIn c items seen gone
by_witness c begins phase hook [] found seen gone w = absurd w
by_witness c begins phase hook (x ∷ xs) found seen gone w = by_move c begins phase hook x xs found seen gone w

by_first : (c : Config) (op : Op) (items : DealtNumbers) (e : Traced) (seen gone : List (List Entry)) (comes : Next Phase) →
    IsNextMove c op items [] e seen gone comes → BeginsIn c items seen gone
by_first c op items e seen gone (Go phase) m = by_witness c (Some op) phase e.hook items m.0 seen gone m.2
by_first c op items e seen gone (Wait phase) m = by_witness c (Some op) phase e.hook items m.0 seen gone m.2
by_first c op items e seen gone (Done answer) m = absurd m

moves_begin : (c : Config) (op : Op) (items : DealtNumbers) (seen : List (List Entry)) (e : Traced) (earlier : List Traced)
    (gone : List (List Entry)) → AreMoves c op items seen (e ∷ earlier) gone → BeginsIn c items seen gone
moves_begin c op items seen e [] gone m =
    subst (λ s. BeginsIn c items s gone) (m.3 ∙ m.4) (by_first c op items e m.0 gone (state_of_trace c (own_number items) op []).comes m.1)
moves_begin c op items seen e (d ∷ ds) gone m =
    let r : BeginsIn c items seen m.2 = moves_begin c op items seen d ds m.2 m.4 in
    let next = next_on c op items (d ∷ ds) e m.0 gone (state_of_trace c (own_number items) op (d ∷ ds)).comes m.1 in record {
      began = r.began;
      all = r.all;
      from = r.from;
      on = stays_seen_on (r.began ∷ []) m.0 gone (stays_seen_on (r.began ∷ []) m.2 m.0 r.on m.3) (λ k earlier at. (0, next.1.0, next.1.1, next.0 k earlier at 0 next.1.0 next.1.1));
    }

trace_begins : (c : Config) (op : Op) (items : DealtNumbers) (seen gone : List (List Entry)) (answer : Result Reply GateError) (trace : List Traced) →
    (state_of_trace c (own_number items) op trace).comes ≡ Done answer → AreMoves c op items seen trace gone → BeginsIn c items seen gone
trace_begins c op items seen gone answer [] ends moves = absurd (let no : ⊥ = cc in no)
trace_begins c op items seen gone answer (e ∷ earlier) ends moves = moves_begin c op items seen e earlier gone moves

pub call_begins : (op : Op) (old left : SeatedTask) (answer : Result Reply GateError) → Called op old left answer →
    BeginsIn old.config old.items old.seen left.seen
call_begins op old left answer called = trace_begins old.config op old.items old.seen left.seen answer called.trace called.ends called.moves

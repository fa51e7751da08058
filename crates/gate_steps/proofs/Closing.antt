-- The table as it is closed.
use Rattle.gate_steps.proofs.Prelude.{Config, Knowledge, List, TableInvariantHolds, at_map, get_elem?, items_of, map, some, subst, ℕ, ◌≡◌}
use Rattle.atomic_table.specs.Table.{Final, Seen}
use Rattle.gate_steps.{proofs.{Dealing.known_here, TableSimulation.holds}, specs.{Rules.Ruled, Tables.IsClosing}}

-- what the last state of a table says of its words and of a seat
pub closes : (c : Config) (id : ℕ) (k : Knowledge) (ws : List ℕ) (slots : List (Unit {0})) → Final (Seen (holds c) id k) ws slots →
    IsClosing c ws k
closes c id k ws slots final =
    let s = final.0 in
    let held : TableInvariantHolds c s.words s.views = final.1.0 in
    let at : get_elem? (map items_of s.views) id ≡ some k.items = at_map items_of s.views id k final.1.1 in record {
      world = held.world;
      ruled = subst (λ (l : List ℕ). Ruled c l held.world) final.2 held.ruled;
      history = held.history;
      mine = held.dealt.same id k.items at;
      seen = held.seen id k final.1.1;
      tasks = known_here c.tasks held.world.views (map items_of s.views) held.dealt id k.items at;
    }

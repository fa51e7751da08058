-- The state of gates that are closed.
use Rattle.vfs_gates.proofs.Prelude.{AllRest, Config, DealtNumbers, EndedWith, Entry, List, View, World, ap, arith, first_items, numbered}
use Rattle.vfs_gates.proofs.Prelude.{opening_view, subst, sym, times, view_in, view_in-at, ℕ, ◌<◌, ◌∙◌, ◌≡◌, ◌≤◌}
use Rattle.gate_steps.{proofs.call_events.{Giving.view_in-is, Opening.times-deal}, specs.{Histories.IsReached, Rules.TableShows, Tables.IsClosing}}
use Rattle.gate_steps.specs.{call_events.GhostAgrees.IsStill, declared.seating.Knowledge.Knowledge}
use Rattle.vfs_gates.{proofs.{Parting.rest-at, Resting.in_dealt}, specs.Ended.{Ended, HasOpeningWords, IsLeftAfter, IsLeftBySchedule}}

-- all numbers are back in a seat whose views rest: so each number rests, and has the view that the seat knows
pub ended : (c : Config) (k : Knowledge) (ws : List ℕ) → IsClosing c ws k → AllRest c k.items →
    ((n : ℕ) → n < c.tasks → 1 ≤ times n k.items) →
    EndedWith c ws k.items k.seen
ended c k ws closing rest all = let items : DealtNumbers = k.items in record {
  ended = record {
    world = closing.world;
    ruled = closing.ruled;
    history = closing.history;
    still = λ t lt. let there = view_in-at t items (all t lt) in
        subst (IsStill c) (sym (view_in-is closing.world.views items t closing.mine (all t lt)))
        (rest-at c items there.0 (numbered t (view_in t items)) rest there.1);
  };
  mine = closing.mine;
  goes_on = closing.seen;
}

-- so gates that are closed with the first task, which knows that no number has had a step, have all words as they begin
pub opens_so : (c : Config) → HasOpeningWords c (first_items c)
opens_so c ws seen e =
    let w : World = e.ended.world in
    let view : (t : ℕ) → t < c.tasks → w.views t ≡ opening_view =
    λ t lt. view_in-is w.views (first_items c) t e.mine (let once = times-deal t 0 c.tasks (omega arith) (omega arith) in omega arith) ∙
    in_dealt t 0 c.tasks in
    subst (TableShows c ws) (e.ended.ruled.opens (λ t lt. ap (λ (v : View). v.events) (view t lt))) e.ended.ruled.words

-- some schedule leaves what closed gates have
pub left_by_schedule : (c : Config) (ws : List ℕ) (e : Ended c ws) → IsLeftBySchedule c ws e.world
left_by_schedule c ws e =
    let reached : IsReached c e.history.log e.world = e.history.reached in record {
      within = e.ruled.within;
      entries = reached.entries;
      words = subst (TableShows c ws) (sym reached.words) e.ruled.words;
      idle = λ t lt. (reached.views t).phase ∙ (e.still t lt).0;
      lists = λ t. (reached.views t).actions;
    }

-- and goes on from all that their last task had seen
pub left_after : (c : Config) (ws : List ℕ) (items : DealtNumbers) (seen : List (List Entry)) (e : EndedWith c ws items seen) →
    IsLeftAfter c ws e.ended.world items seen
left_after c ws items seen e =
    let reached : IsReached c e.ended.history.log e.ended.world = e.ended.history.reached in record {
      left = record {
        within = e.ended.ruled.within;
        entries = reached.entries;
        words = subst (TableShows c ws) (sym reached.words) e.ended.ruled.words;
        idle = λ t lt. (reached.views t).phase ∙ (e.ended.still t lt).0;
        lists = λ t. (reached.views t).actions;
      };
      goes_on = e.goes_on;
    }

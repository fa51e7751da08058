-- No execution has more markers than there are.
use Rattle.std.proofs.Common.{Bool, List, None, Option, Some, [], ap, arith, false, if◌then◌else◌, length, nat_lt, refl, slice_get, subst, true, ℕ}
use Rattle.std.{proofs.{Common.{◌+◌, ◌∷◌, ◌≡◌, ◌≤◌}, lemmas.Option.slice_get_within}, specs.Option.{option_and_then, option_map}}
use Rattle.exploration.{proofs.Pulled.{first_move, nowhere}, specs.Schedules.LeadsTo}
use Rattle.gate_world.specs.{Worlds.World, declared.config.Config.Config}
use Rattle.histories.specs.Executions.{Has, IsAdmitted, beginning}
use Rattle.histories.specs.{Histories.{HistoryStateIn, after_marker, marked, may_come, next_by, task_of, under_way}, declared.markers.Marker.Marker}
use Rattle.races.specs.{Races.{RaceStateIn, move_of_world}, declared.calls.Call.Call}

module _ {M : Type 0} (next : List (List (Option Call)) → RaceStateIn M → ℕ → Option (RaceStateIn M)) (tasks : ℕ) (markers : List Marker) where
  one_move : (s t : HistoryStateIn M) (m : ℕ) → next_by next tasks markers s m ≡ Some t → s.passed ≤ length markers → t.passed ≤ length markers
  one_move s t m move few = by (nat_lt m tasks) move
    where
      stepped : (o : Option (RaceStateIn M)) → option_map (λ (race : RaceStateIn M). record { race = race; passed = s.passed }) o ≡ Some t → t.passed ≤ length markers
      stepped None e = cc
      stepped (Some race) e =
          let same : record { race = race; passed = s.passed } ≡ t = cc in
          let passed = ap (λ (x : HistoryStateIn M). x.passed) same in
          omega (arith, few, passed)

      come : (marker : Marker) (b : Bool) → slice_get markers s.passed ≡ Some marker →
          (if b then Some (record { race = marked s.race (task_of marker); passed = s.passed + 1 }) else None) ≡ Some t → t.passed ≤ length markers
      come marker true there e =
          let same : record { race = marked s.race (task_of marker); passed = s.passed + 1 } ≡ t = cc in
          let passed = ap (λ (x : HistoryStateIn M). x.passed) same in
          let less = slice_get_within markers s.passed marker there in
          omega (arith, less, passed)
      come marker false there e = cc

      recorded : (o : Option Marker) → slice_get markers s.passed ≡ o → option_and_then (after_marker next tasks markers s) o ≡ Some t → t.passed ≤ length markers
      recorded None there e = cc
      recorded (Some marker) there e = come marker (may_come (under_way tasks markers s.passed) s.race.courses marker) there e

      by : (b : Bool) → (if b then option_map (λ (race : RaceStateIn M). record { race = race; passed = s.passed }) (next (under_way tasks markers s.passed) s.race m)
          else option_and_then (after_marker next tasks markers s) (slice_get markers s.passed)) ≡ Some t → t.passed ≤ length markers
      by true e = stepped (next (under_way tasks markers s.passed) s.race m) e
      by false e = recorded (slice_get markers s.passed) refl e

  all_moves : (n : ℕ) (ms : List ℕ) (s u : HistoryStateIn M) → LeadsTo (next_by next tasks markers) n s ms u → s.passed ≤ length markers → u.passed ≤ length markers
  all_moves n [] s u leads few =
      let e = ap (λ (x : HistoryStateIn M). x.passed) (nowhere (next_by next tasks markers) n s u leads) in
      omega (arith, e, few)
  all_moves n (m ∷ ms) s u leads few =
      let (v, move, whose, rest) = first_move (next_by next tasks markers) n s u m ms leads in
      all_moves n ms v u rest (one_move s v m move few)

module _ (c : Config) (markers : List Marker) (w : World) where
  pub few_passed : (n : ℕ) → Has c markers w n → n ≤ length markers
  few_passed n (ms, to, plays, is) =
      let few = all_moves (move_of_world c) c.tasks markers (c.tasks + 1) ms (beginning c w) to plays (omega arith) in
      omega (arith, is, few)

  -- an execution with as many markers as there are has all
  pub admitted : (n : ℕ) → length markers ≤ n → Has c markers w n → IsAdmitted c markers w
  admitted n all has =
      let few = few_passed n has in
      let e : n ≡ length markers = omega (arith, all, few) in
      subst (Has c markers w) e has

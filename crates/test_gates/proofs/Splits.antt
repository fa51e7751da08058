-- A task that holds an access, and may give a number away meanwhile.
use Rattle.std.proofs.Common.{Err, List, Ok, Result, [], ap, inl, inr, length, subst, sym, true, ℕ, ◌++◌, ◌∙◌, ◌≡◌, ◌≤◌, ◌⊎◌}
use Rattle.access_model.specs.declared.{actions.Action.Action, errors.GateError.{GateError, TheVariants.Busy}, replies.Reply.Reply}
use Rattle.gate_steps.specs.Seating.{DealtNumbers, HaveHistory}
use Rattle.gate_world.specs.declared.{config.Config.Config, operations.Op.{Op, TheVariants.RemountSb}}
use Rattle.vfs_gates.proofs.{Grown.{same_stays_seen, stays_seen_on}, Returning.was_done, several_tasks.Beside.{met_stays, second_has}}
use Rattle.vfs_gates.proofs.several_tasks.{FrozenUntilThawed.{some_number, some_ran}, Keeping.remount_busy, Moving.{joined_second, split_keeps}}
use Rattle.vfs_gates.specs.{Grown.StaySeen, Held.own_actions, Meetings.{Encloses, Entry, HasDone, HoldsAt, Meets}, Parts.SplitOf}
use Rattle.vfs_gates.specs.{Runs.{Called, Performs}, TaskStates.{SeatedTask, own_number}}

-- A call after a meeting, and a later state.
encloses_by : (one two begins beside left : SeatedTask) (after : DealtNumbers) (last_seen : List (List Entry)) → Meets one two begins beside →
    HaveHistory begins.config after last_seen → StaySeen left.seen last_seen → Encloses (one.items ++ two.items) after begins left
encloses_by one two begins beside left after last_seen meets last sees =
    let same : begins.config ≡ one.config = ap (λ (s : SeatedTask). s.config) meets.first in record {
      first_seen = meets.seen;
      first = subst (λ (c : Config). HaveHistory c (one.items ++ two.items) meets.seen) (sym same) meets.stand.all;
      saw = subst (StaySeen meets.seen) (sym (ap (λ (s : SeatedTask). s.seen) meets.first)) (same_stays_seen meets.seen);
      last_seen = last_seen;
      last = last;
      sees = sees;
    }

module _ (m : ℕ) (one two begins beside left kept third first second last other : SeatedTask) (holds : HoldsAt m two) (some : 1 ≤ length two.items)
    (history : HaveHistory two.config two.items two.seen) (meets : Meets one two begins beside) (split : SplitOf beside kept third)
    (config : left.config ≡ begins.config) (again : Meets left kept first second) (at_last : Meets first third last other) where
  abbrev n : ℕ
  n = own_number two.items

  abbrev list : List Action
  list = own_actions two

  -- what the meetings leave of the tasks
  same_items : beside.items ≡ two.items
  same_items = ap (λ (s : SeatedTask). s.items) meets.second

  its_config : beside.config ≡ two.config
  its_config = ap (λ (s : SeatedTask). s.config) meets.second

  sees_first : StaySeen left.seen again.seen
  sees_first = subst (StaySeen left.seen) (ap (λ (s : SeatedTask). s.seen) again.first) (met_stays left kept first second again).0

  sees_last : StaySeen left.seen at_last.seen
  sees_last =
      let on : StaySeen first.seen at_last.seen =
      subst (StaySeen first.seen) (ap (λ (s : SeatedTask). s.seen) at_last.first) (met_stays first third last other at_last).0 in
      stays_seen_on left.seen first.seen at_last.seen (met_stays left kept first second again).0 on

  -- the number that took the access is with one of the two
  goes : HasDone n list kept.items ⊎ HasDone n list third.items
  goes =
      let there : HasDone n list two.items = second_has [] two.items some in
      split_keeps n list beside kept third two.seen split
      (subst (λ (c : Config). HaveHistory c beside.items two.seen) (sym its_config)
      (subst (λ (l : DealtNumbers). HaveHistory two.config l two.seen) (sym same_items) history))
      (subst (HasDone n list) (sym same_items) there)

  busy_in : (reply : Reply) (was : Called (RemountSb true) begins left (Ok reply)) (after : DealtNumbers) →
      Encloses (one.items ++ two.items) after begins left → HasDone n list after → ⊥
  busy_in reply was after around has =
      let busy : ◌≡◌ {A = Result Reply GateError} (Ok reply) (Err Busy) =
      remount_busy m n begins left (Ok reply) list (one.items ++ two.items) after was around (second_has one.items two.items some) has holds in
      let no : ⊥ = cc in no

  pub split_refuses : (outcome : Result (Unit {0}) GateError) → Performs (RemountSb true) begins left outcome → outcome ≡ Ok tt → ⊥
  split_refuses outcome performs is =
      let done = was_done (RemountSb true) begins left (subst (Performs (RemountSb true) begins left) is performs) in
      elim goes [
        | inl mine ↦
            busy_in done.reply done.called (left.items ++ kept.items) (encloses_by one two begins beside left _ again.seen meets
            (subst (λ (c : Config). HaveHistory c (left.items ++ kept.items) again.seen) config again.stand.all) sees_first)
            (joined_second n list left.items kept.items mine)
        | inr its ↦
            let same : first.config ≡ begins.config = ap (λ (s : SeatedTask). s.config) again.first ∙ config in
            busy_in done.reply done.called (first.items ++ third.items) (encloses_by one two begins beside left _ at_last.seen meets
            (subst (λ (c : Config). HaveHistory c (first.items ++ third.items) at_last.seen) same at_last.stand.all) sees_last)
            (joined_second n list first.items third.items its)
      ]

-- who has made a call has a number
pub took_number : (op : Op) (old left : SeatedTask) → Performs op old left (Ok tt) → 1 ≤ length left.items
took_number op old left did =
    let was = was_done op old left did in
    subst (λ (s : SeatedTask). 1 ≤ length s.items) (sym was.called.after) (some_ran old.config op was.called.trace old.items
    (some_number old.config op old.items old.seen left.seen was.called.trace (Ok was.reply) was.called.ends was.called.moves))

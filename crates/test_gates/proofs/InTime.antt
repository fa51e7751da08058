-- What the laws say of the calls of `tests::in_time`.
use Rattle.std.proofs.Common.{Err, IfErr, List, None, Ok, OnOk, Result, ap, refl, subst, sym, true, ◌++◌, ◌∙◌, ◌≡◌}
use Rattle.access_model.specs.declared.{errors.GateError.GateError, replies.Reply.Reply}
use Rattle.gate_steps.{proofs.call_events.{Caused.call_caused_during, Effects.call_effect}, specs.call_events.Spans.HasItsCauseDuring}
use Rattle.gate_world.specs.declared.{config.Config.Config, operations.Op.{Op, TheVariants.Snapshot as SnapshotOp}}
use Rattle.vfs_gates.proofs.{Grown.both_stay_seen, Returning.was_done, Taking.has_taken, call_laws.{NothingAdded.was_so, Timing.calls_in_order}}
use Rattle.vfs_gates.proofs.{call_laws.Timing.taken_during, several_tasks.{FrozenUntilThawed.some_number, Told.{comes_after_list, own_list}}}
use Rattle.vfs_gates.{proofs.several_tasks.Told.sent_list, specs.{Grown.StaySeen, Held.own_actions, Meetings.{ComesAfterList, Entry, SawList}}}
use Rattle.vfs_gates.specs.{Runs.{Called, Performs, told_as, unit_of}, TaskStates.{SeatedTask, own_number, refusal_at}}
use Rattle.test_gates.specs.InTime.{CopiedDuring, DoneInOrder, FoundItSo, RefusedSince, TookEffect}

-- what is so of a call that was done
pub where_done : {E : Type 0} (outcome : Result (Unit {0}) E) (P : Type 0) → (outcome ≡ Ok tt → P) → OnOk outcome P
where_done (Ok tt) P so = so refl
where_done (Err refusal) P so = tt

-- and of one that was refused
pub where_refused : {A : Type 0} (outcome : Result A GateError) (P : GateError → Type 0) → ((refusal : GateError) → outcome ≡ Err refusal → P refusal) →
    IfErr outcome P
where_refused (Ok reply) P so = tt
where_refused (Err refusal) P so = so refusal refl

module _ (op : Op) (old left : SeatedTask) where
  took_effect : Performs op old left (Ok tt) → TookEffect op old left
  took_effect did =
      let was = was_done op old left did in
      record { reply = was.reply; called = was.called; effect = call_effect op old left (Ok was.reply) was.called }

  pub takes_effect : (outcome : Result (Unit {0}) GateError) → Performs op old left outcome → OnOk outcome (TookEffect op old left)
  takes_effect outcome did = where_done outcome (TookEffect op old left) (λ is. took_effect (subst (Performs op old left) is did))

  pub finds_it_so : (outcome : Result (Unit {0}) GateError) → Performs op old left outcome → OnOk outcome (FoundItSo op old left)
  finds_it_so outcome did =
      where_done outcome (FoundItSo op old left)
      (λ is none. let was = was_done op old left (subst (Performs op old left) is did) in
      (was.reply, was_so op old left was.reply was.called none))

  -- a refusal's cause
  caused : (refusal : GateError) (answer : Result Reply GateError) →
      ◌≡◌ {A = Result (Unit {0}) GateError} (Err refusal) (told_as unit_of answer) → Called op old left answer →
      (called : Called op old left (Err refusal)) × HasItsCauseDuring old.config old.items op called.trace refusal old.seen left.seen
  caused refusal (Ok reply) told called = absurd (let f : ⊥ = cc in f)
  caused refusal (Err other) told called =
      let same : other ≡ refusal = cc in
      let its = subst (λ e. Called op old left (Err e)) same called in (its, call_caused_during op old left refusal its)

  pub refused_during : (refusal : GateError) → Performs op old left (Err refusal) → refusal_at op old ≡ None →
      (called : Called op old left (Err refusal)) × HasItsCauseDuring old.config old.items op called.trace refusal old.seen left.seen
  refused_during refusal did began = let done = did.done began in caused refusal done.0 done.1 done.2

pub refused_since : (one two : Op) (old between left : SeatedTask) (outcome : Result (Unit {0}) GateError) → Performs one old between (Ok tt) →
    Performs two between left outcome → IfErr outcome (λ refusal. RefusedSince one two old left refusal)
refused_since one two old between left outcome first second =
    where_refused outcome (RefusedSince one two old left) (λ refusal is.
    record {
      between = between;
      first = first;
      during = refused_during two between left refusal (subst (Performs two between left) is second);
    })

-- A task that took in what another sent has seen what that one had.
heard : (other told : SeatedTask) (sent : List (List Entry)) → told ≡ record other { seen = other.seen ++ sent } → StaySeen sent told.seen
heard other told sent tells =
    subst (StaySeen sent) (sym (ap (λ (s : SeatedTask). s.seen) tells)) (both_stay_seen other.seen sent).1

-- So its call comes after it.
module _ (one two : Op) (old left other told other_left : SeatedTask) (same : other.config ≡ old.config)
    (tells : told ≡ record other { seen = other.seen ++ left.seen }) where
  config : told.config ≡ old.config
  config = ap (λ (s : SeatedTask). s.config) tells ∙ same

  in_order_then : Performs one old left (Ok tt) → Performs two told other_left (Ok tt) → DoneInOrder one two old left other other_left
  in_order_then first second =
      let was = was_done one old left first in
      let is = was_done two told other_left second in
      let stays : StaySeen left.seen told.seen = heard other told left.seen tells in
      let list : SawList left.config (own_number left.items) (own_actions left) left.seen = own_list one old left (Ok was.reply) was.called in
      record {
        told = told;
        same = tells ∙ ap (λ (l : List (List Entry)). record other { seen = l }) (sym (ap (λ (s : SeatedTask). s.seen) tells));
        reply = was.reply;
        answer = is.reply;
        first = was.called;
        second = is.called;
        order = calls_in_order one two old left told other_left (Ok was.reply) (Ok is.reply) was.called is.called config stays;
        behind = comes_after_list two told other_left (Ok is.reply) (own_number left.items) (own_actions left) is.called
            (subst (λ (c : Config). SawList c (own_number left.items) (own_actions left) told.seen) (first.config ∙ sym config)
            (sent_list left.config (own_number left.items) (own_actions left) left.seen told.seen list stays));
      }

  pub done_in_order : (outcome : Result (Unit {0}) GateError) → Performs one old left (Ok tt) → Performs two told other_left outcome →
      OnOk outcome (DoneInOrder one two old left other other_left)
  done_in_order outcome first second =
      where_done outcome (DoneInOrder one two old left other other_left) (λ is. in_order_then first (subst (Performs two told other_left) is second))

-- what a call has left comes before a call of whoever has seen it
pub behind_it : (one two : Op) (old left begins ends : SeatedTask) → Performs one old left (Ok tt) → Performs two begins ends (Ok tt) →
    begins.config ≡ left.config → StaySeen left.seen begins.seen →
    ComesAfterList (own_number left.items) (own_actions left) begins ends
behind_it one two old left begins ends first second same stays =
    let was = was_done one old left first in
    let is = was_done two begins ends second in
    comes_after_list two begins ends (Ok is.reply) (own_number left.items) (own_actions left) is.called
    (subst (λ (c : Config). SawList c (own_number left.items) (own_actions left) begins.seen) (sym same)
    (sent_list left.config (own_number left.items) (own_actions left) left.seen begins.seen (own_list one old left (Ok was.reply) was.called) stays))

-- A snapshot that was done.
copied_during : (old left : SeatedTask) → Performs (SnapshotOp true) old left (Ok tt) → CopiedDuring old left
copied_during old left did =
    let op : Op = SnapshotOp true in
    let was = was_done op old left did in
    let there = some_number old.config op old.items old.seen left.seen was.called.trace (Ok was.reply) was.called.ends was.called.moves in
    let taken = has_taken true old left was.reply there was.called in
    (taken.seen, taken.shows, taken_during true old left was.reply taken.seen there was.called taken.shows)

pub copies_during : (old left : SeatedTask) (outcome : Result (Unit {0}) GateError) → Performs (SnapshotOp true) old left outcome →
    OnOk outcome (CopiedDuring old left)
copies_during old left outcome did =
    where_done outcome (CopiedDuring old left) (λ is. copied_during old left (subst (Performs (SnapshotOp true) old left) is did))

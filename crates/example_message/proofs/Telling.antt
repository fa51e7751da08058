-- A copy has what its task was told of.
use Rattle.access_model.{proofs.Lists.part_append, specs.{Histories.own_part, declared.{actions.Action.Action, errors.GateError.GateError}}}
use Rattle.gate_steps.{proofs.call_events.{Grown.after_more, Moments.actions_append}, specs.Seating.{DealtNumbers, IsPrefix}}
use Rattle.gate_steps.specs.call_events.{Grown.{HasSeen, StaySeen}, Spans.IsEventDuring}
use Rattle.gate_world.specs.{Headline.{actions_since, actions_so_far}, declared.{entries.Entry.{Entry, TheVariants.Begins}, operations.Op.Op}}
use Rattle.gate_world.specs.declared.{operations.Op.TheVariants.Snapshot as SnapshotOp, views.Traced.Traced}
use Rattle.std.proofs.{Common.{Err, IfOk, List, Ok, Result, ap, arith, refl, subst, sym, true, ℕ, ◌++◌, ◌+◌, ◌∙◌, ◌∷◌, ◌≡◌, ◌≤◌}, Math.Logic.∥∥₁_map}
use Rattle.vfs_gates.proofs.{Returning.was_done, call_laws.Timing.taken_during, several_tasks.{Enclosed.done_there, FrozenUntilThawed.some_number}}
use Rattle.vfs_gates.{proofs.several_tasks.Told.sent_list, specs.{Meetings.{Config, SawList}, TaskStates.{SeatedTask, own_number}}}
use Rattle.example_message.{proofs.Writing.writes_more, specs.Words.{CopiesNow, HadWritten, HasEveryWrite, writes_in}}
use lib.ListN.{get_elem?}

-- what was told of stays told of
pub told_on : (c : Config) (n writes : ℕ) (seen now : List (List Entry)) → HadWritten c n writes seen → StaySeen seen now → HadWritten c n writes now
told_on c n writes seen now told stays =
    record { list = told.list; saw = sent_list c n told.list seen now told.saw stays; wrote = told.wrote }

-- At each moment of a call all that its task was told of is done.
pub told_by : (c : Config) (items : DealtNumbers) (op : Op) (earlier : List Traced) (e : Traced) (seen left : List (List Entry)) (n writes : ℕ)
    (during : IsEventDuring c items op earlier e seen left) → HadWritten c n writes seen →
    writes ≤ writes_in (own_part n (actions_so_far c during.entries))
told_by c items op earlier e seen left n writes during told =
    let saw : SawList c n told.list seen = told.saw in
    let one : List Entry = saw.history.history.reached.entries in
    let here : HasSeen one seen = saw.saw 0 one (ap (λ l. get_elem? l 0) saw.history.last) in
    let from : IsPrefix one during.began = after_more one here.1 during.began here.3 (during.begins.saw here.0 here.1 here.2) in
    let on : IsPrefix one during.entries =
    after_more one during.began during.entries from (Begins (own_number items) op ∷ during.since, during.is) in
    let gap = actions_since c one on.0 in
    let all : own_part n (actions_so_far c during.entries) ≡ own_part n gap ++ told.list =
    ap (λ (l : List Entry). own_part n (actions_so_far c l)) on.1 ∙
    (ap (own_part n) (actions_append c one on.0) ∙
    (part_append n gap (actions_so_far c one) ∙
    ap (λ (l : List Action). own_part n gap ++ l) (done_there c saw.items saw.then saw.history n told.list saw.there))) in
    let more : writes_in (own_part n (actions_so_far c during.entries)) ≡ writes_in (own_part n gap) + writes_in told.list =
    ap writes_in all ∙ writes_more (own_part n gap) told.list in
    omega (arith, more, told.wrote)

-- So a task's copy has it.
pub has_every_write : (c : Config) (n writes blocks : ℕ) (old left : SeatedTask) → old.config ≡ c → CopiesNow old left blocks →
    HadWritten c n writes old.seen → HasEveryWrite c n writes blocks left.seen
has_every_write c n writes blocks old left same copied told =
    let d : Config = old.config in
    let op : Op = SnapshotOp true in
    let was = was_done op old left copied.0 in
    let there = some_number d op old.items old.seen left.seen was.called.trace (Ok was.reply) was.called.ends was.called.moves in
    let taken = taken_during true old left was.reply copied.1 there was.called copied.2 in
    let entries : List Entry = taken.during.entries in
    let saw : HasSeen entries left.seen = subst (HasSeen entries) (sym taken.during.leaves) (0, _, refl, (_, refl)) in
    subst (λ (k : Config). HasEveryWrite k n writes blocks left.seen) same
    (record {
      copy = copied.1.loaded;
      blocks_are = copied.3;
      entries = entries;
      saw = saw;
      tree = taken.tree;
      wrote = told_by d old.items op taken.earlier taken.last old.seen left.seen n writes taken.during
          (subst (λ (k : Config). HadWritten k n writes old.seen) (sym same) told);
    })

-- and has it still
pub copy_on : (c : Config) (n writes blocks : ℕ) (seen now : List (List Entry)) → HasEveryWrite c n writes blocks seen → StaySeen seen now →
    HasEveryWrite c n writes blocks now
copy_on c n writes blocks seen now had stays =
    let at = had.saw in
    let on = stays at.0 at.1 at.2 in record {
      copy = had.copy;
      blocks_are = had.blocks_are;
      entries = had.entries;
      saw = (on.0, on.1, on.2, after_more had.entries at.1 on.1 at.3 on.3);
      tree = had.tree;
      wrote = had.wrote;
    }

-- So a task that takes word in, freezes, copies and thaws has it in its copy.
pub copied_then : (c : Config) (n writes : ℕ) (frozen copied left : SeatedTask) (blocks : Result ℕ GateError) → frozen.config ≡ c →
    ∥ HadWritten c n writes frozen.seen ∥₁ → IfOk blocks (CopiesNow frozen copied) → StaySeen copied.seen left.seen →
    IfOk blocks (λ many. ∥ HasEveryWrite c n writes many left.seen ∥₁)
copied_then c n writes frozen copied left (Ok blocks) same told copies stays =
    ∥∥₁_map told (λ its. copy_on c n writes blocks copied.seen left.seen (has_every_write c n writes blocks frozen copied same copies its) stays)
copied_then c n writes frozen copied left (Err refusal) same told copies stays = tt

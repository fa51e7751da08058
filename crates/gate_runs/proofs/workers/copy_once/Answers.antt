-- a copy, or a freeze that gave up
use Rattle.gate_runs.proofs.Prelude.{Action, Bool, Called, DealtNumbers, Does, Err, FoundOthers, Freeze, GateError, GaveUp, List, Ok, Option}
use Rattle.gate_runs.proofs.Prelude.{Performs, Rests, Result, SeatedTask, User, err_from_is_err_and, inl, own_actions, refl, subst, sym, true, ℕ, ◌≡◌}
use Rattle.{access_model.specs.{Holders.held_by, declared.errors.GateError.TheVariants.Invalid}, cpu_words.specs.Hooks.HookAnswer}
use Rattle.{freeze_levels.specs.declared.hooks.HookCall.HookCall, gate_steps.specs.call_events.Asking.PerformsAsking}
use Rattle.{gate_world.specs.declared.operations.Op.TheVariants.{Snapshot, Thaw}, vfs_gates.{proofs.Grown.same_stays_seen, specs.Frozen.holders_of}}
use Rattle.gate_runs.proofs.Answering.{done_stays_seen, freeze_begins, freezes_list, may_again, rests_by, thaw_begins, thaw_refused}
use Rattle.gate_runs.{proofs.{GivingUp.may_after_giving_up, Keeping.{called_stays, stays, stays_on}}, specs.Patience.{Froze, TriedToFreeze}}
use Rattle.gate_runs.proofs.workers.copy_once.Goals as goal

-- a thaw leaves the task at rest
thawed_rests : (first last : SeatedTask) (outcome : Result (Unit {0}) GateError) → Rests first → Performs (Thaw User) first last outcome → Rests last
thawed_rests first last outcome rests did = rests_by _ (Thaw User) first last outcome refl rests did

-- what is found of a freeze that a task's own list has: a thaw that is refused found thawed what was frozen
thaw_found : {H : Type 0} (answers : HookCall → DealtNumbers → H → HookAnswer → H → Type 0) →
    ((call : HookCall) (at : DealtNumbers) (old new : H) (answer : HookAnswer) → answers call at old answer new → answer ≡ Ok tt) →
    (first frozen copied thawed : SeatedTask) (before after : H) (refusal : GateError) → Rests copied → Does (Freeze User) first frozen →
    own_actions copied ≡ own_actions frozen → PerformsAsking answers (Thaw User) copied thawed (Err refusal) before after → FoundOthers thawed
thaw_found answers agree first frozen copied thawed before after refusal rests freezes same did =
    let called = thaw_refused answers agree copied thawed before after refusal (thaw_begins copied rests) did in
    let stayed = called_stays (Thaw User) copied thawed (Err Invalid) called in inl (record {
      op = Thaw User;
      first = copied;
      last = thawed;
      config = sym stayed.config;
      own = sym stayed.own;
      needs = refl;
      holds = subst (λ (l : List Action). held_by (holders_of l) User ≡ true) (sym same) (freezes_list first frozen freezes);
      refused = called;
      seen = same_stays_seen thawed.seen;
    })

-- and so did a snapshot
snapshot_found : (first frozen copied thawed : SeatedTask) → Does (Freeze User) first frozen → Called (Snapshot true) frozen copied (Err Invalid) →
    Does (Thaw User) copied thawed → FoundOthers thawed
snapshot_found first frozen copied thawed freezes refused thaws =
    let stayed = stays_on (called_stays (Snapshot true) frozen copied (Err Invalid) refused) (stays _ (Thaw User) copied thawed _ thaws) in inl (record {
      op = Snapshot true;
      first = frozen;
      last = copied;
      config = sym stayed.config;
      own = sym stayed.own;
      needs = tt;
      holds = freezes_list first frozen freezes;
      refused = refused;
      seen = done_stays_seen (Thaw User) copied thawed thaws;
    })

-- whether it froze or gave up
froze : (patience : Option ℕ) (branch : Bool) (first last : SeatedTask) → branch ≡ true → TriedToFreeze patience branch first last →
    Does (Freeze User) first last
froze patience branch first last is tried =
    let its : Froze patience first last = subst (λ b. TriedToFreeze patience b first last) is tried in its.1.replies

pub returns-then-not-branch-clause-may : goal.returns-then-not-branch-clause-may
returns-then-not-branch-clause-may g c =
    let first = c.args.task.now in
    let gave : GaveUp c.patience.result first c.try_to_freeze.new.task =
    subst (λ b. TriedToFreeze c.patience.result b first c.try_to_freeze.new.task) c.if-not-branch.true c.in_ok-try_to_freeze.ensures.tried in
    may_after_giving_up c.patience.result first c.try_to_freeze.new.task (freeze_begins first c.requires.rests) c.requires.may gave

pub returns-in_err-thaw-clause-stays : goal.returns-in_err-thaw-clause-stays
returns-in_err-thaw-clause-stays g c =
    stays_on c.try_to_freeze.ensures.stays (stays_on c.take_snapshot-taken.ensures.stays
    (stays _ (Thaw User) c.take_snapshot-taken.new.task c.thaw.new.self _ c.thaw.ensures.replies))

pub returns-in_err-thaw-clause-refused : goal.returns-in_err-thaw-clause-refused
returns-in_err-thaw-clause-refused g c =
    let p = err_from_is_err_and c.from_residual-in_err-thaw.result c.from_residual-in_err-thaw.ensures.1 in
    let taken = c.take_snapshot-taken.ensures in
    let freezes = froze c.patience.result _ c.args.task.now c.try_to_freeze.new.task c.if-not-branch.false c.in_ok-try_to_freeze.ensures.tried in
    rw p.1 (thaw_found _ (λ call at old new answer is. is) c.args.task.now c.try_to_freeze.new.task c.take_snapshot-taken.new.task c.thaw.new.self _ _
    c.in_err-thaw.field-0.0 taken.rests freezes taken.list c.in_err-thaw.ensures)

pub returns-in_err-taken-clause-rests : goal.returns-in_err-taken-clause-rests
returns-in_err-taken-clause-rests g c =
    thawed_rests c.take_snapshot-taken.new.task c.thaw.new.self _ c.take_snapshot-taken.ensures.rests c.thaw.ensures.replies

pub returns-in_err-taken-clause-stays : goal.returns-in_err-taken-clause-stays
returns-in_err-taken-clause-stays g c =
    stays_on c.try_to_freeze.ensures.stays (stays_on c.take_snapshot-taken.ensures.stays
    (stays _ (Thaw User) c.take_snapshot-taken.new.task c.thaw.new.self _ c.thaw.ensures.replies))

pub returns-in_err-taken-clause-refused : goal.returns-in_err-taken-clause-refused
returns-in_err-taken-clause-refused g c =
    let p = err_from_is_err_and c.from_residual-in_err-taken.result c.from_residual-in_err-taken.ensures.1 in
    let freezes = froze c.patience.result _ c.args.task.now c.try_to_freeze.new.task c.if-not-branch.false c.in_ok-try_to_freeze.ensures.tried in
    rw p.1 (snapshot_found c.args.task.now c.try_to_freeze.new.task c.take_snapshot-taken.new.task c.thaw.new.self freezes
    c.in_err-taken.ensures.refused.1 c.in_ok-thaw.ensures.replies)

pub returns-clause-rests : goal.returns-clause-rests
returns-clause-rests g c =
    thawed_rests c.take_snapshot-taken.new.task c.thaw.new.self _ c.take_snapshot-taken.ensures.rests c.thaw.ensures.replies

pub returns-clause-stays : goal.returns-clause-stays
returns-clause-stays g c =
    stays_on c.try_to_freeze.ensures.stays (stays_on c.take_snapshot-taken.ensures.stays
    (stays _ (Thaw User) c.take_snapshot-taken.new.task c.thaw.new.self _ c.thaw.ensures.replies))

pub returns-clause-may : goal.returns-clause-may
returns-clause-may g c =
    let freezes = froze c.patience.result _ c.args.task.now c.try_to_freeze.new.task c.if-not-branch.false c.in_ok-try_to_freeze.ensures.tried in
    may_again c.args.task.now c.try_to_freeze.new.task c.take_snapshot-taken.new.task c.thaw.new.self c.requires.may freezes
    c.take_snapshot-taken.ensures.list c.in_ok-thaw.ensures.replies

-- A callback that ran is one more; the first that did not run ends the loop. That of an idle task is not refused, and
-- that of any other is, as Order.
use Rattle.vfs_gates.proofs.Prelude.{Callback, Ok, Replies, err_from_is_err_and, false, refl, rules, subst, suc, true, ◌∙◌, ◌≡◌}
use Rattle.gate_steps.specs.call_events.Runs.{ran_of}
use Rattle.vfs_gates.proofs.{CallingBack.{calls_back, never_refused, not_ran, refused_still}, Holding.unchanged}
use Rattle.vfs_gates.proofs.task.Task.settle_level.Goals as goal

pub loop-init : goal.loop-init
loop-init g c = record { next = tt; finite = tt; from = c.requires.from; ran = (0, refl); as_before = λ idle. unchanged _ idle; busy = λ busy. refl }

pub callback-requires : goal.callback-requires
callback-requires g c = c.loop.invariant.from

pub loop-preserved : goal.loop-preserved
loop-preserved g c =
    let now = c.loop in
    let is : c.in_ok-callback.field-0 ≡ true = search (rules, c.if-not-branch.false) in
    let ran : Replies ran_of (Callback c.args.level) now.self c.callback.new.self (Ok true) =
    subst (λ b. Replies ran_of (Callback c.args.level) now.self c.callback.new.self (Ok b)) is c.in_ok-callback.ensures in record {
      next = tt;
      finite = tt;
      from = (c.callback.ensures.table ∙ now.invariant.from.0, c.callback.ensures.config ∙ now.invariant.from.1);
      ran = (suc now.invariant.ran.0, (now.self, now.invariant.ran.1, ran));
      as_before = calls_back c.args.level c.args.self.now now.self c.callback.new.self _ now.invariant.as_before ran;
      busy = λ busy. absurd (not_ran c.args.level c.args.self.now now.self c.callback.new.self now.invariant.busy busy true ran);
    }

pub returns-in_err-callback-clause-from : goal.returns-in_err-callback-clause-from
returns-in_err-callback-clause-from g c =
    (c.callback.ensures.table ∙ c.loop.invariant.from.0, c.callback.ensures.config ∙ c.loop.invariant.from.1)

pub returns-in_err-callback-clause-settled : goal.returns-in_err-callback-clause-settled
returns-in_err-callback-clause-settled g c =
    let p = err_from_is_err_and c.from_residual.result c.from_residual.ensures.1 in rw p.1 tt

pub returns-in_err-callback-clause-idle : goal.returns-in_err-callback-clause-idle
returns-in_err-callback-clause-idle g c idle =
    absurd (never_refused c.args.level c.loop.self c.callback.new.self c.requires.level.0 c.requires.level.1 c.in_err-callback.field-0.0
    (c.loop.invariant.as_before idle).idle c.in_err-callback.ensures)

pub returns-in_err-callback-clause-refused : goal.returns-in_err-callback-clause-refused
returns-in_err-callback-clause-refused g c busy =
    let p = err_from_is_err_and c.from_residual.result c.from_residual.ensures.1 in
    let k = refused_still c.args.level c.args.self.now c.loop.self c.callback.new.self c.loop.invariant.busy busy _ c.in_err-callback.ensures in
    rw (p.1, p.2, k.0) (refl, k.1)

pub returns-then-not-branch-clause-from : goal.returns-then-not-branch-clause-from
returns-then-not-branch-clause-from g c =
    (c.callback.ensures.table ∙ c.loop.invariant.from.0, c.callback.ensures.config ∙ c.loop.invariant.from.1)

pub returns-then-not-branch-clause-settled : goal.returns-then-not-branch-clause-settled
returns-then-not-branch-clause-settled g c =
    let is : c.in_ok-callback.field-0 ≡ false = search (rules, c.if-not-branch.true) in
    record {
      times = c.loop.invariant.ran.0;
      mid = c.loop.self;
      ran = c.loop.invariant.ran.1;
      none = subst (λ b. Replies ran_of (Callback c.args.level) c.loop.self c.callback.new.self (Ok b)) is c.in_ok-callback.ensures;
    }

pub returns-then-not-branch-clause-idle : goal.returns-then-not-branch-clause-idle
returns-then-not-branch-clause-idle g c idle =
    (refl, calls_back c.args.level c.args.self.now c.loop.self c.callback.new.self _ c.loop.invariant.as_before c.callback.ensures idle)

pub returns-then-not-branch-clause-refused : goal.returns-then-not-branch-clause-refused
returns-then-not-branch-clause-refused g c busy =
    absurd (not_ran c.args.level c.args.self.now c.loop.self c.callback.new.self c.loop.invariant.busy busy _ c.in_ok-callback.ensures)

-- a freeze that gave up leaves the task at rest, and the copy comes after freezes that did
use Rattle.std.proofs.{Common.refl, lemmas.Result.on_ok_weaker}
use Rattle.vfs_gates.{proofs.Rounds.{from_after, rests_after}, specs.Rounds.{none, refused, round}}
use Rattle.example_backup.proofs.deadline.copy_within.Goals as goal

pub loop-try-init : goal.loop-try-init
loop-try-init g c = (c.requires.from, c.requires.rests, none)

pub copy_and_thaw-requires-clause-rests : goal.copy_and_thaw-requires-clause-rests
copy_and_thaw-requires-clause-rests g c = rests_after refl c.loop-try.invariant.1 c.freeze_within.ensures.replies

pub returns-in-Ok-clause-copied : goal.returns-in-Ok-clause-copied
returns-in-Ok-clause-copied g c =
    on_ok_weaker c.copy_and_thaw.result
    (λ copied. round c.loop-try.invariant.2
    (record { frozen = c.freeze_within.new.self; froze = c.in-Ok.ensures.replies; copied = copied })) c.copy_and_thaw.ensures.copied

pub loop-try-preserved : goal.loop-try-preserved
loop-try-preserved g c = (
  from_after c.args.gates.now c.freeze_within.ensures.replies c.loop-try.invariant.0,
  rests_after refl c.loop-try.invariant.1 c.freeze_within.ensures.replies,
  refused c.loop-try.invariant.2 c.in-Err-Hook-eq110.ensures.replies,
)

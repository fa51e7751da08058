-- each step goes on from what the one before it left
use Rattle.vfs_gates.proofs.Prelude.{BufferWords, LoadsStage, Locks, arith, at_snapshot, refl, still_stands, sym, words_in, ◌≡◌}
use Rattle.gate_steps.proofs.call_events.Leading.{led_to}
use Rattle.vfs_gates.proofs.Loading.{is_frozen, lock_free, noted_as, noted_on, noted_to, unnoted}
use Rattle.vfs_gates.proofs.snapshots.take_snapshot.Goals as goal

pub returns-then-taken-ne0 : goal.returns-then-taken-ne0
returns-then-taken-ne0 c =
    noted_as (λ (r : BufferWords) were. (were, were))
    (noted_to (sym c.leave.ensures)
    (unnoted {Were = λ r. r ≡ words_in c.args.buffers.now} (at_snapshot c.args.snapshot Locks) c.find_first-taken.result (λ r. refl) refl
    c.find_first-taken.ensures.led c.find_first-taken.ensures.items c.requires.stands))

pub find-stage-requires-clause-stands : goal.find-stage-requires-clause-stands
find-stage-requires-clause-stands c =
    still_stands (led_to (lock_free c.args.snapshot c.find_first-taken.result (omega arith)) c.find_first-taken.ensures.led) c.requires.stands

pub returns-then-stage-ne-FROZEN : goal.returns-then-stage-ne-FROZEN
returns-then-stage-ne-FROZEN c =
    let locked = noted_to (lock_free c.args.snapshot c.find_first-taken.result (omega arith))
    (unnoted {Were = λ r. r ≡ words_in c.args.buffers.now} (at_snapshot c.args.snapshot Locks) c.find_first-taken.result (λ r. refl) refl
    c.find_first-taken.ensures.led c.find_first-taken.ensures.items c.requires.stands) in
    noted_as (λ (r : BufferWords) were. (were, were))
    (noted_on locked (λ r were. were)
    (noted_to (sym c.leave-then-stage-ne-FROZEN.ensures)
    (unnoted {Were = λ r. r ≡ words_in c.args.buffers.now} (at_snapshot c.args.snapshot LoadsStage) c.find-stage.result (λ r. refl) refl
    c.find-stage.ensures.led c.find-stage.ensures.items (still_stands locked.led c.requires.stands))))

pub load_tree-requires-clause-stands : goal.load_tree-requires-clause-stands
load_tree-requires-clause-stands c =
    let locked = led_to (lock_free c.args.snapshot c.find_first-taken.result (omega arith)) c.find_first-taken.ensures.led in
    still_stands (led_to (is_frozen c.args.snapshot c.find-stage.result (omega arith)) c.find-stage.ensures.led) (still_stands locked c.requires.stands)

pub returns : goal.returns
returns c =
    let locked = noted_to (lock_free c.args.snapshot c.find_first-taken.result (omega arith))
    (unnoted {Were = λ r. r ≡ words_in c.args.buffers.now} (at_snapshot c.args.snapshot Locks) c.find_first-taken.result (λ r. refl) refl
    c.find_first-taken.ensures.led c.find_first-taken.ensures.items c.requires.stands) in
    noted_on locked (λ r were. were)
    (noted_on (noted_to (is_frozen c.args.snapshot c.find-stage.result (omega arith))
    (unnoted {Were = λ r. r ≡ words_in c.args.buffers.now} (at_snapshot c.args.snapshot LoadsStage) c.find-stage.result (λ r. refl) refl
    c.find-stage.ensures.led c.find-stage.ensures.items (still_stands locked.led c.requires.stands))) (λ r were. were) c.load_tree.ensures)

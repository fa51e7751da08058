-- each step of the line goes on from what the one before it left
use Rattle.call_ends.proofs.Prelude.{Go, Ok, Writes, ap, arith, led_on, led_once, led_to, refl, seated_stands, stands_from, still_stands, sym}
use Rattle.composite_ops.specs.declared.write_access.phases.WritePhase.{WritePhase}
use Rattle.call_ends.{proofs.Entering.{led_entered, led_idle, led_sync}, specs.Paths.of_write}
use Rattle.call_ends.proofs.writes.take_write.Goals as goal

pub find_first-section-requires-clause-stands : goal.find_first-section-requires-clause-stands
find_first-section-requires-clause-stands c =
    stands_from (ap (λ (at : WritePhase). Go (Writes at)) c.taking_at-phase.ensures) c.requires

pub find-found-requires-clause-stands : goal.find-found-requires-clause-stands
find-found-requires-clause-stands c =
    still_stands (led_entered c.args.mount c.args.cpu c.args.task c.find_first-section.result c.taking_at-phase.ensures
    c.taking_at-phase-2.ensures c.find_first-section.ensures.led) c.requires

pub returns-then-found-ne0 : goal.returns-then-found-ne0
returns-then-found-ne0 c =
    led_to (ap (λ n. of_write n) (sym c.leave_at_sync.ensures))
    (led_sync c.args.mount c.args.cpu c.args.task c.find_first-section.result c.find-found.result c.taking_at-phase.ensures
    c.taking_at-phase-2.ensures c.find_first-section.ensures.led c.find-found.ensures.led)

pub step_once-next-requires : goal.step_once-next-requires
step_once-next-requires c =
    let idle = led_idle c.args.mount c.args.cpu c.args.task c.find_first-section.result c.find-found.result c.taking_at-phase.ensures
    c.taking_at-phase-2.ensures (omega arith) c.taking_at-phase-3.ensures c.find_first-section.ensures.led c.find-found.ensures.led in
    still_stands idle c.requires

pub step_if_at-next-requires : goal.step_if_at-next-requires
step_if_at-next-requires c =
    let idle = led_idle c.args.mount c.args.cpu c.args.task c.find_first-section.result c.find-found.result c.taking_at-phase.ensures
    c.taking_at-phase-2.ensures (omega arith) c.taking_at-phase-3.ensures c.find_first-section.ensures.led c.find-found.ensures.led in
    seated_stands c.step_once-next.ensures.seated (still_stands idle c.requires)

pub want_then-next-requires : goal.want_then-next-requires
want_then-next-requires c =
    let idle = led_idle c.args.mount c.args.cpu c.args.task c.find_first-section.result c.find-found.result c.taking_at-phase.ensures
    c.taking_at-phase-2.ensures (omega arith) c.taking_at-phase-3.ensures c.find_first-section.ensures.led c.find-found.ensures.led in
    still_stands c.step_if_at-next.ensures (seated_stands c.step_once-next.ensures.seated (still_stands idle c.requires))

pub returns-then-is_granted : goal.returns-then-is_granted
returns-then-is_granted c =
    let idle = led_idle c.args.mount c.args.cpu c.args.task c.find_first-section.result c.find-found.result c.taking_at-phase.ensures
    c.taking_at-phase-2.ensures (omega arith) c.taking_at-phase-3.ensures c.find_first-section.ensures.led c.find-found.ensures.led in
    led_to (ap (λ n. of_write n) (c.is_granted.ensures c.if-is_granted.true))
    (led_on idle
    (led_on (led_once (Ok tt) refl c.step_once-next.ensures.seated c.step_once-next.ensures.asks)
    (led_on c.step_if_at-next.ensures c.want_then-next.ensures)))

pub returns : goal.returns
returns c =
    let idle = led_idle c.args.mount c.args.cpu c.args.task c.find_first-section.result c.find-found.result c.taking_at-phase.ensures
    c.taking_at-phase-2.ensures (omega arith) c.taking_at-phase-3.ensures c.find_first-section.ensures.led c.find-found.ensures.led in
    led_on idle
    (led_on (led_once (Ok tt) refl c.step_once-next.ensures.seated c.step_once-next.ensures.asks)
    (led_on c.step_if_at-next.ensures c.want_then-next.ensures))

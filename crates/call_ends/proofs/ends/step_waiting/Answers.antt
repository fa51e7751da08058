-- each step goes on from what the one before it left
use Rattle.call_ends.proofs.Prelude.{Go, None, Op, SeatedTask, Some, Wait, ap, map_next, refl, seated_stands, subst, sym, ℕ, ◌∙◌, ◌≡◌}
use Rattle.std.proofs.Common.{◌+◌}
use Rattle.gate_steps.proofs.call_events.Leading.{seated_as, seated_nowhere, seated_on, stands_as}
use Rattle.gate_steps.specs.call_events.{Asking.{OpAfterStepAsking, OpUnderWayAsking}, Led.{StaysSeated, seated_at}, Waited.counted}
use Rattle.gate_world.specs.Views.{phase_after}
use Rattle.call_ends.proofs.{Waited.{going_on, one_more, replied, waiting_on}, ends.step_waiting.Goals.{in-Go, in-Wait}}
use Rattle.call_ends.proofs.ends.step_waiting.Goals as goal

pub loop-init : goal.loop-init
loop-init g c = record {
  next = tt;
  finite = tt;
  seated = seated_nowhere c.args.gates.now (map_next g.P.PendingOp.as_phase c.args.begun) c.args.accesses.now c.args.seat.now;
  went = λ of start before went. (0, refl, went);
}

pub step_asking-after-requires : goal.step_asking-after-requires
step_asking-after-requires g c =
    let at : phase_after (map_next g.P.PendingOp.as_phase c.loop.next) ≡ Some (g.P.PendingOp.as_phase c.match-next-2.under_way) =
    elim c.match-next-2.branch [
      | in-Go w ↦ ap (λ n. phase_after (map_next g.P.PendingOp.as_phase n)) w.in-Go.is ∙ ap (λ u. Some (g.P.PendingOp.as_phase u)) (sym w.under_way-is)
      | in-Wait w ↦ ap (λ n. phase_after (map_next g.P.PendingOp.as_phase n)) w.in-Wait.is ∙ ap (λ u. Some (g.P.PendingOp.as_phase u)) (sym w.under_way-is)
    ] in
    stands_as at (seated_stands c.loop.invariant.seated c.requires)

pub go_on_in_line-next-requires : goal.go_on_in_line-next-requires
go_on_in_line-next-requires g c =
    let at : phase_after (map_next g.P.PendingOp.as_phase c.loop.next) ≡ Some (g.P.PendingOp.as_phase c.match-next-2.under_way) =
    elim c.match-next-2.branch [
      | in-Go w ↦ ap (λ n. phase_after (map_next g.P.PendingOp.as_phase n)) w.in-Go.is ∙ ap (λ u. Some (g.P.PendingOp.as_phase u)) (sym w.under_way-is)
      | in-Wait w ↦ ap (λ n. phase_after (map_next g.P.PendingOp.as_phase n)) w.in-Wait.is ∙ ap (λ u. Some (g.P.PendingOp.as_phase u)) (sym w.under_way-is)
    ] in
    seated_stands c.step_asking-after.ensures.seated (stands_as at (seated_stands c.loop.invariant.seated c.requires))

pub loop-preserved : goal.loop-preserved
loop-preserved g c =
    let now = c.loop.invariant in
    let asked = c.step_asking-after.ensures in
    let left = c.go_on_in_line-next.ensures in
    let at : phase_after (map_next g.P.PendingOp.as_phase c.loop.next) ≡ Some (g.P.PendingOp.as_phase c.match-next-2.under_way) =
    elim c.match-next-2.branch [
      | in-Go w ↦ ap (λ n. phase_after (map_next g.P.PendingOp.as_phase n)) w.in-Go.is ∙ ap (λ u. Some (g.P.PendingOp.as_phase u)) (sym w.under_way-is)
      | in-Wait w ↦ ap (λ n. phase_after (map_next g.P.PendingOp.as_phase n)) w.in-Wait.is ∙ ap (λ u. Some (g.P.PendingOp.as_phase u)) (sym w.under_way-is)
    ] in
    let goes : (of : Op) (start : SeatedTask) (before : _) → OpAfterStepAsking g.H.TimedHooks.answers 0 of start before (map_next g.P.PendingOp.as_phase c.args.begun)
    (seated_at c.args.gates.now None (map_next g.P.PendingOp.as_phase c.args.begun) c.args.seat.now)
    c.args.hooks.now → (waits : ℕ) × (c.match-next-2.waited ≡ counted waits) × OpUnderWayAsking g.H.TimedHooks.answers waits of start before
    (seated_at c.args.gates.now None (Go (g.P.PendingOp.as_phase c.match-next-2.under_way)) c.loop.seat) c.loop.hooks =
    λ of start before began.
    let had = now.went of start before began in
    elim c.match-next-2.branch [
      | in-Go w ↦ (
        had.0,
        w.waited-is ∙ had.1,
        going_on g.H.TimedHooks.answers had.0 (ap (λ n. map_next g.P.PendingOp.as_phase n) w.in-Go.is ∙ ap (λ u. Go (g.P.PendingOp.as_phase u)) (sym w.under_way-is)) had.2,
      )
      | in-Wait w ↦ (
        had.0 + 1,
        one_more had.0 c.loop.waited _ had.1 (w.waited-is ∙ w.saturating_add-waited.ensures),
        waiting_on g.H.TimedHooks.answers had.0 (ap (λ n. map_next g.P.PendingOp.as_phase n) w.in-Wait.is ∙ ap (λ u. Wait (g.P.PendingOp.as_phase u)) (sym w.under_way-is)) had.2,
      )
    ] in
    record {
      next = tt;
      finite = tt;
      seated = seated_on (seated_as {d = Go (g.P.PendingOp.as_phase c.match-next-2.under_way)} at now.seated) (seated_on asked.seated left.seated);
      went = λ of start before began.
          let had = goes of start before began in
          (had.0, had.1, left.went of start before had.0 (asked.went of start before had.0 had.2));
    }

pub returns-in-Done-clause-seated : goal.returns-in-Done-clause-seated
returns-in-Done-clause-seated g c =
    subst (λ n. StaysSeated c.args.gates.now None (map_next g.P.PendingOp.as_phase c.args.begun) c.args.accesses.now c.args.seat.now
    (map_next g.P.PendingOp.as_phase n) c.loop.accesses c.loop.seat) c.in-Done.is c.loop.invariant.seated

pub returns-in-Done-clause-called : goal.returns-in-Done-clause-called
returns-in-Done-clause-called g c of start before goes =
    let had = c.loop.invariant.went of start before goes in
    replied g.H.TimedHooks.answers had.0 c.loop.waited had.1 (ap (λ n. map_next g.P.PendingOp.as_phase n) c.in-Done.is) had.2

use Rattle.std.{proofs.Common.{ap, arith, length, refl, ◌∙◌, ◌≡◌}, specs.List.slice_range}
use Rattle.schedule_lines.proofs.bytes.Blocks.{pending_grow, written_whole}
use Rattle.schedule_lines.proofs.lines.Input.read.Goals as goal

pub returns-clause-grows : goal.returns-clause-grows
returns-clause-grows g c =
    let room = c.make_room.ensures in
    let input = c.make_room.new.self in
    let whole : input.bytes.len ≡ length c.read_behind.new.block = omega (arith, c.read_behind.auto.block, c.as_mut_slice.ensures.len) in
    pending_grow _ _ _ _ c.as_mut_slice.result.now c.read_behind.new.block _ input.start input.end c.in_ok-count.count
    c.in_ok-count.ensures.grows
    refl
    room.start
    (ap (λ b. slice_range b input.start input.end) c.as_mut_slice.ensures.value ∙ room.pending)
    (written_whole _ c.read_behind.new.block _ whole)

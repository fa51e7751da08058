-- a taking and a return go on as what they are
use Rattle.call_ends.proofs.Prelude.{Go, Led, Op, Phase, Some, Writes, ap, false, led_from, led_to, stands_from, subst, sym, true, ◌∙◌, ◌≡◌}
use Rattle.std.proofs.Common.{Option}
use Rattle.gate_steps.specs.call_events.Led.{Stands}
use Rattle.call_ends.{proofs.Begun.{IsFirstWrite, none_else, write_begun}, specs.Paths.{done_or, of_write}}
use Rattle.call_ends.proofs.writes.write_in_line.Goals as goal

-- what holds of a taking that begins holds of it by its parts
first_as : (P : Option Op → Phase → Type 0) {b c : Option Op} {p q : Phase} → b ≡ c → p ≡ q → P b p → P c q
first_as P begins is = subst (λ (z : Option Op × Phase). P z.0 z.1) (λ i. (begins i, is i))

pub give_in_line-requires : goal.give_in_line-requires
give_in_line-requires c = stands_from (ap (λ p. Go (Writes p)) (sym c.in-Drops.is)) c.requires

pub returns-in-Drops : goal.returns-in-Drops
returns-in-Drops c = led_from (ap (λ p. Go (Writes p)) (sym c.in-Drops.is)) c.give_in_line.ensures

pub take_write-requires : goal.take_write-requires
take_write-requires c =
    let begun = subst (λ p. IsFirstWrite c.args.op p) c.in-Takes.is (write_begun c.requires.agrees) in
    first_as (λ b p. Stands c.args.gates.now b (Go p) c.args.accesses.now c.args.seat.now)
    (ap (λ (o : Op). Some o) begun.0) (ap (λ p. Writes p) (c.in-Takes.is ∙ begun.1)) c.requires

pub returns-then-take_write : goal.returns-then-take_write
returns-then-take_write c =
    let begun = subst (λ p. IsFirstWrite c.args.op p) c.in-Takes.is (write_begun c.requires.agrees) in
    first_as (λ b p. Led c.args.gates.now b (Go p) c.args.accesses.now c.args.seat.now (of_write (done_or true c.take_write.new.rest))
    c.take_write.new.accesses c.take_write.new.seat) (sym (ap (λ (o : Op). Some o) begun.0)) (sym (ap (λ p. Writes p) (c.in-Takes.is ∙ begun.1)))
    (led_to (ap (λ b. of_write (done_or b c.take_write.new.rest)) c.if-take_write.true) c.take_write.ensures)

pub returns-else-take_write : goal.returns-else-take_write
returns-else-take_write c =
    let begun = subst (λ p. IsFirstWrite c.args.op p) c.in-Takes.is (write_begun c.requires.agrees) in
    first_as (λ b p. Led c.args.gates.now b (Go p) c.args.accesses.now c.args.seat.now (of_write (done_or false c.take_write.new.rest))
    c.take_write.new.accesses c.take_write.new.seat) (sym (ap (λ (o : Op). Some o) begun.0)) (sym (ap (λ p. Writes p) (c.in-Takes.is ∙ begun.1)))
    (led_to (ap (λ b. of_write (done_or b c.take_write.new.rest)) c.if-take_write.false) c.take_write.ensures)

pub unreachable-requires : goal.unreachable-requires
unreachable-requires c = none_else c.args.op c.args.phase (write_begun c.requires.agrees) c.in_default.not-Takes c.in_default.not-Drops

use Rattle.gate_steps.proofs.meeting.meet.Given as goal

abbrev pub ghosts-meet_as : goal.ghosts-meet_as
ghosts-meet_as a = record { mine = a.one.now.me.0.items; others = a.two.now.me.0.items }

use Rattle.gate_steps.proofs.steps.touch.Given as goal

abbrev pub ghosts-touch_at : goal.ghosts-touch_at
ghosts-touch_at g a = record {
  config = a.shared.now.key;
  begins = a.begins;
  phase = g.P.PendingOp.as_phase a.under_way;
  hook = a.hook;
}

use Rattle.gate_steps.proofs.Prelude.{None, Ok}
use Rattle.{gate_world.specs.declared.work.Phase.TheVariants.Mounts, mount_counts.specs.declared.phases.MountPhase.TheVariants.Drop as Drops}
use Rattle.gate_steps.proofs.meeting.meet_as.Given as goal

abbrev pub ghosts-look_as : goal.ghosts-look_as
ghosts-look_as g a = record {
  config = a.shared.now.key;
  begins = None;
  phase = Mounts (Drops 0 0);
  hook = Ok tt;
}

use Rattle.freeze_laws.proofs.levels.Operations.{callbacks_are_there, down_writes_are_there, up_writes_are_there}
use Rattle.freeze_laws.proofs.levels.ReadOperations.{down_reads_are_there}
use Rattle.freeze_laws.proofs.levels.operations_are_events_of_their_level.Goals as goal

pub returns : goal.returns
returns c = record {
  down_reads = down_reads_are_there;
  down_writes = down_writes_are_there;
  up_writes = up_writes_are_there;
  callbacks = callbacks_are_there;
}

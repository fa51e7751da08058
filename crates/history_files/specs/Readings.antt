-- What a record has read so far.
use Rattle.history_files.specs.{Records.{Reading}, declared.records.Record.{Record}}

abbrev pub read_in : Record → Reading
read_in it = record { markers = it.markers.items; lines = it.notes.lines.items; begun = it.begun.items }

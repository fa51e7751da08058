-- what both ends of the channel share are the gates that are passed
use Rattle.example_message.proofs.main.Given as goal

abbrev pub ghosts-work : goal.ghosts-work
ghosts-work g a = record { table = a.gates.now.words.table.shared.table_id; config = a.gates.now.words.config }

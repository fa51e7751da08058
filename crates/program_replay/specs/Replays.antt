-- How a replay ends that was asked for.
use Rattle.std.specs.{Borrow.Bor, Io.KnownBytes.Keeps, Prelude.{Bool, Err, List, None, Ok, Option, Result, Some, false, true, ℕ, ◌≡◌}}
use Rattle.command_line.specs.declared.words.ReplayForm.{ReplayForm, TheVariants.Plain}
use Rattle.exit_status.specs.{Endings.of_file, declared.ends.ProgramEnding.{ProgramEnding, TheVariants.{Done, DoneOverGates, Refused, Shown}}}
use Rattle.{schedule_lines.specs.declared.bytes.replay_faults.ReplayFault.ReplayFault, transcripts.specs.Replayed.Replayed}

-- how a replay ends that was done, in this form and over these gates, of standard input
abbrev pub done_in : ReplayForm → Bool → ProgramEnding
done_in Plain true = DoneOverGates
done_in Plain false = Done
done_in _ over_gates = Shown

-- the same, of standard input or of a file
abbrev pub done_of : Option (Bor (List ℕ)) → ProgramEnding → ProgramEnding
done_of None ending = ending
done_of (Some file) ending = of_file ending

-- how a plain replay ends, by its answer, over the core or over the gates that threads use
abbrev pub ending_of : (over_gates : Bool) → Result (Unit {0}) ReplayFault → ProgramEnding
ending_of over_gates (Ok done) = done_in Plain over_gates
ending_of over_gates (Err fault) = Refused

-- A plain replay of standard input: what it read, wrote and answered is a replay's, and the ending says which answer it was.
pub record EndsReplayed (over_gates : Bool) (input left held holds : Option (List ℕ)) (ending : ProgramEnding) : Type 0 where
  pub answer : Result (Unit {0}) ReplayFault
  pub replayed : Replayed input left held holds answer
  pub ends : ending ≡ ending_of over_gates answer

-- A plain replay of a file, whose bytes no contract tells.
pub record EndsReplayedFile (over_gates : Bool) (held holds : Option (List ℕ)) (ending : ProgramEnding) : Type 0 where
  pub input : Option (List ℕ)
  pub left : Option (List ℕ)
  pub answer : Result (Unit {0}) ReplayFault
  pub replayed : Replayed input left held holds answer
  pub ends : ending ≡ of_file (ending_of over_gates answer)

-- A plain replay of standard input that was named `-`: it is that of standard input, and ends as one of a file.
pub record EndsReplayedNamed (over_gates : Bool) (input left held holds : Option (List ℕ)) (ending : ProgramEnding) : Type 0 where
  pub unnamed : ProgramEnding
  pub replayed : EndsReplayed over_gates input left held holds unnamed
  pub ends : ending ≡ of_file unnamed

-- nothing was read or written, and the ending is a refusal
pub record IsRefusedUnread (input left held holds : Option (List ℕ)) (ending : ProgramEnding) : Type 0 where
  pub unread : Keeps input left
  pub unwritten : Keeps held holds
  pub ends : ending ≡ Refused
